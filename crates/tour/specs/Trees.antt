-- Trees of nodes by place, their instances, and what the visits of a tree list.
use Rattle.std.specs.Prelude.{◌≡◌, ℕ, zero, suc, ◌<◌, Bool, ◌&&◌, List, [], ◌∷◌, ◌++◌, length, ◌==◌, slice_index, slice_index_or}
use Rattle.grammar.specs.Model.{Grammar, Rule}
use Rattle.grammar.specs.declared.terms.Instruction.{Instruction}
use Rattle.grammar.specs.declared.terms.Instruction.TheVariants.{Evaluate, Visit, Return}
use Rattle.tour.specs.Runs.{In}
use Rattle.tour.specs.Rules.{rule, symbol, Takes}

-- an instance is an attribute at a place
abbrev pub Instance : Type 0
Instance = ℕ × ℕ

abbrev pub same_instance : Instance → Instance → Bool
same_instance x y = x.0 == y.0 && x.1 == y.1

-- a row of trees: the first one's root with the code of its datum, its children, and the other trees
pub data Forest : Type 0 where
  none : Forest
  node : (place rule code : ℕ) → Forest → Forest → Forest

-- the places of the roots, and all places in preorder
abbrev pub places : Forest → List ℕ
places none = []
places (node p r c kids rest) = p ∷ places rest

abbrev pub places_in : Forest → List ℕ
places_in none = []
places_in (node p r c kids rest) = p ∷ (places_in kids ++ places_in rest)

-- the roots have rules of these symbols, and so on below
abbrev pub Agrees : Grammar → Forest → List ℕ → Type 0
Agrees σ none [] = Unit {0}
Agrees σ none (x ∷ xs) = ⊥
Agrees σ (node p r c kids rest) [] = ⊥
Agrees σ (node p r c kids rest) (x ∷ xs) = (r < length σ.rules) × ((rule σ r).left ≡ x) × Agrees σ kids (rule σ r).right × Agrees σ rest xs

-- n attributes of a place, from number i on, and the attributes of all places
abbrev pub row : ℕ → ℕ → ℕ → List Instance
row p i zero = []
row p i (suc n) = (p, i) ∷ row p (suc i) n

abbrev pub instances : Grammar → Forest → List Instance
instances σ none = []
instances σ (node p r c kids rest) = row p 0 (length (symbol σ (rule σ r).left).attributes) ++ (instances σ kids ++ instances σ rest)

-- a plan up to its first return, and behind it
abbrev pub up_to : List Instruction → List Instruction
up_to [] = []
up_to (Evaluate o a ∷ is) = Evaluate o a ∷ up_to is
up_to (Visit k j ∷ is) = Visit k j ∷ up_to is
up_to (Return j ∷ is) = []

abbrev pub behind : List Instruction → List Instruction
behind [] = []
behind (Evaluate o a ∷ is) = behind is
behind (Visit k j ∷ is) = behind is
behind (Return j ∷ is) = is

-- the part behind j returns, up to the next
abbrev pub part : ℕ → List Instruction → List Instruction
part zero is = up_to is
part (suc j) is = part j (behind is)

-- the part for visit j
abbrev pub segment : ℕ → List Instruction → List Instruction
segment zero is = []
segment (suc j) is = part j is

-- what an instruction lists, by the places of the occurrences and what their visits list
abbrev pub lists : (ℕ → ℕ) → (ℕ → ℕ → List Instance) → Instruction → List Instance
lists at visited (Evaluate o a) = (at o, a) ∷ []
lists at visited (Visit k j) = visited k j
lists at visited (Return j) = []

abbrev pub listed : (ℕ → ℕ) → (ℕ → ℕ → List Instance) → List Instruction → List Instance
listed at visited [] = []
listed at visited (i ∷ is) = lists at visited i ++ listed at visited is

-- the place of an occurrence: the node's own for the left one, its children's for the right ones
abbrev pub at_of : ℕ → List ℕ → ℕ → ℕ
at_of p ps o = slice_index (p ∷ ps) o

-- what the visits of an occurrence list: only right ones are visited
abbrev pub no_visit : ℕ → List Instance
no_visit j = []

abbrev pub visited_of : List (ℕ → List Instance) → ℕ → ℕ → List Instance
visited_of vs k = slice_index_or (no_visit ∷ vs) k no_visit

-- for each tree of a row what its visits list
abbrev pub tours : Grammar → Forest → List (ℕ → List Instance)
tours σ none = []
tours σ (node p r c kids rest) = (λ j. listed (at_of p (places kids)) (visited_of (tours σ kids)) (segment j (rule σ r).plan)) ∷ tours σ rest

-- each argument of an instance that a rule evaluates is one that the rule's equation for it names
abbrev pub Named : Rule → (ℕ → ℕ) → (Instance → List Instance) → Type 0
Named ρ at args =
    (o a : ℕ) (x : Instance) → In (Evaluate o a) ρ.plan → In x (args (at o, a)) →
    (p : ℕ) × (b : ℕ) × Takes ρ o a p b × (x ≡ (at p, b))

abbrev pub Arguments : Grammar → (Instance → List Instance) → Forest → Type 0
Arguments σ args none = Unit {0}
Arguments σ args (node p r c kids rest) = Named (rule σ r) (at_of p (places kids)) args × Arguments σ args kids × Arguments σ args rest
