-- What the tests of a line tell, each way.
use Rattle.std.proofs.Common.{◌≡◌, ℕ, zero, suc, ◌<◌, Bool, true, false, not, ◌||◌, eqb, leb, List, [], ◌∷◌, length, is_some as option_is_some, Some, None, Decides, Option, sym, refl, ap, ◌∙◌, subst, arith}
use Rattle.std.specs.List.{AllByRecursion, slice_get}
use Rattle.std.proofs.lemmas.Bool.{and_parts, and_from, or_left, or_right, leb-true, le-leb, eqb-true, eq-eqb}
use Rattle.std.proofs.lemmas.Option.{slice_get_within}
use Rattle.std.proofs.lemmas.Bool.Decides.{Decides-like, Decides-below_and}
use Rattle.std.proofs.ByRecursion.{Decides-by_and}
use Rattle.grammar.specs.Tests.{every, some, every_below, and_then}
use Rattle.grammar.specs.Model.{Symbol, Equation}
use Rattle.grammar.specs.Scopes.{Scope, symbol_at, visits_at, attributes_in, attributes_at, attribute_at, flows, defined_flow, taken_flow, defines, argument_there, argument_taken, instruction_there}
use Rattle.grammar.specs.declared.terms.Flow.{Flow}
use Rattle.grammar.specs.declared.terms.Attribute.{Attribute}
use Rattle.grammar.specs.declared.terms.Argument.{Argument}
use Rattle.grammar.specs.declared.terms.Argument.TheVariants.{Datum, Of}
use Rattle.grammar.specs.declared.terms.Instruction.{Instruction}
use Rattle.grammar.specs.declared.terms.Instruction.TheVariants.{Evaluate, Visit, Return}
use Rattle.plans.specs.PlanTests.{targets}
use Rattle.lines.specs.Faults.{has_target, right_visit, complete}
use Rattle.plans.proofs.Attributes.{takes_decides}
use Rattle.sheet.specs.Meaning.{Taken, There}

-- tests over lists
pub decides_every : {X : Type 0} (p : X → Bool) (P : X → Type 0) → ((x : X) → Decides (p x) (P x)) → (xs : List X) → Decides (every p xs) (AllByRecursion P xs)
decides_every p P each xs = Decides-by_and p P (every p) each refl (λ _ _. refl) xs

some_found : {X : Type 0} (p : X → Bool) (xs : List X) → some p xs ≡ true → (k : ℕ) × (x : X) × (slice_get xs k ≡ Some x) × (p x ≡ true)
some_found p [] h = absurd (grind arith)
some_found p (x ∷ xs) h = by (p x) refl h (λ k. some_found p xs k)
  where
    by : (t : Bool) → p x ≡ t → (t || some p xs) ≡ true → (some p xs ≡ true → (k : ℕ) × (y : _) × (slice_get xs k ≡ Some y) × (p y ≡ true)) → (k : ℕ) × (y : _) × (slice_get (x ∷ xs) k ≡ Some y) × (p y ≡ true)
    by true is e f = (0, x, refl, is)
    by false is e f = let r = f e in (suc r.0, r.1, r.2, r.3)

some_there : {X : Type 0} (p : X → Bool) (xs : List X) (k : ℕ) (x : X) → slice_get xs k ≡ Some x → p x ≡ true → some p xs ≡ true
some_there p [] k x e h = absurd (grind arith)
some_there p (y ∷ xs) zero x e h = let is : y ≡ x = cc in or_left (p y) (some p xs) (ap p is ∙ h)
some_there p (y ∷ xs) (suc k) x e h = or_right (p y) (some p xs) (some_there p xs k x e h)

pub every_from : {X : Type 0} (p : X → Bool) (P : X → Type 0) → ((x : X) → P x → p x ≡ true) → (xs : List X) → AllByRecursion P xs → every p xs ≡ true
every_from p P f [] h = refl
every_from p P f (x ∷ xs) h = and_from (p x) (every p xs) (f x h.0) (every_from p P f xs h.1)

-- tests of what is there
pub is_some : {X : Type 0} (o : Option X) → option_is_some o ≡ true → (x : X) × (o ≡ Some x)
is_some None h = absurd (grind arith)
is_some (Some x) h = (x, refl)

pub then_some : {X Y : Type 0} (o : Option X) (f : X → Option Y) (y : Y) → and_then o f ≡ Some y → (x : X) × (o ≡ Some x) × (f x ≡ Some y)
then_some None f y e = absurd (grind arith)
then_some (Some x) f y e = (x, refl, e)

flows_some : (f : Flow) (o : Option Attribute) → flows f o ≡ true → option_is_some o ≡ true
flows_some f None h = h
flows_some f (Some x) h = refl

pub defined_there : (σ : Scope) (o a : ℕ) → defines σ o a ≡ true → option_is_some (attribute_at σ o a) ≡ true
defined_there σ o a h = flows_some (defined_flow o) (attribute_at σ o a) h

pub taken_there : (σ : Scope) (x : Argument) → Taken σ x → argument_there σ x ≡ true
taken_there σ Datum h = refl
taken_there σ (Of o a) h = flows_some (taken_flow o) (attribute_at σ o a) ((takes_decides σ o a).1 h)

pub decides_taken : (σ : Scope) (x : Argument) → Decides (argument_taken σ x) (Taken σ x)
decides_taken σ Datum = ((λ h. tt), (λ h. refl))
decides_taken σ (Of o a) = takes_decides σ o a

-- instructions
there_from : (σ : Scope) (x : Instruction) → right_visit x ≡ true → instruction_there σ x ≡ true → There σ x
there_from σ (Evaluate o a) r h = is_some (attribute_at σ o a) h
there_from σ (Visit k j) r h = let p = and_parts (leb 1 j) (leb j (visits_at σ k)) h in (leb-true 1 k r, leb-true 1 j p.0, leb-true j (visits_at σ k) p.1)
there_from σ (Return j) r h = let p = and_parts (leb 1 j) (leb j (visits_at σ 0)) h in (leb-true 1 j p.0, leb-true j (visits_at σ 0) p.1)

there_right : (σ : Scope) (x : Instruction) → There σ x → right_visit x ≡ true
there_right σ (Evaluate o a) h = refl
there_right σ (Visit k j) h = le-leb 1 k h.0
there_right σ (Return j) h = refl

there_is : (σ : Scope) (x : Instruction) → There σ x → instruction_there σ x ≡ true
there_is σ (Evaluate o a) h = ap option_is_some h.1
there_is σ (Visit k j) h = and_from (leb 1 j) (leb j (visits_at σ k)) (le-leb 1 j h.1) (le-leb j (visits_at σ k) h.2)
there_is σ (Return j) h = and_from (leb 1 j) (leb j (visits_at σ 0)) (le-leb 1 j h.0) (le-leb j (visits_at σ 0) h.1)

pub all_there : (σ : Scope) (is : List Instruction) → every right_visit is ≡ true → every (instruction_there σ) is ≡ true → AllByRecursion (There σ) is
all_there σ [] r h = tt
all_there σ (x ∷ is) r h =
    let p = and_parts (right_visit x) (every right_visit is) r in
    let q = and_parts (instruction_there σ x) (every (instruction_there σ) is) h in
    (there_from σ x p.0 q.0, all_there σ is p.1 q.1)

pub all_right : (σ : Scope) (is : List Instruction) → AllByRecursion (There σ) is → every right_visit is ≡ true
all_right σ is h = every_from right_visit (There σ) (there_right σ) is h

pub all_is : (σ : Scope) (is : List Instruction) → AllByRecursion (There σ) is → every (instruction_there σ) is ≡ true
all_is σ is h = every_from (instruction_there σ) (There σ) (there_is σ) is h

-- an equation for attribute a of occurrence o
pub record TargetAt (es : List Equation) (o a : ℕ) : Type 0 where
  pub place : ℕ
  pub equation : Equation
  pub stands : slice_get es place ≡ Some equation
  pub occurrence_is : equation.occurrence ≡ o
  pub attribute_is : equation.attribute ≡ a

pub decides_target : (es : List Equation) (o a : ℕ) → Decides (has_target es o a) (TargetAt es o a)
decides_target es o a = (found, there)
  where
    found : has_target es o a ≡ true → TargetAt es o a
    found h =
        let r = some_found (λ e. targets e o a) es h in
        let p = and_parts (eqb r.1.occurrence o) (eqb r.1.attribute a) r.3 in
        record { place = r.0; equation = r.1; stands = r.2; occurrence_is = eqb-true _ _ p.0; attribute_is = eqb-true _ _ p.1 }

    there : TargetAt es o a → has_target es o a ≡ true
    there t = some_there (λ e. targets e o a) es t.place t.equation t.stands (and_from _ _ (eq-eqb _ _ t.occurrence_is) (eq-eqb _ _ t.attribute_is))

-- an attribute that is there, with its symbol
pub record Placed (σ : Scope) (o a : ℕ) (x : Attribute) : Type 0 where
  pub number : ℕ
  pub symbol : Symbol
  pub occurs : slice_get σ.occurrences o ≡ Some number
  pub names : slice_get σ.symbols number ≡ Some symbol
  pub has : slice_get symbol.attributes a ≡ Some x

pub placed : (σ : Scope) (o a : ℕ) (x : Attribute) → attribute_at σ o a ≡ Some x → Placed σ o a x
placed σ o a x e =
    let p = then_some (symbol_at σ o) (λ s. slice_get s.attributes a) x e in
    let q = then_some (slice_get σ.occurrences o) (λ y. slice_get σ.symbols y) p.0 p.1 in
    record { number = q.0; symbol = p.0; occurs = q.1; names = q.2; has = p.2 }

-- a defined attribute is among those that are gone through
defined_below : (σ : Scope) (o a : ℕ) → defines σ o a ≡ true → (o < length σ.occurrences) × (a < attributes_at σ o)
defined_below σ o a h =
    let s = is_some (attribute_at σ o a) (defined_there σ o a h) in
    let p = placed σ o a s.0 s.1 in
    let at : symbol_at σ o ≡ Some p.symbol = ap (λ n. and_then n (λ y. slice_get σ.symbols y)) p.occurs ∙ p.names in
    (slice_get_within σ.occurrences o p.number p.occurs, subst (λ n. a < n) (sym (ap attributes_in at)) (slice_get_within p.symbol.attributes a s.0 p.has))

-- each attribute that the rule defines has an equation
abbrev pub Complete : Scope → List Equation → Type 0
Complete σ es = (o a : ℕ) → defines σ o a ≡ true → TargetAt es o a

decides_unless : {P : Type 0} (d t : Bool) → Decides t P → Decides (not d || t) (d ≡ true → P)
decides_unless true t h = ((λ k e. h.0 k), (λ k. h.1 (k refl)))
decides_unless false t h = ((λ k e. absurd (grind arith)), (λ k. refl))

pub decides_complete : (σ : Scope) (es : List Equation) → Decides (complete σ es) (Complete σ es)
decides_complete σ es =
    Decides-like (complete σ es) (λ f o a h. let b = defined_below σ o a h in f o b.0 a b.1 h) (λ f o k a l h. f o a h)
    (Decides-below_and (λ o. every_below (unless o) (attributes_at σ o)) (λ o. (a : ℕ) → a < attributes_at σ o → defines σ o a ≡ true → TargetAt es o a) (every_below (λ o. every_below (unless o) (attributes_at σ o))) (λ o. inner o) refl (λ _. refl) (length σ.occurrences))
  where
    unless : ℕ → ℕ → Bool
    unless o a = not (defines σ o a) || has_target es o a

    inner : (o : ℕ) → Decides (every_below (unless o) (attributes_at σ o)) ((a : ℕ) → a < attributes_at σ o → defines σ o a ≡ true → TargetAt es o a)
    inner o = Decides-below_and (unless o) (λ a. defines σ o a ≡ true → TargetAt es o a) (every_below (unless o)) (λ a. decides_unless (defines σ o a) (has_target es o a) (decides_target es o a)) refl (λ _. refl) (attributes_at σ o)
