-- Evaluation along a list of instances, step by step.
use Rattle.std.specs.Prelude.{◌≡◌, Bool, true, ◌⊎◌, ◌↔◌, List, [], ◌∷◌, ◌++◌, map, ◌≢◌}

-- x stands in the list
abbrev pub In : {X : Type 0} → X → List X → Type 0
In x [] = ⊥
In x (y ∷ ys) = (x ≡ y) ⊎ In x ys

-- no element stands twice
abbrev pub Apart : {X : Type 0} → List X → Type 0
Apart [] = Unit {0}
Apart (x ∷ xs) = (In x xs → ⊥) × Apart xs

-- where an argument comes from: the value of an instance, or a value given beforehand
pub data Source (I V : Type 0) : Type 0 where
  of : I → Source I V
  fixed : V → Source I V

-- what a source gives, by the values of the instances
abbrev pub read : {I V : Type 0} → (I → V) → Source I V → V
read v (of i) = v i
read v (fixed x) = x

-- the instances among sources
abbrev pub named : {I V : Type 0} → List (Source I V) → List I
named [] = []
named (of i ∷ xs) = i ∷ named xs
named (fixed x ∷ xs) = named xs

-- an equation for each instance: the sources of its arguments, and what is made of their values
pub record System (I V : Type 0) : Type 0 where
  -- the order in which instances are evaluated
  pub tour : List I
  pub sources : I → List (Source I V)
  pub apply : I → List V → V
  -- the instances that marks and consistency speak of: those of the tour and of what is held
  pub scope : List I

-- the instances that the equation of i takes
abbrev pub args : {I V : Type 0} → System I V → I → List I
args S i = named (S.sources i)

-- what the equation of i gives on these values
abbrev pub result : {I V : Type 0} → System I V → I → (I → V) → V
result S i v = S.apply i (map (read v) (S.sources i))

-- a value for each instance, and which are owed: to be evaluated again
pub record State (I V : Type 0) : Type 0 where
  pub value : I → V
  pub owed : I → Bool

-- each instance stands in the tour once, behind its arguments
pub record Ordered {I V : Type 0} (S : System I V) : Type 0 where
  pub covers : (i : I) → In i S.tour → In i S.scope
  pub once : Apart S.tour
  pub before : (xs ys : List I) (i a : I) → S.tour ≡ xs ++ i ∷ ys → In a (args S i) → In a xs

-- nothing in the list is owed
abbrev pub Idle : {I V : Type 0} → State I V → List I → Type 0
Idle {I} s xs = (j : I) → In j xs → s.owed j ≢ true

-- one step: the first owed instance of the tour is evaluated; it is owed no more, and if its value changed, those that
-- take it are
pub record Step {I V : Type 0} (S : System I V) (s : State I V) (i : I) (changed : Bool) (t : State I V) : Type 0 where
  pub front : List I
  pub back : List I
  pub place : S.tour ≡ front ++ i ∷ back
  pub first : Idle s front
  pub due : s.owed i ≡ true
  pub new : t.value i ≡ result S i s.value
  pub kept : (j : I) → (j ≢ i) → t.value j ≡ s.value j
  pub same : (changed ≢ true) → t.value i ≡ s.value i
  pub differs : changed ≡ true → t.value i ≢ s.value i
  pub marks :
      (j : I) → In j S.scope →
      (t.owed j ≡ true) ↔ (((j ≢ i) × (s.owed j ≡ true)) ⊎ ((changed ≡ true) × In i (args S j)))

-- the steps that evaluate these instances, one after the other
abbrev pub Run : {I V : Type 0} → System I V → State I V → List I → State I V → Type 0
Run S s [] u = s ≡ u
Run {I} {V} S s (i ∷ is) u = (t : State I V) × (c : Bool) × Step S s i c t × Run S t is u

-- what is not owed has its equation's result
abbrev pub Consistent : {I V : Type 0} → System I V → State I V → Type 0
Consistent {I} S s = (j : I) → In j S.scope → (s.owed j ≢ true) → s.value j ≡ result S j s.value

-- some argument of j has another value in u than in s
abbrev pub Moved : {I V : Type 0} → System I V → State I V → State I V → I → Type 0
Moved {I} S s u j = (a : I) × In a (args S j) × (u.value a ≢ s.value a)

-- the same values, and the same marks on all that marks speak of
pub record Alike {I V : Type 0} (S : System I V) (s t : State I V) : Type 0 where
  pub values : (j : I) → s.value j ≡ t.value j
  pub marks : (j : I) → In j S.scope → (s.owed j ≡ true) ↔ (t.owed j ≡ true)
