-- What the code of evaluation has to show.
use Rattle.std.proofs.Common.{◌≡◌, ℕ, zero, suc, ◌+◌, ◌*◌, ◌<◌, ◌≤◌, Bool, true, false, cond, not, ◌&&◌, eqb, ltb, ◌⊎◌, List, [], ◌∷◌, map, length, get_or, is_some, Some, None, Decides, MatchBool, MatchOption, Option, Bor, unwrap_or, sym, refl, ap, ap₂, ◌∙◌, subst, find, inl, inr, arith}
use Rattle.std.specs.Option.{option_map}
use Rattle.std.specs.List.{slice_get, AllByRecursion}
use Rattle.std.proofs.lemmas.Bool.{cases_order}
use Rattle.std.proofs.lemmas.Bool.Decides.{nat_tests}
use Rattle.std.proofs.ByRecursion.{All-get_or, All-weaker}
use Rattle.std.proofs.lemmas.List.{get_or_past}
use Rattle.grammar.specs.Model.{Grammar, Equation, Rule, Symbol}
use Rattle.grammar.specs.Rows.{equation_of}
use Rattle.grammar.specs.Rows.{EquationRow}
use Rattle.grammar.specs.Tests.{and_then}
use Rattle.grammar.specs.declared.refusal.PlanRule.TheVariants.{OneEvaluation}
use Rattle.grammar.specs.declared.terms.Argument.TheVariants.{Datum, Of}
use Rattle.grammar.specs.declared.terms.Instruction.TheVariants.{Evaluate}
use Rattle.places.specs.Places.{at, used, table, cell_of, value_at}
use Rattle.places.specs.Shape.{SoundPlaces}
use Rattle.places.specs.declared.node.Node.{Node}
use Rattle.sheet.specs.Meaning.{SoundRule, SoundEquation, Taken, scope_of_rule}
use Rattle.sheet.proofs.Places.{nth_below}
use Rattle.grammar.specs.declared.terms.Argument.{Argument}
use Rattle.tour.specs.Results.{Meaning, worth, applied, equation}
use Rattle.tour.specs.Rules.{rule, no_rule}
use Rattle.tour.specs.Runs.{In}
use Rattle.tour.specs.Trees.{Instance, at_of}
use Rattle.walk.specs.Evaluation.{NamedIn, result_by, NoEquation, equations_at}
use Rattle.sheet.specs.Meaning.{Sound}
use Rattle.walk.specs.Walking.{Meeting}
use Rattle.walk.specs.declared.walker.Met.{Met}
use Rattle.walk.proofs.Looking.{occurrence_at}
use Rattle.walk.proofs.Naming.{rule_used, kids_right, occurrence_used, evaluate_names}

-- the test by which the code looks for an equation finds the first that is for that attribute
abbrev pub is_for : ℕ → ℕ → EquationRow → Bool
is_for o a e = eqb e.occurrence o && eqb e.attribute a

equation_found : (o a : ℕ) (es : List EquationRow) (e : EquationRow) → find (is_for o a) es ≡ Some e → equation o a (map equation_of es) ≡ equation_of e
equation_found o a [] e f = let z : ◌≡◌ {A = ℕ} 0 1 = cc in absurd (omega arith)
equation_found o a (x ∷ es) e f = by (is_for o a x) (equation_found o a es e) f
  where
    by : (b : Bool) → (find (is_for o a) es ≡ Some e → equation o a (map equation_of es) ≡ equation_of e) → cond b (Some x) (find (is_for o a) es) ≡ Some e → cond b (equation_of x) (equation o a (map equation_of es)) ≡ equation_of e
    by true later h = let i : x ≡ e = cc in ap equation_of i
    by false later h = later h

equation_missing : (o a : ℕ) (es : List EquationRow) → find (is_for o a) es ≡ None → NoEquation o a (map equation_of es)
equation_missing o a [] f k q e p r = let z : ◌≡◌ {A = ℕ} 0 1 = cc in absurd (omega arith)
equation_missing o a (x ∷ es) f k q e p r = by (is_for o a x) refl f k e (λ h j d. equation_missing o a es h j q d p r)
  where
    by : (b : Bool) → is_for o a x ≡ b → cond b (Some x) (find (is_for o a) es) ≡ None → (k : ℕ) → slice_get (equation_of x ∷ map equation_of es) k ≡ Some q
        → (find (is_for o a) es ≡ None → (j : ℕ) → slice_get (map equation_of es) j ≡ Some q → ⊥) → ⊥
    by true t h k e later = let z : ◌≡◌ {A = ℕ} 0 1 = cc in omega arith
    by false t h zero e later = let i : equation_of x ≡ q = cc in let u : x.occurrence ≡ o = ap (λ z. z.occurrence) i ∙ p in let v : x.attribute ≡ a = ap (λ z. z.attribute) i ∙ r in grind (arith, nat_tests)
    by false t h (suc k) e later = later h k e

pub equation_looked : (o a : ℕ) (es : List EquationRow) (r : Option (Bor EquationRow)) → option_map (λ x. x.now) r ≡ find (is_for o a) es → MatchOption r (NoEquation o a (map equation_of es)) (λ e. equation o a (map equation_of es) ≡ equation_of e.now)
equation_looked o a es None e = equation_missing o a es (sym e)
equation_looked o a es (Some x) e = equation_found o a es x.now (sym e)

pub read_nth : {X : Type 0} (xs : List X) (i : ℕ) (d : X) → unwrap_or (slice_get xs i) d ≡ get_or xs i d
read_nth [] i d = refl
read_nth (x ∷ xs) zero d = refl
read_nth (x ∷ xs) (suc i) d = read_nth xs i d

-- the value of an attribute that has an entry
pub value_kept : {V : Type 0} (missing : V) (vs : List V) (p a : ℕ) → a < 16 → value_at missing vs (p, a) ≡ get_or vs (16 * p + a) missing
value_kept missing vs p a h = let t : ltb a 16 ≡ true = grind (arith, nat_tests) in ap (λ b. cond b (get_or vs (16 * p + a) missing) missing) t

-- what the node at a place says of occurrences that are there is what the table shows of them
module _ {V : Type 0} (M : Meaning V) (g : Grammar) (ps : List (Option Node)) (p : ℕ) (n : Node) (there : at ps p ≡ Some n) (v : Instance → V) where
  worth_here : (x : Argument) → NamedIn (length (table g ps p).kids) x → worth M (at_of p n.children) n.datum v x ≡ worth M (at_of p (table g ps p).kids) (table g ps p).code v x
  worth_here Datum h = ap (λ o. M.leaf (cell_of g o).code) (sym there)
  worth_here (Of o b) h = ap (λ q. v (q, b)) (occurrence_at g ps p n there o h)

  worths_here : (xs : List Argument) → AllByRecursion (NamedIn (length (table g ps p).kids)) xs → map (worth M (at_of p n.children) n.datum v) xs ≡ map (worth M (at_of p (table g ps p).kids) (table g ps p).code v) xs
  worths_here [] h = refl
  worths_here (x ∷ xs) h = ap₂ (λ y ys. y ∷ ys) (worth_here x h.0) (worths_here xs h.1)

  pub result_here : (q : Equation) → AllByRecursion (NamedIn (length (table g ps p).kids)) q.arguments → result_by M (at_of p n.children) n.datum v q ≡ result_by M (at_of p (table g ps p).kids) (table g ps p).code v q
  result_here q h = ap (λ ws. applied M q.function ws) (worths_here q.arguments h)

pub never_true : true ≡ false → ⊥
never_true e = let z : ◌≡◌ {A = ℕ} 0 1 = cc in omega arith

pub none_in_nothing : (o a : ℕ) → NoEquation o a []
none_in_nothing o a k q e = let z : ◌≡◌ {A = ℕ} 0 1 = cc in absurd (omega arith)

nth_in : {X : Type 0} (xs : List X) (x : X) → In x xs → (i : ℕ) × (slice_get xs i ≡ Some x)
nth_in [] x m = absurd m
nth_in (y ∷ xs) x (inl e) = (0, ap Some (sym e))
nth_in (y ∷ xs) x (inr m) = let r = nth_in xs x m in (suc r.0, r.1)

-- what an equation takes stands at an occurrence of its rule
taken_named : (ss : List Symbol) (ρ : Rule) (x : Argument) → Taken (scope_of_rule ss ρ) x → NamedIn (length ρ.right) x
taken_named ss ρ Datum h = tt
taken_named ss ρ (Of zero b) h = omega arith
taken_named ss ρ (Of (suc k) b) h = by (slice_get ρ.right k) refl
  where
    by : (o : Option ℕ) → slice_get ρ.right k ≡ o → suc k ≤ length ρ.right
    by None e = let f = ap (λ o. and_then (and_then o (λ y. slice_get ss y)) (λ s. slice_get s.attributes b)) (sym e) ∙ h.1 in let z : ◌≡◌ {A = ℕ} 0 1 = cc in absurd (omega arith)
    by (Some y) e = nth_below ρ.right k y e

equation_named : (n o a : ℕ) (qs : List Equation) → AllByRecursion (λ q. AllByRecursion (NamedIn n) q.arguments) qs → AllByRecursion (NamedIn n) (equation o a qs).arguments
equation_named n o a [] h = tt
equation_named n o a (q ∷ qs) h = by (eqb q.occurrence o && eqb q.attribute a) (equation_named n o a qs h.1)
  where
    by : (b : Bool) → AllByRecursion (NamedIn n) (equation o a qs).arguments → AllByRecursion (NamedIn n) (cond b q (equation o a qs)).arguments
    by true k = h.0
    by false k = k

-- a used place is one of the table
pub used_within : (ps : List (Option Node)) (p : ℕ) → used ps p ≡ true → p < length ps
used_within ps p u = by (cases_order p (length ps))
  where
    past : length ps ≤ p → p < length ps
    past l = absurd (never_true (sym u ∙ ap is_some (get_or_past ps p None l)))

    by : (p ≡ length ps) ⊎ ((p < length ps) ⊎ (length ps < p)) → p < length ps
    by (inl s) = past (omega arith)
    by (inr (inl s)) = s
    by (inr (inr s)) = past (omega arith)

-- what evaluation needs of what was met
pub record Ready (g : Grammar) (ps : List (Option Node)) (m : Met) : Type 0 where
  -- its equation is there, and takes from occurrences that are there
  pub equation_there : NoEquation m.occurrence m.attribute (equations_at g (table g ps) m.rule_place) → ⊥
  pub named : AllByRecursion (NamedIn (length (table g ps m.rule_place).kids)) (equation m.occurrence m.attribute (equations_at g (table g ps) m.rule_place)).arguments
  pub attribute_small : m.attribute < 16
  pub place_there : m.place < length ps

pub ready : (g : Grammar) (ps : List (Option Node)) (m : Met) → Sound g → SoundPlaces g ps → Meeting g ps m → Ready g ps m
ready g ps m w so e =
    let p = m.rule_place in
    let r = rule_used g ps p so e.rule_place_used in
    let ρ = rule g (table g ps p).rule in
    let sr : SoundRule g.symbols ρ = All-get_or (SoundRule g.symbols) g.rules (table g ps p).rule no_rule r w.rules_sound in
    let stands = nth_in ρ.plan (Evaluate m.occurrence m.attribute) e.stands in
    let only = sr.one_equation m.occurrence m.attribute ((sr.planned OneEvaluation).1 stands.0 m.occurrence m.attribute stands.1) in
    let named : AllByRecursion (NamedIn (length ρ.right)) (equation m.occurrence m.attribute ρ.equations).arguments =
    equation_named (length ρ.right) m.occurrence m.attribute ρ.equations
    (All-weaker (SoundEquation (scope_of_rule g.symbols ρ)) (λ q. AllByRecursion (NamedIn (length ρ.right)) q.arguments)
    (λ q s. All-weaker (Taken (scope_of_rule g.symbols ρ)) (NamedIn (length ρ.right)) (taken_named g.symbols ρ) q.arguments s.arguments_taken) ρ.equations sr.equations_sound) in
    let names = evaluate_names g ps p m.occurrence m.attribute w so e.rule_place_used e.stands in
    record {
      equation_there = λ h. h only.0 only.1.equation only.1.stands only.1.occurrence_is only.1.attribute_is;
      named = subst (λ n. AllByRecursion (NamedIn n) (equation m.occurrence m.attribute ρ.equations).arguments) (sym (kids_right g ps p e.rule_place_used)) named;
      attribute_small = names.1;
      place_there = used_within ps m.place (subst (λ q. used ps q ≡ true) (sym e.place_is) (occurrence_used g ps p m.occurrence so e.rule_place_used names.0));
    }

-- the flag is true just where the values differ
pub tells_change : {V : Type 0} (s : Bool) (old new : V) → Decides s (old ≡ new) → MatchBool (not s) (old ≡ new → ⊥) (old ≡ new)
tells_change true old new h = h.0 refl
tells_change false old new h = λ e. never_true (sym (h.1 e))
