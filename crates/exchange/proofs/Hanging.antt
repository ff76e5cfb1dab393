-- The places while a held root is hung in.
use Rattle.std.proofs.Common.{◌≡◌, ℕ, ◌-◌, ◌<◌, Bool, true, false, ◌||◌, eqb, ltb, List, length, get_or, set, is_some, Some, None, Option, sym, refl, ap, ◌∙◌, subst, arith, get_or-set_other, get_or-set_same, ltb-false, ltb-true, eqb-true}
use borrow.Author.Tests.{eqb-false}
use Rattle.std.specs.Option.{option_map}
use Rattle.std.proofs.lemmas.List.{set_past}
use Rattle.grammar.specs.Model.{Grammar}
use Rattle.tour.specs.Rules.{rule}
use Rattle.tour.specs.Trees.{Instance, at_of}
use Rattle.places.specs.Places.{at, used, parent_at, arity, table}
use Rattle.places.specs.declared.node.Node.{Node}
use Rattle.places.specs.declared.node.Parent.{Parent}
use Rattle.exchange.specs.Exchanging.{hung_below, inherited_at, woken_below, ExchangedPlaces}
use Rattle.exchange.specs.Setting.{with_child, with_parent, changed_at}
use Rattle.exchange.specs.Takers.{FitsThere, FitsAt, takers_among, takers_at}
use Rattle.exchange.specs.Waking.{bare, Remarked, Woke}
use Rattle.exchange.specs.declared.taken.Taken.TheVariants.{Occurrence}
use Rattle.exchange.proofs.Fields.{changed_length, changed_keeps}
use Rattle.exchange.proofs.Marking.{remarked_table, woke_more}

-- one cell of a row of children, written
pub set_cell : (P : ℕ → Type 0) (cs : List ℕ) (i k c : ℕ) → P c → P (get_or cs k 0) → P (get_or (set cs i c) k 0)
set_cell P cs i k c new old = by (eqb k i) refl (ltb i (length cs)) refl
  where
    by : (a : Bool) → eqb k i ≡ a → (b : Bool) → ltb i (length cs) ≡ b → P (get_or (set cs i c) k 0)
    by false e b l = subst P (sym (get_or-set_other cs i k c 0 (eqb-false k i e))) old
    by true e true l = subst P (sym (ap (λ j. get_or (set cs i c) j 0) (eqb-true k i e) ∙ get_or-set_same cs i c 0 (ltb-true i (length cs) l))) new
    by true e false l = subst P (ap (λ ds. get_or ds k 0) (sym (set_past cs i c (ltb-false i (length cs) l)))) old

-- every node fits
abbrev pub EveryFits : Grammar → List (Option Node) → ℕ → Type 0
EveryFits g ps p = used ps p ≡ true → FitsAt g ps p

-- the fact that a place fits a table of that length
abbrev Fitting : Grammar → ℕ → Option Node → Type 0
Fitting g l None = Unit {0}
Fitting g l (Some n) = (n.rule < length g.rules) × ((k : ℕ) → k < arity g n.rule → get_or n.children k 0 < l)

fitting_from : (g : Grammar) (ps : List (Option Node)) (x : Option Node) → (is_some x ≡ true → FitsThere g ps x) → Fitting g (length ps) x
fitting_from g ps None h = tt
fitting_from g ps (Some n) h = ((h refl).rule_there, (h refl).children_within)

fitting_to : (g : Grammar) (ps : List (Option Node)) (x : Option Node) → Fitting g (length ps) x → is_some x ≡ true → FitsThere g ps x
fitting_to g ps None f h = let z : ◌≡◌ {A = ℕ} 0 1 = cc in absurd (omega arith)
fitting_to g ps (Some n) f h = record { rule_there = f.0; children_within = f.1 }

fitting_parent : (g : Grammar) (l : ℕ) (u : Option Parent) (x : Option Node) → Fitting g l x → Fitting g l (option_map (with_parent u) x)
fitting_parent g l u None f = tt
fitting_parent g l u (Some n) f = f

fitting_child : (g : Grammar) (l i c : ℕ) → c < l → (x : Option Node) → Fitting g l x → Fitting g l (option_map (with_child i c) x)
fitting_child g l i c h None f = tt
fitting_child g l i c h (Some n) f = (f.0, λ k e. set_cell (λ z. z < l) n.children i k c h (f.1 k e))

fitting_bare : (g : Grammar) (l : ℕ) (x : Option Node) → Fitting g l (bare x) → Fitting g l x
fitting_bare g l None f = tt
fitting_bare g l (Some n) f = f

bare_fitting : (g : Grammar) (l : ℕ) (x : Option Node) → Fitting g l x → Fitting g l (bare x)
bare_fitting g l None f = tt
bare_fitting g l (Some n) f = f

pub hung_length : (ps : List (Option Node)) (target held : ℕ) (u : Option Parent) → length (hung_below ps target held u) ≡ length ps
hung_length ps target held None = refl
hung_length ps target held (Some u) =
    let a = changed_at (with_child (u.position - 1) held) ps u.place in
    let b = changed_at (with_parent None) a target in
    changed_length (with_parent (Some u)) b held ∙ changed_length (with_parent None) a target ∙ changed_length (with_child (u.position - 1) held) ps u.place

-- hanging leaves every node fitting
pub hung_fits : (g : Grammar) (ps : List (Option Node)) (target held : ℕ) (u : Parent) → held < length ps → ((q : ℕ) → EveryFits g ps q) → (q : ℕ) → EveryFits g (hung_below ps target held (Some u)) q
hung_fits g ps target held u h every q =
    let a = changed_at (with_child (u.position - 1) held) ps u.place in
    let b = changed_at (with_parent None) a target in
    let l = length ps in
    let start : (r : ℕ) → Fitting g l (at ps r) = λ r. fitting_from g ps (at ps r) (every r) in
    let one : (r : ℕ) → Fitting g l (at a r) = λ r. changed_keeps (λ _. Fitting g l) (with_child (u.position - 1) held) ps u.place (fitting_child g l (u.position - 1) held h (at ps u.place)) r (start r) in
    let two : (r : ℕ) → Fitting g l (at b r) = λ r. changed_keeps (λ _. Fitting g l) (with_parent None) a target (fitting_parent g l None (at a target)) r (one r) in
    let three = changed_keeps (λ _. Fitting g l) (with_parent (Some u)) b held (fitting_parent g l (Some u) (at b held)) q (two q) in
    fitting_to g (hung_below ps target held (Some u)) (at (hung_below ps target held (Some u)) q) (subst (λ k. Fitting g k (at (hung_below ps target held (Some u)) q)) (sym (hung_length ps target held (Some u))) three)

pub remarked_fits : {owed : Instance → Bool → Bool} (g : Grammar) (ps qs : List (Option Node)) → Remarked ps qs owed → (q : ℕ) → EveryFits g ps q → EveryFits g qs q
remarked_fits g ps qs w q every =
    let f = fitting_from g ps (at ps q) every in
    let k = fitting_bare g (length ps) (at qs q) (subst (Fitting g (length ps)) (sym (w.nodes q)) (bare_fitting g (length ps) (at ps q) f)) in
    fitting_to g qs (at qs q) (subst (λ l. Fitting g l (at qs q)) (sym w.long) k)

-- the same places stay used
used_changed : (f : Node → Node) (ps : List (Option Node)) (p q : ℕ) → used ps q ≡ true → used (changed_at f ps p) q ≡ true
used_changed f ps p q h = changed_keeps (λ _ x. is_some x ≡ true) f ps p (by (at ps p)) q h
  where
    by : (x : Option Node) → is_some x ≡ true → is_some (option_map f x) ≡ true
    by None e = e
    by (Some n) e = refl

pub hung_used : (ps : List (Option Node)) (target held : ℕ) (u : Option Parent) (q : ℕ) → used ps q ≡ true → used (hung_below ps target held u) q ≡ true
hung_used ps target held None q h = h
hung_used ps target held (Some u) q h =
    let a = changed_at (with_child (u.position - 1) held) ps u.place in
    let b = changed_at (with_parent None) a target in
    used_changed (with_parent (Some u)) b held q (used_changed (with_parent None) a target q (used_changed (with_child (u.position - 1) held) ps u.place q h))

-- both changes of marks together
pub exchanged : (g : Grammar) (ps hs qs rs : List (Option Node)) (target held : ℕ) (u : Parent) → parent_at ps target ≡ Some u → hs ≡ hung_below ps target held (Some u) → Woke hs qs (inherited_at g (table g hs) held) → Woke qs rs (takers_at g (table g qs) u.place (Occurrence u.position)) → ExchangedPlaces g ps rs target held
exchanged g ps hs qs rs target held u e h v w =
    let both : Woke hs rs (woken_below g (table g hs) held (Some u)) =
    woke_more hs qs rs (inherited_at g (table g hs) held) (takers_at g (table g qs) u.place (Occurrence u.position)) (woken_below g (table g hs) held (Some u))
    (λ x. ap (λ c. inherited_at g (table g hs) held x || takers_among (at_of u.place c.kids) (Occurrence u.position) (rule g c.rule).equations x) (sym (remarked_table g hs qs v u.place))) v w
    in
    let there = subst (λ z. Woke z rs (woken_below g (table g z) held (Some u))) h both in
    subst (λ z. Woke (hung_below ps target held z) rs (woken_below g (table g (hung_below ps target held z)) held z)) (sym e) there
