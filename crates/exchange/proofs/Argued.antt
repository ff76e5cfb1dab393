-- An instance is taken just where it is an argument.
use Rattle.tour.specs.Results.{Meaning, source, link_sources, defining}
use Rattle.tour.specs.Runs.{named}
use Rattle.std.proofs.Common.{◌≡◌, ℕ, zero, suc, ◌-◌, ◌<◌, Bool, true, false, cond, ◌&&◌, eqb, ◌⊎◌, List, [], ◌∷◌, map, length, get_or, Some, Decides, Option, sym, refl, ap, ◌∙◌, subst, ap₂, inl, inr, arith, eq-eqb, eqb-true}
use Rattle.std.proofs.lemmas.Bool.{and_parts}
use Rattle.std.specs.List.{slice_get}
use Rattle.grammar.specs.Model.{Equation, Grammar}
use Rattle.grammar.specs.Scopes.{defined_flow}
use Rattle.grammar.specs.Tests.{some}
use Rattle.grammar.specs.declared.terms.Argument.{Argument}
use Rattle.grammar.specs.declared.terms.Argument.TheVariants.{Datum, Of}
use Rattle.grammar.specs.declared.terms.Flow.{Flow}
use Rattle.grammar.specs.declared.terms.Flow.TheVariants.{Inherited, Synthesized}
use Rattle.sheet.specs.Meaning.{Sound, SoundEquation, Taken, scope_of_rule}
use Rattle.tour.specs.Rules.{rule, symbol, no_attribute}
use Rattle.tour.specs.Runs.{In}
use Rattle.tour.specs.Trees.{Instance, at_of}
use Rattle.tour.specs.Nodes.{Link, Table}
use Rattle.tour.specs.Nodes.Link.{top, under}
use Rattle.tour.specs.Results.{equation}
use Rattle.tour.specs.Nodes.{flow_of}
use Rattle.places.specs.Places.{at, used, parent_at, link_of, arity, cell_of, table}
use Rattle.places.specs.Shape.{SoundPlaces}
use Rattle.places.specs.declared.node.Node.{Node}
use Rattle.places.specs.declared.node.Parent.{Parent}
use Rattle.exchange.specs.Takers.{takes_from, wakes, takers_among, takers_at, takers_above, takers_in, takers_of, TakersLaw}
use Rattle.exchange.specs.Waking.{is_at}
use Rattle.exchange.specs.declared.taken.Taken.TheVariants.{Attribute}
use Rattle.exchange.proofs.Awake.{some_in, all_in, link_parent}
use Rattle.exchange.proofs.Blocks.{node_there}
use Rattle.exchange.proofs.Existing.{some_true, symbol_at_lem}
use Rattle.exchange.proofs.Sheets.{Standing, standing, defined_standing, rule_sound}
use Rattle.exchange.proofs.Soundness.{Hangs, hangs}
use Rattle.exchange.proofs.Swapping.{link_is, child_hangs}
use Rattle.exchange.proofs.Targets.{kids_at}

-- the instances that arguments name; places of occurrences by a function
abbrev meant : (ℕ → ℕ) → List Argument → List Instance
meant place [] = []
meant place (Datum ∷ bs) = meant place bs
meant place (Of p b ∷ bs) = (place p, b) ∷ meant place bs

-- The arguments of an instance: those of the equation that has it as its target, at its place or at its parent's.
abbrev own_arguments : Grammar → Table → ℕ → ℕ → ℕ → List Instance
own_arguments g T p o a = meant (at_of p (T p).kids) (equation o a (rule g (T p).rule).equations).arguments

abbrev arguments_above : Grammar → Table → Link → ℕ → List Instance
arguments_above g T top a = []
arguments_above g T (under u k) a = own_arguments g T u k a

abbrev arguments_in : Grammar → Table → Flow → ℕ → ℕ → List Instance
arguments_in g T Inherited p a = arguments_above g T (T p).link a
arguments_in g T Synthesized p a = own_arguments g T p 0 a

abbrev arguments_of : Grammar → Table → Instance → List Instance
arguments_of g T x = arguments_in g T (flow_of g T x) x.0 x.1

in_nth : {X : Type 0} (xs : List X) (x : X) → In x xs → (i : ℕ) × (slice_get xs i ≡ Some x)
in_nth [] x i = absurd i
in_nth (y ∷ ys) x (inl e) = (0, ap Some (sym e))
in_nth (y ∷ ys) x (inr i) = let r = in_nth ys x i in (suc r.0, r.1)

abbrev Unique : List Equation → ℕ → ℕ → Type 0
Unique es o a = (d e : Equation) → In d es → In e es → d.occurrence ≡ o → d.attribute ≡ a → e.occurrence ≡ o → e.attribute ≡ a → d ≡ e

-- the equation of a target is the only one
equation_is : (es : List Equation) (o a : ℕ) → Unique es o a → (e : Equation) → In e es → e.occurrence ≡ o → e.attribute ≡ a → equation o a es ≡ e
equation_is [] o a one e i p q = absurd i
equation_is (d ∷ ds) o a one e i p q = by (eqb d.occurrence o && eqb d.attribute a) refl i (λ j. equation_is ds o a (λ x y u v. one x y (inr u) (inr v)) e j p q)
  where
    by : (b : Bool) → (eqb d.occurrence o && eqb d.attribute a) ≡ b → (e ≡ d) ⊎ In e ds → (In e ds → equation o a ds ≡ e) → cond (eqb d.occurrence o && eqb d.attribute a) d (equation o a ds) ≡ e
    by true h j less =
        let w = and_parts (eqb d.occurrence o) (eqb d.attribute a) h in
        ap (λ b. cond b d (equation o a ds)) h ∙ one d e (inl refl) i (eqb-true d.occurrence o w.0) (eqb-true d.attribute a w.1) p q
    by false h (inl k) less =
        let t : (eqb d.occurrence o && eqb d.attribute a) ≡ true = ap₂ ◌&&◌ (eq-eqb d.occurrence o (ap (λ z. z.occurrence) (sym k) ∙ p)) (eq-eqb d.attribute a (ap (λ z. z.attribute) (sym k) ∙ q)) in
        let y : false ≡ true = sym h ∙ t in
        let z : ◌≡◌ {A = ℕ} 0 1 = cc in
        absurd (omega arith)
    by false h (inr j) less = ap (λ b. cond b d (equation o a ds)) h ∙ less j

-- an equation with arguments stands in the list
equation_in : (es : List Equation) (o a : ℕ) (z : Argument) → In z (equation o a es).arguments → In (equation o a es) es × ((equation o a es).occurrence ≡ o) × ((equation o a es).attribute ≡ a)
equation_in [] o a z i = absurd i
equation_in (d ∷ ds) o a z i = by (eqb d.occurrence o && eqb d.attribute a) refl (equation_in ds o a z)
  where
    by : (b : Bool) → (eqb d.occurrence o && eqb d.attribute a) ≡ b → (In z (equation o a ds).arguments → In (equation o a ds) ds × ((equation o a ds).occurrence ≡ o) × ((equation o a ds).attribute ≡ a)) → In (equation o a (d ∷ ds)) (d ∷ ds) × ((equation o a (d ∷ ds)).occurrence ≡ o) × ((equation o a (d ∷ ds)).attribute ≡ a)
    by true h less =
        let w = and_parts (eqb d.occurrence o) (eqb d.attribute a) h in
        let k : equation o a (d ∷ ds) ≡ d = ap (λ b. cond b d (equation o a ds)) h in
        (inl k, ap (λ e. e.occurrence) k ∙ eqb-true d.occurrence o w.0, ap (λ e. e.attribute) k ∙ eqb-true d.attribute a w.1)
    by false h less =
        let k : equation o a (d ∷ ds) ≡ equation o a ds = ap (λ b. cond b d (equation o a ds)) h in
        let r = less (subst (λ e. In z e.arguments) k i) in
        (inr (subst (λ e. In e ds) (sym k) r.0), ap (λ e. e.occurrence) k ∙ r.1, ap (λ e. e.attribute) k ∙ r.2)

meant_in : (place : ℕ → ℕ) (bs : List Argument) (o b : ℕ) → In (Of o b) bs → In (place o, b) (meant place bs)
meant_in place [] o b i = absurd i
meant_in place (Datum ∷ bs) o b (inl e) = let z : ◌≡◌ {A = ℕ} 0 1 = cc in absurd (omega arith)
meant_in place (Datum ∷ bs) o b (inr i) = meant_in place bs o b i
meant_in place (Of p c ∷ bs) o b (inl e) = let k : o ≡ p = cc in let l : b ≡ c = cc in inl (ap₂ (λ i j. (place i, j)) k l)
meant_in place (Of p c ∷ bs) o b (inr i) = inr (meant_in place bs o b i)

in_meant : (place : ℕ → ℕ) (bs : List Argument) (y : Instance) → In y (meant place bs) → (o : ℕ) × (b : ℕ) × In (Of o b) bs × (y ≡ (place o, b))
in_meant place [] y i = absurd i
in_meant place (Datum ∷ bs) y i = let r = in_meant place bs y i in (r.0, r.1, inr r.2, r.3)
in_meant place (Of p c ∷ bs) y (inl e) = (p, c, inl refl, e)
in_meant place (Of p c ∷ bs) y (inr i) = let r = in_meant place bs y i in (r.0, r.1, inr r.2, r.3)

takes_exactly : (o b : ℕ) (z : Argument) → takes_from (Attribute o b) z ≡ true → z ≡ Of o b
takes_exactly o b Datum h = let z : ◌≡◌ {A = ℕ} 0 1 = cc in absurd (omega arith)
takes_exactly o b (Of p c) h = let w = and_parts (eqb p o) (eqb c b) h in ap₂ Of (eqb-true p o w.0) (eqb-true c b w.1)

unique : (g : Grammar) (r : ℕ) → Sound g → r < length g.rules → (o a : ℕ) → Unique (rule g r).equations o a
unique g r sound h o a d e i j p q t v =
    let ρ = rule_sound g r sound h in
    let σ = scope_of_rule g.symbols (rule g r) in
    let def = (all_in (SoundEquation σ) (rule g r).equations d i ρ.equations_sound).target in
    let one = ρ.one_equation d.occurrence d.attribute def in
    let m = in_nth (rule g r).equations d i in
    let n = in_nth (rule g r).equations e j in
    let k = one.1.only m.0 d m.1 refl refl in
    let l = one.1.only n.0 e n.1 (t ∙ sym p) (v ∙ sym q) in
    let same : Some d ≡ Some e = sym m.1 ∙ ap (slice_get (rule g r).equations) (k ∙ sym l) ∙ n.1 in
    let z : d ≡ e = cc in
    z

module _ (g : Grammar) (sound : Sound g) (ps : List (Option Node)) (s : SoundPlaces g ps) where
  -- where a node hangs, seen from its parent
  hanging_at : (c : ℕ) (v : Parent) → Hangs g ps c v → at_of v.place (table g ps v.place).kids v.position ≡ c
  hanging_at c v h = by v.position refl
    where
      by : (k : ℕ) → v.position ≡ k → at_of v.place (table g ps v.place).kids v.position ≡ c
      by zero e = let z = h.below.first in absurd (omega arith)
      by (suc j) e =
          let l : j < arity g h.node.rule = (let z = h.below.last in omega arith) in
          ap (at_of v.place (table g ps v.place).kids) e
          ∙ kids_at g ps v.place h.node h.there j l
          ∙ ap (λ i. get_or h.node.children i 0) (let z : j ≡ v.position - 1 = omega arith in z)
          ∙ h.below.points

  module _ (p : ℕ) (n : Node) (there : at ps p ≡ Some n) where
    rule_is : (table g ps p).rule ≡ n.rule
    rule_is = ap (λ z. (cell_of g z).rule) there

    known : n.rule < length g.rules
    known = (s.nodes p n there).rule_there

    child_link : (k : ℕ) → k < arity g n.rule → (table g ps (at_of p (table g ps p).kids (suc k))).link ≡ under p (suc k)
    child_link k h =
        ap (λ c. (table g ps c).link) (kids_at g ps p n there k h)
        ∙ link_is g (at ps (get_or n.children k 0))
        ∙ ap link_of (child_hangs g ps s p n k there h)

    flow_at : (o a : ℕ) (f : Flow) → Standing g (rule g n.rule) o a f → flow_of g (table g ps) (at_of p (table g ps p).kids o, a) ≡ f
    flow_at o a f d = ap (λ x. (get_or (symbol g x).attributes a no_attribute).flow) (symbol_at_lem g sound ps s p n there o d.occurrence) ∙ d.flows

    module _ (e : Equation) (i : In e (rule g n.rule).equations) where
      target_standing : Standing g (rule g n.rule) e.occurrence e.attribute (defined_flow e.occurrence)
      target_standing = defined_standing g (rule g n.rule) e.occurrence e.attribute (all_in (SoundEquation (scope_of_rule g.symbols (rule g n.rule))) (rule g n.rule).equations e i (rule_sound g n.rule sound known).equations_sound).target

      own_is : (o : ℕ) → e.occurrence ≡ o → own_arguments g (table g ps) p o e.attribute ≡ meant (at_of p (table g ps p).kids) e.arguments
      own_is o k =
          ap (λ r. meant (at_of p (table g ps p).kids) (equation o e.attribute (rule g r).equations).arguments) rule_is
          ∙ ap (λ q. meant (at_of p (table g ps p).kids) q.arguments) (equation_is (rule g n.rule).equations o e.attribute (unique g n.rule sound known o e.attribute) e i k refl)

      -- the arguments of the target of an equation are those that the equation names
      arguments_are : arguments_of g (table g ps) (at_of p (table g ps p).kids e.occurrence, e.attribute) ≡ meant (at_of p (table g ps p).kids) e.arguments
      arguments_are =
          ap (λ f. arguments_in g (table g ps) f (at_of p (table g ps p).kids e.occurrence) e.attribute) (flow_at e.occurrence e.attribute (defined_flow e.occurrence) target_standing)
          ∙ by e.occurrence refl
        where
          by : (o : ℕ) → e.occurrence ≡ o → arguments_in g (table g ps) (defined_flow o) (at_of p (table g ps p).kids o) e.attribute ≡ meant (at_of p (table g ps p).kids) e.arguments
          by zero k = own_is zero k
          by (suc j) k =
              let l : j < arity g n.rule = (let z = target_standing.occurrence in omega arith) in
              ap (λ m. arguments_above g (table g ps) m e.attribute) (child_link j l) ∙ own_is (suc j) k

      -- and an argument that it names is taken by the target
      taken_by : (o b : ℕ) → In (Of o b) e.arguments → takers_of g (table g ps) (at_of p (table g ps p).kids o, b) (at_of p (table g ps p).kids e.occurrence, e.attribute) ≡ true
      taken_by o b j =
          let q = all_in (SoundEquation (scope_of_rule g.symbols (rule g n.rule))) (rule g n.rule).equations e i (rule_sound g n.rule sound known).equations_sound in
          by o j (all_in (Taken (scope_of_rule g.symbols (rule g n.rule))) e.arguments (Of o b) j q.arguments_taken)
        where
          wakes_it : (k : ℕ) → In (Of k b) e.arguments → takers_at g (table g ps) p (Attribute k b) (at_of p (table g ps p).kids e.occurrence, e.attribute) ≡ true
          wakes_it k l =
              let pl = at_of p (table g ps p).kids in
              let m = some_in (takes_from (Attribute k b)) e.arguments (Of k b) l (ap₂ ◌&&◌ (eq-eqb k k refl) (eq-eqb b b refl)) in
              let here : is_at (pl e.occurrence) e.attribute (pl e.occurrence, e.attribute) ≡ true = ap₂ ◌&&◌ (eq-eqb (pl e.occurrence) (pl e.occurrence) refl) (eq-eqb e.attribute e.attribute refl) in
              some_in (λ q. wakes pl (Attribute k b) q (pl e.occurrence, e.attribute)) (rule g (table g ps p).rule).equations e (subst (λ r. In e (rule g r).equations) (sym rule_is) i) (ap₂ ◌&&◌ here m)

          by : (k : ℕ) → In (Of k b) e.arguments → Taken (scope_of_rule g.symbols (rule g n.rule)) (Of k b) → takers_of g (table g ps) (at_of p (table g ps p).kids k, b) (at_of p (table g ps p).kids e.occurrence, e.attribute) ≡ true
          by zero l t =
              let d = standing g (rule g n.rule) zero b t.0 Inherited t.1 in
              ap (λ f. takers_in g (table g ps) f p b (at_of p (table g ps p).kids e.occurrence, e.attribute)) (flow_at zero b Inherited d) ∙ wakes_it zero l
          by (suc k) l t =
              let d = standing g (rule g n.rule) (suc k) b t.0 Synthesized t.1 in
              let h : k < arity g n.rule = (let z = d.occurrence in omega arith) in
              ap (λ f. takers_in g (table g ps) f (at_of p (table g ps p).kids (suc k)) b (at_of p (table g ps p).kids e.occurrence, e.attribute)) (flow_at (suc k) b Synthesized d)
              ∙ ap (λ m. takers_above g (table g ps) m b (at_of p (table g ps p).kids e.occurrence, e.attribute)) (child_link k h)
              ∙ wakes_it (suc k) l

    -- what a rule's takers take are their arguments
    argument_from : (o b : ℕ) (x : Instance) → takers_at g (table g ps) p (Attribute o b) x ≡ true → In (at_of p (table g ps p).kids o, b) (arguments_of g (table g ps) x)
    argument_from o b x h =
        let pl = at_of p (table g ps p).kids in
        let w = some_true (λ e. wakes pl (Attribute o b) e x) (rule g n.rule).equations (subst (λ r. takers_among pl (Attribute o b) (rule g r).equations x ≡ true) rule_is h) in
        let e = w.0 in
        let both = and_parts (is_at (pl e.occurrence) e.attribute x) (some (takes_from (Attribute o b)) e.arguments) w.2 in
        let parts = and_parts (eqb x.0 (pl e.occurrence)) (eqb x.1 e.attribute) both.0 in
        let same : (pl e.occurrence, e.attribute) ≡ x = sym (ap₂ (λ a c. (a, c)) (eqb-true x.0 (pl e.occurrence) parts.0) (eqb-true x.1 e.attribute parts.1)) in
        let z = some_true (takes_from (Attribute o b)) e.arguments both.1 in
        let j : In (Of o b) e.arguments = subst (λ q. In q e.arguments) (takes_exactly o b z.0 z.2) z.1 in
        subst (λ v. In (pl o, b) (arguments_of g (table g ps) v)) same (subst (In (pl o, b)) (sym (arguments_are e w.1)) (meant_in pl e.arguments o b j))

    -- and its arguments are taken
    taken_from : (o a : ℕ) (y : Instance) → In y (own_arguments g (table g ps) p o a) → takers_of g (table g ps) y (at_of p (table g ps p).kids o, a) ≡ true
    taken_from o a y i =
        let pl = at_of p (table g ps p).kids in
        let es = (rule g n.rule).equations in
        let r = in_meant pl (equation o a es).arguments y (subst (λ q. In y (meant pl (equation o a (rule g q).equations).arguments)) rule_is i) in
        let k = equation_in es o a (Of r.0 r.1) r.2 in
        let t = taken_by (equation o a es) k.0 r.0 r.1 r.2 in
        subst (λ v. takers_of g (table g ps) v (pl o, a) ≡ true) (sym r.3) (subst (λ c. takers_of g (table g ps) (pl r.0, r.1) (pl o, c) ≡ true) k.2 (subst (λ c. takers_of g (table g ps) (pl r.0, r.1) (pl c, (equation o a es).attribute) ≡ true) k.1 t))

takers_law : (g : Grammar) → Sound g → (ps : List (Option Node)) → SoundPlaces g ps → (x y : Instance) → used ps x.0 ≡ true → used ps y.0 ≡ true → Decides (takers_of g (table g ps) y x) (In y (arguments_of g (table g ps) x))
takers_law g sound ps s x y ux uy = (λ h. forth (flow_of g (table g ps) y) h, λ i. back (flow_of g (table g ps) x) i)
  where
    node_at : (p : ℕ) → used ps p ≡ true → (n : Node) × (at ps p ≡ Some n)
    node_at p h = node_there (at ps p) h

    up_to : (l : Link) → (table g ps y.0).link ≡ l → takers_above g (table g ps) l y.1 x ≡ true → In y (arguments_of g (table g ps) x)
    up_to top e h = let z : ◌≡◌ {A = ℕ} 0 1 = cc in absurd (omega arith)
    up_to (under v k) e h =
        let hang = hangs g ps s y.0 (record { place = v; position = k }) (link_parent (parent_at ps y.0) v k (sym (link_is g (at ps y.0)) ∙ e)) in
        subst (λ c. In (c, y.1) (arguments_of g (table g ps) x)) (hanging_at g sound ps s y.0 (record { place = v; position = k }) hang) (argument_from g sound ps s v hang.node hang.there k y.1 x h)

    forth : (f : Flow) → takers_in g (table g ps) f y.0 y.1 x ≡ true → In y (arguments_of g (table g ps) x)
    forth Inherited h = argument_from g sound ps s y.0 (node_at y.0 uy).0 (node_at y.0 uy).1 0 y.1 x h
    forth Synthesized h = up_to (table g ps y.0).link refl h

    down_from : (l : Link) → (table g ps x.0).link ≡ l → In y (arguments_above g (table g ps) l x.1) → takers_of g (table g ps) y x ≡ true
    down_from top e i = absurd i
    down_from (under v k) e i =
        let hang = hangs g ps s x.0 (record { place = v; position = k }) (link_parent (parent_at ps x.0) v k (sym (link_is g (at ps x.0)) ∙ e)) in
        subst (λ c. takers_of g (table g ps) y (c, x.1) ≡ true) (hanging_at g sound ps s x.0 (record { place = v; position = k }) hang) (taken_from g sound ps s v hang.node hang.there k x.1 y i)

    back : (f : Flow) → In y (arguments_in g (table g ps) f x.0 x.1) → takers_of g (table g ps) y x ≡ true
    back Inherited i = down_from (table g ps x.0).link refl i
    back Synthesized i = taken_from g sound ps s x.0 (node_at x.0 ux).0 (node_at x.0 ux).1 0 x.1 y i

-- these are the arguments that the theory of tours speaks of
module _ {V : Type 0} (M : Meaning V) (g : Grammar) (T : Table) where
  meant_named : (place : ℕ → ℕ) (code : ℕ) (bs : List Argument) → meant place bs ≡ named (map (source M place code) bs)
  meant_named place code [] = refl
  meant_named place code (Datum ∷ bs) = meant_named place code bs
  meant_named place code (Of p b ∷ bs) = ap (λ z. (place p, b) ∷ z) (meant_named place code bs)

  above_named : (l : Link) (a : ℕ) → arguments_above g T l a ≡ named (link_sources M g T l a)
  above_named top a = refl
  above_named (under u k) a = meant_named (at_of u (T u).kids) (T u).code (equation k a (rule g (T u).rule).equations).arguments

  in_named : (f : Flow) (p a : ℕ) → arguments_in g T f p a ≡ named (link_sources M g T (defining f p (T p).link) a)
  in_named Inherited p a = above_named (T p).link a
  in_named Synthesized p a = meant_named (at_of p (T p).kids) (T p).code (equation 0 a (rule g (T p).rule).equations).arguments

pub takers_named : {V : Type 0} → TakersLaw V
takers_named M g so ps sp x y u w =
    subst (λ z. Decides (takers_of g (table g ps) y x) (In y z)) (in_named M g (table g ps) (flow_of g (table g ps) x) x.0 x.1) (takers_law g so ps sp x y u w)
