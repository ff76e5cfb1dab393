-- The exchange in the table of places is the exchange of the theory of tours.
use Rattle.std.proofs.Common.{◌≡◌, ℕ, suc, ◌-◌, ◌<◌, Bool, true, false, cond, eqb, List, map, length, get_or, set, is_some, Some, None, Option, sym, refl, ap, ◌∙◌, ap₂, arith, get_or-set_other, get_or-set_same, eq-eqb, ne_eqb, eqb-true}
use borrow.Author.Tests.{eqb-false}
use Rattle.std.specs.Option.{option_map}
use Rattle.std.proofs.lemmas.List.{ext_get_or, length-map, get_or-map}
use Rattle.grammar.specs.Model.{Grammar}
use Rattle.sheet.specs.Meaning.{Sound}
use Rattle.tour.specs.Rules.{rule}
use Rattle.tour.specs.Exchange.{swap, Exchanged}
use Rattle.places.specs.Places.{at, used, parent_in, parent_at, link_of, arity, cell_of, table}
use Rattle.places.specs.Shape.{ChildThere, SoundPlaces}
use Rattle.places.specs.declared.node.Node.{Node}
use Rattle.places.specs.declared.node.Parent.{Parent}
use Rattle.exchange.specs.Exchanging.{hung_below}
use Rattle.exchange.specs.Setting.{with_child, with_parent, changed_at}
use Rattle.exchange.proofs.Fields.{changed_here, changed_else, changed_keeps}
use Rattle.exchange.proofs.Sheets.{rule_sound}
use Rattle.exchange.proofs.Soundness.{hangs}
use Rattle.exchange.proofs.Targets.{kids_length, kids_at}
use Rattle.places.proofs.Firsts.{length_firsts}

-- a change that keeps what is looked at
pub keeps : {X : Type 0} (look : Option Node → X) (f : Node → Node) → ((x : Option Node) → look (option_map f x) ≡ look x) → (ps : List (Option Node)) (p q : ℕ) → look (at (changed_at f ps p) q) ≡ look (at ps q)
keeps look f same ps p q = changed_keeps (λ r x. look x ≡ look (at ps r)) f ps p (λ _. same (at ps p)) q refl

rule_parent : (g : Grammar) (u : Option Parent) (x : Option Node) → (cell_of g (option_map (with_parent u) x)).rule ≡ (cell_of g x).rule
rule_parent g u None = refl
rule_parent g u (Some n) = refl

rule_child : (g : Grammar) (i c : ℕ) (x : Option Node) → (cell_of g (option_map (with_child i c) x)).rule ≡ (cell_of g x).rule
rule_child g i c None = refl
rule_child g i c (Some n) = refl

code_parent : (g : Grammar) (u : Option Parent) (x : Option Node) → (cell_of g (option_map (with_parent u) x)).code ≡ (cell_of g x).code
code_parent g u None = refl
code_parent g u (Some n) = refl

code_child : (g : Grammar) (i c : ℕ) (x : Option Node) → (cell_of g (option_map (with_child i c) x)).code ≡ (cell_of g x).code
code_child g i c None = refl
code_child g i c (Some n) = refl

kids_parent : (g : Grammar) (u : Option Parent) (x : Option Node) → (cell_of g (option_map (with_parent u) x)).kids ≡ (cell_of g x).kids
kids_parent g u None = refl
kids_parent g u (Some n) = refl

parent_child : (i c : ℕ) (x : Option Node) → parent_in (option_map (with_child i c) x) ≡ parent_in x
parent_child i c None = refl
parent_child i c (Some n) = refl

parent_none : (x : Option Node) → parent_in (option_map (with_parent None) x) ≡ None
parent_none None = refl
parent_none (Some n) = refl

parent_some : (u : Parent) (x : Option Node) → is_some x ≡ true → parent_in (option_map (with_parent (Some u)) x) ≡ Some u
parent_some u None h = let z : ◌≡◌ {A = ℕ} 0 1 = cc in absurd (omega arith)
parent_some u (Some n) h = refl

pub link_is : (g : Grammar) (x : Option Node) → (cell_of g x).link ≡ link_of (parent_in x)
link_is g None = refl
link_is g (Some n) = refl

module _ (g : Grammar) (ps : List (Option Node)) (target held : ℕ) (u : Parent) where
  first : List (Option Node)
  first = changed_at (with_child (u.position - 1) held) ps u.place

  second : List (Option Node)
  second = changed_at (with_parent None) (changed_at (with_child (u.position - 1) held) ps u.place) target

  pub hung_rule : (p : ℕ) → (table g (hung_below ps target held (Some u)) p).rule ≡ (table g ps p).rule
  unfolding first second
  hung_rule p =
      keeps (λ x. (cell_of g x).rule) (with_parent (Some u)) (rule_parent g (Some u)) second held p
      ∙ keeps (λ x. (cell_of g x).rule) (with_parent None) (rule_parent g None) first target p
      ∙ keeps (λ x. (cell_of g x).rule) (with_child (u.position - 1) held) (rule_child g (u.position - 1) held) ps u.place p

  hung_code : (p : ℕ) → (table g (hung_below ps target held (Some u)) p).code ≡ (table g ps p).code
  unfolding first second
  hung_code p =
      keeps (λ x. (cell_of g x).code) (with_parent (Some u)) (code_parent g (Some u)) second held p
      ∙ keeps (λ x. (cell_of g x).code) (with_parent None) (code_parent g None) first target p
      ∙ keeps (λ x. (cell_of g x).code) (with_child (u.position - 1) held) (code_child g (u.position - 1) held) ps u.place p

  hung_kids : (p : ℕ) → (table g (hung_below ps target held (Some u)) p).kids ≡ (table g (changed_at (with_child (u.position - 1) held) ps u.place) p).kids
  unfolding first second
  hung_kids p =
      keeps (λ x. (cell_of g x).kids) (with_parent (Some u)) (kids_parent g (Some u)) second held p
      ∙ keeps (λ x. (cell_of g x).kids) (with_parent None) (kids_parent g None) first target p

  first_parent : (p : ℕ) → parent_at (changed_at (with_child (u.position - 1) held) ps u.place) p ≡ parent_at ps p
  first_parent p = keeps parent_in (with_child (u.position - 1) held) (parent_child (u.position - 1) held) ps u.place p

  -- where places hang afterwards
  pub hung_other : (p : ℕ) → (p ≡ target → ⊥) → (p ≡ held → ⊥) → parent_at (hung_below ps target held (Some u)) p ≡ parent_at ps p
  unfolding first second
  hung_other p t h = ap parent_in (changed_else (with_parent (Some u)) second held p h) ∙ ap parent_in (changed_else (with_parent None) first target p t) ∙ first_parent p

  pub hung_target : (target ≡ held → ⊥) → parent_at (hung_below ps target held (Some u)) target ≡ None
  unfolding first second
  hung_target h = ap parent_in (changed_else (with_parent (Some u)) second held target h) ∙ ap parent_in (changed_here (with_parent None) first target) ∙ parent_none (at first target)

  pub hung_held : used ps held ≡ true → parent_at (hung_below ps target held (Some u)) held ≡ Some u
  unfolding first second
  hung_held h =
      let a : is_some (at first held) ≡ true = keeps is_some (with_child (u.position - 1) held) (some_mapped (with_child (u.position - 1) held)) ps u.place held ∙ h in
      let b : is_some (at second held) ≡ true = keeps is_some (with_parent None) (some_mapped (with_parent None)) first target held ∙ a in
      ap parent_in (changed_here (with_parent (Some u)) second held) ∙ parent_some u (at second held) b
    where
      some_mapped : (f : Node → Node) (x : Option Node) → is_some (option_map f x) ≡ is_some x
      some_mapped f None = refl
      some_mapped f (Some n) = refl

-- the child that stands at a place hangs there
pub child_hangs : (g : Grammar) (ps : List (Option Node)) → SoundPlaces g ps → (p : ℕ) (n : Node) (k : ℕ) → at ps p ≡ Some n → k < arity g n.rule → parent_at ps (get_or n.children k 0) ≡ Some (record { place = p; position = suc k })
child_hangs g ps s p n k e h = by (at ps (get_or n.children k 0)) refl ((s.nodes p n e).children_there k h)
  where
    by : (x : Option Node) → at ps (get_or n.children k 0) ≡ x → ChildThere g p k (get_or (rule g n.rule).right k 0) x → parent_at ps (get_or n.children k 0) ≡ Some (record { place = p; position = suc k })
    by None w c = absurd c
    by (Some m) w c = ap parent_in w ∙ c.hangs

module _ (g : Grammar) (ps : List (Option Node)) (s : SoundPlaces g ps) (target held : ℕ) (u : Parent) (e : parent_at ps target ≡ Some u) where
  -- only the parent has the target as a child, and only there
  pub only_child : (p : ℕ) (n : Node) (k : ℕ) → at ps p ≡ Some n → k < arity g n.rule → get_or n.children k 0 ≡ target → (u.place ≡ p) × (u.position ≡ suc k)
  only_child p n k w h c =
      let q : Some u ≡ Some (record { place = p; position = suc k }) = sym e ∙ ap (parent_at ps) (sym c) ∙ child_hangs g ps s p n k w h in
      let v : u ≡ record { place = p; position = suc k } = cc in
      (ap (λ z. z.place) v, ap (λ z. z.position) v)

  swap_other : (c : ℕ) → (c ≡ target → ⊥) → c ≡ swap target held c
  swap_other c ne = ap (λ b. cond b held c) (sym (ne_eqb c target ne))

  swap_same : (c : ℕ) → c ≡ target → held ≡ swap target held c
  swap_same c same = ap (λ b. cond b held c) (sym (eq-eqb c target same))

  module _ (sound : Sound g) where
    -- child number k, before and after
    swapped_child : (p : ℕ) (n : Node) → at ps p ≡ Some n → (k : ℕ) → k < arity g n.rule → get_or (table g (changed_at (with_child (u.position - 1) held) ps u.place) p).kids k 0 ≡ swap target held (get_or n.children k 0)
    swapped_child p n w k h = by (eqb p u.place) refl (eqb k (u.position - 1)) refl
      where
        by : (a : Bool) → eqb p u.place ≡ a → (b : Bool) → eqb k (u.position - 1) ≡ b → get_or (table g (changed_at (with_child (u.position - 1) held) ps u.place) p).kids k 0 ≡ swap target held (get_or n.children k 0)
        by false f b _ =
            let ne = eqb-false p u.place f in
            ap (λ x. get_or (cell_of g x).kids k 0) (changed_else (with_child (u.position - 1) held) ps u.place p ne)
            ∙ kids_at g ps p n w k h
            ∙ swap_other (get_or n.children k 0) (λ c. ne (sym (only_child p n k w h c).0))
        by true f b d =
            let same = eqb-true p u.place f in
            let there : at (changed_at (with_child (u.position - 1) held) ps u.place) p ≡ Some (with_child (u.position - 1) held n) =
            ap (at (changed_at (with_child (u.position - 1) held) ps u.place)) same ∙ changed_here (with_child (u.position - 1) held) ps u.place ∙ ap (option_map (with_child (u.position - 1) held)) (ap (at ps) (sym same) ∙ w)
            in
            kids_at g (changed_at (with_child (u.position - 1) held) ps u.place) p (with_child (u.position - 1) held n) there k h ∙ here b d
          where
            here : (b : Bool) → eqb k (u.position - 1) ≡ b → get_or (set n.children (u.position - 1) held) k 0 ≡ swap target held (get_or n.children k 0)
            here true d =
                let i = eqb-true k (u.position - 1) d in
                let same = eqb-true p u.place f in
                let a = hangs g ps s target u e in
                let m : Some a.node ≡ Some n = sym a.there ∙ ap (at ps) (sym same) ∙ w in
                let j : a.node ≡ n = cc in
                let row = (s.nodes p n w).row in
                let few = (rule_sound g n.rule sound (s.nodes p n w).rule_there).few_right in
                let points : get_or n.children k 0 ≡ target = ap₂ (λ (z : Node) (y : ℕ). get_or z.children y 0) (sym j) i ∙ a.below.points in
                ap (λ y. get_or (set n.children (u.position - 1) held) y 0) i ∙ get_or-set_same n.children (u.position - 1) held 0 (omega arith) ∙ swap_same (get_or n.children k 0) points
            here false d =
                let ne = eqb-false k (u.position - 1) d in
                get_or-set_other n.children (u.position - 1) k held 0 ne
                ∙ swap_other (get_or n.children k 0) (λ c. ne (let v = (only_child p n k w h c).1 in omega arith))

    swapped_kids : (p : ℕ) → (table g (hung_below ps target held (Some u)) p).kids ≡ map (swap target held) (table g ps p).kids
    swapped_kids p = hung_kids g ps target held u p ∙ by (at ps p) refl
      where
        by : (x : Option Node) → at ps p ≡ x → (table g (changed_at (with_child (u.position - 1) held) ps u.place) p).kids ≡ map (swap target held) (table g ps p).kids
        by None w =
            let none : at (changed_at (with_child (u.position - 1) held) ps u.place) p ≡ None = changed_keeps (λ _ x. x ≡ None) (with_child (u.position - 1) held) ps u.place (λ z. ap (option_map (with_child (u.position - 1) held)) z) p w in
            ap (λ x. (cell_of g x).kids) none ∙ ap (λ x. map (swap target held) (cell_of g x).kids) (sym w)
        by (Some n) w =
            let a = changed_at (with_child (u.position - 1) held) ps u.place in
            let long : length (table g a p).kids ≡ arity g n.rule = changed_long n w in
            let old = kids_length g ps p n w in
            ext_get_or 0 (table g a p).kids (map (swap target held) (table g ps p).kids) (long ∙ sym old ∙ sym (length-map (table g ps p).kids (swap target held)))
            (λ k h.
            let l : k < arity g n.rule = omega arith in
            swapped_child p n w k l
            ∙ ap (swap target held) (sym (kids_at g ps p n w k l))
            ∙ sym (get_or-map (swap target held) (table g ps p).kids k 0 0 (omega arith)))
          where
            changed_long : (n : Node) → at ps p ≡ Some n → length (table g (changed_at (with_child (u.position - 1) held) ps u.place) p).kids ≡ arity g n.rule
            changed_long n w = changed_keeps (λ q x. at ps q ≡ Some n → length (cell_of g x).kids ≡ arity g n.rule) (with_child (u.position - 1) held) ps u.place (λ old v. part (at ps u.place) v) p (λ v. ap (λ x. length (cell_of g x).kids) v ∙ length_firsts (arity g n.rule) n.children) w
              where
                part : (x : Option Node) → x ≡ Some n → length (cell_of g (option_map (with_child (u.position - 1) held) x)).kids ≡ arity g n.rule
                part x v = ap (λ y. length (cell_of g (option_map (with_child (u.position - 1) held) y)).kids) v ∙ length_firsts (arity g n.rule) (set n.children (u.position - 1) held)

    -- the exchange of the theory
    pub hung_exchanged : used ps held ≡ true → (target ≡ held → ⊥) → Exchanged target held (table g ps) (table g (hung_below ps target held (Some u)))
    hung_exchanged there ne = record {
      rules = hung_rule g ps target held u;
      codes = λ p. hung_code g ps target held u p;
      kids = swapped_kids;
      lifted = link_is g (at (hung_below ps target held (Some u)) target) ∙ ap link_of (hung_target g ps target held u ne);
      put = link_is g (at (hung_below ps target held (Some u)) held) ∙ ap link_of (hung_held g ps target held u there ∙ sym e) ∙ sym (link_is g (at ps target));
      links = λ p t h. link_is g (at (hung_below ps target held (Some u)) p) ∙ ap link_of (hung_other g ps target held u p t h) ∙ sym (link_is g (at ps p));
    }
