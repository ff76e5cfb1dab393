-- A block on its way to being free.
use Rattle.std.proofs.Common.{◌≡◌, ℕ, zero, suc, ◌-◌, ◌<◌, Bool, true, false, eqb, ◌⊎◌, List, [], ◌∷◌, ◌++◌, length, get_or, set, is_some, Some, None, Option, sym, refl, ap, ◌∙◌, subst, inl, inr, arith, length-append, get_or-set_other, get_or-set_same, eqb-true}
use borrow.Author.Tests.{eqb-false}
use Rattle.std.proofs.lemmas.List.{length-set, same_from_push}
use Rattle.grammar.specs.Model.{Grammar}
use Rattle.tour.specs.Rules.{rule}
use Rattle.places.specs.Places.{at, used, parent_in, parent_at, arity, table}
use Rattle.places.specs.Shape.{top_from, ChildThere, ParentThere, HangsBelow, SoundPlaces}
use Rattle.places.specs.declared.node.Node.{Node}
use Rattle.places.specs.declared.node.Parent.{Parent}
use Rattle.exchange.specs.Freeing.{Freed, UsedChild}
use Rattle.exchange.specs.Takers.{FitsThere, FitsAt}
use Rattle.exchange.proofs.Climbing.{lineage, passed, lineage_passed, lineage_length, top_top, up, top_up}
use Rattle.exchange.proofs.Soundness.{sound_fits}
use Rattle.exchange.proofs.Targets.{used_within, kids_length, kids_at}

never : {X : Type 0} → false ≡ true → X
never e = let z : ◌≡◌ {A = ℕ} 0 1 = cc in absurd (omega arith)

-- a used place holds a node
pub node_there : (x : Option Node) → is_some x ≡ true → (n : Node) × (x ≡ Some n)
node_there None h = never h
node_there (Some n) h = (n, refl)

-- the list is empty and the root free, or the list is the way down to a used place of the block
pub record Walking (ps now : List (Option Node)) (block : ℕ) (st : List ℕ) : Type 0 where
  pub place : ℕ
  pub path : st ≡ lineage ps 64 place
  pub there : used now place ≡ true
  pub inside : top_from ps 64 place ≡ block

pub record Freeing (ps now : List (Option Node)) (block : ℕ) (st : List ℕ) : Type 0 where
  pub long : length now ≡ length ps
  pub parts : (q : ℕ) → (at now q ≡ at ps q) ⊎ ((at now q ≡ None) × (top_from ps 64 q ≡ block))
  pub above : (q : ℕ) (u : Parent) → used now q ≡ true → parent_at ps q ≡ Some u → used now u.place ≡ true
  pub where_at : ((st ≡ []) × (used now block ≡ false)) ⊎ Walking ps now block st

-- what is still used is as it was
pub still : (ps now : List (Option Node)) (block : ℕ) (st : List ℕ) → Freeing ps now block st → (q : ℕ) → used now q ≡ true → at now q ≡ at ps q
still ps now block st f q h = by (f.parts q)
  where
    by : (at now q ≡ at ps q) ⊎ ((at now q ≡ None) × (top_from ps 64 q ≡ block)) → at now q ≡ at ps q
    by (inl e) = e
    by (inr e) = never (sym (ap is_some e.0) ∙ h)

nil_or_push : (st : List ℕ) (p : ℕ) → [] ≡ st ++ p ∷ [] → ⊥
nil_or_push st p e = let l = ap length e in let k = length-append st (p ∷ []) in omega arith

-- the last place of the list
pub record Last (ps now : List (Option Node)) (block : ℕ) (st : List ℕ) (p : ℕ) : Type 0 where
  pub above_it : st ≡ passed ps 63 (parent_at ps p)
  pub there : used now p ≡ true
  pub inside : top_from ps 64 p ≡ block

pub last : (ps now : List (Option Node)) (block : ℕ) (st : List ℕ) (p : ℕ) → Freeing ps now block (st ++ p ∷ []) → Last ps now block st p
last ps now block st p f = by f.where_at
  where
    by : ((st ++ p ∷ [] ≡ []) × (used now block ≡ false)) ⊎ Walking ps now block (st ++ p ∷ []) → Last ps now block st p
    by (inl e) = absurd (nil_or_push st p (sym e.0))
    by (inr w) =
        let s = same_from_push st (passed ps 63 (parent_at ps w.place)) p w.place (w.path ∙ lineage_passed ps 63 w.place) in
        record {
          above_it = s.0 ∙ ap (λ q. passed ps 63 (parent_at ps q)) (sym s.1);
          there = ap (used now) s.1 ∙ w.there;
          inside = ap (top_from ps 64) s.1 ∙ w.inside;
        }

module _ (g : Grammar) (ps : List (Option Node)) (s : SoundPlaces g ps) (block : ℕ) where
  -- the beginning
  pub freeing_starts : used ps block ≡ true → parent_at ps block ≡ None → Freeing ps ps block (block ∷ [])
  freeing_starts h e = record {
    long = refl;
    parts = λ q. inl refl;
    above = λ q u k v. parent_used_there q u k v;
    where_at = inr (record { place = block; path = sym (lineage_passed ps 63 block ∙ ap (λ z. passed ps 63 z ++ block ∷ []) e); there = h; inside = top_top ps 63 block e });
  }
    where
      there : (q : ℕ) (m : Option Node) (k : ℕ) → ParentThere g q k m → is_some m ≡ true
      there q None k c = absurd c
      there q (Some n) k c = refl

      parent_used_there : (q : ℕ) (u : Parent) → used ps q ≡ true → parent_at ps q ≡ Some u → used ps u.place ≡ true
      parent_used_there q u k v =
          let n = node_there (at ps q) k in
          let e : n.0.parent ≡ Some u = ap parent_in (sym n.1) ∙ v in
          there q (at ps u.place) u.position (subst (HangsBelow g ps q) e (s.nodes q n.0 n.1).parent_there)

  -- the last place still fits
  pub last_fits : (now : List (Option Node)) (st : List ℕ) (p : ℕ) → Freeing ps now block (st ++ p ∷ []) → FitsAt g now p
  last_fits now st p f =
      let l = last ps now block st p f in
      let n = node_there (at now p) l.there in
      let e : at ps p ≡ Some n.0 = sym (still ps now block (st ++ p ∷ []) f p l.there) ∙ n.1 in
      let t = sound_fits g ps s p n.0 e in
      subst (FitsThere g now) (sym n.1) (record { rule_there = t.rule_there; children_within = λ k h. (let a = t.children_within k h in let b = f.long in omega arith) })

  -- one place further down
  pub went_down : (now : List (Option Node)) (st : List ℕ) (p child : ℕ) → Freeing ps now block (st ++ p ∷ []) → UsedChild now (table g now p).kids (Some child) → (length (st ++ p ∷ []) < 64) × Freeing ps now block ((st ++ p ∷ []) ++ child ∷ [])
  went_down now st p child f c =
      let l = last ps now block st p f in
      let n = node_there (at now p) l.there in
      let e : at ps p ≡ Some n.0 = sym (still ps now block (st ++ p ∷ []) f p l.there) ∙ n.1 in
      let k = c.1.0 in
      let h : k < arity g n.0.rule = (let a = kids_length g now p n.0 n.1 in let b = c.1.1 in omega arith) in
      let kid : child ≡ get_or n.0.children k 0 = c.1.2 ∙ kids_at g now p n.0 n.1 k h in
      let m = node_there (at ps child) (ap is_some (sym (still ps now block (st ++ p ∷ []) f child c.0)) ∙ c.0) in
      let there = subst (ChildThere g p k (get_or (rule g n.0.rule).right k 0)) (ap (at ps) (sym kid) ∙ m.1) ((s.nodes p n.0 e).children_there k h) in
      let par : parent_at ps child ≡ Some (record { place = p; position = suc k }) = ap parent_in m.1 ∙ there.hangs in
      let v = up ps 64 child (record { place = p; position = suc k }) (s.nodes child m.0 m.1).ends par in
      let way : st ++ p ∷ [] ≡ lineage ps 64 p = ap (λ z. z ++ p ∷ []) l.above_it ∙ sym (lineage_passed ps 63 p) in
      let room : length (st ++ p ∷ []) < 64 = (let a = lineage_length ps 64 child in let b = ap length v.lineage_one in let d = length-append (lineage ps 64 p) (child ∷ []) in let i = ap length way in omega arith) in (
        room,
        record {
          long = f.long;
          parts = f.parts;
          above = f.above;
          where_at = inr (record { place = child; path = ap (λ z. z ++ child ∷ []) way ∙ sym v.lineage_one; there = c.0; inside = v.top_same ∙ l.inside });
        },
      )

  -- the place at the end of the list goes, none of its children being used
  module _ (now : List (Option Node)) (st : List ℕ) (p : ℕ) (f : Freeing ps now block (st ++ p ∷ [])) (c : UsedChild now (table g now p).kids None) where
    it : Last ps now block st p
    it = last ps now block st p f

    gone_here : at (set now p None) p ≡ None
    gone_here = get_or-set_same now p None None (used_within now p it.there)

    gone_else : (q : ℕ) → (q ≡ p → ⊥) → at (set now p None) q ≡ at now q
    gone_else q ne = get_or-set_other now p q None None ne

    -- p is not the parent of a place that is still used
    no_child : (q : ℕ) (u : Parent) → used now q ≡ true → parent_at ps q ≡ Some u → u.place ≡ p → ⊥
    no_child q u h v e =
        let m = node_there (at now q) h in
        let mq : at ps q ≡ Some m.0 = sym (still ps now block (st ++ p ∷ []) f q h) ∙ m.1 in
        let n = node_there (at now p) it.there in
        let np : at ps p ≡ Some n.0 = sym (still ps now block (st ++ p ∷ []) f p it.there) ∙ n.1 in
        let par : m.0.parent ≡ Some u = ap parent_in (sym mq) ∙ v in
        let below = subst (ParentThere g q u.position) (ap (at ps) e ∙ np) (subst (HangsBelow g ps q) par (s.nodes q m.0 mq).parent_there) in
        let k : u.position - 1 < arity g n.0.rule = (let a = below.first in let b = below.last in omega arith) in
        let w : u.position - 1 < length (table g now p).kids = (let a = kids_length g now p n.0 n.1 in omega arith) in
        never (sym (c (u.position - 1) w) ∙ ap (used now) (kids_at g now p n.0 n.1 (u.position - 1) k ∙ below.points) ∙ h)

    gone_used : (q : ℕ) → used (set now p None) q ≡ true → (q ≡ p → ⊥) × (used now q ≡ true)
    gone_used q h =
        let ne : q ≡ p → ⊥ = λ e. never (sym (ap is_some (ap (at (set now p None)) e ∙ gone_here)) ∙ h) in
        (ne, sym (ap is_some (gone_else q ne)) ∙ h)

    on_the_way : (u : Option Parent) → parent_at ps p ≡ u → ((st ≡ []) × (used (set now p None) block ≡ false)) ⊎ Walking ps (set now p None) block st
    on_the_way None e = inl (it.above_it ∙ ap (passed ps 63) e, ap (used (set now p None)) (sym it.inside ∙ top_top ps 63 p e) ∙ ap is_some gone_here)
    on_the_way (Some u) e =
        let n = node_there (at now p) it.there in
        let np : at ps p ≡ Some n.0 = sym (still ps now block (st ++ p ∷ []) f p it.there) ∙ n.1 in
        let v = up ps 64 p u (s.nodes p n.0 np).ends e in
        let way = same_from_push st (lineage ps 64 u.place) p p (ap (λ z. z ++ p ∷ []) it.above_it ∙ sym (lineage_passed ps 63 p) ∙ v.lineage_one) in
        let other : u.place ≡ p → ⊥ = λ k. (let a = ap length (v.lineage_one ∙ ap (λ z. lineage ps 64 z ++ p ∷ []) k) in let b = length-append (lineage ps 64 p) (p ∷ []) in omega arith) in
        inr (record {
          place = u.place;
          path = way.0;
          there = ap is_some (gone_else u.place other) ∙ f.above p u it.there e;
          inside = sym v.top_same ∙ it.inside;
        })

    pub let_go : Freeing ps (set now p None) block st
    let_go = record {
      long = length-set now p None ∙ f.long;
      parts = λ q. apart q (eqb q p) refl;
      above = λ q u h v.
          let o = gone_used q h in
          ap is_some (gone_else u.place (no_child q u o.1 v)) ∙ f.above q u o.1 v;
      where_at = on_the_way (parent_at ps p) refl;
    }
      where
        old : (q : ℕ) → (q ≡ p → ⊥) → (at now q ≡ at ps q) ⊎ ((at now q ≡ None) × (top_from ps 64 q ≡ block)) → (at (set now p None) q ≡ at ps q) ⊎ ((at (set now p None) q ≡ None) × (top_from ps 64 q ≡ block))
        old q ne (inl e) = inl (gone_else q ne ∙ e)
        old q ne (inr e) = inr (gone_else q ne ∙ e.0, e.1)

        apart : (q : ℕ) (b : Bool) → eqb q p ≡ b → (at (set now p None) q ≡ at ps q) ⊎ ((at (set now p None) q ≡ None) × (top_from ps 64 q ≡ block))
        apart q true h = let e = eqb-true q p h in inr (ap (at (set now p None)) e ∙ gone_here, ap (top_from ps 64) e ∙ it.inside)
        apart q false h = old q (eqb-false q p h) (f.parts q)

  -- from a used place climbing ends at a used one
  ends_used : (now : List (Option Node)) → ((q : ℕ) (u : Parent) → used now q ≡ true → parent_at ps q ≡ Some u → used now u.place ≡ true) → (n q : ℕ) → used now q ≡ true → used now (top_from ps n q) ≡ true
  ends_used now above zero q h = h
  ends_used now above (suc n) q h = by (ends_used now above n) (parent_at ps q) refl
    where
      by : ((r : ℕ) → used now r ≡ true → used now (top_from ps n r) ≡ true) → (u : Option Parent) → parent_at ps q ≡ u → used now (top_from ps (suc n) q) ≡ true
      by less None e = ap (used now) (top_top ps n q e) ∙ h
      by less (Some u) e = ap (used now) (top_up ps n q u e) ∙ less u.place (above q u h e)

  pub all_free : (now : List (Option Node)) → Freeing ps now block [] → Freed ps now block
  all_free now f = record {
    long = f.long;
    inside = λ q h. free q h (at now q) refl;
    outside = λ q ne. same q ne (f.parts q);
  }
    where
      root : ((◌≡◌ {A = List ℕ} [] []) × (used now block ≡ false)) ⊎ Walking ps now block [] → used now block ≡ false
      root (inl e) = e.1
      root (inr w) = absurd (nil_or_push (passed ps 63 (parent_at ps w.place)) w.place (w.path ∙ lineage_passed ps 63 w.place))

      free : (q : ℕ) → top_from ps 64 q ≡ block → (x : Option Node) → at now q ≡ x → at now q ≡ None
      free q h None e = e
      free q h (Some n) e = never (sym (root f.where_at) ∙ ap (used now) (sym h) ∙ ends_used now f.above 64 q (ap is_some e))

      same : (q : ℕ) → (top_from ps 64 q ≡ block → ⊥) → (at now q ≡ at ps q) ⊎ ((at now q ≡ None) × (top_from ps 64 q ≡ block)) → at now q ≡ at ps q
      same q ne (inl e) = e
      same q ne (inr e) = absurd (ne e.1)

-- how many places are used
abbrev pub used_in : List (Option Node) → ℕ
used_in [] = 0
used_in (None ∷ ps) = used_in ps
used_in (Some n ∷ ps) = suc (used_in ps)

pub one_less : (ps : List (Option Node)) (p : ℕ) → used ps p ≡ true → suc (used_in (set ps p None)) ≡ used_in ps
one_less [] p h = never h
one_less (None ∷ ps) zero h = never h
one_less (Some n ∷ ps) zero h = refl
one_less (None ∷ ps) (suc p) h = one_less ps p h
one_less (Some n ∷ ps) (suc p) h = ap suc (one_less ps p h)
