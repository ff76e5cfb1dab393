-- A tree's own cells are those of a table that shows it, and what an equation gives hangs on them alone.
use Rattle.std.proofs.Common.{◌≡◌, ℕ, suc, Bool, false, cond, eqb, ◌⊎◌, List, [], ◌++◌, get_or, Some, None, Option, unwrap_or, sym, refl, ap, ◌∙◌, inl, inr}
use Rattle.std.proofs.lemmas.Bool.{eq-eqb, ne_eqb, cases_eq}
use Rattle.grammar.specs.Model.{Grammar}
use Rattle.grammar.specs.declared.terms.Flow.{Flow}
use Rattle.grammar.specs.declared.terms.Flow.TheVariants.{Inherited, Synthesized}
use Rattle.tour.specs.Runs.{In, Apart}
use Rattle.tour.specs.Rules.{rule, symbol, no_attribute}
use Rattle.tour.specs.Trees.{Instance, Forest, places, places_in}
use Rattle.tour.specs.Trees.Forest.{none, node}
use Rattle.tour.specs.Nodes.{Link, Cell, Table, flow_of, Shows, above}
use Rattle.tour.specs.Nodes.Link.{top, under}
use Rattle.tour.specs.Results.{Meaning, own_sources, own_equation, applied, defining, link_sources, link_apply, sources, apply}
use Rattle.tour.proofs.Lists.{in_left, in_right, in_cases}
use Rattle.tour.proofs.Places.{apart_parts}
use Rattle.tour.proofs.Shapes.{not_top}
use Rattle.exchange.specs.Takers.{takers_at, takers_above, takers_in, takers_of}
use Rattle.exchange.specs.declared.taken.Taken.TheVariants.{Attribute}
use Rattle.law.specs.Book.{or_else, cell_in, cells_of}

-- there is no cell where no tree stands
cell_out : (p : ℕ) (f : Forest) (up : ℕ → Link) (k : ℕ) → (In p (places_in f) → ⊥) → cell_in p f up k ≡ None
cell_out p none up k n = refl
cell_out p (node q r c kids rest) up k n =
    ap (λ b. cond b (Some (record { rule = r; code = c; link = up k; kids = places kids })) (or_else (cell_in p kids (under q) 1) (cell_in p rest up (suc k)))) (ne_eqb p q (λ e. n (inl e)))
    ∙ ap (λ z. or_else z (cell_in p rest up (suc k))) (cell_out p kids (under q) 1 (λ m. n (inr (in_left p (places_in kids) (places_in rest) m))))
    ∙ cell_out p rest up (suc k) (λ m. n (inr (in_right p (places_in kids) (places_in rest) m)))

-- the cell of a shown tree is the table's
cell_in_lem : (T : Table) (p : ℕ) (f : Forest) (up : ℕ → Link) (k : ℕ) → Shows T f up k → Apart (places_in f) → In p (places_in f) → cell_in p f up k ≡ Some (T p)
cell_in_lem T p none up k sh rows m = absurd m
cell_in_lem T p (node q r c kids rest) up k (er, ec, ek, el, sk, sr) (out, rows) m =
    let parts = apart_parts (places_in kids) (places_in rest) rows in
    by (cases_eq p q) m (cell_in_lem T p kids (under q) 1 sk parts.0) (cell_in_lem T p rest up (suc k) sr parts.1) parts.2
  where
    here : Cell
    here = record { rule = r; code = c; link = up k; kids = places kids }

    chosen : Bool → Option Cell
    chosen b = cond b (Some here) (or_else (cell_in p kids (under q) 1) (cell_in p rest up (suc k)))

    is_here : T q ≡ here
    is_here i = record { rule = er i; code = ec i; link = el i; kids = ek i }

    inside : In p (places_in kids) ⊎ In p (places_in rest) → (In p (places_in kids) → cell_in p kids (under q) 1 ≡ Some (T p)) → (In p (places_in rest) → cell_in p rest up (suc k) ≡ Some (T p)) → ((x : ℕ) → In x (places_in kids) → In x (places_in rest) → ⊥) → chosen false ≡ Some (T p)
    inside (inl w) f g apart = ap (λ z. or_else z (cell_in p rest up (suc k))) (f w)
    inside (inr w) f g apart = ap (λ z. or_else z (cell_in p rest up (suc k))) (cell_out p kids (under q) 1 (λ h. apart p h w)) ∙ g w

    by : (p ≡ q) ⊎ (p ≡ q → ⊥) → (p ≡ q) ⊎ In p (places_in kids ++ places_in rest) → (In p (places_in kids) → cell_in p kids (under q) 1 ≡ Some (T p)) → (In p (places_in rest) → cell_in p rest up (suc k) ≡ Some (T p)) → ((x : ℕ) → In x (places_in kids) → In x (places_in rest) → ⊥) → chosen (eqb p q) ≡ Some (T p)
    by (inl e) w f g apart = ap chosen (eq-eqb p q e) ∙ ap Some (sym is_here ∙ ap T (sym e))
    by (inr n) (inl e) f g apart = absurd (n e)
    by (inr n) (inr w) f g apart = ap chosen (ne_eqb p q n) ∙ inside (in_cases p (places_in kids) (places_in rest) w) f g apart

-- the cells of a tree agree with the table that shows it
pub cells_agree : (T : Table) (f : Forest) → Shows T f above 0 → Apart (places_in f) → (p : ℕ) → In p (places_in f) → cells_of f p ≡ T p
cells_agree T f sh rows p m = ap (λ z. unwrap_or z (record { rule = 0; code = 0; link = top; kids = [] })) (cell_in_lem T p f above 0 sh rows m)

-- the parent of a place of shown trees stands in them too, unless the place is one of their roots
parent_in : (T : Table) (p u i : ℕ) (f : Forest) (up : ℕ → Link) (k : ℕ) → Shows T f up k → In p (places_in f) → (T p).link ≡ under u i → In u (places_in f) ⊎ ((j : ℕ) × ((T p).link ≡ up j))
parent_in T p u i none up k sh m e = absurd m
parent_in T p u i (node q r c kids rest) up k (er, ec, ek, el, sk, sr) m e = by m (λ w. parent_in T p u i kids (under q) 1 sk w e) (λ w. parent_in T p u i rest up (suc k) sr w e)
  where
    mine : (j : ℕ) × ((T p).link ≡ under q j) → u ≡ q
    mine (j, h) = same (T p).link u i q j e h
      where
        same : (l : Link) (u i q j : ℕ) → l ≡ under u i → l ≡ under q j → u ≡ q
        same l u i q j e h = cc

    by : (p ≡ q) ⊎ In p (places_in kids ++ places_in rest) → (In p (places_in kids) → In u (places_in kids) ⊎ ((j : ℕ) × ((T p).link ≡ under q j))) → (In p (places_in rest) → In u (places_in rest) ⊎ ((j : ℕ) × ((T p).link ≡ up j))) → ((u ≡ q) ⊎ In u (places_in kids ++ places_in rest)) ⊎ ((j : ℕ) × ((T p).link ≡ up j))
    by (inl h) f g = inr (k, ap (λ z. (T z).link) h ∙ el)
    by (inr w) f g = elim (in_cases p (places_in kids) (places_in rest) w) [
      | inl a ↦ elim (f a) [ inl b ↦ inl (inr (in_left u (places_in kids) (places_in rest) b)) | inr b ↦ inl (inl (mine b)) ]
      | inr a ↦ elim (g a) [ inl b ↦ inl (inr (in_right u (places_in kids) (places_in rest) b)) | inr b ↦ inr b ]
    ]

-- the parent of a place of a shown tree stands in the tree
pub parent_there : (T : Table) (f : Forest) → Shows T f above 0 → (p u i : ℕ) → In p (places_in f) → (T p).link ≡ under u i → In u (places_in f)
parent_there T f sh p u i m e = elim (parent_in T p u i f above 0 sh m e) [ inl w ↦ w | inr w ↦ absurd (not_top (T p).link u i w.1 e) ]

-- two tables that have the same cell at a place and at its parent
pub record AlikeAt (T U : Table) (p : ℕ) : Type 0 where
  pub here : U p ≡ T p
  pub parent : (u k : ℕ) → (T p).link ≡ under u k → U u ≡ T u

module _ (σ : Grammar) (T U : Table) where
  abbrev flow_in_lem : ℕ → Cell → Flow
  flow_in_lem a c = (get_or (symbol σ (rule σ c.rule).left).attributes a no_attribute).flow

  module _ {V : Type 0} (M : Meaning V) where
    own_sources_same : (p o a : ℕ) → U p ≡ T p → own_sources M σ U p o a ≡ own_sources M σ T p o a
    own_sources_same p o a e = ap (λ (c : Cell). own_sources M σ (λ z. c) p o a) e

    link_sources_same : (p a : ℕ) (l : Link) → (T p).link ≡ l → AlikeAt T U p → link_sources M σ U l a ≡ link_sources M σ T l a
    link_sources_same p a top e al = refl
    link_sources_same p a (under u k) e al = own_sources_same u k a (al.parent u k e)

    flow_sources_same : (p a : ℕ) (f : Flow) → AlikeAt T U p → link_sources M σ U (defining f p (T p).link) a ≡ link_sources M σ T (defining f p (T p).link) a
    flow_sources_same p a Synthesized al = own_sources_same p 0 a al.here
    flow_sources_same p a Inherited al = link_sources_same p a (T p).link refl al

    -- the sources of an instance hang on the cell and the parent's cell
    pub sources_same : (x : Instance) → AlikeAt T U x.0 → sources M σ U x ≡ sources M σ T x
    sources_same x al =
        ap (λ (c : Cell). link_sources M σ U (defining (flow_in_lem x.1 c) x.0 c.link) x.1) al.here
        ∙ flow_sources_same x.0 x.1 (flow_of σ T x) al

    link_apply_same : (p a : ℕ) (l : Link) (vs : List V) → (T p).link ≡ l → AlikeAt T U p → link_apply M σ U l a vs ≡ link_apply M σ T l a vs
    link_apply_same p a top vs e al = refl
    link_apply_same p a (under u k) vs e al = ap (λ (c : Cell). applied M (own_equation σ (λ z. c) u k a).function vs) (al.parent u k e)

    flow_apply_same : (p a : ℕ) (f : Flow) (vs : List V) → AlikeAt T U p → link_apply M σ U (defining f p (T p).link) a vs ≡ link_apply M σ T (defining f p (T p).link) a vs
    flow_apply_same p a Synthesized vs al = ap (λ (c : Cell). applied M (own_equation σ (λ z. c) p 0 a).function vs) al.here
    flow_apply_same p a Inherited vs al = link_apply_same p a (T p).link vs refl al

    -- and so does what its equation makes of their values
    pub apply_same : (x : Instance) (vs : List V) → AlikeAt T U x.0 → apply M σ U x vs ≡ apply M σ T x vs
    apply_same x vs al =
        ap (λ (c : Cell). link_apply M σ U (defining (flow_in_lem x.1 c) x.0 c.link) x.1 vs) al.here
        ∙ flow_apply_same x.0 x.1 (flow_of σ T x) vs al

  takers_at_same : (p o a : ℕ) (x : Instance) → U p ≡ T p → takers_at σ U p (Attribute o a) x ≡ takers_at σ T p (Attribute o a) x
  takers_at_same p o a x e = ap (λ (c : Cell). takers_at σ (λ z. c) p (Attribute o a) x) e

  takers_above_same : (p a : ℕ) (x : Instance) (l : Link) → (T p).link ≡ l → AlikeAt T U p → takers_above σ U l a x ≡ takers_above σ T l a x
  takers_above_same p a x top e al = refl
  takers_above_same p a x (under u k) e al = takers_at_same u k a x (al.parent u k e)

  takers_in_same : (p a : ℕ) (x : Instance) (f : Flow) → AlikeAt T U p → takers_in σ U f p a x ≡ takers_in σ T f p a x
  takers_in_same p a x Inherited al = takers_at_same p 0 a x al.here
  takers_in_same p a x Synthesized al = ap (λ (c : Cell). takers_above σ U c.link a x) al.here ∙ takers_above_same p a x (T p).link refl al

  -- the instances that take an instance hang on its cell and the parent's cell
  pub takers_same : (y x : Instance) → AlikeAt T U y.0 → takers_of σ U y x ≡ takers_of σ T y x
  takers_same y x al = ap (λ (c : Cell). takers_in σ U (flow_in_lem y.1 c) y.0 y.1 x) al.here ∙ takers_in_same y.0 y.1 x (flow_of σ T y) al
