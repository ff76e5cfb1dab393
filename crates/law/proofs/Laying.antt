-- Trees read off a table, and trees laid into one.
use Rattle.std.proofs.Common.{◌≡◌, ℕ, zero, suc, List, [], ◌∷◌, refl, ap, ◌∙◌, inl, inr}
use Rattle.tour.specs.Nodes.{Link, Table, Shows, above}
use Rattle.tour.specs.Nodes.Link.{under}
use Rattle.tour.specs.Runs.{In}
use Rattle.tour.specs.Shapes.{row_of, grow, tree_from}
use Rattle.tour.specs.Trees.{Forest, places, places_in}
use Rattle.tour.specs.Trees.Forest.{none, node}
use Rattle.tour.specs.Walks.{Within}
use Rattle.tour.proofs.Lists.{in_left, in_right}

module _ (T : Table) where
  -- the trees below a place, where those are known one step less deep
  below_shown : (kids : Forest) (d q : ℕ) → (T q).kids ≡ places kids → ((e : ℕ) → Within kids (suc e) → row_of T (grow T e) (places kids) ≡ kids) → Within kids d → grow T d q ≡ kids
  below_shown none zero q e f w = refl
  below_shown (node p r c kids rest) zero q e f w = absurd w
  below_shown none (suc d) q e f w = ap (row_of T (grow T d)) e
  below_shown (node p r c kids rest) (suc d) q e f w = ap (row_of T (grow T d)) e ∙ f d w

  row_shown : (f : Forest) (d : ℕ) (up : ℕ → Link) (k : ℕ) → Shows T f up k → Within f (suc d) → row_of T (grow T d) (places f) ≡ f
  row_shown none d up k s w = refl
  row_shown (node q r c kids rest) d up k (er, ec, ek, el, sk, sr) (wk, wr) =
      let b : grow T d q ≡ kids = below_shown kids d q ek (λ e. row_shown kids e (under q) 1 sk) wk in
      let h = row_shown rest d up (suc k) sr wr in
      λ i. node q (er i) (ec i) (b i) (h i)

  -- the tree that a table shows at a place is the one that is read off it there
  pub tree_at_shown : (p r c : ℕ) (kids : Forest) → Shows T (node p r c kids none) above 0 → Within (node p r c kids none) 64 → tree_from T 63 p ≡ node p r c kids none
  tree_at_shown p r c kids s w = row_shown (node p r c kids none) 63 above 0 s w

module _ (T U : Table) where
  row_same : (d : ℕ) → ((q : ℕ) → U q ≡ T q → ((p : ℕ) → In p (places_in (grow T d q)) → U p ≡ T p) → grow U d q ≡ grow T d q) → (ps : List ℕ) → ((p : ℕ) → In p (places_in (row_of T (grow T d) ps)) → U p ≡ T p) → row_of U (grow U d) ps ≡ row_of T (grow T d) ps
  row_same d f [] h = refl
  row_same d f (q ∷ ps) h =
      let e : U q ≡ T q = h q (inl refl) in
      let b = f q e (λ p m. h p (inr (in_left p (places_in (grow T d q)) (places_in (row_of T (grow T d) ps)) m))) in
      let w = row_same d f ps (λ p m. h p (inr (in_right p (places_in (grow T d q)) (places_in (row_of T (grow T d) ps)) m))) in
      λ i. node q (e i).rule (e i).code (b i) (w i)

  grow_same : (d q : ℕ) → U q ≡ T q → ((p : ℕ) → In p (places_in (grow T d q)) → U p ≡ T p) → grow U d q ≡ grow T d q
  grow_same zero q e h = refl
  grow_same (suc d) q e h = ap (λ c. row_of U (grow U d) c.kids) e ∙ row_same d (grow_same d) (T q).kids h

  -- tables that agree on the places of a tree show the same tree
  pub tree_at_same : (root : ℕ) → ((p : ℕ) → In p (places_in (tree_from T 63 root)) → U p ≡ T p) → tree_from U 63 root ≡ tree_from T 63 root
  tree_at_same root h =
      let e : U root ≡ T root = h root (inl refl) in
      let b = grow_same 63 root e (λ p m. h p (inr (in_left p (places_in (grow T 63 root)) [] m))) in
      λ i. node root (e i).rule (e i).code (b i) none
