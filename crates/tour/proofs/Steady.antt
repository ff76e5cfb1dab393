-- What the calls that change the table keep.
use Rattle.std.proofs.Common.{◌≡◌, ℕ, ◌<◌, Bool, true, ◌⊎◌, [], length, get_or, sym, refl, ap, ◌∙◌, subst, inl, inr, arith}
use mathlib.Core.Path.{fun_ext}
use native.Mathlib.Decide.{ℕ_discrete}
use Rattle.grammar.specs.Model.{Grammar}
use Rattle.grammar.specs.declared.terms.Flow.{Flow}
use Rattle.grammar.specs.declared.terms.Flow.TheVariants.{Inherited, Synthesized}
use Rattle.tour.specs.Runs.{State}
use Rattle.tour.specs.Rules.{no_attribute, symbol, rule}
use Rattle.tour.specs.Trees.{Instance}
use Rattle.tour.specs.Trees.Forest.{none}
use Rattle.tour.specs.Nodes.{Link, Table, flow_of}
use Rattle.tour.specs.Nodes.Link.{top, under}
use Rattle.tour.specs.Exchange.{Exchanged}
use Rattle.tour.specs.Results.{Meaning, result, engine}
use Rattle.tour.specs.Steady.{Live, Steady, Woken, Untouched, Steadiness}
use Rattle.tour.specs.Steady.Woken.{root, own, sibling}
use Rattle.tour.proofs.Sources.{result_local}
use Rattle.tour.proofs.Results.{result_kept, result_cells, Asleep, Spared}

module _ {V : Type 0} (M : Meaning V) (σ : Grammar) (q h : ℕ) (T U : Table) (used : ℕ → Bool) (ex : Exchanged q h T U) where
  flow_kept : (x : Instance) → flow_of σ U x ≡ flow_of σ T x
  flow_kept x = ap (λ z. (get_or (symbol σ (rule σ z).left).attributes x.1 no_attribute).flow) (ex.rules x.0)

  -- what has an equation after a drop and is not woken had it before, and the drop does not touch it
  asleep : (x : Instance) → Live σ U used x → (Woken σ T U q h x → ⊥) → (k : Flow) → flow_of σ T x ≡ k → Asleep M σ q h T U ex k x.0 x.1 × Live σ T used x
  asleep x li n Synthesized e = (
    (λ t. n (own e t)),
    record { place = li.place; attribute = subst (λ z. x.1 < length (symbol σ (rule σ z).left).attributes) (ex.rules x.0) li.attribute; below = λ w l. absurd (let z : ◌≡◌ {A = ℕ} 0 1 = cc in omega arith) },
  )
  asleep x li n Inherited e = go (ℕ_discrete x.0 q) (ℕ_discrete x.0 h)
    where
      spared : (l : Link) → (T x.0).link ≡ l → Spared M σ q h T U ex l x.1
      spared top w = tt
      spared (under u k) w = λ t. n (sibling e w t)

      go : Dec (x.0 ≡ q) → Dec (x.0 ≡ h) → Asleep M σ q h T U ex Inherited x.0 x.1 × Live σ T used x
      go (yes a) d = absurd (li.below (flow_kept x ∙ e) (ap (λ z. (U z).link) a ∙ ex.lifted))
      go (no a) (yes b) = absurd (n (subst (λ z. Woken σ T U q h (z, x.1)) (sym b) (root (subst (λ z. flow_of σ T (z, x.1) ≡ Inherited) b e))))
      go (no a) (no b) = (
        (a, b, spared (T x.0).link refl),
        record { place = li.place; attribute = subst (λ z. x.1 < length (symbol σ (rule σ z).left).attributes) (ex.rules x.0) li.attribute; below = λ w l. li.below (flow_kept x ∙ w) (ex.links x.0 a b ∙ l) },
      )

  pub drop_steady : (s t : State Instance V) → ((x : Instance) → t.value x ≡ s.value x) → ((x : Instance) → Live σ U used x → (s.owed x ≡ true) ⊎ Woken σ T U q h x → t.owed x ≡ true) → Steady M σ T used s → Steady M σ U used t
  drop_steady s t ev ow st x li n =
      let w = asleep x li (λ z. n (ow x li (inr z))) (flow_of σ T x) refl in
      ev x ∙ st x w.1 (λ z. n (ow x li (inl z))) ∙ sym (result_kept M σ q h T U ex x s.value w.0) ∙ ap (λ v. result M σ U x v) (sym (fun_ext ev))

pub cells_steady : {V : Type 0} (M : Meaning V) (σ : Grammar) (T U : Table) (used later : ℕ → Bool) (s t : State Instance V) → ((x : Instance) → Live σ U later x → (t.owed x ≡ true) ⊎ Untouched M σ T U used s t x) → Steady M σ T used s → Steady M σ U later t
cells_steady M σ T U used later s t f st x li n = elim (f x li) [
  | inl w ↦ absurd (n w)
  | inr w ↦
      w.value ∙ st x w.live (λ z. n (w.marked z))
      ∙ sym (result_local (engine M σ T none []) x t.value s.value w.arguments)
      ∙ sym (result_cells M σ T U x t.value w.cell w.parent)
]

pub steadiness : (V : Type 0) → Steadiness V
steadiness V = record {
  drops = λ M σ q h T U used s t ex ev ow st. drop_steady M σ q h T U used ex s t ev ow st;
  changes = λ M σ T U used later s t f st. cells_steady M σ T U used later s t f st;
}
