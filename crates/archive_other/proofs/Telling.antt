-- Values that have texts of their own are told apart by them.
use Rattle.std.proofs.Common.{◌≡◌, ℕ, Bool, List, Decides, sym, ap, ◌∙◌}
use Rattle.std.proofs.lemmas.Bool.Decides.{Decides-like}

pub told : {V : Type 0} (texts : V → List ℕ) → ((v w : V) → texts v ≡ texts w → v ≡ w)
    → (v w : V) (one other : List ℕ) (r : Bool) → one ≡ texts v → other ≡ texts w → Decides r (one ≡ other) → Decides r (v ≡ w)
told texts apart v w one other r p q d = Decides-like r (λ e. apart v w (sym p ∙ e ∙ q)) (λ e. p ∙ ap texts e ∙ sym q) d
