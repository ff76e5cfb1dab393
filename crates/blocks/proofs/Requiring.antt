-- What was required.
use Rattle.std.proofs.Common.{◌≡◌, Bool, true, false, Some, None, Ok, Err, Result, refl, sym, ap, ◌∙◌}
use Rattle.std.specs.Prelude.{if◌then◌else◌}
use Rattle.std.specs.Result.{result_err}
use Rattle.std.proofs.lemmas.Option.{none-some}
use Rattle.blocks.specs.Block.{if_not}
use Rattle.blocks.specs.declared.piece.BlockFault.{BlockFault}

pub refused : {E : Type 0} (b : Bool) (r : Result (Unit {0}) E) (f x : E) → result_err r ≡ (if b then None else Some f) → r ≡ Err x → b ≡ false
refused true r f x e h = absurd (none-some x (sym e ∙ ap result_err h))
refused false r f x e h = refl

pub passed : {E : Type 0} (b : Bool) (r : Result (Unit {0}) E) (f : E) (u : Unit {0}) → result_err r ≡ (if b then None else Some f) → r ≡ Ok u → b ≡ true
passed true r f u e h = refl
passed false r f u e h = absurd (none-some f (sym (ap result_err h) ∙ e))

pub asked : (b : Bool) (f : BlockFault) → (if b then None else Some f) ≡ if_not b f None
asked true f = refl
asked false f = refl
