use Rattle.exchange.proofs.Existing.{woken_sound}
use Rattle.exchange.proofs.Keeping.{slept_sound}
use Rattle.exchange.proofs.laws.marking_stands.Goals as goal

pub returns : goal.returns
returns c = record {
  wakes_sound = λ g sound ps qs y s h w. woken_sound g sound ps s qs y h w;
  clears_sound = slept_sound;
}
