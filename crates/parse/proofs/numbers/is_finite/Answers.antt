-- `parse::numbers::is_finite` meets its contract: std's word is the model's. Assumes nothing.
use mathlib.Core.Path.{◌≡◌, refl, ◌∙◌}
use lib.Ieee.{Float, nan, inf, fin}
use Rattle.std.specs.Float.{float_is_finite}
use Rattle.model.specs.Refusals.{finite}
use Rattle.parse.proofs.numbers.is_finite.Goals as goal

same_word : (x : Float) → float_is_finite x ≡ finite x
unfolding float_is_finite
same_word nan = refl
same_word (inf s) = refl
same_word (fin s m e) = refl

pub returns : goal.returns
returns c = c.is_finite.ensures.value ∙ same_word c.args.x
