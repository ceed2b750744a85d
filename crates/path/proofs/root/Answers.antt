-- `path::root` meets its contract: no length, and no steps. Assumes nothing.
use mathlib.Core.Path.{refl}
use Rattle.path.specs.Packed.{number}
use Rattle.path.proofs.root.Goals as goal

pub returns : goal.returns
unfolding number
returns c = refl
