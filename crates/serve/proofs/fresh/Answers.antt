-- `serve::fresh` meets its contract. Assumes nothing.
use mathlib.Core.List.{[]}
use Rattle.model.specs.Things as things
use Rattle.twin.proofs.KeptSound.{kept_sound}
use Rattle.serve.proofs.fresh.Goals as goal

pub returns : goal.returns
returns c = record { model = things.fresh; same = c.start.ensures; fits = kept_sound [] }
