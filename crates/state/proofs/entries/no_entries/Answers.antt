-- `state::entries::no_entries` meets its contract: no entry, every slot blank. Assumes nothing.
use mathlib.Core.Path.{refl}
use Rattle.state.specs.View.{log_of}
use Rattle.state.proofs.entries.no_entries.Goals as goal

pub returns : goal.returns
unfolding log_of
returns c = refl
