-- `examples::calls::fresh` meets its contract: what start gives is sound. Assumes nothing.
use mathlib.Core.Path.{sym, subst}
use Rattle.state.specs.View.{SessionSound}
use Rattle.enforce.proofs.Kept.{start_sound}
use Rattle.examples.proofs.calls.fresh.Goals as goal

pub returns : goal.returns
returns c = subst SessionSound (sym c.start.ensures) start_sound
