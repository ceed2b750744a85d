-- `examples::room::chain` meets its contract: every request leaves a sound session. Assumes nothing.
use Rattle.state.specs.View.{SessionSound}
use Rattle.examples.proofs.room.chain.Given as goal

abbrev pub invariant-loop-n : goal.invariant-loop-n
invariant-loop-n l = SessionSound l.t
