-- `examples::room::busy` meets its contract: every request leaves a sound session. Assumes nothing.
use Rattle.state.specs.View.{SessionSound}
use Rattle.examples.proofs.room.busy.Given as goal

abbrev pub invariant-loop : goal.invariant-loop
invariant-loop l = SessionSound l.t
