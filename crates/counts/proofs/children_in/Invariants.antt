-- `counts::children_in` meets its contract: it counts the rows one step below q. Assumes nothing.
use Rattle.model.specs.Moves.{child_step}
use Rattle.path.specs.View.{steps}
use Rattle.tables.specs.View.{view_nodes}
use Rattle.tables.proofs.Asked.{Counts}
use Rattle.counts.proofs.children_in.Given as goal

abbrev pub invariant-loop-a : goal.invariant-loop-a
invariant-loop-a l = Counts (child_step (steps l.q)) (view_nodes l.fn.t) l.a-index l.found
