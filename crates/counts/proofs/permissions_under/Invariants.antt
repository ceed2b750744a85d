-- `counts::permissions_under` meets its contract: it counts the rows at or below q. Assumes nothing.
use Rattle.path.specs.Address.{off}
use Rattle.model.specs.Moves.{carry}
use Rattle.path.specs.View.{steps}
use Rattle.tables.specs.View.{view_permissions}
use Rattle.tables.proofs.Asked.{Counts}
use Rattle.counts.proofs.permissions_under.Given as goal

abbrev pub invariant-loop-a : goal.invariant-loop-a
invariant-loop-a l = Counts (carry (off (steps l.q))) (view_permissions l.fn.t) l.a-index l.found
