-- `counts::depth_under` meets its contract: the longest of the rows at or below q. Assumes nothing.
use mathlib.Core.Path.{◌≡◌}
use Prim.Native.Nat.{max}
use lib.ListN.{drop}
use Rattle.path.specs.Address.{off}
use Rattle.path.specs.View.{steps}
use Rattle.model.specs.Moves.{carried, deepest}
use Rattle.tables.specs.View.{view_nodes}
use Rattle.counts.proofs.depth_under.Given as goal

abbrev pub invariant-loop-a : goal.invariant-loop-a
invariant-loop-a l = max l.most (deepest (carried (off (steps l.q)) (drop l.a-index (view_nodes l.fn.t)))) ≡ deepest (carried (off (steps l.q)) (view_nodes l.fn.t))
