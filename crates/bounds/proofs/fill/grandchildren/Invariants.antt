-- `bounds::fill::grandchildren` meets its contract: the table stays sound. Assumes nothing.
use Prim.Native.Nat.{◌≤◌}
use Rattle.tables.specs.View.{NodesSound}
use Rattle.bounds.proofs.fill.grandchildren.Given as goal

abbrev pub invariant-loop-k : goal.invariant-loop-k
invariant-loop-k l = (l.k ≤ 26) × NodesSound l.all
