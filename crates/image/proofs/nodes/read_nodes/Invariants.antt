-- `image::nodes::read_nodes` meets its contract. The loop's invariant: the records so far are good nodes, the table holds them, and the keys are its column. Assumes nothing.
use mathlib.Core.Path.{◌≡◌}
use Rattle.laws.specs.Slots.{slots}
use Rattle.tables.specs.View.{view_nodes}
use Rattle.image.specs.Rows.{NodesUpto}
use Rattle.image.specs.Columns.{keys_of}
use Rattle.image.proofs.nodes.read_nodes.Given as goal

abbrev pub invariant-loop-k : goal.invariant-loop-k
invariant-loop-k l = NodesUpto l.image l.n l.k l.t × (l.keys ≡ slots 64 0 (keys_of (view_nodes l.t)))
