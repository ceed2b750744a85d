-- `branch::own_nodes` meets its contract: one pass in place: every row keeps its path and is the owner's. Assumes nothing.
use mathlib.Core.Path.{◌≡◌}
use Prim.Native.Nat.{◌≤◌}
use Rattle.model.specs.Image.{owned_node}
use Rattle.tables.specs.View.{view_node, node_of, nodes_with, blank_node}
use Rattle.branch.proofs.Changes.{Changes}
use Rattle.branch.proofs.own_nodes.Given as goal

abbrev pub invariant-loop-i : goal.invariant-loop-i
invariant-loop-i l =
    (l.fn.t.count ≤ 64) × (l.nodes.count ≡ l.fn.t.count) × Changes nodes_with node_of 64 blank_node view_node (owned_node l.owner) l.initial.nodes.rows l.initial.nodes.count l.nodes.rows l.i
