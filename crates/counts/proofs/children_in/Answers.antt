-- `counts::children_in` meets its contract: it counts the rows one step below q. Assumes nothing.
use Rattle.model.specs.Moves.{child_step}
use Rattle.laws.proofs.Fill.{held_room}
use Rattle.path.specs.View.{steps}
use Rattle.tables.specs.View.{view_node, no_node}
use Rattle.tables.proofs.Rows.{node_path, nodes_held}
use Rattle.counts.proofs.Walk.{row_each, hit, miss}
use Rattle.counts.proofs.children_in.Goals as goal
use Rattle.counts.proofs.children_in.Goals.{then-is_child, else-is_child}

pub shared_ref_as_front-a-items : goal.shared_ref_as_front-a-items
shared_ref_as_front-a-items c = held_room _ _ _ _ _ _ (nodes_held c.args.t c.requires.0)

pub is_child-requires : goal.is_child-requires
is_child-requires c = (node_path (row_each (nodes_held c.args.t c.requires.0) c.loop-a.a-index no_node c.loop-a-test.true), c.requires.1)

pub loop-a-preserved : goal.loop-a-preserved
loop-a-preserved c =
    let h = nodes_held c.args.t c.requires.0 in
    let e = c.is_child.ensures in
    elim c.if-is_child.branch [
      | then-is_child w ↦ hit h c.loop-a.a-index no_node c.loop-a-test.true view_node (child_step (steps c.args.q)) c.loop-a.invariant e w.if-is_child.true w.found-is
      | else-is_child w ↦ miss h c.loop-a.a-index no_node c.loop-a-test.true view_node (child_step (steps c.args.q)) c.loop-a.invariant e w.if-is_child.false w.found-is
    ]
