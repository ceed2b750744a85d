-- `counts::nodes_under` meets its contract: it counts the rows at or below q. Assumes nothing.
use mathlib.Core.Path.{◌∙◌}
use lib.ListN.{get_or, take}
use Rattle.path.specs.Address.{off}
use Rattle.model.specs.Moves.{carry}
use Rattle.tables.proofs.Asked.{off_there}
use Rattle.laws.proofs.Fill.{held_room}
use Rattle.path.specs.View.{steps}
use Rattle.tables.specs.View.{view_node, no_node}
use Rattle.tables.proofs.Rows.{node_path, nodes_held}
use Rattle.counts.proofs.Walk.{row_each, hit, miss}
use Rattle.counts.proofs.nodes_under.Goals as goal
use Rattle.counts.proofs.nodes_under.Goals.{then-is_under, else-is_under}

pub shared_ref_as_front-a-items : goal.shared_ref_as_front-a-items
shared_ref_as_front-a-items c = held_room _ _ _ _ _ _ (nodes_held c.args.t c.requires.0)

pub is_under-requires : goal.is_under-requires
is_under-requires c = (node_path (row_each (nodes_held c.args.t c.requires.0) c.loop-a.a-index no_node c.loop-a-test.true), c.requires.1)

pub loop-a-preserved : goal.loop-a-preserved
loop-a-preserved c =
    let h = nodes_held c.args.t c.requires.0 in
    let e = (c.is_under.ensures ∙ off_there (steps c.args.q) (view_node (get_or (take c.args.t.count c.args.t.rows) c.loop-a.a-index no_node))) in
    elim c.if-is_under.branch [
      | then-is_under w ↦ hit h c.loop-a.a-index no_node c.loop-a-test.true view_node (carry (off (steps c.args.q))) c.loop-a.invariant e w.if-is_under.true w.found-is
      | else-is_under w ↦ miss h c.loop-a.a-index no_node c.loop-a-test.true view_node (carry (off (steps c.args.q))) c.loop-a.invariant e w.if-is_under.false w.found-is
    ]
