-- `bounds::show::nodes` is safe: the count stays within the table, and each row's path is one. Assumes nothing.
use Rattle.laws.proofs.Fill.{held_room}
use Rattle.tables.proofs.Rows.{node_path, nodes_held}
use Rattle.bounds.proofs.Rows.{held_row}
use Rattle.bounds.proofs.show.nodes.Goals as goal

pub shared_ref_as_front-a-items : goal.shared_ref_as_front-a-items
shared_ref_as_front-a-items g c = held_room _ _ _ _ _ _ (nodes_held c.args.t c.requires)

pub node-requires : goal.node-requires
node-requires g c = node_path (held_row _ _ _ _ _ _ (nodes_held c.args.t c.requires) _ _ c.loop-a-test.true)
