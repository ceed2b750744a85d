-- `bounds::fill::with_node` meets its contract: where nobody owns the path there is no such row, and with it the table still fits. Assumes nothing.
use Rattle.path.specs.View.{steps}
use Rattle.tables.specs.View.{view_nodes}
use Rattle.bounds.proofs.Fresh.{node_new}
use Rattle.bounds.proofs.Filled.{with_node_lem, node_at_lem}
use Rattle.bounds.proofs.fill.with_node.Goals as goal

pub insert-requires : goal.insert-requires
insert-requires c =
    (node_at_lem c.args.owner c.requires.1, c.requires.0, c.if-t-ge64.false, node_new (steps c.args.p) c.args.owner (view_nodes c.args.t) c.owner_in.ensures c.in-None.is)

pub returns-else-t-ge64 : goal.returns-else-t-ge64
returns-else-t-ge64 c =
    with_node_lem c.args.owner c.requires.0 c.requires.1 c.if-t-ge64.false c.insert.ensures
