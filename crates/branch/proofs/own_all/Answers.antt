-- `branch::own_all` meets its contract: two tables are the owner's, the third stays. Assumes nothing.
use Rattle.tables.proofs.Parts.{permissions_sound}
use Rattle.tables.proofs.Tables.{permissions_same}
use Rattle.branch.proofs.own_all.Goals as goal

pub returns : goal.returns
returns c =
    let stay = permissions_same c.args.d.permissions (permissions_sound c.requires) in
    λ i. record { nodes = c.own_nodes-nodes.ensures i; attributes = c.own_attributes-attributes.ensures i; permissions = stay i }
