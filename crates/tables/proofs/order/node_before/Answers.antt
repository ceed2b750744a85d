-- `tables::order::node_before` meets its contract: by the keys of their paths, then by owner. Assumes nothing.
use mathlib.Core.Path.{◌∙◌}
use lib.Dec.{ltb}
use Rattle.tables.proofs.Compare.{lexed_pair, keyed}
use Rattle.tables.proofs.Rows.{node_path}
use Rattle.tables.proofs.order.node_before.Goals as goal

pub returns : goal.returns
returns c =
    let a = c.args.a in
    let b = c.args.b in
    let j = c.key.result in
    let k = c.key-2.result in
    c.lt.ensures ∙ lexed_pair j k a.owner b.owner ∙ keyed a.path b.path (node_path c.requires.0) (node_path c.requires.1) j k c.key.ensures c.key-2.ensures (ltb a.owner b.owner)
