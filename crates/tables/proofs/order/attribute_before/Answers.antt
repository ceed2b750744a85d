-- `tables::order::attribute_before` meets its contract: by the keys of their paths, then by name, which decides. Assumes nothing.
use mathlib.Core.Path.{◌∙◌}
use lib.Dec.{ltb}
use Rattle.path.specs.View.{steps}
use Rattle.tables.proofs.Compare.{lexed_pair, keyed, apart}
use Rattle.tables.proofs.Rows.{attribute_path}
use Rattle.tables.proofs.order.attribute_before.Goals as goal

pub returns : goal.returns
returns c =
    let a = c.args.a in
    let b = c.args.b in
    let j = c.key.result in
    let k = c.key-2.result in
    c.lt.ensures ∙ lexed_pair j k a.name b.name ∙ keyed a.path b.path (attribute_path c.requires.0) (attribute_path c.requires.1) j k c.key.ensures c.key-2.ensures (ltb a.name b.name)
    ∙ apart (steps a.path) (steps b.path) a.name b.name c.requires.2 _
