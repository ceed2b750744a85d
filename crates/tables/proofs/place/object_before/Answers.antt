-- `tables::place::object_before` meets its contract: by the keys of their paths, then by name. Assumes nothing.
use mathlib.Core.Path.{◌∙◌}
use lib.Dec.{ltb}
use Rattle.tables.proofs.Compare.{lexed_pair, keyed}
use Rattle.tables.proofs.place.object_before.Goals as goal

pub returns : goal.returns
returns c =
    let j = c.key.result in
    let k = c.key-2.result in
    c.lt.ensures ∙ lexed_pair j k c.args.m c.args.n ∙ keyed c.args.p c.args.q c.requires.0 c.requires.1 j k c.key.ensures c.key-2.ensures (ltb c.args.m c.args.n)
