-- `attributes::insert` meets its contract: the name is not taken, so the attribute differs from every row in path or name. Assumes nothing.
use Rattle.std.proofs.Common.{rules}
use Rattle.tables.specs.View.{attributes_of, view_attribute, view_attributes}
use Rattle.attributes.proofs.Fresh.{attribute_apart}
use Rattle.attributes.proofs.insert.Goals as goal

pub insert-requires : goal.insert-requires
unfolding attributes_of
insert-requires c =
    (search rules, ((c.requires.0, c.requires.1), (c.requires.2, λ r h. attribute_apart (view_attribute c.args.a) r (view_attributes c.args.t) c.requires.3 h)))
