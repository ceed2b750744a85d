-- The attribute, unless it is the one of that name at p. Assumes nothing.
use Rattle.path.specs.View.{steps}
use Rattle.model.specs.Moves.{other_attribute}
use Rattle.tables.specs.View.{view_attribute, attribute_of}
use Rattle.tables.proofs.Rows.{attribute_same}
use Rattle.rows.proofs.Steps.{so_not, kept, dropped}
use Rattle.attributes.proofs.fn.without.moved.Goals as goal

pub returns-then-is_at : goal.returns-then-is_at
returns-then-is_at c = dropped attribute_of (other_attribute (steps c.captures.p) c.captures.name) (view_attribute c.args.row) (so_not c.is_at.ensures c.if-is_at.true)

pub returns-else-is_at : goal.returns-else-is_at
returns-else-is_at c =
    kept attribute_of (other_attribute (steps c.captures.p) c.captures.name) (attribute_same c.args.row c.requires.0) (so_not c.is_at.ensures c.if-is_at.false)
