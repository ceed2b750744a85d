-- `bounds::fill::with_attribute` meets its contract: an absent attribute may be put in, and with it the table still fits. Assumes nothing.
use Rattle.path.specs.View.{steps}
use Rattle.tables.specs.View.{view_value, view_attributes}
use Rattle.bounds.proofs.Fresh.{attribute_new}
use Rattle.bounds.proofs.Filled.{with_attribute_lem, attribute_at_lem}
use Rattle.bounds.proofs.fill.with_attribute.Goals as goal

pub insert-requires : goal.insert-requires
insert-requires c =
    let a = c.args in (
      attribute_at_lem a.name a.owner a.value c.requires.1,
      c.requires.0,
      c.if-t-ge256.false,
      attribute_new (steps a.p) (record { name = a.name; owner = a.owner; value = view_value a.value }) (view_attributes a.t) c.attribute_in.ensures c.in-None.is,
    )

pub returns-else-t-ge256 : goal.returns-else-t-ge256
returns-else-t-ge256 c =
    let a = c.args in
    with_attribute_lem (record { name = a.name; owner = a.owner; value = view_value a.value }) c.requires.0 c.requires.1 c.if-t-ge256.false c.insert.ensures
