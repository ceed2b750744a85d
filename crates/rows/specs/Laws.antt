-- The three kinds of rows keep what a row promises. Assumes nothing.
use mathlib.Core.Path.{refl}
use lib.Dec.{ltb, eqb, eqb_refl}
use mir.Facts.{yes_and}
use Rattle.laws.proofs.Order.{nat_order}
use Rattle.path.specs.Address.{same}
use Rattle.path.proofs.Laws.{same_refl}
use Rattle.model.specs.Things.{lt_attribute}
use Rattle.roundtrip.proofs.Orders.{attribute_order, named_order}
use Rattle.tables.specs.View.{node_of, view_node, attribute_of, view_attribute, permission_of, view_permission, Apart}
use Rattle.tables.proofs.Rows.{view_node_lem, view_attribute_lem, view_permission_lem}
use Rattle.rows.specs.Tables.{RowLaws, Differ, lt_named}

pub node_laws : RowLaws node_of view_node ltb Differ
node_laws = record { back = view_node_lem; order = nat_order; itself = λ r f. f refl }

pub attribute_laws : RowLaws attribute_of view_attribute lt_attribute Apart
attribute_laws =
    record { back = view_attribute_lem; order = attribute_order; itself = λ r f. f (yes_and (same r.0 r.0) (eqb r.1.name r.1.name) (same_refl r.0) (eqb_refl r.1.name)) }

pub permission_laws : RowLaws permission_of view_permission lt_named Differ
permission_laws = record { back = view_permission_lem; order = named_order; itself = λ r f. f refl }
