-- `attributes::one` meets its contract: one row in an empty table. Assumes nothing.
use mathlib.Core.Path.{ap, ap₂, ◌∙◌}
use mathlib.Core.List.{[]}
use native.Mathlib.Omega.{arith}
use lib.ListN.{length}
use Rattle.laws.specs.Sorted.{insert}
use Rattle.model.specs.Things.{before_attribute}
use Rattle.model.specs.Moves.{attribute_in}
use Rattle.tables.specs.View.{view_attribute, attributes_of}
use Rattle.tables.proofs.Rows.{view_attribute_lem}
use Rattle.tables.proofs.Tables.{attributes_none, attributes_count}
use Rattle.attributes.proofs.Stored.{attribute_at_lem}
use Rattle.attributes.proofs.one.Goals as goal

pub insert-requires : goal.insert-requires
insert-requires c =
    let none = attributes_none c.no_attributes.ensures in
    let e = attributes_count c.no_attributes.result none.0 in
    let f = ap length none.1 in (
      record { model = ([], (view_attribute c.args.a).1); same = attribute_at_lem c.args.a [] c.root.ensures; fits = tt },
      none.0,
      omega arith,
      ap (attribute_in _ _) none.1,
    )

pub returns : goal.returns
returns c =
    let b = attribute_at_lem c.args.a [] c.root.ensures in
    c.insert.ensures
    ∙ ap₂ (λ q l. attributes_of (insert before_attribute q l)) (ap view_attribute b ∙ view_attribute_lem ([], (view_attribute c.args.a).1)) (attributes_none c.no_attributes.ensures).1
