-- `deeds::classes::attributes_at` meets its contract: one table changes. Assumes nothing.
use mathlib.Core.Path.{sym, subst}
use native.Mathlib.Omega.{arith}
use Rattle.tables.specs.View.{view_dossier}
use Rattle.tables.proofs.Parts.{dossier_fits, attributes_sound}
use Rattle.tables.proofs.Tables.{attributes_count}
use Rattle.edits.proofs.Whole.{whole}
use Rattle.deeds.specs.Classes.{Open}
use Rattle.deeds.proofs.Allowed.{name_room}
use Rattle.deeds.proofs.Rows.{attribute_row}
use Rattle.deeds.proofs.classes.attributes_at.Goals as goal

pub insert-requires : goal.insert-requires
insert-requires c =
    let o = subst (λ x. Open x (view_dossier c.args.d)) (sym c.placed-q.ensures.0) c.requires.2 in
    let n = name_room o.allowed c.if-q-eq8.true in
    let t = attributes_sound (dossier_fits c.requires.0) in
    let k = attributes_count _ t in
    let room = n.room in
    (attribute_row c.placed-q.ensures.1 _ _ _, t, omega arith, n.free)

pub changed-requires : goal.changed-requires
changed-requires c =
    (attributes_sound (dossier_fits c.requires.0), c.placed-q.ensures.1, (whole c.args.d c.requires.0).one_attribute)
