-- `edits::change_value` meets its contract: one table changes; a sound dossier has one attribute for a name. Assumes nothing.
use Rattle.tables.proofs.Parts.{dossier_fits, nodes_sound, attributes_sound, permissions_sound}
use Rattle.tables.proofs.Tables.{nodes_same, permissions_same}
use Rattle.edits.proofs.Whole.{whole}
use Rattle.edits.proofs.change_value.Goals as goal

pub changed-t-requires : goal.changed-t-requires
changed-t-requires c = (attributes_sound (dossier_fits c.requires.0), c.requires.1, (whole c.args.d c.requires.0).one_attribute)

pub returns : goal.returns
returns c =
    let h = dossier_fits c.requires.0 in
    let n = nodes_same _ (nodes_sound h) in
    let g = permissions_same _ (permissions_sound h) in
    λ i. record { nodes = n i; attributes = c.changed-t.ensures i; permissions = g i }
