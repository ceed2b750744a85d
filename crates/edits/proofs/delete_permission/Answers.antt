-- `edits::delete_permission` meets its contract: one table changes. Assumes nothing.
use Rattle.tables.proofs.Parts.{nodes_sound, attributes_sound}
use Rattle.tables.proofs.Tables.{nodes_same, attributes_same}
use Rattle.edits.proofs.delete_permission.Goals as goal

pub returns : goal.returns
returns c =
    let h = c.requires.0 in
    λ i. record { nodes = nodes_same _ (nodes_sound h) i; attributes = attributes_same _ (attributes_sound h) i; permissions = c.except-t.ensures i }
