-- `edits::delete_attribute` meets its contract: two tables change. Assumes nothing.
use Rattle.tables.proofs.Parts.{nodes_sound}
use Rattle.tables.proofs.Tables.{nodes_same}
use Rattle.edits.proofs.delete_attribute.Goals as goal

pub returns : goal.returns
returns c =
    let h = c.requires.0 in
    λ i. record { nodes = nodes_same _ (nodes_sound h) i; attributes = c.without-t.ensures i; permissions = c.without-kept.ensures i }
