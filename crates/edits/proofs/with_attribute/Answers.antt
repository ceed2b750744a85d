-- `edits::with_attribute` meets its contract: one table changes. Assumes nothing.
use native.Mathlib.Omega.{arith}
use Rattle.tables.proofs.Parts.{dossier_fits, nodes_sound, attributes_sound, permissions_sound}
use Rattle.tables.proofs.Tables.{nodes_same, permissions_same, attributes_count}
use Rattle.edits.proofs.with_attribute.Goals as goal

pub insert-t-requires : goal.insert-t-requires
insert-t-requires c =
    let t = attributes_sound (dossier_fits c.requires.0) in
    let e = attributes_count _ t in
    let room = c.requires.2 in
    (c.requires.1, t, omega arith, c.requires.3)

pub returns : goal.returns
returns c =
    let h = dossier_fits c.requires.0 in
    λ i. record { nodes = nodes_same _ (nodes_sound h) i; attributes = c.insert-t.ensures i; permissions = permissions_same _ (permissions_sound h) i }
