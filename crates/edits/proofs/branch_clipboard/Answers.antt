-- `edits::branch_clipboard` meets its contract: a branch as it is. Assumes nothing.
use Rattle.laws.proofs.Fill.{is_same}
use Rattle.tables.specs.View.{view_dossier, dossier_of, TablesFit}
use Rattle.tables.proofs.Rows.{view_dossier_lem}
use Rattle.edits.proofs.branch_clipboard.Goals as goal

pub returns : goal.returns
returns c =
    let e = is_same dossier_of view_dossier view_dossier_lem TablesFit c.args.d c.requires in
    λ i. record { kind = 1; held = e i }
