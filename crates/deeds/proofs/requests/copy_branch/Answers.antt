-- `deeds::requests::copy_branch` meets its contract: the branch of a sound dossier is one. Assumes nothing.
use mathlib.Core.Path.{ap, ◌∙◌}
use Rattle.path.specs.View.{steps}
use Rattle.model.specs.Things.{branch}
use Rattle.model.specs.Moves.{copy_branch}
use Rattle.tables.specs.View.{view_dossier, clipboard_of}
use Rattle.tables.proofs.Rows.{view_dossier_lem}
use Rattle.tables.proofs.Parts.{dossier_fits, sound_fits}
use Rattle.edits.proofs.Whole.{whole}
use Rattle.twin.proofs.KeptSound.{copy_sound}
use Rattle.deeds.proofs.requests.copy_branch.Goals as goal

pub copy_branch-requires : goal.copy_branch-requires
copy_branch-requires c = (dossier_fits c.requires.0, c.requires.1)

pub branch_clipboard-requires : goal.branch_clipboard-requires
branch_clipboard-requires c =
    let q = steps c.args.q.path in
    record {
      model = copy_branch q (view_dossier c.args.d);
      same = c.copy_branch.ensures;
      fits = sound_fits _ (copy_sound q (view_dossier c.args.d) c.requires.2 (whole c.args.d c.requires.0));
    }

pub returns : goal.returns
returns c = c.branch_clipboard.ensures ∙ ap (λ d. clipboard_of (branch d)) (ap view_dossier c.copy_branch.ensures ∙ view_dossier_lem _)
