-- `deeds::classes::copied_at` meets its contract: a branch or an attribute, of a request that is not refused. Assumes nothing.
use mathlib.Core.Path.{sym, subst}
use mathlib.Core.Logic.{⊎_elim}
use Rattle.tables.specs.View.{view_dossier}
use Rattle.deeds.specs.Classes.{Open}
use Rattle.deeds.proofs.Allowed.{node_there, node_there_cut}
use Rattle.deeds.proofs.Numbers.{either}
use Rattle.deeds.proofs.classes.copied_at.Goals as goal

pub copy_branch-requires : goal.copy_branch-requires
copy_branch-requires c =
    let o = subst (λ x. Open x (view_dossier c.args.d)) (sym c.placed-q.ensures.0) c.requires.2 in
    let n = either c.placed-q.result.number 5 6 c.if-number.true in
    (c.requires.0, c.placed-q.ensures.1, ⊎_elim (λ e. node_there o.allowed e) (λ e. node_there_cut o.allowed e) n)
