-- `ask::decided_on` meets its contract: 3 for what is not there, 6 for what is not granted, else the provisions. Assumes nothing.
use mathlib.Core.Path.{ap, ◌∙◌}
use Rattle.path.specs.View.{steps, asked}
use Rattle.path.proofs.Structs.{view_path}
use Rattle.tables.specs.View.{view_dossier}
use Rattle.ask.specs.Verdict.{view_question}
use Rattle.ask.proofs.Verdicts.{absent_there, decided_on_it}
use Rattle.ask.proofs.decided_on.Goals as goal

pub returns-then-absent : goal.returns-then-absent
returns-then-absent c =
    let a = c.args in
    absent_there (view_question a.q) (view_dossier a.d) (ap steps c.path_of-p.ensures ∙ view_path (asked a.q.path)) c.absent.ensures c.if-absent.true

pub returns : goal.returns
returns c =
    let a = c.args in
    c.ok_or.ensures.value
    ∙ decided_on_it (view_question a.q) (view_dossier a.d) (ap steps c.path_of-p.ensures ∙ view_path (asked a.q.path)) c.absent.ensures
    c.if-absent.false c.may.ensures
