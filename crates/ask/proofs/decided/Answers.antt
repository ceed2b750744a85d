-- `ask::decided` meets its contract: 1 for a bad question, 12 for a bad image, else what the dossier says. Assumes nothing.
use mathlib.Core.Path.{sym, ◌∙◌}
use Rattle.model.specs.Image as images
use Rattle.model.specs.Run.{image_of}
use Rattle.ask.specs.Verdict.{view_question}
use Rattle.ask.proofs.Verdicts.{bad_asked, bad_image, good_image, image_fits, path_asked}
use Rattle.ask.proofs.decided.Goals as goal

pub decided_on-requires : goal.decided_on-requires
decided_on-requires c =
    let a = c.args in (
      image_fits a.image.now (sym c.in-Ok.is ∙ c.load.ensures),
      path_asked (view_question a.q) (sym c.bad_question.ensures ∙ c.if-bad_question.false),
    )

pub returns-then-bad_question : goal.returns-then-bad_question
returns-then-bad_question c =
    let a = c.args in bad_asked (view_question a.q) (image_of (images.load a.image.now)) c.bad_question.ensures c.if-bad_question.true

pub returns-in-Err : goal.returns-in-Err
returns-in-Err c =
    let a = c.args in
    bad_image (view_question a.q) (sym c.if-bad_question.false ∙ c.bad_question.ensures) (images.load a.image.now) (sym c.in-Err.is ∙ c.load.ensures)

pub returns-in-Ok : goal.returns-in-Ok
returns-in-Ok c =
    let a = c.args in
    good_image (view_question a.q) (sym c.if-bad_question.false ∙ c.bad_question.ensures) (images.load a.image.now) (sym c.in-Ok.is ∙ c.load.ensures) c.decided_on.ensures
