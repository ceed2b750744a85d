-- `session::request` meets its contract: a request looks at its image or stays with the clipboard. Assumes nothing.
use mathlib.Core.Path.{sym, ap, ◌∙◌}
use Rattle.std.specs.Prelude.{Err}
use Rattle.std.proofs.lemmas.Result.{err_from_is_err_and}
use Rattle.session.proofs.Tests.{called_yes, called_no}
use Rattle.session.proofs.Placed.{stay_asks, stay_left, carries, carries_left, refused_left}
use Rattle.session.proofs.request.Goals as goal

pub perform-requires : goal.perform-requires
perform-requires c = stay_asks c.args.s.now c.args.r c.args.image.now c.requires (called_yes c.stays.ensures c.if-stays.true)

pub returns-then-stays : goal.returns-then-stays
returns-then-stays c =
    let w = stay_left c.args.s.now c.args.r c.args.image.now c.requires (called_yes c.stays.ensures c.if-stays.true) in
    (c.perform.ensures.0 ∙ w.0, c.perform.ensures.1 ∙ w.1)

pub returns-in_err-held : goal.returns-in_err-held
returns-in_err-held c =
    let p = err_from_is_err_and c.from_residual.result c.from_residual.ensures.1 in
    let w = refused_left c.args.s.now c.args.r c.args.image.now c.requires (called_no c.stays.ensures c.if-stays.false) (sym c.as_branch.ensures ∙ c.in_err-held.was) in
    (p.1 ∙ ap Err p.2 ∙ w.0, w.1)

pub place-requires : goal.place-requires
place-requires c =
    carries c.args.s.now c.args.r c.args.image.now c.requires (called_no c.stays.ensures c.if-stays.false) (sym c.as_branch.ensures ∙ c.in_ok-held.was)

pub returns : goal.returns
returns c =
    let w = carries_left c.args.s.now c.args.r c.args.image.now c.requires (called_no c.stays.ensures c.if-stays.false) (sym c.as_branch.ensures ∙ c.in_ok-held.was) in
    (c.place.ensures.0 ∙ w.0, c.place.ensures.1 ∙ w.1)
