-- `session::parts::perform` meets its contract: what is named is weighed. Assumes nothing.
use mathlib.Core.Path.{◌≡◌, sym, ap, ap₂, subst, ◌∙◌}
use Rattle.std.specs.Prelude.{Err}
use Rattle.std.proofs.lemmas.Result.{err_from_is_err_and}
use Rattle.tables.specs.declared.Dossier.{Dossier}
use Rattle.tables.specs.View.{view_clipboard}
use Rattle.state.specs.declared.Session.{Session}
use Rattle.state.specs.View.{view_request}
use Rattle.state.specs.Parts.{numbered_in}
use Rattle.enforce.specs.Requests.{from_of, weighed_of}
use Rattle.session.specs.Requests.{Weighs}
use Rattle.session.proofs.Acts.{fit, weighs, weighed_left, weighed_refuses}
use Rattle.session.proofs.parts.perform.Goals as goal
use Rattle.session.proofs.parts.perform.Goals.{After-weighed-told}

pub weighed-told-requires : goal.weighed-told-requires
weighed-told-requires c = rw (c.dossier_in-d.ensures.0, c.dossier_in-d.ensures.1) (fit c.args.s.now c.args.r c.requires.0 c.requires.1)

-- what was told, of the session as it came
told : (c : After-weighed-told) → c.weighed-told.result ≡ weighed_of (numbered_in c.args.r.dossier c.args.s.now) c.args.s.now.clipboard c.args.s.now.signatures c.args.s.now.log c.args.r
told c =
    c.weighed-told.ensures ∙ ap₂ (λ (d : Dossier) (t : Session). weighed_of d t.clipboard t.signatures t.log c.args.r) c.dossier_in-d.ensures.0 c.dossier_in-d.ensures.1

pub returns-in_err-v : goal.returns-in_err-v
returns-in_err-v c =
    let p = err_from_is_err_and c.from_residual.result c.from_residual.ensures.1 in
    let w = weighed_refuses c.args.s.now c.args.r c.requires.0 c.requires.1 (sym c.in_err-v.was ∙ told (goal.at.returns-in_err-v c).After-weighed-told) in
    (p.1 ∙ ap Err p.2 ∙ w.0, c.dossier_in-d.ensures.1 ∙ w.1)

pub act-requires : goal.act-requires
act-requires c =
    let s = c.args.s.now in
    subst (λ (t : Session). Weighs t c.in_ok-v.v) (sym c.dossier_in-d.ensures.1)
    (weighs s c.args.r c.requires.0 c.requires.1 (sym c.in_ok-v.was ∙ told (goal.at.act-requires c).After-weighed-told))

pub returns : goal.returns
returns c =
    let s = c.args.s.now in
    let f = c.dossier_in-d.ensures.1 in
    let v = c.in_ok-v.v in
    let w = weighed_left s c.args.r c.requires.0 c.requires.1 (sym c.in_ok-v.was ∙ told (goal.at.returns c).After-weighed-told) in (
      c.act.ensures.0 ∙ ap (λ (t : Session). (from_of t (view_request v.request) (view_clipboard t.clipboard)).answer) f ∙ w.0,
      c.act.ensures.1 ∙ ap (λ (t : Session). (from_of t (view_request v.request) (view_clipboard t.clipboard)).session) f ∙ w.1,
    )
