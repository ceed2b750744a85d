-- `session::parts::act` meets its contract: its messages are logged, and its deed is done. Assumes nothing.
use mathlib.Core.Path.{sym, ap, subst, ◌∙◌}
use Rattle.state.specs.declared.Log.{Log}
use Rattle.session.specs.Parts.{store_log}
use Rattle.session.specs.Requests.{deed_of, Stands}
use Rattle.session.proofs.Tests.{called_yes}
use Rattle.session.proofs.Acts.{loud_room, quiet_stands, loud_stands, quiet_left, loud_left}
use Rattle.session.proofs.parts.act.Goals as goal

pub deed-requires : goal.deed-requires
deed-requires c = quiet_stands c.args.s.now c.args.v c.requires

pub returns-then-quiet : goal.returns-then-quiet
returns-then-quiet c =
    let w = quiet_left c.args.s.now c.args.v c.requires (called_yes c.quiet.ensures c.if-quiet.true) in
    (c.deed.ensures.0 ∙ w.0, c.deed.ensures.1 ∙ w.1)

pub noted-l-requires : goal.noted-l-requires
noted-l-requires c = loud_room c.args.s.now c.args.v c.requires

pub deed-requires-2 : goal.deed-requires-2
deed-requires-2 c =
    subst (λ (l : Log). Stands (store_log c.args.s.now l) c.args.v) (sym c.noted-l.ensures)
    (loud_stands c.args.s.now c.args.v c.requires)

pub returns : goal.returns
returns c =
    let s = c.args.s.now in
    let v = c.args.v in
    let w = loud_left s v c.requires in (
      c.deed-2.ensures.0 ∙ ap (λ (l : Log). (deed_of (store_log s l) v).answer) c.noted-l.ensures ∙ w.0,
      c.deed-2.ensures.1 ∙ ap (λ (l : Log). (deed_of (store_log s l) v).session) c.noted-l.ensures ∙ w.1,
    )
