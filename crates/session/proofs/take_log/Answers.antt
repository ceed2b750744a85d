-- `session::take_log` meets its contract: the step on the log alone is the step on the session. Assumes nothing.
use mathlib.Core.Path.{ap, ◌∙◌}
use Rattle.state.specs.declared.entries.LogOut.{LogOut}
use Rattle.session.specs.Parts.{store_log}
use Rattle.session.proofs.Frame.{take_means}
use Rattle.session.proofs.take_log.Goals as goal

pub returns : goal.returns
returns c =
    let s = c.args.s.now in
    let e = c.taken-o.ensures in
    let m = take_means c.requires c.args.out.now in
    ((ap (λ (o : LogOut). o.answer) e.0 ∙ m.0.0, ap (λ (o : LogOut). store_log s o.log) e.0 ∙ m.0.1), e.1 ∙ m.1)
