-- `session::sign` meets its contract: the step on the signatures alone is the step on the session. Assumes nothing.
use mathlib.Core.Path.{ap, ◌∙◌}
use Rattle.state.specs.declared.signatures.SignaturesOut.{SignaturesOut}
use Rattle.session.specs.Parts.{store_signatures}
use Rattle.session.proofs.Frame.{sign_means}
use Rattle.session.proofs.sign.Goals as goal

pub returns : goal.returns
returns c =
    let s = c.args.s.now in
    let e = c.signed-out.ensures in
    let m = sign_means c.requires c.args.user c.args.agreement in
    (ap (λ (o : SignaturesOut). o.answer) e ∙ m.0, ap (λ (o : SignaturesOut). store_signatures s o.signatures) e ∙ m.1)
