-- `session::save` meets its contract: the step on the two dossiers alone is the step on the session. Assumes nothing.
use mathlib.Core.Path.{◌∙◌}
use Rattle.session.proofs.Frame.{save_means}
use Rattle.session.proofs.save.Goals as goal

pub returns : goal.returns
returns c =
    let m = save_means c.args.s.now c.args.n c.args.out.now in
    (c.saved.ensures.0 ∙ m.0, c.saved.ensures.1 ∙ m.1)
