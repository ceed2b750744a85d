-- `session::save_clipboard` meets its contract: the step on the clipboard alone is the step on the session. Assumes nothing.
use mathlib.Core.Path.{◌∙◌}
use Rattle.session.proofs.Frame.{clipboard_means}
use Rattle.session.proofs.save_clipboard.Goals as goal

pub returns : goal.returns
returns c =
    let m = clipboard_means c.args.s.now c.args.out.now in
    (c.clipboard_saved.ensures.0 ∙ m.0, c.clipboard_saved.ensures.1 ∙ m.1)
