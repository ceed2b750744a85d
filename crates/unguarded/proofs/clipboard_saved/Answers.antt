-- `unguarded::clipboard_saved` meets its contract. Assumes nothing.
use mathlib.Core.Path.{◌∙◌}
use Rattle.unguarded.proofs.Saving.{clipboard_done}
use Rattle.unguarded.proofs.clipboard_saved.Goals as goal

pub returns : goal.returns
returns c =
    let w = clipboard_done c.args.c c.args.out.now c.save_clipboard.ensures.0 c.save_clipboard.ensures.1 in
    (c.written.ensures ∙ w.0, w.1)
