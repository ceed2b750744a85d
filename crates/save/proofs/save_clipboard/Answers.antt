-- `save::save_clipboard` meets its contract: it saves what is held. Assumes nothing.
use borrow.Author.Rules.{rules}
use mathlib.Core.Path.{sym, ap, ◌∙◌}
use mathlib.Core.List.{List}
use Prim.Native.Nat.{ℕ}
use Rattle.save.specs.Saved.{written_of, left_in}
use Rattle.save.proofs.Saved.{clipboard_fits, clipboard_saved}
use Rattle.save.proofs.save_clipboard.Goals as goal

pub save-requires : goal.save-requires
save-requires c = search (rules, clipboard_fits)

pub returns : goal.returns
returns c =
    let e = sym (clipboard_saved c.args.c c.requires) in
    let f = c.save in
    (f.ensures.0 ∙ ap (λ (b : List ℕ). written_of b c.args.out.now) e, f.ensures.1 ∙ ap (λ (b : List ℕ). left_in b c.args.out.now) e)
