-- `judge::table::judged_placed` meets its contract: the first test that applies, and then those of what is granted. Assumes nothing.
use mathlib.Core.Path.{ap, ◌∙◌}
use mathlib.Core.Bool.{not}
use Rattle.judge.proofs.Order.{denied_seen, refused_2, refused_3, refused_4, refused_5, refused_6}
use Rattle.judge.proofs.table.judged_placed.Goals as goal

pub returns-then-root : goal.returns-then-root
returns-then-root c = let a = c.args in refused_2 a.s a.c a.signed a.entries a.q (cc c.at_root-root.ensures)

pub returns-then-gone : goal.returns-then-gone
returns-then-gone c =
    let a = c.args in refused_3 a.s a.c a.signed a.entries a.q (cc c.at_root-root.ensures) (cc c.absent-gone.ensures)

pub returns-then-there : goal.returns-then-there
returns-then-there c =
    let a = c.args in
    refused_4 a.s a.c a.signed a.entries a.q (cc c.at_root-root.ensures) (cc c.absent-gone.ensures) (cc c.taken-there.ensures)

pub returns-then-other : goal.returns-then-other
returns-then-other c =
    let a = c.args in
    refused_5 a.s a.c a.signed a.entries a.q (cc c.at_root-root.ensures) (cc c.absent-gone.ensures) (cc c.taken-there.ensures)
    (cc c.wrong_clipboard-other.ensures)

pub returns-then-denied : goal.returns-then-denied
returns-then-denied c =
    let a = c.args in
    refused_6 a.s a.c a.signed a.entries a.q (cc c.at_root-root.ensures) (cc c.absent-gone.ensures) (cc c.taken-there.ensures)
    (cc c.wrong_clipboard-other.ensures) (denied_seen a.s.may (c.is_none-denied.ensures ∙ ap not c.if-denied.true))
