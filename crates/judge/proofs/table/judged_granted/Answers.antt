-- `judge::table::judged_granted` meets its contract: the first test that applies. Assumes nothing.
use mathlib.Core.Path.{◌≡◌, sym, ap, ◌∙◌}
use mathlib.Core.Bool.{not}
use mathlib.Core.Option as model
use Prim.Native.Nat.{ℕ, ◌+◌}
use Rattle.std.specs.Prelude.{Option, None}
use Rattle.state.specs.declared.refusal.Refusal.{Refusal}
use lib.Dec.{ltb}
use lib.ListN.{length}
use Rattle.model.specs.Decide.{subset, members}
use Rattle.refusals.specs.View.{view_shelf}
use Rattle.judge.proofs.Order.{refused_7, refused_8, refused_full, refused_10, refused_11}
use Rattle.judge.proofs.table.judged_granted.Goals as goal

-- no shelf is full
room : (o : Option Refusal) → {n : model.Option ℕ} → view_shelf o ≡ n → o ≡ None → n ≡ model.none
room o e f = sym e ∙ ap view_shelf f

pub returns-then-bare : goal.returns-then-bare
returns-then-bare c =
    let a = c.args in refused_7 a.s a.c a.signed a.entries a.q c.requires.4 (cc c.uncovered-bare.ensures)

pub returns-then-clash : goal.returns-then-clash
returns-then-clash c =
    let a = c.args in
    refused_8 a.s a.c a.signed a.entries a.q c.requires.4 (cc c.uncovered-bare.ensures) (cc c.clashing-clash.ensures)

pub returns-in-Some : goal.returns-in-Some
returns-in-Some c =
    let a = c.args in
    refused_full a.s a.c a.signed a.entries a.q c.requires.4 (cc c.uncovered-bare.ensures) (cc c.clashing-clash.ensures) c.in-Some.full
    (ap view_shelf (sym c.in-Some.is) ∙ c.shelf_for-shelf.ensures)

pub returns-then-unread : goal.returns-then-unread
returns-then-unread c =
    let a = c.args in
    refused_10 a.s a.c a.signed a.entries a.q c.requires.4 (cc c.uncovered-bare.ensures) (cc c.clashing-clash.ensures)
    (room _ c.shelf_for-shelf.ensures (cc))
    (ap (λ (n : ℕ). not (subset n a.signed)) (sym c.provisions_of-asked.ensures.agreements) ∙ cc c.unsigned-unread.ensures)

pub returns-then-late : goal.returns-then-late
returns-then-late c =
    let a = c.args in
    refused_11 a.s a.c a.signed a.entries a.q c.requires.4 (cc c.uncovered-bare.ensures) (cc c.clashing-clash.ensures)
    (room _ c.shelf_for-shelf.ensures (cc))
    (ap (λ (n : ℕ). not (subset n a.signed)) (sym c.provisions_of-asked.ensures.agreements) ∙ cc c.unsigned-unread.ensures)
    (ap (λ (n : ℕ). ltb 256 (a.entries + length (members n))) (sym c.provisions_of-asked.ensures.messages) ∙ cc c.log_full-late.ensures)
