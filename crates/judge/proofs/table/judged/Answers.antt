-- `judge::table::judged` meets its contract: test 1, and then the rest of the request with its path taken. Assumes nothing.
use mathlib.Core.Path.{◌≡◌, sym, ap, subst, ◌∙◌}
use mathlib.Core.Bool.{false}
use Prim.Native.Nat.{ℕ}
use Rattle.model.specs.Refusals as refusals
use Rattle.model.specs.Run.{found}
use Rattle.tables.specs.View.{view_dossier}
use Rattle.state.specs.View.{view_request, view_signatures}
use Rattle.refusals.specs.View.{view_cache}
use Rattle.refusals.specs.declared.Seen.{Seen}
use Rattle.refusals.specs.Look.{SeenSound}
use Rattle.refusals.proofs.Looked.{seen_sound}
use Rattle.judge.specs.View.{standing_of, judged_of, judgement, judged_in}
use Rattle.judge.proofs.Order.{refused_1, on_seen}
use Rattle.judge.proofs.table.judged.Goals as goal
use Rattle.judge.proofs.table.judged.Goals.{Else-bad_operand}

operands : (c : Else-bad_operand) → refusals.bad_operand (view_request c.args.r) ≡ false
operands c = sym c.bad_operand.ensures ∙ c.if-bad_operand.false

pub returns-then-bad_operand : goal.returns-then-bad_operand
returns-then-bad_operand c =
    let r = view_request c.args.r in
    let f = found r (view_dossier c.args.d) in
    refused_1 r f (view_cache c.args.c) (standing_of r (view_signatures c.args.rows) c.args.entries) (sym c.bad_operand.ensures ∙ c.if-bad_operand.true)

pub judged_placed-requires : goal.judged_placed-requires
judged_placed-requires c =
    (subst SeenSound (sym c.looked.ensures) (seen_sound c.args.d c.placed-q.result c.requires.0), c.requires.1, c.requires.2, c.placed-q.ensures.1)

pub returns : goal.returns
returns c =
    let a = c.args in
    let q = c.placed-q.result in
    c.judged_placed.ensures
    ∙ ap (λ (s : Seen). judged_in s a.c c.signed_by-signed.result a.entries q) c.looked.ensures
    ∙ on_seen a.d a.c c.signed_by-signed.result a.entries q (ap refusals.bad_operand c.placed-q.ensures.0 ∙ operands (goal.at.returns c).Else-bad_operand)
    ∙ ap (λ (n : ℕ). judgement a.d a.c n a.entries q) c.signed_by-signed.ensures
    ∙ ap (λ (z : refusals.Request). judged_of (refusals.refusal z (found z (view_dossier a.d)) (view_cache a.c) (standing_of (view_request a.r) (view_signatures a.rows) a.entries)) (refusals.granted z (found z (view_dossier a.d)))) c.placed-q.ensures.0
