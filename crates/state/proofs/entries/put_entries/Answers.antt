-- `state::entries::put_entries` meets its contract: the entries still to come are put behind those that are written. Assumes nothing.
use mathlib.Core.Path.{◌≡◌, sym, ap, ◌∙◌}
use mathlib.Core.List.{List, ◌∷◌}
use Prim.Native.Nat.{ℕ, ◌<◌, ◌≤◌, ◌+◌, ◌*◌}
use native.Mathlib.Omega.{arith}
use lib.ListN.{length, take, drop, get_or, length-set, length-take, set}
use lib.Seq.{get_or-take}
use Rattle.laws.specs.Slots.{put}
use Rattle.laws.proofs.Fill.{fill_turn, row_next}
use Rattle.model.specs.Run.{log_bytes}
use Rattle.state.specs.View.{view_entry, view_log, blank_entry}
use Rattle.state.proofs.Logs.{log_full_lem, log_room}
use Rattle.state.proofs.entries.put_entries.Goals as goal

abbrev bare : List ℕ → ℕ → List ℕ
bare l n = l

-- two bytes stored, one behind the other
put_two : (l vs : List ℕ) (k a b : ℕ) → k + 2 ≤ length l → put l k (a ∷ b ∷ vs) ≡ put (set (set l k a) (k + 1) b) (k + 2) vs
put_two l vs k a b h =
    let n = length-set l k a in
    let e : k + 1 + 1 ≡ k + 2 = omega arith in
    fill_turn bare l k a (b ∷ vs) (omega arith) ∙ fill_turn bare (set l k a) (k + 1) b vs (omega arith) ∙ ap (λ j. put (set (set l k a) (k + 1) b) j vs) e

pub shared_ref_as_front-held : goal.shared_ref_as_front-held
shared_ref_as_front-held c = log_room c.args.log c.requires.0

pub loop-i-preserved : goal.loop-i-preserved
loop-i-preserved c =
    let l = c.loop-i in
    let t = c.args.log in
    let f = log_full_lem t c.requires.0 in
    let r = log_room t c.requires.0 in
    let len = length-take t.count t.entries in
    let h : l.i < t.count = omega (arith, c.loop-i-test.true) in
    let x = get_or (take t.count t.entries) l.i blank_entry in
    let e = row_next view_entry t.entries t.count l.i blank_entry h (omega arith) ∙ ap (λ y. view_entry y ∷ drop (l.i + 1) (view_log t)) (sym (get_or-take t.count t.entries l.i blank_entry h)) in
    let j : 2 * l.i + 2 ≡ 2 * (l.i + 1) = omega arith in (
      length-set (set l.out (2 * l.i) x.user) (2 * l.i + 1) x.message ∙ length-set l.out (2 * l.i) x.user ∙ l.invariant.0,
      l.invariant.1 ∙ ap (λ z. put l.out (2 * l.i) (log_bytes z)) e ∙ put_two l.out (log_bytes (drop (l.i + 1) (view_log t))) (2 * l.i) x.user x.message (omega arith)
          ∙ ap (λ k. put (set (set l.out (2 * l.i) x.user) (2 * l.i + 1) x.message) k (log_bytes (drop (l.i + 1) (view_log t)))) j,
    )
