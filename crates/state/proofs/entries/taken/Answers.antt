-- `state::entries::taken` meets its contract: all entries are written and the log is empty, or nothing changes. Assumes nothing.
use mathlib.Core.Path.{◌≡◌, sym, ap, ◌∙◌}
use Prim.Native.Nat.{◌*◌}
use native.Mathlib.Omega.{arith}
use borrow.Author.Tests.{lt-ltb, le-ltb}
use lib.ListN.{length}
use Rattle.model.specs.Run.{log_bytes}
use Rattle.state.specs.declared.Log.{Log}
use Rattle.std.specs.Prelude.{Ok}
use Rattle.state.specs.declared.Reply.TheVariants.{Wrote}
use Rattle.state.specs.View.{view_log}
use Rattle.state.specs.Calls.{LogSound}
use Rattle.state.proofs.Logs.{log_count, log_room}
use Rattle.state.proofs.Taking.{log_bytes_lem, take_refused, take_done}
use Rattle.state.proofs.entries.taken.Goals as goal

-- two bytes an entry
need : (t : Log) → LogSound t → length (log_bytes (view_log t)) ≡ 2 * t.count
need t h = log_bytes_lem (view_log t) ∙ ap (λ n. 2 * n) (sym (log_count t h))

pub overflow_mul-n : goal.overflow_mul-n
overflow_mul-n c = let h = log_room c.args.log c.requires in omega arith

pub returns-then-out-n : goal.returns-then-out-n
returns-then-out-n c =
    let n = need c.args.log c.requires in
    let b = c.args.out.now in
    let w = take_refused c.args.log c.requires b (lt-ltb (length b) (length (log_bytes (view_log c.args.log))) (omega (arith, n, c.if-out-n.true))) in
    w

pub returns : goal.returns
returns c =
    let n = need c.args.log c.requires in
    let b = c.args.out.now in
    let w = take_done c.args.log b (le-ltb (length b) (length (log_bytes (view_log c.args.log))) (omega (arith, n, c.if-out-n.false))) in (
      (λ i. record { log = c.no_entries.ensures i; answer = Ok (Wrote (sym n i)) }) ∙ w.0,
      c.put_entries.ensures ∙ w.1,
    )
