-- `state::entries::put_entries` meets its contract: the entries still to come are put behind those that are written. Assumes nothing.
use mathlib.Core.Path.{◌≡◌}
use Prim.Native.Nat.{◌*◌}
use lib.ListN.{length, drop}
use Rattle.laws.specs.Slots.{put}
use Rattle.model.specs.Run.{written, log_bytes}
use Rattle.state.specs.View.{view_log}
use Rattle.state.proofs.entries.put_entries.Given as goal

abbrev pub invariant-loop-i : goal.invariant-loop-i
invariant-loop-i l =
    (length l.out ≡ length l.initial.out)
    × (written (log_bytes (view_log l.fn.log)) l.initial.out ≡ put l.out (2 * l.i) (log_bytes (drop l.i (view_log l.fn.log))))
