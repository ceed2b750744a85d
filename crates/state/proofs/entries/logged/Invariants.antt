-- `state::entries::logged` meets its contract: the messages still to come are stored behind the entries. Assumes nothing.
use mathlib.Core.Path.{◌≡◌}
use mathlib.Core.List.{List, ◌++◌, map}
use Prim.Native.Nat.{ℕ, ◌≤◌, ◌+◌}
use lib.ListN.{length}
use Rattle.laws.specs.Slots.{filled}
use Rattle.model.specs.Decide.{members}
use Rattle.state.specs.View.{entry_of, view_log, log_with, log_of}
use Rattle.state.proofs.Messages.{coming}
use Rattle.state.proofs.entries.logged.Given as goal

-- the entries of these messages
abbrev pub entries_of : ℕ → List ℕ → List (ℕ × ℕ)
entries_of user l = map (λ (k : ℕ). (user, k)) l

abbrev pub invariant-loop-m : goal.invariant-loop-m
invariant-loop-m l =
    (length l.out.entries ≡ 256)
    × (l.at + length (coming l.m l.left) ≤ 256)
    × (log_of (view_log l.initial.out ++ entries_of l.user (members l.initial.left)) ≡ filled log_with l.out.entries l.at (map entry_of (entries_of l.user (coming l.m l.left))))
