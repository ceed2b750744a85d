-- `lookups::names_in` meets its contract: the names of the rows so far are stored. Assumes nothing.
use Rattle.std.proofs.Common.{◌≡◌, ◌≤◌, length, map, take}
use Rattle.laws.specs.Slots.{slots}
use Rattle.lookups.proofs.names_in.Given as goal

abbrev pub invariant-loop-k : goal.invariant-loop-k
invariant-loop-k l = (l.names ≡ slots 16 0 (take l.k (map (λ a. a.name) l.here))) × (length l.here ≤ 16)
