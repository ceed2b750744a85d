-- `words::hex::put_pairs` meets its contract. The loop's invariant: the bytes so far are those of the pairs. Assumes nothing.
use Rattle.std.proofs.Common.{◌≡◌, ℕ, ◌*◌, ◌<◌, get_or}
use Rattle.words.specs.Hex.{pair_at}
use Rattle.words.proofs.hex.put_pairs.Given as goal

abbrev pub invariant-loop-i : goal.invariant-loop-i
invariant-loop-i l = (k : ℕ) → k < l.i → get_or l.out k 0 ≡ pair_at (2 * k) l.s
