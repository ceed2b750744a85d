-- `words::hex::pair_at` meets its contract. Assumes nothing.
use Prim.Native.Nat.{◌+◌}
use native.Mathlib.Omega.{arith}
use Rattle.words.proofs.Hexes.{hex_at}
use Rattle.words.proofs.hex.pair_at.Goals as goal

pub worth-requires : goal.worth-requires
worth-requires c = hex_at c.args.s.now c.args.at (omega arith) c.requires.1

pub worth-requires-2 : goal.worth-requires-2
worth-requires-2 c = hex_at c.args.s.now (c.args.at + 1) (omega arith) c.requires.1
