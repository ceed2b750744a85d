-- `path::size` meets its contract: the first digit. Assumes nothing.
use mathlib.Core.Path.{subst, sym}
use Prim.Native.Nat.{◌≤◌}
use Rattle.path.proofs.Structs.{facts}
use Rattle.path.proofs.size.Goals as goal

pub returns : goal.returns
returns c = let f = facts c.args.p c.requires in (f.high, subst (λ n. n ≤ 6) (sym f.high) f.short)
