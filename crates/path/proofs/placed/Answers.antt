-- `path::placed` meets its contract: no bit is lost. Assumes nothing.
use mathlib.Core.Path.{ap, ◌∙◌}
use Prim.Native.Nat.{◌*◌, ◌-◌, ◌%◌, ◌^◌}
use Rattle.path.proofs.Number.{placed_is}
use Rattle.path.proofs.placed.Goals as goal

pub returns : goal.returns
returns c = ap (λ s. (s * 2 ^ (48 - 8 * c.args.n)) % 2 ^ 64) c.from.ensures ∙ placed_is c.args.s c.args.n c.ranges.s.fits c.requires
