-- `encode::pattern_of` meets its contract: every NaN has one pattern. Assumes nothing.
use mathlib.Core.Path.{◌≡◌, refl, sym, ◌∙◌}
use mathlib.Core.Bool.{true}
use lib.Ieee.{Float, nan, inf, fin, is_nan, to_bits, binary32}
use Rattle.path.proofs.Structs.{no}
use Rattle.encode.proofs.pattern_of.Goals as goal

nan_pattern : (x : Float) → is_nan x ≡ true → 2143289344 ≡ to_bits binary32 x
unfolding is_nan to_bits
nan_pattern nan e = refl
nan_pattern (inf s) e = no (sym e)
nan_pattern (fin s m k) e = no (sym e)

pub returns-then-is_nan : goal.returns-then-is_nan
returns-then-is_nan c = nan_pattern c.args.x (sym c.is_nan.ensures.value ∙ c.if-is_nan.true)
