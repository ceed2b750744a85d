-- `parse::reading_of` meets its contract: the patterns of NaN and the infinities are no reading. Assumes nothing.
use mathlib.Core.Path.{refl, sym, ap}
use Rattle.parse.specs.View.{valued_of}
use Rattle.parse.proofs.Readings.{above_not, below_number, no_reading}
use Rattle.parse.proofs.reading_of.Goals as goal

pub returns-then-bits-gt2139095040 : goal.returns-then-bits-gt2139095040
returns-then-bits-gt2139095040 c =
    ap valued_of (sym (no_reading 2 c.args.bits refl (above_not c.args.bits c.if-bits-gt2139095040.true)))

pub float_from_bits-x : goal.float_from_bits-x
float_from_bits-x c = below_number c.args.bits c.if-bits-gt2139095040.false
