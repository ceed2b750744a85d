-- `words::values::reading_of` meets its contract: an infinity less itself is no number. Assumes nothing.
use lib.Ieee.{nan_bits, of_bits, sub, add, neg}
use Rattle.words.proofs.Written.{above_nan, below_number}
use Rattle.words.proofs.values.reading_of.Goals as goal

pub float_from_bits-top : goal.float_from_bits-top
unfolding nan_bits
float_from_bits-top c = tt

pub returns-then-bits-gt2139095040 : goal.returns-then-bits-gt2139095040
unfolding of_bits sub add neg
returns-then-bits-gt2139095040 c = above_nan c.args.bits c.if-bits-gt2139095040.true

pub float_from_bits-result : goal.float_from_bits-result
float_from_bits-result c = below_number c.args.bits c.if-bits-gt2139095040.false
