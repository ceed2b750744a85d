-- `bounds::fill::value` is safe: the pattern of minus zero is no NaN's. Assumes nothing.
use lib.Ieee.{nan_bits}
use Rattle.bounds.proofs.fill.value.Goals as goal

pub float_from_bits-result : goal.float_from_bits-result
unfolding nan_bits
float_from_bits-result c = tt
