-- `image::attributes::read_attributes` meets its contract. The loop's invariant: the records so far are good, and the tables hold them. Assumes nothing.
use Rattle.image.specs.Rows.{AttributesUpto}
use Rattle.image.proofs.attributes.read_attributes.Given as goal

abbrev pub invariant-loop-k : goal.invariant-loop-k
invariant-loop-k l = AttributesUpto l.image l.n l.k l.nodes l.t
