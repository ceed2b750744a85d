-- `bounds::fill::attributes` meets its contract: an empty table is sound, and stays so. Assumes nothing.
use borrow.Author.Rules.{rules}
use Rattle.bounds.proofs.Filled.{no_attributes}
use Rattle.bounds.proofs.fill.attributes.Goals as goal

pub loop-k-init : goal.loop-k-init
loop-k-init c = (search rules, no_attributes c.no_attributes-all.ensures)
