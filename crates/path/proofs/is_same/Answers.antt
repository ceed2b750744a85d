-- `path::is_same` meets its contract: addresses have numbers of their own. Assumes nothing.
use mathlib.Core.Path.{◌∙◌}
use Rattle.path.proofs.Number.{key_same}
use Rattle.path.proofs.is_same.Goals as goal

pub returns : goal.returns
returns c = c.eq.ensures ∙ key_same c.args.p c.args.q c.requires.0 c.requires.1
