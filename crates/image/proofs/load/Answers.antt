-- `image::load` meets its contract: by the length, then the three parts in turn. Assumes nothing.
use mathlib.Core.Path.{sym, ◌∙◌}
use Rattle.image.proofs.Whole.{all_good}
use Rattle.image.proofs.load.Goals as goal

pub returns : goal.returns
returns c = all_good c.args.image.now (sym c.is_bad_length.ensures ∙ c.if-is_bad_length.false) c.in_ok-read_permissions.ensures
