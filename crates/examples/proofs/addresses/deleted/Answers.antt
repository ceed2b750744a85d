-- `examples::addresses::deleted` meets its contract: what a delete leaves is a path. Assumes nothing.
use mathlib.Core.Path.{sym, ◌∙◌}
use Rattle.path.proofs.Kept.{down_sound}
use Rattle.examples.proofs.addresses.deleted.Goals as goal

pub told-requires : goal.told-requires
told-requires g c =
    (c.requires.0, down_sound c.requires.0 c.requires.1 (sym c.in-Some.is ∙ c.path_down.ensures))
