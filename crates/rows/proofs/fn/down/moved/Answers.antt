-- The row as it is after down at q, if it stays. Assumes nothing.
use mathlib.Core.Path.{ap, ◌∙◌}
use Rattle.path.specs.Address.{down}
use Rattle.path.specs.View.{steps, moved_of}
use Rattle.rows.proofs.Steps.{path_sound, path_steps}
use Rattle.rows.proofs.fn.down.moved.Goals as goal

pub path_down-requires : goal.path_down-requires
path_down-requires g c =
    let r = g.R.Row in
    (path_sound r.view g.met.R.Row.laws.back c.requires.0 c.path.ensures, c.requires.1)

pub returns : goal.returns
returns g c =
    let r = g.R.Row in
    c.carried.ensures (down (steps c.captures.q) (r.view c.args.row).0)
    (c.path_down.ensures ∙ ap (λ l. moved_of (down (steps c.captures.q) l)) (path_steps r.view g.met.R.Row.laws.back c.requires.0 c.path.ensures))
