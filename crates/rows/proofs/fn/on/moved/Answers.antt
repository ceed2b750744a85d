-- The row below q, if that is not too deep. Assumes nothing.
use mathlib.Core.Path.{ap, ◌∙◌}
use Rattle.path.specs.Address.{on, in_depth}
use Rattle.path.specs.View.{steps, moved_of}
use Rattle.rows.proofs.Steps.{path_sound, path_steps}
use Rattle.rows.proofs.fn.on.moved.Goals as goal

pub path_on-requires : goal.path_on-requires
path_on-requires g c =
    let r = g.R.Row in
    (path_sound r.view g.met.R.Row.laws.back c.requires.0 c.path.ensures, c.requires.1)

pub returns : goal.returns
returns g c =
    let r = g.R.Row in
    c.carried.ensures (in_depth (on (steps c.captures.q) (r.view c.args.row).0))
    (c.path_on.ensures ∙ ap (λ l. moved_of (in_depth (on (steps c.captures.q) l))) (path_steps r.view g.met.R.Row.laws.back c.requires.0 c.path.ensures))
