-- The row as it is after an add or a paste at q. Assumes nothing.
use mathlib.Core.Path.{ap, ◌∙◌}
use Rattle.std.specs.Prelude.{Some}
use Rattle.path.specs.Address.{up}
use Rattle.path.specs.View.{steps, path_of}
use Rattle.rows.proofs.Steps.{path_sound, path_steps}
use Rattle.rows.proofs.fn.up.moved.Goals as goal

pub path_up-requires : goal.path_up-requires
path_up-requires g c =
    let r = g.R.Row in
    (path_sound r.view g.met.R.Row.laws.back c.requires.0 c.path.ensures, c.requires.1)

pub returns : goal.returns
returns g c =
    let r = g.R.Row in
    ap Some
    (c.placed.ensures (up (steps c.captures.q) (r.view c.args.row).0) (c.path_up.ensures ∙ ap (λ l. path_of (up (steps c.captures.q) l)) (path_steps r.view g.met.R.Row.laws.back c.requires.0 c.path.ensures)))
