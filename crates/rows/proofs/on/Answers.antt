-- `rows::on` meets its contract: no row of the branch is too deep below q. Assumes nothing.
use Rattle.std.proofs.Common.{rules}
use mathlib.Core.Path.{◌≡◌, ap, ◌∙◌}
use Rattle.path.specs.Address.{on, in_depth}
use Rattle.path.specs.View.{steps}
use Rattle.model.specs.Moves.{carried}
use Rattle.moves.proofs.Keys.{all_short}
use Rattle.rows.specs.Tables.{seen, table_of}
use Rattle.rows.proofs.on.Goals as goal

pub returns : goal.returns
returns g c =
    let r = g.R.Row in
    let q = steps c.args.q in
    let e : c.moved.result ≡ table_of g.row.N r.blank r.of (carried (λ p. in_depth (on q p)) (seen r.view c.args.c.now)) = search rules in
    e ∙ ap (table_of g.row.N r.blank r.of) (all_short q (seen r.view c.args.c.now) c.requires.2)
