-- `edits::add_permission` meets its contract: one table changes. Assumes nothing.
use native.Mathlib.Omega.{arith}
use Rattle.path.specs.View.{steps}
use Rattle.path.proofs.Structs.{facts, path_valid}
use Rattle.model.specs.Moves.{grant_row}
use Rattle.tables.specs.View.{view_grant}
use Rattle.tables.proofs.Parts.{dossier_fits, nodes_sound, attributes_sound, permissions_sound}
use Rattle.tables.proofs.Tables.{nodes_same, attributes_same, permissions_count}
use Rattle.edits.proofs.add_permission.Goals as goal

pub insert-t-requires : goal.insert-t-requires
insert-t-requires c =
    let t = permissions_sound (dossier_fits c.requires.0) in
    let e = permissions_count _ t in
    let room = c.requires.2 in
    let is = (facts c.args.p c.requires.1).is in (
      record {
        model = grant_row (steps c.args.p) c.args.name (view_grant c.args.g);
        same = λ i. record { path = is i; name = c.args.name; grant = c.args.g };
        fits = path_valid c.requires.1;
      },
      t,
      omega arith,
      c.requires.3,
    )

pub returns : goal.returns
returns c =
    let h = dossier_fits c.requires.0 in
    λ i. record { nodes = nodes_same _ (nodes_sound h) i; attributes = attributes_same _ (attributes_sound h) i; permissions = c.insert-t.ensures i }
