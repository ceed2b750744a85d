-- `bounds::fill::with_permission` meets its contract: a permission that clashes with itself and with none held is not there. Assumes nothing.
use mathlib.Core.Path.{sym, ◌∙◌}
use Rattle.path.specs.View.{steps}
use Rattle.tables.specs.View.{view_grant, view_permissions}
use Rattle.bounds.proofs.Fresh.{permission_new}
use Rattle.bounds.proofs.Filled.{with_permission_lem, permission_at_lem}
use Rattle.bounds.proofs.fill.with_permission.Goals as goal

pub insert-requires : goal.insert-requires
insert-requires c =
    let a = c.args in (
      permission_at_lem a.name a.g c.requires.1,
      c.requires.0,
      c.if-t-ge128.false,
      permission_new (steps a.p) a.name (view_grant a.g) (view_permissions a.t) (sym c.clash.ensures ∙ c.if-not-clash.false) (sym c.clash_in.ensures ∙ c.if-clash_in.false),
    )

pub returns : goal.returns
returns c =
    with_permission_lem (c.args.name, view_grant c.args.g) c.requires.0 c.requires.1 c.if-t-ge128.false c.insert.ensures
