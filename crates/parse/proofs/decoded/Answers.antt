-- `parse::decoded` meets its contract: by path and kind. Assumes nothing.
use mathlib.Core.Path.{sym, ◌∙◌}
use Rattle.parse.proofs.Views.{node_view, attribute_view, permission_view, bad_view, pathless_view}
use Rattle.parse.proofs.decoded.Goals as goal

pub returns-in_err-path : goal.returns-in_err-path
returns-in_err-path c =
    c.from_residual.ensures ∙ pathless_view c.args.b.now c.told-b c.fits-b (sym c.in_err-path.was ∙ c.path_at.ensures)

pub returns-in-1 : goal.returns-in-1
returns-in-1 c =
    c.read_node.ensures ∙ node_view c.args.b.now c.told-b c.fits-b (sym c.in_ok-path.was ∙ c.path_at.ensures) c.in-1.is

pub returns-in-2 : goal.returns-in-2
returns-in-2 c =
    c.read_attribute.ensures ∙ attribute_view c.args.b.now c.told-b c.fits-b (sym c.in_ok-path.was ∙ c.path_at.ensures) c.in-2.is

pub returns-in-3 : goal.returns-in-3
returns-in-3 c =
    c.read_permission.ensures ∙ permission_view c.args.b.now c.told-b c.fits-b (sym c.in_ok-path.was ∙ c.path_at.ensures) c.in-3.is

pub returns-in_default : goal.returns-in_default
returns-in_default c =
    bad_view c.args.b.now c.told-b c.fits-b
    c.in_default.in_default-own.rest.0.0.1 c.in_default.in_default-own.rest.0.1 c.in_default.in_default-own.rest.1
