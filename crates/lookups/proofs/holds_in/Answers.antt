-- `lookups::holds_in` meets its contract: whether one of the object's permissions is this one. Assumes nothing.
use mathlib.Core.Path.{◌≡◌, ap, ◌∙◌}
use Rattle.std.proofs.Common.{rules, tests}
use Rattle.std.proofs.lemmas.Iterator.{YieldsList-from_slice}
use Rattle.std.proofs.lemmas.Iterator.Search.{any_from_yields_List}
use Rattle.std.specs.List.{list_any}
use Rattle.model.specs.Moves.{same_permission, holds}
use Rattle.tables.specs.View.{view_grant}
use Rattle.lookups.proofs.Told.{any_holds}
use Rattle.lookups.proofs.holds_in.Goals as goal

pub returns : goal.returns
returns c =
    let g = view_grant c.args.g in
    let e : c.any.result ≡ list_any (λ a. same_permission (view_grant c.args.g) (view_grant a.grant)) c.permissions_at.result.now
    = any_from_yields_List _ _ _ c.any.result c.any.ensures.ran (YieldsList-from_slice c.permissions_at.result.now cc) (λ x b q k. search (rules, tests)) in
    e ∙ any_holds c.args.g c.permissions_at.result.now ∙ ap (holds g) c.permissions_at.ensures
