-- `grants::clash_in` meets its contract: one of the object's permissions clashes. Assumes nothing.
use mathlib.Core.Path.{refl, ap, ◌∙◌}
use borrow.Author.Rules.{rules}
use borrow.Author.Tests.{tests}
use Rattle.std.proofs.lemmas.Iterator.{YieldsList-from_slice}
use Rattle.std.proofs.lemmas.Iterator.Search.{any_from_yields_List}
use Rattle.model.specs.Decide as model
use Rattle.tables.specs.View.{view_grant}
use Rattle.grants.proofs.Told.{any_told}
use Rattle.grants.proofs.clash_in.Goals as goal

pub returns : goal.returns
returns c =
    let g = view_grant c.args.g in
    any_from_yields_List (λ a. model.clash g (view_grant a.grant)) _ _ _ c.any.ensures.ran (YieldsList-from_slice c.permissions_at.result.now cc) (λ x b q k. search (rules, tests))
    ∙ any_told (λ a. view_grant a.grant) (model.clash g) (model.clash_any g) refl (λ x l. refl) c.permissions_at.result.now
    ∙ ap (model.clash_any g) c.permissions_at.ensures
