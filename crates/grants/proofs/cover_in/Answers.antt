-- `grants::cover_in` meets its contract: one of the object's permissions covers. Assumes nothing.
use mathlib.Core.Path.{refl, ap, ◌∙◌}
use borrow.Author.Rules.{rules}
use borrow.Author.Tests.{tests}
use Rattle.std.proofs.lemmas.Iterator.{YieldsList-from_slice}
use Rattle.std.proofs.lemmas.Iterator.Search.{any_from_yields_List}
use Rattle.model.specs.Decide as model
use Rattle.tables.specs.View.{view_grant}
use Rattle.grants.specs.View.{view_subject}
use Rattle.grants.proofs.Told.{any_told}
use Rattle.grants.proofs.cover_in.Goals as goal

pub returns : goal.returns
returns c =
    let s = view_subject c.args.s in
    let g = view_grant c.args.g in
    any_from_yields_List (λ a. model.covers s g (view_grant a.grant)) _ _ _ c.any.ensures.ran (YieldsList-from_slice c.permissions_at.result.now cc) (λ x b q k. search (rules, tests))
    ∙ any_told (λ a. view_grant a.grant) (model.covers s g) (model.cover_any s g) refl (λ x l. refl) c.permissions_at.result.now
    ∙ ap (model.cover_any s g) c.permissions_at.ensures
