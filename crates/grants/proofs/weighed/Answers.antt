-- `grants::weighed` meets its contract: of the object's permissions, one is the same, one covers, one clashes. Assumes nothing.
use mathlib.Core.Path.{refl, ap, ◌∙◌}
use mathlib.Core.Bool.{Bool}
use borrow.Author.Rules.{rules}
use borrow.Author.Tests.{tests}
use Rattle.std.proofs.lemmas.Iterator.{YieldsList-from_slice}
use Rattle.std.proofs.lemmas.Iterator.Search.{any_from_yields_List}
use Rattle.model.specs.Decide as model
use Rattle.model.specs.Moves.{holds, same_permission}
use Rattle.tables.specs.View.{view_grant}
use Rattle.grants.specs.View.{view_subject, weights_of}
use Rattle.grants.specs.declared.Weights.{Weights}
use Rattle.grants.proofs.Told.{any_told}
use Rattle.grants.proofs.weighed.Goals as goal

abbrev weights : Bool → Bool → Bool → Weights
weights held covered clashing = record { held = held; covered = covered; clashing = clashing }

pub returns : goal.returns
returns c =
    let s = view_subject c.args.s in
    let g = view_grant c.args.g in
    let rows = c.permissions_at-rows.result.now in
    let e = any_from_yields_List (λ a. same_permission g (view_grant a.grant)) _ _ c.any.result c.any.ensures.ran (YieldsList-from_slice rows cc) (λ x b q k. search (rules, tests))
    ∙ any_told (λ a. view_grant a.grant) (same_permission g) (holds g) refl (λ x l. refl) rows in
    let f = any_from_yields_List (λ a. model.covers s g (view_grant a.grant)) _ _ c.any-2.result c.any-2.ensures.ran (YieldsList-from_slice rows cc) (λ x b q k. search (rules, tests))
    ∙ any_told (λ a. view_grant a.grant) (model.covers s g) (model.cover_any s g) refl (λ x l. refl) rows in
    let h = any_from_yields_List (λ a. model.clash g (view_grant a.grant)) _ _ c.any-3.result c.any-3.ensures.ran (YieldsList-from_slice rows cc) (λ x b q k. search (rules, tests))
    ∙ any_told (λ a. view_grant a.grant) (model.clash g) (model.clash_any g) refl (λ x l. refl) rows in
    (λ i. weights (e i) (f i) (h i)) ∙ ap (weights_of s g) c.permissions_at-rows.ensures
