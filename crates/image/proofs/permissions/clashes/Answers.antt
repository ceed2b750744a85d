-- `image::permissions::clashes` meets its contract: the last rows are the object's, up to the first of another. Assumes nothing.
use borrow.Author.Rules.{rules}
use borrow.Author.Tests.{tests}
use mathlib.Core.Path.{refl, ◌∙◌}
use lib.ListN.{take}
use Rattle.std.proofs.lemmas.Iterator.Adapters.{YieldsList-from_rev_slice}
use Rattle.std.proofs.lemmas.Iterator.Search.{any_from_yields_List, YieldsList-from_take_while}
use Rattle.laws.proofs.Fill.{held_room}
use Rattle.tables.specs.View.{view_grant}
use Rattle.tables.proofs.Rows.{permissions_held}
use Rattle.image.proofs.Clashes.{is_own, clashes_with, walk_back}
use Rattle.image.proofs.permissions.clashes.Goals as goal

pub shared_ref_as_front-rows : goal.shared_ref_as_front-rows
shared_ref_as_front-rows c = held_room _ _ _ _ _ _ (permissions_held c.args.t.now c.requires.0)

pub returns : goal.returns
returns c =
    let t = c.args.t.now in
    let r = c.args.r in
    let g = view_grant r.grant in
    any_from_yields_List (clashes_with g) _ _ _ c.any.ensures.ran
    (YieldsList-from_take_while _ (is_own r.path r.name) (YieldsList-from_rev_slice (take t.count t.rows) (cc)) refl (cc) (λ x b q k. search (rules, tests)))
    (λ x b q k. search (rules, tests))
    ∙ walk_back t c.requires.0 r.path c.requires.1 r.name g c.requires.2
