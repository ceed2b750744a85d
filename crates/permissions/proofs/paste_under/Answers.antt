-- `permissions::paste_under` meets its contract: those of the cached attribute under its new name are put among the others. Assumes nothing.
use Rattle.std.proofs.Common.{rules}
use mathlib.Core.Path.{◌≡◌, refl, sym, ap, ap₂, subst, ◌∙◌}
use mathlib.Core.Option.{some}
use mathlib.Core.List.{map, map-map}
use native.Mathlib.Omega.{arith}
use lib.Dec.{T}
use lib.ListN.{length-map}
use Rattle.laws.specs.Sorted.{merge, move}
use Rattle.laws.proofs.Fill.{is_fits}
use Rattle.path.specs.Address.{valid}
use Rattle.path.specs.View.{steps}
use Rattle.path.proofs.Structs.{path_valid}
use Rattle.model.specs.Things.{before_permission}
use Rattle.model.specs.Moves.{grant_row}
use Rattle.tables.specs.View.{AtPath, view_permissions, permissions_of, blank_permission, Fits}
use Rattle.tables.proofs.Rows.{view_permission_lem, view_permissions_lem}
use Rattle.tables.proofs.Tables.{permissions_same, permissions_count}
use Rattle.moves.specs.Room.{grant_in, renamed}
use Rattle.rows.specs.Laws.{permission_laws}
use Rattle.rows.proofs.Pasting.{all_in, stands, two_tables}
use Rattle.permissions.proofs.Objects.{all_move, renamed_sorted, renamed_apart, renamed_path}
use Rattle.permissions.proofs.paste_under.Goals as goal
use Rattle.permissions.proofs.paste_under.Goals.{After-moved-new}

new : (c : After-moved-new) → c.moved-new.result ≡ permissions_of (map (renamed (steps c.args.p) c.args.name) (view_permissions c.args.c))
unfolding permissions_of
new c =
    let f = renamed (steps c.args.p) c.args.name in
    let e : c.moved-new.result ≡ permissions_of (move (λ r. some (f r)) (view_permissions c.args.c)) = search rules in
    e ∙ ap permissions_of (all_move f (view_permissions c.args.c))

pub shared_ref_as_front-merged : goal.shared_ref_as_front-merged
unfolding permissions_of
shared_ref_as_front-merged c =
    let s = c.requires.permissions_sound.3 in
    let e = ap (λ x. x.count) (new (goal.at.shared_ref_as_front-merged c).After-moved-new) in
    let l = length-map (view_permissions c.args.c) (renamed (steps c.args.p) c.args.name) in
    let n = permissions_count c.args.c c.requires.permissions_sound.0 in
    omega arith

pub merged-requires : goal.merged-requires
unfolding permissions_of
merged-requires c =
    let p = steps c.args.p in
    let n = c.args.name in
    let s = c.requires.permissions_sound in
    let k = is_fits permissions_of view_permissions view_permissions_lem (Fits before_permission 128) c.args.c s.0 in
    let l = is_fits permissions_of view_permissions view_permissions_lem (Fits before_permission 128) c.args.t s.1 in
    let i = length-map (view_permissions c.args.c) (renamed p n) in
    let d = permissions_count c.args.c s.0 in
    let e = permissions_count c.args.t s.1 in
    let room = s.3 in (
      search rules,
      two_tables 128 blank_permission permission_laws (map (renamed p n) (view_permissions c.args.c)) (view_permissions c.args.t) (new (goal.at.merged-requires c).After-moved-new) (permissions_same c.args.t s.1) _ _ (omega arith)
          (renamed_sorted p n k.ascend c.requires.one_object.0 c.requires.one_object.1) l.ascend (renamed_apart p n k.ascend c.requires.one_object.0 c.requires.one_object.1)
          (λ x y h f. (record { model = x; same = refl; fits = subst (λ q. T (valid q)) (renamed_path p n (view_permissions c.args.c) h) (path_valid s.2) }, record { model = y; same = refl; fits = all_in AtPath y (view_permissions c.args.t) l.each f }))
          (λ x y r h f q. q ∙ ap₂ before_permission (view_permission_lem x) (view_permission_lem y)),
    )

pub returns : goal.returns
unfolding permissions_of
returns c =
    c.merged.ensures
    ∙ ap₂ (λ x y. permissions_of (merge before_permission x y)) (stands 128 blank_permission permission_laws _ (new (goal.at.returns c).After-moved-new) ∙ sym (map-map (grant_row (steps c.args.p) c.args.name) grant_in (view_permissions c.args.c))) refl
