-- `image::columns::objects_of` meets its contract: each row's number and name are stored at the row's place. Assumes nothing.
use mathlib.Core.Path.{◌≡◌, refl, ap, ◌∙◌}
use Prim.Native.Nat.{◌+◌, ◌<◌, ◌≤◌}
use native.Mathlib.Omega.{arith}
use lib.ListN.{drop, get_or, take}
use lib.Seq.{get_or-take, length-take-le}
use Rattle.laws.proofs.Fill.{begin, turn, done, row_end, held_room, held_full, held_each, held_next}
use Rattle.path.specs.View.{key_of}
use Rattle.tables.specs.View.{view_attribute, view_attributes, no_attribute}
use Rattle.tables.proofs.Rows.{attribute_path, attributes_held}
use Rattle.tables.specs.declared.Attribute.{Attribute}
use Rattle.image.proofs.Keys.{alone, object_of, number_key}
use Rattle.image.proofs.columns.objects_of.Goals as goal

pub shared_ref_as_front-attributes : goal.shared_ref_as_front-attributes
shared_ref_as_front-attributes c = held_room _ _ _ _ _ _ (attributes_held c.args.t c.requires)

pub loop-i-init : goal.loop-i-init
loop-i-init c = begin alone object_of (λ l. l) 256 (0, 0) _ (view_attributes c.args.t) refl

pub loop-i-preserved : goal.loop-i-preserved
loop-i-preserved c =
    let l = c.loop-i in
    let t = c.args.t in
    let h = attributes_held t c.requires in
    let full = length-take-le t.count t.rows (held_full _ _ _ _ _ _ h) in
    let room = held_room _ _ _ _ _ _ h in
    let k : l.i < t.count = omega (arith, c.loop-i-test.true) in
    let a = get_or t.rows l.i no_attribute in
    let same : get_or (take t.count t.rows) l.i no_attribute ≡ a = get_or-take t.count t.rows l.i no_attribute k in
    let number = c.key.ensures ∙ ap (λ (x : Attribute). key_of x.path) same ∙ number_key a.path (attribute_path (held_each _ _ _ _ _ _ h l.i no_attribute k)) in
    turn alone object_of (λ l. l) 256 _ l.objects l.i l.invariant (view_attribute a) (drop (l.i + 1) (view_attributes t)) (view_attribute a) _ (omega arith)
    (held_next _ _ _ _ _ _ h view_attribute l.i no_attribute k) refl (λ j. (number j, (same j).name))

pub returns : goal.returns
returns c =
    let t = c.args.t in
    let full = length-take-le t.count t.rows (held_full _ _ _ _ _ _ (attributes_held t c.requires)) in
    let past : t.count ≤ c.loop-i.i = omega (arith, c.loop-i-test.false) in
    done alone object_of (λ l. l) 256 _ c.loop-i.objects c.loop-i.i c.loop-i.invariant (row_end view_attribute t.rows t.count c.loop-i.i past) refl
