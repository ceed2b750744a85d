-- `image::permissions::read_permissions` meets its contract. The loop's invariant: the records so far are good, and the tables hold them. Assumes nothing.
use borrow.Author.Rules.{rules}
use mathlib.Core.Path.{◌≡◌, sym, ap₂, ◌∙◌}
use mathlib.Core.Bool.{◌||◌, not}
use lib.Dec.{eqb, leb}
use Rattle.laws.specs.Slots.{pick}
use lib.Seq.{length-take-le}
use Rattle.image.proofs.Lent.{keys_long, keys_ascend, there_by_keys, there_by_rows}
use Rattle.parse.specs.declared.Record.TheVariants as kinds
use Rattle.image.proofs.Stands.{row_is}
use Rattle.image.proofs.Phases.{blamed, other_breaks, permissions_begin, permission_answer, permission_path_sound, permission_none_after, permission_breaks, permissions_more}
use Rattle.image.proofs.permissions.read_permissions.Goals as goal
use Rattle.image.proofs.permissions.read_permissions.Goals.{After-clashes-clashing}

pub loop-k-init : goal.loop-k-init
loop-k-init c = permissions_begin c.requires.1 c.no_permissions.ensures

pub slice_bounds-keys-end : goal.slice_bounds-keys-end
slice_bounds-keys-end c = keys_long c.args.nodes c.loop-k.invariant.on c.keys_of-keys.result c.keys_of-keys.ensures

pub slice_bounds-object_there-end : goal.slice_bounds-object_there-end
slice_bounds-object_there-end c = sym (length-take-le _ _ (keys_long c.args.nodes c.loop-k.invariant.on c.keys_of-keys.result c.keys_of-keys.ensures))

pub object_there-on-requires : goal.object_there-on-requires
object_there-on-requires c =
    let u = c.loop-k.invariant in
    let s = c.in-Some-Permission.r in (
      keys_ascend c.args.nodes u.on c.keys_of-keys.result c.keys_of-keys.ensures,
      u.of,
      permission_path_sound u s (row_is kinds.Permission c.in-Some-Permission.is c.in-Some-Permission.field-0-is c.record_after.ensures),
    )

pub clashes-clashing-requires : goal.clashes-clashing-requires
clashes-clashing-requires c =
    let u = c.loop-k.invariant in
    let s = c.in-Some-Permission.r in
    let e = row_is kinds.Permission c.in-Some-Permission.is c.in-Some-Permission.field-0-is c.record_after.ensures in
    (u.sound, permission_path_sound u s e, permission_none_after u s e)

-- what the tests answer is what is asked of the record
answer : (c : After-clashes-clashing)
    → permission_answer c.loop-k.invariant c.in-Some-Permission.r (row_is kinds.Permission c.in-Some-Permission.is c.in-Some-Permission.field-0-is c.record_after.ensures)
    ≡ (leb 128 c.loop-k.t.count || (not c.object_there-on.result || c.clashes-clashing.result))
answer c =
    let u = c.loop-k.invariant in
    let x = c.in-Some-Permission.r in
    let p = permission_path_sound u x (row_is kinds.Permission c.in-Some-Permission.is c.in-Some-Permission.field-0-is c.record_after.ensures) in
    let on = c.object_there-on.ensures
    ∙ ap₂ (λ a b. pick (eqb x.name 0) a b) (there_by_keys c.args.nodes u.on c.keys_of-keys.result c.keys_of-keys.ensures x.path p)
    (there_by_rows c.args.attributes x.path p x.name) in
    sym (λ i. leb 128 c.loop-k.t.count || (not (on i) || c.clashes-clashing.ensures i))

pub returns-in_default : goal.returns-in_default
returns-in_default c = blamed (other_breaks c.loop-k.invariant c.loop-k-test.true (search rules))

pub returns-then-c-on : goal.returns-then-c-on
returns-then-c-on c =
    blamed (permission_breaks c.loop-k.invariant c.in-Some-Permission.r (row_is kinds.Permission c.in-Some-Permission.is c.in-Some-Permission.field-0-is c.record_after.ensures) c.loop-k-test.true (answer (goal.at.returns-then-c-on c).After-clashes-clashing ∙ c.if-c-on.true))

pub loop-k-preserved : goal.loop-k-preserved
loop-k-preserved c =
    permissions_more c.loop-k.invariant c.in-Some-Permission.r (row_is kinds.Permission c.in-Some-Permission.is c.in-Some-Permission.field-0-is c.record_after.ensures) (answer (goal.at.loop-k-preserved c).After-clashes-clashing ∙ c.if-c-on.false) c.loop-k-test.true
