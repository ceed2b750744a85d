-- `image::attributes::read_attributes` meets its contract. The loop's invariant: the records so far are good, and the tables hold them. Assumes nothing.
use borrow.Author.Tests.{not-true, not-false}
use mathlib.Core.Path.{◌≡◌, sym, ap, ◌∙◌}
use Prim.Native.Nat.{◌-◌}
use lib.ListN.{length, take}
use lib.Seq.{length-take-le}
use Rattle.laws.proofs.Fill.{held_room, held_full}
use Rattle.tables.proofs.Rows.{attributes_held}
use Rattle.image.specs.Rows.{from_end, attribute_tests}
use Rattle.image.proofs.Lent.{keys_long, keys_ascend, there_by_keys, paths_taken, tests_taken}
use Rattle.parse.specs.declared.Record.TheVariants as kinds
use Rattle.image.proofs.Stands.{row_is}
use Rattle.image.proofs.Phases.{blamed, attributes_begin, answer_at, attribute_path_sound, attribute_breaks, attributes_more}
use Rattle.image.proofs.attributes.read_attributes.Goals as goal
use Rattle.image.proofs.attributes.read_attributes.Goals.{After-attribute_fits}

pub loop-k-init : goal.loop-k-init
loop-k-init c = attributes_begin c.requires.1 c.no_attributes-t.ensures

pub shared_ref_as_front-attribute_fits : goal.shared_ref_as_front-attribute_fits
shared_ref_as_front-attribute_fits c = held_room _ _ _ _ _ _ (attributes_held c.loop-k.t c.loop-k.invariant.sound)

pub slice_bounds-keys-end : goal.slice_bounds-keys-end
slice_bounds-keys-end c = keys_long c.args.nodes c.loop-k.invariant.on c.keys_of-keys.result c.keys_of-keys.ensures

pub slice_bounds-attribute_fits-end : goal.slice_bounds-attribute_fits-end
slice_bounds-attribute_fits-end c = sym (length-take-le _ _ (keys_long c.args.nodes c.loop-k.invariant.on c.keys_of-keys.result c.keys_of-keys.ensures))

pub attribute_fits-requires : goal.attribute_fits-requires
attribute_fits-requires c =
    let l = c.loop-k in
    let nodes = c.args.nodes in (
      keys_ascend nodes l.invariant.on c.keys_of-keys.result c.keys_of-keys.ensures,
      paths_taken l.t l.invariant.sound,
      attribute_path_sound l.invariant c.in-Some-Attribute.a (row_is kinds.Attribute c.in-Some-Attribute.is c.in-Some-Attribute.field-0-is c.record_after.ensures),
    )

-- what the tests answer is what is asked of the nodes, of the last row and of that 16 places before the end
answer : (c : After-attribute_fits)
    → answer_at c.args.nodes
    c.loop-k.t
    c.in-Some-Attribute.a.path
    c.in-Some-Attribute.a.name
    (c.loop-k.t.count - 1)
    (c.loop-k.t.count - 16)
    ≡ c.attribute_fits.result
answer c =
    let nodes = c.args.nodes in
    let p = c.in-Some-Attribute.a.path in
    let name = c.in-Some-Attribute.a.name in
    let sound = attribute_path_sound c.loop-k.invariant c.in-Some-Attribute.a (row_is kinds.Attribute c.in-Some-Attribute.is c.in-Some-Attribute.field-0-is c.record_after.ensures) in
    let full = held_full _ _ _ _ _ _ (attributes_held c.loop-k.t c.loop-k.invariant.sound) in
    sym (tests_taken _ c.loop-k.t.rows c.loop-k.t.count p name full)
    ∙ ap (λ b. attribute_tests b (length (take c.loop-k.t.count c.loop-k.t.rows)) (from_end 1 (take c.loop-k.t.count c.loop-k.t.rows)) (from_end 16 (take c.loop-k.t.count c.loop-k.t.rows)) p name)
    (sym (there_by_keys nodes c.loop-k.invariant.on c.keys_of-keys.result c.keys_of-keys.ensures p sound))
    ∙ sym c.attribute_fits.ensures

pub returns-then-not-attribute_fits : goal.returns-then-not-attribute_fits
returns-then-not-attribute_fits c =
    let l = c.loop-k in
    blamed (attribute_breaks l.invariant c.in-Some-Attribute.a (row_is kinds.Attribute c.in-Some-Attribute.is c.in-Some-Attribute.field-0-is c.record_after.ensures) c.loop-k-test.true (answer (goal.at.returns-then-not-attribute_fits c).After-attribute_fits ∙ not-true _ c.if-not-attribute_fits.true-raw))

pub loop-k-preserved : goal.loop-k-preserved
loop-k-preserved c =
    attributes_more c.loop-k.invariant c.in-Some-Attribute.a (row_is kinds.Attribute c.in-Some-Attribute.is c.in-Some-Attribute.field-0-is c.record_after.ensures) (answer (goal.at.loop-k-preserved c).After-attribute_fits ∙ not-false _ c.if-not-attribute_fits.false-raw) c.loop-k-test.true
