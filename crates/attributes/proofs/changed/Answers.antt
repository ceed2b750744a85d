-- `attributes::changed` meets its contract: the value changes where the row is found; a node has one attribute for a name. Assumes nothing.
use mathlib.Core.Path.{◌≡◌, refl, ap, sym, subst, ◌∙◌}
use mathlib.Core.Bool.{true, false}
use mathlib.Core.List.{◌∷◌}
use Prim.Native.Nat.{◌+◌}
use native.Mathlib.Omega.{arith}
use lib.ListN.{drop, get_or, set}
use Rattle.laws.proofs.Fill.{held_room, held_each, held_next, row_end, is_fits, is_same}
use Rattle.laws.proofs.Inplace.{held_size, held_store, unchanged, changed_one, unchanged_all}
use Rattle.path.specs.View.{steps}
use Rattle.model.specs.Things as things
use Rattle.model.specs.Things.{Row, before_attribute}
use Rattle.tables.specs.declared.Attribute.{Attribute}
use Rattle.tables.specs.View.{AttributeSound, view_value, view_attribute, attribute_of, view_attributes, attributes_of, attributes_with, no_attribute, Fits}
use Rattle.tables.proofs.Rows.{attributes_held, view_attribute_lem, view_attributes_lem}
use Rattle.attributes.proofs.Stored.{revalued_at}
use Rattle.attributes.proofs.Values.{is_at, revalue, value_stays, value_new, others_stay, changed_is}
use Rattle.attributes.proofs.changed.Goals as goal
use Rattle.attributes.proofs.changed.Goals.{In-loop-i, Start}

abbrev change : Start → Row things.Attribute → Row things.Attribute
change s = revalue (steps s.args.p) s.args.name (view_value s.args.v)

abbrev here : In-loop-i → Attribute
here c = get_or c.loop-i.out.rows c.loop-i.i no_attribute

row : (c : In-loop-i) → AttributeSound (here c)
row c =
    subst (λ z. AttributeSound (get_or z.rows c.loop-i.i no_attribute)) (sym c.loop-i.invariant.1)
    (held_each _ _ _ _ _ _ (attributes_held c.args.t c.requires.0) c.loop-i.i no_attribute c.loop-i-test.true)

next : (c : In-loop-i)
    → drop c.loop-i.i (view_attributes c.args.t) ≡ view_attribute (here c) ∷ drop (c.loop-i.i + 1) (view_attributes c.args.t)
next c =
    held_next _ _ _ _ _ _ (attributes_held c.args.t c.requires.0) view_attribute c.loop-i.i no_attribute c.loop-i-test.true
    ∙ ap (λ z. view_attribute (get_or z.rows c.loop-i.i no_attribute) ∷ drop (c.loop-i.i + 1) (view_attributes c.args.t)) (sym c.loop-i.invariant.1)

pub loop-i-init : goal.loop-i-init
loop-i-init c = (held_room _ _ _ _ _ _ (attributes_held c.args.t c.requires.0), refl, refl)

pub is_at-requires : goal.is_at-requires
is_at-requires c = (row (goal.at.is_at-requires c).In-loop-i, c.requires.1)

pub returns-then-is_at : goal.returns-then-is_at
unfolding attributes_of
returns-then-is_at c =
    let l = c.loop-i in
    let h = attributes_held c.args.t c.requires.0 in
    let f = is_fits attributes_of view_attributes view_attributes_lem (Fits before_attribute 256) c.args.t c.requires.0 in
    let size = held_size h view_attribute in
    let hit : is_at (steps c.args.p) c.args.name (view_attribute (here (goal.at.returns-then-is_at c).In-loop-i)) ≡ true = sym c.is_at.ensures ∙ c.if-is_at.true in
    ap (λ z. attributes_with (set z.rows l.i c.revalued.result) z.count) l.invariant.1
    ∙ held_store h view_attribute view_attribute_lem attributes_with l.i (change (goal.at.returns-then-is_at c).Start (view_attribute (here (goal.at.returns-then-is_at c).In-loop-i))) _ c.loop-i-test.true
    (c.revalued.ensures ∙ revalued_at (here (goal.at.returns-then-is_at c).In-loop-i) c.args.v (row (goal.at.returns-then-is_at c).In-loop-i) ∙ ap attribute_of (sym (value_new (steps c.args.p) c.args.name (view_value c.args.v) (view_attribute (here (goal.at.returns-then-is_at c).In-loop-i)) hit)))
    ∙ ap attributes_of (sym (changed_one (change (goal.at.returns-then-is_at c).Start) (view_attributes c.args.t) l.i l.invariant.2 (view_attribute (here (goal.at.returns-then-is_at c).In-loop-i)) (omega arith) (next (goal.at.returns-then-is_at c).In-loop-i)
    (others_stay (steps c.args.p) (view_value c.args.v) f.ascend c.requires.2 c.args.name l.i (view_attribute (here (goal.at.returns-then-is_at c).In-loop-i)) _ (next (goal.at.returns-then-is_at c).In-loop-i) hit))
    ∙ changed_is (steps c.args.p) (view_value c.args.v) f.ascend c.requires.2 c.args.name)

pub loop-i-preserved : goal.loop-i-preserved
loop-i-preserved c =
    let l = c.loop-i in
    let miss : is_at (steps c.args.p) c.args.name (view_attribute (here (goal.at.loop-i-preserved c).In-loop-i)) ≡ false = sym c.is_at.ensures ∙ c.if-is_at.false in (
      l.invariant.0,
      l.invariant.1,
      unchanged (change (goal.at.loop-i-preserved c).Start) (view_attributes c.args.t) l.i l.invariant.2 (view_attribute (here (goal.at.loop-i-preserved c).In-loop-i)) (next (goal.at.loop-i-preserved c).In-loop-i) (value_stays (steps c.args.p) c.args.name (view_value c.args.v) (view_attribute (here (goal.at.loop-i-preserved c).In-loop-i)) miss),
    )

pub returns : goal.returns
returns c =
    let l = c.loop-i in
    let f = is_fits attributes_of view_attributes view_attributes_lem (Fits before_attribute 256) c.args.t c.requires.0 in
    l.invariant.1
    ∙ is_same attributes_of view_attributes view_attributes_lem (Fits before_attribute 256) c.args.t c.requires.0
    ∙ ap attributes_of (sym (unchanged_all (change (goal.at.returns c).Start) (view_attributes c.args.t) l.i l.invariant.2 (row_end view_attribute c.args.t.rows c.args.t.count l.i c.loop-i-test.false))
    ∙ changed_is (steps c.args.p) (view_value c.args.v) f.ascend c.requires.2 c.args.name)
