-- `lookups::attribute_at` meets its contract: the row at the place of the object is the object's, or none is. Assumes nothing.
use mathlib.Core.Path.{◌≡◌, refl, sym, ap, subst, ◌∙◌}
use mathlib.Core.Bool.{Bool, true, false, ◌&&◌}
use Prim.Native.Nat.{ℕ, ◌<◌}
use native.Mathlib.Omega.{arith}
use lib.Dec.{eqb, ltb}
use lib.ListN.{get_or, length, take}
use lib.Seq.{get_or-take, length-take-le}
use borrow.Author.Tests.{eq-eqb, ltb-true, ltb-false, ne_eqb}
use Rattle.std.proofs.Common.{rules, Bor}
use Rattle.std.specs.Bool.{then_some}
use Rattle.std.specs.Option.{option_map}
use Rattle.std.proofs.lemmas.List.Sorted.{IsPartitionPoint-from_clause}
use Rattle.laws.proofs.Fill.{held_room, held_full, held_each, row_end}
use Rattle.laws.proofs.Search.{rows_from}
use Rattle.path.specs.Address.{same}
use Rattle.path.specs.View.{steps, key_of}
use Rattle.tables.specs.declared.Attribute.{Attribute}
use Rattle.tables.specs.declared.Found.{Found}
use Rattle.tables.specs.Places.{Object, before_object, attribute_place}
use Rattle.tables.specs.View.{no_attribute, view_attribute, view_attributes, found_of, AttributeSound}
use Rattle.tables.proofs.Compare.{pair_lt, lexed_pair, keyed}
use Rattle.tables.proofs.Rows.{attribute_path, attributes_held}
use Rattle.tables.proofs.Places.{attributes_searched, of_attribute_lem}
use Rattle.tables.proofs.Together.{begins, begin}
use Rattle.lookups.specs.View.{found_at}
use Rattle.lookups.proofs.Told.{object_found}
use Rattle.lookups.proofs.attribute_at.Goals as goal
use Rattle.lookups.proofs.attribute_at.Goals.{Start, After-partition_point, In_ok-a, then-a-name, else-a-name}

-- what a lent row tells
abbrev told : Bor Attribute → Found
told a = found_at a.now

told_if : (b : Bool) (a : Bor Attribute) → option_map told (then_some b a) ≡ then_some b (told a)
told_if true a = refl
told_if false a = refl

pub shared_ref_as_front-rows : goal.shared_ref_as_front-rows
shared_ref_as_front-rows c = held_room _ _ _ _ _ _ (attributes_held c.args.t.now c.requires.0)

long : (c : Start) → length (take c.args.t.now.count c.args.t.now.rows) ≡ c.args.t.now.count
long c = length-take-le c.args.t.now.count c.args.t.now.rows (held_full _ _ _ _ _ _ (attributes_held c.args.t.now c.requires.0))

-- the search ends at the object's place
placed : (c : After-partition_point) → c.partition_point.result ≡ attribute_place (steps c.args.p, c.args.name) (view_attributes c.args.t.now)
placed c =
    let q = attributes_searched c.requires.0 in
    let o : Object = (steps c.args.p, c.args.name) in
    let below : Attribute → Bool = λ s. pair_lt (key_of s.path, s.name) (key_of c.args.p, c.args.name) in
    let e : (i : ℕ) (d : Attribute) → i < c.args.t.now.count → below (get_or c.args.t.now.rows i d) ≡ before_object (steps (get_or c.args.t.now.rows i d).path, (get_or c.args.t.now.rows i d).name) o =
    λ i d h. let a = get_or c.args.t.now.rows i d in
    lexed_pair (key_of a.path) (key_of c.args.p) a.name c.args.name
    ∙ keyed a.path c.args.p (attribute_path (held_each _ _ _ _ _ _ (attributes_held c.args.t.now c.requires.0) i d h)) c.requires.1 _ _ refl refl (ltb a.name c.args.name) in
    let z = IsPartitionPoint-from_clause below (take c.args.t.now.count c.args.t.now.rows) c.partition_point.result c.partition_point.ensures.partitioned (begins q o below e) (λ a r f k. search rules) in
    begin q o below e no_attribute c.partition_point.result z c.partition_point.ensures.bound

pub returns-in_err-a : goal.returns-in_err-a
returns-in_err-a c =
    let i = c.partition_point.result in
    let n = long (goal.at.returns-in_err-a c).Start in
    let past = ltb-false i (length (take c.args.t.now.count c.args.t.now.rows)) (sym c.in_err-a.ensures.lookup.0) in
    ap (option_map told) c.from_residual.ensures
    ∙ sym (rows_from (attributes_searched c.requires.0) (steps c.args.p, c.args.name) (of_attribute_lem (steps c.args.p) c.args.name found_of) (placed (goal.at.returns-in_err-a c).After-partition_point) ∙ rw (row_end view_attribute c.args.t.now.rows c.args.t.now.count i (omega arith)))

inside : (c : In_ok-a) → c.partition_point.result < c.args.t.now.count
inside c =
    let n = long (goal.at-In_ok-a c).Start in
    let h = ltb-true c.partition_point.result (length (take c.args.t.now.count c.args.t.now.rows)) (sym c.in_ok-a.ensures.lookup.0) in
    omega arith

found : (c : In_ok-a) → c.in_ok-a.a.now ≡ get_or c.args.t.now.rows c.partition_point.result c.in_ok-a.a.now
found c = c.in_ok-a.ensures.lookup.1 ∙ get_or-take c.args.t.now.count c.args.t.now.rows c.partition_point.result c.in_ok-a.a.now (inside c)

sound : (c : In_ok-a) → AttributeSound c.in_ok-a.a.now
sound c = subst AttributeSound (sym (found c)) (held_each _ _ _ _ _ _ (attributes_held c.args.t.now c.requires.0) c.partition_point.result c.in_ok-a.a.now (inside c))

pub is_same-requires : goal.is_same-requires
is_same-requires c = (attribute_path (sound (goal.at.is_same-requires c).In_ok-a), c.requires.1)

pub returns : goal.returns
returns c =
    let i = c.partition_point.result in
    let x = c.in_ok-a.a.now in
    let p = steps c.args.p in
    let n = c.args.name in
    let test : (eqb x.name n && same (steps x.path) p) ≡ c.if-a-name.then_some = elim c.if-a-name.branch [
      | then-a-name w ↦ ap (λ b. b && same (steps x.path) p) (eq-eqb x.name n w.if-a-name.true) ∙ sym w.is_same.ensures ∙ sym w.then_some-is
      | else-a-name w ↦ ap (λ b. b && same (steps x.path) p) (ne_eqb x.name n w.if-a-name.false) ∙ sym (ne_eqb x.name n w.if-a-name.false) ∙ sym w.then_some-is
    ] in
    ap (option_map told) c.then_some.ensures ∙ told_if c.if-a-name.then_some c.in_ok-a.a ∙ object_found c.args.t.now p n i x c.requires.0 (placed (goal.at.returns c).After-partition_point) (inside (goal.at.returns c).In_ok-a) (found (goal.at.returns c).In_ok-a) test
