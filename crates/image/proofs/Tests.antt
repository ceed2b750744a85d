-- What is asked of a record before its row is put behind those that are there: by the last rows, or by the rules in turn. Assumes nothing.
use mathlib.Core.Path.{◌≡◌, refl, sym, ap, ◌∙◌}
use mathlib.Core.Bool.{Bool, true, false, not, ◌&&◌, ◌||◌}
use mathlib.Core.Option.{some}
use mathlib.Core.List.{[], ◌∷◌}
use Prim.Native.Nat.{ℕ, ◌-◌, ◌≤◌, ◌<◌}
use native.Mathlib.Omega.{arith}
use lib.Dec.{T, eqb, leb, ltb, leb→le}
use lib.ListN.{length, get_or, length-map, length-append}
use borrow.Author.Tests.{eq-eqb, ne_eqb, eqb-true, eqb-false, lt-ltb, le-ltb, ltb-true, ltb-false}
use borrow.Table.Steps.{cases}
use mir.Facts.{and_yes}
use Rattle.laws.specs.Sorted.{◌∈◌, move}
use Rattle.path.specs.declared.Path.{Path}
use Rattle.path.specs.Address.{Address, before, same, parent, last, steps_good}
use Rattle.path.specs.View.{steps, PathSound}
use Rattle.path.proofs.Structs.{path_valid, parent_length}
use Rattle.path.proofs.Laws.{same_self}
use Rattle.model.specs.Things as things
use Rattle.model.specs.Things.{Row}
use Rattle.model.specs.Moves.{at, attribute_in, names_in}
use Rattle.model.specs.Refusals.{is_root}
use Rattle.model.specs.Image.{node_fits, attribute_fits, left, there}
use Rattle.tables.specs.View.{Attributes}
use Rattle.tables.specs.View.{view_attributes, AttributesSound, no_attribute}
use Rattle.tables.specs.Places.{before_object, of_attribute}
use Rattle.tables.proofs.Asked.{attribute_hit}
use Rattle.tables.proofs.Tables.{attributes_count}
use Rattle.tables.proofs.Places.{attributes_searched, attributes_by_path, at_path, of_attribute_lem}
use Rattle.image.specs.Rows.{NoneAfter}
use Rattle.image.proofs.Newest.{none_here, here_last, few, few_far}

-- ---- an attribute that is there is the last one, and those of its node are the last ones
module _ (t : Attributes) (h : AttributesSound t) (p : Address) (name : ℕ)
    (n : (x : Row things.Attribute) → x ∈ view_attributes t → T (before_object (p, name) (of_attribute x)) → ⊥) (m : NoneAfter p (view_attributes t)) where
  pub attribute_new : (eqb t.count 0 || before_object (steps (get_or t.rows (t.count - 1) no_attribute).path, (get_or t.rows (t.count - 1) no_attribute).name) (p, name))
      ≡ not (there (attribute_in p name (view_attributes t)))
  attribute_new =
      cases (eqb t.count 0)
      (λ e. rw e (sym (ap not (none_here (attributes_searched h) (p, name) n (of_attribute_lem p name (λ o. there o)) refl (λ x l f. ap there (attribute_hit p name x l f)) (eqb_zero e)))))
      (λ e. rw e (sym (here_last (attributes_searched h) (p, name) n (of_attribute_lem p name (λ o. there o)) refl (λ x l f. ap there (attribute_hit p name x l f)) no_attribute (eqb_more e))))
    where
      eqb_zero : eqb t.count 0 ≡ true → t.count ≡ 0
      eqb_zero e = eqb-true t.count 0 e

      eqb_more : eqb t.count 0 ≡ false → 0 < t.count
      eqb_more e = let f = eqb-false t.count 0 e in omega arith

  names_many : length (names_in p (view_attributes t)) ≡ length (move (at p) (view_attributes t))
  names_many = length-map (move (at p) (view_attributes t)) (λ a. a.name)

  gives : (x : Row things.Attribute) → x.0 ≡ p → (a : things.Attribute) × (at p x ≡ some a)
  gives x e = (x.1, rw (ap (λ q. same q p) e ∙ same_self p))

  pub attribute_room : (ltb t.count 16 || before (steps (get_or t.rows (t.count - 16) no_attribute).path) p) ≡ ltb (length (names_in p (view_attributes t))) 16
  attribute_room =
      cases (ltb t.count 16)
      (λ e. rw e (sym (ap (λ j. ltb j 16) names_many ∙ few (attributes_by_path h) p m (at p) (at_path p (λ l. l)) gives 16 (ltb-true t.count 16 e))))
      (λ e. let c = ltb-false t.count 16 e in
      rw e (sym (ap (λ j. ltb j 16) names_many ∙ few_far (attributes_by_path h) p m (at p) (at_path p (λ l. l)) gives 16 no_attribute (omega arith) c)))

  -- all that is asked of it
  pub attribute_fit : (nodes : Bool)
      → (nodes && ((eqb t.count 0 || before_object (steps (get_or t.rows (t.count - 1) no_attribute).path, (get_or t.rows (t.count - 1) no_attribute).name) (p, name))
      && (ltb t.count 256 && (ltb t.count 16 || before (steps (get_or t.rows (t.count - 16) no_attribute).path) p))))
      ≡ attribute_fits nodes (there (attribute_in p name (view_attributes t))) (length (view_attributes t)) (length (names_in p (view_attributes t)))
  attribute_fit nodes = let c = attributes_count t h in λ i. nodes && (attribute_new i && (ltb (c i) 256 && attribute_room i))

-- ---- the rules of a node, in turn
module _ (p : Address) (here above left_there : Bool) (n : ℕ) where
  root_of : (q : Address) → length q ≡ 0 → is_root q ≡ true
  root_of [] e = refl
  root_of (x ∷ q) e = absurd (omega arith)

  not_root : (q : Address) → (length q ≡ 0 → ⊥) → is_root q ≡ false
  not_root [] e = absurd (e refl)
  not_root (x ∷ q) e = refl

  pub node_full : 64 ≤ n → false ≡ node_fits p here above left_there n
  node_full h = sym (rw (le-ltb n 64 h) (go (not here) (is_root p || (above && (eqb (last p) 1 || left_there)))))
    where
      go : (a b : Bool) → (a && (b && false)) ≡ false
      go true true = refl
      go true false = refl
      go false b = refl

  pub node_second : here ≡ true → false ≡ node_fits p here above left_there n
  node_second e = sym (rw e)

  module _ (h : n < 64) (e : here ≡ false) where
    pub node_root : length p ≡ 0 → true ≡ node_fits p here above left_there n
    node_root z = sym (rw (e, root_of p z, lt-ltb n 64 h))

    module _ (z : length p ≡ 0 → ⊥) where
      pub node_orphan : above ≡ false → false ≡ node_fits p here above left_there n
      node_orphan a = sym (rw (e, not_root p z, a))

      module _ (a : above ≡ true) where
        pub node_first : last p ≡ 1 → true ≡ node_fits p here above left_there n
        node_first l = sym (rw (e, not_root p z, a, eq-eqb (last p) 1 l, lt-ltb n 64 h))

        pub node_beside : (last p ≡ 1 → ⊥) → left_there ≡ node_fits p here above left_there n
        node_beside l = sym (rw (e, not_root p z, a, ne_eqb (last p) 1 l, lt-ltb n 64 h) (go left_there))
          where
            go : (b : Bool) → (b && true) ≡ b
            go true = refl
            go false = refl

-- ---- the path on the left
some_step : (l : Address) → 1 < last l → 0 < length l
some_step [] h = absurd (omega arith)
some_step (x ∷ l) h = omega arith

pub left_long : (l : Address) → 1 < last l → length (left l) ≡ length l
left_long l h = let n = parent_length l (some_step l h) in let m = length-append (parent l) ((last l - 1) ∷ []) in omega arith

-- a step of a path is 1 or more
last_good : (l : Address) → 0 < length l → T (steps_good l) → 1 ≤ last l
last_good [] h t = absurd (omega arith)
last_good (x ∷ []) h t = leb→le 1 x (and_yes (leb 1 x) (leb x 32) (and_yes (leb 1 x && leb x 32) true t).0).0
last_good (x ∷ y ∷ l) h t = last_good (y ∷ l) (omega arith) (and_yes (leb 1 x && leb x 32) (steps_good (y ∷ l)) t).1

pub last_more : {p : Path} → PathSound p → (length (steps p) ≡ 0 → ⊥) → (last (steps p) ≡ 1 → ⊥) → 1 < last (steps p)
last_more {p} h z l =
    let t = path_valid h in
    let g = last_good (steps p) (omega arith) (and_yes (leb (length (steps p)) 6) (steps_good (steps p)) t).1 in
    omega arith
