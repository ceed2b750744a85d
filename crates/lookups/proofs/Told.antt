-- What is told of the rows of one node or object. Assumes nothing.
use mathlib.Core.Path.{◌≡◌, refl, sym, ap, ◌∙◌}
use mathlib.Core.Bool.{Bool, true, false, ◌&&◌, ◌||◌}
use mathlib.Core.Option.{none, some}
use mathlib.Core.List.{List, [], ◌∷◌, map}
use Prim.Native.Nat.{ℕ, ◌+◌, ◌<◌}
use native.Mathlib.Omega.{arith}
use lib.Dec.{eqb}
use lib.ListN.{get_or, drop}
use Rattle.std.proofs.Common as rust
use Rattle.std.specs.Bool.{then_some}
use Rattle.std.specs.Prelude.{cond, Some}
use Rattle.std.specs.List.{find, list_any}
use Rattle.std.specs.Option.{option_map}
use Rattle.laws.specs.Slots.{pick}
use Rattle.laws.specs.Sorted.{move, push}
use Rattle.laws.proofs.Fill.{held_next}
use Rattle.laws.proofs.Search.{rows_from, rows_other}
use Rattle.path.specs.Address.{Address, same}
use Rattle.path.specs.View.{steps}
use Rattle.model.specs.Things as things
use Rattle.model.specs.Things.{Row}
use Rattle.model.specs.Moves.{called, head, at, owner_in, attribute_in, same_permission, holds}
use Rattle.tables.specs.declared.Node.{Node}
use Rattle.tables.specs.View.{Nodes, Attributes}
use Rattle.tables.specs.Places.{place_of, attribute_place}
use Rattle.tables.specs.declared.Attribute.{Attribute}
use Rattle.tables.specs.declared.Permission.{Permission}
use Rattle.tables.specs.declared.Grant.{Grant}
use Rattle.tables.specs.View.{view_node, view_nodes, NodesSound, owner_of, view_attribute, view_attributes, AttributesSound, view_grant, found_of}
use Rattle.lookups.specs.View.{found_at}
use Rattle.tables.proofs.Asked.{attribute_hit}
use Rattle.tables.proofs.Rows.{value_there, nodes_held, attributes_held}
use Rattle.tables.proofs.Places.{nodes_searched, at_path, attributes_searched, of_attribute_lem}

pub find_called : (n : ℕ) (l : List Attribute) → option_map found_at (find (λ a. eqb a.name n) l) ≡ found_of (head (move (called n) (map (λ a. (view_attribute a).1) l)))
find_called n [] = refl
find_called n (a ∷ l) = go (eqb a.name n) (find_called n l)
  where
    go : (b : Bool) → option_map found_at (find (λ a. eqb a.name n) l) ≡ found_of (head (move (called n) (map (λ a. (view_attribute a).1) l)))
        → option_map found_at (cond b (Some a) (find (λ a. eqb a.name n) l)) ≡ found_of (head (push (pick b (some (view_attribute a).1) none) (move (called n) (map (λ a. (view_attribute a).1) l))))
    go true h = ap (λ v. Some (record { owner = a.owner; value = v })) (sym (value_there a.value))
    go false h = h

pub any_holds : (g : Grant) (l : List Permission) → list_any (λ a. same_permission (view_grant g) (view_grant a.grant)) l ≡ holds (view_grant g) (map (λ a. view_grant a.grant) l)
any_holds g [] = refl
any_holds g (a ∷ l) = go (same_permission (view_grant g) (view_grant a.grant)) (any_holds g l)
  where
    go : (b : Bool) → list_any (λ a. same_permission (view_grant g) (view_grant a.grant)) l ≡ holds (view_grant g) (map (λ a. view_grant a.grant) l)
        → (b || list_any (λ a. same_permission (view_grant g) (view_grant a.grant)) l) ≡ pick b true (holds (view_grant g) (map (λ a. view_grant a.grant) l))
    go true h = refl
    go false h = h

-- ---- the row at the place of a path: its owner, if it is that path's
pub owner_at : (t : Nodes) (p : Address) (i : ℕ) (x : Node) → NodesSound t → i ≡ place_of p (view_nodes t) → i < t.count → x ≡ get_or t.rows i x
    → {b : Bool} → same (steps x.path) p ≡ b → then_some b x.owner ≡ owner_of (owner_in p (view_nodes t))
owner_at t p i x h e c is {b} f = go b f ∙ sym (rows_from (nodes_searched h) p (at_path p asked) e)
  where
    asked : List ℕ → rust.Option ℕ
    asked l = owner_of (head l)

    rest : List (Row ℕ)
    rest = drop (i + 1) (view_nodes t)

    next : drop i (view_nodes t) ≡ view_node x ∷ rest
    next = held_next _ _ _ _ _ _ (nodes_held t h) view_node i x c ∙ ap (λ y. view_node y ∷ rest) (sym is)

    go : (b : Bool) → same (steps x.path) p ≡ b → then_some b x.owner ≡ asked (move (at p) (drop i (view_nodes t)))
    go true f = sym (ap (λ l. asked (move (at p) l)) next ∙ ap (λ b. asked (push (pick b (some x.owner) none) (move (at p) rest))) f)
    go false f = sym (rows_other (nodes_searched h) p (at_path p asked) i x (omega arith) c (ap (λ y. same (steps y.path) p) (sym is) ∙ f))

-- ---- the row at the place of an object: what it holds, if it is that object's
pub object_found : (t : Attributes) (p : Address) (n i : ℕ) (x : Attribute) → AttributesSound t → i ≡ attribute_place (p, n) (view_attributes t) → i < t.count → x ≡ get_or t.rows i x
    → {b : Bool} → (eqb x.name n && same (steps x.path) p) ≡ b → then_some b (found_at x) ≡ found_of (attribute_in p n (view_attributes t))
object_found t p n i x h e c is {b} f = go b f ∙ sym (rows_from (attributes_searched h) (p, n) (of_attribute_lem p n found_of) e)
  where
    rest : List (Row things.Attribute)
    rest = drop (i + 1) (view_attributes t)

    next : drop i (view_attributes t) ≡ view_attribute x ∷ rest
    next = held_next _ _ _ _ _ _ (attributes_held t h) view_attribute i x c ∙ ap (λ y. view_attribute y ∷ rest) (sym is)

    go : (b : Bool) → (eqb x.name n && same (steps x.path) p) ≡ b → then_some b (found_at x) ≡ found_of (attribute_in p n (drop i (view_attributes t)))
    go true f =
        sym (ap (λ l. found_of (attribute_in p n l)) next ∙ ap found_of (attribute_hit p n (view_attribute x) rest f) ∙ ap (λ v. Some (record { owner = x.owner; value = v })) (value_there x.value))
    go false f =
        sym (rows_other (attributes_searched h) (p, n) (of_attribute_lem p n found_of) i x (omega arith) c (ap (λ y. eqb y.name n && same (steps y.path) p) (sym is) ∙ f))
