-- Sound tables are in order, by path and by object: what the search by halving needs of each. Assumes nothing.
use mathlib.Core.Path.{◌≡◌, refl, sym, ap, ◌∙◌}
use mathlib.Core.Logic.{◌⊎◌, inl, inr, ⊎_elim}
use mathlib.Core.Bool.{Bool, true, false, ◌&&◌}
use mathlib.Core.Option.{Option}
use mathlib.Core.List.{List, ◌∷◌}
use Prim.Native.Nat.{ℕ}
use lib.Dec.{T, ltb, eqb}
use borrow.Author.Tests.{eq-eqb, eqb-true}
use Rattle.laws.specs.Sorted.{Sorted, move}
use Rattle.laws.specs.Order.{lex2, lt_list, lt_pair}
use Rattle.laws.proofs.Fill.{held_full, is_fits}
use Rattle.laws.proofs.Order.{nat_order, pair_order, lex2_cases, lex2_left, lex2_right}
use Rattle.laws.proofs.Search.{Keyed, Searched, Only}
use Rattle.path.specs.Address.{Address, same, before}
use Rattle.path.proofs.Structs.{no}
use Rattle.path.proofs.Laws.{address_order, same_self, same_true}
use Rattle.model.specs.Things as things
use Rattle.model.specs.Things.{Row}
use Rattle.model.specs.Moves.{at, attribute_in, permissions_in}
use Rattle.tables.specs.View.{Nodes}
use Rattle.tables.specs.View.{Attributes}
use Rattle.tables.specs.View.{Permissions}
use Rattle.tables.specs.View.{view_node, view_nodes, nodes_of, NodesSound, view_attribute, view_attributes, attributes_of, AttributesSound, view_permission, view_permissions, permissions_of, PermissionsSound, Fits}
use Rattle.tables.specs.Places.{Object, before_object, of_attribute, of_permission}
use Rattle.tables.proofs.Asked.{attribute_miss, permissions_miss}
use Rattle.tables.proofs.Rows.{view_nodes_lem, nodes_held, view_attributes_lem, attributes_held, view_permissions_lem, permissions_held}

-- ---- rows in order have their paths in order, and their objects
pub by_path : {P : Type 0} (lt : P → P → Bool) → Keyed (lt_pair before lt) before (λ (r : Row P). r.0)
by_path lt = record { order = address_order; rise = λ x y t. ⊎_elim inl (λ w. inr w.0) (lex2_cases before address_order x.0 y.0 (lt x.1 y.1) t) }

-- the name comes first in what follows the path
by_object : {P : Type 0} (name : P → ℕ) (rest : P → P → Bool)
    → Keyed (λ (r s : Row P). lex2 before r.0 s.0 (lex2 ltb (name r.1) (name s.1) (rest r.1 s.1))) before_object (λ (r : Row P). (r.0, name r.1))
by_object {P} name rest = record {
  order = pair_order before ltb address_order nat_order;
  rise = λ x y t. rises x y (lex2_cases before address_order x.0 y.0 (lex2 ltb (name x.1) (name y.1) (rest x.1 y.1)) t);
}
  where
    named : (x y : Row P) → x.0 ≡ y.0 → T (ltb (name x.1) (name y.1)) ⊎ ((name x.1 ≡ name y.1) × T (rest x.1 y.1))
        → T (before_object (x.0, name x.1) (y.0, name y.1)) ⊎ (◌≡◌ {A = Object} (x.0, name x.1) (y.0, name y.1))
    named x y e (inl t) = inl (lex2_right before address_order x.0 y.0 (ltb (name x.1) (name y.1)) e t)
    named x y e (inr w) = inr (λ i. (e i, w.0 i))

    rises : (x y : Row P) → T (before x.0 y.0) ⊎ ((x.0 ≡ y.0) × T (lex2 ltb (name x.1) (name y.1) (rest x.1 y.1)))
        → T (before_object (x.0, name x.1) (y.0, name y.1)) ⊎ (◌≡◌ {A = Object} (x.0, name x.1) (y.0, name y.1))
    rises x y (inl t) = inl (lex2_left before address_order x.0 y.0 (ltb (name x.1) (name y.1)) t)
    rises x y (inr w) = named x y w.0 (lex2_cases ltb nat_order (name x.1) (name y.1) (rest x.1 y.1) w.1)

attribute_keyed : Keyed things.before_attribute before_object of_attribute
attribute_keyed = by_object (λ a. a.name) (λ a b. lt_list ltb (a.owner ∷ things.code_value a.value) (b.owner ∷ things.code_value b.value))

permission_keyed : Keyed things.before_permission before_object of_permission
permission_keyed = by_object (λ a. a.0) (λ a b. things.lt_permission a.1 b.1)

-- ---- sound tables
pub nodes_ascend : {t : Nodes} → NodesSound t → Sorted things.before_node (view_nodes t)
nodes_ascend {t} h = (is_fits nodes_of view_nodes view_nodes_lem (Fits things.before_node 64) t h).ascend

pub nodes_searched : {t : Nodes} → NodesSound t → Searched view_node before (λ (r : Row ℕ). r.0) t.rows t.count
nodes_searched {t} h = record { lt = things.before_node; ascend = nodes_ascend h; keyed = by_path ltb; full = held_full _ _ _ _ _ _ (nodes_held t h) }

attributes_ascend : {t : Attributes} → AttributesSound t → Sorted things.before_attribute (view_attributes t)
attributes_ascend {t} h = (is_fits attributes_of view_attributes view_attributes_lem (Fits things.before_attribute 256) t h).ascend

pub attributes_searched : {t : Attributes} → AttributesSound t → Searched view_attribute before_object of_attribute t.rows t.count
attributes_searched {t} h =
    record { lt = things.before_attribute; ascend = attributes_ascend h; keyed = attribute_keyed; full = held_full _ _ _ _ _ _ (attributes_held t h) }

pub attributes_by_path : {t : Attributes} → AttributesSound t → Searched view_attribute before (λ (r : Row things.Attribute). r.0) t.rows t.count
attributes_by_path h = let q = attributes_searched h in record { lt = things.before_attribute; ascend = attributes_ascend h; keyed = by_path things.lt_attribute; full = q.full }

pub permissions_searched : {t : Permissions} → PermissionsSound t → Searched view_permission before_object of_permission t.rows t.count
permissions_searched {t} h =
    record { lt = things.before_permission; ascend = (is_fits permissions_of view_permissions view_permissions_lem (Fits things.before_permission 128) t h).ascend; keyed = permission_keyed; full = held_full _ _ _ _ _ _ (permissions_held t h) }

-- ---- whether a row is at a path, or of an object
path_from : (q p : Address) → q ≡ p → same q p ≡ true
path_from q p e = ap (λ z. same z p) e ∙ same_self p

object_to : (q p : Address) (m n : ℕ) → (eqb m n && same q p) ≡ true → ◌≡◌ {A = Object} (q, m) (p, n)
object_to q p m n e = go (eqb m n) refl (same q p) refl e
  where
    go : (b : Bool) → eqb m n ≡ b → (c : Bool) → same q p ≡ c → (b && c) ≡ true → ◌≡◌ {A = Object} (q, m) (p, n)
    go true f true g e = let x = same_true q p g in let y = eqb-true m n f in λ i. (x i, y i)
    go true f false g e = no (sym e)
    go false f c g e = no (sym e)

object_from : (q p : Address) (m n : ℕ) → ◌≡◌ {A = Object} (q, m) (p, n) → (eqb m n && same q p) ≡ true
object_from q p m n e = rw (eq-eqb m n (ap (λ (x : Object). x.1) e), path_from q p (ap (λ (x : Object). x.0) e))

-- ---- what is asked of the rows at a path, of the attribute of one name, of the permissions of one object
pub at_path : {P C : Type 0} (p : Address) (g : List P → C) → Only (λ (r : Row P). r.0) p (λ r. same r.0 p) (λ l. g (move (at p) l))
at_path p g = record { to = λ r. same_true r.0 p; from = λ r. path_from r.0 p; miss = λ r l e. ap g (rw e) }

pub of_attribute_lem : {C : Type 0} (p : Address) (n : ℕ) (g : Option things.Attribute → C) → Only of_attribute (p, n) (λ r. eqb r.1.name n && same r.0 p) (λ l. g (attribute_in p n l))
of_attribute_lem p n g = record { to = λ r. object_to r.0 p r.1.name n; from = λ r. object_from r.0 p r.1.name n; miss = λ r l e. ap g (attribute_miss p n r l e) }

pub of_permission_lem : {C : Type 0} (p : Address) (n : ℕ) (g : List things.Permission → C) → Only of_permission (p, n) (λ r. eqb r.1.0 n && same r.0 p) (λ l. g (permissions_in p n l))
of_permission_lem p n g = record { to = λ r. object_to r.0 p r.1.0 n; from = λ r. object_from r.0 p r.1.0 n; miss = λ r l e. ap g (permissions_miss p n r l e) }
