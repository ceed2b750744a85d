-- What a record of an image has behind it: of the rows that are there none comes after it. Assumes nothing.
use mathlib.Core.Path.{◌≡◌, sym, subst}
use mathlib.Core.Logic.{◌⊎◌, inl, inr, ⊎_elim}
use mathlib.Core.Option.{some}
use mathlib.Core.List.Memᴰ
use mathlib.Core.List.{List, ◌∷◌, ◌++◌, map}
use Prim.Native.Nat.{ℕ}
use lib.Dec.{T, ltb}
use Rattle.laws.specs.Sorted.{◌∈◌, StrictOrder}
use Rattle.laws.specs.Order.{lt_list, lt_pair}
use Rattle.laws.proofs.Order.{nat_order, pair_order, lex2_cases, lex2_left, lex2_right}
use Rattle.path.specs.Address.{Address, before}
use Rattle.path.proofs.Laws.{address_order}
use Rattle.model.specs.Things as things
use Rattle.model.specs.Things.{Row, Dossier, before_attribute, lt_attribute, before_permission, lt_permission}
use Rattle.model.specs.Image.{node_record, attribute_record, permission_record, encode}
use Rattle.roundtrip.proofs.Bytes.{less_order}
use Rattle.roundtrip.proofs.Ascend.{less_record, node_back, attribute_less, permission_back}
use Rattle.tables.specs.Places.{before_object, of_attribute, of_permission}
use Rattle.image.specs.Records.{record_at, Upto}
use Rattle.image.specs.Rows.{NoneAfter}
use Rattle.image.proofs.Steps.{record_range, behind}

-- ---- of two records, the path and the name of the second are not before those of the first
node_path_after : (x r : Row ℕ) → T (less_record (node_record x) (node_record r)) → T (before r.0 x.0) → ⊥
node_path_after x r t u = go (lex2_cases before address_order x.0 r.0 (ltb x.1 r.1) (node_back x r t))
  where
    go : T (before x.0 r.0) ⊎ ((x.0 ≡ r.0) × T (ltb x.1 r.1)) → ⊥
    go (inl h) = address_order.irr x.0 (address_order.trans x.0 r.0 x.0 h u)
    go (inr w) = address_order.irr x.0 (subst (λ (p : Address). T (before p x.0)) (sym w.0) u)

object_after : (x r : Row things.Attribute) → T (less_record (attribute_record x) (attribute_record r)) → T (before_object (of_attribute r) (of_attribute x)) → ⊥
object_after x r t u = less_order.irr (encode (attribute_record x)) (less_order.trans (encode (attribute_record x)) (encode (attribute_record r)) (encode (attribute_record x)) t back)
  where
    apart : r.0 ≡ x.0 → r.1.name ≡ x.1.name → ⊥
    apart e n = (pair_order before ltb address_order nat_order).irr (of_attribute x) (subst (λ o. T (before_object o (of_attribute x))) (λ i. (e i, n i)) u)

    by_name : r.0 ≡ x.0 → T (ltb r.1.name x.1.name) → T (before_attribute r x)
    by_name e n =
        lex2_right before address_order r.0 x.0 (lt_attribute r.1 x.1) e
        (lex2_left ltb nat_order r.1.name x.1.name (lt_list ltb (r.1.owner ∷ things.code_value r.1.value) (x.1.owner ∷ things.code_value x.1.value)) n)

    rows : T (before_attribute r x)
    rows = ⊎_elim (λ h. lex2_left before address_order r.0 x.0 (lt_attribute r.1 x.1) h) (λ w. by_name w.0 w.1)
        (lex2_cases before address_order r.0 x.0 (ltb r.1.name x.1.name) u)

    back : T (less_record (attribute_record r) (attribute_record x))
    back = attribute_less r x apart rows

permission_after : (x r : Row (ℕ × things.Permission)) → T (before_permission x r) → T (before_object (of_permission r) (of_permission x)) → ⊥
permission_after x r t u = go (lex2_cases before address_order x.0 r.0 (lt_pair ltb lt_permission x.1 r.1) t)
  where
    objects : StrictOrder before_object
    objects = pair_order before ltb address_order nat_order

    less : T (before_object (of_permission x) (of_permission r)) → ⊥
    less v = objects.irr (of_permission x) (objects.trans (of_permission x) (of_permission r) (of_permission x) v u)

    by_name : x.0 ≡ r.0 → T (ltb x.1.0 r.1.0) ⊎ ((x.1.0 ≡ r.1.0) × T (lt_permission x.1.1 r.1.1)) → ⊥
    by_name e (inl n) = less (lex2_right before address_order x.0 r.0 (ltb x.1.0 r.1.0) e n)
    by_name e (inr w) = objects.irr (of_permission x) (subst (λ o. T (before_object o (of_permission x))) (λ i. (sym e i, sym w.0 i)) u)

    go : T (before x.0 r.0) ⊎ ((x.0 ≡ r.0) × T (lt_pair ltb lt_permission x.1 r.1)) → ⊥
    go (inl h) = less (lex2_left before address_order x.0 r.0 (ltb x.1.0 r.1.0) h)
    go (inr w) = by_name w.0 (lex2_cases ltb nat_order x.1.0 r.1.0 (lt_permission x.1.1 r.1.1) w.1)

module _ (b : List ℕ) (k : ℕ) (d : Dossier) (u : Upto b k d) where
  pub node_behind : (r : Row ℕ) → record_at k b ≡ some (node_record r) → NoneAfter r.0 d.nodes
  node_behind r e x m =
      node_path_after x r (behind b k d u (node_record r) e (node_record x) (Memᴰ.append_left (map attribute_record d.attributes ++ map permission_record d.permissions) (Memᴰ.map node_record m))).1

  pub permission_behind : (r : Row (ℕ × things.Permission)) → record_at k b ≡ some (permission_record r) → (x : Row (ℕ × things.Permission)) → x ∈ d.permissions
      → T (before_object (of_permission r) (of_permission x)) → ⊥
  permission_behind r e x m =
      let w = behind b k d u (permission_record r) e (permission_record x) (Memᴰ.append_right (map node_record d.nodes) (Memᴰ.append_right (map attribute_record d.attributes) (Memᴰ.map permission_record m))) in
      permission_after x r (permission_back x r w.0 (record_range b k (permission_record r) e) w.1)

  module _ (r : Row things.Attribute) (e : record_at k b ≡ some (attribute_record r)) where
    pub attribute_behind : (x : Row things.Attribute) → x ∈ d.attributes → T (before_object (of_attribute r) (of_attribute x)) → ⊥
    attribute_behind x m =
        object_after x r
        (behind b k d u (attribute_record r) e (attribute_record x) (Memᴰ.append_right (map node_record d.nodes) (Memᴰ.append_left (map permission_record d.permissions) (Memᴰ.map attribute_record m)))).1

    pub attribute_path_behind : NoneAfter r.0 d.attributes
    attribute_path_behind x m t = attribute_behind x m (lex2_left before address_order r.0 x.0 (ltb r.1.name x.1.name) t)
