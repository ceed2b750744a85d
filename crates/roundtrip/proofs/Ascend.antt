-- The order of rows is the order of their records as byte strings; a node's record is before every attribute's, and that before every permission's. Assumes nothing.
use mathlib.Core.Path.{◌≡◌, refl, sym, ap, subst, subst₂}
use mathlib.Core.Logic.{◌⊎◌, inl, inr, ⊎_elim}
use mathlib.Core.Bool.{Bool, true, false, not}
use mathlib.Core.List.Memᴰ
use mathlib.Core.List.{List, [], ◌∷◌, ◌++◌, map}
use Prim.Native.Nat.{ℕ}
use lib.IntN.{ℤ}
use lib.Dec.{T, ltb, ltb→lt}
use lib.ListN.{replicate}
use mir.Syntax.{w64}
use mir.Val.{SFits, of_z}
use Rattle.laws.specs.Sorted.{◌∈◌, StrictOrder, Sorted, cons}
use Rattle.laws.specs.Order.{lt_list, lt_pair}
use Rattle.laws.proofs.Sorted.{map_sorted}
use Rattle.laws.proofs.Order.{nat_order, lex2_cases, lex2_left}
use Rattle.path.specs.Address.{before}
use Rattle.path.proofs.Laws.{address_order}
use Rattle.model.specs.Things.{Attribute, Permission, Row, Dossier, lt_time, code_value, lt_attribute, fields, lt_permission, before_node, before_attribute, before_permission}
use Rattle.model.specs.Image.{bytes4, bytes8, Record, node_record, attribute_record, permission_record, value_kind, value_bits, encode, in_range, records_of}
use Rattle.model.specs.Sound.{Sound}
use Rattle.roundtrip.proofs.Orders.{time_order, nodes_order, attributes_order, permissions_order}
use Rattle.roundtrip.proofs.Prefix.{sorted_append, map_sorted_on}
use Rattle.roundtrip.proofs.Bytes.{less, less_order, append_same, part_less, two_digits, four_digits, eight_digits, digits_less, time_fits, time_less, path_less}
use Rattle.roundtrip.proofs.Records.{kind_of, path_of, rest_of, laid_out, laid, grant_times}

-- ---- records of one kind: the path decides, then the rest
abbrev pub less_record : Record → Record → Bool
less_record r s = less (encode r) (encode s)

by_parts : (r s : Record) → kind_of r ≡ kind_of s → T (before (path_of r) (path_of s)) ⊎ ((path_of r ≡ path_of s) × T (less (rest_of r) (rest_of s))) → T (less_record r s)
by_parts r s k h =
    subst₂ (λ (a b : List ℕ). T (less a b)) (sym (laid r)) (sym (laid s))
    (subst (λ (n : ℕ). T (less (laid_out (kind_of r) (path_of r) (rest_of r)) (laid_out n (path_of s) (rest_of s)))) k
    (path_less (kind_of r) (path_of r) (path_of s) (rest_of r) (rest_of s) h))

node_less : (r s : Row ℕ) → T (before_node r s) → T (less_record (node_record r) (node_record s))
node_less r s t = by_parts (node_record r) (node_record s) refl (go (lex2_cases before address_order r.0 s.0 (ltb r.1 s.1) t))
  where
    go : T (before r.0 s.0) ⊎ ((r.0 ≡ s.0) × T (ltb r.1 s.1))
        → T (before r.0 s.0) ⊎ ((r.0 ≡ s.0) × T (less (rest_of (node_record r)) (rest_of (node_record s))))
    go (inl b) = inl b
    go (inr w) = let z : List ℕ = 0 ∷ 0 ∷ 0 ∷ 0 ∷ 0 ∷ replicate 24 0 in
        inr (w.0, append_same (0 ∷ 0 ∷ []) (r.1 ∷ z) (s.1 ∷ z) (lex2_left ltb nat_order r.1 s.1 (less z z) w.1))

-- "no second record for one .. attribute": path and name decide
pub attribute_less : (r s : Row Attribute) → (r.0 ≡ s.0 → r.1.name ≡ s.1.name → ⊥) → T (before_attribute r s) → T (less_record (attribute_record r) (attribute_record s))
attribute_less r s n t = by_parts (attribute_record r) (attribute_record s) refl (go (lex2_cases before address_order r.0 s.0 (lt_attribute r.1 s.1) t))
  where
    tail : Attribute → List ℕ
    tail a = a.owner ∷ code_value a.value

    later : Attribute → List ℕ
    later a = a.owner ∷ 0 ∷ 0 ∷ 0 ∷ value_kind a.value ∷ 0 ∷ (bytes4 (value_bits a.value) ++ replicate 20 0)

    by_name : r.0 ≡ s.0 → T (ltb r.1.name s.1.name) ⊎ ((r.1.name ≡ s.1.name) × T (less (tail r.1) (tail s.1))) → T (ltb r.1.name s.1.name)
    by_name e (inl h) = h
    by_name e (inr h) = absurd (n e h.0)

    go : T (before r.0 s.0) ⊎ ((r.0 ≡ s.0) × T (lt_attribute r.1 s.1))
        → T (before r.0 s.0) ⊎ ((r.0 ≡ s.0) × T (less (rest_of (attribute_record r)) (rest_of (attribute_record s))))
    go (inl b) = inl b
    go (inr w) = inr (
      w.0,
      digits_less two_digits r.1.name s.1.name (later r.1) (later s.1)
          (inl (by_name w.0 (lex2_cases ltb nat_order r.1.name s.1.name (less (tail r.1) (tail s.1)) w.1))),
    )

-- times, each in 8 bytes
time_part : (t u : ℤ) (x y : List ℕ) → SFits w64 t → SFits w64 u → T (lt_time t u) ⊎ ((t ≡ u) × T (less x y))
    → T (less (bytes8 (of_z w64 t) ++ x) (bytes8 (of_z w64 u) ++ y))
time_part t u x y f g (inl h) = digits_less eight_digits (of_z w64 t) (of_z w64 u) x y (inl (time_less t u f g h))
time_part t u x y f g (inr w) = digits_less eight_digits (of_z w64 t) (of_z w64 u) x y (inr (ap (of_z w64) w.0, w.1))

-- a permission's fields, part by part
abbrev whom : Permission → List ℕ
whom g = g.role ∷ g.action ∷ g.user ∷ []

abbrev sets : Permission → List ℕ
sets g = bytes4 g.messages ++ bytes4 g.agreements

abbrev until : Permission → List ℕ
until g = bytes8 (of_z w64 g.last) ++ sets g

abbrev when : Permission → List ℕ
when g = bytes8 (of_z w64 g.first) ++ until g

abbrev lt_last : ℤ × List ℕ → ℤ × List ℕ → Bool
lt_last = lt_pair lt_time (lt_list ltb)

abbrev lt_first : ℤ × (ℤ × List ℕ) → ℤ × (ℤ × List ℕ) → Bool
lt_first = lt_pair lt_time lt_last

sets_less : (g h : Permission) → T (less (g.messages ∷ g.agreements ∷ []) (h.messages ∷ h.agreements ∷ [])) → T (less (sets g) (sets h))
sets_less g h t = digits_less four_digits g.messages h.messages (bytes4 g.agreements) (bytes4 h.agreements)
    (⊎_elim (λ k. inl k) (λ w. inr (w.0, four_digits.ascend g.agreements h.agreements (ltb→lt g.agreements h.agreements (last_less w.1))))
    (lex2_cases ltb nat_order g.messages h.messages (less (g.agreements ∷ []) (h.agreements ∷ [])) t))
  where
    last_less : T (less (g.agreements ∷ []) (h.agreements ∷ [])) → T (ltb g.agreements h.agreements)
    last_less s = ⊎_elim (λ k. k) (λ w. absurd w.1) (lex2_cases ltb nat_order g.agreements h.agreements false s)

module _ (g h : Permission) (gf : SFits w64 g.first) (gl : SFits w64 g.last) (hf : SFits w64 h.first) (hl : SFits w64 h.last) where
  until_less : T (lt_last (fields g).1.1 (fields h).1.1) → T (less (until g) (until h))
  until_less t = time_part g.last h.last (sets g) (sets h) gl hl
      (⊎_elim (λ k. inl k) (λ w. inr (w.0, sets_less g h w.1))
      (lex2_cases lt_time time_order g.last h.last (less (g.messages ∷ g.agreements ∷ []) (h.messages ∷ h.agreements ∷ [])) t))

  when_less : T (lt_first (fields g).1 (fields h).1) → T (less (when g) (when h))
  when_less t = time_part g.first h.first (until g) (until h) gf hf
      (⊎_elim (λ k. inl k) (λ w. inr (w.0, until_less w.1)) (lex2_cases lt_time time_order g.first h.first (lt_last (fields g).1.1 (fields h).1.1) t))

  whom_less : T (lt_permission g h) → T (less (whom g ++ (0 ∷ 0 ∷ when g)) (whom h ++ (0 ∷ 0 ∷ when h)))
  whom_less t = part_less (whom g) (whom h) (0 ∷ 0 ∷ when g) (0 ∷ 0 ∷ when h) refl
      (⊎_elim (λ k. inl k) (λ w. inr (w.0, append_same (0 ∷ 0 ∷ []) (when g) (when h) (when_less w.1)))
      (lex2_cases (lt_list ltb) less_order (whom g) (whom h) (lt_first (fields g).1 (fields h).1) t))

pub permission_less : (r s : Row (ℕ × Permission)) → T (in_range (permission_record r)) → T (in_range (permission_record s)) → T (before_permission r s)
    → T (less_record (permission_record r) (permission_record s))
permission_less r s a b t =
    by_parts (permission_record r) (permission_record s) refl
    (⊎_elim (λ k. inl k) (λ w. inr (w.0, named (lex2_cases ltb nat_order r.1.0 s.1.0 (lt_permission r.1.1 s.1.1) w.1)))
    (lex2_cases before address_order r.0 s.0 (lt_pair ltb lt_permission r.1 s.1) t))
  where
    g : Permission
    g = r.1.1

    h : Permission
    h = s.1.1

    fit : (q : Row (ℕ × Permission)) → T (in_range (permission_record q)) → SFits w64 q.1.1.first × SFits w64 q.1.1.last
    fit q c = (time_fits q.1.1.first (grant_times q c).0, time_fits q.1.1.last (grant_times q c).1)

    named : T (ltb r.1.0 s.1.0) ⊎ ((r.1.0 ≡ s.1.0) × T (lt_permission g h)) → T (less (rest_of (permission_record r)) (rest_of (permission_record s)))
    named k = digits_less two_digits r.1.0 s.1.0 (0 ∷ (whom g ++ (0 ∷ 0 ∷ when g))) (0 ∷ (whom h ++ (0 ∷ 0 ∷ when h)))
        (⊎_elim (λ n. inl n)
        (λ w. inr (
          w.0,
          append_same (0 ∷ []) (whom g ++ (0 ∷ 0 ∷ when g)) (whom h ++ (0 ∷ 0 ∷ when h))
              (whom_less g h (fit r a).0 (fit r a).1 (fit s b).0 (fit s b).1 w.1),
        )) k)

-- ---- records of different kinds
node_first : (r : Row ℕ) (s : Row Attribute) → T (less_record (node_record r) (attribute_record s))
node_first r s = tt

node_before : (r : Row ℕ) (s : Row (ℕ × Permission)) → T (less_record (node_record r) (permission_record s))
node_before r s = tt

pub attribute_first : (r : Row Attribute) (s : Row (ℕ × Permission)) → T (less_record (attribute_record r) (permission_record s))
attribute_first r s = tt

-- ---- back: records in order are of rows in order
less_back : {A : Type 0} {lt : A → A → Bool} (o : StrictOrder lt) (f : A → Record) (a b : A)
    → (T (lt b a) → T (less_record (f b) (f a))) → T (less_record (f a) (f b)) → T (lt a b)
less_back {lt = lt} o f a b h t = go (lt a b) (lt b a) (o.conn a b) h
  where
    go : (x y : Bool) → (T (not x) → T (not y) → a ≡ b) → (T y → T (less_record (f b) (f a))) → T x
    go true y c d = tt
    go false true c d = less_order.irr (encode (f a)) (less_order.trans (encode (f a)) (encode (f b)) (encode (f a)) t (d tt))
    go false false c d = less_order.irr (encode (f a)) (subst (λ x. T (less_record (f a) (f x))) (sym (c tt tt)) t)

pub node_back : (r s : Row ℕ) → T (less_record (node_record r) (node_record s)) → T (before_node r s)
node_back r s t = less_back nodes_order node_record r s (node_less s r) t

pub attribute_back : (r s : Row Attribute) → (s.0 ≡ r.0 → s.1.name ≡ r.1.name → ⊥) → T (less_record (attribute_record r) (attribute_record s)) → T (before_attribute r s)
attribute_back r s n t = less_back attributes_order attribute_record r s (attribute_less s r n) t

pub permission_back : (r s : Row (ℕ × Permission)) → T (in_range (permission_record r)) → T (in_range (permission_record s)) → T (less_record (permission_record r) (permission_record s))
    → T (before_permission r s)
permission_back r s a b t = less_back permissions_order permission_record r s (permission_less s r b a) t

-- ---- the records of a sound dossier ascend
-- any bytes of a record are after no bytes
some_bytes : (r : Record) → T (less [] (encode r))
some_bytes (node_record r) = tt
some_bytes (attribute_record r) = tt
some_bytes (permission_record r) = tt

pub ascend_from : {l : List Record} → Sorted less_record l → Sorted (lt_list ltb) ([] ∷ map encode l)
ascend_from {l} s =
    cons (λ y h. let w = Memᴰ.of_map encode l h in subst (λ (b : List ℕ). T (less [] b)) w.2 (some_bytes w.0)) (map_sorted less_record (lt_list ltb) encode (λ a b t. t) s)

-- a list of attributes with no two of one path and name
abbrev OneEach : List (Row Attribute) → Type 0
OneEach l = (r s : Row Attribute) → r ∈ l → s ∈ l → r.0 ≡ s.0 → r.1.name ≡ s.1.name → r ≡ s

attributes_sorted : {l : List (Row Attribute)} → OneEach l → Sorted before_attribute l → Sorted less_record (map attribute_record l)
attributes_sorted u s =
    map_sorted_on attribute_record
    (λ a b h k t. attribute_less a b (λ e n. attributes_order.irr a (subst (λ (x : Row Attribute). T (before_attribute a x)) (sym (u a b h k e n)) t)) t) s

pub records_ascend : (d : Dossier) → Sound d → Sorted (lt_list ltb) ([] ∷ map encode (records_of d))
records_ascend d s =
    ascend_from (sorted_append nodes (sorted_append attributes permissions last) first)
  where
    one_each : OneEach d.attributes
    one_each r t h k e n = let m = s.one_attribute r.0 r.1 t.1 h (Memᴰ.cast (λ i. (e i, t.1)) k) n in λ i. (e i, m i)

    nodes : Sorted less_record (map node_record d.nodes)
    nodes = map_sorted before_node less_record node_record node_less s.nodes_ascend

    attributes : Sorted less_record (map attribute_record d.attributes)
    attributes = attributes_sorted one_each s.attributes_ascend

    permissions : Sorted less_record (map permission_record d.permissions)
    permissions = map_sorted_on permission_record (λ a b h k. permission_less a b (s.permissions_good a h) (s.permissions_good b k)) s.permissions_ascend

    last : (x y : Record) → x ∈ map attribute_record d.attributes → y ∈ map permission_record d.permissions → T (less_record x y)
    last x y h k =
        let a = Memᴰ.of_map attribute_record d.attributes h in
        let g = Memᴰ.of_map permission_record d.permissions k in
        subst₂ (λ (u v : Record). T (less_record u v)) a.2 g.2 (attribute_first a.0 g.0)

    first : (x y : Record) → x ∈ map node_record d.nodes → y ∈ map attribute_record d.attributes ++ map permission_record d.permissions → T (less_record x y)
    first x y h k = go (Memᴰ.append_cases (map attribute_record d.attributes) k)
      where
        n : (a : Row ℕ) × (a ∈ d.nodes) × (node_record a ≡ x)
        n = Memᴰ.of_map node_record d.nodes h

        go : (y ∈ map attribute_record d.attributes) ⊎ (y ∈ map permission_record d.permissions) → T (less_record x y)
        go (inl m) = let a = Memᴰ.of_map attribute_record d.attributes m in subst₂ (λ (u v : Record). T (less_record u v)) n.2 a.2 (node_first n.0 a.0)
        go (inr m) = let g = Memᴰ.of_map permission_record d.permissions m in subst₂ (λ (u v : Record). T (less_record u v)) n.2 g.2 (node_before n.0 g.0)
