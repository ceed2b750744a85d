-- A record that the rules accept leaves a sound dossier sound: a node's, an attribute's, a permission's. Assumes nothing.
use mathlib.Core.Path.{◌≡◌, sym, subst, ◌∙◌}
use mathlib.Core.Logic.{◌⊎◌, inl, inr}
use mathlib.Core.Bool.{Bool, true, false, not, ◌&&◌, ◌||◌}
use mathlib.Core.Option.{none, some}
use mathlib.Core.List.{List, []}
use Prim.Native.Nat.{ℕ, ◌≤◌, ◌<◌}
use native.Mathlib.Omega.{arith}
use lib.Dec.{T, eqb, ltb, ltb→lt, T_not}
use lib.ListN.{length, length-map}
use mir.Facts.{and_yes}
use Rattle.laws.specs.Slots.{pick}
use Rattle.laws.specs.Sorted.{◌∈◌, insert, push, move}
use Rattle.laws.proofs.Sorted.{insert_old, insert_back, insert_sorted}
use Rattle.path.specs.Address.{Address, same, parent, last}
use Rattle.path.proofs.Laws.{same_eq}
use Rattle.model.specs.Things.{Attribute, Permission, Row, Dossier, before_node, before_attribute, before_permission}
use Rattle.model.specs.Decide.{clash, clash_any}
use Rattle.model.specs.Moves.{at, permissions_for, node_at, attribute_at, object_at, names_on, with_attribute, grant_row, add_permission}
use Rattle.model.specs.Refusals.{is_root}
use Rattle.model.specs.Image.{node_record, attribute_record, permission_record, in_range, node_fits, attribute_fits, permission_fits, left, there}
use Rattle.model.specs.Sound.{Sound}
use Rattle.roundtrip.proofs.Checks.{or_else}
use Rattle.roundtrip.proofs.Orders.{nodes_order, attributes_order, permissions_order}
use Rattle.roundtrip.proofs.Prefix.{insert_long, insert_one}
use Rattle.roundtrip.proofs.Clash.{clash_in, clash_sym}
use Rattle.roundtrip.proofs.Found.{node_there, node_kept, attribute_there, grant_there, object_kept, fits_out}

-- of a row that was put in: it is the new one or an old one
new_or_old : {A : Type 0} (P : A → Type 0) (x z : A) (l : List A) → P x → ((y : A) → y ∈ l → P y) → (z ≡ x) ⊎ (z ∈ l) → P z
new_or_old P x z l n f (inl e) = subst P (sym e) n
new_or_old P x z l n f (inr h) = f z h

-- ---- one more node
module _ (d : Dossier) (s : Sound d) (r : Row ℕ) (g : T (in_range (node_record r)))
    (t : T (node_fits r.0 (there (node_at r.0 d)) (there (node_at (parent r.0) d)) (there (node_at (left r.0) d)) (length d.nodes))) where
  abbrev node_more : Dossier
  node_more = record { nodes = insert before_node r d.nodes; attributes = d.attributes; permissions = d.permissions }

  pub node_sound : Sound node_more
  node_sound =
      let a = there (node_at (parent r.0) d) in
      let b = eqb (last r.0) 1 || there (node_at (left r.0) d) in
      record {
        nodes_ascend = insert_sorted before_node nodes_order r s.nodes_ascend;
        attributes_ascend = s.attributes_ascend;
        permissions_ascend = s.permissions_ascend;
        nodes_good = λ z h. new_or_old (λ y. T (in_range (node_record y))) r z d.nodes g s.nodes_good (back z h);
        attributes_good = s.attributes_good;
        permissions_good = s.permissions_good;
        root = more [] s.root;
        above = λ z h. new_or_old (λ y. T (is_root y.0 || there (node_at (parent y.0) node_more))) r z d.nodes
            (or_else (is_root r.0) (a && b) (there (node_at (parent r.0) node_more)) (λ n u. more (parent r.0) (and_yes a b u).0) parts.1)
            (λ y k. or_else (is_root y.0) (there (node_at (parent y.0) d)) (there (node_at (parent y.0) node_more)) (λ n u. more (parent y.0) u) (s.above y k)) (back z h);
        left_there = λ z h. new_or_old (λ y. T (is_root y.0 || (eqb (last y.0) 1 || there (node_at (left y.0) node_more)))) r z d.nodes
            (or_else (is_root r.0) (a && b) (eqb (last r.0) 1 || there (node_at (left r.0) node_more)) (λ n u. left_more r.0 (and_yes a b u).1) parts.1)
            (λ y k. or_else (is_root y.0) (eqb (last y.0) 1 || there (node_at (left y.0) d)) (eqb (last y.0) 1 || there (node_at (left y.0) node_more))
            (λ n u. left_more y.0 u) (s.left_there y k)) (back z h);
        on_node = λ z h. more z.0 (s.on_node z h);
        on_object = λ z h. object_kept z.0 z.1.0 d node_more (more_nodes z.0) (λ x m. m) (s.on_object z h);
        one_node = λ q o o' h h'. one q o o' (back (q, o) h) (back (q, o') h');
        one_attribute = s.one_attribute;
        no_clash = s.no_clash;
        few_nodes = let k = ltb→lt (length d.nodes) 64 parts.2 in omega (arith, insert_one before_node r d.nodes);
        few_attributes = s.few_attributes;
        few_on_node = s.few_on_node;
        few_permissions = s.few_permissions;
      }
    where
      more_nodes : (q : Address) (o : ℕ) → (q, o) ∈ d.nodes → (q, o) ∈ insert before_node r d.nodes
      more_nodes q o h = insert_old before_node nodes_order r (q, o) d.nodes h

      more : (q : Address) → T (there (node_at q d)) → T (there (node_at q node_more))
      more q u = node_kept q d node_more (more_nodes q) u

      parts : T (not (there (node_at r.0 d)))
          × T (is_root r.0 || (there (node_at (parent r.0) d) && (eqb (last r.0) 1 || there (node_at (left r.0) d)))) × T (ltb (length d.nodes) 64)
      parts =
          let above = is_root r.0 || (there (node_at (parent r.0) d) && (eqb (last r.0) 1 || there (node_at (left r.0) d))) in
          let w = and_yes (not (there (node_at r.0 d))) (above && ltb (length d.nodes) 64) t in
          let v = and_yes above (ltb (length d.nodes) 64) w.1 in
          (w.0, v.0, v.1)

      back : (z : Row ℕ) → z ∈ insert before_node r d.nodes → (z ≡ r) ⊎ (z ∈ d.nodes)
      back z h = insert_back before_node nodes_order r z d.nodes h

      -- no second record for one node
      one : (q : Address) (o o' : ℕ) → ((q, o) ≡ r) ⊎ ((q, o) ∈ d.nodes) → ((q, o') ≡ r) ⊎ ((q, o') ∈ d.nodes) → o ≡ o'
      one q o o' (inl e) (inl e') = λ i. ((e ∙ sym e') i).1
      one q o o' (inl e) (inr h) = absurd (T_not (there (node_at r.0 d)) parts.0 (subst (λ (x : Address). T (there (node_at x d))) (λ i. (e i).0) (node_there q o' d h)))
      one q o o' (inr h) (inl e) = absurd (T_not (there (node_at r.0 d)) parts.0 (subst (λ (x : Address). T (there (node_at x d))) (λ i. (e i).0) (node_there q o d h)))
      one q o o' (inr h) (inr h') = s.one_node q o o' h h'

      left_more : (q : Address) → T (eqb (last q) 1 || there (node_at (left q) d)) → T (eqb (last q) 1 || there (node_at (left q) node_more))
      left_more q u = or_else (eqb (last q) 1) (there (node_at (left q) d)) (there (node_at (left q) node_more)) (λ n v. more (left q) v) u

-- ---- one more attribute
module _ (d : Dossier) (s : Sound d) (r : Row Attribute) (g : T (in_range (attribute_record r)))
    (t : T (attribute_fits (there (node_at r.0 d)) (there (attribute_at r.0 r.1.name d)) (length d.attributes) (length (names_on r.0 d)))) where
  abbrev attribute_more : Dossier
  attribute_more = with_attribute r.0 r.1 d

  pub attribute_sound : Sound attribute_more
  attribute_sound =
      record {
        nodes_ascend = s.nodes_ascend;
        attributes_ascend = insert_sorted before_attribute attributes_order r s.attributes_ascend;
        permissions_ascend = s.permissions_ascend;
        nodes_good = s.nodes_good;
        attributes_good = λ z h. new_or_old (λ y. T (in_range (attribute_record y))) r z d.attributes g s.attributes_good (back z h);
        permissions_good = s.permissions_good;
        root = s.root;
        above = s.above;
        left_there = s.left_there;
        on_node = λ z h. new_or_old (λ y. T (there (node_at y.0 d))) r z d.attributes parts.0 s.on_node (back z h);
        on_object = λ z h. object_kept z.0 z.1.0 d attribute_more (λ o m. m) (λ a m. insert_old before_attribute attributes_order r (z.0, a) d.attributes m) (s.on_object z h);
        one_node = s.one_node;
        one_attribute = λ q a b h k. one q a b (back (q, a) h) (back (q, b) k);
        no_clash = s.no_clash;
        few_nodes = s.few_nodes;
        few_attributes = let k = ltb→lt (length d.attributes) 256 parts.2 in omega (arith, insert_one before_attribute r d.attributes);
        few_on_node = few;
        few_permissions = s.few_permissions;
      }
    where
      parts : T (there (node_at r.0 d)) × T (not (there (attribute_at r.0 r.1.name d))) × T (ltb (length d.attributes) 256) × T (ltb (length (names_on r.0 d)) 16)
      parts =
          let here = not (there (attribute_at r.0 r.1.name d)) in
          let all = ltb (length d.attributes) 256 in
          let on = ltb (length (names_on r.0 d)) 16 in
          let u = and_yes (there (node_at r.0 d)) (here && (all && on)) t in
          let v = and_yes here (all && on) u.1 in
          let w = and_yes all on v.1 in
          (u.0, v.0, w.0, w.1)

      back : (z : Row Attribute) → z ∈ insert before_attribute r d.attributes → (z ≡ r) ⊎ (z ∈ d.attributes)
      back z h = insert_back before_attribute attributes_order r z d.attributes h

      -- no second record for one attribute
      not_two : (q : Address) (a b : Attribute) → (q, a) ≡ r → (q, b) ∈ d.attributes → a.name ≡ b.name → ⊥
      not_two q a b e h n =
          T_not (there (attribute_at r.0 r.1.name d)) parts.1
          (subst (λ (y : Row Attribute). T (there (attribute_at y.0 y.1.name d))) e (attribute_there q a.name b d h (sym n)))

      one : (q : Address) (a b : Attribute) → ((q, a) ≡ r) ⊎ ((q, a) ∈ d.attributes) → ((q, b) ≡ r) ⊎ ((q, b) ∈ d.attributes) → a.name ≡ b.name → a ≡ b
      one q a b (inl e) (inl f) n = λ i. ((e ∙ sym f) i).1
      one q a b (inl e) (inr h) n = absurd (not_two q a b e h n)
      one q a b (inr h) (inl f) n = absurd (not_two q b a f h (sym n))
      one q a b (inr h) (inr k) n = s.one_attribute q a b h k n

      few : (q : Address) → length (names_on q attribute_more) ≤ 16
      few q =
          let m = insert_long (at q) before_attribute r d.attributes in
          let i = length-map (move (at q) (insert before_attribute r d.attributes)) (λ (a : Attribute). a.name) in
          let j = length-map (move (at q) d.attributes) (λ (a : Attribute). a.name) in
          let f = s.few_on_node q in
          let h = go (same r.0 q) (same_eq r.0 q) (omega arith) in
          omega arith
        where
          go : (b : Bool) → (T b → r.0 ≡ q) → length (move (at q) d.attributes) ≤ 16 → length (push (pick b (some r.1) none) (move (at q) d.attributes)) ≤ 16
          go true e f =
              let h : length (names_on q d) < 16 = subst (λ (x : Address). length (names_on x d) < 16) (e tt) (ltb→lt (length (names_on r.0 d)) 16 parts.3) in
              let j = length-map (move (at q) d.attributes) (λ (a : Attribute). a.name) in
              omega arith
          go false e f = f

-- ---- one more permission
module _ (d : Dossier) (s : Sound d) (r : Row (ℕ × Permission)) (g : T (in_range (permission_record r)))
    (t : T (permission_fits r.1.1 (object_at r.0 r.1.0 d) (length d.permissions))) where
  abbrev permission_more : Dossier
  permission_more = add_permission r.0 r.1.0 r.1.1 d

  pub permission_sound : Sound permission_more
  permission_sound =
      record {
        nodes_ascend = s.nodes_ascend;
        attributes_ascend = s.attributes_ascend;
        permissions_ascend = insert_sorted before_permission permissions_order r s.permissions_ascend;
        nodes_good = s.nodes_good;
        attributes_good = s.attributes_good;
        permissions_good = λ z h. new_or_old (λ y. T (in_range (permission_record y))) r z d.permissions g s.permissions_good (back z h);
        root = more [] s.root;
        above = λ z h. or_else (is_root z.0) (there (node_at (parent z.0) d)) (there (node_at (parent z.0) permission_more)) (λ n u. more (parent z.0) u) (s.above z h);
        left_there = λ z h. or_else (is_root z.0) (eqb (last z.0) 1 || there (node_at (left z.0) d)) (eqb (last z.0) 1 || there (node_at (left z.0) permission_more))
            (λ n. or_else (eqb (last z.0) 1) (there (node_at (left z.0) d)) (there (node_at (left z.0) permission_more)) (λ m u. more (left z.0) u)) (s.left_there z h);
        on_node = λ z h. more z.0 (s.on_node z h);
        on_object = λ z h. object_more z.0 z.1.0 (new_or_old (λ y. T (there (object_at y.0 y.1.0 d))) r z d.permissions parts.0 s.on_object (back z h));
        one_node = s.one_node;
        one_attribute = s.one_attribute;
        no_clash = λ q n a b h k. clear q n a b (back (grant_row q n a) h) (back (grant_row q n b) k);
        few_nodes = s.few_nodes;
        few_attributes = s.few_attributes;
        few_on_node = s.few_on_node;
        few_permissions = let k = ltb→lt (length d.permissions) 128 parts.2 in omega (arith, insert_one before_permission r d.permissions);
      }
    where
      parts : T (there (object_at r.0 r.1.0 d)) × T (not (clash_any r.1.1 (permissions_for r.0 r.1.0 d))) × T (ltb (length d.permissions) 128)
      parts = fits_out r.1.1 (length d.permissions) r.0 r.1.0 d t

      back : (z : Row (ℕ × Permission)) → z ∈ insert before_permission r d.permissions → (z ≡ r) ⊎ (z ∈ d.permissions)
      back z h = insert_back before_permission permissions_order r z d.permissions h

      more : (q : Address) → T (there (node_at q d)) → T (there (node_at q permission_more))
      more q u = node_kept q d permission_more (λ o h. h) u

      object_more : (q : Address) (n : ℕ) → T (there (object_at q n d)) → T (there (object_at q n permission_more))
      object_more q n u = object_kept q n d permission_more (λ o h. h) (λ a h. h) u

      -- no clash
      not_both : (q : Address) (n : ℕ) (a b : Permission) → grant_row q n a ≡ r → grant_row q n b ∈ d.permissions → T (clash a b) → ⊥
      not_both q n a b e h c =
          T_not (clash_any a (permissions_for q n d))
          (subst (λ (y : Row (ℕ × Permission)). T (not (clash_any y.1.1 (permissions_for y.0 y.1.0 d)))) (sym e) parts.1) (clash_in a b (permissions_for q n d) (grant_there q n b d h) c)

      clear : (q : Address) (n : ℕ) (a b : Permission) → (grant_row q n a ≡ r) ⊎ (grant_row q n a ∈ d.permissions) → (grant_row q n b ≡ r) ⊎ (grant_row q n b ∈ d.permissions)
          → T (clash a b) → a ≡ b
      clear q n a b (inl e) (inl f) c = λ i. ((e ∙ sym f) i).1.1
      clear q n a b (inl e) (inr h) c = absurd (not_both q n a b e h c)
      clear q n a b (inr h) (inl f) c = absurd (not_both q n b a f h (clash_sym a b c))
      clear q n a b (inr h) (inr k) c = s.no_clash q n a b h k c
