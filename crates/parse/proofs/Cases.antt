-- What decoding asks of forty bytes, by kind: a path, the used fields in their ranges, every unused byte 0. Assumes nothing.
use mathlib.Core.Path.{◌≡◌, refl, sym, ap, subst, ◌∙◌}
use mathlib.Core.Bool.{Bool, true, false, ◌&&◌, ◌||◌, not, and_assoc, and_comm, and-false}
use mathlib.Core.Option.{Option, none, some}
use mathlib.Core.List.{List, [], ◌∷◌, ◌++◌}
use Prim.Native.Nat.{ℕ}
use native.Mathlib.Omega.{arith}
use lib.Dec.{eqb, leb}
use lib.Signed.{le_z}
use lib.ListN.{length, take, drop, get_or, replicate}
use mir.Syntax.{w64}
use mir.Val.{of_z}
use borrow.Author.Tests.{eq-eqb, ne_eqb, le-leb}
use Rattle.laws.specs.Slots.{pick, same_bytes}
use Rattle.laws.proofs.Same.{same_bytes_lem}
use Rattle.path.specs.Address.{Address, valid}
use Rattle.path.specs.Bytes.{read_steps}
use Rattle.path.proofs.Moves.{is_true}
use Rattle.model.specs.Things.{Value, Permission, Row}
use Rattle.model.specs.Refusals as refusals
use Rattle.model.specs.Refusals.{between, user_good, role_good, name_good, time_good, value_good}
use Rattle.model.specs.Image.{Record, node_record, attribute_record, permission_record, bytes4, bytes8, number2, number4, value_kind, value_bits, encode, read_path, read_value, read_permission, parse, in_range, decode}
use Rattle.roundtrip.proofs.Records.{laid, rest_of, spelt}
use Rattle.parse.specs.Fields.{zeros, node_good, attribute_good, value_from, permission_good}
use Rattle.parse.proofs.Digits.{Bytes, by_bytes, two_there, two_small, four_there, four_small, time_there, time_good_lem}
use Rattle.parse.proofs.Frame.{and_then, same_parts, same_after, framed}
use Rattle.parse.proofs.Values.{valued}

-- the path that the bytes behind the kind begin with
abbrev read : List ℕ → Address
read m = take (get_or m 0 0) (take 6 (drop 1 m))

and_left : (a b c : Bool) → (a && (b && c)) ≡ (b && (a && c))
and_left true b c = refl
and_left false true c = refl
and_left false false c = refl

-- ---- a node
node_tests : (u a c d z : Bool) → d ≡ true → (u && (a && (c && (d && z)))) ≡ (u && ((a && (c && true)) && z))
node_tests u a c d z e = simp (e, and_assoc)

module _ (c : List ℕ) where
  node_good_lem : (user_good (get_or (spelt 39 c) 9 0) && same_bytes (rest_of (node_record (read (spelt 39 c), get_or (spelt 39 c) 9 0))) (drop 7 (spelt 39 c))) ≡ node_good (1 ∷ spelt 39 c)
  unfolding zeros
  node_good_lem =
      let m = spelt 39 c in
      let u = get_or m 9 0 in
      node_tests (user_good u) (eqb 0 (get_or m 7 0)) (eqb 0 (get_or m 8 0)) (eqb u u) (same_bytes (replicate 29 0) (drop 10 m)) (eq-eqb u u refl)

  node_spelt : decode (1 ∷ spelt 39 c) ≡ and_then (read_steps (spelt 7 c)) (λ p. pick (node_good (1 ∷ spelt 39 c)) (some (node_record (p, get_or (spelt 39 c) 9 0))) none)
  node_spelt =
      let m = spelt 39 c in
      let u = get_or m 9 0 in
      let r = node_record (read m, u) in
      ap (λ (e : List ℕ). pick ((valid (read m) && user_good u) && same_bytes e (1 ∷ m)) (some r) none) (laid r)
      ∙ framed 1 (spelt 7 c) (drop 7 m) (rest_of r) (user_good u) (λ p. node_record (p, u)) refl
      ∙ ap (λ (t : Bool). and_then (read_steps (spelt 7 c)) (λ p. pick t (some (node_record (p, u))) none)) node_good_lem

pub decode_node : (b : List ℕ) → length b ≡ 40 → get_or b 0 0 ≡ 1
    → decode b ≡ and_then (read_steps (take 7 (drop 1 b))) (λ p. pick (node_good b) (some (node_record (p, get_or b 10 0))) none)
unfolding zeros
decode_node b full =
    by_bytes 40 (λ l. get_or l 0 0 ≡ 1 → decode l ≡ and_then (read_steps (take 7 (drop 1 l))) (λ p. pick (node_good l) (some (node_record (p, get_or l 10 0))) none)) b full
    (λ e. ap (λ (k : ℕ). decode (k ∷ spelt 39 (drop 1 b))) e ∙ node_spelt (drop 1 b))

-- ---- an attribute
attribute_tests_lem : (l m u v a c d k e w z : Bool) → m ≡ true
    → (((l && m) && (u && v)) && (a && (c && (d && (k && (e && (w && z))))))) ≡ ((l && (u && ((a && (c && (d && true))) && ((e && true) && z)))) && (v && (k && w)))
attribute_tests_lem l m u v a c d k e w z h = simp (h, and_assoc, and_left, and_comm)

pick_both : {A : Type 0} (a b : Bool) (x : Option A) → pick (a && b) x none ≡ pick a (pick b x none) none
pick_both true b x = refl
pick_both false b x = refl

module _ (c : List ℕ) (bytes : Bytes (2 ∷ spelt 39 c)) where
  abbrev name : ℕ
  name = number2 7 (spelt 39 c)

  abbrev owner : ℕ
  owner = get_or (spelt 39 c) 9 0

  abbrev kind : ℕ
  kind = get_or (spelt 39 c) 13 0

  abbrev bits : ℕ
  bits = number4 15 (spelt 39 c)

  abbrev value : Value
  value = read_value kind bits

  abbrev at : Value → Address → Record
  at v p = attribute_record (p, record { name = name; owner = owner; value = v })

  -- the four bytes of the value
  abbrev four : List ℕ
  four = take 4 (drop 15 (spelt 39 c))

  attribute_good_lem : ((name_good name && (user_good owner && value_good value)) && same_bytes (rest_of (at value (read (spelt 39 c)))) (drop 7 (spelt 39 c)))
      ≡ (attribute_good (2 ∷ spelt 39 c) && (value_good value && (eqb (value_kind value) kind && same_bytes (bytes4 (value_bits value)) four)))
  unfolding zeros
  attribute_good_lem =
      let m = spelt 39 c in
      let x = get_or m 7 0 in
      let y = get_or m 8 0 in
      let rest : List ℕ = 0 ∷ 0 ∷ 0 ∷ value_kind value ∷ 0 ∷ (bytes4 (value_bits value) ++ replicate 20 0) in
      let g = name_good name && (user_good owner && value_good value) in
      let e10 = eqb 0 (get_or m 10 0) in
      let e11 = eqb 0 (get_or m 11 0) in
      let e12 = eqb 0 (get_or m 12 0) in
      let e13 = eqb (value_kind value) kind in
      let e14 = eqb 0 (get_or m 14 0) in
      let w = same_bytes (bytes4 (value_bits value)) four in
      let z = same_bytes (replicate 20 0) (drop 19 m) in
      ap (λ (l : List ℕ). g && same_bytes (l ++ (owner ∷ rest)) (drop 7 m)) (two_there x y (bytes 9))
      ∙ ap (λ (t : Bool). g && t) (same_after (x ∷ y ∷ owner ∷ []) rest (drop 10 m))
      ∙ ap (λ (t : Bool). g && (e10 && (e11 && (e12 && (e13 && (e14 && t)))))) (same_parts (bytes4 (value_bits value)) four (replicate 20 0) (drop 19 m) refl)
      ∙ attribute_tests_lem (leb 1 name) (leb name 65535) (user_good owner) (value_good value) e10 e11 e12 e13 e14 w z (le-leb name 65535 (let h = two_small x y (bytes 8) (bytes 9) in omega arith))

  attribute_spelt : decode (2 ∷ spelt 39 c) ≡ and_then (read_steps (spelt 7 c)) (λ p. pick (attribute_good (2 ∷ spelt 39 c)) (and_then (value_from kind bits) (λ v. some (at v p))) none)
  attribute_spelt =
      let m = spelt 39 c in
      let r = at value (read m) in
      let g = name_good name && (user_good owner && value_good value) in
      ap (λ (e : List ℕ). pick ((valid (read m) && g) && same_bytes e (2 ∷ m)) (some r) none) (laid r)
      ∙ framed 2 (spelt 7 c) (drop 7 m) (rest_of r) g (at value) refl
      ∙ (λ i. and_then (read_steps (spelt 7 c)) (λ p. each p i))
    where
      each : (p : Address) → pick ((name_good name && (user_good owner && value_good value)) && same_bytes (rest_of (at value (read (spelt 39 c)))) (drop 7 (spelt 39 c))) (some (at value p)) none
          ≡ pick (attribute_good (2 ∷ spelt 39 c)) (and_then (value_from kind bits) (λ v. some (at v p))) none
      each p =
          let a = attribute_good (2 ∷ spelt 39 c) in
          let b = value_good value && (eqb (value_kind value) kind && same_bytes (bytes4 (value_bits value)) four) in
          let h = four_small (get_or (spelt 39 c) 15 0) (get_or (spelt 39 c) 16 0) (get_or (spelt 39 c) 17 0) (get_or (spelt 39 c) 18 0) (bytes 16) (bytes 17) (bytes 18) (bytes 19) in
          let e = four_there (get_or (spelt 39 c) 15 0) (get_or (spelt 39 c) 16 0) (get_or (spelt 39 c) 17 0) (get_or (spelt 39 c) 18 0) (bytes 17) (bytes 18) (bytes 19) in
          ap (λ (t : Bool). pick t (some (at value p)) none) attribute_good_lem
          ∙ pick_both a b (some (at value p))
          ∙ ap (λ (o : Option Record). pick a o none) (valued (λ v. at v p) bits four h e kind)

pub decode_attribute : (b : List ℕ) → length b ≡ 40 → Bytes b → get_or b 0 0 ≡ 2
    → decode b ≡ and_then (read_steps (take 7 (drop 1 b)))
    (λ p. pick (attribute_good b) (and_then (value_from (get_or b 14 0) (number4 16 b)) (λ v. some (attribute_record (p, record { name = number2 8 b; owner = get_or b 10 0; value = v })))) none)
unfolding zeros
decode_attribute b full =
    by_bytes 40 (λ l. Bytes l → get_or l 0 0 ≡ 2
    → decode l ≡ and_then (read_steps (take 7 (drop 1 l)))
    (λ p. pick (attribute_good l) (and_then (value_from (get_or l 14 0) (number4 16 l)) (λ v. some (attribute_record (p, record { name = number2 8 l; owner = get_or l 10 0; value = v })))) none)) b full
    (λ h e. ap (λ (k : ℕ). decode (k ∷ spelt 39 (drop 1 b))) e ∙ attribute_spelt (drop 1 b) (subst (λ (k : ℕ). Bytes (k ∷ spelt 39 (drop 1 b))) e h))

-- ---- a permission
permission_tests : (n r a u f l o m g w x y z : Bool) → n ≡ true → f ≡ true → l ≡ true → m ≡ true → g ≡ true
    → ((n && (r && (a && (u && (f && (l && (o && (m && (g && w))))))))) && (x && (y && (z && true)))) ≡ ((r && (a && (u && (o && w)))) && ((x && true) && (y && (z && true))))
permission_tests n r a u f l o m g w x y z en ef el em eg = simp (en, ef, el, em, eg, and_assoc)

module _ (c : List ℕ) (bytes : Bytes (3 ∷ spelt 39 c)) where
  abbrev grant : Permission
  grant = read_permission (3 ∷ spelt 39 c)

  abbrev called : ℕ
  called = number2 7 (spelt 39 c)

  abbrev behind : List ℕ
  behind = drop 15 (spelt 39 c)

  -- the bytes from 16 on are those of times and sets
  numbers_there : (bytes8 (of_z w64 grant.first) ++ (bytes8 (of_z w64 grant.last) ++ (bytes4 grant.messages ++ bytes4 grant.agreements))) ≡ behind
  numbers_there =
      let m : List ℕ = 3 ∷ spelt 39 c in
      let t : ℕ → ℕ = λ i. get_or m i 0 in
      let first = time_there (t 16) (t 17) (t 18) (t 19) (t 20) (t 21) (t 22) (t 23) (bytes 16) (bytes 17) (bytes 18) (bytes 19) (bytes 20) (bytes 21) (bytes 22) (bytes 23) in
      let last = time_there (t 24) (t 25) (t 26) (t 27) (t 28) (t 29) (t 30) (t 31) (bytes 24) (bytes 25) (bytes 26) (bytes 27) (bytes 28) (bytes 29) (bytes 30) (bytes 31) in
      let messages = four_there (t 32) (t 33) (t 34) (t 35) (bytes 33) (bytes 34) (bytes 35) in
      let agreements = four_there (t 36) (t 37) (t 38) (t 39) (bytes 37) (bytes 38) (bytes 39) in
      λ i. first i ++ (last i ++ (messages i ++ agreements i))

  rest_same : same_bytes (rest_of (permission_record (read (spelt 39 c), (called, grant)))) (drop 7 (spelt 39 c))
      ≡ (eqb 0 (get_or (spelt 39 c) 9 0) && (eqb 0 (get_or (spelt 39 c) 13 0) && (eqb 0 (get_or (spelt 39 c) 14 0) && true)))
  rest_same =
      let m = spelt 39 c in
      let x = get_or m 7 0 in
      let y = get_or m 8 0 in
      let z = get_or m 9 0 in
      let three = take 3 (drop 10 m) in
      let e13 = eqb 0 (get_or m 13 0) in
      let e14 = eqb 0 (get_or m 14 0) in
      (λ i. same_bytes (two_there x y (bytes 9) i ++ (0 ∷ get_or m 10 0 ∷ get_or m 11 0 ∷ get_or m 12 0 ∷ 0 ∷ 0 ∷ numbers_there i)) (drop 7 m))
      ∙ same_after (x ∷ y ∷ []) (0 ∷ (three ++ (0 ∷ 0 ∷ behind))) (drop 9 m)
      ∙ ap (λ (t : Bool). eqb 0 z && t) (same_after three (0 ∷ 0 ∷ behind) (drop 13 m))
      ∙ ap (λ (t : Bool). eqb 0 z && (e13 && (e14 && t))) (is_true (same_bytes behind behind) (same_bytes_lem behind))

  permission_good_lem : ((leb called 65535 && refusals.permission_good called grant) && same_bytes (rest_of (permission_record (read (spelt 39 c), (called, grant)))) (drop 7 (spelt 39 c)))
      ≡ permission_good (3 ∷ spelt 39 c)
  unfolding zeros
  permission_good_lem =
      let m : List ℕ = 3 ∷ spelt 39 c in
      let t : ℕ → ℕ = λ i. get_or m i 0 in
      let first = time_good_lem (t 16) (t 17) (t 18) (t 19) (t 20) (t 21) (t 22) (t 23) (bytes 16) (bytes 17) (bytes 18) (bytes 19) (bytes 20) (bytes 21) (bytes 22) (bytes 23) in
      let last = time_good_lem (t 24) (t 25) (t 26) (t 27) (t 28) (t 29) (t 30) (t 31) (bytes 24) (bytes 25) (bytes 26) (bytes 27) (bytes 28) (bytes 29) (bytes 30) (bytes 31) in
      let h = two_small (t 8) (t 9) (bytes 8) (bytes 9) in
      let j = four_small (t 32) (t 33) (t 34) (t 35) (bytes 32) (bytes 33) (bytes 34) (bytes 35) in
      let k = four_small (t 36) (t 37) (t 38) (t 39) (bytes 36) (bytes 37) (bytes 38) (bytes 39) in
      ap (λ (b : Bool). (leb called 65535 && refusals.permission_good called grant) && b) rest_same
      ∙ permission_tests (leb called 65535) (role_good grant.role) (between 1 4 grant.action) (leb grant.user 64) (time_good grant.first) (time_good grant.last)
      (le_z grant.first grant.last) (leb grant.messages 4294967295) (leb grant.agreements 4294967295) (eqb called 0 || not (eqb grant.action 2))
      (eqb 0 (t 10)) (eqb 0 (t 14)) (eqb 0 (t 15))
      (le-leb called 65535 (omega arith)) first last (le-leb grant.messages 4294967295 (omega arith)) (le-leb grant.agreements 4294967295 (omega arith))

  permission_spelt : decode (3 ∷ spelt 39 c) ≡ and_then (read_steps (spelt 7 c)) (λ p. pick (permission_good (3 ∷ spelt 39 c)) (some (permission_record (p, (called, grant)))) none)
  permission_spelt =
      let m = spelt 39 c in
      let r = permission_record (read m, (called, grant)) in
      let g = leb called 65535 && refusals.permission_good called grant in
      ap (λ (e : List ℕ). pick ((valid (read m) && g) && same_bytes e (3 ∷ m)) (some r) none) (laid r)
      ∙ framed 3 (spelt 7 c) (drop 7 m) (rest_of r) g (λ p. permission_record (p, (called, grant))) refl
      ∙ ap (λ (t : Bool). and_then (read_steps (spelt 7 c)) (λ p. pick t (some (permission_record (p, (called, grant)))) none)) permission_good_lem

pub decode_permission : (b : List ℕ) → length b ≡ 40 → Bytes b → get_or b 0 0 ≡ 3
    → decode b ≡ and_then (read_steps (take 7 (drop 1 b))) (λ p. pick (permission_good b) (some (permission_record (p, (number2 8 b, read_permission b)))) none)
unfolding zeros
decode_permission b full =
    by_bytes 40 (λ l. Bytes l → get_or l 0 0 ≡ 3
    → decode l ≡ and_then (read_steps (take 7 (drop 1 l))) (λ p. pick (permission_good l) (some (permission_record (p, (number2 8 l, read_permission l)))) none)) b full
    (λ h e. ap (λ (k : ℕ). decode (k ∷ spelt 39 (drop 1 b))) e ∙ permission_spelt (drop 1 b) (subst (λ (k : ℕ). Bytes (k ∷ spelt 39 (drop 1 b))) e h))

-- ---- any other kind
kind_differs : (r : Row (ℕ × Permission)) (l : List ℕ) → (get_or l 0 0 ≡ 3 → ⊥) → same_bytes (encode (permission_record r)) l ≡ false
kind_differs r [] h = refl
kind_differs r (x ∷ l) h = ap (λ (t : Bool). t && same_bytes (drop 1 (encode (permission_record r))) l) (ne_eqb 3 x (λ e. h (sym e)))

pub decode_bad : (b : List ℕ) → (get_or b 0 0 ≡ 1 → ⊥) → (get_or b 0 0 ≡ 2 → ⊥) → (get_or b 0 0 ≡ 3 → ⊥) → decode b ≡ none
decode_bad b p q n =
    let row : Row (ℕ × Permission) = (read_path b, (number2 8 b, read_permission b)) in
    let r = permission_record row in
    let kind : parse b ≡ r = simp (ne_eqb (get_or b 0 0) 1 p, ne_eqb (get_or b 0 0) 2 q) in
    (λ i. pick (in_range (kind i) && same_bytes (encode (kind i)) b) (some (kind i)) none)
    ∙ ap (λ (t : Bool). pick (in_range r && t) (some r) none) (kind_differs row b n)
    ∙ ap (λ (t : Bool). pick t (some r) none) (and-false (in_range r))
