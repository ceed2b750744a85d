-- One record there and back: what a record in its ranges saves as is read as that record, and what is read as a record is what the record saves as. Assumes nothing.
use mathlib.Core.Path.{◌≡◌, refl, sym, ap, subst, ◌∙◌}
use mathlib.Core.Bool.{◌&&◌}
use mathlib.Core.Option.{none, some}
use mathlib.Core.List.{List, [], ◌∷◌, ◌++◌, append_assoc}
use Prim.Native.Nat.{ℕ, zero, suc, ◌+◌, ◌-◌, ◌*◌, ◌/◌, ◌%◌, ◌≤◌}
use native.Mathlib.Nat.{suc_inj}
use native.Mathlib.Omega.{arith}
use lib.IntN.{ℤ}
use lib.Signed.{le_z}
use lib.Ieee.{of_bits, to_bits, fits, binary32}
use lib.Ieee.Bits.{of_bits-to_bits}
use lib.Dec.{T, leb, leb→le}
use lib.ListN.{length, take, drop, get_or, replicate, length-append, length-replicate}
use lib.Seq.{take_at}
use mir.Syntax.{w64}
use mir.Val.{to_z, of_z}
use mir.ValLaws.{to_z-of_z}
use mir.Facts.{and_yes, yes_and}
use Rattle.laws.specs.Slots.{pick, slots, same_bytes}
use Rattle.laws.proofs.Same.{same_bytes_lem, bytes_same}
use Rattle.path.specs.Address.{Address, steps_good, valid}
use Rattle.path.proofs.Moves.{pick_yes}
use Rattle.model.specs.Things.{Value, whole, reading, Attribute, Permission, Row}
use Rattle.model.specs.Refusals.{between, user_good, role_good, name_good, time_good, finite, value_good, permission_good}
use Rattle.model.specs.Image.{bytes2, bytes4, bytes8, Record, node_record, attribute_record, permission_record, value_kind, value_bits, front, encode, read_value, parse, in_range, decode}
use Rattle.roundtrip.proofs.Checks.{let_in}
use Rattle.roundtrip.proofs.Bytes.{two_back, four_back, again4, eight_back, time_fits}

-- ---- the parts of a record: its kind, its path, the bytes from 8 on
abbrev pub kind_of : Record → ℕ
kind_of (node_record r) = 1
kind_of (attribute_record r) = 2
kind_of (permission_record r) = 3

abbrev pub path_of : Record → Address
path_of (node_record r) = r.0
path_of (attribute_record r) = r.0
path_of (permission_record r) = r.0

-- bytes 8 to 15, then the rest
abbrev pub later : ℕ → ℕ → ℕ → ℕ → ℕ → ℕ → List ℕ → List ℕ
later name owner role action user value x = bytes2 name ++ (owner ∷ role ∷ action ∷ user ∷ value ∷ 0 ∷ x)

abbrev pub rest_of : Record → List ℕ
rest_of (node_record r) = later 0 r.1 0 0 0 0 (replicate 24 0)
rest_of (attribute_record r) = later r.1.name r.1.owner 0 0 0 (value_kind r.1.value) (bytes4 (value_bits r.1.value) ++ replicate 20 0)
rest_of (permission_record r) = later r.1.0 0 r.1.1.role r.1.1.action r.1.1.user 0
    (bytes8 (of_z w64 r.1.1.first) ++ (bytes8 (of_z w64 r.1.1.last) ++ (bytes4 r.1.1.messages ++ bytes4 r.1.1.agreements)))

abbrev pub laid_out : ℕ → Address → List ℕ → List ℕ
laid_out kind p x = kind ∷ length p ∷ (slots 6 0 p ++ x)

front_laid : (kind : ℕ) (p : Address) (name owner role action user value : ℕ) (x : List ℕ)
    → front kind p name owner role action user value ++ x ≡ laid_out kind p (later name owner role action user value x)
front_laid kind p name owner role action user value x =
    ap (λ (z : List ℕ). kind ∷ length p ∷ z) (append_assoc (slots 6 0 p) (later name owner role action user value []) x)

pub laid : (r : Record) → encode r ≡ laid_out (kind_of r) (path_of r) (rest_of r)
laid (node_record r) = front_laid 1 r.0 0 r.1 0 0 0 0 (replicate 24 0)
laid (attribute_record r) = front_laid 2 r.0 r.1.name r.1.owner 0 0 0 (value_kind r.1.value) (bytes4 (value_bits r.1.value) ++ replicate 20 0)
laid (permission_record r) = front_laid 3 r.0 r.1.0 0 r.1.1.role r.1.1.action r.1.1.user 0
    (bytes8 (of_z w64 r.1.1.first) ++ (bytes8 (of_z w64 r.1.1.last) ++ (bytes4 r.1.1.messages ++ bytes4 r.1.1.agreements)))

pub path_valid : (r : Record) → T (in_range r) → T (valid (path_of r))
path_valid (node_record r) g = (and_yes (valid r.0) (user_good r.1) g).0
path_valid (attribute_record r) g = (and_yes (valid r.0) (name_good r.1.name && (user_good r.1.owner && value_good r.1.value)) g).0
path_valid (permission_record r) g = (and_yes (valid r.0) (leb r.1.0 65535 && permission_good r.1.0 r.1.1) g).0

path_short : (r : Record) → T (in_range r) → length (path_of r) ≤ 6
path_short r g = let p = path_of r in leb→le (length p) 6 (and_yes (leb (length p) 6) (steps_good p) (path_valid r g)).0

-- ---- 40 bytes
pub slots_length : (p : Address) → length p ≤ 6 → length (slots 6 0 p) ≡ 6
slots_length p h = let e = length-replicate {A = ℕ} (6 - length p) 0 in length-append p (replicate (6 - length p) 0) ∙ omega arith

rest_length : (r : Record) → length (rest_of r) ≡ 32
rest_length (node_record r) = refl
rest_length (attribute_record r) = refl
rest_length (permission_record r) = refl

pub record_length : (r : Record) → length (path_of r) ≤ 6 → length (encode r) ≡ 40
record_length r h =
    let e = slots_length (path_of r) h in
    let f = rest_length r in
    let d = length-append (slots 6 0 (path_of r)) (rest_of r) in
    ap (λ (b : List ℕ). length b) (laid r) ∙ omega arith

pub encode_length : (r : Record) → T (in_range r) → length (encode r) ≡ 40
encode_length r g = record_length r (path_short r g)

-- ---- there
-- n elements, spelt out
abbrev pub spelt : ℕ → List ℕ → List ℕ
spelt zero l = []
spelt (suc n) l = get_or l 0 0 ∷ spelt n (drop 1 l)

pub spelt_out : (n : ℕ) (l : List ℕ) → length l ≡ n → l ≡ spelt n l
spelt_out zero [] e = refl
spelt_out zero (x ∷ l) e = absurd (omega arith)
spelt_out (suc n) [] e = absurd (omega arith)
spelt_out (suc n) (x ∷ l) e = ap (λ (m : List ℕ). x ∷ m) (spelt_out n l (suc_inj e))

module _ (p : Address) (h : length p ≤ 6) where
  six : slots 6 0 p ≡ spelt 6 (slots 6 0 p)
  six = spelt_out 6 (slots 6 0 p) (slots_length p h)

  path_back : take (length p) (spelt 6 (slots 6 0 p)) ≡ p
  path_back = ap (take (length p)) (sym six) ∙ take_at p (replicate (6 - length p) 0) (length p) refl

spelt_record : (r : Record) → T (in_range r) → encode r ≡ kind_of r ∷ length (path_of r) ∷ (spelt 6 (slots 6 0 (path_of r)) ++ rest_of r)
spelt_record r g = laid r ∙ (λ i. kind_of r ∷ length (path_of r) ∷ (six (path_of r) (path_short r g) i ++ rest_of r))

value_back : (v : Value) → T (value_good v) → read_value (value_kind v) (again4 (value_bits v)) ≡ v
value_back (whole n) g = ap whole (four_back n)
value_back (reading x) g =
    ap (λ (n : ℕ). reading (of_bits binary32 n)) (four_back (to_bits binary32 x)) ∙ ap reading (of_bits-to_bits binary32 x (and_yes (finite x) (fits binary32 x) g).1)

time_back : (t : ℤ) → T (time_good t) → to_z w64 (again4 (of_z w64 t / 4294967296) * 4294967296 + again4 (of_z w64 t % 4294967296)) ≡ t
time_back t g = ap (to_z w64) (eight_back (of_z w64 t)) ∙ to_z-of_z w64 t (time_fits t g)

-- the times of a permission in its ranges
pub times_good : (n : ℕ) (g : Permission) → T (permission_good n g) → T (time_good g.first) × T (time_good g.last) × T (le_z g.first g.last)
times_good n g t =
    let t1 = and_yes (role_good g.role) _ t in
    let t2 = and_yes (between 1 4 g.action) _ t1.1 in
    let t3 = and_yes (leb g.user 64) _ t2.1 in
    let t4 = and_yes (time_good g.first) _ t3.1 in
    let t5 = and_yes (time_good g.last) _ t4.1 in
    (t4.0, t5.0, (and_yes (le_z g.first g.last) _ t5.1).0)

pub grant_times : (r : Row (ℕ × Permission)) → T (in_range (permission_record r)) → T (time_good r.1.1.first) × T (time_good r.1.1.last) × T (le_z r.1.1.first r.1.1.last)
grant_times r g =
    times_good r.1.0 r.1.1
    (and_yes (leb r.1.0 65535) (permission_good r.1.0 r.1.1) (and_yes (valid r.0) (leb r.1.0 65535 && permission_good r.1.0 r.1.1) g).1).1

value_good_lem : (r : Row Attribute) → T (in_range (attribute_record r)) → T (value_good r.1.value)
value_good_lem r g =
    (and_yes (user_good r.1.owner) (value_good r.1.value)
    (and_yes (name_good r.1.name) (user_good r.1.owner && value_good r.1.value)
    (and_yes (valid r.0) (name_good r.1.name && (user_good r.1.owner && value_good r.1.value)) g).1).1).1

parse_back : (r : Record) → T (in_range r) → parse (encode r) ≡ r
parse_back (node_record r) g = ap parse (spelt_record (node_record r) g) ∙ (λ i. node_record (path_back r.0 (path_short (node_record r) g) i, r.1))
parse_back (attribute_record r) g =
    ap parse (spelt_record (attribute_record r) g)
    ∙ (λ i. attribute_record (
      path_back r.0 (path_short (attribute_record r) g) i,
      record { name = two_back r.1.name i; owner = r.1.owner; value = value_back r.1.value (value_good_lem r g) i },
    ))
parse_back (permission_record r) g =
    ap parse (spelt_record (permission_record r) g)
    ∙ (λ i. permission_record (
      path_back r.0 (path_short (permission_record r) g) i,
      (
        two_back r.1.0 i,
        record {
          role = r.1.1.role;
          action = r.1.1.action;
          user = r.1.1.user;
          first = time_back r.1.1.first (grant_times r g).0 i;
          last = time_back r.1.1.last (grant_times r g).1 i;
          messages = four_back r.1.1.messages i;
          agreements = four_back r.1.1.agreements i;
        },
      ),
    ))

pub record_trip : (r : Record) → T (in_range r) → decode (encode r) ≡ some r
record_trip r g =
    let e = parse_back r g in
    (λ i. pick (in_range (e i) && same_bytes (encode (e i)) (encode r)) (some (e i)) none)
    ∙ pick_yes (in_range r && same_bytes (encode r) (encode r)) (some r) none (yes_and (in_range r) (same_bytes (encode r) (encode r)) g (same_bytes_lem (encode r)))

-- ---- back
-- what decoding asks of the bytes
read : (b : List ℕ) (r : Record) → decode b ≡ some r → T (in_range r) × T (same_bytes (encode r) b)
read b r e =
    let w = let_in (in_range (parse b) && same_bytes (encode (parse b)) b) (parse b) r e in
    subst (λ (s : Record). T (in_range s) × T (same_bytes (encode s) b)) w.1
    (and_yes (in_range (parse b)) (same_bytes (encode (parse b)) b) w.0)

pub record_back : (b : List ℕ) (r : Record) → decode b ≡ some r → encode r ≡ b
record_back b r e = bytes_same (encode r) b (read b r e).1

pub decode_good : (b : List ℕ) (r : Record) → decode b ≡ some r → T (in_range r)
decode_good b r e = (read b r e).0
