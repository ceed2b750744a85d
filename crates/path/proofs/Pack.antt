-- Numbers to the base 256 and their digits. Assumes nothing.
use mathlib.Core.Path.{◌≡◌, refl, sym, ap, ap₂, ◌∙◌}
use mathlib.Core.Bool.{Bool, true, false, ◌&&◌}
use mathlib.Core.List.{List, [], ◌∷◌, ◌++◌}
use Prim.Native.Nat.{ℕ, zero, suc, ◌+◌, ◌*◌, ◌/◌, ◌%◌, ◌^◌, ◌≤◌, ◌<◌}
use native.Mathlib.Nat.{pow-suc, one-le-pow, mul_assoc, add-mul, suc-add, zero-add, mul-le-mul_right}
use native.Mathlib.Omega.{arith}
use lib.Arith.{digits_lt, digits_div, digits_mod}
use lib.Pow.{pow-add}
use lib.Dec.{T, eqb, ltb, leb, leb→le}
use lib.ListN.{length, drop, get_or, set, drop_of_length-le}
use borrow.Author.Tests.{eq-eqb, ne_eqb, eqb-true, eqb-false, le-ltb, lt-ltb, ltb-true, ltb-false}
use Rattle.laws.specs.Slots.{pick, All}
use Rattle.laws.specs.Order.{lex, lt_list}
use Rattle.path.specs.Address.{Address, steps_good, before, under, beside, at_last}
use Rattle.path.proofs.Parts.{no, both, pick_true}
use Rattle.path.specs.Packed.{pack, digits}

-- ---- a number of n digits
abbrev pub Small : List ℕ → Type 0
Small l = All (λ s. s < 256) l

pub small_append : (p r : List ℕ) → Small p → Small r → Small (p ++ r)
small_append [] r c d = d
small_append (x ∷ p) r c d = (c.0, small_append p r c.1 d)

pub small_front : (p r : List ℕ) → Small (p ++ r) → Small p
small_front [] r d = tt
small_front (x ∷ p) r d = (d.0, small_front p r d.1)

pub small_back : (p r : List ℕ) → Small (p ++ r) → Small r
small_back [] r d = d
small_back (x ∷ p) r d = small_back p r d.1

pub small_set : (l : List ℕ) (i v : ℕ) → Small l → v < 256 → Small (set l i v)
small_set [] i v d h = tt
small_set (x ∷ l) zero v d h = (h, d.1)
small_set (x ∷ l) (suc i) v d h = (d.0, small_set l i v d.1 h)

pub power : (n : ℕ) → 1 ≤ 256 ^ n
power n = one-le-pow n 256 (omega arith)

pub pack_lt : (n : ℕ) (l : List ℕ) → Small l → pack n l < 256 ^ n
pack_lt n [] d = power n
pack_lt zero (x ∷ l) d = power 0
pack_lt (suc n) (x ∷ l) d = let h = digits_lt {q = x} {m = 256} d.0 (pack_lt n l d.1) in omega (arith, pow-suc 256 n)

-- the first k digits, and j more
pub pack_split : (k j : ℕ) (l : List ℕ) → pack (k + j) l ≡ pack k l * 256 ^ j + pack j (drop k l)
pack_split zero j [] = omega arith
pack_split zero j (x ∷ l) = ap (λ n. pack n (x ∷ l)) (zero-add j) ∙ omega arith
pack_split (suc k) j [] = omega arith
pack_split (suc k) j (x ∷ l) =
    let a = mul_assoc x (256 ^ k) (256 ^ j) in
    let b = add-mul (x * 256 ^ k) (pack k l) (256 ^ j) in
    let p : x * 256 ^ (k + j) ≡ x * (256 ^ k * 256 ^ j) = ap (λ z. x * z) (pow-add 256 k j) in
    let ih = pack_split k j l in
    ap (λ n. pack n (x ∷ l)) (suc-add k j) ∙ omega arith

pub pack_append : (q p : List ℕ) (n j : ℕ) → length q + j ≡ n → pack n (q ++ p) ≡ pack n q + pack j p
pack_append [] p n j e = let h : n ≡ j = omega arith in ap (λ k. pack k p) h ∙ sym (zero-add (pack j p))
pack_append (x ∷ q) p zero j e = absurd (omega arith)
pack_append (x ∷ q) p (suc n) j e = let ih = pack_append q p n j (omega arith) in omega arith

pub pack_shift : (l : List ℕ) (n k : ℕ) → length l ≤ n → pack (n + k) l ≡ pack n l * 256 ^ k
pack_shift l n k h = let d : pack k (drop n l) ≡ 0 = ap (pack k) (drop_of_length-le l {i = n} h) in let s = pack_split n k l in omega arith

-- ---- the high and the low digits of a number
module _ (l : List ℕ) (d : Small l) (n k j : ℕ) (e : n ≡ k + j) where
  small_drop : Small (drop k l)
  small_drop = go k l d
    where
      go : (k : ℕ) (l : List ℕ) → Small l → Small (drop k l)
      go zero l d = d
      go (suc k) [] d = d
      go (suc k) (x ∷ l) d = go k l d.1

  parts : pack n l ≡ pack k l * 256 ^ j + pack j (drop k l)
  parts = ap (λ m. pack m l) e ∙ pack_split k j l

  pub high_digits : pack n l / 256 ^ j ≡ pack k l
  high_digits = ap (λ m. m / 256 ^ j) parts ∙ digits_div (pack k l) (pack_lt j (drop k l) small_drop)

  pub low_digits : pack n l % 256 ^ j ≡ pack j (drop k l)
  low_digits = ap (λ m. m % 256 ^ j) parts ∙ digits_mod (pack k l) (pack_lt j (drop k l) small_drop)

first_digit : (k : ℕ) (l : List ℕ) → pack 1 (drop k l) ≡ get_or l k 0
first_digit zero [] = refl
first_digit zero (x ∷ []) = omega arith
first_digit zero (x ∷ y ∷ l) = omega arith
first_digit (suc k) [] = refl
first_digit (suc k) (x ∷ l) = first_digit k l

pub digit : (l : List ℕ) → Small l → (n k j : ℕ) → n ≡ k + 1 + j → pack n l / 256 ^ j % 256 ≡ get_or l k 0
digit l d n k j e = ap (λ m. m % 256) (high_digits l d n (k + 1) j e) ∙ low_digits l d (k + 1) k 1 refl ∙ first_digit k l

-- ---- numbers compared part by part
data Tri (k j : ℕ) : Type 0 where
  less : k < j → Tri k j
  equal : k ≡ j → Tri k j
  more : j < k → Tri k j

tri : (k j : ℕ) → Tri k j
tri k j = go (ltb k j) refl (ltb j k) refl
  where
    go : (b : Bool) → ltb k j ≡ b → (c : Bool) → ltb j k ≡ c → Tri k j
    go true e c f = less (ltb-true k j e)
    go false e true f = more (ltb-true j k f)
    go false e false f = let x = ltb-false k j e in let y = ltb-false j k f in equal (omega arith)

-- the high parts decide, or else the low ones
module _ (x y b : ℕ) {r s : ℕ} (hr : r < b) (hs : s < b) where
  pub parts_lt : ltb (x * b + r) (y * b + s) ≡ lex (ltb x y) (ltb y x) (ltb r s)
  parts_lt = go (tri x y)
    where
      go : Tri x y → ltb (x * b + r) (y * b + s) ≡ lex (ltb x y) (ltb y x) (ltb r s)
      go (less h) = let d = digits_lt {q = x} {m = y} {r = r} {c = b} h hr in lt-ltb (x * b + r) (y * b + s) (omega arith) ∙ sym (rw (lt-ltb x y h))
      go (more h) = let d = digits_lt {q = y} {m = x} {r = s} {c = b} h hs in
          le-ltb (x * b + r) (y * b + s) (omega arith) ∙ sym (rw (le-ltb x y (omega arith), lt-ltb y x h))
      go (equal h) = ap (λ z. ltb (z * b + r) (y * b + s)) h ∙ low (tri r s) ∙ sym (rw (le-ltb x y (omega arith), le-ltb y x (omega arith)))
        where
          low : Tri r s → ltb (y * b + r) (y * b + s) ≡ ltb r s
          low (less g) = lt-ltb (y * b + r) (y * b + s) (omega arith) ∙ sym (lt-ltb r s g)
          low (equal g) = le-ltb (y * b + r) (y * b + s) (omega arith) ∙ sym (le-ltb r s (omega arith))
          low (more g) = le-ltb (y * b + r) (y * b + s) (omega arith) ∙ sym (le-ltb r s (omega arith))

  pub parts_eq : eqb (x * b + r) (y * b + s) ≡ pick (eqb x y) (eqb r s) false
  parts_eq = go (eqb x y) refl (eqb r s) refl
    where
      go : (t : Bool) → eqb x y ≡ t → (u : Bool) → eqb r s ≡ u → eqb (x * b + r) (y * b + s) ≡ pick (eqb x y) (eqb r s) false
      go true e true f = eq-eqb (x * b + r) (y * b + s) (ap₂ (λ m n. m * b + n) (eqb-true x y e) (eqb-true r s f)) ∙ sym (rw (e, f))
      go true e false f = ne_eqb (x * b + r) (y * b + s) (λ h. eqb-false r s f (sym (digits_mod x hr) ∙ ap (λ m. m % b) h ∙ digits_mod y hs)) ∙ sym (rw (e, f))
      go false e u f = ne_eqb (x * b + r) (y * b + s) (λ h. eqb-false x y e (sym (digits_div x hr) ∙ ap (λ m. m / b) h ∙ digits_div y hs)) ∙ sym (rw e)

-- ---- addresses compared by their numbers
eqb_sym : (x y : ℕ) → eqb x y ≡ eqb y x
eqb_sym x y = go (eqb x y) refl
  where
    go : (b : Bool) → eqb x y ≡ b → eqb x y ≡ eqb y x
    go true e = e ∙ sym (eq-eqb y x (sym (eqb-true x y e)))
    go false e = e ∙ sym (ne_eqb y x (λ h. eqb-false x y e (sym h)))

pub list_lt : (n : ℕ) (p q : Address) → Small p → Small q → length p ≡ length q → length p ≤ n → ltb (pack n p) (pack n q) ≡ lt_list ltb p q
list_lt n [] [] d c e h = refl
list_lt n [] (y ∷ q) d c e h = absurd (omega arith)
list_lt n (x ∷ p) [] d c e h = absurd (omega arith)
list_lt zero (x ∷ p) (y ∷ q) d c e h = absurd (omega arith)
list_lt (suc n) (x ∷ p) (y ∷ q) d c e h =
    parts_lt x y (256 ^ n) (pack_lt n p d.1) (pack_lt n q c.1) ∙ ap (lex (ltb x y) (ltb y x)) (list_lt n p q d.1 c.1 (omega arith) (omega arith))

-- image order: the length is the first digit
pub key_lt : (n : ℕ) (p q : Address) → Small p → Small q → length p ≤ n → length q ≤ n → ltb (pack (suc n) (length p ∷ p)) (pack (suc n) (length q ∷ q)) ≡ before p q
key_lt n p q d c h g = parts_lt (length p) (length q) (256 ^ n) (pack_lt n p d) (pack_lt n q c) ∙ go (tri (length p) (length q))
  where
    go : Tri (length p) (length q) → lex (ltb (length p) (length q)) (ltb (length q) (length p)) (ltb (pack n p) (pack n q)) ≡ before p q
    go (less a) = rw (lt-ltb (length p) (length q) a)
    go (more a) = rw (le-ltb (length p) (length q) (omega arith), lt-ltb (length q) (length p) a)
    go (equal a) = ap (lex (ltb (length p) (length q)) (ltb (length q) (length p))) (list_lt n p q d c a h)

-- q's steps are not 0, so that an address that lacks one differs
pub under_eq : (q p : Address) (n : ℕ) → Small q → Small p → T (steps_good q) → length q ≡ n → eqb (pack n p) (pack n q) ≡ under q p
under_eq [] p n c d g e = ap (λ k. eqb (pack k p) 0) (sym e) ∙ go p
  where
    go : (p : Address) → eqb (pack 0 p) 0 ≡ true
    go [] = refl
    go (x ∷ p) = refl
under_eq (x ∷ q) p zero c d g e = absurd (omega arith)
under_eq (x ∷ q) [] (suc n) c d g e =
    let one = leb→le 1 x (both (leb 1 x) (leb x 32) (both (leb 1 x && leb x 32) (steps_good q) g).0).0 in
    let m = mul-le-mul_right (256 ^ n) one in
    let w = power n in
    ne_eqb 0 (x * 256 ^ n + pack n q) (λ h. omega arith)
under_eq (x ∷ q) (y ∷ p) (suc n) c d g e =
    parts_eq y x (256 ^ n) (pack_lt n p d.1) (pack_lt n q c.1)
    ∙ ap₂ (λ t u. pick t u false) (eqb_sym y x) (under_eq q p n c.1 d.1 (both (leb 1 x && leb x 32) (steps_good q) g).1 (omega arith))

pub beside_eq : (q p : Address) (n : ℕ) → Small q → Small p → length q ≡ suc n → length q ≤ length p → eqb (pack n p) (pack n q) ≡ beside q p
beside_eq [] p n c d e h = absurd (omega arith)
beside_eq (x ∷ []) [] n c d e h = absurd (omega arith)
beside_eq (x ∷ []) (y ∷ p) n c d e h = ap (λ k. eqb (pack k (y ∷ p)) (pack k (x ∷ []))) z
  where
    z : n ≡ 0
    z = omega arith
beside_eq (x ∷ x' ∷ q) [] n c d e h = absurd (omega arith)
beside_eq (x ∷ x' ∷ q) (y ∷ p) zero c d e h = absurd (omega arith)
beside_eq (x ∷ x' ∷ q) (y ∷ p) (suc n) c d e h =
    parts_eq y x (256 ^ n) (pack_lt n p d.1) (pack_lt n (x' ∷ q) c.1)
    ∙ ap₂ (λ t u. pick t u false) (eqb_sym y x) (beside_eq (x' ∷ q) p n c.1 d.1 (omega arith) (omega arith))

-- ---- the step k of p is changed
pub last_pack : (f : ℕ → ℕ → ℕ) (q p : Address) (n k j : ℕ) → beside q p ≡ true → length q ≡ suc k → n ≡ suc k + j
    → pack n (at_last f q p) + get_or p k 0 * 256 ^ j ≡ pack n p + f (get_or q k 0) (get_or p k 0) * 256 ^ j
last_pack f [] p n k j b e h = no (sym b)
last_pack f (x ∷ []) [] n k j b e h = no (sym b)
last_pack f (x ∷ []) (y ∷ p) zero k j b e h = absurd (omega arith)
last_pack f (x ∷ []) (y ∷ p) (suc n) zero j b e h = let z : n ≡ j = omega arith in let w : 256 ^ n ≡ 256 ^ j = ap (λ k. 256 ^ k) z in
    let u : y * 256 ^ n ≡ y * 256 ^ j = ap (λ k. y * k) w in
    let v : f x y * 256 ^ n ≡ f x y * 256 ^ j = ap (λ k. f x y * k) w in omega arith
last_pack f (x ∷ []) (y ∷ p) (suc n) (suc k) j b e h = absurd (omega arith)
last_pack f (x ∷ x' ∷ q) [] n k j b e h = no (sym b)
last_pack f (x ∷ x' ∷ q) (y ∷ p) zero k j b e h = absurd (omega arith)
last_pack f (x ∷ x' ∷ q) (y ∷ p) (suc n) zero j b e h = absurd (omega arith)
last_pack f (x ∷ x' ∷ q) (y ∷ p) (suc n) (suc k) j b e h =
    let w = pick_true (eqb x y) (beside (x' ∷ q) p) b in
    let ih = last_pack f (x' ∷ q) p n k j w.1 (omega arith) (omega arith) in rw w.0 (omega arith)

-- ---- the digits of a number
pub digits_pack : (l : List ℕ) (n j m : ℕ) → Small l → length l ≡ n → n ≤ j → digits n j (m * 256 ^ j + pack j l) ≡ l
digits_pack [] zero j m d e h = refl
digits_pack [] (suc n) j m d e h = absurd (omega arith)
digits_pack (x ∷ l) zero j m d e h = absurd (omega arith)
digits_pack (x ∷ l) (suc n) zero m d e h = absurd (omega arith)
digits_pack (x ∷ l) (suc n) (suc j) m d e h =
    let s : m * 256 ^ suc j + (x * 256 ^ j + pack j l) ≡ (m * 256 + x) * 256 ^ j + pack j l =
    let a = pow-suc 256 j in
    let b : m * 256 ^ suc j ≡ m * (256 * 256 ^ j) = ap (λ z. m * z) (omega arith) in
    let c = mul_assoc m 256 (256 ^ j) in
    let f = add-mul (m * 256) x (256 ^ j) in omega arith in
    ap₂ (λ y r. y ∷ r)
    (ap (λ z. z / 256 ^ j % 256) s ∙ ap (λ z. z % 256) (digits_div (m * 256 + x) (pack_lt j l d.1)) ∙ digits_mod m d.0)
    (ap (digits n j) s ∙ digits_pack l n j (m * 256 + x) d.1 (omega arith) (omega arith))
