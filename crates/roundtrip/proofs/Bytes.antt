-- Numbers big-endian: read back, and the order of numbers is the order of their bytes; byte strings compared part by part. Assumes nothing.
use mathlib.Core.Path.{◌≡◌, refl, sym, ap, subst, subst₂, ◌∙◌}
use mathlib.Core.Logic.{◌⊎◌, inl, inr, ⊎_elim}
use mathlib.Core.Bool.{Bool, false}
use mathlib.Core.List.{List, [], ◌∷◌, ◌++◌, append_assoc}
use Prim.Native.Nat.{ℕ, suc, ◌+◌, ◌-◌, ◌*◌, ◌/◌, ◌%◌, ◌^◌, ◌≤◌, ◌<◌}
use native.Mathlib.Nat.{suc_inj, le-div_iff_mul-le, div-mul-le_self, div-add-mod'}
use native.Mathlib.Omega.{arith}
use lib.IntN.{ℤ, pos, negsuc}
use lib.Signed.{le_z}
use lib.Dec.{T, ltb, leb→le, ltb→lt, lt→ltb, nltb→le, not_T}
use lib.ListN.{length, replicate, length-append}
use mir.Syntax.{w64}
use mir.Val.{SFits, of_z}
use mir.Facts.{and_yes}
use Rattle.laws.specs.Slots.{slots}
use Rattle.laws.specs.Sorted.{StrictOrder}
use Rattle.laws.specs.Order.{lt_list}
use Rattle.laws.proofs.Order.{nat_order, lex2_cases, lex2_left, lex2_right, list_order}
use Rattle.path.specs.Address.{Address, before}
use Rattle.path.proofs.Moves.{Test, holds, fails, test}
use Rattle.model.specs.Things.{lt_time}
use Rattle.model.specs.Refusals.{time_good}
use Rattle.model.specs.Image.{bytes2, bytes4, bytes8}

-- ---- numbers read back
pub two_back : (n : ℕ) → n / 256 * 256 + n % 256 ≡ n
two_back n = omega arith

pub four_back : (n : ℕ) → (n / 65536 / 256 * 256 + n / 65536 % 256) * 65536 + (n % 65536 / 256 * 256 + n % 65536 % 256) ≡ n
four_back n = let e : n / 65536 * 65536 + n % 65536 ≡ n = omega arith in (λ i. two_back (n / 65536) i * 65536 + two_back (n % 65536) i) ∙ e

-- the number of four bytes, as two halves
abbrev pub again4 : ℕ → ℕ
again4 n = (n / 65536 / 256 * 256 + n / 65536 % 256) * 65536 + (n % 65536 / 256 * 256 + n % 65536 % 256)

pub eight_back : (n : ℕ) → again4 (n / 4294967296) * 4294967296 + again4 (n % 4294967296) ≡ n
eight_back n =
    let e : n / 4294967296 * 4294967296 + n % 4294967296 ≡ n = omega arith in
    (λ i. four_back (n / 4294967296) i * 4294967296 + four_back (n % 4294967296) i) ∙ e

-- ---- byte strings
abbrev pub less : List ℕ → List ℕ → Bool
less = lt_list ltb

pub less_order : StrictOrder (lt_list ltb)
less_order = list_order ltb nat_order

-- the first parts decide, if they are as long as each other
append_less : (x y u v : List ℕ) → length x ≡ length y → T (less x y) → T (less (x ++ u) (y ++ v))
append_less [] [] u v e t = absurd t
append_less [] (j ∷ y) u v e t = absurd (omega arith)
append_less (i ∷ x) [] u v e t = absurd (omega arith)
append_less (i ∷ x) (j ∷ y) u v e t =
    ⊎_elim (λ h. lex2_left ltb nat_order i j (less (x ++ u) (y ++ v)) h)
    (λ h. lex2_right ltb nat_order i j (less (x ++ u) (y ++ v)) h.0 (append_less x y u v (suc_inj e) h.1))
    (lex2_cases ltb nat_order i j (less x y) t)

-- the rest decides
pub append_same : (x u v : List ℕ) → T (less u v) → T (less (x ++ u) (x ++ v))
append_same [] u v t = t
append_same (i ∷ x) u v t = lex2_right ltb nat_order i i (less (x ++ u) (x ++ v)) refl (append_same x u v t)

pub part_less : (x y u v : List ℕ) → length x ≡ length y → T (less x y) ⊎ ((x ≡ y) × T (less u v)) → T (less (x ++ u) (y ++ v))
part_less x y u v e (inl t) = append_less x y u v e t
part_less x y u v e (inr w) = subst (λ (z : List ℕ). T (less (x ++ u) (z ++ v))) w.0 (append_same x u v w.1)

-- ---- the order of numbers is the order of their bytes
-- bytes of equal number for all numbers, in the order of the numbers
pub record Digits (f : ℕ → List ℕ) : Type 0 where
  pub wide : (n m : ℕ) → length (f n) ≡ length (f m)
  pub ascend : (n m : ℕ) → n < m → T (less (f n) (f m))

-- the quotient decides, then the remainder
split : (k : ℕ) → 0 < k → (n m : ℕ) → n < m → (n / k < m / k) ⊎ ((n / k ≡ m / k) × (n % k < m % k))
split k p n m h = go (test (ltb (n / k) (m / k)))
  where
    go : Test (ltb (n / k) (m / k)) → (n / k < m / k) ⊎ ((n / k ≡ m / k) × (n % k < m % k))
    go (holds t) = inl (ltb→lt (n / k) (m / k) t)
    go (fails f) =
        let l : m / k ≤ n / k = nltb→le (n / k) (m / k) (not_T (ltb (n / k) (m / k)) f) in
        let u : n / k ≤ m / k = (le-div_iff_mul-le p).1 (omega (arith, div-mul-le_self n k)) in
        let e : n / k ≡ m / k = omega arith in
        let a = div-add-mod' n k in
        let b : n / k * k + m % k ≡ m = ap (λ (q : ℕ). q * k + m % k) e ∙ div-add-mod' m k in
        inr (e, omega arith)

-- a number of twice as many bytes: those of the quotient, then those of the remainder
halves : (k : ℕ) → 0 < k → (f : ℕ → List ℕ) → Digits f → Digits (λ n. f (n / k) ++ f (n % k))
halves k p f d = record { wide = same_width; ascend = λ n m h. part_less (f (n / k)) (f (m / k)) (f (n % k)) (f (m % k)) (d.wide (n / k) (m / k)) (go n m (split k p n m h)) }
  where
    same_width : (n m : ℕ) → length (f (n / k) ++ f (n % k)) ≡ length (f (m / k) ++ f (m % k))
    same_width n m =
        length-append (f (n / k)) (f (n % k)) ∙ (λ i. d.wide (n / k) (m / k) i + d.wide (n % k) (m % k) i) ∙ sym (length-append (f (m / k)) (f (m % k)))

    go : (n m : ℕ) → (n / k < m / k) ⊎ ((n / k ≡ m / k) × (n % k < m % k))
        → T (less (f (n / k)) (f (m / k))) ⊎ ((f (n / k) ≡ f (m / k)) × T (less (f (n % k)) (f (m % k))))
    go n m (inl q) = inl (d.ascend (n / k) (m / k) q)
    go n m (inr q) = inr (ap f q.0, d.ascend (n % k) (m % k) q.1)

one_digits : Digits (λ n. n ∷ [])
one_digits = record { wide = λ n m. refl; ascend = λ n m h. lex2_left ltb nat_order n m false (lt→ltb n m h) }

pub two_digits : Digits bytes2
two_digits = halves 256 (omega arith) (λ n. n ∷ []) one_digits

pub four_digits : Digits bytes4
four_digits = halves 65536 (omega arith) bytes2 two_digits

pub eight_digits : Digits bytes8
eight_digits = halves 4294967296 (omega arith) bytes4 four_digits

-- less digits and then anything, or the same digits and then less
pub digits_less : {f : ℕ → List ℕ} → Digits f → (n m : ℕ) (u v : List ℕ) → T (ltb n m) ⊎ ((n ≡ m) × T (less u v)) → T (less (f n ++ u) (f m ++ v))
digits_less {f} d n m u v (inl t) = part_less (f n) (f m) u v (d.wide n m) (inl (d.ascend n m (ltb→lt n m t)))
digits_less {f} d n m u v (inr w) = part_less (f n) (f m) u v (d.wide n m) (inr (ap f w.0, w.1))

-- ---- "Times are in two's complement"
pub time_fits : (t : ℤ) → T (time_good t) → SFits w64 t
time_fits (pos n) g =
    let h : n ≤ 9223372036854775807 = leb→le n 9223372036854775807 (and_yes (le_z (negsuc 9223372036854775807) (pos n)) (le_z (pos n) (pos 9223372036854775807)) g).1 in
    record { sfits = omega arith }
time_fits (negsuc n) g =
    let h : n ≤ 9223372036854775807 = leb→le n 9223372036854775807 (and_yes (le_z (negsuc 9223372036854775807) (negsuc n)) (le_z (negsuc n) (pos 9223372036854775807)) g).0 in
    record { sfits = omega arith }

pub time_less : (t u : ℤ) → SFits w64 t → SFits w64 u → T (lt_time t u) → T (ltb (of_z w64 t) (of_z w64 u))
time_less (pos a) (pos b) f g h = h
time_less (pos a) (negsuc b) f g h = let x = f.sfits in let y = g.sfits in lt→ltb a (2 ^ 64 - suc b) (omega arith)
time_less (negsuc a) (pos b) f g h = absurd h
time_less (negsuc a) (negsuc b) f g h = let x = f.sfits in let k : b < a = ltb→lt b a h in lt→ltb (2 ^ 64 - suc a) (2 ^ 64 - suc b) (omega arith)

-- ---- a path, in a length and six bytes
-- rows by their paths and then by the rest: so are their records
pub path_less : (kind : ℕ) (p q : Address) (x y : List ℕ) → T (before p q) ⊎ ((p ≡ q) × T (less x y))
    → T (less (kind ∷ length p ∷ (slots 6 0 p ++ x)) (kind ∷ length q ∷ (slots 6 0 q ++ y)))
path_less kind p q x y h = append_same (kind ∷ []) (length p ∷ (slots 6 0 p ++ x)) (length q ∷ (slots 6 0 q ++ y)) (go h)
  where
    steps : length p ≡ length q → T (less p q) → T (less (slots 6 0 p ++ x) (slots 6 0 q ++ y))
    steps e t =
        subst₂ (λ (a b : List ℕ). T (less a b)) (sym (append_assoc p (replicate (6 - length p) 0) x)) (sym (append_assoc q (replicate (6 - length q) 0) y))
        (append_less p q (replicate (6 - length p) 0 ++ x) (replicate (6 - length q) 0 ++ y) e t)

    go : T (before p q) ⊎ ((p ≡ q) × T (less x y)) → T (less (length p ∷ (slots 6 0 p ++ x)) (length q ∷ (slots 6 0 q ++ y)))
    go (inl b) = ⊎_elim (λ k. lex2_left ltb nat_order (length p) (length q) (less (slots 6 0 p ++ x) (slots 6 0 q ++ y)) k)
        (λ k. lex2_right ltb nat_order (length p) (length q) (less (slots 6 0 p ++ x) (slots 6 0 q ++ y)) k.0 (steps k.0 k.1))
        (lex2_cases ltb nat_order (length p) (length q) (less p q) b)
    go (inr w) = subst (λ (r : Address). T (less (length p ∷ (slots 6 0 p ++ x)) (length r ∷ (slots 6 0 r ++ y)))) w.0
        (append_same (length p ∷ slots 6 0 p) x y w.1)
