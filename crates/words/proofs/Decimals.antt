-- A number read digit by digit: one digit more, the first that is none, and what is too large stays too large. Assumes nothing.
use mathlib.Core.Path.{◌≡◌, refl, sym, ap, ◌∙◌}
use mathlib.Core.Bool.{Bool, true, false}
use mathlib.Core.List.{List, [], ◌∷◌}
use Prim.Native.Nat.{ℕ, ◌+◌, ◌-◌, ◌*◌, ◌<◌}
use native.Mathlib.Omega.{arith}
use native.Mathlib.Numerals.{add-one}
use lib.Dec.{leb}
use lib.ListN.{length, drop, get_or}
use lib.Seq.{drop-cons}
use borrow.Author.Tests.{lt-leb, leb-false}
use Rattle.std.specs.Prelude.{None, Some}
use Rattle.laws.specs.Slots.{pick}
use Rattle.words.specs.Numbers.{is_digit, scan, decimal, up_to}

-- ---- a number that is at most max
unpicked : (t : Bool) (k : ℕ) → pick t (Some k) None ≡ None → t ≡ false
unpicked true k e = absurd (cc)
unpicked false k e = refl

-- ---- too large stays too large
over_on : (max k : ℕ) (t : Bool) (l : List ℕ) → up_to max (scan k l) ≡ None → up_to max (pick t (scan k l) None) ≡ None
over_on max k true l e = e
over_on max k false l e = refl

over : (max k : ℕ) (l : List ℕ) → max < k → up_to max (scan k l) ≡ None
over max k [] h = ap (λ t. pick t (Some k) None) (lt-leb k max h)
over max k (b ∷ l) h = over_on max (k * 10 + (b - 48)) (is_digit b) l (over max (k * 10 + (b - 48)) l (omega arith))

-- ---- one byte more
stop_at : (max k : ℕ) (t : Bool) (l : List ℕ) → up_to max (pick t (Some k) None) ≡ None → up_to max (pick t (scan k l) None) ≡ None
stop_at max k true l e = over max k l (leb-false k max (unpicked (leb k max) k e))
stop_at max k false l e = refl

pub next_byte : (s : List ℕ) (i : ℕ) → i < length s → drop i s ≡ get_or s i 0 ∷ drop (i + 1) s
next_byte s i h = rw (add-one, drop-cons s i 0)

-- ---- the loop over a word: i bytes make n, and the others are left
pub loop_stop : (s : List ℕ) (max i n : ℕ) → up_to max (decimal s) ≡ up_to max (scan n (drop i s)) → i < length s → None ≡ up_to max (scan n (get_or s i 0 ∷ [])) → None ≡ up_to max (decimal s)
loop_stop s max i n e h r =
    sym (e ∙ ap (λ l. up_to max (scan n l)) (next_byte s i h) ∙ stop_at max (n * 10 + (get_or s i 0 - 48)) (is_digit (get_or s i 0)) (drop (i + 1) s) (sym r))
