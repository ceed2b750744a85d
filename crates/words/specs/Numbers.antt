-- Numbers and times as they are written.
use Rattle.std.specs.Prelude.{Bool, ◌&&◌, List, [], ◌∷◌, ℕ, zero, suc, ◌+◌, ◌-◌, ◌*◌, eqb, leb, ℤ, pos, negsuc, Option, None, Some, option_map}
use Rattle.laws.specs.Slots.{pick}

-- ---- decimal numbers

-- `0` to `9`
abbrev pub is_digit : ℕ → Bool
is_digit b = leb 48 b && leb b 57

-- the number whose first digits make k and whose others are l
abbrev pub scan : ℕ → List ℕ → Option ℕ
scan k [] = Some k
scan k (b ∷ l) = pick (is_digit b) (scan (k * 10 + (b - 48)) l) None

-- the number that a word is: one digit or more, and nothing else
abbrev pub decimal : List ℕ → Option ℕ
decimal [] = None
decimal (b ∷ l) = scan 0 (b ∷ l)

-- a number that is at most max
abbrev pub up_to : ℕ → Option ℕ → Option ℕ
up_to max None = None
up_to max (Some n) = pick (leb n max) (Some n) None

-- ---- times

-- the number below 0 of that size
abbrev pub minus : ℕ → ℤ
minus zero = pos 0
minus (suc n) = negsuc n

-- a minus before a time below 0; signed 64 bits
abbrev pub time_in : List ℕ → Option ℤ
time_in [] = None
time_in (b ∷ l) = pick (eqb b 45) (option_map minus (up_to 9223372036854775808 (decimal l))) (option_map pos (up_to 9223372036854775807 (decimal (b ∷ l))))
