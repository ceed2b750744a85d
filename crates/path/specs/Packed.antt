-- An address as one number: the length and six steps, a byte each, the unused ones 0. So the order of numbers is image order.
use Rattle.std.specs.Prelude.{Bool, ◌&&◌, List, [], ◌∷◌, ℕ, zero, suc, ◌+◌, ◌-◌, ◌*◌, ◌/◌, ◌%◌, ◌^◌, eqb, leb, ltb, length}
use Rattle.std.proofs.Math.Pow.{are_bytes}
use Rattle.laws.specs.Slots.{pick}
use Rattle.path.specs.Address.{Address}

-- the number whose digits, to the base 256, are the first n of l; one that l lacks is 0
abbrev pub pack : ℕ → List ℕ → ℕ
pack n [] = 0
pack zero (x ∷ l) = 0
pack (suc n) (x ∷ l) = x * 256 ^ n + pack n l

-- the first n of the last j digits of k
abbrev pub digits : ℕ → ℕ → ℕ → List ℕ
digits zero j k = []
digits (suc n) zero k = []
digits (suc n) (suc j) k = k / 256 ^ j % 256 ∷ digits n j k

-- ---- an address that seven bytes cannot say has a number from 2^64 on, so that no path of the code is it: any that differ will do
abbrev pub code : List ℕ → ℕ
code [] = 0
code (zero ∷ l) = 2 * code l + 1
code (suc x ∷ l) = 2 * code (x ∷ l)

-- the first step one higher
abbrev pub raise : List ℕ → List ℕ
raise [] = []
raise (x ∷ l) = suc x ∷ l

-- the address whose code n is, found in f turns at most
abbrev pub decode : ℕ → ℕ → List ℕ
decode zero n = []
decode (suc f) n = pick (eqb n 0) [] (pick (eqb (n % 2) 0) (raise (decode f (n / 2))) (0 ∷ decode f (n / 2)))

-- ---- there and back
-- at most six steps, each a byte
abbrev pub fits : Address → Bool
fits l = leb (length l) 6 && are_bytes l

-- image bytes 1 to 7, "path length; steps, unused 0", as one big-endian number
unfoldable pub number : Address → ℕ
number l = pick (fits l) (pack 7 (length l ∷ l)) (256 ^ 8 + code l)

unfoldable pub address : ℕ → Address
address k = pick (ltb k (256 ^ 8)) (digits (k / 256 ^ 6) 6 k) (decode (k - 256 ^ 8) (k - 256 ^ 8))
