-- Bytes in hex.
use Rattle.std.specs.Prelude.{Bool, ◌&&◌, ◌||◌, List, [], ◌∷◌, ℕ, ◌+◌, ◌-◌, ◌*◌, ◌%◌, eqb, leb, length, get_or, Option, None, Some}
use Rattle.std.specs.List.{list_all}
use Rattle.std.specs.Str.{bytes_eq}
use Rattle.laws.specs.Slots.{pick, put}

-- `0` to `9`, `a` to `f`, `A` to `F`
abbrev pub is_hex : ℕ → Bool
is_hex b = (leb 48 b && leb b 57) || ((leb 97 b && leb b 102) || (leb 65 b && leb b 70))

-- what a digit stands for
abbrev pub nibble : ℕ → ℕ
nibble b = pick (leb b 57) (b - 48) (pick (leb b 70) (b - 55) (b - 87))

abbrev pub all_hex : List ℕ → Bool
all_hex s = list_all is_hex s

abbrev pub pair_at : ℕ → List ℕ → ℕ
pair_at at s = nibble (get_or s at 0) * 16 + nibble (get_or s (at + 1) 0)

-- two digits to a byte
abbrev pub pairs : List ℕ → List ℕ
pairs [] = []
pairs (a ∷ []) = []
pairs (a ∷ b ∷ l) = (nibble a * 16 + nibble b) ∷ pairs l

-- "hex digits, two to a byte, lower or upper case; `-` for no bytes"
abbrev pub hex_in : List ℕ → Option (List ℕ)
hex_in s = pick (bytes_eq s (45 ∷ [])) (Some []) (pick (eqb (length s % 2) 0 && all_hex s) (Some (pairs s)) None)

-- bytes for which there is room
abbrev pub within : ℕ → Option (List ℕ) → Option (List ℕ)
within room None = None
within room (Some l) = pick (leb (length l) room) (Some l) None

-- the buffer with the bytes at its front, where there are any
abbrev pub onto : List ℕ → Option (List ℕ) → List ℕ
onto out None = out
onto out (Some l) = put out 0 l
