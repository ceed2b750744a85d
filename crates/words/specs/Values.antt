-- Values as they are written.
use Rattle.std.specs.Prelude.{◌&&◌, List, [], ◌∷◌, ℕ, eqb, length, drop, Option, None, Some, option_map}
use Rattle.std.specs.Float.Ieee.{of_bits}
use Rattle.std.specs.Float.{binary32}
use Rattle.laws.specs.Slots.{pick}
use Rattle.model.specs.Things as things
use Rattle.model.specs.Image.{number4}
use Rattle.words.specs.Numbers.{decimal, up_to}
use Rattle.words.specs.Words.{starts}
use Rattle.words.specs.Hex.{all_hex, pairs}

-- "H eight hex digits, the 32 bits of the reading"
abbrev pub bits_in : List ℕ → Option ℕ
bits_in s = pick (eqb (length s) 8 && all_hex s) (Some (number4 0 (pairs s))) None

-- `whole:` and `reading:`
abbrev pub whole_word : List ℕ
whole_word = 119 ∷ 104 ∷ 111 ∷ 108 ∷ 101 ∷ 58 ∷ []

abbrev pub reading_word : List ℕ
reading_word = 114 ∷ 101 ∷ 97 ∷ 100 ∷ 105 ∷ 110 ∷ 103 ∷ 58 ∷ []

abbrev pub value_in : List ℕ → Option things.Value
value_in s =
    pick (starts whole_word s) (option_map things.whole (up_to 4294967295 (decimal (drop 6 s))))
    (pick (starts reading_word s) (option_map (λ n. things.reading (of_bits binary32 n)) (bits_in (drop 8 s))) None)
