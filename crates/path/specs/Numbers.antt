-- Addresses as numbers: examples, by computation.
use Rattle.std.specs.Prelude.{◌≡◌, refl, true, false, [], ◌∷◌, ◌+◌, ◌*◌, ◌^◌, ltb}
use Rattle.path.specs.Packed.{number, address}

-- 2.1.4 has three steps; the unused ones are 0
pub example_number : number (2 ∷ 1 ∷ 4 ∷ []) ≡ 3 * 256 ^ 6 + 2 * 256 ^ 5 + 1 * 256 ^ 4 + 4 * 256 ^ 3
unfolding number
example_number = refl

pub example_root : number [] ≡ 0
unfolding number
example_root = refl

-- the length comes first: 2 before 1.1
pub example_length_first : ltb (number (2 ∷ [])) (number (1 ∷ 1 ∷ [])) ≡ true
unfolding number
example_length_first = refl

-- steps compare as numbers: 1.2 before 1.10
pub example_as_numbers : ltb (number (1 ∷ 2 ∷ [])) (number (1 ∷ 10 ∷ [])) ≡ true
unfolding number
example_as_numbers = refl

-- a step that has become 33 carries nothing into the one before it
pub example_no_carry : number (1 ∷ 33 ∷ []) ≡ number (1 ∷ 32 ∷ []) + 256 ^ 4
unfolding number
example_no_carry = refl

-- zero is no step: 1.0 is longer than 1
pub example_zero : number (1 ∷ 0 ∷ []) ≡ number (1 ∷ []) + 256 ^ 6
unfolding number
example_zero = refl

pub example_back : address (6 * 256 ^ 6 + 32 * (256 ^ 5 + 256 ^ 4 + 256 ^ 3 + 256 ^ 2 + 256 + 1)) ≡ 32 ∷ 32 ∷ 32 ∷ 32 ∷ 32 ∷ 32 ∷ []
unfolding address
example_back = refl

-- what seven bytes cannot say is no number of 64 bits
pub example_wide : ltb (number (256 ∷ [])) (256 ^ 8) ≡ false
unfolding number
example_wide = refl

pub example_seven : ltb (number (1 ∷ 1 ∷ 1 ∷ 1 ∷ 1 ∷ 1 ∷ 1 ∷ [])) (256 ^ 8) ≡ false
unfolding number
example_seven = refl
