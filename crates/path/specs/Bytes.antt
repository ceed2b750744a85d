-- An address as seven bytes: bytes 1 to 7 of a record of the image (document 01, "The image").
use Rattle.std.specs.Prelude.{Bool, ◌&&◌, ◌||◌, List, ◌∷◌, ℕ, eqb, leb, ltb, length, take, drop, get_or}
use Rattle.std.proofs.Math.Option.{Option, none, some}
use Rattle.laws.specs.Slots.{pick, slots, same_bytes}
use Rattle.path.specs.Address.{Address, valid}

-- "path length; steps, unused 0"
abbrev pub step_bytes : Address → List ℕ
step_bytes p = length p ∷ slots 6 0 p

-- the address that seven bytes are: none where they are no path, or an unused step is not 0
abbrev pub read_steps : List ℕ → Option Address
read_steps b =
    pick (valid (take (get_or b 0 0) (drop 1 b)) && same_bytes (step_bytes (take (get_or b 0 0) (drop 1 b))) b) (some (take (get_or b 0 0) (drop 1 b))) none

-- x as step i, counted from 0, of an address of n steps: a used one is 1 to 32, an unused one 0
abbrev pub step_fits : ℕ → ℕ → ℕ → Bool
step_fits i n x = (ltb i n && (leb 1 x && leb x 32)) || (leb n i && eqb x 0)
