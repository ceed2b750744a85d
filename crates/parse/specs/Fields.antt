-- What is asked of the forty bytes of a record, field by field (document 01, "The image").
use Rattle.std.specs.Prelude.{Bool, ◌&&◌, ◌||◌, not, List, ℕ, ◌-◌, eqb, leb, take, drop, get_or, replicate}
use Rattle.std.proofs.Math.Option.{Option, none, some}
use Rattle.std.specs.Int.Signed.{le_z}
use Rattle.std.specs.Float.Ieee.{of_bits}
use Rattle.std.specs.Float.{binary32}
use Rattle.laws.specs.Slots.{pick, same_bytes}
use Rattle.model.specs.Things.{Value, whole, reading, Permission}
use Rattle.model.specs.Refusals.{between, user_good, role_good, finite}
use Rattle.model.specs.Image.{number2, read_permission}

-- "A field that the kind doesn't use is 0": the bytes from one place on, up to another
unfoldable pub zeros : ℕ → ℕ → List ℕ → Bool
zeros from to b = same_bytes (replicate (to - from) 0) (drop from (take to b))

-- name, and all from role on, are not used
abbrev pub node_good : List ℕ → Bool
node_good b = user_good (get_or b 10 0) && (zeros 8 10 b && zeros 11 40 b)

-- the value aside: role, action, user, byte 15 and all behind the value are not used
abbrev pub attribute_good : List ℕ → Bool
attribute_good b = leb 1 (number2 8 b) && (user_good (get_or b 10 0) && (zeros 11 14 b && (zeros 15 16 b && zeros 20 40 b)))

-- the value that a kind and 32 bits are: "A reading must be finite"
abbrev pub value_from : ℕ → ℕ → Option Value
value_from kind n = pick (eqb kind 1) (some (whole n)) (pick (eqb kind 2 && finite (of_bits binary32 n)) (some (reading (of_bits binary32 n))) none)

-- what the width of its fields does not give
abbrev pub grant_good : ℕ → Permission → Bool
grant_good name p =
    role_good p.role && (between 1 4 p.action && (leb p.user 64 && (le_z p.first p.last && (eqb name 0 || not (eqb p.action 2)))))

-- owner, value kind and byte 15 are not used
abbrev pub permission_good : List ℕ → Bool
permission_good b = grant_good (number2 8 b) (read_permission b) && (zeros 10 11 b && zeros 14 16 b)
