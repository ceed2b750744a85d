-- The structs of this crate and addresses: what a struct stands for, and the one struct that stands for an address.
use Rattle.std.specs.Prelude.{[], ◌∷◌, ◌++◌, ℕ, ◌-◌, ◌/◌, ◌%◌, ◌^◌, T, take, replicate, Option, Some, None}
use Rattle.std.proofs.Math.Option as math
use Rattle.std.proofs.Math.Option.{none, some}
use Rattle.laws.specs.Slots.{Is}
use Rattle.path.specs.Address.{Address, valid}
use Rattle.path.specs.Packed.{number, address}
use Rattle.path.specs.declared.Path.{Path}
use Rattle.path.specs.declared.RawPath.{RawPath}

-- the address that the number is
abbrev pub steps : Path → Address
steps p = address p.key

-- what a host's bytes ask for: as many steps as the length says, 0 where the array has no more
abbrev pub asked : RawPath → Address
asked p = take p.len (p.steps ++ replicate p.len 0)

-- the struct that stands for an address
abbrev pub path_of : Address → Path
path_of l = record { key = number l }

abbrev pub PathSound : Path → Type 0
PathSound p = Is path_of (λ l. T (valid l)) p

-- an address as a path, or none
abbrev pub moved_of : math.Option Address → Option Path
moved_of none = None
moved_of (some p) = Some (path_of p)

-- a path's number: its order is the image order
abbrev pub key_of : Path → ℕ
key_of p = p.key

-- its digits: the length, then the steps
abbrev pub digit_of : ℕ → Path → ℕ
digit_of n p = p.key / 256 ^ (6 - n) % 256

-- its bytes as a host has them
abbrev pub raw_of : Path → RawPath
raw_of p =
    record {
      len = digit_of 0 p;
      steps = digit_of 1 p ∷ digit_of 2 p ∷ digit_of 3 p ∷ digit_of 4 p ∷ digit_of 5 p ∷ digit_of 6 p ∷ [];
    }
