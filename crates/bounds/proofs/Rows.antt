-- The rows that a table holds, as a loop over them meets them. Assumes nothing.
use mathlib.Core.Path.{sym, subst}
use mathlib.Core.List.{List}
use Prim.Native.Nat.{ℕ, ◌<◌}
use native.Mathlib.Omega.{arith}
use lib.ListN.{length, take, get_or, length-take}
use lib.Seq.{get_or-take}
use Rattle.laws.specs.Slots.{Is}
use Rattle.laws.proofs.Fill.{Held, held_each}

pub held_row : {S M : Type 0} (of : M → S) (P : M → Type 0) (n : ℕ) (b : S) (rows : List S) (count : ℕ) → Held of P n b rows count
    → (i : ℕ) (d : S) → i < length (take count rows) → Is of P (get_or (take count rows) i d)
held_row of P n b rows count h i d lt =
    let len = length-take count rows in
    let c : i < count = omega arith in
    subst (Is of P) (sym (get_or-take count rows i d c)) (held_each of P n b rows count h i d c)
