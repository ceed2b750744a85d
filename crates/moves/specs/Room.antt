-- What the changing functions ask of their tables: room, and that what is put in is not there yet.
use Rattle.std.specs.Prelude.{◌≡◌, ◌&&◌, List, [], ℕ, ◌+◌, ◌≤◌, T, eqb, length}
use Rattle.std.proofs.Math.Option.{Option, none, some}
use Rattle.laws.specs.Slots.{pick}
use Rattle.laws.specs.Sorted.{◌∈◌}
use Rattle.path.specs.Address.{Address, same}
use Rattle.model.specs.Things.{Attribute, Permission, Row}
use Rattle.model.specs.Moves.{attribute_in, grant_row}

-- the branch is not too deep below q
abbrev pub Shallow : {P : Type 0} → Address → List (Row P) → Type 0
Shallow {P} q l = (r : Row P) → r ∈ l → length q + length r.0 ≤ 6

-- not that node's row (another owner's may stand at its path), no attribute of that path and name, not that permission
abbrev pub FreshNode : Row ℕ → List (Row ℕ) → Type 0
FreshNode a l = a ∈ l → ⊥

abbrev pub FreshAttribute : Row Attribute → List (Row Attribute) → Type 0
FreshAttribute a l = attribute_in a.0 a.1.name l ≡ none

abbrev pub FreshPermission : Row (ℕ × Permission) → List (Row (ℕ × Permission)) → Type 0
FreshPermission a l = a ∈ l → ⊥

-- one attribute for a name
abbrev pub OneAttribute : List (Row Attribute) → Type 0
OneAttribute l = (p : Address) (a b : Attribute) → (p, a) ∈ l → (p, b) ∈ l → a.name ≡ b.name → a ≡ b

-- permissions for one object alone, and none for an object
abbrev pub grant_in : Row (ℕ × Permission) → Permission
grant_in r = r.1.1

-- the same permission for the name at p
abbrev pub renamed : Address → ℕ → Row (ℕ × Permission) → Row (ℕ × Permission)
renamed p n r = grant_row p n (grant_in r)

-- the permission with the empty path, if it is for the object of that name at p
abbrev pub held_grant : Address → ℕ → Row (ℕ × Permission) → Option (Row (ℕ × Permission))
held_grant p n r = pick (same r.0 p && eqb r.1.0 n) (some (grant_row [] n (grant_in r))) none

abbrev pub OneObject : List (Row (ℕ × Permission)) → Type 0
OneObject l = (r s : Row (ℕ × Permission)) → r ∈ l → s ∈ l → (r.0 ≡ s.0) × (r.1.0 ≡ s.1.0)

abbrev pub NoObject : Address → ℕ → List (Row (ℕ × Permission)) → Type 0
NoObject p n l = (r : Row (ℕ × Permission)) → r ∈ l → T (same r.0 p && eqb r.1.0 n) → ⊥
