-- The row that is stored is the row that was read, at its new path or for another object. Assumes nothing.
use mathlib.Core.Path.{◌≡◌}
use Prim.Native.Nat.{ℕ}
use Rattle.path.specs.Address.{Address}
use Rattle.path.specs.View.{path_of}
use Rattle.path.specs.declared.Path.{Path}
use Rattle.tables.specs.declared.Permission.{Permission}
use Rattle.tables.specs.View.{view_grant, view_permission, permission_of}

pub permission_at_lem : (a : Permission) {p : Path} (l : Address) → p ≡ path_of l → ◌≡◌ {A = Permission} (record { path = p; name = a.name; grant = a.grant }) (permission_of (l, (view_permission a).1))
permission_at_lem a l e = λ i. record { path = e i; name = a.name; grant = a.grant }

pub granted_at : (a : Permission) (n : ℕ) {p : Path} (l : Address) → p ≡ path_of l → ◌≡◌ {A = Permission} (record { path = p; name = n; grant = a.grant }) (permission_of (l, (n, view_grant a.grant)))
granted_at a n l e = λ i. record { path = e i; name = n; grant = a.grant }
