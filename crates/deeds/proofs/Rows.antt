-- A row that is put in at a valid path is a row. Assumes nothing.
use mathlib.Core.Path.{sym}
use Prim.Native.Nat.{ℕ}
use Rattle.path.specs.declared.Path.{Path}
use Rattle.path.specs.View.{steps, PathSound}
use Rattle.path.proofs.Structs.{facts, path_valid}
use Rattle.model.specs.Moves.{grant_row}
use Rattle.tables.specs.declared.Value.{Value}
use Rattle.tables.specs.declared.Grant.{Grant}
use Rattle.tables.specs.View.{view_value, view_grant, AttributeSound, PermissionSound}
use Rattle.tables.proofs.Rows.{value_there}

module _ {p : Path} (h : PathSound p) (name : ℕ) where
  pub attribute_row : (owner : ℕ) (v : Value) → AttributeSound (record { path = p; name = name; owner = owner; value = v })
  attribute_row owner v =
      let is = (facts p h).is in
      let there = sym (value_there v) in
      record {
        model = (steps p, record { name = name; owner = owner; value = view_value v });
        same = λ i. record { path = is i; name = name; owner = owner; value = there i };
        fits = path_valid h;
      }

  pub permission_row : (g : Grant) → PermissionSound (record { path = p; name = name; grant = g })
  permission_row g =
      let is = (facts p h).is in
      record { model = grant_row (steps p) name (view_grant g); same = λ i. record { path = is i; name = name; grant = g }; fits = path_valid h }
