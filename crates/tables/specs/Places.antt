-- Where a table is searched from: the place of the first row that does not come before a path, or an object (a path and a name).
use Rattle.std.specs.Prelude.{Bool, List, ℕ, ltb}
use Rattle.laws.specs.Order.{lt_pair}
use Rattle.laws.specs.Search.{place}
use Rattle.path.specs.Address.{Address, before}
use Rattle.model.specs.Things.{Row, Attribute, Permission}

-- objects by path, then by name
abbrev pub Object : Type 0
Object = Address × ℕ

abbrev pub before_object : Object → Object → Bool
before_object = lt_pair before ltb

abbrev pub of_attribute : Row Attribute → Object
of_attribute r = (r.0, r.1.name)

abbrev pub of_permission : Row (ℕ × Permission) → Object
of_permission r = (r.0, r.1.0)

abbrev pub place_of : {P : Type 0} → Address → List (Row P) → ℕ
place_of p l = place (λ r. before r.0 p) l

abbrev pub attribute_place : Object → List (Row Attribute) → ℕ
attribute_place o l = place (λ r. before_object (of_attribute r) o) l

abbrev pub permission_place : Object → List (Row (ℕ × Permission)) → ℕ
permission_place o l = place (λ r. before_object (of_permission r) o) l
