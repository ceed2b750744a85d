-- The row that is stored is the row that was read, at its new path or with its new value. Assumes nothing.
use mathlib.Core.Path.{◌≡◌, sym}
use Rattle.path.specs.Address.{Address}
use Rattle.path.specs.View.{steps, path_of}
use Rattle.path.specs.declared.Path.{Path}
use Rattle.path.proofs.Structs.{facts}
use Rattle.tables.specs.declared.Value.{Value}
use Rattle.tables.specs.declared.Attribute.{Attribute}
use Rattle.tables.specs.View.{view_value, view_attribute, attribute_of, AttributeSound}
use Rattle.tables.proofs.Rows.{value_there, attribute_path}

pub attribute_at_lem : (a : Attribute) {p : Path} (l : Address) → p ≡ path_of l
    → ◌≡◌ {A = Attribute} (record { path = p; name = a.name; owner = a.owner; value = a.value }) (attribute_of (l, (view_attribute a).1))
attribute_at_lem a l e = let v = sym (value_there a.value) in λ i. record { path = e i; name = a.name; owner = a.owner; value = v i }

pub revalued_at : (a : Attribute) (v : Value) → AttributeSound a
    → ◌≡◌ {A = Attribute} (record { path = a.path; name = a.name; owner = a.owner; value = v }) (attribute_of (steps a.path, record { name = a.name; owner = a.owner; value = view_value v }))
revalued_at a v h =
    let e = (facts a.path (attribute_path h)).is in let w = sym (value_there v) in λ i. record { path = e i; name = a.name; owner = a.owner; value = w i }
