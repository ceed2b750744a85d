-- The types of this crate and the model's records: a record is a row of one of the tables.
use Rattle.std.proofs.Math.Option as math
use Rattle.std.proofs.Math.Option.{none, some}
use Rattle.std.specs.Prelude.{List, ℕ, get_or, Option, Some, None}
use Rattle.laws.specs.Slots.{pick}
use Rattle.path.specs.declared.Path.{Path}
use Rattle.model.specs.Things as things
use Rattle.model.specs.Image as images
use Rattle.tables.specs.View.{node_row, node_of, attribute_of, permission_of, value_of, grant_of}
use Rattle.tables.specs.declared.Value.{Value}
use Rattle.parse.specs.declared.Record.{Record}
use Rattle.parse.specs.declared.Record.TheVariants.{Node, Attribute, Permission}
use Rattle.parse.specs.Fields.{node_good, attribute_good, value_from, permission_good}

abbrev pub valued_of : math.Option things.Value → Option Value
valued_of none = None
valued_of (some v) = Some (value_of v)

-- a record at a path
abbrev pub node_at : Path → ℕ → Record
node_at p owner = Node (node_row p owner)

abbrev pub attribute_at : Path → ℕ → ℕ → Value → Record
attribute_at p name owner v = Attribute (record { path = p; name = name; owner = owner; value = v })

abbrev pub permission_at : Path → ℕ → things.Permission → Record
permission_at p name g = Permission (record { path = p; name = name; grant = grant_of g })

abbrev pub record_of : math.Option images.Record → Option Record
record_of none = None
record_of (some (images.node_record r)) = Some (Node (node_of r))
record_of (some (images.attribute_record r)) = Some (Attribute (attribute_of r))
record_of (some (images.permission_record r)) = Some (Permission (permission_of r))

-- ---- a kind's record at a path, from the forty bytes
abbrev pub node_from : Path → List ℕ → Option Record
node_from p b = pick (node_good b) (Some (node_at p (get_or b 10 0))) None

abbrev pub with_value : Path → ℕ → ℕ → Option Value → Option Record
with_value p name owner (Some v) = Some (attribute_at p name owner v)
with_value p name owner None = None

abbrev pub attribute_from : Path → List ℕ → Option Record
attribute_from p b =
    pick (attribute_good b) (with_value p (images.number2 8 b) (get_or b 10 0) (valued_of (value_from (get_or b 14 0) (images.number4 16 b)))) None

abbrev pub permission_from : Path → List ℕ → Option Record
permission_from p b = pick (permission_good b) (Some (permission_at p (images.number2 8 b) (images.read_permission b))) None
