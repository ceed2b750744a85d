-- What is found on a node.
use Rattle.std.specs.Prelude.{List, ℕ, length}
use Rattle.path.specs.Address.{Address}
use Rattle.model.specs.Things.{Row, Attribute}
use Rattle.model.specs.Moves.{attribute_in, names_in}
use Rattle.tables.specs.declared.Attribute as rows
use Rattle.tables.specs.declared.Found.{Found}
use Rattle.tables.specs.View.{found_of}
use Rattle.lookups.specs.declared.Held.{Held}

-- what is found of an attribute's row
abbrev pub found_at : rows.Attribute → Found
found_at a = record { owner = a.owner; value = a.value }

-- the attribute of the name at p, and how many attributes the node there has
abbrev pub held_in : Address → ℕ → List (Row Attribute) → Held
held_in p n l = record { found = found_of (attribute_in p n l); names = length (names_in p l) }
