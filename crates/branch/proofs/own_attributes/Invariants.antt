-- `branch::own_attributes` meets its contract: one pass in place: every row keeps its path, its name and its value, and is the owner's. Assumes nothing.
use mathlib.Core.Path.{◌≡◌}
use Prim.Native.Nat.{◌≤◌}
use Rattle.model.specs.Image.{owned_attribute}
use Rattle.tables.specs.View.{view_attribute, attribute_of, attributes_with, blank_attribute}
use Rattle.branch.proofs.Changes.{Changes}
use Rattle.branch.proofs.own_attributes.Given as goal

abbrev pub invariant-loop-i : goal.invariant-loop-i
invariant-loop-i l =
    (l.fn.t.count ≤ 256) × (l.attributes.count ≡ l.fn.t.count) × Changes attributes_with attribute_of 256 blank_attribute view_attribute (owned_attribute l.owner) l.initial.attributes.rows l.initial.attributes.count l.attributes.rows l.i
