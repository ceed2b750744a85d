-- `attributes::changed` meets its contract: the value changes where the row is found; a node has one attribute for a name. Assumes nothing.
use mathlib.Core.Path.{◌≡◌}
use mathlib.Core.List.{◌++◌, map}
use Prim.Native.Nat.{◌≤◌}
use lib.ListN.{take, drop}
use Rattle.path.specs.View.{steps}
use Rattle.tables.specs.View.{view_value, view_attributes}
use Rattle.attributes.proofs.Values.{revalue}
use Rattle.attributes.proofs.changed.Given as goal

abbrev pub invariant-loop-i : goal.invariant-loop-i
invariant-loop-i l =
    (l.fn.t.count ≤ 256) × (l.out ≡ l.initial.out)
    × (map (revalue (steps l.p) l.name (view_value l.v)) (view_attributes l.initial.out) ≡ take l.i (view_attributes l.initial.out) ++ map (revalue (steps l.p) l.name (view_value l.v)) (drop l.i (view_attributes l.initial.out)))
