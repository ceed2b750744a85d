-- `tables::place::first_at` meets its contract: the place of p by its key. Assumes nothing.
use Rattle.std.proofs.Common.{rules}
use mathlib.Core.Path.{◌≡◌}
use Prim.Native.Nat.{ℕ, ◌<◌}
use lib.Dec.{ltb}
use lib.ListN.{get_or, take}
use Rattle.std.proofs.lemmas.List.Sorted.{IsPartitionPoint-from_clause}
use Rattle.laws.proofs.Fill.{held_room, held_each}
use Rattle.path.specs.Address.{before}
use Rattle.path.specs.View.{steps, key_of}
use Rattle.path.proofs.Number.{key_before}
use Rattle.tables.specs.declared.Node.{Node}
use Rattle.tables.specs.View.{no_node}
use Rattle.tables.proofs.Rows.{node_path, nodes_held}
use Rattle.tables.proofs.Places.{nodes_searched}
use Rattle.tables.proofs.Together.{begins, begin}
use Rattle.tables.proofs.place.first_at.Goals as goal

pub shared_ref_as_front-partition_point : goal.shared_ref_as_front-partition_point
shared_ref_as_front-partition_point c = held_room _ _ _ _ _ _ (nodes_held c.args.t c.requires.0)

pub returns : goal.returns
returns c =
    let q = nodes_searched c.requires.0 in
    let p : Node → _ = λ s. ltb (key_of s.path) (key_of c.args.p) in
    let e : (i : ℕ) (d : Node) → i < c.args.t.count → p (get_or c.args.t.rows i d) ≡ before (steps (get_or c.args.t.rows i d).path) (steps c.args.p) =
    λ i d h. key_before _ _ (node_path (held_each _ _ _ _ _ _ (nodes_held c.args.t c.requires.0) i d h)) c.requires.1 in
    let z = IsPartitionPoint-from_clause p (take c.args.t.count c.args.t.rows) c.partition_point.result c.partition_point.ensures.partitioned (begins q (steps c.args.p) p e) (λ a r f k. search rules) in
    begin q (steps c.args.p) p e no_node c.partition_point.result z c.partition_point.ensures.bound
