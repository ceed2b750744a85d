-- `tables::place::attributes_at` meets its contract: the rows whose key is the path's stand together. Assumes nothing.
use Rattle.std.proofs.Common.{rules}
use mathlib.Core.Path.{refl, ap}
use mathlib.Core.Option.{none, some}
use mathlib.Core.Bool.{Bool}
use lib.Dec.{ltb, eqb}
use Rattle.std.proofs.lemmas.List.Sorted.{IsPartitionPoint-from_clause}
use Rattle.laws.specs.Slots.{pick}
use Rattle.laws.specs.Sorted.{move, push}
use Rattle.laws.proofs.Fill.{held_room, held_each}
use Rattle.path.specs.View.{steps, key_of}
use Rattle.path.proofs.Number.{key_before, key_same}
use Rattle.model.specs.Moves.{at}
use Rattle.tables.specs.declared.Attribute.{Attribute}
use Rattle.tables.specs.View.{no_attribute}
use Rattle.tables.proofs.Rows.{attribute_path, attributes_held}
use Rattle.tables.proofs.Places.{attributes_by_path, at_path}
use Rattle.tables.proofs.Together.{all}
use Rattle.tables.proofs.place.attributes_at.Goals as goal

pub shared_ref_as_front-rows : goal.shared_ref_as_front-rows
shared_ref_as_front-rows c = held_room _ _ _ _ _ _ (attributes_held c.args.t.now c.requires.0)

pub returns : goal.returns
returns c =
    let p = steps c.args.p in
    let below : Attribute → Bool = λ s. ltb (key_of s.path) (key_of c.args.p) in
    let equal : Attribute → Bool = λ s. eqb (key_of s.path) (key_of c.args.p) in
    let sound = held_each _ _ _ _ _ _ (attributes_held c.args.t.now c.requires.0) in
    all (attributes_by_path c.requires.0) p (at_path p (λ l. l)) (λ m. m.1) (λ x l t. ap (λ b. push (pick b (some x.1) none) (move (at p) l)) t) refl
    below equal
    (λ i d h. key_before _ _ (attribute_path (sound i d h)) c.requires.1) (λ i d h. key_same _ _ (attribute_path (sound i d h)) c.requires.1)
    no_attribute c.partition_point.result c.partition_point-2.result c.partition_point.ensures.bound c.partition_point-2.ensures.bound
    (λ h. IsPartitionPoint-from_clause below _ _ c.partition_point.ensures.partitioned h (λ a r f k. search rules))
    (λ h. IsPartitionPoint-from_clause equal _ _ c.partition_point-2.ensures.partitioned h (λ a r f k. search rules))
