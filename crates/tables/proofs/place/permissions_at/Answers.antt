-- `tables::place::permissions_at` meets its contract: the rows of the object's key and name stand together. Assumes nothing.
use Rattle.std.proofs.Common.{rules}
use mathlib.Core.Path.{refl, ap, ◌∙◌}
use mathlib.Core.Option.{none, some}
use mathlib.Core.Bool.{Bool, ◌&&◌}
use lib.Dec.{ltb, eqb}
use lib.ListN.{get_or}
use Rattle.std.proofs.lemmas.List.Sorted.{IsPartitionPoint-from_clause}
use Rattle.laws.specs.Slots.{pick}
use Rattle.laws.specs.Sorted.{push}
use Rattle.laws.proofs.Fill.{held_room, held_each}
use Rattle.path.specs.Address.{same}
use Rattle.path.specs.View.{steps, key_of}
use Rattle.path.proofs.Number.{key_same}
use Rattle.model.specs.Moves.{permissions_in}
use Rattle.tables.specs.declared.Permission.{Permission}
use Rattle.tables.specs.View.{no_permission}
use Rattle.tables.proofs.Asked.{permissions_row}
use Rattle.tables.proofs.Compare.{pair_lt, lexed_pair, keyed, and_turned}
use Rattle.tables.proofs.Rows.{permission_path, permissions_held}
use Rattle.tables.proofs.Places.{permissions_searched, of_permission_lem}
use Rattle.tables.proofs.Together.{all}
use Rattle.tables.proofs.place.permissions_at.Goals as goal

pub shared_ref_as_front-rows : goal.shared_ref_as_front-rows
shared_ref_as_front-rows c = held_room _ _ _ _ _ _ (permissions_held c.args.t.now c.requires.0)

pub returns : goal.returns
returns c =
    let p = steps c.args.p in
    let below : Permission → Bool = λ s. pair_lt (key_of s.path, s.name) (key_of c.args.p, c.args.name) in
    let equal : Permission → Bool = λ s. eqb (key_of s.path) (key_of c.args.p) && eqb s.name c.args.name in
    let sound = held_each _ _ _ _ _ _ (permissions_held c.args.t.now c.requires.0) in
    all (permissions_searched c.requires.0) (p, c.args.name) (of_permission_lem p c.args.name (λ l. l)) (λ m. m.1.1) (λ x l t. permissions_row p c.args.name x l ∙ ap (λ b. push (pick b (some x.1.1) none) (permissions_in p c.args.name l)) t) refl
    below equal
    (λ i d h. let a = get_or c.args.t.now.rows i d in
    lexed_pair (key_of a.path) (key_of c.args.p) a.name c.args.name ∙ keyed a.path c.args.p (permission_path (sound i d h)) c.requires.1 _ _ refl refl (ltb a.name c.args.name))
    (λ i d h. let a = get_or c.args.t.now.rows i d in ap (λ b. b && eqb a.name c.args.name) (key_same _ _ (permission_path (sound i d h)) c.requires.1) ∙ and_turned (same (steps a.path) p) (eqb a.name c.args.name))
    no_permission c.partition_point.result c.partition_point-2.result c.partition_point.ensures.bound c.partition_point-2.ensures.bound
    (λ h. IsPartitionPoint-from_clause below _ _ c.partition_point.ensures.partitioned h (λ a r f k. search rules))
    (λ h. IsPartitionPoint-from_clause equal _ _ c.partition_point-2.ensures.partitioned h (λ a r f k. search rules))
