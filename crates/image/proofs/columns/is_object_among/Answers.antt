-- `image::columns::is_object_among` meets its contract: the pair at the place of the object is the object, or none is. Assumes nothing.
use Rattle.std.proofs.Common.{rules}
use mathlib.Core.Bool.{Bool, ◌&&◌}
use Prim.Native.Nat.{ℕ}
use lib.Dec.{eqb}
use Rattle.std.proofs.lemmas.List.Sorted.{IsPartitionPoint-from_clause}
use Rattle.tables.proofs.Compare.{pair_lt, lexed_pair}
use Rattle.image.proofs.Halving.{pairs_order, pair_to, pair_from, column_parted, column_parts, column_asked, match_said}
use Rattle.image.proofs.columns.is_object_among.Goals as goal

pub returns : goal.returns
returns c =
    let l = c.args.objects.now in
    let o : ℕ × ℕ = (c.args.k, c.args.name) in
    let below : ℕ × ℕ → Bool = λ x. pair_lt x o in
    let is : ℕ × ℕ → Bool = λ x. eqb x.0 o.0 && eqb x.1 o.1 in
    let before = λ (x : ℕ × ℕ). lexed_pair x.0 o.0 x.1 o.1 in
    let i = c.partition_point.result in
    let parts = IsPartitionPoint-from_clause below l i c.partition_point.ensures.partitioned (column_parted pairs_order l c.requires o below before) (λ a r f k. search rules) in
    column_asked pairs_order l c.requires o is (pair_to o) (pair_from o) i (column_parts pairs_order l c.requires o below before (0, 0) i parts c.partition_point.ensures.bound)
    c.get.result c.is_some_and.result (c.get.ensures.lookup.0, c.get.ensures.lookup.1) (match_said _ c.get.result (λ x m. search rules) c.is_some_and.ensures)
