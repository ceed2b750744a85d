-- `image::columns::is_among` meets its contract: the key at the place of k is k, or none is. Assumes nothing.
use Rattle.std.proofs.Common.{rules}
use borrow.Author.Tests.{eq-eqb, eqb-true}
use mathlib.Core.Path.{refl}
use mathlib.Core.Bool.{Bool}
use Prim.Native.Nat.{ℕ}
use lib.Dec.{eqb, ltb}
use Rattle.std.proofs.lemmas.List.Sorted.{IsPartitionPoint-from_clause}
use Rattle.laws.proofs.Order.{nat_order}
use Rattle.image.proofs.Halving.{column_parted, column_parts, column_asked, match_said}
use Rattle.image.proofs.columns.is_among.Goals as goal

pub returns : goal.returns
returns c =
    let l = c.args.keys.now in
    let k = c.args.k in
    let below : ℕ → Bool = λ x. ltb x k in
    let is : ℕ → Bool = λ x. eqb x k in
    let i = c.partition_point.result in
    let parts = IsPartitionPoint-from_clause below l i c.partition_point.ensures.partitioned (column_parted nat_order l c.requires k below (λ x. refl)) (λ a r f k. search rules) in
    column_asked nat_order l c.requires k is (λ x. eqb-true x k) (λ x. eq-eqb x k) i (column_parts nat_order l c.requires k below (λ x. refl) 0 i parts c.partition_point.ensures.bound)
    c.get.result c.is_some_and.result (c.get.ensures.lookup.0, c.get.ensures.lookup.1) (match_said _ c.get.result (λ x m. search rules) c.is_some_and.ensures)
