-- `image::nodes::node_here` meets its contract: the last key is the only one that can be k. Assumes nothing.
use Rattle.std.proofs.Common.{rules}
use borrow.Author.Tests.{eq-eqb, eqb-true}
use lib.Dec.{eqb, ltb→lt}
use Rattle.laws.proofs.Order.{nat_order}
use Rattle.image.proofs.Halving.{column_last_asked, match_said}
use Rattle.image.proofs.nodes.node_here.Goals as goal

pub returns : goal.returns
returns c =
    let k = c.args.k in
    column_last_asked nat_order c.args.keys.now c.requires.0 k (λ x. eqb x k) (λ x. eqb-true x k) (λ x. eq-eqb x k) (λ x m t. c.requires.1 x m (ltb→lt k x t))
    c.last.result c.is_some_and.result (c.last.ensures.item.0, c.last.ensures.item.1) (match_said _ c.last.result (λ x m. search rules) c.is_some_and.ensures)
