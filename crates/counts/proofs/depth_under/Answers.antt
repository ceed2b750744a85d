-- `counts::depth_under` meets its contract: the longest of the rows at or below q. Assumes nothing.
use mathlib.Core.Path.{sym, ap, ◌∙◌}
use Prim.Native.Nat.{max}
use lib.ListN.{get_or, take, drop}
use Rattle.laws.proofs.Fill.{held_room}
use Rattle.path.specs.Address.{off}
use Rattle.path.specs.View.{steps}
use Rattle.model.specs.Moves.{carried, deepest}
use Rattle.tables.specs.View.{view_node, view_nodes, no_node}
use Rattle.tables.proofs.Rows.{node_path, nodes_held}
use Rattle.tables.proofs.Asked.{below_size, deep_hit, deep_miss}
use Rattle.counts.proofs.Walk.{row_each, row_next, ord_max_is}
use Rattle.counts.proofs.depth_under.Goals as goal
use Rattle.counts.proofs.depth_under.Goals.{then-is_under, else-is_under}

pub shared_ref_as_front-a-items : goal.shared_ref_as_front-a-items
shared_ref_as_front-a-items c = held_room _ _ _ _ _ _ (nodes_held c.args.t c.requires.0)

pub is_under-requires : goal.is_under-requires
is_under-requires c = (node_path (row_each (nodes_held c.args.t c.requires.0) c.loop-a.a-index no_node c.loop-a-test.true), c.requires.1)

pub size-requires : goal.size-requires
size-requires c = node_path (row_each (nodes_held c.args.t c.requires.0) c.loop-a.a-index no_node c.loop-a-test.true)

pub overflow_sub-size : goal.overflow_sub-size
overflow_sub-size c = (below_size (steps c.args.q) _ (sym c.is_under.ensures ∙ c.if-is_under.true) c.size.ensures.0 c.size-then-is_under.ensures.0).0

pub loop-a-preserved : goal.loop-a-preserved
loop-a-preserved c =
    let l = c.loop-a in
    let q = steps c.args.q in
    let x = view_node (get_or (take c.args.t.count c.args.t.rows) l.a-index no_node) in
    let next = row_next (nodes_held c.args.t c.requires.0) l.a-index no_node c.loop-a-test.true view_node in
    elim c.if-is_under.branch [
      | then-is_under w ↦ deep_hit q l.most x _ l.invariant next (sym c.is_under.ensures ∙ w.if-is_under.true) c.if-is_under.most (w.most-is ∙ w.max-most.ensures ∙ ord_max_is l.most _ ∙ ap (max l.most) (below_size q _ (sym c.is_under.ensures ∙ w.if-is_under.true) w.size.ensures.0 w.size-then-is_under.ensures.0).1)
      | else-is_under w ↦ let k = w.most-is in deep_miss q c.if-is_under.most x _ (ap (λ m. max m (deepest (carried (off q) (drop l.a-index (view_nodes c.args.t))))) k ∙ l.invariant) next (sym c.is_under.ensures ∙ w.if-is_under.false)
    ]
