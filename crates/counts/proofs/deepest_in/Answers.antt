-- `counts::deepest_in` meets its contract: the last row's path is a longest one. Assumes nothing.
use mathlib.Core.Path.{◌≡◌, sym, ap, subst, ◌∙◌}
use Prim.Native.Nat.{◌-◌, ◌<◌}
use native.Mathlib.Omega.{arith}
use lib.Dec.{ltb}
use mathlib.Core.List.{[], ◌∷◌, ◌++◌}
use lib.ListN.{get_or, length, take}
use lib.Seq.{get_or-take, length-take-le}
use Rattle.laws.proofs.Fill.{held_room, held_full}
use Rattle.laws.proofs.Inplace.{held_all, held_last}
use Rattle.laws.proofs.Last.{Ends}
use Rattle.tables.specs.View.{view_node, view_nodes, NodeSound}
use Rattle.tables.proofs.Asked.{deepest_last}
use Rattle.tables.proofs.Places.{nodes_ascend}
use Rattle.tables.proofs.Rows.{node_path, nodes_held}
use Rattle.counts.proofs.Walk.{row_each, last_row}
use Rattle.counts.proofs.deepest_in.Goals as goal

pub shared_ref_as_front-last : goal.shared_ref_as_front-last
shared_ref_as_front-last c = held_room _ _ _ _ _ _ (nodes_held c.args.t c.requires)

pub size-requires : goal.size-requires
size-requires c =
    let l = last_row (take c.args.t.count c.args.t.rows) c.in-Some.a.now c.in-Some.ensures.value in
    node_path (subst NodeSound (sym l.1) (row_each (nodes_held c.args.t c.requires) _ c.in-Some.a.now l.0))

pub returns-in-Some : goal.returns-in-Some
returns-in-Some c =
    let t = c.args.t in
    let h = nodes_held t c.requires in
    let a = c.in-Some.a.now in
    let l = last_row (take t.count t.rows) a c.in-Some.ensures.value in
    let n = length-take-le t.count t.rows (held_full _ _ _ _ _ _ h) in
    let some : 0 < t.count = let b = l.0 in omega arith in
    let is : a ≡ get_or t.rows (t.count - 1) a = l.1 ∙ ap (λ i. get_or (take t.count t.rows) i a) (let e : length (take t.count t.rows) - 1 ≡ t.count - 1 = omega arith in e) ∙ get_or-take t.count t.rows (t.count - 1) a (omega arith) in
    let last : Ends (view_nodes t) (take (t.count - 1) (view_nodes t)) (view_node a) =
    record { ends = sym (held_all h view_node) ∙ held_last h view_node t.count a some (omega arith) ∙ ap (λ x. take (t.count - 1) (view_nodes t) ++ (view_node x ∷ [])) (sym is) } in
    c.size.ensures.0 ∙ sym (deepest_last ltb (nodes_ascend c.requires) last)
