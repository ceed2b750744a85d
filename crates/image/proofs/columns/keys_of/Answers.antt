-- `image::columns::keys_of` meets its contract: each row's number is stored at the row's place. Assumes nothing.
use mathlib.Core.Path.{◌≡◌, refl, ap, ◌∙◌}
use Prim.Native.Nat.{◌+◌, ◌<◌, ◌≤◌}
use native.Mathlib.Omega.{arith}
use lib.ListN.{drop, get_or, take}
use lib.Seq.{get_or-take, length-take-le}
use Rattle.laws.proofs.Fill.{begin, turn, done, row_end, held_room, held_full, held_each, held_next}
use Rattle.path.specs.View.{key_of}
use Rattle.tables.specs.View.{view_node, view_nodes, no_node}
use Rattle.tables.proofs.Rows.{node_path, nodes_held}
use Rattle.tables.specs.declared.Node.{Node}
use Rattle.image.proofs.Keys.{alone, key_of_row, number_key}
use Rattle.image.proofs.columns.keys_of.Goals as goal

pub shared_ref_as_front-nodes : goal.shared_ref_as_front-nodes
shared_ref_as_front-nodes c = held_room _ _ _ _ _ _ (nodes_held c.args.t c.requires)

pub loop-i-init : goal.loop-i-init
loop-i-init c = begin alone key_of_row (λ l. l) 64 0 _ (view_nodes c.args.t) refl

pub loop-i-preserved : goal.loop-i-preserved
loop-i-preserved c =
    let l = c.loop-i in
    let t = c.args.t in
    let h = nodes_held t c.requires in
    let full = length-take-le t.count t.rows (held_full _ _ _ _ _ _ h) in
    let room = held_room _ _ _ _ _ _ h in
    let k : l.i < t.count = omega (arith, c.loop-i-test.true) in
    let a = get_or t.rows l.i no_node in
    let same : get_or (take t.count t.rows) l.i no_node ≡ a = get_or-take t.count t.rows l.i no_node k in
    let number = c.key.ensures ∙ ap (λ (x : Node). key_of x.path) same ∙ number_key a.path (node_path (held_each _ _ _ _ _ _ h l.i no_node k)) in
    turn alone key_of_row (λ l. l) 64 _ l.keys l.i l.invariant (view_node a) (drop (l.i + 1) (view_nodes t)) (view_node a) _ (omega arith)
    (held_next _ _ _ _ _ _ h view_node l.i no_node k) refl number

pub returns : goal.returns
returns c =
    let t = c.args.t in
    let full = length-take-le t.count t.rows (held_full _ _ _ _ _ _ (nodes_held t c.requires)) in
    let past : t.count ≤ c.loop-i.i = omega (arith, c.loop-i-test.false) in
    done alone key_of_row (λ l. l) 64 _ c.loop-i.keys c.loop-i.i c.loop-i.invariant (row_end view_node t.rows t.count c.loop-i.i past) refl
