-- `lookups::owner_in` meets its contract: the row at the place of p is p's, or none is. Assumes nothing.
use mathlib.Core.Path.{◌≡◌, sym, subst, ◌∙◌}
use mathlib.Core.List.{List}
use Prim.Native.Nat.{ℕ, ◌<◌}
use native.Mathlib.Omega.{arith}
use lib.ListN.{get_or, length, take}
use lib.Seq.{get_or-take, length-take-le}
use borrow.Author.Tests.{ltb-true, ltb-false}
use Rattle.std.proofs.Common.{Option}
use Rattle.laws.proofs.Fill.{held_room, held_full, held_each, row_end}
use Rattle.laws.proofs.Search.{rows_from}
use Rattle.path.specs.View.{steps}
use Rattle.model.specs.Moves.{head}
use Rattle.tables.specs.View.{view_node, owner_of, NodeSound}
use Rattle.tables.proofs.Rows.{node_path, nodes_held}
use Rattle.tables.proofs.Places.{nodes_searched, at_path}
use Rattle.lookups.proofs.Told.{owner_at}
use Rattle.lookups.proofs.owner_in.Goals as goal
use Rattle.lookups.proofs.owner_in.Goals.{Start, In_ok-node}

abbrev asked : List ℕ → Option ℕ
asked l = owner_of (head l)

pub shared_ref_as_front-get : goal.shared_ref_as_front-get
shared_ref_as_front-get c = held_room _ _ _ _ _ _ (nodes_held c.args.t c.requires.0)

long : (c : Start) → length (take c.args.t.count c.args.t.rows) ≡ c.args.t.count
long c = length-take-le c.args.t.count c.args.t.rows (held_full _ _ _ _ _ _ (nodes_held c.args.t c.requires.0))

pub returns-in_err-node : goal.returns-in_err-node
returns-in_err-node c =
    let f = c.first_at in
    let n = long (goal.at.returns-in_err-node c).Start in
    let past = ltb-false f.result (length (take c.args.t.count c.args.t.rows)) (sym c.in_err-node.ensures.lookup.0) in
    c.from_residual.ensures
    ∙ sym (rows_from (nodes_searched c.requires.0) (steps c.args.p) (at_path (steps c.args.p) asked) f.ensures ∙ rw (row_end view_node c.args.t.rows c.args.t.count f.result (omega arith)))

inside : (c : In_ok-node) → c.first_at.result < c.args.t.count
inside c =
    let n = long (goal.at-In_ok-node c).Start in
    let h = ltb-true c.first_at.result (length (take c.args.t.count c.args.t.rows)) (sym c.in_ok-node.ensures.lookup.0) in
    omega arith

found : (c : In_ok-node) → c.in_ok-node.node.now ≡ get_or c.args.t.rows c.first_at.result c.in_ok-node.node.now
found c = c.in_ok-node.ensures.lookup.1 ∙ get_or-take c.args.t.count c.args.t.rows c.first_at.result c.in_ok-node.node.now (inside c)

sound : (c : In_ok-node) → NodeSound c.in_ok-node.node.now
sound c = subst NodeSound (sym (found c)) (held_each _ _ _ _ _ _ (nodes_held c.args.t c.requires.0) c.first_at.result c.in_ok-node.node.now (inside c))

pub is_same-requires : goal.is_same-requires
is_same-requires c = (node_path (sound (goal.at.is_same-requires c).In_ok-node), c.requires.1)

pub returns : goal.returns
returns c = c.then_some.ensures ∙ owner_at c.args.t (steps c.args.p) c.first_at.result c.in_ok-node.node.now c.requires.0 c.first_at.ensures (inside (goal.at.returns c).In_ok-node) (found (goal.at.returns c).In_ok-node) (sym c.is_same.ensures)
