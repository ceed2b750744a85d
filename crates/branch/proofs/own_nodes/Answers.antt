-- `branch::own_nodes` meets its contract: one pass in place: every row keeps its path and is the owner's. Assumes nothing.
use borrow.Author.Rules.{rules}
use mathlib.Core.Path.{◌≡◌, refl, ap, sym, ◌∙◌}
use native.Mathlib.Omega.{arith}
use Rattle.laws.proofs.Fill.{held_room}
use Rattle.model.specs.Image.{owned_node}
use Rattle.tables.specs.View.{view_node, node_of, nodes_of, nodes_with, blank_node, no_node}
use Rattle.tables.proofs.Rows.{nodes_held, view_node_lem}
use Rattle.branch.proofs.Changes.{changes, change, changed}
use Rattle.branch.proofs.own_nodes.Goals as goal

pub loop-i-init : goal.loop-i-init
loop-i-init c =
    let h = nodes_held c.args.t c.requires in
    (held_room _ _ _ _ _ _ h, search rules, changes nodes_with node_of 64 blank_node view_node _ h)

pub loop-i-preserved : goal.loop-i-preserved
loop-i-preserved c =
    let l = c.loop-i in (
      search rules,
      search rules,
      change nodes_with node_of 64 blank_node view_node (owned_node c.args.owner) (nodes_held c.args.t c.requires) l.invariant.2 view_node_lem
          (λ a. record { path = a.path; owner = c.args.owner; unused = a.unused }) (λ m. refl) no_node c.loop-i-test.true,
    )

pub returns : goal.returns
unfolding nodes_of
returns c =
    let l = c.loop-i in
    let e : l.i ≡ c.args.t.count = omega arith in
    ap (nodes_with l.nodes.rows) (l.invariant.1 ∙ sym e)
    ∙ changed nodes_with node_of 64 blank_node view_node (owned_node c.args.owner) (nodes_held c.args.t c.requires) l.invariant.2 e
