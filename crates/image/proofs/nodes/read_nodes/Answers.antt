-- `image::nodes::read_nodes` meets its contract. The loop's invariant: the records so far are good nodes, the table holds them, and the keys are its column. Assumes nothing.
use borrow.Author.Tests.{not-true, not-false}
use mathlib.Core.Path.{◌≡◌, sym, ap, ◌∙◌}
use mathlib.Core.Bool.{true}
use lib.Seq.{length-take-le}
use Rattle.laws.specs.Slots.{slots}
use Rattle.path.specs.View.{steps}
use Rattle.tables.specs.View.{view_nodes}
use Rattle.tables.proofs.Tables.{nodes_none}
use Rattle.image.specs.Rows.{node_fits_in}
use Rattle.image.specs.Columns.{keys_of}
use Rattle.image.proofs.Lent.{keys_long, keys_ascend, keys_below, fits_by_keys}
use Rattle.parse.specs.declared.Record.TheVariants as kinds
use Rattle.image.proofs.Stands.{row_is}
use Rattle.image.proofs.Phases.{blamed, nodes_begin, node_path_sound, node_none_after, node_breaks, keys_more, nodes_more}
use Rattle.image.proofs.nodes.read_nodes.Goals as goal
use Rattle.image.proofs.nodes.read_nodes.Goals.{After-node_fits, Else-not-node_fits}

pub loop-k-init : goal.loop-k-init
loop-k-init c = (nodes_begin _ _ c.no_nodes-t.ensures, ap (λ l. slots 64 0 (keys_of l)) (sym (nodes_none c.no_nodes-t.ensures).1))

pub slice_bounds-keys-end : goal.slice_bounds-keys-end
slice_bounds-keys-end c = let l = c.loop-k in keys_long l.t l.invariant.0.sound l.keys l.invariant.1

pub slice_bounds-node_fits-end : goal.slice_bounds-node_fits-end
slice_bounds-node_fits-end c = let l = c.loop-k in sym (length-take-le _ _ (keys_long l.t l.invariant.0.sound l.keys l.invariant.1))

pub node_fits-requires : goal.node_fits-requires
node_fits-requires c =
    let l = c.loop-k in
    let p = node_path_sound l.invariant.0 c.in-Some-Node.node (row_is kinds.Node c.in-Some-Node.is c.in-Some-Node.field-0-is c.record_after.ensures) in
    let n = node_none_after l.invariant.0 c.in-Some-Node.node (row_is kinds.Node c.in-Some-Node.is c.in-Some-Node.field-0-is c.record_after.ensures) in (
      keys_ascend l.t l.invariant.0.sound l.keys l.invariant.1,
      p,
      keys_below l.t l.invariant.0.sound l.keys l.invariant.1 p n,
    )

-- what is asked of the column is asked of the table
answer : (c : After-node_fits)
    → c.node_fits.result ≡ node_fits_in (steps c.in-Some-Node.node.path) (view_nodes c.loop-k.t)
answer c =
    let l = c.loop-k in
    c.node_fits.ensures ∙ fits_by_keys l.t l.invariant.0.sound l.keys l.invariant.1 (steps c.in-Some-Node.node.path)

pub returns-then-not-node_fits : goal.returns-then-not-node_fits
returns-then-not-node_fits c =
    let l = c.loop-k in
    blamed (node_breaks l.invariant.0 c.in-Some-Node.node (row_is kinds.Node c.in-Some-Node.is c.in-Some-Node.field-0-is c.record_after.ensures) c.loop-k-test.true (sym (answer (goal.at.returns-then-not-node_fits c).After-node_fits) ∙ not-true _ c.if-not-node_fits.true-raw))

fit : (c : Else-not-node_fits)
    → node_fits_in (steps c.in-Some-Node.node.path) (view_nodes c.loop-k.t) ≡ true
fit c = sym (answer (goal.at-Else-not-node_fits c).After-node_fits) ∙ not-false _ c.if-not-node_fits.false-raw

pub loop-k-preserved : goal.loop-k-preserved
loop-k-preserved c =
    let l = c.loop-k in (
      nodes_more l.invariant.0 c.in-Some-Node.node (row_is kinds.Node c.in-Some-Node.is c.in-Some-Node.field-0-is c.record_after.ensures) (fit (goal.at.loop-k-preserved c).Else-not-node_fits) c.loop-k-test.true,
      keys_more l.invariant.0 c.in-Some-Node.node (row_is kinds.Node c.in-Some-Node.is c.in-Some-Node.field-0-is c.record_after.ensures) (fit (goal.at.loop-k-preserved c).Else-not-node_fits) l.invariant.1 c.key.ensures,
    )
