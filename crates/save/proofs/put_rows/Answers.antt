-- `save::put_rows` meets its contract: a record more is put. Assumes nothing.
use mathlib.Core.Path.{sym, ◌∙◌}
use mathlib.Core.List.{◌∷◌}
use lib.ListN.{drop}
use Rattle.std.proofs.Common.{drop-cons, add-one}
use Rattle.save.proofs.Rows.{puts_next}
use Rattle.save.proofs.put_rows.Goals as goal

pub loop-row-preserved : goal.loop-row-preserved
loop-row-preserved g c =
    let l = c.args.rows.now in
    let i = c.loop-row.row-index in
    puts_next _ _ c.loop-row.invariant
    (drop-cons l i c.row-item.result c.loop-row-test.true ∙ (λ j. sym c.row-item.is j ∷ drop (sym (add-one i) j) l))
    g.met.R.Row.forty c.put.ensures
