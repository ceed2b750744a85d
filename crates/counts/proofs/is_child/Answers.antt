-- `counts::is_child` meets its contract: one step longer than q, and below it. Assumes nothing.
use mathlib.Core.Path.{◌≡◌, sym, ◌∙◌}
use native.Mathlib.Omega.{arith}
use borrow.Author.Tests.{ne_eqb}
use lib.ListN.{length}
use Rattle.path.specs.View.{steps}
use Rattle.tables.proofs.Asked.{child_not, child_under}
use Rattle.counts.proofs.is_child.Goals as goal

pub returns-else-size : goal.returns-else-size
returns-else-size c =
    let sp : c.size.result ≡ length (steps c.args.p) = c.size.ensures.0 in
    let sq : c.size-2.result ≡ length (steps c.args.q) = c.size-2.ensures.0 in
    let other = c.if-size.false in
    ne_eqb _ _ other ∙ sym (child_not (steps c.args.q) (steps c.args.p) (λ e. other (omega arith)))

pub returns-then-size : goal.returns-then-size
returns-then-size c =
    let sp : c.size.result ≡ length (steps c.args.p) = c.size.ensures.0 in
    let sq : c.size-2.result ≡ length (steps c.args.q) = c.size-2.ensures.0 in
    let one = c.if-size.true in
    c.is_under.ensures ∙ child_under (steps c.args.q) (steps c.args.p) (omega arith)
