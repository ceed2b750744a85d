-- `path::path_fall` meets its contract: the step is one digit, and gets one less. Assumes nothing.
use borrow.Author.Tests.{lt-ltb, le-ltb, not-true, not-false}
use mathlib.Core.Bool.{true}
use mathlib.Core.Path.{◌≡◌, sym, ◌∙◌}
use native.Mathlib.Omega.{arith}
use Rattle.path.specs.Address.{beside, lower}
use Rattle.path.specs.View.{steps}
use Rattle.path.proofs.Steps.{path_stays, path_keeps, path_less}
use Rattle.path.proofs.path_fall.Goals as goal
use Rattle.path.proofs.path_fall.Goals.{Else-not-is_beside}

on : (c : Else-not-is_beside) → beside (steps c.args.q) (steps c.args.p) ≡ true
on c = sym c.is_beside.ensures ∙ not-false _ c.if-not-is_beside.false-raw

pub returns-then-not-is_beside : goal.returns-then-not-is_beside
returns-then-not-is_beside c = path_stays c.args.p c.args.q c.requires.0 c.requires.1 lower (sym c.is_beside.ensures ∙ not-true _ c.if-not-is_beside.true-raw)

pub returns-then-digit : goal.returns-then-digit
returns-then-digit c =
    let at_q = c.digit-2 in
    let at_p = c.digit in
    let x = at_q.result in
    let y = at_p.result in
    path_keeps c.args.p c.args.q c.requires.0 c.requires.1 (on (goal.at.returns-then-digit c).Else-not-is_beside) _ c.size-k.ensures.0 x y (at_q.ensures.1 c.requires.1) (at_p.ensures.1 c.requires.0) lower (rw (le-ltb x y (omega arith)))

pub returns : goal.returns
returns c =
    let at_q = c.digit-2 in
    let at_p = c.digit in
    let x = at_q.result in
    let y = at_p.result in
    path_less c.args.p c.args.q c.requires.0 c.requires.1 (on (goal.at.returns c).Else-not-is_beside) _ c.size-k.ensures.0 x y (at_q.ensures.1 c.requires.1) (at_p.ensures.1 c.requires.0) lower _ c.placed-lower.ensures (omega arith) (rw (lt-ltb x y (omega arith)))
