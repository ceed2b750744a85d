-- `path::path_up` meets its contract: the step is one digit, and gets one more. Assumes nothing.
use borrow.Author.Tests.{lt-leb, le-leb, not-true, not-false}
use mathlib.Core.Bool.{true}
use mathlib.Core.Path.{◌≡◌, sym, ◌∙◌}
use native.Mathlib.Omega.{arith}
use Rattle.path.specs.Address.{beside, higher}
use Rattle.path.specs.View.{steps}
use Rattle.path.proofs.Structs.{facts}
use Rattle.path.proofs.Number.{weight_le}
use Rattle.path.proofs.Steps.{path_stays, path_keeps, path_more}
use Rattle.path.proofs.path_up.Goals as goal
use Rattle.path.proofs.path_up.Goals.{Else-not-is_beside}

on : (c : Else-not-is_beside) → beside (steps c.args.q) (steps c.args.p) ≡ true
on c = sym c.is_beside.ensures ∙ not-false _ c.if-not-is_beside.false-raw

pub returns-then-not-is_beside : goal.returns-then-not-is_beside
returns-then-not-is_beside c = path_stays c.args.p c.args.q c.requires.0 c.requires.1 higher (sym c.is_beside.ensures ∙ not-true _ c.if-not-is_beside.true-raw)

pub returns-then-digit : goal.returns-then-digit
returns-then-digit c =
    let at_q = c.digit-2 in
    let at_p = c.digit in
    let x = at_q.result in
    let y = at_p.result in
    path_keeps c.args.p c.args.q c.requires.0 c.requires.1 (on (goal.at.returns-then-digit c).Else-not-is_beside) _ c.size-k.ensures.0 x y (at_q.ensures.1 c.requires.1) (at_p.ensures.1 c.requires.0) higher (rw (lt-leb x y (omega arith)))

pub overflow_add-result : goal.overflow_add-result
overflow_add-result c =
    let at_q = c.digit-2 in
    let at_p = c.digit in
    let x = at_q.result in
    let y = at_p.result in
    let b = (facts c.args.p c.requires.0).bound in
    let w = weight_le c.size-k.result in
    let o = c.placed-higher.ensures in omega arith

pub returns : goal.returns
returns c =
    let at_q = c.digit-2 in
    let at_p = c.digit in
    let x = at_q.result in
    let y = at_p.result in
    path_more c.args.p c.args.q c.requires.0 c.requires.1 (on (goal.at.returns c).Else-not-is_beside) _ c.size-k.ensures.0 x y (at_q.ensures.1 c.requires.1) (at_p.ensures.1 c.requires.0) higher _ c.placed-higher.ensures (rw (le-leb x y (omega arith)))
