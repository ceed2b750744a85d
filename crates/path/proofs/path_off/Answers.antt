-- `path::path_off` meets its contract: the digits move up by as many as go. Assumes nothing.
use borrow.Author.Tests.{not-true, not-false}
use mathlib.Core.Bool.{true}
use mathlib.Core.Path.{◌≡◌, sym, ◌∙◌}
use native.Mathlib.Omega.{arith}
use Rattle.path.specs.Address.{under, off}
use Rattle.path.specs.View.{steps}
use Rattle.path.proofs.Parts.{off_not}
use Rattle.path.proofs.Structs.{there, gone}
use Rattle.path.proofs.Steps.{rest_is, off_key, off_bound, off_path, off_some}
use Rattle.path.proofs.path_off.Goals as goal
use Rattle.path.proofs.path_off.Goals.{Else-not-is_under}

on : (c : Else-not-is_under) → under (steps c.args.q) (steps c.args.p) ≡ true
on c = sym c.is_under.ensures ∙ not-false _ c.if-not-is_under.false-raw

pub returns-then-not-is_under : goal.returns-then-not-is_under
returns-then-not-is_under c =
    gone (off (steps c.args.q) (steps c.args.p))
    (off_not (steps c.args.q) (steps c.args.p) (sym c.is_under.ensures ∙ not-true _ c.if-not-is_under.true-raw))

pub overflow_sub-rest : goal.overflow_sub-rest
overflow_sub-rest c =
    let r = rest_is c.args.p c.args.q c.requires.0 c.requires.1 (on (goal.at.overflow_sub-rest c).Else-not-is_under) in omega arith

pub overflow_add-result : goal.overflow_add-result
overflow_add-result c =
    let k = c.size-k.ensures.0 in
    let r = off_key c.args.p c.args.q c.requires.0 c.requires.1 (on (goal.at.overflow_add-result c).Else-not-is_under) _ k in
    let b = off_bound c.args.p c.args.q c.requires.0 c.requires.1 (on (goal.at.overflow_add-result c).Else-not-is_under) _ k in omega arith

pub returns : goal.returns
returns c =
    there (off (steps c.args.q) (steps c.args.p))
    (off_path c.args.p c.args.q c.requires.0 c.requires.1 (on (goal.at.returns c).Else-not-is_under) _ c.size-k.ensures.0)
    (off_some c.args.p c.args.q c.requires.0 c.requires.1 (on (goal.at.returns c).Else-not-is_under))
