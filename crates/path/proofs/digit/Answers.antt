-- `path::digit` meets its contract: a shift and a remainder take one digit out. Assumes nothing.
use mathlib.Core.Path.{◌∙◌}
use Rattle.path.proofs.Number.{digit_shifts, digit_is}
use Rattle.path.proofs.digit.Goals as goal

pub returns : goal.returns
returns c =
    let e = digit_shifts c.args.p c.args.n c.requires in
    (e, λ h. e ∙ digit_is c.args.p h c.args.n c.requires)
