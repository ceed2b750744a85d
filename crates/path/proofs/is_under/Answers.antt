-- `path::is_under` meets its contract: the first steps are compared as numbers. Assumes nothing.
use mathlib.Core.Path.{ap, ap₂, ◌∙◌}
use lib.Dec.{eqb}
use Rattle.path.specs.Packed.{pack}
use Rattle.path.specs.View.{steps}
use Rattle.path.proofs.Number.{front_under}
use Rattle.path.proofs.is_under.Goals as goal

pub returns : goal.returns
returns c =
    let k = c.size-k.ensures.0 in
    ap₂ eqb c.front.ensures c.front-2.ensures
    ∙ ap (λ n. eqb (pack n (steps c.args.p)) (pack n (steps c.args.q))) k
    ∙ front_under c.args.p c.args.q c.requires.0 c.requires.1
