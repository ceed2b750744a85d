-- `path::is_beside` meets its contract: all but the last step are compared as numbers. Assumes nothing.
use borrow.Author.Rules.{rules}
use mathlib.Core.Path.{ap₂, ◌∙◌}
use mathlib.Core.Logic.{inl, inr, ⊎_elim}
use native.Mathlib.Omega.{arith}
use lib.Dec.{eqb}
use Rattle.path.specs.View.{steps}
use Rattle.path.proofs.Parts.{beside_off}
use Rattle.path.proofs.Number.{front_beside}
use Rattle.path.proofs.is_beside.Goals as goal

pub returns-else-k-n : goal.returns-else-k-n
returns-else-k-n c =
    let e = beside_off (steps c.args.q) (steps c.args.p) c.size-k.ensures.0 c.size-n.ensures.0 (⊎_elim (λ w. inl (w.0, omega (arith, w.1))) inr c.if-k-n.either) in search rules

pub returns-then-k-n : goal.returns-then-k-n
returns-then-k-n c =
    let k = c.size-k.ensures.0 in
    let n = c.size-n.ensures.0 in
    let h = c.if-k-n.true in
    ap₂ eqb c.front.ensures c.front-then-k-n.ensures
    ∙ front_beside c.args.p c.args.q c.requires.0 c.requires.1 _ (omega (arith, h.0)) (omega (arith, h.1))
