-- `path::is_before` meets its contract: the order of numbers is that of addresses. Assumes nothing.
use borrow.Author.Rules.{rules}
use mathlib.Core.Path.{◌≡◌, ◌∙◌}
use lib.Dec.{ltb}
use Rattle.path.proofs.Number.{key_before}
use Rattle.path.proofs.is_before.Goals as goal

pub returns : goal.returns
returns c =
    let e : c.lt.result ≡ ltb c.args.p.key c.args.q.key = search rules in
    e ∙ key_before c.args.p c.args.q c.requires.0 c.requires.1
