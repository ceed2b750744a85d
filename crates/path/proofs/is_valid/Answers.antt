-- `path::is_valid` meets its contract: the steps that are used are asked one by one. Assumes nothing.
use borrow.Author.Rules.{rules}
use mathlib.Core.Path.{◌≡◌, sym, ◌∙◌}
use Prim.Native.Nat.{◌≤◌}
use native.Mathlib.Omega.{arith}
use lib.ListN.{length, take}
use Rattle.std.specs.Prelude.{IsTrue, ◌↔◌}
use Rattle.std.specs.List.{All}
use Rattle.path.proofs.Structs.{asked_good, good_all}
use Rattle.path.proofs.is_valid.Goals as goal

pub returns : goal.returns
returns c =
    let p = c.args.p in
    let full : length p.steps ≡ 6 = search rules in
    let e : IsTrue c.all.result ↔ All (λ s. (1 ≤ s) × (s ≤ 32)) (take p.len p.steps) = search rules in
    good_all c.all.result (take p.len p.steps) e ∙ sym (asked_good p full (omega arith))
