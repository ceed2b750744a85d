-- `path::path_of` meets its contract: after each turn the number is that of the length and the steps taken. Assumes nothing.
use borrow.Author.Rules.{rules}
use mathlib.Core.Path.{◌≡◌, sym, ap, subst, ◌∙◌}
use native.Mathlib.Omega.{arith}
use Prim.Native.Nat.{◌<◌}
use lib.ListN.{length, get_or}
use lib.Seq.{get_or-take}
use Rattle.path.specs.View.{path_of}
use Rattle.path.proofs.Structs.{asked_steps, asked_short}
use Rattle.path.proofs.Bytes.{Taken, taken_none, taken_next, taken_bound, taken_path}
use Rattle.path.proofs.path_of.Goals as goal

pub loop-s-init : goal.loop-s-init
loop-s-init c = let p = c.args.p in let n = asked_short p c.requires in (n, subst (Taken p.len 0 p.steps) (sym c.from-k.ensures) (taken_none p.len p.steps))

pub overflow_mul-k : goal.overflow_mul-k
overflow_mul-k c = let v = c.loop-s.invariant in let b = taken_bound v.1 v.0 (omega arith) in omega arith

pub overflow_add-k : goal.overflow_add-k
overflow_add-k c =
    let v = c.loop-s.invariant in
    let p = c.args.p in
    let i = c.loop-s.s-index in
    let full : length p.steps ≡ 6 = search rules in
    let b = taken_bound v.1 v.0 (omega arith) in
    let w = c.from.ensures ∙ get_or-take p.len p.steps i 0 (omega arith) in
    let f : get_or p.steps i 0 < 256 = search rules in
    omega arith

pub loop-s-preserved : goal.loop-s-preserved
loop-s-preserved c =
    let v = c.loop-s.invariant in
    let p = c.args.p in
    let full : length p.steps ≡ 6 = search rules in
    let i = c.loop-s.s-index in
    let w = c.from.ensures ∙ get_or-take p.len p.steps i 0 (omega arith) in
    let f : get_or p.steps i 0 < 256 = search rules in
    (v.0, taken_next v.1 (omega arith) w (omega arith))

pub returns : goal.returns
returns c =
    let l = c.loop-s in
    let v = l.invariant in
    let p = c.args.p in
    let full : length p.steps ≡ 6 = search rules in
    let e : l.s-index ≡ p.len = omega arith in
    taken_path l.k p.len p.steps v.0 (omega arith) (subst (λ j. Taken p.len j p.steps l.k) e v.1)
    ∙ ap path_of (sym (asked_steps p full v.0))
