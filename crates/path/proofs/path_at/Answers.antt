-- `path::path_at` meets its contract. The loop’s invariant: the number is that of the length and the steps seen so far, and those not yet seen decide. Assumes nothing.
use borrow.Author.Tests.{not-true, not-false}
use mathlib.Core.Bool.{true, false, ◌&&◌}
use mathlib.Core.Path.{◌≡◌, sym, ap, subst, ◌∙◌}
use Prim.Native.Nat.{◌+◌, ◌-◌, ◌<◌}
use native.Mathlib.Numerals.{unary_clauses}
use native.Mathlib.Omega.{arith}
use lib.ListN.{take, drop, get_or, drop_of_length-le}
use lib.Seq.{get_or-take, get_or-drop}
use Rattle.path.specs.Bytes.{read_steps, step_fits}
use Rattle.path.proofs.Bytes.{Taken, taken_none, taken_next, taken_bound, steps_fit, fit_next, read_none, read_some, read_path_lem, seven, six, six_length, six_next}
use Rattle.path.proofs.Structs.{there, gone}
use Rattle.path.proofs.path_at.Goals as goal

pub loop-i-init : goal.loop-i-init
loop-i-init c =
    let n = get_or c.args.s.now c.args.at 0 in
    let t = six c.args.s.now c.args.at in
    (c.if-len-gt6.false, subst (Taken n 0 t) (sym c.from-k.ensures) (taken_none n t), simp unary_clauses)

pub returns-then-not-step_fits : goal.returns-then-not-step_fits
returns-then-not-step_fits c =
    let l = c.loop-i in
    let b = c.args.s.now in
    let t = six b c.args.at in
    let n = get_or b c.args.at 0 in
    let x = get_or t l.i 0 in
    let full = six_length b c.args.at c.requires in
    let f : step_fits l.i n x ≡ false = sym c.step_fits.ensures ∙ not-true _ c.if-not-step_fits.true-raw in
    let w : steps_fit n t ≡ false = l.invariant.2 ∙ fit_next l.i n x (six_next t l.i c.loop-i-test.true) ∙ ap (λ a. a && steps_fit (n - (l.i + 1)) (drop (l.i + 1) t)) f in
    gone (read_steps (take 7 (drop c.args.at b))) (ap read_steps (seven b c.args.at c.requires) ∙ read_none n t full c.if-len-gt6.false w)

pub overflow_mul-k : goal.overflow_mul-k
overflow_mul-k c =
    let v = c.loop-i.invariant in
    let full = six_length c.args.s.now c.args.at c.requires in
    let h : c.loop-i.i < 6 = omega (arith, c.loop-i-test.true) in
    let b = taken_bound v.1 v.0 (omega arith) in omega arith

pub overflow_add-k : goal.overflow_add-k
overflow_add-k c =
    let v = c.loop-i.invariant in
    let full = six_length c.args.s.now c.args.at c.requires in
    let b = taken_bound v.1 v.0 (omega (arith, c.loop-i-test.true)) in
    let h = c.from.ensures in
    let r = get_or-take (c.args.at + 7 - (c.args.at + 1)) (drop (c.args.at + 1) c.args.s.now) c.loop-i.i 0 (omega (arith, c.loop-i-test.true)) ∙ get_or-drop (c.args.at + 1) c.args.s.now c.loop-i.i 0 in
    let f = (c.type_inv.s (c.args.at + 1 + c.loop-i.i)).fits in
    omega arith

pub loop-i-preserved : goal.loop-i-preserved
loop-i-preserved c =
    let l = c.loop-i in
    let b = c.args.s.now in
    let t = six b c.args.at in
    let n = get_or b c.args.at 0 in
    let x = get_or t l.i 0 in
    let full = six_length b c.args.at c.requires in
    let r = get_or-take (c.args.at + 7 - (c.args.at + 1)) (drop (c.args.at + 1) b) l.i 0 (omega (arith, c.loop-i-test.true)) ∙ get_or-drop (c.args.at + 1) b l.i 0 in
    let byte = (c.type_inv.s (c.args.at + 1 + l.i)).fits in
    let f : step_fits l.i n x ≡ true = sym c.step_fits.ensures ∙ not-false _ c.if-not-step_fits.false-raw in
    let h = c.from.ensures in (
      l.invariant.0,
      taken_next l.invariant.1 c.loop-i-test.true c.from.ensures (omega arith),
      l.invariant.2 ∙ fit_next l.i n x (six_next t l.i c.loop-i-test.true) ∙ ap (λ a. a && steps_fit (n - (l.i + 1)) (drop (l.i + 1) t)) f,
    )

pub returns : goal.returns
returns c =
    let l = c.loop-i in
    let b = c.args.s.now in
    let t = six b c.args.at in
    let n = get_or b c.args.at 0 in
    let full = six_length b c.args.at c.requires in
    let done = c.loop-i-test.false in
    let end = l.auto.i-end in
    let six-done : l.i ≡ 6 = omega arith in
    let w : steps_fit n t ≡ true = l.invariant.2 ∙ ap (steps_fit (n - l.i)) (drop_of_length-le t {i = l.i} (omega arith)) in
    there (read_steps (take 7 (drop c.args.at b)))
    (read_path_lem n t full c.if-len-gt6.false w (subst (λ i. Taken n i t l.k) six-done l.invariant.1))
    (ap read_steps (seven b c.args.at c.requires) ∙ read_some n t full c.if-len-gt6.false w)
