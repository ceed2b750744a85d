-- `words::paths::steps_in` meets its contract. Assumes nothing.
use Rattle.std.proofs.Common.{◌≡◌, ℕ, ◌<◌, length, get_or, eqb, sym, ◌∙◌, subst, rules, tests, arith}
use Rattle.std.proofs.lemmas.Iterator.Splits.{YieldsList-from_slice_split}
use Rattle.std.proofs.lemmas.Iterator.Consumers.{YieldsList-turn, YieldsList-end}
use Rattle.std.proofs.lemmas.List.{length_push}
use Rattle.words.specs.Words.{split}
use Rattle.words.proofs.Steps.{Steps, steps_end, steps_bad, steps_over, steps_next}
use Rattle.words.proofs.paths.steps_in.Goals as goal
use Rattle.words.proofs.paths.steps_in.Goals.{In-Some}

-- the part that this turn reads
turn : (c : In-Some) → (length c.loop-word.yielded < length (split 46 c.args.s.now)) × (c.in-Some.word.now ≡ get_or (split 46 c.args.s.now) (length c.loop-word.yielded) c.in-Some.word.now)
turn c =
    YieldsList-turn (YieldsList-from_slice_split _ (λ x. eqb x 46) c.args.s.now (cc) (cc) (cc) (λ x b q k. search (rules, tests))) c.loop-word.yielded _ c.loop-word.yielded_by _ _ c.in-Some.word c.in-Some.is c.next.ensures.steps

pub returns-in_err-n : goal.returns-in_err-n
returns-in_err-n c =
    c.from_residual.ensures ∙ steps_bad c.args.s.now _ c.loop-word.path c.loop-word.invariant c.in-Some.word.now (turn (goal.at.returns-in_err-n c).In-Some) (sym c.in_err-n.was ∙ c.byte_in.ensures)

pub returns-then-path : goal.returns-then-path
returns-then-path c =
    steps_over c.args.s.now _ c.loop-word.path c.loop-word.invariant c.in-Some.word.now (turn (goal.at.returns-then-path c).In-Some) c.in_ok-n.n (sym c.in_ok-n.was ∙ c.byte_in.ensures) c.if-path.true

pub loop-word-preserved : goal.loop-word-preserved
loop-word-preserved c =
    subst (λ (n : ℕ). Steps c.args.s.now n c.with_step-path.result) (sym (length_push c.loop-word.yielded c.in-Some.word)) (steps_next c.args.s.now _ c.loop-word.path c.loop-word.invariant c.in-Some.word.now (turn (goal.at.loop-word-preserved c).In-Some) c.in_ok-n.n (sym c.in_ok-n.was ∙ c.byte_in.ensures) c.with_step-path.result c.with_step-path.ensures c.if-path.false)

pub returns : goal.returns
returns c =
    let t = YieldsList-end (YieldsList-from_slice_split _ (λ x. eqb x 46) c.args.s.now (cc) (cc) (cc) (λ x b q k. search (rules, tests))) c.loop-word.yielded _ c.loop-word.yielded_by _ _ c.in-None.is c.next.ensures.steps in
    steps_end c.args.s.now _ c.loop-word.path c.loop-word.invariant (omega (arith, t.1))
