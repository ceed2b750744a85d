-- `words::words_in` meets its contract. Assumes nothing.
use Rattle.std.proofs.Common.{◌<◌, ◌∷◌, [], ◌++◌, map, length, not, eqb, ap, ◌∙◌, rules, tests, arith}
use Rattle.std.proofs.lemmas.Iterator.{YieldsList-from_take}
use Rattle.std.proofs.lemmas.Iterator.Splits.{YieldsList-from_slice_split}
use Rattle.std.proofs.lemmas.Iterator.Consumers.{YieldsList-turn, YieldsList-end, YieldsList-from_filter}
use Rattle.std.proofs.lemmas.List.{length_push, take_more_set}
use lib.ListN.{length-take, length-set}
use Rattle.words.specs.Words.{words_in}
use Rattle.words.proofs.words_in.Goals as goal
use Rattle.words.proofs.words_in.Goals.{In-Some}

-- there is room for the word of this turn
room : (c : In-Some) → c.loop-word.ws.count < 18
room c =
    let t = YieldsList-turn (YieldsList-from_take 18 (YieldsList-from_filter _ (λ w. not (eqb (length w) 0)) (YieldsList-from_slice_split _ (λ x. eqb x 32) c.args.line.now (cc) (cc) (cc) (λ x b q k. search (rules, tests))) (cc) (λ x b q k. search (rules, tests))) (cc)) c.loop-word.yielded _ c.loop-word.yielded_by _ _ c.in-Some.word c.in-Some.is c.next.ensures.steps in
    let l = length-take 18 (words_in c.args.line.now) in
    omega (arith, t.0)

pub offset_bounds-ws-ws : goal.offset_bounds-ws-ws
offset_bounds-ws-ws c = let r = room c in search rules

pub loop-word-preserved : goal.loop-word-preserved
loop-word-preserved c =
    let i = c.loop-word.invariant in
    let r = room c in
    let n = length_push c.loop-word.yielded c.in-Some.word in
    record {
      room = length-set c.loop-word.ws.at c.loop-word.ws.count c.in-Some.word ∙ i.room;
      few = omega arith;
      each = omega arith;
      held = take_more_set c.loop-word.ws.at c.loop-word.ws.count c.in-Some.word (omega arith) ∙ ap (λ l. l ++ (c.in-Some.word ∷ [])) i.held;
    }

pub returns : goal.returns
returns c =
    let i = c.loop-word.invariant in
    let e = YieldsList-end (YieldsList-from_take 18 (YieldsList-from_filter _ (λ w. not (eqb (length w) 0)) (YieldsList-from_slice_split _ (λ x. eqb x 32) c.args.line.now (cc) (cc) (cc) (λ x b q k. search (rules, tests))) (cc) (λ x b q k. search (rules, tests))) (cc)) c.loop-word.yielded _ c.loop-word.yielded_by _ _ c.in-None.is c.next.ensures.steps in
    (i.few, ap (map (λ w. w.now)) i.held ∙ e.0)
