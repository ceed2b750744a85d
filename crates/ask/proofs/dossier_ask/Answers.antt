-- `ask::dossier_ask` meets its contract: the verdict's number, and its two sets where there is room. Assumes nothing.
use mathlib.Core.Path.{◌∙◌}
use lib.IntN.{ℤ}
use mir.Syntax.{w64}
use mir.ValLaws.{to_z-of_z}
use Rattle.model.specs.Run.{Question}
use Rattle.ask.specs.Asked.{question_of}
use Rattle.ask.proofs.Answers.{answer_refused, answer_short, answer_written}
use Rattle.ask.proofs.dossier_ask.Goals as goal

pub returns-then-out-lt8 : goal.returns-then-out-lt8
returns-then-out-lt8 c =
    let a = c.args in
    let q : ℤ → Question = λ t. question_of a.role a.user t a.len a.s1 a.s2 a.s3 a.s4 a.s5 a.s6 a.name a.action in
    let h = answer_short a.image.now a.out.now q (to_z-of_z w64 a.time c.ranges.time) c.decided.ensures c.in-Ok.is
    c.if-out-lt8.true in
    record { number = c.number-then-out-lt8.ensures ∙ h.0; bytes = h.1 }

pub returns-in-Err : goal.returns-in-Err
returns-in-Err c =
    let a = c.args in
    let q : ℤ → Question = λ t. question_of a.role a.user t a.len a.s1 a.s2 a.s3 a.s4 a.s5 a.s6 a.name a.action in
    let h = answer_refused a.image.now a.out.now q (to_z-of_z w64 a.time c.ranges.time) c.decided.ensures c.in-Err.is c.number.ensures in
    record { number = h.0; bytes = h.1 }

pub returns-else-out-lt8 : goal.returns-else-out-lt8
returns-else-out-lt8 c =
    let a = c.args in
    let q : ℤ → Question = λ t. question_of a.role a.user t a.len a.s1 a.s2 a.s3 a.s4 a.s5 a.s6 a.name a.action in
    let h = answer_written a.image.now a.out.now q (to_z-of_z w64 a.time c.ranges.time) c.decided.ensures c.in-Ok.is
    c.if-out-lt8.false c.put4.ensures c.put4-in-Ok.ensures in
    record { number = h.0; bytes = h.1 }
