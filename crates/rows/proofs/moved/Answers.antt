-- `rows::moved` meets its contract: what f gives of the rows so far stands at the front, for whatever g says what f gives. Assumes nothing.
use Rattle.std.proofs.Common.{rules}
use mathlib.Core.Path.{sym, ap, ◌∙◌}
use native.Mathlib.Omega.{arith}
use native.Mathlib.Numerals.{unary_clauses}
use lib.ListN.{length, length-replicate, length-set, replicate}
use Rattle.laws.specs.Sorted.{move}
use Rattle.laws.proofs.Fill.{begin}
use Rattle.rows.specs.Tables.{table_with}
use Rattle.rows.proofs.Steps.{row_room, row_sound, filled_more, filled_past, filled_end, table_held}
use Rattle.rows.proofs.moved.Goals as goal
use Rattle.rows.proofs.moved.Goals.{in-Some, in_default}

pub loop-row-init : goal.loop-row-init
loop-row-init g c =
    let r = g.R.Row in
    let h = table_held g.row.N r.blank r.of r.lt c.args.t.now c.requires.sound in
    (search rules, length-replicate g.row.N c.unused-rows.result, row_room r.view h, λ k m. begin (table_with g.row.N) r.of (move k) g.row.N r.blank _ _ (simp unary_clauses (ap (replicate g.row.N) c.unused-rows.ensures)))

pub f-requires : goal.f-requires
f-requires g c =
    let r = g.R.Row in
    let h = table_held g.row.N r.blank r.of r.lt c.args.t.now c.requires.sound in
    c.requires.callable c.row-item.result (row_sound r.view h c.loop-row.row-index c.row-item.result c.row-item.result c.row-item.is c.loop-row-test.true)

pub loop-row-preserved : goal.loop-row-preserved
loop-row-preserved g c =
    let r = g.R.Row in
    let h = table_held g.row.N r.blank r.of r.lt c.args.t.now c.requires.sound in
    let l = c.loop-row in
    let x = c.row-item.result in
    let s = row_sound r.view h l.row-index x x c.row-item.is c.loop-row-test.true in
    elim c.match-f.branch [
      | in-Some w ↦ (
        omega (arith, w.count-is),
        ap length w.rows-is ∙ length-set l.rows l.count w.in-Some.kept ∙ l.invariant.1,
        l.invariant.2,
        λ k m.
            rw (w.rows-is, w.count-is)
            (filled_more r.view h k (l.invariant.3 k m) x x c.row-item.is c.loop-row-test.true l.invariant.0 (sym (m x c.f.result s c.f.ensures) ∙ w.in-Some.is)),
      )
      | in_default w ↦ (
        omega (arith, w.count-is),
        ap length w.rows-is ∙ l.invariant.1,
        l.invariant.2,
        λ k m.
            rw (w.rows-is, w.count-is)
            (filled_past r.view h k (l.invariant.3 k m) x x c.row-item.is c.loop-row-test.true (sym (m x c.f.result s c.f.ensures) ∙ w.in_default.is)),
      )
    ]

pub returns : goal.returns
returns g c =
    let r = g.R.Row in
    λ k m. filled_end r.view (table_held g.row.N r.blank r.of r.lt c.args.t.now c.requires.sound) k (c.loop-row.invariant.3 k m) c.loop-row-test.false
