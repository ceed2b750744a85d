-- `rows::merged` meets its contract: two lists in order, put together from their ends: at each turn the row that comes last. Assumes nothing.
use Rattle.std.proofs.Common.{rules}
use mathlib.Core.Path.{ap, subst, ◌∙◌}
use native.Mathlib.Omega.{arith}
use lib.ListN.{length-set, get_or}
use Prim.Native.Nat.{◌-◌}
use Rattle.rows.specs.Tables.{table_with}
use Rattle.rows.proofs.Merging.{rows_full, begins, ends, may_ask, only_left, left, right}
use Rattle.rows.proofs.merged.Goals as goal
use Rattle.rows.proofs.merged.Goals.{else-j-gt0-via-then-j-gt0+else-before, else-j-gt0-via-else-j-gt0}

pub loop-i-init : goal.loop-i-init
loop-i-init g c = (search rules, search rules, c.requires.room, rows_full g.met.R.Row.laws c.requires, search rules, begins g.met.R.Row.laws c.requires)

pub before-requires : goal.before-requires
before-requires g c =
    let l = c.loop-i in
    may_ask g.met.R.Row.laws c.requires l.invariant.5 c.loop-i-test.true l.invariant.0 l.invariant.1 c.index-c-i.is c.if-j-gt0.true c.index-out-j.result

pub loop-i-preserved-then-before : goal.loop-i-preserved-then-before
loop-i-preserved-then-before g c =
    let l = c.loop-i in (
      l.invariant.0,
      omega arith,
      l.invariant.2,
      length-set l.out.rows _ _ ∙ l.invariant.3,
      l.invariant.4,
      right g.met.R.Row.laws c.requires l.invariant.5 c.loop-i-test.true l.invariant.0 l.invariant.1 c.index-c-i.is c.if-j-gt0.true c.index-out-j.result
          (subst (λ b. g.F.Fn.post c.args.before (c.index-c-i.result, (get_or l.out.rows (l.j - 1) c.index-out-j.result, tt)) b) c.if-before.true c.before-then-j-gt0.ensures) c.index-out-j-then-before.result,
    )

pub loop-i-preserved : goal.loop-i-preserved
loop-i-preserved g c =
    let l = c.loop-i in (
      omega arith,
      l.invariant.1,
      l.invariant.2,
      length-set l.out.rows _ _ ∙ l.invariant.3,
      l.invariant.4,
      elim c.else-j-gt0.branch [
        | else-j-gt0-via-then-j-gt0+else-before w ↦
            left g.met.R.Row.laws c.requires l.invariant.5 c.loop-i-test.true l.invariant.0 l.invariant.1 c.index-c-i.is w.if-j-gt0.true w.index-out-j.result
            (subst (λ b. g.F.Fn.post c.args.before (c.index-c-i.result, (get_or l.out.rows (l.j - 1) w.index-out-j.result, tt)) b) w.if-before.false w.before-then-j-gt0.ensures)
        | else-j-gt0-via-else-j-gt0 w ↦ only_left g.met.R.Row.laws c.requires l.invariant.5 c.loop-i-test.true l.invariant.0 l.invariant.1 c.index-c-i.is (omega (arith, w.if-j-gt0.false))
      ],
    )

pub returns : goal.returns
returns g c =
    let l = c.loop-i in
    ap (table_with g.row.N l.out.rows) l.invariant.4 ∙ ends g.met.R.Row.laws c.requires l.invariant.5 (omega (arith, c.loop-i-test.false)) l.invariant.1
