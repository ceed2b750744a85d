-- `state::entries::logged` meets its contract: the messages still to come are stored behind the entries. Assumes nothing.
use mathlib.Core.Path.{sym, ap, ap₂, ◌∙◌}
use mathlib.Core.List.{map}
use Prim.Native.Nat.{◌+◌, ◌/◌}
use native.Mathlib.Omega.{arith}
use lib.ListN.{length, length-set}
use Rattle.laws.specs.Slots.{filled}
use Rattle.laws.proofs.Fill.{fill_turn}
use Rattle.state.specs.declared.Log.{Log}
use Rattle.state.specs.View.{entry_of, log_with}
use Rattle.state.proofs.Messages.{coming, coming_in, coming_out}
use Rattle.state.proofs.Logs.{log_full_lem, log_behind}
use Rattle.state.proofs.entries.logged.Invariants.{entries_of}
use Rattle.state.proofs.entries.logged.Goals as goal
use Rattle.state.proofs.entries.logged.Goals.{then-left-eq1, else-left-eq1}

pub loop-m-init : goal.loop-m-init
loop-m-init c =
    let h = c.requires.0 in
    (log_full_lem _ h, c.requires.1, log_behind _ h _)

pub bounds-out-at : goal.bounds-out-at
bounds-out-at c =
    let l = c.loop-m in
    let e = ap length (coming_in l.m l.left c.loop-m-test.true c.if-left-eq1.true) in
    let f = l.invariant.1 in
    omega arith

pub loop-m-preserved : goal.loop-m-preserved
loop-m-preserved c =
    let l = c.loop-m in
    let user = c.args.user in
    let f = l.invariant.0 in
    let g = l.invariant.1 in
    let rest = map entry_of (entries_of user (coming (l.m + 1) (l.left / 2))) in
    elim c.if-left-eq1.branch [
      | then-left-eq1 w ↦
          let e = coming_in l.m l.left c.loop-m-test.true w.if-left-eq1.true in
          let n = ap length e in
          let o = ap (λ (x : Log). x.entries) w.out-is in
          let a = w.at-is in (
            ap length o ∙ length-set l.out.entries l.at _ ∙ f,
            omega arith,
            l.invariant.2 ∙ ap (λ z. filled log_with l.out.entries l.at (map entry_of (entries_of user z))) e
                ∙ fill_turn log_with l.out.entries l.at (entry_of (user, l.m)) rest (omega arith)
                ∙ ap₂ (λ p q. filled log_with p q rest) (sym o) (sym a),
          )
      | else-left-eq1 w ↦
          let e = coming_out l.m l.left c.loop-m-test.true w.if-left-eq1.false in
          let n = ap length e in
          let o = ap (λ (x : Log). x.entries) w.out-is in
          let a = w.at-is in (
            ap length o ∙ f,
            omega arith,
            l.invariant.2 ∙ ap (λ z. filled log_with l.out.entries l.at (map entry_of (entries_of user z))) e ∙ ap₂ (λ p q. filled log_with p q rest) (sym o) (sym a),
          )
    ]
