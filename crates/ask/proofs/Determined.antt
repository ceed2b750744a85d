-- The promise of `ask::dossier_ask` determines its result and every byte of the lent buffer: any two that it allows are equal. Assumes nothing.
use mathlib.Core.Path.{◌≡◌, sym, ◌∙◌}
use mathlib.Core.List.{List}
use Prim.Native.Nat.{ℕ}
use contract.Lifetimes.{Lfts}
use denote.Triple.Clauses.{AtExit}
use borrow.Fn.Kinds.{Dens, ended_of, res_t}
use Rattle.ask.proofs.dossier_ask.Kinds as kinds
use Rattle.ask.proofs.dossier_ask.Reads as promise

-- the lent buffer as a call leaves it: the last of its operands
abbrev out_left : (κs : Lfts 2) → AtExit (ended_of 2 kinds.ps kinds.r) κs → List ℕ
out_left κs s = s.1.1.1.1.1.1.1.1.1.1.1.1.1.0.now

-- of one call with its operands a: two numbers, each with what the call leaves, both as the contract says
pub ask_determined : (κs : Lfts 2) (a : Dens κs kinds.ps) (n m : (res_t kinds.r κs).Denot) (s t : AtExit (ended_of 2 kinds.ps kinds.r) κs)
    → promise.Post κs a n s → promise.Post κs a m t → (n ≡ m) × (out_left κs s ≡ out_left κs t)
ask_determined κs a n m s t h k = (h.0 ∙ sym k.0, h.1 ∙ sym k.1)
