-- The log as a take leaves it. Assumes nothing.
use mathlib.Core.Path.{◌≡◌, refl, sym, ap, ◌∙◌}
use mathlib.Core.Bool.{Bool, true, false}
use mathlib.Core.List.{List, [], ◌∷◌}
use Prim.Native.Nat.{ℕ, ◌*◌}
use native.Mathlib.Omega.{arith}
use lib.ListN.{length}
use Rattle.model.specs.Things.{State}
use Rattle.model.specs.Refusals.{first_that}
use Rattle.model.specs.Run.{Reply, step, take_log, writes, short, written, log_bytes, with_log}
use Rattle.state.specs.declared.Log.{Log}
use Rattle.std.specs.Prelude.{Ok, Err}
use Rattle.state.specs.declared.Reply.TheVariants.{Wrote}
use Rattle.state.specs.declared.refusal.Refusal.TheVariants.{ShortBuffer}
use Rattle.state.specs.Refusals.{refusal_of}
use Rattle.state.specs.View.{view_log, log_of, answer_of}
use Rattle.state.specs.Calls.{LogSound, having_log, taken_of, buffer_in, only_buffer}
use Rattle.state.proofs.Logs.{view_log_lem}

pub log_bytes_lem : (l : List (ℕ × ℕ)) → length (log_bytes l) ≡ 2 * length l
log_bytes_lem [] = refl
log_bytes_lem (e ∷ l) = let h = log_bytes_lem l in omega arith

pub log_back : (t : Log) → LogSound t → log_of (view_log t) ≡ t
log_back t h = ap log_of (ap view_log h.same ∙ view_log_lem h.model) ∙ sym h.same

-- what is left, by whether the buffer is too short
unfoldable by : Log → List ℕ → Bool → State × Reply
by t b tight = writes (first_that ((9, tight) ∷ [])) (having_log t) (with_log [] (having_log t)) (log_bytes (view_log t)) b

pub take_refused : (t : Log) → LogSound t → (b : List ℕ) → short (log_bytes (view_log t)) b ≡ true
    → (record { log = t; answer = Err ShortBuffer } ≡ taken_of t b) × (b ≡ buffer_in (having_log t) (take_log b))
unfolding step by refusal_of
take_refused t h b e = (
  ap (λ z. record { log = z; answer = Err ShortBuffer }) (sym (log_back t h))
      ∙ ap (λ tight. record { log = log_of (by t b tight).0.log; answer = answer_of (by t b tight).1.answer }) (sym e),
  ap (λ tight. only_buffer (by t b tight).1.lent) (sym e),
)

pub take_done : (t : Log) (b : List ℕ) → short (log_bytes (view_log t)) b ≡ false
    → (record { log = log_of []; answer = Ok (Wrote (length (log_bytes (view_log t)))) } ≡ taken_of t b) × (written (log_bytes (view_log t)) b ≡ buffer_in (having_log t) (take_log b))
unfolding step by refusal_of
take_done t b e = (
  ap (λ tight. record { log = log_of (by t b tight).0.log; answer = answer_of (by t b tight).1.answer }) (sym e),
  ap (λ tight. only_buffer (by t b tight).1.lent) (sym e),
)
