-- The rows of agreements as a sign leaves them. Assumes nothing.
use mathlib.Core.Path.{◌≡◌, refl, sym, ap, ◌∙◌}
use mathlib.Core.Bool.{Bool, true, false, ◌&&◌, not}
use mathlib.Core.List.{List, [], ◌∷◌}
use Prim.Native.Nat.{ℕ, zero, suc, ◌-◌, ◌^◌}
use lib.Dec.{leb}
use lib.Bits.{bit_or}
use lib.ListN.{get_or, set, get_or-map}
use Rattle.model.specs.Refusals.{user_good, first_that}
use Rattle.model.specs.Run as run
use Rattle.model.specs.Run.{step, or_refused, with_signatures}
use Rattle.state.specs.declared.Agreements.{Agreements}
use Rattle.std.specs.Prelude.{Ok, Err}
use Rattle.state.specs.declared.Reply.TheVariants.{Done}
use Rattle.state.specs.declared.refusal.Refusal.TheVariants.{BadOperand}
use Rattle.state.specs.Refusals.{refusal_of}
use Rattle.state.specs.declared.signatures.SignaturesOut.{SignaturesOut}
use Rattle.state.specs.View.{view_signatures, signatures_of, answer_of}
use Rattle.state.specs.Calls.{signed_of, having_signatures}

pub rows_back : (l : List Agreements) → signatures_of (view_signatures l) ≡ l
rows_back [] = refl
rows_back (x ∷ l) = ap (λ z. x ∷ z) (rows_back l)

set_back : (l : List Agreements) (i n : ℕ) → signatures_of (set (view_signatures l) i n) ≡ set l i (record { signed = n })
set_back [] i n = refl
set_back (x ∷ l) zero n = ap (λ z. record { signed = n } ∷ z) (rows_back l)
set_back (x ∷ l) (suc i) n = ap (λ z. x ∷ z) (set_back l i n)

-- the answer and the rows, by whether the operands are good
unfoldable by : List Agreements → ℕ → ℕ → Bool → SignaturesOut
by rows user agreement good =
    let s = having_signatures rows in
    let out = or_refused (first_that ((1, not good) ∷ [])) s (with_signatures (run.signed user agreement (view_signatures rows)) s) run.done in
    record { signatures = signatures_of out.0.signatures; answer = answer_of out.1.answer }

pub sign_refused : (rows : List Agreements) (user agreement : ℕ) → (user_good user && leb agreement 31) ≡ false
    → record { signatures = rows; answer = Err BadOperand } ≡ signed_of rows user agreement
unfolding step by refusal_of
sign_refused rows user agreement e = ap (λ z. record { signatures = z; answer = Err BadOperand }) (sym (rows_back rows)) ∙ ap (by rows user agreement) (sym e)

pub sign_done : (rows : List Agreements) (user agreement : ℕ) → (user_good user && leb agreement 31) ≡ true
    → record { signatures = set rows (user - 1) (record { signed = bit_or (get_or rows (user - 1) (record { signed = 0 })).signed (2 ^ agreement) }); answer = Ok Done }
    ≡ signed_of rows user agreement
unfolding step by refusal_of
sign_done rows user agreement e =
    ap (λ n. record { signatures = set rows (user - 1) (record { signed = bit_or n (2 ^ agreement) }); answer = Ok Done })
    (sym (get_or-map (λ (r : Agreements). r.signed) rows (user - 1) (record { signed = 0 })))
    ∙ ap (λ z. record { signatures = z; answer = Ok Done }) (sym (set_back rows (user - 1) (bit_or (run.signed_by user (view_signatures rows)) (2 ^ agreement))))
    ∙ ap (by rows user agreement) (sym e)
