-- The two dossiers as a new one leaves them. Assumes nothing.
use mathlib.Core.Path.{◌≡◌, refl, sym, ap, ap₂, subst, ◌∙◌}
use mathlib.Core.Bool.{Bool, true, false, not, ◌&&◌}
use mathlib.Core.List.{[], ◌∷◌}
use Prim.Native.Nat.{ℕ}
use native.Mathlib.Omega.{arith}
use lib.Dec.{T, eqb, leb, leb→le}
use Rattle.laws.specs.Slots.{pick}
use Rattle.model.specs.Things as things
use Rattle.model.specs.Things.{State}
use Rattle.model.specs.Refusals.{user_good, first_that}
use Rattle.model.specs.Run as run
use Rattle.model.specs.Run.{step, or_refused, dossier_good}
use Rattle.tables.specs.declared.Dossier.{Dossier}
use Rattle.tables.specs.View.{dossier_of, DossierSound}
use Rattle.state.specs.declared.DossiersOut.{DossiersOut}
use Rattle.std.specs.Prelude.{Ok, Err}
use Rattle.state.specs.declared.Reply.TheVariants.{Done}
use Rattle.state.specs.declared.refusal.Refusal.TheVariants.{BadOperand}
use Rattle.state.specs.Refusals.{refusal_of}
use Rattle.state.specs.View.{answer_of}
use Rattle.state.specs.Calls.{having, dossiers_after}
use Rattle.state.proofs.Sessions.{dossier_same}

-- ---- operands that are not good
pub no_owner : (b : Bool) {u : Bool} → u ≡ false → (b && u) ≡ false
no_owner true e = e
no_owner false e = refl

pub no_dossier : (n : ℕ) → (n ≡ 1 → ⊥) → (n ≡ 2 → ⊥) → dossier_good n ≡ false
no_dossier n f g = go (leb 1 n) refl (leb n 2) refl
  where
    go : (a : Bool) → leb 1 n ≡ a → (b : Bool) → leb n 2 ≡ b → dossier_good n ≡ false
    go false d b e = ap (λ (t : Bool). t && leb n 2) d
    go true d false e = ap₂ ◌&&◌ d e
    go true d true e = let x = leb→le 1 n (subst T (sym d) tt) in let y = leb→le n 2 (subst T (sym e) tt) in absurd (omega arith)

-- ---- what is left
-- the model's state with another dossier in the first place, or in the second
abbrev pub with_new : Bool → things.Dossier → State → State
with_new b d s =
    pick b (record { one = d; two = s.two; clipboard = s.clipboard; signatures = s.signatures; log = s.log })
    (record { one = s.one; two = d; clipboard = s.clipboard; signatures = s.signatures; log = s.log })

-- the answer and the dossiers, by whether the operands are good and which dossier it is
unfoldable by : Dossier → Dossier → ℕ → Bool → Bool → DossiersOut
by one two owner good first =
    let s = having one two in
    let out = or_refused (first_that ((1, not good) ∷ [])) s (with_new first (things.bare owner) s) run.done in
    record { one = dossier_of out.0.one; two = dossier_of out.0.two; answer = answer_of out.1.answer }

module _ {one two : Dossier} (h : DossierSound one) (k : DossierSound two) where
  pub new_refused : (n owner : ℕ) → (dossier_good n && user_good owner) ≡ false → record { one = one; two = two; answer = Err BadOperand } ≡ dossiers_after one two (run.new n owner)
  unfolding step by refusal_of
  new_refused n owner e =
      (λ i. record { one = dossier_same h i; two = dossier_same k i; answer = Err BadOperand }) ∙ ap (λ good. by one two owner good (eqb n 1)) (sym e)

  pub new_one : {d : Dossier} (n owner : ℕ) → d ≡ dossier_of (things.bare owner) → (dossier_good n && user_good owner) ≡ true → eqb n 1 ≡ true
      → record { one = d; two = two; answer = Ok Done } ≡ dossiers_after one two (run.new n owner)
  unfolding step by refusal_of
  new_one n owner d e f =
      (λ i. record { one = d i; two = dossier_same k i; answer = Ok Done }) ∙ (λ i. by one two owner (sym e i) (sym f i))

  pub new_two : {d : Dossier} (n owner : ℕ) → d ≡ dossier_of (things.bare owner) → (dossier_good n && user_good owner) ≡ true → eqb n 1 ≡ false
      → record { one = one; two = d; answer = Ok Done } ≡ dossiers_after one two (run.new n owner)
  unfolding step by refusal_of
  new_two n owner d e f =
      (λ i. record { one = dossier_same h i; two = d i; answer = Ok Done }) ∙ (λ i. by one two owner (sym e i) (sym f i))
