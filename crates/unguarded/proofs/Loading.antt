-- The two dossiers as a load leaves them. Assumes nothing.
use mathlib.Core.Path.{◌≡◌, refl, sym, ap, ◌∙◌}
use mathlib.Core.Bool.{Bool, true, false, not}
use mathlib.Core.Option.{none, some}
use mathlib.Core.List.{List, [], ◌∷◌}
use Prim.Native.Nat.{ℕ}
use lib.Dec.{eqb}
use Rattle.std.proofs.Common.{Result, Ok, Err}
use Rattle.path.proofs.Structs.{no}
use Rattle.model.specs.Things as things
use Rattle.model.specs.Things.{State}
use Rattle.model.specs.Refusals.{first_that}
use Rattle.model.specs.Image as images
use Rattle.model.specs.Image.{Loaded, bad, good}
use Rattle.model.specs.Run as run
use Rattle.model.specs.Run.{Reply, step, reply, dossier_good}
use Rattle.tables.specs.declared.Dossier.{Dossier}
use Rattle.tables.specs.View.{dossier_of, DossierSound}
use Rattle.image.specs.declared.BadRecord as image
use Rattle.image.specs.View.{loaded_of}
use Rattle.state.specs.declared.DossiersOut.{DossiersOut}
use Rattle.std.specs.Prelude.{Ok, Err}
use Rattle.state.specs.declared.Reply.TheVariants.{Done}
use Rattle.state.specs.declared.refusal.Refusal.TheVariants.{BadOperand, BadRecord}
use Rattle.state.specs.Refusals.{refusal_of}
use Rattle.state.specs.View.{answer_of}
use Rattle.state.specs.Calls.{having, dossiers_after}
use Rattle.state.proofs.Sessions.{dossier_same}
use Rattle.unguarded.proofs.Renewing.{with_new}

-- ---- what the loader found
abbrev dossier_in : Dossier → Result Dossier image.BadRecord → Dossier
dossier_in d (Ok x) = x
dossier_in d (Err k) = d

abbrev number_in : Result Dossier image.BadRecord → ℕ
number_in (Ok x) = 0
number_in (Err k) = k.number

abbrev is_good : Result Dossier image.BadRecord → Bool
is_good (Ok x) = true
is_good (Err k) = false

pub found_bad : {r : image.BadRecord} (m : Loaded things.Dossier) → Err r ≡ loaded_of m → m ≡ bad r.number
found_bad (bad k) e = ap bad (sym (ap number_in e))
found_bad (good d) e = no (sym (ap is_good e))

pub record Good (x : Dossier) (m : Loaded things.Dossier) : Type 0 where
  pub dossier : things.Dossier
  pub is : m ≡ good dossier
  pub same : x ≡ dossier_of dossier

pub found_good : {x : Dossier} (m : Loaded things.Dossier) → Ok x ≡ loaded_of m → Good x m
found_good (bad k) e = no (ap is_good e)
found_good {x} (good d) e = record { dossier = d; is = refl; same = ap (dossier_in x) e }

-- ---- what is left, by whether the number is one and what was found
unfoldable by : Dossier → Dossier → ℕ → List ℕ → Bool → Loaded things.Dossier → DossiersOut
by one two n image fair l =
    let s = having one two in
    let out : State × Reply = elim (first_that ((1, not fair) ∷ [])) [ none ↦ run.loaded s n image l | some k ↦ (s, reply (run.refused k) (image ∷ [])) ] in
    record { one = dossier_of out.0.one; two = dossier_of out.0.two; answer = answer_of out.1.answer }

module _ {one two : Dossier} (h : DossierSound one) (k : DossierSound two) (n : ℕ) (image : List ℕ) where
  pub load_refused : dossier_good n ≡ false → record { one = one; two = two; answer = Err BadOperand } ≡ dossiers_after one two (run.load n image)
  unfolding step by refusal_of
  load_refused e =
      (λ i. record { one = dossier_same h i; two = dossier_same k i; answer = Err BadOperand }) ∙ ap (λ fair. by one two n image fair (images.load image)) (sym e)

  pub load_bad : (j : ℕ) → dossier_good n ≡ true → images.load image ≡ bad j → record { one = one; two = two; answer = Err (BadRecord j) } ≡ dossiers_after one two (run.load n image)
  unfolding step by refusal_of
  load_bad j e m = (λ i. record { one = dossier_same h i; two = dossier_same k i; answer = Err (BadRecord j) }) ∙ (λ i. by one two n image (sym e i) (sym m i))

  -- the dossier in the first place, or in the second
  placed : (d : things.Dossier) (first : Bool) → eqb n 1 ≡ first
      → record { one = dossier_of (with_new first d (having one two)).one; two = dossier_of (with_new first d (having one two)).two; answer = Ok Done } ≡ by one two n image true (good d)
  unfolding by
  placed d first e = λ i. record { one = dossier_of (with_new (sym e i) d (having one two)).one; two = dossier_of (with_new (sym e i) d (having one two)).two; answer = Ok Done }

  module _ {x : Dossier} {d : things.Dossier} (is : x ≡ dossier_of d) (e : dossier_good n ≡ true) (m : images.load image ≡ good d) where
    whole : by one two n image true (good d) ≡ dossiers_after one two (run.load n image)
    unfolding step by refusal_of
    whole = λ i. by one two n image (sym e i) (sym m i)

    pub load_one : eqb n 1 ≡ true → record { one = x; two = two; answer = Ok Done } ≡ dossiers_after one two (run.load n image)
    load_one f = (λ i. record { one = is i; two = dossier_same k i; answer = Ok Done }) ∙ placed d true f ∙ whole

    pub load_two : eqb n 1 ≡ false → record { one = one; two = x; answer = Ok Done } ≡ dossiers_after one two (run.load n image)
    load_two f = (λ i. record { one = dossier_same h i; two = is i; answer = Ok Done }) ∙ placed d false f ∙ whole
