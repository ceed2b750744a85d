-- 9, a lent buffer too short, and the answer: what the model's step replies is what is decided, and then the test for room. Assumes nothing.
use borrow.Author.Tests.{lt-ltb, le-ltb}
use mathlib.Core.Path.{◌≡◌, refl, sym, ap, ◌∙◌}
use mathlib.Core.Bool.{Bool, true, false}
use mathlib.Core.Option.{Option, none, some}
use mathlib.Core.List.{List, [], ◌∷◌, ◌++◌}
use Prim.Native.Nat.{ℕ, ◌≤◌, ◌<◌}
use lib.Dec.{ltb}
use lib.IntN.{ℤ}
use lib.ListN.{length}
use Rattle.laws.specs.Slots.{pick, put}
use Rattle.laws.proofs.Put.{then}
use Rattle.model.specs.Decide.{Provisions}
use Rattle.model.specs.Moves.{object_at}
use Rattle.model.specs.Refusals.{missing, provisions, first_that}
use Rattle.model.specs.Image as images
use Rattle.model.specs.Image.{bytes4}
use Rattle.model.specs.Run as run
use Rattle.model.specs.Run.{Question, Reply, bad_question, may_ask_in, or_none, image_of, written, step}
use Rattle.grants.specs.declared.Provisions as grants
use Rattle.std.specs.Prelude.{Ok, Err}
use Rattle.state.specs.declared.refusal.Refusal.{Refusal}
use Rattle.state.specs.Refusals.{number_of, refusal_of}
use Rattle.ask.specs.Asked.{reply_to, out_of}
use Rattle.ask.specs.Verdict.{Verdict, verdict_of, verdict_on, number_for, bytes_for}

module _ (image buffer : List ℕ) where
  -- what the model leaves, of the number that is refused
  abbrev left : Option ℕ → Provisions → Reply
  left n p =
      elim n [
        | none ↦ run.reply run.done (image ∷ written (run.ask_bytes p) buffer ∷ [])
        | some n ↦ run.reply (run.refused n) (image ∷ buffer ∷ [])
      ]

  abbrev Agree : Reply → Verdict → Type 0
  Agree r v = (run.number_of r.answer ≡ number_for (length buffer) v) × (out_of r ≡ bytes_for buffer v)

  room : (e : Bool) (p : Provisions) → e ≡ ltb (length buffer) 8 → Agree (left (first_that ((9, e) ∷ [])) p) (verdict_of none p)
  room true p h = (rw (sym h), rw (sym h))
  room false p h = (rw (sym h), rw (sym h))

  tests : (a b c d : Bool) (p : Provisions)
      → Agree (left (first_that ((1, a) ∷ (12, b) ∷ (3, c) ∷ (6, d) ∷ (9, ltb (length buffer) 8) ∷ [])) p) (verdict_of (first_that ((1, a) ∷ (12, b) ∷ (3, c) ∷ (6, d) ∷ [])) p)
  unfolding refusal_of
  tests true b c d p = (refl, refl)
  tests false true c d p = (refl, refl)
  tests false false true d p = (refl, refl)
  tests false false false true p = (refl, refl)
  tests false false false false p = room (ltb (length buffer) 8) p refl

  replied : (q : Question) → Agree (reply_to image q buffer) (verdict_on q (image_of (images.load image)))
  unfolding step
  replied q =
      let d = image_of (images.load image) in
      let may = may_ask_in q (or_none d) in
      tests (bad_question q) (missing d) (missing (object_at q.path q.name (or_none d))) (missing may) (provisions may)

  -- what dossier_ask promises of a number and of the buffer as it is left
  abbrev pub Answers : Question → ℕ → List ℕ → Type 0
  Answers q n out = (n ≡ run.number_of (reply_to image q buffer).answer) × (out ≡ out_of (reply_to image q buffer))

  -- v was decided, of a question at the time t, which is u
  module _ (q : ℤ → Question) {t u : ℤ} (e : t ≡ u) {v : Verdict} (h : v ≡ verdict_on (q t) (image_of (images.load image))) where
    answers : {w : Verdict} → v ≡ w → Answers (q u) (number_for (length buffer) w) (bytes_for buffer w)
    answers k =
        let d = sym k ∙ h ∙ ap (λ x. verdict_on (q x) (image_of (images.load image))) e in
        let r = replied (q u) in
        (ap (number_for (length buffer)) d ∙ sym r.0, ap (bytes_for buffer) d ∙ sym r.1)

    pub answer_refused : {r : Refusal} → v ≡ Err r → {n : ℕ} → n ≡ number_of r → Answers (q u) n buffer
    answer_refused k f = (f ∙ (answers k).0, (answers k).1)

    module _ {p : grants.Provisions} (k : v ≡ Ok p) where
      pub answer_short : length buffer < 8 → Answers (q u) 9 buffer
      answer_short s =
          let b = sym (lt-ltb (length buffer) 8 s) in
          (ap (λ (x : Bool). pick x 9 0) b ∙ (answers k).0, ap (λ (x : Bool). pick x buffer (written (bytes4 p.messages ++ bytes4 p.agreements) buffer)) b ∙ (answers k).1)

      -- messages are put first, then agreements behind them
      pub answer_written : {one two : List ℕ} → 8 ≤ length buffer → one ≡ put buffer 0 (bytes4 p.messages) → two ≡ put one 4 (bytes4 p.agreements) → Answers (q u) 0 two
      answer_written {one} {two} s f g =
          let b = sym (le-ltb (length buffer) 8 s) in (
            ap (λ (x : Bool). pick x 9 0) b ∙ (answers k).0,
            then buffer one two 0 (bytes4 p.messages) (bytes4 p.agreements) f g s ∙ ap (λ (x : Bool). pick x buffer (written (bytes4 p.messages ++ bytes4 p.agreements) buffer)) b ∙ (answers k).1,
          )
