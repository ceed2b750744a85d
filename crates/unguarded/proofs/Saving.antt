-- What a save answers and leaves in the buffer. Assumes nothing.
use mathlib.Core.Path.{◌≡◌, refl, sym, ap, ◌∙◌}
use mathlib.Core.Bool.{Bool, true, false, not}
use mathlib.Core.List.{List, [], ◌∷◌}
use Prim.Native.Nat.{ℕ}
use lib.ListN.{length}
use Rattle.std.proofs.Common.{Option, Some, None}
use Rattle.laws.specs.Slots.{pick}
use Rattle.model.specs.Things as things
use Rattle.model.specs.Things.{State}
use Rattle.model.specs.Refusals.{first_that}
use Rattle.model.specs.Image as images
use Rattle.model.specs.Run as run
use Rattle.model.specs.Run.{Reply, step, dossier, dossier_good, short, writes}
use Rattle.tables.specs.declared.Clipboard.{Clipboard}
use Rattle.tables.specs.View.{view_clipboard}
use Rattle.save.specs.Saved.{written_of, left_in}
use Rattle.std.specs.Prelude.{Err}
use Rattle.state.specs.declared.refusal.Refusal.TheVariants.{BadOperand}
use Rattle.state.specs.Refusals.{refusal_of}
use Rattle.state.specs.View.{answer_of}
use Rattle.state.specs.Calls.{answer_in, buffer_in, only_buffer, having_clipboard}
use Rattle.unguarded.specs.Calls.{answer_for}

-- ---- by whether the buffer is too short
answer_of_lem : (s : State) (bytes buffer : List ℕ) (tight : Bool) → answer_for (pick tight None (Some (length bytes))) ≡ answer_of (writes (first_that ((9, tight) ∷ [])) s s bytes buffer).1.answer
unfolding refusal_of
answer_of_lem s bytes buffer true = refl
answer_of_lem s bytes buffer false = refl

left_of_lem : (s : State) (bytes buffer : List ℕ) (tight : Bool) → pick tight buffer (run.written bytes buffer) ≡ only_buffer (writes (first_that ((9, tight) ∷ [])) s s bytes buffer).1.lent
left_of_lem s bytes buffer true = refl
left_of_lem s bytes buffer false = refl

-- ---- a dossier, by whether there is one of that number
unfoldable by : State → Bool → things.Dossier → List ℕ → State × Reply
by s good d buffer = writes (first_that ((1, not good) ∷ (9, short (images.save d) buffer) ∷ [])) s s (images.save d) buffer

module _ (s : State) (n : ℕ) (buffer : List ℕ) where
  pub save_done : {d : things.Dossier} → dossier_good n ≡ true → d ≡ dossier n s → {w : Option ℕ} → w ≡ written_of (images.save d) buffer
      → {left : List ℕ} → left ≡ left_in (images.save d) buffer → (answer_for w ≡ answer_in s (run.save n buffer)) × (left ≡ buffer_in s (run.save n buffer))
  unfolding step by refusal_of
  save_done {d} g e a l = (
    ap answer_for a ∙ answer_of_lem s (images.save d) buffer (short (images.save d) buffer) ∙ (λ i. answer_of (by s (sym g i) (e i) buffer).1.answer),
    l ∙ left_of_lem s (images.save d) buffer (short (images.save d) buffer) ∙ (λ i. only_buffer (by s (sym g i) (e i) buffer).1.lent),
  )

  pub save_refused : dossier_good n ≡ false → (Err BadOperand ≡ answer_in s (run.save n buffer)) × (buffer ≡ buffer_in s (run.save n buffer))
  unfolding step by refusal_of
  save_refused g = (ap (λ good. answer_of (by s good (dossier n s) buffer).1.answer) (sym g), ap (λ good. only_buffer (by s good (dossier n s) buffer).1.lent) (sym g))

-- ---- the clipboard
pub clipboard_done : (c : Clipboard) (buffer : List ℕ) {w : Option ℕ} → w ≡ written_of (images.save_clipboard (view_clipboard c)) buffer
    → {left : List ℕ} → left ≡ left_in (images.save_clipboard (view_clipboard c)) buffer
    → (answer_for w ≡ answer_in (having_clipboard c) (run.save_clipboard buffer)) × (left ≡ buffer_in (having_clipboard c) (run.save_clipboard buffer))
unfolding step
clipboard_done c buffer a l =
    let bytes = images.save_clipboard (view_clipboard c) in (
      ap answer_for a ∙ answer_of_lem (having_clipboard c) bytes buffer (short bytes buffer),
      l ∙ left_of_lem (having_clipboard c) bytes buffer (short bytes buffer),
    )
