-- A call on the structs is the model's step on what they stand for: the answer, the session and each lent buffer afterwards.
use Rattle.std.specs.Prelude.{◌≡◌, List, [], ◌∷◌, ℕ, ◌≤◌, length}
use Rattle.laws.specs.Slots.{Is}
use Rattle.model.specs.Things.{State, fresh}
use Rattle.model.specs.Run.{Call, sign, take_log, step, with_clipboard, with_signatures, with_log}
use Rattle.tables.specs.declared.Dossier.{Dossier}
use Rattle.tables.specs.declared.Clipboard.{Clipboard}
use Rattle.tables.specs.View.{view_dossier, dossier_of, view_clipboard}
use Rattle.state.specs.declared.Agreements.{Agreements}
use Rattle.state.specs.declared.Log.{Log}
use Rattle.state.specs.declared.Session.{Session}
use Rattle.state.specs.declared.Stepped.{Stepped}
use Rattle.state.specs.declared.DossiersOut.{DossiersOut}
use Rattle.state.specs.declared.signatures.SignaturesOut.{SignaturesOut}
use Rattle.state.specs.declared.entries.LogOut.{LogOut}
use Rattle.state.specs.View.{view_signatures, signatures_of, view_log, log_of, view_session, session_of, Answer, answer_of}

-- what a call on a state answers, and the one buffer that is lent to it as it is left
abbrev pub answer_in : State → Call → Answer
answer_in s c = answer_of (step s c).1.answer

abbrev pub only_buffer : List (List ℕ) → List ℕ
only_buffer [] = []
only_buffer (b ∷ l) = b

abbrev pub buffer_in : State → Call → List ℕ
buffer_in s c = only_buffer (step s c).1.lent

-- ---- on the whole session
abbrev pub session_after : Session → Call → Session
session_after s c = session_of (step (view_session s) c).0

abbrev pub answer_to : Session → Call → Answer
answer_to s c = answer_in (view_session s) c

abbrev pub buffer_after : Session → Call → List ℕ
buffer_after s c = buffer_in (view_session s) c

abbrev pub stepped_of : Session → Call → Stepped
stepped_of s c = record { session = session_after s c; answer = answer_to s c }

-- what a call promises of its answer and of the session that it leaves, and of its answer and of the buffer that is lent to it
abbrev pub Steps : Session → Call → Answer → Session → Type 0
Steps s c a t = (a ≡ answer_to s c) × (t ≡ session_after s c)

abbrev pub Writes : Session → Call → Answer → List ℕ → Type 0
Writes s c a b = (a ≡ answer_to s c) × (b ≡ buffer_after s c)

-- ---- on the parts that a call uses: a session that has these, and is fresh in all else
abbrev pub having : Dossier → Dossier → State
having one two = record { one = view_dossier one; two = view_dossier two; clipboard = fresh.clipboard; signatures = fresh.signatures; log = fresh.log }

abbrev pub having_clipboard : Clipboard → State
having_clipboard c = with_clipboard (view_clipboard c) fresh

abbrev pub having_signatures : List Agreements → State
having_signatures rows = with_signatures (view_signatures rows) fresh

abbrev pub having_log : Log → State
having_log log = with_log (view_log log) fresh

abbrev pub dossiers_after : Dossier → Dossier → Call → DossiersOut
dossiers_after one two c =
    record {
      one = dossier_of (step (having one two) c).0.one;
      two = dossier_of (step (having one two) c).0.two;
      answer = answer_in (having one two) c;
    }

abbrev pub signed_of : List Agreements → ℕ → ℕ → SignaturesOut
signed_of rows user agreement =
    record {
      signatures = signatures_of (step (having_signatures rows) (sign user agreement)).0.signatures;
      answer = answer_in (having_signatures rows) (sign user agreement);
    }

abbrev pub taken_of : Log → List ℕ → LogOut
taken_of log buffer =
    record {
      log = log_of (step (having_log log) (take_log buffer)).0.log;
      answer = answer_in (having_log log) (take_log buffer);
    }

-- ---- a log that is held: at most 256 entries
abbrev pub LogSound : Log → Type 0
LogSound t = Is log_of (λ l. length l ≤ 256) t
