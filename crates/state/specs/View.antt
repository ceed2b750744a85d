-- The structs of this crate and the model: view (struct to model), ..Of (model to the one struct that stands for it), ..Sound.
use Rattle.std.specs.Prelude.{List, map, ℕ, take, length, Result, Ok, Err}
use Rattle.laws.specs.Slots.{slots, Is}
use Rattle.path.specs.View.{asked}
use Rattle.model.specs.Things.{State}
use Rattle.model.specs.Refusals as refusals
use Rattle.model.specs.Run as run
use Rattle.model.specs.Sound.{SoundState}
use Rattle.tables.specs.View.{view_value, value_of, view_grant, view_dossier, dossier_of, view_clipboard, clipboard_of, names_of}
use Rattle.state.specs.declared.Agreements.{Agreements}
use Rattle.state.specs.declared.Entry.{Entry}
use Rattle.state.specs.declared.Log.{Log}
use Rattle.state.specs.declared.Session.{Session}
use Rattle.state.specs.declared.Request.{Request}
use Rattle.state.specs.declared.Reply.{Reply}
use Rattle.state.specs.declared.Reply.TheVariants.{Done, Contents, ValueRead, Wrote}
use Rattle.state.specs.declared.refusal.Refusal.{Refusal}
use Rattle.state.specs.declared.refusal.Refusal.TheVariants.{BadRecord}
use Rattle.state.specs.Refusals.{number_of, refusal_of}

-- ---- a request: whatever its bytes are, it asks for something
abbrev pub view_request : Request → refusals.Request
view_request r =
    record {
      number = r.number;
      dossier = r.dossier;
      role = r.role;
      user = r.user;
      time = r.time;
      path = asked r.path;
      name = r.name;
      value = view_value r.value;
      permission = view_grant r.permission;
    }

-- ---- signatures and log
abbrev pub view_signatures : List Agreements → List ℕ
view_signatures rows = map (λ (r : Agreements). r.signed) rows

abbrev pub signatures_of : List ℕ → List Agreements
signatures_of l = map (λ (n : ℕ). record { signed = n }) l

abbrev pub view_entry : Entry → ℕ × ℕ
view_entry e = (e.user, e.message)

abbrev pub entry_of : ℕ × ℕ → Entry
entry_of e = record { user = e.0; message = e.1 }

abbrev pub blank_entry : Entry
blank_entry = record { user = 0; message = 0 }

abbrev pub view_log : Log → List (ℕ × ℕ)
view_log t = map view_entry (take t.count t.entries)

abbrev pub log_with : List Entry → ℕ → Log
log_with l n = record { entries = l; count = n }

unfoldable pub log_of : List (ℕ × ℕ) → Log
log_of l = log_with (slots 256 blank_entry (map entry_of l)) (length l)

-- ---- the session
abbrev pub view_session : Session → State
view_session s =
    record {
      one = view_dossier s.one;
      two = view_dossier s.two;
      clipboard = view_clipboard s.clipboard;
      signatures = view_signatures s.signatures;
      log = view_log s.log;
    }

abbrev pub session_of : State → Session
session_of s =
    record {
      one = dossier_of s.one;
      two = dossier_of s.two;
      clipboard = clipboard_of s.clipboard;
      signatures = signatures_of s.signatures;
      log = log_of s.log;
    }

-- "A session is what start gave and the calls left; a promise may assume that of it and nothing else of the host"
abbrev pub SessionSound : Session → Type 0
SessionSound s = Is session_of SoundState s

-- ---- answers: what is answered, or the refusal of the paper's number; 12 with its record is refused with that record
abbrev pub Answer : Type 0
Answer = Result Reply Refusal

abbrev pub answer_of : run.Answer → Answer
answer_of run.done = Ok Done
answer_of (run.contents names children) = Ok (Contents (names_of names) children)
answer_of (run.value_read v) = Ok (ValueRead (value_of v))
answer_of (run.wrote n) = Ok (Wrote n)
answer_of (run.refused n) = Err (refusal_of n)
answer_of (run.bad_record n) = Err (BadRecord n)

-- the paper's number of an answer: 0, or the refusal's
abbrev pub number_in : Answer → ℕ
number_in (Ok r) = 0
number_in (Err e) = number_of e
