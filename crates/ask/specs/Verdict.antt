-- The structs of this crate and the model; what is decided before anything is written.
use Rattle.std.specs.Prelude.{Bool, List, [], ◌∷◌, ◌++◌, ℕ, ltb, length, Result, Ok, Err}
use Rattle.std.proofs.Math.Option.{Option, none, some}
use Rattle.laws.specs.Slots.{pick}
use Rattle.path.specs.View.{asked}
use Rattle.model.specs.Things.{Dossier}
use Rattle.model.specs.Decide.{Object, Provisions}
use Rattle.model.specs.Moves.{object_at}
use Rattle.model.specs.Refusals.{missing, provisions, first_that}
use Rattle.model.specs.Image.{bytes4}
use Rattle.model.specs.Run as run
use Rattle.model.specs.Run.{bad_question, or_none, may_ask_in, written}
use Rattle.grants.specs.declared.Provisions as grants
use Rattle.ask.specs.declared.Question.{Question}
use Rattle.state.specs.declared.refusal.Refusal.{Refusal}
use Rattle.state.specs.Refusals.{number_of, refusal_of}

-- a question: whatever its bytes are, it asks for something
abbrev pub view_question : Question → run.Question
view_question q =
    record {
      role = q.subject.role;
      user = q.subject.user;
      time = q.subject.time;
      path = asked q.path;
      name = q.name;
      action = q.action;
    }

-- refused; or granted, with the messages to log and the agreements to be signed
abbrev pub Verdict : Type 0
Verdict = Result grants.Provisions Refusal

abbrev pub verdict_of : Option ℕ → Provisions → Verdict
verdict_of (some n) p = Err (refusal_of n)
verdict_of none p = Ok (record { messages = p.messages; agreements = p.agreements })

-- "tested 1, 12, 3, 6": whether the image is bad, the object, and what is granted on it
abbrev pub verdict : run.Question → Bool → Option Object → Option Provisions → Verdict
verdict q bad_image o may = verdict_of (first_that ((1, bad_question q) ∷ (12, bad_image) ∷ (3, missing o) ∷ (6, missing may) ∷ [])) (provisions may)

-- the verdict on an image
abbrev pub verdict_on : run.Question → Option Dossier → Verdict
verdict_on q d = verdict q (missing d) (object_at q.path q.name (or_none d)) (may_ask_in q (or_none d))

-- the last two of these tests: the object, and what is granted on it
abbrev pub verdict_at : Option Object → Option Provisions → Verdict
verdict_at o may = verdict_of (first_that ((3, missing o) ∷ (6, missing may) ∷ [])) (provisions may)

abbrev pub verdict_in : run.Question → Dossier → Verdict
verdict_in q d = verdict_at (object_at q.path q.name d) (may_ask_in q d)

-- 9, a lent buffer too short, comes last: the number, and the buffer as it is left
abbrev pub number_for : ℕ → Verdict → ℕ
number_for room (Err e) = number_of e
number_for room (Ok g) = pick (ltb room 8) 9 0

abbrev pub bytes_for : List ℕ → Verdict → List ℕ
bytes_for old (Err e) = old
bytes_for old (Ok g) = pick (ltb (length old) 8) old (written (bytes4 g.messages ++ bytes4 g.agreements) old)
