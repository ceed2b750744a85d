-- What each public call promises, and what a run of calls gives by these promises.
use Rattle.std.specs.Prelude.{◌≡◌, List, [], ◌∷◌, ℕ, Ok, Err}
use Rattle.model.specs.Things.{fresh}
use Rattle.model.specs.Run.{Call, start, new, load, save, save_clipboard, sign, take_log, request, ask, done, Reply, reply, step}
use Rattle.state.specs.declared.Session.{Session}
use Rattle.state.specs.View.{session_of, Answer, answer_of}
use Rattle.state.specs.Calls.{buffer_after, Steps, Writes}

-- an answer that is a refusal
abbrev pub Refuses : Answer → Type 0
Refuses (Ok r) = ⊥
Refuses (Err e) = Unit {0}

-- what a call gives: its answer, and each image and buffer that was lent to it, as it is left
pub record Gave : Type 0 where
  pub answer : Answer
  pub lent : List (List ℕ)

abbrev pub gave_of : Reply → Gave
gave_of r = record { answer = answer_of r.answer; lent = r.lent }

-- the contract of each call, with the buffer b that it leaves; an image lent by `&` and a session lent by `&` stay. Ask looks at no session
abbrev pub Promised : Session → Call → Gave → Session → Type 0
Promised s start g t = (g ≡ gave_of (reply done [])) × (t ≡ session_of fresh)
Promised s (new n owner) g t = Steps s (new n owner) g.answer t × (g.lent ≡ [])
Promised s (load n image) g t = Steps s (load n image) g.answer t × (g.lent ≡ image ∷ [])
Promised s (save n buffer) g t = (b : List ℕ) × Writes s (save n buffer) g.answer b × (g.lent ≡ b ∷ []) × (t ≡ s)
Promised s (save_clipboard buffer) g t = (b : List ℕ) × Writes s (save_clipboard buffer) g.answer b × (g.lent ≡ b ∷ []) × (t ≡ s)
Promised s (sign user agreement) g t = Steps s (sign user agreement) g.answer t × (g.lent ≡ [])
Promised s (take_log buffer) g t = (b : List ℕ) × Steps s (take_log buffer) g.answer t × (b ≡ buffer_after s (take_log buffer)) × (g.lent ≡ b ∷ [])
Promised s (request r image) g t = Steps s (request r image) g.answer t × (g.lent ≡ image ∷ [])
Promised s (ask image q buffer) g t = (g ≡ gave_of (step fresh (ask image q buffer)).1) × (t ≡ s)

-- these calls, one after another from the session s, gave this
abbrev pub Ran : Session → List Call → List Gave → Type 0
Ran s [] [] = Unit {0}
Ran s [] (g ∷ gs) = ⊥
Ran s (c ∷ l) [] = ⊥
Ran s (c ∷ l) (g ∷ gs) = (t : Session) × Promised s c g t × Ran t l gs
