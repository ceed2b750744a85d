-- A request by what there is to paste, on the structs; what judging makes of it, and what request 17's image is.
use Rattle.std.specs.Prelude.{Bool, List, [], ◌∷◌, ℕ, T, Option, Some, None, Result, Ok, Err}
use Rattle.model.specs.Things as things
use Rattle.model.specs.Things.{State}
use Rattle.model.specs.Refusals as refusals
use Rattle.model.specs.Image as images
use Rattle.model.specs.Run as run
use Rattle.tables.specs.declared.Dossier.{Dossier}
use Rattle.tables.specs.declared.Clipboard.{Clipboard}
use Rattle.tables.specs.View.{view_dossier, view_clipboard}
use Rattle.state.specs.declared.Agreements.{Agreements}
use Rattle.state.specs.declared.Log.{Log}
use Rattle.state.specs.declared.Session.{Session}
use Rattle.state.specs.declared.Request.{Request}
use Rattle.state.specs.declared.Stepped.{Stepped}
use Rattle.state.specs.declared.refusal.Refusal.{Refusal}
use Rattle.state.specs.declared.refusal.Refusal.TheVariants.{BadOperand, BadRecord}
use Rattle.state.specs.View.{view_request, view_signatures, view_session, session_of, answer_of}
use Rattle.image.specs.declared.BadRecord as image
use Rattle.judge.specs.View.{standing_of, Judged, judged_of}
use Rattle.deeds.specs.declared.classes.Class.{Class}
use Rattle.deeds.specs.declared.classes.Verdict.{Verdict}
use Rattle.deeds.specs.Classes.{class_of}

abbrev pub left_of : State × run.Answer → Stepped
left_of out = record { session = session_of out.0; answer = answer_of out.1 }

-- what request 17 pastes, once its operands are good, is a branch
abbrev pub Pastes : refusals.Request → things.Clipboard → Type 0
Pastes r c = T (run.places r) → T (run.cached c).branch

abbrev pub from_of : Session → refusals.Request → things.Clipboard → Stepped
from_of s r c = left_of (run.requested_from (view_session s) r c)

abbrev pub with_of : Session → refusals.Request → images.Loaded things.Clipboard → Stepped
with_of s r l = left_of (run.requested_with (view_session s) r l)

-- ---- a request that was judged
-- the numbers of requests that paste
abbrev pub pasting : ℕ → Bool
pasting n = refusals.among n (7 ∷ 13 ∷ 17 ∷ [])

-- a request of that class, with the messages to log; a number that no request has has none, and is a bad operand
abbrev pub classed : Request → ℕ → Option Class → Result Verdict Refusal
classed r m None = Err BadOperand
classed r m (Some k) = Ok (record { class = k; dossier = r.dossier; messages = m; request = r })

-- refused; or its class, with the messages to log
abbrev pub verdict_of : Request → Judged → Result Verdict Refusal
verdict_of r (Err e) = Err e
verdict_of r (Ok m) = classed r m (class_of r.number)

-- by the parts of a session that judging looks at: the dossier that is named, the clipboard, the signatures and the log
abbrev pub weighed_of : Dossier → Clipboard → List Agreements → Log → Request → Result Verdict Refusal
weighed_of d c rows log r =
    let q = view_request r in
    let f = run.found q (view_dossier d) in
    verdict_of r (judged_of (refusals.refusal q f (run.cached (view_clipboard c)) (standing_of q (view_signatures rows) log.count)) (refusals.granted q f))

-- ---- request 17's image: a branch to paste, or the refusal of a bad one
abbrev pub laden_of : Result Dossier image.BadRecord → Result Clipboard Refusal
laden_of (Ok d) = Ok (record { kind = 1; held = d })
laden_of (Err b) = Err (BadRecord b.number)
