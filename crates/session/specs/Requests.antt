-- A guarded request by parts: what each step of it may rely on, and what it leaves of the session. What a step does not name stays.
use Rattle.std.specs.Prelude.{◌≡◌, T, Some, Ok}
use Rattle.path.specs.Address.{valid}
use Rattle.path.specs.View.{asked}
use Rattle.model.specs.Things as things
use Rattle.model.specs.Moves.{attribute_at}
use Rattle.model.specs.Run as run
use Rattle.tables.specs.View.{Attributes}
use Rattle.tables.specs.View.{Permissions}
use Rattle.tables.specs.declared.Dossier.{Dossier}
use Rattle.tables.specs.declared.Clipboard.{Clipboard}
use Rattle.tables.specs.View.{view_dossier, dossier_of, DossierSound, view_clipboard, clipboard_of, ClipboardSound}
use Rattle.state.specs.declared.Session.{Session}
use Rattle.state.specs.declared.Request.{Request}
use Rattle.state.specs.declared.Stepped.{Stepped}
use Rattle.state.specs.View.{view_request, Answer, answer_of, SessionSound}
use Rattle.state.specs.Parts.{numbered_in, replaced_in, clipped_in}
use Rattle.deeds.specs.declared.classes.Verdict.{Verdict}
use Rattle.deeds.specs.Classes.{class_of, Allowed, Open}
use Rattle.enforce.specs.Requests.{Pastes, from_of, weighed_of}

-- ---- what is stored
abbrev pub with_attributes : Dossier → Attributes → Dossier
with_attributes d t = record { nodes = d.nodes; attributes = t; permissions = d.permissions }

abbrev pub with_permissions : Dossier → Permissions → Dossier
with_permissions d t = record { nodes = d.nodes; attributes = d.attributes; permissions = t }

-- ---- what the deeds read of a session, and what they leave
-- the dossier that the request names
abbrev pub named_in : Session → Verdict → Dossier
named_in s v = numbered_in v.dossier s

-- that dossier afterwards, by what there is to paste; the clipboard after a copy; the answer
abbrev pub edited_in : Session → Verdict → things.Clipboard → Dossier
edited_in s v c = dossier_of (run.edited (view_request v.request) (view_dossier (named_in s v)) c)

abbrev pub copied_in : Session → Verdict → things.Clipboard → Clipboard
copied_in s v c = clipboard_of (run.clipped (view_request v.request) (view_dossier (named_in s v)) c)

abbrev pub read_in : Session → Verdict → Answer
read_in s v =
    let r = view_request v.request in
    let d = view_dossier (named_in s v) in answer_of (run.answered r (run.found r d) (attribute_at r.path r.name d))

-- all of it, but for the log
abbrev pub deed_of : Session → Verdict → Stepped
deed_of s v =
    let c = view_clipboard s.clipboard in
    record { session = replaced_in v.dossier (edited_in s v c) (clipped_in (copied_in s v c) s); answer = read_in s v }

-- ---- what a deed may rely on
-- no row of the refusal table applies to the request, whose path is one
pub record Granted (s : Session) (v : Verdict) : Type 0 where
  pub valid : T (valid (asked v.request.path))
  pub named : v.dossier ≡ v.request.dossier
  pub class : class_of v.request.number ≡ Some v.class
  pub sound : DossierSound (named_in s v)
  pub free : Open (view_request v.request) (view_dossier (named_in s v))

-- nor with what is on the clipboard
pub record Laid (s : Session) (v : Verdict) : Type 0 where
  pub sound : ClipboardSound s.clipboard
  pub allowed : Allowed (view_request v.request) (view_dossier (named_in s v)) (view_clipboard s.clipboard)
  pub branch : v.request.number ≡ 17 → T (run.cached (view_clipboard s.clipboard)).branch

-- both
abbrev pub Stands : Session → Verdict → Type 0
Stands s v = Granted s v × Laid s v

-- the verdict on a request in this session
pub record Weighs (s : Session) (v : Verdict) : Type 0 where
  pub sound : SessionSound s
  pub pastes : Pastes (view_request v.request) (view_clipboard s.clipboard)
  pub same : Ok v ≡ weighed_of (numbered_in v.request.dossier s) s.clipboard s.signatures s.log v.request

-- ---- request 17: what it pastes is its image, and the clipboard stays
pub record Carries (s : Session) (r : Request) (c : Clipboard) : Type 0 where
  pub sound : SessionSound s
  pub places : T (run.places (view_request r))
  pub held : ClipboardSound c
  pub branch : T (run.cached (view_clipboard c)).branch

abbrev pub laden_step : Session → Request → Clipboard → Stepped
laden_step s r c = from_of s (view_request r) (view_clipboard c)
