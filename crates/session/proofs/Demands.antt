-- The three demands, of the public calls by their promises: each is one statement, and its theorem. Assumes nothing.
use mathlib.Core.Path.{◌≡◌, sym, subst}
use mathlib.Core.Logic.{◌↔◌}
use mathlib.Core.Option.{none, some}
use mathlib.Core.List.{List, map}
use Prim.Native.Nat.{ℕ}
use lib.Dec.{T}
use lib.ListN.{length, take}
use Rattle.path.specs.Address.{Address}
use Rattle.model.specs.Things.{Clipboard, fresh}
use Rattle.model.specs.Decide.{Subject, Object, Provisions, nothing, read_by, change_by, own_by, delegate_by}
use Rattle.model.specs.Moves.{object_at, paste_branch}
use Rattle.model.specs.Refusals.{Request}
use Rattle.model.specs.Image.{bad, good, all_owned}
use Rattle.model.specs.Run.{Call, load, save, request, done, dossier_good, dossier, found, source, carried_out}
use Rattle.twin.specs.Twin.{run_twin}
use Rattle.twin.proofs.Refusal.{judged, JudgedSo, lent_by}
use Rattle.twin.proofs.Placed.{pasted, IsPaste}
use Rattle.twin.proofs.Decision.{OwnedOr, OneMatches, TwoMatch, read_exactly, change_exactly, own_exactly, delegate_exactly}
use Rattle.state.specs.declared.Session.{Session}
use Rattle.std.specs.Prelude.{Ok, Err}
use Rattle.state.specs.declared.Reply.TheVariants.{Done, Wrote}
use Rattle.state.specs.declared.refusal.Refusal.TheVariants.{BadRecord}
use Rattle.state.specs.Refusals.{numbered, refusal_of}
use Rattle.state.specs.View.{Answer, view_session, session_of, answer_of, SessionSound}
use Rattle.state.specs.Calls.{only_buffer, Steps, Writes}
use Rattle.state.proofs.Sessions.{state_sound}
use Rattle.state.specs.Parts.{numbered_in}
use Rattle.enforce.proofs.Kept.{start_sound, call_sound}
use Rattle.session.specs.Promises.{Refuses, Gave, gave_of, Ran}
use Rattle.session.proofs.Refused.{session_stays, buffer_stays, request_refused, request_bad, request_carried, request_placed}
use Rattle.session.proofs.Trips.{dossier_sound, saved_loads, loaded_saves}
use Rattle.session.proofs.Runs.{ran_alike}
use Rattle.session.proofs.Granted.{object_no_clash}

-- ---- 1: every call ends with an answer or a numbered refusal (a Result), and a refusal changes nothing; what is assumed of a session is what start gives and every call keeps
pub record Demand1 : Type 0 where
  pub started : SessionSound (session_of fresh)
  pub kept : (s : Session) (c : Call) (a : Answer) (t : Session) → SessionSound s → Steps s c a t → SessionSound t
  pub session_kept : (s : Session) (c : Call) (a : Answer) (t : Session) → SessionSound s → Steps s c a t → Refuses a → t ≡ s
  pub buffer_kept : (s : Session) (c : Call) (a : Answer) (b : List ℕ) → Writes s c a b → Refuses a → b ≡ only_buffer (lent_by c)

pub demand1 : Demand1
demand1 = record { started = start_sound; kept = λ s c a t h p. subst SessionSound (sym p.1) (call_sound s c h); session_kept = session_stays; buffer_kept = buffer_stays }

-- ---- 2: decisions and states are those of document 01
pub record Demand2 : Type 0 where
  -- a request is refused n, a number of the table, exactly where the table says so, 12 with a record exactly where request 17's image is bad there, and else carried out; c is what there is to paste
  pub refused : (s : Session) (r : Request) (image : List ℕ) (a : Answer) (t : Session) → Steps s (request r image) a t → (n : ℕ) → (T (numbered n) × (a ≡ Err (refusal_of n))) ↔ JudgedSo (view_session s) r image n
  pub bad_image : (s : Session) (r : Request) (image : List ℕ) (a : Answer) (t : Session) → Steps s (request r image) a t → (k : ℕ) → (a ≡ Err (BadRecord k)) ↔ (source (view_session s) r image ≡ bad k)
  pub carried : (s : Session) (r : Request) (image : List ℕ) (a : Answer) (t : Session) → Steps s (request r image) a t
      → (c : Clipboard) → source (view_session s) r image ≡ good c → judged (view_session s) r c ≡ none
      → let d = dossier r.dossier (view_session s) in
      (a ≡ answer_of (carried_out (view_session s) r (found r d) d c).1) × (t ≡ session_of (carried_out (view_session s) r (found r d) d c).0)
  -- request 17, if not refused, is the paste of what its image loads as with every owner the adding user's
  pub placed : (s : Session) (r : Request) (image : List ℕ) (a : Answer) (t : Session) → Steps s (request r image) a t → r.number ≡ 17 → (Refuses a → ⊥)
      → (w : IsPaste (view_session s) r image) × (a ≡ answer_of done)
      × (t ≡ session_of (pasted (view_session s) r (paste_branch r.path (all_owned r.user w.held) (dossier r.dossier (view_session s)))))
  -- on an object of the session: the owner, or the permissions that match, and nobody else
  pub read : (s : Session) → SessionSound s → (n : ℕ) (p : Address) (name : ℕ) (o : Object) → object_at p name (dossier n (view_session s)) ≡ some o
      → (u : Subject) (π : Provisions) → (read_by u o ≡ some π) ↔ OwnedOr u o π (OneMatches u 1 o.permissions π)
  pub change : (s : Session) → SessionSound s → (n : ℕ) (p : Address) (name : ℕ) (o : Object) → object_at p name (dossier n (view_session s)) ≡ some o
      → (u : Subject) (π : Provisions) → (change_by u o ≡ some π) ↔ OwnedOr u o π (TwoMatch u o π)
  pub own : (u : Subject) (o : Object) (π : Provisions) → (own_by u o ≡ some π) ↔ ((u.user ≡ o.owner) × (π ≡ nothing))
  pub delegate : (s : Session) → SessionSound s → (n : ℕ) (p : Address) (name : ℕ) (o : Object) → object_at p name (dossier n (view_session s)) ≡ some o
      → (u : Subject) (π : Provisions) → (delegate_by u o ≡ some π) ↔ OneMatches u 4 o.permissions π
  -- what a save wrote loads, into any session, as the same dossier; what a load took is saved as the same bytes
  pub loads_back : (s : Session) → SessionSound s → (n : ℕ) (buffer : List ℕ) (a : Answer) (b : List ℕ) → Writes s (save n buffer) a b → (k : ℕ) → a ≡ Ok (Wrote k)
      → (u : Session) (m : ℕ) → T (dossier_good m) → (a' : Answer) (t : Session) → Steps u (load m (take k b)) a' t → (a' ≡ Ok Done) × (numbered_in m t ≡ numbered_in n s)
  pub saves_back : (s : Session) (n : ℕ) (image : List ℕ) (a : Answer) (t : Session) → Steps s (load n image) a t → a ≡ Ok Done
      → (buffer : List ℕ) (a' : Answer) (b : List ℕ) → Writes t (save n buffer) a' b → (k : ℕ) → a' ≡ Ok (Wrote k) → (k ≡ length image) × (take k b ≡ image)

pub demand2 : Demand2
demand2 = record {
  refused = request_refused;
  bad_image = request_bad;
  carried = request_carried;
  placed = request_placed;
  read = λ s h n p name o e u π. read_exactly u o (object_no_clash (dossier n (view_session s)) (dossier_sound n (state_sound s h)) p name o e) π;
  change = λ s h n p name o e u π. change_exactly u o (object_no_clash (dossier n (view_session s)) (dossier_sound n (state_sound s h)) p name o e) π;
  own = own_exactly;
  delegate = λ s h n p name o e u π. delegate_exactly u o (object_no_clash (dossier n (view_session s)) (dossier_sound n (state_sound s h)) p name o e) π;
  loads_back = saved_loads;
  saves_back = loaded_saves;
}

-- ---- 3: whatever calls are made from start, all that they give, answers, refusals, log, images and every lent buffer, is what the second dossier gives
pub demand3 : (calls : List Call) (gs : List Gave) → Ran (session_of fresh) calls gs → gs ≡ map gave_of (run_twin calls)
demand3 = ran_alike
