-- What a request that is carried out leaves: the dossier that it names, the clipboard, the log and the answer, each by itself. Assumes nothing.
use mathlib.Core.Path.{◌≡◌, refl, sym, ap, subst, ◌∙◌}
use mathlib.Core.Bool.{Bool, true, false}
use mathlib.Core.Option.{none}
use mathlib.Core.List.{List, append-nil}
use Prim.Native.Nat.{ℕ, ◌+◌, ◌≤◌}
use native.Mathlib.Omega.{arith}
use lib.Dec.{eqb}
use lib.ListN.{length}
use Rattle.laws.specs.Slots.{pick}
use Rattle.laws.proofs.Fill.{is_same}
use Rattle.model.specs.Things as things
use Rattle.model.specs.Decide.{members}
use Rattle.model.specs.Moves.{attribute_at}
use Rattle.model.specs.Refusals.{Request, provisions, granted, refusal}
use Rattle.model.specs.Run as run
use Rattle.model.specs.Run.{found, cached, standing, dossier, with_dossier, with_clipboard, with_log}
use Rattle.model.specs.Sound.{SoundClipboard}
use Rattle.tables.specs.declared.Dossier.{Dossier}
use Rattle.tables.specs.declared.Clipboard.{Clipboard}
use Rattle.tables.specs.View.{view_dossier, dossier_of, DossierSound, view_clipboard, clipboard_of}
use Rattle.tables.proofs.Rows.{view_clipboard_lem}
use Rattle.state.specs.declared.Log.{Log}
use Rattle.state.specs.declared.Session.{Session}
use Rattle.state.specs.declared.Stepped.{Stepped}
use Rattle.state.specs.View.{view_session, session_of, view_log, log_of, Answer, answer_of, SessionSound}
use Rattle.state.specs.Calls.{LogSound}
use Rattle.state.specs.Parts.{numbered_in}
use Rattle.state.proofs.Signing.{rows_back}
use Rattle.state.proofs.Logs.{log_count, view_log_lem}
use Rattle.state.proofs.Sessions.{dossier_same, one_sound, two_sound, clipboard_sound, log_sound}
use Rattle.twin.proofs.Requests.{below, passed, numbered}
use Rattle.deeds.specs.Deeds.{Served, carried_of}
use Rattle.deeds.specs.Classes.{Allowed}

-- ---- a session in parts
-- with another dossier under a number, another clipboard and another log
abbrev placed_in : Session → Bool → Dossier → Clipboard → Log → Session
placed_in s b d c log = record { one = pick b d s.one; two = pick b s.two d; clipboard = c; signatures = s.signatures; log = log }

abbrev session_with : Session → ℕ → Dossier → Clipboard → Log → Session
session_with s n d c log = placed_in s (eqb n 1) d c log

module _ {s : Session} (h : SessionSound s) where
  pub numbered_sound : (n : ℕ) {d : Dossier} → d ≡ numbered_in n s → DossierSound d
  numbered_sound n e = subst DossierSound (sym e) (go (eqb n 1))
    where
      go : (b : Bool) → DossierSound (pick b s.one s.two)
      go true = one_sound h
      go false = two_sound h

  pub clipboard_same : s.clipboard ≡ clipboard_of (view_clipboard s.clipboard)
  clipboard_same = is_same clipboard_of view_clipboard view_clipboard_lem SoundClipboard s.clipboard (clipboard_sound h)

  with_sound : (b : Bool) (m : things.Dossier) (k : things.Clipboard) (l : List (ℕ × ℕ))
      → placed_in s b (dossier_of m) (clipboard_of k) (log_of l)
      ≡ session_of (with_log l (with_clipboard k
      (pick b (record { one = m; two = (view_session s).two; clipboard = (view_session s).clipboard; signatures = (view_session s).signatures; log = (view_session s).log })
      (record { one = (view_session s).one; two = m; clipboard = (view_session s).clipboard; signatures = (view_session s).signatures; log = (view_session s).log }))))
  with_sound true m k l =
      λ i. record { one = dossier_of m; two = dossier_same (two_sound h) i; clipboard = clipboard_of k; signatures = sym (rows_back s.signatures) i; log = log_of l }
  with_sound false m k l =
      λ i. record { one = dossier_same (one_sound h) i; two = dossier_of m; clipboard = clipboard_of k; signatures = sym (rows_back s.signatures) i; log = log_of l }

pub numbered_view : (s : Session) (n : ℕ) {d : Dossier} → d ≡ numbered_in n s → view_dossier d ≡ dossier n (view_session s)
numbered_view s n e = ap view_dossier e ∙ go (eqb n 1)
  where
    go : (b : Bool) → view_dossier (pick b s.one s.two) ≡ pick b (view_dossier s.one) (view_dossier s.two)
    go true = refl
    go false = refl

-- no messages add nothing to the log
pub log_quiet : (user : ℕ) {messages : ℕ} {log : Log} → LogSound log → messages ≡ 0 → log ≡ log_of (run.logged user messages (view_log log))
log_quiet user {messages} {log} h e =
    is_same log_of view_log view_log_lem (λ l. length l ≤ 256) log h
    ∙ ap log_of (sym (append-nil (view_log log)))
    ∙ ap (λ (m : ℕ). log_of (run.logged user m (view_log log))) (sym e)

-- ---- a request that is served
abbrev stepped : Session → Answer → Stepped
stepped s a = record { session = s; answer = a }

abbrev left : Session → ℕ → things.Dossier → things.Clipboard → List (ℕ × ℕ) → run.Answer → Stepped
left s n m k l a = record { session = session_of (with_log l (with_clipboard k (with_dossier n m (view_session s)))); answer = answer_of a }

-- what its deed may rely on: the dossier that it names is sound, no row of the refusal table applies
pub record Ready (c : things.Clipboard) (r : Request) (d : Dossier) : Type 0 where
  pub sound : DossierSound d
  pub allowed : Allowed r (view_dossier d) c

module _ {s : Session} {c : things.Clipboard} {r : Request} {messages : ℕ} (h : SessionSound s) (v : Served s c r messages) where
  -- its messages fit in the log
  pub log_room : LogSound s.log × (s.log.count + length (members messages) ≤ 256)
  log_room =
      let m = found r (dossier r.dossier (view_session s)) in
      let f = (passed r m (cached c) (standing r (view_session s).signatures (view_session s).log) v.free).log in
      let n = log_count s.log (log_sound h) in
      let k = below 256 (length (view_log s.log) + length (members (provisions (granted r m)).messages)) f in
      let a = ap (λ (x : ℕ). length (members x)) v.asks in
      (log_sound h, omega arith)

  pub ready : {d : Dossier} → d ≡ numbered_in r.dossier s → Ready c r d
  ready e = record {
    sound = numbered_sound h r.dossier e;
    allowed = record {
      standing = standing r (view_session s).signatures (view_session s).log;
      free = subst (λ (x : things.Dossier). refusal r (found r x) (cached c) (standing r (view_session s).signatures (view_session s).log) ≡ none)
          (sym (numbered_view s r.dossier e)) v.free;
    };
  }

  module _ {d : Dossier} (e : d ≡ numbered_in r.dossier s) {log : Log} (l : log ≡ log_of (run.logged r.user messages (view_log s.log))) where
    -- the deed of the request's number: the dossier, the clipboard and the answer that it leaves
    pub leaves : {k : ℕ} → r.number ≡ k
        → {x : Dossier} → x ≡ dossier_of (run.edited (numbered k r) (view_dossier d) c)
        → {y : Clipboard} → y ≡ clipboard_of (run.clipped (numbered k r) (view_dossier d) (view_clipboard s.clipboard))
        → {a : Answer} → a ≡ answer_of (run.answered (numbered k r) (found r (view_dossier d)) (attribute_at r.path r.name (view_dossier d)))
        → stepped (session_with s r.dossier x y log) a ≡ carried_of s r c
    leaves {k} n p q w =
        let b = view_clipboard s.clipboard in
        let m = view_dossier d in
        let f : m ≡ dossier r.dossier (view_session s) = numbered_view s r.dossier e in
        (λ i. stepped (session_with s r.dossier (p i) (q i) (l i)) (w i))
        ∙ ap (λ (x : Session). stepped x (answer_of (run.answered (numbered k r) (found r m) (attribute_at r.path r.name m))))
        (with_sound h (eqb r.dossier 1) (run.edited (numbered k r) m c) (run.clipped (numbered k r) m b) (run.logged r.user messages (view_log s.log)))
        ∙ (λ i. left s r.dossier (run.edited (numbered (sym n i) r) (f i) c) (run.clipped (numbered (sym n i) r) (f i) b) (run.logged r.user (v.asks i) (view_log s.log))
        (run.answered (numbered (sym n i) r) (found r (f i)) (attribute_at r.path r.name (f i))))
