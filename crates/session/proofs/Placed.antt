-- Request 17 by parts: its image lies on the clipboard for the time of the paste, which leaves everything else as a paste from the image does. Assumes nothing.
use mathlib.Core.Path.{◌≡◌, refl, sym, ap, ◌∙◌}
use mathlib.Core.Bool.{Bool, true, false, not}
use mathlib.Core.Option.{Option, none, some}
use mathlib.Core.List.{List}
use Prim.Native.Nat.{ℕ}
use lib.Dec.{T, eqb, eqb→eq, T_not}
use mir.Facts.{and_yes}
use Rattle.laws.specs.Slots.{pick}
use Rattle.model.specs.Things as things
use Rattle.model.specs.Things.{State}
use Rattle.model.specs.Refusals.{Request, bad_operand, granted, provisions}
use Rattle.model.specs.Image.{load_added}
use Rattle.model.specs.Run as run
use Rattle.tables.specs.declared.Dossier.{Dossier}
use Rattle.tables.specs.declared.Clipboard.{Clipboard}
use Rattle.tables.specs.View.{view_clipboard, clipboard_of, ClipboardSound}
use Rattle.image.specs.declared.BadRecord as image
use Rattle.image.specs.View.{loaded_of}
use Rattle.state.specs.declared.Session.{Session}
use Rattle.state.specs.declared.Request as structs
use Rattle.state.specs.declared.Stepped.{Stepped}
use Rattle.std.specs.Prelude.{Result, Ok, Err}
use Rattle.state.specs.declared.refusal.Refusal.{Refusal}
use Rattle.state.specs.declared.refusal.Refusal.TheVariants.{BadRecord}
use Rattle.state.specs.View.{view_request, view_session, session_of, SessionSound}
use Rattle.state.specs.Calls.{stepped_of}
use Rattle.state.specs.Parts.{clipped_in}
use Rattle.state.proofs.Sessions.{dossier_same}
use Rattle.roundtrip.proofs.Checks.{not_not}
use Rattle.twin.proofs.Refusal.{judged, outcome}
use Rattle.twin.proofs.Requests.{numbered}
use Rattle.deeds.proofs.Left.{clipboard_same}
use Rattle.enforce.specs.Requests.{left_of, Pastes, from_of, with_of, laden_of}
use Rattle.enforce.proofs.Placing.{Held, bad_image, good_image, looked, not_looked, adder}
use Rattle.session.specs.Requests.{Carries, laden_step}

-- ---- the number of a request that looks at its image
seventeen : (r : Request) → T (run.places r) → r.number ≡ 17
seventeen r t = eqb→eq r.number 17 (and_yes (eqb r.number 17) (not (bad_operand r)) t).0

operands : (r : Request) → T (run.places r) → bad_operand r ≡ false
operands r t = go (bad_operand r) (and_yes (eqb r.number 17) (not (bad_operand r)) t).1
  where
    go : (b : Bool) → T (not b) → b ≡ false
    go true x = absurd x
    go false x = refl

-- ---- with the image on the clipboard, and the clipboard back
module _ {s : Session} (h : SessionSound s) (r : Request) (n : r.number ≡ 17) (c : Clipboard) where
  -- a clipboard that holds this
  abbrev lying : Session
  lying = clipped_in c s

  abbrev seen : things.Clipboard
  seen = view_clipboard c

  -- request 17 leaves the clipboard alone
  kept : (d : things.Dossier) (k : things.Clipboard) → run.clipped r d k ≡ k
  kept d k = ap (λ (m : ℕ). run.clipped (numbered m r) d k) n

  -- the state with another dossier under the number
  abbrev under : Bool → things.Dossier → State → State
  under b e x =
      pick b (record { one = e; two = x.two; clipboard = x.clipboard; signatures = x.signatures; log = x.log })
      (record { one = x.one; two = e; clipboard = x.clipboard; signatures = x.signatures; log = x.log })

  -- what the paste leaves of a state, by the dossier, the clipboard and the log afterwards
  abbrev left_by : Bool → things.Dossier → things.Clipboard → List (ℕ × ℕ) → State → Session
  left_by b e k l x = session_of (run.with_log l (run.with_clipboard k (under b e x)))

  restored : (b : Bool) (d e : things.Dossier) (l : List (ℕ × ℕ)) → clipped_in s.clipboard (left_by b e (run.clipped r d seen) l (view_session lying)) ≡ left_by b e (run.clipped r d (view_clipboard s.clipboard)) l (view_session s)
  restored true d e l = ap (λ (k : Clipboard). clipped_in k (left_by true e seen l (view_session s))) (clipboard_same h ∙ ap clipboard_of (sym (kept d (view_clipboard s.clipboard))))
  restored false d e l = ap (λ (k : Clipboard). clipped_in k (left_by false e seen l (view_session s))) (clipboard_same h ∙ ap clipboard_of (sym (kept d (view_clipboard s.clipboard))))

  both : (o : Option ℕ) → ((left_of (outcome (view_session lying) r seen o)).answer ≡ (left_of (outcome (view_session s) r seen o)).answer)
      × (clipped_in s.clipboard (left_of (outcome (view_session lying) r seen o)).session ≡ (left_of (outcome (view_session s) r seen o)).session)
  both none =
      let d = run.dossier r.dossier (view_session s) in
      (refl, restored (eqb r.dossier 1) d (run.edited r d seen) (run.logged r.user (provisions (granted r (run.found r d))).messages (view_session s).log))
  both (some k) = (refl, ap (λ (k : Clipboard). clipped_in k (session_of (view_session s))) (clipboard_same h))

  pub swapped : ((from_of lying r seen).answer ≡ (from_of s r seen).answer) × (clipped_in s.clipboard (from_of lying r seen).session ≡ (from_of s r seen).session)
  swapped = both (judged (view_session s) r seen)

is_true : (b : Bool) → T b → b ≡ true
is_true true t = refl
is_true false t = absurd t

-- a sound session with another sound clipboard is sound
clipped_sound : {s : Session} {c : Clipboard} → SessionSound s → ClipboardSound c → SessionSound (clipped_in c s)
clipped_sound h k = record { model = run.with_clipboard k.model h.model; same = λ i. clipped_in (k.same i) (h.same i); fits = record { one = h.fits.one; two = h.fits.two; clipboard = k.fits; rows = h.fits.rows; agreements = h.fits.agreements; entries = h.fits.entries; log = h.fits.log } }

-- ---- request 17's image, laden
module _ (s : Session) (r : structs.Request) (c : Clipboard) (w : Carries s r c) where
  pub laid_out_lem : SessionSound (clipped_in c s) × Pastes (view_request r) (view_clipboard c)
  laid_out_lem = (clipped_sound w.sound w.held, λ p. w.branch)

  pub laden_left : ((from_of (clipped_in c s) (view_request r) (view_clipboard c)).answer ≡ (laden_step s r c).answer)
      × (clipped_in s.clipboard (from_of (clipped_in c s) (view_request r) (view_clipboard c)).session ≡ (laden_step s r c).session)
  laden_left = swapped w.sound (view_request r) (seventeen (view_request r) w.places) c

-- a branch, or a refusal
abbrev Found : Type 0
Found = Result Dossier image.BadRecord

as_laden : (l : Found) {c : Clipboard} → laden_of l ≡ Ok c → (x : Dossier) × (Ok x ≡ l) × (record { kind = 1; held = x } ≡ c)
as_laden (Ok x) e = (x, refl, cc)
as_laden (Err k) e = absurd (cc)

as_refused : (l : Found) {e : Refusal} → laden_of l ≡ Err e → (k : image.BadRecord) × (Err k ≡ l) × (BadRecord k.number ≡ e)
as_refused (Ok x) e = absurd (cc)
as_refused (Err k) e = (k, refl, cc)

-- ---- the whole request
module _ (s : Session) (q : structs.Request) (image : List ℕ) (h : SessionSound s) where
  abbrev asked : Request
  asked = view_request q

  places_not : T (not (run.places asked)) → T (run.places asked) → ⊥
  places_not t = T_not (run.places asked) t

  pub stay_asks : T (not (run.places asked)) → SessionSound s × Pastes asked (view_clipboard s.clipboard)
  stay_asks t = (h, λ p. absurd (places_not t p))

  pub stay_left : T (not (run.places asked)) → ((from_of s asked (view_clipboard s.clipboard)).answer ≡ (stepped_of s (run.request asked image)).answer) × ((from_of s asked (view_clipboard s.clipboard)).session ≡ (stepped_of s (run.request asked image)).session)
  stay_left t = let e = not_looked s asked image (places_not t) in (ap (λ (o : Stepped). o.answer) e, ap (λ (o : Stepped). o.session) e)

  abbrev loaded : Found
  loaded = loaded_of (load_added q.user image)

  placing : T (not (not (run.places asked))) → T (run.places asked)
  placing t = not_not (run.places asked) (T_not (not (run.places asked)) t)

  module _ (t : T (not (not (run.places asked)))) where
    abbrev user : bad_operand asked ≡ false
    user = operands asked (placing t)

    module _ {c : Clipboard} (e : laden_of loaded ≡ Ok c) where
      laid : Held q.user (adder asked user) image c
      laid =
          let w = as_laden loaded e in
          let g = good_image q.user (adder asked user) image w.1 in
          g.1 c (sym w.2 ∙ ap (λ (d : Dossier). record { kind = 1; held = d }) (dossier_same g.0))

      pub carries : Carries s q c
      carries = record { sound = h; places = placing t; held = laid.sound; branch = laid.branch }

      pub carries_left : ((laden_step s q c).answer ≡ (stepped_of s (run.request asked image)).answer) × ((laden_step s q c).session ≡ (stepped_of s (run.request asked image)).session)
      carries_left = let f = ap (with_of s asked) laid.seen ∙ looked s asked image (placing t) in (ap (λ (o : Stepped). o.answer) f, ap (λ (o : Stepped). o.session) f)

    pub refused_left : {e : Refusal} → laden_of loaded ≡ Err e → (Err e ≡ (stepped_of s (run.request asked image)).answer) × (s ≡ (stepped_of s (run.request asked image)).session)
    refused_left {e} k =
        let w = as_refused loaded k in
        let f = ap (λ (x : Refusal). record { session = s; answer = Err x }) (sym w.2) ∙ bad_image q.user (adder asked user) image w.1 s asked h ∙ looked s asked image (placing t) in
        (ap (λ (o : Stepped). o.answer) f, ap (λ (o : Stepped). o.session) f)
