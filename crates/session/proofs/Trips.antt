-- Images there and back, over the calls: what save wrote loads as the same dossier, and what load took saves as the same bytes. Assumes nothing.
use mathlib.Core.Path.{◌≡◌, refl, sym, ap, ◌∙◌}
use mathlib.Core.Bool.{Bool, true, false, not}
use mathlib.Core.Option.{Option, none, some}
use mathlib.Core.List.{List, [], ◌∷◌}
use Prim.Native.Nat.{ℕ}
use lib.Dec.{T, eqb}
use lib.ListN.{length, take, drop}
use lib.Seq.{take_at}
use Rattle.laws.specs.Slots.{pick}
use Rattle.model.specs.Things as things
use Rattle.model.specs.Things.{State}
use Rattle.model.specs.Refusals.{first_that}
use Rattle.model.specs.Image as images
use Rattle.model.specs.Image.{Loaded, bad, good}
use Rattle.model.specs.Sound.{Sound, SoundState}
use Rattle.model.specs.Run as run
use Rattle.model.specs.Run.{Reply, reply, short, written, writes, dossier_good, dossier, with_dossier, step}
use Rattle.roundtrip.proofs.Load.{load_save}
use Rattle.roundtrip.proofs.SaveLoad.{save_load}
use Rattle.tables.specs.View.{dossier_of}
use Rattle.state.specs.declared.Session.{Session}
use Rattle.std.specs.Prelude.{Ok}
use Rattle.state.specs.declared.Reply.TheVariants.{Done, Wrote}
use Rattle.state.specs.View.{Answer, view_session, session_of, answer_of, SessionSound}
use Rattle.state.specs.Calls.{only_buffer, Steps, Writes}
use Rattle.state.proofs.Sessions.{view_session_lem, session_back, state_sound}
use Rattle.state.specs.Parts.{numbered_in}
use Rattle.session.proofs.Frame.{loads}

-- ---- the model's dossier n
dossier_put : (n : ℕ) (d : things.Dossier) (s : State) → dossier n (with_dossier n d s) ≡ d
dossier_put n d s = go (eqb n 1)
  where
    put : Bool → State
    put b =
        pick b (record { one = d; two = s.two; clipboard = s.clipboard; signatures = s.signatures; log = s.log })
        (record { one = s.one; two = d; clipboard = s.clipboard; signatures = s.signatures; log = s.log })

    go : (b : Bool) → pick b (put b).one (put b).two ≡ d
    go true = refl
    go false = refl

numbered_of : (n : ℕ) (s : State) → numbered_in n (session_of s) ≡ dossier_of (dossier n s)
numbered_of n s = go (eqb n 1)
  where
    go : (b : Bool) → pick b (dossier_of s.one) (dossier_of s.two) ≡ dossier_of (pick b s.one s.two)
    go true = refl
    go false = refl

pub dossier_sound : (n : ℕ) {s : State} → SoundState s → Sound (dossier n s)
dossier_sound n {s} h = go (eqb n 1)
  where
    go : (b : Bool) → Sound (pick b s.one s.two)
    go true = h.one
    go false = h.two

-- ---- what a save wrote
wrote_so : (o : Option ℕ) (s : State) (bytes buffer : List ℕ) (k : ℕ) → answer_of (writes o s s bytes buffer).1.answer ≡ Ok (Wrote k)
    → (k ≡ length bytes) × (only_buffer (writes o s s bytes buffer).1.lent ≡ written bytes buffer)
wrote_so none s bytes buffer k e = (cc, refl)
wrote_so (some n) s bytes buffer k e = absurd (cc)

pub saved : (s : Session) (n : ℕ) (buffer : List ℕ) (a : Answer) (b : List ℕ) → Writes s (run.save n buffer) a b → (k : ℕ) → a ≡ Ok (Wrote k)
    → let bytes = images.save (dossier n (view_session s)) in (k ≡ length bytes) × (take k b ≡ bytes)
unfolding step
saved s n buffer a b p k e =
    let v = view_session s in
    let bytes = images.save (dossier n v) in
    let o = first_that ((1, not (dossier_good n)) ∷ (9, short bytes buffer) ∷ []) in
    let w = wrote_so o v bytes buffer k (sym p.0 ∙ e) in
    (w.0, ap (take k) (p.1 ∙ w.1) ∙ take_at bytes (drop (length bytes) buffer) k (sym w.0))

-- ---- what a load took
loads_good : (b : Bool) → T b → (n : ℕ) (image : List ℕ) (d : things.Dossier) (s : State) → loads (first_that ((1, not b) ∷ [])) n image (good d) s ≡ (with_dossier n d s, reply run.done (image ∷ []))
loads_good true t n image d s = refl
loads_good false t n image d s = absurd t

took : (o : Option ℕ) (n : ℕ) (image : List ℕ) (l : Loaded things.Dossier) (s : State) → answer_of (loads o n image l s).1.answer ≡ Ok Done
    → (d : things.Dossier) × (l ≡ good d) × ((loads o n image l s).0 ≡ with_dossier n d s)
took none n image (bad k) s e = absurd (cc)
took none n image (good d) s e = (d, refl, refl)
took (some k) n image l s e = absurd (cc)

-- ---- there and back
pub saved_loads : (s : Session) → SessionSound s → (n : ℕ) (buffer : List ℕ) (a : Answer) (b : List ℕ) → Writes s (run.save n buffer) a b → (k : ℕ) → a ≡ Ok (Wrote k)
    → (u : Session) (m : ℕ) → T (dossier_good m) → (a' : Answer) (t : Session) → Steps u (run.load m (take k b)) a' t → (a' ≡ Ok Done) × (numbered_in m t ≡ numbered_in n s)
unfolding step
saved_loads s h n buffer a b p k e u m g a' t q =
    let d = dossier n (view_session s) in
    let v = view_session u in
    let w = saved s n buffer a b p k e in
    let l : images.load (take k b) ≡ good d = ap images.load w.1 ∙ load_save d (dossier_sound n (state_sound s h)) in
    let x : loads (first_that ((1, not (dossier_good m)) ∷ [])) m (take k b) (images.load (take k b)) v ≡ (with_dossier m d v, reply run.done (take k b ∷ [])) =
    ap (λ (z : Loaded things.Dossier). loads (first_that ((1, not (dossier_good m)) ∷ [])) m (take k b) z v) l ∙ loads_good (dossier_good m) g m (take k b) d v in (
      q.0 ∙ ap (λ (z : State × Reply). answer_of z.1.answer) x,
      ap (numbered_in m) (q.1 ∙ ap (λ (z : State × Reply). session_of z.0) x)
          ∙ numbered_of m (with_dossier m d v)
          ∙ ap dossier_of (dossier_put m d v)
          ∙ sym (numbered_of n (view_session s))
          ∙ ap (numbered_in n) (session_back s h),
    )

pub loaded_saves : (s : Session) (n : ℕ) (image : List ℕ) (a : Answer) (t : Session) → Steps s (run.load n image) a t → a ≡ Ok Done
    → (buffer : List ℕ) (a' : Answer) (b : List ℕ) → Writes t (run.save n buffer) a' b → (k : ℕ) → a' ≡ Ok (Wrote k) → (k ≡ length image) × (take k b ≡ image)
unfolding step
loaded_saves s n image a t p e buffer a' b q k f =
    let v = view_session s in
    let w = took (first_that ((1, not (dossier_good n)) ∷ [])) n image (images.load image) v (sym p.0 ∙ e) in
    let x : view_session t ≡ with_dossier n w.0 v = ap view_session p.1 ∙ view_session_lem (step v (run.load n image)).0 ∙ w.2 in
    let y : images.save (dossier n (view_session t)) ≡ image = ap (λ (z : State). images.save (dossier n z)) x ∙ ap images.save (dossier_put n w.0 v) ∙ save_load image w.0 w.1 in
    let z = saved t n buffer a' b q k f in
    (z.0 ∙ ap length y, z.1 ∙ y)
