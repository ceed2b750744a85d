-- A session and the state that it stands for determine one another; the parts of a sound session are sound. Assumes nothing.
use mathlib.Core.Path.{◌≡◌, refl, sym, ap}
use mathlib.Core.List.{List, [], ◌∷◌}
use Prim.Native.Nat.{ℕ}
use Rattle.laws.proofs.Fill.{is_fits, is_same}
use Rattle.model.specs.Things.{State}
use Rattle.model.specs.Sound.{Sound, SoundState}
use Rattle.tables.specs.declared.Dossier.{Dossier}
use Rattle.tables.specs.View.{view_dossier, dossier_of, DossierSound, ClipboardSound}
use Rattle.tables.proofs.Rows.{view_dossier_lem, view_clipboard_lem}
use Rattle.state.specs.declared.Session.{Session}
use Rattle.state.specs.View.{view_signatures, signatures_of, view_session, session_of, SessionSound}
use Rattle.state.specs.Calls.{LogSound}
use Rattle.state.proofs.Logs.{view_log_lem}

pub dossier_same : {d : Dossier} → DossierSound d → d ≡ dossier_of (view_dossier d)
dossier_same {d} h = is_same dossier_of view_dossier view_dossier_lem Sound d h

pub view_signatures_lem : (l : List ℕ) → view_signatures (signatures_of l) ≡ l
view_signatures_lem [] = refl
view_signatures_lem (n ∷ l) = ap (λ z. n ∷ z) (view_signatures_lem l)

pub view_session_lem : (s : State) → view_session (session_of s) ≡ s
view_session_lem s =
    λ i. record {
      one = view_dossier_lem s.one i;
      two = view_dossier_lem s.two i;
      clipboard = view_clipboard_lem s.clipboard i;
      signatures = view_signatures_lem s.signatures i;
      log = view_log_lem s.log i;
    }

pub session_back : (s : Session) → SessionSound s → session_of (view_session s) ≡ s
session_back s h = sym (is_same session_of view_session view_session_lem SoundState s h)

pub state_sound : (s : Session) → SessionSound s → SoundState (view_session s)
state_sound s h = is_fits session_of view_session view_session_lem SoundState s h

module _ {s : Session} (h : SessionSound s) where
  pub one_sound : DossierSound s.one
  one_sound = record { model = h.model.one; same = ap (λ (x : Session). x.one) h.same; fits = h.fits.one }

  pub two_sound : DossierSound s.two
  two_sound = record { model = h.model.two; same = ap (λ (x : Session). x.two) h.same; fits = h.fits.two }

  pub clipboard_sound : ClipboardSound s.clipboard
  clipboard_sound = record { model = h.model.clipboard; same = ap (λ (x : Session). x.clipboard) h.same; fits = h.fits.clipboard }

  pub log_sound : LogSound s.log
  log_sound = record { model = h.model.log; same = ap (λ (x : Session). x.log) h.same; fits = h.fits.entries }
