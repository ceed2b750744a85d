-- The loader and the saver undo each other: what `save::save` wrote `load` reads as the same dossier, and what `load` accepted `save` writes as the same bytes. In the words of their contracts. Assumes nothing.
use mathlib.Core.Path.{◌≡◌, refl, sym, ap, subst, ◌∙◌}
use mathlib.Core.Bool.{Bool, true, false}
use mathlib.Core.List.{List}
use Prim.Native.Nat.{ℕ}
use lib.ListN.{length, take, drop}
use lib.Seq.{take_at}
use Rattle.std.proofs.Common.{Result, Ok, Err, Some, None, is_some}
use Rattle.laws.specs.Slots.{pick}
use Rattle.laws.proofs.Fill.{is_seen, is_same}
use Rattle.path.proofs.Structs.{no}
use Rattle.model.specs.Things as things
use Rattle.model.specs.Run.{short, written}
use Rattle.model.specs.Image as images
use Rattle.model.specs.Image.{bad, good, load, save}
use Rattle.model.specs.Sound.{Sound}
use Rattle.roundtrip.proofs.Load.{load_save}
use Rattle.roundtrip.proofs.SaveLoad.{load_sound, save_load}
use Rattle.tables.specs.declared.Dossier.{Dossier}
use Rattle.tables.specs.View.{view_dossier, dossier_of, DossierSound}
use Rattle.tables.proofs.Rows.{view_dossier_lem}
use Rattle.save.specs.Saved.{written_of, left_in}
use Rattle.image.specs.declared.BadRecord.{BadRecord}
use Rattle.image.specs.View.{loaded_of}

-- ---- what was written: the first n bytes of the buffer are the image
wrote : (bytes buffer : List ℕ) (n : ℕ) → written_of bytes buffer ≡ Some n → take n (left_in bytes buffer) ≡ bytes
wrote bytes buffer n = go (short bytes buffer)
  where
    go : (t : Bool) → pick t None (Some (length bytes)) ≡ Some n → take n (pick t buffer (written bytes buffer)) ≡ bytes
    go true e = no (sym (ap is_some e))
    go false e = let m : length bytes ≡ n = cc in take_at bytes (drop (length bytes) buffer) n m

-- what save wrote into a buffer, of a sound dossier, loads as that dossier
pub saved_loads : (d : Dossier) → DossierSound d → (buffer : List ℕ) (n : ℕ) → written_of (save (view_dossier d)) buffer ≡ Some n
    → loaded_of (load (take n (left_in (save (view_dossier d)) buffer))) ≡ Ok d
saved_loads d h buffer n e =
    let s = subst Sound (sym (is_seen dossier_of view_dossier view_dossier_lem Sound d h)) h.fits in
    let x = is_same dossier_of view_dossier view_dossier_lem Sound d h in
    ap (λ (b : List ℕ). loaded_of (load b)) (wrote (save (view_dossier d)) buffer n e)
    ∙ ap loaded_of (load_save (view_dossier d) s)
    ∙ ap Ok (sym x)

-- what load accepted is sound, and saves as the bytes it came from: their number, or that the buffer is too short for them, and the buffer as it is left
pub record SavesAs (b : List ℕ) (d : Dossier) : Type 0 where
  pub sound : DossierSound d
  pub answer : (buffer : List ℕ) → written_of (save (view_dossier d)) buffer ≡ written_of b buffer
  pub left : (buffer : List ℕ) → left_in (save (view_dossier d)) buffer ≡ left_in b buffer

pub loaded_saves : (b : List ℕ) (d : Dossier) → Ok d ≡ loaded_of (load b) → SavesAs b d
loaded_saves b d e = go (load b) refl
  where
    dossier_in : Result Dossier BadRecord → Dossier
    dossier_in (Ok x) = x
    dossier_in (Err k) = d

    is_good : Result Dossier BadRecord → Bool
    is_good (Ok x) = true
    is_good (Err k) = false

    go : (o : images.Loaded things.Dossier) → load b ≡ o → SavesAs b d
    go (bad k) q = no (ap is_good (e ∙ ap loaded_of q))
    go (good m) q =
        let x : d ≡ dossier_of m = ap dossier_in (e ∙ ap loaded_of q) in
        let f : save (view_dossier d) ≡ b = ap save (ap view_dossier x ∙ view_dossier_lem m) ∙ save_load b m q in
        record {
          sound = record { model = m; same = x; fits = load_sound b m q };
          answer = λ buffer. ap (λ (y : List ℕ). written_of y buffer) f;
          left = λ buffer. ap (λ (y : List ℕ). left_in y buffer) f;
        }
