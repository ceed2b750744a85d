-- What is pasted where a paste is not refused, and that there is room for it. Assumes nothing.
use mathlib.Core.Path.{◌≡◌, sym, ap, subst, ◌∙◌}
use mathlib.Core.Logic.{◌⊎◌}
use mathlib.Core.List.{[]}
use Prim.Native.Nat.{◌<◌}
use native.Mathlib.Omega.{arith}
use lib.Dec.{T}
use lib.ListN.{length, length-map}
use Rattle.model.specs.Things as things
use Rattle.model.specs.Moves.{grant_row}
use Rattle.model.specs.Refusals.{Request, Cached}
use Rattle.model.specs.Run.{cached}
use Rattle.model.specs.Sound.{SoundClipboard}
use Rattle.tables.specs.declared.Clipboard.{Clipboard}
use Rattle.tables.specs.View.{view_dossier, DossierSound, view_clipboard, clipboard_of, ClipboardSound, single_rows}
use Rattle.tables.proofs.Rows.{view_dossier_lem, view_clipboard_lem}
use Rattle.edits.specs.Room.{Room, SingleRoom}
use Rattle.deeds.specs.Classes.{Allowed}
use Rattle.deeds.proofs.Allowed.{paste_room, paste_branch_lem, single_room}

-- ---- a branch
pub record Branch (c : Clipboard) : Type 0 where
  pub sound : DossierSound c.held
  pub seen : view_clipboard c ≡ things.branch (view_dossier c.held)

branch_held : {c : Clipboard} → ClipboardSound c → T (cached (view_clipboard c)).branch → Branch c
branch_held {c} h t = go h.model h.same h.fits (subst (λ k. T (cached k).branch) (ap view_clipboard h.same ∙ view_clipboard_lem h.model) t)
  where
    go : (m : things.Clipboard) → c ≡ clipboard_of m → SoundClipboard m → T (cached m).branch → Branch c
    go things.empty e s t = absurd t
    go (things.branch d) e s t = record {
      sound = record { model = d; same = ap (λ (x : Clipboard). x.held) e; fits = s };
      seen = ap view_clipboard e ∙ view_clipboard_lem (things.branch d) ∙ ap things.branch (sym (ap (λ (x : Clipboard). view_dossier x.held) e ∙ view_dossier_lem d));
    }
    go (things.single a l) e s t = absurd t

module _ {c : Clipboard} {r : Request} {d : things.Dossier} (h : ClipboardSound c) (a : Allowed r d (view_clipboard c)) (b : r.number ≡ 17 → T (cached (view_clipboard c)).branch) where
  pub pasted_branch_lem : (r.number ≡ 7) ⊎ (r.number ≡ 17) → Branch c
  pasted_branch_lem e = branch_held h (paste_branch_lem a b e)

  pub branch_room : (r.number ≡ 7) ⊎ (r.number ≡ 17) → (0 < length r.path) × Room r.path (view_dossier c.held) d
  branch_room e =
      let w = paste_room a e in
      let k : cached (view_clipboard c) ≡ cached (things.branch (view_dossier c.held)) = ap cached (pasted_branch_lem e).seen in
      let n = ap (λ (x : Cached). x.sizes.nodes) k in
      let m = ap (λ (x : Cached). x.sizes.attributes) k in
      let p = ap (λ (x : Cached). x.sizes.permissions) k in
      let t = ap (λ (x : Cached). x.height) k in
      (w.below, record { nodes = omega arith; attributes = omega arith; permissions = omega arith; depth = omega arith })

-- ---- one attribute
pub record Single (c : Clipboard) : Type 0 where
  pub kind : c.kind ≡ 2
  pub permissions : (cached (view_clipboard c)).sizes.permissions ≡ length (view_dossier c.held).permissions

single_held : {c : Clipboard} → ClipboardSound c → T (cached (view_clipboard c)).attribute → Single c
single_held {c} h t = go h.model h.same (subst (λ k. T (cached k).attribute) (ap view_clipboard h.same ∙ view_clipboard_lem h.model) t)
  where
    go : (m : things.Clipboard) → c ≡ clipboard_of m → T (cached m).attribute → Single c
    go things.empty e t = absurd t
    go (things.branch d) e t = absurd t
    go (things.single a l) e t = record {
      kind = ap (λ (x : Clipboard). x.kind) e;
      permissions = ap (λ (x : Clipboard). (cached (view_clipboard x)).sizes.permissions) e
          ∙ ap (λ (k : things.Clipboard). (cached k).sizes.permissions) (view_clipboard_lem (things.single a l))
          ∙ sym (length-map l (grant_row [] a.name))
          ∙ sym (ap (λ (x : Clipboard). length (view_dossier x.held).permissions) e ∙ ap (λ (x : things.Dossier). length x.permissions) (view_dossier_lem (single_rows a l)));
    }

module _ {c : Clipboard} {r : Request} {d : things.Dossier} (h : ClipboardSound c) (a : Allowed r d (view_clipboard c)) where
  pub attribute_room : r.number ≡ 13 → (c.kind ≡ 2) × SingleRoom r.path r.name (view_dossier c.held) d
  attribute_room e =
      let w = single_room a e in
      let k = single_held h w.0 in
      let p = k.permissions in
      let l = w.2 in
      (k.kind, record { attribute = w.1.room; permissions = omega arith; named = w.1.named; fresh = w.1.free })
