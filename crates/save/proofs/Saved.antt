-- A dossier saved: its bytes are its tables' one behind the other, forty for each row; a sound clipboard saves as what it holds. Assumes nothing.
use mathlib.Core.Path.{◌≡◌, refl, sym, ap, subst, ◌∙◌}
use mathlib.Core.Bool.{Bool}
use mathlib.Core.List.Memᴰ
use mathlib.Core.List.{List, [], ◌∷◌, ◌++◌, map, map-map, append_assoc}
use Prim.Native.Nat.{ℕ, ◌+◌, ◌-◌, ◌*◌, ◌≤◌, ◌<◌}
use native.Mathlib.Nat.{zero-add}
use native.Mathlib.Omega.{arith}
use borrow.Author.Tests.{lt-ltb, le-ltb}
use lib.Dec.{T, ltb}
use lib.ListN.{length, take, replicate, length-append, length-map}
use Rattle.std.proofs.Common.{Some, None}
use Rattle.std.proofs.lemmas.List.{take_at}
use Rattle.laws.specs.Slots.{pick, put, All, Is}
use Rattle.laws.specs.Sorted.{nil, cons}
use Rattle.laws.proofs.Fill.{Held, held_room, is_fits}
use Rattle.laws.proofs.Order.{nat_order, lex2_right}
use Rattle.laws.proofs.Put.{then}
use Rattle.laws.proofs.Sorted.{map_sorted}
use Rattle.path.specs.Address.{valid}
use Rattle.model.specs.Things as things
use Rattle.model.specs.Things.{Row, lt_permission, before_permission}
use Rattle.model.specs.Moves.{grant_row}
use Rattle.model.specs.Sound.{SoundSingle, SoundClipboard}
use Rattle.model.specs.Image.{node_record, attribute_record, permission_record, bytes_of, save, save_clipboard}
use Rattle.model.specs.Run.{written}
use Rattle.tables.specs.declared.Dossier.{Dossier}
use Rattle.tables.specs.declared.Clipboard.{Clipboard}
use Rattle.tables.specs.View.{TablesFit, DossierFits, view_dossier, dossier_of, single_rows, clipboard_of, view_clipboard, ClipboardSound}
use Rattle.tables.proofs.Rows.{nodes_held, attributes_held, permissions_held, view_dossier_lem, view_clipboard_lem}
use Rattle.tables.proofs.Parts.{sound_fits, nodes_sound, attributes_sound, permissions_sound}
use Rattle.tables.proofs.Tables.{nodes_count, attributes_count, permissions_count}
use Rattle.save.specs.Saved.{written_of, left_in}
use Rattle.save.proofs.Rows.{bytes_append, rows_length, node_forty, attribute_forty, permission_forty}

-- ---- all or nothing
pub too_short : (bytes buffer : List ℕ) → length buffer < length bytes → (None ≡ written_of bytes buffer) × (buffer ≡ left_in bytes buffer)
too_short bytes buffer h =
    let e = sym (lt-ltb (length buffer) (length bytes) h) in
    (ap (λ (t : Bool). pick t None (Some (length bytes))) e, ap (λ (t : Bool). pick t buffer (written bytes buffer)) e)

pub all_written : (bytes buffer : List ℕ) {n : ℕ} {out : List ℕ} → n ≡ length bytes → n ≤ length buffer → out ≡ put buffer 0 bytes
    → (Some n ≡ written_of bytes buffer) × (out ≡ left_in bytes buffer)
all_written bytes buffer {n} {out} s h o =
    let e = sym (le-ltb (length buffer) (length bytes) (omega arith)) in
    (ap Some s ∙ ap (λ (t : Bool). pick t None (Some (length bytes))) e, (o ∙ simp zero-add) ∙ ap (λ (t : Bool). pick t buffer (written bytes buffer)) e)

-- ---- the tables one behind the other
module _ (d : things.Dossier) where
  abbrev pub node_bytes : List ℕ
  node_bytes = bytes_of (map node_record d.nodes)

  abbrev pub attribute_bytes : List ℕ
  attribute_bytes = bytes_of (map attribute_record d.attributes)

  abbrev pub permission_bytes : List ℕ
  permission_bytes = bytes_of (map permission_record d.permissions)

  save_parts : save d ≡ (node_bytes ++ attribute_bytes) ++ permission_bytes
  save_parts =
      bytes_append (map node_record d.nodes) (map attribute_record d.attributes ++ map permission_record d.permissions)
      ∙ ap (λ (b : List ℕ). node_bytes ++ b) (bytes_append (map attribute_record d.attributes) (map permission_record d.permissions))
      ∙ sym (append_assoc node_bytes attribute_bytes permission_bytes)

  module _ (fits : TablesFit d) where
    nodes_length : length node_bytes ≡ 40 * length d.nodes
    nodes_length = rows_length node_record node_forty d.nodes fits.nodes.each

    attributes_length : length attribute_bytes ≡ 40 * length d.attributes
    attributes_length = rows_length attribute_record attribute_forty d.attributes fits.attributes.each

    permissions_length : length permission_bytes ≡ 40 * length d.permissions
    permissions_length = rows_length permission_record permission_forty d.permissions fits.permissions.each

    -- forty bytes for each row
    pub save_length : length (save d) ≡ 40 * (length d.nodes + length d.attributes + length d.permissions)
    save_length =
        let n = nodes_length in
        let a = attributes_length in
        let p = permissions_length in
        let e = length-append node_bytes attribute_bytes in
        ap (λ (b : List ℕ). length b) save_parts ∙ length-append (node_bytes ++ attribute_bytes) permission_bytes ∙ omega arith

    -- one table after another leaves the dossier's bytes
    pub save_put : (buffer o m out : List ℕ) (i j : ℕ) → i ≡ 40 * length d.nodes → j ≡ i + 40 * length d.attributes → j + 40 * length d.permissions ≤ length buffer
        → o ≡ put buffer 0 node_bytes → m ≡ put o i attribute_bytes → out ≡ put m j permission_bytes → out ≡ put buffer 0 (save d)
    save_put buffer o m out i j hi hj room eo em eout =
        let n = nodes_length in
        let a = attributes_length in
        let p = permissions_length in
        let e = length-append node_bytes attribute_bytes in
        let ki : i ≡ 0 + length node_bytes = omega arith in
        let kj : j ≡ 0 + length (node_bytes ++ attribute_bytes) = omega arith in
        then buffer m out 0 (node_bytes ++ attribute_bytes) permission_bytes
        (then buffer o m 0 node_bytes attribute_bytes eo (em ∙ ap (λ (k : ℕ). put o k attribute_bytes) ki) (omega arith))
        (eout ∙ ap (λ (k : ℕ). put m k permission_bytes) kj) (omega arith)
        ∙ ap (put buffer 0) (sym save_parts)

-- ---- the rows that a table holds
module _ {S M : Type 0} (of : M → S) (P : M → Type 0) where
  all_is : (l : List M) → All P l → All (Is of P) (map of l)
  all_is [] h = tt
  all_is (x ∷ l) h = (record { model = x; same = refl; fits = h.0 }, all_is l h.1)

  pub held_all : (n : ℕ) (b : S) (rows : List S) (count : ℕ) → Held of P n b rows count → All (Is of P) (take count rows)
  held_all n b rows count h =
      let m = map of h.model in
      let e : take count rows ≡ m = ap (take count) h.rows_are ∙ take_at m (replicate (n - length m) b) count (length-map h.model of ∙ sym h.count_is) in
      subst (All (Is of P)) (sym e) (all_is h.model h.fits)

-- ---- the same of a dossier in arrays, by its counts
-- how many bytes it needs: no more than all tables full
pub record Need (d : Dossier) : Type 0 where
  pub nodes : d.nodes.count ≤ 64
  pub attributes : d.attributes.count ≤ 256
  pub permissions : d.permissions.count ≤ 128
  pub bytes : length (save (view_dossier d)) ≡ 40 * d.nodes.count + 40 * d.attributes.count + 40 * d.permissions.count

module _ (d : Dossier) (h : DossierFits d) where
  fitting : TablesFit (view_dossier d)
  fitting = is_fits dossier_of view_dossier view_dossier_lem TablesFit d h

  pub need : Need d
  need =
      let n = nodes_count d.nodes (nodes_sound h) in
      let a = attributes_count d.attributes (attributes_sound h) in
      let p = permissions_count d.permissions (permissions_sound h) in
      let e = save_length (view_dossier d) fitting in
      record {
        nodes = held_room _ _ _ _ _ _ (nodes_held d.nodes (nodes_sound h));
        attributes = held_room _ _ _ _ _ _ (attributes_held d.attributes (attributes_sound h));
        permissions = held_room _ _ _ _ _ _ (permissions_held d.permissions (permissions_sound h));
        bytes = omega arith;
      }

  pub saved : (buffer o m out : List ℕ) → 40 * d.nodes.count + 40 * d.attributes.count + 40 * d.permissions.count ≤ length buffer
      → o ≡ put buffer 0 (node_bytes (view_dossier d)) → m ≡ put o (40 * d.nodes.count) (attribute_bytes (view_dossier d))
      → out ≡ put m (40 * d.nodes.count + 40 * d.attributes.count) (permission_bytes (view_dossier d)) → out ≡ put buffer 0 (save (view_dossier d))
  saved buffer o m out room eo em eout =
      let n = nodes_count d.nodes (nodes_sound h) in
      let a = attributes_count d.attributes (attributes_sound h) in
      let p = permissions_count d.permissions (permissions_sound h) in
      save_put (view_dossier d) fitting buffer o m out (40 * d.nodes.count) (40 * d.nodes.count + 40 * d.attributes.count) (omega arith) (omega arith) (omega arith) eo em eout

-- ---- a clipboard
root_valid : (n : ℕ) (l : List things.Permission) → All (λ (r : Row (ℕ × things.Permission)). T (valid r.0)) (map (grant_row [] n) l)
root_valid n [] = tt
root_valid n (g ∷ l) = (tt, root_valid n l)

at_root_lem : (n : ℕ) (g h : things.Permission) → T (lt_permission g h) → T (before_permission (grant_row [] n g) (grant_row [] n h))
at_root_lem n g h t = lex2_right ltb nat_order n n (lt_permission g h) refl t

single_fits : (a : things.Attribute) (l : List things.Permission) → SoundSingle a l → TablesFit (single_rows a l)
single_fits a l s =
    let few = s.few in
    let len = length-map l (grant_row [] a.name) in
    record {
      nodes = record { room = omega arith; each = tt; ascend = nil };
      attributes = record { room = omega arith; each = (tt, tt); ascend = cons (λ y m. absurd (Memᴰ.not-nil m)) nil };
      permissions = record { room = omega arith; each = root_valid a.name l; ascend = map_sorted lt_permission before_permission (grant_row [] a.name) (at_root_lem a.name) s.ascend };
    }

held_fits : (m : things.Clipboard) → SoundClipboard m → DossierFits (clipboard_of m).held
held_fits things.empty s =
    record {
      model = record { nodes = []; attributes = []; permissions = [] };
      same = refl;
      fits = record {
        nodes = record { room = omega arith; each = tt; ascend = nil };
        attributes = record { room = omega arith; each = tt; ascend = nil };
        permissions = record { room = omega arith; each = tt; ascend = nil };
      };
    }
held_fits (things.branch d) s = record { model = d; same = refl; fits = sound_fits d s }
held_fits (things.single a l) s = record { model = single_rows a l; same = refl; fits = single_fits a l s }

pub clipboard_fits : {c : Clipboard} → ClipboardSound c → DossierFits c.held
clipboard_fits h = subst (λ (x : Clipboard). DossierFits x.held) (sym h.same) (held_fits h.model h.fits)

held_saved : (m : things.Clipboard) → save_clipboard m ≡ save (view_dossier (clipboard_of m).held)
held_saved things.empty = ap save (sym (view_dossier_lem (record { nodes = []; attributes = []; permissions = [] })))
held_saved (things.branch d) = ap save (sym (view_dossier_lem d))
held_saved (things.single a l) =
    ap (λ r. bytes_of (attribute_record ([], a) ∷ r)) (sym (map-map permission_record (grant_row [] a.name) l))
    ∙ ap save (sym (view_dossier_lem (single_rows a l)))

-- a clipboard of every kind saves as the dossier that it holds
pub clipboard_saved : (c : Clipboard) → ClipboardSound c → save_clipboard (view_clipboard c) ≡ save (view_dossier c.held)
clipboard_saved c h =
    ap (λ (x : Clipboard). save_clipboard (view_clipboard x)) h.same
    ∙ ap save_clipboard (view_clipboard_lem h.model)
    ∙ held_saved h.model
    ∙ ap (λ (x : Clipboard). save (view_dossier x.held)) (sym h.same)
