-- A cached attribute: its permissions are a table of one object, and no permission stands where its name is not taken. Assumes nothing.
use mathlib.Core.Path.{◌≡◌, sym, ap, subst, ◌∙◌}
use mathlib.Core.Bool.{Bool, false}
use mathlib.Core.Option.{Option, none}
use mathlib.Core.List.Memᴰ
use mathlib.Core.List.{List, [], ◌∷◌, map, map-map, map-id}
use Prim.Native.Nat.{ℕ, ◌<◌}
use native.Mathlib.Omega.{arith}
use lib.Dec.{T, eqb, eqb→eq}
use lib.ListN.{get_or, length-map}
use borrow.Author.Tests.{ne_eqb}
use Rattle.laws.specs.Slots.{All, pick}
use Rattle.laws.specs.Sorted.{◌∈◌}
use Rattle.laws.proofs.Sorted.{map_sorted}
use Rattle.path.specs.Address.{Address, same, valid}
use Rattle.path.proofs.Structs.{both}
use Rattle.path.proofs.Laws.{same_eq}
use Rattle.model.specs.Things as things
use Rattle.model.specs.Things.{Row, lt_permission, before_permission}
use Rattle.model.specs.Image.{there}
use Rattle.model.specs.Moves.{grant_row, node_at, attribute_at, attribute_object, object_at}
use Rattle.model.specs.Sound.{Sound, SoundSingle, SoundClipboard}
use Rattle.roundtrip.proofs.Checks.{there_map}
use Rattle.tables.specs.View.{Attributes}
use Rattle.tables.specs.View.{Permissions}
use Rattle.tables.specs.declared.Clipboard.{Clipboard}
use Rattle.tables.specs.View.{view_attribute, attributes_of, no_attribute, view_permissions, permissions_of, PermissionsSound, clipboard_of, ClipboardSound}
use Rattle.tables.proofs.Rows.{view_attribute_lem, view_permissions_lem}
use Rattle.moves.specs.Room.{OneObject, NoObject, grant_in}
use Rattle.permissions.proofs.Objects.{object_less}

-- ---- the clipboard's kind says what it holds
pub record Holds (c : Clipboard) : Type 0 where
  pub attribute : things.Attribute
  pub permissions : List things.Permission
  pub same : c ≡ clipboard_of (things.single attribute permissions)
  pub fits : SoundSingle attribute permissions

pub holds_single : {c : Clipboard} → ClipboardSound c → c.kind ≡ 2 → Holds c
holds_single {c} h k = go h.model h.same h.fits
  where
    go : (m : things.Clipboard) → c ≡ clipboard_of m → SoundClipboard m → Holds c
    go things.empty e s = absurd (let z : ◌≡◌ {A = ℕ} 2 0 = sym k ∙ ap (λ (x : Clipboard). x.kind) e in omega arith)
    go (things.branch d) e s = absurd (let z : ◌≡◌ {A = ℕ} 2 1 = sym k ∙ ap (λ (x : Clipboard). x.kind) e in omega arith)
    go (things.single a l) e s = record { attribute = a; permissions = l; same = e; fits = s }

-- ---- its attribute, at the root's path
pub cached_row : {t : Attributes} (a : things.Attribute) → t ≡ attributes_of (([], a) ∷ []) → view_attribute (get_or t.rows 0 no_attribute) ≡ ([], a)
unfolding attributes_of
cached_row a e = ap (λ (x : Attributes). view_attribute (get_or x.rows 0 no_attribute)) e ∙ view_attribute_lem ([], a)

-- ---- its permissions, at the root's path
root_valid : (n : ℕ) (l : List things.Permission) → All (λ (r : Row (ℕ × things.Permission)). T (valid r.0)) (map (grant_row [] n) l)
root_valid n [] = tt
root_valid n (g ∷ l) = (tt, root_valid n l)

pub cached_sound : {t : Permissions} {a : things.Attribute} {l : List things.Permission} → SoundSingle a l → t ≡ permissions_of (map (grant_row [] a.name) l) → PermissionsSound t
cached_sound {a = a} {l} s e =
    let few = s.few in
    let len = length-map l (grant_row [] a.name) in
    record {
      model = map (grant_row [] a.name) l;
      same = e;
      fits = record {
        room = omega arith;
        each = root_valid a.name l;
        ascend = map_sorted lt_permission before_permission (grant_row [] a.name)
            (object_less [] a.name) s.ascend;
      };
    }

pub cached_seen : {t : Permissions} (n : ℕ) (l : List things.Permission) → t ≡ permissions_of (map (grant_row [] n) l) → view_permissions t ≡ map (grant_row [] n) l
cached_seen n l e = ap view_permissions e ∙ view_permissions_lem (map (grant_row [] n) l)

pub cached_grants : (n : ℕ) (l : List things.Permission) → map grant_in (map (grant_row [] n) l) ≡ l
cached_grants n l = map-map grant_in (grant_row [] n) l ∙ map-id l

pub cached_one : {k : List (Row (ℕ × things.Permission))} (n : ℕ) (l : List things.Permission) → k ≡ map (grant_row [] n) l → OneObject k
cached_one n l e r s h g =
    let u = Memᴰ.of_map (grant_row [] n) l (subst (λ z. r ∈ z) e h) in
    let v = Memᴰ.of_map (grant_row [] n) l (subst (λ z. s ∈ z) e g) in
    (sym (ap (λ x. x.0) u.2) ∙ ap (λ x. x.0) v.2, sym (ap (λ x. x.1.0) u.2) ∙ ap (λ x. x.1.0) v.2)

-- ---- where a name is not taken
no_object_at : (p : Address) (n : ℕ) (d : things.Dossier) → 0 < n → attribute_at p n d ≡ none → T (there (object_at p n d)) → ⊥
no_object_at p n d h e t =
    let z : eqb n 0 ≡ false = ne_eqb n 0 (λ k. omega arith) in
    subst (λ (o : Option things.Attribute). T (there o)) e
    (subst T (there_map _ (attribute_at p n d)) (subst (λ (b : Bool). T (there (pick b (node_at p d) (attribute_object p n d)))) z t))

pub no_object : (p : Address) (n : ℕ) (d : things.Dossier) → Sound d → 0 < n → attribute_at p n d ≡ none → NoObject p n d.permissions
no_object p n d s h e r m t =
    let w = both (same r.0 p) (eqb r.1.0 n) t in
    no_object_at p n d h e
    (subst (λ (k : ℕ). T (there (object_at p k d))) (eqb→eq r.1.0 n w.1)
    (subst (λ (q : Address). T (there (object_at q r.1.0 d))) (same_eq r.0 p w.0) (s.on_object r m)))
