-- What the deed of a request that is not refused needs: the rows of the refusal table, by the request's number. Assumes nothing.
use mathlib.Core.Path.{◌≡◌, refl, sym, subst}
use mathlib.Core.Logic.{◌⊎◌, inl, inr}
use mathlib.Core.Option.{none}
use mathlib.Core.List.{[], ◌∷◌}
use Prim.Native.Nat.{ℕ, ◌+◌, ◌≤◌, ◌<◌}
use native.Mathlib.Omega.{arith}
use lib.Dec.{T, leb, leb→le, not_T}
use lib.ListN.{length}
use mir.Facts.{and_yes}
use Rattle.laws.specs.Slots.{All}
use Rattle.path.specs.Address.{Address}
use Rattle.model.specs.Things.{Permission, Dossier, Clipboard}
use Rattle.model.specs.Decide.{clash_any}
use Rattle.model.specs.Moves.{grant_row, node_at, attribute_at, attribute_object, object_at}
use Rattle.model.specs.Refusals.{Request, missing, name_good, value_good, permission_good, grant_good, own_good, is_root, permissions_of, totals}
use Rattle.model.specs.Image.{there}
use Rattle.model.specs.Run.{found, cached}
use Rattle.roundtrip.proofs.Checks.{not_not, there_map}
use Rattle.roundtrip.proofs.Found.{grant_there, object_permissions}
use Rattle.roundtrip.proofs.Clash.{clash_in}
use Rattle.twin.proofs.SameNode.{self_clash}
use Rattle.twin.proofs.Requests.{Within, Passed, passed, operands_good, numbered, every_number}
use Rattle.twin.proofs.KeepRequest.{map_missing}
use Rattle.moves.specs.Room.{FreshPermission}
use Rattle.edits.specs.Room.{AttributeRoom, NodeRoom, PermissionRoom}
use Rattle.deeds.specs.Classes.{Allowed}

not_root : (p : Address) → (T (is_root p) → ⊥) → 0 < length p
not_root [] n = absurd (n tt)
not_root (x ∷ p) n = omega arith

named : {n : ℕ} → T (name_good n) → 0 < n
named {n} t = let h = leb→le 1 n (and_yes (leb 1 n) (leb n 65535) t).0 in omega arith

-- a permission that clashes with none is not held: it would clash with itself
not_held : (p : Address) (n : ℕ) (g : Permission) (d : Dossier) → T (permission_good n g) → T (there (object_at p n d))
    → (T (clash_any g (permissions_of (object_at p n d))) → ⊥) → FreshPermission (grant_row p n g) d.permissions
not_held p n g d good t free m =
    free (subst (λ l. T (clash_any g l)) (sym (object_permissions p n d t)) (clash_in g g _ (grant_there p n g d m) (self_clash n g good)))

-- room for a branch of these sizes at a path that is not the root's
pub record BranchRoom (r : Request) (d : Dossier) (c : Clipboard) : Type 0 where
  pub below : 0 < length r.path
  pub nodes : length d.nodes + (cached c).sizes.nodes ≤ 64
  pub depth : length r.path + (cached c).height ≤ 6
  pub attributes : length d.attributes + (cached c).sizes.attributes ≤ 256
  pub permissions : length d.permissions + (cached c).sizes.permissions ≤ 128

-- room for one attribute under a name that is not taken
pub record NameRoom (r : Request) (d : Dossier) : Type 0 where
  pub named : 0 < r.name
  pub free : attribute_at r.path r.name d ≡ none
  pub room : AttributeRoom d

module _ {r : Request} {d : Dossier} {c : Clipboard} (a : Allowed r d c) where
  at_number : {n : ℕ} → r.number ≡ n → Passed (numbered n r) (found r d) (cached c) a.standing
  at_number e = subst (λ (k : ℕ). Passed (numbered k r) (found r d) (cached c) a.standing) e (passed r (found r d) (cached c) a.standing a.free)

  own_good_lem : {n : ℕ} → r.number ≡ n → T (own_good (numbered n r))
  own_good_lem {n} e = (operands_good (numbered n r) (at_number e).operands).1

  room_at : {n : ℕ} → r.number ≡ n → Within (totals (numbered n r) (found r d) (cached c))
  room_at e = (at_number e).bounds

  -- ---- branches
  pub add_room : r.number ≡ 3 → (0 < length r.path) × NodeRoom d
  add_room e = let w = (room_at e).nodes in (not_root r.path (at_number e).root, omega arith)

  -- requests 7 and 17: of 7 the refusal table has seen that there is a branch
  pub paste_room : (r.number ≡ 7) ⊎ (r.number ≡ 17) → BranchRoom r d c
  paste_room (inl e) =
      let w = room_at e in
      record { below = not_root r.path (at_number e).root; nodes = w.nodes; depth = w.depth; attributes = w.attributes; permissions = w.permissions }
  paste_room (inr e) =
      let w = room_at e in
      record { below = not_root r.path (at_number e).root; nodes = w.nodes; depth = w.depth; attributes = w.attributes; permissions = w.permissions }

  pub paste_branch_lem : (r.number ≡ 17 → T (cached c).branch) → (r.number ≡ 7) ⊎ (r.number ≡ 17) → T (cached c).branch
  paste_branch_lem b (inl e) = not_not (cached c).branch (at_number e).kind
  paste_branch_lem b (inr e) = b e

  pub node_there : r.number ≡ 5 → T (there (node_at r.path d))
  node_there e = not_T (missing (node_at r.path d)) (at_number e).there

  pub node_there_cut : r.number ≡ 6 → T (there (node_at r.path d))
  node_there_cut e = not_T (missing (node_at r.path d)) (at_number e).there

  -- ---- attributes
  pub name_room : r.number ≡ 8 → NameRoom r d
  name_room e =
      let w = (room_at e).attributes in
      let n = (and_yes (name_good r.name) (value_good r.value) (own_good_lem e)).0 in
      record { named = named n; free = map_missing _ (attribute_at r.path r.name d) (at_number e).free; room = omega arith }

  pub single_room : r.number ≡ 13 → T (cached c).attribute × NameRoom r d × (length d.permissions + (cached c).sizes.permissions ≤ 128)
  single_room e =
      let w = (room_at e).attributes in (
        not_not (cached c).attribute (at_number e).kind,
        record { named = named (own_good_lem e); free = map_missing _ (attribute_at r.path r.name d) (at_number e).free; room = omega arith },
        (room_at e).permissions,
      )

  attribute_found : (T (missing (attribute_object r.path r.name d)) → ⊥) → T (there (attribute_at r.path r.name d))
  attribute_found n = subst T (there_map _ (attribute_at r.path r.name d)) (not_T (missing (attribute_object r.path r.name d)) n)

  pub attribute_there : r.number ≡ 11 → T (there (attribute_at r.path r.name d))
  attribute_there e = attribute_found (at_number e).there

  pub attribute_there_cut : r.number ≡ 12 → T (there (attribute_at r.path r.name d))
  attribute_there_cut e = attribute_found (at_number e).there

  -- ---- permissions
  fresh_permission : T (grant_good r) → (T (missing (object_at r.path r.name d)) → ⊥) → (T (clash_any r.permission (permissions_of (object_at r.path r.name d))) → ⊥)
      → FreshPermission (grant_row r.path r.name r.permission) d.permissions
  fresh_permission g n free =
      not_held r.path r.name r.permission d (and_yes (leb r.name 65535) (permission_good r.name r.permission) g).1 (not_T (missing (object_at r.path r.name d)) n) free

  pub permission_room : r.number ≡ 14 → PermissionRoom d × FreshPermission (grant_row r.path r.name r.permission) d.permissions
  permission_room e =
      let w = (room_at e).permissions in
      let p = at_number e in (omega arith, fresh_permission (own_good_lem e) p.there p.clash)

  pub delegate_room : r.number ≡ 16 → PermissionRoom d × FreshPermission (grant_row r.path r.name r.permission) d.permissions
  delegate_room e =
      let w = (room_at e).permissions in
      let p = at_number e in
      (omega arith, fresh_permission (and_yes (grant_good r) (leb r.permission.action 2) (own_good_lem e)).0 p.there p.clash)

  -- ---- a number that is in no row of the table of requests is refused 1
  pub known : All (λ l. All (λ k. r.number ≡ k → ⊥) l) ((1 ∷ 3 ∷ 4 ∷ 5 ∷ 6 ∷ 7 ∷ 17 ∷ []) ∷ (2 ∷ 9 ∷ 11 ∷ 12 ∷ 13 ∷ []) ∷ (8 ∷ 10 ∷ []) ∷ (14 ∷ 15 ∷ []) ∷ (16 ∷ []) ∷ []) → ⊥
  known f = every_number (λ k. r.number ≡ k → ⊥) r f (own_good_lem refl) refl
