-- Sound tables: each is the one that stands for its rows, and holds as many as the model's; tables of no row and of one. Assumes nothing.
use mathlib.Core.Path.{◌≡◌, sym, ap, ◌∙◌}
use mathlib.Core.List.Memᴰ
use mathlib.Core.List.{[], ◌∷◌, map, List}
use Prim.Native.Nat.{ℕ}
use native.Mathlib.Omega.{arith}
use lib.ListN.{length, take}
use Rattle.laws.specs.Sorted.{nil, cons}
use Rattle.laws.proofs.Fill.{Held, held_seen, is_same}
use Rattle.model.specs.Things as things
use Rattle.tables.specs.View.{Nodes}
use Rattle.tables.specs.View.{Attributes}
use Rattle.tables.specs.View.{Permissions}
use Rattle.tables.specs.View.{AtPath, view_node, node_of, view_nodes, nodes_of, NodesSound, blank_node, view_attribute, attribute_of, view_attributes, attributes_of, AttributesSound, blank_attribute, view_permission, permission_of, view_permissions, permissions_of, PermissionsSound, blank_permission, Fits}
use Rattle.tables.proofs.Rows.{view_node_lem, nodes_held, view_nodes_lem, view_attribute_lem, attributes_held, view_attributes_lem, view_permission_lem, permissions_held, view_permissions_lem}

count_of : {S M : Type 0} (of : M → S) (v : S → M) → ((m : M) → v (of m) ≡ m) → (P : M → Type 0) (n : ℕ) (b : S) (rows : List S) (count : ℕ)
    → Held of P n b rows count → count ≡ length (map v (take count rows))
count_of of v e P n b rows count h = h.count_is ∙ ap length (sym (held_seen of v e P n b rows count h))

-- ---- nodes
pub nodes_same : (t : Nodes) → NodesSound t → t ≡ nodes_of (view_nodes t)
nodes_same = is_same nodes_of view_nodes view_nodes_lem (Fits things.before_node 64)

pub nodes_count : (t : Nodes) → NodesSound t → t.count ≡ length (view_nodes t)
nodes_count t h = count_of node_of view_node view_node_lem AtPath 64 blank_node t.rows t.count (nodes_held t h)

pub nodes_none : {t : Nodes} → t ≡ nodes_of [] → NodesSound t × (view_nodes t ≡ [])
nodes_none e = (record { model = []; same = e; fits = record { room = omega arith; each = tt; ascend = nil } }, ap view_nodes e ∙ view_nodes_lem [])

-- the root alone
pub nodes_one : {t : Nodes} (o : ℕ) → t ≡ nodes_of (([], o) ∷ []) → NodesSound t × (view_nodes t ≡ ([], o) ∷ [])
nodes_one o e = (
  record { model = ([], o) ∷ []; same = e; fits = record { room = omega arith; each = (tt, tt); ascend = cons (λ y m. absurd (Memᴰ.not-nil m)) nil } },
  ap view_nodes e ∙ view_nodes_lem (([], o) ∷ []),
)

-- ---- attributes
pub attributes_same : (t : Attributes) → AttributesSound t → t ≡ attributes_of (view_attributes t)
attributes_same = is_same attributes_of view_attributes view_attributes_lem (Fits things.before_attribute 256)

pub attributes_count : (t : Attributes) → AttributesSound t → t.count ≡ length (view_attributes t)
attributes_count t h = count_of attribute_of view_attribute view_attribute_lem AtPath 256 blank_attribute t.rows t.count (attributes_held t h)

pub attributes_none : {t : Attributes} → t ≡ attributes_of [] → AttributesSound t × (view_attributes t ≡ [])
attributes_none e = (record { model = []; same = e; fits = record { room = omega arith; each = tt; ascend = nil } }, ap view_attributes e ∙ view_attributes_lem [])

-- ---- permissions
pub permissions_same : (t : Permissions) → PermissionsSound t → t ≡ permissions_of (view_permissions t)
permissions_same = is_same permissions_of view_permissions view_permissions_lem (Fits things.before_permission 128)

pub permissions_count : (t : Permissions) → PermissionsSound t → t.count ≡ length (view_permissions t)
permissions_count t h = count_of permission_of view_permission view_permission_lem AtPath 128 blank_permission t.rows t.count (permissions_held t h)
