-- A row stored behind those that a table holds, and the table as it is seen then. Assumes nothing.
use mathlib.Core.Path.{◌≡◌, refl, ap, ap₂, ◌∙◌}
use mathlib.Core.List.{List, [], ◌∷◌, ◌++◌, map}
use Prim.Native.Nat.{ℕ, ◌+◌, ◌<◌}
use native.Mathlib.Omega.{arith}
use lib.ListN.{length, set, length-append, length-map}
use Rattle.laws.specs.Slots.{slots}
use Rattle.laws.proofs.Fill.{slots_next}
use Rattle.model.specs.Things as things
use Rattle.model.specs.Things.{Row}
use Rattle.tables.specs.declared.Node.{Node}
use Rattle.tables.specs.declared.Attribute.{Attribute}
use Rattle.tables.specs.declared.Permission.{Permission}
use Rattle.tables.specs.View.{Nodes}
use Rattle.tables.specs.View.{Attributes}
use Rattle.tables.specs.View.{Permissions}
use Rattle.tables.specs.View.{node_of, attribute_of, permission_of, blank_node, blank_attribute, blank_permission, view_nodes, nodes_with, nodes_of, NodesSound, view_attributes, attributes_with, attributes_of, AttributesSound, view_permissions, permissions_with, permissions_of, PermissionsSound}
use Rattle.tables.proofs.Tables.{nodes_same, attributes_same, permissions_same}

pub map_one : {A B : Type 0} (f : A → B) (l : List A) (x : A) → map f l ++ (f x ∷ []) ≡ map f (l ++ (x ∷ []))
map_one f [] x = refl
map_one f (y ∷ l) x = ap (λ m. f y ∷ m) (map_one f l x)

-- any table, made of rows and a count by mk, that stands for the rows l
stored : {S M T : Type 0} (mk : List S → ℕ → T) (of : M → S) (n : ℕ) (b : S) (rows : List S) (count : ℕ) (l : List M) (x : M) (s : S)
    → rows ≡ slots n b (map of l) → count ≡ length l → count < n → s ≡ of x → mk (set rows count s) (count + 1) ≡ mk (slots n b (map of (l ++ (x ∷ [])))) (length (l ++ (x ∷ [])))
stored mk of n b rows count l x s e c h f =
    let m = length-map l of in
    let k = length-append l (x ∷ []) in
    let z : count + 1 ≡ length (l ++ (x ∷ [])) = omega arith in
    ap₂ mk
    (ap₂ (λ r v. set r count v) e f ∙ slots_next n b (map of l) (of x) count (omega arith) (omega arith) ∙ ap (slots n b) (map_one of l x)) z

pub node_stored : (t : Nodes) → NodesSound t → t.count < 64 → (x : Row ℕ) (s : Node) → s ≡ node_of x → nodes_with (set t.rows t.count s) (t.count + 1) ≡ nodes_of (view_nodes t ++ (x ∷ []))
unfolding nodes_of
node_stored t h c x s e =
    let same = nodes_same t h in
    stored nodes_with node_of 64 blank_node t.rows t.count (view_nodes t) x s (ap (λ z. z.rows) same) (ap (λ z. z.count) same) c e

pub attribute_stored : (t : Attributes) → AttributesSound t → t.count < 256 → (x : Row things.Attribute) (s : Attribute) → s ≡ attribute_of x
    → attributes_with (set t.rows t.count s) (t.count + 1) ≡ attributes_of (view_attributes t ++ (x ∷ []))
unfolding attributes_of
attribute_stored t h c x s e =
    let same = attributes_same t h in
    stored attributes_with attribute_of 256 blank_attribute t.rows t.count (view_attributes t) x s (ap (λ z. z.rows) same) (ap (λ z. z.count) same) c e

pub permission_stored : (t : Permissions) → PermissionsSound t → t.count < 128 → (x : Row (ℕ × things.Permission)) (s : Permission) → s ≡ permission_of x
    → permissions_with (set t.rows t.count s) (t.count + 1) ≡ permissions_of (view_permissions t ++ (x ∷ []))
unfolding permissions_of
permission_stored t h c x s e =
    let same = permissions_same t h in
    stored permissions_with permission_of 128 blank_permission t.rows t.count (view_permissions t) x s (ap (λ z. z.rows) same) (ap (λ z. z.count) same) c e
