-- How a dossier changes (document 01, "How addresses move"), for any payload: a row goes where its path goes.
use Rattle.std.specs.Prelude.{Bool, true, false, ◌&&◌, not, List, [], ◌∷◌, map, ℕ, max, ℤ, eqb, length}
use Rattle.std.proofs.Math.Option
use Rattle.std.proofs.Math.Option.{Option, none, some}
use Rattle.std.specs.Int.Signed.{le_z}
use Rattle.laws.specs.Slots.{pick}
use Rattle.laws.specs.Sorted.{insert, merge, move}
use Rattle.path.specs.Address.{Address, same, up, down, off, on}
use Rattle.model.specs.Things.{Value, Attribute, Permission, Row, Dossier, Clipboard, empty, branch, single, bare, before_node, before_attribute, before_permission}
use Rattle.model.specs.Decide.{Object}

-- ---- rows
-- a row goes where its path goes
abbrev pub carry : {P : Type 0} → (Address → Option Address) → Row P → Option (Row P)
carry f r = Option.map (λ p. (p, r.1)) (f r.0)

abbrev pub carried : {P : Type 0} → (Address → Option Address) → List (Row P) → List (Row P)
carried f l = move (carry f) l

-- the rows for which the test holds
abbrev pub keep : {X : Type 0} → (X → Bool) → X → Option X
keep test x = pick (test x) (some x) none

-- what stands at the path p
abbrev pub at : {P : Type 0} → Address → Row P → Option P
at p r = pick (same r.0 p) (some r.1) none

abbrev pub head : {A : Type 0} → List A → Option A
head [] = none
head (x ∷ l) = some x

-- ---- what a dossier holds
-- the name in a permission's row says whether it is for the node or for which attribute
abbrev pub named : ℕ → ℕ × Permission → Option Permission
named n g = pick (eqb g.0 n) (some g.1) none

-- in a table: the permissions for one object, a node's owner, an attribute, the names on a node ascending
abbrev pub permissions_in : Address → ℕ → List (Row (ℕ × Permission)) → List Permission
permissions_in p n l = move (named n) (move (at p) l)

abbrev pub owner_in : Address → List (Row ℕ) → Option ℕ
owner_in p l = head (move (at p) l)

abbrev pub called : ℕ → Attribute → Option Attribute
called n a = pick (eqb a.name n) (some a) none

abbrev pub attribute_in : Address → ℕ → List (Row Attribute) → Option Attribute
attribute_in p n l = head (move (called n) (move (at p) l))

abbrev pub names_in : Address → List (Row Attribute) → List ℕ
names_in p l = map (λ a. a.name) (move (at p) l)

-- the step of a path that is one step below p
abbrev pub one_step : Option Address → Option ℕ
one_step none = none
one_step (some []) = none
one_step (some (i ∷ [])) = some i
one_step (some (i ∷ j ∷ q)) = none

abbrev pub child_step : {P : Type 0} → Address → Row P → Option ℕ
child_step p r = one_step (off p r.0)

abbrev pub children_in : {P : Type 0} → Address → List (Row P) → ℕ
children_in p l = length (move (child_step p) l)

-- the steps of the longest path
abbrev pub deepest : {P : Type 0} → List (Row P) → ℕ
deepest [] = 0
deepest (r ∷ l) = max (length r.0) (deepest l)

-- the same of a dossier; a node and an attribute as objects, with their owner and permissions
abbrev pub permissions_for : Address → ℕ → Dossier → List Permission
permissions_for p n d = permissions_in p n d.permissions

abbrev pub node_at : Address → Dossier → Option Object
node_at p d = Option.map (λ o. record { owner = o; permissions = permissions_for p 0 d }) (owner_in p d.nodes)

abbrev pub attribute_at : Address → ℕ → Dossier → Option Attribute
attribute_at p n d = attribute_in p n d.attributes

abbrev pub attribute_object : Address → ℕ → Dossier → Option Object
attribute_object p n d = Option.map (λ a. record { owner = a.owner; permissions = permissions_for p n d }) (attribute_at p n d)

-- the object of a name at a path: "name (0 for a node)"
abbrev pub object_at : Address → ℕ → Dossier → Option Object
object_at p n d = pick (eqb n 0) (node_at p d) (attribute_object p n d)

abbrev pub names_on : Address → Dossier → List ℕ
names_on p d = names_in p d.attributes

abbrev pub child_count : Address → Dossier → ℕ
child_count p d = children_in p d.nodes

-- ---- branches
abbrev pub each : (Address → Option Address) → Dossier → Dossier
each f d = record { nodes = carried f d.nodes; attributes = carried f d.attributes; permissions = carried f d.permissions }

-- "Delete at q: objects at or below q go, with their permissions"; the others move
abbrev pub delete_branch : Address → Dossier → Dossier
delete_branch q d = each (down q) d

-- "Copy takes the branch with its owners and permissions, prefix removed"
abbrev pub copy_branch : Address → Dossier → Dossier
copy_branch q d = each (off q) d

-- "Add or paste at q": what stands there moves up, and the branch is put in "the prefix of the new place"
abbrev pub paste_branch : Address → Dossier → Dossier → Dossier
paste_branch q c d =
    record {
      nodes = merge before_node (carried (λ p. some (on q p)) c.nodes) (carried (λ p. some (up q p)) d.nodes);
      attributes = merge before_attribute (carried (λ p. some (on q p)) c.attributes) (carried (λ p. some (up q p)) d.attributes);
      permissions = merge before_permission (carried (λ p. some (on q p)) c.permissions) (carried (λ p. some (up q p)) d.permissions);
    }

-- "An added node .. belongs to the adding user": an empty node of his, pasted
abbrev pub add_node : Address → ℕ → Dossier → Dossier
add_node q u d = paste_branch q (bare u) d

-- ---- attributes
-- all rows but those of one object
abbrev pub other_attribute : Address → ℕ → Row Attribute → Bool
other_attribute p n r = not (same r.0 p && eqb r.1.name n)

abbrev pub other_object : Address → ℕ → Row (ℕ × Permission) → Bool
other_object p n r = not (same r.0 p && eqb r.1.0 n)

abbrev pub with_attribute : Address → Attribute → Dossier → Dossier
with_attribute p a d = record { nodes = d.nodes; attributes = insert before_attribute (p, a) d.attributes; permissions = d.permissions }

-- an attribute goes with its permissions
abbrev pub delete_attribute : Address → ℕ → Dossier → Dossier
delete_attribute p n d =
    record {
      nodes = d.nodes;
      attributes = move (keep (other_attribute p n)) d.attributes;
      permissions = move (keep (other_object p n)) d.permissions;
    }

-- the value of an attribute that was looked for; where there is none nothing changes (a request is refused 3 before that)
abbrev pub changed_row : Address → Value → Option Attribute → List (Row Attribute) → List (Row Attribute)
changed_row p v none l = l
changed_row p v (some a) l = insert before_attribute (p, record { name = a.name; owner = a.owner; value = v }) (move (keep (other_attribute p a.name)) l)

abbrev pub changed_in : Address → ℕ → Value → List (Row Attribute) → List (Row Attribute)
changed_in p n v l = changed_row p v (attribute_in p n l) l

-- "Changing a value keeps owner and permissions"
abbrev pub change_value : Address → ℕ → Value → Dossier → Dossier
change_value p n v d = record { nodes = d.nodes; attributes = changed_in p n v d.attributes; permissions = d.permissions }

-- a permission as a row
abbrev pub grant_row : Address → ℕ → Permission → Row (ℕ × Permission)
grant_row p n g = (p, (n, g))

-- "Paste attribute": the cached one under the new name, with its value, owner and permissions
abbrev pub paste_attribute : Address → ℕ → Attribute → List Permission → Dossier → Dossier
paste_attribute p n a l d =
    record {
      nodes = d.nodes;
      attributes = insert before_attribute (p, record { name = n; owner = a.owner; value = a.value }) d.attributes;
      permissions = merge before_permission (map (grant_row p n) l) d.permissions;
    }

-- ---- the clipboard
-- an attribute that was looked for, with its permissions, on the clipboard; where there is none it stays (a request is refused 3 before that)
abbrev pub copied : Address → ℕ → Dossier → Clipboard → Option Attribute → Clipboard
copied p n d c none = c
copied p n d c (some a) = single a (permissions_for p n d)

-- the cached branch pasted; where none is cached nothing changes (a request is refused 5 before that)
abbrev pub pasted_branch : Address → Dossier → Clipboard → Dossier
pasted_branch p d empty = d
pasted_branch p d (branch c) = paste_branch p c d
pasted_branch p d (single a l) = d

-- the cached attribute pasted; where none is cached nothing changes (a request is refused 5 before that)
abbrev pub pasted_attribute : Address → ℕ → Dossier → Clipboard → Dossier
pasted_attribute p n d empty = d
pasted_attribute p n d (branch c) = d
pasted_attribute p n d (single a l) = paste_attribute p n a l d

-- ---- permissions
abbrev pub same_time : ℤ → ℤ → Bool
same_time a b = le_z a b && le_z b a

-- "exact permission": every field
abbrev pub same_permission : Permission → Permission → Bool
same_permission p q =
    eqb p.role q.role
    && (eqb p.action q.action
    && (eqb p.user q.user
    && (same_time p.first q.first
    && (same_time p.last q.last && (eqb p.messages q.messages && eqb p.agreements q.agreements)))))

abbrev pub holds : Permission → List Permission → Bool
holds p [] = false
holds p (q ∷ l) = pick (same_permission p q) true (holds p l)

abbrev pub other_permission : Address → ℕ → Permission → Row (ℕ × Permission) → Bool
other_permission p n g r = not ((same r.0 p && eqb r.1.0 n) && same_permission g r.1.1)

abbrev pub add_permission : Address → ℕ → Permission → Dossier → Dossier
add_permission p n g d = record { nodes = d.nodes; attributes = d.attributes; permissions = insert before_permission (grant_row p n g) d.permissions }

abbrev pub delete_permission : Address → ℕ → Permission → Dossier → Dossier
delete_permission p n g d = record { nodes = d.nodes; attributes = d.attributes; permissions = move (keep (other_permission p n g)) d.permissions }
