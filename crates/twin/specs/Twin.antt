-- The second dossier's editor: every call of document 01 on trees. Owner and permissions sit on each node and attribute and go where it goes.
use Rattle.std.specs.Prelude.{Bool, true, false, ◌&&◌, not, List, [], ◌∷◌, ◌++◌, map, ℕ, eqb, leb, length}
use Rattle.std.proofs.Math.Option
use Rattle.std.proofs.Math.Option.{Option, none, some}
use Rattle.laws.specs.Slots.{pick}
use Rattle.laws.specs.Sorted.{merge, move}
use Rattle.path.specs.Address.{Address, parent}
use Rattle.model.specs.Things.{Value, Attribute, Permission, Row, before_node, before_attribute, before_permission, lt_attribute, lt_permission, fresh}
use Rattle.model.specs.Decide.{Object, Provisions}
use Rattle.model.specs.Moves.{keep, head, same_permission, grant_row}
use Rattle.model.specs.Refusals.{Request, choose, Sizes, Found, Cached, missing, user_good, granted, provisions, first_that, refusal}
use Rattle.model.specs.Image.{Record, node_record, attribute_record, permission_record, Loaded, bad, good, adding, load_from, bytes_of, node_fits, attribute_fits, permission_fits, left, there}
use Rattle.model.specs.Run as run
use Rattle.model.specs.Run.{Question, Call, start, new, load, save, save_clipboard, sign, take_log, request, ask, Answer, done, refused, bad_record, Reply, reply, short, writes, dossier_good, signed, logged, log_bytes, standing, places, may_ask}
use Rattle.twin.specs.Tree.{Tree, node, fnil, kids, count, branch, look, paste_tree, delete_tree, set_at, height, weigh, table, then}

-- ---- what a node and an attribute carry
pub record Holding : Type 0 where
  pub name : ℕ
  pub owner : ℕ
  pub value : Value
  pub permissions : List Permission

pub record Node : Type 0 where
  pub owner : ℕ
  pub permissions : List Permission
  pub attributes : List Holding

pub data Clip : Type 0 where
  empty : Clip
  branched : Tree Node → Clip
  single : Holding → Clip

pub record Session : Type 0 where
  pub one : Tree Node
  pub two : Tree Node
  pub clipboard : Clip
  pub signatures : List ℕ
  pub log : List (ℕ × ℕ)

abbrev pub leaf : ℕ → Tree Node
leaf u = node (record { owner = u; permissions = []; attributes = [] }) fnil

abbrev pub begun : Session
begun = record { one = leaf 1; two = leaf 1; clipboard = empty; signatures = fresh.signatures; log = [] }

-- ---- what a node says of itself
-- in the order of records
abbrev pub in_order : List Permission → List Permission
in_order l = merge lt_permission l []

abbrev pub plain : Holding → Attribute
plain a = record { name = a.name; owner = a.owner; value = a.value }

abbrev pub attributes_of : Node → List Attribute
attributes_of n = merge lt_attribute (map plain n.attributes) []

abbrev pub node_object : Node → Object
node_object n = record { owner = n.owner; permissions = in_order n.permissions }

abbrev pub holding_object : Holding → Object
holding_object a = record { owner = a.owner; permissions = in_order a.permissions }

abbrev pub called_so : ℕ → Holding → Bool
called_so name a = eqb a.name name

abbrev pub holding : ℕ → Node → Option Holding
holding name n = head (move (keep (called_so name)) n.attributes)

abbrev pub holding_at : Address → ℕ → Tree Node → Option Holding
holding_at p name t = then (look p t) (holding name)

abbrev pub node_at : Address → Tree Node → Option Object
node_at p t = Option.map node_object (look p t)

abbrev pub attribute_object : Address → ℕ → Tree Node → Option Object
attribute_object p name t = Option.map holding_object (holding_at p name t)

abbrev pub object_at : Address → ℕ → Tree Node → Option Object
object_at p name t = pick (eqb name 0) (node_at p t) (attribute_object p name t)

abbrev pub children_of : Option (Tree Node) → ℕ
children_of none = 0
children_of (some t) = count (kids t)

abbrev pub names_of : Option Node → List ℕ
names_of none = []
names_of (some n) = map (λ a. a.name) (attributes_of n)

-- ---- rows, for sizes and images
abbrev pub node_items : Node → List ℕ
node_items n = n.owner ∷ []

abbrev pub attribute_items : Node → List Attribute
attribute_items n = map plain n.attributes

abbrev pub named : ℕ → Permission → ℕ × Permission
named name g = (name, g)

abbrev pub holding_items : List Holding → List (ℕ × Permission)
holding_items [] = []
holding_items (a ∷ l) = map (named a.name) a.permissions ++ holding_items l

abbrev pub permission_items : Node → List (ℕ × Permission)
permission_items n = map (named 0) n.permissions ++ holding_items n.attributes

abbrev pub sizes_of : Tree Node → Sizes
sizes_of t = record { nodes = weigh node_items t; attributes = weigh attribute_items t; permissions = weigh permission_items t }

abbrev pub node_rows : Tree Node → List (Row ℕ)
node_rows t = table node_items before_node t

abbrev pub attribute_rows : Tree Node → List (Row Attribute)
attribute_rows t = table attribute_items before_attribute t

abbrev pub permission_rows : Tree Node → List (Row (ℕ × Permission))
permission_rows t = table permission_items before_permission t

abbrev pub saved : Tree Node → List ℕ
saved t = bytes_of (map node_record (node_rows t) ++ (map attribute_record (attribute_rows t) ++ map permission_record (permission_rows t)))

abbrev pub saved_clip : Clip → List ℕ
saved_clip empty = []
saved_clip (branched t) = saved t
saved_clip (single a) = bytes_of (attribute_record ([], plain a) ∷ map (λ g. permission_record (grant_row [] a.name g)) (in_order a.permissions))

-- ---- what is done to a node
abbrev pub with_holding : Holding → Node → Node
with_holding a n = record { owner = n.owner; permissions = n.permissions; attributes = a ∷ n.attributes }

abbrev pub with_holdings : List Holding → Node → Node
with_holdings l n = record { owner = n.owner; permissions = n.permissions; attributes = l }

abbrev pub without_holding : ℕ → Node → Node
without_holding name n = with_holdings (move (keep (λ a. not (called_so name a))) n.attributes) n

-- the attribute of that name changed
abbrev pub on_holding : ℕ → (Holding → Holding) → Node → Node
on_holding name f n = with_holdings (map (λ a. pick (called_so name a) (f a) a) n.attributes) n

abbrev pub with_value : Value → Holding → Holding
with_value v a = record { name = a.name; owner = a.owner; value = v; permissions = a.permissions }

-- the permissions of the object: the node's for name 0, else the attribute's
abbrev pub on_permissions : ℕ → (List Permission → List Permission) → Node → Node
on_permissions name f n =
    pick (eqb name 0) (record { owner = n.owner; permissions = f n.permissions; attributes = n.attributes })
    (on_holding name (λ a. record { name = a.name; owner = a.owner; value = a.value; permissions = f a.permissions }) n)

abbrev pub with_permission : ℕ → Permission → Node → Node
with_permission name g n = on_permissions name (λ l. g ∷ l) n

abbrev pub without_permission : ℕ → Permission → Node → Node
without_permission name g n = on_permissions name (λ l. move (keep (λ h. not (same_permission g h))) l) n

-- ---- guarded requests
abbrev pub found : Request → Tree Node → Found
found r t =
    record {
      node = node_at r.path t;
      parent = node_at (parent r.path) t;
      attribute = attribute_object r.path r.name t;
      names = names_of (look r.path t);
      children = children_of (branch r.path t);
      siblings = children_of (branch (parent r.path) t);
      sizes = sizes_of t;
    }

abbrev pub cached : Clip → Cached
cached empty = record { branch = false; attribute = false; sizes = record { nodes = 0; attributes = 0; permissions = 0 }; height = 0 }
cached (branched t) = record { branch = true; attribute = false; sizes = sizes_of t; height = height t }
cached (single a) = record { branch = false; attribute = true; sizes = record { nodes = 0; attributes = 1; permissions = length a.permissions }; height = 0 }

abbrev pub pasted_branch : Request → Tree Node → Clip → Tree Node
pasted_branch r t empty = t
pasted_branch r t (branched c) = paste_tree c r.path t
pasted_branch r t (single a) = t

abbrev pub renamed : ℕ → Holding → Holding
renamed name a = record { name = name; owner = a.owner; value = a.value; permissions = a.permissions }

abbrev pub pasted_attribute : Request → Tree Node → Clip → Tree Node
pasted_attribute r t empty = t
pasted_attribute r t (branched c) = t
pasted_attribute r t (single a) = set_at (with_holding (renamed r.name a)) r.path t

abbrev pub edited : Request → Tree Node → Clip → Tree Node
edited r =
    choose r.number (λ t c. t)
    ((3 ∷ [], λ t c. paste_tree (leaf r.user) r.path t)
    ∷ (4 ∷ 6 ∷ [], λ t c. delete_tree r.path t)
    ∷ (7 ∷ 17 ∷ [], λ t c. pasted_branch r t c)
    ∷ (8 ∷ [], λ t c. set_at (with_holding (record { name = r.name; owner = r.user; value = r.value; permissions = [] })) r.path t)
    ∷ (9 ∷ 12 ∷ [], λ t c. set_at (without_holding r.name) r.path t)
    ∷ (10 ∷ [], λ t c. set_at (on_holding r.name (with_value r.value)) r.path t)
    ∷ (13 ∷ [], λ t c. pasted_attribute r t c)
    ∷ (14 ∷ 16 ∷ [], λ t c. set_at (with_permission r.name r.permission) r.path t)
    ∷ (15 ∷ [], λ t c. set_at (without_permission r.name r.permission) r.path t)
    ∷ [])

abbrev pub copied_branch : Clip → Option (Tree Node) → Clip
copied_branch c none = c
copied_branch c (some t) = branched t

abbrev pub copied : Clip → Option Holding → Clip
copied c none = c
copied c (some a) = single a

abbrev pub clipped : Request → Tree Node → Clip → Clip
clipped r =
    choose r.number (λ t c. c)
    ((5 ∷ 6 ∷ [], λ t c. copied_branch c (branch r.path t)) ∷ (11 ∷ 12 ∷ [], λ t c. copied c (holding_at r.path r.name t)) ∷ [])

abbrev pub answered : Request → Found → Option Holding → Answer
answered r f a = run.answered r f (Option.map plain a)

-- ---- the session
abbrev pub dossier : ℕ → Session → Tree Node
dossier n s = pick (eqb n 1) s.one s.two

abbrev pub with_dossier : ℕ → Tree Node → Session → Session
with_dossier n d s =
    pick (eqb n 1) (record { one = d; two = s.two; clipboard = s.clipboard; signatures = s.signatures; log = s.log })
    (record { one = s.one; two = d; clipboard = s.clipboard; signatures = s.signatures; log = s.log })

abbrev pub with_clipboard : Clip → Session → Session
with_clipboard c s = record { one = s.one; two = s.two; clipboard = c; signatures = s.signatures; log = s.log }

abbrev pub with_log : List (ℕ × ℕ) → Session → Session
with_log l s = record { one = s.one; two = s.two; clipboard = s.clipboard; signatures = s.signatures; log = l }

abbrev pub with_signatures : List ℕ → Session → Session
with_signatures l s = record { one = s.one; two = s.two; clipboard = s.clipboard; signatures = l; log = s.log }

-- what there is to paste is the clipboard's, or the tree of request 17's image
abbrev pub carried_out : Session → Request → Found → Tree Node → Clip → Session × Answer
carried_out s r f t c = (
  with_log (logged r.user (provisions (granted r f)).messages s.log)
      (with_clipboard (clipped r t s.clipboard) (with_dossier r.dossier (edited r t c) s)),
  answered r f (holding_at r.path r.name t),
)

abbrev pub requested_from : Session → Request → Clip → Session × Answer
requested_from s r c =
    elim (refusal r (found r (dossier r.dossier s)) (cached c) (standing r s.signatures s.log)) [
      | none ↦ carried_out s r (found r (dossier r.dossier s)) (dossier r.dossier s) c
      | some n ↦ (s, refused n)
    ]

-- ---- images: the tree so far, none before the first record
abbrev pub or_empty : {A : Type 0} → (Tree Node → Option A) → Option (Tree Node) → Option A
or_empty f t = then t f

abbrev pub size_of : (Tree Node → ℕ) → Option (Tree Node) → ℕ
size_of f none = 0
size_of f (some t) = f t

abbrev pub with_node : ℕ → Address → Option (Tree Node) → Tree Node
with_node u p none = leaf u
with_node u p (some t) = paste_tree (leaf u) p t

abbrev pub accept : Option (Tree Node) → Record → Option (Option (Tree Node))
accept t (node_record r) =
    pick
    (node_fits r.0 (there (or_empty (node_at r.0) t)) (there (or_empty (node_at (parent r.0)) t)) (there (or_empty (node_at (left r.0)) t))
    (size_of (λ s. (sizes_of s).nodes) t))
    (some (some (with_node r.1 r.0 t))) none
accept t (attribute_record r) =
    pick
    (attribute_fits (there (or_empty (node_at r.0) t)) (there (or_empty (holding_at r.0 r.1.name) t)) (size_of (λ s. (sizes_of s).attributes) t)
    (length (names_of (or_empty (look r.0) t))))
    (some (Option.map (set_at (with_holding (record { name = r.1.name; owner = r.1.owner; value = r.1.value; permissions = [] })) r.0) t)) none
accept t (permission_record r) =
    pick
    (permission_fits r.1.1 (or_empty (object_at r.0 r.1.0) t) (size_of (λ s. (sizes_of s).permissions) t))
    (some (Option.map (set_at (with_permission r.1.0 r.1.1) r.0) t)) none

abbrev pub load_tree : List ℕ → Loaded (Option (Tree Node))
load_tree b = load_from accept none b

-- ---- request 17: a tree whose nodes and attributes are all the adding user's
abbrev pub load_added : ℕ → List ℕ → Loaded (Option (Tree Node))
load_added u b = load_from (adding u accept) none b

-- (no image loads as no tree)
abbrev pub as_branch : Loaded (Option (Tree Node)) → Loaded Clip
as_branch (bad k) = bad k
as_branch (good none) = bad 0
as_branch (good (some t)) = good (branched t)

abbrev pub source : Session → Request → List ℕ → Loaded Clip
source s r image = pick (places r) (as_branch (load_added r.user image)) (good s.clipboard)

abbrev pub requested_with : Session → Request → Loaded Clip → Session × Answer
requested_with s r (bad k) = (s, bad_record k)
requested_with s r (good c) = requested_from s r c

abbrev pub requested : Session → Request → List ℕ → Session × Answer
requested s r image = requested_with s r (source s r image)

-- ---- ask
abbrev pub image_of : Loaded (Option (Tree Node)) → Option (Tree Node)
image_of (bad n) = none
image_of (good t) = t

abbrev pub asked_for : Question → Option (Tree Node) → Option Object
asked_for q t = or_empty (object_at q.path q.name) t

abbrev pub may_ask_in : Question → Option (Tree Node) → Option Provisions
may_ask_in q t = may_ask q (asked_for q t) (or_empty (node_at q.path) t)

abbrev pub asked : List ℕ → Question → List ℕ → Option (Tree Node) → Reply
asked image q buffer t = run.answer_ask image q buffer (missing t) (asked_for q t) (may_ask_in q t)

-- ---- every call
abbrev pub loaded : Session → ℕ → List ℕ → Loaded (Option (Tree Node)) → Session × Reply
loaded s n image (bad k) = (s, reply (bad_record k) (image ∷ []))
loaded s n image (good none) = (s, reply (bad_record 0) (image ∷ []))
loaded s n image (good (some t)) = (with_dossier n t s, reply done (image ∷ []))

abbrev pub or_refused : Option ℕ → Session → Session → Answer → Session × Reply
or_refused none old s a = (s, reply a [])
or_refused (some n) old s a = (old, reply (refused n) [])

unfoldable pub step : Session → Call → Session × Reply
step s start = (begun, reply done [])
step s (new n owner) = or_refused (first_that ((1, not (dossier_good n && user_good owner)) ∷ [])) s (with_dossier n (leaf owner) s) done
step s (load n image) =
    elim (first_that ((1, not (dossier_good n)) ∷ [])) [
      | none ↦ loaded s n image (load_tree image)
      | some k ↦ (s, reply (refused k) (image ∷ []))
    ]
step s (save n buffer) =
    let bytes = saved (dossier n s) in writes (first_that ((1, not (dossier_good n)) ∷ (9, short bytes buffer) ∷ [])) s s bytes buffer
step s (save_clipboard buffer) = let bytes = saved_clip s.clipboard in writes (first_that ((9, short bytes buffer) ∷ [])) s s bytes buffer
step s (sign user agreement) = or_refused (first_that ((1, not (user_good user && leb agreement 31)) ∷ [])) s (with_signatures (signed user agreement s.signatures) s) done
step s (take_log buffer) = let bytes = log_bytes s.log in writes (first_that ((9, short bytes buffer) ∷ [])) s (with_log [] s) bytes buffer
step s (request r image) = let out = requested s r image in (out.0, reply out.1 (image ∷ []))
step s (ask image q buffer) = (s, asked image q buffer (image_of (load_tree image)))

abbrev pub run_from : Session → List Call → List Reply
run_from s [] = []
run_from s (c ∷ l) = let out = step s c in out.1 ∷ run_from out.0 l

abbrev pub run_twin : List Call → List Reply
run_twin l = run_from begun l
