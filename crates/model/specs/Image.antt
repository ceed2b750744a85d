-- The image (document 01, "The image"): records of 40 bytes, from and to bytes; load, save, and when an image is good.
use Rattle.std.specs.Prelude.{Bool, true, false, ◌&&◌, ◌||◌, not, List, [], ◌∷◌, ◌++◌, map, ℕ, zero, suc, ◌+◌, ◌-◌, ◌*◌, ◌/◌, ◌%◌, eqb, leb, ltb, length, take, drop, get_or, replicate}
use Rattle.std.proofs.Math.Option.{Option, none, some}
use Rattle.std.specs.Float.Ieee.{of_bits, to_bits}
use Rattle.std.specs.Float.{binary32}
use Rattle.std.specs.Int.{w64}
use Rattle.std.proofs.Common.{to_z, of_z}
use Rattle.laws.specs.Slots.{pick, slots, same_bytes}
use Rattle.laws.specs.Sorted.{insert}
use Rattle.laws.specs.Order.{lt_list}
use Rattle.path.specs.Address.{Address, valid, parent, last, child}
use Rattle.model.specs.Things.{Value, whole, reading, Attribute, Permission, Row, Dossier, Clipboard, empty, branch, single, before_node, lt_permission}
use Rattle.model.specs.Decide.{Object, clash_any}
use Rattle.model.specs.Moves.{node_at, attribute_at, object_at, names_on, grant_row, with_attribute, add_permission}
use Rattle.model.specs.Refusals.{missing, user_good, name_good, value_good, permission_good, is_root}

-- ---- a record
-- "numbers big-endian"
abbrev pub bytes2 : ℕ → List ℕ
bytes2 n = n / 256 ∷ n % 256 ∷ []

abbrev pub bytes4 : ℕ → List ℕ
bytes4 n = bytes2 (n / 65536) ++ bytes2 (n % 65536)

abbrev pub bytes8 : ℕ → List ℕ
bytes8 n = bytes4 (n / 4294967296) ++ bytes4 (n % 4294967296)

abbrev pub number2 : ℕ → List ℕ → ℕ
number2 at b = get_or b at 0 * 256 + get_or b (at + 1) 0

abbrev pub number4 : ℕ → List ℕ → ℕ
number4 at b = number2 at b * 65536 + number2 (at + 2) b

abbrev pub number8 : ℕ → List ℕ → ℕ
number8 at b = number4 at b * 4294967296 + number4 (at + 4) b

pub data Record : Type 0 where
  node_record : Row ℕ → Record
  attribute_record : Row Attribute → Record
  permission_record : Row (ℕ × Permission) → Record

abbrev pub value_kind : Value → ℕ
value_kind (whole n) = 1
value_kind (reading x) = 2

abbrev pub value_bits : Value → ℕ
value_bits (whole n) = n
value_bits (reading x) = to_bits binary32 x

-- bytes 0 to 15: "kind; 1 path length; 2–7 steps, unused 0; 8–9 name; 10 owner; 11 role; 12 action; 13 one user, or 0 for any; 14 value kind; 15 zero"
abbrev pub front : ℕ → Address → ℕ → ℕ → ℕ → ℕ → ℕ → ℕ → List ℕ
front kind path name owner role action user value =
    kind ∷ length path ∷ (slots 6 0 path ++ (bytes2 name ++ (owner ∷ role ∷ action ∷ user ∷ value ∷ 0 ∷ [])))

-- "A field that the kind doesn't use is 0"
abbrev pub encode : Record → List ℕ
encode (node_record r) = front 1 r.0 0 r.1 0 0 0 0 ++ replicate 24 0
encode (attribute_record r) =
    front 2 r.0 r.1.name r.1.owner 0 0 0 (value_kind r.1.value) ++ (bytes4 (value_bits r.1.value) ++ replicate 20 0)
encode (permission_record r) =
    front 3 r.0 r.1.0 0 r.1.1.role r.1.1.action r.1.1.user 0
    ++ (bytes8 (of_z w64 r.1.1.first) ++ (bytes8 (of_z w64 r.1.1.last) ++ (bytes4 r.1.1.messages ++ bytes4 r.1.1.agreements)))

abbrev pub read_path : List ℕ → Address
read_path b = take (get_or b 1 0) (take 6 (drop 2 b))

abbrev pub read_value : ℕ → ℕ → Value
read_value kind n = pick (eqb kind 1) (whole n) (reading (of_bits binary32 n))

abbrev pub read_permission : List ℕ → Permission
read_permission b =
    record {
      role = get_or b 11 0;
      action = get_or b 12 0;
      user = get_or b 13 0;
      first = to_z w64 (number8 16 b);
      last = to_z w64 (number8 24 b);
      messages = number4 32 b;
      agreements = number4 36 b;
    }

-- the fields where they stand, by the kind
abbrev pub parse : List ℕ → Record
parse b =
    pick (eqb (get_or b 0 0) 1) (node_record (read_path b, get_or b 10 0))
    (pick (eqb (get_or b 0 0) 2) (attribute_record (read_path b, record { name = number2 8 b; owner = get_or b 10 0; value = read_value (get_or b 14 0) (number4 16 b) }))
    (permission_record (read_path b, (number2 8 b, read_permission b))))

-- "A used field outside its range, or anything refusal 1 forbids in a permission or reading, makes the record bad"
abbrev pub in_range : Record → Bool
in_range (node_record r) = valid r.0 && user_good r.1
in_range (attribute_record r) = valid r.0 && (name_good r.1.name && (user_good r.1.owner && value_good r.1.value))
in_range (permission_record r) = valid r.0 && (leb r.1.0 65535 && permission_good r.1.0 r.1.1)

-- a record in which every field is in its range and every byte is what these fields save as
abbrev pub decode : List ℕ → Option Record
decode b = pick (in_range (parse b) && same_bytes (encode (parse b)) b) (some (parse b)) none

-- ---- a record "taken with those before it", on what an editor finds
-- "A non-root node needs its parent and its left sibling earlier", "no second record for one node", "no bound passed"
abbrev pub node_fits : Address → Bool → Bool → Bool → ℕ → Bool
node_fits p here above left_there nodes = not here && ((is_root p || (above && (eqb (last p) 1 || left_there))) && ltb nodes 64)

-- "an attribute needs its node", "no second record for one .. attribute", "no bound passed"
abbrev pub attribute_fits : Bool → Bool → ℕ → ℕ → Bool
attribute_fits node here attributes on_node = node && (not here && (ltb attributes 256 && ltb on_node 16))

-- "a permission its object", "no clash", "no bound passed"
abbrev pub permission_fits : Permission → Option Object → ℕ → Bool
permission_fits g none permissions = false
permission_fits g (some o) permissions = not (clash_any g o.permissions) && ltb permissions 128

-- the node on the left
abbrev pub left : Address → Address
left p = child (parent p) (last p - 1)

abbrev pub there : {A : Type 0} → Option A → Bool
there o = not (missing o)

-- the dossier with one more record, or none where a rule is broken
abbrev pub accept : Dossier → Record → Option Dossier
accept d (node_record r) =
    pick (node_fits r.0 (there (node_at r.0 d)) (there (node_at (parent r.0) d)) (there (node_at (left r.0) d)) (length d.nodes))
    (some (record { nodes = insert before_node r d.nodes; attributes = d.attributes; permissions = d.permissions })) none
accept d (attribute_record r) =
    pick (attribute_fits (there (node_at r.0 d)) (there (attribute_at r.0 r.1.name d)) (length d.attributes) (length (names_on r.0 d)))
    (some (with_attribute r.0 r.1 d)) none
accept d (permission_record r) =
    pick (permission_fits r.1.1 (object_at r.0 r.1.0 d) (length d.permissions))
    (some (add_permission r.0 r.1.0 r.1.1 d)) none

-- ---- an image
abbrev pub records : ℕ → List ℕ → List (List ℕ)
records zero b = []
records (suc n) b = take 40 b ∷ records n (drop 40 b)

pub data Loaded (D : Type 0) : Type 0 where
  bad : ℕ → Loaded D
  good : D → Loaded D

module _ {D : Type 0} (accept : D → Record → Option D) where
  -- "Records ascend strictly as byte strings": after the record before it, and by the rules
  abbrev pub next : List ℕ → D → List ℕ → Option D
  next prev d b = pick (lt_list ltb prev b) (elim (decode b) [ none ↦ none | some r ↦ accept d r ]) none

  -- "the first record, counted from 1, that breaks a rule taken with those before it"
  abbrev pub scan : ℕ → List ℕ → D → List (List ℕ) → Loaded D
  scan i prev d [] = good d
  scan i prev d (b ∷ l) = elim (next prev d b) [ none ↦ bad i | some e ↦ scan (suc i) b e l ]

  -- "record number 0 if the length is 0, not a multiple of 40 or above 17,920"
  abbrev pub load_from : D → List ℕ → Loaded D
  load_from d b = pick (eqb (length b) 0 || (not (eqb (length b % 40) 0) || ltb 17920 (length b))) (bad 0) (scan 1 [] d (records (length b / 40) b))

abbrev pub no_records : Dossier
no_records = record { nodes = []; attributes = []; permissions = [] }

abbrev pub load : List ℕ → Loaded Dossier
load b = load_from accept no_records b

-- ---- request 17's image: "an image of nodes and attributes without permissions"
-- "Every object in it belongs to the adding user; the owners in the image are ignored but must be well formed", which a record's own rule has seen to
abbrev pub with_owner : ℕ → Attribute → Attribute
with_owner u a = record { name = a.name; owner = u; value = a.value }

abbrev pub owned_node : ℕ → Row ℕ → Row ℕ
owned_node u r = (r.0, u)

abbrev pub owned_attribute : ℕ → Row Attribute → Row Attribute
owned_attribute u r = (r.0, with_owner u r.1)

-- the same rules for any dossier: each record the user's, and no permission
abbrev pub adding : {D : Type 0} → ℕ → (D → Record → Option D) → D → Record → Option D
adding u accept d (node_record r) = accept d (node_record (owned_node u r))
adding u accept d (attribute_record r) = accept d (attribute_record (owned_attribute u r))
adding u accept d (permission_record r) = none

-- "the first record that is bad or a permission", or what is placed
abbrev pub load_added : ℕ → List ℕ → Loaded Dossier
load_added u b = load_from (adding u accept) no_records b

-- the same in other words, which roundtrip proves: a dossier with every owner the user's, and how many records stand before the first permission
abbrev pub all_owned : ℕ → Dossier → Dossier
all_owned u d = record { nodes = map (owned_node u) d.nodes; attributes = map (owned_attribute u) d.attributes; permissions = d.permissions }

abbrev pub before_permissions : List (List ℕ) → ℕ
before_permissions [] = 0
before_permissions (b ∷ l) = pick (eqb (get_or b 0 0) 3) 0 (suc (before_permissions l))

abbrev pub bytes_of : List Record → List ℕ
bytes_of [] = []
bytes_of (r ∷ l) = encode r ++ bytes_of l

abbrev pub records_of : Dossier → List Record
records_of d = map node_record d.nodes ++ (map attribute_record d.attributes ++ map permission_record d.permissions)

abbrev pub save : Dossier → List ℕ
save d = bytes_of (records_of d)

-- "A cached attribute saves as its records with the empty path and no node; a cached branch saves as a dossier does, its top as the root; an empty clipboard saves as no bytes"
abbrev pub save_clipboard : Clipboard → List ℕ
save_clipboard empty = []
save_clipboard (branch d) = save d
save_clipboard (single a l) = bytes_of (attribute_record ([], a) ∷ map (λ g. permission_record (grant_row [] a.name g)) l)

-- "one attribute at the empty path followed by permissions for it only, under the same rules"
abbrev pub accept_cached : Option (Attribute × List Permission) → Record → Option (Option (Attribute × List Permission))
accept_cached c (node_record r) = none
accept_cached none (attribute_record r) = pick (is_root r.0) (some (some (r.1, []))) none
accept_cached (some c) (attribute_record r) = none
accept_cached none (permission_record r) = none
accept_cached (some c) (permission_record r) =
    pick (is_root r.0 && (eqb r.1.0 c.0.name && (not (clash_any r.1.1 c.1) && ltb (length c.1) 128)))
    (some (some (c.0, insert lt_permission r.1.1 c.1))) none

abbrev pub accepted : {D : Type 0} → Loaded D → Bool
accepted (bad n) = false
accepted (good d) = true

-- "A clipboard image is good if it is no bytes, or would load as a dossier, or is one attribute .."
abbrev pub good_clipboard : List ℕ → Bool
good_clipboard b = eqb (length b) 0 || (accepted (load b) || accepted (load_from accept_cached none b))
