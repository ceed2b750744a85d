-- The requests and when each is refused (document 01, "The calls" and "Refusal numbers"), on what an editor finds.
use Rattle.std.specs.Prelude.{Bool, true, false, ◌&&◌, ◌||◌, not, List, [], ◌∷◌, ◌++◌, ℕ, ◌+◌, ℤ, pos, negsuc, Float, eqb, leb, ltb, length}
use Rattle.std.proofs.Math.Option.{Option, none, some}
use Rattle.std.specs.Int.Signed.{le_z}
use Rattle.std.specs.Float.{nan, inf, fin, binary32}
use Rattle.std.specs.Float.Ieee.{fits}
use Rattle.laws.specs.Slots.{pick}
use Rattle.path.specs.Address.{Address, valid, last}
use Rattle.model.specs.Things.{Value, whole, reading, Permission}
use Rattle.model.specs.Decide.{Subject, Object, Provisions, nothing, joined, read_by, change_by, own_by, delegate_by, given, clash_any, cover_any, subset, members}
use Rattle.model.specs.Moves.{holds}

-- "Each guarded request carries dossier, role, user, time and its operands"
pub record Request : Type 0 where
  pub number : ℕ
  pub dossier : ℕ
  pub role : ℕ
  pub user : ℕ
  pub time : ℤ
  pub path : Address
  pub name : ℕ
  pub value : Value
  pub permission : Permission

abbrev pub subject : Request → Subject
subject r = record { role = r.role; user = r.user; time = r.time }

-- ---- "The request number picks the rule"
abbrev pub among : ℕ → List ℕ → Bool
among n [] = false
among n (k ∷ l) = eqb n k || among n l

-- what stands beside the number in a table, or something else for a number that is not in it
abbrev pub choose : {A : Type 0} → ℕ → A → List (List ℕ × A) → A
choose n other [] = other
choose n other (row ∷ l) = pick (among n row.0) row.1 (choose n other l)

-- ---- what an editor finds for a request
pub record Sizes : Type 0 where
  pub nodes : ℕ
  pub attributes : ℕ
  pub permissions : ℕ

-- the node at the path, the node above it, the attribute of that name there, the names on the node, its children and its parent's, the dossier's sizes
pub record Found : Type 0 where
  pub node : Option Object
  pub parent : Option Object
  pub attribute : Option Object
  pub names : List ℕ
  pub children : ℕ
  pub siblings : ℕ
  pub sizes : Sizes

-- what there is to paste, on the clipboard or as request 17's image: whether a branch, whether an attribute, its sizes, the steps of its longest path
pub record Cached : Type 0 where
  pub branch : Bool
  pub attribute : Bool
  pub sizes : Sizes
  pub height : ℕ

-- the object of requests 14 to 16: "name (0 for a node)"
abbrev pub object : Request → Found → Option Object
object r f = pick (eqb r.name 0) f.node f.attribute

abbrev pub missing : {A : Type 0} → Option A → Bool
missing none = true
missing (some a) = false

-- ---- 1: operands
abbrev pub between : ℕ → ℕ → ℕ → Bool
between a b n = leb a n && leb n b

-- "user / role / name: 1..64 / 1..15 / 1..65535; 0 is blank"
abbrev pub user_good : ℕ → Bool
user_good u = between 1 64 u

abbrev pub role_good : ℕ → Bool
role_good n = between 1 15 n

abbrev pub name_good : ℕ → Bool
name_good n = between 1 65535 n

-- "signed 64-bit seconds"
abbrev pub time_good : ℤ → Bool
time_good t = le_z (negsuc 9223372036854775807) t && le_z t (pos 9223372036854775807)

abbrev pub finite : Float → Bool
finite nan = false
finite (inf s) = false
finite (fin s m e) = true

-- "A reading must be finite"
abbrev pub value_good : Value → Bool
value_good (whole n) = leb n 4294967295
value_good (reading x) = finite x && fits binary32 x

-- "interval that ends before it starts", "change permission on an attribute", and the ranges of a permission's fields
abbrev pub permission_good : ℕ → Permission → Bool
permission_good name p =
    role_good p.role
    && (between 1 4 p.action
    && (leb p.user 64
    && (time_good p.first
    && (time_good p.last
    && (le_z p.first p.last
    && (leb p.messages 4294967295 && (leb p.agreements 4294967295 && (eqb name 0 || not (eqb p.action 2)))))))))

-- dossier, role, user, time and path, which every request uses
abbrev pub common_good : Request → Bool
common_good r = between 1 2 r.dossier && (role_good r.role && (user_good r.user && (time_good r.time && valid r.path)))

abbrev pub grant_good : Request → Bool
grant_good r = leb r.name 65535 && permission_good r.name r.permission

-- "operands that only other requests use aren't looked at"; "unknown request"
abbrev pub own_good : Request → Bool
own_good r =
    choose r.number false
    ((1 ∷ 3 ∷ 4 ∷ 5 ∷ 6 ∷ 7 ∷ 17 ∷ [], true)
    ∷ (2 ∷ 9 ∷ 11 ∷ 12 ∷ 13 ∷ [], name_good r.name)
    ∷ (8 ∷ 10 ∷ [], name_good r.name && value_good r.value)
    ∷ (14 ∷ 15 ∷ [], grant_good r)
    ∷ (16 ∷ [], grant_good r && leb r.permission.action 2)
    ∷ [])

abbrev pub bad_operand : Request → Bool
bad_operand r = not (common_good r && own_good r)

-- ---- 2: "requests 3, 4, 6, 7 with the empty path"; "the rest as for request 7"
abbrev pub is_root : Address → Bool
is_root [] = true
is_root (s ∷ p) = false

abbrev pub at_root : Request → Bool
at_root r = among r.number (3 ∷ 4 ∷ 6 ∷ 7 ∷ 17 ∷ []) && is_root r.path

-- ---- 3: "node, attribute, parent or exact permission absent; request 3 or 7 at a place beyond child count + 1"
abbrev pub held : Permission → Option Object → Bool
held p none = false
held p (some o) = holds p o.permissions

abbrev pub absent : Request → Found → Bool
absent r f =
    choose r.number false
    ((1 ∷ 4 ∷ 5 ∷ 6 ∷ 8 ∷ 13 ∷ [], missing f.node)
    ∷ (2 ∷ 9 ∷ 10 ∷ 11 ∷ 12 ∷ [], missing f.attribute)
    ∷ (3 ∷ 7 ∷ 17 ∷ [], missing f.parent || ltb (f.siblings + 1) (last r.path))
    ∷ (14 ∷ 16 ∷ [], missing (object r f))
    ∷ (15 ∷ [], not (held r.permission (object r f)))
    ∷ [])

-- ---- 4: "request 8 or 13: name already on the node"; 5: "request 7 or 13: clipboard of another kind or empty", request 17 "without 5"
abbrev pub taken : Request → Found → Bool
taken r f = among r.number (8 ∷ 13 ∷ []) && not (missing f.attribute)

abbrev pub wrong_clipboard : Request → Cached → Bool
wrong_clipboard r c = choose r.number false ((7 ∷ [], not c.branch) ∷ (13 ∷ [], not c.attribute) ∷ [])

-- ---- 6: the column "Needs"; request 17: "Needs as for request 3"
abbrev pub granted : Request → Found → Option Provisions
granted r f =
    let read_node = given (read_by (subject r)) f.node in
    let read_attribute = given (read_by (subject r)) f.attribute in
    let change_node = given (change_by (subject r)) f.node in
    let change_parent = given (change_by (subject r)) f.parent in
    choose r.number none
    ((1 ∷ 5 ∷ [], read_node)
    ∷ (2 ∷ 11 ∷ [], read_attribute)
    ∷ (3 ∷ 4 ∷ 7 ∷ 17 ∷ [], change_parent)
    ∷ (6 ∷ [], joined read_node change_parent)
    ∷ (8 ∷ 9 ∷ 13 ∷ [], change_node)
    ∷ (10 ∷ 12 ∷ [], joined read_attribute change_node)
    ∷ (14 ∷ 15 ∷ [], given (own_by (subject r)) (object r f))
    ∷ (16 ∷ [], given (delegate_by (subject r)) (object r f))
    ∷ [])

-- ---- 7: "nothing covers the delegated permission"; 8: clash
abbrev pub permissions_of : Option Object → List Permission
permissions_of none = []
permissions_of (some o) = o.permissions

abbrev pub uncovered : Request → Found → Bool
uncovered r f = eqb r.number 16 && not (cover_any (subject r) r.permission (permissions_of (object r f)))

abbrev pub clashing : Request → Found → Bool
clashing r f = among r.number (14 ∷ 16 ∷ []) && clash_any r.permission (permissions_of (object r f))

-- ---- 13 to 17: what there would be, where a request adds to it
pub record Totals : Type 0 where
  pub nodes : ℕ
  pub depth : ℕ
  pub children : ℕ
  pub attributes : ℕ
  pub on_node : ℕ
  pub permissions : ℕ

abbrev pub with_branch : Sizes → ℕ → Request → Found → Totals
with_branch c height r f =
    record {
      nodes = f.sizes.nodes + c.nodes;
      depth = length r.path + height;
      children = f.siblings + 1;
      attributes = f.sizes.attributes + c.attributes;
      on_node = 0;
      permissions = f.sizes.permissions + c.permissions;
    }

abbrev pub with_rows : ℕ → ℕ → Found → Totals
with_rows attributes permissions f =
    record {
      nodes = 0;
      depth = 0;
      children = 0;
      attributes = f.sizes.attributes + attributes;
      on_node = length f.names + attributes;
      permissions = f.sizes.permissions + permissions;
    }

-- what adds nothing is never judged for room
abbrev pub none_added : Totals
none_added = record { nodes = 0; depth = 0; children = 0; attributes = 0; on_node = 0; permissions = 0 }

abbrev pub totals : Request → Found → Cached → Totals
totals r f c =
    choose r.number none_added
    ((3 ∷ [], with_branch (record { nodes = 1; attributes = 0; permissions = 0 }) 0 r f)
    ∷ (7 ∷ 17 ∷ [], with_branch c.sizes c.height r f)
    ∷ (8 ∷ [], with_rows 1 0 f)
    ∷ (13 ∷ [], with_rows 1 c.sizes.permissions f)
    ∷ (14 ∷ 16 ∷ [], with_rows 0 1 f)
    ∷ [])

-- a bound of the table passed, each by itself
abbrev pub nodes_over : ℕ → Bool
nodes_over n = ltb 64 n

abbrev pub depth_over : ℕ → Bool
depth_over n = ltb 6 n

abbrev pub children_over : ℕ → Bool
children_over n = ltb 32 n

abbrev pub attributes_over : ℕ → Bool
attributes_over n = ltb 256 n

abbrev pub on_node_over : ℕ → Bool
on_node_over n = ltb 16 n

abbrev pub permissions_over : ℕ → Bool
permissions_over n = ltb 128 n

-- "say which shelf is full": "13 nodes, 14 depth, 15 children, 16 attributes (dossier or node), 17 permissions, tested in that order"
abbrev pub shelves : Totals → List (ℕ × Bool)
shelves t =
    (13, nodes_over t.nodes)
    ∷ (14, depth_over t.depth)
    ∷ (15, children_over t.children)
    ∷ (16, attributes_over t.attributes || on_node_over t.on_node)
    ∷ (17, permissions_over t.permissions)
    ∷ []

-- ---- 10: "If an agreement is unsigned by the user"; 11: "the messages don't all fit in the log"
abbrev pub provisions : Option Provisions → Provisions
provisions none = nothing
provisions (some p) = p

-- the agreements that the user has signed, and how many entries the log has
pub record Standing : Type 0 where
  pub signed : ℕ
  pub entries : ℕ

abbrev pub unsigned : Provisions → Standing → Bool
unsigned p s = not (subset p.agreements s.signed)

abbrev pub log_full : Provisions → Standing → Bool
log_full p s = ltb 256 (s.entries + length (members p.messages))

abbrev pub provided : Provisions → Standing → List (ℕ × Bool)
provided p s = (10, unsigned p s) ∷ (11, log_full p s) ∷ []

-- ---- the table
-- "Tested in this order ..; the first that applies is given"
abbrev pub first_that : List (ℕ × Bool) → Option ℕ
first_that [] = none
first_that (row ∷ l) = pick row.1 (some row.0) (first_that l)

-- the shelves stand "after 8", where 9 stood; 9 is left to the calls that write to a lent buffer (Run)
abbrev pub refusal : Request → Found → Cached → Standing → Option ℕ
refusal r f c s =
    first_that
    ((1, bad_operand r)
    ∷ (2, at_root r)
    ∷ (3, absent r f)
    ∷ (4, taken r f)
    ∷ (5, wrong_clipboard r c)
    ∷ (6, missing (granted r f))
    ∷ (7, uncovered r f)
    ∷ (8, clashing r f)
    ∷ (shelves (totals r f c) ++ provided (provisions (granted r f)) s))
