-- Every public call: what it answers, what it leaves, and runs of calls from the fresh state.
use Rattle.std.specs.Prelude.{Bool, true, false, ◌&&◌, not, List, [], ◌∷◌, ◌++◌, map, ℕ, ◌-◌, ◌^◌, ℤ, eqb, leb, ltb, length, drop, get_or, set}
use Rattle.std.proofs.Math.Option.{Option, none, some}
use Rattle.std.specs.Int.Bits.{bit_or}
use Rattle.laws.specs.Slots.{pick}
use Rattle.path.specs.Address.{Address, valid, parent}
use Rattle.model.specs.Things.{Value, Attribute, Dossier, Clipboard, empty, branch, single, State, bare, fresh}
use Rattle.model.specs.Decide.{Subject, Object, Provisions, joined, read_by, change_by, given, members}
use Rattle.model.specs.Moves as moves
use Rattle.model.specs.Moves.{node_at, attribute_at, attribute_object, object_at, names_on, child_count, deepest}
use Rattle.model.specs.Refusals.{Request, choose, Sizes, Found, Cached, missing, between, user_good, role_good, time_good, bad_operand, granted, provisions, first_that, Standing, refusal}
use Rattle.model.specs.Image as images
use Rattle.model.specs.Image.{Loaded, bad, good, bytes4, no_records}

-- ---- calls and replies
-- what ask is asked: "role, user, time, object and action 1 or 2"
pub record Question : Type 0 where
  pub role : ℕ
  pub user : ℕ
  pub time : ℤ
  pub path : Address
  pub name : ℕ
  pub action : ℕ

-- every public call with its operands, images and lent buffers; the image beside a request is request 17's, and no other looks at it
pub data Call : Type 0 where
  start : Call
  new : ℕ → ℕ → Call
  load : ℕ → List ℕ → Call
  save : ℕ → List ℕ → Call
  save_clipboard : List ℕ → Call
  sign : ℕ → ℕ → Call
  take_log : List ℕ → Call
  request : Request → List ℕ → Call
  ask : List ℕ → Question → List ℕ → Call

-- done; a node's names and child count; an attribute's value; how many bytes were written; a refusal; refusal 12 with its record
pub data Answer : Type 0 where
  done : Answer
  contents : List ℕ → ℕ → Answer
  value_read : Value → Answer
  wrote : ℕ → Answer
  refused : ℕ → Answer
  bad_record : ℕ → Answer

-- the paper's number of an answer: 0, or the refusal
abbrev pub number_of : Answer → ℕ
number_of done = 0
number_of (contents names children) = 0
number_of (value_read v) = 0
number_of (wrote n) = 0
number_of (refused n) = n
number_of (bad_record n) = 12

-- "12 adds a record number"
abbrev pub record_of : Answer → ℕ
record_of done = 0
record_of (contents names children) = 0
record_of (value_read v) = 0
record_of (wrote n) = 0
record_of (refused n) = 0
record_of (bad_record n) = n

-- the answer, and each lent buffer as it is left
pub record Reply : Type 0 where
  pub answer : Answer
  pub lent : List (List ℕ)

abbrev pub reply : Answer → List (List ℕ) → Reply
reply a l = record { answer = a; lent = l }

-- ---- lent buffers
-- "a lent buffer is too short"
abbrev pub short : List ℕ → List ℕ → Bool
short bytes buffer = ltb (length buffer) (length bytes)

-- "Bytes of a lent buffer beyond those written stay"
abbrev pub written : List ℕ → List ℕ → List ℕ
written bytes buffer = bytes ++ drop (length bytes) buffer

-- bytes written into a lent buffer, or the refusal
abbrev pub writes : {S : Type 0} → Option ℕ → S → S → List ℕ → List ℕ → S × Reply
writes (some n) old s bytes buffer = (old, reply (refused n) (buffer ∷ []))
writes none old s bytes buffer = (s, reply (wrote (length bytes)) (written bytes buffer ∷ []))

-- ---- the session
abbrev pub dossier_good : ℕ → Bool
dossier_good n = between 1 2 n

abbrev pub dossier : ℕ → State → Dossier
dossier n s = pick (eqb n 1) s.one s.two

abbrev pub with_dossier : ℕ → Dossier → State → State
with_dossier n d s =
    pick (eqb n 1) (record { one = d; two = s.two; clipboard = s.clipboard; signatures = s.signatures; log = s.log })
    (record { one = s.one; two = d; clipboard = s.clipboard; signatures = s.signatures; log = s.log })

abbrev pub with_clipboard : Clipboard → State → State
with_clipboard c s = record { one = s.one; two = s.two; clipboard = c; signatures = s.signatures; log = s.log }

abbrev pub with_log : List (ℕ × ℕ) → State → State
with_log l s = record { one = s.one; two = s.two; clipboard = s.clipboard; signatures = s.signatures; log = l }

abbrev pub with_signatures : List ℕ → State → State
with_signatures l s = record { one = s.one; two = s.two; clipboard = s.clipboard; signatures = l; log = s.log }

-- "one row of agreements for each user"
abbrev pub signed_by : ℕ → List ℕ → ℕ
signed_by user rows = get_or rows (user - 1) 0

-- "signing twice is the same as once"
abbrev pub signed : ℕ → ℕ → List ℕ → List ℕ
signed user agreement rows = set rows (user - 1) (bit_or (signed_by user rows) (2 ^ agreement))

-- "messages are logged once each, ascending"
abbrev pub logged : ℕ → ℕ → List (ℕ × ℕ) → List (ℕ × ℕ)
logged user messages log = log ++ map (λ m. (user, m)) (members messages)

-- "two bytes an entry, user then message, oldest first"
abbrev pub log_bytes : List (ℕ × ℕ) → List ℕ
log_bytes [] = []
log_bytes (e ∷ l) = e.0 ∷ e.1 ∷ log_bytes l

-- ---- guarded requests
abbrev pub sizes : Dossier → Sizes
sizes d = record { nodes = length d.nodes; attributes = length d.attributes; permissions = length d.permissions }

abbrev pub found : Request → Dossier → Found
found r d =
    record {
      node = node_at r.path d;
      parent = node_at (parent r.path) d;
      attribute = attribute_object r.path r.name d;
      names = names_on r.path d;
      children = child_count r.path d;
      siblings = child_count (parent r.path) d;
      sizes = sizes d;
    }

abbrev pub cached : Clipboard → Cached
cached empty = record { branch = false; attribute = false; sizes = record { nodes = 0; attributes = 0; permissions = 0 }; height = 0 }
cached (branch c) = record { branch = true; attribute = false; sizes = sizes c; height = deepest c.nodes }
cached (single a l) = record { branch = false; attribute = true; sizes = record { nodes = 0; attributes = 1; permissions = length l }; height = 0 }

abbrev pub standing : Request → List ℕ → List (ℕ × ℕ) → Standing
standing r rows log = record { signed = signed_by r.user rows; entries = length log }

-- the dossier afterwards, by what there is to paste
abbrev pub edited : Request → Dossier → Clipboard → Dossier
edited r =
    choose r.number (λ d c. d)
    ((3 ∷ [], λ d c. moves.add_node r.path r.user d)
    ∷ (4 ∷ 6 ∷ [], λ d c. moves.delete_branch r.path d)
    ∷ (7 ∷ 17 ∷ [], λ d c. moves.pasted_branch r.path d c)
    ∷ (8 ∷ [], λ d c. moves.with_attribute r.path (record { name = r.name; owner = r.user; value = r.value }) d)
    ∷ (9 ∷ 12 ∷ [], λ d c. moves.delete_attribute r.path r.name d)
    ∷ (10 ∷ [], λ d c. moves.change_value r.path r.name r.value d)
    ∷ (13 ∷ [], λ d c. moves.pasted_attribute r.path r.name d c)
    ∷ (14 ∷ 16 ∷ [], λ d c. moves.add_permission r.path r.name r.permission d)
    ∷ (15 ∷ [], λ d c. moves.delete_permission r.path r.name r.permission d)
    ∷ [])

-- the clipboard afterwards: copy and cut fill it
abbrev pub clipped : Request → Dossier → Clipboard → Clipboard
clipped r =
    choose r.number (λ d c. c)
    ((5 ∷ 6 ∷ [], λ d c. branch (moves.copy_branch r.path d))
    ∷ (11 ∷ 12 ∷ [], λ d c. moves.copied r.path r.name d c (attribute_at r.path r.name d))
    ∷ [])

-- the value of an attribute that was looked for; where there is none there is none to give (a request is refused 3 before that)
abbrev pub value_of : Option Attribute → Answer
value_of none = done
value_of (some a) = value_read a.value

-- "names, ascending, and child count, all in the answer"; "value"
abbrev pub answered : Request → Found → Option Attribute → Answer
answered r f a = choose r.number done ((1 ∷ [], contents f.names f.children) ∷ (2 ∷ [], value_of a) ∷ [])

-- "Otherwise messages are logged once each, ascending, and the request is carried out"
abbrev pub carried_out : State → Request → Found → Dossier → Clipboard → State × Answer
carried_out s r f d c = (
  with_log (logged r.user (provisions (granted r f)).messages s.log)
      (with_clipboard (clipped r d s.clipboard) (with_dossier r.dossier (edited r d c) s)),
  answered r f (attribute_at r.path r.name d),
)

-- a request that pastes from c, if it pastes
abbrev pub requested_from : State → Request → Clipboard → State × Answer
requested_from s r c =
    elim (refusal r (found r (dossier r.dossier s)) (cached c) (standing r s.signatures s.log)) [
      | none ↦ carried_out s r (found r (dossier r.dossier s)) (dossier r.dossier s) c
      | some n ↦ (s, refused n)
    ]

-- request 17 looks at its image: "tested after 1"
abbrev pub places : Request → Bool
places r = eqb r.number 17 && not (bad_operand r)

-- "placed as a branch"
abbrev pub as_branch : Loaded Dossier → Loaded Clipboard
as_branch (bad k) = bad k
as_branch (good d) = good (branch d)

-- what there is to paste: request 17's image, for every other the clipboard (as for 17 with a bad operand, which is refused 1)
abbrev pub source : State → Request → List ℕ → Loaded Clipboard
source s r image = pick (places r) (as_branch (images.load_added r.user image)) (good s.clipboard)

-- "12, with the first record that is bad or a permission"; "the rest as for request 7"
abbrev pub requested_with : State → Request → Loaded Clipboard → State × Answer
requested_with s r (bad k) = (s, bad_record k)
requested_with s r (good c) = requested_from s r c

abbrev pub requested : State → Request → List ℕ → State × Answer
requested s r image = requested_with s r (source s r image)

-- ---- ask
abbrev pub bad_question : Question → Bool
bad_question q =
    not (role_good q.role && (user_good q.user && (time_good q.time && (valid q.path && (leb q.name 65535 && between 1 2 q.action)))))

abbrev pub image_of : Loaded Dossier → Option Dossier
image_of (bad n) = none
image_of (good d) = some d

abbrev pub or_none : Option Dossier → Dossier
or_none none = no_records
or_none (some d) = d

abbrev pub asker : Question → Subject
asker q = record { role = q.role; user = q.user; time = q.time }

-- read of the object; change of a node; "Change of an attribute means request 10's needs"
abbrev pub may_ask : Question → Option Object → Option Object → Option Provisions
may_ask q o node =
    pick (eqb q.action 1) (given (read_by (asker q)) o)
    (pick (eqb q.name 0) (given (change_by (asker q)) o) (joined (given (read_by (asker q)) o) (given (change_by (asker q)) node)))

abbrev pub may_ask_in : Question → Dossier → Option Provisions
may_ask_in q d = may_ask q (object_at q.path q.name d) (node_at q.path d)

-- "messages, then agreements, four bytes each, big-endian"
abbrev pub ask_bytes : Provisions → List ℕ
ask_bytes p = bytes4 p.messages ++ bytes4 p.agreements

-- "It returns 0 or a refusal, tested 1, 12 (here without a record number), 3, 6, 9": whether the image is bad, the object, and what is granted on it
abbrev pub answer_ask : List ℕ → Question → List ℕ → Bool → Option Object → Option Provisions → Reply
answer_ask image q buffer bad_image o may =
    elim (first_that ((1, bad_question q) ∷ (12, bad_image) ∷ (3, missing o) ∷ (6, missing may) ∷ (9, ltb (length buffer) 8) ∷ [])) [
      | none ↦ reply done (image ∷ written (ask_bytes (provisions may)) buffer ∷ [])
      | some n ↦ reply (refused n) (image ∷ buffer ∷ [])
    ]

abbrev pub asked : List ℕ → Question → List ℕ → Option Dossier → Reply
asked image q buffer d = answer_ask image q buffer (missing d) (object_at q.path q.name (or_none d)) (may_ask_in q (or_none d))

-- ---- every call
-- "load .. dossier n": 1, then 12 with the record
abbrev pub loaded : State → ℕ → List ℕ → Loaded Dossier → State × Reply
loaded s n image (bad k) = (s, reply (bad_record k) (image ∷ []))
loaded s n image (good d) = (with_dossier n d s, reply done (image ∷ []))

abbrev pub or_refused : Option ℕ → State → State → Answer → State × Reply
or_refused none old s a = (s, reply a [])
or_refused (some n) old s a = (old, reply (refused n) [])

unfoldable pub step : State → Call → State × Reply
step s start = (fresh, reply done [])
step s (new n owner) = or_refused (first_that ((1, not (dossier_good n && user_good owner)) ∷ [])) s (with_dossier n (bare owner) s) done
step s (load n image) =
    elim (first_that ((1, not (dossier_good n)) ∷ [])) [
      | none ↦ loaded s n image (images.load image)
      | some k ↦ (s, reply (refused k) (image ∷ []))
    ]
step s (save n buffer) =
    let bytes = images.save (dossier n s) in writes (first_that ((1, not (dossier_good n)) ∷ (9, short bytes buffer) ∷ [])) s s bytes buffer
step s (save_clipboard buffer) =
    let bytes = images.save_clipboard s.clipboard in writes (first_that ((9, short bytes buffer) ∷ [])) s s bytes buffer
step s (sign user agreement) = or_refused (first_that ((1, not (user_good user && leb agreement 31)) ∷ [])) s (with_signatures (signed user agreement s.signatures) s) done
step s (take_log buffer) = let bytes = log_bytes s.log in writes (first_that ((9, short bytes buffer) ∷ [])) s (with_log [] s) bytes buffer
step s (request r image) = let out = requested s r image in (out.0, reply out.1 (image ∷ []))
step s (ask image q buffer) = (s, asked image q buffer (image_of (images.load image)))

-- the replies to a list of calls, one after another
abbrev pub run_from : State → List Call → List Reply
run_from s [] = []
run_from s (c ∷ l) = let out = step s c in out.1 ∷ run_from out.0 l

-- from the fresh state
abbrev pub run : List Call → List Reply
run l = run_from fresh l

-- the state that a list of calls leaves
abbrev pub after : State → List Call → State
after s [] = s
after s (c ∷ l) = after (step s c).0 l
