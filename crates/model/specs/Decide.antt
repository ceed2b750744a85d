-- Who may do what (document 01, "Granted", "Clash", "Delegate", "Provisions"), on plain values: owners, permissions of one object, sets.
use Rattle.std.specs.Prelude.{Bool, true, false, ◌&&◌, ◌||◌, List, [], ◌∷◌, ℕ, zero, suc, ◌/◌, ◌%◌, ℤ, eqb}
use Rattle.std.proofs.Math.Option.{Option, none, some}
use Rattle.std.specs.Int.Signed.{le_z}
use Rattle.std.specs.Int.Bits.{bit_and, bit_or}
use Rattle.laws.specs.Slots.{pick}
use Rattle.laws.specs.Sorted.{push}
use Rattle.model.specs.Things.{Permission}

-- who asks, in which role, when
pub record Subject : Type 0 where
  pub role : ℕ
  pub user : ℕ
  pub time : ℤ

-- what is found at an object's place: "Each object has one owner", and the permissions for it
pub record Object : Type 0 where
  pub owner : ℕ
  pub permissions : List Permission

-- "Provisions are a set of messages to log and a set of agreements to be signed"
pub record Provisions : Type 0 where
  pub messages : ℕ
  pub agreements : ℕ

abbrev pub nothing : Provisions
nothing = record { messages = 0; agreements = 0 }

-- "both must be granted", "and provisions are joined"
abbrev pub joined : Option Provisions → Option Provisions → Option Provisions
joined none b = none
joined (some a) none = none
joined (some a) (some b) = some (record { messages = bit_or a.messages b.messages; agreements = bit_or a.agreements b.agreements })

-- ---- match
-- "either any user or one user": the user is admitted
abbrev pub admits : ℕ → ℕ → Bool
admits one user = eqb one 0 || eqb one user

-- "an interval of times, both ends included"
abbrev pub during : Permission → ℤ → Bool
during p t = le_z p.first t && le_z t p.last

-- role and action equal, the user admitted
abbrev pub concerns : Subject → ℕ → Permission → Bool
concerns s action p = eqb p.role s.role && (eqb p.action action && admits p.user s.user)

-- "A permission matches if role, object and action are equal, the time is in the interval and the user is admitted", of a permission for the object
abbrev pub matches : Subject → ℕ → Permission → Bool
matches s action p = concerns s action p && during p s.time

abbrev pub provisions_of : Permission → Provisions
provisions_of p = record { messages = p.messages; agreements = p.agreements }

-- the provisions of the permission that matches
abbrev pub matched : Subject → ℕ → List Permission → Option Provisions
matched s action [] = none
matched s action (p ∷ l) = pick (matches s action p) (some (provisions_of p)) (matched s action l)

-- ---- granted
abbrev pub owned : Subject → Object → Bool
owned s o = eqb s.user o.owner

-- "Read of an object: the user owns it (no provisions), or a permission matches"
abbrev pub read_by : Subject → Object → Option Provisions
read_by s o = pick (owned s o) (some nothing) (matched s 1 o.permissions)

-- "Change of a node: the user owns it (no provisions), or one permission matches for read and one for change; the provisions are joined"
abbrev pub change_by : Subject → Object → Option Provisions
change_by s o = pick (owned s o) (some nothing) (joined (matched s 1 o.permissions) (matched s 2 o.permissions))

-- "own the object"
abbrev pub own_by : Subject → Object → Option Provisions
own_by s o = pick (owned s o) (some nothing) none

-- "A delegate permission must match for the user's role (owning does not help)"
abbrev pub delegate_by : Subject → Object → Option Provisions
delegate_by s o = matched s 4 o.permissions

-- nothing is granted on what is not there
abbrev pub given : (Object → Option Provisions) → Option Object → Option Provisions
given f none = none
given f (some o) = f o

-- ---- clash
-- "their users share a user"
abbrev pub meet : ℕ → ℕ → Bool
meet u v = eqb u 0 || (eqb v 0 || eqb u v)

-- "their intervals share a time"
abbrev pub overlap : Permission → Permission → Bool
overlap p q = le_z p.first q.last && le_z q.first p.last

abbrev pub alike : Permission → Permission → Bool
alike p q = eqb p.role q.role && (eqb p.action q.action && meet p.user q.user)

-- "Two permissions clash if role, object and action are equal, their intervals share a time and their users share a user", of two permissions for one object
abbrev pub clash : Permission → Permission → Bool
clash p q = alike p q && overlap p q

abbrev pub clash_any : Permission → List Permission → Bool
clash_any p [] = false
clash_any p (q ∷ l) = pick (clash p q) true (clash_any p l)

-- ---- delegate
-- all of a is in b
abbrev pub subset : ℕ → ℕ → Bool
subset a b = eqb (bit_and a b) a

-- "contain the new interval"
abbrev pub spans : Permission → Permission → Bool
spans c p = le_z c.first p.first && le_z p.last c.last

-- "contain .. the new users": any contains all, one user only the same one user
abbrev pub contains_users : ℕ → ℕ → Bool
contains_users one new = eqb one 0 || eqb one new

-- "Some permission of the delegator's role, same object and action, must admit the delegator's user, contain the new interval and the new users,
-- and have all its provisions in the new one": whether c is such a permission for p
abbrev pub covers : Subject → Permission → Permission → Bool
covers s p c =
    concerns s p.action c
    && (contains_users c.user p.user && (spans c p && (subset c.messages p.messages && subset c.agreements p.agreements)))

abbrev pub cover_any : Subject → Permission → List Permission → Bool
cover_any s p [] = false
cover_any s p (c ∷ l) = pick (covers s p c) true (cover_any s p l)

-- ---- provisions
-- the numbers in a set, ascending: k more places, the first of them for number n
abbrev pub members_from : ℕ → ℕ → ℕ → List ℕ
members_from zero n set = []
members_from (suc k) n set = push (pick (eqb (set % 2) 1) (some n) none) (members_from k (suc n) (set / 2))

-- "messages, agreements: 0..31 each"
abbrev pub members : ℕ → List ℕ
members set = members_from 32 0 set
