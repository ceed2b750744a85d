-- The structs of this crate and the model.
use Rattle.std.proofs.Math.Option.{Option, none, some}
use Rattle.std.specs.Prelude as std
use Rattle.std.specs.Prelude.{List, [], ◌∷◌, ℕ, pos, eqb, Some, None}
use Rattle.laws.specs.Slots.{pick}
use Rattle.path.specs.Address.{Address, parent}
use Rattle.path.specs.View.{steps}
use Rattle.model.specs.Things.{whole, Permission, Attribute, Row}
use Rattle.model.specs.Decide as model
use Rattle.model.specs.Moves.{owner_in, attribute_in, permissions_in}
use Rattle.model.specs.Refusals.{Request, Found, choose, subject}
use Rattle.tables.specs.declared.Found as tables
use Rattle.tables.specs.View.{owner_of, found_of}
use Rattle.grants.specs.declared.Provisions.{Provisions}
use Rattle.grants.specs.declared.Walk.{Walk}
use Rattle.grants.specs.View.{decision_of, walk_of}
use Rattle.decide.specs.declared.Asked.{Asked}
use Rattle.decide.specs.declared.Owners.{Owners}

-- whose an object is
abbrev pub object_owner : Option model.Object → std.Option ℕ
object_owner none = None
object_owner (some o) = Some o.owner

-- a request as far as its needs look at it: value and permission play no part in them
abbrev pub no_grant : Permission
no_grant = record { role = 0; action = 0; user = 0; first = pos 0; last = pos 0; messages = 0; agreements = 0 }

abbrev pub view_asked : Asked → Request
view_asked a =
    record {
      number = a.number;
      dossier = 1;
      role = a.subject.role;
      user = a.subject.user;
      time = a.subject.time;
      path = steps a.path;
      name = a.name;
      value = whole 0;
      permission = no_grant;
    }

-- ---- the needs, by halves
-- an attribute's owner, of what a lookup answers
abbrev pub found_owner : std.Option tables.Found → std.Option ℕ
found_owner None = None
found_owner (Some f) = Some f.owner

abbrev pub owners_in : Address → ℕ → List (Row ℕ) → List (Row Attribute) → Owners
owners_in p n nodes attributes =
    record { node = owner_of (owner_in p nodes); parent = owner_of (owner_in (parent p) nodes); attribute = found_owner (found_of (attribute_in p n attributes)) }

-- an object from whose it is and its permissions
abbrev pub object_owned : std.Option ℕ → List Permission → Option model.Object
object_owned None l = none
object_owned (Some u) l = some (record { owner = u; permissions = l })

-- what the needs look at, of all that an editor finds
abbrev pub needed : Option model.Object → Option model.Object → Option model.Object → Found
needed node parent attribute =
    record { node = node; parent = parent; attribute = attribute; names = []; children = 0; siblings = 0; sizes = record { nodes = 0; attributes = 0; permissions = 0 } }

-- the same from the owners and the table of permissions
abbrev pub found_by : Request → Owners → List (Row (ℕ × Permission)) → Found
found_by r o l =
    needed (object_owned o.node (permissions_in r.path 0 l)) (object_owned o.parent (permissions_in (parent r.path) 0 l))
    (object_owned o.attribute (permissions_in r.path r.name l))

-- "no provisions"
abbrev pub no_provisions : Provisions
no_provisions = record { messages = 0; agreements = 0 }

-- "the user owns it (no provisions)"
abbrev pub owned : ℕ → ℕ → std.Option Provisions
owned u user = pick (eqb user u) (Some no_provisions) None

-- "the user owns it (no provisions), or" what the permissions give
abbrev pub owned_or : std.Option ℕ → ℕ → std.Option Provisions → std.Option Provisions
owned_or None user d = None
owned_or (Some u) user d = pick (eqb user u) (Some no_provisions) d

-- what no permission gives
abbrev pub no_walk : Walk
no_walk = record { read = None; change = None; delegate = None }

-- what the permissions give the request on the object that it reads or delegates on, and on the node that it changes
abbrev pub object_walk : Request → List (Row (ℕ × Permission)) → Walk
object_walk r l =
    choose r.number no_walk
    ((1 ∷ 5 ∷ 6 ∷ [], walk_of (subject r) (permissions_in r.path 0 l))
    ∷ (2 ∷ 10 ∷ 11 ∷ 12 ∷ 16 ∷ [], walk_of (subject r) (permissions_in r.path r.name l))
    ∷ [])

abbrev pub change_for : model.Subject → List Permission → std.Option Provisions
change_for s l = decision_of (model.joined (model.matched s 1 l) (model.matched s 2 l))

abbrev pub change_given : Request → List (Row (ℕ × Permission)) → std.Option Provisions
change_given r l =
    choose r.number None
    ((3 ∷ 4 ∷ 6 ∷ 7 ∷ 17 ∷ [], change_for (subject r) (permissions_in (parent r.path) 0 l))
    ∷ (8 ∷ 9 ∷ 10 ∷ 12 ∷ 13 ∷ [], change_for (subject r) (permissions_in r.path 0 l))
    ∷ [])
