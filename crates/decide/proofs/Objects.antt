-- What is granted on an object, from whose it is and which permissions it has. Assumes nothing.
use mathlib.Core.Path.{◌≡◌, refl, ap, ap₂, ◌∙◌}
use mathlib.Core.Bool.{Bool, true, false}
use mathlib.Core.Option.{Option, none, some, map}
use mathlib.Core.List.{List}
use Prim.Native.Nat.{ℕ}
use lib.Dec.{eqb}
use Rattle.std.specs.Prelude as std
use Rattle.std.specs.Prelude.{Some, None}
use Rattle.laws.specs.Slots.{pick}
use Rattle.path.specs.Address.{Address}
use Rattle.model.specs.Things.{Attribute, Permission, Dossier}
use Rattle.model.specs.Decide.{Provisions, nothing, given, joined}
use Rattle.model.specs.Moves.{owner_in, permissions_in, attribute_in, node_at, attribute_object}
use Rattle.tables.specs.View.{owner_of, found_of}
use Rattle.grants.specs.View.{decision_of, view_decision}
use Rattle.grants.proofs.Told.{decision_seen}
use Rattle.grants.specs.declared.Provisions as grants
use Rattle.decide.specs.View.{no_provisions, found_owner, object_owned, owned_or}

-- ---- both
pub both_joined : {a b r : std.Option grants.Provisions} (x y : Option Provisions) → r ≡ decision_of (joined (view_decision a) (view_decision b)) → a ≡ decision_of x → b ≡ decision_of y → r ≡ decision_of (joined x y)
both_joined x y e h k = e ∙ ap₂ (λ v w. decision_of (joined v w)) (ap view_decision h ∙ decision_seen x) (ap view_decision k ∙ decision_seen y)

-- ---- objects from their owners
pub node_owned : (p : Address) (d : Dossier) → object_owned (owner_of (owner_in p d.nodes)) (permissions_in p 0 d.permissions) ≡ node_at p d
node_owned p d = go (owner_in p d.nodes)
  where
    go : (o : Option ℕ) → object_owned (owner_of o) (permissions_in p 0 d.permissions) ≡ map (λ u. record { owner = u; permissions = permissions_in p 0 d.permissions }) o
    go none = refl
    go (some u) = refl

pub attribute_owned : (p : Address) (n : ℕ) (d : Dossier) → object_owned (found_owner (found_of (attribute_in p n d.attributes))) (permissions_in p n d.permissions) ≡ attribute_object p n d
attribute_owned p n d = go (attribute_in p n d.attributes)
  where
    go : (o : Option Attribute) → object_owned (found_owner (found_of o)) (permissions_in p n d.permissions) ≡ map (λ a. record { owner = a.owner; permissions = permissions_in p n d.permissions }) o
    go none = refl
    go (some a) = refl

-- rest is what the permissions give, of an object that its owner may use without
pub owned_given : (user : ℕ) (rest : List Permission → Option Provisions) (w : std.Option ℕ) (l : List Permission)
    → owned_or w user (decision_of (rest l)) ≡ decision_of (given (λ o. pick (eqb user o.owner) (some nothing) (rest o.permissions)) (object_owned w l))
owned_given user rest None l = refl
owned_given user rest (Some u) l = go (eqb user u)
  where
    go : (b : Bool) → pick b (Some no_provisions) (decision_of (rest l)) ≡ decision_of (pick b (some nothing) (rest l))
    go true = refl
    go false = refl
