-- Whether an object is there, by its rows and as the rules have it. Assumes nothing.
use mathlib.Core.Path.{◌≡◌, sym}
use mathlib.Core.Bool.{Bool, true, false}
use Prim.Native.Nat.{ℕ}
use lib.Dec.{eqb}
use Rattle.laws.specs.Slots.{pick}
use Rattle.path.specs.Address.{Address}
use Rattle.model.specs.Things as things
use Rattle.model.specs.Moves.{owner_in, attribute_in, node_at, attribute_object, object_at}
use Rattle.model.specs.Image.{there}
use Rattle.roundtrip.proofs.Checks.{there_map}

-- an object, the node for name 0, else the attribute
abbrev pub object_in : Address → ℕ → things.Dossier → Bool
object_in p name d = pick (eqb name 0) (there (owner_in p d.nodes)) (there (attribute_in p name d.attributes))

pub object_there : (p : Address) (name : ℕ) (d : things.Dossier) → object_in p name d ≡ there (object_at p name d)
object_there p name d = go (eqb name 0)
  where
    go : (b : Bool) → pick b (there (owner_in p d.nodes)) (there (attribute_in p name d.attributes)) ≡ there (pick b (node_at p d) (attribute_object p name d))
    go true = sym (there_map _ (owner_in p d.nodes))
    go false = sym (there_map _ (attribute_in p name d.attributes))

pub node_there : (p : Address) (d : things.Dossier) → there (owner_in p d.nodes) ≡ there (node_at p d)
node_there p d = sym (there_map _ (owner_in p d.nodes))
