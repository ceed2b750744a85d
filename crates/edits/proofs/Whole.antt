-- A sound dossier as its model sees it: no row of a branch is deeper than its nodes. Assumes nothing.
use mathlib.Core.Path.{sym, ap, subst}
use mathlib.Core.Bool.{Bool, true, false}
use mathlib.Core.List.Memᴰ
use mathlib.Core.List.{List, [], ◌∷◌}
use mathlib.Core.Logic.{⊎_elim}
use Prim.Native.Nat.{ℕ, ◌+◌, ◌≤◌, max}
use native.Mathlib.Nat.{le-max_left, le-max_right}
use native.Mathlib.Omega.{arith}
use lib.Dec.{T, eqb}
use lib.ListN.{length}
use Rattle.laws.specs.Slots.{pick}
use Rattle.laws.specs.Sorted.{◌∈◌}
use Rattle.laws.proofs.Fill.{is_fits}
use Rattle.path.specs.Address.{Address}
use Rattle.model.specs.Things as things
use Rattle.model.specs.Things.{Row}
use Rattle.model.specs.Image.{there}
use Rattle.model.specs.Moves.{node_at, attribute_at, attribute_object, object_at, deepest}
use Rattle.model.specs.Sound.{Sound}
use Rattle.roundtrip.proofs.Checks.{there_map}
use Rattle.roundtrip.proofs.Found.{node_in_lem, attribute_in_lem}
use Rattle.tables.specs.declared.Dossier.{Dossier}
use Rattle.tables.specs.View.{view_dossier, dossier_of, DossierSound}
use Rattle.tables.proofs.Rows.{view_dossier_lem}
use Rattle.moves.specs.Room.{Shallow}

pub whole : (d : Dossier) → DossierSound d → Sound (view_dossier d)
whole d h = is_fits dossier_of view_dossier view_dossier_lem Sound d h

-- ---- depth: attributes and permissions stand where nodes stand
in_deepest : {P : Type 0} (r : Row P) (l : List (Row P)) → r ∈ l → length r.0 ≤ deepest l
in_deepest r [] h = absurd (Memᴰ.not-nil h)
in_deepest r (x ∷ l) h =
    ⊎_elim
    (λ e. subst (λ (z : Address). length z ≤ max (length x.0) (deepest l)) (sym (ap (λ y. y.0) e)) (le-max_left (length x.0) (deepest l)))
    (λ m. let a = in_deepest r l m in let b = le-max_right (length x.0) (deepest l) in omega arith)
    (Memᴰ.cases_cons h)

object_node : (p : Address) (n : ℕ) (d : things.Dossier) → Sound d → T (there (object_at p n d)) → T (there (node_at p d))
object_node p n d s = go (eqb n 0)
  where
    go : (b : Bool) → T (there (pick b (node_at p d) (attribute_object p n d))) → T (there (node_at p d))
    go true t = t
    go false t = let w = attribute_in_lem p n d (subst T (there_map _ (attribute_at p n d)) t) in s.on_node (p, w.0) w.1

module _ (q : Address) (d : things.Dossier) (s : Sound d) (h : length q + deepest d.nodes ≤ 6) where
  shallow_at : (p : Address) → T (there (node_at p d)) → length q + length p ≤ 6
  shallow_at p t = let w = node_in_lem p d t in let k = in_deepest (p, w.0) d.nodes w.1 in omega arith

  pub nodes_shallow : Shallow q d.nodes
  nodes_shallow r m = let k = in_deepest r d.nodes m in omega arith

  pub attributes_shallow : Shallow q d.attributes
  attributes_shallow r m = shallow_at r.0 (s.on_node r m)

  pub permissions_shallow : Shallow q d.permissions
  permissions_shallow r m = shallow_at r.0 (object_node r.0 r.1.0 d s (s.on_object r m))
