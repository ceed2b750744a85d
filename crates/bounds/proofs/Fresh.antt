-- What a lookup that finds nothing says of the row to be put in: it is not there yet. Assumes nothing.
use mathlib.Core.Path.{◌≡◌, refl, sym, subst, ◌∙◌}
use mathlib.Core.Bool.{Bool, true, false}
use mathlib.Core.Option.{Option, none, some}
use mathlib.Core.List.Memᴰ
use mathlib.Core.List.{List, [], ◌∷◌}
use Prim.Native.Nat.{ℕ}
use lib.Dec.{T, eqb, eqb_refl}
use native.Mathlib.Omega.{arith}
use Rattle.laws.specs.Slots.{pick}
use Rattle.laws.specs.Sorted.{◌∈◌}
use Rattle.laws.proofs.Sorted.{move_in}
use Rattle.path.specs.Address.{Address, same}
use Rattle.path.proofs.Laws.{same_refl}
use Rattle.path.proofs.Moves.{pick_yes}
use Rattle.path.proofs.Structs.{no}
use Rattle.model.specs.Things.{Attribute, Permission, Row}
use Rattle.model.specs.Decide.{clash, clash_any}
use Rattle.model.specs.Image.{there}
use Rattle.model.specs.Moves.{at, named, owner_in, attribute_in, permissions_in}
use Rattle.std.specs.Prelude.{None}
use Rattle.std.proofs.Common as rust
use Rattle.tables.specs.declared.Found.{Found}
use Rattle.tables.specs.View.{owner_of, found_of}
use Rattle.roundtrip.proofs.Found.{there_head}
use Rattle.moves.specs.Room.{FreshNode, FreshAttribute, FreshPermission}

-- ---- no owner, no node
nobody : (o : Option ℕ) → None ≡ owner_of o → o ≡ none
nobody none e = refl
nobody (some u) e = let z : ◌≡◌ {A = ℕ} 0 1 = cc in absurd (omega arith)

pub node_new : {a : rust.Option ℕ} (p : Address) (u : ℕ) (l : List (Row ℕ)) → a ≡ owner_of (owner_in p l) → a ≡ None → FreshNode (p, u) l
node_new p u l e n h =
    subst (λ o. T (there o)) (nobody (owner_in p l) (sym n ∙ e)) (there_head (move_in (at p) h (pick_yes (same p p) (some u) none (same_refl p))))

-- ---- no attribute
absent : (o : Option Attribute) → None ≡ found_of o → o ≡ none
absent none e = refl
absent (some a) e = let z : ◌≡◌ {A = ℕ} 0 1 = cc in absurd (omega arith)

pub attribute_new : {r : rust.Option Found} (p : Address) (a : Attribute) (l : List (Row Attribute)) → r ≡ found_of (attribute_in p a.name l) → r ≡ None → FreshAttribute (p, a) l
attribute_new p a l e n = absent (attribute_in p a.name l) (sym n ∙ e)

-- ---- no clash, of a permission that clashes with itself
clash_none : (g h : Permission) (l : List Permission) → clash g h ≡ true → clash_any g l ≡ false → h ∈ l → ⊥
clash_none g h [] c e m = Memᴰ.not-nil m
clash_none g h (k ∷ l) c e (Memᴰ.head d) = no (sym (pick_yes (clash g k) true (clash_any g l) (subst (λ x. T (clash g x)) d (subst T (sym c) tt))) ∙ e)
clash_none g h (k ∷ l) c e (Memᴰ.tail m) = clash_none g h l c (rest (clash g k) e) m
  where
    rest : (b : Bool) → pick b true (clash_any g l) ≡ false → clash_any g l ≡ false
    rest true f = no f
    rest false f = f

pub permission_new : (p : Address) (n : ℕ) (g : Permission) (l : List (Row (ℕ × Permission))) → clash g g ≡ true → clash_any g (permissions_in p n l) ≡ false → FreshPermission (p, (n, g)) l
permission_new p n g l c e h =
    clash_none g g (permissions_in p n l) c e
    (move_in (named n) (move_in (at p) h (pick_yes (same p p) (some (n, g)) none (same_refl p))) (pick_yes (eqb n n) (some g) none (eqb_refl n)))
