-- An attribute whose name is not taken at its path differs from every row of the table in one of the two. Assumes nothing.
use mathlib.Core.Path.{◌≡◌, refl, sym, subst}
use mathlib.Core.Option.{Option, none}
use mathlib.Core.List.Memᴰ
use mathlib.Core.List.{List, []}
use Prim.Native.Nat.{ℕ}
use lib.Dec.{T, eqb, eqb→eq}
use Rattle.laws.specs.Sorted.{◌∈◌}
use Rattle.path.specs.Address.{Address, same}
use Rattle.path.proofs.Structs.{both}
use Rattle.path.proofs.Laws.{same_eq}
use Rattle.model.specs.Things.{Attribute, Row}
use Rattle.model.specs.Image.{there}
use Rattle.model.specs.Moves.{attribute_in}
use Rattle.roundtrip.proofs.Found.{attribute_there}
use Rattle.tables.specs.View.{Apart}
use Rattle.moves.specs.Room.{FreshAttribute}

pub not_taken : (p : Address) (n : ℕ) (r : Row Attribute) (l : List (Row Attribute)) → attribute_in p n l ≡ none → r ∈ l → r.0 ≡ p → r.1.name ≡ n → ⊥
not_taken p n r l f h e d =
    subst (λ (o : Option Attribute). T (there o)) f
    (attribute_there p n r.1 (record { nodes = []; attributes = l; permissions = [] }) (Memᴰ.cast (λ i. (sym e i, r.1)) h) d)

pub attribute_apart : (a y : Row Attribute) (l : List (Row Attribute)) → FreshAttribute a l → y ∈ l → Apart a y
attribute_apart a y l f h t =
    let w = both (same a.0 y.0) (eqb a.1.name y.1.name) t in
    not_taken a.0 a.1.name y l f h (sym (same_eq a.0 y.0 w.0)) (sym (eqb→eq a.1.name y.1.name w.1))

pub attribute_fresh : (a y : Row Attribute) (l : List (Row Attribute)) → FreshAttribute a l → y ∈ l → a ≡ y → ⊥
attribute_fresh a y l f h e = not_taken a.0 a.1.name a l f (Memᴰ.cast e h) refl refl
