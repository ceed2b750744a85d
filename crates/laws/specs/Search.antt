-- Where a search by halving ends: the place of the first element for which a test does not hold.
use Rattle.std.specs.Prelude.{Bool, List, [], ◌∷◌, ℕ, suc}
use Rattle.laws.specs.Slots.{pick}

module _ {A : Type 0} where
  -- how many elements at the front the test holds of: of a sorted list and the test "comes before k", the place of k
  abbrev pub place : (A → Bool) → List A → ℕ
  place b [] = 0
  place b (x ∷ l) = pick (b x) (suc (place b l)) 0
