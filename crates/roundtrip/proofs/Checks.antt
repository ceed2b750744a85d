-- Tests of several parts and what each part says; what is there and what is missing. Assumes nothing.
use mathlib.Core.Path.{◌≡◌, refl}
use mathlib.Core.Bool.{Bool, true, false, not, ◌&&◌, ◌||◌}
use mathlib.Core.Option.{Option, none, some, map, some-injective}
use lib.Dec.{T, not_T}
use mir.Facts.{yes_and, T_not-not}
use Rattle.laws.specs.Slots.{pick}
use Rattle.path.proofs.Moves.{pick_some}
use Rattle.model.specs.Image.{there}

pub not_not : (b : Bool) → (T (not b) → ⊥) → T b
not_not b n = T_not-not b (not_T (not b) n)

pub or_left : (a b : Bool) → T a → T (a || b)
or_left true b t = tt
or_left false b t = absurd t

pub or_right : (a b : Bool) → T b → T (a || b)
or_right true b t = tt
or_right false b t = t

pub neither : (a b : Bool) → (T (a || b) → ⊥) → (T a → ⊥) × (T b → ⊥)
neither true b n = absurd (n tt)
neither false b n = (λ t. t, n)

-- the second part, where the first does not hold
pub or_else : (a b b' : Bool) → ((T a → ⊥) → T b → T b') → T (a || b) → T (a || b')
or_else true b b' f t = tt
or_else false b b' f t = f (λ s. s) t

-- both second parts
pub or_both : (a b c : Bool) → T (a || b) → T (a || c) → T (a || (b && c))
or_both true b c s t = tt
or_both false b c s t = yes_and b c s t

-- what a test lets through
pub let_in : {A : Type 0} (b : Bool) (x y : A) → pick b (some x) none ≡ some y → T b × (x ≡ y)
let_in b x y e = let w = pick_some b (some x) y e in (w.0, some-injective x y w.1)

pub absent_none : {A : Type 0} (o : Option A) → T (not (there o)) → o ≡ none
absent_none none t = refl
absent_none (some a) t = absurd t

pub there_map : {A B : Type 0} (f : A → B) (o : Option A) → there (map f o) ≡ there o
there_map f none = refl
there_map f (some a) = refl
