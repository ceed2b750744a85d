-- Lists in strict order, for any order given as a test, and what is done to such lists: insert, merge, interleave, move.
use Rattle.std.specs.Prelude.{◌≡◌, Bool, true, false, not, T}
use Rattle.std.proofs.Math.Option.{Option, none, some}
use mathlib.Core.List.{List, [], ◌∷◌, Memᴰ}
use Rattle.laws.specs.Slots.{pick}

infix 4 ◌∈◌
abbrev pub ◌∈◌ : {A : Type 0} → A → List A → Type 0
a ∈ l = Memᴰ a l

-- a strict total order
pub record StrictOrder {A : Type 0} (lt : A → A → Bool) : Type 0 where
  pub irr : (a : A) → T (lt a a) → ⊥
  pub trans : (a b c : A) → T (lt a b) → T (lt b c) → T (lt a c)
  pub conn : (a b : A) → T (not (lt a b)) → T (not (lt b a)) → a ≡ b

-- each element is less than all that follow it
pub data Sorted {A : Type 0} (lt : A → A → Bool) : List A → Type 0 where
  nil : Sorted lt []
  cons : {x : A} {l : List A} → ((y : A) → y ∈ l → T (lt x y)) → Sorted lt l → Sorted lt (x ∷ l)

-- the same members, both ways
abbrev pub Same : {A : Type 0} → List A → List A → Type 0
Same {A} l m = ((x : A) → x ∈ l → x ∈ m) × ((x : A) → x ∈ m → x ∈ l)

module _ {A : Type 0} where
  -- the tests are arguments, so that laws are by cases on two Bools: x < y, y < x, or neither
  abbrev pub insert_by : Bool → Bool → A → A → List A → List A → List A
  insert_by true c x y l r = x ∷ y ∷ l
  insert_by false true x y l r = y ∷ r
  insert_by false false x y l r = y ∷ l

  -- x in its place; an element that is already there is kept once
  abbrev pub insert : (A → A → Bool) → A → List A → List A
  insert lt x [] = x ∷ []
  insert lt x (y ∷ l) = insert_by (lt x y) (lt y x) x y l (insert lt x l)

  -- each of xs in its place
  abbrev pub merge : (A → A → Bool) → List A → List A → List A
  merge lt [] l = l
  merge lt (x ∷ xs) l = insert lt x (merge lt xs l)

  -- two lists in order, put together in order: at each turn the lesser of the two first elements
  abbrev pub interleave_one : (A → A → Bool) → A → (List A → List A) → List A → List A
  interleave_one lt a f [] = a ∷ f []
  interleave_one lt a f (b ∷ l) = pick (lt a b) (a ∷ f (b ∷ l)) (b ∷ interleave_one lt a f l)

  abbrev pub interleave : (A → A → Bool) → List A → List A → List A
  interleave lt [] l = l
  interleave lt (a ∷ k) l = interleave_one lt a (interleave lt k) l

  -- no common element
  abbrev pub Disjoint : List A → List A → Type 0
  Disjoint k l = (z : A) → z ∈ k → z ∈ l → ⊥

-- filter and map in one: what f answers for each element, in turn
abbrev pub push : {B : Type 0} → Option B → List B → List B
push none r = r
push (some b) r = b ∷ r

module _ {A B : Type 0} where
  abbrev pub move : (A → Option B) → List A → List B
  move f [] = []
  move f (a ∷ l) = push (f a) (move f l)

  -- f keeps the order of what it answers for
  unfoldable pub Monotone : (A → A → Bool) → (B → B → Bool) → (A → Option B) → Type 0
  Monotone lt_a lt_b f = (a a' : A) (b b' : B) → f a ≡ some b → f a' ≡ some b' → T (lt_a a a') → T (lt_b b b')
