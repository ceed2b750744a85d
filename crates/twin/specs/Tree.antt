-- The dossier without addresses: a tree whose nodes carry what goes with them. A position is counted in the child lists at that moment.
use Rattle.std.specs.Prelude.{Bool, List, [], ◌∷◌, ◌++◌, map, ℕ, zero, suc, ◌+◌, max, length}
use Rattle.std.proofs.Math.Option.{Option, none, some}
use Rattle.laws.specs.Sorted.{merge}
use Rattle.path.specs.Address.{Address}
use Rattle.model.specs.Things.{Row}

mutual
  pub data Tree (P : Type 0) : Type 0 where
    node : P → Forest P → Tree P

  pub data Forest (P : Type 0) : Type 0 where
    fnil : Forest P
    fcons : Tree P → Forest P → Forest P

abbrev pub then : {A B : Type 0} → Option A → (A → Option B) → Option B
then none f = none
then (some a) f = f a

module _ {P : Type 0} where
  abbrev pub payload : Tree P → P
  payload (node p f) = p

  abbrev pub kids : Tree P → Forest P
  kids (node p f) = f

  abbrev pub count : Forest P → ℕ
  count fnil = 0
  count (fcons t f) = suc (count f)

  -- a child, counted from 0, and counted from 1
  abbrev pub child : ℕ → Forest P → Option (Tree P)
  child i fnil = none
  child zero (fcons t f) = some t
  child (suc i) (fcons t f) = child i f

  abbrev pub kid : ℕ → Forest P → Option (Tree P)
  kid zero f = none
  kid (suc i) f = child i f

  -- the branch at a position, and what its top carries
  abbrev pub branch : Address → Tree P → Option (Tree P)
  branch [] t = some t
  branch (i ∷ q) t = then (kid i (kids t)) (λ s. branch q s)

  abbrev pub look : Address → Tree P → Option P
  look [] t = some (payload t)
  look (i ∷ q) t = then (kid i (kids t)) (λ s. look q s)

  -- a tree put among the children, a child taken away, a child changed; all counted from 0
  abbrev pub put : Tree P → ℕ → Forest P → Forest P
  put s zero f = fcons s f
  put s (suc k) fnil = fnil
  put s (suc k) (fcons t f) = fcons t (put s k f)

  abbrev pub drop : ℕ → Forest P → Forest P
  drop k fnil = fnil
  drop zero (fcons t f) = f
  drop (suc k) (fcons t f) = fcons t (drop k f)

  abbrev pub change : (Tree P → Tree P) → ℕ → Forest P → Forest P
  change g k fnil = fnil
  change g zero (fcons t f) = fcons (g t) f
  change g (suc k) (fcons t f) = fcons t (change g k f)

  -- the same counted from 1
  abbrev pub from1 : (ℕ → Forest P → Forest P) → ℕ → Forest P → Forest P
  from1 h zero f = f
  from1 h (suc k) f = h k f

  -- h done to the children of the node above the position k ∷ q
  abbrev pub edit : (ℕ → Forest P → Forest P) → ℕ → Address → Tree P → Tree P
  edit h k [] t = node (payload t) (from1 h k (kids t))
  edit h k (j ∷ q) t = node (payload t) (from1 (change (λ s. edit h j q s)) k (kids t))

  abbrev pub paste_at : Tree P → ℕ → Address → Tree P → Tree P
  paste_at s k q t = edit (put s) k q t

  abbrev pub delete_at : ℕ → Address → Tree P → Tree P
  delete_at k q t = edit drop k q t

  -- the same at a position that may be the root's, where nothing is done
  abbrev pub paste_tree : Tree P → Address → Tree P → Tree P
  paste_tree s [] t = t
  paste_tree s (k ∷ q) t = paste_at s k q t

  abbrev pub delete_tree : Address → Tree P → Tree P
  delete_tree [] t = t
  delete_tree (k ∷ q) t = delete_at k q t

  -- g done to what the node at a position carries
  abbrev pub set_at : (P → P) → Address → Tree P → Tree P
  set_at g [] (node p f) = node (g p) f
  set_at g (i ∷ q) t = node (payload t) (from1 (change (λ s. set_at g q s)) i (kids t))

  -- the steps of the longest position
  unfoldable mutual
    pub height : Tree P → ℕ
    height (node p f) = height_f f

    pub height_f : Forest P → ℕ
    height_f fnil = 0
    height_f (fcons t f) = max (suc (height t)) (height_f f)

-- ---- rows of one kind, in the order of the walk: `items` are those that a node gives
abbrev pub here : {X : Type 0} → X → Row X
here x = ([], x)

abbrev pub below : {X : Type 0} → ℕ → Row X → Row X
below i r = (i ∷ r.0, r.1)

module _ {P X : Type 0} (items : P → List X) where
  abbrev mutual
    pub rows : Tree P → List (Row X)
    rows (node p f) = map (λ x. here x) (items p) ++ rows_f f 1

    pub rows_f : Forest P → ℕ → List (Row X)
    rows_f fnil i = []
    rows_f (fcons t f) i = map (λ r. below i r) (rows t) ++ rows_f f (suc i)

  -- how many there are
  unfoldable mutual
    pub weigh : Tree P → ℕ
    weigh (node p f) = length (items p) + weigh_f f

    pub weigh_f : Forest P → ℕ
    weigh_f fnil = 0
    weigh_f (fcons t f) = weigh t + weigh_f f

  -- the rows in order
  unfoldable pub table : (Row X → Row X → Bool) → Tree P → List (Row X)
  table lt t = merge lt (rows t) []
