-- Moved addresses: what is put below q never meets what moved up from q, and the numbers of their paths compare as they do. Assumes nothing.
use mathlib.Core.Path.{◌≡◌, refl, sym, ap, ap₂, subst, ◌∙◌}
use mathlib.Core.Bool.{Bool, true, false}
use mathlib.Core.Option
use mathlib.Core.List.Memᴰ
use mathlib.Core.List.{List, [], ◌∷◌, ◌++◌}
use Prim.Native.Nat.{ℕ, zero, suc, ◌+◌, ◌≤◌, ◌<◌}
use native.Mathlib.Omega.{arith}
use lib.Dec.{T, eqb, leb, ltb}
use lib.ListN.{length, get_or, length-append}
use Rattle.laws.specs.Slots.{pick}
use Rattle.laws.specs.Sorted.{◌∈◌, push}
use Rattle.path.specs.Address.{Address, valid, before, under, higher, up, on, in_depth}
use Rattle.path.specs.View.{path_of, key_of}
use Rattle.path.proofs.Structs.{no, valid_short, valid_small, in_depth_fits}
use Rattle.path.proofs.Number.{Digits, key_order}
use Rattle.model.specs.Things.{Row}
use Rattle.model.specs.Moves.{carried}
use Rattle.moves.specs.Moved.{below}
use Rattle.path.proofs.Laws.{up_length, up_never, under_on}

pub apart : (q p r : Address) → 0 < length q → on q p ≡ up q r → ⊥
apart [] p r h e = absurd (omega arith)
apart (k ∷ q) p r h e = no (sym (under_on (k ∷ q) p) ∙ ap (under (k ∷ q)) e ∙ up_never k q r)

-- ---- at most six steps, also where a step has become 33
higher_small : (x y : ℕ) → y ≤ 32 → higher x y ≤ 33
higher_small x y h = go (leb x y)
  where
    go : (b : Bool) → pick b (y + 1) y ≤ 33
    go true = omega arith
    go false = omega arith

more : {n : ℕ} → n ≤ 32 → n ≤ 33
more h = omega arith

pick_small : (b : Bool) (l m : Address) (i : ℕ) → get_or l i 0 ≤ 33 → get_or m i 0 ≤ 33 → get_or (pick b l m) i 0 ≤ 33
pick_small true l m i h g = h
pick_small false l m i h g = g

up_small : (q p : Address) → ((i : ℕ) → get_or p i 0 ≤ 32) → (i : ℕ) → get_or (up q p) i 0 ≤ 33
up_small [] p h i = more (h i)
up_small (x ∷ []) [] h i = more (h i)
up_small (x ∷ []) (y ∷ p) h zero = higher_small x y (h 0)
up_small (x ∷ []) (y ∷ p) h (suc i) = more (h (suc i))
up_small (x ∷ x' ∷ q) [] h i = more (h i)
up_small (x ∷ x' ∷ q) (y ∷ p) h zero = more (h 0)
up_small (x ∷ x' ∷ q) (y ∷ p) h (suc i) = pick_small (eqb x y) (up (x' ∷ q) p) p i (up_small (x' ∷ q) p (λ j. h (suc j)) i) (more (h (suc i)))

on_small : (q p : Address) → ((i : ℕ) → get_or q i 0 ≤ 32) → ((i : ℕ) → get_or p i 0 ≤ 32) → (i : ℕ) → get_or (q ++ p) i 0 ≤ 32
on_small [] p h g i = g i
on_small (x ∷ q) p h g zero = h 0
on_small (x ∷ q) p h g (suc i) = on_small q p (λ j. h (suc j)) g i

digits_up : (q p : Address) → T (valid p) → Digits (up q p)
digits_up q p v =
    record {
      short = subst (λ n. n ≤ 6) (sym (up_length q p)) (valid_short p v);
      small = up_small q p (valid_small p v);
    }

digits_on : (q p : Address) → T (valid q) → T (valid p) → length q + length p ≤ 6 → Digits (on q p)
digits_on q p u v h =
    record {
      short = subst (λ n. n ≤ 6) (sym (length-append q p)) h;
      small = λ i. let s = on_small q p (valid_small q u) (valid_small p v) i in omega arith;
    }

-- of an address put below q and one moved up from q, the one whose path has the lesser number comes first
pub keys_compare : (q a b : Address) → T (valid q) → T (valid a) → T (valid b) → length q + length a ≤ 6
    → ltb (key_of (path_of (on q a))) (key_of (path_of (up q b))) ≡ before (on q a) (up q b)
keys_compare q a b u v w s = key_order (on q a) (up q b) refl refl (digits_on q a u v s) (digits_up q b w)

-- rows put below q, where none is too deep
pub all_short : {P : Type 0} (q : Address) (l : List (Row P)) → ((r : Row P) → r ∈ l → length q + length r.0 ≤ 6) → carried (λ p. in_depth (on q p)) l ≡ below q l
all_short q [] h = refl
all_short q (x ∷ l) h =
    let e = in_depth_fits (on q x.0) (subst (λ n. n ≤ 6) (sym (length-append q x.0)) (h x (Memᴰ.head refl))) in
    ap₂ push (ap (Option.map (λ p. (p, x.1))) e) (all_short q l (λ r m. h r (Memᴰ.tail m)))
