-- Laws of `put`: a run of stores is one, two that meet are one, and the length stays. Assumes nothing.
use mathlib.Core.Path.{◌≡◌, refl, sym, ap, ◌∙◌}
use mathlib.Core.List.{List, [], ◌∷◌, ◌++◌, append_assoc}
use Prim.Native.Nat.{ℕ, suc, ◌+◌, ◌≤◌, ◌<◌}
use native.Mathlib.Nat.{add-suc, add_assoc, add-zero}
use native.Mathlib.Numerals.{add-one}
use native.Mathlib.Omega.{arith}
use lib.ListN.{length, take, drop, set, length-append, length-drop, take-append-drop}
use lib.Seq.{sets, sets-eq, length-take-le, take_at, drop-append-add, drop-drop}
use Rattle.laws.specs.Slots.{put}

module _ {A : Type 0} where
  -- the stores of straight-line code, `out[at + k] = v; out[at + k + 1] = ..`
  abbrev pub stores : List A → ℕ → ℕ → List A → List A
  stores l at k [] = l
  stores l at k (v ∷ vs) = stores (set l (at + k) v) at (suc k) vs

  stores_sets : (vs l : List A) (at k : ℕ) → stores l at k vs ≡ sets l (at + k) vs
  stores_sets [] l at k = refl
  stores_sets (v ∷ vs) l at k = stores_sets vs (set l (at + k) v) at (suc k) ∙ ap (λ (n : ℕ). sets (set l (at + k) v) n vs) (add-suc at k)

  pub run : (v : A) (vs l : List A) (at : ℕ) → at + suc (length vs) ≤ length l → stores (set l at v) at 1 vs ≡ put l at (v ∷ vs)
  run v vs l at h =
      stores_sets vs (set l at v) at 1
      ∙ ap (λ (n : ℕ). sets (set l at v) n vs) (add-one at)
      ∙ sets-eq (v ∷ vs) l at h
      ∙ append_assoc (take at l) (v ∷ vs) (drop (at + suc (length vs)) l)

  -- what a put puts in front of its tail
  front : (l : List A) (at : ℕ) (xs : List A) → at ≤ length l → length (take at l ++ xs) ≡ at + length xs
  front l at xs h = length-append (take at l) xs ∙ ap (λ (n : ℕ). n + length xs) (length-take-le at l h)

  pub put_none : (l : List A) (at : ℕ) → l ≡ put l at []
  put_none l at = sym (ap (λ (k : ℕ). take at l ++ drop k l) (add-zero at) ∙ take-append-drop at l)

  pub put_length : (l : List A) (at : ℕ) (xs : List A) → at + length xs ≤ length l → length (put l at xs) ≡ length l
  put_length l at xs h =
      let e = length-append (take at l) (xs ++ drop (at + length xs) l) in
      let f = length-append xs (drop (at + length xs) l) in
      let g = length-drop (at + length xs) l in
      let t = length-take-le at l (omega arith) in
      omega arith

  pub put_put : (l : List A) (at : ℕ) (xs ys : List A) → at + length xs + length ys ≤ length l → put (put l at xs) (at + length xs) ys ≡ put l at (xs ++ ys)
  put_put l at xs ys h =
      let n = at + length xs in
      let a : put l at xs ≡ (take at l ++ xs) ++ drop n l = sym (append_assoc (take at l) xs (drop n l)) in
      let f : length (take at l ++ xs) ≡ n = front l at xs (omega arith) in
      let t : take n (put l at xs) ≡ take at l ++ xs = ap (take n) a ∙ take_at (take at l ++ xs) (drop n l) n f in
      let d : drop (n + length ys) (put l at xs) ≡ drop (at + length (xs ++ ys)) l =
      ap (drop (n + length ys)) a
      ∙ ap (λ (k : ℕ). drop (k + length ys) ((take at l ++ xs) ++ drop n l)) (sym f)
      ∙ drop-append-add (take at l ++ xs) (drop n l) (length ys)
      ∙ drop-drop (length ys) n l
      ∙ ap (λ (k : ℕ). drop k l) (add_assoc at (length xs) (length ys) ∙ ap (λ (k : ℕ). at + k) (sym (length-append xs ys))) in
      (λ i. t i ++ (ys ++ d i))
      ∙ append_assoc (take at l) xs (ys ++ drop (at + length (xs ++ ys)) l)
      ∙ ap (λ (r : List A). take at l ++ r) (sym (append_assoc xs ys (drop (at + length (xs ++ ys)) l)))

  -- a turn of a loop that puts one element behind the others
  pub put_next : (l : List A) (at : ℕ) (xs : List A) (k : ℕ) (v : A) {m : List A} → m ≡ put l at xs → k ≡ at + length xs → k < length l → set m k v ≡ put l at (xs ++ (v ∷ []))
  put_next l at xs k v e f h =
      let n = put_length l at xs (omega arith) in
      ap (λ (o : List A). set o k v) e
      ∙ run v [] (put l at xs) k (omega arith)
      ∙ ap (λ (j : ℕ). put (put l at xs) j (v ∷ [])) f
      ∙ put_put l at xs (v ∷ []) (omega arith)

  -- one call after another
  pub then : (l m k : List A) (at : ℕ) (xs ys : List A) → m ≡ put l at xs → k ≡ put m (at + length xs) ys → at + length xs + length ys ≤ length l → k ≡ put l at (xs ++ ys)
  then l m k at xs ys e f h = f ∙ ap (λ (o : List A). put o (at + length xs) ys) e ∙ put_put l at xs ys h
