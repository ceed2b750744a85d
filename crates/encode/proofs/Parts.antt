-- The parts of one record, one behind the other: seven bytes of a path, sixteen that every kind has. Assumes nothing.
use mathlib.Core.Path.{◌≡◌, ap, ◌∙◌}
use mathlib.Core.List.{List, [], ◌∷◌, ◌++◌}
use Prim.Native.Nat.{ℕ, ◌+◌, ◌≤◌}
use native.Mathlib.Omega.{arith}
use lib.ListN.{length, length-append}
use Rattle.laws.specs.Slots.{put, slots}
use Rattle.laws.proofs.Put.{put_length, then}
use Rattle.path.specs.declared.Path.{Path}
use Rattle.path.specs.Bytes.{step_bytes}
use Rattle.path.specs.View.{steps, PathSound}
use Rattle.path.proofs.Structs.{valid_short, path_valid}
use Rattle.path.proofs.Bytes.{bytes_length}
use Rattle.model.specs.Image.{bytes2, front}

-- ys stand where xs end
pub behind : (l m k : List ℕ) (at n : ℕ) (xs ys : List ℕ) → m ≡ put l at xs → k ≡ put m n ys → n ≡ at + length xs → n + length ys ≤ length l → k ≡ put l at (xs ++ ys)
behind l m k at n xs ys e f h room = then l m k at xs ys e (f ∙ ap (λ (j : ℕ). put m j ys) h) (omega arith)

module _ (p : Path) (sound : PathSound p) where
  pub steps_length : length (step_bytes (steps p)) ≡ 7
  steps_length = bytes_length (steps p) (valid_short (steps p) (path_valid sound))

  pub front_length : (kind name owner role action user value : ℕ) → length (front kind (steps p) name owner role action user value) ≡ 16
  front_length kind name owner role action user value =
      let e = steps_length in
      let f = length-append (slots 6 0 (steps p)) (bytes2 name ++ (owner ∷ role ∷ action ∷ user ∷ value ∷ 0 ∷ [])) in
      omega arith

  module _ (l m k : List ℕ) (at : ℕ) (room : at + 16 ≤ length l) where
    -- a kind and a path, and eight bytes behind them
    pub front_put : (kind : ℕ) (ys : List ℕ) → m ≡ put l at (kind ∷ step_bytes (steps p)) → (length m ≡ length l → k ≡ put m (at + 8) ys) → length ys ≡ 8 → k ≡ put l at (kind ∷ (step_bytes (steps p) ++ ys))
    front_put kind ys e f n =
        let s = steps_length in
        let same : length m ≡ length l = ap (λ (b : List ℕ). length b) e ∙ put_length l at (kind ∷ step_bytes (steps p)) (omega arith) in
        behind l m k at (at + 8) (kind ∷ step_bytes (steps p)) ys e (f same) (omega arith) (omega arith)
