-- A record's bytes, compared part by part: the path decides first, then the fields and the rest. Assumes nothing.
use mathlib.Core.Path.{◌≡◌, refl, sym, ap, ◌∙◌}
use mathlib.Core.Bool.{Bool, true, false, ◌&&◌, and_assoc}
use mathlib.Core.Option.{Option, none, some}
use mathlib.Core.List.{List, [], ◌∷◌, ◌++◌}
use Prim.Native.Nat.{ℕ, suc}
use native.Mathlib.Nat.{suc_inj}
use native.Mathlib.Omega.{arith}
use lib.Dec.{eqb}
use lib.ListN.{length, take, drop, get_or}
use borrow.Author.Tests.{eq-eqb}
use Rattle.laws.specs.Slots.{pick, same_bytes}
use Rattle.path.specs.Address.{Address, valid}
use Rattle.path.specs.Bytes.{step_bytes, read_steps}
use Rattle.path.proofs.Structs.{valid_short}
use Rattle.path.proofs.Moves.{Test, holds, fails, test, is_false}
use Rattle.model.specs.Image.{Record}
use Rattle.roundtrip.proofs.Records.{slots_length}

abbrev pub and_then : {A B : Type 0} → Option A → (A → Option B) → Option B
and_then none f = none
and_then (some a) f = f a

-- ---- bytes that are the same
pub same_parts : (x y u v : List ℕ) → length x ≡ length y → same_bytes (x ++ u) (y ++ v) ≡ (same_bytes x y && same_bytes u v)
same_parts [] [] u v e = refl
same_parts [] (j ∷ y) u v e = absurd (omega arith)
same_parts (i ∷ x) [] u v e = absurd (omega arith)
same_parts (i ∷ x) (j ∷ y) u v e = ap (λ (t : Bool). eqb i j && t) (same_parts x y u v (suc_inj e)) ∙ sym (and_assoc (eqb i j) (same_bytes x y) (same_bytes u v))

pub same_after : (x u v : List ℕ) → same_bytes (x ++ u) (x ++ v) ≡ same_bytes u v
same_after [] u v = refl
same_after (i ∷ x) u v = ap (λ (t : Bool). t && same_bytes (x ++ u) (x ++ v)) (eq-eqb i i refl) ∙ same_after x u v

-- ---- the path, then the rest
tests : (v a g z : Bool) (f : Address → Record) (q : Address)
    → pick ((v && g) && (a && z)) (some (f q)) none ≡ and_then (pick (v && a) (some q) none) (λ p. pick (g && z) (some (f p)) none)
tests false a g z f q = refl
tests true true g z f q = refl
tests true false true z f q = refl
tests true false false z f q = refl

module _ (k : ℕ) (s t rest : List ℕ) (g : Bool) (f : Address → Record) (full : length s ≡ 7) where
  pub framed : pick ((valid (take (get_or s 0 0) (drop 1 s)) && g) && same_bytes (k ∷ (step_bytes (take (get_or s 0 0) (drop 1 s)) ++ rest)) (k ∷ (s ++ t))) (some (f (take (get_or s 0 0) (drop 1 s)))) none
      ≡ and_then (read_steps s) (λ p. pick (g && same_bytes rest t) (some (f p)) none)
  framed = go (take (get_or s 0 0) (drop 1 s)) (test (valid (take (get_or s 0 0) (drop 1 s))))
    where
      go : (q : Address) → Test (valid q)
          → pick ((valid q && g) && same_bytes (k ∷ (step_bytes q ++ rest)) (k ∷ (s ++ t))) (some (f q)) none
          ≡ and_then (pick (valid q && same_bytes (step_bytes q) s) (some q) none) (λ p. pick (g && same_bytes rest t) (some (f p)) none)
      go q (holds v) =
          let e : length (step_bytes q) ≡ length s = ap suc (slots_length q (valid_short q v)) ∙ sym full in
          ap (λ (b : Bool). pick ((valid q && g) && b) (some (f q)) none) (same_after (k ∷ []) (step_bytes q ++ rest) (s ++ t) ∙ same_parts (step_bytes q) s rest t e)
          ∙ tests (valid q) (same_bytes (step_bytes q) s) g (same_bytes rest t) f q
      go q (fails n) =
          let e = is_false (valid q) n in
          ap (λ (b : Bool). pick ((b && g) && same_bytes (k ∷ (step_bytes q ++ rest)) (k ∷ (s ++ t))) (some (f q)) none) e
          ∙ ap (λ (b : Bool). and_then (pick (b && same_bytes (step_bytes q) s) (some q) none) (λ p. pick (g && same_bytes rest t) (some (f p)) none)) (sym e)
