-- Rows whose paths moved: they are still in order, and as many; rows of different paths compare as the paths do. Assumes nothing.
use mathlib.Core.Path.{◌≡◌, refl, sym, ap, subst₂, ◌∙◌}
use mathlib.Core.Logic.{◌⊎◌, inl, inr}
use mathlib.Core.Bool.{Bool, true, false, not}
use mathlib.Core.Option.{Option, some, some-injective}
use mathlib.Core.List.{List, [], ◌∷◌}
use Prim.Native.Nat.{suc}
use lib.Dec.{T}
use lib.ListN.{length}
use Rattle.laws.specs.Order.{lex, lt_pair}
use Rattle.laws.specs.Sorted.{◌∈◌, StrictOrder, Sorted, Monotone}
use Rattle.laws.proofs.Order.{lex2_cases, lex2_left, lex2_right}
use Rattle.laws.proofs.Sorted.{move_back, move_sorted}
use Rattle.path.specs.Address.{Address, before}
use Rattle.path.proofs.Laws.{address_order}
use Rattle.path.proofs.Moves.{map_some}
use Rattle.model.specs.Things.{Row}
use Rattle.model.specs.Moves.{carry, carried}

-- ---- rows, in the order of their paths and then of what stands there
module _ {P : Type 0} (lt_p : P → P → Bool) (oP : StrictOrder lt_p) where
  carry_mono : (f : Address → Option Address) → Monotone before before f → Monotone (lt_pair before lt_p) (lt_pair before lt_p) (carry f)
  unfolding Monotone
  carry_mono f m a a' b b' e e' t =
      let w = map_some (λ (p : Address). (p, a.1)) (f a.0) b e in
      let w' = map_some (λ (p : Address). (p, a'.1)) (f a'.0) b' e' in
      subst₂ (λ (u v : Row P). T (lt_pair before lt_p u v)) w.2 w'.2
      (go w.0 w'.0 w.1 w'.1 (lex2_cases before address_order a.0 a'.0 (lt_p a.1 a'.1) t))
    where
      go : (p p' : Address) → f a.0 ≡ some p → f a'.0 ≡ some p' → T (before a.0 a'.0) ⊎ ((a.0 ≡ a'.0) × T (lt_p a.1 a'.1))
          → T (lt_pair before lt_p (p, a.1) (p', a'.1))
      go p p' d d' (inl h) = lex2_left before address_order p p' (lt_p a.1 a'.1) (m a.0 a'.0 p p' d d' h)
      go p p' d d' (inr h) = lex2_right before address_order p p' (lt_p a.1 a'.1) (some-injective p p' (sym d ∙ ap f h.0 ∙ d')) h.1

  -- a moved table is in order
  pub carried_sorted : (f : Address → Option Address) → Monotone before before f → {l : List (Row P)} → Sorted (lt_pair before lt_p) l → Sorted (lt_pair before lt_p) (carried f l)
  carried_sorted f m s = move_sorted (lt_pair before lt_p) (lt_pair before lt_p) (carry f) (carry_mono f m) s

  -- rows of different paths compare as the paths do
  pub row_lt : (x y : Row P) → (x.0 ≡ y.0 → ⊥) → lt_pair before lt_p x y ≡ before x.0 y.0
  row_lt x y n = go (before x.0 y.0) (before y.0 x.0) (address_order.conn x.0 y.0)
    where
      go : (b c : Bool) → (T (not b) → T (not c) → x.0 ≡ y.0) → lex b c (lt_p x.1 y.1) ≡ b
      go true c f = refl
      go false true f = refl
      go false false f = absurd (n (f tt tt))

-- the path of a row that was moved by a function of paths
pub carried_path : {P : Type 0} (f : Address → Address) (z : Row P) (l : List (Row P)) → z ∈ carried (λ p. some (f p)) l → (p : Address) × (z.0 ≡ f p)
carried_path f z l h = let w = move_back (carry (λ p. some (f p))) z l h in
    (w.0.0, ap (λ r. r.0) (sym (some-injective (f w.0.0, w.0.1) z w.2)))

pub moved_length : {P : Type 0} (f : Address → Address) (l : List (Row P)) → length (carried (λ p. some (f p)) l) ≡ length l
moved_length f [] = refl
moved_length f (x ∷ l) = ap suc (moved_length f l)
