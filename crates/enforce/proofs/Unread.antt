-- What there is to paste plays no part in the refusal of a request that pastes nothing. Assumes nothing.
use mathlib.Core.Path.{◌≡◌, refl, sym, ap, subst, ◌∙◌}
use mathlib.Core.Bool.{Bool, true, false, ◌||◌, not}
use mathlib.Core.Option.{Option}
use mathlib.Core.List.{◌∷◌, ◌++◌}
use Prim.Native.Nat.{ℕ}
use lib.Dec.{T, eqb}
use Rattle.laws.specs.Slots.{pick}
use Rattle.model.specs.Refusals.{Request, Found, Cached, Standing, Totals, bad_operand, at_root, absent, taken, wrong_clipboard, missing, granted, uncovered, clashing, with_branch, with_rows, none_added, totals, shelves, provisions, provided, first_that, refusal}
use Rattle.enforce.specs.Requests.{pasting}

-- none of three
none_of : (a b c : Bool) → (T (a || (b || (c || false))) → ⊥) → (a ≡ false) × ((b ≡ false) × (c ≡ false))
none_of true b c n = absurd (n tt)
none_of false true c n = absurd (n tt)
none_of false false true n = absurd (n tt)
none_of false false false n = (refl, (refl, refl))

-- the table, with the two rows that look at it
unfoldable table : Request → Found → Standing → Bool → Totals → Option ℕ
table r f s wrong t =
    first_that
    ((1, bad_operand r)
    ∷ (2, at_root r)
    ∷ (3, absent r f)
    ∷ (4, taken r f)
    ∷ (5, wrong)
    ∷ (6, missing (granted r f))
    ∷ (7, uncovered r f)
    ∷ (8, clashing r f)
    ∷ (shelves t ++ provided (provisions (granted r f)) s))

module _ (r : Request) (f : Found) (s : Standing) (c k : Cached) where
  abbrev n : ℕ
  n = r.number

  -- what is left of the sums
  abbrev rest : Totals
  rest = pick (eqb n 3 || false) (with_branch (record { nodes = 1; attributes = 0; permissions = 0 }) 0 r f) (pick (eqb n 8 || false) (with_rows 1 0 f) (pick (eqb n 14 || (eqb n 16 || false)) (with_rows 0 1 f) none_added))

  unread : (eqb n 7 ≡ false) × ((eqb n 13 ≡ false) × (eqb n 17 ≡ false)) → refusal r f c s ≡ refusal r f k s
  unfolding table
  unread e = λ i. table r f s (wrong i) (room i)
    where
      kinds : (x : Cached) → wrong_clipboard r x ≡ false
      kinds x = λ i. pick (e.0 i || false) (not x.branch) (pick (e.1.0 i || false) (not x.attribute) false)

      wrong : wrong_clipboard r c ≡ wrong_clipboard r k
      wrong = kinds c ∙ sym (kinds k)

      sums : (x : Cached) → totals r f x ≡ rest
      sums x = λ i. pick (eqb n 3 || false) (with_branch (record { nodes = 1; attributes = 0; permissions = 0 }) 0 r f)
          (pick (e.0 i || (e.1.1 i || false)) (with_branch x.sizes x.height r f) (pick (eqb n 8 || false) (with_rows 1 0 f)
          (pick (e.1.0 i || false) (with_rows 1 x.sizes.permissions f) (pick (eqb n 14 || (eqb n 16 || false)) (with_rows 0 1 f) none_added))))

      room : totals r f c ≡ totals r f k
      room = sums c ∙ sym (sums k)

  pub refusal_same : (T (pasting n) → c ≡ k) → refusal r f c s ≡ refusal r f k s
  refusal_same h = go (pasting n) refl
    where
      go : (b : Bool) → pasting n ≡ b → refusal r f c s ≡ refusal r f k s
      go true e = ap (λ (x : Cached). refusal r f x s) (h (subst T (sym e) tt))
      go false e = unread (none_of (eqb n 7) (eqb n 13) (eqb n 17) (subst T e))
