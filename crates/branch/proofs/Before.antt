-- How many records stand before the first permission, record by record: its first byte tells a permission. Assumes nothing.
use mathlib.Core.Path.{◌≡◌, ap, ap₂, ◌∙◌}
use mathlib.Core.Bool.{Bool, true, false}
use mathlib.Core.List.{List, [], ◌∷◌}
use Prim.Native.Nat.{ℕ, suc, ◌+◌, ◌-◌, ◌*◌, ◌≤◌, ◌<◌}
use native.Mathlib.Nat.{add-zero}
use native.Mathlib.Omega.{arith}
use lib.Dec.{eqb}
use lib.ListN.{length, take, drop, get_or}
use lib.Seq.{get_or-take, get_or-drop, drop-drop}
use borrow.Author.Tests.{eq-eqb, ne_eqb}
use Rattle.laws.specs.Slots.{pick}
use Rattle.model.specs.Image.{records, before_permissions}

-- none of the first k of n records is a permission
abbrev pub Before : List ℕ → ℕ → ℕ → Type 0
Before b n k = before_permissions (records n b) ≡ k + before_permissions (records (n - k) (drop (k * 40) b))

pub before_none : (b : List ℕ) (n : ℕ) → Before b n 0
before_none b n =
    let e : n ≡ n - 0 = omega arith in
    let z : before_permissions (records (n - 0) b) ≡ 0 + before_permissions (records (n - 0) b) = omega arith in
    ap (λ (m : ℕ). before_permissions (records m b)) e ∙ z

-- no more of them stand before it than there are
pub before_few : (l : List (List ℕ)) → before_permissions l ≤ length l
before_few [] = omega arith
before_few (b ∷ l) = go (eqb (get_or b 0 0) 3) (before_few l)
  where
    go : (t : Bool) → before_permissions l ≤ length l → pick t 0 (suc (before_permissions l)) ≤ suc (length l)
    go true h = omega arith
    go false h = omega arith

module _ (b : List ℕ) (n k : ℕ) (e : Before b n k) where
  -- the next record is the first of those that are left, and its first byte the image's at k * 40
  module _ (h : k < n) where
    next : (t : Bool) → eqb (get_or b (k * 40) 0) 3 ≡ t
        → before_permissions (records n b) ≡ k + pick t 0 (suc (before_permissions (records (n - (k + 1)) (drop ((k + 1) * 40) b))))
    next t q =
        let m : n - k ≡ suc (n - (k + 1)) = omega arith in
        let s : k * 40 + 40 ≡ (k + 1) * 40 = omega arith in
        let first : get_or (take 40 (drop (k * 40) b)) 0 0 ≡ get_or b (k * 40) 0 =
        get_or-take 40 (drop (k * 40) b) 0 0 (omega arith) ∙ get_or-drop (k * 40) b 0 0 ∙ ap (λ (i : ℕ). get_or b i 0) (add-zero (k * 40)) in
        let rest : drop 40 (drop (k * 40) b) ≡ drop ((k + 1) * 40) b = drop-drop 40 (k * 40) b ∙ ap (λ (i : ℕ). drop i b) s in
        e ∙ ap (λ (j : ℕ). k + before_permissions (records j (drop (k * 40) b))) m
        ∙ ap₂ (λ (c : Bool) (r : List ℕ). k + pick c 0 (suc (before_permissions (records (n - (k + 1)) r)))) (ap (λ (x : ℕ). eqb x 3) first ∙ q) rest

    -- it is a permission
    pub before_stop : get_or b (k * 40) 0 ≡ 3 → before_permissions (records n b) ≡ k
    before_stop p = next true (eq-eqb (get_or b (k * 40) 0) 3 p) ∙ add-zero k

    -- it is not
    pub before_more : (get_or b (k * 40) 0 ≡ 3 → ⊥) → Before b n (k + 1)
    before_more p = next false (ne_eqb (get_or b (k * 40) 0) 3 p) ∙ omega arith

  -- no record is left
  pub before_all : n ≤ k → before_permissions (records n b) ≡ k
  before_all h =
      let z : n - k ≡ 0 = omega arith in
      e ∙ ap (λ (j : ℕ). k + before_permissions (records j (drop (k * 40) b))) z ∙ add-zero k
