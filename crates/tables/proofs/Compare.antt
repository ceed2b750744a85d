-- Laws of the order of rows: the first part that differs decides, keys stand for paths, times compare as two's complement numbers. Assumes nothing.
use mathlib.Core.Path.{◌≡◌, refl, sym, ap, ap₂, subst, ◌∙◌}
use mathlib.Core.Bool.{Bool, true, false, ◌&&◌, ◌||◌}
use mathlib.Core.List.{List, [], ◌∷◌}
use Prim.Native.Nat.{ℕ, suc, ◌-◌, ◌^◌}
use native.Mathlib.Omega.{arith}
use lib.IntN.{ℤ, pos, negsuc}
use lib.Signed.{le_z, lt_z}
use lib.Dec.{T, eqb, ltb, leb-zero}
use borrow.Author.Tests.{ltb-true, ltb-false, lt-ltb, le-ltb, eq-eqb, ne_eqb, eqb-true, eqb-false}
use Rattle.std.specs.Prelude.{cond, Some, FitsSigned}
use Rattle.std.proofs.Common.{Option, Ordering, Less, Equal, Greater}
use Rattle.std.specs.Cmp.{Some-then}
use Rattle.std.specs.Int.{cast_unsigned, w64}
use Rattle.std.specs.Ordering.{ordering_then, is_gt, is_lt, is_some_and, nat_cmp, partial_ordering_then}
use Rattle.laws.specs.Order.{lex, lt_list}
use Rattle.path.specs.declared.Path.{Path}
use Rattle.path.specs.Address.{Address, same, before}
use Rattle.path.specs.View.{steps, PathSound, key_of}
use Rattle.path.proofs.Laws.{address_order, same_self}
use Rattle.path.proofs.Number.{key_before}
use Rattle.model.specs.Things.{Permission, lt_time, lt_permission}

-- ---- numbers
abbrev pub lexed : ℕ → ℕ → Bool → Bool
lexed j k c = lex (ltb j k) (ltb k j) c

pub lexed_or : (j k : ℕ) (c : Bool) → (ltb j k || (eqb j k && c)) ≡ lexed j k c
lexed_or j k c = go (ltb j k) refl (ltb k j) refl
  where
    go : (b : Bool) → ltb j k ≡ b → (d : Bool) → ltb k j ≡ d → (b || (eqb j k && c)) ≡ lex b d c
    go true e d f = refl
    go false e true f = let h = ltb-true k j f in rw (ne_eqb j k (λ x. omega arith))
    go false e false f = let h = ltb-false j k e in let g = ltb-false k j f in rw (eq-eqb j k (omega arith))

pub lexed_differ : (j k : ℕ) (c : Bool) → (j ≡ k → ⊥) → lexed j k c ≡ ltb j k
lexed_differ j k c n = go (ltb j k) refl (ltb k j) refl
  where
    go : (b : Bool) → ltb j k ≡ b → (d : Bool) → ltb k j ≡ d → lex b d c ≡ b
    go true e d f = refl
    go false e true f = refl
    go false e false f = let h = ltb-false j k e in let g = ltb-false k j f in absurd (n (omega arith))

pub lexed_same : (j k : ℕ) (c : Bool) → j ≡ k → lexed j k c ≡ c
lexed_same j k c e = rw (le-ltb j k (omega arith), le-ltb k j (omega arith))

lexed_last : (j k : ℕ) → lexed j k false ≡ ltb j k
lexed_last j k = go (ltb j k) (ltb k j)
  where
    go : (b d : Bool) → lex b d false ≡ b
    go true d = refl
    go false true = refl
    go false false = refl

-- lists of numbers, the one less, the other less, or c
abbrev listed : List ℕ → List ℕ → Bool → Bool
listed k l c = lex (lt_list ltb k l) (lt_list ltb l k) c

listed_differ : (x y : ℕ) (k l : List ℕ) (c : Bool) → (x ≡ y → ⊥) → listed (x ∷ k) (y ∷ l) c ≡ ltb x y
listed_differ x y k l c n =
    ap₂ (λ a b. lex a b c) (lexed_differ x y (lt_list ltb k l) n) (lexed_differ y x (lt_list ltb l k) (λ e. n (sym e))) ∙ lexed_differ x y c n

listed_same : (x y : ℕ) (k l : List ℕ) (c : Bool) → x ≡ y → listed (x ∷ k) (y ∷ l) c ≡ listed k l c
listed_same x y k l c e = ap₂ (λ a b. lex a b c) (lexed_same x y (lt_list ltb k l) e) (lexed_same y x (lt_list ltb l k) (sym e))

-- two pairs of numbers, as the library compares them
abbrev pub pair_lt : ℕ × ℕ → ℕ × ℕ → Bool
pair_lt x y = is_some_and is_lt (partial_ordering_then (Some (nat_cmp x.0 y.0)) (Some (nat_cmp x.1 y.1)))

nat_lt_is : (m n : ℕ) → is_lt (nat_cmp m n) ≡ ltb m n
nat_lt_is m n = go (ltb m n) (eqb m n)
  where
    go : (b e : Bool) → is_lt (cond b Less (cond e Equal Greater)) ≡ b
    go true e = refl
    go false true = refl
    go false false = refl

pub lexed_pair : (j k m n : ℕ) → pair_lt (j, m) (k, n) ≡ lexed j k (ltb m n)
lexed_pair j k m n = go (ltb j k) refl (eqb j k) refl (ltb k j) refl
  where
    go : (b : Bool) → ltb j k ≡ b → (e : Bool) → eqb j k ≡ e → (d : Bool) → ltb k j ≡ d
        → is_some_and is_lt (partial_ordering_then (Some (cond b Less (cond e Equal Greater))) (Some (nat_cmp m n))) ≡ lex b d (ltb m n)
    go true p e q d r = refl
    go false p true q true r = let h = ltb-true k j r in let g = eqb-true j k q in absurd (omega arith)
    go false p true q false r = nat_lt_is m n
    go false p false q true r = refl
    go false p false q false r = let h = ltb-false j k p in let g = ltb-false k j r in absurd (eqb-false j k q (omega arith))

pub and_turned : (a b : Bool) → (a && b) ≡ (b && a)
and_turned true true = refl
and_turned true false = refl
and_turned false true = refl
and_turned false false = refl

-- ---- paths, by their keys
pub keyed : (p q : Path) → PathSound p → PathSound q → (j k : ℕ) → j ≡ key_of p → k ≡ key_of q
    → (c : Bool) → lexed j k c ≡ lex (before (steps p) (steps q)) (before (steps q) (steps p)) c
keyed p q hp hq j k e f c = ap₂ (λ a b. lex a b c) (ap₂ ltb e f ∙ key_before p q hp hq) (ap₂ ltb f e ∙ key_before q p hq hp)

-- two rows that differ in path or name: what follows the name does not matter
pub apart : (p q : Address) (n m : ℕ) → (T (same p q && eqb n m) → ⊥) → (c : Bool)
    → lex (before p q) (before q p) (ltb n m) ≡ lex (before p q) (before q p) (lexed n m c)
apart p q n m h c = go (before p q) refl (before q p) refl
  where
    go : (b : Bool) → before p q ≡ b → (d : Bool) → before q p ≡ d → lex b d (ltb n m) ≡ lex b d (lexed n m c)
    go true e d f = refl
    go false e true f = refl
    go false e false f =
        let s = address_order.conn p q (rw e tt) (rw f tt) in
        let t : same p q ≡ true = subst (λ r. same p r ≡ true) s (same_self p) in
        sym (lexed_differ n m c (λ x. h (rw (t, eq-eqb n m x) tt)))

-- ---- what the library's comparison of tuples says, part by part
pub record Ranks (p : Option Ordering) (l g : Bool) : Type 0 where
  pub order : Ordering
  pub is : p ≡ Some order
  pub less : is_lt order ≡ l
  pub more : is_gt order ≡ g

pub ranks_number : (j k : ℕ) → Ranks (Some (nat_cmp j k)) (ltb j k) (ltb k j)
ranks_number j k = record { order = nat_cmp j k; is = refl; less = nat_lt_is j k; more = go (ltb j k) refl (eqb j k) refl (ltb k j) refl }
  where
    go : (b : Bool) → ltb j k ≡ b → (e : Bool) → eqb j k ≡ e → (d : Bool) → ltb k j ≡ d → is_gt (cond b Less (cond e Equal Greater)) ≡ d
    go true p e q true r = let h = ltb-true j k p in let g = ltb-true k j r in absurd (omega arith)
    go true p e q false r = refl
    go false p true q true r = let h = ltb-true k j r in let g = eqb-true j k q in absurd (omega arith)
    go false p true q false r = refl
    go false p false q true r = refl
    go false p false q false r = let h = ltb-false j k p in let g = ltb-false k j r in absurd (eqb-false j k q (omega arith))

less_then : (a b : Ordering) → is_lt (ordering_then a b) ≡ lex (is_lt a) (is_gt a) (is_lt b)
less_then Less b = refl
less_then Equal b = refl
less_then Greater b = refl

more_then : (a b : Ordering) → is_gt (ordering_then a b) ≡ lex (is_gt a) (is_lt a) (is_gt b)
more_then Less b = refl
more_then Equal b = refl
more_then Greater b = refl

pub ranks_then : {p q : Option Ordering} {l g m h : Bool} → Ranks p l g → Ranks q m h → Ranks (partial_ordering_then p q) (lex l g m) (lex g l h)
ranks_then r s =
    record {
      order = ordering_then r.order s.order;
      is = ap₂ partial_ordering_then r.is s.is ∙ Some-then r.order s.order;
      less = less_then r.order s.order ∙ (λ i. lex (r.less i) (r.more i) (s.less i));
      more = more_then r.order s.order ∙ (λ i. lex (r.more i) (r.less i) (s.more i));
    }

pub ranks_as : {p : Option Ordering} {l g m h : Bool} → l ≡ m → g ≡ h → Ranks p l g → Ranks p m h
ranks_as e f r = record { order = r.order; is = r.is; less = r.less ∙ e; more = r.more ∙ f }

pub ranks_less : {p : Option Ordering} {l g : Bool} → Ranks p l g → is_some_and is_lt p ≡ l
ranks_less r = ap (is_some_and is_lt) r.is ∙ r.less

pub lex_turned : (a b c d e : Bool) → lex (lex a b c) (lex b a d) e ≡ lex a b (lex c d e)
lex_turned true b c d e = go b
  where
    go : (b : Bool) → lex true (lex b true d) e ≡ true
    go true = refl
    go false = refl
lex_turned false true c d e = refl
lex_turned false false c d e = refl

pub lex_last : (a b : Bool) → lex a b false ≡ a
lex_last true b = refl
lex_last false true = refl
lex_last false false = refl

-- three parts and four, of which the first that differs decides
module _ {p q r : Option Ordering} {a a' b b' c c' : Bool} (x : Ranks p a a') (y : Ranks q b b') (z : Ranks r c c') where
  pub ranks_three : Ranks (partial_ordering_then (partial_ordering_then p q) r) (lex a a' (lex b b' c)) (lex a' a (lex b' b c'))
  ranks_three = ranks_as (lex_turned a a' b b' c) (lex_turned a' a b' b c') (ranks_then (ranks_then x y) z)

  pub ranks_four : {s : Option Ordering} {d d' : Bool} → Ranks s d d' → Ranks (partial_ordering_then (partial_ordering_then (partial_ordering_then p q) r) s) (lex a a' (lex b b' (lex c c' d))) (lex a' a (lex b' b (lex c' c d')))
  ranks_four {d = d} {d' = d'} w =
      ranks_as (lex_turned a a' (lex b b' c) (lex b' b c') d ∙ ap (lex a a') (lex_turned b b' c c' d)) (lex_turned a' a (lex b' b c') (lex b b' c) d' ∙ ap (lex a' a) (lex_turned b' b c' c d'))
      (ranks_then ranks_three w)

-- ---- times
pub time_test : (x y : ℤ) → ((le_z (pos 0) x && lt_z y (pos 0)) || ((le_z (pos 0) x || lt_z y (pos 0)) && lt_z x y)) ≡ lt_time x y
time_test (pos a) (pos b) = rw (leb-zero a, le-ltb b 0 (omega arith))
time_test (pos a) (negsuc b) = rw (leb-zero a)
time_test (negsuc a) (pos b) = rw (le-ltb b 0 (omega arith))
time_test (negsuc a) (negsuc b) = refl

-- a time's bits, read as a number
pub ranks_time : (x y : ℤ) → FitsSigned w64 x → FitsSigned w64 y → Ranks (Some (nat_cmp (cast_unsigned w64 x) (cast_unsigned w64 y))) (lt_time x y) (lt_time y x)
ranks_time x y f g = ranks_as (go x y f g) (go y x g f) (ranks_number (cast_unsigned w64 x) (cast_unsigned w64 y))
  where
    go : (x y : ℤ) → FitsSigned w64 x → FitsSigned w64 y → ltb (cast_unsigned w64 x) (cast_unsigned w64 y) ≡ lt_time x y
    go (pos a) (pos b) f g = refl
    go (pos a) (negsuc b) f g = let u = f.sfits in let v = g.sfits in lt-ltb a (2 ^ 64 - suc b) (omega arith)
    go (negsuc a) (pos b) f g = let u = f.sfits in let v = g.sfits in le-ltb (2 ^ 64 - suc a) b (omega arith)
    go (negsuc a) (negsuc b) f g = turn (ltb b a) refl
      where
        turn : (c : Bool) → ltb b a ≡ c → ltb (2 ^ 64 - suc a) (2 ^ 64 - suc b) ≡ c
        turn true e = let u = f.sfits in let v = g.sfits in let h = ltb-true b a e in lt-ltb (2 ^ 64 - suc a) (2 ^ 64 - suc b) (omega arith)
        turn false e = let h = ltb-false b a e in le-ltb (2 ^ 64 - suc a) (2 ^ 64 - suc b) (omega arith)

-- ---- permissions: role, action, user, the two times, then the sets
abbrev pub Rank : Type 0
Rank = (ℕ × ℕ × ℕ) × ℕ × ℕ × (ℕ × ℕ)

abbrev pub rank_of : Permission → Rank
rank_of g = ((g.role, g.action, g.user), cast_unsigned w64 g.first, cast_unsigned w64 g.last, (g.messages, g.agreements))

abbrev pub compare : ℕ → ℕ → Option Ordering
compare j k = Some (nat_cmp j k)

abbrev pub compare_rank : Rank → Rank → Option Ordering
compare_rank x y =
    partial_ordering_then
    (partial_ordering_then
    (partial_ordering_then
    (partial_ordering_then (partial_ordering_then (compare x.0.0 y.0.0) (compare x.0.1 y.0.1)) (compare x.0.2 y.0.2))
    (compare x.1 y.1))
    (compare x.2 y.2))
    (partial_ordering_then (compare x.3.0 y.3.0) (compare x.3.1 y.3.1))

-- the last of a list of numbers
ranks_end : (j k : ℕ) → Ranks (compare j k) (lexed j k false) (lexed k j false)
ranks_end j k = ranks_as (sym (lexed_last j k)) (sym (lexed_last k j)) (ranks_number j k)

pub ranks_grant : (g h : Permission) → FitsSigned w64 g.first × FitsSigned w64 g.last → FitsSigned w64 h.first × FitsSigned w64 h.last
    → Ranks (compare_rank (rank_of g) (rank_of h)) (lt_permission g h) (lt_permission h g)
ranks_grant g h f e =
    ranks_four (ranks_three (ranks_number g.role h.role) (ranks_number g.action h.action) (ranks_end g.user h.user))
    (ranks_time g.first h.first f.0 e.0) (ranks_time g.last h.last f.1 e.1) (ranks_then (ranks_number g.messages h.messages) (ranks_end g.agreements h.agreements))

-- the first part that differs decides
module _ (g h : Permission) where
  abbrev pub sets : Bool
  sets = lt_list ltb (g.messages ∷ g.agreements ∷ []) (h.messages ∷ h.agreements ∷ [])

  abbrev pub lasts : Bool
  lasts = lex (lt_time g.last h.last) (lt_time h.last g.last) sets

  abbrev pub times : Bool
  times = lex (lt_time g.first h.first) (lt_time h.first g.first) lasts

  pub by_role : (g.role ≡ h.role → ⊥) → lt_permission g h ≡ ltb g.role h.role
  by_role n = listed_differ g.role h.role (g.action ∷ g.user ∷ []) (h.action ∷ h.user ∷ []) times n

  module _ (r : g.role ≡ h.role) where
    roles : lt_permission g h ≡ listed (g.action ∷ g.user ∷ []) (h.action ∷ h.user ∷ []) times
    roles = listed_same g.role h.role (g.action ∷ g.user ∷ []) (h.action ∷ h.user ∷ []) times r

    pub by_action : (g.action ≡ h.action → ⊥) → lt_permission g h ≡ ltb g.action h.action
    by_action n = roles ∙ listed_differ g.action h.action (g.user ∷ []) (h.user ∷ []) times n

    module _ (a : g.action ≡ h.action) where
      actions : lt_permission g h ≡ listed (g.user ∷ []) (h.user ∷ []) times
      actions = roles ∙ listed_same g.action h.action (g.user ∷ []) (h.user ∷ []) times a

      pub by_user : (g.user ≡ h.user → ⊥) → lt_permission g h ≡ ltb g.user h.user
      by_user n = actions ∙ listed_differ g.user h.user [] [] times n

      pub by_times : g.user ≡ h.user → lt_permission g h ≡ times
      by_times u = actions ∙ listed_same g.user h.user [] [] times u

  pub by_sets : (ltb g.messages h.messages || (eqb g.messages h.messages && ltb g.agreements h.agreements)) ≡ sets
  by_sets = lexed_or g.messages h.messages (ltb g.agreements h.agreements) ∙ ap (lexed g.messages h.messages) (sym (lexed_last g.agreements h.agreements))
