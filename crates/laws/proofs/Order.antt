-- Strict orders: of numbers, of pairs and lists compared part by part, and an order pulled back along an injection. Assumes nothing.
use mathlib.Core.Path.{◌≡◌, refl, sym, ap₂, subst, ◌∙◌}
use mathlib.Core.Logic.{◌⊎◌, inl, inr, ⊎_elim}
use mathlib.Core.Bool.{Bool, true, false, not}
use mathlib.Core.List.{List, [], ◌∷◌}
use Prim.Native.Nat.{◌≤◌, ◌<◌}
use native.Mathlib.Omega.{arith}
use lib.Dec.{T, ltb, ltb→lt, lt→ltb, nltb→le}
use Rattle.laws.specs.Sorted.{StrictOrder}
use Rattle.laws.specs.Order.{lex, lex2, lt_list, lt_pair}

pub nat_order : StrictOrder ltb
nat_order = record {
  irr = λ a t. let h : a < a = ltb→lt a a t in omega arith;
  trans = λ a b c s t. let h : a < b = ltb→lt a b s in let k : b < c = ltb→lt b c t in lt→ltb a c (omega arith);
  conn = λ a b s t. let h : b ≤ a = nltb→le a b s in let k : a ≤ b = nltb→le b a t in omega arith;
}

-- along an injection
pub pull : {A B : Type 0} (lt : B → B → Bool) (f : A → B) → ((a b : A) → f a ≡ f b → a ≡ b) → StrictOrder lt → StrictOrder (λ (a b : A). lt (f a) (f b))
pull lt f inj o = record {
  irr = λ a t. o.irr (f a) t;
  trans = λ a b c s t. o.trans (f a) (f b) (f c) s t;
  conn = λ a b s t. inj a b (o.conn (f a) (f b) s t);
}

module _ {A : Type 0} (lt : A → A → Bool) (o : StrictOrder lt) where
  lex_cases : (b b' c : Bool) (a a' : A) → (T (not b) → T (not b') → a ≡ a') → T (lex b b' c) → T b ⊎ ((a ≡ a') × T c)
  lex_cases true b' c a a' f t = inl tt
  lex_cases false true c a a' f t = absurd t
  lex_cases false false c a a' f t = inr (f tt tt, t)

  lex_left : (b b' c : Bool) → T b → T (lex b b' c)
  lex_left true b' c t = tt
  lex_left false b' c t = absurd t

  lex_right : (b b' c : Bool) → (T b' → ⊥) → T c → T (lex b b' c)
  lex_right true b' c n t = tt
  lex_right false true c n t = n tt
  lex_right false false c n t = t

  -- `lex2` means: less in the first, or equal there and c
  pub lex2_cases : (a a' : A) (c : Bool) → T (lex2 lt a a' c) → T (lt a a') ⊎ ((a ≡ a') × T c)
  lex2_cases a a' c t = lex_cases (lt a a') (lt a' a) c a a' (o.conn a a') t

  pub lex2_left : (a a' : A) (c : Bool) → T (lt a a') → T (lex2 lt a a' c)
  lex2_left a a' c t = lex_left (lt a a') (lt a' a) c t

  pub lex2_right : (a a' : A) (c : Bool) → a ≡ a' → T c → T (lex2 lt a a' c)
  lex2_right a a' c e t = lex_right (lt a a') (lt a' a) c (λ s. o.irr a (subst (λ (w : A). T (lt w a)) (sym e) s)) t

  lex_conn_eq : (b b' c : Bool) → T (not (lex b b' c)) → T (not b)
  lex_conn_eq true b' c t = t
  lex_conn_eq false b' c t = tt

  lex_conn_snd : (b b' c : Bool) → T (not b) → T (not b') → T (not (lex b b' c)) → T (not c)
  lex_conn_snd true b' c n n' t = absurd n
  lex_conn_snd false true c n n' t = absurd n'
  lex_conn_snd false false c n n' t = t

  pub lex2_conn : (a a' : A) (c c' : Bool) → T (not (lex2 lt a a' c)) → T (not (lex2 lt a' a c')) → (a ≡ a') × T (not c) × T (not c')
  lex2_conn a a' c c' s t =
      let n = lex_conn_eq (lt a a') (lt a' a) c s in
      let n' = lex_conn_eq (lt a' a) (lt a a') c' t in
      (o.conn a a' n n', lex_conn_snd (lt a a') (lt a' a) c n n' s, lex_conn_snd (lt a' a) (lt a a') c' n' n t)

  -- transitivity of the first part, where the rest is known to be transitive
  pub lex2_trans : (a b c : A) (x y z : Bool) → (T x → T y → T z) → T (lex2 lt a b x) → T (lex2 lt b c y) → T (lex2 lt a c z)
  lex2_trans a b c x y z f s t = go (lex2_cases a b x s) (lex2_cases b c y t)
    where
      go : T (lt a b) ⊎ ((a ≡ b) × T x) → T (lt b c) ⊎ ((b ≡ c) × T y) → T (lex2 lt a c z)
      go (inl h) (inl k) = lex2_left a c z (o.trans a b c h k)
      go (inl h) (inr k) = lex2_left a c z (subst (λ (w : A). T (lt a w)) k.0 h)
      go (inr h) (inl k) = lex2_left a c z (subst (λ (w : A). T (lt w c)) (sym h.0) k)
      go (inr h) (inr k) = lex2_right a c z (h.0 ∙ k.0) (f h.1 k.1)

  -- lists of any lengths, a prefix first
  list_irr : (l : List A) → T (lt_list lt l l) → ⊥
  list_irr [] t = t
  list_irr (x ∷ l) t = ⊎_elim (o.irr x) (λ w. list_irr l w.1) (lex2_cases x x (lt_list lt l l) t)

  list_trans : (k l m : List A) → T (lt_list lt k l) → T (lt_list lt l m) → T (lt_list lt k m)
  list_trans [] [] m s t = absurd s
  list_trans [] (y ∷ l) [] s t = t
  list_trans [] (y ∷ l) (z ∷ m) s t = tt
  list_trans (x ∷ k) [] m s t = absurd s
  list_trans (x ∷ k) (y ∷ l) [] s t = t
  list_trans (x ∷ k) (y ∷ l) (z ∷ m) s t = lex2_trans x y z (lt_list lt k l) (lt_list lt l m) (lt_list lt k m) (list_trans k l m) s t

  list_conn : (k l : List A) → T (not (lt_list lt k l)) → T (not (lt_list lt l k)) → k ≡ l
  list_conn [] [] s t = refl
  list_conn [] (y ∷ l) s t = absurd s
  list_conn (x ∷ k) [] s t = absurd t
  list_conn (x ∷ k) (y ∷ l) s t =
      let w = lex2_conn x y (lt_list lt k l) (lt_list lt l k) s t in ap₂ (λ (a : A) (r : List A). a ∷ r) w.0 (list_conn k l w.1 w.2)

  pub list_order : StrictOrder (lt_list lt)
  list_order = record { irr = list_irr; trans = list_trans; conn = list_conn }

-- pairs
module _ {A B : Type 0} (lt_a : A → A → Bool) (lt_b : B → B → Bool) where
  pub pair_order : StrictOrder lt_a → StrictOrder lt_b → StrictOrder (lt_pair lt_a lt_b)
  pair_order oA oB = record {
    irr = λ u t. ⊎_elim (oA.irr u.0) (λ w. oB.irr u.1 w.1) (lex2_cases lt_a oA u.0 u.0 (lt_b u.1 u.1) t);
    trans = λ u v w s t. lex2_trans lt_a oA u.0 v.0 w.0 (lt_b u.1 v.1) (lt_b v.1 w.1) (lt_b u.1 w.1) (oB.trans u.1 v.1 w.1) s t;
    conn = λ u v s t. let w = lex2_conn lt_a oA u.0 v.0 (lt_b u.1 v.1) (lt_b v.1 u.1) s t in
        ap₂ {C = A × B} (λ (a : A) (b : B). (a, b)) w.0 (oB.conn u.1 v.1 w.1 w.2);
  }
