-- A value changed in place is the attribute deleted and inserted anew, where a node has one attribute for a name. Assumes nothing.
use mathlib.Core.Path.{◌≡◌, refl, sym, ap, ap₂, subst, subst₂, ◌∙◌}
use mathlib.Core.Logic.{◌⊎◌, inl, inr, ⊎_elim}
use mathlib.Core.Bool.{Bool, true, false, ◌&&◌, not}
use mathlib.Core.Option.{Option, none, some, none-ne-some, some-injective}
use mathlib.Core.List.Memᴰ
use mathlib.Core.List.{List, [], ◌∷◌, map}
use Prim.Native.Nat.{ℕ}
use lib.Dec.{T, ltb, eqb, eqb→eq, eqb_refl}
use lib.ListN.{drop}
use mir.Facts.{yes_and}
use Rattle.laws.specs.Slots.{pick}
use Rattle.laws.specs.Order.{lt_list}
use Rattle.laws.specs.Sorted.{◌∈◌, Sorted, Monotone, insert, move}
use Rattle.laws.proofs.Order.{nat_order, lex2_cases, lex2_left, lex2_right}
use Rattle.laws.proofs.Sorted.{insert_old, insert_new, insert_back, insert_sorted, move_in, move_back, move_sorted}
use Rattle.laws.proofs.Sorted as sorted
use Rattle.laws.proofs.Last.{in_drop, in_rest, sorted_drop, sorted_head}
use Rattle.path.specs.Address.{Address, before, same}
use Rattle.path.proofs.Structs.{both}
use Rattle.path.proofs.Moves.{is_true}
use Rattle.path.proofs.Laws.{address_order, same_eq, same_refl}
use Rattle.model.specs.Things.{Value, Attribute, Row, code_value, lt_attribute, before_attribute}
use Rattle.model.specs.Moves.{keep, at, called, head, attribute_in, other_attribute, changed_row, changed_in}
use Rattle.roundtrip.proofs.Checks.{let_in}
use Rattle.roundtrip.proofs.Orders.{attributes_order}
use Rattle.roundtrip.proofs.Prefix.{map_sorted_on}
use Rattle.roundtrip.proofs.Found.{at_back}
use Rattle.moves.specs.Room.{OneAttribute}
use Rattle.attributes.proofs.Fresh.{not_taken}

abbrev pub is_at : Address → ℕ → Row Attribute → Bool
is_at p n r = same r.0 p && eqb r.1.name n

abbrev pub revalue : Address → ℕ → Value → Row Attribute → Row Attribute
revalue p n v r = (r.0, record { name = r.1.name; owner = r.1.owner; value = pick (is_at p n r) v r.1.value })

-- ---- what is found
head_in : {A : Type 0} (l : List A) (a : A) → head l ≡ some a → a ∈ l
head_in [] a e = absurd (none-ne-some a e)
head_in (x ∷ l) a e = Memᴰ.head (sym (some-injective x a e))

pub attribute_found : (p : Address) (n : ℕ) (a : Attribute) (l : List (Row Attribute)) → attribute_in p n l ≡ some a → ((p, a) ∈ l) × (a.name ≡ n)
attribute_found p n a l e =
    let u = move_back (called n) a (move (at p) l) (head_in (move (called n) (move (at p) l)) a e) in
    let v = let_in (eqb u.0.name n) u.0 a u.2 in
    (at_back p a l (Memᴰ.cast (sym v.1) u.1), ap (λ (b : Attribute). b.name) (sym v.1) ∙ eqb→eq u.0.name n v.0)

-- ---- the row itself, and any other row
module _ (p : Address) (n : ℕ) (v : Value) (r : Row Attribute) where
  pub value_stays : is_at p n r ≡ false → revalue p n v r ≡ r
  value_stays e = rw e

  pub value_new : is_at p n r ≡ true → revalue p n v r ≡ (r.0, record { name = r.1.name; owner = r.1.owner; value = v })
  value_new e = rw e

map_stays : {A : Type 0} (f : A → A) (l : List A) → ((r : A) → r ∈ l → f r ≡ r) → map f l ≡ l
map_stays f [] h = refl
map_stays {A} f (x ∷ l) h = ap₂ (λ (a : A) (m : List A). a ∷ m) (h x (Memᴰ.head refl)) (map_stays f l (λ r m. h r (Memᴰ.tail m)))

keep_mono : {A : Type 0} (lt : A → A → Bool) (test : A → Bool) → Monotone lt lt (keep test)
unfolding Monotone
keep_mono {A} lt test a a' b b' e e' t = subst₂ (λ (y z : A). T (lt y z)) (let_in (test a) a b e).1 (let_in (test a') a' b' e').1 t

module _ (p : Address) (v : Value) {l : List (Row Attribute)} (s : Sorted before_attribute l) (one : OneAttribute l) where
  -- rows of one path and name are one row
  pair_same : (r t : Row Attribute) → r ∈ l → t ∈ l → r.0 ≡ t.0 → r.1.name ≡ t.1.name → r ≡ t
  pair_same r t h g e f =
      ap₂ {C = Row Attribute} (λ (q : Address) (b : Attribute). (q, b)) e
      (one t.0 r.1 t.1 (Memᴰ.cast (ap₂ {C = Row Attribute} (λ (q : Address) (b : Attribute). (q, b)) (sym e) refl) h) g f)

  order_stays : (n : ℕ) (r t : Row Attribute) → r ∈ l → t ∈ l → T (before_attribute r t) → T (before_attribute (revalue p n v r) (revalue p n v t))
  order_stays n r t h g b =
      go (lex2_cases before address_order r.0 t.0 (lt_attribute r.1 t.1) b)
    where
      inner : r.0 ≡ t.0 → T (ltb r.1.name t.1.name) ⊎ ((r.1.name ≡ t.1.name) × T (lt_list ltb (r.1.owner ∷ code_value r.1.value) (t.1.owner ∷ code_value t.1.value)))
          → T (lt_attribute (revalue p n v r).1 (revalue p n v t).1)
      inner e (inl u) =
          lex2_left ltb nat_order r.1.name t.1.name
          (lt_list ltb (r.1.owner ∷ code_value (revalue p n v r).1.value) (t.1.owner ∷ code_value (revalue p n v t).1.value)) u
      inner e (inr u) = absurd (attributes_order.irr r (subst (λ (z : Row Attribute). T (before_attribute r z)) (sym (pair_same r t h g e u.0)) b))

      go : T (before r.0 t.0) ⊎ ((r.0 ≡ t.0) × T (lt_attribute r.1 t.1)) → T (before_attribute (revalue p n v r) (revalue p n v t))
      go (inl u) = lex2_left before address_order r.0 t.0 (lt_attribute (revalue p n v r).1 (revalue p n v t).1) u
      go (inr u) =
          lex2_right before address_order r.0 t.0 (lt_attribute (revalue p n v r).1 (revalue p n v t).1) u.0
          (inner u.0 (lex2_cases ltb nat_order r.1.name t.1.name (lt_list ltb (r.1.owner ∷ code_value r.1.value) (t.1.owner ∷ code_value t.1.value)) u.1))

  -- behind the row of that path and name there is no other
  pub others_stay : (n i : ℕ) (x : Row Attribute) (l' : List (Row Attribute)) → drop i l ≡ x ∷ l' → is_at p n x ≡ true → map (revalue p n v) l' ≡ l'
  others_stay n i x l' e t = map_stays (revalue p n v) l' (λ r m. stays r m (is_at p n r) refl)
    where
      stays : (r : Row Attribute) → r ∈ l' → (b : Bool) → is_at p n r ≡ b → revalue p n v r ≡ r
      stays r m false f = value_stays p n v r f
      stays r m true f =
          let w = both (same x.0 p) (eqb x.1.name n) (subst T (sym t) tt) in
          let u = both (same r.0 p) (eqb r.1.name n) (subst T (sym f) tt) in
          let q = pair_same x r (in_rest x i l e) (in_drop i l (subst (λ k. r ∈ k) (sym e) (Memᴰ.tail m)))
          (same_eq x.0 p w.0 ∙ sym (same_eq r.0 p u.0)) (eqb→eq x.1.name n w.1 ∙ sym (eqb→eq r.1.name n u.1)) in
          absurd (attributes_order.irr r (subst (λ (z : Row Attribute). T (before_attribute z r)) q (sorted_head before_attribute (subst (Sorted before_attribute) e (sorted_drop before_attribute i s)) r m)))

  module _ (a : Attribute) (here : (p, a) ∈ l) where
    abbrev new : Row Attribute
    new = (p, record { name = a.name; owner = a.owner; value = v })

    abbrev others : List (Row Attribute)
    others = move (keep (other_attribute p a.name)) l

    is_new : (r : Row Attribute) → r ∈ l → is_at p a.name r ≡ true → revalue p a.name v r ≡ new
    is_new r h e =
        let w = both (same r.0 p) (eqb r.1.name a.name) (subst T (sym e) tt) in
        let q : r ≡ (p, a) = pair_same r (p, a) h here (same_eq r.0 p w.0) (eqb→eq r.1.name a.name w.1) in
        value_new p a.name v r e ∙ ap (λ (z : Row Attribute). (z.0, record { name = z.1.name; owner = z.1.owner; value = v })) q

    to : (z : Row Attribute) → z ∈ map (revalue p a.name v) l → z ∈ insert before_attribute new others
    to z m = let w = Memᴰ.of_map (revalue p a.name v) l m in Memᴰ.cast (sym w.2) (go w.0 w.1 (is_at p a.name w.0) refl)
      where
        go : (r : Row Attribute) → r ∈ l → (b : Bool) → is_at p a.name r ≡ b → revalue p a.name v r ∈ insert before_attribute new others
        go r h true e = Memᴰ.cast (is_new r h e) (insert_new before_attribute attributes_order new others)
        go r h false e =
            Memᴰ.cast (value_stays p a.name v r e)
            (insert_old before_attribute attributes_order new r others (move_in (keep (other_attribute p a.name)) h (rw e)))

    from : (z : Row Attribute) → z ∈ insert before_attribute new others → z ∈ map (revalue p a.name v) l
    from z m = ⊎_elim first rest (insert_back before_attribute attributes_order new z others m)
      where
        first : z ≡ new → z ∈ map (revalue p a.name v) l
        first e =
            Memᴰ.cast
            (e ∙ sym (is_new (p, a) here (is_true (is_at p a.name (p, a)) (yes_and (same p p) (eqb a.name a.name) (same_refl p) (eqb_refl a.name)))))
            (Memᴰ.map (revalue p a.name v) here)

        stays : (r : Row Attribute) (b : Bool) → is_at p a.name r ≡ b → T (not b) → revalue p a.name v r ≡ r
        stays r true e t = absurd t
        stays r false e t = value_stays p a.name v r e

        rest : z ∈ others → z ∈ map (revalue p a.name v) l
        rest h =
            let w = move_back (keep (other_attribute p a.name)) z l h in
            let u = let_in (other_attribute p a.name w.0) w.0 z w.2 in
            Memᴰ.cast (sym (stays w.0 (is_at p a.name w.0) refl u.0 ∙ u.1)) (Memᴰ.map (revalue p a.name v) w.1)

    found_is : map (revalue p a.name v) l ≡ insert before_attribute new others
    found_is =
        sorted.same before_attribute attributes_order (map_sorted_on (revalue p a.name v) (order_stays a.name) s)
        (insert_sorted before_attribute attributes_order new (move_sorted before_attribute before_attribute (keep (other_attribute p a.name)) (keep_mono before_attribute (other_attribute p a.name)) s))
        (to, from)

  pub changed_is : (n : ℕ) → map (revalue p n v) l ≡ changed_in p n v l
  changed_is n = go (attribute_in p n l) refl
    where
      not_at : (r : Row Attribute) (b : Bool) → is_at p n r ≡ b → (T b → ⊥) → revalue p n v r ≡ r
      not_at r true e t = absurd (t tt)
      not_at r false e t = value_stays p n v r e

      go : (o : Option Attribute) → attribute_in p n l ≡ o → map (revalue p n v) l ≡ changed_row p v o l
      go none e =
          map_stays (revalue p n v) l
          (λ r h. not_at r (is_at p n r) refl
          (λ t. let w = both (same r.0 p) (eqb r.1.name n) t in not_taken p n r l e h (same_eq r.0 p w.0) (eqb→eq r.1.name n w.1)))
      go (some a) e =
          let w = attribute_found p n a l e in
          subst (λ m. map (revalue p m v) l ≡ changed_row p v (some a) l) w.1 (found_is a w.0)
