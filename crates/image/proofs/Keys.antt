-- The columns of a table's rows: they are in the rows' order, and what is in them is in the rows. Assumes nothing.
use mathlib.Core.Path.{◌≡◌, refl, sym, ap, ap₂, subst, ◌∙◌}
use mathlib.Core.Logic.{◌⊎◌, inl, inr}
use mathlib.Core.Bool.{Bool, true, false, not, ◌&&◌, ◌||◌}
use mathlib.Core.List.Memᴰ
use mathlib.Core.List.{List, [], ◌∷◌, map}
use Prim.Native.Nat.{ℕ, ◌<◌}
use lib.Dec.{T, eqb, ltb, not_T, lt→ltb}
use lib.ListN.{length-map}
use borrow.Author.Tests.{eq-eqb, eqb-true}
use borrow.Table.Steps.{cases}
use Rattle.laws.specs.Slots.{All}
use Rattle.laws.specs.Sorted.{◌∈◌, Sorted, nil, cons}
use Rattle.laws.specs.Order.{lex}
use Rattle.laws.proofs.Search.{Keyed}
use Rattle.path.specs.declared.Path.{Path}
use Rattle.path.specs.Address.{Address, valid, same, before, parent}
use Rattle.path.specs.Packed.{number}
use Rattle.path.specs.View.{steps, path_of, PathSound, key_of}
use Rattle.path.proofs.Structs.{view_path, facts, no}
use Rattle.path.proofs.Moves.{is_true, is_false}
use Rattle.path.proofs.Laws.{same_self, same_eq}
use Rattle.path.proofs.Number.{key_before}
use Rattle.model.specs.Things.{Row, Attribute}
use Rattle.model.specs.Moves.{owner_in, attribute_in}
use Rattle.model.specs.Image.{node_fits, left, there}
use Rattle.tables.specs.View.{AtPath}
use Rattle.tables.specs.Places.{before_object, of_attribute}
use Rattle.tables.proofs.Asked.{attribute_hit, attribute_miss}
use Rattle.image.specs.Columns.{any_of, Rises, NoneAbove, among, before_pair, pair_among, keys_of, node_fits_among}
use Rattle.image.specs.Rows.{NoneAfter, node_fits_in}

-- ---- the number of an address: another address has another, and a later one a greater
number_same : (p q : Address) → eqb (number p) (number q) ≡ same p q
number_same p q =
    cases (same p q)
    (λ h. eq-eqb (number p) (number q) (ap number (same_eq p q (rw h tt))) ∙ sym h)
    (λ h. is_false (eqb (number p) (number q)) (λ t. no (sym (apart (eqb-true (number p) (number q) (is_true _ t))) ∙ h)) ∙ sym h)
  where
    apart : number p ≡ number q → same p q ≡ true
    apart e = ap (same p) (sym (sym (view_path p) ∙ ap (λ k. steps (record { key = k })) e ∙ view_path q)) ∙ same_self p

number_before : (p q : Address) → T (valid p) → T (valid q) → ltb (number p) (number q) ≡ before p q
number_before p q h g =
    key_before (path_of p) (path_of q) (record { model = p; same = refl; fits = h }) (record { model = q; same = refl; fits = g }) ∙ ap₂ before (view_path p) (view_path q)

pub number_key : (p : Path) → PathSound p → key_of p ≡ number (steps p)
number_key p h = ap key_of (facts p h).is

-- a row's number, the same with its name, and a column alone, with no count beside it
abbrev pub key_of_row : {P : Type 0} → Row P → ℕ
key_of_row r = number r.0

abbrev pub object_of : Row Attribute → ℕ × ℕ
object_of r = (number r.0, r.1.name)

abbrev pub alone : {A : Type 0} → List A → ℕ → List A
alone l n = l

-- ---- rows in order, of which num is a number in the order of the rows' keys
rises : {A K N : Type 0} {lt : A → A → Bool} {lt_k : K → K → Bool} {key : A → K} (o : Keyed lt lt_k key) (lt_n : N → N → Bool) (num : A → N) (P : A → Type 0)
    → ((x y : A) → P x → P y → lt_n (num x) (num y) ≡ lt_k (key x) (key y)) → (l : List A) → All P l → Sorted lt l → Rises lt_n (map num l)
rises o lt_n num P f [] a s = nil
rises {A} {K} {N} {lt} {lt_k} {key} o lt_n num P f (x ∷ l) a (cons h s) = cons (λ n m. go n l a.1 h m) (rises o lt_n num P f l a.1 s)
  where
    falls : (y : A) → T (lt x y) → T (lt_k (key y) (key x)) → ⊥
    falls y t u = back (o.rise x y t)
      where
        back : T (lt_k (key x) (key y)) ⊎ (key x ≡ key y) → ⊥
        back (inl v) = o.order.irr (key x) (o.order.trans (key x) (key y) (key x) v u)
        back (inr e) = o.order.irr (key x) (subst (λ k. T (lt_k k (key x))) (sym e) u)

    go : (n : N) (l : List A) → All P l → ((y : A) → y ∈ l → T (lt x y)) → n ∈ map num l → T (not (lt_n n (num x)))
    go n [] b g m = elim m [ ]
    go n (y ∷ l) b g (Memᴰ.head e) =
        not_T (lt_n n (num x)) (λ u. falls y (g y (Memᴰ.head refl)) (subst T (f y x b.0 a.0) (subst (λ z. T (lt_n z (num x))) e u)))
    go n (y ∷ l) b g (Memᴰ.tail m) = go n l b.1 (λ z w. g z (Memᴰ.tail w)) m

-- where no row comes after p, no number is above p's
pub keys_none : {P : Type 0} (p : Address) → T (valid p) → (l : List (Row P)) → All AtPath l → NoneAfter p l → NoneAbove (number p) (keys_of l)
keys_none p h [] a n x m t = elim m [ ]
keys_none p h (r ∷ l) a n x (Memᴰ.head e) t =
    n r (Memᴰ.head refl) (subst T (number_before p r.0 h a.0) (lt→ltb (number p) (number r.0) (subst (λ z. number p < z) e t)))
keys_none p h (r ∷ l) a n x (Memᴰ.tail m) t = keys_none p h l a.1 (λ y w. n y (Memᴰ.tail w)) x m t

pub keys_rise : {P : Type 0} {lt : Row P → Row P → Bool} → Keyed lt before (λ (r : Row P). r.0) → (l : List (Row P)) → All AtPath l → Sorted lt l → Rises ltb (keys_of l)
keys_rise o = rises o ltb (λ r. number r.0) AtPath (λ x y h g. number_before x.0 y.0 h g)

pub objects_rise : {lt : Row Attribute → Row Attribute → Bool} → Keyed lt before_object of_attribute → (l : List (Row Attribute)) → All AtPath l → Sorted lt l → Rises before_pair (map object_of l)
objects_rise o =
    rises o before_pair object_of AtPath
    (λ x y h g. ap₂ (λ a b. lex a b (ltb x.1.name y.1.name)) (number_before x.0 y.0 h g) (number_before y.0 x.0 g h))

-- ---- what is in the column is in the rows
among_rows : {A N : Type 0} (num : A → N) (is : N → Bool) (G : List A → Bool) → false ≡ G [] → ((x : A) (l : List A) → G (x ∷ l) ≡ (is (num x) || G l)) → (l : List A) → any_of is (map num l) ≡ G l
among_rows num is G e f [] = e
among_rows num is G e f (x ∷ l) = ap (λ b. is (num x) || b) (among_rows num is G e f l) ∙ sym (f x l)

pub key_among : (p : Address) (l : List (Row ℕ)) → among (number p) (keys_of l) ≡ there (owner_in p l)
key_among p = among_rows (λ r. number r.0) (λ x. eqb x (number p)) (λ l. there (owner_in p l)) refl (λ x l. go x l (same x.0 p) refl)
  where
    go : (x : Row ℕ) (l : List (Row ℕ)) (b : Bool) → same x.0 p ≡ b → there (owner_in p (x ∷ l)) ≡ (eqb (number x.0) (number p) || there (owner_in p l))
    go x l true e = rw (number_same x.0 p, e)
    go x l false e = rw (number_same x.0 p, e)

pub object_among : (p : Address) (n : ℕ) (l : List (Row Attribute)) → pair_among (number p, n) (map object_of l) ≡ there (attribute_in p n l)
object_among p n = among_rows object_of (λ x. eqb x.0 (number p) && eqb x.1 n) (λ l. there (attribute_in p n l)) refl (λ x l. go x l (same x.0 p) refl (eqb x.1.name n) refl)
  where
    go : (x : Row Attribute) (l : List (Row Attribute)) (b : Bool) → same x.0 p ≡ b → (c : Bool) → eqb x.1.name n ≡ c
        → there (attribute_in p n (x ∷ l)) ≡ ((eqb (number x.0) (number p) && eqb x.1.name n) || there (attribute_in p n l))
    go x l true e true f = ap there (attribute_hit p n x l (rw (e, f))) ∙ rw (number_same x.0 p, e, f)
    go x l true e false f = ap there (attribute_miss p n x l (rw (e, f))) ∙ rw (number_same x.0 p, e, f)
    go x l false e true f = ap there (attribute_miss p n x l (rw (e, f))) ∙ rw (number_same x.0 p, e)
    go x l false e false f = ap there (attribute_miss p n x l (rw (e, f))) ∙ rw (number_same x.0 p, e)

pub node_fits_among_lem : (p : Address) (l : List (Row ℕ)) → node_fits_among p (keys_of l) ≡ node_fits_in p l
node_fits_among_lem p l =
    let n = length-map l (λ r. number r.0) in
    λ i. node_fits p (key_among p l i) (key_among (parent p) l i) (key_among (left p) l i) (n i)
