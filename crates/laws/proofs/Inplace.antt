-- Laws of tables that are changed where they stand: one store, rows that close up to the front, rows that are stored from the end. For any rows, any struct around them. Assumes nothing.
use mathlib.Core.Path.{◌≡◌, refl, sym, ap, ap₂, subst, ◌∙◌}
use mathlib.Core.List.{List, [], ◌∷◌, ◌++◌, map, append_assoc, map-append}
use Prim.Native.Nat.{ℕ, zero, suc, ◌+◌, ◌-◌, ◌≤◌, ◌<◌}
use native.Mathlib.Nat.{add-zero, zero-add}
use native.Mathlib.Numerals.{add-one, unary_clauses}
use native.Mathlib.Omega.{arith}
use lib.ListN.{length, take, drop, set, get_or, replicate, length-map, length-set, length-append, length-replicate, take-append-drop}
use lib.Seq.{get_or-take, get_or-drop, take-suc, drop-cons, get_or-set_same, drop-set-lt, take-set-le, take-suc-set, take-take, take-append-le, drop-append-add, drop-drop, set-append_left, set_split, take-add, take_all, length-take-le}
use Rattle.laws.specs.Slots.{slots, Is}
use Rattle.laws.proofs.Last.{Ends}
use Rattle.laws.proofs.Fill.{drop_replicate, Held, held_seen, held_full, held_each, held_next}

-- ---- blank slots
-- behind its rows a table is blank
slots_blank : {A : Type 0} (n : ℕ) (b : A) (l : List A) (k : ℕ) → length l ≤ k → drop k (slots n b l) ≡ replicate (n - k) b
slots_blank n b l k h =
    let e : k ≡ length l + (k - length l) = omega arith in
    let d : n - length l - (k - length l) ≡ n - k = omega arith in
    ap (λ j. drop j (slots n b l)) e ∙ drop-append-add l (replicate (n - length l) b) (k - length l) ∙ drop_replicate b (k - length l) (n - length l) ∙ ap (λ j. replicate j b) d

slots_full : {A : Type 0} (n : ℕ) (b : A) (l : List A) → length l ≤ n → length (slots n b l) ≡ n
slots_full n b l h = let r = length-replicate (n - length l) b in length-append l (replicate (n - length l) b) ∙ omega arith

map_set : {A B : Type 0} (f : A → B) (l : List A) (i : ℕ) (y : A) → map f (set l i y) ≡ set (map f l) i (f y)
map_set f [] i y = refl
map_set f (x ∷ l) zero y = refl
map_set f (x ∷ l) (suc i) y = ap (λ r. f x ∷ r) (map_set f l i y)

pub map_take : {A B : Type 0} (f : A → B) (k : ℕ) (l : List A) → map f (take k l) ≡ take k (map f l)
map_take f zero l = refl
map_take f (suc k) [] = refl
map_take f (suc k) (x ∷ l) = ap (λ r. f x ∷ r) (map_take f k l)

module _ {S M : Type 0} {of : M → S} {P : M → Type 0} {n : ℕ} {b : S} {rows : List S} {count : ℕ} (h : Held of P n b rows count) where
  pub held_length : length rows ≡ n
  held_length = let e = length-map h.model of in let r = h.room in ap length h.rows_are ∙ slots_full n b (map of h.model) (omega arith)

  pub held_blank : (k : ℕ) → count ≤ k → drop k rows ≡ replicate (n - k) b
  held_blank k c =
      let e = length-map h.model of in let s = h.count_is in ap (drop k) h.rows_are ∙ slots_blank n b (map of h.model) k (omega arith)

  pub held_size : (v : S → M) → length (map v (take count rows)) ≡ count
  held_size v = length-map (take count rows) v ∙ length-take-le count rows (held_full of P n b rows count h)

  pub held_all : (v : S → M) → take count (map v (take count rows)) ≡ map v (take count rows)
  held_all v = take_all count (map v (take count rows)) (let e = held_size v in omega arith)

  -- the last of the first i rows as the model has it
  pub held_last : (v : S → M) (i : ℕ) (d : S) → 0 < i → i ≤ count → take i (map v (take count rows)) ≡ take (i - 1) (map v (take count rows)) ++ (v (get_or rows (i - 1) d) ∷ [])
  held_last v i d p c =
      let f = held_full of P n b rows count h in
      let e : i ≡ suc (i - 1) = omega arith in
      let g : i - 1 < length rows = omega arith in
      let a : take i (map v (take count rows)) ≡ map v (take i rows) = sym (map_take v i (take count rows)) ∙ ap (map v) (take-take i count rows c) in
      let q : i - 1 ≤ count = omega arith in
      let z : take (i - 1) (map v (take count rows)) ≡ map v (take (i - 1) rows) = sym (map_take v (i - 1) (take count rows)) ∙ ap (map v) (take-take (i - 1) count rows q) in
      a ∙ ap (λ j. map v (take j rows)) e ∙ ap (map v) (take-suc rows (i - 1) d g) ∙ map-append v (take (i - 1) rows) (get_or rows (i - 1) d ∷ [])
      ∙ ap (λ r. r ++ (v (get_or rows (i - 1) d) ∷ [])) (sym z)

  module _ (v : S → M) (back : (m : M) → v (of m) ≡ m) where
    -- the first k rows stand for the model's
    pub held_first : (k : ℕ) → k ≤ count → map of (take k (map v (take count rows))) ≡ take k rows
    held_first k c =
        let e = length-map h.model of in
        let f = h.count_is in
        ap (λ l. map of (take k l)) (held_seen of v back P n b rows count h) ∙ map_take of k h.model
        ∙ sym (ap (take k) h.rows_are ∙ take-append-le k (map of h.model) (replicate (n - length (map of h.model)) b) (omega arith))

    -- one row is stored over another
    pub held_store : {T : Type 0} (mk : List S → ℕ → T) (i : ℕ) (y : M) (s : S) → i < count → s ≡ of y
        → mk (set rows i s) count ≡ mk (slots n b (map of (set (map v (take count rows)) i y))) (length (set (map v (take count rows)) i y))
    held_store mk i y s c e =
        let f = h.count_is in
        let g = length-map h.model of in
        let k = length-map (set h.model i y) of in
        let j = length-set h.model i y in
        let same : length (map of h.model) ≡ length (map of (set h.model i y)) = omega arith in
        let size : count ≡ length (set h.model i y) = omega arith in
        let put : set rows i s ≡ slots n b (map of (set h.model i y)) =
        ap₂ (λ r z. set r i z) h.rows_are e ∙ set-append_left (map of h.model) (replicate (n - length (map of h.model)) b) i (of y) (omega arith)
        ∙ ap₂ (λ r m. r ++ replicate (n - m) b) (sym (map_set of h.model i y)) same in
        ap₂ mk put size ∙ ap (λ l. mk (slots n b (map of (set l i y))) (length (set l i y))) (sym (held_seen of v back P n b rows count h))

-- ---- a pass that changes one row: before i nothing changed
module _ {A : Type 0} (f : A → A) (l : List A) (i : ℕ) (e : map f l ≡ take i l ++ map f (drop i l)) where
  pub unchanged : (x : A) → drop i l ≡ x ∷ drop (i + 1) l → f x ≡ x → map f l ≡ take (i + 1) l ++ map f (drop (i + 1) l)
  unchanged x d q =
      let t : take (i + 1) l ≡ take i l ++ (x ∷ []) = take-add i 1 l ∙ ap (λ r. take i l ++ take 1 r) d in
      e ∙ ap (λ r. take i l ++ map f r) d ∙ ap (λ z. take i l ++ (z ∷ map f (drop (i + 1) l))) q
      ∙ sym (ap (λ r. r ++ map f (drop (i + 1) l)) t ∙ append_assoc (take i l) (x ∷ []) (map f (drop (i + 1) l)))

  -- and behind it nothing changes
  pub changed_one : (x : A) → i < length l → drop i l ≡ x ∷ drop (i + 1) l → map f (drop (i + 1) l) ≡ drop (i + 1) l → map f l ≡ set l i (f x)
  changed_one x h d q =
      e ∙ ap (λ r. take i l ++ map f r) d ∙ ap (λ r. take i l ++ (f x ∷ r)) (q ∙ ap (λ j. drop j l) (add-one i)) ∙ sym (set_split l i (f x) h)

  pub unchanged_all : drop i l ≡ [] → map f l ≡ l
  unchanged_all d = e ∙ ap (λ r. take i l ++ map f r) d ∙ ap (λ r. take i l ++ r) (sym d) ∙ take-append-drop i l

-- ---- what two lists have in common from a place on, or up to it
drop_less : {A : Type 0} (i j : ℕ) (l m : List A) → i ≤ j → drop i l ≡ drop i m → drop j l ≡ drop j m
drop_less i j l m h e =
    let d : j ≡ i + (j - i) = omega arith in
    ap (λ z. drop z l) d ∙ sym (drop-drop (j - i) i l) ∙ ap (drop (j - i)) e ∙ drop-drop (j - i) i m ∙ ap (λ z. drop z m) (sym d)

take_less : {A : Type 0} (i j : ℕ) (l m : List A) → i ≤ j → take j l ≡ take j m → take i l ≡ take i m
take_less i j l m h e = sym (take-take i j l h) ∙ ap (take i) e ∙ take-take i j m h

-- ---- rows that close up: whole is the answer, of which the first k rows are stored, l is still to come and then blanks; from i on stands what stood there
pub record Packs {S T M : Type 0} (mk : List S → ℕ → T) (of : M → S) (n : ℕ) (b : S) (was : List S) (whole : T) (out : List S) (k i : ℕ) (l : List M) : Type 0 where
  pub full : length out ≡ n
  pub rest : whole ≡ mk (take k out ++ slots (n - k) b (map of l)) (k + length l)
  pub unread : drop i out ≡ drop i was

pub packs : {S T M : Type 0} (mk : List S → ℕ → T) (of : M → S) (n : ℕ) (b : S) (was : List S) (l : List M) → length was ≡ n → Packs mk of n b was (mk (slots n b (map of l)) (length l)) was 0 0 l
packs mk of n b was l e = record { full = e; rest = simp (unary_clauses, zero-add); unread = refl }

module _ {S T M : Type 0} {mk : List S → ℕ → T} {of : M → S} {n : ℕ} {b : S} {was : List S} {whole : T} {out : List S} {k i : ℕ} {l : List M} (f : Packs mk of n b was whole out k i l) where
  pack_read : (d : S) → get_or out i d ≡ get_or was i d
  pack_read d =
      ap (λ j. get_or out j d) (sym (add-zero i)) ∙ sym (get_or-drop i out 0 d) ∙ ap (λ r. get_or r 0 d) f.unread ∙ get_or-drop i was 0 d ∙ ap (λ j. get_or was j d) (add-zero i)

  module _ {P : M → Type 0} {count : ℕ} (h : Held of P n b was count) (d : S) (c : i < count) where
    pub pack_each : Is of P (get_or out i d)
    pack_each = subst (Is of P) (sym (pack_read d)) (held_each of P n b was count h i d c)

    pub pack_next : (v : S → M) → drop i (map v (take count was)) ≡ v (get_or out i d) ∷ drop (i + 1) (map v (take count was))
    pack_next v = held_next of P n b was count h v i d c ∙ ap (λ z. v z ∷ drop (i + 1) (map v (take count was))) (sym (pack_read d))

  -- the row read at i gives the row y, which s stands for
  pub pack : (y : M) (l' : List M) (s : S) → k ≤ i → i < n → l ≡ y ∷ l' → s ≡ of y → Packs mk of n b was whole (set out k s) (k + 1) (i + 1) l'
  pack y l' s h g e r =
      let full = f.full in
      let room : k < length out = omega arith in
      let ys = map of l' in
      let t : take (k + 1) (set out k s) ≡ take k out ++ (s ∷ []) = rw (add-one, take-suc-set out k s) in
      let d : n - (k + 1) - length ys ≡ n - k - suc (length ys) = omega arith in
      let c : k + suc (length l') ≡ k + 1 + length l' = omega arith in
      let a : take (k + 1) (set out k s) ++ slots (n - (k + 1)) b ys ≡ take k out ++ slots (n - k) b (of y ∷ ys) =
      ap (λ p. p ++ slots (n - (k + 1)) b ys) t ∙ append_assoc (take k out) (s ∷ []) (slots (n - (k + 1)) b ys) ∙ ap₂ (λ (z : S) (j : ℕ). take k out ++ (z ∷ (ys ++ replicate j b))) r d in
      record {
        full = length-set out k s ∙ full;
        rest = f.rest ∙ ap (λ z. mk (take k out ++ slots (n - k) b (map of z)) (k + length z)) e ∙ ap₂ mk (sym a) c;
        unread = drop-set-lt (i + 1) out k s (omega arith) ∙ drop_less i (i + 1) out was (omega arith) f.unread;
      }

  -- it gives nothing
  pub pack_past : {l' : List M} → l ≡ l' → Packs mk of n b was whole out k (i + 1) l'
  pack_past e = record { full = f.full; rest = f.rest ∙ ap (λ z. mk (take k out ++ slots (n - k) b (map of z)) (k + length z)) e; unread = drop_less i (i + 1) out was (omega arith) f.unread }

-- ---- what is left of such a table is blanked: the first j slots are as they are to be, and the count is c
pub record Clears {S T : Type 0} (mk : List S → ℕ → T) (n : ℕ) (b : S) (was : List S) (whole : T) (c : ℕ) (out : List S) (j i : ℕ) : Type 0 where
  pub full : length out ≡ n
  pub rest : whole ≡ mk (take j out ++ replicate (n - j) b) c
  pub unread : drop i out ≡ drop i was

-- it begins
pub clears : {S T : Type 0} (mk : List S → ℕ → T) (n : ℕ) (b : S) (out : List S) (k i : ℕ) → length out ≡ n → Clears mk n b out (mk (take k out ++ replicate (n - k) b) k) k out k i
clears mk n b out k i e = record { full = e; rest = refl; unread = refl }

module _ {S T : Type 0} {mk : List S → ℕ → T} {n : ℕ} {b : S} {was : List S} {whole : T} {c : ℕ} {out : List S} {j i : ℕ} (f : Clears mk n b was whole c out j i) where
  pub clear : (s : S) → s ≡ b → j < i → i ≤ n → Clears mk n b was whole c (set out j s) (j + 1) i
  clear s q h g =
      let full = f.full in
      let room : j < length out = omega arith in
      let t : take (j + 1) (set out j s) ≡ take j out ++ (s ∷ []) = rw (add-one, take-suc-set out j s) in
      let d : n - j ≡ suc (n - (j + 1)) = omega arith in
      record {
        full = length-set out j s ∙ full;
        rest = f.rest ∙ ap (λ m. mk (take j out ++ replicate m b) c) d ∙ ap (λ z. mk (take j out ++ (z ∷ replicate (n - (j + 1)) b)) c) (sym q)
            ∙ ap (λ r. mk r c) (sym (ap (λ p. p ++ replicate (n - (j + 1)) b) t ∙ append_assoc (take j out) (s ∷ []) (replicate (n - (j + 1)) b)));
        unread = drop-set-lt i out j s h ∙ f.unread;
      }

  -- behind its rows the table was blank
  cleared : j ≡ i → drop i was ≡ replicate (n - i) b → mk out c ≡ whole
  cleared e d =
      sym (f.rest ∙ ap (λ m. mk (take m out ++ replicate (n - m) b) c) e ∙ ap (λ r. mk (take i out ++ r) c) (sym (f.unread ∙ d)) ∙ ap (λ r. mk r c) (take-append-drop i out))

-- the rows closed up, and then the slots that they left were blanked
pub packed : {S T M : Type 0} {mk : List S → ℕ → T} {of : M → S} {n : ℕ} {b : S} {was : List S} {whole : T} {out out' : List S} {k i j count : ℕ} {l : List M} {P : M → Type 0}
    → Held of P n b was count → Packs mk of n b was whole out k i l → l ≡ [] → i ≤ count → Clears mk n b out (mk (take k out ++ replicate (n - k) b) k) k out' j count → j ≡ count → mk out' k ≡ whole
packed {mk = mk} {of} {n} {b} {was} {out = out} {k = k} {i} {count = count} h f e c g d =
    cleared g d (drop_less i count out was c f.unread ∙ held_blank h count (omega arith))
    ∙ sym (f.rest ∙ ap (λ z. mk (take k out ++ slots (n - k) b (map of z)) (k + length z)) e ∙ simp (unary_clauses, add-zero))

-- ---- rows that are stored from the end: whole is the answer, of which l, so many rows as k, is still to come; behind k all is stored, and before j stands what stood there
pub record Falls {S T M : Type 0} (mk : List S → ℕ → T) (of : M → S) (n : ℕ) (was : List S) (whole : T) (c : ℕ) (out : List S) (j k : ℕ) (l : List M) : Type 0 where
  pub full : length out ≡ n
  pub left : length l ≡ k
  pub rest : whole ≡ mk (map of l ++ drop k out) c
  pub unread : take j out ≡ take j was

module _ {S T M : Type 0} (mk : List S → ℕ → T) (of : M → S) (n : ℕ) (was : List S) where
  -- of a table that holds no more rows
  pub falls : (b : S) {l l' : List M} (j k : ℕ) → l ≡ l' → length was ≡ n → length l ≡ k → drop k was ≡ replicate (n - k) b
      → Falls mk of n was (mk (slots n b (map of l)) (length l)) k was j k l'
  falls b {l} j k q e m d =
      record {
        full = e;
        left = ap length (sym q) ∙ m;
        rest = ap₂ (λ p c. mk (map of l ++ replicate (n - p) b) c) (length-map l of ∙ m) m ∙ ap₂ (λ z r. mk (map of z ++ r) k) q (sym d);
        unread = refl;
      }

module _ {S T M : Type 0} {mk : List S → ℕ → T} {of : M → S} {n : ℕ} {was : List S} {whole : T} {c : ℕ} {out : List S} {j k : ℕ} {l : List M} (f : Falls mk of n was whole c out j k l) where
  fall_read : (i : ℕ) (d : S) → i < j → get_or out i d ≡ get_or was i d
  fall_read i d h = sym (get_or-take j out i d h) ∙ ap (λ r. get_or r i d) f.unread ∙ get_or-take j was i d h

  module _ {P : M → Type 0} {b : S} {count : ℕ} (h : Held of P n b was count) (d : S) (p : 0 < j) (g : j ≤ count) where
    pub fall_each : Is of P (get_or out (j - 1) d)
    fall_each = subst (Is of P) (sym (fall_read (j - 1) d (omega arith))) (held_each of P n b was count h (j - 1) d (omega arith))

    pub fall_last : (v : S → M) → Ends (take j (map v (take count was))) (take (j - 1) (map v (take count was))) (v (get_or out (j - 1) d))
    fall_last v = record { ends = held_last h v j d p g ∙ ap (λ z. take (j - 1) (map v (take count was)) ++ (v z ∷ [])) (sym (fall_read (j - 1) d (omega arith))) }

  -- the last of l is stored
  pub fall : {l' : List M} {y : M} (s : S) (at j' k' : ℕ) → k ≡ at + 1 → k' ≡ at → k ≤ n → j' ≤ j → j' ≤ at → Ends l l' y → s ≡ of y → Falls mk of n was whole c (set out at s) j' k' l'
  fall {l'} {y} s at j' k' ek same hk hj below w r =
      let e = w.ends in
      let full = f.full in
      let left = f.left in
      let more = ap length e ∙ length-append l' (y ∷ []) in
      let room : at < length out = omega arith in
      let there : at < length (set out at s) = rw (length-set out at s) room in
      let up : k ≡ suc at = omega arith in
      let d : drop at (set out at s) ≡ s ∷ drop (suc at) out =
      drop-cons (set out at s) at s there ∙ ap₂ (λ (z : S) (q : List S). z ∷ q) (get_or-set_same out at s s room) (drop-set-lt (suc at) out at s (omega arith)) in
      record {
        full = length-set out at s ∙ full;
        left = omega arith;
        rest = f.rest ∙ ap₂ (λ z m. mk (map of z ++ drop m out) c) e up
            ∙ ap (λ z. mk z c) (ap (λ z. z ++ drop (suc at) out) (map-append of l' (y ∷ [])) ∙ append_assoc (map of l') (of y ∷ []) (drop (suc at) out))
            ∙ ap (λ z. mk (map of l' ++ (z ∷ drop (suc at) out)) c) (sym r) ∙ ap (λ z. mk (map of l' ++ z) c) (sym d) ∙ ap (λ m. mk (map of l' ++ drop m (set out at s)) c) (sym same);
        unread = take-set-le j' out at s below ∙ take_less j' j out was hj f.unread;
      }

  -- what is still to come stands there already
  pub fallen : map of l ≡ take k was → k ≤ j → mk out c ≡ whole
  fallen e h = sym (f.rest ∙ ap (λ z. mk (z ++ drop k out) c) (e ∙ sym (take_less k j out was h f.unread)) ∙ ap (λ z. mk z c) (take-append-drop k out))
