-- An image read record by record: what an accepted image is, that records in order which the rules accept are an accepted image, and the first record that breaks a rule. Assumes nothing.
use mathlib.Core.Path.{◌≡◌, refl, sym, ap, subst, ◌∙◌}
use mathlib.Core.Logic.{⊎_elim}
use mathlib.Core.Option.{Option, none, some, none-ne-some}
use mathlib.Core.List.Memᴰ
use mathlib.Core.List.{List, [], ◌∷◌, ◌++◌, map}
use Prim.Native.Nat.{ℕ, suc, ◌+◌, ◌<◌}
use native.Mathlib.Omega.{arith}
use lib.Dec.{T, ltb}
use lib.ListN.{length, take, get_or}
use Rattle.laws.specs.Sorted.{◌∈◌, Sorted, nil, cons}
use Rattle.laws.specs.Order.{lt_list}
use Rattle.path.proofs.Moves.{pick_yes, pick_some}
use Rattle.model.specs.Image.{Record, encode, in_range, decode, Loaded, bad, good, next, scan}
use Rattle.roundtrip.proofs.Prefix.{sorted_more}
use Rattle.roundtrip.proofs.Bytes.{less, less_order}
use Rattle.roundtrip.proofs.Records.{record_trip, record_back, decode_good}

data Seen {A : Type 0} (o : Option A) : Type 0 where
  nothing : o ≡ none → Seen o
  something : (a : A) → o ≡ some a → Seen o

seen : {A : Type 0} (o : Option A) → Seen o
seen none = nothing refl
seen (some a) = something a refl

-- all of the records are in their ranges
abbrev pub Ranges : List Record → Type 0
Ranges l = (r : Record) → r ∈ l → T (in_range r)

pub ranges_more : (r : Record) (l : List Record) → T (in_range r) → Ranges l → Ranges (r ∷ l)
ranges_more r l g h s (Memᴰ.head e) = subst (λ (x : Record). T (in_range x)) (sym e) g
ranges_more r l g h s (Memᴰ.tail m) = h s m

pub ranges_map : {X : Type 0} (rec : X → Record) (l : List X) → ((x : X) → x ∈ l → T (in_range (rec x))) → Ranges (map rec l)
ranges_map rec l f r h = let w = Memᴰ.of_map rec l h in subst (λ (s : Record). T (in_range s)) w.2 (f w.0 w.1)

pub ranges_append : (l m : List Record) → Ranges l → Ranges m → Ranges (l ++ m)
ranges_append l m f g r h = ⊎_elim (f r) (g r) (Memᴰ.append_cases l h)

module _ {D : Type 0} where
  pub good≠bad : {X : Type 0} (d : D) (n : ℕ) → good d ≡ bad n → X
  good≠bad d n e = let z : ◌≡◌ {A = ℕ} 0 1 = cc in absurd (zero_not_one z)
    where
      zero_not_one : ◌≡◌ {A = ℕ} 0 1 → ⊥
      zero_not_one h = omega arith

  pub good_is : (d e : D) → good d ≡ good e → d ≡ e
  good_is d e p = cc

  pub bad_is : (m n : ℕ) → ◌≡◌ {A = Loaded D} (bad m) (bad n) → m ≡ n
  bad_is m n p = cc

module _ {D : Type 0} (accept : D → Record → Option D) where
  -- the rules accept the records in turn
  abbrev pub Runs : D → List Record → D → Type 0
  Runs d [] f = d ≡ f
  Runs d (r ∷ l) f = (e : D) × (accept d r ≡ some e) × Runs e l f

  pub runs_append : (l m : List Record) (d e f : D) → Runs d l e → Runs e m f → Runs d (l ++ m) f
  runs_append [] m d e f p q = subst (λ (x : D). Runs x m f) (sym p) q
  runs_append (r ∷ l) m d e f p q = (p.0, p.1, runs_append l m p.0 e f p.2 q)

  -- what each accepted record keeps holds of what they leave
  pub runs_keep : (I : D → Type 0) → ((d : D) (r : Record) (e : D) → T (in_range r) → accept d r ≡ some e → I d → I e)
      → (d : D) (rs : List Record) (f : D) → Ranges rs → Runs d rs f → I d → I f
  runs_keep I k d [] f g p i = subst I p i
  runs_keep I k d (r ∷ rs) f g p i = runs_keep I k p.0 rs f (λ t h. g t (Memᴰ.tail h)) p.2 (k d r p.0 (g r (Memᴰ.head refl)) p.1 i)

  -- what an accepted image is
  pub record Came (prev : List ℕ) (d : D) (l : List (List ℕ)) (f : D) : Type 0 where
    pub read : List Record
    pub bytes : map encode read ≡ l
    pub ranges : Ranges read
    pub ascend : Sorted (lt_list ltb) (prev ∷ l)
    pub runs : Runs d read f

  decoded : (d e : D) (o : Option Record) → elim o [ none ↦ none | some r ↦ accept d r ] ≡ some e → (r : Record) × (o ≡ some r) × (accept d r ≡ some e)
  decoded d e none p = absurd (none-ne-some e p)
  decoded d e (some r) p = (r, refl, p)

  pub nexted : (prev : List ℕ) (d e : D) (b : List ℕ) → next accept prev d b ≡ some e → T (less prev b) × ((r : Record) × (decode b ≡ some r) × (accept d r ≡ some e))
  nexted prev d e b p =
      let w = pick_some (less prev b) (elim (decode b) [ none ↦ none | some r ↦ accept d r ]) e p in (w.0, decoded d e (decode b) w.1)

  scanned : (i : ℕ) (b : List ℕ) (l : List (List ℕ)) (f : D) (o : Option D) → elim o [ none ↦ bad i | some e ↦ scan accept (suc i) b e l ] ≡ good f
      → (e : D) × (o ≡ some e) × (scan accept (suc i) b e l ≡ good f)
  scanned i b l f none p = good≠bad f i (sym p)
  scanned i b l f (some e) p = (e, refl, p)

  pub scan_came : (i : ℕ) (prev : List ℕ) (d : D) (l : List (List ℕ)) (f : D) → scan accept i prev d l ≡ good f → Came prev d l f
  scan_came i prev d [] f p =
      record {
        read = [];
        bytes = refl;
        ranges = λ r h. absurd (Memᴰ.not-nil h);
        ascend = cons (λ y h. absurd (Memᴰ.not-nil h)) nil;
        runs = good_is d f p;
      }
  scan_came i prev d (b ∷ l) f p =
      let w = scanned i b l f (next accept prev d b) p in
      let n = nexted prev d w.0 b w.1 in
      let c = scan_came (suc i) b w.0 l f w.2 in
      record {
        read = n.1.0 ∷ c.read;
        bytes = λ i. record_back b n.1.0 n.1.1 i ∷ c.bytes i;
        ranges = ranges_more n.1.0 c.read (decode_good b n.1.0 n.1.1) c.ranges;
        ascend = sorted_more less_order n.0 c.ascend;
        runs = (w.0, n.1.2, c.runs);
      }

  pub scan_runs : (i : ℕ) (prev : List ℕ) (d : D) (rs : List Record) (f : D) → Ranges rs → Sorted (lt_list ltb) (prev ∷ map encode rs) → Runs d rs f
      → scan accept i prev d (map encode rs) ≡ good f
  scan_runs i prev d [] f g s p = ap good p
  scan_runs i prev d (r ∷ rs) f g (cons b s) p =
      let e : next accept prev d (encode r) ≡ some p.0 =
      pick_yes (less prev (encode r)) (elim (decode (encode r)) [ none ↦ none | some t ↦ accept d t ]) none (b (encode r) (Memᴰ.head refl))
      ∙ ap (λ (o : Option Record). elim o [ none ↦ none | some t ↦ accept d t ]) (record_trip r (g r (Memᴰ.head refl))) ∙ p.1 in
      ap (λ (o : Option D). elim o [ none ↦ bad i | some t ↦ scan accept (suc i) (encode r) t (map encode rs) ]) e
      ∙ scan_runs (suc i) (encode r) p.0 rs f (λ t h. g t (Memᴰ.tail h)) s p.2

  -- "the first record, counted from 1, that breaks a rule taken with those before it"
  pub record Broke (i n : ℕ) (prev : List ℕ) (d : D) (l : List (List ℕ)) : Type 0 where
    pub at : ℕ
    pub counted : n ≡ i + at
    pub inside : at < length l
    pub so_far : D
    pub accepted : scan accept i prev d (take at l) ≡ good so_far
    pub refused : next accept (get_or (prev ∷ l) at []) so_far (get_or l at []) ≡ none

  pub scan_broke : (i n : ℕ) (prev : List ℕ) (d : D) (l : List (List ℕ)) → scan accept i prev d l ≡ bad n → Broke i n prev d l
  scan_broke i n prev d [] p = good≠bad d n p
  scan_broke i n prev d (b ∷ l) p = go (seen (next accept prev d b)) (λ e q. scan_broke (suc i) n b e l q)
    where
      go : Seen (next accept prev d b) → ((e : D) → scan accept (suc i) b e l ≡ bad n → Broke (suc i) n b e l) → Broke i n prev d (b ∷ l)
      go (nothing q) f =
          let e : ◌≡◌ {A = Loaded D} (bad i) (bad n) = ap (λ (o : Option D). elim o [ none ↦ bad i | some t ↦ scan accept (suc i) b t l ]) (sym q) ∙ p in
          let z : i ≡ n = bad_is i n e in
          record { at = 0; counted = omega arith; inside = omega arith; so_far = d; accepted = refl; refused = q }
      go (something e q) f =
          let w = f e (ap (λ (o : Option D). elim o [ none ↦ bad i | some t ↦ scan accept (suc i) b t l ]) (sym q) ∙ p) in
          let c = w.counted in
          let h = w.inside in
          record {
            at = suc w.at;
            counted = omega arith;
            inside = omega arith;
            so_far = w.so_far;
            accepted = ap (λ (o : Option D). elim o [ none ↦ bad i | some t ↦ scan accept (suc i) b t (take w.at l) ]) q ∙ w.accepted;
            refused = w.refused;
          }
