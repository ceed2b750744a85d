-- An image read record by record: what one record more brings about, and that the first that is not accepted is the bad one. Assumes nothing.
use mathlib.Core.Path.{◌≡◌, refl, sym, ap, ap₂, subst, subst₂, ◌∙◌}
use mathlib.Core.Bool.{Bool, true, false}
use mathlib.Core.Option.{Option, none, some}
use mathlib.Core.List.Memᴰ
use mathlib.Core.List.{List, [], ◌∷◌, ◌++◌}
use Prim.Native.Nat.{ℕ, zero, suc, ◌+◌, ◌-◌, ◌*◌, ◌<◌}
use native.Mathlib.Omega.{arith}
use lib.Dec.{T}
use lib.ListN.{length, take, drop, get_or}
use lib.Seq.{drop-drop}
use Rattle.laws.specs.Slots.{pick}
use Rattle.laws.specs.Sorted.{◌∈◌, nil}
use Rattle.path.proofs.Moves.{pick_some}
use Rattle.model.specs.Things.{Dossier}
use Rattle.model.specs.Image.{Record, in_range, decode, accept, records, bad, good, next, scan, no_records, records_of}
use Rattle.model.specs.Sound.{Sound}
use Rattle.roundtrip.proofs.Bytes.{less}
use Rattle.roundtrip.proofs.Records.{record_back, decode_good}
use Rattle.roundtrip.proofs.Scan.{good≠bad, good_is, Runs, Ranges, runs_keep, scan_came}
use Rattle.roundtrip.proofs.Ascend.{less_record}
use Rattle.roundtrip.proofs.Found.{fits, added, accept_yes, accepted}
use Rattle.roundtrip.proofs.SaveLoad.{first_sound, accept_sound}
use Rattle.roundtrip.proofs.Append.{appended, load_behind, load_appends}
use Rattle.tables.specs.View.{TablesFit}
use Rattle.tables.proofs.Parts.{sound_fits}
use Rattle.image.specs.Records.{record_bytes, bytes_before, record_at, Upto, Breaks}

-- ---- the records of an image, by number
drop_more : (k : ℕ) (b : List ℕ) → drop (k * 40) (drop 40 b) ≡ drop (suc k * 40) b
drop_more k b = let e : 40 + k * 40 ≡ suc k * 40 = omega arith in drop-drop (k * 40) 40 b ∙ ap (λ (n : ℕ). drop n b) e

-- k of them, and then j more
records_split : (k j : ℕ) (b : List ℕ) → records (k + j) b ≡ records k b ++ records j (drop (k * 40) b)
records_split zero j b = let e : 0 + j ≡ j = omega arith in ap (λ (n : ℕ). records n b) e
records_split (suc k) j b =
    let e : suc k + j ≡ suc (k + j) = omega arith in
    ap (λ (n : ℕ). records n b) e
    ∙ ap (λ (l : List (List ℕ)). take 40 b ∷ l) (records_split k j (drop 40 b) ∙ ap (λ (x : List ℕ). records k (drop 40 b) ++ records j x) (drop_more k b))

records_one : (k : ℕ) (b : List ℕ) → records (suc k) b ≡ records k b ++ (record_bytes k b ∷ [])
records_one k b = let e : suc k ≡ k + 1 = omega arith in ap (λ (n : ℕ). records n b) e ∙ records_split k 1 b

records_long : (k : ℕ) (b : List ℕ) → length (records k b) ≡ k
records_long zero b = refl
records_long (suc k) b = ap suc (records_long k (drop 40 b))

-- the last of the first k
last_of : (k : ℕ) (b : List ℕ) → get_or (records (suc k) b) k [] ≡ record_bytes k b
last_of zero b = refl
last_of (suc k) b = last_of k (drop 40 b) ∙ ap (take 40) (drop_more k b)

before_is : (k : ℕ) (b : List ℕ) → get_or ([] ∷ records k b) (length (records k b)) [] ≡ bytes_before k b
before_is k b = ap (λ (n : ℕ). get_or ([] ∷ records k b) n []) (records_long k b) ∙ go k
  where
    go : (k : ℕ) → get_or ([] ∷ records k b) k [] ≡ bytes_before k b
    go zero = refl
    go (suc k) = last_of k b

-- ---- a scan goes on where another ended
module _ {D : Type 0} (accept : D → Record → Option D) where
  scan_on : (i : ℕ) (prev : List ℕ) (d : D) (l : List (List ℕ)) (e : D) (m : List (List ℕ)) → scan accept i prev d l ≡ good e
      → scan accept i prev d (l ++ m) ≡ scan accept (i + length l) (get_or (prev ∷ l) (length l) []) e m
  scan_on i prev d [] e m p =
      let z : i ≡ i + 0 = omega arith in ap₂ (λ (n : ℕ) (x : D). scan accept n prev x m) z (good_is d e p)
  scan_on i prev d (b ∷ l) e m p = go (next accept prev d b) p (λ t. scan_on (suc i) b t l e m)
    where
      go : (o : Option D) → elim o [ none ↦ bad i | some t ↦ scan accept (suc i) b t l ] ≡ good e
          → ((t : D) → scan accept (suc i) b t l ≡ good e → scan accept (suc i) b t (l ++ m) ≡ scan accept (suc i + length l) (get_or (b ∷ l) (length l) []) e m)
          → elim o [ none ↦ bad i | some t ↦ scan accept (suc i) b t (l ++ m) ] ≡ scan accept (i + suc (length l)) (get_or (b ∷ l) (length l) []) e m
      go none q f = good≠bad e i (sym q)
      go (some t) q f = let z : suc i + length l ≡ i + suc (length l) = omega arith in f t q ∙ ap (λ (n : ℕ). scan accept n (get_or (b ∷ l) (length l) []) e m) z

-- ---- a record of the image
recorded : (b : List ℕ) (k : ℕ) (r : Record) → record_at k b ≡ some r → T (less (bytes_before k b) (record_bytes k b)) × (decode (record_bytes k b) ≡ some r)
unfolding record_at
recorded b k r e = pick_some (less (bytes_before k b) (record_bytes k b)) (decode (record_bytes k b)) r e

pub record_range : (b : List ℕ) (k : ℕ) (r : Record) → record_at k b ≡ some r → T (in_range r)
record_range b k r e = decode_good (record_bytes k b) r (recorded b k r e).1

-- what the rules make of it
abbrev taken : Dossier → Option Record → Option Dossier
taken d none = none
taken d (some r) = accept d r

next_is : (b : List ℕ) (k : ℕ) (d : Dossier) → next accept (bytes_before k b) d (record_bytes k b) ≡ taken d (record_at k b)
unfolding record_at
next_is b k d = go (less (bytes_before k b) (record_bytes k b)) (decode (record_bytes k b))
  where
    go : (t : Bool) (o : Option Record) → pick {A = Option Dossier} t (elim o [ none ↦ none | some r ↦ accept d r ]) none ≡ taken d (pick t o none)
    go true none = refl
    go true (some r) = refl
    go false o = refl

module _ (b : List ℕ) (k : ℕ) (d : Dossier) (u : Upto b k d) where
  -- j records more after the first k
  rest : (j : ℕ) → scan accept 1 [] no_records (records (k + j) b) ≡ scan accept (suc k) (bytes_before k b) d (records j (drop (k * 40) b))
  rest j =
      let e : 1 + length (records k b) ≡ suc k = ap (λ (n : ℕ). 1 + n) (records_long k b) ∙ omega arith in
      ap (scan accept 1 [] no_records) (records_split k j b)
      ∙ scan_on accept 1 [] no_records (records k b) d (records j (drop (k * 40) b)) u.scanned
      ∙ ap₂ (λ (n : ℕ) (x : List ℕ). scan accept n x d (records j (drop (k * 40) b))) e (before_is k b)

  one_more : (e : Dossier) → taken d (record_at k b) ≡ some e → Upto b (suc k) e
  one_more e p =
      let z : suc k ≡ k + 1 = omega arith in
      record {
        scanned = ap (λ (n : ℕ). scan accept 1 [] no_records (records n b)) z ∙ rest 1
            ∙ ap (λ (o : Option Dossier). elim o [ none ↦ bad (suc k) | some t ↦ good t ]) (next_is b k d ∙ p);
      }

  none_more : (n : ℕ) → k < n → taken d (record_at k b) ≡ none → Breaks b n k
  none_more n h p =
      let j = n - k - 1 in
      let z : n ≡ k + suc j = omega arith in
      let w : suc k ≡ k + 1 = omega arith in
      record {
        inside = h;
        scanned = ap (λ (m : ℕ). scan accept 1 [] no_records (records m b)) z ∙ rest (suc j)
            ∙ ap (λ (o : Option Dossier). elim o [ none ↦ bad (suc k) | some t ↦ scan accept (suc (suc k)) (record_bytes k b) t (records j (drop 40 (drop (k * 40) b))) ]) (next_is b k d ∙ p)
            ∙ ap bad w;
      }

  -- no record
  pub breaks_none : (n : ℕ) → k < n → record_at k b ≡ none → Breaks b n k
  breaks_none n h e = none_more n h (ap (taken d) e)

  module _ (r : Record) (e : record_at k b ≡ some r) where
    -- a record that does not fit
    pub breaks_fit : (n : ℕ) → k < n → fits d r ≡ false → Breaks b n k
    breaks_fit n h f = none_more n h (ap (taken d) e ∙ go (accept d r) refl)
      where
        go : (o : Option Dossier) → accept d r ≡ o → o ≡ none
        go none q = refl
        go (some t) q = absurd (subst T f (accepted d r t q).0)

    last_less : T (less (get_or ([] ∷ records k b) (length (records k b)) []) (record_bytes k b))
    last_less = subst (λ (x : List ℕ). T (less x (record_bytes k b))) (sym (before_is k b)) (recorded b k r e).0

    -- it is behind all that are there, and one that fits is appended
    pub behind : (z : Record) → z ∈ records_of d → T (in_range z) × T (less_record z r)
    behind = load_behind (records k b) d (record_bytes k b) r u.scanned last_less (recorded b k r e).1

    pub upto_more : T (fits d r) → Upto b (suc k) (appended d r)
    upto_more f =
        subst (Upto b (suc k)) (load_appends (records k b) d (record_bytes k b) r u.scanned last_less (recorded b k r e).1 f)
        (one_more (added d r) (ap (taken d) e ∙ accept_yes d r f))

-- a record comes after the one before it
pub after_record : (b : List ℕ) (k : ℕ) (r z : Record) → record_at k b ≡ some r → record_at (suc k) b ≡ some z → T (less_record r z)
after_record b k r z e d =
    let x = record_back (record_bytes k b) r (recorded b k r e).1 in
    let y = record_back (record_bytes (suc k) b) z (recorded b (suc k) z d).1 in
    subst₂ (λ (u v : List ℕ). T (less u v)) (sym x) (sym y) (recorded b (suc k) z d).0

-- ---- what the first k hold is sound, so the tables fit
none_fit : TablesFit no_records
none_fit =
    record {
      nodes = record { room = omega arith; each = tt; ascend = nil };
      attributes = record { room = omega arith; each = tt; ascend = nil };
      permissions = record { room = omega arith; each = tt; ascend = nil };
    }

pub upto_fits : (b : List ℕ) (k : ℕ) (d : Dossier) → Upto b k d → TablesFit d
upto_fits b k d u = let c = scan_came accept 1 [] no_records (records k b) d u.scanned in go c.read c.ranges c.runs
  where
    go : (rs : List Record) → Ranges rs → Runs accept no_records rs d → TablesFit d
    go [] g p = subst TablesFit p none_fit
    go (r ∷ rs) g p =
        sound_fits d (runs_keep accept Sound accept_sound p.0 rs d (λ t m. g t (Memᴰ.tail m)) p.2 (first_sound r p.0 (g r (Memᴰ.head refl)) p.1))
