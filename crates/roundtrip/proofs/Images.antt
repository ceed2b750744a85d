-- An image as a whole: its length, its records, and record number 0. Assumes nothing.
use mathlib.Core.Path.{◌≡◌, refl, sym, ap, ap₂, subst, ◌∙◌}
use mathlib.Core.Logic.{◌⊎◌, inl, inr}
use mathlib.Core.Bool.{Bool, not, ◌||◌}
use mathlib.Core.Option.{Option, none, some}
use mathlib.Core.List.Memᴰ
use mathlib.Core.List.{List, [], ◌∷◌, ◌++◌, map}
use Prim.Native.Nat.{ℕ, zero, suc, ◌*◌, ◌/◌, ◌%◌, ◌≤◌, ◌<◌}
use native.Mathlib.Omega.{arith}
use lib.Dec.{T, eqb, ltb, ltb→lt, eqb→eq, T_not}
use lib.ListN.{length, take, drop, get_or, length-append, length-drop, take-append-drop, length-map}
use lib.Seq.{take_at, drop_at}
use mir.Facts.{or_yes}
use Rattle.laws.specs.Sorted.{Sorted}
use Rattle.laws.specs.Order.{lt_list}
use Rattle.path.proofs.Moves.{Test, holds, fails, test, pick_yes, pick_no}
use Rattle.model.specs.Things.{Dossier}
use Rattle.model.specs.Image.{Record, encode, in_range, accept, records, Loaded, bad, good, next, scan, load_from, no_records, load, bytes_of}
use Rattle.roundtrip.proofs.Checks.{not_not, or_left, or_right}
use Rattle.roundtrip.proofs.Records.{encode_length}
use Rattle.roundtrip.proofs.Scan.{Ranges, good≠bad, bad_is, Runs, runs_keep, Came, scan_came, scan_runs, scan_broke}

-- ---- its records
abbrev pub join : List (List ℕ) → List ℕ
join [] = []
join (b ∷ l) = b ++ join l

pub bytes_join : (rs : List Record) → bytes_of rs ≡ join (map encode rs)
bytes_join [] = refl
bytes_join (r ∷ rs) = ap (λ (b : List ℕ). encode r ++ b) (bytes_join rs)

pub records_length : (n : ℕ) (b : List ℕ) → length (records n b) ≡ n
records_length zero b = refl
records_length (suc n) b = ap suc (records_length n (drop 40 b))

pub join_records : (n : ℕ) (b : List ℕ) → length b ≡ n * 40 → join (records n b) ≡ b
join_records zero [] e = refl
join_records zero (x ∷ b) e = absurd (omega arith)
join_records (suc n) b e =
    let h = length-drop 40 b in
    ap (λ (l : List ℕ). take 40 b ++ l) (join_records n (drop 40 b) (omega arith)) ∙ take-append-drop 40 b

records_of_lem : (rs : List Record) → Ranges rs → records (length rs) (bytes_of rs) ≡ map encode rs
records_of_lem [] g = refl
records_of_lem (r ∷ rs) g =
    let e = encode_length r (g r (Memᴰ.head refl)) in
    ap₂ (λ (b : List ℕ) (l : List (List ℕ)). b ∷ l) (take_at (encode r) (bytes_of rs) 40 e)
    (ap (records (length rs)) (drop_at (encode r) (bytes_of rs) 40 e) ∙ records_of_lem rs (λ s h. g s (Memᴰ.tail h)))

bytes_length : (rs : List Record) → Ranges rs → length (bytes_of rs) ≡ length rs * 40
bytes_length [] g = refl
bytes_length (r ∷ rs) g =
    let e = encode_length r (g r (Memᴰ.head refl)) in
    let d = bytes_length rs (λ s h. g s (Memᴰ.tail h)) in
    length-append (encode r) (bytes_of rs) ∙ omega arith

-- ---- its length
-- "record number 0 if the length is 0, not a multiple of 40 or above 17,920"
abbrev pub bad_length : ℕ → Bool
bad_length n = eqb n 0 || (not (eqb (n % 40) 0) || ltb 17920 n)

length_good : (n : ℕ) → (T (bad_length n) → ⊥) → (0 < n / 40) × (n ≡ n / 40 * 40)
length_good n f =
    let m : n % 40 ≡ 0 =
    eqb→eq (n % 40) 0 (not_not (eqb (n % 40) 0) (λ t. f (or_right (eqb n 0) (not (eqb (n % 40) 0) || ltb 17920 n) (or_left (not (eqb (n % 40) 0)) (ltb 17920 n) t)))) in
    let e : n ≡ n / 40 * 40 = omega arith in
    (go (n / 40) e, e)
  where
    go : (k : ℕ) → n ≡ k * 40 → 0 < k
    go zero e = absurd (f (or_left (eqb n 0) (not (eqb (n % 40) 0) || ltb 17920 n) (subst (λ (x : ℕ). T (eqb x 0)) (sym e) tt)))
    go (suc k) e = omega arith

good_length : (k : ℕ) → 0 < k → k ≤ 448 → T (bad_length (k * 40)) → ⊥
good_length k p h t = go (or_yes (eqb (k * 40) 0) (not (eqb (k * 40 % 40) 0) || ltb 17920 (k * 40)) t)
  where
    rest : T (not (eqb (k * 40 % 40) 0)) ⊎ T (ltb 17920 (k * 40)) → ⊥
    rest (inl s) = let e : k * 40 % 40 ≡ 0 = omega arith in T_not (eqb (k * 40 % 40) 0) s (subst (λ (x : ℕ). T (eqb x 0)) (sym e) tt)
    rest (inr s) = let l : 17920 < k * 40 = ltb→lt 17920 (k * 40) s in omega arith

    go : T (eqb (k * 40) 0) ⊎ T (not (eqb (k * 40 % 40) 0) || ltb 17920 (k * 40)) → ⊥
    go (inl s) = let e : k * 40 ≡ 0 = eqb→eq (k * 40) 0 s in omega arith
    go (inr s) = rest (or_yes (not (eqb (k * 40 % 40) 0)) (ltb 17920 (k * 40)) s)

-- ---- load
module _ {D : Type 0} (accept : D → Record → Option D) where
  pub load_came : (d : D) (b : List ℕ) (f : D) → load_from accept d b ≡ good f
      → Came accept [] d (records (length b / 40) b) f × (0 < length b / 40) × (length b ≡ length b / 40 * 40)
  load_came d b f e = go (test (bad_length (length b)))
    where
      go : Test (bad_length (length b)) → Came accept [] d (records (length b / 40) b) f × (0 < length b / 40) × (length b ≡ length b / 40 * 40)
      go (holds t) = good≠bad f 0 (sym e ∙ pick_yes (bad_length (length b)) (bad 0) (scan accept 1 [] d (records (length b / 40) b)) t)
      go (fails n) =
          let p = length_good (length b) n in
          (scan_came accept 1 [] d (records (length b / 40) b) f (sym (pick_no (bad_length (length b)) (bad 0) (scan accept 1 [] d (records (length b / 40) b)) n) ∙ e), p.0, p.1)

  -- what the first record brings about and every further one keeps holds of what is loaded
  pub load_holds : (I : D → Type 0) (d : D) → ((r : Record) (e : D) → T (in_range r) → accept d r ≡ some e → I e)
      → ((c : D) (r : Record) (e : D) → T (in_range r) → accept c r ≡ some e → I c → I e) → (b : List ℕ) (f : D) → load_from accept d b ≡ good f → I f
  load_holds I d first keeps b f e =
      let w = load_came d b f e in
      let c = w.0 in
      let n : length (map encode c.read) ≡ length b / 40 = ap (λ (l : List (List ℕ)). length l) c.bytes ∙ records_length (length b / 40) b in
      go c.read (omega (arith, length-map c.read encode, w.1)) c.ranges c.runs
    where
      go : (rs : List Record) → 0 < length rs → Ranges rs → Runs accept d rs f → I f
      go [] h g p = absurd (omega arith)
      go (r ∷ rs) h g p = runs_keep accept I keeps p.0 rs f (λ t m. g t (Memᴰ.tail m)) p.2 (first r p.0 (g r (Memᴰ.head refl)) p.1)

  pub load_runs : (d : D) (rs : List Record) (f : D) → 0 < length rs → length rs ≤ 448 → Ranges rs → Sorted (lt_list ltb) ([] ∷ map encode rs) → Runs accept d rs f
      → load_from accept d (bytes_of rs) ≡ good f
  load_runs d rs f p h g s r =
      let e = bytes_length rs g in
      let k : length (bytes_of rs) / 40 ≡ length rs = ap (λ (n : ℕ). n / 40) e ∙ omega arith in
      pick_no (bad_length (length (bytes_of rs))) (bad 0) (scan accept 1 [] d (records (length (bytes_of rs) / 40) (bytes_of rs)))
      (λ t. good_length (length rs) p h (subst (λ (n : ℕ). T (bad_length n)) e t))
      ∙ ap (λ (n : ℕ). scan accept 1 [] d (records n (bytes_of rs))) k
      ∙ ap (scan accept 1 [] d) (records_of_lem rs g)
      ∙ scan_runs accept 1 [] d rs f g s r

-- ---- the first record that breaks a rule
pub record FirstBad (b : List ℕ) (k : ℕ) : Type 0 where
  -- there are more than k records
  pub inside : k < length b / 40
  -- the first k are accepted in turn
  pub so_far : Dossier
  pub accepted : scan accept 1 [] no_records (take k (records (length b / 40) b)) ≡ good so_far
  -- and the next is not, taken with those before it
  pub refused : next accept (get_or ([] ∷ records (length b / 40) b) k []) so_far (get_or (records (length b / 40) b) k []) ≡ none

loaded : (b : List ℕ) (n : ℕ) → load b ≡ bad n → (T (bad_length (length b)) × (n ≡ 0)) ⊎ (scan accept 1 [] no_records (records (length b / 40) b) ≡ bad n)
loaded b n e = go (test (bad_length (length b)))
  where
    rest : Loaded Dossier
    rest = scan accept 1 [] no_records (records (length b / 40) b)

    go : Test (bad_length (length b)) → (T (bad_length (length b)) × (n ≡ 0)) ⊎ (scan accept 1 [] no_records (records (length b / 40) b) ≡ bad n)
    go (holds t) = inl (t, bad_is n 0 (sym e ∙ pick_yes (bad_length (length b)) (bad 0) rest t))
    go (fails f) = inr (sym (pick_no (bad_length (length b)) (bad 0) rest f) ∙ e)

pub bad_length_lem : (b : List ℕ) → load b ≡ bad 0 → T (bad_length (length b))
bad_length_lem b e = go (loaded b 0 e)
  where
    go : (T (bad_length (length b)) × (◌≡◌ {A = ℕ} 0 0)) ⊎ (scan accept 1 [] no_records (records (length b / 40) b) ≡ bad 0) → T (bad_length (length b))
    go (inl w) = w.0
    go (inr q) = let c = (scan_broke accept 1 0 [] no_records (records (length b / 40) b) q).counted in absurd (omega arith)

pub first_bad : (b : List ℕ) (k : ℕ) → load b ≡ bad (suc k) → FirstBad b k
first_bad b k e = go (loaded b (suc k) e)
  where
    l : List (List ℕ)
    l = records (length b / 40) b

    go : (T (bad_length (length b)) × (suc k ≡ 0)) ⊎ (scan accept 1 [] no_records l ≡ bad (suc k)) → FirstBad b k
    go (inl w) = let z : suc k ≡ 0 = w.1 in absurd (omega arith)
    go (inr q) =
        let w = scan_broke accept 1 (suc k) [] no_records l q in
        let c = w.counted in
        let a : w.at ≡ k = omega arith in
        record {
          inside = subst (λ (n : ℕ). n < length b / 40) a (subst (λ (n : ℕ). w.at < n) (records_length (length b / 40) b) w.inside);
          so_far = w.so_far;
          accepted = ap (λ (n : ℕ). scan accept 1 [] no_records (take n l)) (sym a) ∙ w.accepted;
          refused = ap (λ (n : ℕ). next accept (get_or ([] ∷ l) n []) w.so_far (get_or l n [])) (sym a) ∙ w.refused;
        }
