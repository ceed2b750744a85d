-- The structs of this crate and the addresses that they stand for: a path is a number, and the number an address. Assumes nothing.
use mathlib.Core.Path.{◌≡◌, refl, sym, ap, ◌∙◌}
use mathlib.Core.Bool.{Bool, true, false, ◌&&◌}
use mathlib.Core.Option.{Option, none, some}
use Rattle.std.specs.Prelude.{Some, None, IsTrue, ◌↔◌}
use Rattle.std.specs.List.{All}
use mathlib.Core.List.{List, [], ◌∷◌, ◌++◌}
use Prim.Native.Nat.{ℕ, zero, suc, ◌+◌, ◌*◌, ◌-◌, ◌/◌, ◌%◌, ◌^◌, ◌≤◌, ◌<◌}
use native.Mathlib.Omega.{arith}
use lib.Arith.{digits_div, digits_mod}
use lib.Dec.{T, ltb, leb, leb→le, le→leb, ltb→lt}
use lib.Pow.{are_bytes}
use lib.ListN.{length, take, replicate, length-append, length-replicate}
use lib.Seq.{length-take-le, take-append-le}
use mir.Facts.{yes_and}
use borrow.Author.Tests.{eq-eqb, ne_eqb, le-ltb, lt-ltb, le-leb}
use Rattle.laws.proofs.Fill.{is_fits}
use Rattle.path.specs.Address.{Address, valid, steps_good, parent}
use Rattle.path.specs.Packed.{pack, digits, code, raise, decode, fits, number, address}
use Rattle.path.specs.View.{steps, asked, raw_of, path_of, PathSound, moved_of}
use Rattle.path.specs.declared.Path.{Path}
use Rattle.path.specs.declared.RawPath.{RawPath}
use Rattle.path.proofs.Moves.{is_true}
use Rattle.path.proofs.Parts.{parent_good, parent_short}
use Rattle.path.proofs.Pack.{Small, pack_lt, digits_pack}
pub use Rattle.path.proofs.Parts.{no, both, valid_short, valid_small, off_under, off_not, parent_length, in_depth_fits}

-- ---- an address that does not fit, and its code
positive : (x : ℕ) (l : List ℕ) → 0 < code (x ∷ l)
positive zero l = omega arith
positive (suc x) l = let ih = positive x l in omega arith

decode_code : (f : ℕ) (l : List ℕ) → code l ≤ f → decode f (code l) ≡ l
decode_code zero [] h = refl
decode_code (suc f) [] h = refl
decode_code zero (zero ∷ l) h = absurd (omega arith)
decode_code (suc f) (zero ∷ l) h =
    let d : (2 * code l + 1) / 2 ≡ code l = omega arith in
    rw (ne_eqb (2 * code l + 1) 0 (λ e. omega arith), ne_eqb ((2 * code l + 1) % 2) 0 (λ e. omega arith))
    (ap (λ m. 0 ∷ m) (ap (decode f) d ∙ decode_code f l (omega arith)))
decode_code zero (suc x ∷ l) h = let p = positive x l in absurd (omega arith)
decode_code (suc f) (suc x ∷ l) h =
    let p = positive x l in
    let d : 2 * code (x ∷ l) / 2 ≡ code (x ∷ l) = omega arith in
    rw (ne_eqb (2 * code (x ∷ l)) 0 (λ e. omega arith), eq-eqb (2 * code (x ∷ l) % 2) 0 (omega arith))
    (ap raise (ap (decode f) d ∙ decode_code f (x ∷ l) (omega arith)))

-- ---- an address that fits
bytes_small : (l : List ℕ) → T (are_bytes l) → Small l
bytes_small [] t = tt
bytes_small (x ∷ l) t = let b = both (ltb x 256) (are_bytes l) t in (ltb→lt x 256 b.0, bytes_small l b.1)

small_bytes : (l : List ℕ) → Small l → T (are_bytes l)
small_bytes [] d = tt
small_bytes (x ∷ l) d = rw (lt-ltb x 256 d.0) (small_bytes l d.1)

pub steps_small : (l : Address) → T (steps_good l) → Small l
steps_small [] t = tt
steps_small (x ∷ l) t =
    let a = both (leb 1 x && leb x 32) (steps_good l) t in
    let b = leb→le x 32 (both (leb 1 x) (leb x 32) a.0).1 in
    (omega arith, steps_small l a.1)

pub number_is : (l : Address) → length l ≤ 6 → Small l → number l ≡ length l * 256 ^ 6 + pack 6 l
unfolding number
number_is l h s = rw (le-leb (length l) 6 h, is_true (are_bytes l) (small_bytes l s))

-- ---- there and back, for every address
pub address_number : (l : Address) → address (number l) ≡ l
unfolding number address
address_number l = go (fits l) refl
  where
    go : (b : Bool) → fits l ≡ b → address (number l) ≡ l
    go true e =
        let w = both (leb (length l) 6) (are_bytes l) (rw e tt) in
        let h = leb→le (length l) 6 w.0 in
        let s = bytes_small l w.1 in
        let lt = pack_lt 6 l s in
        let k : (length l * 256 ^ 6 + pack 6 l) / 256 ^ 6 ≡ length l = digits_div (length l) lt in
        rw (e, lt-ltb (length l * 256 ^ 6 + pack 6 l) (256 ^ 8) (omega arith))
        (ap (λ n. digits n 6 (length l * 256 ^ 6 + pack 6 l)) k ∙ digits_pack l (length l) 6 (length l) s refl h)
    go false e =
        let d : 256 ^ 8 + code l - 256 ^ 8 ≡ code l = omega arith in
        rw (e, le-ltb (256 ^ 8 + code l) (256 ^ 8) (omega arith)) (ap (λ n. decode n n) d ∙ decode_code (code l) l (omega arith))

pub view_path : (l : Address) → steps (path_of l) ≡ l
view_path l = address_number l

pub path_valid : {p : Path} → PathSound p → T (valid (steps p))
path_valid {p} h = is_fits path_of steps view_path (λ l. T (valid l)) p h

-- ---- a path that stands for an address
pub record Facts (p : Path) : Type 0 where
  pub short : length (steps p) ≤ 6
  pub good : T (steps_good (steps p))
  pub small : Small (steps p)
  pub packed : p.key ≡ length (steps p) * 256 ^ 6 + pack 6 (steps p)
  pub high : p.key / 256 ^ 6 ≡ length (steps p)
  pub low : p.key % 256 ^ 6 ≡ pack 6 (steps p)
  pub bound : p.key < 7 * 256 ^ 6
  pub is : p ≡ path_of (steps p)

pub facts : (p : Path) → PathSound p → Facts p
facts p h =
    let l = steps p in
    let v = path_valid h in
    let n = valid_short l v in
    let g = (both (leb (length l) 6) (steps_good l) v).1 in
    let s = steps_small l g in
    let i : p ≡ path_of l = h.same ∙ ap path_of (sym (ap steps h.same ∙ view_path h.model)) in
    let k : p.key ≡ length l * 256 ^ 6 + pack 6 l = ap (λ (x : Path). x.key) i ∙ number_is l n s in
    let lt = pack_lt 6 l s in
    record {
      short = n;
      good = g;
      small = s;
      packed = k;
      high = ap (λ m. m / 256 ^ 6) k ∙ digits_div (length l) lt;
      low = ap (λ m. m % 256 ^ 6) k ∙ digits_mod (length l) lt;
      bound = omega arith;
      is = i;
    }

-- the path of an address that fits
pub path_is : {n : ℕ} (l : Address) → length l ≤ 6 → Small l → n ≡ length l * 256 ^ 6 + pack 6 l → ◌≡◌ {A = Path} (record { key = n }) (path_of l)
path_is l h s e = ap (λ k. record { key = k }) (e ∙ sym (number_is l h s))

-- ---- what a host's bytes ask for
pub asked_length : (p : RawPath) → length (asked p) ≡ p.len
asked_length p =
    let r = length-replicate {A = ℕ} p.len 0 in
    let a = length-append p.steps (replicate p.len 0) in
    length-take-le p.len (p.steps ++ replicate p.len 0) (omega arith)

pub asked_short : (p : RawPath) → T (valid (asked p)) → p.len ≤ 6
asked_short p v = let n = asked_length p in let s = valid_short (asked p) v in omega arith

pub asked_steps : (p : RawPath) → length p.steps ≡ 6 → p.len ≤ 6 → asked p ≡ take p.len p.steps
asked_steps p full h = take-append-le p.len p.steps (replicate p.len 0) (omega arith)

pub asked_good : (p : RawPath) → length p.steps ≡ 6 → p.len ≤ 6 → valid (asked p) ≡ steps_good (take p.len p.steps)
asked_good p full h =
    let n = length-take-le p.len p.steps (omega arith) in
    ap valid (asked_steps p full h) ∙ rw (le-leb (length (take p.len p.steps)) 6 (omega arith))

-- each step that is used is 1 to 32
all_good : (l : List ℕ) → All (λ s. (1 ≤ s) × (s ≤ 32)) l → T (steps_good l)
all_good [] h = tt
all_good (x ∷ l) h =
    let g = h 0 0 (omega arith) in
    yes_and (leb 1 x && leb x 32) (steps_good l) (yes_and (leb 1 x) (leb x 32) (le→leb 1 x g.0) (le→leb x 32 g.1)) (all_good l (λ k d e. h (suc k) d (omega arith)))

good_each : (l : List ℕ) → T (steps_good l) → All (λ s. (1 ≤ s) × (s ≤ 32)) l
good_each [] t k d h = absurd (omega arith)
good_each (x ∷ l) t zero d h = let a = both (leb 1 x) (leb x 32) (both (leb 1 x && leb x 32) (steps_good l) t).0 in (leb→le 1 x a.0, leb→le x 32 a.1)
good_each (x ∷ l) t (suc k) d h = good_each l (both (leb 1 x && leb x 32) (steps_good l) t).1 k d (omega arith)

pub good_all : (b : Bool) (l : List ℕ) → (IsTrue b ↔ All (λ s. (1 ≤ s) × (s ≤ 32)) l) → b ≡ steps_good l
good_all true l w = sym (is_true (steps_good l) (all_good l (w.0 refl)))
good_all false l w = go (steps_good l) refl
  where
    go : (b : Bool) → steps_good l ≡ b → false ≡ steps_good l
    go true e = no (sym (w.1 (good_each l (rw e tt))))
    go false e = sym e

-- the bytes of a path ask for it
take_digits : (n m j k : ℕ) → n ≤ m → take n (digits m j k) ≡ digits n j k
take_digits zero m j k h = refl
take_digits (suc n) zero j k h = absurd (omega arith)
take_digits (suc n) (suc m) zero k h = refl
take_digits (suc n) (suc m) (suc j) k h = ap (λ r. k / 256 ^ j % 256 ∷ r) (take_digits n m j k (omega arith))

pub raw_asked : (p : Path) → PathSound p → asked (raw_of p) ≡ steps p
unfolding address
raw_asked p h =
    let f = facts p h in
    let k = p.key in
    let n = f.high in
    let s = f.short in
    let b = f.bound in
    let e : k / 256 ^ 6 % 256 ≡ k / 256 ^ 6 = omega arith in
    ap (λ m. take m (digits 6 6 k ++ replicate m 0)) e ∙ take-append-le (k / 256 ^ 6) (digits 6 6 k) (replicate (k / 256 ^ 6) 0) (omega arith)
    ∙ take_digits (k / 256 ^ 6) 6 6 k (omega arith) ∙ sym (rw (lt-ltb k (256 ^ 8) (omega arith)))

-- what `path_of` makes of valid bytes
pub valid_sound : (p : RawPath) {r : Path} → T (valid (asked p)) → r ≡ path_of (asked p) → PathSound r
valid_sound p v e = record { model = asked p; same = e; fits = v }

-- ---- the answers
pub there : {p : Path} {l : Address} (o : Option Address) → p ≡ path_of l → o ≡ some l → Some p ≡ moved_of o
there o e f = ap Some e ∙ ap moved_of (sym f)

pub gone : (o : Option Address) → o ≡ none → None ≡ moved_of o
gone o f = ap moved_of (sym f)

-- ---- the parent of a path is a path
pub parent_sound : {p r : Path} → PathSound p → r ≡ path_of (parent (steps p)) → PathSound r
parent_sound {p} h e =
    let t = path_valid h in
    let n = valid_short (steps p) t in
    let m = parent_short (steps p) in
    let g = parent_good (steps p) (both (leb (length (steps p)) 6) (steps_good (steps p)) t).1 in
    record { model = parent (steps p); same = e; fits = rw (le-leb (length (parent (steps p))) 6 (omega arith)) g }
