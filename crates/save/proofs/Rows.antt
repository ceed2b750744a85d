-- Rows written as records, one behind the other: each is forty bytes long, and a loop that writes them has those that are left to write. Assumes nothing.
use mathlib.Core.Path.{◌≡◌, refl, sym, ap, subst, ◌∙◌}
use mathlib.Core.List.{List, [], ◌∷◌, ◌++◌, map, append_assoc}
use Prim.Native.Nat.{ℕ, ◌+◌, ◌*◌, ◌≤◌}
use native.Mathlib.Omega.{arith}
use lib.ListN.{length, length-append}
use Rattle.laws.specs.Slots.{put, All}
use Rattle.laws.proofs.Put.{put_none, put_length, put_put}
use Rattle.path.proofs.Structs.{valid_short}
use Rattle.model.specs.Image.{Record, node_record, attribute_record, permission_record, encode, bytes_of}
use Rattle.tables.specs.View.{AtPath}
use Rattle.roundtrip.proofs.Records.{record_length}

-- rec makes a row the record of its kind, of forty bytes where the row is as it must be
abbrev pub Forty : {R : Type 0} → (R → Type 0) → (R → Record) → Type 0
Forty {R} ok rec = (r : R) → ok r → length (encode (rec r)) ≡ 40

pub node_forty : Forty AtPath node_record
node_forty r v = record_length (node_record r) (valid_short r.0 v)

pub attribute_forty : Forty AtPath attribute_record
attribute_forty r v = record_length (attribute_record r) (valid_short r.0 v)

pub permission_forty : Forty AtPath permission_record
permission_forty r v = record_length (permission_record r) (valid_short r.0 v)

-- ---- the records of a table
pub bytes_append : (k l : List Record) → bytes_of (k ++ l) ≡ bytes_of k ++ bytes_of l
bytes_append [] l = refl
bytes_append (r ∷ k) l = ap (λ (b : List ℕ). encode r ++ b) (bytes_append k l) ∙ sym (append_assoc (encode r) (bytes_of k) (bytes_of l))

pub rows_length : {R : Type 0} {ok : R → Type 0} (rec : R → Record) → Forty ok rec → (l : List R) → All ok l → length (bytes_of (map rec l)) ≡ 40 * length l
rows_length rec forty [] h = refl
rows_length rec forty (r ∷ l) h =
    let e = forty r h.0 in
    let f = rows_length rec forty l h.1 in
    length-append (encode (rec r)) (bytes_of (map rec l)) ∙ omega arith

-- what the whole call must leave is out, with the records of the rows l, that are left, from k on
pub record Puts {R : Type 0} (ok : R → Type 0) (rec : R → Record) (whole out : List ℕ) (k : ℕ) (l : List R) : Type 0 where
  pub each : All ok l
  pub room : k + 40 * length l ≤ length out
  pub rest : whole ≡ put out k (bytes_of (map rec l))

module _ {R : Type 0} (ok : R → Type 0) (rec : R → Record) where
  -- nothing is written yet
  pub puts_begin : (out : List ℕ) (k n : ℕ) (l : List R) → All ok l → n ≡ length l → k + 40 * n ≤ length out → Puts ok rec (put out k (bytes_of (map rec l))) out k l
  puts_begin out k n l h e room = record { each = h; room = omega arith; rest = refl }

  module _ {whole out : List ℕ} {k : ℕ} {l : List R} (p : Puts ok rec whole out k l) where
    pub puts_length : Forty ok rec → length out ≡ length whole
    puts_length forty =
        let n = rows_length rec forty l p.each in
        let r = p.room in
        sym (ap (λ (b : List ℕ). length b) p.rest ∙ put_length out k (bytes_of (map rec l)) (omega arith))

    -- no row is left
    pub puts_done : l ≡ [] → out ≡ whole
    puts_done e = put_none out k ∙ sym (p.rest ∙ ap (λ (m : List R). put out k (bytes_of (map rec m))) e)

    module _ {x : R} {l' : List R} (e : l ≡ x ∷ l') where
      -- there is room for the record of row x
      pub puts_room : k + 40 ≤ length out
      puts_room = let r = p.room in let n = ap (λ (m : List R). length m) e in omega arith

      -- it is written
      pub puts_next : Forty ok rec → {o : List ℕ} → o ≡ put out k (encode (rec x)) → Puts ok rec whole o (k + 40) l'
      puts_next forty {o} f =
          let h = subst (All ok) e p.each in
          let r = p.room in
          let n = ap (λ (m : List R). length m) e in
          let b = forty x h.0 in
          let t = rows_length rec forty l' h.1 in
          let same : length o ≡ length out = ap (λ (b : List ℕ). length b) f ∙ put_length out k (encode (rec x)) (omega arith) in
          record {
            each = h.1;
            room = omega arith;
            rest = p.rest ∙ ap (λ (m : List R). put out k (bytes_of (map rec m))) e
                ∙ sym (put_put out k (encode (rec x)) (bytes_of (map rec l')) (omega arith))
                ∙ ap (λ (j : ℕ). put (put out k (encode (rec x))) (k + j) (bytes_of (map rec l'))) b
                ∙ ap (λ (q : List ℕ). put q (k + 40) (bytes_of (map rec l'))) (sym f);
          }
