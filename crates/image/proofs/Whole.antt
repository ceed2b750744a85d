-- What an image loads as, from its length and from how far its records are good. Assumes nothing.
use mathlib.Core.Path.{◌≡◌, refl, sym, ap, ◌∙◌}
use mathlib.Core.Bool.{Bool, true, false, not, ◌||◌}
use mathlib.Core.List.{List, []}
use Prim.Native.Nat.{ℕ, ◌*◌, ◌/◌, ◌%◌, ◌≤◌}
use native.Mathlib.Omega.{arith}
use lib.Dec.{eqb, ltb}
use lib.ListN.{length}
use borrow.Author.Tests.{eqb-true, ltb-false}
use Rattle.std.proofs.Common.{Ok, Err}
use Rattle.laws.specs.Slots.{pick}
use Rattle.path.proofs.Structs.{no}
use Rattle.model.specs.Image.{accept, records, bad, scan, no_records, load}
use Rattle.roundtrip.proofs.Images.{bad_length}
use Rattle.tables.specs.View.{Nodes}
use Rattle.tables.specs.View.{Attributes}
use Rattle.tables.specs.View.{Permissions}
use Rattle.tables.proofs.Tables.{nodes_same, attributes_same, permissions_same}
use Rattle.image.specs.declared.BadRecord.{BadRecord}
use Rattle.image.specs.View.{loaded_of}
use Rattle.image.specs.Records.{Blames}
use Rattle.image.specs.Rows.{PermissionsUpto}

-- ---- the whole image
pub whole_records : (n : ℕ) → bad_length n ≡ false → n ≡ n / 40 * 40
whole_records n e = let m : n % 40 ≡ 0 = eqb-true (n % 40) 0 (go (eqb n 0) (eqb (n % 40) 0) (ltb 17920 n) e) in omega arith
  where
    go : (a b c : Bool) → (a || (not b || c)) ≡ false → b ≡ true
    go true b c e = no e
    go false true c e = refl
    go false false c e = no e

pub few_records : (n : ℕ) → bad_length n ≡ false → n / 40 ≤ 448
few_records n e = let m : n ≤ 17920 = ltb-false 17920 n (go (eqb n 0) (eqb (n % 40) 0) (ltb 17920 n) e) in omega arith
  where
    go : (a b c : Bool) → (a || (not b || c)) ≡ false → c ≡ false
    go true b c e = no e
    go false true c e = e
    go false false c e = no e

module _ (b : List ℕ) where
  pub length_bad : bad_length (length b) ≡ true → loaded_of (bad 0) ≡ loaded_of (load b)
  length_bad e = sym (ap loaded_of (ap (λ (t : Bool). pick t (bad 0) (scan accept 1 [] no_records (records (length b / 40) b))) e))

  module _ (e : bad_length (length b) ≡ false) where
    scans : load b ≡ scan accept 1 [] no_records (records (length b / 40) b)
    scans = ap (λ (t : Bool). pick t (bad 0) (scan accept 1 [] no_records (records (length b / 40) b))) e

    pub record_bad : {r : BadRecord} → Blames b (length b / 40) r.number → Err r ≡ loaded_of (load b)
    record_bad u = (λ i. Err (record { number = u.counted i })) ∙ ap loaded_of (sym (scans ∙ u.breaks.scanned))

    pub all_good : {nodes : Nodes} {attributes : Attributes} {permissions : Permissions} → PermissionsUpto b (length b / 40) (length b / 40) nodes attributes permissions
        → Ok (record { nodes = nodes; attributes = attributes; permissions = permissions }) ≡ loaded_of (load b)
    all_good {nodes} {attributes} {permissions} u =
        let x = nodes_same nodes u.on in
        let y = attributes_same attributes u.of in
        let z = permissions_same permissions u.sound in
        (λ i. Ok (record { nodes = x i; attributes = y i; permissions = z i })) ∙ ap loaded_of (sym (scans ∙ u.upto.scanned))
