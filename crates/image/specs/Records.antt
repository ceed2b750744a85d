-- The records of an image by their number, counted from 0, and how far an image is good.
use Rattle.std.specs.Prelude.{◌≡◌, List, [], ℕ, zero, suc, ◌+◌, ◌*◌, ◌<◌, ltb, take, drop}
use Rattle.std.proofs.Math.Option.{Option, none}
use Rattle.laws.specs.Slots.{pick}
use Rattle.laws.specs.Order.{lt_list}
use Rattle.model.specs.Things.{Dossier}
use Rattle.model.specs.Image.{Record, decode, accept, records, bad, good, scan, no_records}

abbrev pub record_bytes : ℕ → List ℕ → List ℕ
record_bytes k b = take 40 (drop (k * 40) b)

abbrev pub bytes_before : ℕ → List ℕ → List ℕ
bytes_before zero b = []
bytes_before (suc k) b = record_bytes k b

-- record k, where it ascends after the one before it
unfoldable pub record_at : ℕ → List ℕ → Option Record
record_at k b = pick (lt_list ltb (bytes_before k b) (record_bytes k b)) (decode (record_bytes k b)) none

-- the first k records are good, and d is what they hold
pub record Upto (b : List ℕ) (k : ℕ) (d : Dossier) : Type 0 where
  pub scanned : scan accept 1 [] no_records (records k b) ≡ good d

-- of n records, record k, which has number k + 1, is the first bad one
pub record Breaks (b : List ℕ) (n k : ℕ) : Type 0 where
  pub inside : k < n
  pub scanned : scan accept 1 [] no_records (records n b) ≡ bad (k + 1)

-- of n records, the first bad one has that number, counted from 1
pub record Blames (b : List ℕ) (n number : ℕ) : Type 0 where
  pub place : ℕ
  pub breaks : Breaks b n place
  pub counted : number ≡ place + 1
