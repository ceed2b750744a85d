-- An image loads alike into a tree and into its tables: the same first bad record, or the tables of the tree. Assumes nothing.
use mathlib.Core.Path.{◌≡◌, refl, ap, ◌∙◌}
use mathlib.Core.Bool.{Bool, true, false, not, ◌||◌}
use mathlib.Core.Option.{Option, none, some, map}
use mathlib.Core.List.{List, [], ◌∷◌}
use Prim.Native.Nat.{ℕ, suc, ◌/◌, ◌%◌}
use lib.Dec.{T, eqb, ltb}
use lib.ListN.{length}
use Rattle.laws.specs.Slots.{pick}
use Rattle.laws.specs.Order.{lt_list}
use Rattle.model.specs.Things.{Dossier}
use Rattle.model.specs.Image as images
use Rattle.model.specs.Image.{Record, in_range, decode, records, Loaded, bad, good, next, scan, load_from, no_records}
use Rattle.roundtrip.proofs.Records.{decode_good}
use Rattle.roundtrip.proofs.Scan.{nexted}
use Rattle.twin.specs.Tree.{Tree}
use Rattle.twin.specs.Twin.{Node, accept, load_tree}
use Rattle.twin.proofs.SameRecord.{SoFar, tables_of, accept_same}
use Rattle.twin.proofs.KeepLoad.{Whole, so_far, accept_keeps}

abbrev pub loaded_of : Loaded (Option (Tree Node)) → Loaded Dossier
loaded_of (bad n) = bad n
loaded_of (good t) = good (tables_of t)

-- ---- any two ways of taking a record, on tables and on trees, that agree, the one on trees keeping them good
module _
    (take : Dossier → Record → Option Dossier) (grow : Option (Tree Node) → Record → Option (Option (Tree Node)))
    (same : (t : Option (Tree Node)) (r : Record) → SoFar t → T (in_range r) → take (tables_of t) r ≡ map tables_of (grow t r))
    (keeps : (t : Option (Tree Node)) (r : Record) (u : Option (Tree Node)) → T (in_range r) → grow t r ≡ some u → SoFar t → Whole u) where
  next_same : (prev : List ℕ) (t : Option (Tree Node)) (b : List ℕ) → SoFar t → next take prev (tables_of t) b ≡ map tables_of (next grow prev t b)
  next_same prev t b g = go (lt_list ltb prev b) (decode b) (decode_good b)
    where
      go : (c : Bool) (o : Option Record) → ((r : Record) → o ≡ some r → T (in_range r))
          → pick c (elim o [ none ↦ none | some r ↦ take (tables_of t) r ]) none ≡ map tables_of (pick c (elim o [ none ↦ none | some r ↦ grow t r ]) none)
      go true none f = refl
      go true (some r) f = same t r g (f r refl)
      go false o f = refl

  scan_same : (i : ℕ) (prev : List ℕ) (t : Option (Tree Node)) (l : List (List ℕ)) → SoFar t → scan take i prev (tables_of t) l ≡ loaded_of (scan grow i prev t l)
  scan_same i prev t [] g = refl
  scan_same i prev t (b ∷ l) g =
      ap (λ (o : Option Dossier). elim o as (λ x. Loaded Dossier) [ none ↦ bad i | some e ↦ scan take (suc i) b e l ]) (next_same prev t b g)
      ∙ go (next grow prev t b) (λ e d. scan_same (suc i) b e l (let w = (nexted grow prev t e b d).1 in so_far e (keeps t w.0 e (decode_good b w.0 w.1) w.2 g)))
    where
      go : (o : Option (Option (Tree Node))) → ((e : Option (Tree Node)) → o ≡ some e → scan take (suc i) b (tables_of e) l ≡ loaded_of (scan grow (suc i) b e l))
          → elim (map tables_of o) [ none ↦ bad i | some e ↦ scan take (suc i) b e l ] ≡ loaded_of (elim o [ none ↦ bad i | some e ↦ scan grow (suc i) b e l ])
      go none f = refl
      go (some e) f = f e refl

  pub loads_same : (b : List ℕ) → load_from take no_records b ≡ loaded_of (load_from grow none b)
  loads_same b = go (eqb (length b) 0 || (not (eqb (length b % 40) 0) || ltb 17920 (length b)))
    where
      go : (c : Bool) → pick c (bad 0) (scan take 1 [] no_records (records (length b / 40) b)) ≡ loaded_of (pick c (bad 0) (scan grow 1 [] none (records (length b / 40) b)))
      go true = refl
      go false = scan_same 1 [] none (records (length b / 40) b) tt

pub load_same : (b : List ℕ) → images.load b ≡ loaded_of (load_tree b)
load_same = loads_same images.accept accept accept_same accept_keeps
