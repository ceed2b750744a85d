-- A pass over a table that changes every row where it stands: the model's rows are mapped. For any rows, any struct around them. Assumes nothing.
use mathlib.Core.Path.{◌≡◌, sym, ap, ◌∙◌}
use mathlib.Core.List.{List, map}
use Prim.Native.Nat.{ℕ, ◌+◌, ◌<◌}
use native.Mathlib.Omega.{arith}
use lib.ListN.{length, take, drop, set, get_or}
use Rattle.laws.specs.Slots.{slots}
use Rattle.laws.proofs.Fill.{Held, held_room, row_end, is_seen}
use Rattle.laws.proofs.Inplace.{Packs, packs, pack_each, pack_next, pack, clears, packed, held_length}

module _ {S T M : Type 0} (mk : List S → ℕ → T) (of : M → S) (n : ℕ) (b : S) (v : S → M) (f : M → M) where
  -- the table (made of rows and a count by mk) that the pass leaves
  abbrev pub mapped : List S → ℕ → T
  mapped rows count = mk (slots n b (map of (map f (map v (take count rows))))) (length (map f (map v (take count rows))))

  -- the first i rows are changed
  abbrev pub Changes : List S → ℕ → List S → ℕ → Type 0
  Changes was count out i = Packs mk of n b was (mapped was count) out i i (map f (drop i (map v (take count was))))

  module _ {P : M → Type 0} {was : List S} {count : ℕ} (h : Held of P n b was count) where
    pub changes : Changes was count was 0
    changes = packs mk of n b was (map f (map v (take count was))) (held_length h)

    module _ {out : List S} {i : ℕ} (c : Changes was count out i) where
      -- the row at i is changed by g, which is f on what a row stands for
      pub change : ((m : M) → v (of m) ≡ m) → (g : S → S) → ((m : M) → g (of m) ≡ of (f m)) → (d : S) → i < count → Changes was count (set out i (g (get_or out i d))) (i + 1)
      change back g e d l =
          let s = pack_each c h d l in
          let room = held_room of P n b was count h in
          pack c (f (v (get_or out i d))) (map f (drop (i + 1) (map v (take count was)))) (g (get_or out i d)) (omega arith) (omega arith) (ap (map f) (pack_next c h d l v))
          (ap g s.same ∙ e s.model ∙ ap (λ m. of (f m)) (sym (is_seen of v back P (get_or out i d) s)))

      -- all of them are
      pub changed : i ≡ count → mk out i ≡ mapped was count
      changed e = packed h c (ap (map f) (row_end v was count i (omega arith))) (omega arith) (clears mk n b out i count c.full) e
