-- What a function of rows gives, as the model has it. Assumes nothing.
use mathlib.Core.Path.{◌≡◌, refl, sym, ap, subst, ◌∙◌}
use mathlib.Core.Bool.{Bool, true, false, not}
use mathlib.Core.Option as math
use mathlib.Core.List.{List, ◌∷◌}
use Prim.Native.Nat.{ℕ, ◌+◌, ◌≤◌, ◌<◌}
use native.Mathlib.Omega.{arith}
use lib.ListN.{length, take, drop, set, get_or}
use lib.Seq.{length-take-le, get_or-take}
use Rattle.std.specs.Prelude.{Some, None}
use Rattle.laws.specs.Sorted.{move}
use Rattle.laws.proofs.Fill.{Held, held_room, held_full, held_each, held_next, Fills, turn, instead, done, row_end, is_seen}
use Rattle.path.specs.View.{steps, path_of, PathSound}
use Rattle.path.specs.declared.Path.{Path}
use Rattle.path.proofs.Structs.{view_path}
use Rattle.model.specs.Things.{Row}
use Rattle.model.specs.Moves.{keep}
use Rattle.tables.specs.declared.Table.{Table}
use Rattle.tables.specs.View.{AtPath}
use Rattle.rows.specs.Tables.{RowSound, given, Step, seen, table_of, table_with, TableSound}

module _ {S P : Type 0} (of : Row P → S) where
  pub gave : (o : math.Option (Row P)) {s : S} → given of o ≡ Some s → (y : Row P) × (o ≡ math.some y) × (s ≡ of y)
  gave math.none e = cc
  gave (math.some y) e = let w : of y ≡ _ = cc in (y, refl, sym w)

  pub gave_none : (o : math.Option (Row P)) → given of o ≡ None → o ≡ math.none
  gave_none math.none e = refl
  gave_none (math.some y) e = cc

module _ {P : Type 0} (g : Step P) (x : Row P) (l : List (Row P)) where
  pub one_more : {y : Row P} → g x ≡ math.some y → move g (x ∷ l) ≡ y ∷ move g l
  one_more e = rw e

  pub none_more : g x ≡ math.none → move g (x ∷ l) ≡ move g l
  none_more e = rw e

pub table_held : {S P : Type 0} (n : ℕ) (b : S) (of : Row P → S) (lt : P → P → Bool) (t : Table S n) → TableSound n b of lt t → Held of AtPath n b t.rows t.count
table_held n b of lt t h =
    record {
      model = h.model;
      rows_are = ap (λ (x : Table _ n). x.rows) h.same;
      count_is = ap (λ (x : Table _ n). x.count) h.same;
      room = h.fits.room;
      fits = h.fits.each;
    }

-- ---- a pass over a table: what k gives of the rows so far is stored
module _ {S P : Type 0} {n : ℕ} {b : S} {of : Row P → S} (view : S → Row P) {t : Table S n} (h : Held of AtPath n b t.rows t.count) where
  pub row_room : length (take t.count t.rows) ≤ n
  row_room = let size = length-take-le t.count t.rows (held_full of AtPath n b t.rows t.count h) in let room = held_room of AtPath n b t.rows t.count h in omega arith

  pub row_sound : (i : ℕ) (d x : S) → x ≡ get_or (take t.count t.rows) i d → i < length (take t.count t.rows) → RowSound of x
  row_sound i d x e c =
      let size = length-take-le t.count t.rows (held_full of AtPath n b t.rows t.count h) in
      let l : i < t.count = omega arith in
      subst (RowSound of) (sym (e ∙ get_or-take t.count t.rows i d l)) (held_each of AtPath n b t.rows t.count h i d l)

  module _ (k : Step P) where
    abbrev pub Filled : List S → ℕ → ℕ → Type 0
    Filled rows count i = Fills (table_with n) of (move k) n (table_of n b of (move k (seen view t))) rows count (drop i (seen view t))

    module _ {rows : List S} {count i : ℕ} (f : Filled rows count i) (d x : S) (e : x ≡ get_or (take t.count t.rows) i d) (c : i < length (take t.count t.rows)) where
      next : drop i (seen view t) ≡ view x ∷ drop (i + 1) (seen view t)
      next =
          let size = length-take-le t.count t.rows (held_full of AtPath n b t.rows t.count h) in
          let l : i < t.count = omega arith in
          held_next of AtPath n b t.rows t.count h view i d l ∙ ap (λ z. view z ∷ drop (i + 1) (seen view t)) (sym (e ∙ get_or-take t.count t.rows i d l))

      pub filled_more : {s : S} → count ≤ i → given of (k (view x)) ≡ Some s → Filled (set rows count s) (count + 1) (i + 1)
      filled_more {s} m a =
          let size = length-take-le t.count t.rows (held_full of AtPath n b t.rows t.count h) in
          let room = held_room of AtPath n b t.rows t.count h in
          let w = gave of (k (view x)) a in
          turn (table_with n) of (move k) n _ rows count f (view x) (drop (i + 1) (seen view t)) w.0 s (omega arith) next
          (one_more k (view x) (drop (i + 1) (seen view t)) w.1) w.2

      pub filled_past : given of (k (view x)) ≡ None → Filled rows count (i + 1)
      filled_past a =
          instead (table_with n) of (move k) n _ rows count f (drop (i + 1) (seen view t))
          (ap (move k) next ∙ none_more k (view x) (drop (i + 1) (seen view t)) (gave_none of (k (view x)) a))

    pub filled_end : {rows : List S} {count i : ℕ} → Filled rows count i → length (take t.count t.rows) ≤ i → table_with n rows count ≡ table_of n b of (move k (seen view t))
    filled_end {rows} {count} {i} f c =
        let size = length-take-le t.count t.rows (held_full of AtPath n b t.rows t.count h) in
        done (table_with n) of (move k) n _ rows count f (row_end view t.rows t.count i (omega arith)) refl

-- ---- a sound row: its path, and where its path goes
module _ {S P : Type 0} {of : Row P → S} (view : S → Row P) (back : (r : Row P) → view (of r) ≡ r) {s : S} (h : RowSound of s) {p : Path} (e : (r : Row P) → s ≡ of r → p ≡ path_of r.0) where
  pub path_sound : PathSound p
  path_sound = record { model = h.model.0; same = e h.model h.same; fits = h.fits }

  pub path_steps : steps p ≡ (view s).0
  path_steps = ap steps (e h.model h.same) ∙ view_path h.model.0 ∙ ap (λ (r : Row P). r.0) (sym (is_seen of view back AtPath s h))

-- ---- a row kept or not, where a test says no or yes
pub so_not : {r b t : Bool} → r ≡ t → r ≡ b → not t ≡ not b
so_not e f = ap not (sym e ∙ f)

module _ {S P : Type 0} (of : Row P → S) (test : Row P → Bool) where
  pub kept : {x : Row P} {s : S} → s ≡ of x → test x ≡ true → Some s ≡ given of (keep test x)
  kept e t = rw t (ap Some e)

  pub dropped : (x : Row P) → test x ≡ false → None ≡ given of (keep test x)
  dropped x t = rw t refl
