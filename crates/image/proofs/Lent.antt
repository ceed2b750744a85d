-- The columns of sound tables, as lookups are lent them: long enough, in order, and in them is what is in the table. Assumes nothing.
use mathlib.Core.Path.{◌≡◌, refl, sym, ap, ap₂, subst, ◌∙◌}
use mathlib.Core.Bool.{Bool}
use mathlib.Core.List.{List}
use Prim.Native.Nat.{ℕ, zero, suc, ◌-◌, ◌≤◌, ◌<◌}
use native.Mathlib.Omega.{arith}
use lib.Dec.{ltb}
use lib.ListN.{length, take, get_or, replicate, length-map, length-append}
use lib.Seq.{take_at, get_or-take, length-take-le}
use Rattle.laws.specs.Slots.{slots, All}
use Rattle.laws.proofs.Fill.{is_fits, held_full, held_each}
use Rattle.path.specs.declared.Path.{Path}
use Rattle.path.specs.Address.{Address}
use Rattle.path.specs.Packed.{number}
use Rattle.path.specs.View.{steps, PathSound, key_of}
use Rattle.path.proofs.Structs.{path_valid}
use Rattle.model.specs.Things as things
use Rattle.model.specs.Moves.{owner_in, attribute_in}
use Rattle.model.specs.Image.{there}
use Rattle.tables.specs.View.{Nodes}
use Rattle.tables.specs.View.{Attributes}
use Rattle.tables.specs.View.{AtPath, Fits, view_nodes, nodes_of, NodesSound, view_attributes, attributes_of, AttributesSound, no_attribute}
use Rattle.tables.proofs.Rows.{view_nodes_lem, view_attributes_lem, attribute_path, attributes_held}
use Rattle.tables.proofs.Tables.{nodes_count, attributes_count}
use Rattle.tables.proofs.Places.{nodes_searched, attributes_searched}
use Rattle.image.specs.Columns.{Rises, NoneAbove, among, before_pair, pair_among, keys_of, objects_of, node_fits_among}
use Rattle.tables.specs.declared.Attribute.{Attribute}
use Rattle.image.specs.Rows.{NoneAfter, node_fits_in, PathsSound, from_end, attribute_tests}
use Rattle.image.proofs.Keys.{number_key, key_of_row, keys_none, keys_rise, object_of, objects_rise, key_among, object_among, node_fits_among_lem}

-- any column that fills the first of n slots
column_is : {A : Type 0} (d : A) (n : ℕ) (l : List A) (keys : List A) (c : ℕ) → keys ≡ slots n d l → c ≡ length l → take c keys ≡ l
column_is d n l keys c e f = ap (take c) e ∙ take_at l (replicate (n - length l) d) c (sym f)

column_long : {A : Type 0} (d : A) (n : ℕ) (l : List A) (keys : List A) (c : ℕ) → keys ≡ slots n d l → c ≡ length l → c ≤ length keys
column_long d n l keys c e f = let m = ap length e ∙ length-append l (replicate (n - length l) d) in omega arith

-- ---- nodes
module _ (t : Nodes) (h : NodesSound t) (keys : List ℕ) (e : keys ≡ slots 64 0 (keys_of (view_nodes t))) where
  nodes_at : All AtPath (view_nodes t)
  nodes_at = (is_fits nodes_of view_nodes view_nodes_lem (Fits things.before_node 64) t h).each

  many : t.count ≡ length (keys_of (view_nodes t))
  many = nodes_count t h ∙ sym (length-map (view_nodes t) key_of_row)

  nodes_column : take t.count keys ≡ keys_of (view_nodes t)
  nodes_column = column_is 0 64 (keys_of (view_nodes t)) keys t.count e many

  pub keys_long : t.count ≤ length keys
  keys_long = column_long 0 64 (keys_of (view_nodes t)) keys t.count e many

  pub keys_ascend : Rises ltb (take t.count keys)
  keys_ascend = subst (Rises ltb) (sym nodes_column) (let q = nodes_searched h in keys_rise q.keyed (view_nodes t) nodes_at q.ascend)

  pub keys_below : {p : Path} → PathSound p → NoneAfter (steps p) (view_nodes t) → NoneAbove (number (steps p)) (take t.count keys)
  keys_below {p} s n = subst (NoneAbove (number (steps p))) (sym nodes_column) (keys_none (steps p) (path_valid s) (view_nodes t) nodes_at n)

  pub fits_by_keys : (p : Address) → node_fits_among p (take t.count keys) ≡ node_fits_in p (view_nodes t)
  fits_by_keys p = ap (node_fits_among p) nodes_column ∙ node_fits_among_lem p (view_nodes t)

  pub there_by_keys : (p : Path) → PathSound p → among (key_of p) (take t.count keys) ≡ there (owner_in (steps p) (view_nodes t))
  there_by_keys p s = ap₂ among (number_key p s) nodes_column ∙ key_among (steps p) (view_nodes t)

-- ---- attributes
pub there_by_rows : (t : Attributes) (p : Path) → PathSound p → (n : ℕ) → pair_among (key_of p, n) (objects_of (view_attributes t)) ≡ there (attribute_in (steps p) n (view_attributes t))
there_by_rows t p s n = ap (λ k. pair_among (k, n) (objects_of (view_attributes t))) (number_key p s) ∙ object_among (steps p) n (view_attributes t)

module _ (t : Attributes) (h : AttributesSound t) (o : List (ℕ × ℕ)) (e : o ≡ slots 256 (0, 0) (objects_of (view_attributes t))) where
  attributes_at : All AtPath (view_attributes t)
  attributes_at = (is_fits attributes_of view_attributes view_attributes_lem (Fits things.before_attribute 256) t h).each

  objects : t.count ≡ length (objects_of (view_attributes t))
  objects = attributes_count t h ∙ sym (length-map (view_attributes t) object_of)

  objects_column : take t.count o ≡ objects_of (view_attributes t)
  objects_column = column_is (0, 0) 256 (objects_of (view_attributes t)) o t.count e objects

  pub objects_long : t.count ≤ length o
  objects_long = column_long (0, 0) 256 (objects_of (view_attributes t)) o t.count e objects

  pub objects_ascend : Rises before_pair (take t.count o)
  objects_ascend = subst (Rises before_pair) (sym objects_column) (let q = attributes_searched h in objects_rise q.keyed (view_attributes t) attributes_at q.ascend)

  pub there_by_objects : (p : Path) → PathSound p → (n : ℕ) → pair_among (key_of p, n) (take t.count o) ≡ there (attribute_in (steps p) n (view_attributes t))
  there_by_objects p s n = ap (pair_among (key_of p, n)) objects_column ∙ there_by_rows t p s n

-- ---- the first n rows of a table of attributes
pub paths_taken : (t : Attributes) → AttributesSound t → PathsSound (take t.count t.rows)
paths_taken t h i c =
    let held = attributes_held t h in
    let n = length-take-le t.count t.rows (held_full _ _ _ _ _ _ held) in
    let less : i < t.count = omega arith in
    subst (λ (a : Attribute). PathSound a.path) (sym (get_or-take t.count t.rows i no_attribute less)) (attribute_path (held_each _ _ _ _ _ _ held i no_attribute less))

pub tests_taken : (node : Bool) (rows : List Attribute) (n : ℕ) (p : Path) (name : ℕ) → n ≤ length rows
    → attribute_tests node (length (take n rows)) (from_end 1 (take n rows)) (from_end 16 (take n rows)) p name ≡ attribute_tests node n (get_or rows (n - 1) no_attribute) (get_or rows (n - 16) no_attribute) p name
tests_taken node rows n p name h =
    ap (λ m. attribute_tests node m (get_or (take n rows) (m - 1) no_attribute) (get_or (take n rows) (m - 16) no_attribute) p name) (length-take-le n rows h) ∙ go n
  where
    go : (m : ℕ) → attribute_tests node m (get_or (take m rows) (m - 1) no_attribute) (get_or (take m rows) (m - 16) no_attribute) p name ≡ attribute_tests node m (get_or rows (m - 1) no_attribute) (get_or rows (m - 16) no_attribute) p name
    go zero = refl
    go (suc m) =
        ap₂ (λ (a b : Attribute). attribute_tests node (suc m) a b p name) (get_or-take (suc m) rows (suc m - 1) no_attribute (omega arith)) (get_or-take (suc m) rows (suc m - 16) no_attribute (omega arith))
