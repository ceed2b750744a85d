-- The records of a sound dossier are accepted in turn: what a record needs is earlier in the image. Assumes nothing.
use mathlib.Core.Path.{◌≡◌, refl, sym, ap, subst, ◌∙◌}
use mathlib.Core.Bool.{Bool, true, false, not, ◌&&◌, ◌||◌}
use mathlib.Core.Option.{Option, some}
use mathlib.Core.List.Memᴰ
use mathlib.Core.List.{List, [], ◌∷◌, ◌++◌, map, append-nil, append_assoc}
use Prim.Native.Nat.{ℕ, suc, ◌+◌, ◌-◌, ◌≤◌, ◌<◌}
use native.Mathlib.Omega.{arith}
use lib.Dec.{T, eqb, leb, ltb, leb→le, lt→ltb, not_T}
use lib.ListN.{length, length-append, length-map}
use mir.Facts.{and_yes, yes_and}
use Rattle.laws.specs.Sorted.{◌∈◌, StrictOrder, Sorted, insert, move}
use Rattle.laws.proofs.Order.{nat_order, lex2_left, lex2_right}
use Rattle.path.specs.Address.{Address, steps_good, valid, before, parent, last, child}
use Rattle.path.proofs.Laws.{address_order, child_parent}
use Rattle.model.specs.Things.{Attribute, Permission, Row, Dossier, before_node, before_attribute, before_permission}
use Rattle.model.specs.Decide.{clash}
use Rattle.model.specs.Moves.{at, permissions_for, node_at, attribute_at, names_on, grant_row}
use Rattle.model.specs.Refusals.{is_root}
use Rattle.model.specs.Image.{Record, node_record, attribute_record, permission_record, left, there, accept, good, no_records, load, records_of, save}
use Rattle.model.specs.Sound.{Sound}
use Rattle.roundtrip.proofs.Checks.{or_else, or_both}
use Rattle.roundtrip.proofs.Orders.{nodes_order, attributes_order, permissions_order}
use Rattle.roundtrip.proofs.Prefix.{insert_last, cut_here, cut_before, cut_room, cut_less, less_cut, cut_once, move_longer}
use Rattle.roundtrip.proofs.Clash.{clash_none}
use Rattle.roundtrip.proofs.Bytes.{less, append_same}
use Rattle.roundtrip.proofs.Records.{path_valid}
use Rattle.roundtrip.proofs.Scan.{Ranges, ranges_map, ranges_append, Runs, runs_append}
use Rattle.roundtrip.proofs.Images.{load_runs}
use Rattle.roundtrip.proofs.Ascend.{records_ascend}
use Rattle.roundtrip.proofs.Found.{at_self, node_in_lem, node_there, attribute_in_lem, grant_in_lem, object_kept, fits_in, accept_yes}

-- ---- the records of one table, in order: each finds the rows before it
module _ {X D : Type 0} (accept : D → Record → Option D) (state : List X → D) (rec : X → Record) {lt : X → X → Bool} (o : StrictOrder lt) (rows : List X) (s : Sorted lt rows)
    (f : (l : List X) (x : X) (m : List X) → l ++ (x ∷ m) ≡ rows → accept (state l) (rec x) ≡ some (state (insert lt x l))) where
  from : (l m : List X) → l ++ m ≡ rows → Runs accept (state l) (map rec m) (state rows)
  from l [] e = ap state (sym (append-nil l) ∙ e)
  from l (x ∷ m) e = (
    state (l ++ (x ∷ [])),
    f l x m e ∙ ap (λ (k : List X). some (state k)) (insert_last o x l (cut_less l x m e o s)),
    from (l ++ (x ∷ [])) m (append_assoc l (x ∷ []) m ∙ e),
  )

  pub table_runs : Runs accept (state []) (map rec rows) (state rows)
  table_runs = from [] rows refl

-- ---- a node's parent and left sibling are earlier
parent_before : (p : Address) → (T (is_root p) → ⊥) → T (before (parent p) p)
parent_before [] n = absurd (n tt)
parent_before (k ∷ q) n =
    let r = k ∷ q in
    let e : length (child (parent r) (last r)) ≡ suc (length q) = ap (λ (x : Address). length x) (child_parent k q) in
    let d = length-append (parent r) (last r ∷ []) in
    lex2_left ltb nat_order (length (parent r)) (length r) (less (parent r) r) (lt→ltb (length (parent r)) (length r) (omega arith))

child_before : (q : Address) (a b : ℕ) → a < b → T (before (child q a) (child q b))
child_before q a b h =
    lex2_right ltb nat_order (length (child q a)) (length (child q b)) (less (child q a) (child q b)) (length-append q (a ∷ []) ∙ sym (length-append q (b ∷ [])))
    (append_same q (a ∷ []) (b ∷ []) (lex2_left ltb nat_order a b false (lt→ltb a b h)))

-- the last step of a path is 1..32
pub last_good : (k : ℕ) (q : Address) → T (steps_good (k ∷ q)) → (1 ≤ last (k ∷ q)) × (last (k ∷ q) ≤ 32)
last_good k [] t = let w = and_yes (leb 1 k) (leb k 32) (and_yes (leb 1 k && leb k 32) true t).0 in (leb→le 1 k w.0, leb→le k 32 w.1)
last_good k (j ∷ q) t = last_good j q (and_yes (leb 1 k && leb k 32) (steps_good (j ∷ q)) t).1

left_before : (p : Address) → T (valid p) → (T (is_root p) → ⊥) → T (before (left p) p)
left_before [] v n = absurd (n tt)
left_before (k ∷ q) v n =
    let r = k ∷ q in
    let h : 1 ≤ last r = (last_good k q (and_yes (leb (length r) 6) (steps_good r) v).1).0 in
    subst (λ (x : Address). T (before (left r) x)) (child_parent k q) (child_before (parent r) (last r - 1) (last r) (omega arith))

-- ---- a sound dossier
module _ (d : Dossier) (s : Sound d) where
  with_nodes : List (Row ℕ) → Dossier
  with_nodes l = record { nodes = l; attributes = []; permissions = [] }

  with_attributes : List (Row Attribute) → Dossier
  with_attributes l = record { nodes = d.nodes; attributes = l; permissions = [] }

  with_permissions : List (Row (ℕ × Permission)) → Dossier
  with_permissions l = record { nodes = d.nodes; attributes = d.attributes; permissions = l }

  node_accepted : (l : List (Row ℕ)) (r : Row ℕ) (m : List (Row ℕ)) → l ++ (r ∷ m) ≡ d.nodes → accept (with_nodes l) (node_record r) ≡ some (with_nodes (insert before_node r l))
  unfolding with_nodes
  node_accepted l r m e =
      accept_yes st (node_record r)
      (yes_and (not (there (node_at p st))) ((is_root p || (there (node_at (parent p) st) && (eqb (last p) 1 || there (node_at (left p) st)))) && ltb (length l) 64)
      (not_T (there (node_at p st)) second)
      (yes_and (is_root p || (there (node_at (parent p) st) && (eqb (last p) 1 || there (node_at (left p) st)))) (ltb (length l) 64)
      (or_both (is_root p) (there (node_at (parent p) st)) (eqb (last p) 1 || there (node_at (left p) st))
      (or_else (is_root p) (there (node_at (parent p) d)) (there (node_at (parent p) st)) (λ n t. earlier (parent p) (parent_before p n) t) (s.above r in_d))
      (or_else (is_root p) (eqb (last p) 1 || there (node_at (left p) d)) (eqb (last p) 1 || there (node_at (left p) st))
      (λ n. or_else (eqb (last p) 1) (there (node_at (left p) d)) (there (node_at (left p) st)) (λ k t. earlier (left p) (left_before p (path_valid (node_record r) (s.nodes_good r in_d)) n) t))
      (s.left_there r in_d)))
      (cut_room l r m e 64 s.few_nodes)))
    where
      p : Address
      p = r.0

      st : Dossier
      st = with_nodes l

      in_d : r ∈ d.nodes
      in_d = cut_here l r m e

      -- a node that is before r in order is before it in the image
      earlier : (q : Address) → T (before q p) → T (there (node_at q d)) → T (there (node_at q st))
      earlier q b t =
          let w = node_in_lem q d t in
          node_there q w.0 st (less_cut l r m e nodes_order s.nodes_ascend (q, w.0) (lex2_left before address_order q p (ltb w.0 r.1) b) w.1)

      second : T (there (node_at p st)) → ⊥
      second t =
          let w = node_in_lem p st t in
          let z = s.one_node p r.1 w.0 in_d (cut_before l r m e (p, w.0) w.1) in
          cut_once l r m e nodes_order s.nodes_ascend (Memᴰ.cast (λ i. (p, z i)) w.1)

  attribute_accepted : (l : List (Row Attribute)) (r : Row Attribute) (m : List (Row Attribute)) → l ++ (r ∷ m) ≡ d.attributes
      → accept (with_attributes l) (attribute_record r) ≡ some (with_attributes (insert before_attribute r l))
  unfolding with_attributes
  attribute_accepted l r m e =
      accept_yes st (attribute_record r)
      (yes_and (there (node_at p st)) (not (there (attribute_at p n st)) && (ltb (length l) 256 && ltb (length (names_on p st)) 16)) on_node
      (yes_and (not (there (attribute_at p n st))) (ltb (length l) 256 && ltb (length (names_on p st)) 16) (not_T (there (attribute_at p n st)) second)
      (yes_and (ltb (length l) 256) (ltb (length (names_on p st)) 16) (cut_room l r m e 256 s.few_attributes) few_here)))
    where
      p : Address
      p = r.0

      n : ℕ
      n = r.1.name

      st : Dossier
      st = with_attributes l

      in_d : r ∈ d.attributes
      in_d = cut_here l r m e

      on_node : T (there (node_at p st))
      on_node = let w = node_in_lem p d (s.on_node r in_d) in node_there p w.0 st w.1

      second : T (there (attribute_at p n st)) → ⊥
      second t =
          let w = attribute_in_lem p n st t in
          let z = s.one_attribute p r.1 w.0 in_d (cut_before l r m e (p, w.0) w.1) (sym w.2) in
          cut_once l r m e attributes_order s.attributes_ascend (Memᴰ.cast (λ i. (p, z i)) w.1)

      few_here : T (ltb (length (names_on p st)) 16)
      few_here =
          let h = move_longer (at p) l r r.1 m (at_self p r.1) in
          let k : length (move (at p) (l ++ (r ∷ m))) ≡ length (move (at p) d.attributes) = ap (λ (x : List (Row Attribute)). length (move (at p) x)) e in
          let b = s.few_on_node p in
          let i = length-map (move (at p) l) (λ (a : Attribute). a.name) in
          let j = length-map (move (at p) d.attributes) (λ (a : Attribute). a.name) in
          lt→ltb (length (names_on p st)) 16 (omega arith)

  permission_accepted : (l : List (Row (ℕ × Permission))) (r : Row (ℕ × Permission)) (m : List (Row (ℕ × Permission))) → l ++ (r ∷ m) ≡ d.permissions
      → accept (with_permissions l) (permission_record r) ≡ some (with_permissions (insert before_permission r l))
  unfolding with_permissions
  permission_accepted l r m e =
      accept_yes st (permission_record r)
      (fits_in g (length l) p n st (object_kept p n d st (λ o h. h) (λ a h. h) (s.on_object r in_d)) (clash_none g (permissions_for p n st) clear) (cut_room l r m e 128 s.few_permissions))
    where
      p : Address
      p = r.0

      n : ℕ
      n = r.1.0

      g : Permission
      g = r.1.1

      st : Dossier
      st = with_permissions l

      in_d : r ∈ d.permissions
      in_d = cut_here l r m e

      clear : (h : Permission) → h ∈ permissions_for p n st → T (clash g h) → ⊥
      clear h k t =
          let w = grant_in_lem p n h st k in
          let z = s.no_clash p n g h in_d (cut_before l r m e (grant_row p n h) w) t in
          cut_once l r m e permissions_order s.permissions_ascend (Memᴰ.cast (λ i. grant_row p n (z i)) w)

  sound_runs : Runs accept no_records (records_of d) d
  unfolding with_nodes with_attributes with_permissions
  sound_runs =
      runs_append accept (map node_record d.nodes) (map attribute_record d.attributes ++ map permission_record d.permissions) no_records (with_attributes []) d
      (table_runs accept with_nodes node_record nodes_order d.nodes s.nodes_ascend node_accepted)
      (runs_append accept (map attribute_record d.attributes) (map permission_record d.permissions) (with_attributes []) (with_permissions []) d
      (table_runs accept with_attributes attribute_record attributes_order d.attributes s.attributes_ascend attribute_accepted)
      (table_runs accept with_permissions permission_record permissions_order d.permissions s.permissions_ascend permission_accepted))

-- ---- the records of a sound dossier are in their ranges, at least 1 and at most 448
sound_ranges : (d : Dossier) → Sound d → Ranges (records_of d)
sound_ranges d s =
    ranges_append (map node_record d.nodes) (map attribute_record d.attributes ++ map permission_record d.permissions) (ranges_map node_record d.nodes s.nodes_good)
    (ranges_append (map attribute_record d.attributes) (map permission_record d.permissions) (ranges_map attribute_record d.attributes s.attributes_good)
    (ranges_map permission_record d.permissions s.permissions_good))

records_count : (d : Dossier) → length (records_of d) ≡ length d.nodes + (length d.attributes + length d.permissions)
records_count d =
    let a = length-append (map node_record d.nodes) (map attribute_record d.attributes ++ map permission_record d.permissions) in
    let b = length-append (map attribute_record d.attributes) (map permission_record d.permissions) in
    let i = length-map d.nodes node_record in
    let j = length-map d.attributes attribute_record in
    let k = length-map d.permissions permission_record in
    omega arith

some_row : {A : Type 0} {x : A} {l : List A} → x ∈ l → 0 < length l
some_row (Memᴰ.head e) = omega arith
some_row (Memᴰ.tail h) = omega arith

pub load_save : (d : Dossier) → Sound d → load (save d) ≡ good d
load_save d s =
    let c = records_count d in
    let h : 0 < length d.nodes = some_row (node_in_lem [] d s.root).1 in
    let x = s.few_nodes in
    let y = s.few_attributes in
    let z = s.few_permissions in
    load_runs accept no_records (records_of d) d (omega arith) (omega arith) (sound_ranges d s) (records_ascend d s) (sound_runs d s)
