-- One record more of each kind: it breaks the image, or the table with its row holds what is read. Assumes nothing.
use mathlib.Core.Path.{◌≡◌, refl, sym, ap, ap₂, subst, ◌∙◌}
use mathlib.Core.Bool.{Bool, true, false, not, ◌||◌}
use mathlib.Core.List.{List, [], ◌∷◌, ◌++◌}
use Prim.Native.Nat.{ℕ, suc, ◌+◌, ◌-◌, ◌<◌}
use native.Mathlib.Omega.{arith}
use lib.Dec.{T, ltb, leb, ltb→lt, lt→ltb}
use lib.ListN.{length, set, get_or, length-map, length-append}
use borrow.Author.Tests.{leb-false, lt-leb}
use borrow.Table.Steps.{cases}
use Rattle.laws.specs.Slots.{slots}
use Rattle.laws.specs.Sorted.{◌∈◌, nil}
use Rattle.laws.proofs.Fill.{slots_next}
use Rattle.path.specs.declared.Path.{Path}
use Rattle.path.specs.Address.{Address, parent}
use Rattle.path.specs.Packed.{number}
use Rattle.path.specs.View.{steps, PathSound, key_of}
use Rattle.path.proofs.Structs.{view_path, no}
use Rattle.path.proofs.Moves.{is_false}
use Rattle.model.specs.Things as things
use Rattle.model.specs.Things.{Row}
use Rattle.model.specs.Decide.{clash_any}
use Rattle.model.specs.Moves.{owner_in, attribute_in, names_in, permissions_in, object_at}
use Rattle.model.specs.Image.{good, node_record, attribute_record, permission_record, node_fits, attribute_fits, left, there}
use Rattle.roundtrip.proofs.Found.{fits, fits_in, fits_out}
use Rattle.std.proofs.Common.{Some}
use Rattle.tables.specs.declared.Node.{Node}
use Rattle.tables.specs.declared.Attribute.{Attribute}
use Rattle.tables.specs.declared.Permission.{Permission}
use Rattle.tables.specs.View.{Nodes}
use Rattle.tables.specs.View.{Attributes}
use Rattle.tables.specs.View.{Permissions}
use Rattle.tables.specs.View.{view_nodes, nodes_with, nodes_of, view_attributes, attributes_with, attributes_of, no_attribute, view_permissions, permissions_with, permissions_of, view_grant}
use Rattle.tables.specs.Places.{Object, before_object, of_attribute, of_permission}
use Rattle.tables.proofs.Rows.{view_nodes_lem, view_attributes_lem, view_permissions_lem}
use Rattle.tables.proofs.Tables.{nodes_none, attributes_none, nodes_count, attributes_count, permissions_count}
use Rattle.parse.specs.declared.Record.TheVariants as kinds
use Rattle.parse.specs.View.{record_of}
use Rattle.image.specs.Records.{record_at, Upto, Breaks, Blames}
use Rattle.image.specs.Rows.{NoneAfter, node_fits_in, attribute_fits_in, attribute_tests, NotOf, NodesUpto, NodesDone, AttributesUpto, AttributesDone, PermissionsUpto}
use Rattle.image.specs.Columns.{keys_of}
use Rattle.image.proofs.Keys.{key_of_row}
use Rattle.image.proofs.Steps.{breaks_none, breaks_fit, upto_more, upto_fits}
use Rattle.image.proofs.Stands.{IsNode, is_node, IsAttribute, is_attribute, IsPermission, is_permission, is_none, path_sound, no_node_after, no_attribute_after}
use Rattle.image.proofs.Behind.{node_behind, attribute_behind, attribute_path_behind, permission_behind}
use Rattle.image.proofs.Tests.{attribute_fit}
use Rattle.image.proofs.Stored.{map_one, node_stored, attribute_stored, permission_stored}
use Rattle.image.proofs.Lookups.{object_in, node_there, object_there}

one_more : (k : ℕ) → suc k ≡ k + 1
one_more k = omega arith

upto_one : {b : List ℕ} {k : ℕ} {d : things.Dossier} → Upto b (suc k) d → Upto b (k + 1) d
upto_one {b} {k} {d} u = subst (λ (j : ℕ). Upto b j d) (one_more k) u

pub blamed : {b : List ℕ} {n k : ℕ} → Breaks b n k → Blames b n (k + 1)
blamed {k = k} u = record { place = k; breaks = u; counted = refl }

-- nothing is read yet
pub nodes_begin : (b : List ℕ) (n : ℕ) {t : Nodes} → t ≡ nodes_of [] → NodesUpto b n 0 t
nodes_begin b n e =
    let w = nodes_none e in
    record { inside = omega arith; sound = w.0; upto = record { scanned = λ i. good (record { nodes = sym w.1 i; attributes = []; permissions = [] }) } }

-- no room, or a clash
over_not : (n : ℕ) (c : Bool) → (leb 128 n || c) ≡ true → T (not c) → T (ltb n 128) → ⊥
over_not n true e t l = t
over_not n false e t l = let f : n < 128 = ltb→lt n 128 l in no (sym e ∙ rw (lt-leb 128 n f))

under : (n : ℕ) (c : Bool) → (leb 128 n || c) ≡ false → T (not c) × T (ltb n 128)
under n c e = go (leb 128 n) refl c e
  where
    go : (a : Bool) → leb 128 n ≡ a → (c : Bool) → (a || c) ≡ false → T (not c) × T (ltb n 128)
    go true f c e = no e
    go false f true e = no e
    go false f false e = (tt, lt→ltb n 128 (leb-false 128 n f))

-- tests joined by "or"
three : (b c d : Bool) → (b || (not c || d)) ≡ false → (c ≡ true) × ((b || d) ≡ false)
three false true false e = (refl, refl)
three false true true e = no e
three false false d e = no e
three true c d e = no e

-- ---- nodes
module _ {b : List ℕ} {n k : ℕ} {t : Nodes} (u : NodesUpto b n k t) (s : Node) (e : Some (kinds.Node s) ≡ record_of (record_at k b)) where
  abbrev node : IsNode (record_at k b) s
  node = is_node (record_at k b) e

  node_at_lem : steps s.path ≡ node.row.0
  node_at_lem = ap (λ (a : Node). steps a.path) node.is ∙ view_path node.row.0

  pub node_path_sound : PathSound s.path
  node_path_sound = path_sound b k (node_record node.row) node.found (ap (λ (a : Node). a.path) node.is)

  pub node_none_after : NoneAfter (steps s.path) (view_nodes t)
  node_none_after = subst (λ (p : Address). NoneAfter p (view_nodes t)) (sym node_at_lem) (node_behind b k _ u.upto node.row node.found)

  node_test : node_fits_in (steps s.path) (view_nodes t) ≡ fits (record { nodes = view_nodes t; attributes = []; permissions = [] }) (node_record node.row)
  node_test =
      let d : things.Dossier = record { nodes = view_nodes t; attributes = []; permissions = [] } in
      ap (λ p. node_fits_in p (view_nodes t)) node_at_lem
      ∙ (λ i. node_fits node.row.0 (node_there node.row.0 d i) (node_there (parent node.row.0) d i) (node_there (left node.row.0) d i) (length (view_nodes t)))

  pub node_breaks : k < n → node_fits_in (steps s.path) (view_nodes t) ≡ false → Breaks b n k
  node_breaks c f = breaks_fit b k _ u.upto (node_record node.row) node.found n c (sym node_test ∙ f)

  abbrev pub with_node : Nodes
  with_node = nodes_with (set t.rows t.count s) (t.count + 1)

  module _ (f : node_fits_in (steps s.path) (view_nodes t) ≡ true) where
    more_nodes : Upto b (suc k) (record { nodes = view_nodes t ++ (node.row ∷ []); attributes = []; permissions = [] })
    more_nodes = upto_more b k _ u.upto (node_record node.row) node.found (subst T (sym (sym node_test ∙ f)) tt)

    pub node_room : t.count < 64
    node_room =
        let m = (upto_fits b (suc k) _ more_nodes).nodes.room in
        let a = nodes_count t u.sound in
        let l = length-append (view_nodes t) (node.row ∷ []) in
        omega arith

    stored_node : with_node ≡ nodes_of (view_nodes t ++ (node.row ∷ []))
    stored_node = node_stored t u.sound node_room node.row s node.is

    seen_node : view_nodes with_node ≡ view_nodes t ++ (node.row ∷ [])
    seen_node = ap view_nodes stored_node ∙ view_nodes_lem (view_nodes t ++ (node.row ∷ []))

    -- the column with the node's number, stored where its row is
    pub keys_more : {keys : List ℕ} {x : ℕ} → keys ≡ slots 64 0 (keys_of (view_nodes t)) → x ≡ key_of s.path → set keys t.count x ≡ slots 64 0 (keys_of (view_nodes with_node))
    keys_more q f =
        let c = nodes_count t u.sound ∙ sym (length-map (view_nodes t) key_of_row) in
        let m = node_room in
        ap₂ (λ l y. set l t.count y) q (f ∙ ap (λ (a : Node). key_of a.path) node.is)
        ∙ slots_next 64 0 (keys_of (view_nodes t)) (number node.row.0) t.count (omega arith) (sym c)
        ∙ ap (slots 64 0) (map_one key_of_row (view_nodes t) node.row ∙ ap keys_of (sym seen_node))

    pub nodes_more : k < n → NodesUpto b n (k + 1) with_node
    nodes_more c =
        let v = seen_node in
        record {
          inside = omega arith;
          sound = record { model = view_nodes t ++ (node.row ∷ []); same = stored_node; fits = (upto_fits b (suc k) _ more_nodes).nodes };
          upto = upto_one (subst (λ (l : List (Row ℕ)). Upto b (suc k) (record { nodes = l; attributes = []; permissions = [] })) (sym v) more_nodes);
        }

-- ---- attributes
pub attributes_begin : {b : List ℕ} {n k : ℕ} {nodes : Nodes} {t : Attributes} → NodesDone b n k nodes → t ≡ attributes_of [] → AttributesUpto b n k nodes t
attributes_begin {b} {n} {k} {nodes} u e =
    let w = attributes_none e in
    record {
      inside = u.read.inside;
      on = u.read.sound;
      sound = w.0;
      upto = subst (λ (l : List (Row things.Attribute)). Upto b k (record { nodes = view_nodes nodes; attributes = l; permissions = [] })) (sym w.1) u.read.upto;
      no_node = u.no_node;
    }

-- the answer of the code's tests: by the row i, which is the last, and the row j, 16 places before the end
abbrev pub answer_at : Nodes → Attributes → Path → ℕ → ℕ → ℕ → Bool
answer_at nodes t p name i j = attribute_tests (there (owner_in (steps p) (view_nodes nodes))) t.count (get_or t.rows i no_attribute) (get_or t.rows j no_attribute) p name

module _ {b : List ℕ} {n k : ℕ} {nodes : Nodes} {t : Attributes} (u : AttributesUpto b n k nodes t) (s : Attribute) (e : Some (kinds.Attribute s) ≡ record_of (record_at k b)) where
  abbrev whole : things.Dossier
  whole = record { nodes = view_nodes nodes; attributes = view_attributes t; permissions = [] }

  abbrev attribute : IsAttribute (record_at k b) s
  attribute = is_attribute (record_at k b) e

  attribute_at_lem : ◌≡◌ {A = Object} (steps s.path, s.name) (attribute.row.0, attribute.row.1.name)
  attribute_at_lem = let p = ap (λ (a : Attribute). steps a.path) attribute.is ∙ view_path attribute.row.0 in let m = ap (λ (a : Attribute). a.name) attribute.is in λ i. (p i, m i)

  pub attribute_path_sound : PathSound s.path
  attribute_path_sound = path_sound b k (attribute_record attribute.row) attribute.found (ap (λ (a : Attribute). a.path) attribute.is)

  abbrev pub attribute_answer : Bool
  attribute_answer = answer_at nodes t s.path s.name (t.count - 1) (t.count - 16)

  attribute_test : attribute_answer ≡ fits whole (attribute_record attribute.row)
  attribute_test =
      let o = attribute_at_lem in
      attribute_fit t u.sound (steps s.path) s.name
      (λ x m. subst (λ (y : Object). T (before_object y (of_attribute x)) → ⊥) (sym o) (attribute_behind b k whole u.upto attribute.row attribute.found x m))
      (subst (λ (y : Object). NoneAfter y.0 (view_attributes t)) (sym o) (attribute_path_behind b k whole u.upto attribute.row attribute.found))
      (there (owner_in (steps s.path) (view_nodes nodes)))
      ∙ ap (λ (y : Object). attribute_fits_in y.0 y.1 (view_nodes nodes) (view_attributes t)) o
      ∙ (λ i. attribute_fits (node_there attribute.row.0 whole i) (there (attribute_in attribute.row.0 attribute.row.1.name (view_attributes t))) (length (view_attributes t)) (length (names_in attribute.row.0 (view_attributes t))))

  pub attribute_breaks : k < n → attribute_answer ≡ false → Breaks b n k
  attribute_breaks c f = breaks_fit b k whole u.upto (attribute_record attribute.row) attribute.found n c (sym attribute_test ∙ f)

  abbrev pub with_attribute : Attributes
  with_attribute = attributes_with (set t.rows t.count s) (t.count + 1)

  module _ (f : attribute_answer ≡ true) where
    more_attributes : Upto b (suc k) (record { nodes = view_nodes nodes; attributes = view_attributes t ++ (attribute.row ∷ []); permissions = [] })
    more_attributes = upto_more b k whole u.upto (attribute_record attribute.row) attribute.found (subst T (sym (sym attribute_test ∙ f)) tt)

    pub attribute_room : t.count < 256
    attribute_room =
        let m = (upto_fits b (suc k) _ more_attributes).attributes.room in
        let a = attributes_count t u.sound in
        let l = length-append (view_attributes t) (attribute.row ∷ []) in
        omega arith

    stored_attribute : with_attribute ≡ attributes_of (view_attributes t ++ (attribute.row ∷ []))
    stored_attribute =
        attribute_stored t u.sound attribute_room attribute.row s attribute.is

    pub attributes_more : k < n → AttributesUpto b n (k + 1) nodes with_attribute
    attributes_more c =
        let v = ap view_attributes stored_attribute ∙ view_attributes_lem (view_attributes t ++ (attribute.row ∷ [])) in
        record {
          inside = omega arith;
          on = u.on;
          sound = record { model = view_attributes t ++ (attribute.row ∷ []); same = stored_attribute; fits = (upto_fits b (suc k) _ more_attributes).attributes };
          upto = upto_one (subst (λ (l : List (Row things.Attribute)). Upto b (suc k) (record { nodes = view_nodes nodes; attributes = l; permissions = [] })) (sym v) more_attributes);
          no_node = subst (NotOf kinds.Node b n) (one_more k) (no_node_after b n k (attribute_record attribute.row) attribute.found (omega arith));
        }

-- ---- permissions
pub permissions_begin : {b : List ℕ} {n k : ℕ} {nodes : Nodes} {attributes : Attributes} {t : Permissions} → AttributesDone b n k nodes attributes → t ≡ permissions_of []
    → PermissionsUpto b n k nodes attributes t
permissions_begin {b} {n} {k} {nodes} {attributes} {t} u e =
    let w : view_permissions t ≡ [] = ap view_permissions e ∙ view_permissions_lem [] in
    record {
      inside = u.read.inside;
      on = u.read.on;
      of = u.read.sound;
      sound = record { model = []; same = e; fits = record { room = omega arith; each = tt; ascend = nil } };
      upto = subst (λ (l : List (Row (ℕ × things.Permission))). Upto b k (record { nodes = view_nodes nodes; attributes = view_attributes attributes; permissions = l })) (sym w) u.read.upto;
      no_node = u.read.no_node;
      no_attribute = u.no_attribute;
    }

module _ {b : List ℕ} {n k : ℕ} {nodes : Nodes} {attributes : Attributes} {t : Permissions} (u : PermissionsUpto b n k nodes attributes t) where
  abbrev all : things.Dossier
  all = record { nodes = view_nodes nodes; attributes = view_attributes attributes; permissions = view_permissions t }

  -- no permission, and no other record either
  pub other_breaks : k < n → ((a : Permission) → record_of (record_at k b) ≡ Some (kinds.Permission a) → ⊥) → Breaks b n k
  other_breaks c f = breaks_none b k all u.upto n c (is_none (record_at k b) (u.no_node c) (u.no_attribute c) f)

  module _ (s : Permission) (e : Some (kinds.Permission s) ≡ record_of (record_at k b)) where
    abbrev permission : IsPermission (record_at k b) s
    permission = is_permission (record_at k b) e

    permission_at_lem : ◌≡◌ {A = Object} (steps s.path, s.name) (permission.row.0, permission.row.1.0)
    permission_at_lem = let p = ap (λ (a : Permission). steps a.path) permission.is ∙ view_path permission.row.0 in let m = ap (λ (a : Permission). a.name) permission.is in λ i. (p i, m i)

    -- of the rows that are there none is of an object that comes after the record's
    pub permission_none_after : (x : Row (ℕ × things.Permission)) → x ∈ view_permissions t → T (before_object (steps s.path, s.name) (of_permission x)) → ⊥
    permission_none_after x m = subst (λ (y : Object). T (before_object y (of_permission x)) → ⊥) (sym permission_at_lem) (permission_behind b k all u.upto permission.row permission.found x m)

    object_test : object_in (steps s.path) s.name all ≡ there (object_at permission.row.0 permission.row.1.0 all)
    object_test = ap (λ (y : Object). object_in y.0 y.1 all) permission_at_lem ∙ object_there permission.row.0 permission.row.1.0 all

    abbrev over : Bool
    over = leb 128 t.count || clash_any (view_grant s.grant) (permissions_in (steps s.path) s.name (view_permissions t))

    abbrev over_row : Bool
    over_row = leb 128 (length (view_permissions t)) || clash_any permission.row.1.1 (permissions_in permission.row.0 permission.row.1.0 (view_permissions t))

    over_test : over ≡ over_row
    over_test =
        let o = permission_at_lem in
        let c = permissions_count t u.sound in
        let g = ap (λ (a : Permission). view_grant a.grant) permission.is in
        λ i. leb 128 (c i) || clash_any (g i) (permissions_in (o i).0 (o i).1 (view_permissions t))

    breaks : k < n → (T (fits all (permission_record permission.row)) → ⊥) → Breaks b n k
    breaks c f = breaks_fit b k all u.upto (permission_record permission.row) permission.found n c (is_false _ f)

    parts : T (fits all (permission_record permission.row))
        → T (there (object_at permission.row.0 permission.row.1.0 all)) × T (not (clash_any permission.row.1.1 (permissions_in permission.row.0 permission.row.1.0 (view_permissions t)))) × T (ltb (length (view_permissions t)) 128)
    parts = fits_out permission.row.1.1 (length (view_permissions t)) permission.row.0 permission.row.1.0 all

    object_breaks : k < n → object_in (steps s.path) s.name all ≡ false → Breaks b n k
    object_breaks c f = breaks c (λ w. subst T (sym object_test ∙ f) (parts w).0)

    over_breaks : k < n → over ≡ true → Breaks b n k
    over_breaks c f = breaks c (λ w. over_not (length (view_permissions t)) (clash_any permission.row.1.1 (permissions_in permission.row.0 permission.row.1.0 (view_permissions t))) (sym over_test ∙ f) (parts w).1 (parts w).2)

    abbrev pub with_permission : Permissions
    with_permission = permissions_with (set t.rows t.count s) (t.count + 1)

    module _ (f : object_in (steps s.path) s.name all ≡ true) (g : over ≡ false) where
      fit : T (fits all (permission_record permission.row))
      fit =
          let x = permission.row in
          let w = under (length (view_permissions t)) (clash_any x.1.1 (permissions_in x.0 x.1.0 (view_permissions t))) (sym over_test ∙ g) in
          fits_in x.1.1 (length (view_permissions t)) x.0 x.1.0 all (subst T (sym (sym object_test ∙ f)) tt) w.0 w.1

      more_permissions : Upto b (suc k) (record { nodes = view_nodes nodes; attributes = view_attributes attributes; permissions = view_permissions t ++ (permission.row ∷ []) })
      more_permissions = upto_more b k all u.upto (permission_record permission.row) permission.found fit

      room_behind : t.count < 128
      room_behind =
          let m = (upto_fits b (suc k) _ more_permissions).permissions.room in
          let a = permissions_count t u.sound in
          let l = length-append (view_permissions t) (permission.row ∷ []) in
          omega arith

      stored_permission : with_permission ≡ permissions_of (view_permissions t ++ (permission.row ∷ []))
      stored_permission =
          permission_stored t u.sound room_behind permission.row s permission.is

      one_behind : k < n → PermissionsUpto b n (k + 1) nodes attributes with_permission
      one_behind c =
          let v = ap view_permissions stored_permission ∙ view_permissions_lem (view_permissions t ++ (permission.row ∷ [])) in
          record {
            inside = omega arith;
            on = u.on;
            of = u.of;
            sound = record { model = view_permissions t ++ (permission.row ∷ []); same = stored_permission; fits = (upto_fits b (suc k) _ more_permissions).permissions };
            upto = upto_one (subst (λ (l : List (Row (ℕ × things.Permission))). Upto b (suc k) (record { nodes = view_nodes nodes; attributes = view_attributes attributes; permissions = l })) (sym v) more_permissions);
            no_node = subst (NotOf kinds.Node b n) (one_more k) (no_node_after b n k (permission_record permission.row) permission.found (omega arith));
            no_attribute = subst (NotOf kinds.Attribute b n) (one_more k) (no_attribute_after b n k (permission_record permission.row) permission.found (omega arith));
          }

    pub permission_path_sound : PathSound s.path
    permission_path_sound = path_sound b k (permission_record permission.row) permission.found (ap (λ (a : Permission). a.path) permission.is)

    -- all that the code asks, in one test
    abbrev pub permission_answer : Bool
    permission_answer = leb 128 t.count || (not (object_in (steps s.path) s.name all) || clash_any (view_grant s.grant) (permissions_in (steps s.path) s.name (view_permissions t)))

    pub permission_breaks : k < n → permission_answer ≡ true → Breaks b n k
    permission_breaks c f =
        cases (object_in (steps s.path) s.name all)
        (λ o. over_breaks c (rw o at f))
        (λ o. object_breaks c o)

    module _ (f : permission_answer ≡ false) where
      parts_of : (object_in (steps s.path) s.name all ≡ true) × ((leb 128 t.count || clash_any (view_grant s.grant) (permissions_in (steps s.path) s.name (view_permissions t))) ≡ false)
      parts_of = three (leb 128 t.count) (object_in (steps s.path) s.name all) (clash_any (view_grant s.grant) (permissions_in (steps s.path) s.name (view_permissions t))) f

      pub permission_room : t.count < 128
      permission_room = let w = parts_of in room_behind w.0 w.1

      pub permissions_more : k < n → PermissionsUpto b n (k + 1) nodes attributes (permissions_with (set t.rows t.count s) (t.count + 1))
      permissions_more c = let w = parts_of in one_behind w.0 w.1 c
