-- A record is taken alike whoever owns what: the same records fit, and what they leave differs in its owners alone. Assumes nothing.
use mathlib.Core.Path.{◌≡◌, refl, sym, ap, ◌∙◌}
use mathlib.Core.Bool.{Bool, true, false, not}
use mathlib.Core.Option
use mathlib.Core.Option.{none, some}
use mathlib.Core.List.Memᴰ
use mathlib.Core.List.{List, [], ◌∷◌, map}
use Prim.Native.Nat.{ℕ}
use lib.Dec.{T, eqb, ltb, T_not}
use lib.ListN.{length, length-map}
use mir.Facts.{and_yes}
use Rattle.laws.specs.Slots.{pick}
use Rattle.laws.specs.Sorted.{◌∈◌, insert_by, insert, push, move}
use Rattle.laws.specs.Order.{lex, lt_list}
use Rattle.laws.proofs.Order.{nat_order}
use Rattle.path.specs.Address.{Address, same, before, parent}
use Rattle.path.proofs.Laws.{address_order}
use Rattle.model.specs.Things.{Attribute, Row, Dossier, code_value, lt_attribute, before_node, before_attribute}
use Rattle.model.specs.Moves.{at, head, called, owner_in, node_at, attribute_at, names_on}
use Rattle.model.specs.Image.{node_record, attribute_record, node_fits, attribute_fits, left, there, accept, with_owner, owned_node, owned_attribute, adding, all_owned}
use Rattle.roundtrip.proofs.Checks.{there_map}
use Rattle.roundtrip.proofs.Found.{node_there, attribute_there, fits, added}

-- ---- what stands at a path, each payload changed where it stands
abbrev on_payload : {P Q : Type 0} → (P → Q) → Row P → Row Q
on_payload h r = (r.0, h r.1)

at_map : {P Q : Type 0} (h : P → Q) (p : Address) (l : List (Row P)) → move (at p) (map (on_payload h) l) ≡ map h (move (at p) l)
at_map h p [] = refl
at_map {P} {Q} h p (r ∷ l) = go (same r.0 p) (at_map h p l)
  where
    go : (b : Bool) → move (at p) (map (on_payload h) l) ≡ map h (move (at p) l)
        → push (pick b (some (h r.1)) none) (move (at p) (map (on_payload h) l)) ≡ map h (push (pick b (some r.1) none) (move (at p) l))
    go true e = ap (λ (m : List Q). h r.1 ∷ m) e
    go false e = e

there_head_map : {A B : Type 0} (h : A → B) (l : List A) → there (head (map h l)) ≡ there (head l)
there_head_map h [] = refl
there_head_map h (x ∷ l) = refl

called_map : (u n : ℕ) (l : List Attribute) → move (called n) (map (with_owner u) l) ≡ map (with_owner u) (move (called n) l)
called_map u n [] = refl
called_map u n (a ∷ l) = go (eqb a.name n) (called_map u n l)
  where
    go : (b : Bool) → move (called n) (map (with_owner u) l) ≡ map (with_owner u) (move (called n) l)
        → push (pick b (some (with_owner u a)) none) (move (called n) (map (with_owner u) l)) ≡ map (with_owner u) (push (pick b (some a) none) (move (called n) l))
    go true e = ap (λ (m : List Attribute). with_owner u a ∷ m) e
    go false e = e

names_map : (u : ℕ) (l : List Attribute) → map (λ (a : Attribute). a.name) (map (with_owner u) l) ≡ map (λ (a : Attribute). a.name) l
names_map u [] = refl
names_map u (a ∷ l) = ap (λ (m : List ℕ). a.name ∷ m) (names_map u l)

-- ---- insert, under a map that keeps how what is inserted compares
insert_map : {A B : Type 0} (lt_a : A → A → Bool) (lt_b : B → B → Bool) (h : A → B) (x : A) (l : List A)
    → ((y : A) → y ∈ l → (lt_b (h x) (h y) ≡ lt_a x y) × (lt_b (h y) (h x) ≡ lt_a y x)) → insert lt_b (h x) (map h l) ≡ map h (insert lt_a x l)
insert_map lt_a lt_b h x [] f = refl
insert_map {A} {B} lt_a lt_b h x (y ∷ l) f =
    let w = f y (Memᴰ.head refl) in
    (λ i. insert_by (w.0 i) (w.1 i) (h x) (h y) (map h l) (insert_map lt_a lt_b h x l (λ z m. f z (Memᴰ.tail m)) i)) ∙ go (lt_a x y) (lt_a y x)
  where
    go : (a b : Bool) → insert_by a b (h x) (h y) (map h l) (map h (insert lt_a x l)) ≡ map h (insert_by a b x y l (insert lt_a x l))
    go true b = refl
    go false true = refl
    go false false = refl

-- the rest decides only where the first parts do not
lex_rest : (a b c d : Bool) → (T (not a) → T (not b) → c ≡ d) → lex a b c ≡ lex a b d
lex_rest true b c d f = refl
lex_rest false true c d f = refl
lex_rest false false c d f = f tt tt

module _ (u : ℕ) where
  -- rows at two paths
  nodes_compare : (r y : Row ℕ) → (r.0 ≡ y.0 → ⊥) → before_node (owned_node u r) (owned_node u y) ≡ before_node r y
  nodes_compare r y n =
      lex_rest (before r.0 y.0) (before y.0 r.0) (ltb u u) (ltb r.1 y.1) (λ a b. absurd (n (address_order.conn r.0 y.0 a b)))

  -- rows at two paths, or of two names
  attributes_compare : (r y : Row Attribute) → (r.0 ≡ y.0 → r.1.name ≡ y.1.name → ⊥) → before_attribute (owned_attribute u r) (owned_attribute u y) ≡ before_attribute r y
  attributes_compare r y n =
      lex_rest (before r.0 y.0) (before y.0 r.0) (lt_attribute (with_owner u r.1) (with_owner u y.1)) (lt_attribute r.1 y.1)
      (λ a b. lex_rest (ltb r.1.name y.1.name) (ltb y.1.name r.1.name)
      (lt_list ltb (u ∷ code_value r.1.value) (u ∷ code_value y.1.value)) (lt_list ltb (r.1.owner ∷ code_value r.1.value) (y.1.owner ∷ code_value y.1.value))
      (λ c d. absurd (n (address_order.conn r.0 y.0 a b) (nat_order.conn r.1.name y.1.name c d))))

  -- ---- what is there
  node_owned : (p : Address) (d : Dossier) → there (node_at p (all_owned u d)) ≡ there (node_at p d)
  node_owned p d =
      there_map _ (owner_in p (map (owned_node u) d.nodes))
      ∙ ap (λ (m : List ℕ). there (head m)) (at_map (λ (o : ℕ). u) p d.nodes)
      ∙ there_head_map (λ (o : ℕ). u) (move (at p) d.nodes)
      ∙ sym (there_map _ (owner_in p d.nodes))

  attribute_owned : (p : Address) (n : ℕ) (d : Dossier) → there (attribute_at p n (all_owned u d)) ≡ there (attribute_at p n d)
  attribute_owned p n d =
      ap (λ (m : List Attribute). there (head (move (called n) m))) (at_map (with_owner u) p d.attributes)
      ∙ ap (λ (m : List Attribute). there (head m)) (called_map u n (move (at p) d.attributes))
      ∙ there_head_map (with_owner u) (move (called n) (move (at p) d.attributes))

  names_owned : (p : Address) (d : Dossier) → names_on p (all_owned u d) ≡ names_on p d
  names_owned p d = ap (map (λ (a : Attribute). a.name)) (at_map (with_owner u) p d.attributes) ∙ names_map u (move (at p) d.attributes)

  -- ---- one record more
  taken : (b : Bool) (d e : Dossier) → (T b → d ≡ all_owned u e) → pick b (some d) none ≡ Option.map (all_owned u) (pick b (some e) none)
  taken true d e f = ap some (f tt)
  taken false d e f = refl

  pub node_taken : (d : Dossier) (r : Row ℕ) → adding u accept (all_owned u d) (node_record r) ≡ Option.map (all_owned u) (accept d (node_record r))
  node_taken d r =
      let m = length-map d.nodes (owned_node u) in
      let left_there = node_owned (left r.0) d in
      (λ i. pick (node_fits r.0 (node_owned r.0 d i) (node_owned (parent r.0) d i) (left_there i) (m i)) (some (added (all_owned u d) (node_record (owned_node u r)))) none)
      ∙ taken (fits d (node_record r)) (added (all_owned u d) (node_record (owned_node u r))) (added d (node_record r)) (λ t i. record {
        nodes = insert_map before_node before_node (owned_node u) r d.nodes (λ y h. (nodes_compare r y (apart t y h), nodes_compare y r (λ e. apart t y h (sym e)))) i;
        attributes = map (owned_attribute u) d.attributes;
        permissions = d.permissions;
      })
    where
      apart : T (fits d (node_record r)) → (y : Row ℕ) → y ∈ d.nodes → r.0 ≡ y.0 → ⊥
      apart t y h e =
          T_not (there (node_at r.0 d)) (and_yes (not (there (node_at r.0 d))) _ t).0 (node_there r.0 y.1 d (Memᴰ.cast (λ i. (e i, y.1)) h))

  pub attribute_taken : (d : Dossier) (r : Row Attribute) → adding u accept (all_owned u d) (attribute_record r) ≡ Option.map (all_owned u) (accept d (attribute_record r))
  attribute_taken d r =
      let m = length-map d.attributes (owned_attribute u) in
      let here = attribute_owned r.0 r.1.name d in
      (λ i. pick (attribute_fits (node_owned r.0 d i) (here i) (m i) (length (names_owned r.0 d i))) (some (added (all_owned u d) (attribute_record (owned_attribute u r)))) none)
      ∙ taken (fits d (attribute_record r)) (added (all_owned u d) (attribute_record (owned_attribute u r))) (added d (attribute_record r)) (λ t i. record {
        nodes = map (owned_node u) d.nodes;
        attributes = insert_map before_attribute before_attribute (owned_attribute u) r d.attributes (λ y h. (attributes_compare r y (apart t y h), attributes_compare y r (λ e f. apart t y h (sym e) (sym f)))) i;
        permissions = d.permissions;
      })
    where
      apart : T (fits d (attribute_record r)) → (y : Row Attribute) → y ∈ d.attributes → r.0 ≡ y.0 → r.1.name ≡ y.1.name → ⊥
      apart t y h e f =
          let w = and_yes (there (node_at r.0 d)) _ t in
          T_not (there (attribute_at r.0 r.1.name d)) (and_yes (not (there (attribute_at r.0 r.1.name d))) _ w.1).0
          (attribute_there r.0 r.1.name y.1 d (Memᴰ.cast (λ i. (e i, y.1)) h) (sym f))
