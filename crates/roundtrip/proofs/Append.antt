-- Records ascend, so a loader finds each row's place behind those it has: to put a row in is to append it. Assumes nothing.
use mathlib.Core.Path.{◌≡◌, refl, sym, ap, subst}
use mathlib.Core.Logic.{◌⊎◌, inl, inr, ⊎_elim}
use mathlib.Core.Bool.{Bool, not, ◌&&◌}
use mathlib.Core.Option.{some}
use mathlib.Core.List.Memᴰ
use mathlib.Core.List.{List, [], ◌∷◌, ◌++◌, map}
use Prim.Native.Nat.{ℕ}
use lib.Dec.{T, ltb, T_not}
use lib.ListN.{length, get_or}
use mir.Facts.{and_yes}
use Rattle.laws.specs.Sorted.{◌∈◌, StrictOrder, Sorted, cons}
use Rattle.model.specs.Things.{Attribute, Permission, Row, Dossier}
use Rattle.model.specs.Moves.{node_at, attribute_at, names_on}
use Rattle.model.specs.Image.{Record, node_record, attribute_record, permission_record, encode, in_range, decode, there, accept, good, scan, no_records, records_of}
use Rattle.roundtrip.proofs.Orders.{nodes_order, attributes_order, permissions_order}
use Rattle.roundtrip.proofs.Prefix.{insert_last}
use Rattle.roundtrip.proofs.Bytes.{less, less_order}
use Rattle.roundtrip.proofs.Records.{record_back, decode_good}
use Rattle.roundtrip.proofs.Scan.{scan_came}
use Rattle.roundtrip.proofs.Ascend.{less_record, node_back, attribute_back, permission_back}
use Rattle.roundtrip.proofs.Found.{attribute_there, fits, added}
use Rattle.roundtrip.proofs.SaveLoad.{runs_back}

abbrev pub appended : Dossier → Record → Dossier
appended d (node_record r) = record { nodes = d.nodes ++ (r ∷ []); attributes = d.attributes; permissions = d.permissions }
appended d (attribute_record r) = record { nodes = d.nodes; attributes = d.attributes ++ (r ∷ []); permissions = d.permissions }
appended d (permission_record r) = record { nodes = d.nodes; attributes = d.attributes; permissions = d.permissions ++ (r ∷ []) }

-- the record r is behind all of the dossier's
added_last : (d : Dossier) (r : Record) → T (in_range r) → ((z : Record) → z ∈ records_of d → T (in_range z) × T (less_record z r)) → T (fits d r) → added d r ≡ appended d r
added_last d (node_record r) g f t =
    ap (λ (l : List (Row ℕ)). record { nodes = l; attributes = d.attributes; permissions = d.permissions })
    (insert_last nodes_order r d.nodes
    (λ y h. node_back y r (f (node_record y) (Memᴰ.append_left (map attribute_record d.attributes ++ map permission_record d.permissions) (Memᴰ.map node_record h))).1))
added_last d (attribute_record r) g f t =
    ap (λ (l : List (Row Attribute)). record { nodes = d.nodes; attributes = l; permissions = d.permissions })
    (insert_last attributes_order r d.attributes
    (λ y h. attribute_back y r (λ e n. second y h (sym e) (sym n))
    (f (attribute_record y) (Memᴰ.append_right (map node_record d.nodes) (Memᴰ.append_left (map permission_record d.permissions) (Memᴰ.map attribute_record h)))).1))
  where
    second : (y : Row Attribute) → y ∈ d.attributes → y.0 ≡ r.0 → y.1.name ≡ r.1.name → ⊥
    second y h e n =
        let rest = ltb (length d.attributes) 256 && ltb (length (names_on r.0 d)) 16 in
        let here = not (there (attribute_at r.0 r.1.name d)) in
        T_not (there (attribute_at r.0 r.1.name d)) (and_yes here rest (and_yes (there (node_at r.0 d)) (here && rest) t).1).0
        (attribute_there r.0 r.1.name y.1 d (Memᴰ.cast (λ i. (sym e i, y.1)) h) n)
added_last d (permission_record r) g f t =
    ap (λ (l : List (Row (ℕ × Permission))). record { nodes = d.nodes; attributes = d.attributes; permissions = l })
    (insert_last permissions_order r d.permissions
    (λ y h. let w = f (permission_record y) (Memᴰ.append_right (map node_record d.nodes) (Memᴰ.append_right (map attribute_record d.attributes) (Memᴰ.map permission_record h))) in
    permission_back y r w.0 g w.1))

-- of records that ascend, each is the last or less than it
last_most : {A : Type 0} {lt : A → A → Bool} (o : StrictOrder lt) (e x : A) (l : List A)
    → Sorted lt (x ∷ l) → (y : A) → y ∈ x ∷ l → (y ≡ get_or (x ∷ l) (length l) e) ⊎ T (lt y (get_or (x ∷ l) (length l) e))
last_most o e x [] s y h = ⊎_elim (λ q. inl q) (λ k. absurd (Memᴰ.not-nil k)) (Memᴰ.cases_cons h)
last_most {A} {lt} o e x (z ∷ l) (cons b s) y h =
    ⊎_elim (λ q. inr (first (last_most o e z l s z (Memᴰ.head refl)) q)) (last_most o e z l s y) (Memᴰ.cases_cons h)
  where
    first : (z ≡ get_or (z ∷ l) (length l) e) ⊎ T (lt z (get_or (z ∷ l) (length l) e)) → y ≡ x → T (lt y (get_or (z ∷ l) (length l) e))
    first (inl p) q = subst (λ (w : A). T (lt w (get_or (z ∷ l) (length l) e))) (sym q) (subst (λ (w : A). T (lt x w)) p (b z (Memᴰ.head refl)))
    first (inr t) q = subst (λ (w : A). T (lt w (get_or (z ∷ l) (length l) e))) (sym q) (o.trans x z (get_or (z ∷ l) (length l) e) (b z (Memᴰ.head refl)) t)

-- after the records l, a record that ascends is behind all of those
module _ (l : List (List ℕ)) (d : Dossier) (b : List ℕ) (r : Record) (e : scan accept 1 [] no_records l ≡ good d)
    (t : T (less (get_or ([] ∷ l) (length l) []) b)) (p : decode b ≡ some r) where
  pub load_behind : (z : Record) → z ∈ records_of d → T (in_range z) × T (less_record z r)
  load_behind z h =
      let c = scan_came accept 1 [] no_records l d e in
      let m : z ∈ c.read = ⊎_elim (λ k. k) (λ k. absurd (Memᴰ.not-nil k)) (runs_back no_records c.read d c.runs z h) in
      let n : encode z ∈ [] ∷ l = Memᴰ.tail (subst (λ (x : List (List ℕ)). encode z ∈ x) c.bytes (Memᴰ.map encode m)) in
      let u : T (less (encode z) b) =
      ⊎_elim (λ q. subst (λ (x : List ℕ). T (less x b)) (sym q) t) (λ q. less_order.trans (encode z) (get_or ([] ∷ l) (length l) []) b q t)
      (last_most less_order [] [] l c.ascend (encode z) n) in
      (c.ranges z m, subst (λ (x : List ℕ). T (less (encode z) x)) (sym (record_back b r p)) u)

  -- and if it fits it is appended
  pub load_appends : T (fits d r) → added d r ≡ appended d r
  load_appends f = added_last d r (decode_good b r p) load_behind f
