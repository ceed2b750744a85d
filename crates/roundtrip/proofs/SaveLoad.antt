-- What loads is sound and saves as the bytes it came from. Assumes nothing.
use mathlib.Core.Path.{◌≡◌, sym, ap, subst, ◌∙◌}
use mathlib.Core.Logic.{◌⊎◌, inl, inr, ⊎_elim}
use mathlib.Core.Bool.{Bool, true, false, ◌&&◌, ◌||◌}
use mathlib.Core.Option.{none, some}
use mathlib.Core.List.Memᴰ
use mathlib.Core.List.{List, [], ◌∷◌, ◌++◌, map}
use Prim.Native.Nat.{ℕ, ◌/◌}
use native.Mathlib.Omega.{arith}
use lib.Dec.{T, eqb, ltb}
use lib.ListN.{length}
use Rattle.laws.specs.Slots.{pick}
use Rattle.laws.specs.Sorted.{◌∈◌, StrictOrder, Sorted, nil, cons, Same, insert}
use Rattle.laws.specs.Order.{lt_list}
use Rattle.laws.proofs.Sorted.{same, insert_old, insert_new, insert_back}
use Rattle.path.specs.Address.{Address, valid, parent, last}
use Rattle.model.specs.Things.{Row, Dossier, bare}
use Rattle.model.specs.Moves.{node_at}
use Rattle.model.specs.Refusals.{user_good, is_root}
use Rattle.model.specs.Image.{Record, node_record, attribute_record, permission_record, encode, in_range, node_fits, permission_fits, left, there, accept, records, good, no_records, load, records_of, save}
use Rattle.model.specs.Sound.{Sound}
use Rattle.roundtrip.proofs.Orders.{nodes_order, attributes_order, permissions_order}
use Rattle.roundtrip.proofs.Bytes.{less_order}
use Rattle.roundtrip.proofs.Scan.{Runs}
use Rattle.roundtrip.proofs.Images.{join, bytes_join, join_records, load_came, load_holds}
use Rattle.roundtrip.proofs.Ascend.{records_ascend}
use Rattle.roundtrip.proofs.Found.{fits, added, accepted}
use Rattle.roundtrip.proofs.Kept.{node_sound, attribute_sound, permission_sound}

-- ---- the first record
-- "a bare root owned by" a user
bare_sound : (u : ℕ) → T (user_good u) → Sound (bare u)
bare_sound u g =
    record {
      nodes_ascend = cons (λ z h. absurd (Memᴰ.not-nil h)) nil;
      attributes_ascend = nil;
      permissions_ascend = nil;
      nodes_good = λ r h. only (λ y. T (in_range (node_record y))) r h g;
      attributes_good = λ r h. absurd (Memᴰ.not-nil h);
      permissions_good = λ r h. absurd (Memᴰ.not-nil h);
      root = tt;
      above = λ r h. only (λ y. T (is_root y.0 || there (node_at (parent y.0) (bare u)))) r h tt;
      left_there = λ r h. only (λ y. T (is_root y.0 || (eqb (last y.0) 1 || there (node_at (left y.0) (bare u))))) r h tt;
      on_node = λ r h. absurd (Memᴰ.not-nil h);
      on_object = λ r h. absurd (Memᴰ.not-nil h);
      one_node = λ p o o' h h'. let e = Memᴰ.eq_of_singleton h in let e' = Memᴰ.eq_of_singleton h' in λ i. ((e ∙ sym e') i).1;
      one_attribute = λ p a b h. absurd (Memᴰ.not-nil h);
      no_clash = λ p n a b h. absurd (Memᴰ.not-nil h);
      few_nodes = omega arith;
      few_attributes = omega arith;
      few_on_node = λ p. omega arith;
      few_permissions = omega arith;
    }
  where
    only : (P : Row ℕ → Type 0) (r : Row ℕ) → r ∈ ([], u) ∷ [] → P ([], u) → P r
    only P r h x = subst P (sym (Memᴰ.eq_of_singleton h)) x

-- with nothing before it, only the root is accepted
only_root : (r : Record) → T (in_range r) → T (fits no_records r) → Sound (added no_records r)
only_root (node_record r) g t = go r.0 r.1 g t
  where
    go : (q : Address) (o : ℕ) → T (valid q && user_good o) → T (node_fits q false false false 0) → Sound (record { nodes = (q, o) ∷ []; attributes = []; permissions = [] })
    go [] o v s = bare_sound o v
    go (k ∷ q) o v s = absurd s
only_root (attribute_record r) g t = absurd t
only_root (permission_record r) g t = absurd (go (eqb r.1.0 0) t)
  where
    go : (b : Bool) → T (permission_fits r.1.1 (pick b none none) 0) → ⊥
    go true s = s
    go false s = s

pub first_sound : (r : Record) (e : Dossier) → T (in_range r) → accept no_records r ≡ some e → Sound e
first_sound r e g p = let w = accepted no_records r e p in subst Sound w.1 (only_root r g w.0)

-- ---- each further record
added_sound : (d : Dossier) (r : Record) → Sound d → T (in_range r) → T (fits d r) → Sound (added d r)
added_sound d (node_record r) s g t = node_sound d s r g t
added_sound d (attribute_record r) s g t = attribute_sound d s r g t
added_sound d (permission_record r) s g t = permission_sound d s r g t

pub accept_sound : (d : Dossier) (r : Record) (e : Dossier) → T (in_range r) → accept d r ≡ some e → Sound d → Sound e
accept_sound d r e g p s = let w = accepted d r e p in subst Sound w.1 (added_sound d r s g w.0)

pub load_sound : (b : List ℕ) (d : Dossier) → load b ≡ good d → Sound d
load_sound b d e = load_holds accept Sound no_records first_sound accept_sound b d e

-- ---- the records of what is loaded are those that were read
-- m has what l has, and r
record Grows (r : Record) (l m : List Record) : Type 0 where
  fresh : r ∈ m
  old : (z : Record) → z ∈ l → z ∈ m
  back : (z : Record) → z ∈ m → (z ≡ r) ⊎ (z ∈ l)

table_grows : {X : Type 0} (rec : X → Record) {lt : X → X → Bool} (o : StrictOrder lt) (x : X) (l : List X) → Grows (rec x) (map rec l) (map rec (insert lt x l))
table_grows {X} rec {lt} o x l = record { fresh = Memᴰ.map rec (insert_new lt o x l); old = old; back = back }
  where
    old : (z : Record) → z ∈ map rec l → z ∈ map rec (insert lt x l)
    old z h = let w = Memᴰ.of_map rec l h in Memᴰ.cast (sym w.2) (Memᴰ.map rec (insert_old lt o x w.0 l w.1))

    back : (z : Record) → z ∈ map rec (insert lt x l) → (z ≡ rec x) ⊎ (z ∈ map rec l)
    back z h =
        let w = Memᴰ.of_map rec (insert lt x l) h in
        ⊎_elim (λ e. inl (sym w.2 ∙ ap rec e)) (λ k. inr (Memᴰ.cast (sym w.2) (Memᴰ.map rec k))) (insert_back lt o x w.0 l w.1)

grows_left : {r : Record} {l m : List Record} (k : List Record) → Grows r l m → Grows r (l ++ k) (m ++ k)
grows_left {r} {l} {m} k g =
    record {
      fresh = Memᴰ.append_left k g.fresh;
      old = λ z h. ⊎_elim (λ a. Memᴰ.append_left k (g.old z a)) (λ b. Memᴰ.append_right m b) (Memᴰ.append_cases l h);
      back = λ z h. ⊎_elim (λ a. ⊎_elim (λ e. inl e) (λ c. inr (Memᴰ.append_left k c)) (g.back z a)) (λ b. inr (Memᴰ.append_right l b)) (Memᴰ.append_cases m h);
    }

grows_right : {r : Record} {l m : List Record} (k : List Record) → Grows r l m → Grows r (k ++ l) (k ++ m)
grows_right {r} {l} {m} k g =
    record {
      fresh = Memᴰ.append_right k g.fresh;
      old = λ z h. ⊎_elim (λ a. Memᴰ.append_left m a) (λ b. Memᴰ.append_right k (g.old z b)) (Memᴰ.append_cases k h);
      back = λ z h. ⊎_elim (λ a. inr (Memᴰ.append_left l a)) (λ b. ⊎_elim (λ e. inl e) (λ c. inr (Memᴰ.append_right k c)) (g.back z b)) (Memᴰ.append_cases k h);
    }

added_grows : (d : Dossier) (r : Record) → Grows r (records_of d) (records_of (added d r))
added_grows d (node_record r) =
    grows_left (map attribute_record d.attributes ++ map permission_record d.permissions) (table_grows node_record nodes_order r d.nodes)
added_grows d (attribute_record r) =
    grows_right (map node_record d.nodes) (grows_left (map permission_record d.permissions) (table_grows attribute_record attributes_order r d.attributes))
added_grows d (permission_record r) =
    grows_right (map node_record d.nodes) (grows_right (map attribute_record d.attributes) (table_grows permission_record permissions_order r d.permissions))

accept_grows : (d : Dossier) (r : Record) (e : Dossier) → accept d r ≡ some e → Grows r (records_of d) (records_of e)
accept_grows d r e p = subst (λ (x : Dossier). Grows r (records_of d) (records_of x)) (accepted d r e p).1 (added_grows d r)

pub runs_back : (d : Dossier) (rs : List Record) (f : Dossier) → Runs accept d rs f → (z : Record) → z ∈ records_of f → (z ∈ rs) ⊎ (z ∈ records_of d)
runs_back d [] f p z h = inr (subst (λ (x : Dossier). z ∈ records_of x) (sym p) h)
runs_back d (r ∷ rs) f p z h =
    ⊎_elim (λ a. inl (Memᴰ.tail a)) (λ b. ⊎_elim (λ e. inl (Memᴰ.head e)) (λ c. inr c) ((accept_grows d r p.0 p.1).back z b)) (runs_back p.0 rs f p.2 z h)

runs_old : (d : Dossier) (rs : List Record) (f : Dossier) → Runs accept d rs f → (z : Record) → z ∈ records_of d → z ∈ records_of f
runs_old d [] f p z h = subst (λ (x : Dossier). z ∈ records_of x) p h
runs_old d (r ∷ rs) f p z h = runs_old p.0 rs f p.2 z ((accept_grows d r p.0 p.1).old z h)

runs_new : (d : Dossier) (rs : List Record) (f : Dossier) → Runs accept d rs f → (z : Record) → z ∈ rs → z ∈ records_of f
runs_new d [] f p z h = absurd (Memᴰ.not-nil h)
runs_new d (r ∷ rs) f p z h =
    ⊎_elim (λ e. runs_old p.0 rs f p.2 z (Memᴰ.cast e (accept_grows d r p.0 p.1).fresh)) (runs_new p.0 rs f p.2 z) (Memᴰ.cases_cons h)

map_same : {A B : Type 0} (f : A → B) (l m : List A) → Same l m → Same (map f l) (map f m)
map_same {A} {B} f l m s = (go l m s.0, go m l s.1)
  where
    go : (l m : List A) → ((x : A) → x ∈ l → x ∈ m) → (y : B) → y ∈ map f l → y ∈ map f m
    go l m g y h = let w = Memᴰ.of_map f l h in Memᴰ.cast (sym w.2) (Memᴰ.map f (g w.0 w.1))

behind : {A : Type 0} {lt : A → A → Bool} {x : A} {l : List A} → Sorted lt (x ∷ l) → Sorted lt l
behind (cons b s) = s

pub save_load : (b : List ℕ) (d : Dossier) → load b ≡ good d → save d ≡ b
save_load b d e =
    let w = load_came accept no_records b d e in
    let c = w.0 in
    let l = records (length b / 40) b in
    let members = map_same encode (records_of d) c.read
    (λ z h. ⊎_elim (λ k. k) (λ k. absurd (Memᴰ.not-nil k)) (runs_back no_records c.read d c.runs z h), runs_new no_records c.read d c.runs) in
    let bytes : map encode (records_of d) ≡ map encode c.read =
    same (lt_list ltb) less_order (behind (records_ascend d (load_sound b d e))) (subst (Sorted (lt_list ltb)) (sym c.bytes) (behind c.ascend)) members in
    bytes_join (records_of d) ∙ ap join (bytes ∙ c.bytes) ∙ join_records (length b / 40) b w.2
