-- What request 17's image loads as: what load gives of it with every owner the adding user's, unless a permission stands before that. Assumes nothing.
use mathlib.Core.Path.{◌≡◌, refl, sym, ap, ◌∙◌}
use mathlib.Core.Bool.{Bool, true, false, ◌&&◌}
use mathlib.Core.Option.{Option, none, some, map, none-ne-some}
use mathlib.Core.List.{List, [], ◌∷◌}
use Prim.Native.Nat.{ℕ, suc, ◌+◌, ◌≤◌, ◌/◌}
use native.Mathlib.Omega.{arith}
use lib.Dec.{T, eqb, ltb}
use lib.ListN.{length, get_or}
use borrow.Author.Tests.{eqb-true, eqb-false, lt-ltb, le-ltb, ltb-true, ltb-false}
use mir.Facts.{and_yes, yes_and}
use Rattle.laws.specs.Slots.{pick}
use Rattle.path.specs.Address.{valid}
use Rattle.model.specs.Things.{Attribute, Row, Dossier}
use Rattle.model.specs.Refusals.{user_good, name_good, value_good}
use Rattle.model.specs.Image.{Record, node_record, attribute_record, permission_record, encode, in_range, decode, accept, records, Loaded, bad, good, next, scan, no_records, load, owned_node, owned_attribute, adding, load_added, all_owned, before_permissions}
use Rattle.model.specs.Sound.{Sound}
use Rattle.roundtrip.proofs.Bytes.{less}
use Rattle.roundtrip.proofs.Records.{record_back}
use Rattle.roundtrip.proofs.Scan.{good≠bad, good_is, nexted, scan_broke}
use Rattle.roundtrip.proofs.Images.{bad_length, load_holds}
use Rattle.roundtrip.proofs.Found.{accepted}
use Rattle.roundtrip.proofs.SaveLoad.{first_sound, accept_sound}
use Rattle.roundtrip.proofs.Owned.{node_taken, attribute_taken}

-- ---- the first byte of a record tells a permission
abbrev kind_byte : List ℕ → ℕ
kind_byte b = get_or b 0 0

kind_is : (b : List ℕ) (r : Record) → decode b ≡ some r → kind_byte b ≡ kind_byte (encode r)
kind_is b r e = ap kind_byte (sym (record_back b r e))

-- with one record more before both
both_more : (m n : ℕ) → ltb m n ≡ ltb (suc m) (suc n)
both_more m n = go (ltb m n) refl
  where
    go : (c : Bool) → ltb m n ≡ c → c ≡ ltb (suc m) (suc n)
    go true q = let h = ltb-true m n q in sym (lt-ltb (suc m) (suc n) (omega arith))
    go false q = let h = ltb-false m n q in sym (le-ltb (suc m) (suc n) (omega arith))

module _ (u : ℕ) where
  -- ---- one record more
  -- a permission is taken by nobody
  permission_not : (prev : List ℕ) (d : Dossier) (b : List ℕ) → kind_byte b ≡ 3 → next (adding u accept) prev d b ≡ none
  permission_not prev d b k = go (less prev b) (decode b) refl
    where
      go : (c : Bool) (o : Option Record) → decode b ≡ o → pick {A = Option Dossier} c (elim o [ none ↦ none | some r ↦ adding u accept d r ]) none ≡ none
      go true none e = refl
      go true (some (node_record r)) e = let z = kind_is b (node_record r) e in absurd (omega arith)
      go true (some (attribute_record r)) e = let z = kind_is b (attribute_record r) e in absurd (omega arith)
      go true (some (permission_record r)) e = refl
      go false o e = refl

  -- any other record is taken as load takes it
  next_owned : (prev : List ℕ) (d : Dossier) (b : List ℕ) → (kind_byte b ≡ 3 → ⊥) → next (adding u accept) prev (all_owned u d) b ≡ map (all_owned u) (next accept prev d b)
  next_owned prev d b n = go (less prev b) (decode b) refl
    where
      go : (c : Bool) (o : Option Record) → decode b ≡ o
          → pick c (elim o [ none ↦ none | some r ↦ adding u accept (all_owned u d) r ]) none ≡ map (all_owned u) (pick c (elim o [ none ↦ none | some r ↦ accept d r ]) none)
      go true none e = refl
      go true (some (node_record r)) e = node_taken u d r
      go true (some (attribute_record r)) e = attribute_taken u d r
      go true (some (permission_record r)) e = absurd (n (kind_is b (permission_record r) e))
      go false o e = refl

  -- and leaves the permissions as they are
  next_bare : (prev : List ℕ) (d e : Dossier) (b : List ℕ) → (kind_byte b ≡ 3 → ⊥) → next accept prev d b ≡ some e → e.permissions ≡ d.permissions
  next_bare prev d e b n p = let w = (nexted accept prev d e b p).1 in go w.0 w.1 w.2
    where
      go : (r : Record) → decode b ≡ some r → accept d r ≡ some e → e.permissions ≡ d.permissions
      go (node_record r) q h = ap (λ (x : Dossier). x.permissions) (sym (accepted d (node_record r) e h).1)
      go (attribute_record r) q h = ap (λ (x : Dossier). x.permissions) (sym (accepted d (attribute_record r) e h).1)
      go (permission_record r) q h = absurd (n (kind_is b (permission_record r) q))

  -- ---- the records of an image
  -- told by what load says of them: the first permission, which is record k where no record before it is bad; or what there is, with its owners replaced
  abbrev pub told_at : ℕ → Bool → Loaded Dossier → Loaded Dossier
  told_at k more (bad n) = pick (ltb k n) (bad k) (bad n)
  told_at k more (good d) = pick more (bad k) (good (all_owned u d))

  -- of records numbered from i on
  abbrev told : ℕ → List (List ℕ) → Loaded Dossier → Loaded Dossier
  told i l o = told_at (i + before_permissions l) (ltb (before_permissions l) (length l)) o

  abbrev OnFrom : ℕ → Dossier → List ℕ → List (List ℕ) → Type 0
  OnFrom i d prev l = scan (adding u accept) i prev (all_owned u d) l ≡ told i l (scan accept i prev d l)

  -- a permission is the first: nothing before it was bad
  at_permission : (i : ℕ) (prev : List ℕ) (d : Dossier) (b : List ℕ) (l : List (List ℕ)) → told_at (i + 0) true (scan accept i prev d (b ∷ l)) ≡ bad i
  at_permission i prev d b l = go (scan accept i prev d (b ∷ l)) refl
    where
      z : i + 0 ≡ i
      z = omega arith

      go : (o : Loaded Dossier) → scan accept i prev d (b ∷ l) ≡ o → told_at (i + 0) true o ≡ bad i
      go (good e) p = ap {B = Loaded Dossier} bad z
      go (bad n) p = let w = (scan_broke accept i n prev d (b ∷ l) p).counted in last (ltb (i + 0) n) refl (omega arith)
        where
          last : (c : Bool) → ltb (i + 0) n ≡ c → i ≤ n → pick {A = Loaded Dossier} c (bad (i + 0)) (bad n) ≡ bad i
          last true q m = ap {B = Loaded Dossier} bad z
          last false q m = let h : n ≤ i + 0 = ltb-false (i + 0) n q in let y : n ≡ i = omega arith in ap {B = Loaded Dossier} bad y

  scan_added : (i : ℕ) (prev : List ℕ) (d : Dossier) (l : List (List ℕ)) → OnFrom i d prev l
  scan_added i prev d [] = refl
  scan_added i prev d (b ∷ l) = go (eqb (kind_byte b) 3) refl (λ e. scan_added (suc i) b e l)
    where
      further : (o : Option Dossier) → next accept prev d b ≡ o → ((e : Dossier) → OnFrom (suc i) e b l)
          → elim (map (all_owned u) o) [ none ↦ bad i | some e ↦ scan (adding u accept) (suc i) b e l ]
          ≡ told_at (i + suc (before_permissions l)) (ltb (suc (before_permissions l)) (suc (length l))) (elim o [ none ↦ bad i | some e ↦ scan accept (suc i) b e l ])
      further none p on = here (ltb (i + suc (before_permissions l)) i) refl
        where
          here : (c : Bool) → ltb (i + suc (before_permissions l)) i ≡ c → ◌≡◌ {A = Loaded Dossier} (bad i) (pick c (bad (i + suc (before_permissions l))) (bad i))
          here true q = let h = ltb-true (i + suc (before_permissions l)) i q in absurd (omega arith)
          here false q = refl
      further (some e) p on =
          let z : suc i + before_permissions l ≡ i + suc (before_permissions l) = omega arith in
          on e ∙ (λ j. told_at (z j) (both_more (before_permissions l) (length l) j) (scan accept (suc i) b e l))

      go : (c : Bool) → eqb (kind_byte b) 3 ≡ c → ((e : Dossier) → OnFrom (suc i) e b l)
          → scan (adding u accept) i prev (all_owned u d) (b ∷ l)
          ≡ told_at (i + pick c 0 (suc (before_permissions l))) (ltb (pick c 0 (suc (before_permissions l))) (suc (length l))) (scan accept i prev d (b ∷ l))
      go true q on =
          ap (λ (o : Option Dossier). elim o as (λ x. Loaded Dossier) [ none ↦ bad i | some e ↦ scan (adding u accept) (suc i) b e l ]) (permission_not prev (all_owned u d) b (eqb-true (kind_byte b) 3 q))
          ∙ sym (ap (λ (c : Bool). told_at (i + 0) c (scan accept i prev d (b ∷ l))) (lt-ltb 0 (suc (length l)) (omega arith)) ∙ at_permission i prev d b l)
      go false q on =
          ap (λ (o : Option Dossier). elim o as (λ x. Loaded Dossier) [ none ↦ bad i | some e ↦ scan (adding u accept) (suc i) b e l ]) (next_owned prev d b (eqb-false (kind_byte b) 3 q))
          ∙ further (next accept prev d b) refl on

  -- without a permission among the records there is none in what they leave
  scan_bare : (i : ℕ) (prev : List ℕ) (d e : Dossier) (l : List (List ℕ)) → length l ≤ before_permissions l → scan accept i prev d l ≡ good e → e.permissions ≡ d.permissions
  scan_bare i prev d e [] h p = ap (λ (x : Dossier). x.permissions) (sym (good_is d e p))
  scan_bare i prev d e (b ∷ l) h p = go (eqb (kind_byte b) 3) refl h (λ x m f. scan_bare (suc i) b x e l m f)
    where
      Below : Type 0
      Below = (x : Dossier) → length l ≤ before_permissions l → scan accept (suc i) b x l ≡ good e → e.permissions ≡ x.permissions

      further : (o : Option Dossier) → next accept prev d b ≡ o → (kind_byte b ≡ 3 → ⊥) → length l ≤ before_permissions l → Below
          → elim o [ none ↦ bad i | some x ↦ scan accept (suc i) b x l ] ≡ good e → e.permissions ≡ d.permissions
      further none q n m on f = good≠bad e i (sym f)
      further (some x) q n m on f = on x m f ∙ next_bare prev d x b n q

      go : (c : Bool) → eqb (kind_byte b) 3 ≡ c → suc (length l) ≤ pick c 0 (suc (before_permissions l)) → Below → e.permissions ≡ d.permissions
      go true q m on = absurd (omega arith)
      go false q m on = further (next accept prev d b) refl (eqb-false (kind_byte b) 3 q) (omega arith) on p

  -- ---- the image
  -- what load_added gives, by what load gives and where the first permission stands
  pub added_told : (b : List ℕ) → load_added u b ≡ told 1 (records (length b / 40) b) (load b)
  added_told b = go (bad_length (length b))
    where
      l : List (List ℕ)
      l = records (length b / 40) b

      go : (c : Bool) → pick c (bad 0) (scan (adding u accept) 1 [] no_records l) ≡ told 1 l (pick c (bad 0) (scan accept 1 [] no_records l))
      go true = sym (ap (λ (c : Bool). pick {A = Loaded Dossier} c (bad (1 + before_permissions l)) (bad 0)) (le-ltb (1 + before_permissions l) 0 (omega arith)))
      go false = scan_added 1 [] no_records l

  -- an image that is placed loads, has no permission, and is placed with every owner the user's
  pub record Places (b : List ℕ) (x : Dossier) : Type 0 where
    pub held : Dossier
    pub loads : load b ≡ good held
    pub bare : held.permissions ≡ []
    pub owned : x ≡ all_owned u held

  pub added_places : (b : List ℕ) (x : Dossier) → load_added u b ≡ good x → Places b x
  added_places b x e = go (load b) refl (sym (added_told b) ∙ e)
    where
      l : List (List ℕ)
      l = records (length b / 40) b

      first : ℕ
      first = before_permissions l

      scanned : (c : Bool) (d : Dossier) → pick c (bad 0) (scan accept 1 [] no_records l) ≡ good d → scan accept 1 [] no_records l ≡ good d
      scanned true d p = good≠bad d 0 (sym p)
      scanned false d p = p

      not_bad : (c : Bool) (n : ℕ) → pick c (bad (1 + first)) (bad n) ≡ good x → Places b x
      not_bad true n p = good≠bad x (1 + first) (sym p)
      not_bad false n p = good≠bad x n (sym p)

      all : (c : Bool) (d : Dossier) → ltb first (length l) ≡ c → load b ≡ good d → pick c (bad (1 + first)) (good (all_owned u d)) ≡ good x → Places b x
      all true d q p f = good≠bad x (1 + first) (sym f)
      all false d q p f =
          record {
            held = d;
            loads = p;
            bare = scan_bare 1 [] no_records d l (ltb-false first (length l) q) (scanned (bad_length (length b)) d p);
            owned = sym (good_is (all_owned u d) x f);
          }

      go : (o : Loaded Dossier) → load b ≡ o → told 1 l o ≡ good x → Places b x
      go (bad n) p f = not_bad (ltb (1 + first) n) n f
      go (good d) p f = all (ltb first (length l)) d refl p f

-- ---- a record of another owner is in its range
pub node_range : (u : ℕ) (r : Row ℕ) → T (user_good u) → T (in_range (node_record r)) → T (in_range (node_record (owned_node u r)))
node_range u r h t = yes_and (valid r.0) (user_good u) (and_yes (valid r.0) (user_good r.1) t).0 h

pub attribute_range : (u : ℕ) (r : Row Attribute) → T (user_good u) → T (in_range (attribute_record r)) → T (in_range (attribute_record (owned_attribute u r)))
attribute_range u r h t =
    let a = r.1 in
    let v = and_yes (valid r.0) (name_good a.name && (user_good a.owner && value_good a.value)) t in
    let w = and_yes (name_good a.name) (user_good a.owner && value_good a.value) v.1 in
    let x = and_yes (user_good a.owner) (value_good a.value) w.1 in
    yes_and (valid r.0) (name_good a.name && (user_good u && value_good a.value)) v.0
    (yes_and (name_good a.name) (user_good u && value_good a.value) w.0 (yes_and (user_good u) (value_good a.value) h x.1))

-- ---- what is placed is sound, where the user is one
module _ (u : ℕ) (h : T (user_good u)) where
  adding_sound : (d : Dossier) (r : Record) (e : Dossier) → T (in_range r) → adding u accept d r ≡ some e → Sound d → Sound e
  adding_sound d (node_record r) e i p s = accept_sound d (node_record (owned_node u r)) e (node_range u r h i) p s
  adding_sound d (attribute_record r) e i p s = accept_sound d (attribute_record (owned_attribute u r)) e (attribute_range u r h i) p s
  adding_sound d (permission_record r) e i p s = absurd (none-ne-some e p)

  first_placed : (r : Record) (e : Dossier) → T (in_range r) → adding u accept no_records r ≡ some e → Sound e
  first_placed (node_record r) e i p = first_sound (node_record (owned_node u r)) e (node_range u r h i) p
  first_placed (attribute_record r) e i p = first_sound (attribute_record (owned_attribute u r)) e (attribute_range u r h i) p
  first_placed (permission_record r) e i p = absurd (none-ne-some e p)

  pub placed_sound : (b : List ℕ) (x : Dossier) → load_added u b ≡ good x → Sound x
  placed_sound b x e = load_holds (adding u accept) Sound no_records first_placed adding_sound b x e
