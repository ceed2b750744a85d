-- The objects of a sound dossier have no clash, so what is granted on them is granted exactly as document 01 says. Assumes nothing.
use mathlib.Core.Path.{◌≡◌, sym, ap, subst, ◌∙◌}
use mathlib.Core.Bool.{Bool, true, false}
use mathlib.Core.Option.{Option, none, some, map, some-injective, none-ne-some}
use mathlib.Core.List.Memᴰ
use mathlib.Core.List.{List, []}
use Prim.Native.Nat.{ℕ}
use lib.Dec.{T, eqb, eqb→eq}
use Rattle.laws.specs.Slots.{pick}
use Rattle.laws.specs.Sorted.{◌∈◌, Sorted, nil, cons, push, move}
use Rattle.path.specs.Address.{Address, same}
use Rattle.path.proofs.Laws.{same_eq}
use Rattle.model.specs.Things.{Attribute, Permission, Row, Dossier, before_permission}
use Rattle.model.specs.Decide.{Object, clash, clash_any}
use Rattle.model.specs.Moves.{at, named, permissions_in, permissions_for, owner_in, attribute_at, node_at, attribute_object, object_at, grant_row}
use Rattle.model.specs.Sound.{Sound}
use Rattle.roundtrip.proofs.Orders.{permissions_order}
use Rattle.roundtrip.proofs.Clash.{clash_back}
use Rattle.roundtrip.proofs.Found.{grant_in_lem}
use Rattle.twin.specs.Good.{NoClash}

no_clash_in : (p : Address) (n : ℕ) {l : List (Row (ℕ × Permission))} → Sorted before_permission l
    → ((g h : Permission) → grant_row p n g ∈ l → grant_row p n h ∈ l → T (clash g h) → g ≡ h) → NoClash (permissions_in p n l)
no_clash_in p n nil f = tt
no_clash_in p n (cons {x} {l} b s) f = go (no_clash_in p n s (λ g h m k. f g h (Memᴰ.tail m) (Memᴰ.tail k))) (same x.0 p) (same_eq x.0 p)
  where
    first : grant_row p n x.1.1 ≡ x → T (clash_any x.1.1 (permissions_in p n l)) → ⊥
    first e t =
        let w = clash_back x.1.1 (permissions_in p n l) t in
        let m : grant_row p n w.0 ∈ l = grant_in_lem p n w.0 (record { nodes = []; attributes = []; permissions = l }) w.1 in
        let i : x.1.1 ≡ w.0 = f x.1.1 w.0 (Memᴰ.head e) (Memᴰ.tail m) w.2 in
        permissions_order.irr x (b x (subst (λ (z : Row (ℕ × Permission)). z ∈ l) (ap (grant_row p n) (sym i) ∙ e) m))

    inner : NoClash (permissions_in p n l) → (c : Bool) → (T c → x.1.0 ≡ n) → x.0 ≡ p → NoClash (push (pick c (some x.1.1) none) (permissions_in p n l))
    inner rest true k e = (first (λ i. (sym e i, (sym (k tt) i, x.1.1))), rest)
    inner rest false k e = rest

    go : NoClash (permissions_in p n l) → (c : Bool) → (T c → x.0 ≡ p) → NoClash (move (named n) (push (pick c (some x.1) none) (move (at p) l)))
    go rest true k = inner rest (eqb x.1.0 n) (eqb→eq x.1.0 n) (k tt)
    go rest false k = rest

mapped : {A : Type 0} (f : A → Object) (l : List Permission) → ((a : A) → (f a).permissions ≡ l) → (x : Option A) (o : Object) → map f x ≡ some o → o.permissions ≡ l
mapped f l h none o e = absurd (none-ne-some o e)
mapped f l h (some a) o e = sym (ap (λ (z : Object). z.permissions) (some-injective (f a) o e)) ∙ h a

pub object_no_clash : (d : Dossier) → Sound d → (p : Address) (n : ℕ) (o : Object) → object_at p n d ≡ some o → NoClash o.permissions
object_no_clash d s p n o = go (eqb n 0)
  where
    none_clash : (k : ℕ) → o.permissions ≡ permissions_for p k d → NoClash o.permissions
    none_clash k e = subst NoClash (sym e) (no_clash_in p k s.permissions_ascend (s.no_clash p k))

    go : (b : Bool) → pick b (node_at p d) (attribute_object p n d) ≡ some o → NoClash o.permissions
    go true e = none_clash 0 (mapped (λ (u : ℕ). record { owner = u; permissions = permissions_for p 0 d }) (permissions_for p 0 d) (λ u i. permissions_for p 0 d) (owner_in p d.nodes) o e)
    go false e = none_clash n (mapped (λ (a : Attribute). record { owner = a.owner; permissions = permissions_for p n d }) (permissions_for p n d) (λ a i. permissions_for p n d) (attribute_at p n d) o e)
