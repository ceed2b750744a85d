-- The orders in which records compare are strict and total: of times, attributes, permissions, and the rows of the three tables. Assumes nothing.
use mathlib.Core.Path.{◌≡◌, refl, ap}
use mathlib.Core.Bool.{Bool, true, false, not}
use mathlib.Core.List.{List, [], ◌∷◌}
use Prim.Native.Nat.{ℕ}
use native.Mathlib.Omega.{arith}
use lib.IntN.{ℤ, pos, negsuc}
use lib.Ieee.{Float, nan, inf, fin}
use lib.Dec.{T, ltb}
use Rattle.laws.specs.Sorted.{StrictOrder}
use Rattle.laws.specs.Order.{lt_list, lt_pair}
use Rattle.laws.proofs.Order.{nat_order, pull, list_order, pair_order}
use Rattle.path.specs.Address.{before}
use Rattle.path.proofs.Laws.{address_order}
use Rattle.model.specs.Things.{Value, whole, reading, Attribute, Permission, Row, lt_time, sign_of, code_reading, code_value, lt_attribute, fields, lt_fields, lt_permission, before_node, before_attribute, before_permission}

-- ---- times
time_irr : (a : ℤ) → T (lt_time a a) → ⊥
time_irr (pos a) t = nat_order.irr a t
time_irr (negsuc a) t = nat_order.irr a t

time_trans : (a b c : ℤ) → T (lt_time a b) → T (lt_time b c) → T (lt_time a c)
time_trans (pos a) (pos b) (pos c) s t = nat_order.trans a b c s t
time_trans (pos a) (pos b) (negsuc c) s t = tt
time_trans (pos a) (negsuc b) (pos c) s t = absurd t
time_trans (pos a) (negsuc b) (negsuc c) s t = tt
time_trans (negsuc a) (pos b) c s t = absurd s
time_trans (negsuc a) (negsuc b) (pos c) s t = absurd t
time_trans (negsuc a) (negsuc b) (negsuc c) s t = nat_order.trans c b a t s

time_conn : (a b : ℤ) → T (not (lt_time a b)) → T (not (lt_time b a)) → a ≡ b
time_conn (pos a) (pos b) s t = ap pos (nat_order.conn a b s t)
time_conn (pos a) (negsuc b) s t = absurd s
time_conn (negsuc a) (pos b) s t = absurd t
time_conn (negsuc a) (negsuc b) s t = ap negsuc (nat_order.conn a b t s)

pub time_order : StrictOrder lt_time
time_order = record { irr = time_irr; trans = time_trans; conn = time_conn }

-- ---- permissions
fields_order : StrictOrder lt_fields
fields_order = pair_order (lt_list ltb) (lt_pair lt_time (lt_pair lt_time (lt_list ltb))) (list_order ltb nat_order)
    (pair_order lt_time (lt_pair lt_time (lt_list ltb)) time_order (pair_order lt_time (lt_list ltb) time_order (list_order ltb nat_order)))

fields_one : (p q : Permission) → fields p ≡ fields q → p ≡ q
fields_one p q e =
    let a : p.role ∷ p.action ∷ p.user ∷ [] ≡ q.role ∷ q.action ∷ q.user ∷ [] = λ i. (e i).0 in
    let b : p.first ≡ q.first = λ i. (e i).1.0 in
    let c : p.last ≡ q.last = λ i. (e i).1.1.0 in
    let d : p.messages ∷ p.agreements ∷ [] ≡ q.messages ∷ q.agreements ∷ [] = λ i. (e i).1.1.1 in
    let r : p.role ≡ q.role = cc in
    let s : p.action ≡ q.action = cc in
    let t : p.user ≡ q.user = cc in
    let u : p.messages ≡ q.messages = cc in
    let v : p.agreements ≡ q.agreements = cc in
    λ i. record { role = r i; action = s i; user = t i; first = b i; last = c i; messages = u i; agreements = v i }

pub permission_order : StrictOrder lt_permission
permission_order = pull lt_fields fields fields_one fields_order

-- ---- attributes
sign_one : (a b : Bool) → sign_of a ≡ sign_of b → a ≡ b
sign_one true true e = refl
sign_one true false e = absurd (omega arith)
sign_one false true e = absurd (omega arith)
sign_one false false e = refl

abbrev Code : Float → Float → Type 0
Code x y = code_reading x ≡ code_reading y → x ≡ y

reading_one : (x y : Float) → Code x y
reading_one nan nan e = refl
reading_one nan (inf s) e = cc
reading_one nan (fin s m (pos k)) e = cc
reading_one nan (fin s m (negsuc k)) e = cc
reading_one (inf s) nan e = cc
reading_one (inf s) (inf s') e = let z : sign_of s ≡ sign_of s' = cc in ap inf (sign_one s s' z)
reading_one (inf s) (fin s' m (pos k)) e = cc
reading_one (inf s) (fin s' m (negsuc k)) e = cc
reading_one (fin s m (pos k)) nan e = cc
reading_one (fin s m (pos k)) (inf s') e = cc
reading_one (fin s m (pos k)) (fin s' m' (pos k')) e =
    let z : sign_of s ≡ sign_of s' = cc in let w : s ≡ s' = sign_one s s' z in let u : m ≡ m' = cc in let v : k ≡ k' = cc in λ i. fin (w i) (u i) (pos (v i))
reading_one (fin s m (pos k)) (fin s' m' (negsuc k')) e = cc
reading_one (fin s m (negsuc k)) nan e = cc
reading_one (fin s m (negsuc k)) (inf s') e = cc
reading_one (fin s m (negsuc k)) (fin s' m' (pos k')) e = cc
reading_one (fin s m (negsuc k)) (fin s' m' (negsuc k')) e =
    let z : sign_of s ≡ sign_of s' = cc in let w : s ≡ s' = sign_one s s' z in let u : m ≡ m' = cc in let v : k ≡ k' = cc in λ i. fin (w i) (u i) (negsuc (v i))

value_one : (v w : Value) → code_value v ≡ code_value w → v ≡ w
value_one (whole n) (whole m) e = let z : n ≡ m = cc in ap whole z
value_one (whole n) (reading y) e = cc
value_one (reading x) (whole m) e = cc
value_one (reading x) (reading y) e = let z : code_reading x ≡ code_reading y = cc in ap reading (reading_one x y z)

abbrev code : Attribute → List ℕ
code a = a.name ∷ a.owner ∷ code_value a.value

attribute_one : (a b : Attribute) → code a ≡ code b → a ≡ b
attribute_one a b e =
    let n : a.name ≡ b.name = cc in
    let o : a.owner ≡ b.owner = cc in
    let c : code_value a.value ≡ code_value b.value = cc in
    let v : a.value ≡ b.value = value_one a.value b.value c in
    λ i. record { name = n i; owner = o i; value = v i }

pub attribute_order : StrictOrder lt_attribute
attribute_order = pull (lt_list ltb) code attribute_one (list_order ltb nat_order)

-- ---- rows: by path, then by what stands there; permissions with the names of their objects
abbrev pub lt_row : {X : Type 0} → (X → X → Bool) → Row X → Row X → Bool
lt_row lt_x = lt_pair before lt_x

pub row_order : {X : Type 0} (lt_x : X → X → Bool) → StrictOrder lt_x → StrictOrder (lt_row lt_x)
row_order lt_x oX = pair_order before lt_x address_order oX

abbrev pub lt_named : ℕ × Permission → ℕ × Permission → Bool
lt_named = lt_pair ltb lt_permission

pub named_order : StrictOrder lt_named
named_order = pair_order ltb lt_permission nat_order permission_order

pub nodes_order : StrictOrder before_node
nodes_order = row_order ltb nat_order

pub attributes_order : StrictOrder before_attribute
attributes_order = row_order lt_attribute attribute_order

pub permissions_order : StrictOrder before_permission
permissions_order = row_order lt_named named_order
