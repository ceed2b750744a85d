-- The record that stands for what forty bytes decode as, from the path that was read and the kind. Assumes nothing.
use mathlib.Core.Path.{◌≡◌, refl, sym, ap, subst, ◌∙◌}
use mathlib.Core.Bool.{Bool, true, false}
use mathlib.Core.Option as math
use mathlib.Core.Option.{none, some}
use mathlib.Core.List.{List}
use Prim.Native.Nat.{ℕ}
use lib.Dec.{T, eqb, eqb→eq, eqb_refl}
use lib.ListN.{length, take, drop, get_or}
use Rattle.std.proofs.Common.{Option, None, Some}
use Rattle.laws.specs.Slots.{pick}
use Rattle.path.specs.Address.{Address}
use Rattle.path.specs.Bytes.{read_steps}
use Rattle.path.specs.View.{path_of, moved_of}
use Rattle.path.proofs.Moves.{Test, holds, fails, test}
use Rattle.path.specs.declared.Path.{Path}
use Rattle.std.proofs.lemmas.Option.{none-some, same_Some}
use Rattle.model.specs.Things as things
use Rattle.model.specs.Image as images
use Rattle.parse.specs.declared.Record.{Record}
use Rattle.parse.specs.Fields.{node_good, attribute_good, value_from, permission_good}
use Rattle.parse.specs.View.{valued_of, record_of, with_value, node_from, attribute_from, permission_from}
use Rattle.parse.proofs.Digits.{Bytes}
use Rattle.parse.proofs.Frame.{and_then}
use Rattle.parse.proofs.Cases.{decode_node, decode_attribute, decode_permission, decode_bad}

module _ {A : Type 0} {t : Bool} (x y : A) where
  pub chosen : t ≡ true → x ≡ pick t x y
  chosen e = ap (λ (s : Bool). pick s x y) (sym e)

  pub passed : t ≡ false → y ≡ pick t x y
  passed e = ap (λ (s : Bool). pick s x y) (sym e)

eq→eqb : {a k : ℕ} → a ≡ k → T (eqb a k)
eq→eqb {a} e = subst (λ (j : ℕ). T (eqb a j)) e (eqb_refl a)

record_pick : (t : Bool) (o : math.Option images.Record) → record_of (pick t o none) ≡ pick t (record_of o) None
record_pick true o = refl
record_pick false o = refl

value_view : (p : Address) (name owner : ℕ) (o : math.Option things.Value)
    → record_of (and_then o (λ v. some (images.attribute_record (p, record { name = name; owner = owner; value = v })))) ≡ with_value (path_of p) name owner (valued_of o)
value_view p name owner none = refl
value_view p name owner (some v) = refl

-- where the path was read, and where it is none
module _ (f : Address → math.Option images.Record) (g : Path → Option Record) (same : (p : Address) → record_of (f p) ≡ g (path_of p)) where
  there_view : (o : math.Option Address) {r : Path} → Some r ≡ moved_of o → g r ≡ record_of (and_then o f)
  there_view none e = absurd (none-some _ (sym e))
  there_view (some p) e = ap g (same_Some _ _ e) ∙ sym (same p)

gone_view : (f : Address → math.Option images.Record) (o : math.Option Address) → None ≡ moved_of o → and_then o f ≡ none
gone_view f none e = refl
gone_view f (some p) e = absurd (none-some _ e)

module _ (b : List ℕ) (full : length b ≡ 40) (bytes : Bytes b) where
  module _ {r : Path} (read : Some r ≡ moved_of (read_steps (take 7 (drop 1 b)))) where
    pub node_view : get_or b 0 0 ≡ 1 → node_from r b ≡ record_of (images.decode b)
    node_view e =
        let f : Address → math.Option images.Record = λ p. pick (node_good b) (some (images.node_record (p, get_or b 10 0))) none in
        there_view f (λ p. node_from p b) (λ p. record_pick (node_good b) (some (images.node_record (p, get_or b 10 0)))) (read_steps (take 7 (drop 1 b))) read
        ∙ ap record_of (sym (decode_node b full e))

    pub attribute_view : get_or b 0 0 ≡ 2 → attribute_from r b ≡ record_of (images.decode b)
    attribute_view e =
        let o = value_from (get_or b 14 0) (images.number4 16 b) in
        let f : Address → math.Option images.Record = λ p. and_then o (λ v. some (images.attribute_record (p, record { name = images.number2 8 b; owner = get_or b 10 0; value = v }))) in
        there_view (λ p. pick (attribute_good b) (f p) none) (λ p. attribute_from p b)
        (λ p. record_pick (attribute_good b) (f p) ∙ ap (λ (r : Option Record). pick (attribute_good b) r None) (value_view p (images.number2 8 b) (get_or b 10 0) o))
        (read_steps (take 7 (drop 1 b))) read
        ∙ ap record_of (sym (decode_attribute b full bytes e))

    pub permission_view : get_or b 0 0 ≡ 3 → permission_from r b ≡ record_of (images.decode b)
    permission_view e =
        let f : Address → math.Option images.Record = λ p. some (images.permission_record (p, (images.number2 8 b, images.read_permission b))) in
        there_view (λ p. pick (permission_good b) (f p) none) (λ p. permission_from p b) (λ p. record_pick (permission_good b) (f p)) (read_steps (take 7 (drop 1 b))) read
        ∙ ap record_of (sym (decode_permission b full bytes e))

  pub bad_view : (get_or b 0 0 ≡ 1 → ⊥) → (get_or b 0 0 ≡ 2 → ⊥) → (get_or b 0 0 ≡ 3 → ⊥) → None ≡ record_of (images.decode b)
  bad_view p q n = ap record_of (sym (decode_bad b p q n))

  -- no path, so no record, whatever the kind
  pub pathless_view : None ≡ moved_of (read_steps (take 7 (drop 1 b))) → None ≡ record_of (images.decode b)
  pathless_view h = ap record_of (sym (go (test (eqb (get_or b 0 0) 1)) (test (eqb (get_or b 0 0) 2)) (test (eqb (get_or b 0 0) 3))))
    where
      gone : (f : Address → math.Option images.Record) → and_then (read_steps (take 7 (drop 1 b))) f ≡ none
      gone f = gone_view f (read_steps (take 7 (drop 1 b))) h

      go : Test (eqb (get_or b 0 0) 1) → Test (eqb (get_or b 0 0) 2) → Test (eqb (get_or b 0 0) 3) → images.decode b ≡ none
      go (holds t) v w = decode_node b full (eqb→eq (get_or b 0 0) 1 t) ∙ gone _
      go (fails s) (holds t) w = decode_attribute b full bytes (eqb→eq (get_or b 0 0) 2 t) ∙ gone _
      go (fails s) (fails u) (holds t) = decode_permission b full bytes (eqb→eq (get_or b 0 0) 3 t) ∙ gone _
      go (fails s) (fails u) (fails v) = decode_bad b (λ e. s (eq→eqb e)) (λ e. u (eq→eqb e)) (λ e. v (eq→eqb e))
