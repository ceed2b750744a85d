-- `parse::read_permission` meets its contract: the bytes that are not used are 0. Assumes nothing.
use mathlib.Core.Path.{◌≡◌, sym, ap₂, ◌∙◌}
use mathlib.Core.Bool.{Bool, true, false, ◌&&◌}
use mathlib.Core.List.{List}
use Prim.Native.Nat.{ℕ}
use native.Mathlib.Omega.{arith}
use Rattle.std.proofs.Common.{Some, None}
use Rattle.path.specs.declared.Path.{Path}
use Rattle.model.specs.Image.{number2, read_permission}
use Rattle.tables.specs.declared.Grant.{Grant}
use Rattle.tables.specs.View.{view_grant, grant_of}
use Rattle.parse.specs.declared.Record.TheVariants.{Permission}
use Rattle.parse.specs.Fields.{zeros, grant_good, permission_good}
use Rattle.parse.specs.View.{permission_at, permission_from}
use Rattle.parse.proofs.Zeros.{part_zeros}
use Rattle.parse.proofs.Views.{chosen, passed}
use Rattle.parse.proofs.read_permission.Goals as goal

module _ (p : Path) (b : List ℕ) (name : ℕ) (g : Grant) (good owner value : Bool) (n : name ≡ number2 8 b) (e : g ≡ grant_of (read_permission b)) (h : good ≡ grant_good name (view_grant g))
    (o : owner ≡ zeros 10 11 b) (v : value ≡ zeros 14 16 b) where
  all_good : permission_good b ≡ (good && (owner && value))
  all_good =
      let k : good ≡ grant_good (number2 8 b) (read_permission b) = h ∙ ap₂ (λ j f. grant_good j (view_grant f)) n e in
      sym (λ i. k i && (o i && v i))

  taken : (good && (owner && value)) ≡ true → Some (Permission (record { path = p; name = name; grant = g })) ≡ permission_from p b
  taken t =
      let same : Some (Permission (record { path = p; name = name; grant = g })) ≡ Some (permission_at p (number2 8 b) (read_permission b)) = λ i. Some (Permission (record { path = p; name = n i; grant = e i })) in
      same ∙ chosen _ None (all_good ∙ t)

  left_out : (good && (owner && value)) ≡ false → None ≡ permission_from p b
  left_out t = passed (Some (permission_at p (number2 8 b) (read_permission b))) None (all_good ∙ t)

pub returns-then-good-owner : goal.returns-then-good-owner
returns-then-good-owner c =
    let b = c.args.b.now in
    let owner = part_zeros b 10 1 c.all_zero-owner.result (omega arith) c.all_zero-owner.ensures in
    let value = part_zeros b 14 2 c.all_zero-value.result (omega arith) c.all_zero-value.ensures in
    taken c.args.path b c.read2-name.result c.grant_at-grant.result c.is_grant-good.result c.all_zero-owner.result c.all_zero-value.result c.read2-name.ensures c.grant_at-grant.ensures c.is_grant-good.ensures
    owner value c.if-good-owner.true

pub returns : goal.returns
returns c =
    let b = c.args.b.now in
    let owner = part_zeros b 10 1 c.all_zero-owner.result (omega arith) c.all_zero-owner.ensures in
    let value = part_zeros b 14 2 c.all_zero-value.result (omega arith) c.all_zero-value.ensures in
    left_out c.args.path b c.read2-name.result c.grant_at-grant.result c.is_grant-good.result c.all_zero-owner.result c.all_zero-value.result c.read2-name.ensures c.grant_at-grant.ensures c.is_grant-good.ensures
    owner value c.if-good-owner.false
