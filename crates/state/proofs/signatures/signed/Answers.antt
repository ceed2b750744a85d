-- `state::signatures::signed` meets its contract: the user's row is replaced, or nothing. Assumes nothing.
use mathlib.Core.Path.{◌≡◌}
use Prim.Native.Nat.{ℕ, ◌*◌, ◌^◌, ◌%◌, ◌≤◌}
use native.Mathlib.Nat.{one-mul, mod-eq_of_lt, pow-le-pow_right}
use native.Mathlib.Omega.{arith}
use mathlib.Core.Bool.{true, ◌&&◌}
use lib.Dec.{leb}
use Rattle.model.specs.Refusals.{user_good}
use borrow.Author.Tests.{lt-leb, le-leb}
use Rattle.state.proofs.Signing.{sign_refused, sign_done}
use Rattle.state.proofs.signatures.signed.Goals as goal

pub returns-then-user-lt1 : goal.returns-then-user-lt1
returns-then-user-lt1 c =
    sign_refused c.args.rows c.args.user c.args.agreement (simp (lt-leb 1 c.args.user c.if-user-lt1.true))

pub returns-then-user-gt64 : goal.returns-then-user-gt64
returns-then-user-gt64 c =
    sign_refused c.args.rows c.args.user c.args.agreement
    (simp (le-leb 1 c.args.user c.if-user-lt1.false, lt-leb c.args.user 64 c.if-user-gt64.true))

pub returns-then-agreement-gt31 : goal.returns-then-agreement-gt31
returns-then-agreement-gt31 c =
    sign_refused c.args.rows c.args.user c.args.agreement
    (simp (le-leb 1 c.args.user c.if-user-lt1.false, le-leb c.args.user 64 c.if-user-gt64.false, lt-leb c.args.agreement 31 c.if-agreement-gt31.true))

-- 1 << a, below the width
shifted : (a : ℕ) → a ≤ 31 → 1 * 2 ^ a % 2 ^ 32 ≡ 2 ^ a
shifted a h = rw one-mul (mod-eq_of_lt (let le : 2 ^ a ≤ 2 ^ 31 = pow-le-pow_right (omega arith) h in omega arith))

pub returns : goal.returns
returns c =
    let rows = c.args.rows in
    let user = c.args.user in
    let agreement = c.args.agreement in
    let good : (user_good c.args.user && leb c.args.agreement 31) ≡ true = simp (le-leb 1 c.args.user c.if-user-lt1.false, le-leb c.args.user 64 c.if-user-gt64.false, le-leb c.args.agreement 31 c.if-agreement-gt31.false) in
    rw (shifted c.args.agreement c.if-agreement-gt31.false) (sign_done rows user agreement good)
