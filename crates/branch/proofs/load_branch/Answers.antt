-- `branch::load_branch` meets its contract: what load answered, and where the first permission stands, tell the four answers. Assumes nothing.
use borrow.Author.Rules.{rules}
use mathlib.Core.Path.{sym, ◌∙◌}
use Prim.Native.Nat.{◌/◌, ◌≤◌}
use native.Mathlib.Omega.{arith}
use lib.ListN.{length}
use Rattle.tables.proofs.Parts.{dossier_fits}
use Rattle.image.proofs.Corollaries.{loaded_saves}
use Rattle.branch.proofs.Told.{few_before, permission_there, permission_nowhere, permission_first, bad_first}
use Rattle.branch.proofs.load_branch.Goals as goal

pub returns-then-k-n : goal.returns-then-k-n
returns-then-k-n c =
    permission_there c.args.image.now c.before_permissions-k.result c.before_permissions-k.ensures c.args.owner (sym c.in-Ok.is ∙ c.load.ensures) (omega arith)

pub own_all-requires : goal.own_all-requires
own_all-requires c = dossier_fits (loaded_saves c.args.image.now c.in-Ok.d (sym c.in-Ok.is ∙ c.load.ensures)).sound

pub returns-else-k-n : goal.returns-else-k-n
returns-else-k-n c =
    permission_nowhere c.args.image.now c.before_permissions-k.result c.before_permissions-k.ensures c.args.owner (sym c.in-Ok.is ∙ c.load.ensures) (omega arith) c.own_all.ensures

-- no more than there are records, so that a record's number fits
pub overflow_add-k : goal.overflow_add-k
overflow_add-k c =
    let few : c.before_permissions-k.result ≤ length c.args.image.now / 40 = few_before c.args.image.now c.before_permissions-k.result c.before_permissions-k.ensures in
    search rules

pub returns-then-k-bad : goal.returns-then-k-bad
returns-then-k-bad c =
    permission_first c.args.image.now c.before_permissions-k.result c.before_permissions-k.ensures c.args.owner (sym c.in-Err.is ∙ c.load.ensures) (omega arith)

pub returns-else-k-bad : goal.returns-else-k-bad
returns-else-k-bad c =
    bad_first c.args.image.now c.before_permissions-k.result c.before_permissions-k.ensures c.args.owner (sym c.in-Err.is ∙ c.load.ensures) (omega arith)
