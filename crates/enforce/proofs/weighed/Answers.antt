-- `enforce::weighed` meets its contract: what is judged with the cache of a request that pastes nothing is the same. Assumes nothing.
use mathlib.Core.Path.{ap, ◌∙◌}
use mathlib.Core.Option as model
use Prim.Native.Nat.{ℕ}
use Rattle.model.specs.Refusals as refusals
use Rattle.model.specs.Run as run
use Rattle.tables.specs.View.{view_dossier, view_clipboard}
use Rattle.refusals.specs.View.{view_cache}
use Rattle.judge.specs.View.{standing_of, judged_of}
use Rattle.state.specs.View.{view_request, view_signatures}
use Rattle.enforce.specs.Requests.{verdict_of}
use Rattle.enforce.proofs.Unread.{refusal_same}
use Rattle.enforce.proofs.weighed.Goals as goal

pub returns : goal.returns
returns c =
    let r = c.args.r in
    let q = view_request r in
    let f = run.found q (view_dossier c.args.d) in
    c.verdict_for.ensures ∙ ap (verdict_of r) (c.judged.ensures ∙ ap (λ (o : model.Option ℕ). judged_of o (refusals.granted q f))
    (refusal_same q f (standing_of q (view_signatures c.args.rows) c.args.log.count) (view_cache c.cache_for-k.result) (run.cached (view_clipboard c.args.c)) c.cache_for-k.ensures.0))
