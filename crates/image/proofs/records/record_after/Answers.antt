-- `image::records::record_after` meets its contract: the first record, or two of the image's chunks compared. Assumes nothing.
use mathlib.Core.Path.{sym, ap, ◌∙◌}
use mathlib.Core.List.{[]}
use Prim.Native.Nat.{◌-◌, ◌/◌, ◌<◌}
use native.Mathlib.Omega.{arith}
use lib.ListN.{length, get_or}
use Rattle.parse.specs.View.{record_of}
use Rattle.image.proofs.Ascends.{first_record, later_record, not_after, less_lem}
use Rattle.image.proofs.records.record_after.Goals as goal
use Rattle.image.proofs.records.record_after.Goals.{then-k-eq0-via-then-k-eq0, then-k-eq0-via-else-k-eq0+then-lt}

pub returns-then-k-eq0 : goal.returns-then-k-eq0
returns-then-k-eq0 c =
    let b = c.args.image.now in
    let k = c.args.k in
    let inside : k < length b / 40 = omega arith in
    let cs = c.as_chunks.result.0.now in
    let e = c.as_chunks.ensures.front in
    c.decoded.ensures
    ∙ ap record_of (elim c.then-k-eq0.branch [
      | then-k-eq0-via-then-k-eq0 w ↦ first_record b k _ inside cs e w.if-k-eq0.true c.requires
      | then-k-eq0-via-else-k-eq0+then-lt w ↦ later_record b k _ inside cs e w.if-k-eq0.false (sym (less_lem (get_or cs (k - 1) []) (get_or cs k []) w.lt.result w.lt.ensures) ∙ w.if-lt.true)
    ])

pub returns : goal.returns
returns c =
    let b = c.args.image.now in
    let k = c.args.k in
    let inside : k < length b / 40 = omega arith in
    let cs = c.as_chunks.result.0.now in
    ap record_of (not_after b k _ inside cs c.as_chunks.ensures.front c.if-k-eq0.false (sym (less_lem (get_or cs (k - 1) []) (get_or cs k []) c.lt.result c.lt.ensures) ∙ c.if-lt.false))
