-- `words::hex::put_pairs` meets its contract. Assumes nothing.
use Rattle.std.proofs.Common.{◌≡◌, ℕ, ◌<◌, sym, ◌∙◌, length, get_or, arith}
use Rattle.std.proofs.lemmas.List.{same_lists, get_or_default}
use Rattle.words.specs.Hex.{pairs}
use Rattle.words.proofs.Hexes.{pairs_length, pairs_at}
use Rattle.words.proofs.hex.put_pairs.Goals as goal

pub returns : goal.returns
returns c =
    let s = c.args.s.now in
    let n = length c.args.out.now in
    let l = pairs_length s n c.requires.0 in
    let at : (k : ℕ) → k < n → get_or c.loop-i.out k 0 ≡ get_or (pairs s) k 0 = λ k h. c.loop-i.invariant k (omega arith) ∙ sym (pairs_at s k n c.requires.0 h) in
    same_lists _ _ (omega arith) (λ k d h. get_or_default _ k d 0 h ∙ at k (omega arith) ∙ get_or_default _ k 0 d (omega arith))
