-- `words::hex::hex_in` meets its contract. Assumes nothing.
use mathlib.Core.Path.{sym, ap, ◌∙◌}
use Rattle.std.proofs.Common.{◌++◌, drop, length, ◌/◌}
use Rattle.std.specs.Str.{bytes_eq}
use Rattle.words.proofs.Hexes.{ends_odd, ends_other, ends_room, ends_bytes}
use Rattle.words.proofs.hex.hex_in.Goals as goal
use Rattle.words.proofs.hex.hex_in.Goals.{then-s-ne0-via-then-s-ne0, then-s-ne0-via-else-s-ne0+then-not-all_digits}

pub returns-then-s-ne0 : goal.returns-then-s-ne0
returns-then-s-ne0 c =
    let s = c.args.s.now in
    let dash = ap (bytes_eq s) (sym c.as_slice.ensures) ∙ sym c.eq.ensures ∙ c.if-eq.false in
    elim c.then-s-ne0.branch [
      | then-s-ne0-via-then-s-ne0 w ↦ ends_odd s c.args.out.now dash w.if-s-ne0.true
      | then-s-ne0-via-else-s-ne0+then-not-all_digits w ↦ ends_other s c.args.out.now dash w.if-s-ne0.false (sym w.all_digits.ensures ∙ w.if-not-all_digits.true)
    ]

pub returns-then-out-n : goal.returns-then-out-n
returns-then-out-n c =
    let s = c.args.s.now in
    ends_room s c.args.out.now (ap (bytes_eq s) (sym c.as_slice.ensures) ∙ sym c.eq.ensures ∙ c.if-eq.false) c.if-s-ne0.false (sym c.all_digits.ensures ∙ c.if-not-all_digits.false) c.if-out-n.true

pub returns : goal.returns
returns c =
    let s = c.args.s.now in
    ends_bytes s c.args.out.now (ap (bytes_eq s) (sym c.as_slice.ensures) ∙ sym c.eq.ensures ∙ c.if-eq.false) c.if-s-ne0.false (sym c.all_digits.ensures ∙ c.if-not-all_digits.false) c.if-out-n.false _ (ap (λ l. l ++ drop (length s / 2) c.args.out.now) c.put_pairs.ensures)
