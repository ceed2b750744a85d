-- `image::nodes::node_fits` meets its contract: the rules in turn. Assumes nothing.
use borrow.Author.Tests.{not-false}
use mathlib.Core.Path.{◌≡◌, sym, ap, subst, ◌∙◌}
use mathlib.Core.Bool.{Bool, false}
use mathlib.Core.List.{List}
use Prim.Native.Nat.{ℕ}
use native.Mathlib.Omega.{arith}
use lib.ListN.{length}
use Rattle.path.specs.Address.{Address, parent, last}
use Rattle.path.specs.Packed.{number}
use Rattle.path.specs.View.{steps, key_of}
use Rattle.model.specs.Image.{left}
use Rattle.image.specs.Columns.{NoneAbove, among}
use Rattle.image.proofs.Keys.{number_key}
use Rattle.image.proofs.Tests.{node_second, node_root, node_first, node_beside, last_more}
use Rattle.image.proofs.nodes.node_fits.Goals as goal
use Rattle.image.proofs.nodes.node_fits.Goals.{After-is_among, After-key, After-node_here, Else-last_step-eq1, Else-size-eq0, Start}

abbrev at : Start → Address
at s = steps s.args.p

abbrev column : Start → List ℕ
column s = s.args.keys.now

abbrev is_there : Start → Address → Bool
is_there s q = among (number q) (column s)

-- the key that is looked for is the path's number
asked : (c : After-key) → c.key.result ≡ number (at (goal.at-After-key c).Start)
asked c = c.key.ensures ∙ number_key c.args.p c.requires.1

pub node_here-requires : goal.node_here-requires
node_here-requires c =
    (c.requires.0, subst (λ k. NoneAbove k (column (goal.at.node_here-requires c).Start)) (sym (asked (goal.at.node_here-requires c).After-key)) c.requires.2)

here : (c : After-node_here) → c.node_here.result ≡ is_there (goal.at-After-node_here c).Start (at (goal.at-After-node_here c).Start)
here c = c.node_here.ensures ∙ ap (λ k. among k (column (goal.at-After-node_here c).Start)) (asked (goal.at-After-node_here c).After-key)

pub returns-then-node_here : goal.returns-then-node_here
returns-then-node_here c =
    node_second (at (goal.at.returns-then-node_here c).Start) (is_there (goal.at.returns-then-node_here c).Start (at (goal.at.returns-then-node_here c).Start)) (is_there (goal.at.returns-then-node_here c).Start (parent (at (goal.at.returns-then-node_here c).Start))) (is_there (goal.at.returns-then-node_here c).Start (left (at (goal.at.returns-then-node_here c).Start))) (length (column (goal.at.returns-then-node_here c).Start)) (sym (here (goal.at.returns-then-node_here c).After-node_here) ∙ c.if-node_here.true)

pub returns-then-size-eq0 : goal.returns-then-size-eq0
returns-then-size-eq0 c =
    node_root (at (goal.at.returns-then-size-eq0 c).Start) (is_there (goal.at.returns-then-size-eq0 c).Start (at (goal.at.returns-then-size-eq0 c).Start)) (is_there (goal.at.returns-then-size-eq0 c).Start (parent (at (goal.at.returns-then-size-eq0 c).Start))) (is_there (goal.at.returns-then-size-eq0 c).Start (left (at (goal.at.returns-then-size-eq0 c).Start))) (length (column (goal.at.returns-then-size-eq0 c).Start)) (omega arith)
    (sym (here (goal.at.returns-then-size-eq0 c).After-node_here) ∙ c.if-node_here.false) (sym c.size.ensures.0 ∙ c.if-size-eq0.true)

fresh : (c : Else-size-eq0) → is_there (goal.at-Else-size-eq0 c).Start (at (goal.at-Else-size-eq0 c).Start) ≡ false
fresh c = sym (here (goal.at-Else-size-eq0 c).After-node_here) ∙ c.if-node_here.false

deep : (c : Else-size-eq0) → length (at (goal.at-Else-size-eq0 c).Start) ≡ 0 → ⊥
deep c e = c.if-size-eq0.false (c.size.ensures.0 ∙ e)

above : (c : After-is_among) → c.is_among.result ≡ is_there (goal.at-After-is_among c).Start (parent (at (goal.at-After-is_among c).Start))
above c =
    c.is_among.ensures ∙ ap (λ x. among x (column (goal.at-After-is_among c).Start)) (c.key-2.ensures ∙ ap key_of c.parent_of.ensures)

pub returns-then-last_step-eq1 : goal.returns-then-last_step-eq1
returns-then-last_step-eq1 c =
    node_first (at (goal.at.returns-then-last_step-eq1 c).Start) (is_there (goal.at.returns-then-last_step-eq1 c).Start (at (goal.at.returns-then-last_step-eq1 c).Start)) (is_there (goal.at.returns-then-last_step-eq1 c).Start (parent (at (goal.at.returns-then-last_step-eq1 c).Start))) (is_there (goal.at.returns-then-last_step-eq1 c).Start (left (at (goal.at.returns-then-last_step-eq1 c).Start))) (length (column (goal.at.returns-then-last_step-eq1 c).Start)) (omega arith) (fresh (goal.at.returns-then-last_step-eq1 c).Else-size-eq0) (deep (goal.at.returns-then-last_step-eq1 c).Else-size-eq0)
    (sym (above (goal.at.returns-then-last_step-eq1 c).After-is_among) ∙ not-false _ c.if-not-is_among.false-raw) (sym c.last_step.ensures ∙ c.if-last_step-eq1.true)

other : (c : Else-last_step-eq1) → last (at (goal.at-Else-last_step-eq1 c).Start) ≡ 1 → ⊥
other c e = c.if-last_step-eq1.false (c.last_step.ensures ∙ e)

pub left_of-requires : goal.left_of-requires
left_of-requires c =
    (c.requires.1, last_more c.requires.1 (deep (goal.at.left_of-requires c).Else-size-eq0) (other (goal.at.left_of-requires c).Else-last_step-eq1))

pub returns : goal.returns
returns c =
    c.is_among-2.ensures ∙ ap (λ x. among x (column (goal.at.returns c).Start)) (c.key-3.ensures ∙ ap key_of c.left_of.ensures)
    ∙ node_beside (at (goal.at.returns c).Start) (is_there (goal.at.returns c).Start (at (goal.at.returns c).Start)) (is_there (goal.at.returns c).Start (parent (at (goal.at.returns c).Start))) (is_there (goal.at.returns c).Start (left (at (goal.at.returns c).Start))) (length (column (goal.at.returns c).Start)) (omega arith) (fresh (goal.at.returns c).Else-size-eq0) (deep (goal.at.returns c).Else-size-eq0)
    (sym (above (goal.at.returns c).After-is_among) ∙ not-false _ c.if-not-is_among.false-raw) (other (goal.at.returns c).Else-last_step-eq1)
