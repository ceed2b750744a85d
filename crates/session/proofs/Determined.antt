-- A promise determines what it is of: any two results that it allows are equal. Assumes nothing.
use mathlib.Core.Path.{◌≡◌, sym, ◌∙◌}
use mathlib.Core.List.{List}
use Prim.Native.Nat.{ℕ}
use Rattle.model.specs.Run.{Call}
use Rattle.state.specs.declared.Session.{Session}
use Rattle.state.specs.View.{Answer, SessionSound}
use Rattle.state.specs.Calls.{Steps, Writes}
use Rattle.session.specs.Promises.{Gave, Promised}
use Rattle.session.proofs.Runs.{as_promised}

-- answer and session
pub determined : (s : Session) (c : Call) (a a' : Answer) (t t' : Session) → Steps s c a t → Steps s c a' t' → (a ≡ a') × (t ≡ t')
determined s c a a' t t' p q = (p.0 ∙ sym q.0, p.1 ∙ sym q.1)

-- answer and lent buffer
pub written_determined : (s : Session) (c : Call) (a a' : Answer) (b b' : List ℕ) → Writes s c a b → Writes s c a' b' → (a ≡ a') × (b ≡ b')
written_determined s c a a' b b' p q = (p.0 ∙ sym q.0, p.1 ∙ sym q.1)

-- of every public call: answer, session and each lent byte
pub call_determined : (s : Session) → SessionSound s → (c : Call) (g g' : Gave) (t t' : Session) → Promised s c g t → Promised s c g' t' → (g ≡ g') × (t ≡ t')
call_determined s h c g g' t t' p q =
    let v = as_promised s h g t c p in
    let w = as_promised s h g' t' c q in
    (v.0 ∙ sym w.0, v.1 ∙ sym w.1)
