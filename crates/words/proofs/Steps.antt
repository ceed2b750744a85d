-- An address read step by step. Assumes nothing.
use mathlib.Core.Path.{◌≡◌, refl, sym, ap, ◌∙◌}
use mathlib.Core.List.{List, [], ◌∷◌, ◌++◌, append_assoc, append-nil}
use Prim.Native.Nat.{ℕ, ◌+◌, ◌≤◌, ◌<◌}
use native.Mathlib.Omega.{arith}
use lib.ListN.{length, take, drop, set, get_or, length-append}
use lib.Seq.{take-append-le}
use borrow.Author.Tests.{le-leb, lt-leb}
use Rattle.std.specs.Prelude.{Option, None, Some, option_map}
use Rattle.std.proofs.lemmas.List.{at_drop_more, at_drop_all}
use Rattle.laws.specs.Slots.{pick, slots}
use Rattle.path.specs.declared.RawPath.{RawPath}
use Rattle.words.specs.Numbers.{decimal, up_to}
use Rattle.words.specs.Words.{split}
use Rattle.words.specs.Paths.{before, bytes_in, counted, steps_in, raw_of}

-- ---- one step more in the array
held_next : (l : List ℕ) (n : ℕ) → length l < 6 → set (slots 6 0 (take 6 l)) (length l) n ≡ slots 6 0 (take 6 (l ++ (n ∷ [])))
held_next [] n h = refl
held_next (a ∷ []) n h = refl
held_next (a ∷ b ∷ []) n h = refl
held_next (a ∷ b ∷ c ∷ []) n h = refl
held_next (a ∷ b ∷ c ∷ d ∷ []) n h = refl
held_next (a ∷ b ∷ c ∷ d ∷ e ∷ []) n h = refl
held_next (a ∷ b ∷ c ∷ d ∷ e ∷ f ∷ l) n h = absurd (omega arith)

pub step_in : (p : RawPath) (n : ℕ) (l : List ℕ) → p ≡ raw_of l → p.len < 6 → record { len = p.len + 1; steps = set p.steps p.len n } ≡ raw_of (l ++ (n ∷ []))
step_in p n l e h =
    let k : length l < 6 = (let f = ap (λ (q : RawPath). q.len) e in omega arith) in
    ap (λ (q : RawPath). record { len = q.len + 1; steps = set q.steps q.len n }) e
    ∙ (λ i. record { len = sym (length-append l (n ∷ [])) i; steps = held_next l n k i })

pub step_past : (p : RawPath) (n : ℕ) (l : List ℕ) → p ≡ raw_of l → 6 ≤ p.len → record { len = p.len + 1; steps = p.steps } ≡ raw_of (l ++ (n ∷ []))
step_past p n l e h =
    let k : 6 ≤ length l = (let f = ap (λ (q : RawPath). q.len) e in omega arith) in
    ap (λ (q : RawPath). record { len = q.len + 1; steps = q.steps }) e
    ∙ (λ i. record { len = sym (length-append l (n ∷ [])) i; steps = slots 6 0 (sym (take-append-le 6 l (n ∷ []) k) i) })

-- ---- the loop: the steps so far, and the parts that are left
abbrev joined : List ℕ → Option (List ℕ) → Option (List ℕ)
joined done o = option_map (λ l. done ++ l) o

pub record Steps (s : List ℕ) (n : ℕ) (p : RawPath) : Type 0 where
  pub done : List ℕ
  pub held : p ≡ raw_of done
  pub few : length done ≤ 255
  pub goes : steps_in s ≡ counted (joined done (bytes_in (drop n (split 46 s))))

joined_next : (done : List ℕ) (n : ℕ) (o : Option (List ℕ)) → joined done (option_map (λ l. n ∷ l) o) ≡ joined (done ++ (n ∷ [])) o
joined_next done n None = refl
joined_next done n (Some l) = ap Some (sym (append_assoc done (n ∷ []) l))

joined_over : (done : List ℕ) (o : Option (List ℕ)) → 255 < length done → counted (joined done o) ≡ None
joined_over done None h = refl
joined_over done (Some l) h = let e = length-append done l in ap (λ t. pick t (Some (done ++ l)) None) (lt-leb (length (done ++ l)) 255 (omega arith))

module _ (s : List ℕ) (n : ℕ) (p : RawPath) (w : Steps s n p) where
  pub steps_end : length (split 46 s) ≤ n → Some p ≡ option_map raw_of (steps_in s)
  steps_end h =
      ap Some w.held
      ∙ sym (ap (option_map raw_of) (w.goes
      ∙ ap (λ o. counted (joined w.done o)) (at_drop_all bytes_in (split 46 s) n h)
      ∙ ap (λ l. counted (Some l)) (append-nil w.done)
      ∙ ap (λ t. pick t (Some w.done) None) (le-leb (length w.done) 255 w.few)))

  module _ (part : List ℕ) (t : (n < length (split 46 s)) × (part ≡ get_or (split 46 s) n part)) where
    on : steps_in s ≡ counted (joined w.done (before (up_to 255 (decimal part)) (bytes_in (drop (n + 1) (split 46 s)))))
    on =
        w.goes
        ∙ ap (λ o. counted (joined w.done o)) (at_drop_more bytes_in (split 46 s) n part t.0)
        ∙ ap (λ q. counted (joined w.done (before (up_to 255 (decimal q)) (bytes_in (drop (n + 1) (split 46 s)))))) (sym t.1)

    pub steps_bad : None ≡ up_to 255 (decimal part) → None ≡ option_map raw_of (steps_in s)
    steps_bad e = sym (ap (option_map raw_of) (on ∙ ap (λ o. counted (joined w.done (before o (bytes_in (drop (n + 1) (split 46 s)))))) (sym e)))

    module _ (k : ℕ) (e : Some k ≡ up_to 255 (decimal part)) where
      went : steps_in s ≡ counted (joined (w.done ++ (k ∷ [])) (bytes_in (drop (n + 1) (split 46 s))))
      went =
          on
          ∙ ap (λ o. counted (joined w.done (before o (bytes_in (drop (n + 1) (split 46 s)))))) (sym e)
          ∙ ap counted (joined_next w.done k (bytes_in (drop (n + 1) (split 46 s))))

      length_is : p.len ≡ length w.done
      length_is = ap (λ (x : RawPath). x.len) w.held

      pub steps_over : p.len ≡ 255 → None ≡ option_map raw_of (steps_in s)
      steps_over h =
          let a = length-append w.done (k ∷ []) in
          let j = length_is in
          sym (ap (option_map raw_of) (went ∙ joined_over (w.done ++ (k ∷ [])) (bytes_in (drop (n + 1) (split 46 s))) (omega arith)))

      pub steps_next : (f : RawPath) → ((l : List ℕ) → p ≡ raw_of l → f ≡ raw_of (l ++ (k ∷ []))) → (p.len ≡ 255 → ⊥) → Steps s (n + 1) f
      steps_next f g h =
          let a = length-append w.done (k ∷ []) in
          let j = length_is in
          let m = w.few in
          let x : (length w.done ≡ 255 → ⊥) = λ y. h (j ∙ y) in
          record { done = w.done ++ (k ∷ []); held = g w.done w.held; few = omega arith; goes = went }
