-- What edits do to any tree: what holds of each branch, how high it is, what it weighs, which children are there. Assumes nothing.
use mathlib.Core.Path.{◌≡◌, refl, sym, ap, subst, ◌∙◌}
use mathlib.Core.Option.{Option, none, some, some-injective, none-ne-some}
use mathlib.Core.List.{List, [], ◌∷◌}
use Prim.Native.Nat.{ℕ, zero, suc, ◌+◌, ◌≤◌, ◌<◌}
use native.Mathlib.Omega.{arith}
use lib.ListN.{length}
use Rattle.path.specs.Address.{Address, parent, last}
use Rattle.twin.specs.Tree.{Tree, node, Forest, fnil, fcons, then, payload, kids, count, child, kid, branch, look, put, drop, change, from1, edit, set_at, height, height_f, weigh, weigh_f}
use Rattle.twin.specs.Good.{Each, EachF}
use Rattle.twin.proofs.Trees.{then_some, look_branch}

module _ {P : Type 0} where
  -- ---- places
  -- a place where nothing stands is beyond its parent's children
  child_beyond : (i : ℕ) (f : Forest P) → child i f ≡ none → count f ≤ i
  child_beyond i fnil e = omega arith
  child_beyond zero (fcons t f) e = absurd (none-ne-some t (sym e))
  child_beyond (suc i) (fcons t f) e = let h : count f ≤ i = child_beyond i f e in omega arith

  kid_beyond : (i : ℕ) (f : Forest P) → 1 ≤ i → kid i f ≡ none → count f < i
  kid_beyond zero f h e = omega arith
  kid_beyond (suc i) f h e = let k : count f ≤ i = child_beyond i f e in omega arith

  none_there : (o : Option (Tree P)) → then o (λ s. some (payload s)) ≡ none → o ≡ none
  none_there none e = refl
  none_there (some s) e = absurd (none-ne-some (payload s) (sym e))

  pub nothing_there : (k : ℕ) (q : Address) (t u : Tree P) → branch (parent (k ∷ q)) t ≡ some u → look (k ∷ q) t ≡ none → 1 ≤ last (k ∷ q) → count (kids u) < last (k ∷ q)
  nothing_there k [] t u b e h =
      kid_beyond k (kids u) h (ap (λ (s : Tree P). kid k (kids s)) (sym (some-injective t u b)) ∙ none_there (kid k (kids t)) e)
  nothing_there k (j ∷ q) t u b e h =
      let w = then_some (kid k (kids t)) (λ s. branch (parent (j ∷ q)) s) u b in
      nothing_there j q w.0 u w.2 (ap (λ (o : Option (Tree P)). then o (λ s. look (j ∷ q) s)) (sym w.1) ∙ e) h

  -- ---- how many children
  count_change : (g : Tree P → Tree P) (k : ℕ) (f : Forest P) → count (change g k f) ≡ count f
  count_change g k fnil = refl
  count_change g zero (fcons t f) = refl
  count_change g (suc k) (fcons t f) = ap suc (count_change g k f)

  pub count_put : (s : Tree P) (k : ℕ) (f : Forest P) → count (put s k f) ≤ suc (count f)
  count_put s zero f = omega arith
  count_put s (suc k) fnil = omega arith
  count_put s (suc k) (fcons t f) = let h : count (put s k f) ≤ suc (count f) = count_put s k f in omega arith

  pub count_drop : (k : ℕ) (f : Forest P) → count (drop k f) ≤ count f
  count_drop k fnil = omega arith
  count_drop zero (fcons t f) = omega arith
  count_drop (suc k) (fcons t f) = let h : count (drop k f) ≤ count f = count_drop k f in omega arith

  change1_count : (g : Tree P → Tree P) (k : ℕ) (f : Forest P) → count (from1 (change g) k f) ≤ count f
  change1_count g zero f = omega arith
  change1_count g (suc k) f = let e : count (change g k f) ≡ count f = count_change g k f in omega arith

  from1_count : (h : ℕ → Forest P → Forest P) (b : ℕ) → ((k : ℕ) (f : Forest P) → count (h k f) ≤ b + count f) → (k : ℕ) (f : Forest P) → count (from1 h k f) ≤ b + count f
  from1_count h b g zero f = omega arith
  from1_count h b g (suc k) f = g k f

-- ---- what holds of every branch
module _ {P : Type 0} (Q : Tree P → Type 0) where
  pub each_top : (t : Tree P) → Each Q t → Q t
  each_top (node p f) e = e.0

  pub each_kids : (t : Tree P) → Each Q t → EachF Q (kids t)
  each_kids (node p f) e = e.1

  each_child : (i : ℕ) (f : Forest P) (s : Tree P) → child i f ≡ some s → EachF Q f → Each Q s
  each_child i fnil s e h = absurd (none-ne-some s e)
  each_child zero (fcons t f) s e h = subst (Each Q) (some-injective t s e) h.0
  each_child (suc i) (fcons t f) s e h = each_child i f s e h.1

  pub each_kid : (i : ℕ) (f : Forest P) (s : Tree P) → kid i f ≡ some s → EachF Q f → Each Q s
  each_kid zero f s e h = absurd (none-ne-some s e)
  each_kid (suc i) f s e h = each_child i f s e h

  pub each_branch : (q : Address) (t s : Tree P) → branch q t ≡ some s → Each Q t → Each Q s
  each_branch [] t s e h = subst (Each Q) (some-injective t s e) h
  each_branch (i ∷ q) t s e h =
      let w = then_some (kid i (kids t)) (λ u. branch q u) s e in each_branch q w.0 s w.2 (each_kid i (kids t) w.0 w.1 (each_kids t h))

  each_change : (g : Tree P → Tree P) (k : ℕ) (f : Forest P) → ((s : Tree P) → child k f ≡ some s → Each Q s → Each Q (g s)) → EachF Q f → EachF Q (change g k f)
  each_change g k fnil h e = e
  each_change g zero (fcons t f) h e = (h t refl e.0, e.1)
  each_change g (suc k) (fcons t f) h e = (e.0, each_change g k f h e.1)

  each_change1 : (g : Tree P → Tree P) (k : ℕ) (f : Forest P) → ((s : Tree P) → kid k f ≡ some s → Each Q s → Each Q (g s)) → EachF Q f → EachF Q (from1 (change g) k f)
  each_change1 g zero f h e = e
  each_change1 g (suc k) f h e = each_change g k f h e

  pub each_put : (s : Tree P) → Each Q s → (k : ℕ) (f : Forest P) → EachF Q f → EachF Q (put s k f)
  each_put s h zero f e = (h, e)
  each_put s h (suc k) fnil e = e
  each_put s h (suc k) (fcons t f) e = (e.0, each_put s h k f e.1)

  pub each_drop : (k : ℕ) (f : Forest P) → EachF Q f → EachF Q (drop k f)
  each_drop k fnil e = e
  each_drop zero (fcons t f) e = e.1
  each_drop (suc k) (fcons t f) e = (e.0, each_drop k f e.1)

  from1_each : (h : ℕ → Forest P → Forest P) → ((k : ℕ) (f : Forest P) → EachF Q f → EachF Q (h k f)) → (k : ℕ) (f : Forest P) → EachF Q f → EachF Q (from1 h k f)
  from1_each h g zero f e = e
  from1_each h g (suc k) f e = g k f e

  -- Q that asks of the children only that they are not too many
  abbrev pub Narrow : Type 0
  Narrow = (t : Tree P) (f : Forest P) → count f ≤ count (kids t) → Q t → Q (node (payload t) f)

  -- an edit that adds at most b children to the node above the place
  pub each_edit : Narrow → (h : ℕ → Forest P → Forest P) (b : ℕ) → ((k : ℕ) (f : Forest P) → count (h k f) ≤ b + count f) → ((k : ℕ) (f : Forest P) → EachF Q f → EachF Q (h k f))
      → (k : ℕ) (q : Address) (t : Tree P) → ((u : Tree P) (f : Forest P) → branch (parent (k ∷ q)) t ≡ some u → Q u → count f ≤ b + count (kids u) → Q (node (payload u) f))
      → Each Q t → Each Q (edit h k q t)
  each_edit n h b c g k [] t a e = (a t (from1 h k (kids t)) refl (each_top t e) (from1_count h b c k (kids t)), from1_each h g k (kids t) (each_kids t e))
  each_edit n h b c g k (j ∷ q) t a e = (
    n t (from1 (change (λ s. edit h j q s)) k (kids t)) (change1_count (λ s. edit h j q s) k (kids t)) (each_top t e),
    each_change1 (λ s. edit h j q s) k (kids t)
        (λ s d. each_edit n h b c g j q s (λ u f w. a u f (ap (λ (o : Option (Tree P)). then o (λ v. branch (parent (j ∷ q)) v)) d ∙ w))) (each_kids t e),
  )

  pub each_set : Narrow → (g : P → P) (q : Address) (t : Tree P) → ((u : Tree P) → branch q t ≡ some u → Q u → Q (node (g (payload u)) (kids u))) → Each Q t → Each Q (set_at g q t)
  each_set n g [] (node p f) a e = (a (node p f) refl e.0, e.1)
  each_set n g (i ∷ q) t a e = (
    n t (from1 (change (λ s. set_at g q s)) i (kids t)) (change1_count (λ s. set_at g q s) i (kids t)) (each_top t e),
    each_change1 (λ s. set_at g q s) i (kids t)
        (λ s d. each_set n g q s (λ u w. a u (ap (λ (o : Option (Tree P)). then o (λ v. branch q v)) d ∙ w))) (each_kids t e),
  )

-- ---- how high
module _ {P : Type 0} where
  kids_height : (t : Tree P) → height_f (kids t) ≡ height t
  unfolding height
  kids_height (node p f) = refl

  child_height : (i : ℕ) (f : Forest P) (s : Tree P) → child i f ≡ some s → suc (height s) ≤ height_f f
  unfolding height
  child_height i fnil s e = absurd (none-ne-some s e)
  child_height zero (fcons t f) s e = let d : height t ≡ height s = ap height (some-injective t s e) in omega arith
  child_height (suc i) (fcons t f) s e = let d : suc (height s) ≤ height_f f = child_height i f s e in omega arith

  kid_height : (i : ℕ) (t s : Tree P) → kid i (kids t) ≡ some s → suc (height s) ≤ height t
  kid_height zero t s e = absurd (none-ne-some s e)
  kid_height (suc i) t s e = let d : suc (height s) ≤ height_f (kids t) = child_height i (kids t) s e in let k : height_f (kids t) ≡ height t = kids_height t in omega arith

  pub branch_height : (q : Address) (t s : Tree P) → branch q t ≡ some s → length q + height s ≤ height t
  branch_height [] t s e = let d : height t ≡ height s = ap height (some-injective t s e) in omega arith
  branch_height (i ∷ q) t s e =
      let w = then_some (kid i (kids t)) (λ u. branch q u) s e in
      let a : suc (height w.0) ≤ height t = kid_height i t w.0 w.1 in
      let b : length q + height s ≤ height w.0 = branch_height q w.0 s w.2 in omega arith

  change_height : (n : ℕ) (g : Tree P → Tree P) → ((s : Tree P) → height s ≤ n → height (g s) ≤ n) → (k : ℕ) (f : Forest P) → height_f f ≤ suc n → height_f (change g k f) ≤ suc n
  unfolding height
  change_height n g h k fnil b = omega arith
  change_height n g h zero (fcons t f) b = let a : height (g t) ≤ n = h t (omega arith) in omega arith
  change_height n g h (suc k) (fcons t f) b = let a : height_f (change g k f) ≤ suc n = change_height n g h k f (omega arith) in omega arith

  pub put_height : (n : ℕ) (s : Tree P) → height s < n → (k : ℕ) (f : Forest P) → height_f f ≤ n → height_f (put s k f) ≤ n
  unfolding height
  put_height n s h zero f b = omega arith
  put_height n s h (suc k) fnil b = omega arith
  put_height n s h (suc k) (fcons t f) b = let a : height_f (put s k f) ≤ n = put_height n s h k f (omega arith) in omega arith

  pub drop_height : (n k : ℕ) (f : Forest P) → height_f f ≤ n → height_f (drop k f) ≤ n
  unfolding height
  drop_height n k fnil b = omega arith
  drop_height n zero (fcons t f) b = omega arith
  drop_height n (suc k) (fcons t f) b = let a : height_f (drop k f) ≤ n = drop_height n k f (omega arith) in omega arith

  from1_height : (h : ℕ → Forest P → Forest P) (n : ℕ) → ((k : ℕ) (f : Forest P) → height_f f ≤ n → height_f (h k f) ≤ n) → (k : ℕ) (t : Tree P) → height t ≤ n → height (node (payload t) (from1 h k (kids t))) ≤ n
  unfolding height
  from1_height h n g zero (node p f) b = b
  from1_height h n g (suc k) (node p f) b = g k f b

  -- an edit that leaves children no higher than m, at the end of the address q
  pub edit_height : (h : ℕ → Forest P → Forest P) (m : ℕ) → ((k : ℕ) (f : Forest P) → height_f f ≤ m → height_f (h k f) ≤ m) → (k : ℕ) (q : Address) (t : Tree P) → height t ≤ length q + m → height (edit h k q t) ≤ length q + m
  edit_height h m g k [] t b = let a : height (edit h k [] t) ≤ m = from1_height h m g k t (omega arith) in omega arith
  edit_height h m g k (j ∷ q) t b =
      let a : height (edit h k (j ∷ q) t) ≤ suc (length q + m)
      = from1_height (change (λ s. edit h j q s)) (suc (length q + m)) (change_height (length q + m) (λ s. edit h j q s) (edit_height h m g j q)) k t (omega arith) in
      omega arith

  pub set_height : (g : P → P) (q : Address) (t : Tree P) (n : ℕ) → height t ≤ n → height (set_at g q t) ≤ n
  unfolding height
  set_height g [] (node p f) n b = b
  set_height g (i ∷ q) t zero b = go i (kids t) (let e : height_f (kids t) ≡ height t = kids_height t in omega arith)
    where
      go : (k : ℕ) (f : Forest P) → height_f f ≤ 0 → height_f (from1 (change (λ s. set_at g q s)) k f) ≤ 0
      go zero f z = z
      go (suc k) fnil z = z
      go (suc k) (fcons s f) z = omega arith
  set_height g (i ∷ q) t (suc n) b = from1_height (change (λ s. set_at g q s)) (suc n) (change_height n (λ s. set_at g q s) (λ s. set_height g q s n)) i t b

-- ---- what it weighs
module _ {P X : Type 0} (items : P → List X) where
  weigh_is : (t : Tree P) → weigh items t ≡ length (items (payload t)) + weigh_f items (kids t)
  unfolding weigh
  weigh_is (node p f) = refl

  child_weigh : (i : ℕ) (f : Forest P) (s : Tree P) → child i f ≡ some s → weigh items s ≤ weigh_f items f
  unfolding weigh
  child_weigh i fnil s e = absurd (none-ne-some s e)
  child_weigh zero (fcons t f) s e = let d : weigh items t ≡ weigh items s = ap (weigh items) (some-injective t s e) in omega arith
  child_weigh (suc i) (fcons t f) s e = let d : weigh items s ≤ weigh_f items f = child_weigh i f s e in omega arith

  kid_weigh : (i : ℕ) (t s : Tree P) → kid i (kids t) ≡ some s → weigh items s ≤ weigh items t
  kid_weigh zero t s e = absurd (none-ne-some s e)
  kid_weigh (suc i) t s e = let d : weigh items s ≤ weigh_f items (kids t) = child_weigh i (kids t) s e in omega (arith, weigh_is t)

  pub branch_weigh : (q : Address) (t s : Tree P) → branch q t ≡ some s → weigh items s ≤ weigh items t
  branch_weigh [] t s e = let d : weigh items t ≡ weigh items s = ap (weigh items) (some-injective t s e) in omega arith
  branch_weigh (i ∷ q) t s e =
      let w = then_some (kid i (kids t)) (λ u. branch q u) s e in
      let a : weigh items w.0 ≤ weigh items t = kid_weigh i t w.0 w.1 in
      let b : weigh items s ≤ weigh items w.0 = branch_weigh q w.0 s w.2 in omega arith

  pub look_weigh : (q : Address) (t : Tree P) (p : P) → look q t ≡ some p → length (items p) ≤ weigh items t
  look_weigh q t p e =
      let w = look_branch q t p e in
      let a : weigh items w.0 ≤ weigh items t = branch_weigh q t w.0 w.1 in
      let b : length (items (payload w.0)) ≡ length (items p) = ap (λ (x : P). length (items x)) w.2 in omega (arith, weigh_is w.0)

  change_weigh : (b : ℕ) (g : Tree P → Tree P) (k : ℕ) (f : Forest P) → ((s : Tree P) → child k f ≡ some s → weigh items (g s) ≤ b + weigh items s) → weigh_f items (change g k f) ≤ b + weigh_f items f
  unfolding weigh
  change_weigh b g k fnil h = omega arith
  change_weigh b g zero (fcons t f) h = let a : weigh items (g t) ≤ b + weigh items t = h t refl in omega arith
  change_weigh b g (suc k) (fcons t f) h = let a : weigh_f items (change g k f) ≤ b + weigh_f items f = change_weigh b g k f h in omega arith

  change1_weigh : (b : ℕ) (g : Tree P → Tree P) (k : ℕ) (t : Tree P) → ((s : Tree P) → kid k (kids t) ≡ some s → weigh items (g s) ≤ b + weigh items s)
      → weigh items (node (payload t) (from1 (change g) k (kids t))) ≤ b + weigh items t
  unfolding weigh
  change1_weigh b g zero (node p f) h = omega arith
  change1_weigh b g (suc k) (node p f) h = let a : weigh_f items (change g k f) ≤ b + weigh_f items f = change_weigh b g k f h in omega arith

  pub put_weigh : (s : Tree P) (k : ℕ) (f : Forest P) → weigh_f items (put s k f) ≤ weigh items s + weigh_f items f
  unfolding weigh
  put_weigh s zero f = omega arith
  put_weigh s (suc k) fnil = omega arith
  put_weigh s (suc k) (fcons t f) = let a : weigh_f items (put s k f) ≤ weigh items s + weigh_f items f = put_weigh s k f in omega arith

  pub drop_weigh : (k : ℕ) (f : Forest P) → weigh_f items (drop k f) ≤ weigh_f items f
  unfolding weigh
  drop_weigh k fnil = omega arith
  drop_weigh zero (fcons t f) = omega arith
  drop_weigh (suc k) (fcons t f) = let a : weigh_f items (drop k f) ≤ weigh_f items f = drop_weigh k f in omega arith

  pub edit_weigh : (h : ℕ → Forest P → Forest P) (b : ℕ) → ((k : ℕ) (f : Forest P) → weigh_f items (h k f) ≤ b + weigh_f items f) → (k : ℕ) (q : Address) (t : Tree P) → weigh items (edit h k q t) ≤ b + weigh items t
  unfolding weigh
  edit_weigh h b g zero [] (node p f) = omega arith
  edit_weigh h b g (suc k) [] (node p f) = let a : weigh_f items (h k f) ≤ b + weigh_f items f = g k f in omega arith
  edit_weigh h b g k (j ∷ q) t = change1_weigh b (λ s. edit h j q s) k t (λ s e. edit_weigh h b g j q s)

  pub set_weigh : (g : P → P) (b : ℕ) (q : Address) (t : Tree P) → ((p : P) → look q t ≡ some p → length (items (g p)) ≤ b + length (items p)) → weigh items (set_at g q t) ≤ b + weigh items t
  unfolding weigh
  set_weigh g b [] (node p f) h = let a : length (items (g p)) ≤ b + length (items p) = h p refl in omega arith
  set_weigh g b (i ∷ q) t h =
      change1_weigh b (λ s. set_at g q s) i t (λ s e. set_weigh g b q s (λ p d. h p (ap (λ (o : Option (Tree P)). then o (λ u. look q u)) e ∙ d)))
