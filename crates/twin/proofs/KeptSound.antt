-- A sound state is what some good session stands for, so every call keeps a state sound; and so do delete, copy and paste. Assumes nothing.
use mathlib.Core.Path.{◌≡◌, refl, sym, ap, subst, ◌∙◌}
use mathlib.Core.Logic.{◌≢◌}
use mathlib.Core.Bool.{◌&&◌}
use mathlib.Core.Option.{Option, none, some}
use mathlib.Core.List.Memᴰ
use mathlib.Core.List.{List, [], ◌∷◌}
use Prim.Native.Nat.{◌+◌, ◌≤◌}
use native.Mathlib.Omega.{arith}
use lib.Dec.{T, leb, leb→le, T_not}
use lib.ListN.{length}
use mir.Facts.{and_yes}
use Rattle.laws.specs.Sorted.{◌∈◌, Sorted, nil, cons}
use Rattle.laws.proofs.Order.{nat_order}
use Rattle.path.specs.Address.{Address, steps_good, valid, parent, last}
use Rattle.model.specs.Things as things
use Rattle.model.specs.Things.{Attribute, Permission, Dossier, Clipboard, State, fresh, lt_permission}
use Rattle.model.specs.Decide.{clash}
use Rattle.model.specs.Moves.{deepest, node_at, child_count, delete_branch, copy_branch, paste_branch}
use Rattle.model.specs.Refusals.{Sizes, missing, user_good, name_good, value_good, permission_good}
use Rattle.model.specs.Image.{there, Loaded, bad, good, save}
use Rattle.model.specs.Sound.{Sound, SoundSingle, SoundClipboard, SoundState}
use Rattle.model.specs.Run.{Call, sizes, step, after}
use Rattle.roundtrip.proofs.Orders.{permission_order}
use Rattle.roundtrip.proofs.Clash.{clash_back}
use Rattle.roundtrip.proofs.Scan.{good≠bad, good_is}
use Rattle.roundtrip.proofs.Load.{last_good, load_save}
use Rattle.twin.specs.Tree.{Tree, kids, count, branch, look, height}
use Rattle.twin.specs.Twin as twin
use Rattle.twin.specs.Twin.{Holding, Node, Clip, empty, branched, single, Session, begun, node_object, children_of, sizes_of, load_tree}
use Rattle.twin.specs.Good.{dossier_of, clipboard_of, state_of, NoClash, GoodTree, GoodSingle, GoodClip, GoodSession}
use Rattle.twin.proofs.Trees.{last_of, place_of, look_branch}
use Rattle.twin.proofs.Depth.{longest_height}
use Rattle.twin.proofs.KeepEdits.{branch_good, Room, paste_good, delete_good}
use Rattle.twin.proofs.SameNode.{in_order_is}
use Rattle.twin.proofs.Same.{node_same, children_same, sizes_same}
use Rattle.twin.proofs.SameEdit.{paste_same, delete_same, copy_same}
use Rattle.twin.proofs.SameRequest.{not_missing}
use Rattle.twin.proofs.KeepLoad.{Loads, load_good}
use Rattle.twin.proofs.SameLoad.{loaded_of, load_same}
use Rattle.twin.proofs.Keep.{begun_good, good_step}
use Rattle.twin.proofs.SameRuns.{begun_same, step_same}
use Rattle.twin.proofs.GoodSound.{good_sound, session_sound}

-- ---- what a sound dossier, clipboard and state stand for
-- a sound dossier's image loads as it, into a tree as into tables
pub dossier_represented : (d : Dossier) → Sound d → (t : Tree Node) × GoodTree t × (dossier_of t ≡ d)
dossier_represented d s = go (load_tree (save d)) (load_good (save d)) (sym (load_save d s) ∙ load_same (save d))
  where
    go : (l : Loaded (Option (Tree Node))) → Loads l → good d ≡ loaded_of l → (t : Tree Node) × GoodTree t × (dossier_of t ≡ d)
    go (bad n) h e = good≠bad d n e
    go (good none) h e = absurd (h none refl)
    go (good (some t)) h e = (t, h (some t) refl, sym (good_is d (dossier_of t) e))

no_clash_of : {l : List Permission} → Sorted lt_permission l → ((g h : Permission) → g ∈ l → h ∈ l → T (clash g h) → g ≡ h) → NoClash l
no_clash_of nil f = tt
no_clash_of (cons {x} {l} b s) f = (
  λ t. let w = clash_back x l t in
      permission_order.irr x (subst (λ (y : Permission). T (lt_permission x y)) (sym (f x w.0 (Memᴰ.head refl) (Memᴰ.tail w.1) w.2)) (b w.0 w.1)),
  no_clash_of s (λ g h m k. f g h (Memᴰ.tail m) (Memᴰ.tail k)),
)

-- the attribute with its permissions, which are in order already
single_represented : (a : Attribute) (l : List Permission) → SoundSingle a l → (b : Holding) × GoodSingle b × (clipboard_of (single b) ≡ things.single a l)
single_represented a l s = (
  record { name = a.name; owner = a.owner; value = a.value; permissions = l },
  record {
    holding = let w = and_yes (name_good a.name) (user_good a.owner && value_good a.value) s.attribute_good in
        let v = and_yes (user_good a.owner) (value_good a.value) w.1 in
        record {
          name = w.0;
          owner = v.0;
          value = v.1;
          permissions = record { each = λ g m. (and_yes (leb a.name 65535) (permission_good a.name g) (s.permissions_good g m)).1; no_clash = no_clash_of s.ascend s.no_clash };
        };
    few = s.few;
  },
  ap (things.single a) (sym (in_order_is lt_permission permission_order l s.ascend (λ x h. h) (λ x h. h))),
)

clipboard_represented : (c : Clipboard) → SoundClipboard c → (k : Clip) × GoodClip k × (clipboard_of k ≡ c)
clipboard_represented things.empty s = (empty, tt, refl)
clipboard_represented (things.branch d) s = let w = dossier_represented d s in (branched w.0, w.1, ap things.branch w.2)
clipboard_represented (things.single a l) s = let w = single_represented a l s in (single w.0, w.1, w.2)

pub represented : (s : State) → SoundState s → (t : Session) × GoodSession t × (state_of t ≡ s)
represented s h =
    let x = dossier_represented s.one h.one in
    let y = dossier_represented s.two h.two in
    let z = clipboard_represented s.clipboard h.clipboard in (
      record { one = x.0; two = y.0; clipboard = z.0; signatures = s.signatures; log = s.log },
      record { one = x.1; two = y.1; clipboard = z.1; rows = h.rows; agreements = h.agreements; entries = h.entries; log = h.log },
      λ i. record { one = x.2 i; two = y.2 i; clipboard = z.2 i; signatures = s.signatures; log = s.log },
    )

-- ---- every call leaves a sound state sound
pub sound_step : (s : State) (c : Call) → SoundState s → SoundState (step s c).0
sound_step s c h =
    let w = represented s h in
    subst (λ (x : State). SoundState (step x c).0) w.2
    (subst SoundState (sym (λ i. (step_same w.0 c w.1 i).0)) (session_sound (twin.step w.0 c).0 (good_step w.0 c w.1)))

sound_after : (s : State) (calls : List Call) → SoundState s → SoundState (after s calls)
sound_after s [] h = h
sound_after s (c ∷ l) h = sound_after (step s c).0 l (sound_step s c h)

pub kept_sound : (calls : List Call) → SoundState (after fresh calls)
kept_sound calls = sound_after fresh calls (subst SoundState (sym begun_same) (session_sound begun begun_good))

-- ---- and so do delete, copy and paste, where there is room
node_found : (q : Address) (t : Tree Node) → GoodTree t → T (there (node_at q (dossier_of t))) → (s : Tree Node) × (branch q t ≡ some s)
node_found q t g h =
    let o = subst (λ (x : Option _). T (there x)) (node_same q t g) h in
    let w = not_missing node_object (look q t) (T_not (missing (twin.node_at q t)) o) in
    let v = look_branch q t w.0 w.1 in (v.0, v.1)

pub copy_sound : (q : Address) (d : Dossier) → T (there (node_at q d)) → Sound d → Sound (copy_branch q d)
copy_sound q d h s = let w = dossier_represented d s in go w.0 w.1 w.2
  where
    go : (t : Tree Node) → GoodTree t → dossier_of t ≡ d → Sound (copy_branch q d)
    go t g e =
        let w = node_found q t g (subst (λ (x : Dossier). T (there (node_at q x))) (sym e) h) in
        subst Sound (sym (copy_same q t w.0 w.1) ∙ ap (copy_branch q) e) (good_sound w.0 (branch_good q t w.0 w.1 g))

pub delete_sound : (q : Address) (d : Dossier) → T (valid q) → q ≢ [] → Sound d → Sound (delete_branch q d)
delete_sound [] d v n s = absurd (n refl)
delete_sound (k ∷ q) d v n s =
    let w = dossier_represented d s in
    let u = and_yes (leb (length (k ∷ q)) 6) (steps_good (k ∷ q)) v in
    subst Sound (sym (delete_same k q w.0 (last_of k q (last_good k q u.1).0)) ∙ ap (delete_branch (k ∷ q)) w.2)
    (good_sound _ (delete_good (k ∷ q) w.0 (leb→le (length (k ∷ q)) 6 u.0) w.1))

-- a place below a node that is there, next to its children at the most, and the bounds kept
pub paste_sound : (q : Address) (c d : Dossier) → T (valid q) → q ≢ [] → T (there (node_at (parent q) d)) → last q ≤ child_count (parent q) d + 1
    → length d.nodes + length c.nodes ≤ 64 → length q + deepest c.nodes ≤ 6 → child_count (parent q) d + 1 ≤ 32
    → length d.attributes + length c.attributes ≤ 256 → length d.permissions + length c.permissions ≤ 128
    → Sound c → Sound d → Sound (paste_branch q c d)
paste_sound [] c d v n h l a b r x y sc sd = absurd (n refl)
paste_sound (k ∷ q) c d v n h l a b r x y sc sd =
    let w = dossier_represented c sc in
    let u = dossier_represented d sd in
    go w.0 w.1 u.0 u.1 w.2 u.2
  where
    go : (s : Tree Node) → GoodTree s → (t : Tree Node) → GoodTree t → dossier_of s ≡ c → dossier_of t ≡ d → Sound (paste_branch (k ∷ q) c d)
    go s gs t gt es et =
        let w = node_found (parent (k ∷ q)) t gt (subst (λ (z : Dossier). T (there (node_at (parent (k ∷ q)) z))) (sym et) h) in
        let m : child_count (parent (k ∷ q)) d ≡ count (kids w.0) = ap (child_count (parent (k ∷ q))) (sym et) ∙ children_same (parent (k ∷ q)) t ∙ ap children_of w.1 in
        let one : 1 ≤ last (k ∷ q) = (last_good k q (and_yes (leb (length (k ∷ q)) 6) (steps_good (k ∷ q)) v).1).0 in
        let e : deepest c.nodes ≡ height s = ap (λ (z : Dossier). deepest z.nodes) (sym es) ∙ longest_height (λ (z : Node). z.owner) _ nat_order s in
        let cs : sizes c ≡ sizes_of s = ap sizes (sym es) ∙ sizes_same s gs in
        let ds : sizes d ≡ sizes_of t = ap sizes (sym et) ∙ sizes_same t gt in
        let room : Room s (k ∷ q) t = record {
          children = λ z f. let j : count (kids z) ≡ count (kids w.0) = ap children_of (sym f ∙ w.1) in omega arith;
          depth = omega arith;
          nodes = omega (arith, ap (λ (z : Sizes). z.nodes) cs, ap (λ (z : Sizes). z.nodes) ds);
          attributes = omega (arith, ap (λ (z : Sizes). z.attributes) cs, ap (λ (z : Sizes). z.attributes) ds);
          permissions = omega (arith, ap (λ (z : Sizes). z.permissions) cs, ap (λ (z : Sizes). z.permissions) ds);
        } in
        subst Sound (sym (paste_same s k q t (place_of k q t w.0 w.1 one (omega arith))) ∙ (λ i. paste_branch (k ∷ q) (es i) (et i)))
        (good_sound _ (paste_good s (k ∷ q) t gs room gt))
