-- The clipboard's image: a sound clipboard saves as a good image, and a cached branch's image loads as the branch. Assumes nothing.
use mathlib.Core.Path.{◌≡◌, refl, sym, subst}
use mathlib.Core.Bool.{not, ◌&&◌, ◌||◌}
use mathlib.Core.Option.{Option, none, some}
use mathlib.Core.List.Memᴰ
use mathlib.Core.List.{List, [], ◌∷◌, ◌++◌, map}
use native.Mathlib.Omega.{arith}
use lib.Dec.{T, eqb, ltb, eqb_refl}
use lib.ListN.{length, length-map}
use mir.Facts.{yes_and}
use Rattle.laws.specs.Sorted.{◌∈◌, Sorted, cons, insert}
use Rattle.laws.specs.Order.{lt_pair}
use Rattle.laws.proofs.Order.{nat_order, lex2_right}
use Rattle.path.specs.Address.{before}
use Rattle.path.proofs.Moves.{pick_yes}
use Rattle.path.proofs.Laws.{address_order}
use Rattle.model.specs.Things.{Attribute, Permission, Dossier, Clipboard, empty, branch, single, lt_permission}
use Rattle.model.specs.Decide.{clash, clash_any}
use Rattle.model.specs.Moves.{grant_row}
use Rattle.model.specs.Refusals.{is_root}
use Rattle.model.specs.Image.{Record, attribute_record, permission_record, Loaded, good, load_from, load, save, save_clipboard, accept_cached, accepted, good_clipboard}
use Rattle.model.specs.Sound.{Sound, SoundSingle, SoundClipboard}
use Rattle.roundtrip.proofs.Checks.{or_left, or_right}
use Rattle.roundtrip.proofs.Orders.{permission_order}
use Rattle.roundtrip.proofs.Prefix.{map_sorted_on, cut_here, cut_before, cut_room, cut_once}
use Rattle.roundtrip.proofs.Clash.{clash_none}
use Rattle.roundtrip.proofs.Scan.{Ranges, ranges_more, ranges_map}
use Rattle.roundtrip.proofs.Images.{load_runs}
use Rattle.roundtrip.proofs.Ascend.{less_record, permission_less, attribute_first, ascend_from}
use Rattle.roundtrip.proofs.Load.{table_runs, load_save}

-- "a cached branch saves as a dossier does, its top as the root"
pub branch_loads : (d : Dossier) → Sound d → load (save_clipboard (branch d)) ≡ good d
branch_loads d s = load_save d s

-- "one attribute at the empty path followed by permissions for it only, under the same rules"
module _ (a : Attribute) (l : List Permission) (s : SoundSingle a l) where
  grant : Permission → Record
  grant g = permission_record (grant_row [] a.name g)

  held : List Permission → Option (Attribute × List Permission)
  held m = some (a, m)

  grant_accepted : (k : List Permission) (g : Permission) (m : List Permission) → k ++ (g ∷ m) ≡ l → accept_cached (held k) (grant g) ≡ some (held (insert lt_permission g k))
  unfolding grant held
  grant_accepted k g m e =
      pick_yes (is_root [] && (eqb a.name a.name && (not (clash_any g k) && ltb (length k) 128))) (some (some (a, insert lt_permission g k))) none
      (yes_and (eqb a.name a.name) (not (clash_any g k) && ltb (length k) 128) (eqb_refl a.name)
      (yes_and (not (clash_any g k)) (ltb (length k) 128) (clash_none g k clear) (cut_room k g m e 128 s.few)))
    where
      clear : (h : Permission) → h ∈ k → T (clash g h) → ⊥
      clear h n t =
          let z = s.no_clash g h (cut_here k g m e) (cut_before k g m e h n) t in cut_once k g m e permission_order s.ascend (Memᴰ.cast z n)

  pub single_loads : load_from accept_cached none (save_clipboard (single a l)) ≡ good (some (a, l))
  unfolding grant held
  single_loads =
      let n = length-map l grant in
      let b = s.few in
      load_runs accept_cached none (attribute_record ([], a) ∷ map grant l) (some (a, l)) (omega arith) (omega arith) ranges (ascend_from (cons {x = attribute_record ([], a)} first grants))
      (some (a, []), refl, table_runs accept_cached held grant permission_order l s.ascend grant_accepted)
    where
      ranges : Ranges (attribute_record ([], a) ∷ map grant l)
      ranges = ranges_more (attribute_record ([], a)) (map grant l) s.attribute_good (ranges_map grant l s.permissions_good)

      first : (r : Record) → r ∈ map grant l → T (less_record (attribute_record ([], a)) r)
      first r h = let w = Memᴰ.of_map grant l h in subst (λ (x : Record). T (less_record (attribute_record ([], a)) x)) w.2 (attribute_first ([], a) (grant_row [] a.name w.0))

      grants : Sorted less_record (map grant l)
      grants = map_sorted_on grant
          (λ g h m n t. permission_less (grant_row [] a.name g) (grant_row [] a.name h) (s.permissions_good g m) (s.permissions_good h n)
          (lex2_right before address_order [] [] (lt_pair ltb lt_permission (a.name, g) (a.name, h)) refl (lex2_right ltb nat_order a.name a.name (lt_permission g h) refl t)))
          s.ascend

loads_good : {D : Type 0} (x : Loaded D) (d : D) → x ≡ good d → T (accepted x)
loads_good x d e = subst (λ y. T (accepted y)) (sym e) tt

pub clipboard_good : (c : Clipboard) → SoundClipboard c → T (good_clipboard (save_clipboard c))
clipboard_good empty s = tt
clipboard_good (branch d) s =
    let b = save d in
    or_right (eqb (length b) 0) (accepted (load b) || accepted (load_from accept_cached none b))
    (or_left (accepted (load b)) (accepted (load_from accept_cached none b)) (loads_good (load b) d (load_save d s)))
clipboard_good (single a l) s =
    let b = save_clipboard (single a l) in
    or_right (eqb (length b) 0) (accepted (load b) || accepted (load_from accept_cached none b))
    (or_right (accepted (load b)) (accepted (load_from accept_cached none b)) (loads_good (load_from accept_cached none b) (some (a, l)) (single_loads a l s)))
