-- A log that is held: what it stands for, and entries put behind those it has. Assumes nothing.
use mathlib.Core.Path.{◌≡◌, refl, sym, ap, ap₂, ◌∙◌}
use mathlib.Core.List.{List, ◌++◌, map, map-append}
use Prim.Native.Nat.{ℕ, ◌-◌, ◌≤◌}
use native.Mathlib.Omega.{arith}
use lib.ListN.{length, replicate, length-map, length-append, length-replicate}
use Rattle.laws.specs.Slots.{slots, filled}
use Rattle.laws.proofs.Fill.{seen}
use Rattle.state.proofs.Behind.{behind}
use Rattle.state.specs.declared.Log.{Log}
use Rattle.state.specs.View.{view_entry, entry_of, blank_entry, view_log, log_with, log_of}
use Rattle.state.specs.Calls.{LogSound}

pub view_log_lem : (l : List (ℕ × ℕ)) → view_log (log_of l) ≡ l
unfolding log_of
view_log_lem l = seen entry_of view_entry (λ r. refl) 256 blank_entry l

pub log_count : (t : Log) → LogSound t → t.count ≡ length (view_log t)
unfolding log_of
log_count t h = ap (λ (x : Log). x.count) h.same ∙ ap length (sym (ap view_log h.same ∙ view_log_lem h.model))

pub log_room : (t : Log) → LogSound t → t.count ≤ 256
unfolding log_of
log_room t h = let e = ap (λ (x : Log). x.count) h.same in let f = h.fits in omega arith

pub log_full_lem : (t : Log) → LogSound t → length t.entries ≡ 256
unfolding log_of
log_full_lem t h =
    let e = ap (λ (x : Log). length x.entries) h.same in
    let f = h.fits in
    let m = length-map h.model entry_of in
    let r = length-replicate (256 - length (map entry_of h.model)) blank_entry in
    let a = length-append (map entry_of h.model) (replicate (256 - length (map entry_of h.model)) blank_entry) in
    omega arith

-- the log with these entries behind its own: they are stored from its count on
pub log_behind : (t : Log) → LogSound t → (l : List (ℕ × ℕ)) → log_of (view_log t ++ l) ≡ filled log_with t.entries t.count (map entry_of l)
unfolding log_of
log_behind t h l =
    let v : view_log t ≡ h.model = ap view_log h.same ∙ view_log_lem h.model in
    let m : map entry_of (h.model ++ l) ≡ map entry_of h.model ++ map entry_of l = map-append entry_of h.model l in
    let k = length-map h.model entry_of in
    ap (λ z. log_of (z ++ l)) v
    ∙ ap₂ (λ p q. log_with (slots 256 blank_entry p) q) m (sym (length-map (h.model ++ l) entry_of) ∙ ap length m)
    ∙ behind log_with blank_entry 256 (map entry_of h.model) (map entry_of l)
    ∙ ap₂ (λ p q. filled log_with p q (map entry_of l)) (sym (ap (λ (x : Log). x.entries) h.same)) (k ∙ sym (ap (λ (x : Log). x.count) h.same))
