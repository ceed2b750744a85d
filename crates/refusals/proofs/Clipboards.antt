-- What the clipboard holds, by its kind. Assumes nothing.
use mathlib.Core.Path.{◌≡◌, sym, ap, ◌∙◌}
use mathlib.Core.Bool.{Bool, true, false}
use mathlib.Core.List.{List, [], ◌∷◌}
use Prim.Native.Nat.{ℕ, ◌≤◌}
use native.Mathlib.Omega.{arith}
use lib.Dec.{T}
use lib.ListN.{length, length-map}
use borrow.Author.Tests.{eq-eqb, ne_eqb}
use Rattle.laws.specs.Slots.{All}
use Rattle.laws.proofs.Fill.{is_fits}
use Rattle.path.specs.Address.{valid}
use Rattle.path.proofs.Structs.{valid_short}
use Rattle.model.specs.Things as things
use Rattle.model.specs.Things.{Row}
use Rattle.model.specs.Moves.{deepest, grant_row}
use Rattle.model.specs.Refusals.{Cached}
use Rattle.model.specs.Sound.{SoundClipboard}
use Rattle.tables.specs.View.{Nodes}
use Rattle.tables.specs.declared.Clipboard.{Clipboard}
use Rattle.tables.specs.View.{Fits, nodes_of, view_nodes, NodesSound, permissions_of, view_dossier, DossierFits, clipboard_of, view_clipboard, ClipboardSound}
use Rattle.tables.proofs.Parts.{dossier_fits}
use Rattle.tables.proofs.Rows.{view_nodes_lem, view_clipboard_lem}

-- ---- a branch
pub branch_fits : {c : Clipboard} → ClipboardSound c → c.kind ≡ 1 → DossierFits c.held
branch_fits {c} h k = go h.model h.same h.fits
  where
    go : (m : things.Clipboard) → c ≡ clipboard_of m → SoundClipboard m → DossierFits c.held
    go things.empty e s = absurd (let z : ◌≡◌ {A = ℕ} 1 0 = sym k ∙ ap (λ (x : Clipboard). x.kind) e in omega arith)
    go (things.branch d) e s = dossier_fits (record { model = d; same = ap (λ (x : Clipboard). x.held) e; fits = s })
    go (things.single a l) e s = absurd (let z : ◌≡◌ {A = ℕ} 1 2 = sym k ∙ ap (λ (x : Clipboard). x.kind) e in omega arith)

pub branch_seen : (c : Clipboard) → c.kind ≡ 1 → view_clipboard c ≡ things.branch (view_dossier c.held)
branch_seen c k = rw (eq-eqb c.kind 1 k)

deepest_short : {P : Type 0} (l : List (Row P)) → All (λ r. T (valid r.0)) l → deepest l ≤ 6
deepest_short [] a = omega arith
deepest_short (r ∷ l) a = let x = valid_short r.0 a.0 in let y = deepest_short l a.1 in omega arith

pub nodes_short : {t : Nodes} → NodesSound t → deepest (view_nodes t) ≤ 6
nodes_short {t} h = deepest_short (view_nodes t) (is_fits nodes_of view_nodes view_nodes_lem (Fits things.before_node 64) t h).each

-- what is cached of it, from each size
abbrev pub sized : Bool → Bool → ℕ → ℕ → ℕ → ℕ → Cached
sized b a nodes attributes permissions height = record { branch = b; attribute = a; sizes = record { nodes = nodes; attributes = attributes; permissions = permissions }; height = height }

pub branch_sizes : {j j' k k' l l' n n' : ℕ} → j ≡ j' → k ≡ k' → l ≡ l' → n ≡ n' → sized true false j k l n ≡ sized true false j' k' l' n'
branch_sizes e f g h = λ i. sized true false (e i) (f i) (g i) (h i)

-- ---- an attribute
pub single_sizes : {l l' : ℕ} → l ≡ l' → sized false true 0 1 l 0 ≡ sized false true 0 1 l' 0
single_sizes g = λ i. sized false true 0 1 (g i) 0

pub record Single (c : Clipboard) : Type 0 where
  pub attribute : things.Attribute
  pub permissions : List things.Permission
  pub seen : view_clipboard c ≡ things.single attribute permissions
  pub count : c.held.permissions.count ≡ length permissions
  pub few : length permissions ≤ 128

pub single_seen : {c : Clipboard} → ClipboardSound c → c.kind ≡ 2 → Single c
unfolding permissions_of
single_seen {c} h k = go h.model h.same h.fits
  where
    go : (m : things.Clipboard) → c ≡ clipboard_of m → SoundClipboard m → Single c
    go things.empty e s = absurd (let z : ◌≡◌ {A = ℕ} 2 0 = sym k ∙ ap (λ (x : Clipboard). x.kind) e in omega arith)
    go (things.branch d) e s = absurd (let z : ◌≡◌ {A = ℕ} 2 1 = sym k ∙ ap (λ (x : Clipboard). x.kind) e in omega arith)
    go (things.single a l) e s =
        record {
          attribute = a;
          permissions = l;
          seen = ap view_clipboard e ∙ view_clipboard_lem (things.single a l);
          count = ap (λ (x : Clipboard). x.held.permissions.count) e ∙ length-map l (grant_row [] a.name);
          few = s.few;
        }

-- ---- neither
pub empty_seen : (c : Clipboard) → (c.kind ≡ 1 → ⊥) → (c.kind ≡ 2 → ⊥) → view_clipboard c ≡ things.empty
empty_seen c j k = rw (ne_eqb c.kind 1 j, ne_eqb c.kind 2 k)
