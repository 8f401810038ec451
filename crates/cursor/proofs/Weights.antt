-- What the steps of a walk need, and that each makes its weight less.
use mathlib.Core.Path.{◌≡◌}
use mathlib.Core.List.{List}
use Prim.Native.Nat.{ℕ, ◌+◌, ◌-◌, ◌*◌, ◌≤◌, ◌<◌}
use native.Mathlib.Omega.{arith}
use lib.ListN.{length}
use Rattle.text.specs.Lists.{Text}
use Rattle.tree.specs.Tree.{Symbol, Grammar}
use Rattle.derive.specs.Derive.{Row}
use Rattle.items.specs.Items.{kind_at, Starts}
use Rattle.left_parse.specs.declared.Position.{Position}
use Rattle.left_parse.specs.Walk.{Frame, opened, Walk, weight}
use Rattle.left_parse.specs.Steps.{Enters, Leaves}
use Rattle.left_parse.proofs.Items.{View, v-end, v-leaf, v-node}
use Rattle.left_parse.proofs.Walks.{spot, seen, node-list, open-inside, falls, falls-on, later}
use Rattle.left_parse.proofs.After.{small_of}

-- where a walk stands by its items
pub enters-at : {T P S₀ S : List ℕ} {r : Text} {g : Grammar} {starts : Starts} {e₁ i₁ : ℕ} {h : Position} {row : Row} {ss : List Symbol}
    {fs : List Frame} → Walk T P r S₀ g starts e₁ i₁ h row ss fs → length S ≡ length S₀ → 2 * length P ≤ length S₀
    → 2 ≤ kind_at T h.item → kind_at T h.item ≤ 4 → Enters S h
enters-at {T} {P} {S₀} {S} {r} {g} {starts} {e₁} {i₁} {h} {row} {ss} {fs} W len room a b =
    let n = go (seen W) W in
    record { room = omega arith; item = (small_of W).item; inner = omega (arith, W.deep, W.inside, W.entries) }
  where
    go : {row : Row} {ss : List Symbol} {j : ℕ} → View T r g starts h.item h.place.0 j row ss → Walk T P r S₀ g starts e₁ i₁ h row ss fs → h.entry < length P
    go (v-end q k) W = absurd (omega arith)
    go (v-leaf k q R f d) W = absurd (omega arith)
    go (v-node l k st b' dc dt) W = (node-list W).0

pub leaves_at : {T P S₀ S : List ℕ} {r : Text} {g : Grammar} {starts : Starts} {e₁ i₁ : ℕ} {h : Position} {row : Row} {ss : List Symbol}
    {fs : List Frame} → Walk T P r S₀ g starts e₁ i₁ h row ss fs → S ≡ opened fs S₀ → length S ≡ length S₀ → 2 * length P ≤ length S₀
    → 0 < h.inner → Leaves S h
leaves_at {S₀ = S₀} W e len room some =
    let s = small_of W in
    record { some = some; room = omega (arith, W.deep, W.inside); item = omega (arith, open-inside S₀ W e room some, W.table); entry = s.entry; place = s.place }

-- weights
module _ (T P : List ℕ) (h : Position) where
  pub on-falls : (m : ℕ) → h.item < length T → weight T P (spot (h.item + 1) h.entry m h.inner) < weight T P h
  on-falls m l = falls-on ((length P - h.entry) * (length P + 1) + h.inner) (length T) h.item l

  pub enter-falls : (p : ℕ) → h.entry < length P → weight T P (spot p (h.entry + 1) h.place.0 (h.entry + 1)) < weight T P h
  enter-falls p l =
      falls ((length P - (h.entry + 1)) * (length P + 1) + (h.entry + 1)) ((length P - h.entry) * (length P + 1) + h.inner) (length T) p
      h.item (later (length P) h.entry (h.entry + 1) h.inner (h.entry + 1) (omega arith) (omega arith) (omega arith))

  pub jump-falls : (p e m : ℕ) → h.entry < e → e ≤ length P → h.inner ≤ length P → weight T P (spot p e m h.inner) < weight T P h
  jump-falls p e m l k b =
      falls ((length P - e) * (length P + 1) + h.inner) ((length P - h.entry) * (length P + 1) + h.inner) (length T) p h.item
      (later (length P) h.entry e h.inner h.inner l k b)

  pub leave-falls : (p m u : ℕ) → u < h.inner → weight T P (spot p h.entry m u) < weight T P h
  leave-falls p m u l = falls ((length P - h.entry) * (length P + 1) + u) ((length P - h.entry) * (length P + 1) + h.inner) (length T) p h.item (omega arith)
