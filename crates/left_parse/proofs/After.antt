-- A walk after each of its steps, whatever it writes.
use mathlib.Core.Path.{◌≡◌, refl, sym, ap, ◌∙◌}
use mathlib.Core.List.{List, [], ◌∷◌, ◌++◌}
use Prim.Native.Nat.{ℕ, ◌+◌, ◌-◌, ◌*◌, ◌≤◌, ◌<◌}
use native.Mathlib.Omega.{arith}
use lib.ListN.{length, get_or}
use Rattle.text.specs.Lists.{Text}
use Rattle.tree.specs.Tree.{Symbol, Terminal, Grammar}
use Rattle.tree.specs.Tokens.{terminal_tokens}
use Rattle.plain.specs.Plain.{alts, width}
use Rattle.derive.specs.Derive.{Row, end, leaf, node, left_parse, alternative}
use Rattle.items.specs.Items.{token_at, Starts, Stands, Reads}
use Rattle.left_parse.specs.declared.Position.{Position}
use Rattle.left_parse.specs.Walk.{Frame, opened, rests, bottom, Walk}
use Rattle.left_parse.specs.Steps.{Entered, Left, Small, Skipped, jumped, Inside, Node}
use Rattle.left_parse.proofs.Scratch.{opened-past, opened-back, link-of, item_of, noted-same}
use Rattle.left_parse.proofs.Walks.{spot, frame, node-inner, node-last, walk-leaf, walk-jump, walk-enter, walk-leave, node-ends, node-list, item-inside, place_inside}
use Rattle.left_parse.proofs.Notes.{found_at}

-- the numbers of a spot are small
pub small_of : {T P S : List ℕ} {r : Text} {g : Grammar} {starts : Starts} {e₁ i₁ : ℕ} {h : Position} {row : Row} {ss : List Symbol}
    {fs : List Frame} → Walk T P r S g starts e₁ i₁ h row ss fs → Small h
small_of W =
    let b = place_inside W in
    record { item = omega (arith, item-inside W, W.table); entry = omega (arith, W.inside, W.entries); place = omega (arith, b.0, b.1, W.record-length) }

-- over a terminal
pub after-leaf : {T P S₀ : List ℕ} {r : Text} {g : Grammar} {starts : Starts} {e₁ i₁ : ℕ} {h : Position} {fs : List Frame} {m : ℕ} {t : Row}
    {s : Symbol} {ss : List Symbol} → Walk T P r S₀ g starts e₁ i₁ h (leaf m t) (s ∷ ss) fs → (x : Terminal) → m ≡ h.place.0 + width x
    → Reads T (token_at T h.item) (terminal_tokens x)
    → (n : Position) → Skipped T h n → (n ≡ spot (h.item + 1) h.entry m h.inner) × Walk T P r S₀ g starts e₁ i₁ n t ss fs
after-leaf {h = h} {m = m} W x q R n K =
    let z : h.place.0 + K.w ≡ m = ap (λ (k : ℕ). h.place.0 + k) (K.wide.is x R) ∙ sym q in
    let y : n ≡ spot (h.item + 1) h.entry m h.inner = K.spot ∙ ap (λ (k : ℕ). spot (h.item + 1) h.entry k h.inner) z in
    (y, rw y (walk-leaf W))

module _ {T P S₀ S : List ℕ} {r : Text} {g : Grammar} {starts : Starts} {e₁ i₁ : ℕ} {h : Position} {fs : List Frame} where
  -- into a node
  pub after-enter : {a m : ℕ} {c t : Row} {s : Symbol} {ss : List Symbol} (W : Walk T P r S₀ g starts e₁ i₁ h (node a m c t) (s ∷ ss) fs)
      → Stands T g starts h.item s → a < length (alts g s) → S ≡ opened fs S₀
      → (S' : List ℕ) (n : Position) → Entered T P S S' h n → (S' ≡ opened (frame h s t ss m W.to ∷ fs) S₀)
      × Walk T P r S₀ g starts e₁ i₁ n c (alternative g s a) (frame h s t ss m W.to ∷ fs)
  after-enter W st l e S' n E = (E.scratch ∙ rw e, rw E.spot (walk-enter W n.item (found_at W st l n.item E.found)))

  -- over a node
  pub after-jump : {a m : ℕ} {c t : Row} {s : Symbol} {ss : List Symbol} → Walk T P r S₀ g starts e₁ i₁ h (node a m c t) (s ∷ ss) fs
      → S ≡ opened fs S₀ → (n : Position) → n ≡ jumped S h
      → (n ≡ spot (h.item + 1) (h.entry + 1 + length (left_parse c)) m h.inner) × Walk T P r S₀ g starts e₁ i₁ n t ss fs
  after-jump {a} {m} {c} {t} W e n ne =
      let d = W.deep in
      let x : get_or S (2 * h.entry) 0 ≡ h.entry + 1 + length (left_parse c) = rw e (opened-past W.chain S₀ (2 * h.entry) (omega arith)) ∙ W.noted.0 in
      let y : get_or S (2 * h.entry + 1) 0 ≡ m = rw e (opened-past W.chain S₀ (2 * h.entry + 1) (omega arith)) ∙ W.noted.1 in
      let z : n ≡ spot (h.item + 1) (h.entry + 1 + length (left_parse c)) m h.inner = ne ∙ rw (x, y) in
      (z, rw z (walk-jump W (h.entry + 1 + length (left_parse c)) m refl refl))

-- out of a node
pub after_leave : {T P S₀ S : List ℕ} {r : Text} {g : Grammar} {starts : Starts} {e₁ i₁ : ℕ} {h : Position} {f : Frame} {fs : List Frame}
    → Walk T P r S₀ g starts e₁ i₁ h end [] (f ∷ fs) → S ≡ opened (f ∷ fs) S₀ → 2 * length P ≤ length S₀
    → (S' : List ℕ) (n : Position) → Left S S' h n → (S' ≡ opened fs S₀) × (n ≡ spot (f.item + 1) h.entry h.place.0 f.link)
    × Walk T P r S₀ g starts e₁ i₁ n f.row f.symbols fs × (get_or S (2 * (h.inner - 1) + 1) 0 ≡ f.item)
after_leave {P = P} {S₀ = S₀} {S = S} {h = h} {f = f} {fs = fs} W e room S' n L =
    let N = node-ends W in
    let inside = W.inside in
    let deep = W.deep in
    let last = N.last in
    let j : h.inner - 1 ≡ f.entry = omega arith in
    let b : 2 * f.entry + 1 < length S₀ = omega arith in
    let u : get_or S (2 * (h.inner - 1)) 0 ≡ f.link = rw (j, e) (link-of f fs S₀ b) in
    let p : get_or S (2 * (h.inner - 1) + 1) 0 ≡ f.item = rw (j, e) (item_of f fs S₀ b) in
    let z : n ≡ spot (f.item + 1) h.entry h.place.0 f.link = L.spot ∙ rw (u, p) in
    (L.scratch ∙ rw (j, e) (opened-back W.chain S₀ h.entry h.place.0 N.ends N.stops), z, rw z (walk-leave W), p)

-- before the children of a node, as a walk of its own
pub walk_inside : {T P r S : List ℕ} {h : Position} {g : Grammar} {starts : Starts} {s : Symbol} {a : ℕ} {c : Row}
    (N : Node T P r S h g starts s a c) → Stands T g starts h.item s → a < length (alts g s) → (n : Position) → Inside T P h n
    → Walk T P r S g starts (h.entry + 1 + length (left_parse c)) N.m n c (alternative g s a) []
walk_inside {S = S} {h = h} {c = c} N st l n I =
    let W = N.walk in
    let sp = found_at W st l n.item I.found in
    let E = walk-enter W n.item sp in
    let d = W.deep in
    rw I.spot
    (record {
      to = N.m;
      more = left_parse N.t ++ (rests N.fs ++ W.more);
      rules = W.rules;
      spells = sp;
      derives = node-inner W.derives;
      noted = noted-same N.S₀ S (h.entry + 1) c (λ k x y. rw N.scratch (sym (opened-past W.chain N.S₀ k (omega arith)))) E.noted;
      chain = bottom refl refl refl;
      list = (node-list W).2;
      deep = omega arith;
      inside = E.inside;
      last = omega (arith, node-last W);
      table = W.table;
      entries = W.entries;
      record-length = W.record-length;
    })
