-- The chosen derivation: it is one, it is the only one, and none is lower.
use mathlib.Core.Path.{◌≡◌, refl, sym, ap}
use mathlib.Core.Logic.{◌⊎◌, inl, inr}
use mathlib.Core.List.{List, [], ◌∷◌, ◌++◌}
use Prim.Native.Nat.{ℕ, ◌+◌, ◌≤◌}
use native.Mathlib.Omega.{arith}
use Rattle.text.specs.Lists.{Text}
use Rattle.tree.specs.Tree.{Symbol, Grammar}
use Rattle.plain.specs.Plain.{width}
use Rattle.derive.specs.Derive.{Row, leaf, node, alternative, Derives, d-end, d-leaf, d-node, height}
use Rattle.derive.specs.Chosen.{Least, Way, w-child, NotAfter, Picked, ends, Chosen, ch-end, ch-leaf, ch-node}
use Rattle.derive.specs.Pick.{beside}
use Rattle.derive.proofs.Rows.{single-ends}
use Rattle.derive.proofs.Heights.{least-same}

-- neither list after the other: one list
pub not-after-both : (xs ys : List ℕ) → NotAfter xs ys → NotAfter ys xs → xs ≡ ys
not-after-both [] [] h k = refl
not-after-both [] (y ∷ ys) h k = absurd k
not-after-both (x ∷ xs) [] h k = absurd h
not-after-both (x ∷ xs) (y ∷ ys) (inl h) (inl k) = absurd (omega arith)
not-after-both (x ∷ xs) (y ∷ ys) (inl h) (inr k) = absurd (omega arith)
not-after-both (x ∷ xs) (y ∷ ys) (inr h) (inl k) = absurd (omega arith)
not-after-both (x ∷ xs) (y ∷ ys) (inr h) (inr k) = λ ι. h.0 ι ∷ not-after-both xs ys h.1 k.1 ι

-- each of two alternatives with end places comes first: they are the same
pub record SamePick (a b : ℕ) (es fs : List ℕ) : Type 0 where
  pub number : a ≡ b
  pub places : es ≡ fs

first-both : {X Y : Type 0} (a b : ℕ) (es fs : List ℕ) → (X → a ≡ b → ⊥) → (Y → b ≡ a → ⊥) → (X → Y → ⊥) → X ⊎ ((a ≡ b) × NotAfter es fs)
    → Y ⊎ ((b ≡ a) × NotAfter fs es) → SamePick a b es fs
first-both a b es fs u v w (inl h) (inl k) = absurd (w h k)
first-both a b es fs u v w (inl h) (inr k) = absurd (u h (sym k.0))
first-both a b es fs u v w (inr h) (inl k) = absurd (v k (sym h.0))
first-both a b es fs u v w (inr h) (inr k) = record { number = h.0; places = not-after-both es fs h.1 k.1 }

module _ (g : Grammar) (r : Text) where
  pub chosen-derives : {t : Row} {ss : List Symbol} {i j : ℕ} → Chosen g r t ss i j → Derives g r t ss i j
  chosen-derives ch-end = d-end
  chosen-derives (ch-leaf l d) = d-leaf l (chosen-derives d)
  chosen-derives (ch-node p c d) = d-node p.exists (chosen-derives c) (chosen-derives d)

  pub chosen-join : {t u : Row} {ss ss' : List Symbol} {i m j : ℕ} → Chosen g r t ss i m → Chosen g r u ss' m j → Chosen g r (beside t u) (ss ++ ss') i j
  chosen-join ch-end e = e
  chosen-join (ch-leaf l d) e = ch-leaf l (chosen-join d e)
  chosen-join (ch-node p c d) e = ch-node p c (chosen-join d e)

  pub picked_same : {s : Symbol} {i j a b : ℕ} {es fs : List ℕ} → Picked g r s i j a es → Picked g r s i j b fs → SamePick a b es fs
  picked_same {a = a} {b = b} {es = es} {fs = fs} p q =
      first-both a b es fs (λ h e. omega arith) (λ h e. omega arith) (λ h k. omega arith)
      (p.first b q.high fs q.exists q.way q.lowest) (q.first a p.high es p.exists p.way p.lowest)

  -- of the same symbols with the same end places, one row is chosen
  pub chosen-unique : {t t' : Row} {ss : List Symbol} {i j j' : ℕ} → Chosen g r t ss i j → Chosen g r t' ss i j' → ends t ≡ ends t' → t ≡ t'
  chosen-unique ch-end ch-end e = refl
  chosen-unique (ch-leaf {x} {t = t} {i = i} l d) (ch-leaf {t = t'} l' d') e = let et : ends t ≡ ends t' = cc in ap (leaf (i + width x)) (chosen-unique d d' et)
  chosen-unique (ch-leaf l d) (ch-node p c d') e = absurd (omega (arith, p.exists))
  chosen-unique (ch-node p c d) (ch-leaf l d') e = absurd (omega (arith, p.exists))
  chosen-unique (ch-node {s} {ss} {c} {t} {a} {i} {m} p k d) (ch-node {c = c'} {t = t'} {a = a'} {m = m'} {j = j'} p' k' d') e =
      let em : m ≡ m' = cc in
      let et : ends t ≡ ends t' = cc in
      let p2 : Picked g r s i m a' (ends c') = rw (← em) at p' in
      let w = picked_same p p2 in
      let k2 : Chosen g r c' (alternative g s a') i m = rw (← em) at k' in
      let k3 : Chosen g r c' (alternative g s a) i m = rw (← w.number) at k2 in
      let d2 : Chosen g r t' ss m j' = rw (← em) at d' in
      let ec = chosen-unique k k3 w.places in
      let er = chosen-unique d d2 et in
      λ ι. node (w.number ι) (em ι) (ec ι) (er ι)

  -- for one symbol on a stretch: the record, say
  pub chosen-one : {t t' : Row} {s : Symbol} {i j : ℕ} → Chosen g r t (s ∷ []) i j → Chosen g r t' (s ∷ []) i j → t ≡ t'
  chosen-one d d' = let e = single-ends g r (chosen-derives d) in let e' = single-ends g r (chosen-derives d') in chosen-unique d d' (cc)

  -- "children's least heights" are the heights of the chosen children
  pub chosen-height : {t : Row} {ss : List Symbol} {i j k : ℕ} → Chosen g r t ss i j → Way g r ss i j (ends t) k → height t ≤ k
  chosen-height ch-end w = omega arith
  chosen-height (ch-leaf c d) (w-child l w) = omega (arith, chosen-height d w)
  chosen-height (ch-node p c d) (w-child l w) = omega (arith, chosen-height c p.way, chosen-height d w, least-same g r p.lowest l)

  -- no derivation of the symbol on the stretch is lower than the chosen one
  pub chosen-least : {t u : Row} {s : Symbol} {i j : ℕ} → Chosen g r u (s ∷ []) i j → Derives g r t (s ∷ []) i j → height u ≤ height t
  chosen-least (ch-leaf c ch-end) d = omega arith
  chosen-least {t} (ch-node p c ch-end) d = omega (arith, chosen-height c p.way, p.lowest.least t d)

  pub chosen-is-least : {t : Row} {s : Symbol} {i j : ℕ} → Chosen g r t (s ∷ []) i j → Least g r s i j (height t)
  chosen-is-least {t} c = record { tree = t; derives = chosen-derives c; attained = refl; least = λ u d. chosen-least c d }
