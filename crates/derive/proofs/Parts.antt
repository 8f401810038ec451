-- A chosen row, taken apart from the left.
use mathlib.Core.Path.{◌≡◌, refl}
use mathlib.Core.Logic.{◌⊎◌, inl, inr}
use mathlib.Core.List.{List, [], ◌∷◌}
use Prim.Native.Nat.{ℕ, suc, ◌+◌, ◌<◌, ◌≤◌, max}
use native.Mathlib.Omega.{arith}
use lib.ListN.{length}
use Rattle.text.specs.Lists.{Text}
use Rattle.tree.specs.Tree.{Terminal, Symbol, terminal, Grammar}
use Rattle.plain.specs.Plain.{alts, width}
use Rattle.derive.specs.Derive.{Row, end, leaf, node, alternative, Derives, height}
use Rattle.derive.specs.Chosen.{Least, Way, w-child, NotAfter, Picked, ends, Chosen, ch-end, ch-leaf, ch-node}
use Rattle.derive.proofs.Heights.{least-same, row-way, node-least}
use Rattle.derive.proofs.Picks.{PickedRow}

-- after the same first place
after_same : {C : Type 0} {x : ℕ} → (x < x) ⊎ ((x ≡ x) × C) → C
after_same (inl h) = absurd (omega arith)
after_same (inr h) = h.1

after_first : {C : Type 0} {x y : ℕ} → (x < y) ⊎ ((x ≡ y) × C) → x ≤ y
after_first (inl h) = omega arith
after_first (inr h) = omega (arith, h.0)

module _ (g : Grammar) (r : Text) where
  -- nothing is left
  pub record EndRow (i j : ℕ) (t : Row) : Type 0 where
    pub is : t ≡ end
    pub stop : i ≡ j

  pub end_row : {i j : ℕ} {t : Row} → Chosen g r t [] i j → EndRow i j t
  end_row ch-end = record { is = refl; stop = refl }

  -- a terminal
  pub record LeafRow (k : ℕ) (x : Terminal) (ss : List Symbol) (i j : ℕ) (t : Row) : Type 0 where
    pub others : Row
    pub is : t ≡ leaf (i + width x) others
    pub picked : PickedRow g r k ss (i + width x) j others

  leaf-by : {k high : ℕ} {x : Terminal} {ss : List Symbol} {i j : ℕ} {t : Row} → Chosen g r t (terminal x ∷ ss) i j → Way g r (terminal x ∷ ss) i j (ends t) high → high ≤ k
      → ((fs : List ℕ) (h : ℕ) → Way g r (terminal x ∷ ss) i j fs h → h ≤ k → NotAfter (ends t) fs) → LeafRow k x ss i j t
  leaf-by {x = x} {i = i} (ch-leaf {t = t} f d) (w-child {h = h} {k = h'} l w) q u = record {
    others = t;
    is = refl;
    picked = record { chosen = d; high = h'; way = w; low = omega arith; first = λ fs n v p. after_same (u ((i + width x) ∷ fs) (max h n) (w-child l v) (omega arith)) };
  }
  leaf-by (ch-node p c d) w q u = absurd (omega (arith, p.exists))

  pub leaf-row : {k : ℕ} {x : Terminal} {ss : List Symbol} {i j : ℕ} {t : Row} → PickedRow g r k (terminal x ∷ ss) i j t → LeafRow k x ss i j t
  leaf-row p = leaf-by p.chosen p.way p.low p.first

  -- a symbol with alternatives
  pub record NodeRow (k : ℕ) (s : Symbol) (ss : List Symbol) (i j : ℕ) (t : Row) : Type 0 where
    pub number : ℕ
    pub place : ℕ
    pub children : Row
    pub others : Row
    pub is : t ≡ node number place children others
    pub choice : Picked g r s i place number (ends children)
    pub inside : Chosen g r children (alternative g s number) i place
    pub low : choice.high < k
    pub picked : PickedRow g r k ss place j others
    pub smallest : (m h n : ℕ) (fs : List ℕ) → Least g r s i m h → h ≤ k → Way g r ss m j fs n → n ≤ k → place ≤ m

  node_by : {k high : ℕ} {s : Symbol} {ss : List Symbol} {i j : ℕ} {t : Row} → ((x : Terminal) → s ≡ terminal x → ⊥)
      → Chosen g r t (s ∷ ss) i j → Way g r (s ∷ ss) i j (ends t) high → high ≤ k
      → ((fs : List ℕ) (h : ℕ) → Way g r (s ∷ ss) i j fs h → h ≤ k → NotAfter (ends t) fs) → NodeRow k s ss i j t
  node_by n (ch-leaf {x = x} f d) w q u = absurd (n x refl)
  node_by n (ch-node {c = c} {t = t} {a = a} {m = m} p e d) (w-child {h = h} {k = h'} l w) q u = record {
    number = a;
    place = m;
    children = c;
    others = t;
    is = refl;
    choice = p;
    inside = e;
    low = omega (arith, least-same g r p.lowest l);
    picked = record { chosen = d; high = h'; way = w; low = omega arith; first = λ fs x v y. after_same (u (m ∷ fs) (max h x) (w-child l v) (omega arith)) };
    smallest = λ m' x y fs v v' z z'. after_first (u (m' ∷ fs) (max x y) (w-child v z) (omega arith));
  }

  pub node_row : {k : ℕ} {s : Symbol} {ss : List Symbol} {i j : ℕ} {t : Row} → ((x : Terminal) → s ≡ terminal x → ⊥) → PickedRow g r k (s ∷ ss) i j t → NodeRow k s ss i j t
  node_row n p = node_by n p.chosen p.way p.low p.first

  -- the children of a chosen node, chosen with its least height
  way-lowest : {s : Symbol} {i j a b h : ℕ} {es fs : List ℕ} (p : Picked g r s i j a es) → b < length (alts g s) → Way g r (alternative g s b) i j fs h → p.high ≤ h
  way-lowest {s} {i} {j} {b = b} {h = h} {fs = fs} p l w = ((node-least g r s i j p.high).0 p.lowest).lowest b h fs l w

  least_at : {s : Symbol} {i j h k : ℕ} → h ≡ k → Least g r s i j (suc h) → Least g r s i j (suc k)
  least_at e l = rw e at l

  pub child-row : {s : Symbol} {i j a : ℕ} {c : Row} (p : Picked g r s i j a (ends c)) → Chosen g r c (alternative g s a) i j → PickedRow g r p.high (alternative g s a) i j c
  child-row {s} {i} {j} {a} {c} p d = record {
    chosen = d;
    high = p.high;
    way = p.way;
    low = omega arith;
    first = λ fs h w q. let e : p.high ≡ h = omega (arith, way-lowest p p.exists w) in after_same (p.first a h fs p.exists w (least_at e p.lowest));
  }

  -- no alternative before it is as low
  pub earliest : {s : Symbol} {i j a b : ℕ} {es : List ℕ} {t : Row} (p : Picked g r s i j a es) → b < length (alts g s)
      → Derives g r t (alternative g s b) i j → height t ≤ p.high → a ≤ b
  earliest {b = b} {t = t} p l d q =
      let w = row-way g r d in
      let e : p.high ≡ w.k = omega (arith, way-lowest p l w.way, w.below) in
      after_first (p.first b w.k (ends t) l w.way (least_at e p.lowest))
