-- What the numbers of a finished table say of derivations.
use mathlib.Core.Path.{◌≡◌, refl, sym, ap, subst}
use mathlib.Core.List.{List, [], ◌∷◌}
use Prim.Native.Nat.{ℕ, suc, ◌<◌, ◌≤◌}
use native.Mathlib.Omega.{arith}
use lib.ListN.{length, get_or}
use Rattle.text.specs.Lists.{Text}
use Rattle.tree.specs.Tree.{Terminal, Symbol, terminal, Grammar}
use Rattle.plain.specs.Plain.{alts}
use Rattle.derive.specs.Derive.{Row, end, alternative, Derives, d-end, d-leaf, d-node, height}
use Rattle.derive.specs.Chosen.{Least, Way}
use Rattle.derive.proofs.Heights.{LowestWay, node-least, least-same}
use Rattle.chart.specs.Heights.{none, Says, says_none, says-height, SaysRule, rule-none, rule-height}

module _ (g : Grammar) (r : Text) where
  -- a row of height at most k
  pub record Low (ss : List Symbol) (i j k : ℕ) : Type 0 where
    pub row : Row
    pub derives : Derives g r row ss i j
    pub low : height row ≤ k

  pub says-low : {ss : List Symbol} {i j h : ℕ} (k : ℕ) → Says g r ss i j h → h ≤ k → k < none → Low ss i j k
  says-low k (says_none f) q l = absurd (omega arith)
  says-low k (says-height t d e f m) q l = record { row = t; derives = d; low = omega arith }

  -- not higher than any row
  pub low-says : {ss : List Symbol} {i j h : ℕ} {t : Row} → Says g r ss i j h → Derives g r t ss i j → h ≤ height t
  low-says {t = t} (says_none f) d = absurd (f t d)
  low-says {t = t} (says-height u e q f m) d = f t d

  pub record Some (ss : List Symbol) (i j : ℕ) : Type 0 where
    pub row : Row
    pub derives : Derives g r row ss i j

  pub says_some : {ss : List Symbol} {i j h : ℕ} → Says g r ss i j h → (h ≡ none → ⊥) → Some ss i j
  says_some (says_none f) q = absurd (q refl)
  says_some (says-height t d e f m) q = record { row = t; derives = d }

  pub some-says : {ss : List Symbol} {i j h : ℕ} {t : Row} → Says g r ss i j h → Derives g r t ss i j → h ≡ none → ⊥
  some-says {t = t} (says_none f) d q = f t d
  some-says (says-height u e p f m) d q = omega arith

  -- the empty alternative
  pub empty-same : (i j : ℕ) → i ≡ j → Says g r [] i j 0
  empty-same i j e = says-height end (subst (λ (z : ℕ). Derives g r end [] i z) e d-end) refl (λ u d. omega arith) (omega arith)

  stops : {t : Row} {i j : ℕ} → Derives g r t [] i j → i ≡ j
  stops d-end = refl

  pub empty-other : (i j : ℕ) → (i ≡ j → ⊥) → Says g r [] i j none
  empty-other i j f = says_none (λ t d. f (stops d))

  -- a rule serves every symbol with its alternatives
  alternative-same : (s s' : Symbol) (a : ℕ) → alts g s ≡ alts g s' → alternative g s a ≡ alternative g s' a
  alternative-same s s' a e = ap (λ (ls : List (List Symbol)). get_or ls a []) e

  exists-same : (s s' : Symbol) (a : ℕ) → alts g s ≡ alts g s' → a < length (alts g s) → a < length (alts g s')
  exists-same s s' a e h = subst (λ (ls : List (List Symbol)). a < length ls) e h

  derives-same : {t : Row} {s s' : Symbol} {i j : ℕ} → ((x : Terminal) → s ≡ terminal x → ⊥) → alts g s ≡ alts g s' → Derives g r t (s ∷ []) i j → Derives g r t (s' ∷ []) i j
  derives-same n e (d-leaf {x} l d-end) = absurd (n x refl)
  derives-same {s = s} {s' = s'} n e (d-node {c = c} {a = a} {i = i} {m = m} h k d-end) =
      let k2 = subst (λ (ss : List Symbol). Derives g r c ss i m) (alternative-same s s' a e) k in
      d-node (exists-same s s' a e h) k2 d-end

  way_same : (s s' : Symbol) (a : ℕ) {i j h : ℕ} {es : List ℕ} → alts g s ≡ alts g s' → Way g r (alternative g s a) i j es h → Way g r (alternative g s' a) i j es h
  way_same s s' a {i} {j} {h} {es} e w = subst (λ (ss : List Symbol). Way g r ss i j es h) (alternative-same s s' a e) w

  lowest-same : {s s' : Symbol} {i j k : ℕ} → alts g s ≡ alts g s' → LowestWay g r s i j k → LowestWay g r s' i j k
  lowest-same {s} {s'} e w = record {
    number = w.number;
    places = w.places;
    exists = exists-same s s' w.number e w.exists;
    way = way_same s s' w.number e w.way;
    lowest = λ b h fs l v. w.lowest b h fs (exists-same s' s b (sym e) l) (way_same s' s b (sym e) v);
  }

  least-alike : {s s' : Symbol} {i j k : ℕ} → alts g s ≡ alts g s' → Least g r s i j (suc k) → Least g r s' i j (suc k)
  least-alike {s} {s'} {i} {j} {k} e l = (node-least g r s' i j k).1 (lowest-same e ((node-least g r s i j k).0 l))

  pub rule-same : {s s' : Symbol} {i j h : ℕ} → ((x : Terminal) → s' ≡ terminal x → ⊥) → alts g s ≡ alts g s' → SaysRule g r s i j h → SaysRule g r s' i j h
  rule-same n e (rule-none f) = rule-none (λ t d. f t (derives-same n (sym e) d))
  rule-same n e (rule-height l m) = rule-height (least-alike e l) m

  -- a rule's least height is that of the symbol, without its own node
  pub rule-least : {s : Symbol} {i j h : ℕ} → SaysRule g r s i j h → (h ≡ none → ⊥) → Least g r s i j (suc h)
  rule-least (rule-none f) q = absurd (q refl)
  rule-least (rule-height l m) q = l

  pub least-rule : {s : Symbol} {i j h k : ℕ} → SaysRule g r s i j h → Least g r s i j (suc k) → h ≡ k
  least-rule (rule-none f) l = absurd (f l.tree l.derives)
  least-rule (rule-height l' m) l = let e = least-same g r l' l in omega arith

  pub rule-some : {s : Symbol} {i j h : ℕ} {t : Row} → SaysRule g r s i j h → Derives g r t (s ∷ []) i j → h ≡ none → ⊥
  rule-some {t = t} (rule-none f) d q = f t d
  rule-some (rule-height l m) d q = omega arith

  pub rule-small : {s : Symbol} {i j h : ℕ} → SaysRule g r s i j h → (h ≡ none → ⊥) → h < none
  rule-small (rule-none f) q = absurd (q refl)
  rule-small (rule-height l m) q = m
