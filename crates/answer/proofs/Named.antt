-- A list names one derivation, and the computed one is it.
use mathlib.Core.Bool.{Bool, true, false}
use mathlib.Core.Path.{◌≡◌, refl, sym, ap, ◌∙◌}
use mathlib.Core.List.{List, [], ◌∷◌, ◌++◌, append_assoc, append-nil}
use Prim.Native.Nat.{ℕ, zero, suc, ◌+◌, ◌<◌, ◌≤◌}
use native.Mathlib.Omega.{arith}
use lib.Dec.{ltb, eqb, ltb→lt}
use lib.ListN.{length, drop, length-append}
use borrow.Author.Tests.{lt-ltb, eqb-true, eq-eqb}
use Rattle.text.specs.Lists.{Text}
use Rattle.text.proofs.Tests.{is_t, T_true}
use Rattle.tree.specs.Tree.{Terminal, Symbol, terminal, nonterminal, group, option, repeat0, repeat1, repeat0sep, repeat1sep, rest, Grammar}
use Rattle.plain.specs.Written.{terminals_in}
use Rattle.plain.specs.Plain.{alts, fits, width}
use Rattle.derive.specs.Derive.{Row, leaf, node, alternative, left_parse, root, Derives, d-end, d-leaf, d-node}
use Rattle.derive.specs.Pick.{Choice, found, no-choice}
use Rattle.answer.specs.Answer.{Names}
use Rattle.answer.specs.Named.{Got, got, none, on_got, Reader, read_node, read_first, row_by, below, whole, named_of}

-- 1. What is read is a row of the symbols, and its numbers are those that were taken.
abbrev Sound : Grammar → Text → List Symbol → ℕ → List ℕ → Got → Type 0
Sound g r ss i q (got t j p) = Derives g r t ss i j × (q ≡ left_parse t ++ p)
Sound g r ss i q none = Unit {0}

module _ (g : Grammar) (r : Text) where
  leaf-sound : (x : Terminal) (ss : List Symbol) (i : ℕ) (q : List ℕ) (b : Bool) → fits x (drop i r) ≡ b → (y : Got) → Sound g r ss (i + width x) q y
      → Sound g r (terminal x ∷ ss) i q (elim b as (λ _. Got) [ true ↦ on_got y (λ t j p. got (leaf (i + width x) t) j p) | false ↦ none ])
  leaf-sound x ss i q true e (got t j p) h = (d-leaf (is_t e) h.0, h.1)
  leaf-sound x ss i q true e none h = tt
  leaf-sound x ss i q false e y h = tt

  rest-sound : (s : Symbol) (ss : List Symbol) (i a m : ℕ) (q p : List ℕ) (c : Row) → a < length (alts g s) → Derives g r c (alternative g s a) i m
      → q ≡ left_parse c ++ p → (y : Got) → Sound g r ss m p y → Sound g r (s ∷ ss) i (a ∷ q) (on_got y (λ t j o. got (node a m c t) j o))
  rest-sound s ss i a m q p c l d e (got t j o) h =
      (d-node l d h.0, ap (λ (z : List ℕ). a ∷ z) (e ∙ ap (λ (z : List ℕ). left_parse c ++ z) h.1 ∙ sym (append_assoc (left_parse c) (left_parse t) o)))
  rest-sound s ss i a m q p c l d e none h = tt

  node-sound : (s : Symbol) (ss : List Symbol) (i a : ℕ) (q : List ℕ) (b : Bool) → ltb a (length (alts g s)) ≡ b → (y : Got) → Sound g r (alternative g s a) i q y
      → (f : Reader) → ((m : ℕ) (p : List ℕ) → Sound g r ss m p (f m p))
      → Sound g r (s ∷ ss) i (a ∷ q) (elim b as (λ _. Got) [ true ↦ on_got y (λ c m p. on_got (f m p) (λ t j o. got (node a m c t) j o)) | false ↦ none ])
  node-sound s ss i a q true e (got c m p) h f k = rest-sound s ss i a m q p c (ltb→lt a (length (alts g s)) (is_t e)) h.0 h.1 (f m p) (k m p)
  node-sound s ss i a q true e none h f k = tt
  node-sound s ss i a q false e y h f k = tt

  module _ (sub : List Symbol → Reader) (sub-sound : (ss : List Symbol) (i : ℕ) (q : List ℕ) → Sound g r ss i q (sub ss i q)) where
    nodes-sound : (s : Symbol) (ss : List Symbol) (f : Reader) → ((m : ℕ) (p : List ℕ) → Sound g r ss m p (f m p)) → (i : ℕ) (q : List ℕ)
        → Sound g r (s ∷ ss) i q (read_node g sub f s i q)
    nodes-sound s ss f k i [] = tt
    nodes-sound s ss f k i (a ∷ q) = node-sound s ss i a q (ltb a (length (alts g s))) refl (sub (alternative g s a) i q) (sub-sound (alternative g s a) i q) f k

    first-sound : (s : Symbol) (ss : List Symbol) (f : Reader) → ((m : ℕ) (p : List ℕ) → Sound g r ss m p (f m p)) → (i : ℕ) (q : List ℕ)
        → Sound g r (s ∷ ss) i q (read_first g r sub f s (terminals_in s) i q)
    first-sound (terminal x) ss f k i q = leaf-sound x ss i q (fits x (drop i r)) refl (f (i + width x) q) (k (i + width x) q)
    first-sound (nonterminal m n) ss f k i q = nodes-sound (nonterminal m n) ss f k i q
    first-sound (group b) ss f k i q = nodes-sound (group b) ss f k i q
    first-sound (option s) ss f k i q = nodes-sound (option s) ss f k i q
    first-sound (repeat0 s) ss f k i q = nodes-sound (repeat0 s) ss f k i q
    first-sound (repeat1 s) ss f k i q = nodes-sound (repeat1 s) ss f k i q
    first-sound (repeat0sep s u) ss f k i q = nodes-sound (repeat0sep s u) ss f k i q
    first-sound (repeat1sep s u) ss f k i q = nodes-sound (repeat1sep s u) ss f k i q
    first-sound (rest s u) ss f k i q = nodes-sound (rest s u) ss f k i q

    by-sound : (ss : List Symbol) (i : ℕ) (q : List ℕ) → Sound g r ss i q (row_by g r sub ss i q)
    by-sound [] i q = (d-end, refl)
    by-sound (s ∷ ss) i q = first-sound s ss (row_by g r sub ss) (by-sound ss) i q

  below-sound : (f : ℕ) (ss : List Symbol) (i : ℕ) (q : List ℕ) → Sound g r ss i q (below g r f ss i q)
  below-sound zero ss i q = tt
  below-sound (suc f) ss i q = by-sound (below g r f) (below-sound f) ss i q

  -- 2. Every row is read from its numbers.
  no-terminal : (s : Symbol) (a : ℕ) → a < length (alts g s) → terminals_in s ≡ []
  no-terminal (terminal x) a l = absurd (omega arith)
  no-terminal (nonterminal m n) a l = refl
  no-terminal (group b) a l = refl
  no-terminal (option s) a l = refl
  no-terminal (repeat0 s) a l = refl
  no-terminal (repeat1 s) a l = refl
  no-terminal (repeat0sep s u) a l = refl
  no-terminal (repeat1sep s u) a l = refl
  no-terminal (rest s u) a l = refl

  leaf-is : (b : Bool) (y : Got) (i : ℕ) (t : Row) (j : ℕ) (p : List ℕ) → b ≡ true → y ≡ got t j p
      → ◌≡◌ {A = Got} (elim b as (λ _. Got) [ true ↦ on_got y (λ u k o. got (leaf i u) k o) | false ↦ none ]) (got (leaf i t) j p)
  leaf-is b y i t j p e h = rw (e, h)

  node-is : (b : Bool) (y : Got) (f : Reader) (a m j : ℕ) (c t : Row) (p o : List ℕ) → b ≡ true → y ≡ got c m p → f m p ≡ got t j o
      → ◌≡◌ {A = Got} (elim b as (λ _. Got) [ true ↦ on_got y (λ d n u. on_got (f n u) (λ v k w. got (node a n d v) k w)) | false ↦ none ]) (got (node a m c t) j o)
  node-is b y f a m j c t p o e h k = rw (e, h, k)

  first-is : (sub : List Symbol → Reader) (f : Reader) (s : Symbol) (i a m j : ℕ) (q : List ℕ) (c t : Row) (p o : List ℕ) (ts : List Terminal) → ts ≡ []
      → ltb a (length (alts g s)) ≡ true → sub (alternative g s a) i q ≡ got c m p → f m p ≡ got t j o
      → read_first g r sub f s ts i (a ∷ q) ≡ got (node a m c t) j o
  first-is sub f s i a m j q c t p o [] z e h k = node-is (ltb a (length (alts g s))) (sub (alternative g s a) i q) f a m j c t p o e h k
  first-is sub f s i a m j q c t p o (x ∷ ts) z e h k = let y : ◌≡◌ {A = ℕ} 0 1 = cc in absurd (omega arith)

  complete : {t : Row} {ss : List Symbol} {i j : ℕ} → Derives g r t ss i j → (f : ℕ) (p : List ℕ) → length (left_parse t) ≤ f
      → row_by g r (below g r f) ss i (left_parse t ++ p) ≡ got t j p
  complete d-end f p h = refl
  complete (d-leaf {x = x} {ss = ss} {t = t} {i = i} {j = j} l d) f p h =
      leaf-is (fits x (drop i r)) (row_by g r (below g r f) ss (i + width x) (left_parse t ++ p)) (i + width x) t j p (T_true (fits x (drop i r)) l) (complete d f p h)
  complete (d-node l dc d) zero p h = absurd (omega arith)
  complete (d-node {s = s} {ss = ss} {c = c} {t = t} {a = a} {i = i} {m = m} {j = j} l dc d) (suc f) p h =
      let n = length-append (left_parse c) (left_parse t) in
      first-is (below g r (suc f)) (row_by g r (below g r (suc f)) ss) s i a m j ((left_parse c ++ left_parse t) ++ p) c t (left_parse t ++ p) p
      (terminals_in s) (no-terminal s a l) (lt-ltb a (length (alts g s)) l)
      (ap (λ (z : List ℕ). below g r (suc f) (alternative g s a) i z) (append_assoc (left_parse c) (left_parse t) p) ∙ complete dc f (left_parse t ++ p) (omega arith))
      (complete d (suc f) p (omega arith))

-- 3. The whole record, the whole list.
pub named-found : (g : Grammar) (r : Text) (q : List ℕ) (t : Row) → Names q g r t → named_of q g r ≡ found t
unfolding named_of
named-found g r q t n =
    let e : left_parse t ++ [] ≡ q = append-nil (left_parse t) ∙ n.1 in
    let c = complete g r n.0 (length q) [] (omega (arith, ap length n.1)) in
    let k : row_by g r (below g r (length q)) (root g ∷ []) 0 q ≡ got t (length r) [] = rw e at c in
    ap (whole r) k ∙ ends (eqb (length r) (length r)) (eq-eqb (length r) (length r) refl)
  where
    ends : (b : Bool) → b ≡ true → ◌≡◌ {A = Choice} (elim b as (λ _. Choice) [ true ↦ found t | false ↦ no-choice ]) (found t)
    ends b e = rw e

pub found-named : (g : Grammar) (r : Text) (q : List ℕ) (t : Row) → named_of q g r ≡ found t → Names q g r t
unfolding named_of
found-named g r q t e = go (row_by g r (below g r (length q)) (root g ∷ []) 0 q) (by-sound g r (below g r (length q)) (below-sound g r (length q)) (root g ∷ []) 0 q) e
  where
    at-end : (u : Row) (j : ℕ) → Derives g r u (root g ∷ []) 0 j → q ≡ left_parse u ++ [] → (b : Bool) → eqb j (length r) ≡ b
        → ◌≡◌ {A = Choice} (elim b as (λ _. Choice) [ true ↦ found u | false ↦ no-choice ]) (found t) → Names q g r t
    at-end u j d k true z w = let v : u ≡ t = cc in rw (sym v) (rw (← eqb-true j (length r) z) d, sym (append-nil (left_parse u)) ∙ sym k)
    at-end u j d k false z w = let y : ◌≡◌ {A = ℕ} 0 1 = cc in absurd (omega arith)

    go : (y : Got) → Sound g r (root g ∷ []) 0 q y → whole r y ≡ found t → Names q g r t
    go (got u j []) h w = at-end u j h.0 h.1 (eqb j (length r)) refl w
    go (got u j (a ∷ p)) h w = let y : ◌≡◌ {A = ℕ} 0 1 = cc in absurd (omega arith)
    go none h w = let y : ◌≡◌ {A = ℕ} 0 1 = cc in absurd (omega arith)
