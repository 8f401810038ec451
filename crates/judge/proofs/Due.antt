-- Each step of a walk over a list leaves what is due as it was.
use mathlib.Core.Path.{◌≡◌, refl, sym, ap, ◌∙◌, subst}
use mathlib.Core.List.{List, [], ◌∷◌, ◌++◌, append_assoc, append-nil}
use Prim.Native.Nat.{ℕ, ◌+◌, ◌<◌}
use native.Mathlib.Omega.{arith}
use lib.Dec.{T}
use lib.ListN.{length, drop}
use Rattle.text.specs.Lists.{Text}
use Rattle.tree.specs.Tree.{Terminal, Symbol, terminal, Grammar}
use Rattle.plain.specs.Written.{terminals_in}
use Rattle.plain.specs.Plain.{alts, fits, width}
use Rattle.derive.specs.Derive.{Row, end, leaf, node, left_parse, alternative, Derives, d-end, d-leaf, d-node}
use Rattle.judge.specs.Due.{Due}

module _ (g : Grammar) (r : Text) where
  -- the end of the last row
  pub at-end : (i : ℕ) (q : List ℕ) → Due g r [] i [] q → (i ≡ length r) × (q ≡ [])
  at-end i q (t, d, e) = go d e
    where
      go : {t : Row} {j : ℕ} → Derives g r t [] i j → left_parse t ≡ q → (i ≡ j) × (q ≡ [])
      go d-end e = (refl, sym e)

  pub end-at : (i : ℕ) (q : List ℕ) → i ≡ length r → q ≡ [] → Due g r [] i [] q
  end-at i q e z = (end, subst (λ (j : ℕ). Derives g r end [] i j) e d-end, sym z)

  -- out of a node
  pub out_of : (i : ℕ) (us : List Symbol) (uss : List (List Symbol)) (q : List ℕ) → Due g r [] i (us ∷ uss) q → Due g r us i uss q
  out_of i us uss q (t, m, p, d, e, D) = go p d e D
    where
      go : {t : Row} {m : ℕ} (p : List ℕ) → Derives g r t [] i m → left_parse t ++ p ≡ q → Due g r us m uss p → Due g r us i uss q
      go p d-end e D = subst (λ (o : List ℕ). Due g r us i uss o) e D

  pub out-back : (i : ℕ) (us : List Symbol) (uss : List (List Symbol)) (q : List ℕ) → Due g r us i uss q → Due g r [] i (us ∷ uss) q
  out-back i us uss q D = (end, i, q, d-end, refl, D)

  -- over a terminal
  leaf-of : {x : Terminal} {ss : List Symbol} {t : Row} {i j : ℕ} → Derives g r t (terminal x ∷ ss) i j
      → (u : Row) × T (fits x (drop i r)) × Derives g r u ss (i + width x) j × (left_parse t ≡ left_parse u)
  leaf-of (d-leaf {t = t} f d) = (t, f, d, refl)
  leaf-of (d-node l c d) = absurd (omega arith)

  pub over-leaf : (x : Terminal) (ss : List Symbol) (i : ℕ) (uss : List (List Symbol)) (q : List ℕ) → Due g r (terminal x ∷ ss) i uss q
      → T (fits x (drop i r)) × Due g r ss (i + width x) uss q
  over-leaf x ss i [] q (t, d, e) = let w = leaf-of d in (w.1, (w.0, w.2, sym w.3 ∙ e))
  over-leaf x ss i (us ∷ uss) q (t, m, p, d, e, D) =
      let w = leaf-of d in (w.1, (w.0, m, p, w.2, ap (λ (o : List ℕ). o ++ p) (sym w.3) ∙ e, D))

  pub leaf-back : (x : Terminal) (ss : List Symbol) (i : ℕ) (uss : List (List Symbol)) (q : List ℕ) → T (fits x (drop i r)) → Due g r ss (i + width x) uss q
      → Due g r (terminal x ∷ ss) i uss q
  leaf-back x ss i [] q f (t, d, e) = (leaf (i + width x) t, d-leaf f d, e)
  leaf-back x ss i (us ∷ uss) q f (t, m, p, d, e, D) = (leaf (i + width x) t, m, p, d-leaf f d, e, D)

  -- into a node
  pub record Into (s : Symbol) (ss : List Symbol) (i : ℕ) (uss : List (List Symbol)) (q : List ℕ) : Type 0 where
    pub number : ℕ
    pub others : List ℕ
    pub list : q ≡ number ∷ others
    pub below : number < length (alts g s)
    pub due : Due g r (alternative g s number) i (ss ∷ uss) others

  into-leaf : (x : Terminal) → terminals_in (terminal x) ≡ [] → ⊥
  into-leaf x e = let z : ◌≡◌ {A = ℕ} 0 1 = cc in omega arith

  pub into-node : (s : Symbol) → terminals_in s ≡ [] → (ss : List Symbol) (i : ℕ) (uss : List (List Symbol)) (q : List ℕ) → Due g r (s ∷ ss) i uss q → Into s ss i uss q
  into-node s k ss i [] q (t, d, e) = go k d e
    where
      go : {s : Symbol} {t : Row} → terminals_in s ≡ [] → Derives g r t (s ∷ ss) i (length r) → left_parse t ≡ q → Into s ss i [] q
      go k (d-leaf {x = x} f d) e = absurd (into-leaf x k)
      go k (d-node {c = c} {t = t} {a = a} {m = m} l dc d) e =
          record { number = a; others = left_parse c ++ left_parse t; list = sym e; below = l; due = (c, m, left_parse t, dc, refl, (t, d, refl)) }
  into-node s k ss i (us ∷ uss) q (t, j, p, d, e, D) = go p k d e D
    where
      go : {s : Symbol} {t : Row} {j : ℕ} (p : List ℕ) → terminals_in s ≡ [] → Derives g r t (s ∷ ss) i j → left_parse t ++ p ≡ q → Due g r us j uss p → Into s ss i (us ∷ uss) q
      go p k (d-leaf {x = x} f d) e D = absurd (into-leaf x k)
      go {j = j} p k (d-node {c = c} {t = t} {a = a} {m = m} l dc d) e D =
          record {
            number = a;
            others = (left_parse c ++ left_parse t) ++ p;
            list = sym e;
            below = l;
            due = (c, m, left_parse t ++ p, dc, sym (append_assoc (left_parse c) (left_parse t) p), (t, j, p, d, refl, D));
          }

  pub node-back : (s : Symbol) (ss : List Symbol) (i a : ℕ) (uss : List (List Symbol)) (q : List ℕ) → a < length (alts g s) → Due g r (alternative g s a) i (ss ∷ uss) q
      → Due g r (s ∷ ss) i uss (a ∷ q)
  node-back s ss i a [] q l (c, m, p, dc, e, (t, d, f)) =
      (node a m c t, d-node l dc d, ap (λ (o : List ℕ). a ∷ o) (ap (λ (o : List ℕ). left_parse c ++ o) f ∙ e))
  node-back s ss i a (us ∷ uss) q l (c, m, p, dc, e, (t, j, o, d, f, D)) = (
    node a m c t,
    j,
    o,
    d-node l dc d,
    ap (λ (z : List ℕ). a ∷ z) (append_assoc (left_parse c) (left_parse t) o ∙ ap (λ (z : List ℕ). left_parse c ++ z) f ∙ e),
    D,
  )

  -- with nothing after it
  pub nothing-after : (ss : List Symbol) (i : ℕ) (q : List ℕ) → Due g r ss i ([] ∷ []) q → Due g r ss i [] q
  nothing-after ss i q (t, m, p, d, e, (u, n, f)) = go n f d e
    where
      go : {u : Row} {j : ℕ} → Derives g r u [] m j → left_parse u ≡ p → Derives g r t ss i m → left_parse t ++ p ≡ q → (v : Row) × Derives g r v ss i j × (left_parse v ≡ q)
      go d-end f d e = (t, d, sym (append-nil (left_parse t)) ∙ ap (λ (o : List ℕ). left_parse t ++ o) f ∙ e)

  pub after_nothing : (ss : List Symbol) (i : ℕ) (q : List ℕ) → Due g r ss i [] q → Due g r ss i ([] ∷ []) q
  after_nothing ss i q (t, d, e) = (t, length r, [], d, append-nil (left_parse t) ∙ e, (end, d-end, refl))
