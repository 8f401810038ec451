-- `beginsAt` says exactly which beginnings of a record begin some text of the grammar.
use mathlib.Core.Path.{◌≡◌, subst}
use mathlib.Core.Bool.{Bool, ◌&&◌, ◌||◌}
use mathlib.Core.Logic.{◌⊎◌, inl, inr, ⊎_elim, ◌↔◌}
use mathlib.Core.List.{List, [], ◌∷◌, ◌++◌, Memᴰ as In}
use mathlib.Core.List.Memᴰ.{map as in_map}
use Prim.Native.Nat.{ℕ, zero, suc, ◌+◌, ◌*◌, ◌-◌, ◌<◌, ◌≤◌}
use native.Mathlib.Decide.{ℕ_discrete}
use native.Mathlib.Omega.{arith}
use lib.Dec.{T, leb, leb→le, le→leb}
use lib.ListN.{length, take, drop, length-append}
use lib.Seq.{take_at, length-take-le}
use Rattle.text.specs.Lists.{Text, all, concat_map}
use Rattle.text.specs.Utf8.{known}
use Rattle.text.proofs.Tests.{split, both-and, or_case, or_left, or_right, and_left, and_right}
use Rattle.tree.specs.Tree.{Symbol, terminal, Grammar}
use Rattle.plain.specs.Plain.{alts, width}
use Rattle.derive.specs.Derive.{Row, Derives, d-end, d-leaf, d-node, alternative, root}
use Rattle.derive.specs.Level.{first, somewhere, can_one}
use Rattle.derive.specs.Bound.{symbols_of, ending_at, top}
use Rattle.derive.specs.Yield.{productive}
use Rattle.derive.proofs.Rows.{forward}
use Rattle.derive.proofs.Tools.{found, finds}
use Rattle.derive.proofs.Levels.{sound-one}
use Rattle.derive.proofs.Symbols.{Inside, in-concat, alternative-of, root-inside}
use Rattle.derive.proofs.Bound.{still, count, count-le, count_same, Cell, cells_of, cells-length, in-ending, bounded-one}
use Rattle.derive.proofs.Productive.{all_append, derived-productive}
use Rattle.viable.specs.Fault.{Begins}
use Rattle.viable.specs.Stands.{begun, Stands, at-root, past-terminal, into, past-symbol}
use Rattle.viable.specs.Compute.{reaching, reaches_in, begins_at}
use Rattle.viable.proofs.Parts.{all_take, fits-here, derives-here, begun-far}
use Rattle.viable.proofs.Sound.{reached-begins}

-- something stands that reaches k
pub record Near (g : Grammar) (r : Text) (k : ℕ) : Type 0 where
  pub symbols : List Symbol
  pub place : ℕ
  pub stands : Stands g r symbols place
  pub far : k ≤ place + begun symbols (drop place r)

module _ (g : Grammar) (r : Text) (k : ℕ) where
  -- the three ways
  abbrev past : (Symbol → ℕ → Bool) → Symbol → List Symbol → ℕ → ℕ → Bool
  past f s ss i m = can_one g r (top g r) s i m && reaching g r k f ss m

  abbrev pasts : (Symbol → ℕ → Bool) → Symbol → List Symbol → ℕ → Bool
  pasts f s ss i = somewhere (past f s ss i) i (suc k - i)

  here-reaches : (f : Symbol → ℕ → Bool) (ss : List Symbol) (i : ℕ) → k ≤ i + begun ss (drop i r) → T (reaching g r k f ss i)
  here-reaches f [] i h = le→leb k (i + begun [] (drop i r)) h
  here-reaches f (s ∷ ss) i h = or_left (leb k (i + begun (s ∷ ss) (drop i r))) (f s i || pasts f s ss i) (le→leb k (i + begun (s ∷ ss) (drop i r)) h)

  inner-reaches : (f : Symbol → ℕ → Bool) (s : Symbol) (ss : List Symbol) (i : ℕ) → T (f s i) → T (reaching g r k f (s ∷ ss) i)
  inner-reaches f s ss i h = or_right (leb k (i + begun (s ∷ ss) (drop i r))) (f s i || pasts f s ss i) (or_left (f s i) (pasts f s ss i) h)

  past-reaches : (f : Symbol → ℕ → Bool) (s : Symbol) (ss : List Symbol) (i m : ℕ) → i ≤ m → m ≤ k → T (can_one g r (top g r) s i m) → T (reaching g r k f ss m) → T (reaching g r k f (s ∷ ss) i)
  past-reaches f s ss i m l h c o =
      or_right (leb k (i + begun (s ∷ ss) (drop i r))) (f s i || pasts f s ss i) (or_right (f s i) (pasts f s ss i)
      (finds (past f s ss i) i (suc k - i) m l (omega arith) (both-and (can_one g r (top g r) s i m) (reaching g r k f ss m) c o)))

  abbrev row : ℕ → Symbol → ℕ → ℕ → Bool
  row d s i a = all (productive g) (alternative g s a) && reaching g r k (reaches_in g r k d) (alternative g s a) i

  node-reaches : (d : ℕ) (s : Symbol) (i a : ℕ) → a < length (alts g s) → T (all (productive g) (alternative g s a)) → T (reaching g r k (reaches_in g r k d) (alternative g s a) i)
      → T (reaches_in g r k (suc d) s i)
  node-reaches d s i a l p h =
      finds (row d s i) 0 (length (alts g s)) a (omega arith) (omega arith) (both-and (all (productive g) (alternative g s a)) (reaching g r k (reaches_in g r k d) (alternative g s a) i) p h)

  record Node (d : ℕ) (s : Symbol) (i : ℕ) : Type 0 where
    a : ℕ
    exists : a < length (alts g s)
    alive : T (all (productive g) (alternative g s a))
    reaches : T (reaching g r k (reaches_in g r k d) (alternative g s a) i)

  node_of : (d : ℕ) (s : Symbol) (i : ℕ) → T (reaches_in g r k (suc d) s i) → Node d s i
  node_of d s i h =
      let w = found (row d s i) 0 (length (alts g s)) h in
      let a = first (row d s i) 0 (length (alts g s)) in
      record {
        a = a;
        exists = omega (arith, w.high);
        alive = and_left (all (productive g) (alternative g s a)) (reaching g r k (reaches_in g r k d) (alternative g s a) i) w.holds;
        reaches = and_right (all (productive g) (alternative g s a)) (reaching g r k (reaches_in g r k d) (alternative g s a) i) w.holds;
      }

  -- which of them it is
  data Way (f : Symbol → ℕ → Bool) (s : Symbol) (ss : List Symbol) (i : ℕ) : Type 0 where
    here : k ≤ i + begun (s ∷ ss) (drop i r) → Way f s ss i
    inner : T (f s i) → Way f s ss i
    over : (m : ℕ) → i ≤ m → m ≤ k → T (can_one g r (top g r) s i m) → T (reaching g r k f ss m) → Way f s ss i

  way_of : (f : Symbol → ℕ → Bool) (s : Symbol) (ss : List Symbol) (i : ℕ) → i ≤ k → T (reaching g r k f (s ∷ ss) i) → Way f s ss i
  way_of f s ss i b h = ⊎_elim (λ y. here (leb→le k (i + begun (s ∷ ss) (drop i r)) y)) (λ y. ⊎_elim inner beyond (or_case (f s i) (pasts f s ss i) y))
      (or_case (leb k (i + begun (s ∷ ss) (drop i r))) (f s i || pasts f s ss i) h)
    where
      beyond : T (pasts f s ss i) → Way f s ss i
      beyond y =
          let w = found (past f s ss i) i (suc k - i) y in
          let m = first (past f s ss i) i (suc k - i) in
          over m w.low (omega (arith, w.high)) (and_left (can_one g r (top g r) s i m) (reaching g r k f ss m) w.holds)
          (and_right (can_one g r (top g r) s i m) (reaching g r k f ss m) w.holds)

  module _ (l : k ≤ length r) where
    -- what is computed stands
    step-over : {s : Symbol} {ss : List Symbol} {t : Row} {i m : ℕ} → Stands g r (s ∷ ss) i → m ≤ k → Derives g r t (s ∷ []) i m → Stands g r ss m
    step-over z h (d-leaf f d-end) = past-terminal z f (omega arith)
    step-over z h (d-node la c d-end) = past-symbol z la c (omega arith)

    row_near : (f : Symbol → ℕ → Bool) → ((s : Symbol) (ss : List Symbol) (i : ℕ) → i ≤ k → Stands g r (s ∷ ss) i → T (f s i) → Near g r k)
        → (ss : List Symbol) (i : ℕ) → i ≤ k → Stands g r ss i → T (reaching g r k f ss i) → Near g r k
    row_near f w [] i b z h = record { symbols = []; place = i; stands = z; far = leb→le k (i + begun [] (drop i r)) h }
    row_near f w (s ∷ ss) i b z h = go (row_near f w ss) (way_of f s ss i b h)
      where
        go : ((m : ℕ) → m ≤ k → Stands g r ss m → T (reaching g r k f ss m) → Near g r k) → Way f s ss i → Near g r k
        go y (here x) = record { symbols = s ∷ ss; place = i; stands = z; far = x }
        go y (inner x) = w s ss i b z x
        go y (over m lo hi c o) = y m hi (step-over z hi (sound-one g r (top g r) s i m c).derives) o

    one-near : (d : ℕ) (s : Symbol) (ss : List Symbol) (i : ℕ) → i ≤ k → Stands g r (s ∷ ss) i → T (reaches_in g r k d s i) → Near g r k
    one-near zero s ss i b z h = absurd h
    one-near (suc d) s ss i b z h =
        let n = node_of d s i h in
        row_near (reaches_in g r k d) (one-near d) (alternative g s n.a) i b (into z n.exists n.alive) n.reaches

    pub near : T (begins_at g r k) → Near g r k
    near h =
        let b = length (symbols_of g) * length (ending_at k k) in
        let n = node_of b (root g) 0 h in
        row_near (reaches_in g r k b) (one-near b) (alternative g (root g) n.a) 0 (omega arith) (at-root n.exists n.alive) n.reaches

  -- deeper is more
  row_more : (f h : Symbol → ℕ → Bool) → ((s : Symbol) (i : ℕ) → i ≤ k → T (f s i) → T (h s i)) → (ss : List Symbol) (i : ℕ) → i ≤ k → T (reaching g r k f ss i) → T (reaching g r k h ss i)
  row_more f h w [] i b t = t
  row_more f h w (s ∷ ss) i b t = go (row_more f h w ss) (way_of f s ss i b t)
    where
      go : ((m : ℕ) → m ≤ k → T (reaching g r k f ss m) → T (reaching g r k h ss m)) → Way f s ss i → T (reaching g r k h (s ∷ ss) i)
      go y (here x) = here-reaches h (s ∷ ss) i x
      go y (inner x) = inner-reaches h s ss i (w s i b x)
      go y (over m lo hi c o) = past-reaches h s ss i m lo hi c (y m hi o)

  more : (d : ℕ) (s : Symbol) (i : ℕ) → i ≤ k → T (reaches_in g r k d s i) → T (reaches_in g r k (suc d) s i)
  more zero s i b h = absurd h
  more (suc d) s i b h =
      let n = node_of d s i h in
      node-reaches (suc d) s i n.a n.exists n.alive (row_more (reaches_in g r k d) (reaches_in g r k (suc d)) (more d) (alternative g s n.a) i b n.reaches)

  deeper : (d e : ℕ) (s : Symbol) (i : ℕ) → i ≤ k → d ≤ e → T (reaches_in g r k d s i) → T (reaches_in g r k e s i)
  deeper d zero s i b h t = subst (λ (z : ℕ). T (reaches_in g r k z s i)) (let e : d ≡ 0 = omega arith in e) t
  deeper d (suc e) s i b h t = elim (ℕ_discrete d (suc e)) as (λ _. T (reaches_in g r k (suc e) s i)) [
    | yes q ↦ subst (λ (z : ℕ). T (reaches_in g r k z s i)) q t
    | no q ↦ more e s i b (deeper d e s i b (omega arith) t)
  ]

  -- some depth adds nothing to the one before
  record Last : Type 0 where
    d : ℕ
    early : d ≤ length (symbols_of g) * length (ending_at k k)
    settled : (s : Symbol) (i : ℕ) → In s (symbols_of g) → i ≤ k → T (reaches_in g r k (suc d) s i) → T (reaches_in g r k d s i)

  abbrev cells : List Cell
  cells = concat_map (cells_of (ending_at k k)) (symbols_of g)

  -- a place after k counts as one that is not reached
  abbrev full : ℕ → Cell → Bool
  full d c = leb c.1.0 k && reaches_in g r k d c.0 c.1.0

  full-more : (d : ℕ) (c : Cell) → T (full d c) → T (full (suc d) c)
  full-more d c h =
      let a = and_left (leb c.1.0 k) (reaches_in g r k d c.0 c.1.0) h in
      let b = and_right (leb c.1.0 k) (reaches_in g r k d c.0 c.1.0) h in
      both-and (leb c.1.0 k) (reaches_in g r k (suc d) c.0 c.1.0) a (more d c.0 c.1.0 (leb→le c.1.0 k a) b)

  last : Last
  last =
      let e = cells-length (ending_at k k) (symbols_of g) in
      let w = still (λ (d : ℕ). count (full d) cells) (length (symbols_of g) * length (ending_at k k)) (λ d. omega (arith, count-le (full d) cells)) in
      record {
        d = w.k;
        early = w.early;
        settled = λ s i h b t. and_right (leb i k) (reaches_in g r k w.k s i) (count_same (full w.k) (full (suc w.k)) (full-more w.k) cells w.flat {x = (s, (i, k))}
            (in-concat (cells_of (ending_at k k)) (symbols_of g) h (in_map (λ (p : ℕ × ℕ). (s, p)) (in-ending i k k b)))
            (both-and (leb i k) (reaches_in g r k (suc w.k) s i) (le→leb i k b) t));
      }

  -- a derivation of a text that has the record's first k characters, walked down to the place k
  module _ (l : k ≤ length r) (w : Text) (held : T (all known w)) (e : take k w ≡ take k r) where
    abbrev at : Symbol → ℕ → Bool
    at = reaches_in g r k last.d

    walk : {t : Row} {ss : List Symbol} {i j : ℕ} → Inside g ss → i ≤ k → k ≤ j → Derives g w t ss i j → T (reaching g r k at ss i)
    walk h b q (d-end {i}) = here-reaches at [] i (omega arith)
    walk h b q (d-leaf {x} {ss} {i = i} f d) = elim (split k (i + width x)) as (λ _. T (reaching g r k at (terminal x ∷ ss) i)) [
      | inl y ↦ here-reaches at (terminal x ∷ ss) i (begun-far x i k w r b y f e)
      | inr y ↦
          (let c = bounded-one g r h.0 (omega arith) (d-leaf {x = x} {i = i} (fits-here g w r k e x i y f) d-end) in
          past-reaches at (terminal x) ss i (i + width x) (omega arith) y c (walk h.1 y q d))
    ]
    walk h b q (d-node {s} {ss} {a = a} {i = i} {m = m} la c d) = elim (split k m) as (λ _. T (reaching g r k at (s ∷ ss) i)) [
      | inl y ↦
          (let p = derived-productive g held (alternative-of g h.0 a) c in
          inner-reaches at s ss i (last.settled s i h.0 b (node-reaches last.d s i a la p (walk (alternative-of g h.0 a) b (omega arith) c))))
      | inr y ↦
          (let o = bounded-one g r h.0 (omega arith) (derives-here g w r k e y (d-node la c d-end)) in
          past-reaches at s ss i m (forward g w c) y o (walk h.1 y q d))
    ]

    root-walk : {t : Row} {j : ℕ} → k ≤ j → Derives g w t (root g ∷ []) 0 j → T (begins_at g r k)
    root-walk q (d-node {a = a} la c d-end) =
        let h = (root-inside g).0 in
        let p = derived-productive g held (alternative-of g h a) c in
        deeper (suc last.d) (suc (length (symbols_of g) * length (ending_at k k))) (root g) 0 (omega arith) (omega (arith, last.early))
        (node-reaches last.d (root g) 0 a la p (walk (alternative-of g h a) (omega arith) q c))

-- `beginsAt` decides whether the record's beginning begins a text of the grammar
pub begins-is : (g : Grammar) (r : Text) (k : ℕ) → T (all known r) → k ≤ length r → T (begins_at g r k) ↔ Begins g (take k r)
begins-is g r k v l = (
  λ h. let n = near g r k l h in reached-begins g r v n.stands k n.far,
  λ b. let n = length-take-le k r l in
      root-walk g r k l (take k r ++ b.rest) (all_append known (take k r) b.rest (all_take known k r v) b.held) (take_at (take k r) b.rest k n)
      (omega (arith, length-append (take k r) b.rest, n)) b.derives,
)
