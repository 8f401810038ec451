-- Whatever is derived is derived with a height of at most the number of rules times one more than the characters of its stretch: on a path
-- of a lowest derivation no rule comes twice on one stretch, and stretches on a path only become shorter.
use mathlib.Core.Path.{◌≡◌, refl, sym, ap, subst, ◌∙◌}
use mathlib.Core.Logic.{◌⊎◌, inl, inr, ⊎_elim}
use mathlib.Core.Bool.{Bool}
use mathlib.Core.List.{List, [], ◌∷◌, Memᴰ as In}
use mathlib.Core.List.Memᴰ.{head as in_head}
use mathlib.Core.List.Memᴰ.{tail as in_Tail}
use Prim.Native.Nat.{ℕ, zero, suc, ◌+◌, ◌*◌, ◌<◌, ◌≤◌}
use native.Mathlib.Nat.{suc-mul}
use native.Mathlib.Decide.{dec_lt}
use native.Mathlib.Omega.{arith}
use lib.Dec.{T, eqb_refl}
use lib.ListN.{length, get_or}
use Rattle.text.specs.Lists.{Text}
use Rattle.tree.specs.Tree.{Symbol, terminal, Grammar}
use Rattle.plain.specs.Plain.{alts, width, ruled}
use Rattle.derive.specs.Derive.{Row, end, leaf, node, Derives, d-end, d-leaf, d-node, alternative}
use Rattle.derive.specs.Level.{can_one, can}
use Rattle.derive.specs.Bound.{symbols_of}
use Rattle.derive.proofs.Rows.{forward}
use Rattle.derive.proofs.Levels.{node-can, both-can, complete-one, sound, sound-one, can-more, Low}
use Rattle.derive.proofs.Bound.{still, count, count-le, count_same}
use Rattle.derive.proofs.Symbols.{Inside, alternative-of, ruled-of}
use Rattle.rounds.specs.Rounds.{most_rounds, Stands, AllStand}

module _ (g : Grammar) (r : Text) where
  -- a tree of a symbol with alternatives is one of any symbol that has the same
  move : (s x : Symbol) {t : Row} {i j a : ℕ} → alts g x ≡ alts g s → a < length (alts g s) → Derives g r t (x ∷ []) i j → Derives g r t (s ∷ []) i j
  move s _ {a = a} e la (d-leaf {x = y} b d-end) =
      let l : a < 0 = subst (λ (ts : List (List Symbol)). a < length ts) (sym e) la in
      absurd (omega arith)
  move s x e la (d-node {c = c} {a = b} {i = i} {m = m} lb d d-end) =
      d-node (subst (λ (ts : List (List Symbol)). b < length ts) e lb) (subst (λ (ts : List (List Symbol)). Derives g r c (get_or ts b []) i m) e d) d-end

  move-can : (k : ℕ) (s x : Symbol) (i j a : ℕ) → alts g x ≡ alts g s → a < length (alts g s) → T (can_one g r k x i j) → T (can_one g r k s i j)
  move-can k s x i j a e la h = let w = sound-one g r k x i j h in complete-one g r k (move s x e la w.derives) w.low

module _ (g : Grammar) (r : Text) (ns : List Symbol) (all : AllStand g ns) where
  -- level suc k adds none of the listed symbols to level k on the stretch
  abbrev Settled : ℕ → ℕ → ℕ → Type 0
  Settled i j k = (x : Symbol) → In x ns → T (can_one g r (suc k) x i j) → T (can_one g r k x i j)

  record Last (i j b : ℕ) : Type 0 where
    k : ℕ
    above : b ≤ k
    early : k ≤ b + length ns
    settled : Settled i j k

  -- a settled level from b on
  last : (i j b : ℕ) → Last i j b
  last i j b =
      let full : ℕ → Symbol → Bool = λ k x. can_one g r (b + k) x i j in
      let w = still (λ (k : ℕ). count (full k) ns) (length ns) (λ k. count-le (full k) ns) in
      let up : (x : Symbol) → T (full w.k x) → T (full (suc w.k) x) = λ x. can-more g r (b + w.k) (b + suc w.k) x i j (omega arith) in
      let e : b + suc w.k ≡ suc (b + w.k) = omega arith in
      record {
        k = b + w.k;
        above = omega arith;
        early = omega (arith, w.early);
        settled = λ x h q. count_same (full w.k) (full (suc w.k)) up ns w.flat h (subst (λ (o : ℕ). T (can_one g r o x i j)) (sym e) q);
      }

  -- what is derived on shorter stretches has at most the height b
  abbrev Short : ℕ → ℕ → Type 0
  Short l b = (t : Row) (ss : List Symbol) (i j : ℕ) → Inside g ss → j ≤ length r → j < i + l → Derives g r t ss i j → Low g r b ss i j

  module _ (l b i j : ℕ) (short : Short l b) (w : Last i j b) (le : j ≤ i + l) (stop : j ≤ length r) where
    -- a symbol on the whole stretch, if what it has inside is there
    whole : (s : Symbol) (a : ℕ) → In s (symbols_of g) → a < length (alts g s) → T (can g r w.k (alternative g s a) i j) → T (can_one g r w.k s i j)
    whole s a h la q =
        let o = all s h a la in
        let up = node-can g r w.k s i j a la q in
        let v = sound-one g r (suc w.k) s i j up in
        let la' : a < length (alts g o.symbol) = subst (λ (ts : List (List Symbol)). a < length ts) (sym o.same) la in
        let one = complete-one g r (suc w.k) (move g r o.symbol s (sym o.same) la' v.derives) v.low in
        move-can g r w.k s o.symbol i j a o.same la (w.settled o.symbol o.listed one)

    rows : {t : Row} {ss : List Symbol} {k m : ℕ} → Inside g ss → i ≤ k → m ≤ j → Derives g r t ss k m → T (can g r w.k ss k m)
    rows h lk lm (d-end {i = k}) = eqb_refl k
    rows h lk lm (d-leaf {x} {ss} {i = k} {j = m} f d) =
        let one : T (can_one g r w.k (terminal x) k (k + width x)) = complete-one g r w.k (d-leaf {x = x} f d-end) (omega arith) in
        both-can g r w.k (terminal x) ss k m (k + width x) (omega arith) (forward g r d) one (rows h.1 (omega arith) lm d)
    rows h lk lm (d-node {s} {ss} {a = a} {i = k} {m = o} {j = m} la c d) =
        let q = forward g r d in
        let p = forward g r c in
        let inside = rows (alternative-of g h.0 a) lk (omega arith) c in
        let one : T (can_one g r w.k s k o) =
        elim (dec_lt o (k + l)) as (λ _. T (can_one g r w.k s k o)) [
          | yes z ↦ (let v = short _ (s ∷ []) k o (h.0, tt) (omega arith) z (d-node la c d-end) in complete-one g r w.k v.derives (omega (arith, v.low, w.above)))
          | no z ↦ (let ek : k ≡ i = omega (arith, le) in let eo : o ≡ j = omega (arith, le) in
              subst (λ (e : ℕ). T (can_one g r w.k s e o)) (sym ek) (subst (λ (e : ℕ). T (can_one g r w.k s i e)) (sym eo)
              (whole s a h.0 la (subst (λ (e : ℕ). T (can g r w.k (alternative g s a) i e)) eo (subst (λ (e : ℕ). T (can g r w.k (alternative g s a) e o)) ek inside)))))
        ] in
        both-can g r w.k s ss k m o p q one (rows h.1 (omega arith) lm d)

  bounded : (l : ℕ) {t : Row} {ss : List Symbol} {i j : ℕ} → Inside g ss → j ≤ length r → j ≤ i + l → Derives g r t ss i j → Low g r (length ns * suc l) ss i j
  bounded zero {ss = ss} {i = i} {j = j} h stop le d =
      let w = last i j 0 in
      let short : Short 0 0 = λ t' ss' i' j' h' s' z d'. absurd (omega (arith, forward g r d')) in
      let v = sound g r w.k ss i j (rows 0 0 i j short w le stop h (omega arith) (omega arith) d) in
      record { row = v.row; derives = v.derives; low = omega (arith, v.low, w.early) }
  bounded (suc l) {ss = ss} {i = i} {j = j} h stop le d =
      let b = length ns * suc l in
      let w = last i j b in
      let short : Short (suc l) b = λ t' ss' i' j' h' s' z d'. bounded l h' s' (omega arith) d' in
      let v = sound g r w.k ss i j (rows (suc l) b i j short w le stop h (omega arith) (omega arith) d) in
      record { row = v.row; derives = v.derives; low = omega (arith, v.low, w.early, suc-mul (suc l) (length ns)) }

-- a tree is a leaf or a node
by_cases : (g : Grammar) (r : Text) {t : Row} {s : Symbol} {i j : ℕ} {P : Type 0} → Derives g r t (s ∷ []) i j → (Low g r 0 (s ∷ []) i j → P)
    → ((c : Row) (a : ℕ) → a < length (alts g s) → Derives g r c (alternative g s a) i j → P) → P
by_cases g r (d-leaf {x} {i = i} f d-end) leaves nodes = leaves (record { row = leaf (i + width x) end; derives = d-leaf f d-end; low = omega arith })
by_cases g r (d-node {c = c} {a = a} la d d-end) leaves nodes = nodes c a la d

-- a list without one of its members
abbrev without : {A : Type 0} {x : A} (xs : List A) → In x xs → List A
without (y ∷ xs) (in_head e) = xs
without (y ∷ xs) (in_Tail m) = y ∷ without xs m
without {A = A} [] x'' = elim x'' [ ]

without-length : {A : Type 0} {x : A} (xs : List A) (m : In x xs) → length xs ≡ suc (length (without xs m))
without-length (y ∷ xs) (in_head e) = refl
without-length (y ∷ xs) (in_Tail m) = omega (arith, without-length xs m)
without-length {A = A} [] m = elim m [ ]

other-in : {A : Type 0} {x z : A} (xs : List A) (m : In x xs) → In z xs → (z ≡ x) ⊎ In z (without xs m)
other-in (y ∷ xs) (in_head e) (in_head o) = inl (o ∙ sym e)
other-in (y ∷ xs) (in_head e) (in_Tail o) = inr o
other-in (y ∷ xs) (in_Tail m) (in_head o) = inr (in_head o)
other-in (y ∷ xs) (in_Tail m) (in_Tail o) = ⊎_elim inl (λ w. inr (in_Tail w)) (other-in xs m o)
other-in {A = A} {z = z} [] m _ = elim m [ ]

module _ (g : Grammar) (r : Text) (all : AllStand g (ruled g)) where
  -- the rounds are enough, where the rules that are written and made stand for all symbols
  pub enough : {t : Row} {ss : List Symbol} {i j : ℕ} → Inside g ss → j ≤ length r → Derives g r t ss i j → Low g r (most_rounds g r) ss i j
  enough {ss = ss} {i = i} {j = j} h stop d =
      let v = bounded g r (ruled g) all (length r) h stop (omega arith) d in
      let e : length (ruled g) * suc (length r) ≡ most_rounds g r = omega arith in
      record { row = v.row; derives = v.derives; low = omega (arith, v.low) }

  -- also for a rule that nothing uses: the others, one fewer, stand for all symbols inside it
  module _ (s : Symbol) (m : In s (ruled g)) where
    record Used : Type 0 where
      symbol : Symbol
      there : In symbol (symbols_of g)
      same : alts g s ≡ alts g symbol

    abbrev Rest : List Symbol → Type 0
    Rest xs = (x : Symbol) → In x xs → (a : ℕ) → a < length (alts g x) → Stands g (without (ruled g) m) x

    one : (x : Symbol) → In x (symbols_of g) → Used ⊎ ((a : ℕ) → a < length (alts g x) → Stands g (without (ruled g) m) x)
    one x h = elim (dec_lt 0 (length (alts g x))) as (λ _. Used ⊎ ((a : ℕ) → a < length (alts g x) → Stands g (without (ruled g) m) x)) [
      | no l ↦ inr (λ a b. absurd (omega arith))
      | yes l ↦ (let o = all x h 0 l in ⊎_elim
          (λ e. inl (record { symbol = x; there = h; same = subst (λ (y : Symbol). alts g y ≡ alts g x) e o.same }))
          (λ w. inr (λ _ _. record { symbol = o.symbol; listed = w; same = o.same }))
          (other-in (ruled g) m o.listed))
    ]

    scan : (xs : List Symbol) → ((x : Symbol) → In x xs → In x (symbols_of g)) → Used ⊎ Rest xs
    scan [] h = inr (λ x w. elim w [ ])
    scan (x ∷ xs) h = ⊎_elim inl (λ a. ⊎_elim inl (λ b. inr (both a b)) (scan xs (λ y w. h y (in_Tail w)))) (one x (h x (in_head refl)))
      where
        both : ((a : ℕ) → a < length (alts g x) → Stands g (without (ruled g) m) x) → Rest xs → Rest (x ∷ xs)
        both a b y (in_head e) = subst (λ (z : Symbol). (a : ℕ) → a < length (alts g z) → Stands g (without (ruled g) m) z) (sym e) a
        both a b y (in_Tail w) = b y w

    -- by a symbol that has the same alternatives, or as a node over what it has inside
    by-used : Used → {t : Row} {i j a : ℕ} → a < length (alts g s) → j ≤ length r → Derives g r t (s ∷ []) i j → Low g r (most_rounds g r) (s ∷ []) i j
    by-used u {a = a} la stop d =
        let la' : a < length (alts g u.symbol) = subst (λ (ts : List (List Symbol)). a < length ts) u.same la in
        let v = enough (u.there, tt) stop (move g r u.symbol s u.same la' d) in
        record { row = v.row; derives = move g r s u.symbol (sym u.same) la v.derives; low = v.low }

    by-rest : Rest (symbols_of g) → {c : Row} {i j a : ℕ} → a < length (alts g s) → j ≤ length r → Derives g r c (alternative g s a) i j → Low g r (most_rounds g r) (s ∷ []) i j
    by-rest w {j = j} {a = a} la stop d =
        let v = bounded g r (without (ruled g) m) w (length r) (ruled-of g m a) stop (omega arith) d in
        let l = length (without (ruled g) m) in
        let e : length (ruled g) ≡ suc l = without-length (ruled g) m in
        let x : most_rounds g r ≡ suc l * (length r + 1) = ap (λ (o : ℕ). o * (length r + 1)) e in
        record { row = node a j v.row end; derives = d-node la v.derives d-end; low = omega (arith, v.low, suc-mul l (length r + 1)) }

    pub enough-rule : {t : Row} {i j : ℕ} → j ≤ length r → Derives g r t (s ∷ []) i j → Low g r (most_rounds g r) (s ∷ []) i j
    enough-rule stop d = by_cases g r d
        (λ u. record { row = u.row; derives = u.derives; low = omega (arith, u.low) })
        (λ c a la e. ⊎_elim (λ u. by-used u la stop d) (λ w. by-rest w la stop e) (scan (symbols_of g) (λ x h. h)))
