-- Along the alternatives of a rule.
use mathlib.Core.Path.{◌≡◌, refl, sym, ap, subst}
use mathlib.Core.Bool.{true, false}
use mathlib.Core.List.{List}
use Prim.Native.Nat.{ℕ, ◌+◌, ◌-◌, ◌<◌, ◌≤◌}
use native.Mathlib.Decide.{dec_lt, ℕ_discrete}
use native.Mathlib.Omega.{arith}
use lib.ListN.{length, get_or}
use Rattle.chart.specs.Code.{goes_at}
use Rattle.chart.specs.Heights.{none}
use Rattle.splits.specs.Splits.{value_at, Position}
use Rattle.candidates.specs.Candidates.{Tells, Ends, Line, ln-last, ln-next, Lined, SomeLow, FirstLow, OtherBy}
use Rattle.candidates.proofs.Lines.{line-one, line-position, line-ends, line-drop, line_after, line-last, line-few}
use Rattle.candidates.proofs.Searches.{Unmet, unmet, unmet-next, ahead, tells-yes, tells-no}

module _ (c : List ℕ) (size first : ℕ) where
  -- the alternative a begins at q
  pub record Along (places : List ℕ) (q a : ℕ) : Type 0 where
    pub line : Line c size first places
    pub exists : a < length places
    pub here : get_or places a 0 ≡ q

  head : {places : List ℕ} → Line c size first places → (0 < length places) × (get_or places 0 0 ≡ first)
  head (ln-last p e z) = (omega arith, refl)
  head (ln-next p e z l) = (omega arith, refl)

  pub along : {places : List ℕ} → Line c size first places → Along places first 0
  along l = record { line = l; exists = (head l).0; here = (head l).1 }

  pub along-position : {places : List ℕ} {q a : ℕ} → Along places q a → Position c size q
  along-position {a = a} w = subst (λ (z : ℕ). Position c size z) w.here (line-position (line-drop a w.line w.exists))

  pub along-ends : {places : List ℕ} {q a : ℕ} → Along places q a → (e : ℕ) × Ends c q e
  along-ends {a = a} w = subst (λ (z : ℕ). (e : ℕ) × Ends c z e) w.here (line-ends (line-drop a w.line w.exists))

  pub along-few : {places : List ℕ} {q a : ℕ} → Along places q a → a < size
  along-few w = omega (arith, w.exists, line-few w.line)

  -- what next_alternative says
  abbrev pub Next : ℕ → ℕ → Type 0
  Next q next = (e : ℕ) → Ends c q e → next ≡ goes_at c e

  next-at : {q q' next : ℕ} → q ≡ q' → Next q' next → Next q next
  next-at e f = rw e f

  pub along-next : {places : List ℕ} {q a next : ℕ} → Along places q a → Next q next → (next ≡ 0 → ⊥) → Along places (next - 1) (a + 1)
  along-next {places} {q} {a} w f z =
      let u = line_after a w.line w.exists (next-at w.here f) z in
      record { line = w.line; exists = u.exists; here = omega (arith, u.is) }

  pub along-last : {places : List ℕ} {q a next : ℕ} → Along places q a → Next q next → next ≡ 0 → length places ≡ a + 1
  along-last {a = a} w f z = line-last a w.line w.exists (next-at w.here f) z

  module _ (M F : List ℕ) (n : ℕ) (H : List ℕ) (i j : ℕ) where
    -- the alternative b has height at most k
    abbrev pub LowBy : List ℕ → ℕ → ℕ → Type 0
    LowBy places k b = value_at c M F n H (get_or places b 0) i j ≤ k

    -- none of the alternatives before a has
    pub record Trying (k q a : ℕ) : Type 0 where
      pub some : SomeLow c M F size n H first i j k
      pub at : Along some.places q a
      pub before : Unmet (LowBy some.places k) 0 a

    pub trying : {k : ℕ} → SomeLow c M F size n H first i j k → Trying k first 0
    trying s = record { some = s; at = along s.line; before = unmet 0 }

    try-ahead : {k q a : ℕ} (w : Trying k q a) → k < value_at c M F n H q i j → a < w.some.number
    try-ahead {k} {q} {a} w h =
        let s = w.some in
        let v : k < value_at c M F n H (get_or s.places a 0) i j = subst (λ (z : ℕ). k < value_at c M F n H z i j) (sym w.at.here) h in
        let le = ahead w.before s.number (omega arith) s.low in
        elim (ℕ_discrete a s.number) as (λ _. a < s.number) [
          | yes e ↦ absurd (omega (arith, subst (λ (z : ℕ). k < value_at c M F n H (get_or s.places z 0) i j) e v, s.low))
          | no e ↦ omega arith
        ]

    pub try-follows : {k q a next : ℕ} (w : Trying k q a) → k < value_at c M F n H q i j → Next q next → next ≡ 0 → ⊥
    try-follows w h f z = omega (arith, along-last w.at f z, try-ahead w h, w.some.exists)

    pub try-next : {k q a next : ℕ} (w : Trying k q a) → k < value_at c M F n H q i j → Next q next → Trying k (next - 1) (a + 1)
    try-next {k} w h f = record {
      some = w.some;
      at = along-next w.at f (try-follows w h f);
      before = unmet-next w.before (λ l. let v = subst (λ (z : ℕ). k < value_at c M F n H z i j) (sym w.at.here) h in omega arith);
    }

    pub try-done : {k q a : ℕ} → Trying k q a → value_at c M F n H q i j ≤ k → FirstLow c M F size n H first i j k (record { number = a; place = q })
    try-done {k} {q} {a} w h = record {
      places = w.some.places;
      line = w.some.line;
      exists = w.at.exists;
      is = w.at.here;
      low = h;
      first = λ b l. elim (dec_lt k (value_at c M F n H (get_or w.some.places b 0) i j)) as (λ _. k < value_at c M F n H (get_or w.some.places b 0) i j)
          [ yes q ↦ q | no q ↦ absurd (w.before.none b (omega arith) l (omega arith)) ];
    }

    -- the alternative b is another than number, and derives i to j
    abbrev pub Too : ℕ → ℕ → ℕ → Type 0
    Too number q b = (b ≡ number → ⊥) × (value_at c M F n H q i j ≡ none → ⊥)

    pub record Passing (number q a : ℕ) : Type 0 where
      pub places : List ℕ
      pub at : Along places q a
      pub before : Unmet (λ b. Too number (get_or places b 0) b) 0 a

    pub passing : {number : ℕ} → Lined c size first → Passing number first 0
    passing l = record { places = l.places; at = along l.line; before = unmet 0 }

    too-at : {number q q' a : ℕ} → q ≡ q' → Too number q a → Too number q' a
    too-at e w = rw e at w

    pub pass-next : {number q a next : ℕ} → Passing number q a → (Too number q a → ⊥) → Next q next → (next ≡ 0 → ⊥) → Passing number (next - 1) (a + 1)
    pass-next w f v z = record { places = w.places; at = along-next w.at v z; before = unmet-next w.before (λ o. f (too-at w.at.here o)) }

    pub pass-yes : {number q a : ℕ} → Passing number q a → Too number q a → Tells true (OtherBy c M F size n H first i j number)
    pass-yes {a = a} w o =
        let o' = too-at (sym w.at.here) o in
        tells-yes (record { places = w.places; line = w.at.line; number = a; exists = w.at.exists; other = o.0; derives = o'.1 })

    pub pass-no : {number q a next : ℕ} → Passing number q a → (Too number q a → ⊥) → Next q next → next ≡ 0 → Tells false (OtherBy c M F size n H first i j number)
    pass-no {number} {q} {a} w f v z = tells-no (λ o.
        let same = line-one w.at.line o.line in
        let l = along-last w.at v z in
        let u = unmet-next w.before (λ x. f (too-at w.at.here x)) in
        u.none o.number (omega arith) (omega (arith, o.exists, ap length same))
        (o.other, subst (λ (ps : List ℕ). value_at c M F n H (get_or ps o.number 0) i j ≡ none → ⊥) (sym same) o.derives))
