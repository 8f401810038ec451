-- Heights of a part that are attained, and that no offer lowers, say exactly what derives the stretches where it is used.
use mathlib.Core.Path.{◌≡◌, refl, sym, subst}
use mathlib.Core.List.{List, [], ◌∷◌, Memᴰ as Memb}
use Prim.Native.Nat.{ℕ, suc, ◌+◌, ◌*◌, ◌<◌, ◌≤◌}
use native.Mathlib.Nat.{mul-le-mul}
use native.Mathlib.Decide.{dec_lt}
use native.Mathlib.Omega.{arith}
use lib.ListN.{length}
use Rattle.text.specs.Limits.{most_size, record_chars}
use Rattle.text.specs.Lists.{Text}
use Rattle.tree.specs.Tree.{Terminal, Symbol, Grammar}
use Rattle.plain.specs.Plain.{alts}
use Rattle.derive.specs.Derive.{Row, end, node, Derives, d-leaf, d-node, d-end, height}
use Rattle.derive.specs.Bound.{symbols_of, stretches, top}
use Rattle.derive.proofs.Bound.{stretches-count, bounded}
use Rattle.derive.proofs.Symbols.{in-inside}
use Rattle.chart.specs.Code.{owner_at, after_dot, head_of, Chain, ch-last, ch-next, Ruled}
use Rattle.chart.specs.Heights.{none, Says, says_none, says-height, SaysRule, rule-none, rule-height}
use Rattle.heights.specs.Part.{Least}
use Rattle.heights.proofs.Part.{find, Attained, chain_first, Stays, Spot, Reached, complete, toward-rest, toward-rule}

-- a height that is always enough is no "none"
pub top_small : {At : ℕ → Terminal → Type 0} {c : List ℕ} {g : Grammar} {size root first : ℕ} → Ruled At c g size root first → (r : Text) → size ≤ most_size
    → length r ≤ record_chars → top g r < none
top_small {g = g} {size = size} k r few short =
    let n = length r in
    let q : (n + 1) * (n + 2) ≤ 201 * 202 = mul-le-mul {n₁ = n + 1} {m₁ = n + 2} {n₂ = 201} {m₂ = 202} (omega arith) (omega arith) in
    let e = stretches-count n in
    let m : length (symbols_of g) * length (stretches n) ≤ 2049 * 20301 =
    mul-le-mul {n₁ = length (symbols_of g)} {m₁ = length (stretches n)} {n₂ = 2049} {m₂ = 20301} (omega (arith, k.few)) (omega arith) in
    omega arith

no-chain : {c : List ℕ} {dots : List (List Symbol)} {e q : ℕ} {ts : List (List Symbol)} → Chain c dots e q ts → ts ≡ [] → ⊥
no-chain (ch-last h o b z) e = let z : ◌≡◌ {A = ℕ} 0 1 = cc in omega arith
no-chain (ch-next h o b r) e = let z : ◌≡◌ {A = ℕ} 0 1 = cc in omega arith

module _ {At : ℕ → Terminal → Type 0} {c : List ℕ} {g : Grammar} {size root first : ℕ} (k : Ruled At c g size root first) (r : Text) (few : size ≤ most_size)
    (short : length r ≤ record_chars) (home : ℕ → ℕ) (Fit Use Live : ℕ → ℕ → Type 0) (w : Stays k r home Fit Use Live) (rule rest : ℕ → ℕ → ℕ → ℕ)
    (least : (i j : ℕ) → i ≤ j → j ≤ length r → Least c size home Fit Use Live rule rest i j) where
  -- no derivation is lower, however high it is
  pub lower : {d : Row} {ss : List Symbol} {i j : ℕ} → Derives g r d ss i j → (p : ℕ) → Spot k r home Fit Use Live p i j ss
      → Reached k r home Fit Use Live w rule rest least p i j (height d)
  lower {d} {ss} {i} {j} dd p b = elim (dec_lt (height d) none) as (λ _. Reached k r home Fit Use Live w rule rest least p i j (height d)) [
    | yes l ↦ complete k r home Fit Use Live w rule rest least dd l p b
    | no l ↦
        (let inside = in-inside g ss (λ s m. k.within p b.inside s (subst (λ (ts : List Symbol). Memb s ts) (sym b.is) m)) in
        let u = bounded g r inside b.stop dd in
        let t = top_small k r few short in
        let x = complete k r home Fit Use Live w rule rest least u.derives (omega (arith, u.low)) p b in
        record { low = omega (arith, x.low, u.low); some = x.some })
  ]

  -- what stands after a dot inside an alternative
  pub says : (p i j : ℕ) {ss : List Symbol} → i ≤ j → Spot k r home Fit Use Live p i j ss → owner_at c p ≡ 0 → rest p i j ≤ none
      → Attained k r home Fit Use Live rule rest i j → Says g r (after_dot k.dots p) i j (rest p i j)
  says p i j l b o most a =
      let e = toward-rest c rule rest p i j o in
      let here = subst (λ (ts : List Symbol). Spot k r home Fit Use Live p i j ts) (sym b.is) b in
      elim (dec_lt (rest p i j) none) as (λ _. Says g r (after_dot k.dots p) i j (rest p i j)) [
        | yes m ↦
            (let u = a.rests p b.inside o m in
            says-height {h = rest p i j} u.row u.derives (omega (arith, u.low, (lower u.derives p here).low)) (λ d dd. omega (arith, (lower dd p here).low)) m)
        | no m ↦
            (let z : rest p i j ≡ none = omega arith in
            subst (Says g r (after_dot k.dots p) i j) (sym z) (says_none (λ d dd. omega (arith, (lower dd p here).some))))
      ]

  -- a rule that is live at j, and whose alternatives are used at i
  pub record Begun (e i j : ℕ) : Type 0 where
    pub inside : e < size
    pub stop : j ≤ length r
    pub live : Live e j
    pub from : ℕ
    pub chain : Chain c k.dots e from (alts g (head_of g k.heads e))
    pub used : (q : ℕ) → q < size → owner_at c q ≡ e + 1 → Use q i × (home q ≡ e)

  lower_by : (e i j : ℕ) → Begun e i j → (s : Symbol) {q : ℕ} → Chain c k.dots e q (alts g s) → {d : Row} → Derives g r d (s ∷ []) i j
      → (suc (rule e i j) ≤ height d) × (rule e i j < none)
  lower_by e i j b s w (d-leaf fit dd) = absurd (no-chain w refl)
  lower_by e i j b s w (d-node {c = o} {a = a} la dc d-end) =
      let f = find w a la in
      let h : f.place < size = omega (arith, f.inside, k.count) in
      let u = b.used f.place h f.owned in
      let x = lower dc f.place (record { inside = h; is = f.is; stop = b.stop; used = u.0; live = subst (λ (y : ℕ). Live y j) (sym u.1) b.live }) in
      let y = toward-rule c rule rest f.place e i j f.owned in
      (omega (arith, x.low), omega (arith, x.some))

  lower-rule : (e i j : ℕ) → Begun e i j → {d : Row} → Derives g r d (head_of g k.heads e ∷ []) i j → (suc (rule e i j) ≤ height d) × (rule e i j < none)
  lower-rule e i j b dd = lower_by e i j b (head_of g k.heads e) b.chain dd

  pub says-rule : (e i j : ℕ) → Begun e i j → rule e i j ≤ none → Attained k r home Fit Use Live rule rest i j → SaysRule g r (head_of g k.heads e) i j (rule e i j)
  says-rule e i j b most a =
      let s = head_of g k.heads e in
      elim (dec_lt (rule e i j) none) as (λ _. SaysRule g r s i j (rule e i j)) [
        | yes l ↦
            (let f = chain_first k r home Fit Use Live b.chain in
            let u = a.rules b.from e f.0 f.1 l in
            let d = node u.number j u.low.row end in
            let dd : Derives g r d (s ∷ []) i j = d-node u.exists u.low.derives d-end in
            rule-height {h = rule e i j} (record { tree = d; derives = dd; attained = omega (arith, u.low.low, (lower-rule e i j b dd).0); least = λ x dx. (lower-rule e i j b dx).0 }) l)
        | no l ↦
            (let z : rule e i j ≡ none = omega arith in
            subst (SaysRule g r s i j) (sym z) (rule-none (λ d dd. omega (arith, (lower-rule e i j b dd).1))))
      ]
