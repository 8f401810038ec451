-- From a main table that is filled whole, and from flags that are all set, to what the walk is given.
use mathlib.Core.Bool.{Bool, true, false}
use mathlib.Core.List.{List, [], ◌∷◌}
use mathlib.Core.Logic.{⊎_elim}
use mathlib.Core.Path.{◌≡◌, sym, ap, subst, ◌∙◌}
use Prim.Native.Nat.{ℕ, suc, ◌+◌, ◌*◌, ◌<◌, ◌≤◌}
use native.Mathlib.Decide.{ℕ_discrete}
use native.Mathlib.Omega.{arith}
use lib.Dec.{T}
use lib.ListN.{length, drop}
use Rattle.text.specs.Limits.{most_size, record_chars}
use Rattle.text.specs.Lists.{Text}
use Rattle.text.proofs.Tests.{look}
use Rattle.tree.specs.Tree.{Terminal, Symbol, terminal, Grammar}
use Rattle.plain.specs.Plain.{alts, fits}
use Rattle.derive.specs.Derive.{Row, end, node, Derives, d-end, d-leaf, d-node, height}
use Rattle.derive.proofs.Rows.{forward}
use Rattle.derive.proofs.Levels.{Low}
use Rattle.chart.specs.Code.{next_kind, goes_at, rule_at, owner_at, after_dot, head_of, flag, fits_at, Fitting, On, at-end, at-terminal, at_symbol, Ruled, Coded}
use Rattle.chart.specs.Heights.{none, Says, says_none, says-height, SaysRule, rule-none, rule-height, Heights}
use Rattle.chart.proofs.Says.{low-says}
use Rattle.heights.specs.Table.{cell_of, up_of}
use Rattle.heights.specs.Part.{Offers, by_end, by-terminal, by-split}
use Rattle.heights.proofs.Exact.{flag_true}
use Rattle.heights.proofs.Part.{Attained, RuleLow, Stays, offered}
use Rattle.heights.proofs.Values.{up_is, up-low}
use Rattle.reach.specs.Flags.{Reached, Fits, Wanted, home_of}
use Rattle.reach.proofs.Closed.{home-first, home-next}
use Rattle.prepare.proofs.Rows.{ruled-as}
use Rattle.left_pass.proofs.Shifts.{fits-within}
use Rattle.sparse.specs.Cells.{is_last, row_of, rule_of, rest_of, Shape}
use Rattle.sparse.specs.Steps.{Flagged, LeastOn, Empties}
use Rattle.sparse.specs.Steps as steps
use Rattle.sparse.proofs.Rows.{last-is, rest_end}
use Rattle.sparse.proofs.Falls.{RestBy, by_last, by_row, rule-by, rest-by, last-low, Target, own, rules}
use Rattle.sparse.proofs.Toward.{target-of, toward-row, toward-last}
use Rattle.sparse.proofs.Coded.{shape_of}
use Rattle.sparse.proofs.Empty.{least-all}
use Rattle.full.specs.Whole.{Marked}
use Rattle.full.proofs.Marks.{flag-other, flag-fits, flag-misfits}

-- what the plain engine is given
unfoldable pub coded : {c f : List ℕ} {g : Grammar} {r : Text} {size top first : ℕ} → Ruled (Fitting f r) c g size top first → size ≤ most_size
    → 4 * size ≤ length c → length r ≤ record_chars → size * (record_chars + 1) ≤ length f → Coded c f g r size top first
coded w small room short fits-room = record {
  dots = w.dots;
  heads = w.heads;
  count = w.count;
  small = small;
  room = room;
  short = short;
  fits-room = fits-room;
  stands = w.stands;
  owned = w.owned;
  chains = w.chains;
  root-chain = w.root-chain;
  root-head = w.root-head;
  root-inside = w.root-inside;
}

true-flag : (b : Bool) → flag b ≡ 1 → T b
true-flag true h = tt
true-flag false h = absurd (omega arith)

-- a rule's least height is that of a row of one of its alternatives
node-low : {g : Grammar} {r : Text} {d : Row} {s : Symbol} {i j h : ℕ} → Derives g r d (s ∷ []) i j → height d ≡ suc h → RuleLow g r h s i j
node-low (d-leaf f d-end) e = absurd (omega arith)
node-low (d-node {c = b} {a = a} x d d-end) e = record { number = a; exists = x; low = record { row = b; derives = d; low = omega arith } }

rule-low : {g : Grammar} {r : Text} {s : Symbol} {i j h : ℕ} → SaysRule g r s i j h → h < none → RuleLow g r h s i j
rule-low (rule-none f) l = absurd (omega arith)
rule-low (rule-height w m) l = node-low w.derives w.attained

-- no row of an alternative is lower
low-rule : {g : Grammar} {r : Text} {s : Symbol} {i j h v : ℕ} → SaysRule g r s i j h → RuleLow g r v s i j → h ≤ v
low-rule {j = j} (rule-none f) w = absurd (f (node w.number j w.low.row end) (d-node w.exists w.low.derives d-end))
low-rule {j = j} (rule-height u m) w =
    omega (arith, u.least (node w.number j w.low.row end) (d-node w.exists w.low.derives d-end), w.low.low)

dot-low : {g : Grammar} {r : Text} {ss : List Symbol} {i j h : ℕ} → Says g r ss i j h → h < none → Low g r h ss i j
dot-low (says_none f) l = absurd (omega arith)
dot-low (says-height t d e m k) l = record { row = t; derives = d; low = omega arith }

module _ {c f M : List ℕ} {g : Grammar} {r : Text} {size top first : ℕ} (k : Ruled (Fitting f r) c g size top first)
    (m : Marked c f size (length r + 1) M) (small : size ≤ most_size) (room : 4 * size ≤ length c) where
  abbrev n : ℕ
  n = length r

  pub shape : Shape c size
  shape = shape_of k small room

  -- all is flagged
  pub reached : (p i : ℕ) → p < size → i ≤ n → Reached M p i
  reached p i h l = elim (ℕ_discrete (next_kind c p) 1) as (λ _. Reached M p i) [
    | no z ↦ omega (arith, m.dots p i h (omega arith), flag-other c f p i z)
    | yes z ↦ (elim (ℕ_discrete (fits_at f p i) 1) as (λ _. Reached M p i) [
      | no e ↦ omega (arith, m.dots p i h (omega arith), flag-misfits c f p i z e)
      | yes e ↦ omega (arith, m.dots p i h (omega arith), flag-fits c f p i z e)
    ])
  ]

  pub wanted : (e j : ℕ) → e < size → j ≤ n → Wanted M e j
  wanted e j h l = omega (arith, m.ends e j h (omega arith))

  -- and a terminal where it fits
  pub flagged : (p : ℕ) (x : Terminal) → p < size → next_kind c p ≡ 1 → Fitting f r p x → Flagged M r p x
  flagged p x h z a i l = (
    λ b. elim (ℕ_discrete (fits_at f p i) 1) as (λ _. T (fits x (drop i r))) [
      | no e ↦ absurd (omega (arith, m.dots p i h (omega arith), flag-misfits c f p i z e))
      | yes e ↦ true-flag (fits x (drop i r)) (sym (a i l) ∙ e)
    ],
    λ _ t. omega (arith, m.dots p i h (omega arith), flag-fits c f p i z (a i l ∙ flag_true (fits x (drop i r)) t)),
  )

  unfoldable pub whole_code : Ruled (Flagged M r) c g size top first
  whole_code = ruled-as flagged k

  -- a dot before something
  inside : {s : Symbol} {ss : List Symbol} {p : ℕ} → On (Fitting f r) c g k.dots k.heads p → after_dot k.dots p ≡ s ∷ ss → p + 1 < size
  inside (at-end z e) b = let q : ◌≡◌ {A = ℕ} 0 1 = cc in absurd (omega arith)
  inside (at-terminal x z l e w a) b = omega (arith, k.count)
  inside (at_symbol s z l e x q d) b = omega (arith, k.count)

  -- a dot before a symbol with alternatives
  named : {s : Symbol} {ss : List Symbol} {p a : ℕ} → On (Fitting f r) c g k.dots k.heads p → after_dot k.dots p ≡ s ∷ ss → a < length (alts g s) → rule_at c p < size
  named (at-end z e) b l = let q : ◌≡◌ {A = ℕ} 0 1 = cc in absurd (omega arith)
  named {s} {a = a} (at-terminal x z _ e w _) b l =
      let q : s ≡ terminal x = cc in
      let l' : a < 0 = subst (λ (o : Symbol). a < length (alts g o)) q l in
      absurd (omega arith)
  named (at_symbol s z l e x q d) b _ = omega (arith, k.count)

  pub whole-stays : Stays whole_code r (home_of c) (Fits M) (Reached M) (Wanted M)
  unfolding whole_code ruled-as
  whole-stays = record {
    next-home = λ p h z. home-next c p (k.inner p (shape.nexts p h z) z);
    shifts = λ p i x h l z u a t. let b = (a i l).1 u t in (b, after p i h l z b (k.stands p h));
    enters = λ p q i hp hq l z u o. (reached q i hq l, home-first c q (rule_at c p) o);
    passes = λ p i b h e l d w u. reached (p + 1) b (inside (k.stands p h) e) w;
    wants = λ p i b j h e l d d' w u v. wanted (rule_at c p) b (named (k.stands p h) e l) (omega (arith, forward g r d'));
  }
    where
      after : (p i : ℕ) → p < size → i ≤ n → next_kind c p ≡ 1 → Fits M p i → On (Fitting f r) c g k.dots k.heads p → Reached M (p + 1) (i + goes_at c p)
      after p i h l z b (at-end q e) = absurd (omega arith)
      after p i h l z b (at_symbol s q _ _ _ _ _) = absurd (omega arith)
      after p i h l z b (at-terminal y q d e w a) =
          reached (p + 1) (i + goes_at c p) (omega (arith, k.count)) (omega (arith, fits-within y r i l ((flagged p y h z a i l).0 b)))

  module _ (short : length r ≤ record_chars) (fits-room : size * (record_chars + 1) ≤ length f) (F H : List ℕ)
      (e : Heights c f g r size top first (coded k small room short fits-room) H) (empties : Empties c F size) where
    abbrev At : ℕ → ℕ → Type 0
    At i j = Attained whole_code r (home_of c) (Fits M) (Reached M) (Wanted M) (rule_of c M F n H) (rest_of c M F n H) i j

    -- heights are those of derivations
    rule-at : (q b i j : ℕ) → q < size → owner_at c q ≡ b + 1 → i < j → j ≤ n → rule_of c M F n H b i j < none → RuleLow g r (rule_of c M F n H b i j) (head_of g k.heads b) i j
    unfolding coded
    rule-at q b i j h o l w v =
        let s = (rule-by c M F n H b i j (λ z. omega arith) v).1 in
        subst (λ (z : ℕ). RuleLow g r z (head_of g k.heads b) i j) (sym s) (rule-low (e.rule q b i j h o (omega arith) w) (omega arith))

    rest_at : (p i j : ℕ) → p < size → i < j → j ≤ n → rest_of c M F n H p i j < none → RestBy c M F n H p i j → Low g r (rest_of c M F n H p i j) (after_dot k.dots p) i j
    unfolding coded
    rest_at p i j h l w v (by_last a b s) =
        let x = rule_of c M F n H (rule_at c p) i j in
        let lx = up-low x (omega arith) in
        let u : rest_of c M F n H p i j ≡ x + 1 = s ∙ up_is x lx in
        let first = shape.names p h a in
        subst (λ (z : ℕ). Low g r z (after_dot k.dots p) i j) (sym u)
        (last-low k r p x i j h (shape.nexts p h (λ z. omega arith)) a b (rule-at (goes_at c p) (rule_at c p) i j first.1 first.2 l w lx))
    rest_at p i j h l w v (by_row a _ _ _ s) =
        subst (λ (z : ℕ). Low g r z (after_dot k.dots p) i j) (sym s) (dot-low (e.dot p i j h a (omega arith) w) (omega arith))

    pub whole-attained : (i j : ℕ) → i ≤ j → j ≤ n → At i j
    unfolding whole_code ruled-as
    whole-attained i j l w = elim (ℕ_discrete i j) as (λ _. At i j) [
      | yes d ↦ subst (At i) d (empties.sound M H n g r top first whole_code i (omega arith))
      | no d ↦ record {
        rules = λ q b h o v. rule-at q b i j h o (omega arith) w v;
        rests = λ p h o v. rest_at p i j h (omega arith) w v (rest-by c M F n H p i j d v);
      }
    ]

    -- no row is lower
    anyhow : (i j : ℕ) → j ≤ n → (a b : ℕ) → i ≤ a → a ≤ b → b ≤ j → Attained whole_code r (home_of c) (Fits M) (Reached M) (Wanted M) (rule_of c M F n H) (rest_of c M F n H) a b
    anyhow i j w a b x y z = whole-attained a b y (omega arith)

    cell-low : (p y i j v : ℕ) → p < size → (next_kind c p ≡ 0 → ⊥) → i ≤ j → j ≤ n → Low g r v (after_dot k.dots p) i j → Target c p y → cell_of n H y i j ≤ v
    unfolding coded
    cell-low p y i j v h z l w d (own o) = omega (arith, low-says g r (e.dot p i j h z l w) d.derives, d.low)
    cell-low p y i j v h z l w d (rules o) =
        let a = k.owned p y h o in
        low-rule (e.rule p y i j h o l w) (record { number = a.number; exists = a.exists; low = subst (λ (ss : List Symbol). Low g r v ss i j) a.is d })

    -- a dot before a last symbol is offered only what ends with it
    last-low-offer : (p i j v : ℕ) → is_last c p ≡ true → v < none → Offers c size (home_of c) (Fits M) (Reached M) (Wanted M) (rule_of c M F n H) (rest_of c M F n H) p i j v → i < j
        → up_of (rule_of c M F n H (rule_at c p) i j) ≤ v
    last-low-offer p i j v b u (by_end z q _) l = absurd (omega arith)
    last-low-offer p i j v b u (by-terminal z _ _ _) l = let s = (last-is c p b).symbol in absurd (omega arith)
    last-low-offer p i j v b u (by-split a z _ _ _ q) l = elim (ℕ_discrete a j) as (λ _. up_of (rule_of c M F n H (rule_at c p) i j) ≤ v) [
      | yes d ↦ (let s : up_of (rule_of c M F n H (rule_at c p) i a) ≡ up_of (rule_of c M F n H (rule_at c p) i j) = ap (λ (x : ℕ). up_of (rule_of c M F n H (rule_at c p) i x)) d in
          omega arith)
      | no d ↦ absurd (omega (arith, rest_end c M F n H (p + 1) a j d (last-is c p b).stop))
    ]

    kind-of : {p i j v : ℕ} → Offers c size (home_of c) (Fits M) (Reached M) (Wanted M) (rule_of c M F n H) (rest_of c M F n H) p i j v → i < j → next_kind c p ≡ 0 → ⊥
    kind-of (by_end z q _) l y = omega arith
    kind-of (by-terminal z _ _ _) l y = omega arith
    kind-of (by-split a z _ _ _ q) l y = omega arith

    wide-least : (i j : ℕ) → i < j → j ≤ n → LeastOn c M F size n H i j
    unfolding whole_code ruled-as
    wide-least i j l w p v h u d o x =
        let on : steps.On c M size p i j = record { inside = h; used = u; live = d } in
        let z = kind-of o l in
        ⊎_elim
        (λ b. omega (arith, toward-last c M F size n H p i j on l z b, last-low-offer p i j v b x o l))
        (λ b. let low = offered whole_code r (home_of c) (Fits M) (Reached M) (Wanted M) (rule_of c M F n H) (rest_of c M F n H)
        (λ q a y _ s _ t c. (c a s).0 t) i j w (anyhow i j w) p v h o x in
        omega (arith, toward-row c M F size n H p i j on l z b, cell-low p (row_of c p) i j v h z (omega arith) w low (target-of c p)))
        (look (is_last c p))

    pub whole-least : (i j : ℕ) → i ≤ j → j ≤ n → LeastOn c M F size n H i j
    whole-least = least-all empties M n H wide-least

  pub whole-live : Wanted M top n
  whole-live = wanted top n k.root-inside (omega arith)

  pub whole-used : (q : ℕ) → q < size → Reached M q 0
  whole-used q h = reached q 0 h (omega arith)
