-- What an item's kind tells of its symbol, and what a token's numbers are.
use mathlib.Core.Path.{◌≡◌, refl, sym, ap, ◌∙◌}
use mathlib.Core.Logic.{⊎_elim}
use mathlib.Core.List.{List, [], ◌∷◌, ◌++◌}
use Prim.Native.Nat.{ℕ, suc, ◌+◌, ◌*◌, ◌<◌, ◌≤◌}
use native.Mathlib.Omega.{arith}
use lib.Dec.{T as Holds}
use lib.ListN.{length, get_or, take, drop, length-drop, length-take, get_or-eq_default}
use lib.Seq.{get_or-take, get_or-drop}
use Rattle.text.specs.Lists.{Text}
use Rattle.text.proofs.Tests.{split}
use Rattle.tree.specs.Tree.{Mark, unmarked, included, attribute, deleted, Terminal, literal, inclusion, exclusion, insertion, string, hex, Symbol, terminal, nonterminal, Grammar, rules}
use Rattle.tree.specs.Tokens.{terminal_tokens, encode, mark_number, counted, capped}
use Rattle.plain.specs.Plain.{alts, fits, width, rule_mark, over}
use Rattle.derive.specs.Derive.{Row, end, leaf, node, alternative, Derives, d-end, d-leaf, d-node}
use Rattle.tokens.specs.Lengths.{width_at}
use Rattle.left_parse.proofs.Widths.{reads-width}
use Rattle.tokens.specs.Names.{Holding}
use Rattle.tokens.proofs.Names.{held_whole}
use Rattle.left_parse.specs.Steps.{Wide, Named}
use Rattle.items.specs.Items.{kind_at, target_at, token_at, mark_kind, Reads, Starts, Among, Stands, st-terminal, st-name, st-made, Spells, sp_end, sp-item, Alternatives, al-last, al-more}

-- a number that is not 0 stands in the table
pub in_table : (T : List ℕ) (p : ℕ) → (kind_at T p ≡ 0 → ⊥) → p < length T
in_table T p h = ⊎_elim (λ l. omega arith) (λ l. absurd (h (get_or-eq_default T 0 {n = 12288 + 3 * p} l))) (split (12288 + 3 * p) (length T))

-- what stands at a place of the tokens
pub tokens-in : (T : List ℕ) (at c : ℕ) (cs : List ℕ) → drop at (take 12288 T) ≡ c ∷ cs → (at < length T) × (get_or T at 0 ≡ c) × (drop (at + 1) (take 12288 T) ≡ cs)
tokens-in T at c cs e =
    let l : length (drop at (take 12288 T)) ≡ suc (length cs) = ap length e in
    let n = length-drop at (take 12288 T) in
    let k = length-take 12288 T in
    let z : at + 0 ≡ at = omega arith in
    let b : at < 12288 = omega arith in (
      omega arith,
      sym (get_or-take 12288 T at 0 b) ∙ sym (ap (λ (x : ℕ). get_or (take 12288 T) x 0) z) ∙ sym (get_or-drop at (take 12288 T) 0 0) ∙ ap (λ (xs : List ℕ). get_or xs 0 0) e,
      sym (lib.Seq.drop-drop 1 at (take 12288 T)) ∙ ap (drop 1) e,
    )

mark-kind : (m : Mark) → (2 ≤ mark_kind m) × (mark_kind m ≤ 4)
mark-kind unmarked = omega arith
mark-kind included = omega arith
mark-kind attribute = omega arith
mark-kind deleted = omega arith

module _ {T : List ℕ} {g : Grammar} {starts : Starts} where
  pub stands-kind : {p : ℕ} {s : Symbol} → Stands T g starts p s → (1 ≤ kind_at T p) × (kind_at T p ≤ 4)
  stands-kind (st-terminal k r i) = omega arith
  stands-kind (st-name {m = m} {n = n} k r a) = let b = mark-kind (over m (rule_mark (rules g) n)) in omega arith
  stands-kind (st-made q k r a) = omega arith

  pub node-kind : {p a : ℕ} {s : Symbol} → Stands T g starts p s → a < length (alts g s) → 2 ≤ kind_at T p
  node-kind (st-terminal k r i) l = absurd (omega arith)
  node-kind (st-name {m = m} {n = n} k r a) l = let b = mark-kind (over m (rule_mark (rules g) n)) in omega arith
  node-kind (st-made q k r a) l = omega arith

  pub leaf-stands : {p : ℕ} {x : Terminal} → Stands T g starts p (terminal x) → (kind_at T p ≡ 1) × Reads T (token_at T p) (terminal_tokens x)
  leaf-stands (st-terminal k r i) = (k, r)
  leaf-stands (st-made q k r a) = absurd (let z : ◌≡◌ {A = ℕ} 0 1 = cc in omega arith)

  pub alternatives-of : {p a : ℕ} {s : Symbol} → ((x : ℕ) (u : Symbol) → Among x u starts → Alternatives T g starts x (alts g u))
      → Stands T g starts p s → a < length (alts g s) → Alternatives T g starts (target_at T p) (alts g s)
  alternatives-of rule (st-terminal k r i) l = absurd (omega arith)
  alternatives-of rule (st-name {p = p} {n = n} k r a) l = rule (target_at T p) (nonterminal unmarked n) a
  alternatives-of rule (st-made {p = p} {s = s} q k r a) l = rule (target_at T p) s a

  pub first-stands : {p : ℕ} {s : Symbol} {ss : List Symbol} → Spells T g starts p (s ∷ ss) → Stands T g starts p s
  first-stands (sp-item st sp) = st

  pub next-spells : {p : ℕ} {s : Symbol} {ss : List Symbol} → Spells T g starts p (s ∷ ss) → Spells T g starts (p + 1) ss
  next-spells (sp-item st sp) = sp

  -- some item is there
  pub spells-kind : {p : ℕ} {ss : List Symbol} → Spells T g starts p ss → kind_at T p ≡ 0 → ⊥
  spells-kind (sp_end k) z = ⊎_elim (λ e. omega arith) (λ e. omega arith) k
  spells-kind (sp-item st sp) z = let k = stands-kind st in omega arith

-- a row, as the item before it says
pub data View (T : List ℕ) (r : Text) (g : Grammar) (starts : Starts) (p i j : ℕ) : Row → List Symbol → Type 0 where
  v-end : i ≡ j → 5 ≤ kind_at T p → View T r g starts p i j end []
  v-leaf : {x : Terminal} {ss : List Symbol} {m : ℕ} {t : Row} → kind_at T p ≡ 1 → m ≡ i + width x → Reads T (token_at T p) (terminal_tokens x)
      → Holds (fits x (drop i r)) → Derives g r t ss m j
      → View T r g starts p i j (leaf m t) (terminal x ∷ ss)
  v-node : {s : Symbol} {ss : List Symbol} {a m : ℕ} {c t : Row} → 2 ≤ kind_at T p → kind_at T p ≤ 4 → Stands T g starts p s
      → a < length (alts g s) → Derives g r c (alternative g s a) i m → Derives g r t ss m j
      → View T r g starts p i j (node a m c t) (s ∷ ss)

pub view : {T : List ℕ} {r : Text} {g : Grammar} {starts : Starts} {p i j : ℕ} {row : Row} {ss : List Symbol} → Spells T g starts p ss
    → Derives g r row ss i j → View T r g starts p i j row ss
view {T} {g = g} {starts = starts} (sp_end {p = p} k) d-end = v-end refl (⊎_elim (λ e. omega arith) (λ e. omega arith) k)
view (sp-item st sp) (d-leaf f d) = let k = leaf-stands st in v-leaf k.0 refl k.1 f d
view (sp-item st sp) (d-node l c d) = v-node (node-kind st l) (stands-kind st).1 st l c d

-- an alternative is passed
pub record Ahead (T : List ℕ) (g : Grammar) (starts : Starts) (p₀ : ℕ) (ss : List Symbol) (p : ℕ) : Type 0 where
  pub left : List Symbol
  pub spells : Spells T g starts p left
  pub sum : p + length left ≡ p₀ + length ss

module _ {T : List ℕ} {g : Grammar} {starts : Starts} where
  pub ahead-on : {p₀ p : ℕ} {ss : List Symbol} → Ahead T g starts p₀ ss p → kind_at T p ≤ 4 → Ahead T g starts p₀ ss (p + 1)
  ahead-on {p₀} {p} {ss} A k = go A.spells A.sum
    where
      go : {left : List Symbol} → Spells T g starts p left → p + length left ≡ p₀ + length ss → Ahead T g starts p₀ ss (p + 1)
      go (sp_end e) q = absurd (⊎_elim (λ e. omega arith) (λ e. omega arith) e)
      go (sp-item {ss = ts} st sp) q = record { left = ts; spells = sp; sum = omega arith }

  pub ahead-end : {p₀ p : ℕ} {ss : List Symbol} → Ahead T g starts p₀ ss p → 5 ≤ kind_at T p → p ≡ p₀ + length ss
  ahead-end {p₀} {p} {ss} A k = go A.spells A.sum
    where
      go : {left : List Symbol} → Spells T g starts p left → p + length left ≡ p₀ + length ss → p ≡ p₀ + length ss
      go (sp_end e) q = omega arith
      go (sp-item st sp) q = absurd (let b = stands-kind st in omega arith)

  pub ahead-kind : {p₀ p : ℕ} {ss : List Symbol} → Ahead T g starts p₀ ss p → 1 ≤ kind_at T p
  ahead-kind {p = p} A = positive (kind_at T p) (spells-kind A.spells)
    where
      positive : (n : ℕ) → (n ≡ 0 → ⊥) → 1 ≤ n
      positive n h = omega arith

-- alternatives are passed
pub record Rest (T : List ℕ) (g : Grammar) (starts : Starts) (x a : ℕ) (ss : List Symbol) : Type 0 where
  pub left : List (List Symbol)
  pub stands : Alternatives T g starts x left
  pub number : a < length left
  pub same : get_or left a [] ≡ ss

module _ {T : List ℕ} {g : Grammar} {starts : Starts} where
  pub rest-on : {x a b : ℕ} {ss : List Symbol} → Rest T g starts x a ss → suc b ≡ a → (e : ℕ)
      → ((ts : List Symbol) → Spells T g starts x ts → e ≡ x + length ts) → (kind_at T e ≡ 5) × Rest T g starts (e + 1) b ss
  rest-on {x} {a} {b} {ss} R h e f = go R.stands R.number R.same
    where
      go : {left : List (List Symbol)} → Alternatives T g starts x left → a < length left → get_or left a [] ≡ ss → (kind_at T e ≡ 5) × Rest T g starts (e + 1) b ss
      go (al-last sp k) n q = absurd (omega arith)
      go (al-more {ss = us} {ts = ts} sp k al) n q =
          let p = f us sp in
          let z : x + (length us + 1) ≡ e + 1 = omega arith in
          (rw p k, record { left = ts; stands = rw z at al; number = omega arith; same = rw (← h) at q })

  pub rest_end : {x : ℕ} {ss : List Symbol} → Rest T g starts x 0 ss → Spells T g starts x ss
  rest_end {x} {ss} R = go R.stands R.same
    where
      go : {left : List (List Symbol)} → Alternatives T g starts x left → get_or left 0 [] ≡ ss → Spells T g starts x ss
      go (al-last sp k) q = rw q at sp
      go (al-more sp k al) q = rw q at sp

-- alternatives are counted
pub record Counting (T : List ℕ) (g : Grammar) (starts : Starts) (number x a total : ℕ) : Type 0 where
  pub left : List (List Symbol)
  pub stands : Alternatives T g starts x left
  pub sum : a + total ≡ number + length left

module _ {T : List ℕ} {g : Grammar} {starts : Starts} where
  pub counting-on : {number x a b total : ℕ} → Counting T g starts number x a total → suc b ≡ a → (e : ℕ)
      → ((ts : List Symbol) → Spells T g starts x ts → e ≡ x + length ts)
      → (kind_at T e ≡ 5 → Counting T g starts number (e + 1) b total) × ((kind_at T e ≡ 5 → ⊥) → total ≤ number)
  counting-on {number} {x} {a} {b} {total} C h e f = go C.stands C.sum
    where
      go : {left : List (List Symbol)} → Alternatives T g starts x left → a + total ≡ number + length left
          → (kind_at T e ≡ 5 → Counting T g starts number (e + 1) b total) × ((kind_at T e ≡ 5 → ⊥) → total ≤ number)
      go (al-last {ss = us} sp k) q = let p = f us sp in let k' : kind_at T e ≡ 6 = rw p k in (λ z. absurd (omega arith), λ z. omega arith)
      go (al-more {ss = us} {ts = ts} sp k al) q =
          let p = f us sp in
          let z : x + (length us + 1) ≡ e + 1 = omega arith in
          let k' : kind_at T e ≡ 5 = rw p k in
          (λ y. record { left = ts; stands = rw z at al; sum = omega arith }, λ y. absurd (y k'))

  pub counting-end : {number x total : ℕ} → Counting T g starts number x 0 total → number < total
  counting-end {number} {x} {total} C = go C.stands C.sum
    where
      go : {left : List (List Symbol)} → Alternatives T g starts x left → 0 + total ≡ number + length left → number < total
      go (al-last sp k) q = omega arith
      go (al-more sp k al) q = omega arith

-- the width of a terminal, by its token
pub mark-number : (m : Mark) → mark_number m ≤ 3
mark-number unmarked = omega arith
mark-number included = omega arith
mark-number attribute = omega arith
mark-number deleted = omega arith

-- a terminal's token: its first number, and what follows that
unfoldable pub first-number : Terminal → ℕ
first-number (literal m (string cs)) = 4 + mark_number m
first-number (literal m (hex n)) = 8 + mark_number m
first-number (inclusion m ms) = 12 + mark_number m
first-number (exclusion m ms) = 16 + mark_number m
first-number (insertion (string cs)) = 29
first-number (insertion (hex n)) = 30

pub reads_first : (T : List ℕ) (at : ℕ) (x : Terminal) → Reads T at (terminal_tokens x) → get_or T at 0 ≡ first-number x
unfolding first-number
reads_first T at (literal m (string cs)) R = (tokens-in T at (4 + mark_number m) ((counted cs ++ []) ++ R.more) R.stands).1
reads_first T at (literal m (hex n)) R = (tokens-in T at (8 + mark_number m) (capped n ∷ R.more) R.stands).1
reads_first T at (inclusion m ms) R = (tokens-in T at (12 + mark_number m) (encode (Rattle.tree.specs.Tokens.member_tokens ms) ++ R.more) R.stands).1
reads_first T at (exclusion m ms) R = (tokens-in T at (16 + mark_number m) (encode (Rattle.tree.specs.Tokens.member_tokens ms) ++ R.more) R.stands).1
reads_first T at (insertion (string cs)) R = (tokens-in T at 29 ((counted cs ++ []) ++ R.more) R.stands).1
reads_first T at (insertion (hex n)) R = (tokens-in T at 30 (capped n ∷ R.more) R.stands).1

-- a width that a token tells is the terminal's
pub wide_of : {T : List ℕ} {token r : ℕ} (k : ℕ) → r ≡ width_at T k → k ≡ token → r < 4294967296 → Wide T token r
wide_of {T} k e q l = record { is = λ x R. e ∙ ap (width_at T) q ∙ reads-width x R; fits = l }

-- a token that holds a name
pub named-holding : {T : List ℕ} {token k : ℕ} {n : Text} → Named T token k n → Holding T token n
named-holding {T} {token} {k} {n} N = held_whole T 12288 (record { more = N.more; stands = (tokens-in T token k (counted n ++ N.more) N.stands).2 })
