-- The items of a block: what is after each dot, where alternatives begin, and the chain of a rule's alternatives.
use mathlib.Core.List.Memᴰ.{tail as in_Tail}
use mathlib.Core.List.{List, [], ◌∷◌, ◌++◌, Memᴰ as In}
use mathlib.Core.Logic.{◌⊎◌, inl, inr, ⊎_elim}
use mathlib.Core.Path.{◌≡◌, refl, sym, ap, ◌∙◌, subst}
use Prim.Native.Nat.{ℕ, zero, suc, ◌+◌, ◌-◌, ◌<◌, ◌≤◌}
use native.Mathlib.Nat.{not-suc-le-zero}
use native.Mathlib.Decide.{ℕ_discrete}
use native.Mathlib.Omega.{arith}
use lib.ListN.{length, get_or, take, length-append}
use lib.Seq.{get_or-append-add}
use Rattle.text.proofs.Tests.{split}
use Rattle.tree.specs.Tree.{Mark, unmarked, included, attribute, deleted, Symbol, Grammar, rules}
use Rattle.plain.specs.Plain.{alts, weight, rule_mark, over}
use Rattle.items.specs.Items.{kind_at, Starts, Among, Stands, st-terminal, st-name, st-made, Spells, sp_end, sp-item, Alternatives, al-last, al-more, mark_kind}
use Rattle.chart.specs.Code.{after_dot, Chain, ch-last, ch-next, owner_at, goes_at}
use Rattle.layout.specs.Layout.{tails, dots_in, dot_count, starts_from}
use Rattle.layout.proofs.Sums.{tails-count}

tails-head : (ss : List Symbol) (more : List (List Symbol)) → get_or (tails ss ++ more) 0 [] ≡ ss
tails-head [] more = refl
tails-head (s ∷ ss) more = refl

-- what holds of all symbols of some alternatives holds of those after any dot in them
tails-in : (P : Symbol → Type 0) (ss : List Symbol) (more : List (List Symbol)) → ((s : Symbol) → In s ss → P s) → ((k : ℕ) (s : Symbol) → In s (get_or more k []) → P s)
    → (k : ℕ) (s : Symbol) → In s (get_or (tails ss ++ more) k []) → P s
tails-in P [] more h f zero s m = elim m [ ]
tails-in P [] more h f (suc k) s m = f k s m
tails-in P (x ∷ ss) more h f zero s m = h s m
tails-in P (x ∷ ss) more h f (suc k) s m = tails-in P ss more (λ y i. h y (in_Tail i)) f k s m

pub dots-in : (P : Symbol → Type 0) (ts : List (List Symbol)) → ((a : ℕ) (s : Symbol) → In s (get_or ts a []) → P s) → (k : ℕ) (s : Symbol) → In s (get_or (dots_in ts) k []) → P s
dots-in P [] h k s m = elim m [ ]
dots-in P (ss ∷ ts) h k s m = tails-in P ss (dots_in ts) (λ y i. h 0 y i) (dots-in P ts (λ a y i. h (suc a) y i)) k s m

pub mark-kind : (m : Mark) → (2 ≤ mark_kind m) × (mark_kind m ≤ 4)
mark-kind unmarked = omega arith
mark-kind included = omega arith
mark-kind attribute = omega arith
mark-kind deleted = omega arith

-- what stands at the item p, with the k-th of the lists after it
pub data Place (T : List ℕ) (g : Grammar) (S : Starts) (L : List (List Symbol)) (p k : ℕ) : Type 0 where
  pl-end : get_or L k [] ≡ [] → 4 < kind_at T p → Place T g S L p k
  pl-item : (s : Symbol) → get_or L k [] ≡ s ∷ get_or L (suc k) [] → Stands T g S p s → suc k < length L → Place T g S L p k

-- where an alternative begins in a block, it is one of the rule's
pub record Numbered (ts : List (List Symbol)) (k : ℕ) : Type 0 where
  pub number : ℕ
  pub exists : number < length ts
  pub is : get_or (dots_in ts) k [] ≡ get_or ts number []

ends_above : (T : List ℕ) (p : ℕ) → (kind_at T p ≡ 5) ⊎ (kind_at T p ≡ 6) → 4 < kind_at T p
ends_above T p o = ⊎_elim (λ e. omega arith) (λ e. omega arith) o

numbered-first : (ss : List Symbol) (ts : List (List Symbol)) (k : ℕ) → k ≡ 0 → Numbered (ss ∷ ts) k
numbered-first ss ts k e = record { number = 0; exists = omega arith; is = ap (λ (n : ℕ). get_or (dots_in (ss ∷ ts)) n []) e ∙ tails-head ss (dots_in ts) }

numbered_next : (ss : List Symbol) (ts : List (List Symbol)) (k j : ℕ) → k ≡ length (tails ss) + j → Numbered ts j → Numbered (ss ∷ ts) k
numbered_next ss ts k j e w = record {
  number = suc w.number;
  exists = omega (arith, w.exists);
  is = ap (λ (n : ℕ). get_or (dots_in (ss ∷ ts)) n []) e ∙ get_or-append-add (tails ss) (dots_in ts) j [] ∙ w.is;
}

begins-on : (T : List ℕ) (x y k j : ℕ) → x + k ≡ y + j → (j ≡ 0 → ⊥) → 4 < kind_at T (x + (k - 1)) → 0 < k → 4 < kind_at T (y + (j - 1))
begins-on T x y k j e d l h = subst (λ (n : ℕ). 4 < kind_at T n) (let q : x + (k - 1) ≡ y + (j - 1) = omega arith in q) l

module _ {T : List ℕ} {g : Grammar} {S : Starts} where
  pub stands-kind : {p : ℕ} {s : Symbol} → Stands T g S p s → kind_at T p < 5
  stands-kind (st-terminal k r i) = omega arith
  stands-kind (st-name {m = m} {n = n} k r a) = omega (arith, mark-kind (over m (rule_mark (rules g) n)))
  stands-kind (st-made e k r a) = omega arith

  place-on : {L : List (List Symbol)} {p q k : ℕ} → p ≡ q → Place T g S L p k → Place T g S L q k
  place-on {L} {k = k} e w = subst (λ (n : ℕ). Place T g S L n k) e w

  place-cons : {L : List (List Symbol)} {p k : ℕ} (l : List Symbol) → Place T g S L p k → Place T g S (l ∷ L) p (suc k)
  place-cons l (pl-end e h) = pl-end e h
  place-cons l (pl-item s e w h) = pl-item s e w (omega arith)

  spells-place : {x : ℕ} {ss : List Symbol} → Spells T g S x ss → (more : List (List Symbol)) (k : ℕ) → k ≤ length ss → Place T g S (tails ss ++ more) (x + k) k
  spells-place {x} (sp_end o) more zero h = place-on (omega arith) (pl-end refl (ends_above T x o))
  spells-place {x} (sp_end o) more (suc k) h = absurd (not-suc-le-zero h)
  spells-place {x} (sp-item {s = s} {ss = ss} a w) more zero h = place-on (omega arith)
      (pl-item s (ap (◌∷◌ s) (sym (tails-head ss more))) a (omega (arith, length-append (tails ss) more, tails-count ss)))
  spells-place {x} (sp-item {s = s} {ss = ss} a w) more (suc k) h = place-on (omega arith) (place-cons (s ∷ ss) (spells-place w more k (omega arith)))

  place_after : (K L : List (List Symbol)) {p k : ℕ} → Place T g S L p k → Place T g S (K ++ L) p (length K + k)
  place_after [] L {p} {k} w = subst (λ (n : ℕ). Place T g S L p n) (let e : k ≡ 0 + k = omega arith in e) w
  place_after (l ∷ K) L {p} {k} w = subst (λ (n : ℕ). Place T g S (l ∷ (K ++ L)) p n) (let e : suc (length K + k) ≡ suc (length K) + k = omega arith in e) (place-cons l (place_after K L w))

  pub alts-place : {x : ℕ} {ts : List (List Symbol)} → Alternatives T g S x ts → (k : ℕ) → k < length (dots_in ts) → Place T g S (dots_in ts) (x + k) k
  alts-place (al-last {ss = ss} w e) k h = spells-place w [] k (omega (arith, length-append (tails ss) [], tails-count ss))
  alts-place {x} (al-more {ss = ss} {ts = ts} w e a) k h = ⊎_elim
      (λ l. spells-place w (dots_in ts) k (omega (arith, tails-count ss)))
      (λ l. subst (λ (n : ℕ). Place T g S (tails ss ++ dots_in ts) (x + n) n) (let q : length (tails ss) + (k - length (tails ss)) ≡ k = omega arith in q)
      (place_after (tails ss) (dots_in ts) (place-on (omega (arith, tails-count ss)) (alts-place a (k - length (tails ss)) (omega (arith, length-append (tails ss) (dots_in ts)))))))
      (split k (length (tails ss)))

  -- only the last item of a block is of kind 6
  spells-inner : {x : ℕ} {ss : List Symbol} → Spells T g S x ss → (k : ℕ) → k < length ss → kind_at T (x + k) < 5
  spells-inner (sp_end o) k h = absurd (not-suc-le-zero h)
  spells-inner {x} (sp-item a w) zero h = subst (λ (n : ℕ). kind_at T n < 5) (let e : x ≡ x + 0 = omega arith in e) (stands-kind a)
  spells-inner {x} (sp-item a w) (suc k) h = subst (λ (n : ℕ). kind_at T n < 5) (let e : x + 1 + k ≡ x + suc k = omega arith in e) (spells-inner w k (omega arith))

  -- an item before the last of a block is a symbol or ends an alternative that another follows
  pub alts-before : {x : ℕ} {ts : List (List Symbol)} → Alternatives T g S x ts → (k : ℕ) → suc k < weight ts → (kind_at T (x + k) < 5) ⊎ (kind_at T (x + k) ≡ 5)
  alts-before (al-last {ss = ss} w e) k h = inl (spells-inner w k (omega arith))
  alts-before {x} (al-more {ss = ss} {ts = ts} w e a) k h = ⊎_elim
      (λ l. inl (spells-inner w k l))
      (λ l. ⊎_elim
      (λ m. inr (subst (λ (n : ℕ). kind_at T (x + n) ≡ 5) (let d : length ss ≡ k = omega arith in d) e))
      (λ m. subst (λ (n : ℕ). (kind_at T n < 5) ⊎ (kind_at T n ≡ 5)) (let d : x + (length ss + 1) + (k - (length ss + 1)) ≡ x + k = omega arith in d)
      (alts-before a (k - (length ss + 1)) (omega arith)))
      (split k (length ss + 1)))
      (split k (length ss))

  pub alts-inner : {x : ℕ} {ts : List (List Symbol)} → Alternatives T g S x ts → (k : ℕ) → suc k < weight ts → kind_at T (x + k) ≡ 6 → ⊥
  alts-inner a k h q = ⊎_elim (λ l. omega arith) (λ l. omega arith) (alts-before a k h)

  pub alts-last : {x : ℕ} {ts : List (List Symbol)} → Alternatives T g S x ts → (e : ℕ) → e + 1 ≡ x + weight ts → kind_at T e ≡ 6
  alts-last {x} (al-last {ss = ss} w k) e h = subst (λ (n : ℕ). kind_at T n ≡ 6) (let d : x + length ss ≡ e = omega arith in d) k
  alts-last {x} (al-more {ss = ss} {ts = ts} w k a) e h = alts-last a e (omega arith)

  pub alts-some : {x : ℕ} {ts : List (List Symbol)} → Alternatives T g S x ts → 0 < weight ts
  alts-some (al-last w e) = omega arith
  alts-some (al-more w e a) = omega arith

  first-only : {x : ℕ} {ss : List Symbol} → Spells T g S x ss → (k : ℕ) → k ≤ length ss → (k ≡ 0) ⊎ (4 < kind_at T (x + (k - 1))) → k ≡ 0
  first-only {x} w zero h o = refl
  first-only {x} w (suc k) h o = ⊎_elim (λ e. e) (λ l. absurd (omega (arith, spells-inner w k h, ap (λ (n : ℕ). kind_at T (x + n)) (let e : suc k - 1 ≡ k = omega arith in e)))) o

  pub alts-begins : {x : ℕ} {ts : List (List Symbol)} → Alternatives T g S x ts → (k : ℕ) → k < weight ts → (k ≡ 0) ⊎ (4 < kind_at T (x + (k - 1))) → Numbered ts k
  alts-begins (al-last {ss = ss} w e) k h o = numbered-first ss [] k (first-only w k (omega arith) o)
  alts-begins {x} (al-more {ss = ss} {ts = ts} w e a) k h o = ⊎_elim
      (λ l. numbered-first ss ts k (first-only w k (omega arith) o))
      (λ l. numbered_next ss ts k (k - (length ss + 1)) (omega (arith, tails-count ss))
      (alts-begins a (k - (length ss + 1)) (omega arith)
      (elim (ℕ_discrete (k - (length ss + 1)) 0) as (λ _. (k - (length ss + 1) ≡ 0)
      ⊎ (4 < kind_at T (x + (length ss + 1) + (k - (length ss + 1) - 1)))) [
        | yes d ↦ inl d
        | no d ↦ inr (⊎_elim (λ z. absurd (omega arith)) (λ m. begins-on T x (x + (length ss + 1)) k (k - (length ss + 1)) (omega arith) d m (omega arith)) o)
      ])))
      (split k (length ss + 1))

-- the chain of a block's alternatives, once the owners and what goes on are in the code
pub record Linked (T c : List ℕ) (dots : List (List Symbol)) (e q : ℕ) (ts : List (List Symbol)) : Type 0 where
  pub agree : (k : ℕ) → k < weight ts → after_dot dots (q + k) ≡ get_or (dots_in ts) k []
  pub inside : q + weight ts ≤ length dots
  pub end : e + 1 ≡ q + weight ts
  pub owner : (k : ℕ) → k < weight ts → (k ≡ 0) ⊎ (4 < kind_at T (q + (k - 1))) → owner_at c (q + k) ≡ e + 1
  pub goes : (p : ℕ) → q ≤ p → p < q + weight ts → kind_at T p ≡ 5 → goes_at c p ≡ p + 2
  pub stops : (p : ℕ) → q ≤ p → p < q + weight ts → kind_at T p ≡ 6 → goes_at c p ≡ 0

module _ {T c : List ℕ} {dots : List (List Symbol)} {e : ℕ} where
  here : {q : ℕ} {ss : List Symbol} {ts : List (List Symbol)} → Linked T c dots e q (ss ∷ ts) → after_dot dots q ≡ ss
  here {q} {ss} {ts} w = ap (after_dot dots) (let d : q ≡ q + 0 = omega arith in d) ∙ w.agree 0 (omega arith) ∙ tails-head ss (dots_in ts)

  owner_here : {q : ℕ} {ss : List Symbol} {ts : List (List Symbol)} → Linked T c dots e q (ss ∷ ts) → owner_at c q ≡ e + 1
  owner_here {q} w = ap (owner_at c) (let d : q ≡ q + 0 = omega arith in d) ∙ w.owner 0 (omega arith) (inl refl)

  linked-next : {q : ℕ} {ss : List Symbol} {ts : List (List Symbol)} → kind_at T (q + length ss) ≡ 5 → Linked T c dots e q (ss ∷ ts) → Linked T c dots e (q + (length ss + 1)) ts
  linked-next {q} {ss} {ts} f w = record {
    agree = λ k h. ap (after_dot dots) (let d : q + (length ss + 1) + k ≡ q + (length (tails ss) + k) = omega (arith, tails-count ss) in
        d) ∙ w.agree (length (tails ss) + k) (omega (arith, tails-count ss)) ∙ get_or-append-add (tails ss) (dots_in ts) k [];
    inside = omega (arith, w.inside);
    end = omega (arith, w.end);
    owner = λ k h o. ap (owner_at c) (let d : q + (length ss + 1) + k ≡ q + (length ss + 1 + k) = omega arith in d) ∙ w.owner (length ss + 1 + k) (omega arith) (inr (after k o));
    goes = λ p l h k. w.goes p (omega arith) (omega arith) k;
    stops = λ p l h k. w.stops p (omega arith) (omega arith) k;
  }
    where
      after : (k : ℕ) → (k ≡ 0) ⊎ (4 < kind_at T (q + (length ss + 1) + (k - 1))) → 4 < kind_at T (q + (length ss + 1 + k - 1))
      after k o = ⊎_elim
          (λ z. subst (λ (n : ℕ). 4 < kind_at T n) (let d : q + length ss ≡ q + (length ss + 1 + k - 1) = omega arith in d) (omega arith))
          (λ l. elim (ℕ_discrete k 0) as (λ _. 4 < kind_at T (q + (length ss + 1 + k - 1))) [
            | yes z ↦ subst (λ (n : ℕ). 4 < kind_at T n) (let d : q + length ss ≡ q + (length ss + 1 + k - 1) = omega arith in d) (omega arith)
            | no z ↦ subst (λ (n : ℕ). 4 < kind_at T n) (let d : q + (length ss + 1) + (k - 1) ≡ q + (length ss + 1 + k - 1) = omega arith in d) l
          ])
          o

  pub chain-law : {g : Grammar} {S : Starts} {q : ℕ} {ts : List (List Symbol)} → Alternatives T g S q ts → Linked T c dots e q ts → Chain c dots e q ts
  chain-law {q} (al-last {ss = ss} w f) l = subst (λ (v : List Symbol). Chain c dots e q (v ∷ [])) (here l)
      (ch-last (omega (arith, l.inside)) (owner_here l) (omega (arith, ap length (here l), l.end))
      (l.stops e (omega (arith, l.end)) (omega (arith, l.end))
      (subst (λ (n : ℕ). kind_at T n ≡ 6) (let d : q + length ss ≡ e = omega (arith, l.end) in d) f)))
  chain-law {q} (al-more {ss = ss} {ts = ts} w f a) l = subst (λ (v : List Symbol). Chain c dots e q (v ∷ ts)) (here l)
      (ch-next {m = q + (length ss + 1)} (omega (arith, l.inside)) (owner_here l)
      (ap (λ (v : List Symbol). goes_at c (q + length v)) (here l) ∙ l.goes (q + length ss) (omega arith) (omega arith) f
      ∙ (let d : q + length ss + 2 ≡ q + (length ss + 1) + 1 = omega arith in d))
      (chain-law a (linked-next f l)))

-- where rule q begins, of rules one after the other
pub starts-at : (g : Grammar) (n : ℕ) (ss : List Symbol) (d : Symbol) (q : ℕ) → q < length ss → Among (n + dot_count g (take q ss)) (get_or ss q d) (starts_from g n ss)
starts-at g n [] d q h = absurd (not-suc-le-zero h)
starts-at g n (s ∷ ss) d zero h = inl (omega arith, refl)
starts-at g n (s ∷ ss) d (suc q) h = inr (subst (λ (k : ℕ). Among k (get_or ss q d) (starts_from g (n + weight (alts g s)) ss))
    (let e : n + weight (alts g s) + dot_count g (take q ss) ≡ n + (weight (alts g s) + dot_count g (take q ss)) = omega arith in e)
    (starts-at g (n + weight (alts g s)) ss d q (omega arith)))
