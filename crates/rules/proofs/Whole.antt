-- From items in blocks to the code of the rules.
use mathlib.Core.List.{List, [], ◌∷◌, ◌++◌, Memᴰ as In}
use mathlib.Core.Logic.{◌⊎◌, inl, inr, ⊎_elim}
use mathlib.Core.Path.{◌≡◌, refl, sym, ap, ◌∙◌, subst}
use Prim.Native.Nat.{ℕ, suc, ◌+◌, ◌-◌, ◌<◌, ◌≤◌}
use native.Mathlib.Decide.{dec_lt, ℕ_discrete}
use native.Mathlib.Omega.{arith}
use lib.ListN.{length, get_or, take, drop}
use Rattle.text.specs.Lists.{concat_map}
use Rattle.text.proofs.Tests.{split}
use Rattle.tree.specs.Tree.{unmarked, Terminal, Symbol, terminal, nonterminal, Grammar, rules}
use Rattle.tree.specs.Tokens.{encode, terminal_tokens}
use Rattle.plain.specs.Plain.{alts, weight, rule_mark, over}
use Rattle.plain.specs.Plain as plain
use Rattle.layout.specs.Layout.{layout, dot_count, starts_from, starts_of, dots_in, dots_of, name_at}
use Rattle.layout.proofs.Sums.{dots-weigh, layout-size}
use Rattle.layout.proofs.Spots.{Spot, spot, concat-at, name-ends}
use Rattle.derive.specs.Derive.{alternative, root}
use Rattle.derive.specs.Bound.{symbols_of}
use Rattle.derive.proofs.Symbols.{inside-in, ruled-of}
use Rattle.items.specs.Items.{kind_at, target_at, token_at, Starts, Among, Stands, st-terminal, st-name, st-made, Reads}
use Rattle.items.specs.Built.{Cover}
use Rattle.chart.specs.Code.{after_dot, head_of, Chain, Owned, Ruled, owner_at, goes_at, rule_at, at-end, at-terminal, at_symbol}
use Rattle.chart.specs.Code as code
use Rattle.terminals.specs.Sound.{SoundTerminal}
use Rattle.terminals.specs.Places.{TerminalAt, TerminalHere}
use Rattle.rules.specs.Ready.{Last, owner_of, Owners, Reach, Codes, Ready, Token}
use Rattle.terminals.proofs.Places.{term-two, width_is}
use Rattle.rules.proofs.Dots.{dots-in, Place, pl-end, pl-item, mark-kind, alts-place, alts-before, alts-inner, alts-last}
use Rattle.rules.proofs.Dots.{alts-some, alts-begins, Linked, chain-law, starts-at}
use Rattle.rules.proofs.Numbers.{tab, tab-count, tab-at, Begin, owner-begin, owner-inner, owner-inv, whole, some-tokens, made-not}
use Rattle.rules.proofs.Numbers.{kind-end, kind-symbol, kind-terminal, goes-terminal, goes-symbol, goes_on, goes-no}
use Rattle.rules.proofs.Numbers.{rule-symbol}
use Rattle.rules.proofs.Counts.{symbols-few}

-- the blocks of the items
module _ {T : List ℕ} {g : Grammar} {size first : ℕ} (r : Ready T g size first) where
  abbrev S : Starts
  S = r.built.items.starts

  cov : (p : ℕ) → p < size → Cover g S p
  cov p h = r.built.blocks.covered r.simple p (omega (arith, r.count))

  not-before : {p : ℕ} (a b : Cover g S p) → a.first < b.first → ⊥
  not-before a b l =
      let six = r.built.blocks.apart b.first (b.first - 1) b.symbol b.among (omega arith) in
      alts-inner (r.built.items.rule a.first a.symbol a.among) (b.first - 1 - a.first) (omega (arith, a.under, b.above))
      (subst (λ (n : ℕ). kind_at T n ≡ 6) (let e : b.first - 1 ≡ a.first + (b.first - 1 - a.first) = omega arith in e) six)

  unique : {p : ℕ} (a b : Cover g S p) → a.first ≡ b.first
  unique a b = ⊎_elim (λ l. absurd (not-before a b l)) (λ l. ⊎_elim (λ m. absurd (not-before b a m)) (λ m. omega arith) (split b.first a.first)) (split a.first b.first)

  symbol_by : (p : ℕ) → Dec (p < size) → Symbol
  symbol_by p (yes h) = (cov p h).symbol
  symbol_by p (no h) = root g

  first_by : (p : ℕ) → Dec (p < size) → ℕ
  first_by p (yes h) = (cov p h).first
  first_by p (no h) = 0

  dot_at : ℕ → List Symbol
  dot_at p = get_or (dots_in (alts g (symbol_by p (dec_lt p size)))) (p - first_by p (dec_lt p size)) []

  head_at : ℕ → Symbol
  head_at p = symbol_by p (dec_lt p size)

  dots : List (List Symbol)
  dots = tab dot_at 0 size

  heads : List Symbol
  heads = tab head_at 0 size

  dots-count : length dots ≡ size
  unfolding dots
  dots-count = tab-count dot_at 0 size

  module _ (x : ℕ) (s : Symbol) (a : Among x s S) where
    end : ℕ
    end = x + weight (alts g s) - 1

    end_is : end + 1 ≡ x + weight (alts g s)
    unfolding end
    end_is = omega (arith, alts-some (r.built.items.rule x s a))

    end_below : end < size
    end_below = omega (arith, end_is, r.built.items.below x s a, r.count)

    module _ (k : ℕ) (h : k < weight (alts g s)) where
      inside : x + k < size
      inside = omega (arith, r.built.items.below x s a, r.count)

      abbrev own : Cover g S (x + k)
      own = record { first = x; symbol = s; among = a; above = omega arith; under = omega arith }

      first_by_lem : (d : Dec (x + k < size)) → first_by (x + k) d ≡ x
      unfolding first_by
      first_by_lem (yes l) = unique (cov (x + k) l) own
      first_by_lem (no l) = absurd (l inside)

      symbol-by : (d : Dec (x + k < size)) → symbol_by (x + k) d ≡ s
      unfolding symbol_by
      symbol-by (yes l) = r.built.blocks.single x (cov (x + k) l).symbol s (subst (λ (n : ℕ). Among n (cov (x + k) l).symbol S) (unique (cov (x + k) l) own) (cov (x + k) l).among) a
      symbol-by (no l) = absurd (l inside)

      dot-is : after_dot dots (x + k) ≡ get_or (dots_in (alts g s)) k []
      unfolding dots dot_at
      dot-is =
          tab-at dot_at 0 size (x + k) [] inside
          ∙ ap dot_at (let e : 0 + (x + k) ≡ x + k = omega arith in e)
          ∙ rw (symbol-by (dec_lt (x + k) size), first_by_lem (dec_lt (x + k) size)) (ap (λ (n : ℕ). get_or (dots_in (alts g s)) n []) (let e : x + k - x ≡ k = omega arith in e))

      head-is : head_of g heads (x + k) ≡ s
      unfolding heads head_at
      head-is = tab-at head_at 0 size (x + k) (root g) inside ∙ ap head_at (let e : 0 + (x + k) ≡ x + k = omega arith in e) ∙ symbol-by (dec_lt (x + k) size)

      last-is : Last T (x + k) end
      last-is = record {
        from = omega (arith, end_is);
        ends = alts-last (r.built.items.rule x s a) end end_is;
        before = λ q l m e. alts-inner (r.built.items.rule x s a) (q - x) (omega (arith, end_is)) (subst (λ (n : ℕ). kind_at T n ≡ 6) (let d : q ≡ x + (q - x) = omega arith in d) e);
      }

    head-end : head_of g heads end ≡ s
    head-end = subst (λ (n : ℕ). head_of g heads n ≡ s)
        (let e : x + (weight (alts g s) - 1) ≡ end = omega (arith, end_is, alts-some (r.built.items.rule x s a)) in
        e) (head-is (weight (alts g s) - 1) (omega (arith, alts-some (r.built.items.rule x s a))))

    block-begin : Begin T x
    block-begin = elim (ℕ_discrete x 0) as (λ _. Begin T x) [
      | yes d ↦ inl d
      | no d ↦ inr (omega (arith, r.built.blocks.apart x (x - 1) s a (omega arith)))
    ]

    begin-in : (k : ℕ) → (k ≡ 0) ⊎ (4 < kind_at T (x + (k - 1))) → Begin T (x + k)
    begin-in k o = elim (ℕ_discrete k 0) as (λ _. Begin T (x + k)) [
      | yes d ↦ subst (Begin T) (let e : x ≡ x + k = omega arith in e) block-begin
      | no d ↦ inr (⊎_elim (λ z. absurd (d z)) (λ l. subst (λ (n : ℕ). 4 < kind_at T n) (let e : x + (k - 1) ≡ x + k - 1 = omega arith in e) l) o)
    ]

    begin-out : (k : ℕ) → Begin T (x + k) → (k ≡ 0) ⊎ (4 < kind_at T (x + (k - 1)))
    begin-out k o = elim (ℕ_discrete k 0) as (λ _. (k ≡ 0) ⊎ (4 < kind_at T (x + (k - 1)))) [
      | yes d ↦ inl d
      | no d ↦ inr (⊎_elim (λ z. absurd (omega arith)) (λ l. subst (λ (n : ℕ). 4 < kind_at T n) (let e : x + k - 1 ≡ x + (k - 1) = omega arith in e) l) o)
    ]

  -- rule q of the layout, and where it begins
  abbrev nth : ℕ → Symbol
  nth q = get_or (layout g) q (root g)

  abbrev begin : ℕ → ℕ
  begin q = dot_count g (take q (layout g))

  laid-at : (q : ℕ) → q < length (layout g) → Among (begin q) (nth q) S
  unfolding starts_of
  laid-at q h = r.built.blocks.laid r.simple (begin q) (nth q)
      (subst (λ (n : ℕ). Among n (nth q) (starts_from g 0 (layout g))) (let e : 0 + begin q ≡ begin q = omega arith in e) (starts-at g 0 (layout g) (root g) q h))

  name-is : (q : ℕ) (h : q < length (layout g)) → name_at g q ≡ end (begin q) (nth q) (laid-at q h)
  name-is q h =
      let a = laid-at q h in
      omega (arith, end_is (begin q) (nth q) a, name-ends g (root g) q h (alts-some (r.built.items.rule (begin q) (nth q) a)))

  spot_of : (p : ℕ) → p < size → Spot (λ s. weight (alts g s)) (root g) (layout g) p
  spot_of p h = spot (λ s. weight (alts g s)) (root g) (layout g) p (omega (arith, layout-size g r.simple, r.count))

  laid-dot : (p : ℕ) → p < size → after_dot dots p ≡ get_or (dots_of g) p []
  unfolding dots_of
  laid-dot p h =
      let z = spot_of p h in
      ap (after_dot dots) z.is ∙ dot-is (begin z.q) (nth z.q) (laid-at z.q z.listed) z.k z.inner
      ∙ sym (ap (λ (n : ℕ). get_or (concat_map (λ s. dots_in (alts g s)) (layout g)) n []) z.is
      ∙ concat-at (λ s. weight (alts g s)) (root g) (λ s. dots_in (alts g s)) [] (λ s. dots-weigh (alts g s)) (layout g) z.q z.k z.listed z.inner)

  -- what stands at an item, with the rule that it stands in
  record DottedRule (p : ℕ) : Type 0 where
    x : ℕ
    s : Symbol
    among : Among x s S
    k : ℕ
    at : p ≡ x + k
    inner : k < weight (alts g s)
    place : Place T g S (dots_in (alts g s)) p k

  dotted-rule : (p : ℕ) → p < size → DottedRule p
  dotted-rule p h =
      let c = cov p h in
      let e : p ≡ c.first + (p - c.first) = omega (arith, c.above) in
      record {
        x = c.first;
        s = c.symbol;
        among = c.among;
        k = p - c.first;
        at = e;
        inner = omega (arith, c.above, c.under);
        place = subst (λ (n : ℕ). Place T g S (dots_in (alts g c.symbol)) n (p - c.first)) (sym e)
            (alts-place (r.built.items.rule c.first c.symbol c.among) (p - c.first)
            (omega (arith, dots-weigh (alts g c.symbol), c.above, c.under)));
      }

  term-at : (p : ℕ) (x : Terminal) (h : p < size) → Reads T (token_at T p) (terminal_tokens x) → SoundTerminal x → TerminalAt T (token_at T p) x
  term-at p x h d w = record { more = d.more ++ drop 12288 T; stands = whole T 12288 (token_at T p) (encode (terminal_tokens x)) d.more (some-tokens x) d.stands; sound = w }

  data Item (p : ℕ) : Type 0 where
    it-end : 4 < kind_at T p → after_dot dots p ≡ [] → Item p
    it-terminal : (x : Terminal) → kind_at T p ≡ 1 → p + 1 < size → after_dot dots p ≡ terminal x ∷ after_dot dots (p + 1) → TerminalAt T (token_at T p) x → Item p
    it-symbol : (s t : Symbol) → (kind_at T p ≡ 1 → ⊥) → kind_at T p < 5 → p + 1 < size → after_dot dots p ≡ s ∷ after_dot dots (p + 1)
        → ((x : Terminal) → s ≡ terminal x → ⊥) → Among (target_at T p) t S → alts g t ≡ alts g s → Item p

  item_by : (p : ℕ) (h : p < size) (w : DottedRule p) (u : Symbol) → p + 1 < size → after_dot dots p ≡ u ∷ after_dot dots (p + 1) → Stands T g S p u → Item p
  item_by p h w u l e (st-terminal {x = x} k d i) = it-terminal x k l e (term-at p x h d (r.sound x i))
  item_by p h w u l e (st-name {m = m} {n = n} k d a) = it-symbol (nonterminal m n) (nonterminal unmarked n)
      (λ q. omega (arith, mark-kind (over m (rule_mark (rules g) n)))) (omega (arith, mark-kind (over m (rule_mark (rules g) n)))) l e
      (λ x q. (let z : ◌≡◌ {A = ℕ} 0 1 = cc in omega arith)) a refl
  item_by p h w u l e (st-made {s = s} q k r a) = it-symbol s s (λ z. omega arith) (omega arith) l e (λ x y. made-not s x q y) a refl

  item : (p : ℕ) → p < size → Item p
  item p h = go (dotted-rule p h) refl
    where
      go : (w : DottedRule p) → w ≡ dotted-rule p h → Item p
      go w d = by w.place
        where
          dot-here : after_dot dots p ≡ get_or (dots_in (alts g w.s)) w.k []
          dot-here = ap (after_dot dots) w.at ∙ dot-is w.x w.s w.among w.k w.inner

          by : Place T g S (dots_in (alts g w.s)) p w.k → Item p
          by (pl-end e l) = it-end l (dot-here ∙ e)
          by (pl-item u e a l) =
              let n : suc w.k < weight (alts g w.s) = omega (arith, dots-weigh (alts g w.s)) in
              let f : after_dot dots (p + 1) ≡ get_or (dots_in (alts g w.s)) (suc w.k) [] = ap (after_dot dots)
              (let q : p + 1 ≡ w.x + suc w.k = omega (arith, w.at) in q) ∙ dot-is w.x w.s w.among (suc w.k) n in
              item_by p h w u (omega (arith, w.at, inside w.x w.s w.among (suc w.k) n)) (dot-here ∙ e ∙ ap (◌∷◌ u) (sym f)) a

  -- what the stage reaches to
  reach-at : (p : ℕ) → Item p → Reach T size p
  reach-at p (it-end l e) = record { token = λ k. absurd (omega arith); target = λ d h. absurd (omega arith) }
  reach-at p (it-terminal x k l e t) = record { token = λ q. term-two t; target = λ d h. absurd (d k) }
  reach-at p (it-symbol s t d h l e n a q) = record { token = λ k. absurd (d k); target = λ z y. omega (arith, inside (target_at T p) t a 0 (alts-some (r.built.items.rule (target_at T p) t a))) }

  pub reach : (p : ℕ) → p < size → Reach T size p
  reach p h = reach-at p (item p h)

  here-at : (p : ℕ) → Item p → kind_at T p ≡ 1 → TerminalHere T (token_at T p)
  here-at p (it-end l e) k = absurd (omega arith)
  here-at p (it-terminal x q l e t) k = record { terminal = x; is = t }
  here-at p (it-symbol s t d h l e n a q) k = absurd (d k)

  pub here : (p : ℕ) → p < size → kind_at T p ≡ 1 → TerminalHere T (token_at T p)
  here p h = here-at p (item p h)

  pub first-inside : first < size
  first-inside = omega (arith, inside first (root g) r.built.items.begins 0 (alts-some (r.built.items.rule first (root g) r.built.items.begins)))

  -- the arrays
  module _ {c₀ c₁ c : List ℕ} (o : Owners T size c₀ c₁) (w : Codes T size c₁ c) where
    module _ (x : ℕ) (s : Symbol) (a : Among x s S) where
      first-owner : owner_at c₁ x ≡ end x s a + 1
      first-owner =
          let z = alts-some (r.built.items.rule x s a) in
          o.owner x (end x s a) (omega (arith, inside x s a 0 z)) (subst (λ (n : ℕ). Last T n (end x s a)) (let e : x + 0 ≡ x = omega arith in e) (last-is x s a 0 z)) (end_below x s a)
          ∙ owner-begin T x (end x s a) (block-begin x s a)

      owner_at_lem : (k : ℕ) → k < weight (alts g s) → owner_at c (x + k) ≡ owner_of T (x + k) (end x s a)
      owner_at_lem k h = w.owner-is (x + k) (inside x s a k h) ∙ o.owner (x + k) (end x s a) (inside x s a k h) (last-is x s a k h) (end_below x s a)

      below : (p : ℕ) → p < x + weight (alts g s) → p < size
      below p h = omega (arith, r.built.items.below x s a, r.count)

      linked : Linked T c dots (end x s a) x (alts g s)
      linked = record {
        agree = dot-is x s a;
        inside = omega (arith, dots-count, r.built.items.below x s a, r.count);
        end = end_is x s a;
        owner = λ k h b. owner_at_lem k h ∙ owner-begin T (x + k) (end x s a) (begin-in x s a k b);
        goes = λ p l h k. w.goes-is p (below p h) ∙ goes_on T p (kind_at T p) k;
        stops = λ p l h k. w.goes-is p (below p h) ∙ goes-no T p (kind_at T p) k;
      }

      chain : Chain c dots (end x s a) x (alts g s)
      chain = chain-law (r.built.items.rule x s a) linked

    rule-at : (p : ℕ) → p < size → (t : Symbol) (a : Among (target_at T p) t S) → (kind_at T p ≡ 1 → ⊥) → kind_at T p < 5 → rule_at c p ≡ end (target_at T p) t a
    rule-at p h t a d l = w.rule-is p h ∙ rule-symbol T c₁ p (kind_at T p) d l ∙ (let e = first-owner (target_at T p) t a in
        let q : owner_at c₁ (target_at T p) - 1 ≡ end (target_at T p) t a = omega arith in q)

    stands_at : (p : ℕ) → p < size → Item p → code.On (Token T) c g dots heads p
    stands_at p h (it-end l e) = at-end (w.kind-is p h ∙ kind-end (kind_at T p) l) e
    stands_at p h (it-terminal x k l e t) =
        at-terminal x (w.kind-is p h ∙ kind-terminal (kind_at T p) k) (omega (arith, dots-count)) e
        (w.goes-is p h ∙ goes-terminal T p (kind_at T p) k ∙ width_is t) (k, t)
    stands_at p h (it-symbol s t d l m e n a q) = at_symbol s (w.kind-is p h ∙ kind-symbol (kind_at T p) d l) (omega (arith, dots-count)) e n
        (omega (arith, rule-at p h t a d l, end_below (target_at T p) t a, dots-count))
        (ap (λ (i : ℕ). alts g (head_of g heads i)) (rule-at p h t a d l) ∙ ap (alts g) (head-end (target_at T p) t a) ∙ q)

    chains-at : (p : ℕ) → p < size → Item p → code.next_kind c p ≡ 2 → Chain c dots (rule_at c p) (goes_at c p) (alts g (head_of g heads (rule_at c p)))
    chains-at p h (it-end l e) k = absurd (omega (arith, w.kind-is p h ∙ kind-end (kind_at T p) l))
    chains-at p h (it-terminal x j l e t) k = absurd (omega (arith, w.kind-is p h ∙ kind-terminal (kind_at T p) j))
    chains-at p h (it-symbol s t d l m e n a q) k =
        rw (w.goes-is p h ∙ goes-symbol T p (kind_at T p) d l, rule-at p h t a d l, head-end (target_at T p) t a) (chain (target_at T p) t a)

    owned_at : (p e : ℕ) → (z : DottedRule p) → owner_at c p ≡ e + 1 → Owned c g dots heads p e
    owned_at p e z q =
        let a = z.among in
        let b = owner-inv T p (end z.x z.s a) e (sym
        (ap (owner_at c) z.at ∙ owner_at_lem z.x z.s a z.k z.inner
        ∙ ap (λ (n : ℕ). owner_of T n (end z.x z.s a)) (sym z.at)) ∙ q) in
        let u = alts-begins (r.built.items.rule z.x z.s a) z.k z.inner (begin-out z.x z.s a z.k (subst (Begin T) z.at b.0)) in
        subst (Owned c g dots heads p) (sym b.1) (record {
          number = u.number;
          exists = rw (head-end z.x z.s a) u.exists;
          is = ap (after_dot dots) z.at ∙ dot-is z.x z.s a z.k z.inner ∙ u.is ∙ ap (λ (n : Symbol). get_or (alts g n) u.number []) (sym (head-end z.x z.s a));
          inside = omega (arith, end_below z.x z.s a, dots-count);
          last =
              w.kind-is (end z.x z.s a) (end_below z.x z.s a)
              ∙ kind-end (kind_at T (end z.x z.s a)) (omega (
                arith,
                alts-last (r.built.items.rule z.x z.s a)
                    (end z.x z.s a) (end_is z.x z.s a),
              ));
          first = z.x;
          chain = rw (head-end z.x z.s a) (chain z.x z.s a);
        })

    top-is : owner_at c first - 1 ≡ end first (root g) r.built.items.begins
    top-is = let e = w.owner-is first first-inside ∙ first-owner first (root g) r.built.items.begins in omega arith

    inner-by : (p : ℕ) → p + 1 < size → (code.next_kind c p ≡ 0 → ⊥) → DottedRule (p + 1) → owner_at c (p + 1) ≡ 0
    inner-by p h d z =
        let l : kind_at T p < 5 = ⊎_elim (λ l. l) (λ l. absurd (d (w.kind-is p (omega arith) ∙ kind-end (kind_at T p) l))) (split (kind_at T p) 5) in
        ap (owner_at c) z.at ∙ owner_at_lem z.x z.s z.among z.k z.inner
        ∙ ap (λ (n : ℕ). owner_of T n (end z.x z.s z.among)) (sym z.at) ∙ owner-inner T p (end z.x z.s z.among) l

    rule-of : (s : Symbol) (x : ℕ) (a : Among x s S) → code.RuleOf c g dots heads s (end x s a)
    rule-of s x a =
        let k = alts-last (r.built.items.rule x s a) (end x s a) (end_is x s a) in
        record {
          inside = omega (arith, end_below x s a, dots-count);
          ends = w.kind-is (end x s a) (end_below x s a) ∙ kind-end (kind_at T (end x s a)) (omega arith);
          last = w.goes-is (end x s a) (end_below x s a) ∙ goes-no T (end x s a) (kind_at T (end x s a)) k;
          head = head-end x s a;
          first = x;
          chain = chain x s a;
        }

    only-by : (e : ℕ) → DottedRule e → In (head_of g heads e) (plain.ruled g)
    only-by e z = subst (λ (s : Symbol). In s (plain.ruled g)) (sym (ap (head_of g heads) z.at ∙ head-is z.x z.s z.among z.k z.inner))
        (r.built.blocks.only z.x z.s z.among)

    within_by : (p : ℕ) → DottedRule p → (s : Symbol) → In s (after_dot dots p) → In s (symbols_of g)
    within_by p z s m = dots-in (λ (x : Symbol). In x (symbols_of g)) (alts g z.s)
        (λ a x i. inside-in g (alternative g z.s a) (ruled-of g (r.built.blocks.only z.x z.s z.among) a) i) z.k s
        (subst (λ (ss : List Symbol). In s ss) (ap (after_dot dots) z.at ∙ dot-is z.x z.s z.among z.k z.inner) m)

    named-at : (q : ℕ) → q < length (layout g) → code.RuleOf c g dots heads (nth q) (name_at g q)
    named-at q h = rw (name-is q h) (rule-of (nth q) (begin q) (laid-at q h))

    -- an item that ends no rule is no name
    no_name : (e : ℕ) → e < size → (kind_at T e < 5) ⊎ (kind_at T e ≡ 5) → code.next_kind c e ≡ 0 → goes_at c e ≡ 0 → ⊥
    no_name e h (inl l) k o = elim (ℕ_discrete (kind_at T e) 1) as (λ _. ⊥) [
      | yes d ↦ omega (arith, w.kind-is e h, kind-terminal (kind_at T e) d)
      | no d ↦ omega (arith, w.kind-is e h, kind-symbol (kind_at T e) d l)
    ]
    no_name e h (inr l) k o = omega (arith, w.goes-is e h, goes_on T e (kind_at T e) l)

    names-by : (e : ℕ) → e < size → code.next_kind c e ≡ 0 → goes_at c e ≡ 0 → Spot (λ s. weight (alts g s)) (root g) (layout g) e
        → (q : ℕ) × (q < length (layout g)) × (e ≡ name_at g q)
    names-by e h k o z =
        let a = laid-at z.q z.listed in
        let b = r.built.items.rule (begin z.q) (nth z.q) a in
        let last : weight (alts g (nth z.q)) ≤ suc z.k = ⊎_elim
        (λ l. absurd (no_name e h (subst (λ (n : ℕ). (kind_at T n < 5) ⊎ (kind_at T n ≡ 5)) (sym z.is) (alts-before b z.k l)) k o))
        (λ l. l) (split (suc z.k) (weight (alts g (nth z.q)))) in
        (z.q, z.listed, omega (arith, z.is, z.inner, name-ends g (root g) z.q z.listed (alts-some b)))

    pub coded-rules : (top : ℕ) → top ≡ owner_at c first - 1 → Ruled (Token T) c g size top first
    coded-rules top e =
        let d : top ≡ end first (root g) r.built.items.begins = e ∙ top-is in
        record {
          dots = dots;
          heads = heads;
          count = dots-count;
          stands = λ p h. stands_at p h (item p h);
          owned = λ p n h q. owned_at p n (dotted-rule p h) q;
          inner = λ p h q. inner-by p h q (dotted-rule (p + 1) h);
          chains = λ p h k. chains-at p h (item p h) k;
          root-chain = rw d (chain first (root g) r.built.items.begins);
          root-head = rw d (ap (alts g) (head-end first (root g) r.built.items.begins));
          root-inside = rw d (end_below first (root g) r.built.items.begins);
          every = λ s m. (let v = r.built.blocks.every s m in (end v.0 s v.1, rule-of s v.0 v.1));
          only = λ p h k q. only-by p (dotted-rule p h);
          within = λ p h s m. within_by p (dotted-rule p h) s m;
          few = omega (arith, symbols-few g r.proper, r.count);
          laid = laid-dot;
          named = named-at;
          names = λ e h k o. names-by e h k o (spot_of e h);
        }
