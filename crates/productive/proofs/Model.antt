-- What the code says of a rule, and what the grammar does: both say whether it derives some text.
use mathlib.Core.Bool.{Bool, true, false, not}
use mathlib.Core.List.Memᴰ.{head as in_head}
use mathlib.Core.List.Memᴰ.{tail as in_Tail}
use mathlib.Core.List.{List, [], ◌∷◌, Memᴰ as In}
use mathlib.Core.Logic.{⊎_elim}
use mathlib.Core.Path.{◌≡◌, refl, sym, subst, ap, ◌∙◌}
use Prim.Native.Nat.{ℕ, zero, suc, ◌+◌, ◌<◌, ◌≤◌}
use native.Mathlib.Omega.{arith}
use lib.Dec.{T}
use lib.ListN.{length}
use Rattle.text.specs.Lists.{any, all}
use Rattle.text.proofs.Tests.{is_t, T_true, T_false, and_left, and_right, both-and, or_case, or_right}
use Rattle.tree.specs.Tree.{Terminal, Symbol, terminal, Grammar}
use Rattle.plain.specs.Written.{terminals_in}
use Rattle.plain.specs.Plain.{alts, ruled}
use Rattle.plain.specs.Live.{live}
use Rattle.derive.specs.Bound.{symbols_of}
use Rattle.derive.specs.Yield.{yields, productive, unproductive}
use Rattle.derive.proofs.Symbols.{the-terminal}
use Rattle.derive.proofs.Productive.{any-in, passing, get_in, all_more, not-both, not-of, leaf-yields, above, rise, complete, sound}
use Rattle.chart.specs.Code.{next_kind, goes_at, rule_at, owner_at, after_dot, head_of, On, at-end, at-terminal, at_symbol, Chain, ch-last, ch-next, Ruled}
use Rattle.items.specs.Items.{token_at}
use Rattle.terminals.specs.Places.{TerminalHere}
use Rattle.rules.specs.Ready.{Token}
use Rattle.productive.specs.Made.{Sure, Made, made-end, made-terminal, made-symbol, RuleMade, Missing, Tells, Shape}
use Rattle.productive.specs.Marks.{Lively}

-- alternatives of a rule
record First (c : List ℕ) (dots : List (List Symbol)) (e : ℕ) (ss : List Symbol) : Type 0 where
  dot : ℕ
  inside : dot < length dots
  owner : owner_at c dot ≡ e + 1
  is : after_dot dots dot ≡ ss

module _ {c : List ℕ} {dots : List (List Symbol)} {e : ℕ} where
  first_of : {q : ℕ} {ts : List (List Symbol)} {ss : List Symbol} → Chain c dots e q ts → In ss ts → First c dots e ss
  first_of (ch-last {q} h o l z) (in_head i) = record { dot = q; inside = h; owner = o; is = sym i }
  first_of (ch-last h o l z) (in_Tail m) = elim m [ ]
  first_of (ch-next {q} h o z r) (in_head i) = record { dot = q; inside = h; owner = o; is = sym i }
  first_of (ch-next h o z r) (in_Tail m) = first_of r m

  last_goes : {q : ℕ} {ts : List (List Symbol)} → Chain c dots e q ts → goes_at c e ≡ 0
  last_goes (ch-last h o l z) = z
  last_goes (ch-next h o z r) = last_goes r

  starts : {q : ℕ} {ts : List (List Symbol)} → Chain c dots e q ts → (q < length dots) × (owner_at c q ≡ e + 1)
  starts (ch-last h o l z) = (h, o)
  starts (ch-next h o z r) = (h, o)

  not_none : {q : ℕ} {ts : List (List Symbol)} → Chain c dots e q ts → ts ≡ [] → ⊥
  not_none (ch-last h o l z) d = let n : ◌≡◌ {A = ℕ} 1 0 = ap length d in omega arith
  not_none (ch-next {ts = ts} h o z r) d = let n : suc (length ts) ≡ 0 = ap length d in omega arith

cons_head : {A : Type 0} {x y : A} {xs ys : List A} → x ∷ xs ≡ y ∷ ys → x ≡ y
cons_head e = cc

cons_tail : {A : Type 0} {x y : A} {xs ys : List A} → x ∷ xs ≡ y ∷ ys → xs ≡ ys
cons_tail e = cc

-- some height is enough
record Held (g : Grammar) (ss : List Symbol) : Type 0 where
  k : ℕ
  holds : T (all (yields g k) ss)

held_cons : {g : Grammar} {s : Symbol} {ss : List Symbol} (k : ℕ) → T (yields g k s) → Held g ss → Held g (s ∷ ss)
held_cons {g} {s} {ss} k t h = record {
  k = k + h.k;
  holds = both-and (yields g (k + h.k) s) (all (yields g (k + h.k)) ss) (rise g k (k + h.k) s (omega arith) t)
      (all_more (yields g h.k) (yields g (k + h.k)) (λ x. rise g h.k (k + h.k) x (omega arith)) ss h.holds);
}

-- a terminal that derives some text is live
terminal-live : (g : Grammar) (k : ℕ) (x : Terminal) → T (yields g k (terminal x)) → T (live x)
terminal-live g zero x t = ⊎_elim (λ h. h) (λ h. absurd h) (or_case (live x) false t)
terminal-live g (suc k) x t = ⊎_elim (λ h. ⊎_elim (λ l. l) (λ l. absurd l) (or_case (live x) false h)) (λ h. absurd h) (above g k (terminal x) t)

module _ {T₀ c : List ℕ} {g : Grammar} {size top first : ℕ} {F : List Bool} (w : Ruled (Token T₀) c g size top first) (lv : Lively T₀ c size F) where
  -- what the code says is so
  owned-held : {q : ℕ} (e : ℕ) (s : Symbol) → q < size → owner_at c q ≡ e + 1 → Held g (after_dot w.dots q) → alts g (head_of g w.heads e) ≡ alts g s
      → (k : ℕ) × T (yields g (suc k) s)
  owned-held {q} e s l o h d =
      let a = w.owned q e l o in
      let ts = alts g (head_of g w.heads e) in
      let t = any-in (all (yields g h.k)) ts (get_in ts [] a.number a.exists) (subst (λ (ss : List Symbol). T (all (yields g h.k) ss)) a.is h.holds) in
      (h.k, or_right (any live (terminals_in s)) (any (all (yields g h.k)) (alts g s)) (subst (λ (us : List (List Symbol)). T (any (all (yields g h.k)) us)) d t))

  made_inside : {p : ℕ} → Made c F size p → p < size
  made_inside (made-end h k) = h
  made_inside (made-terminal h k s m) = h
  made_inside (made-symbol h k o m n) = h

  here_end : {p : ℕ} → next_kind c p ≡ 0 → On (Token T₀) c g w.dots w.heads p → Held g (after_dot w.dots p)
  here_end k (at-end _ e) = record { k = 0; holds = subst (λ (ss : List Symbol). T (all (yields g 0) ss)) (sym e) tt }
  here_end k (at-terminal x z l e _ t) = absurd (omega arith)
  here_end k (at_symbol s z l e n r d) = absurd (omega arith)

  here-terminal : {p : ℕ} → p < size → next_kind c p ≡ 1 → Sure F (p + 1) → Held g (after_dot w.dots (p + 1))
      → On (Token T₀) c g w.dots w.heads p → Held g (after_dot w.dots p)
  here-terminal h k s m (at-end z e) = absurd (omega arith)
  here-terminal {p} h k s m (at-terminal x z l e _ t) = subst (Held g) (sym e) (held_cons 0 (leaf-yields g 0 x (is_t (sym (lv.lives p h k x t) ∙ s))) m)
  here-terminal h k s m (at_symbol _ z l e n r d) = absurd (omega arith)

  here-symbol : {p q : ℕ} → next_kind c p ≡ 2 → q < size → owner_at c q ≡ rule_at c p + 1 → Held g (after_dot w.dots q) → Held g (after_dot w.dots (p + 1))
      → On (Token T₀) c g w.dots w.heads p → Held g (after_dot w.dots p)
  here-symbol k l o v m (at-end z e) = absurd (omega arith)
  here-symbol k l o v m (at-terminal x z _ e _ t) = absurd (omega arith)
  here-symbol {p} k l o v m (at_symbol s z _ e n r d) = let y = owned-held (rule_at c p) s l o v d in subst (Held g) (sym e) (held_cons (suc y.0) y.1 m)

  held : {p : ℕ} → Made c F size p → Held g (after_dot w.dots p)
  held (made-end {p} h k) = here_end k (w.stands p h)
  held (made-terminal {p} h k s m) = here-terminal h k s (held m) (w.stands p h)
  held (made-symbol {p} h k o m n) = here-symbol k (made_inside m) o (held m) (held n) (w.stands p h)

  -- what is so the code says
  module _ (k : ℕ) (rules : (s : Symbol) (e q : ℕ) → Chain c w.dots e q (alts g s) → T (yields g k s) → RuleMade c F size e) where
    made_none : (p : ℕ) → p < size → after_dot w.dots p ≡ [] → On (Token T₀) c g w.dots w.heads p → Made c F size p
    made_none p h i (at-end z e) = made-end h z
    made_none p h i (at-terminal x z l e _ v) = absurd (let n : suc (length (after_dot w.dots (p + 1))) ≡ 0 = ap length (sym e ∙ i) in omega arith)
    made_none p h i (at_symbol u z l e n r d) = absurd (let m : suc (length (after_dot w.dots (p + 1))) ≡ 0 = ap length (sym e ∙ i) in omega arith)

    made_some : (s : Symbol) (ss : List Symbol) (p : ℕ) → p < size → after_dot w.dots p ≡ s ∷ ss → T (yields g k s)
        → (p + 1 < size → after_dot w.dots (p + 1) ≡ ss → Made c F size (p + 1)) → On (Token T₀) c g w.dots w.heads p → Made c F size p
    made_some s ss p h i t f (at-end z e) = made-end h z
    made_some s ss p h i t f (at-terminal x z l e _ v) =
        let j = sym e ∙ i in
        let y = subst (λ (u : Symbol). T (yields g k u)) (sym (cons_head j)) t in
        made-terminal h z (lv.lives p h z x v ∙ T_true (live x) (terminal-live g k x y)) (f (subst (λ (n : ℕ). p + 1 < n) w.count l) (cons_tail j))
    made_some s ss p h i t f (at_symbol u z l e n r d) =
        let j = sym e ∙ i in
        let y = subst (λ (v : Symbol). T (yields g k v)) (sym (cons_head j)) t in
        let m = rules u (rule_at c p) (goes_at c p) (subst (Chain c w.dots (rule_at c p) (goes_at c p)) d (w.chains p h z)) y in
        made-symbol h z m.owner m.made (f (subst (λ (n : ℕ). p + 1 < n) w.count l) (cons_tail j))

    made_at : (ss : List Symbol) (p : ℕ) → p < size → after_dot w.dots p ≡ ss → T (all (yields g k) ss) → Made c F size p
    made_at [] p h i t = made_none p h i (w.stands p h)
    made_at (s ∷ ss) p h i t =
        made_some s ss p h i (and_left (yields g k s) (all (yields g k) ss) t) (λ l j. made_at ss (p + 1) l j (and_right (yields g k s) (all (yields g k) ss) t)) (w.stands p h)

  -- a symbol with alternatives is no terminal
  not_live : (s : Symbol) {e q : ℕ} → Chain c w.dots e q (alts g s) → T (any live (terminals_in s)) → ⊥
  not_live s r t = let a = passing live (terminals_in s) t in not_none r (ap (alts g) (sym (the-terminal s a.x a.is)))

  rule-made : (k : ℕ) (s : Symbol) (e q : ℕ) → Chain c w.dots e q (alts g s) → T (yields g k s) → RuleMade c F size e
  rule-made zero s e q r t = absurd (not_live s r t)
  rule-made (suc k) s e q r t = ⊎_elim (λ l. absurd (not_live s r l))
      (λ n. (let a = passing (all (yields g k)) (alts g s) n in
      let f = first_of r a.is in
      let l : f.dot < size = subst (λ (m : ℕ). f.dot < m) w.count f.inside in
      record { dot = f.dot; owner = f.owner; made = made_at k (rule-made k) a.x f.dot l f.is a.passes }))
      (above g k s t)

  -- a rule that is missing is one of the grammar's, and derives no text
  some_is : Missing c F size → T (unproductive g)
  unfolding unproductive
  some_is m =
      let o = w.owned m.dot m.rule m.inside m.owner in
      let s = head_of g w.heads m.rule in
      let i = w.only m.rule (subst (λ (n : ℕ). m.rule < n) w.count o.inside) o.last (last_goes o.chain) in
      any-in (λ (z : Symbol). not (productive g z)) (ruled g) i (not-of (productive g s) (λ t. m.none (rule-made (suc (length (symbols_of g))) s m.rule o.first o.chain t)))

  every-is : ((p e : ℕ) → p < size → owner_at c p ≡ e + 1 → RuleMade c F size e) → T (unproductive g) → ⊥
  unfolding unproductive
  every-is f t =
      let a = passing (λ (z : Symbol). not (productive g z)) (ruled g) t in
      let v = w.every a.x a.is in
      let b = starts v.1.chain in
      let m = f v.1.first v.0 (subst (λ (n : ℕ). v.1.first < n) w.count b.0) b.1 in
      let y = owned-held v.0 a.x (made_inside m.made) m.owner (held m.made) (ap (alts g) v.1.head) in
      not-both (productive g a.x) a.passes (complete g a.is (sound g (suc y.0) y.1))

  pub agrees : (r : Bool) → Tells c F size r → r ≡ unproductive g
  agrees true t = sym (T_true (unproductive g) (some_is (t.some refl)))
  agrees false t = sym (T_false (unproductive g) (every-is (t.every refl)))

-- what the search uses of a code
pub shape_of : {At : ℕ → Terminal → Type 0} {c : List ℕ} {g : Grammar} {size top first : ℕ} → size ≤ 512 → Ruled At c g size top first → Shape c size
shape_of {At} {c} {g} {size} h w = record {
  small = h;
  owner = λ p e l o. omega (arith, (w.owned p e l o).inside, w.count);
  after = λ p l n. after-of p n (w.stands p l);
  rule = λ p l k. rule-of p k (w.stands p l);
}
  where
    after-of : (p : ℕ) → (next_kind c p ≡ 0 → ⊥) → On At c g w.dots w.heads p → p + 1 < size
    after-of p n (at-end z e) = absurd (n z)
    after-of p n (at-terminal x z l e _ t) = omega (arith, w.count)
    after-of p n (at_symbol s z l e _ r d) = omega (arith, w.count)

    rule-of : (p : ℕ) → next_kind c p ≡ 2 → On At c g w.dots w.heads p → rule_at c p < size
    rule-of p k (at-end z e) = absurd (omega arith)
    rule-of p k (at-terminal x z l e _ t) = absurd (omega arith)
    rule-of p k (at_symbol s z l e _ r d) = omega (arith, w.count)

-- a terminal of the code is in the table
pub here_of : {T₀ c : List ℕ} {g : Grammar} {size top first : ℕ} → Ruled (Token T₀) c g size top first
    → (p : ℕ) → p < size → next_kind c p ≡ 1 → TerminalHere T₀ (token_at T₀ p)
here_of {T₀} {c} {g} w p l k = here (w.stands p l)
  where
    here : On (Token T₀) c g w.dots w.heads p → TerminalHere T₀ (token_at T₀ p)
    here (at-end z e) = absurd (omega arith)
    here (at-terminal x z _ e _ t) = record { terminal = x; is = t.1 }
    here (at_symbol s z _ e _ r d) = absurd (omega arith)
