-- The costs of a tree's tokens add up to the grammar's size.
use mathlib.Core.List.{List, [], ◌∷◌, ◌++◌}
use mathlib.Core.Path.{◌≡◌, refl, ap, ◌∙◌}
use Prim.Native.Nat.{ℕ, ◌+◌, ◌<◌, ◌≤◌}
use native.Mathlib.Omega.{arith}
use lib.ListN.{length, get_or}
use Rattle.text.specs.Lists.{concat_map}
use Rattle.tree.specs.Tree.{string, hex, Member, chars, range, class, Terminal, literal, inclusion, exclusion, insertion}
use Rattle.tree.specs.Tree.{Symbol, terminal, nonterminal, group, option, repeat0, repeat1, repeat0sep, repeat1sep, rest, Alternative, nil}
use Rattle.tree.specs.Tree.{cons, Body, one, also, Rule, Prolog, no-prolog, version, Grammar, rules}
use Rattle.tree.specs.Tokens.{Token, close-group, next-alternative, to-option, to-repeat0, to-repeat1, to-repeat0sep, to-repeat1sep, rule_end}
use Rattle.tree.specs.Tokens.{member_tokens, terminal_tokens, symbol_tokens, alternative_tokens, body_tokens, rule_tokens, prolog_tokens, grammar_tokens, numbers}
use Rattle.plain.specs.Written.{within, within_alternative, within_body}
use Rattle.plain.specs.Plain.{symbols, alternatives, alts, makes, sum_of, weight, size}
use Rattle.tokens.specs.Proper.{Proper, ProperAlternative, ProperBody, ProperRules}
use Rattle.tokens.specs.Lengths.{length_at, Holds, Left}
use Rattle.measure.specs.Costs.{cost_of, repeat_cost_of, cost, costs}
use Rattle.tokens.proofs.Walk.{by-mark, some_number, left-empty, left-length, left-first, left-within, left-next, left-start}

pub costs-append : (ts us : List Token) → costs (ts ++ us) ≡ costs ts + costs us
costs-append [] us = omega arith
costs-append (t ∷ ts) us = omega (arith, costs-append ts us)

pub sum_of-append : {A : Type 0} (f : A → ℕ) (xs ys : List A) → sum_of f (xs ++ ys) ≡ sum_of f xs + sum_of f ys
sum_of-append f [] ys = omega arith
sum_of-append f (x ∷ xs) ys = omega (arith, sum_of-append f xs ys)

member-costs : (ms : List Member) → costs (member_tokens ms) ≡ 0
unfolding cost_of
member-costs [] = refl
member-costs (chars (string cs) ∷ ms) = omega (arith, member-costs ms)
member-costs (chars (hex n) ∷ ms) = omega (arith, member-costs ms)
member-costs (range a b ∷ ms) = omega (arith, member-costs ms)
member-costs (class k ∷ ms) = omega (arith, member-costs ms)

pub terminal-costs : (x : Terminal) → costs (terminal_tokens x) ≡ 1
unfolding cost_of
terminal-costs (literal m (string cs)) = by-mark (λ k. cost_of (4 + k) + 0 ≡ 1) refl refl refl refl m
terminal-costs (literal m (hex n)) = by-mark (λ k. cost_of (8 + k) + 0 ≡ 1) refl refl refl refl m
terminal-costs (inclusion m ms) = omega (arith, member-costs ms, by-mark (λ k. cost_of (12 + k) ≡ 1) refl refl refl refl m)
terminal-costs (exclusion m ms) = omega (arith, member-costs ms, by-mark (λ k. cost_of (16 + k) ≡ 1) refl refl refl refl m)
terminal-costs (insertion (string cs)) = refl
terminal-costs (insertion (hex n)) = refl

module _ (g : Grammar) where
  -- the items of the rules that symbols make
  made_weight : Symbol → ℕ
  made_weight s = sum_of (λ x. weight (alts g x)) (makes s)

  inner : List Symbol → ℕ
  inner ss = sum_of made_weight ss

  inner-append : (xs ys : List Symbol) → inner (xs ++ ys) ≡ inner xs + inner ys
  unfolding inner
  inner-append xs ys = sum_of-append made_weight xs ys

  one_more : (ts : List Token) (t : Token) (n k : ℕ) → costs ts ≡ n → cost t ≡ k → costs (ts ++ t ∷ []) ≡ n + k
  one_more ts t n k p q = omega (arith, costs-append ts (t ∷ []))

  two-more : (ts us : List Token) (t : Token) (n m k : ℕ) → costs ts ≡ n → costs us ≡ m → cost t ≡ k → costs (ts ++ (us ++ t ∷ [])) ≡ n + m + k
  two-more ts us t n m k p q r = omega (arith, costs-append ts (us ++ t ∷ []), costs-append us (t ∷ []))

  mutual
    unfolding inner made_weight cost_of repeat_cost_of

    symbol-costs : (s : Symbol) → Proper s → costs (symbol_tokens s) ≡ 1 + inner (within s)
    symbol-costs (terminal x) p = terminal-costs x
    symbol-costs (nonterminal m n) p = by-mark (λ k. cost_of k + 0 ≡ 1) refl refl refl refl m
    symbol-costs (group b) p = omega (arith, body-costs b p, costs-append (body_tokens b) (close-group ∷ []))
    symbol-costs (option f) p = omega (arith, one_more (symbol_tokens f) to-option (1 + inner (within f)) 3 (symbol-costs f p) refl)
    symbol-costs (repeat0 f) p = omega (arith, one_more (symbol_tokens f) to-repeat0 (1 + inner (within f)) 4 (symbol-costs f p) refl)
    symbol-costs (repeat1 f) p = omega (arith, one_more (symbol_tokens f) to-repeat1 (1 + inner (within f)) 7 (symbol-costs f p) refl)
    symbol-costs (repeat0sep f sep) p =
        omega (
          arith,
          two-more (symbol_tokens f) (symbol_tokens sep) to-repeat0sep (1 + inner (within f)) (1 + inner (within sep)) 10
              (symbol-costs f p.0) (symbol-costs sep p.1) refl,
          inner-append (within f) (within sep),
        )
    symbol-costs (repeat1sep f sep) p =
        omega (
          arith,
          two-more (symbol_tokens f) (symbol_tokens sep) to-repeat1sep (1 + inner (within f)) (1 + inner (within sep)) 7
              (symbol-costs f p.0) (symbol-costs sep p.1) refl,
          inner-append (within f) (within sep),
        )
    symbol-costs (rest f sep) p = absurd p

    alternative-costs : (a : Alternative) → ProperAlternative a → costs (alternative_tokens a) ≡ length (symbols a) + inner (within_alternative a)
    alternative-costs nil p = refl
    alternative-costs (cons f a) p =
        omega (
          arith,
          costs-append (symbol_tokens f) (alternative_tokens a),
          symbol-costs f p.0,
          alternative-costs a p.1,
          inner-append
              (within f) (within_alternative a),
        )

    body-costs : (b : Body) → ProperBody b → 1 + costs (body_tokens b) ≡ weight (alternatives b) + inner (within_body b)
    body-costs (one a) p = omega (arith, alternative-costs a p)
    body-costs (also a b) p =
        omega (
          arith,
          costs-append (alternative_tokens a) (next-alternative ∷ body_tokens b),
          alternative-costs a p.0,
          body-costs b p.1,
          inner-append (within_alternative a) (within_body b),
        )

  rule-costs : (r : Rule) → ProperBody r.body → costs (rule_tokens r) ≡ weight (alternatives r.body) + inner (within_body r.body)
  unfolding cost_of repeat_cost_of
  rule-costs r p = omega (arith, body-costs r.body p, costs-append (body_tokens r.body) (rule_end ∷ []), by-mark (λ k. cost_of (20 + k) ≡ 1) refl refl refl refl r.mark)

  rules-costs : (rs : List Rule) → ProperRules rs → costs (concat_map rule_tokens rs) ≡ sum_of (λ r. weight (alternatives r.body)) rs + inner (concat_map (λ r. within_body r.body) rs)
  unfolding inner
  rules-costs [] p = refl
  rules-costs (r ∷ rs) p =
      omega (
        arith,
        costs-append (rule_tokens r) (concat_map rule_tokens rs),
        rule-costs r p.0,
        rules-costs rs p.1,
        inner-append
            (within_body r.body) (concat_map (λ r. within_body r.body) rs),
      )

  prolog-costs : (p : Prolog) → costs (prolog_tokens p) ≡ 0
  unfolding cost_of repeat_cost_of
  prolog-costs no-prolog = refl
  prolog-costs (version k) = refl

  pub size-costs : ProperRules (rules g) → costs (grammar_tokens g) ≡ size g
  unfolding size inner made_weight
  size-costs p = omega (arith, costs-append (prolog_tokens g.prolog) (concat_map rule_tokens (rules g)), prolog-costs g.prolog, rules-costs (rules g) p)

-- A scan that adds the costs up: the tokens left at a place, with the sum so far.
pub record Summing (T : List ℕ) (end at sum : ℕ) (g : Grammar) : Type 0 where
  pub tokens : List Token
  pub left : Left T end at tokens
  pub total : sum + costs tokens ≡ size g

pub sum-start : {T : List ℕ} {end : ℕ} {g : Grammar} → Holds T end g → Summing T end 0 0 g
sum-start {T} {end} {g} h = record {
  tokens = grammar_tokens g;
  left = left-start h;
  total = let e : 0 + costs (grammar_tokens g) ≡ costs (grammar_tokens g) = omega arith in e ∙ size-costs g h.proper;
}

pub record Steps (T : List ℕ) (end at : ℕ) : Type 0 where
  pub forward : at < at + length_at T at
  pub within : at + length_at T at ≤ end

module _ {T : List ℕ} {end at : ℕ} (h : at < end) (i : end ≤ length T) where
  steps_of : (ts : List Token) → Left T end at ts → Steps T end at
  steps_of [] w = absurd (let z : end ≤ at = left-empty w i in omega arith)
  steps_of (t ∷ ts) w =
      let e : length_at T at ≡ length (numbers t) = left-length w i in
      record { forward = omega (arith, some_number t); within = omega (arith, left-within w i) }

  pub sum-steps : {sum : ℕ} {g : Grammar} → Summing T end at sum g → Steps T end at
  sum-steps w = steps_of w.tokens w.left

  next_of : (sum : ℕ) (g : Grammar) (ts : List Token) → Left T end at ts → sum + costs ts ≡ size g → Summing T end (at + length_at T at) (sum + cost_of (get_or T at 0)) g
  next_of sum g [] w e = absurd (let z : end ≤ at = left-empty w i in omega arith)
  next_of sum g (t ∷ ts) w e = record {
    tokens = ts;
    left = rw (left-length w i) (left-next w);
    total = let c : cost_of (get_or T at 0) ≡ cost t = ap cost_of (left-first w i) in omega arith;
  }

  pub sum-next : {sum : ℕ} {g : Grammar} → Summing T end at sum g → Summing T end (at + length_at T at) (sum + cost_of (get_or T at 0)) g
  sum-next {sum} {g} w = next_of sum g w.tokens w.left w.total

done-of : {T : List ℕ} {end at : ℕ} (sum : ℕ) (g : Grammar) (ts : List Token) → end ≤ at → end ≤ length T → Left T end at ts → sum + costs ts ≡ size g → sum ≡ size g
done-of sum g [] h i w e = omega arith
done-of sum g (t ∷ ts) h i w e = absurd (let z : 0 < 0 = omega (arith, left-within w i, some_number t) in omega arith)

pub sum_done : {T : List ℕ} {end at sum : ℕ} {g : Grammar} → end ≤ at → end ≤ length T → Summing T end at sum g → sum ≡ size g
sum_done {sum = sum} {g = g} h i w = done-of sum g w.tokens h i w.left w.total
