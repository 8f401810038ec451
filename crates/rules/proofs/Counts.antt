-- A grammar's size bounds what is written in it.
use mathlib.Core.Path.{◌≡◌}
use mathlib.Core.List.{List, [], ◌∷◌, ◌++◌}
use Prim.Native.Nat.{ℕ, ◌+◌, ◌*◌, ◌≤◌}
use native.Mathlib.Omega.{arith}
use lib.ListN.{length, length-append}
use Rattle.text.specs.Lists.{concat_map}
use Rattle.tree.specs.Tree.{Symbol, terminal, nonterminal, group, option, repeat0, repeat1, repeat0sep, repeat1sep, rest, Alternative, nil, cons, Body, one, also, Rule, Grammar, rules}
use Rattle.plain.specs.Written.{within, within_alternative, within_body, written}
use Rattle.tokens.specs.Proper.{Proper, ProperAlternative, ProperBody, ProperRules}
use Rattle.derive.specs.Bound.{family, symbols_of}
use Rattle.plain.specs.Plain.{symbols, alternatives, alts, makes, sum_of, weight, size}

pub sum-append : {A : Type 0} (f : A → ℕ) (xs ys : List A) → sum_of f (xs ++ ys) ≡ sum_of f xs + sum_of f ys
sum-append f [] ys = omega arith
sum-append f (x ∷ xs) ys = omega (arith, sum-append f xs ys)

module _ (g : Grammar) where
  -- the weight of the rules that a symbol makes, and that of those that are made in a list of symbols
  abbrev own : Symbol → ℕ
  own s = sum_of (λ x. weight (alts g x)) (makes s)

  abbrev made : List Symbol → ℕ
  made ss = sum_of own ss

  mutual
    within-few : (s : Symbol) → Proper s → length (within s) ≤ 1 + made (within s)
    within-few (terminal x) p = omega arith
    within-few (nonterminal m n) p = omega arith
    within-few (group b) p = omega (arith, body-few b p)
    within-few (option f) p = omega (arith, within-few f p)
    within-few (repeat0 f) p = omega (arith, within-few f p)
    within-few (repeat1 f) p = omega (arith, within-few f p)
    within-few (repeat0sep f sep) p = omega (arith, within-few f p.0, within-few sep p.1, length-append (within f) (within sep), sum-append own (within f) (within sep))
    within-few (repeat1sep f sep) p = omega (arith, within-few f p.0, within-few sep p.1, length-append (within f) (within sep), sum-append own (within f) (within sep))
    within-few (rest f sep) p = absurd p

    alternative-few : (a : Alternative) → ProperAlternative a → length (within_alternative a) ≤ length (symbols a) + made (within_alternative a)
    alternative-few nil p = omega arith
    alternative-few (cons f a) p =
        omega (arith, within-few f p.0, alternative-few a p.1, length-append (within f) (within_alternative a), sum-append own (within f) (within_alternative a))

    body-few : (b : Body) → ProperBody b → length (within_body b) ≤ weight (alternatives b) + made (within_body b)
    body-few (one a) p = omega (arith, alternative-few a p)
    body-few (also a b) p =
        omega (arith, alternative-few a p.0, body-few b p.1, length-append (within_alternative a) (within_body b), sum-append own (within_alternative a) (within_body b))

  rules-few : (rs : List Rule) → ProperRules rs
      → length (concat_map (λ r. within_body r.body) rs) ≤ sum_of (λ r. weight (alternatives r.body)) rs + made (concat_map (λ r. within_body r.body) rs)
  rules-few [] p = omega arith
  rules-few (r ∷ rs) p = omega (
    arith,
    body-few r.body p.0,
    rules-few rs p.1,
    length-append (within_body r.body) (concat_map (λ r. within_body r.body) rs),
    sum-append own (within_body r.body) (concat_map (λ r. within_body r.body) rs),
  )

  -- what is written is no more than the size, and the symbols of the plain rules at most four times as many, and the root
  written-few : ProperRules (rules g) → length (written g) ≤ size g
  unfolding size
  written-few p = rules-few (rules g) p

  makes-few : (s : Symbol) → length (makes s) ≤ 3
  makes-few (terminal x) = omega arith
  makes-few (nonterminal m n) = omega arith
  makes-few (group b) = omega arith
  makes-few (option f) = omega arith
  makes-few (repeat0 f) = omega arith
  makes-few (repeat1 f) = omega arith
  makes-few (repeat0sep f sep) = omega arith
  makes-few (repeat1sep f sep) = omega arith
  makes-few (rest f sep) = omega arith

  families-few : (ss : List Symbol) → length (concat_map family ss) ≤ 4 * length ss
  families-few [] = omega arith
  families-few (s ∷ ss) = omega (arith, makes-few s, families-few ss, length-append (family s) (concat_map family ss))

  pub symbols-few : ProperRules (rules g) → length (symbols_of g) ≤ 4 * size g + 1
  symbols-few p = omega (arith, families-few (written g), written-few p)
