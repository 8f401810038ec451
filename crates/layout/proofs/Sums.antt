-- Sums over the plain rules in order: their count, and the count of their dots.
use mathlib.Core.Bool.{Bool, true, false, ◌||◌}
use mathlib.Core.List.{List, [], ◌∷◌, ◌++◌}
use mathlib.Core.Path.{◌≡◌, refl, ap, ◌∙◌, subst}
use Prim.Native.Nat.{ℕ, ◌+◌}
use native.Mathlib.Omega.{arith}
use lib.ListN.{length, length-append}
use Rattle.text.specs.Lists.{Text, any, same, repeats, concat_map}
use borrow.Author.Tests.{eq-eqb}
use Rattle.text.proofs.Tests.{is_t, same-is, clash}
use Rattle.tree.specs.Tree.{unmarked, Symbol, terminal, nonterminal, group, option, repeat0, repeat1, repeat0sep, repeat1sep, rest}
use Rattle.tree.specs.Tree.{Alternative, nil, cons, Body, one, also, Rule, Grammar, rules}
use Rattle.plain.specs.Written.{within, within_alternative, within_body, written}
use Rattle.plain.specs.Static.{duplicate}
use Rattle.plain.specs.Plain.{alternatives, rule_for, alts, makes, ruled, sum_of, weight, size}
use Rattle.layout.specs.Layout.{laid, laid_alternative, laid_body, laid_rule, layout, dot_count, tails, dots_in, dots_of}

pub sum-append : {A : Type 0} (f : A → ℕ) (xs ys : List A) → sum_of f (xs ++ ys) ≡ sum_of f xs + sum_of f ys
sum-append f [] ys = omega arith
sum-append f (x ∷ xs) ys = omega (arith, sum-append f xs ys)

module _ (W : Symbol → ℕ) where
  -- the same sum over what symbols make, one by one
  made : List Symbol → ℕ
  made ss = sum_of (λ s. sum_of W (makes s)) ss

  made-append : (xs ys : List Symbol) → made (xs ++ ys) ≡ made xs + made ys
  unfolding made
  made-append xs ys = sum-append (λ s. sum_of W (makes s)) xs ys

  mutual
    unfolding made

    laid-sum : (s : Symbol) → sum_of W (laid s) ≡ made (within s)
    laid-sum (terminal x) = refl
    laid-sum (nonterminal m n) = refl
    laid-sum (group b) = simp sum-append (omega (arith, body-sum b))
    laid-sum (option f) = simp sum-append (omega (arith, laid-sum f))
    laid-sum (repeat0 f) = simp sum-append (omega (arith, laid-sum f))
    laid-sum (repeat1 f) = simp sum-append (omega (arith, laid-sum f))
    laid-sum (repeat0sep f sep) = simp sum-append (omega (arith, laid-sum f, laid-sum sep, made-append (within f) (within sep)))
    laid-sum (repeat1sep f sep) = simp sum-append (omega (arith, laid-sum f, laid-sum sep, made-append (within f) (within sep)))
    laid-sum (rest f sep) = simp sum-append (omega (arith, laid-sum f, laid-sum sep, made-append (within f) (within sep)))

    alternative-sum : (a : Alternative) → sum_of W (laid_alternative a) ≡ made (within_alternative a)
    alternative-sum nil = refl
    alternative-sum (cons f a) = omega (arith, sum-append W (laid f) (laid_alternative a), laid-sum f, alternative-sum a, made-append (within f) (within_alternative a))

    body-sum : (b : Body) → sum_of W (laid_body b) ≡ made (within_body b)
    body-sum (one a) = alternative-sum a
    body-sum (also a b) = omega (arith, sum-append W (laid_alternative a) (laid_body b), alternative-sum a, body-sum b, made-append (within_alternative a) (within_body b))

  rules-sum : (rs : List Rule) → sum_of W (concat_map laid_rule rs) ≡ sum_of (λ r. W (nonterminal unmarked r.name)) rs + made (concat_map (λ r. within_body r.body) rs)
  unfolding made
  rules-sum [] = refl
  rules-sum (r ∷ rs) =
      let own = nonterminal unmarked r.name ∷ [] in
      omega (
        arith,
        sum-append W (laid_rule r) (concat_map laid_rule rs),
        sum-append W (laid_body r.body) own,
        body-sum r.body,
        rules-sum rs,
        made-append (within_body r.body) (concat_map (λ r. within_body r.body) rs),
      )

  pub layout-sum : (g : Grammar) → sum_of W (layout g) ≡ sum_of (λ r. W (nonterminal unmarked r.name)) (rules g) + sum_of (λ s. sum_of W (makes s)) (written g)
  unfolding layout made
  layout-sum g = rules-sum (rules g)

  sum-concat : {A : Type 0} (f : A → List Symbol) (xs : List A) → sum_of W (concat_map f xs) ≡ sum_of (λ x. sum_of W (f x)) xs
  sum-concat f [] = refl
  sum-concat f (x ∷ xs) = omega (arith, sum-append W (f x) (concat_map f xs), sum-concat f xs)

  named-sum : (rs : List Rule) → sum_of W (concat_map (λ r. nonterminal unmarked r.name ∷ []) rs) ≡ sum_of (λ r. W (nonterminal unmarked r.name)) rs
  named-sum [] = refl
  named-sum (r ∷ rs) = omega (arith, named-sum rs)

  -- the order has the plain rules, each as often: whatever is counted or summed over both is the same
  pub layout-same : (g : Grammar) → sum_of W (layout g) ≡ sum_of W (ruled g)
  layout-same g =
      let names = concat_map (λ r. nonterminal unmarked r.name ∷ []) (rules g) in
      omega (arith, layout-sum g, sum-append W names (concat_map makes (written g)), named-sum (rules g), sum-concat makes (written g))

-- as many as there are rules, written and made
count-sum : {A : Type 0} (xs : List A) → length xs ≡ sum_of (λ x. 1) xs
count-sum [] = refl
count-sum (x ∷ xs) = omega (arith, count-sum xs)

count-concat : {A B : Type 0} (f : A → List B) (xs : List A) → length (concat_map f xs) ≡ sum_of (λ x. length (f x)) xs
count-concat f [] = refl
count-concat f (x ∷ xs) = omega (arith, length-append (f x) (concat_map f xs), count-concat f xs)

count-made : (ss : List Symbol) → length (concat_map makes ss) ≡ sum_of (λ s. sum_of (λ x. 1) (makes s)) ss
count-made [] = refl
count-made (s ∷ ss) = omega (arith, length-append (makes s) (concat_map makes ss), count-sum (makes s), count-made ss)

-- there are as many entries as rules that are written and made
pub layout-length : (g : Grammar) → length (layout g) ≡ length (ruled g)
layout-length g =
    let names = concat_map (λ r. nonterminal unmarked r.name ∷ []) (rules g) in
    omega (
      arith,
      count-sum (layout g),
      layout-sum (λ s. 1) g,
      length-append names (concat_map makes (written g)),
      count-made (written g),
      count-concat (λ r. nonterminal unmarked r.name ∷ []) (rules g),
    )

-- each rule is the one that its name finds
abbrev pub Own : List Rule → List Rule → Type 0
Own all [] = Unit {0}
Own all (r ∷ rs) = (rule_for all r.name ≡ alternatives r.body) × Own all rs

same_refl : (n : Text) → same n n ≡ true
same_refl [] = refl
same_refl (c ∷ n) = rw (eq-eqb c c refl) (same_refl n)

or-false : (a b : Bool) → a || b ≡ false → (a ≡ false) × (b ≡ false)
or-false true b e = absurd (clash e refl)
or-false false b e = (refl, e)

-- a rule in front with a name of its own
own-more : (q : Rule) (all rs : List Rule) → any (same q.name) (concat_map (λ r. r.name ∷ []) rs) ≡ false → Own all rs → Own (q ∷ all) rs
own-more q all [] e o = tt
own-more q all (r ∷ rs) e o =
    let k = or-false (same q.name r.name) (any (same q.name) (concat_map (λ r. r.name ∷ []) rs)) e in
    (by (same r.name q.name) refl k.0, own-more q all rs k.1 o.1)
  where
    by : (b : Bool) → same r.name q.name ≡ b → same q.name r.name ≡ false → rule_for (q ∷ all) r.name ≡ alternatives r.body
    by true p d = absurd (clash d (subst (λ (n : Text). same n r.name ≡ true) (same-is r.name q.name (is_t p)) (same_refl r.name)))
    by false p d = rw p o.0

own-rules : (rs : List Rule) → repeats (concat_map (λ r. r.name ∷ []) rs) ≡ false → Own rs rs
own-rules [] e = tt
own-rules (r ∷ rs) e =
    let k = or-false (any (same r.name) (concat_map (λ r. r.name ∷ []) rs)) (repeats (concat_map (λ r. r.name ∷ []) rs)) e in
    (rw (same_refl r.name), own-more r rs rs k.0 (own-rules rs k.1))

pub own_of : (g : Grammar) → duplicate g ≡ false → Own (rules g) (rules g)
unfolding duplicate
own_of g e = own-rules (rules g) e

own-sum : (all rs : List Rule) → Own all rs → sum_of (λ r. weight (rule_for all r.name)) rs ≡ sum_of (λ r. weight (alternatives r.body)) rs
own-sum all [] o = refl
own-sum all (r ∷ rs) o = omega (arith, ap weight o.0, own-sum all rs o.1)

-- the rules have `size g` dots, where no name has two rules
pub layout-size : (g : Grammar) → duplicate g ≡ false → dot_count g (layout g) ≡ size g
unfolding size
layout-size g e = layout-sum (λ s. weight (alts g s)) g ∙ ap (λ (n : ℕ). n + sum_of (λ s. sum_of (λ x. weight (alts g x)) (makes s)) (written g)) (own-sum (rules g) (rules g) (own_of g e))

-- as many lists of symbols as dots
pub tails-count : (ss : List Symbol) → length (tails ss) ≡ length ss + 1
tails-count [] = refl
tails-count (s ∷ ss) = omega (arith, tails-count ss)

pub dots-weigh : (ts : List (List Symbol)) → length (dots_in ts) ≡ weight ts
dots-weigh [] = refl
dots-weigh (ss ∷ ts) = omega (arith, length-append (tails ss) (dots_in ts), tails-count ss, dots-weigh ts)

dots-sum : (g : Grammar) (ss : List Symbol) → length (concat_map (λ s. dots_in (alts g s)) ss) ≡ dot_count g ss
dots-sum g [] = refl
dots-sum g (s ∷ ss) = omega (arith, length-append (dots_in (alts g s)) (concat_map (λ s. dots_in (alts g s)) ss), dots-weigh (alts g s), dots-sum g ss)

pub dots-size : (g : Grammar) → duplicate g ≡ false → length (dots_of g) ≡ size g
unfolding dots_of
dots-size g e = dots-sum g (layout g) ∙ layout-size g e
