-- The walk over a factor.
use mathlib.Core.Path.{◌≡◌, refl, sym, ap, ◌∙◌}
use mathlib.Core.Logic.{⊎_elim}
use mathlib.Core.List.{List, [], ◌∷◌}
use Prim.Native.Nat.{ℕ, zero, suc, ◌+◌, ◌-◌, ◌<◌, ◌≤◌}
use native.Mathlib.Omega.{arith}
use lib.ListN.{length, get_or}
use borrow.Author.Tests.{lt-ltb, le-ltb}
use Rattle.text.proofs.Tests.{split}
use Rattle.tree.specs.Tokens.{Token, numbers}
use Rattle.tokens.specs.Lengths.{length_at, Left}
use Rattle.tokens.proofs.Walk.{some_number, left-empty, left-within, left-first, left-length, left-next}
use Rattle.tidy.specs.Scan.{Kind, opening, single, member, closing, heading, other, kind_of, depth, past}
use Rattle.tidy.specs.Numbers.{kind_by}
use Rattle.tidy.proofs.Numbers.{numbered}

above : (k n : ℕ) → n ≤ k → (k ≡ n → ⊥) → n + 1 ≤ k
above k n h f = ⊎_elim (λ (l : k < n + 1). absurd (f (omega arith))) (λ (l : n + 1 ≤ k). l) (split k (n + 1))

-- sets and brackets open after a token of a kind
module _ (d k : ℕ) where
  pub depth-single : k < 12 → depth d (kind_by k) ≡ d
  unfolding kind_by
  depth-single h = rw (lt-ltb k 12 h)

  pub depth-set : 12 ≤ k → k < 20 → depth d (kind_by k) ≡ d + 1
  unfolding kind_by
  depth-set h i = rw (le-ltb k 12 h, lt-ltb k 20 i) (let e : suc d ≡ d + 1 = omega arith in e)

  pub depth-head : 20 ≤ k → k < 28 → depth d (kind_by k) ≡ d
  unfolding kind_by
  depth-head h i = ⊎_elim
      (λ (l : k < 24). rw (le-ltb k 12 (omega arith), le-ltb k 20 h, lt-ltb k 24 l))
      (λ (l : 24 ≤ k). rw (le-ltb k 12 (omega arith), le-ltb k 20 h, le-ltb k 24 l, lt-ltb k 28 i))
      (split k 24)

  pub depth-insert : 28 ≤ k → (k ≡ 28 → ⊥) → k < 31 → depth d (kind_by k) ≡ d
  unfolding kind_by
  depth-insert h f i =
      let g : 29 ≤ k = above k 28 h f in
      rw (le-ltb k 12 (omega arith), le-ltb k 20 (omega arith), le-ltb k 24 (omega arith), le-ltb k 28 h, le-ltb k 29 g, lt-ltb k 31 i)

  pub depth-other : 31 ≤ k → (k ≡ 31 → ⊥) → (k ≡ 32 → ⊥) → depth d (kind_by k) ≡ d
  unfolding kind_by
  depth-other h f g =
      let i : 33 ≤ k = above k 32 (above k 31 h f) g in ⊎_elim
      (λ (l : k < 34). rw (
        le-ltb k 12 (omega arith),
        le-ltb k 20 (omega arith),
        le-ltb k 24 (omega arith),
        le-ltb k 28 (omega arith),
        le-ltb k 29 (omega arith),
        le-ltb k 31 h,
        le-ltb k 32 (omega arith),
        le-ltb k 33 i,
        lt-ltb k 34 l,
      ))
      (λ (l : 34 ≤ k). rw (
        le-ltb k 12 (omega arith),
        le-ltb k 20 (omega arith),
        le-ltb k 24 (omega arith),
        le-ltb k 28 (omega arith),
        le-ltb k 29 (omega arith),
        le-ltb k 31 h,
        le-ltb k 32 (omega arith),
        le-ltb k 33 i,
        le-ltb k 34 l,
      ))
      (split k 34)

  pub depth-group : k ≡ 31 → depth d (kind_by k) ≡ d + 1
  unfolding kind_by
  depth-group e = rw e (let f : suc d ≡ d + 1 = omega arith in f)

  pub depth-end : kind_by k ≡ closing → depth d (kind_by k) ≡ d - 1
  depth-end e = rw e (closed d)
    where
      closed : (d : ℕ) → depth d closing ≡ d - 1
      closed zero = refl
      closed (suc d) = omega arith

pub ends_set : (k : ℕ) → k ≡ 28 → kind_by k ≡ closing
unfolding kind_by
ends_set k e = rw e

pub ends-group : (k : ℕ) → k ≡ 32 → kind_by k ≡ closing
unfolding kind_by
ends-group k e = rw e

pub depth-most : (d : ℕ) (k : Kind) → depth d k ≤ d + 1
depth-most d opening = omega arith
depth-most zero closing = omega arith
depth-most (suc d) closing = omega arith
depth-most d single = omega arith
depth-most d member = omega arith
depth-most d heading = omega arith
depth-most d other = omega arith

pub some : (k m : ℕ) → k ≡ m → (k ≡ 0 → ⊥) → 0 < m
some k m e f = let h = above k 0 (omega arith) f in omega arith

-- d sets and brackets being open at a place, what follows the factor is what follows from there
pub record Ahead (T : List ℕ) (end at d : ℕ) (rest : List Token) : Type 0 where
  pub tokens : List Token
  pub left : Left T end at tokens
  pub same : rest ≡ past d tokens

-- what follows, so many being open after a token
abbrev after : ℕ → List Token → List Token
after n us = elim n as (λ _. List Token) [ zero ↦ us | suc e ↦ past (suc e) us ]

pub record Step (T : List ℕ) (end at d : ℕ) (rest : List Token) : Type 0 where
  pub inside : at + length_at T at ≤ end
  pub forward : 0 < length_at T at
  pub ended : depth d (kind_by (get_or T at 0)) ≡ 0 → Left T end (at + length_at T at) rest
  pub goes : (0 < depth d (kind_by (get_or T at 0))) → Ahead T end (at + length_at T at) (depth d (kind_by (get_or T at 0))) rest

module _ {T : List ℕ} {end at d : ℕ} (i : end ≤ length T) where
  pub step : {rest : List Token} → at < end → Ahead T end at d rest → Step T end at d rest
  step {rest} h a = go a.tokens a.left a.same
    where
      on : (t : Token) (us : List Token) (e : ℕ) → e ≡ depth d (kind_of t) → 0 < e → past d (t ∷ us) ≡ past e us
      on t us zero q z = absurd (omega arith)
      on t us (suc e) q z = ap (λ (n : ℕ). after n us) (sym q)

      stop : (t : Token) (us : List Token) → depth d (kind_of t) ≡ 0 → past d (t ∷ us) ≡ us
      stop t us q = ap (λ (n : ℕ). after n us) q

      go : (us : List Token) → Left T end at us → rest ≡ past d us → Step T end at d rest
      go [] w e = absurd (omega (arith, left-empty w i))
      go (t ∷ us) w e =
          let n : length_at T at ≡ length (numbers t) = left-length w i in
          let f : kind_by (get_or T at 0) ≡ kind_of t = ap kind_by (left-first w i) ∙ numbered.kinds t in
          record {
            inside = omega (arith, left-within w i, n);
            forward = omega (arith, some_number t, n);
            ended = λ q. rw (n, e ∙ stop t us (ap (depth d) (sym f) ∙ q)) (left-next w);
            goes = λ q. record { tokens = us; left = rw n (left-next w); same = e ∙ on t us (depth d (kind_by (get_or T at 0))) (ap (depth d) f) q };
          }

  pub arrived : {rest : List Token} → end ≤ at → Ahead T end at d rest → Left T end at rest
  arrived {rest} h a = go a.tokens a.left a.same
    where
      go : (us : List Token) → Left T end at us → rest ≡ past d us → Left T end at rest
      go [] w e = rw e w
      go (t ∷ us) w e = absurd (omega (arith, left-within w i, some_number t))
