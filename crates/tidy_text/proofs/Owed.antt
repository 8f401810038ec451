-- The walk over all tokens: what is still owed at a place.
use mathlib.Core.Bool.{Bool, true, false}
use mathlib.Core.Path.{◌≡◌, refl, sym, ap, ◌∙◌}
use mathlib.Core.List.{List, [], ◌∷◌, ◌++◌, append_assoc}
use Prim.Native.Nat.{ℕ, ◌+◌, ◌<◌, ◌≤◌}
use native.Mathlib.Omega.{arith}
use lib.ListN.{length, get_or}
use Rattle.text.specs.Lists.{Text, pick}
use Rattle.tree.specs.Tokens.{Token, numbers}
use Rattle.tokens.specs.Lengths.{length_at, TokenAt, Left}
use Rattle.tokens.proofs.Walk.{some_number, left-empty, left-within, left-token, left-first, left-length, left-inside, left-next}
use Rattle.encode.specs.Out.{State, state, puts, enc, Wrote}
use Rattle.encode.proofs.Puts.{and_then, paid, puts_none, enc-none}
use Rattle.tidy.specs.Scan.{kind_of, past, joint, before, begins, token_text, scan}
use Rattle.tidy.specs.Numbers.{kind_by, joint_by}
use Rattle.tidy.proofs.Numbers.{numbered}
use Rattle.tidy_writer.specs.Parts.{Fit}
use Rattle.tidy_writer.specs.Walk.{SomeLeft}
use Rattle.tidy_text.specs.Whole.{AllFit}
use Rattle.tidy_text.proofs.Between.{between, before-is}

module _ {T : List ℕ} {end at : ℕ} (i : end ≤ length T) where
  -- what joins a factor, by the token there, if there is one
  pub joint-end : (ts : List Token) → end ≤ at → Left T end at ts → joint ts ≡ joint_by 39
  unfolding joint_by
  joint-end [] h w = refl
  joint-end (t ∷ ts) h w = absurd (omega (arith, left-within w i, some_number t))

  pub joint-at : (ts : List Token) → at < end → Left T end at ts → joint ts ≡ joint_by (get_or T at 0)
  joint-at [] h w = absurd (omega (arith, left-empty w i))
  joint-at (t ∷ ts) h w = sym (numbered.joints t) ∙ ap joint_by (sym (left-first w i))

  pub before-by : {x : Token} {ts : List Token} → Left T end at (x ∷ ts) → before (kind_of x) ts ≡ between (kind_by (get_or T at 0)) (joint (past 0 (x ∷ ts)))
  before-by {x} {ts} w =
      before-is x ts ∙ ap (λ k. between k (joint (past 0 (x ∷ ts)))) (sym (ap kind_by (left-first w i) ∙ numbered.kinds x))

  pub lead-by : (first : Bool) (x : Token) (ts : List Token) {t : Text} → first ≡ false → Left T end at (x ∷ ts)
      → between (kind_by (get_or T at 0)) (joint (past 0 (x ∷ ts))) ≡ t → pick first [] (before (kind_of x) ts) ≡ t
  lead-by first x ts e w q = rw e (before-by w ∙ q)

pub lead-first : (first : Bool) (t : Text) → first ≡ true → pick first [] t ≡ []
lead-first first t e = rw e

-- the tokens from a place on are owed
pub record Owed (l : ℕ) (T : List ℕ) (end at : ℕ) (first : Bool) (p : ℕ) (o : List ℕ) (fin : State) : Type 0 where
  pub tokens : List Token
  pub left : Left T end at tokens
  pub fit : AllFit tokens
  pub owed : puts l (state p o) (enc (scan first tokens)) ≡ fin

module _ {l : ℕ} {T : List ℕ} {end at : ℕ} {first : Bool} {p : ℕ} {o : List ℕ} {fin : State} (i : end ≤ length T) where
  pub owed-next : {at' : ℕ} {first' : Bool} {p₁ p₂ : ℕ} {o₁ o₂ : List ℕ} → at < end → Owed l T end at first p o fin
      → ((x : Token) (ts : List Token) → Left T end at (x ∷ ts) → Wrote l p o p₁ o₁ (pick first [] (before (kind_of x) ts)))
      → ((x : Token) → TokenAt T at x → Fit x → Wrote l p₁ o₁ p₂ o₂ (token_text x))
      → first' ≡ begins (kind_by (get_or T at 0)) → at' ≡ at + length_at T at → Owed l T end at' first' p₂ o₂ fin
  owed-next {at'} {first'} {p₁} {p₂} {o₁} {o₂} h a f g b e = go a.tokens a.left a.fit a.owed
    where
      go : (ts : List Token) → Left T end at ts → AllFit ts → puts l (state p o) (enc (scan first ts)) ≡ fin → Owed l T end at' first' p₂ o₂ fin
      go [] w q z = absurd (omega (arith, left-empty w i))
      go (x ∷ ts) w q z =
          let lead = pick first [] (before (kind_of x) ts) in
          let rest = scan (begins (kind_of x)) ts in
          let n : at' ≡ at + length (numbers x) = omega (arith, e, left-length w i) in
          let k : first' ≡ begins (kind_of x) = b ∙ ap begins (ap kind_by (left-first w i) ∙ numbered.kinds x) in
          record {
            tokens = ts;
            left = rw n (left-next w);
            fit = q.1;
            owed = rw k (paid (lead ++ token_text x) rest (scan first (x ∷ ts)) z (sym (append_assoc lead (token_text x) rest))
                (and_then (f x ts w) (g x (left-token w i) q.0)));
          }

  pub owed_none : end ≤ at → Owed l T end at first p o fin → state p o ≡ fin
  owed_none h a = go a.tokens a.left a.owed
    where
      go : (ts : List Token) → Left T end at ts → puts l (state p o) (enc (scan first ts)) ≡ fin → state p o ≡ fin
      go [] w z = sym (puts_none l (state p o)) ∙ rw enc-none at z
      go (x ∷ ts) w z = absurd (omega (arith, left-within w i, some_number x))

-- a step over a token
pub some_next : {T : List ℕ} {end at : ℕ} → at < end → SomeLeft T end at → SomeLeft T end (at + length_at T at)
some_next {T} {end} {at} h s = go s.tokens s.left
  where
    go : (ts : List Token) → Left T end at ts → SomeLeft T end (at + length_at T at)
    go [] w = absurd (omega (arith, left-empty w s.inside))
    go (x ∷ ts) w =
        let n : length_at T at ≡ length (numbers x) = left-length w s.inside in
        record { tokens = ts; left = rw n (left-next w); inside = s.inside; low = omega (arith, left-within w s.inside, n) }

pub some-within : {T : List ℕ} {end at : ℕ} → at < end → SomeLeft T end at → at + length_at T at ≤ length T
some-within {T} {end} {at} h s = go s.tokens s.left
  where
    go : (ts : List Token) → Left T end at ts → at + length_at T at ≤ length T
    go [] w = absurd (omega (arith, left-empty w s.inside))
    go (x ∷ ts) w = left-inside w s.inside

pub some-forward : {T : List ℕ} {end at : ℕ} → at < end → SomeLeft T end at → at < at + length_at T at
some-forward {T} {end} {at} h s = go s.tokens s.left
  where
    go : (ts : List Token) → Left T end at ts → at < at + length_at T at
    go [] w = absurd (omega (arith, left-empty w s.inside))
    go (x ∷ ts) w = omega (arith, some_number x, left-length w s.inside)
