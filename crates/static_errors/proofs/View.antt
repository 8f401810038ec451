-- The token at a place of a table that holds tokens.
use mathlib.Core.Path.{◌≡◌, refl, ap, ◌∙◌}
use mathlib.Core.Bool.{not, ◌&&◌}
use mathlib.Core.List.{List, [], ◌∷◌}
use Prim.Native.Nat.{ℕ, ◌+◌, ◌≤◌, ◌<◌}
use native.Mathlib.Omega.{arith}
use native.Mathlib.Decide.{ℕ_discrete}
use lib.Dec.{T, eqb}
use lib.ListN.{length, get_or, take, drop, length-take, length-drop}
use borrow.Author.Tests.{eq-eqb, ne_eqb}
use Rattle.text.specs.Lists.{Text, all}
use Rattle.text.proofs.Table.{and_left, and_right}
use Rattle.tree.specs.Tree.{Chars, string, hex}
use Rattle.tree.specs.Tokens.{Token, name, quoted, coded, include, exclude, member-quoted, member-coded, member-range, member-class}
use Rattle.tree.specs.Tokens.{set-end, insert-quoted, insert-coded, open-group, close-group, next-alternative, to-option, to-repeat0}
use Rattle.tree.specs.Tokens.{to-repeat1, to-repeat0sep, to-repeat1sep, rule-head, rule_end, version-is, mark_number}
use Rattle.tree.specs.Tokens.{numbers}
use Rattle.category.specs.Category.{letters}
use Rattle.static_errors.specs.Held.{single, lettered}
use Rattle.tokens.specs.Proper.{ProperEnd}
use Rattle.tokens.specs.Lengths.{length_at, Told, AllTold, TokenAt, Left}
use Rattle.tokens.specs.Names.{name_at}
use Rattle.tokens.proofs.Walk.{form, some_number, Reads, Spelt, stands-form, stands-reads, stands-spelt, left-token, left-length, left-within, left-next}
use Rattle.static_errors.specs.Parts.{used, headed, code, between, classed, part_of, part_at, part}
use Rattle.static_errors.specs.Scan.{sound, Tokens}

range-is : (a b : Chars) → T (single a && single b) → (v : ℕ → ℕ) → Reads (member-range a b) v → between (v 1) (v 2) (v 3) (v 4) ≡ part (member-range a b)
range-is (string []) b s v r = absurd s
range-is (string (c ∷ [])) (string []) s v r = absurd s
range-is (string (c ∷ [])) (string (d ∷ [])) s v r = rw (r 1 (omega arith), r 2 (omega arith), r 3 (omega arith), r 4 (omega arith))
range-is (string (c ∷ [])) (string (d ∷ e ∷ ds)) s v r = absurd s
range-is (string (c ∷ [])) (hex n) s v r = rw (r 1 (omega arith), r 2 (omega arith), r 3 (omega arith), r 4 (omega arith))
range-is (string (c ∷ d ∷ cs)) b s v r = absurd s
range-is (hex m) (string []) s v r = absurd s
range-is (hex m) (string (d ∷ [])) s v r = rw (r 1 (omega arith), r 2 (omega arith), r 3 (omega arith), r 4 (omega arith))
range-is (hex m) (string (d ∷ e ∷ ds)) s v r = absurd s
range-is (hex m) (hex n) s v r = rw (r 1 (omega arith), r 2 (omega arith), r 3 (omega arith), r 4 (omega arith))

class-is : (k : Text) → T (lettered k) → (v : ℕ → ℕ) → Reads (member-class k) v → letters (v 1) (v 2) ≡ k
class-is [] s v r = absurd s
class-is (c ∷ []) s v r = rw (r 1 (omega arith), r 2 (omega arith))
class-is (c ∷ d ∷ []) s v r = rw (r 1 (omega arith), r 2 (omega arith)) (elim (ℕ_discrete d 0) as (λ _. letters c d ≡ c ∷ d ∷ []) [
  | yes e ↦ absurd (nonzero d s e)
  | no e ↦ rw (ne_eqb d 0 e)
])
  where
    nonzero : (d : ℕ) → T (not (eqb d 0)) → d ≡ 0 → ⊥
    nonzero d s e = rw (eq-eqb d 0 e) at s
class-is (c ∷ d ∷ e ∷ k) s v r = absurd s

part-is : (x : Token) → T (sound x) → (v : ℕ → ℕ) → Reads x v → (n : Text) → Spelt x n → part_of (form x) n (v 1) (v 2) (v 3) (v 4) ≡ part x
unfolding part_of form
part-is (name m n) s v r c e = ap used (e (mark_number m) n refl)
part-is (quoted m cs) s v r c e = refl
part-is (coded m n) s v r c e = ap code (r 1 (omega arith))
part-is (include m) s v r c e = refl
part-is (exclude m) s v r c e = refl
part-is (member-quoted cs) s v r c e = refl
part-is (member-coded n) s v r c e = ap code (r 1 (omega arith))
part-is (member-range a b) s v r c e = range-is a b s v r
part-is (member-class k) s v r c e = ap classed (class-is k s v r)
part-is set-end s v r c e = refl
part-is (insert-quoted cs) s v r c e = refl
part-is (insert-coded n) s v r c e = ap code (r 1 (omega arith))
part-is open-group s v r c e = refl
part-is close-group s v r c e = refl
part-is next-alternative s v r c e = refl
part-is to-option s v r c e = refl
part-is to-repeat0 s v r c e = refl
part-is to-repeat1 s v r c e = refl
part-is to-repeat0sep s v r c e = refl
part-is to-repeat1sep s v r c e = refl
part-is (rule-head m n) s v r c e = ap headed (e (20 + mark_number m) n refl)
part-is rule_end s v r c e = refl
part-is (version-is cs) s v r c e = refl

-- a token as a tree of a text has it says how many numbers it takes
proper-end : (k : Chars) → T (single k) → ProperEnd k
proper-end (string []) s = absurd s
proper-end (string (c ∷ [])) s = refl
proper-end (string (c ∷ d ∷ cs)) s = absurd s
proper-end (hex n) s = tt

told : (x : Token) → T (sound x) → Told x
told (member-range a b) s = (proper-end a (and_left (single a) (single b) s), proper-end b (and_right (single a) (single b) s))
told (name m n) s = tt
told (quoted m cs) s = tt
told (coded m n) s = tt
told (include m) s = tt
told (exclude m) s = tt
told (member-quoted cs) s = tt
told (member-coded n) s = tt
told (member-class k) s = tt
told set-end s = tt
told (insert-quoted cs) s = tt
told (insert-coded n) s = tt
told open-group s = tt
told close-group s = tt
told next-alternative s = tt
told to-option s = tt
told to-repeat0 s = tt
told to-repeat1 s = tt
told to-repeat0sep s = tt
told to-repeat1sep s = tt
told (rule-head m n) s = tt
told rule_end s = tt
told (version-is cs) s = tt

all_told : (ts : List Token) → T (all sound ts) → AllTold ts
all_told [] s = tt
all_told (x ∷ xs) s = (told x (and_left (sound x) (all sound xs) s), all_told xs (and_right (sound x) (all sound xs) s))

pub record Step (t : List ℕ) (end k : ℕ) (x : Token) (xs : List Token) : Type 0 where
  pub fits : k + length_at t k ≤ end
  pub some : 0 < length_at t k
  pub part : part_at t k ≡ part x
  pub size : length_at t k ≡ length (numbers x)
  pub numbers : Reads x (λ j. get_or t (k + j) 0)
  pub next : Tokens t end (k + length_at t k) xs

module _ (t : List ℕ) (end k : ℕ) (x : Token) (xs : List Token) (h : Tokens t end k (x ∷ xs)) where
  left : Left t end k (x ∷ xs)
  left = record { told = all_told (x ∷ xs) h.sound; stands = h.held }

  token : TokenAt t k x
  token = left-token left h.high

  size-at : length_at t k ≡ length (numbers x)
  size-at = left-length left h.high

  pub spelt : Spelt x (name_at t k)
  spelt = stands-spelt token

  part-at : part_at t k ≡ part x
  part-at = ap (λ (s : ℕ). part_of s (name_at t k) (get_or t (k + 1) 0) (get_or t (k + 2) 0) (get_or t (k + 3) 0) (get_or t (k + 4) 0)) (stands-form token)
      ∙ part-is x (and_left (sound x) (all sound xs) h.sound) (λ j. get_or t (k + j) 0) (stands-reads token) (name_at t k) spelt

  pub step : Step t end k x xs
  step = record {
    fits = omega (arith, left-within left h.high, size-at);
    some = omega (arith, some_number x, size-at);
    part = part-at;
    size = size-at;
    numbers = stands-reads token;
    next = record {
      sound = and_right (sound x) (all sound xs) h.sound;
      low = omega (arith, left-within left h.high, size-at);
      high = h.high;
      held = ap (λ (n : ℕ). drop (k + n) (take end t)) size-at ∙ (left-next left).stands;
    };
  }

-- no token is left at the end, and one before it
pub none_left : (t : List ℕ) (end k : ℕ) (ts : List Token) → Tokens t end k ts → end ≤ k → ts ≡ []
none_left t end k [] h l = refl
none_left t end k (x ∷ xs) h l = let s = step t end k x xs h in let a = s.fits in let b = s.some in absurd (omega arith)

pub some_left : (t : List ℕ) (end k : ℕ) (ts : List Token) → Tokens t end k ts → k < end → (x : Token) × (xs : List Token) × (ts ≡ x ∷ xs)
some_left t end k [] h l =
    let e = simp (length-drop, length-take) at (ap length h.held) in
    let b = h.high in
    absurd (omega arith)
some_left t end k (x ∷ xs) h l = (x, xs, refl)
