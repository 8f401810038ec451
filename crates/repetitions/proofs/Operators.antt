-- The block of each operator, by its token.
use mathlib.Core.Bool.{Bool, true, false}
use mathlib.Core.List.{List, ◌∷◌, ◌++◌}
use mathlib.Core.Path.{◌≡◌}
use Prim.Native.Nat.{ℕ, ◌+◌, ◌≤◌}
use native.Mathlib.Omega.{arith}
use borrow.Author.Tests.{eq-eqb, ne_eqb}
use lib.Dec.{eqb}
use Rattle.text.specs.Lists.{pick}
use Rattle.repetitions.specs.Blocks.{Entry, both_ends, once_block, option_block, star_block, list_block}
use Rattle.repetitions.specs.Blocks.{one_block, one_count, one_first, two_block, two_count, two_first}

-- by the operator's token
pub record Is1 (k : ℕ) (f : Entry) (i : ℕ) (xs : List ℕ) (n m : ℕ) : Type 0 where
  pub block : one_block k f i ≡ xs
  pub count : one_count k ≡ n
  pub first : one_first k ≡ m

pub is-option : (k : ℕ) (f : Entry) (i : ℕ) → k ≡ 34 → Is1 k f i (option_block f) 3 0
unfolding one_block one_count one_first
is-option k f i e = record { block = simp (eq-eqb k 34 e); count = simp (eq-eqb k 34 e); first = simp (eq-eqb k 34 e) }

pub is-star : (k : ℕ) (f : Entry) (i : ℕ) → (k ≡ 34 → ⊥) → k ≡ 35 → Is1 k f i (star_block f i) 4 0
unfolding one_block one_count one_first
is-star k f i n e = record { block = simp (ne_eqb k 34 n, eq-eqb k 35 e); count = simp (ne_eqb k 34 n, eq-eqb k 35 e); first = simp (ne_eqb k 34 n, eq-eqb k 35 e) }

pub is-plus : (k : ℕ) (f : Entry) (i : ℕ) → (k ≡ 34 → ⊥) → (k ≡ 35 → ⊥) → Is1 k f i (star_block f i ++ once_block f i) 7 4
unfolding one_block one_count one_first
is-plus k f i n e = record { block = simp (ne_eqb k 34 n, ne_eqb k 35 e); count = simp (ne_eqb k 34 n, ne_eqb k 35 e); first = simp (ne_eqb k 34 n, ne_eqb k 35 e) }

pub least-count : (k : ℕ) → (k ≡ 34 → ⊥) → 4 ≤ one_count k
unfolding one_count
least-count k n = rw (ne_eqb k 34 n) (both (eqb k 35))
  where
    both : (p : Bool) → 4 ≤ pick p 4 7
    both true = omega arith
    both false = omega arith

pub record Is2 (k : ℕ) (f sep : Entry) (i : ℕ) (xs : List ℕ) (n m : ℕ) : Type 0 where
  pub block : two_block k f sep i ≡ xs
  pub count : two_count k ≡ n
  pub first : two_first k ≡ m

pub is-list : (k : ℕ) (f sep : Entry) (i : ℕ) → k ≡ 38 → Is2 k f sep i (list_block f sep i) 8 5
unfolding two_block two_count two_first
is-list k f sep i e = record { block = simp (eq-eqb k 38 e); count = simp (eq-eqb k 38 e); first = simp (eq-eqb k 38 e) }

pub is-maybe : (k : ℕ) (f sep : Entry) (i : ℕ) → (k ≡ 38 → ⊥) → Is2 k f sep i (list_block f sep i ++ (4 ∷ (i + 5) ∷ f.token ∷ both_ends)) 11 8
unfolding two_block two_count two_first
is-maybe k f sep i e = record { block = simp (ne_eqb k 38 e); count = simp (ne_eqb k 38 e); first = simp (ne_eqb k 38 e) }

pub least-two : (k : ℕ) → 8 ≤ two_count k
unfolding two_count
least-two k = both (eqb k 38)
  where
    both : (p : Bool) → 8 ≤ pick p 8 11
    both true = omega arith
    both false = omega arith
