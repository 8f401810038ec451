-- What a search for an end passes over.
use mathlib.Core.Logic.{◌⊎◌, inl, inr}
use mathlib.Core.Path.{◌≡◌, sym, subst}
use mathlib.Core.List.{List}
use Prim.Native.Nat.{ℕ, ◌+◌, ◌≤◌}
use native.Mathlib.Omega.{arith}
use Rattle.chart.specs.Code.{next_kind}
use Rattle.chart.specs.Heights.{none, cell_at}
use Rattle.splits.specs.Splits.{rest_row, Barren, split_at}
use Rattle.splits.proofs.Values.{last-split, over-barren}
use Rattle.candidates.proofs.Searches.{Unmet, unmet, unmet-over}

module _ (c M F : List ℕ) (n : ℕ) (H : List ℕ) where
  -- a search for places where something is derived begins at the first place where the symbol may end
  pub unmet-from : {P : ℕ → Type 0} (p i j m : ℕ) → i ≤ j → ((l : ℕ) → P l → split_at c M F n H p i j l ≡ none → ⊥) → (m ≡ i) ⊎ ((m ≡ j) × (next_kind c (p + 1) ≡ 0)) → Unmet P i m
  unmet-from {P} p i j m l f (inl e) = subst (Unmet P i) (sym e) (unmet i)
  unmet-from p i j m l f (inr x) = record { order = omega (arith, x.0); none = λ k h b a. f k a (last-split c M F n H p i j k x.1 (λ e. omega (arith, x.0))) }

  -- and passes over those where nothing is
  pub unmet-barren : {P : ℕ → Type 0} {x m e j : ℕ} (p i : ℕ) → ((l : ℕ) → P l → split_at c M F n H p i j l ≡ none → ⊥) → x ≡ cell_at n (rest_row c (p + 1)) 0 j → Barren H x m e j
      → Unmet P i m → Unmet P i e
  unmet-barren p i f h b u = unmet-over u b.from (λ l lo hi a. f l a (over-barren c M F n H p i h b l lo hi))
