-- What stands before and after a token's own text, by the range of its kind.
use mathlib.Core.Path.{◌≡◌}
use mathlib.Core.List.{List, [], ◌∷◌}
use Prim.Native.Nat.{ℕ, ◌%◌, ◌<◌, ◌≤◌}
use lib.ListN.{length, get_or}
use borrow.Author.Tests.{eq-eqb, ne_eqb, lt-ltb, le-ltb}
use Rattle.text.specs.Lists.{chars}
use Rattle.tidy.specs.Numbers.{sign_by}
use Rattle.tidy_parts.specs.Parts.{lead_by, sign_at}

module _ (k : ℕ) where
  pub lead-mark : k < 24 → lead_by k ≡ sign_by (k % 4)
  unfolding lead_by
  lead-mark h = rw (lt-ltb k 24 h)

  pub lead-member : 24 ≤ k → k < 29 → lead_by k ≡ []
  unfolding lead_by
  lead-member h i = rw (le-ltb k 24 h, lt-ltb k 29 i)

  pub lead-insert : 24 ≤ k → 29 ≤ k → k < 31 → lead_by k ≡ chars "+"
  unfolding lead_by
  lead-insert h i j = rw (le-ltb k 24 h, le-ltb k 29 i, lt-ltb k 31 j)

  pub lead-version : 24 ≤ k → 29 ≤ k → 31 ≤ k → k ≡ 40 → lead_by k ≡ chars "ixml version "
  unfolding lead_by
  lead-version h i j e = rw (le-ltb k 24 h, le-ltb k 29 i, le-ltb k 31 j, eq-eqb k 40 e)

  pub lead-none : 24 ≤ k → 29 ≤ k → 31 ≤ k → (k ≡ 40 → ⊥) → lead_by k ≡ []
  unfolding lead_by
  lead-none h i j f = rw (le-ltb k 24 h, le-ltb k 29 i, le-ltb k 31 j, ne_eqb k 40 f)

module _ (s : List ℕ) (k : ℕ) where
  pub sign-past : length s ≤ k → sign_at s k ≡ []
  unfolding sign_at
  sign-past h = rw (le-ltb k (length s) h)

  pub sign-none : k < length s → get_or s k 0 ≡ 0x5f → sign_at s k ≡ []
  unfolding sign_at
  sign-none h e = rw (lt-ltb k (length s) h, eq-eqb (get_or s k 0) 0x5f e)

  pub sign-some : k < length s → (get_or s k 0 ≡ 0x5f → ⊥) → sign_at s k ≡ get_or s k 0 ∷ []
  unfolding sign_at
  sign-some h f = rw (lt-ltb k (length s) h, ne_eqb (get_or s k 0) 0x5f f)
