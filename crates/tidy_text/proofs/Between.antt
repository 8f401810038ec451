-- What stands before a token, and whether a list begins after it, by its kind's number.
use mathlib.Core.Path.{◌≡◌, refl, ap, ◌∙◌}
use mathlib.Core.Logic.{⊎_elim}
use mathlib.Core.List.{List, [], ◌∷◌}
use Prim.Native.Nat.{ℕ, zero, suc, ◌<◌, ◌≤◌}
use native.Mathlib.Omega.{arith}
use lib.Dec.{ltb}
use borrow.Author.Tests.{eq-eqb, ne_eqb, lt-ltb, le-ltb}
use Rattle.text.specs.Lists.{Text, chars, pick}
use Rattle.text.proofs.Tests.{split}
use Rattle.tree.specs.Tokens.{Token}
use Rattle.tidy.specs.Scan.{Kind, opening, single, member, closing, heading, other, kind_of, depth, past, joint, before}
use Rattle.tidy.specs.Numbers.{kind_by, joint_by}

-- the joint, by what stands behind the factor
module _ (k : ℕ) where
  pub joint-0 : k ≡ 37 → joint_by k ≡ chars "**"
  unfolding joint_by
  joint-0 e = rw (eq-eqb k 37 e)

  pub joint-1 : (k ≡ 37 → ⊥) → k ≡ 38 → joint_by k ≡ chars "++"
  unfolding joint_by
  joint-1 f e = rw (ne_eqb k 37 f, eq-eqb k 38 e)

  pub joint-comma : (k ≡ 37 → ⊥) → (k ≡ 38 → ⊥) → joint_by k ≡ chars ", "
  unfolding joint_by
  joint-comma f g = rw (ne_eqb k 37 f, ne_eqb k 38 g)

-- the kinds
module _ (k : ℕ) where
  below_set : k < 12 → kind_by k ≡ single
  unfolding kind_by
  below_set h = rw (lt-ltb k 12 h)

  a-set : 12 ≤ k → k < 20 → kind_by k ≡ opening
  unfolding kind_by
  a-set h i = rw (le-ltb k 12 h, lt-ltb k 20 i)

  a-head : 20 ≤ k → k < 24 → kind_by k ≡ heading
  unfolding kind_by
  a-head h i = rw (le-ltb k 12 (omega arith), le-ltb k 20 h, lt-ltb k 24 i)

  a-member : 24 ≤ k → k < 28 → kind_by k ≡ member
  unfolding kind_by
  a-member h i = rw (le-ltb k 12 (omega arith), le-ltb k 20 (omega arith), le-ltb k 24 h, lt-ltb k 28 i)

  module _ (h : 28 ≤ k) where
    late : kind_by k ≡ pick (ltb k 29) closing (pick (ltb k 31) single (pick (ltb k 32) opening (pick (ltb k 33) closing (pick (ltb k 34) heading other))))
    unfolding kind_by
    late = rw (le-ltb k 12 (omega arith), le-ltb k 20 (omega arith), le-ltb k 24 (omega arith), le-ltb k 28 h)

    a-set-end : k < 29 → kind_by k ≡ closing
    a-set-end i = late ∙ rw (lt-ltb k 29 i)

    an-insertion : 29 ≤ k → k < 31 → kind_by k ≡ single
    an-insertion i j = late ∙ rw (le-ltb k 29 i, lt-ltb k 31 j)

    a-group : 31 ≤ k → k < 32 → kind_by k ≡ opening
    a-group i j = late ∙ rw (le-ltb k 29 (omega arith), le-ltb k 31 i, lt-ltb k 32 j)

    a-group-end : 32 ≤ k → k < 33 → kind_by k ≡ closing
    a-group-end i j = late ∙ rw (le-ltb k 29 (omega arith), le-ltb k 31 (omega arith), le-ltb k 32 i, lt-ltb k 33 j)

    a-bar : 33 ≤ k → k < 34 → kind_by k ≡ heading
    a-bar i j = late ∙ rw (le-ltb k 29 (omega arith), le-ltb k 31 (omega arith), le-ltb k 32 (omega arith), le-ltb k 33 i, lt-ltb k 34 j)

    an-operator : 34 ≤ k → kind_by k ≡ other
    an-operator i = late ∙ rw (le-ltb k 29 (omega arith), le-ltb k 31 (omega arith), le-ltb k 32 (omega arith), le-ltb k 33 (omega arith), le-ltb k 34 i)

-- what stands before a token of a kind, and the joint before a factor that begins with it
abbrev pub between : Kind → Text → Text
between opening j = j
between single j = j
between member j = chars "; "
between closing j = []
between heading j = []
between other j = []

pub before-is : (x : Token) (ts : List Token) → before (kind_of x) ts ≡ between (kind_of x) (joint (past 0 (x ∷ ts)))
before-is x ts = go (kind_of x)
  where
    go : (k : Kind) → before k ts ≡ between k (joint (elim (depth 0 k) as (λ _. List Token) [ zero ↦ ts | suc e ↦ past (suc e) ts ]))
    go opening = refl
    go single = refl
    go member = refl
    go closing = refl
    go heading = refl
    go other = refl

module _ (k : ℕ) (j : Text) where
  abbrev Stands : Text → Type 0
  Stands t = between (kind_by k) j ≡ t

  by : {t : Text} (c : Kind) → kind_by k ≡ c → between c j ≡ t → Stands t
  by c e q = ap (λ (z : Kind). between z j) e ∙ q

  pub before-factor : k < 20 → Stands j
  before-factor h = ⊎_elim (λ l. by single (below_set k l) refl) (λ l. by opening (a-set k l h) refl) (split k 12)

  pub before_head : 20 ≤ k → k < 24 → Stands []
  before_head h i = by heading (a-head k h i) refl

  pub before-member : 24 ≤ k → k < 28 → Stands (chars "; ")
  before-member h i = by member (a-member k h i) refl

  pub before-set-end : k ≡ 28 → Stands []
  before-set-end e = by closing (a-set-end k (omega arith) (omega arith)) refl

  pub before-late : 28 ≤ k → (k ≡ 28 → ⊥) → k < 32 → Stands j
  before-late h f i = ⊎_elim
      (λ (l : k < 29). absurd (f (omega arith)))
      (λ (l : 29 ≤ k). ⊎_elim (λ m. by single (an-insertion k h l m) refl) (λ m. by opening (a-group k h m i) refl) (split k 31))
      (split k 29)

  pub before-none : 32 ≤ k → Stands []
  before-none h = ⊎_elim
      (λ l. by closing (a-group-end k (omega arith) h l) refl)
      (λ l. ⊎_elim (λ m. by heading (a-bar k (omega arith) l m) refl) (λ m. by other (an-operator k (omega arith) m) refl) (split k 34))
      (split k 33)
