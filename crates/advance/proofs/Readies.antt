-- A round of the grammar whose items a table has.
use mathlib.Core.Bool.{Bool, true}
use mathlib.Core.Path.{◌≡◌, ap, subst, ◌∙◌}
use mathlib.Core.List.{List}
use Prim.Native.Nat.{ℕ, zero, suc, ◌+◌, ◌*◌, ◌<◌, ◌≤◌}
use native.Mathlib.Nat.{mul-le-mul}
use native.Mathlib.Omega.{arith}
use lib.ListN.{length, get_or}
use Rattle.text.specs.Limits.{most_size, record_chars}
use Rattle.text.specs.Lists.{Text}
use Rattle.tree.specs.Tree.{Grammar}
use Rattle.layout.proofs.Sums.{layout-length}
use Rattle.chart.specs.Code.{Fitting, Ruled, Coded}
use Rattle.chart.specs.Heights.{stretches, none}
use Rattle.rules.specs.Ready.{Ready}
use Rattle.numbering.specs.Names.{is_name, name_count}
use Rattle.numbering.proofs.Names.{names-count}
use Rattle.numbering.proofs.Stand.{all-stand}
use Rattle.sweeps.specs.Layers.{Upto}
use Rattle.full.proofs.Whole.{coded}
use Rattle.fixpoint.specs.Fixed.{Fixpoint}
use Rattle.rounds.specs.Rounds.{most_rounds}
use Rattle.rounds.specs.After.{Finished}
use Rattle.advance.specs.Numbered.{Numbered}
use Rattle.advance.specs.Advanced.{Advanced}
use Rattle.advance.specs.Round.{Rounded}
use Rattle.advance.proofs.Layered.{layered-of}
use Rattle.advance.proofs.Finishing.{full-fixed}
use Rattle.advance.proofs.Turns.{flag-most}
use Rattle.advance.proofs.Rounded.{numbered_of, listed_of, rounded, enough-rounds}

pub few-rounds : (a b : ℕ) → a ≤ 512 → b ≤ 201 → a * b ≤ 102912
few-rounds a b x y = mul-le-mul {n₁ = a} {m₁ = b} {n₂ = 512} {m₂ = 201} x y

module _ {Tb c : List ℕ} (f : List ℕ) {g : Grammar} {r : Text} {size top root : ℕ} (w : Ruled (Fitting f r) c g size top root) (ready : Ready Tb g size root)
    (small : size ≤ most_size) (code-room : 4 * size ≤ length c) (short : length r ≤ record_chars) (fits-room : size * (record_chars + 1) ≤ length f)
    (count : ℕ) (is : count ≡ name_count c size) (less : count ≤ size) where
  most-is : count * (length r + 1) ≡ most_rounds g r
  most-is = ap (λ (x : ℕ). x * (length r + 1)) (is ∙ names-count w ∙ layout-length g)

  few : most_rounds g r ≤ 102912
  few = omega (arith, most-is, few-rounds count (length r + 1) (omega arith) (omega arith))

  the_code : Coded c f g r size top root
  the_code = coded w small code-room short fits-room

  the-numbers : Numbered c g the_code.dots the_code.heads size
  unfolding the_code coded
  the-numbers = numbered_of w ready.count

  pub round-late : (h : ℕ) (t : List ℕ) → count * (length r + 1) ≤ h → Rounded g r h t t true
  round-late h t l =
      enough-rounds c f g r size top root the_code the-numbers (all-stand g ready.proper) (listed_of w) few h t (omega (arith, most-is))

  pub round_by : (h : ℕ) (t u : List ℕ) (last : Bool) → size * stretches (length r) ≤ length t → ((x : ℕ) → get_or t x 0 ≤ none) → h < count * (length r + 1)
      → (Upto c f size (length r) h t → Advanced c f size (length r) h (count * (length r + 1)) t u last) → Rounded g r h t u last
  round_by h t u last room most l a =
      rounded c f g r size top root the_code the-numbers (all-stand g ready.proper) (listed_of w) few h t u last room most (omega (arith, most-is))
      (subst (λ (x : ℕ). Upto c f size (length r) h t → Advanced c f size (length r) h x t u last) most-is a)

  -- the table of a finished read is a fixed point
  pub finished-fixed : (t : List ℕ) → ((x : ℕ) → get_or t x 0 ≤ none) → Finished g r t → Fixpoint c f size (length r) t
  finished-fixed t most a =
      full-fixed c f g r size top root the_code the-numbers (all-stand g ready.proper) (listed_of w) (omega (arith, few))
      (layered-of c f g r size top root the_code the-numbers (suc (most_rounds g r)) t a (omega (arith, few)) most)

pub name-most : (c : List ℕ) (n : ℕ) → name_count c n ≤ n
name-most c zero = omega arith
name-most c (suc n) = omega (arith, name-most c n, flag-most (is_name c n))
