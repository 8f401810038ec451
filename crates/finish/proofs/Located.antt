-- What the search for the fault over a finished table is given.
use mathlib.Core.List.{List}
use mathlib.Core.Path.{◌≡◌, refl}
use Prim.Native.Nat.{ℕ, ◌+◌, ◌*◌, ◌<◌, ◌≤◌}
use native.Mathlib.Omega.{arith}
use lib.ListN.{length}
use Rattle.text.specs.Limits.{most_size, record_chars, grammar_table}
use Rattle.text.specs.Lists.{Text}
use Rattle.tree.specs.Tree.{Grammar}
use Rattle.chart.specs.Code.{next_kind, goes_at, On, at-end, at-terminal, at_symbol, Ruled}
use Rattle.chart.specs.Heights.{stretches}
use Rattle.rules.specs.Ready.{Token}
use Rattle.left_pass.proofs.Shifts.{fits-within}
use Rattle.right_pass.proofs.Given.{given-of}
use Rattle.reach.specs.Flags.{Fits, Ends, Wanted, LeftClosed, FitsOnly}
use Rattle.sparse.specs.Cells.{Noted, Tables}
use Rattle.sparse.specs.Steps.{Empties}
use Rattle.sparse.proofs.Coded.{shape_of}
use Rattle.fault.specs.Firsts.{Tokened}
use Rattle.fault.specs.Far.{Placing}

-- all is ready for the search
pub record Located (Tb c M F : List ℕ) (R : Text) (size top main : ℕ) : Type 0 where
  pub long : length Tb ≡ grammar_table
  pub small : size ≤ most_size
  pub code-room : 4 * size ≤ length c
  pub short : length R ≤ record_chars
  pub room : size * stretches (length R) ≤ main
  pub marks-long : 1536 * length R + 1536 ≤ length M
  pub left : LeftClosed (Token Tb) c R size top M
  pub only : FitsOnly (Token Tb) c R size M
  pub wants : (e j : ℕ) → e < size → j ≤ length R → Ends M e j → Wanted M e j
  pub noted : Noted c size F
  pub empties : Empties c F size

module _ {Tb c M F : List ℕ} {R : Text} {size top first main : ℕ} {g : Grammar} (k : Ruled (Token Tb) c g size top first) (s : Located Tb c M F R size top main) where
  pub tables-for : Tables c M F size (length R) main
  tables-for = record { shape = shape_of k s.small s.code-room; noted = s.noted; short = s.short; marks-long = s.marks-long; room = s.room }

  pub tokened-for : Tokened Tb c size
  tokened-for =
      let v = given-of k {R = R} {M = M} s.long s.small s.code-room s.short s.marks-long in
      record { long = s.long; shape = shape_of k s.small s.code-room; here = v.here; is = v.token }

  within : (p i : ℕ) → p < size → i ≤ length R → next_kind c p ≡ 1 → Fits M p i → i + goes_at c p ≤ length R
  within p i h l z f = go (k.stands p h)
    where
      go : On (Token Tb) c g k.dots k.heads p → i + goes_at c p ≤ length R
      go (at-end y e) = absurd (omega arith)
      go (at-terminal x y b e w a) = omega (arith, fits-within x R i l (s.only p i x h l z f a), w)
      go (at_symbol u y b e m r d) = absurd (omega arith)

  pub placing : Placing Tb R c M F main size (length R) top
  placing = record { tokened = tokened-for; tables = tables-for; within = within; long = refl; top-inside = k.root-inside }
