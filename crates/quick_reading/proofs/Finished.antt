-- From what the stages promise to what the walk is given.
use mathlib.Core.Bool.{Bool, true, false}
use mathlib.Core.List.{List}
use mathlib.Core.Logic.{⊎_elim}
use mathlib.Core.Path.{◌≡◌, sym, subst}
use Prim.Native.Nat.{ℕ, ◌*◌, ◌≤◌}
use native.Mathlib.Omega.{arith}
use lib.ListN.{length}
use Rattle.text.specs.Lists.{Text}
use Rattle.chart.specs.Heights.{stretches}
use Rattle.left_pass.specs.Left.{Lefted}
use Rattle.right_pass.specs.Right.{Righted}
use Rattle.right_pass.proofs.Given.{no-derivation}
use Rattle.reach.specs.Flags.{Wanted}
use Rattle.sparse.specs.Cells.{Tables}
use Rattle.sparse.proofs.Coded.{shape_of, flag-code, flag-stays, flag-root}
use Rattle.sparse.proofs.Empty.{least-all}
use Rattle.text.proofs.Tests.{look, clash}
use Rattle.quick.specs.Quick.{Filled}
use Rattle.reading.specs.Answer.{Finished, no-reading}
use Rattle.quick_reading.specs.Readable.{Flagged, Passed, Staged}

-- what the pass from the left flags, and what the one from the right leaves of it
pub left-flagged : {Tb c M : List ℕ} {R : Text} {size top : ℕ} {r : Bool} → Lefted Tb c R size top M r → Flagged Tb c R size top M
left-flagged l = record { long = l.long; closed = l.closed; only = l.only }

-- the root's rule does not reach the record's end
pub passed-left : {Tb c M : List ℕ} {R : Text} {size top first : ℕ} {b r : Bool} → Lefted Tb c R size top M b → b ≡ false → r ≡ false → Passed Tb c R size top first M r
passed-left l e z = record { left = left-flagged l; both = λ y. absurd (clash z y); none = λ _ g k. no-reading (λ t d. no-derivation k l e d) }

pub passed-both : {Tb c M : List ℕ} {R : Text} {size top first : ℕ} {r : Bool} → Righted Tb c R size top M → r ≡ true → Passed Tb c R size top first M r
passed-both l e = record { left = record { long = l.long; closed = l.left; only = l.only }; both = λ _. l; none = λ z. absurd (clash z e) }

-- an engine that did not fill the table may stop
pub stopped : {stops r : Bool} → (stops ≡ false → r ≡ true) → r ≡ false → stops ≡ true
stopped {stops} f e = ⊎_elim (λ q. q) (λ q. absurd (clash e (f q))) (look stops)

module _ {c M F : List ℕ} {size n top first : ℕ} (s : Staged c M F size n top first) where
  pub tables-of : {main : ℕ} → size * stretches n ≤ main → Tables c M F size n main
  tables-of room = record {
    shape = shape_of s.code s.small s.code-room;
    noted = s.noted;
    short = omega (arith, s.short, s.ends);
    marks-long = omega (arith, s.flags.long, s.ends);
    room = room;
  }

  module _ {H : List ℕ} (room : size * stretches n ≤ length H) (f : Filled c M F size n H) where
    unfoldable pub finished : Finished c M F H size n top first
    finished =
        let code = flag-code s.code s.flags.left s.flags.only in
        record {
          g = s.g;
          r = s.r;
          long = sym s.ends;
          code = code;
          tables = tables-of room;
          stays = flag-stays s.code s.flags.left s.flags.only s.flags.right;
          least = least-all s.empties M n H f.least;
          attained = λ i j h l. f.sound s.g s.r top first code (sym s.ends) i j h (omega arith) l;
          live = subst (Wanted M top) (sym s.ends) s.flags.right.root;
          used = flag-root s.code s.flags.left s.flags.only;
        }
