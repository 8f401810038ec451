-- From what the plain engine promises to what the walk is given.
use mathlib.Core.List.{List}
use mathlib.Core.Path.{◌≡◌, refl, sym, subst}
use Prim.Native.Nat.{ℕ, ◌+◌}
use native.Mathlib.Omega.{arith}
use lib.ListN.{length}
use Rattle.text.specs.Lists.{Text}
use Rattle.tree.specs.Tree.{Grammar}
use Rattle.chart.specs.Code.{Fitting, Ruled}
use Rattle.heights.specs.Filling.{Filled}
use Rattle.sparse.specs.Cells.{Noted}
use Rattle.sparse.specs.Steps.{Empties}
use Rattle.full.specs.Whole.{Marked}
use Rattle.full.proofs.Whole.{coded, shape, whole_code, whole-stays, whole-attained, whole-least, whole-live, whole-used}
use Rattle.chooser.specs.Choose.{Choosable}
use Rattle.reading.specs.Answer.{Finished}
use Rattle.plain_reading.specs.Filled.{Roomy, Walkable}

pub roomy : {Tb c f : List ℕ} {g : Grammar} {R : Text} {size root top main main' parse : ℕ} → Ruled (Fitting f R) c g size top root → Choosable Tb size root R main parse
    → length c ≡ 2048 → length f ≡ 102912 → main' ≡ main → Roomy c f R size main'
roomy k a l b e = record {
  small = a.small;
  code-room = omega (arith, a.small);
  short = a.short;
  fits-room = omega (arith, a.small);
  room = omega (arith, a.room);
}

module _ {c f M F H : List ℕ} {R : Text} {size top first : ℕ} {g : Grammar} (k : Ruled (Fitting f R) c g size top first) (a : Roomy c f R size (length H))
    (m : Marked c f size (length R + 1) M) (n : Noted c size F × Empties c F size) (h : Filled c f size (length R) H) where
  unfoldable pub finished-plain : Finished c M F H size (length R) top first
  finished-plain =
      let s = a.small in
      let l = a.code-room in
      let heights = h g R top first (coded k s l a.short a.fits-room) refl in
      record {
        g = g;
        r = R;
        long = refl;
        code = whole_code k m s l;
        tables = record { shape = shape k m s l; noted = n.0; short = a.short; marks-long = omega (arith, m.long, a.short); room = a.room };
        stays = whole-stays k m s l;
        least = whole-least k m s l a.short a.fits-room F H heights n.1;
        attained = whole-attained k m s l a.short a.fits-room F H heights n.1;
        live = whole-live k m s l;
        used = λ q x _. whole-used k m s l q x;
      }

-- the same by what the walk is given
pub finished-filled : {c f : List ℕ} {size n top first : ℕ} {H M₀ F₀ : List ℕ} {parse : ℕ} → Walkable c f size n top first H M₀ F₀ parse → {M F : List ℕ} → Marked c f size (n + 1) M
    → Noted c size F × Empties c F size → Finished c M F H size n top first
finished-filled {c} {f} {size} {n} {top} {first} {H} w {M} {F} m k = subst (λ (x : ℕ). Finished c M F H size x top first) (sym w.long)
    (finished-plain w.ruled w.roomy (subst (λ (x : ℕ). Marked c f size (x + 1) M) w.long m) k w.filled)
