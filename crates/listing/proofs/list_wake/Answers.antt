use mathlib.Core.List.{List}
use mathlib.Core.Path.{◌≡◌, refl, sym, subst, ◌∙◌}
use Prim.Native.Nat.{ℕ, ◌+◌}
use native.Mathlib.Omega.{arith}
use lib.ListN.{get_or, set}
use lib.Seq.{get_or-set_other}
use Rattle.listing.specs.Listing.{Sorted}
use Rattle.listing.proofs.Sorting.{wake-skipped, wake-added}
use Rattle.listing.proofs.list_wake.Goals as goal

pub returns-then-is_waking : goal.returns-then-is_waking
returns-then-is_waking c =
    let a = c.args in
    let p = c.requires in
    let C = a.column.now in
    let q = get_or C 2049 0 in
    let x = c.wide-x.result in (
      λ (M : List ℕ) (j : ℕ) below r. subst (Sorted a.code.now M a.notes.now a.size j (a.k + 1) a.k) (sym c.add_wake.ensures)
          (wake-added a.code.now M a.notes.now a.size j p.0 C a.k x below c.wide-x.ensures (c.is_waking.ensures.0 c.if-is_waking.true) r),
      subst (λ (D : List ℕ). get_or D 512 0 ≡ get_or C 512 0) (sym c.add_wake.ensures)
          (get_or-set_other (set C (513 + q) x) 2049 512 (q + 1) 0 (λ e. omega arith) ∙ get_or-set_other C (513 + q) 512 x 0 (λ e. omega arith)),
    )

pub returns-else-is_waking : goal.returns-else-is_waking
returns-else-is_waking c =
    let a = c.args in
    let p = c.requires in (
      λ (M : List ℕ) (j : ℕ) below r. wake-skipped a.code.now M a.notes.now a.size j p.0 a.column.now a.k c.wide-x.result below c.wide-x.ensures
          (c.is_waking.ensures.1 c.if-is_waking.false r.units) r,
      refl,
    )
