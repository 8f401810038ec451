use mathlib.Core.List.{List}
use mathlib.Core.Path.{◌≡◌, sym, subst, ◌∙◌}
use Prim.Native.Nat.{ℕ, ◌+◌}
use native.Mathlib.Omega.{arith}
use lib.ListN.{get_or, set}
use lib.Seq.{get_or-set_other}
use Rattle.listing.specs.Listing.{Sorted}
use Rattle.listing.proofs.Sorting.{hand-added}
use Rattle.listing.proofs.list_hand.Goals as goal

pub returns-in-Some : goal.returns-in-Some
returns-in-Some c =
    let a = c.args in
    let p = c.requires in
    let C = a.column.now in
    let q = get_or C 2050 0 in
    let x = c.wide-x.result in
    let y = c.in-Some.row in (
      λ (F : List ℕ) below r. subst (Sorted a.code.now a.marks.now F a.s.size a.s.j.0 (a.k + 1) (a.k + 1)) (sym c.add_hand.ensures)
          (hand-added a.code.now a.marks.now F a.s.size a.s.j.0 p.0 C a.k x below c.wide-x.ensures y c.in-Some.ensures r),
      subst (λ (D : List ℕ). get_or D 512 0 ≡ get_or C 512 0) (sym c.add_hand.ensures)
          (get_or-set_other (set (set C (1025 + q) x) (1537 + q) y) 2050 512 (q + 1) 0 (λ e. omega arith)
          ∙ get_or-set_other (set C (1025 + q) x) (1537 + q) 512 y 0 (λ e. omega arith) ∙ get_or-set_other C (1025 + q) 512 x 0 (λ e. omega arith)),
    )
