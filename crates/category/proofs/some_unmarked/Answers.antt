use native.Mathlib.Omega.{arith}
use mathlib.Core.Path.{sym, ap, ◌∙◌}
use mathlib.Core.Bool.{false, ◌||◌}
use Prim.Native.Nat.{ℕ}
use lib.ListN.{get_or}
use borrow.Author.Count.{below_more}
use Rattle.category.proofs.Agree.{table, by_place}
use Rattle.category.proofs.Known.{number_at}
use Rattle.category.proofs.Marks.{unmarked-here, unmarked-none}
use Rattle.category.proofs.some_unmarked.Goals as goal

pub loop-k-init : goal.loop-k-init
loop-k-init c = (omega arith, λ j h. absurd (omega arith))

pub bounds-places-k : goal.bounds-places-k
bounds-places-k c = omega (arith, c.requires.places, c.loop-k-test.true)

pub bounds-table-k : goal.bounds-table-k
bounds-table-k c = c.loop-k-test.true

pub overflow_cast-table : goal.overflow_cast-table
unfolding table
overflow_cast-table c = omega (arith, by_place c.loop-k.k c.loop-k-test.true, number_at c.loop-k.k c.loop-k-test.true)

pub bounds-categories-table : goal.bounds-categories-table
unfolding table
bounds-categories-table c =
    let h = c.loop-k-test.true in
    omega (arith, c.requires.categories, by_place c.loop-k.k h, number_at c.loop-k.k h)

pub returns-then-not-either : goal.returns-then-not-either
unfolding table
returns-then-not-either c =
    let h = c.loop-k-test.true in
    let places = c.args.places.now in
    let categories = c.args.categories.now in
    unmarked-here places categories c.loop-k.k h
    (ap (λ (n : ℕ). get_or places c.loop-k.k false || get_or categories n false) (sym (by_place c.loop-k.k h))
    ∙ sym c.either.ensures ∙ c.if-not-either.true)

pub loop-k-smaller : goal.loop-k-smaller
loop-k-smaller c = omega (arith, c.loop-k-test.true)

pub loop-k-preserved : goal.loop-k-preserved
unfolding table
loop-k-preserved c =
    let h = c.loop-k-test.true in
    let places = c.args.places.now in
    let categories = c.args.categories.now in (
      omega (arith, h),
      below_more _ _ c.loop-k.invariant.1
          (ap (λ (n : ℕ). get_or places c.loop-k.k false || get_or categories n false) (sym (by_place c.loop-k.k h))
          ∙ sym c.either.ensures ∙ c.if-not-either.false),
    )

pub returns : goal.returns
returns c =
    unmarked-none c.args.places.now c.args.categories.now (λ k h. c.loop-k.invariant.1 k (omega (arith, c.loop-k-test.false)))
