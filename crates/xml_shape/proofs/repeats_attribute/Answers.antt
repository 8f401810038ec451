use mathlib.Core.Path.{◌≡◌, refl}
use mathlib.Core.Bool.{Bool, true, false}
use Prim.Native.Nat.{ℕ, ◌+◌, ◌≤◌}
use native.Mathlib.Omega.{arith}
use Rattle.text.specs.Lists.{pick}
use Rattle.cursor.proofs.Turns.{text-is, open_is, attribute-is, close-is}
use Rattle.cursor.proofs.Folds.{reached-begin, reached-some, row-some, text-stands, on-text, on-close, on-end, open-node, open-past, attribute-node, attribute-past}
use Rattle.xml_shape.specs.Names.{repeated}
use Rattle.xml_shape.proofs.Folds.{Tally, tally-begin, tally-text, tally-element, tally-attribute, tally-close, tally-end, judged}
use Rattle.xml_shape.proofs.repeats_attribute.Goals as goal

names-at-most : (b : Bool) (n : ℕ) {m : ℕ} → m ≡ pick b n (n + 1) → m ≤ n + 1
names-at-most true n e = omega arith
names-at-most false n e = omega arith

pub loop-n-init : goal.loop-n-init
loop-n-init c = (refl, refl, omega arith, reached-begin (Tally _ _ _ _) (λ r k. tally-begin))

pub next-event-requires : goal.next-event-requires
next-event-requires c = reached-some (Tally _ _ _ _) c.loop-n.invariant.3 (row-some c.requires.some_row.1)

pub skip-at-requires : goal.skip-at-requires
skip-at-requires c =
    text-stands (Tally _ _ _ _) c.loop-n.invariant.3 c.next-event.ensures c.in-Text.is (row-some c.requires.some_row.1)

pub loop-n-smaller-in-Text : goal.loop-n-smaller-in-Text
loop-n-smaller-in-Text c = omega (arith, c.skip-at.ensures.falls, (text-is c.next-event.ensures c.in-Text.is).near)

pub loop-n-preserved-in-Text : goal.loop-n-preserved-in-Text
loop-n-preserved-in-Text c =
    let i = c.loop-n.invariant in
    let N = c.next-event.ensures in
    let e = c.in-Text.is in (
      omega (arith, i.0),
      i.1,
      omega (arith, i.2, (text-is N e).later, c.skip-at.ensures.later),
      on-text (Tally _ _ _ _) i.3 N e
          c.skip-at.ensures (Tally _ _ _ _) (λ r k₀ k t s l. tally-text t k),
    )

pub past-at-requires : goal.past-at-requires
past-at-requires c =
    (_, open-node (Tally _ _ _ _) c.loop-n.invariant.3 c.next-event.ensures c.in-Open.is (row-some c.requires.some_row.1))

pub loop-n-smaller-in-Open : goal.loop-n-smaller-in-Open
loop-n-smaller-in-Open c =
    omega (arith, c.past-at.ensures.falls, (open_is c.next-event.ensures c.in-Open.is).near)

pub loop-n-preserved-in-Open : goal.loop-n-preserved-in-Open
loop-n-preserved-in-Open c =
    let i = c.loop-n.invariant in (
      omega (arith, i.0),
      i.1,
      omega (
        arith,
        i.2,
        (open_is c.next-event.ensures c.in-Open.is).later,
        c.past-at.ensures.later,
      ),
      open-past (Tally _ _ _ _) i.3 c.next-event.ensures c.in-Open.is c.past-at.ensures
          (Tally _ _ _ _) (λ r k₀ k m n x N. tally-element n x k),
    )

pub add_name-requires : goal.add_name-requires
add_name-requires c =
    let A = attribute-is c.next-event.ensures c.in-Attribute.is in
    A.fits

pub names_on-count-requires : goal.names_on-count-requires
names_on-count-requires c =
    let A = attribute-is c.next-event.ensures c.in-Attribute.is in
    omega (arith, c.loop-n.invariant.2, A.later, A.listed)

pub past-at-requires-in-Attribute : goal.past-at-requires-in-Attribute
past-at-requires-in-Attribute c =
    (_, attribute-node (Tally _ _ _ _) c.loop-n.invariant.3 c.next-event.ensures c.in-Attribute.is (row-some c.requires.some_row.1))

pub loop-n-smaller-in-Attribute : goal.loop-n-smaller-in-Attribute
loop-n-smaller-in-Attribute c =
    omega (arith, c.past-at-in-Attribute.ensures.falls, (attribute-is c.next-event.ensures c.in-Attribute.is).near)

pub loop-n-preserved-in-Attribute : goal.loop-n-preserved-in-Attribute
loop-n-preserved-in-Attribute c =
    let i = c.loop-n.invariant in
    let A = attribute-is c.next-event.ensures c.in-Attribute.is in (
      omega (arith, i.0, c.next-event.auto.scratch),
      omega (arith, i.1, c.add_name.auto.seen),
      omega (arith, i.2, names-at-most c.either-twice.result c.loop-n.count c.names_on-count.ensures, A.later, c.past-at-in-Attribute.ensures.later),
      attribute-past (Tally _ _ _ _) i.3 c.next-event.ensures c.in-Attribute.is c.past-at-in-Attribute.ensures (Tally _ _ _ _)
          (λ r k₀ k m n v N O. rw c.add_name.ensures.0
          (tally-attribute _ m n v k N (omega (arith, i.1, c.requires.name_tokens_in_bounds)) c.add_name.ensures.1
          c.either-twice.ensures c.names_on-count.ensures O)),
    )

pub loop-n-smaller : goal.loop-n-smaller
loop-n-smaller c = (close-is c.next-event.ensures c.in-Close.is).falls

pub loop-n-preserved : goal.loop-n-preserved
loop-n-preserved c =
    let i = c.loop-n.invariant in (
      omega (arith, i.0),
      i.1,
      omega (arith, i.2, (close-is c.next-event.ensures c.in-Close.is).later),
      on-close
          (Tally _ _ _ _) i.3 c.next-event.ensures c.in-Close.is (Tally _ _ _ _) (λ r k₀ k m n N. tally-close n k),
    )

pub shape_of-scratch-in-End : goal.shape_of-scratch-in-End
shape_of-scratch-in-End c = omega (arith, c.loop-n.invariant.0)

pub shape_of-seen-in-End : goal.shape_of-seen-in-End
shape_of-seen-in-End c = c.loop-n.invariant.1

pub returns-in-End : goal.returns-in-End
returns-in-End c =
    judged repeated c.requires.some_row (λ r S₀ x A. let m = on-end (Tally _ _ _ _) c.loop-n.invariant.3 c.next-event.ensures
    c.in-End.is r S₀ (Rattle.cursor.specs.Rest.row x) A in (m.0, tally-end m.1))
