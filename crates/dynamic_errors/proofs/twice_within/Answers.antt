use mathlib.Core.Path.{refl}
use native.Mathlib.Omega.{arith}
use Rattle.cursor.proofs.Turns.{text-is, open_is, attribute-is, close-is}
use Rattle.cursor.proofs.Folds.{reached-begin, reached-some, row-some, text-stands, on-text, on-close, on-end, open-node, open-enter, attribute-node, attribute-past}
use Rattle.xml.specs.Document.{twice}
use Rattle.xml_shape.proofs.Folds.{judged}
use Rattle.dynamic_errors.proofs.Folds.{Hunt, hunt-begin, hunt-text, hunt-element, hunt-attribute, hunt-close, hunt-end}
use Rattle.dynamic_errors.proofs.twice_within.Goals as goal

pub loop-n-init : goal.loop-n-init
loop-n-init c = (refl, refl, reached-begin (Hunt _) (λ r k. hunt-begin))

pub next-event-requires : goal.next-event-requires
next-event-requires c =
    reached-some (Hunt _) c.loop-n.invariant.2 (row-some c.requires.1.1)

pub skip-at-requires : goal.skip-at-requires
skip-at-requires c =
    text-stands (Hunt _) c.loop-n.invariant.2 c.next-event.ensures c.in-Text.is (row-some c.requires.1.1)

pub loop-n-smaller-in-Text : goal.loop-n-smaller-in-Text
loop-n-smaller-in-Text c =
    omega (arith, c.skip-at.ensures.falls, (text-is c.next-event.ensures c.in-Text.is).near)

pub loop-n-preserved-in-Text : goal.loop-n-preserved-in-Text
loop-n-preserved-in-Text c =
    let i = c.loop-n.invariant in (
      omega (arith, i.0),
      i.1,
      on-text (Hunt _) i.2 c.next-event.ensures c.in-Text.is c.skip-at.ensures (Hunt _) (λ r k₀ k t s w O. hunt-text t k O),
    )

pub repeats_in-requires : goal.repeats_in-requires
repeats_in-requires c =
    let N = c.next-event.ensures in
    let e = c.in-Open.is in
    let i = c.loop-n.invariant in
    record { name_tokens_in_bounds = omega (arith, c.requires.0, i.1); item_value = ((open_is N e).is, (_, open-node (Hunt _) i.2 N e (row-some c.requires.1.1))) }

pub enter-at-requires : goal.enter-at-requires
enter-at-requires c =
    (c.requires.1.0, rw c.repeats_in.ensures.kept (open-node (Hunt _) c.loop-n.invariant.2 c.next-event.ensures c.in-Open.is (row-some c.requires.1.1)))

pub loop-n-smaller-in-Open : goal.loop-n-smaller-in-Open
loop-n-smaller-in-Open c =
    omega (arith, c.enter-at.ensures.falls, (open_is c.next-event.ensures c.in-Open.is).near)

pub loop-n-preserved-in-Open : goal.loop-n-preserved-in-Open
loop-n-preserved-in-Open c =
    let i = c.loop-n.invariant in
    let R = c.repeats_in.ensures in (
      omega (arith, i.0, c.next-event.auto.scratch, c.repeats_in.auto.scratch, c.enter-at.auto.scratch),
      omega (arith, i.1, c.repeats_in.auto.seen),
      open-enter (Hunt _) i.2 c.next-event.ensures c.in-Open.is (rw R.kept at c.enter-at.ensures) (Hunt _)
          (λ r k₀ k m n x N S₀ A O. hunt-element n x k (R.is r S₀ n x k A) c.either-found.ensures O),
    )

pub past-at-requires : goal.past-at-requires
past-at-requires c =
    (_, attribute-node (Hunt _) c.loop-n.invariant.2 c.next-event.ensures c.in-Attribute.is (row-some c.requires.1.1))

pub loop-n-smaller-in-Attribute : goal.loop-n-smaller-in-Attribute
loop-n-smaller-in-Attribute c =
    omega (arith, c.past-at.ensures.falls, (attribute-is c.next-event.ensures c.in-Attribute.is).near)

pub loop-n-preserved-in-Attribute : goal.loop-n-preserved-in-Attribute
loop-n-preserved-in-Attribute c =
    let i = c.loop-n.invariant in (
      omega (arith, i.0),
      i.1,
      attribute-past (Hunt _) i.2 c.next-event.ensures c.in-Attribute.is c.past-at.ensures (Hunt _) (λ r k₀ k m n v N O. hunt-attribute n v k O),
    )

pub loop-n-smaller : goal.loop-n-smaller
loop-n-smaller c =
    (close-is c.next-event.ensures c.in-Close.is).falls

pub loop-n-preserved : goal.loop-n-preserved
loop-n-preserved c =
    let i = c.loop-n.invariant in (
      omega (arith, i.0),
      i.1,
      on-close (Hunt _) i.2 c.next-event.ensures c.in-Close.is (Hunt _) (λ r k₀ k m n N O. hunt-close n k O),
    )

pub shape_of-scratch-in-End : goal.shape_of-scratch-in-End
shape_of-scratch-in-End c =
    omega (arith, c.loop-n.invariant.0)

pub shape_of-seen-in-End : goal.shape_of-seen-in-End
shape_of-seen-in-End c =
    c.loop-n.invariant.1

pub returns-in-End : goal.returns-in-End
returns-in-End c =
    judged twice c.requires.1 (λ r S₀ x A. let m = on-end (Hunt _) c.loop-n.invariant.2 c.next-event.ensures c.in-End.is r S₀ _ A in (m.0, hunt-end m.1))
