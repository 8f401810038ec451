use mathlib.Core.Path.{refl, ap}
use mathlib.Core.Bool.{not}
use native.Mathlib.Omega.{arith}
use Rattle.xml.specs.Document.{none, attr, elem, not_one}
use Rattle.cursor.proofs.Turns.{text-is, open_is, attribute-is, close-is}
use Rattle.cursor.proofs.Folds.{reached-begin, reached-some, row-some, text-stands, on-text, on-close, on-end, open-node, open-past, attribute-node, attribute-past}
use Rattle.xml_shape.proofs.Folds.{Sight, sight-begin, sight-on, sight-text, sight-close, sight-end, judged}
use Rattle.xml_shape.proofs.not_one.Goals as goal

pub loop-n-init : goal.loop-n-init
loop-n-init c = (refl, reached-begin (Sight _) (λ r k. sight-begin))

pub next-event-requires : goal.next-event-requires
next-event-requires c = reached-some (Sight _) c.loop-n.invariant.1 (row-some c.requires.1)

pub skip-at-requires : goal.skip-at-requires
skip-at-requires c =
    text-stands (Sight _) c.loop-n.invariant.1 c.next-event.ensures c.in-Text.is (row-some c.requires.1)

pub loop-n-smaller-in-Text : goal.loop-n-smaller-in-Text
loop-n-smaller-in-Text c = omega (arith, c.skip-at.ensures.falls, (text-is c.next-event.ensures c.in-Text.is).near)

pub loop-n-preserved-in-Text : goal.loop-n-preserved-in-Text
loop-n-preserved-in-Text c =
    let i = c.loop-n.invariant in
    (omega (arith, i.0), on-text (Sight _) i.1 c.next-event.ensures c.in-Text.is c.skip-at.ensures (Sight _) (λ r k₀ k t s l. sight-text t k l))

pub past-at-requires : goal.past-at-requires
past-at-requires c =
    (_, open-node (Sight _) c.loop-n.invariant.1 c.next-event.ensures c.in-Open.is (row-some c.requires.1))

pub loop-n-smaller-in-Open : goal.loop-n-smaller-in-Open
loop-n-smaller-in-Open c =
    omega (arith, c.past-at.ensures.falls, (open_is c.next-event.ensures c.in-Open.is).near)

pub loop-n-preserved-in-Open : goal.loop-n-preserved-in-Open
loop-n-preserved-in-Open c = (
  omega (arith, c.loop-n.invariant.0),
  open-past (Sight _) c.loop-n.invariant.1 c.next-event.ensures
      c.in-Open.is c.past-at.ensures (Sight _)
      (λ r k₀ k m n x N. sight-on (elem n x none) k c.one_more-shape.ensures),
)

pub past-at-requires-in-Attribute : goal.past-at-requires-in-Attribute
past-at-requires-in-Attribute c =
    (_, attribute-node (Sight _) c.loop-n.invariant.1 c.next-event.ensures c.in-Attribute.is (row-some c.requires.1))

pub loop-n-smaller-in-Attribute : goal.loop-n-smaller-in-Attribute
loop-n-smaller-in-Attribute c =
    omega (arith, c.past-at-in-Attribute.ensures.falls, (attribute-is c.next-event.ensures c.in-Attribute.is).near)

pub loop-n-preserved-in-Attribute : goal.loop-n-preserved-in-Attribute
loop-n-preserved-in-Attribute c = (
  omega (arith, c.loop-n.invariant.0),
  attribute-past (Sight _) c.loop-n.invariant.1 c.next-event.ensures
      c.in-Attribute.is c.past-at-in-Attribute.ensures (Sight _) (λ r k₀ k m n v N. sight-on (attr n v none) k refl),
)

pub loop-n-smaller : goal.loop-n-smaller
loop-n-smaller c = (close-is c.next-event.ensures c.in-Close.is).falls

pub loop-n-preserved : goal.loop-n-preserved
loop-n-preserved c =
    (omega (arith, c.loop-n.invariant.0), on-close (Sight _) c.loop-n.invariant.1 c.next-event.ensures c.in-Close.is (Sight _) (λ r k₀ k m n N. sight-close n k))

pub shape_of-scratch-in-End : goal.shape_of-scratch-in-End
shape_of-scratch-in-End c = omega (arith, c.loop-n.invariant.0)

pub returns-in-End : goal.returns-in-End
returns-in-End c =
    judged not_one (c.requires) (λ r S₀ x A. let m = on-end (Sight _) c.loop-n.invariant.1 c.next-event.ensures
    c.in-End.is r S₀ (Rattle.cursor.specs.Rest.row x) A in (m.0, sight-end m.1 _ (ap not c.is_one.ensures)))
