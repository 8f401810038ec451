use mathlib.Core.Path.{refl}
use native.Mathlib.Omega.{arith}
use Rattle.text.specs.Lists.{chars}
use Rattle.text.specs.Utf8.{utf8}
use Rattle.encode.specs.Out.{enc, Wrote}
use Rattle.encode.proofs.Puts.{wrote-bytes}
use Rattle.cursor.proofs.Turns.{text-is, open_is, attribute-is, close-is}
use Rattle.cursor.proofs.Folds.{reached-begin, reached-some, row-some, text-stands, on-text, on-close, on-end, open-node, open-past, attribute-node, attribute-enter}
use Rattle.writer.proofs.Folds.{Quoting, quoting-begin, quoting-text, quoting-element, quoting-attribute, quoting-close, quoting-end}
use Rattle.writer.proofs.put_attributes.Goals as goal

pub loop-n-init : goal.loop-n-init
loop-n-init c = (refl, refl, reached-begin (Quoting _ _ _ _ _) (λ r k. quoting-begin))

pub next-event-requires : goal.next-event-requires
next-event-requires c = reached-some (Quoting _ _ _ _ _) c.loop-n.invariant.2 (row-some c.requires.1)

pub put_quoted-pos-requires : goal.put_quoted-pos-requires
put_quoted-pos-requires c =
    omega (arith, c.requires.0, c.loop-n.invariant.1)

pub skip-at-requires : goal.skip-at-requires
skip-at-requires c =
    text-stands (Quoting _ _ _ _ _) c.loop-n.invariant.2 c.next-event.ensures c.in-Text.is (row-some c.requires.1)

pub loop-n-smaller-in-Text : goal.loop-n-smaller-in-Text
loop-n-smaller-in-Text c =
    omega (arith, c.skip-at.ensures.falls, (text-is c.next-event.ensures c.in-Text.is).near)

pub loop-n-preserved-in-Text : goal.loop-n-preserved-in-Text
loop-n-preserved-in-Text c =
    let i = c.loop-n.invariant in
    let N = c.next-event.ensures in (
      omega (arith, i.0),
      omega (arith, i.1),
      on-text (Quoting _ _ _ _ _) i.2 N c.in-Text.is c.skip-at.ensures
          (Quoting _ _ _ _ _) (λ r k₀ k t s l. quoting-text _ t k
          (λ z. c.put_quoted-pos.ensures t (rw z at (s _ c.text_at-p.ensures)))),
    )

pub past-at-requires : goal.past-at-requires
past-at-requires c =
    (_, open-node (Quoting _ _ _ _ _) c.loop-n.invariant.2 c.next-event.ensures c.in-Open.is (row-some c.requires.1))

pub loop-n-smaller-in-Open : goal.loop-n-smaller-in-Open
loop-n-smaller-in-Open c =
    omega (arith, c.past-at.ensures.falls, (open_is c.next-event.ensures c.in-Open.is).near)

pub loop-n-preserved-in-Open : goal.loop-n-preserved-in-Open
loop-n-preserved-in-Open c =
    let i = c.loop-n.invariant in (
      omega (arith, i.0),
      omega (arith, i.1),
      open-past (Quoting _ _ _ _ _) i.2 c.next-event.ensures c.in-Open.is
          c.past-at.ensures (Quoting _ _ _ _ _) (λ r k₀ k m n x N. quoting-element _ n x k),
    )

pub put_equals-pos-requires : goal.put_equals-pos-requires
put_equals-pos-requires c =
    (omega (arith, c.requires.0, c.loop-n.invariant.1), omega (arith, (attribute-is c.next-event.ensures c.in-Attribute.is).fits))

pub enter-at-requires : goal.enter-at-requires
enter-at-requires c =
    (_, attribute-node (Quoting _ _ _ _ _) c.loop-n.invariant.2 c.next-event.ensures c.in-Attribute.is (row-some c.requires.1))

pub loop-n-smaller-in-Attribute : goal.loop-n-smaller-in-Attribute
loop-n-smaller-in-Attribute c =
    omega (arith, c.enter-at.ensures.falls, (attribute-is c.next-event.ensures c.in-Attribute.is).near)

pub loop-n-preserved-in-Attribute : goal.loop-n-preserved-in-Attribute
loop-n-preserved-in-Attribute c =
    let i = c.loop-n.invariant in (
      omega (arith, i.0),
      omega (arith, i.1),
      attribute-enter (Quoting _ _ _ _ _) i.2 c.next-event.ensures
          c.in-Attribute.is c.enter-at.ensures (Quoting _ _ _ _ _)
          (λ r k₀ k m n v N. quoting-attribute _ n v k (c.put_equals-pos.ensures m n N)),
    )

pub put-pos-requires : goal.put-pos-requires
put-pos-requires c =
    omega (arith, c.requires.0, c.loop-n.invariant.1)

pub loop-n-smaller : goal.loop-n-smaller
loop-n-smaller c =
    (close-is c.next-event.ensures c.in-Close.is).falls

pub loop-n-preserved : goal.loop-n-preserved
unfolding enc utf8
loop-n-preserved c =
    let i = c.loop-n.invariant in
    let w : Wrote _ _ _ _ _ (chars "'") = wrote-bytes _ c.put-pos.ensures refl in (
      omega (arith, i.0),
      omega (arith, i.1),
      on-close (Quoting _ _ _ _ _) i.2 c.next-event.ensures c.in-Close.is
          (Quoting _ _ _ _ _) (λ r k₀ k m n N. quoting-close _ n k w),
    )

pub shape_of-scratch-in-End : goal.shape_of-scratch-in-End
shape_of-scratch-in-End c = omega (arith, c.loop-n.invariant.0)

pub shape_of-out-in-End : goal.shape_of-out-in-End
shape_of-out-in-End c = omega (arith, c.loop-n.invariant.1)

pub returns-in-End : goal.returns-in-End
returns-in-End c =
    quoting-end c.requires.1 c.moved.ensures (on-end (Quoting _ _ _ _ _) c.loop-n.invariant.2 c.next-event.ensures c.in-End.is)
