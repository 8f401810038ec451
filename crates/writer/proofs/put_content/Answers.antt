use mathlib.Core.Path.{refl, ap, ◌∙◌}
use native.Mathlib.Omega.{arith}
use Rattle.cursor.proofs.Turns.{text-is, open_is, attribute-is, close-is}
use Rattle.cursor.proofs.Folds.{reached-begin, reached-some, row-some, text-stands, on-text, on-close, on-end, open-node, open-enter, attribute-node, attribute-past}
use Rattle.writer.proofs.Folds.{room-left, Owing, owing-begin, owing-text, owing-element, owing-attribute, owing-close, owing-end}
use Rattle.tags.specs.declared.Output.{Output}
use Rattle.writer.proofs.put_content.Goals as goal

pub loop-n-init : goal.loop-n-init
loop-n-init c = (refl, refl, refl, reached-begin (Owing _ _ _ _ _) (λ r k. owing-begin))

pub next-event-requires : goal.next-event-requires
next-event-requires c = reached-some (Owing _ _ _ _ _) c.loop-n.invariant.3 (row-some c.requires.1)

pub put_text-o-requires : goal.put_text-o-requires
put_text-o-requires c =
    room-left c.loop-n.invariant.2 c.requires.0 c.loop-n.invariant.1

pub skip-at-requires : goal.skip-at-requires
skip-at-requires c =
    text-stands (Owing _ _ _ _ _) c.loop-n.invariant.3 c.next-event.ensures c.in-Text.is (row-some c.requires.1)

pub loop-n-smaller-in-Text : goal.loop-n-smaller-in-Text
loop-n-smaller-in-Text c =
    omega (arith, c.skip-at.ensures.falls, (text-is c.next-event.ensures c.in-Text.is).near)

pub loop-n-preserved-in-Text : goal.loop-n-preserved-in-Text
loop-n-preserved-in-Text c =
    let i = c.loop-n.invariant in
    let N = c.next-event.ensures in (
      omega (arith, i.0),
      omega (arith, i.1, c.put_text-o.auto.out),
      ap (λ (o : Output). o.limit) c.put_text-o.ensures.0 ∙ i.2,
      on-text (Owing _ _ _ _ _) i.3 N c.in-Text.is c.skip-at.ensures
          (Owing _ _ _ _ _) (λ r k₀ k t s l. owing-text i.2 t k l c.put_text-o.ensures.0
          (λ z. c.put_text-o.ensures.1 t (rw z at (s _ c.text_at.ensures)))),
    )

pub put_open-o-requires : goal.put_open-o-requires
put_open-o-requires c =
    let N = open_is c.next-event.ensures c.in-Open.is in record {
      limit_in_bounds = room-left c.loop-n.invariant.2 c.requires.0 c.loop-n.invariant.1;
      item_value = (
        N.is,
        open-node (Owing _ _ _ _ _) c.loop-n.invariant.3 c.next-event.ensures c.in-Open.is
            (row-some c.requires.1),
      );
    }

pub enter-at-requires : goal.enter-at-requires
enter-at-requires c = (
  c.args.«record».now,
  rw c.put_open-o.ensures.kept
      (open-node (Owing _ _ _ _ _) c.loop-n.invariant.3 c.next-event.ensures c.in-Open.is
      (row-some c.requires.1)),
)

pub loop-n-smaller-in-Open : goal.loop-n-smaller-in-Open
loop-n-smaller-in-Open c =
    omega (arith, c.enter-at.ensures.falls, (open_is c.next-event.ensures c.in-Open.is).near)

pub loop-n-preserved-in-Open : goal.loop-n-preserved-in-Open
loop-n-preserved-in-Open c =
    let i = c.loop-n.invariant in (
      omega (arith, i.0),
      omega (arith, i.1, c.put_open-o.auto.out),
      ap (λ (o : Output). o.limit) c.put_open-o.ensures.is ∙ i.2,
      open-enter (Owing _ _ _ _ _) i.3 c.next-event.ensures
          c.in-Open.is (rw c.put_open-o.ensures.kept at c.enter-at.ensures)
          (Owing _ _ _ _ _) (λ r k₀ k m n x N S₀ A. owing-element i.2 n x k c.put_open-o.ensures.is
          (λ z m. c.put_open-o.ensures.wrote S₀ n x k (rw z at A) m)),
    )

pub past-at-requires : goal.past-at-requires
past-at-requires c =
    (_, attribute-node (Owing _ _ _ _ _) c.loop-n.invariant.3 c.next-event.ensures c.in-Attribute.is (row-some c.requires.1))

pub loop-n-smaller-in-Attribute : goal.loop-n-smaller-in-Attribute
loop-n-smaller-in-Attribute c =
    omega (arith, c.past-at.ensures.falls, (attribute-is c.next-event.ensures c.in-Attribute.is).near)

pub loop-n-preserved-in-Attribute : goal.loop-n-preserved-in-Attribute
loop-n-preserved-in-Attribute c =
    let i = c.loop-n.invariant in (
      omega (arith, i.0),
      omega (arith, i.1),
      i.2,
      attribute-past (Owing _ _ _ _ _) i.3 c.next-event.ensures
          c.in-Attribute.is c.past-at.ensures (Owing _ _ _ _ _) (λ r k₀ k m n v N. owing-attribute i.2 n v k),
    )

pub put_close-o-requires : goal.put_close-o-requires
put_close-o-requires c =
    (room-left c.loop-n.invariant.2 c.requires.0 c.loop-n.invariant.1, omega (arith, c.token_at.ensures.1))

pub loop-n-smaller : goal.loop-n-smaller
loop-n-smaller c =
    (close-is c.next-event.ensures c.in-Close.is).falls

pub loop-n-preserved : goal.loop-n-preserved
loop-n-preserved c =
    let i = c.loop-n.invariant in
    let t = c.token_at.ensures.0 in (
      omega (arith, i.0),
      omega (arith, i.1),
      ap (λ (o : Output). o.limit) c.put_close-o.ensures.0 ∙ i.2,
      on-close (Owing _ _ _ _ _) i.3 c.next-event.ensures
          c.in-Close.is (Owing _ _ _ _ _)
          (λ r k₀ k m n N. owing-close i.2 n k c.put_close-o.ensures.0 (c.put_close-o.ensures.1 m n (rw t N))),
    )

pub shape_of-scratch-in-End : goal.shape_of-scratch-in-End
shape_of-scratch-in-End c = omega (arith, c.loop-n.invariant.0)

pub shape_of-out-in-End : goal.shape_of-out-in-End
shape_of-out-in-End c = omega (arith, c.loop-n.invariant.1)

pub returns-in-End : goal.returns-in-End
returns-in-End c =
    owing-end c.requires.1 c.loop-n.invariant.2 (on-end (Owing _ _ _ _ _) c.loop-n.invariant.3 c.next-event.ensures c.in-End.is)
