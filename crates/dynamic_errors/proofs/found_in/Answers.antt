use mathlib.Core.Path.{refl, ap, ◌∙◌}
use native.Mathlib.Omega.{arith}
use Rattle.cursor.proofs.Turns.{text-is, open_is, attribute-is, close-is}
use Rattle.cursor.proofs.Folds.{reached-begin, reached-some, row-some, text-stands, on-text, on-close, on-end, open-node, open-enter, attribute-node, attribute-enter}
use Rattle.xml_names.specs.Flags.{both}
use Rattle.xml_names.proofs.Folds.{text-law, open-law, attribute-law, close-law, begin-law}
use Rattle.extent.proofs.Folds.{spans-begin, spans-text, spans-element, spans-attribute, spans-close}
use Rattle.dynamic_errors.proofs.Folds.{Search, found}
use Rattle.dynamic_errors.proofs.found_in.Goals as goal

pub loop-n-init : goal.loop-n-init
loop-n-init c = (refl, reached-begin (Search _ _ _) (λ r k. record { owed = begin-law; spans = rw c.none-extent.ensures spans-begin }))

pub next-event-requires : goal.next-event-requires
next-event-requires c =
    reached-some (Search _ _ _) c.loop-n.invariant.1 (row-some c.requires)

pub skip-at-requires : goal.skip-at-requires
skip-at-requires c =
    text-stands (Search _ _ _) c.loop-n.invariant.1 c.next-event.ensures c.in-Text.is (row-some c.requires)

pub loop-n-smaller-in-Text : goal.loop-n-smaller-in-Text
loop-n-smaller-in-Text c =
    omega (arith, c.skip-at.ensures.falls, (text-is c.next-event.ensures c.in-Text.is).near)

pub loop-n-preserved-in-Text : goal.loop-n-preserved-in-Text
loop-n-preserved-in-Text c =
    let i = c.loop-n.invariant in
    let p = c.text_at-p.ensures in (
      omega (arith, i.0, c.next-event.auto.scratch),
      on-text (Search _ _ _) i.1 c.next-event.ensures c.in-Text.is c.skip-at.ensures (Search _ _ _) (λ r k₀ k t s w O. record {
        owed = text-law k t (λ e. c.join-faults.ensures ∙ ap (both c.loop-n.faults) (c.of_text.ensures t (rw e at (s _ p)))) O.owed;
        spans = spans-text t k (s _ p) c.with_text-extent.ensures.0 c.with_text-extent.ensures.1 O.spans;
      }),
    )

pub of_name-requires : goal.of_name-requires
of_name-requires c =
    omega (arith, (open_is c.next-event.ensures c.in-Open.is).fits)

pub with_element-extent-requires : goal.with_element-extent-requires
with_element-extent-requires c =
    omega (arith, (open_is c.next-event.ensures c.in-Open.is).fits)

pub enter-at-requires : goal.enter-at-requires
enter-at-requires c =
    (_, open-node (Search _ _ _) c.loop-n.invariant.1 c.next-event.ensures c.in-Open.is (row-some c.requires))

pub loop-n-smaller-in-Open : goal.loop-n-smaller-in-Open
loop-n-smaller-in-Open c =
    omega (arith, c.enter-at.ensures.falls, (open_is c.next-event.ensures c.in-Open.is).near)

pub loop-n-preserved-in-Open : goal.loop-n-preserved-in-Open
loop-n-preserved-in-Open c =
    let i = c.loop-n.invariant in (
      omega (arith, i.0, c.next-event.auto.scratch, c.enter-at.auto.scratch),
      open-enter (Search _ _ _) i.1 c.next-event.ensures c.in-Open.is c.enter-at.ensures (Search _ _ _) (λ r k₀ k m n x N S₀ A O. record {
        owed = open-law k n x (c.join-faults-in-Open.ensures ∙ ap (both c.loop-n.faults) (c.of_name.ensures m n N)) O.owed;
        spans = spans-element n x k (c.with_element-extent.ensures.0 m n N) c.with_element-extent.ensures.1 O.spans;
      }),
    )

pub of_attribute-requires : goal.of_attribute-requires
of_attribute-requires c =
    omega (arith, (attribute-is c.next-event.ensures c.in-Attribute.is).fits)

pub with_attribute-extent-requires : goal.with_attribute-extent-requires
with_attribute-extent-requires c =
    omega (arith, (attribute-is c.next-event.ensures c.in-Attribute.is).fits)

pub enter-at-requires-in-Attribute : goal.enter-at-requires-in-Attribute
enter-at-requires-in-Attribute c =
    (_, attribute-node (Search _ _ _) c.loop-n.invariant.1 c.next-event.ensures c.in-Attribute.is (row-some c.requires))

pub loop-n-smaller-in-Attribute : goal.loop-n-smaller-in-Attribute
loop-n-smaller-in-Attribute c =
    omega (arith, c.enter-at-in-Attribute.ensures.falls, (attribute-is c.next-event.ensures c.in-Attribute.is).near)

pub loop-n-preserved-in-Attribute : goal.loop-n-preserved-in-Attribute
loop-n-preserved-in-Attribute c =
    let i = c.loop-n.invariant in (
      omega (arith, i.0, c.next-event.auto.scratch, c.enter-at-in-Attribute.auto.scratch),
      attribute-enter (Search _ _ _) i.1 c.next-event.ensures c.in-Attribute.is c.enter-at-in-Attribute.ensures (Search _ _ _) (λ r k₀ k m n v N O. record {
        owed = attribute-law k n v (c.join-faults-in-Attribute.ensures ∙ ap (both c.loop-n.faults) (c.of_attribute.ensures m n N)) O.owed;
        spans = spans-attribute n v k (c.with_attribute-extent.ensures.0 m n N) c.with_attribute-extent.ensures.1 O.spans;
      }),
    )

pub loop-n-smaller : goal.loop-n-smaller
loop-n-smaller c =
    (close-is c.next-event.ensures c.in-Close.is).falls

pub loop-n-preserved : goal.loop-n-preserved
loop-n-preserved c =
    let i = c.loop-n.invariant in (
      omega (arith, i.0),
      on-close (Search _ _ _) i.1 c.next-event.ensures c.in-Close.is (Search _ _ _)
          (λ r k₀ k m n N O. record { owed = close-law k n O.owed; spans = spans-close n k O.spans }),
    )

pub shape_of-scratch-in-End : goal.shape_of-scratch-in-End
shape_of-scratch-in-End c =
    omega (arith, c.loop-n.invariant.0)

pub returns-in-End : goal.returns-in-End
returns-in-End c =
    found _ c.requires (λ r S₀ k A. on-end (Search _ _ _) c.loop-n.invariant.1 c.next-event.ensures c.in-End.is r S₀ k A)
