use mathlib.Core.Path.{refl, sym, ap, ◌∙◌}
use native.Mathlib.Omega.{arith}
use Rattle.markup.specs.Tags.{state_of}
use Rattle.encode.proofs.Puts.{wrote-text}
use Rattle.tags.specs.Stated.{stated}
use Rattle.writer.proofs.Whole.{rooted, root-row, head-number, document-deleted, document-element, wrote-deleted, wrote-element}
use Rattle.writer.proofs.Whole.{row-again, came-at, attributed-at, started, started-is, unled, found_first}
use Rattle.writer.proofs.Folds.{room-left}
use Rattle.tags.specs.declared.Output.{Output}
use borrow.Author.Rules.{rules}
use Rattle.writer.proofs.put_document.Goals as goal

pub put_content-bare-requires : goal.put_content-bare-requires
put_content-bare-requires c = (
  c.requires.limit_in_bounds.0,
  row-again c.at_root-first.ensures refl (root-row (rooted c.requires.room.0 c.requires.room.1.job _
      (found_first c.args.parse.now c.look-a.ensures.0 c.alternative-item.ensures))),
)

pub returns-then-look-eq-DELETED_HEAD : goal.returns-then-look-eq-DELETED_HEAD
returns-then-look-eq-DELETED_HEAD c =
    record {
      kept = c.put_content-bare.ensures.kept;
      wrote = λ g t J M.
          let R = rooted c.requires.room.0 J _ (found_first c.args.parse.now c.look-a.ensures.0 c.alternative-item.ensures) in
          let N = c.head_at-head.ensures.named g J.tokens in
          let e = sym (head-number N) ∙ sym c.look.ensures.0 ∙ c.if-look-eq-DELETED_HEAD.true in
          let d = document-deleted R e in
          wrote-text (ap (stated (state_of c.args.from.due)) d)
          (wrote-deleted R c.requires.limit_in_bounds.1 (rw d at M) (came-at c.at_root-first.ensures c.put_content-bare.ensures));
    }

pub put_start-name-requires : goal.put_start-name-requires
put_start-name-requires c =
    (c.requires.limit_in_bounds.0, c.head_at-head.ensures.fits)

pub put_attributes-tag-requires : goal.put_attributes-tag-requires
put_attributes-tag-requires c = (
  room-left (ap (λ (o : Output). o.limit) c.put_start-name.ensures.0) c.requires.limit_in_bounds.0 (search rules),
  row-again c.at_root-first.ensures refl (root-row (rooted c.requires.room.0 c.requires.room.1.job _
      (found_first c.args.parse.now c.look-a.ensures.0 c.alternative-item.ensures))),
)

pub put_content-inner-requires : goal.put_content-inner-requires
put_content-inner-requires c = (
  room-left (ap (λ (o : Output). o.limit) (started-is c.args.from c.put_start-name.ensures.0 c.put_attributes-tag.ensures))
      c.requires.limit_in_bounds.0 (omega (arith, c.put_attributes-tag.auto.out, c.put_start-name.auto.out)),
  row-again c.at_root-first.ensures c.put_attributes-tag.ensures.kept (root-row (rooted c.requires.room.0 c.requires.room.1.job _
      (found_first c.args.parse.now c.look-a.ensures.0 c.alternative-item.ensures))),
)

pub put_close-whole-requires : goal.put_close-whole-requires
put_close-whole-requires c =
    let T = started-is c.args.from c.put_start-name.ensures.0 c.put_attributes-tag.ensures in (
      room-left (c.put_content-inner.ensures.limit ∙ ap (λ (o : Output). o.limit) T) c.requires.limit_in_bounds.0
          (omega (arith, c.put_content-inner.auto.out, c.put_attributes-tag.auto.out, c.put_start-name.auto.out)),
      c.head_at-head.ensures.fits,
    )

pub shape_of-out : goal.shape_of-out
shape_of-out c =
    let k = c.put_content-inner.auto.out in
    omega (arith, c.put_close-whole.auto.out, k, c.put_attributes-tag.auto.out, c.put_start-name.auto.out)

pub returns : goal.returns
returns c =
    let e = c.put_start-name.ensures.0 in
    let r = c.at_root-first.ensures in
    let A = c.put_attributes-tag.ensures in
    record {
      kept = c.put_content-inner.ensures.kept ∙ A.kept;
      wrote = λ g t J M.
          let R = rooted c.requires.room.0 J _ (found_first c.args.parse.now c.look-a.ensures.0 c.alternative-item.ensures) in
          let N = c.head_at-head.ensures.named g J.tokens in
          let w = started c.args.from e (attributed-at r A) g.root.name R.inner (c.put_start-name.ensures.1 _ _ N) R.stands in
          let d = document-element R (λ e. c.if-look-eq-DELETED_HEAD.false (c.look.ensures.0 ∙ head-number N ∙ e)) in
          wrote-text (ap (stated (state_of c.args.from.due)) d)
          (wrote-element R c.args.from g.root.name A.kept (started-is c.args.from e A) (rw d at M) (unled c.requires.limit_in_bounds.1 w)
          (came-at r c.put_content-inner.ensures) (c.put_close-whole.ensures.1 _ _ N));
    }
