use mathlib.Core.Path.{refl, sym, ap}
use mathlib.Core.Logic.{inl, inr}
use Prim.Native.Nat.{◌<◌}
use native.Mathlib.Omega.{arith}
use Rattle.tokens.specs.Lengths.{form_number}
use Rattle.tokens.proofs.Forms.{first-in, sized, length-range, length-class}
use Rattle.text.specs.Lists.{concat_map}
use Rattle.tidy.specs.Tidy.{quoted_text}
use Rattle.encode.specs.Out.{spelt}
use Rattle.encode.specs.declared.Spelling.TheVariants.{Plain}
use Rattle.encode.proofs.Puts.{wrote-text, wrote_none}
use Rattle.tidy_writer.proofs.Tokens.{held-as, held-name, held-quoted, held-coded, held-range, held-class, held_none}
use Rattle.tidy_writer.proofs.put_held.Goals as goal

pub bounds-t-k : goal.bounds-t-k
bounds-t-k c = first-in c.args.t.now c.args.k c.requires.1

pub returns-in-Name : goal.returns-in-Name
returns-in-Name c =
    let few : form_number c.of.result < 2 = elim c.in-Name.is [ inl e ↦ rw e (omega arith) | inr e ↦ rw e (omega arith) ] in
    held-as c.args.t.now c.args.k c.of.ensures (held-name c.args.t.now c.args.k _ _ c.look-second.ensures.0 few)
    (wrote-text (ap (concat_map (spelt Plain)) (sym c.stretch-text.ensures)) c.put_text.ensures)

pub put_quoted-requires : goal.put_quoted-requires
put_quoted-requires c = omega (arith, c.requires.0)

pub returns-in-Text : goal.returns-in-Text
returns-in-Text c =
    held-as c.args.t.now c.args.k c.in-Text.ensures
    (held-quoted c.args.t.now c.args.k 2 _ c.look-second.ensures.0 (omega arith) refl)
    (wrote-text (ap quoted_text (sym c.stretch-text.ensures)) c.put_quoted.ensures)

pub returns-in-Code : goal.returns-in-Code
returns-in-Code c =
    held-as c.args.t.now c.args.k c.in-Code.ensures
    (held-coded c.args.t.now c.args.k 3 _ c.look-second.ensures.0 (omega arith) (λ z. omega arith) refl) c.put_coded.ensures

pub put_range-requires : goal.put_range-requires
put_range-requires c =
    let h = sized c.args.t.now c.args.k c.requires.1 4 5 c.in-Range.ensures (length-range 4 _ refl) in
    (omega (arith, c.requires.0), omega (arith, h))

pub returns-in-Range : goal.returns-in-Range
returns-in-Range c =
    held-as c.args.t.now c.args.k c.in-Range.ensures
    (held-range c.args.t.now c.args.k 4 (omega arith) (λ z. omega arith) (λ z. omega arith) refl) c.put_range.ensures

pub put_class-requires : goal.put_class-requires
put_class-requires c =
    let h = sized c.args.t.now c.args.k c.requires.1 5 3 c.in-Class.ensures (length-class 5 _ refl) in
    (omega (arith, c.requires.0), omega (arith, h))

pub returns-in-Class : goal.returns-in-Class
returns-in-Class c =
    held-as c.args.t.now c.args.k c.in-Class.ensures
    (held-class c.args.t.now c.args.k 5 (omega arith) (λ z. omega arith) (λ z. omega arith) (λ z. omega arith) refl) c.put_class.ensures

pub returns-in-Bare : goal.returns-in-Bare
returns-in-Bare c =
    held-as c.args.t.now c.args.k c.in-Bare.ensures
    (held_none c.args.t.now c.args.k 6 (omega arith) (λ z. omega arith) (λ z. omega arith) (λ z. omega arith) (λ z. omega arith)) wrote_none
