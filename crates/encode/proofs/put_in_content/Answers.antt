use mathlib.Core.Path.{refl}
use native.Mathlib.Omega.{arith}
use Rattle.text.specs.Utf8.{utf8}
use Rattle.xml.specs.Bytes.{escape}
use Rattle.encode.specs.Out.{enc}
use Rattle.encode.proofs.Puts.{wrote-bytes, wrote-text}
use Rattle.encode.proofs.Texts.{content-other}
use Rattle.encode.proofs.put_in_content.Goals as goal

pub returns-in-38 : goal.returns-in-38
unfolding enc utf8 escape
returns-in-38 c = rw c.in-38.is (wrote-bytes _ c.put_all.ensures refl)

pub returns-in-60 : goal.returns-in-60
unfolding enc utf8 escape
returns-in-60 c = rw c.in-60.is (wrote-bytes _ c.put_all-in-60.ensures refl)

pub returns-in-62 : goal.returns-in-62
unfolding enc utf8 escape
returns-in-62 c = rw c.in-62.is (wrote-bytes _ c.put_all-in-62.ensures refl)

pub returns-in-13 : goal.returns-in-13
unfolding enc utf8 escape
returns-in-13 c = rw c.in-13.is (wrote-bytes _ c.put_all-in-13.ensures refl)

pub returns-in_default : goal.returns-in_default
returns-in_default c =
    wrote-text (content-other c.args.c (λ e. omega (arith, e, c.in_default)) (λ e. omega (arith, e, c.in_default))
    (λ e. omega (arith, e, c.in_default)) (λ e. omega (arith, e, c.in_default))) c.put_char.ensures
