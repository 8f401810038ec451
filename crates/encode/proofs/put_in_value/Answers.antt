use mathlib.Core.Path.{refl}
use native.Mathlib.Omega.{arith}
use Rattle.text.specs.Utf8.{utf8}
use Rattle.xml.specs.Bytes.{escape}
use Rattle.encode.specs.Out.{enc}
use Rattle.encode.proofs.Puts.{wrote-bytes, wrote-text}
use Rattle.encode.proofs.Texts.{value-other}
use Rattle.encode.proofs.put_in_value.Goals as goal

pub returns-in-39 : goal.returns-in-39
unfolding enc utf8 escape
returns-in-39 c = rw c.in-39.is (wrote-bytes _ c.put_all.ensures refl)

pub returns-in-10 : goal.returns-in-10
unfolding enc utf8 escape
returns-in-10 c = rw c.in-10.is (wrote-bytes _ c.put_all-in-10.ensures refl)

pub returns-in-9 : goal.returns-in-9
unfolding enc utf8 escape
returns-in-9 c = rw c.in-9.is (wrote-bytes _ c.put_all-in-9.ensures refl)

pub returns-in_default : goal.returns-in_default
returns-in_default c = wrote-text (value-other c.args.c (λ e. omega (arith, e, c.in_default)) (λ e. omega (arith, e, c.in_default)) (λ e. omega (arith, e, c.in_default))) c.put_in_content.ensures
