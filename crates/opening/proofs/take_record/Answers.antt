use native.Mathlib.Omega.{arith}
use mathlib.Core.Path.{◌≡◌}
use Rattle.std.specs.Prelude.{Ok, Err}
use Rattle.std.proofs.lemmas.Result.{err_from_is_err_and}
use Rattle.decode.specs.declared.DecodeError.{DecodeError}
use Rattle.decode.specs.Refused.{why_of}
use Rattle.opening.proofs.Texts.{not_taken, too_many, taken}
use Rattle.opening.proofs.take_record.Goals as goal

pub returns-in_err-end : goal.returns-in_err-end
returns-in_err-end c =
    let p = err_from_is_err_and c.from_residual.result c.from_residual.ensures.1 in
    let why : (e : DecodeError) × (c.decode_text.result ≡ Err e) × (c.in_err-end.field-0.0 ≡ why_of 12 13 e) = grind arith in
    rw (p.1, p.2, why.2) (not_taken _ _ _ _ c.decode_text.ensures why.0 why.1)

pub returns-then-end-gt-RECORD_CHARACTERS : goal.returns-then-end-gt-RECORD_CHARACTERS
returns-then-end-gt-RECORD_CHARACTERS c =
    let some : c.decode_text.result ≡ Ok c.in_ok-end.end = grind arith in
    too_many _ _ _ _ c.decode_text.ensures _ some _ c.plain.ensures c.if-end-gt-RECORD_CHARACTERS.true

pub returns : goal.returns
returns c =
    let some : c.decode_text.result ≡ Ok c.in_ok-end.end = grind arith in
    taken _ _ _ _ c.decode_text.ensures _ some (omega (arith, c.if-end-gt-RECORD_CHARACTERS.false)) c.requires
