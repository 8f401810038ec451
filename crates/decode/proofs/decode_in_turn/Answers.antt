use mathlib.Core.Path.{refl}
use Rattle.std.proofs.lemmas.Result.{err_from_is_err_and}
use Rattle.decode.proofs.Whole as law
use Rattle.decode.proofs.decode_in_turn.Goals as goal

pub returns-in_err-scan : goal.returns-in_err-scan
returns-in_err-scan c =
    let p = err_from_is_err_and c.from_residual.result c.from_residual.ensures.1 in
    rw (p.1, p.2) (law.refused c.in_err-scan.ensures _ refl)

pub returns : goal.returns
returns c = law.decoded c.in_ok-scan.ensures _ refl c.scan-2.ensures
