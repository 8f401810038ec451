use mathlib.Core.Path.{sym, ap}
use mathlib.Core.List.{[], ◌∷◌}
use Prim.Native.Nat.{ℕ}
use Rattle.encode.proofs.Puts.{wrote-bytes, wrote-text}
use Rattle.tidy_parts.proofs.Parts.{enc-low}
use Rattle.tidy_parts.proofs.put_digit.Goals as goal

pub returns : goal.returns
returns c =
    let e = c.lower_digit-digit.ensures in
    wrote-text (ap (λ (c : ℕ). c ∷ []) (sym e.0)) (wrote-bytes _ c.put.ensures (enc-low _ e.1))
