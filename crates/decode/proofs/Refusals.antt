-- An answer that is no text has a refusal.
use mathlib.Core.Path.{◌≡◌}
use Prim.Native.Nat.{ℕ, suc}
use native.Mathlib.Omega.{arith}
use Rattle.decode.specs.declared.DecodeError.{DecodeError}
use Rattle.decode.specs.declared.DecodeError.TheVariants.{CutShort, Malformed, Unknown}
use Rattle.decode.specs.Refused.{why_of}

pub some-refusal : (m n : ℕ) (e : DecodeError) → (why_of (suc m) (suc n) e).number ≡ 0 → ⊥
some-refusal m n (CutShort p) e = omega arith
some-refusal m n (Malformed p) e = omega arith
some-refusal m n (Unknown p) e = omega arith
