-- Why a text is refused that is not decoded.
use Rattle.std.specs.Prelude.{ℕ, Result, Ok, Err}
use Rattle.text.specs.Stages.{plainly, at_byte}
use Rattle.text.specs.declared.CharPlace.{CharPlace}
use Rattle.text.specs.declared.Diagnostic.{Diagnostic}
use Rattle.decode.specs.declared.DecodeError.{DecodeError}
use Rattle.decode.specs.declared.DecodeError.TheVariants.{CutShort, Malformed, Unknown}

-- by the numbers for what is not UTF-8 and for a character outside the alphabet
abbrev pub why_of : ℕ → ℕ → DecodeError → Diagnostic
why_of malformed outside (CutShort p) = at_byte malformed p
why_of malformed outside (Malformed p) = at_byte malformed p
why_of malformed outside (Unknown p) = at_byte outside p

-- the same of what decoding answers: a text that is decoded is refused by nothing
abbrev pub why_decoded : ℕ → ℕ → Result CharPlace DecodeError → Diagnostic
why_decoded malformed outside (Ok n) = plainly 0
why_decoded malformed outside (Err e) = why_of malformed outside e
