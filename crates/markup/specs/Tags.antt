-- The parts of tags, and the state.
use Rattle.std.specs.Prelude.{Bool, true, false, [], ◌++◌}
use Rattle.text.specs.Lists.{Text, chars}
use Rattle.xml.specs.Bytes.{state}
use Rattle.markup.specs.declared.StateWords.{StateWords}

abbrev pub closing : Text → Text
closing n = chars "</" ++ n ++ chars ">"

abbrev pub lead_of : Bool → Text
lead_of true = chars ">"
lead_of false = []

abbrev pub end_of : Bool → Text → Text → Text
end_of true e c = e
end_of false e c = c

-- the state, if one is due
abbrev pub state_of : StateWords → Text
state_of due = state due.ambiguous due.mismatch

abbrev pub no_words : StateWords
no_words = record { ambiguous = false; mismatch = false }
