-- The exported answer, and what it is with 0 and with a refusal.
use Rattle.std.specs.Prelude.{Bool, false, ◌&&◌, ℕ, eqb}
use Rattle.answer.specs.Answer as defined
use Rattle.exported.specs.declared.Refusal.{Refusal}
use Rattle.exported.specs.declared.Answer.{Answer}

-- the exported answer in the words of the definitions
abbrev pub shown : Answer → defined.Answer
shown a = record {
  number = a.number;
  length = a.length;
  ambiguous = a.ambiguous;
  version = a.version;
  places = record { byte = a.places.byte; fault = a.places.fault; grammar = a.places.grammar };
}

-- an answer with 0
abbrev pub done : ℕ → Bool → Bool → Answer
done n m v = record { number = 0; length = n; ambiguous = m; version = v; places = record { byte = 0; fault = 0; grammar = 0 } }

-- "The version mark is set, for 0 and 16, exactly when …"
abbrev pub refusal_of : Refusal → Answer
refusal_of r = record {
  number = r.why.number;
  length = 0;
  ambiguous = false;
  version = eqb r.why.number 16 && r.mismatch;
  places = record { byte = r.why.places.byte.0; fault = r.why.places.fault.0; grammar = r.why.places.grammar.0 };
}
