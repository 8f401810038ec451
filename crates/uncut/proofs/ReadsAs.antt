-- From the stages of a job to the answer of reading.
use mathlib.Core.Path.{◌≡◌, refl, sym, ap, ◌∙◌, subst}
use mathlib.Core.Logic.{inl, inr}
use mathlib.Core.List.{List, [], ◌∷◌, ◌++◌}
use Prim.Native.Nat.{ℕ}
use native.Mathlib.Omega.{arith}
use lib.ListN.{length, drop}
use Rattle.derive.specs.Derive.{left_parse}
use Rattle.derive.specs.Another.{ambiguous_of}
use Rattle.answer.specs.Answer.{Job, Reads, as_numbers}
use Rattle.answer.specs.Compute.{Outcome, Test, long_test, read_of}
use Rattle.answer.proofs.Settled.{read-answers}
use Rattle.job.specs.declared.LeftParse.{LeftParse}
use Rattle.exported.specs.declared.Refusal.{Refusal}
use Rattle.std.specs.Prelude.{Result, Ok, Err}
use Rattle.job.specs.Parses.{IsChosen, Parses}
use Rattle.exported.specs.declared.Answer.{Answer}
use Rattle.text.specs.Stages.{plainly}
use Rattle.exported.specs.Exported.{done, shown, refusal_of}
use Rattle.outcome.specs.Given.{Counted, Fitting, GivesNumbers}
use Rattle.outcome.specs.Calls.{ReadAs}
use Rattle.outcome.proofs.Outcomes.{refusing, call-refused, call-answered, numbers-in, result-is, too_long, fitting, done-is}

module _ (j : Job) (old : List ℕ) where
  abbrev tests : List Test
  tests = long_test as_numbers j old ∷ []

  read_as : (a : Answer) (new : List ℕ) → read_of j old ≡ record { answer = shown a; buffer = new } → ReadAs j old a new
  read_as a new e = record {
    computed = sym (ap (λ (o : Outcome). o.answer) e);
    buffer = sym (ap (λ (o : Outcome). o.buffer) e);
    defines = subst (λ (o : Outcome). Reads j old o.answer o.buffer) e (read-answers j old);
  }

  refused_as : (a : Answer) (r : Refusal) → a ≡ refusal_of r → read_of j old ≡ refusing old r → ReadAs j old a old
  refused_as a r e q = rw e (read_as (refusal_of r) old q)

  read_fits : (T new P : List ℕ) (f : LeftParse) → IsChosen j T new P f → (new' : List ℕ) (a : Answer) → Fitting f P old new' a → ReadAs j old a new'
  unfolding read_of
  read_fits T new P f y new' a h =
      let e = y.first tests ∙ fitting j T new P f y as_numbers old (omega (arith, y.count, h.fits)) in
      let o = call-answered j old as_numbers tests f.mismatch _ e y.version (result-is j T new P f y as_numbers) in
      let cells : new' ≡ left_parse y.row ++ drop (length (left_parse y.row)) old =
      h.buffer ∙ ap (λ (q : List ℕ). q ++ drop f.count old) y.list ∙ ap (λ (n : ℕ). left_parse y.row ++ drop n old) y.count in
      let mark = ambiguous_of y.tree y.input.chars y.row in
      let b = done-is old new' (left_parse y.row) f.mismatch mark f.ambiguous f.count cells y.count y.mark in
      rw h.answer (read_as (done f.count f.ambiguous f.mismatch) new' (o ∙ b))

  -- whatever is given of a parse
  pub read-given : (T new P : List ℕ) (p : Result LeftParse Refusal) → Parses j T new P p → (new' : List ℕ) (a : Answer) → GivesNumbers p P old new' a → ReadAs j old a new'
  unfolding read_of
  read-given T new P (Err k) w new' a h = rw h.1 (refused_as a k h.0 (call-refused j old as_numbers tests k (w.is tests) w.some w.version w.places))
  read-given T new P (Ok f) y new' a (inl h) = read_fits T new P f y new' a h
  read-given T new P (Ok f) y new' a (inr h) =
      let e = y.first tests ∙ too_long j T new P f y as_numbers old (omega (arith, y.count, h.longer)) in
      let r : Refusal = record { why = plainly 23; mismatch = f.mismatch } in
      rw h.buffer (refused_as a r h.answer (call-refused j old as_numbers tests r e (λ e. omega arith) refl refl))

-- its numbers stand in the buffer
pub counted : (j : Job) (T new P : List ℕ) (p : Result LeftParse Refusal) → Parses j T new P p → Counted p P
counted j T new P (Err k) w = tt
counted j T new P (Ok f) y = numbers-in j T new P f y
