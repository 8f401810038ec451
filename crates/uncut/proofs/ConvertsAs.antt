-- From the stages of a job to the answer of converting.
use mathlib.Core.Path.{◌≡◌, sym, ap, ◌∙◌, subst}
use mathlib.Core.List.{List, [], ◌∷◌}
use Prim.Native.Nat.{ℕ}
use native.Mathlib.Omega.{arith}
use lib.ListN.{length, take, length-take}
use Rattle.text.specs.Limits.{grammar_table}
use Rattle.text.specs.Lists.{Text}
use Rattle.derive.specs.Another.{ambiguous_of}
use Rattle.derive.specs.Pick.{chosen_of}
use Rattle.derive.proofs.Chosen.{chosen-derives}
use Rattle.derive.proofs.Choose.{found-chosen}
use Rattle.answer.specs.Answer.{Job, Converts, as_xml}
use Rattle.answer.specs.Compute.{Outcome, Test, document_tests, long_test, convert_of}
use Rattle.answer.proofs.Settled.{convert-answers}
use Rattle.job.specs.declared.LeftParse.{LeftParse}
use Rattle.std.specs.Prelude.{Result, Ok, Err}
use Rattle.exported.specs.declared.Refusal.{Refusal}
use Rattle.job.specs.Parses.{IsChosen, Parses}
use Rattle.opening.proofs.Texts.{got-part}
use Rattle.convert.specs.Concluded.{Parsing, Ready, Concludes}
use Rattle.exported.specs.declared.Answer.{Answer}
use Rattle.exported.specs.Exported.{shown, refusal_of}
use Rattle.outcome.specs.Outcome.{answer_of}
use Rattle.outcome.specs.Given.{Named, GivesXml}
use Rattle.outcome.specs.Calls.{ConvertedAs}
use Rattle.outcome.proofs.Outcomes.{call-refused}
use Rattle.outcome.proofs.Documents.{Spoken, concluded}

-- the numbers of a left parse name a derivation of the record's characters
module _ (j : Job) (T new P : List ℕ) (f : LeftParse) (y : IsChosen j T new P f) where
  parsing : Parsing T f.root (take f.count P) (take f.chars.0 new) y.tree y.row
  parsing =
      subst (λ (x : Text). Parsing T f.root (take f.count P) x y.tree y.row) (sym y.input.stored) (record {
        parsed = record {
          items = y.items;
          derives = chosen-derives y.tree y.input.chars (found-chosen y.tree y.input.chars y.choice);
          parse = sym y.list;
          short = omega (arith, y.input.short);
        };
        tokens = y.tokens;
      })

  convertible : length T ≡ grammar_table → Ready T f.root (take f.count P) (take f.chars.0 new)
  convertible l = record { table = l; few = omega (arith, length-take f.count P, y.short); g = y.tree; t = y.row; parsing = parsing }

  numbers-part : f.count ≡ length (take f.count P)
  numbers-part = y.count ∙ sym (ap length y.list)

module _ (j : Job) (old : List ℕ) where
  abbrev tests : List Test
  tests = document_tests j (long_test as_xml j old ∷ [])

  convert-as : (a : Answer) (new : List ℕ) → convert_of j old ≡ record { answer = shown a; buffer = new } → ConvertedAs j old a new
  convert-as a new e = record {
    computed = sym (ap (λ (o : Outcome). o.answer) e);
    buffer = sym (ap (λ (o : Outcome). o.buffer) e);
    defines = subst (λ (o : Outcome). Converts j old o.answer o.buffer) e (convert-answers j old);
  }

  -- whatever is given of a parse
  pub convert-given : (T new P : List ℕ) (p : Result LeftParse Refusal) → Parses j T new P p → (new' : List ℕ) (a : Answer) → GivesXml p T new P old new' a → ConvertedAs j old a new'
  unfolding convert_of
  convert-given T new P (Err k) w new' a h =
      rw (h.0, h.1) (convert-as (refusal_of k) old (call-refused j old as_xml tests k (w.is tests) w.some w.version w.places))
  convert-given T new P (Ok f) y new' a h =
      let s : Spoken chosen_of j y.tree y.input.chars y.row = record { is = y.is; decoded = y.input.decoded; choice = y.choice } in
      let v = h.converted in
      let c : Concludes y.tree y.input.chars y.row f.ambiguous f.mismatch old new' v = subst
      (λ (u : Text). Concludes y.tree u y.row f.ambiguous f.mismatch old new' v) y.input.stored (h.concludes y.tree y.row (parsing j T new P f y)) in
      rw h.answer (convert-as (answer_of v f.ambiguous f.mismatch) new'
      (concluded s ambiguous_of old f.mismatch f.ambiguous y.version y.mark new' v c _ (y.first tests)))

-- what stands in the buffers can be written
pub named : (j : Job) (T new P : List ℕ) (p : Result LeftParse Refusal) → Parses j T new P p → length T ≡ grammar_table → Named p T new P
named j T new P (Err k) w l = tt
named j T new P (Ok f) y l = record { numbers = numbers-part j T new P f y; chars = got-part y.input; ready = convertible j T new P f y l }
