-- From the start of a job to its reading.
use mathlib.Core.Bool.{Bool, true, false, ◌||◌, ◌&&◌}
use mathlib.Core.Path.{◌≡◌, refl, sym, ap, ◌∙◌, subst}
use mathlib.Core.Logic.{◌⊎◌, inl, inr, ⊎_elim}
use mathlib.Core.List.{List}
use Prim.Native.Nat.{ℕ, ◌*◌, ◌≤◌, ◌<◌}
use native.Mathlib.Omega.{arith}
use lib.Dec.{ltb, eqb}
use lib.ListN.{length, take}
use borrow.Author.Tests.{ltb-false}
use Rattle.text.specs.Limits.{grammar_table, reading_numbers, record_chars}
use Rattle.text.specs.Lists.{Text}
use Rattle.text.specs.Stages.{plainly}
use Rattle.text.specs.declared.CharPlace.{CharPlace}
use Rattle.text.specs.declared.Diagnostic.{Diagnostic}
use Rattle.text.proofs.Tests.{is_t}
use Rattle.tree.specs.Tree.{Grammar}
use Rattle.plain.specs.Plain.{size}
use Rattle.derive.specs.Derive.{left_parse}
use Rattle.derive.specs.Chosen.{Second}
use Rattle.derive.specs.Another.{ambiguous_of}
use Rattle.derive.proofs.Choose.{lacks-none, chosen-found}
use Rattle.derive.proofs.Ambiguous.{ambiguous-second}
use Rattle.chart.specs.Heights.{stretches}
use Rattle.chooser.specs.Choose.{Choosable}
use Rattle.answer.specs.Answer.{Job, table_need}
use Rattle.answer.specs.Compute.{Test, record_tests, fault_in, places_at, job_values}
use Rattle.answer.proofs.Stages.{stage-16, stage-29, stage-read}
use Rattle.answer.proofs.Settled.{same-mark}
use Rattle.std.specs.Prelude.{Result, Ok, Err}
use Rattle.reading.specs.declared.Found.{Found}
use Rattle.parser.specs.declared.Failure.{Failure}
use Rattle.parser.specs.declared.Failure.TheVariants.{TooLong, NoReading}
use Rattle.parser.specs.Chosen.{Fails, Chooses}
use Rattle.reading.specs.Answer.{IsReading, IsLong}
use Rattle.viable.proofs.Fault.{root-produces, fault-settled}
use Rattle.load.specs.Loaded.{places_of}
use Rattle.opening.specs.declared.Start.{Start}
use Rattle.opening.specs.Stages.{Started}
use Rattle.opening.proofs.Texts.{got-part}
use Rattle.job.specs.Found.{first_test, at_fault}
use Rattle.job.specs.Parses.{IsChosen, NotChosen, parsed_of, Parses}

or-false : (a b : Bool) → (a || b) ≡ false → a ≡ false
or-false true b e = e
or-false false b e = refl

module _ (j : Job) (Tab new : List ℕ) (s : Start) (w : Started j Tab new s) where
  abbrev g : Grammar
  g = w.grammar.tree

  abbrev r : Text
  r = w.input.chars

  pub choosable : (main parse : ℕ) → j.main_table ≡ main → length Tab ≡ grammar_table → reading_numbers ≤ parse
      → Choosable Tab s.rules.size s.rules.root (take s.chars.0 new) main parse
  choosable main parse m l p =
      let short : length (take s.chars.0 new) ≤ record_chars = omega (arith, got-part w.input, w.input.count, w.input.short) in
      let enough : table_need (size g) (length r) ≤ j.main_table = ltb-false j.main_table (table_need (size g) (length r))
      (or-false (ltb j.main_table (table_need (size g) (length r))) (ltb j.second_table grammar_table) w.enough) in
      let k : s.rules.size * stretches (length (take s.chars.0 new)) ≡ table_need (size g) (length r) = ap
      (λ (x : ℕ). x * stretches (length (take s.chars.0 new))) w.grammar.sized ∙ ap (λ (x : Text). size g * stretches (length x))
      w.input.stored in
      record { grammar = g; ready = w.grammar.ready; long = l; small = omega (arith, w.grammar.sized, w.grammar.small); short = short; room = omega arith; numbers = p }

  refused : (d : Diagnostic) → (d.number ≡ 16) ⊎ (d.number ≡ 29) → ((ts : List Test) → first_test j ts ≡ d.number) → places_of d.places ≡ places_at (job_values j) d.number
      → NotChosen j (record { why = d; mismatch = s.rules.mismatch })
  refused d late is places = record {
    some = λ z. ⊎_elim (λ u. omega arith) (λ u. omega arith) late;
    is = is;
    version = ap (λ (b : Bool). eqb d.number 16 && b) w.grammar.version;
    places = places;
  }

  too_long : IsLong g r → NotChosen j (record { why = plainly 29; mismatch = s.rules.mismatch })
  too_long a = refused (plainly 29) (inr refl) (λ ts. (let c = chosen-found g r a.reading.chosen in
      w.grammar.first (record_tests j ts)
      ∙ stage-29 j ts r w.input.decoded w.input.within w.input.short g w.grammar.is w.enough a.tree c
      (subst (λ (p : List ℕ). reading_numbers < length p) a.reading.parse a.long))) refl

  -- the fault is at the place that is computed
  fails : (k : CharPlace) → Fails g r k.0 → NotChosen j (record { why = at_fault 16 k; mismatch = s.rules.mismatch })
  fails k a = refused (at_fault 16 k) (inl refl) (λ ts. w.grammar.first (record_tests j ts)
      ∙ stage-16 j ts r w.input.decoded w.input.within w.input.short g w.grammar.is w.enough (lacks-none g r (a.none w.grammar.productive (is_t w.input.within))))
      (λ ι. record { byte = 0; fault = same ι; grammar = 0 })
    where
      same : k.0 ≡ fault_in j
      same =
          let held = is_t w.input.within in
          let f = a.fault w.grammar.productive held in
          fault-settled g r held (root-produces g w.grammar.productive) f ∙ sym (rw (w.grammar.is, w.input.decoded))

  module _ (P : List ℕ) where
    is-chosen : (n : ℕ) (m : Bool) → IsReading g r P n m
        → IsChosen j Tab new P (record { root = s.rules.root; count = n; chars = s.chars; ambiguous = m; mismatch = s.rules.mismatch })
    is-chosen n m a =
        let c = chosen-found g r a.reading.chosen in
        let p : a.parse ≡ left_parse a.tree = a.reading.parse in
        record {
          tree = g;
          is = w.grammar.is;
          version = w.grammar.version;
          input = w.input;
          first = λ ts. w.grammar.first (record_tests j ts) ∙ stage-read j ts r w.input.decoded w.input.within w.input.short g
              w.grammar.is w.enough a.tree c (omega (arith, a.short, a.long, ap length p));
          row = a.tree;
          choice = c;
          mark = same-mark m (ambiguous_of g r a.tree) (Second g r a.parse) a.ambiguous (ambiguous-second g r a.reading);
          count = sym a.long ∙ ap length p;
          short = a.short;
          list = a.list ∙ p;
          items = w.grammar.ready.built.items;
          tokens = w.grammar.tokens;
        }

    -- what is chosen, whichever way, comes to what the stages come to
    pub parses-of : (k : Result Found Failure) → Chooses g (take s.chars.0 new) P k → Parses j Tab new P (parsed_of k s)
    parses-of k a = go k (subst (λ (x : Text). Chooses g x P k) w.input.stored a)
      where
        go : (c : Result Found Failure) → Chooses g r P c → Parses j Tab new P (parsed_of c s)
        go (Ok f) a = is-chosen f.count f.ambiguous a
        go (Err TooLong) a = too_long a
        go (Err (NoReading k)) a = fails k a
