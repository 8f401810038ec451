-- From the stages of a job whose list is judged to the answer.
use mathlib.Core.Bool.{Bool, true, false, ◌||◌}
use mathlib.Core.Path.{◌≡◌, refl, sym, ap, ◌∙◌, subst}
use mathlib.Core.Logic.{⊎_elim}
use mathlib.Core.List.{List, [], ◌∷◌}
use Prim.Native.Nat.{ℕ, ◌*◌, ◌<◌, ◌≤◌}
use native.Mathlib.Omega.{arith}
use lib.Dec.{ltb}
use lib.ListN.{length, take}
use borrow.Author.Tests.{ne_eqb, ltb-false}
use Rattle.text.specs.Limits.{grammar_table}
use Rattle.text.specs.Lists.{Text}
use Rattle.text.specs.Stages.{plainly}
use Rattle.text.specs.declared.Diagnostic.{Diagnostic}
use Rattle.tree.specs.Tree.{Grammar}
use Rattle.derive.specs.Pick.{Choice, found, no-choice}
use Rattle.answer.specs.Answer.{Job, scratch_need, Judges, as_xml}
use Rattle.answer.specs.Compute.{Outcome, outcome, Test, first_of, grammar_tests, need_tests, none_test, document_tests_of, long_test_by, found_result, result_with, never}
use Rattle.answer.specs.Compute.{places_at, job_values, mismatch, judge_of}
use Rattle.load.specs.Loaded.{places_of}
use Rattle.answer.specs.Named.{named_of}
use Rattle.answer.proofs.Named.{named-found, found-named}
use Rattle.answer.proofs.Settled.{judge-answers}
use Rattle.answer.proofs.Stages.{stage-lent, stage-none, stage-found}
use Rattle.opening.specs.declared.Start.{Start}
use Rattle.std.specs.Prelude.{Err}
use Rattle.opening.specs.Stages.{StartedBy, BeginsBy}
use Rattle.opening.proofs.Texts.{got-part}
use Rattle.judge.specs.Due.{Named}
use Rattle.exported.specs.declared.Answer.{Answer}
use Rattle.exported.specs.Exported.{shown, refusal_of}
use Rattle.outcome.specs.Outcome.{answer_of}
use Rattle.outcome.specs.Calls.{JudgedAs}
use Rattle.outcome.specs.Judging.{Stands, Judgeable, Verdict, accepted, declined, Concluded}
use Rattle.outcome.proofs.Outcomes.{refused-outcome}
use Rattle.outcome.proofs.Documents.{Spoken, nowhere, concluded}

module _ (q : List ℕ) (j : Job) (old : List ℕ) where
  abbrev last : List Test
  last = document_tests_of (named_of q) j (long_test_by (named_of q) never as_xml j old ∷ [])

  abbrev all : List Test
  all = grammar_tests j.grammar (need_tests (scratch_need q) j (none_test 25 (named_of q) j ∷ last))

  judge-as : (a : Answer) (new : List ℕ) → judge_of q j old ≡ record { answer = shown a; buffer = new } → JudgedAs q j old a new
  judge-as a new e = record {
    computed = sym (ap (λ (o : Outcome). o.answer) e);
    buffer = sym (ap (λ (o : Outcome). o.buffer) e);
    defines = subst (λ (o : Outcome). Judges q j old o.answer o.buffer) e (judge-answers j old q);
  }

  -- a refusal other than 16
  refused_as : (d : Diagnostic) → first_of all ≡ d.number → (d.number ≡ 0 → ⊥) → (d.number ≡ 16 → ⊥)
      → places_of d.places ≡ places_at (job_values j) d.number
      → judge_of q j old ≡ record { answer = shown (refusal_of (record { why = d; mismatch = false })); buffer = old }
  unfolding judge_of
  refused_as d e z s p =
      ap (λ (n : ℕ). outcome old (mismatch j.grammar) (job_values j) n (found_result (named_of q) j (result_with never as_xml))) e
      ∙ refused-outcome old (mismatch j.grammar) (job_values j) (record { why = d; mismatch = false }) (found_result (named_of q) j (result_with never as_xml)) z
      (rw (ne_eqb d.number 16 s)) p

  module _ (T new : List ℕ) where
    -- 1 to 15, or 24
    pub judge-ended : (k : Diagnostic) (a : Answer) → BeginsBy (λ g r. 2 * length q) j T new (Err k) → a ≡ refusal_of (record { why = k; mismatch = false }) → JudgedAs q j old a old
    judge-ended k a s z =
        rw z (judge-as (refusal_of (record { why = k; mismatch = false })) old
        (refused_as k (s.is (none_test 25 (named_of q) j ∷ last)) s.some (λ y. ⊎_elim (λ l. omega arith) (λ l. omega arith) s.early) s.places))

    module _ (s : Start) (started : StartedBy (λ g r. 2 * length q) j T new s) where
      abbrev g : Grammar
      g = started.grammar.tree

      abbrev r : Text
      r = started.input.chars

      pub stands : Stands T s.rules.root g
      stands = record {
        given = record { items = started.grammar.ready.built.items; sound = started.grammar.ready.sound };
        tokens = started.grammar.tokens;
      }

      pub judgeable : length T ≡ grammar_table → (S : List ℕ) → j.main_table ≡ length S → length q < 4611686018427387904
          → Judgeable T s.rules.root q (take s.chars.0 new) S
      judgeable l S m few =
          let enough : 2 * length q ≤ j.main_table = ltb-false j.main_table (2 * length q)
          (or_left_false (ltb j.main_table (2 * length q)) (ltb j.second_table grammar_table) started.enough) in
          record {
            lent = record { table = l; list = few; short = omega (arith, got-part started.input, started.input.count, started.input.short); room = omega arith };
            g = g;
            stands = stands;
          }
        where
          or_left_false : (a b : Bool) → (a || b) ≡ false → a ≡ false
          or_left_false true b e = e
          or_left_false false b e = refl

      first : first_of all ≡ first_of (none_test 25 (named_of q) j ∷ last)
      first = started.grammar.first (need_tests (scratch_need q) j (none_test 25 (named_of q) j ∷ last))
          ∙ stage-lent (scratch_need q) j (none_test 25 (named_of q) j ∷ last) r started.input.decoded started.input.within started.input.short g started.grammar.is started.enough

      none_found : (Named q g r → ⊥) → named_of q g r ≡ no-choice
      none_found n = go (named_of q g r) refl
        where
          go : (c : Choice) → named_of q g r ≡ c → named_of q g r ≡ no-choice
          go no-choice f = f
          go (found t) f = absurd (let d = found-named g r q t f in n (t, d.0, d.1))

      by-verdict : (new' : List ℕ) (a : Answer) → Verdict g q r s.rules.mismatch old new' a → JudgedAs q j old a new'
      unfolding judge_of
      by-verdict new' a (declined d) =
          let f = first ∙ stage-none j last r started.input.decoded g started.grammar.is 25 (named_of q) (none_found d.none) in
          rw (d.answer, d.buffer) (judge-as (refusal_of (record { why = plainly 25; mismatch = false })) old
          (refused_as (plainly 25) f (λ z. omega arith) (λ z. omega arith) (nowhere j 25 (omega arith))))
      by-verdict new' a (accepted d) =
          let c = named-found g r q d.named.0 (d.named.1, d.named.2) ∙ ap found d.is in
          let y : Spoken (named_of q) j g r d.row = record { is = started.grammar.is; decoded = started.input.decoded; choice = c } in
          let f = first ∙ stage-found j last r started.input.decoded g started.grammar.is 25 (named_of q) d.row c in
          rw d.answer (judge-as (answer_of d.converted false s.rules.mismatch) new'
          (concluded y never old s.rules.mismatch false started.grammar.version refl new' d.converted d.concludes _ f))

      pub judge-concluded : (new' : List ℕ) (a : Answer) → Concluded T s.rules.root q (take s.chars.0 new) s.rules.mismatch old new' a → JudgedAs q j old a new'
      judge-concluded new' a c = by-verdict new' a (subst (λ (u : Text). Verdict g q u s.rules.mismatch old new' a) started.input.stored (c g stands))
