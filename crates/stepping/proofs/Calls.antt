-- The start and the rounds of a read, by their stages.
use mathlib.Core.Bool.{Bool, false}
use mathlib.Core.List.{List, []}
use mathlib.Core.Path.{◌≡◌, refl, ap, subst}
use Prim.Native.Nat.{ℕ, ◌+◌}
use native.Mathlib.Omega.{arith}
use lib.ListN.{length, get_or, take}
use Rattle.text.specs.Limits.{grammar_table, reading_numbers}
use Rattle.text.specs.Lists.{Text}
use Rattle.text.specs.declared.Diagnostic.{Diagnostic}
use Rattle.tree.specs.Tree.{Grammar}
use Rattle.chart.specs.Code.{flag}
use Rattle.chart.specs.Heights.{Clear}
use Rattle.rules.specs.Ready.{Ready}
use Rattle.answer.specs.Answer.{Job, table_need}
use Rattle.advance.specs.Round.{Readable, Rounded}
use Rattle.state.specs.State.{rounds_of, FinishedBy, Keeps, Counted, Blank}
use Rattle.opening.specs.declared.Start.{Start}
use Rattle.std.specs.Prelude.{Err}
use Rattle.opening.specs.Stages.{Started, Begins}
use Rattle.job.proofs.Readings.{choosable}
use Rattle.exported.specs.declared.Answer.{Answer}
use Rattle.exported.specs.Exported.{done, refusal_of}
use Rattle.resume.specs.declared.Progress.{Progress}
use Rattle.resume.specs.Resume.{StartedAs, RoundedAs}
use Rattle.resume.specs.Stages.{Resumed, Resumes}
use Rattle.resume.proofs.Lines.{later-refused, rounds-refused, rounds-done, of-job, opened_of}
use Rattle.stepping.proofs.Starts.{start-refused, start-done, start-table}

abbrev pub Refuses : Progress → Diagnostic → Type 0
Refuses a n = a ≡ record { answer = refusal_of (record { why = n; mismatch = false }); rounds = 0 }

module _ (j : Job) (T new M : List ℕ) where
  pub started-refused : (S' : List ℕ) (d : Diagnostic) (a : Progress) → Begins j T new (Err d) → Refuses a d → Blank S' → StartedAs j M a M S'
  started-refused S' d a w z y =
      let x = start-refused j T new d w in
      rw z (record { answer = x.0; rounds = refl; refused = λ _. (refl, y); begun = λ o. absurd (x.1 o) })

  pub started-done : (M' S' : List ℕ) (s : Start) (A : Answer) → Started j T new s → A ≡ done 0 false s.rules.mismatch → length M' ≡ j.main_table
      → (k : ℕ) → k ≡ table_need s.rules.size s.chars.0 → Clear k M' → Keeps j.grammar j.input S' × (rounds_of S' ≡ 0) × (get_or S' 2 0 ≡ 0)
      → StartedAs j M (record { answer = A; rounds = 0 }) M' S'
  started-done M' S' s A w e l k f c y = rw e (record {
    answer = start-done j T new s w;
    rounds = refl;
    refused = λ z. absurd (z refl);
    begun = λ _. (y.0, y.1, λ z. omega (arith, y.2), start-table j T new s w M' l k f c);
  })

  module _ (S : List ℕ) where
    pub rounded-refused : (d : Diagnostic) (a : Progress) → Resumes j S T new (Err d) → Refuses a d → RoundedAs j M S a M S
    rounded-refused d a x z =
        let y = later-refused j S [] d x in
        rw z (record {
          answer = rounds-refused j S d x;
          refused = λ _. (refl, refl, refl);
          over = λ o. absurd (y.1 o);
          counts = λ o. absurd (y.1 o);
        })

    module _ (s : Start) (w : Resumed j S T new s) (A : Answer) (e : A ≡ done 0 false s.rules.mismatch) (k : ℕ) (is : k ≡ rounds_of S) where
      pub rounded-over : FinishedBy S → RoundedAs j M S (record { answer = A; rounds = k }) M S
      rounded-over f = rw e (record {
        answer = rounds-done j S w;
        refused = λ z. absurd (z refl);
        over = λ _ _. (refl, refl, is);
        counts = λ _ z. absurd (z f);
      })

      pub rounded-on : (FinishedBy S → ⊥) → (M' S' : List ℕ) (last : Bool) (x y : ℕ) → x ≡ rounds_of S + 1 → y ≡ flag last → Counted S S' x y
          → ((g : Grammar) → Ready T g s.rules.size s.rules.root → Rounded g (take s.chars.0 new) k M M' last)
          → RoundedAs j M S (record { answer = A; rounds = k + 1 }) M' S'
      unfolding opened_of
      rounded-on f M' S' last x y ex ey c r = rw e (record {
        answer = rounds-done j S w;
        refused = λ z. absurd (z refl);
        over = λ _ z. absurd (f z);
        counts = λ _ _. record {
          last = last;
          state = subst (λ (v : ℕ). Counted S S' v (flag last)) ex (subst (Counted S S' x) ey c);
          rounds = ap (λ (v : ℕ). v + 1) is;
          table = of-job j (opened_of j w.started) (λ g r. Rounded g r (rounds_of S) M M' last)
              (subst (λ (v : ℕ). Rounded w.started.grammar.tree w.started.input.chars v M M' last) is
              (subst (λ (t : Text). Rounded w.started.grammar.tree t k M M' last) w.started.input.stored (r w.started.grammar.tree w.started.grammar.ready)));
        };
      })

  -- what a round is given
  pub readable : (S : List ℕ) (s : Start) → Resumed j S T new s → j.main_table ≡ length M → length T ≡ grammar_table → Readable T s.rules.size s.rules.root (take s.chars.0 new) (length M)
  readable S s w m l =
      let c = choosable j T new s w.started (length M) reading_numbers m l (omega arith) in
      record { grammar = c.grammar; ready = c.ready; long = c.long; small = c.small; short = c.short; room = c.room }
