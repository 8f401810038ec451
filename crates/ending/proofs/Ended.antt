-- How a read ends, by its stages.
use mathlib.Core.List.{List, [], ◌∷◌}
use mathlib.Core.Logic.{inl, inr}
use mathlib.Core.Path.{◌≡◌, refl, sym, ap, subst, ◌∙◌}
use Prim.Native.Nat.{ℕ, ◌≤◌}
use native.Mathlib.Omega.{arith}
use lib.ListN.{take}
use Rattle.text.specs.Limits.{reading_numbers}
use Rattle.text.specs.Lists.{Text}
use Rattle.text.specs.Stages.{plainly}
use Rattle.text.specs.declared.Diagnostic.{Diagnostic}
use Rattle.answer.specs.Answer.{Line, line, Job}
use Rattle.rounds.specs.After.{Finished}
use Rattle.std.specs.Prelude.{Option, Some, None, Result, Ok, Err}
use Rattle.reading.specs.declared.Found.{Found}
use Rattle.parser.specs.declared.Failure.{Failure}
use Rattle.finish.specs.Ended.{Ends}
use Rattle.opening.specs.declared.Start.{Start}
use Rattle.job.specs.Found.{Readable, Prepared}
use Rattle.job.specs.Parses.{parsed_of, Parses}
use Rattle.job.proofs.Readings.{parses-of}
use Rattle.state.specs.State.{rounds_of, FinishedBy}
use Rattle.resume.specs.Stages.{Resumed, NotResumed, alien, no_room, Resumes}
use Rattle.resume.proofs.Lines.{later-refused, later-passed, of-job, opened_of}
use Rattle.ending.specs.declared.Ending.{Ending}
use Rattle.ending.specs.Ending.{refused_with, EndsWith, early, altered, as-uncut}

module _ (j : Job) (S T new : List ℕ) where
  -- what the end is given of a read that is gone on with
  pub prepared : (main parse : ℕ) (b : Result Start Diagnostic) → Resumes j S T new b → j.main_table ≡ main → reading_numbers ≤ parse → Prepared b T new main parse
  prepared main parse (Ok s) w m r = record { job = j; started = w.started; lent = m; room = r }
  prepared main parse (Err d) w m r = tt

  abbrev last : List Line
  last = line 26 (FinishedBy S → ⊥) ∷ []

  not-26 : (d : Diagnostic) → NotResumed j S d → d.number ≡ 26 → ⊥
  not-26 _ (alien n) e = omega arith
  not-26 _ (no_room b x) e = omega arith

  module _ (M P : List ℕ) (r : Ending) where
    -- 27 and 15
    pub not-resumed : (d : Diagnostic) → Resumes j S T new (Err d) → r ≡ refused_with d 0 → EndsWith j T new M S P r
    not-resumed d x y =
        let l = later-refused j S last d x in
        early d.number 0 l.0 l.1 (y ∙ ap (λ (z : Diagnostic). refused_with z 0) l.3) (λ z. absurd (not-26 d x z)) (λ _. refl)

    module _ (s : Start) (w : Resumed j S T new s) where
      pub not_yet : (FinishedBy S → ⊥) → (k : ℕ) → k ≡ rounds_of S → (d : Diagnostic) → d ≡ plainly 26 → r ≡ refused_with d k → EndsWith j T new M S P r
      not_yet u k e d f y =
          early 26 k (later-passed j S last 26 w (inl (u, refl))) (λ z. omega arith) (y ∙ ap (λ (z : Diagnostic). refused_with z k) f) (λ _. e) (λ z. absurd (z refl))

      module _ (f : FinishedBy S) (e : Option (Result Found Failure)) (x : Ends w.started.grammar.tree (take s.chars.0 new) M P e) where
        pub other-table : e ≡ None → (d : Diagnostic) → d ≡ plainly 27 → r ≡ refused_with d 0 → EndsWith j T new M S P r
        unfolding opened_of
        other-table q d z y =
            let no_end = subst (Ends w.started.grammar.tree (take s.chars.0 new) M P) q x in
            let here = subst (λ (t : Text). Finished w.started.grammar.tree t M → ⊥) w.started.input.stored no_end in
            altered (later-passed j S last 0 w (inr (λ u. u f, refl))) (of-job j (opened_of j w.started) (λ g t. Finished g t M → ⊥) here)
            (y ∙ ap (λ (v : Diagnostic). refused_with v 0) z)

        pub parsed : (k : Result Found Failure) → e ≡ Some k → r.parse ≡ parsed_of k s → r.rounds ≡ rounds_of S → EndsWith j T new M S P r
        parsed k q y n =
            let p = parses-of j T new s w.started P k (subst (Ends w.started.grammar.tree (take s.chars.0 new) M P) q x) in
            as-uncut (later-passed j S last 0 w (inr (λ u. u f, refl))) (subst (Parses j T new P) (sym y) p) n

-- what is known of a read that is gone on with
pub resumed-at : {j : Job} {S T new : List ℕ} {b : Result Start Diagnostic} {s : Start} → b ≡ Ok s → Resumes j S T new b → Resumed j S T new s
resumed-at {j} {S} {T} {new} q w = subst (Resumes j S T new) q w

pub readable : {T new : List ℕ} {main parse : ℕ} {b : Result Start Diagnostic} {s : Start} → b ≡ Ok s → Prepared b T new main parse → Readable T new main parse s
readable {T} {new} {main} {parse} e h = subst (λ (x : Result Start Diagnostic). Prepared x T new main parse) e h

pub refused-at : (j : Job) (S T new : List ℕ) {b : Result Start Diagnostic} {d : Diagnostic} → b ≡ Err d → Resumes j S T new b → Resumes j S T new (Err d)
refused-at j S T new q w = subst (Resumes j S T new) q w
