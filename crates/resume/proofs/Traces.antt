-- A read from its start on.
use mathlib.Core.Bool.{Bool, true, false}
use mathlib.Core.List.{List, [], ◌∷◌}
use mathlib.Core.Logic.{inl, inr, ◌↔◌}
use mathlib.Core.Path.{◌≡◌, refl, sym, ap, subst, ◌∙◌}
use Prim.Native.Nat.{ℕ, suc, ◌+◌, ◌<◌, ◌≤◌}
use native.Mathlib.Nat.{mul-le-mul}
use native.Mathlib.Decide.{ℕ_discrete}
use native.Mathlib.Omega.{arith}
use lib.ListN.{length, get_or}
use Rattle.text.specs.Lists.{Text}
use Rattle.text.specs.Stages.{plainly}
use Rattle.tree.specs.Tree.{Grammar}
use Rattle.plain.specs.Plain.{ruled}
use Rattle.chart.specs.Code.{flag}
use Rattle.answer.specs.Answer as defined
use Rattle.answer.specs.Answer.{Line, line, Topmost, Job, job, of_job, GrammarTree, grammar_lines, input_lines}
use Rattle.answer.proofs.Agree.{one-grammar, one-record}
use Rattle.rounds.specs.Rounds.{most_rounds}
use Rattle.text.specs.Utf8.{Utf8}
use Rattle.rounds.specs.After.{TableSays, After, Ends, Finished}
use Rattle.rounds.proofs.Says.{after-says}
use Rattle.advance.specs.Round.{Rounded}
use Rattle.advance.proofs.Turns.{flag-most}
use Rattle.state.specs.State.{rounds_of, FinishedBy, Keeps, Counted}
use Rattle.exported.specs.Exported.{shown, refusal_of}
use Rattle.resume.specs.declared.Progress.{Progress}
use Rattle.resume.specs.Resume.{later_lines, Belongs, StartedAs, Counts, RoundedAs, EndedAs, early, altered, as-uncut}
use Rattle.resume.specs.Traces.{Underway, started, went_on, job_of, Laws}

-- two things that are said of a job's grammar and record, said of the same
module _ (gs rs : List ℕ) where
  both : (P Q : Grammar → Text → Type 0) → of_job (job_of gs rs) P → of_job (job_of gs rs) Q → of_job (job_of gs rs) (λ g r. P g r × Q g r)
  both P Q (g, r, w, p) (h, u, x, q) =
      let eg = one-grammar (job_of gs rs) x.0 w.0 in
      let er = one-record (job_of gs rs) x.1 w.1 in
      (g, r, w, (p, subst (λ (y : Grammar). Q y r) eg (subst (Q h) er q)))

  -- the last round was the last one exactly if it ended the read; none before it did
  abbrev Told : List ℕ → Grammar → Text → Type 0
  Told S g r = (k : ℕ) → rounds_of S ≡ suc k → FinishedBy S ↔ Ends g r k

  abbrev First : List ℕ → Grammar → Text → Type 0
  First S g r = (k : ℕ) → suc k < rounds_of S → Ends g r k → ⊥

  -- there are rounds to come
  abbrev Running : List ℕ → List ℕ → Grammar → Text → Type 0
  Running M S g r = After g r (rounds_of S) M × (rounds_of S < most_rounds g r)

  -- what holds after each call
  record Now (M S : List ℕ) : Type 0 where
    belongs : Belongs gs rs S
    says : of_job (job_of gs rs) (λ g r. TableSays g r (rounds_of S) M)
    running : (FinishedBy S → ⊥) → of_job (job_of gs rs) (Running M S)
    over : FinishedBy S → of_job (job_of gs rs) (λ g r. Finished g r M)
    ends : of_job (job_of gs rs) (Told S)
    first : of_job (job_of gs rs) (First S)

  -- a read takes a round at least
  some-rounds : (g : Grammar) (r : Text) → 0 < most_rounds g r
  some-rounds g r = omega (arith, mul-le-mul {n₁ = 1} {m₁ = 1} {n₂ = length (ruled g)} {m₂ = length r + 1} (omega arith) (omega arith))

  start-now : {M₀ M S : List ℕ} (second : ℕ) (a : Progress) → StartedAs (job gs rs (length M₀) second) M₀ a M S → a.answer.number ≡ 0 → Now M S
  start-now {M₀} {M} {S} second a w e =
      let b = w.begun e in
      let at : of_job (job_of gs rs) (λ g r. After g r (rounds_of S) M) = by-rounds b.1 b.3 in
      record {
        belongs = record { keeps = b.0; main = length M₀; second = second; starts = subst (Topmost (grammar_lines gs (input_lines (job gs rs (length M₀) second) []))) e w.answer.number };
        says = (at.0, at.1, at.2, after-says (omega (arith, b.1)) at.3);
        running = λ _. (at.0, at.1, at.2, (at.3, omega (arith, b.1, some-rounds at.0 at.1)));
        over = λ f. absurd (b.2 f);
        ends = (at.0, at.1, at.2, λ k e. absurd (omega (arith, b.1)));
        first = (at.0, at.1, at.2, λ k l. absurd (omega (arith, b.1)));
      }
    where
      by-rounds : rounds_of S ≡ 0 → of_job (job_of gs rs) (λ g r. After g r 0 M) → of_job (job_of gs rs) (λ g r. After g r (rounds_of S) M)
      by-rounds z (g, r, x, y) = (g, r, x, subst (λ (k : ℕ). After g r k M) (sym z) y)

  -- the state of a round that is counted
  kept_on : {S S' : List ℕ} {k f : ℕ} → Keeps gs rs S → Counted S S' k f → k ≤ 102912 → f ≤ 1 → Keeps gs rs S'
  kept_on w c a b = record {
    head = record {
      tag = c.other 0 (λ e. omega arith) (λ e. omega arith) ∙ w.head.tag;
      few = omega (arith, c.rounds-are);
      told = omega (arith, c.told);
      grammar = c.other 3 (λ e. omega arith) (λ e. omega arith) ∙ w.head.grammar;
      input = c.other 4 (λ e. omega arith) (λ e. omega arith) ∙ w.head.input;
      grammar-short = w.head.grammar-short;
      input-short = w.head.input-short;
    };
    grammar = λ i h. c.other (8 + i) (λ e. omega arith) (λ e. omega arith) ∙ w.grammar i h;
    input = λ i h. c.other (4104 + i) (λ e. omega arith) (λ e. omega arith) ∙ w.input i h;
  }

  module _ {M S M' S' : List ℕ} (now : Now M S) (open-yet : FinishedBy S → ⊥) where
    -- with what `last` tells
    next : (last : Bool) → Counted S S' (rounds_of S + 1) (flag last) → (g : Grammar) (r : Text) → GrammarTree gs g × Utf8 rs r → After g r (rounds_of S) M → rounds_of S < most_rounds g r
        → Told S g r → First S g r → Rounded g r (rounds_of S) M M' last → Now M' S'
    next last c g r w a l told first t =
        let k : rounds_of S' ≡ suc (rounds_of S) = omega (arith, c.rounds-are) in
        record {
          belongs = record {
            keeps = kept_on now.belongs.keeps c (omega (arith, t.few)) (flag-most last);
            main = now.belongs.main;
            second = now.belongs.second;
            starts = now.belongs.starts;
          };
          says = (g, r, w, subst (λ (x : ℕ). TableSays g r x M') (sym k) (t.says l a));
          running = λ z. (g, r, w, on last c t z k);
          over = λ f. (g, r, w, t.ends l a (finishes last c f));
          ends = (
            g,
            r,
            w,
            λ x e. (let y : x ≡ rounds_of S = omega arith in
                subst (λ (z : ℕ). FinishedBy S' ↔ Ends g r z) (sym y) (λ f. (t.tells l a).yes (finishes last c f), λ o. says_last last c ((t.tells l a).no o))),
          );
          first = (
            g,
            r,
            w,
            λ x b. elim (ℕ_discrete (suc x) (rounds_of S)) as (λ _. Ends g r x → ⊥) [
              | yes e ↦ (λ o. open-yet ((told x (sym e)).1 o))
              | no e ↦ first x (omega arith)
            ],
          );
        }
      where
        says_last : (last : Bool) → Counted S S' (rounds_of S + 1) (flag last) → last ≡ true → FinishedBy S'
        says_last last c e = c.told ∙ ap flag e

        finishes : (last : Bool) → Counted S S' (rounds_of S + 1) (flag last) → FinishedBy S' → last ≡ true
        finishes true c f = refl
        finishes false c f = absurd (omega (arith, c.told))

        on : (last : Bool) → Counted S S' (rounds_of S + 1) (flag last) → Rounded g r (rounds_of S) M M' last → (FinishedBy S' → ⊥) → rounds_of S' ≡ suc (rounds_of S)
            → After g r (rounds_of S') M' × (rounds_of S' < most_rounds g r)
        on true c t z k = absurd (z c.told)
        on false c t z k = (
          subst (λ (x : ℕ). After g r x M') (sym k) (t.goes_on l a refl),
          elim (ℕ_discrete (suc (rounds_of S)) (most_rounds g r)) as (λ _. rounds_of S' < most_rounds g r) [
            | yes e ↦ absurd (let x = (t.tells l a).no (inr e) in let z : ◌≡◌ {A = ℕ} 0 1 = cc in omega arith)
            | no e ↦ omega arith
          ],
        )

    counted-now : (second : ℕ) (a : Progress) → Counts (job gs rs (length M) second) M S a M' S' → Now M' S'
    counted-now second a c =
        go (both (λ g r. Told S g r × First S g r) (λ g r. Running M S g r × Rounded g r (rounds_of S) M M' c.last) (both (Told S) (First S) now.ends now.first)
        (both (Running M S) (λ g r. Rounded g r (rounds_of S) M M' c.last) (now.running open-yet) c.table))
      where
        go : of_job (job_of gs rs) (λ g r. (Told S g r × First S g r) × (Running M S g r × Rounded g r (rounds_of S) M M' c.last)) → Now M' S'
        go (g, r, w, ((told, first), ((a, l), t))) = next c.last c.state g r w a l told first t

  round-now : {M S M' S' : List ℕ} (second : ℕ) (a : Progress) → Now M S → RoundedAs (job gs rs (length M) second) M S a M' S' → Now M' S'
  round-now {M} {S} {M'} {S'} second a now w = elim (ℕ_discrete a.answer.number 0) as (λ _. Now M' S') [
    | no z ↦ (let x = w.refused z in rw (x.0, x.1) now)
    | yes z ↦ (elim (ℕ_discrete (get_or S 2 0) 1) as (λ _. Now M' S') [
      | yes f ↦ (let x = w.over z f in rw (x.0, x.1) now)
      | no f ↦ counted-now now f second a (w.counts z f)
    ])
  ]

  now_of : {M S : List ℕ} → Underway gs rs M S → Now M S
  now_of (started second a w e) = start-now second a w e
  now_of (went_on second a u w) = round-now second a (now_of u) w

  -- how such a read ends
  module _ (Uncut : Job → List ℕ → defined.Answer → List ℕ → Type 0) {M S : List ℕ} (now : Now M S) (second : ℕ) (old : List ℕ) (a : Progress) (new : List ℕ)
      (room : a.answer.number ≡ 15 → ⊥) where
    abbrev j : Job
    j = job gs rs (length M) second

    abbrev last : List Line
    last = line 26 (FinishedBy S → ⊥) ∷ []

    number_of : {n k : ℕ} → a ≡ record { answer = refusal_of (record { why = plainly n; mismatch = false }); rounds = k } → a.answer.number ≡ n
    number_of e = ap (λ (x : Progress). x.answer.number) e

    -- of the three lines the last alone is left
    left : (n : ℕ) → Topmost (later_lines j S last) n → (n ≡ 0 → ⊥) → (n ≡ 15 → ⊥) → (FinishedBy S → ⊥) × (n ≡ 26)
    left n (inl (x, e)) z y = absurd (x now.belongs)
    left n (inr (x, inl (b, e))) z y = absurd (y e)
    left n (inr (x, inr (b, inl (f, e)))) z y = (f, e)
    left n (inr (x, inr (b, inr (f, e)))) z y = absurd (z e)

    passed-26 : Topmost (later_lines j S last) 0 → (FinishedBy S → ⊥) → ⊥
    passed-26 (inl (x, e)) z = omega arith
    passed-26 (inr (x, inl (b, e))) z = omega arith
    passed-26 (inr (x, inr (b, inl (f, e)))) z = omega arith
    passed-26 (inr (x, inr (b, inr (f, e)))) z = f z

    at-end : FinishedBy S → EndedAs Uncut j M S old a new → Uncut j old (shown a.answer) new × (a.rounds ≡ rounds_of S)
    at-end f (early n k t z e x y b) = absurd ((left n t z (λ q. room (number_of e ∙ q))).0 f)
    at-end f (altered t x e b) = absurd (clash (both (λ g r. Finished g r M) (λ g r. Finished g r M → ⊥) (now.over f) x))
      where
        clash : of_job (job_of gs rs) (λ g r. Finished g r M × (Finished g r M → ⊥)) → ⊥
        clash (g, r, w, (p, q)) = q p
    at-end f (as-uncut t u e) = (u, e)

    before-end : (FinishedBy S → ⊥) → EndedAs Uncut j M S old a new → (a.answer.number ≡ 26) × (a.rounds ≡ rounds_of S) × (new ≡ old)
    before-end f (early n k t z e x y b) =
        let w = left n t z (λ q. room (number_of e ∙ q)) in
        (number_of e ∙ w.1, ap (λ (o : Progress). o.rounds) e ∙ x w.1, b)
    before-end f (altered t x e b) = absurd (passed-26 t f)
    before-end f (as-uncut t u e) = absurd (passed-26 t f)

pub laws : (gs rs M S : List ℕ) (read : Underway gs rs M S) → Laws gs rs M S read
laws gs rs M S read =
    let now = now_of gs rs read in
    record {
      says = now.says;
      ends = now.ends;
      first = now.first;
      fewer = λ f. (let x = now.running f in (x.0, x.1, x.2, x.3.1));
      finished = λ U second old a new f e room. at-end gs rs U now second old a new room f e;
      unfinished = λ U second old a new f e room. before-end gs rs U now second old a new room f e;
    }
