-- Which of 27 and 15 a later call gives.
use mathlib.Core.Bool.{Bool, true, false, ◌||◌, ◌&&◌}
use mathlib.Core.Path.{◌≡◌, refl, sym, ap, subst, ◌∙◌}
use mathlib.Core.Logic.{◌⊎◌, inl, inr, ⊎_elim, ◌↔◌}
use mathlib.Core.List.{List, []}
use Prim.Native.Nat.{ℕ, ◌<◌}
use native.Mathlib.Omega.{arith}
use lib.Dec.{T, ltb, eqb}
use borrow.Author.Tests.{le-ltb, ltb-true, ltb-false}
use Rattle.text.specs.Limits.{grammar_table}
use Rattle.text.specs.Lists.{Text}
use Rattle.text.specs.Stages.{plainly}
use Rattle.text.specs.declared.Diagnostic.{Diagnostic}
use Rattle.text.proofs.Decode.{decode-sound}
use Rattle.tree.specs.Tree.{Grammar}
use Rattle.plain.specs.Static.{mismatched}
use Rattle.answer.specs.Answer.{Line, Topmost, Job, job, of_tree, of_job, main_need, grammar_lines, input_lines, Placed}
use Rattle.answer.specs.Compute.{first_of, mismatch, grammar_tests, need_tests}
use Rattle.answer.proofs.Lines.{one-topmost, first-topmost}
use Rattle.answer.proofs.Agree.{grammar-agrees, need-agrees, tree-known, tree-sound, one-grammar, one-record, same_test}
use Rattle.answer.proofs.Stages.{stage-lent}
use Rattle.opening.specs.declared.Start.{Start}
use Rattle.std.specs.Prelude.{Result, Err}
use Rattle.opening.specs.Stages.{Opened, Started, Opens, lending, need_of}
use Rattle.opening.proofs.Starts.{need-is}
use Rattle.state.specs.State.{Keeps}
use Rattle.exported.specs.Exported.{shown, done, refusal_of}
use Rattle.resume.specs.Resume.{Belongs, later_lines, no_notes, Rounds}
use Rattle.resume.specs.Stages.{Resumed, NotResumed, alien, no_room, Resumes}

-- the version mark with 0
pub version-known : (bs : List ℕ) (m : Bool) → m ≡ mismatch bs → T m ↔ ((◌≡◌ {A = ℕ} 0 0 ⊎ ◌≡◌ {A = ℕ} 0 16) × of_tree bs (λ g. T (mismatched g)))
version-known bs m e =
    let k = tree-known bs mismatched (λ g. T (mismatched g)) (λ g. same_test (mismatched g)) in
    (λ t. (inl refl, k.0 (subst T e t)), λ x. subst T (sym e) (k.1 x.1))

-- the lines up to 15, and their tests
pub tops : (j : Job) → Topmost (grammar_lines j.grammar (input_lines j [])) (first_of (grammar_tests j.grammar (need_tests main_need j [])))
tops j = first-topmost (grammar_lines j.grammar (input_lines j [])) (grammar_tests j.grammar (need_tests main_need j []))
    (grammar-agrees j.grammar (input_lines j []) (need_tests main_need j []) (need-agrees main_need j [] [] tt))

-- of the job's grammar and record
pub of-job : (j : Job) {T new : List ℕ} {s : Start} (o : Opened j.grammar j.input T new s) (P : Grammar → Text → Type 0) → P o.grammar.tree o.input.chars → of_job j P
of-job j o P p = (o.grammar.tree, o.input.chars, (tree-sound j.grammar o.grammar.tree o.grammar.is, decode-sound j.input o.input.chars o.input.decoded), p)

-- a read that could be opened could be started
pub startable : {gs rs T new S : List ℕ} {s : Start} → Keeps gs rs S → Opened gs rs T new s → Belongs gs rs S
startable {gs} {rs} {T} {new} {s = s} k o =
    let m = main_need o.grammar.tree o.input.chars in
    let j = job gs rs m grammar_table in
    let room : (ltb m m || ltb grammar_table grammar_table) ≡ false = rw (le-ltb m m (omega arith), le-ltb grammar_table grammar_table (omega arith)) refl in
    let e : first_of (grammar_tests gs (need_tests main_need j [])) ≡ 0 =
    o.grammar.first (need_tests main_need j []) ∙ stage-lent main_need j [] o.input.chars o.input.decoded o.input.within o.input.short o.grammar.tree o.grammar.is room in
    record { keeps = k; main = m; second = grammar_table; starts = subst (Topmost (grammar_lines gs (input_lines j []))) e (tops j) }

-- one that could not be opened could not
pub unstartable : {gs rs S : List ℕ} (T new : List ℕ) (d : Diagnostic) → Opens gs rs T new (Err d) → Belongs gs rs S → ⊥
unstartable {gs} {rs} T new d o w =
    let j = job gs rs w.main w.second in
    let x = o main_need j refl refl in
    let e = one-topmost (grammar_lines gs (input_lines j [])) (first_of (grammar_tests gs (need_tests main_need j []))) 0 (tops j) w.starts in
    x.some (sym (x.is []) ∙ e)

-- 15 where it applies
pub no-space : (j : Job) {T new : List ℕ} {s : Start} (o : Opened j.grammar j.input T new s)
    → (ltb j.main_table (main_need o.grammar.tree o.input.chars) || ltb j.second_table grammar_table) ≡ true
    → of_job j (λ g r. (j.main_table < main_need g r) ⊎ (j.second_table < grammar_table))
no-space j o e = of-job j o (λ g r. (j.main_table < main_need g r) ⊎ (j.second_table < grammar_table))
    (side (ltb j.main_table (main_need o.grammar.tree o.input.chars)) (ltb j.second_table grammar_table) refl refl e)
  where
    side : (a b : Bool) → ltb j.main_table (main_need o.grammar.tree o.input.chars) ≡ a → ltb j.second_table grammar_table ≡ b → (a || b) ≡ true
        → (j.main_table < main_need o.grammar.tree o.input.chars) ⊎ (j.second_table < grammar_table)
    side true b x y z = inl (ltb-true j.main_table (main_need o.grammar.tree o.input.chars) x)
    side false true x y z = inr (ltb-true j.second_table grammar_table y)
    side false false x y z = absurd (let w : ◌≡◌ {A = ℕ} 0 1 = cc in omega arith)

-- and where it does not
pub space : (j : Job) {T new : List ℕ} {s : Start} → Started j T new s → of_job j (λ g r. (j.main_table < main_need g r) ⊎ (j.second_table < grammar_table)) → ⊥
space j w (g, r, x, c) =
    let eg = one-grammar j x.0 (tree-sound j.grammar w.grammar.tree w.grammar.is) in
    let er = one-record j x.1 (decode-sound j.input w.input.chars w.input.decoded) in
    let m = main_need w.grammar.tree w.input.chars in
    let e : main_need g r ≡ m = ap (λ (h : Grammar). main_need h r) eg ∙ ap (main_need w.grammar.tree) er in
    none (ltb j.main_table m) (ltb j.second_table grammar_table) refl refl w.enough (⊎_elim (λ l. inl (omega arith)) inr c)
  where
    none : (a b : Bool) → ltb j.main_table (main_need w.grammar.tree w.input.chars) ≡ a → ltb j.second_table grammar_table ≡ b → (a || b) ≡ false
        → (j.main_table < main_need w.grammar.tree w.input.chars) ⊎ (j.second_table < grammar_table) → ⊥
    none true b x y z _ = absurd (let w : ◌≡◌ {A = ℕ} 0 1 = cc in omega arith)
    none false true x y z _ = absurd (let w : ◌≡◌ {A = ℕ} 0 1 = cc in omega arith)
    none false false x y z (inl l) = omega (arith, ltb-false j.main_table (main_need w.grammar.tree w.input.chars) x)
    none false false x y z (inr l) = omega (arith, ltb-false j.second_table grammar_table y)

unfoldable pub opened_of : (j : Job) {T new : List ℕ} {s : Start} → Started j T new s → Opened j.grammar j.input T new s
opened_of j w = record { grammar = w.grammar; input = w.input }

-- the stages of a later call
module _ (j : Job) (S T new : List ℕ) where
  pub not-kept : (Keeps j.grammar j.input S → ⊥) → Resumes j S T new (Err (plainly 27))
  not-kept n = alien (λ b. n b.keeps)

  pub not_opened : (d : Diagnostic) → Opens j.grammar j.input T new (Err d) → Resumes j S T new (Err (plainly 27))
  not_opened d o = alien (unstartable T new d o)

  pub lent-or-not : (s : Start) → Opened j.grammar j.input T new s → Keeps j.grammar j.input S → (r : Result Start Diagnostic)
      → r ≡ lending s (ltb j.main_table (need_of s) || ltb j.second_table grammar_table) → Resumes j S T new r
  lent-or-not s o keeps r z = rw z (go (ltb j.main_table (need_of s) || ltb j.second_table grammar_table) refl)
    where
      is : (ltb j.main_table (main_need o.grammar.tree o.input.chars) || ltb j.second_table grammar_table) ≡ (ltb j.main_table (need_of s) || ltb j.second_table grammar_table)
      is = ap (λ (n : ℕ). ltb j.main_table n || ltb j.second_table grammar_table) (sym (need-is s o))

      go : (c : Bool) → (ltb j.main_table (need_of s) || ltb j.second_table grammar_table) ≡ c → Resumes j S T new (lending s c)
      go true w = no_room (startable keeps o) (no-space j o (is ∙ w))
      go false w = record { keeps = keeps; started = record { grammar = o.grammar; input = o.input; enough = is ∙ w } }

pub no-mark : (b : Bool) → T (b && false) → ⊥
no-mark true h = h
no-mark false h = h

-- answers without a result
module _ (j : Job) (S : List ℕ) where
  -- a refusal by one of the first lines
  pub later-refused : (ls : List Line) (d : Diagnostic) → NotResumed j S d → Topmost (later_lines j S ls) d.number × (d.number ≡ 0 → ⊥) × (d.number ≡ 16 → ⊥) × (d ≡ plainly d.number)
  later-refused ls _ (alien n) = (inl (n, refl), λ e. omega arith, λ e. omega arith, refl)
  later-refused ls _ (no_room b x) = (inr (λ n. n b, inl (x, refl)), λ e. omega arith, λ e. omega arith, refl)

  pub later-passed : {T new : List ℕ} {s : Start} (ls : List Line) (n : ℕ) → Resumed j S T new s → Topmost ls n → Topmost (later_lines j S ls) n
  later-passed ls n w t = inr (λ a. a (startable w.keeps (opened_of j w.started)), inr (space j w.started, t))

  pub rounds-refused : (d : Diagnostic) → NotResumed j S d → Rounds j S (shown (refusal_of (record { why = d; mismatch = false })))
  rounds-refused d w = by (later-refused [] d w)
    where
      by : Topmost (later_lines j S []) d.number × (d.number ≡ 0 → ⊥) × (d.number ≡ 16 → ⊥) × (d ≡ plainly d.number)
          → Rounds j S (shown (refusal_of (record { why = d; mismatch = false })))
      by (t, z, y, e) = record {
        number = t;
        answered = λ x. absurd (z x);
        refused = λ _. (refl, refl, refl);
        version = (λ q. absurd (no-mark (eqb d.number 16) q), λ x. absurd (⊎_elim z y x.0));
        places = subst (λ (x : Diagnostic). Placed no_notes d.number (shown (refusal_of (record { why = x; mismatch = false }))).places) (sym e)
            (record { byte = refl; fault = refl; grammar = refl });
      }

  pub rounds-done : {T new : List ℕ} {s : Start} → Resumed j S T new s → Rounds j S (shown (done 0 false s.rules.mismatch))
  rounds-done {s = s} w = record {
    number = later-passed [] 0 w refl;
    answered = λ _. ([], (refl, refl), refl, refl);
    refused = λ z. absurd (z refl);
    version = version-known j.grammar s.rules.mismatch w.started.grammar.version;
    places = record { byte = refl; fault = refl; grammar = refl };
  }
