-- Tidying has exactly one answer for each grammar and buffer, and it is the one that is computed.
use mathlib.Core.Bool.{Bool, false, ◌||◌}
use mathlib.Core.Path.{◌≡◌, refl, sym, subst, ap, ◌∙◌}
use mathlib.Core.Logic.{◌⊎◌, inl, inr, ⊎_elim}
use mathlib.Core.List.{List, []}
use Prim.Native.Nat.{ℕ, ◌<◌}
use native.Mathlib.Omega.{arith}
use lib.Dec.{T, ltb, ltb→lt}
use lib.ListN.{length}
use Rattle.text.proofs.Tests.{or_case}
use Rattle.text.specs.Limits.{grammar_bytes}
use Rattle.text.specs.Lists.{Text}
use Rattle.text.specs.Utf8.{Utf8, unmarked}
use Rattle.tree.specs.Tree.{Grammar}
use Rattle.syntax.specs.Syntax.{Ixml}
use Rattle.syntax.specs.Parser.{Parsed, parsed, no-parse}
use Rattle.plain.specs.Static.{mismatched}
use Rattle.answer.specs.Answer.{Line, Topmost, GrammarText, of_text, of_tree, grammar_lines, check_notes, Answer}
use Rattle.answer.specs.Compute.{first_of, on_tree, tree_of, grammar_tests, Result, result, result_tree, check_values, mismatch}
use Rattle.answer.proofs.Lines.{Agree, first-topmost, listed, none-given, passed, begun, other}
use Rattle.answer.proofs.Noted.{Keeps, keeps-check, sole-check, none_kept}
use Rattle.answer.proofs.Agree.{Tests, grammar-agrees, tree-known, same_test, less, tree-sound, tree-complete}
use Rattle.answer.proofs.Settled.{one_answer, computed}
use Rattle.tidy.specs.Call.{tidy_bytes, tidy_lines, Tidied, Tidies, tidy_tests, tidy_of}

module _ (bs old : List ℕ) where
  lines : List Line
  lines = grammar_lines bs (tidy_lines bs old)

  long-known : (n : ℕ) → Tests (on_tree (tree_of bs) (λ g. ltb n (length (tidy_bytes g)))) (of_tree bs (λ g. n < length (tidy_bytes g)))
  long-known n = tree-known bs (λ g. ltb n (length (tidy_bytes g))) (λ g. n < length (tidy_bytes g)) (λ g. less n (length (tidy_bytes g)))

  agrees : Agree lines (grammar_tests bs (tidy_tests bs old))
  unfolding lines
  agrees = grammar-agrees bs (tidy_lines bs old) (tidy_tests bs old) (refl, long-known grammar_bytes, (refl, long-known (length old), tt))

  -- 28 and 23 have no place
  no_place : (n : ℕ) → Topmost (tidy_lines bs old) n → Keeps n (check_notes bs) (check_values bs)
  no_place n t = record {
    bytes = (
      refl,
      λ e. absurd (subst (λ (m : ℕ). T (other 2 m)) e (listed (other 2) (tidy_lines bs old) n tt tt t)),
      (refl, λ e. absurd (subst (λ (m : ℕ). T (other 3 m)) e (listed (other 3) (tidy_lines bs old) n tt tt t)), tt),
    );
    faults = tt;
    grammars = none_kept bs n (far (listed (λ m. ltb m 1 || ltb 10 m) (tidy_lines bs old) n tt tt t));
  }
    where
      far : T (ltb n 1 || ltb 10 n) → (n < 5) ⊎ (10 < n)
      far h = ⊎_elim (λ l. let k = ltb→lt n 1 l in inl (omega arith)) (λ l. inr (ltb→lt 10 n l)) (or_case (ltb n 1) (ltb 10 n) h)

  keeps : (n : ℕ) → Topmost lines n → Keeps n (check_notes bs) (check_values bs)
  unfolding lines
  keeps n t =
      let m = first_of (grammar_tests bs []) in
      let first = first-topmost (grammar_lines bs []) (grammar_tests bs []) (grammar-agrees bs [] [] tt) in
      ⊎_elim
      (λ z. no_place n (passed (grammar_lines bs []) (tidy_lines bs old) n ((none-given (grammar_lines bs []) m tt first).0 z) t))
      (λ e. subst (λ (k : ℕ). Keeps k (check_notes bs) (check_values bs)) (sym e) (keeps-check bs m first))
      (begun (grammar_lines bs []) (tidy_lines bs old) m n first t)

  -- the result
  made : Parsed → Result
  made p = result_tree p (λ g. result (tidy_bytes g) false)

  there : (g : Grammar) → tree_of bs ≡ parsed g → Tidied bs (made (tree_of bs)).cells (made (tree_of bs)).ambiguous
  unfolding made
  there g e = rw e ((g, tree-sound bs g e, refl), refl)

  result-there : first_of (grammar_tests bs (tidy_tests bs old)) ≡ 0 → Tidied bs (made (tree_of bs)).cells (made (tree_of bs)).ambiguous
  unfolding lines
  result-there z =
      let none = (none-given (grammar_lines bs (tidy_lines bs old)) (first_of (grammar_tests bs (tidy_tests bs old))) tt
      (first-topmost (grammar_lines bs (tidy_lines bs old)) (grammar_tests bs (tidy_tests bs old)) agrees)).0 z in
      go (tree_of bs) refl none.1.0 none.1.1.1.0
    where
      go : (p : Parsed) → tree_of bs ≡ p → ((((cs : Text) × Utf8 bs cs) → ⊥) → ⊥) → (of_text GrammarText bs (λ cs. ((g : Grammar) × Ixml cs g) → ⊥) → ⊥)
          → Tidied bs (made (tree_of bs)).cells (made (tree_of bs)).ambiguous
      go (parsed g) e a b = there g e
      go no-parse e a b = absurd (a (λ x. b (
        unmarked x.0,
        (x.0, x.1, refl),
        λ y.
            let w = sym e ∙ tree-complete bs y.0 (unmarked x.0, (x.0, x.1, refl), y.1) in let z : ◌≡◌ {A = ℕ} 0 1 = cc in omega arith,
      )))

  one-result : (xs ys : List ℕ) (m n : Bool) → Tidied bs xs m → Tidied bs ys n → (xs ≡ ys) × (m ≡ n)
  one-result xs ys m n x y = (x.0.2 ∙ ap tidy_bytes same ∙ sym y.0.2, x.1 ∙ sym y.1)
    where
      same : x.0.0 ≡ y.0.0
      same = let w = sym (tree-complete bs x.0.0 x.0.1) ∙ tree-complete bs y.0.0 y.0.1 in cc

  pub tidy-answers : Tidies bs old (tidy_of bs old).answer (tidy_of bs old).buffer
  unfolding tidy_of lines made
  tidy-answers =
      computed (grammar_lines bs (tidy_lines bs old)) (grammar_tests bs (tidy_tests bs old)) (check_notes bs) (check_values bs) (Tidied bs) bs old
      (made (tree_of bs)) (mismatch bs) agrees (tree-known bs mismatched (λ g. T (mismatched g)) (λ g. same_test (mismatched g))) keeps result-there

  pub tidy-settled : (a : Answer) (new : List ℕ) → Tidies bs old a new → (a ≡ (tidy_of bs old).answer) × (new ≡ (tidy_of bs old).buffer)
  tidy-settled a new p =
      one_answer (grammar_lines bs (tidy_lines bs old)) (check_notes bs) (sole-check bs) (Tidied bs) bs old one-result
      a (tidy_of bs old).answer new (tidy_of bs old).buffer p tidy-answers
