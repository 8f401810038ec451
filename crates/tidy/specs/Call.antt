-- The call that tidies a grammar: its answers, and the same computed.
use Rattle.std.specs.Prelude.{Bool, false, ◌≡◌, List, [], ◌∷◌, ℕ, ◌<◌, ltb, length}
use Rattle.text.specs.Limits.{grammar_bytes}
use Rattle.text.specs.Utf8.{utf8s}
use Rattle.tree.specs.Tree.{Grammar}
use Rattle.answer.specs.Answer.{Line, line, of_tree, grammar_lines, check_notes, Answer, Answers}
use Rattle.answer.specs.Compute.{Test, test, first_of, on_tree, tree_of, grammar_tests, result, result_tree, check_values, Outcome, outcome, mismatch}
use Rattle.tidy.specs.Tidy.{tidy_text}

abbrev pub tidy_bytes : Grammar → List ℕ
tidy_bytes g = utf8s (tidy_text g)

-- "a grammar that isn't accepted gets checking's answer. If the tidy text would exceed 4,096 bytes it is refused as 28; otherwise,
-- if it exceeds the lent buffer, as 23"
abbrev pub tidy_lines : List ℕ → List ℕ → List Line
tidy_lines bs old =
    line 28 (of_tree bs (λ g. grammar_bytes < length (tidy_bytes g)))
    ∷ line 23 (of_tree bs (λ g. length old < length (tidy_bytes g)))
    ∷ []

abbrev pub Tidied : List ℕ → List ℕ → Bool → Type 0
Tidied bs xs m = of_tree bs (λ g. xs ≡ tidy_bytes g) × (m ≡ false)

abbrev pub Tidies : List ℕ → List ℕ → Answer → List ℕ → Type 0
Tidies bs old = Answers (grammar_lines bs (tidy_lines bs old)) (check_notes bs) (Tidied bs) bs old

-- computed
abbrev pub tidy_tests : List ℕ → List ℕ → List Test
tidy_tests bs old =
    test 28 (λ _. on_tree (tree_of bs) (λ g. ltb grammar_bytes (length (tidy_bytes g))))
    ∷ test 23 (λ _. on_tree (tree_of bs) (λ g. ltb (length old) (length (tidy_bytes g))))
    ∷ []

unfoldable pub tidy_of : List ℕ → List ℕ → Outcome
tidy_of bs old =
    outcome old (mismatch bs) (check_values bs) (first_of (grammar_tests bs (tidy_tests bs old))) (result_tree (tree_of bs) (λ g. result (tidy_bytes g) false))
