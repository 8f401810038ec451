-- From a derivation that is spoken of to the answer to its XML.
use mathlib.Core.Bool.{Bool, true, false, ◌&&◌}
use mathlib.Core.Path.{◌≡◌, refl, sym, ap, ◌∙◌, subst}
use mathlib.Core.Logic.{◌⊎◌, inl, inr, ⊎_elim}
use mathlib.Core.List.{List, [], ◌∷◌}
use Prim.Native.Nat.{ℕ, ◌≤◌, ◌<◌}
use native.Mathlib.Omega.{arith}
use lib.Dec.{ltb, eqb}
use lib.ListN.{length}
use borrow.Author.Tests.{lt-ltb, le-ltb}
use Rattle.text.specs.Lists.{Text}
use Rattle.text.specs.Utf8.{known}
use Rattle.text.specs.Decode.{text, decode, break_of}
use Rattle.text.specs.Faults.{every, after_mark}
use Rattle.text.specs.Stages.{plainly}
use Rattle.tree.specs.Tree.{Grammar}
use Rattle.syntax.specs.Parser.{parsed}
use Rattle.plain.specs.Static.{mismatched}
use Rattle.derive.specs.Derive.{Row, root}
use Rattle.derive.specs.Pick.{found}
use Rattle.xml.specs.Document.{Xml as Document, document, mark_of, twice, misnamed, unwritable, is_attribute, not_one, namespaced}
use Rattle.xml.specs.Bytes.{bytes}
use Rattle.answer.specs.Answer.{Job, Shown, as_xml}
use Rattle.answer.specs.Compute.{fault_in, value, places_at, job_values, Outcome, outcome, Test, first_of, Finder, Marker}
use Rattle.answer.specs.Compute.{document_tests_of, long_test_by, found_result, result_with, tree_of, mismatch}
use Rattle.answer.proofs.Noted.{value-skip, placeless}
use Rattle.exported.specs.declared.Refusal.{Refusal}
use Rattle.dynamic_errors.specs.Judgment.{topmost, judgment_of}
use Rattle.std.specs.Prelude.{Result, Ok, Err}
use Rattle.convert.specs.declared.ConvertError.{ConvertError}
use Rattle.convert.specs.Concluded.{refusal_number, Written, NotWritten, Concludes}
use Rattle.exported.specs.Exported.{shown, refusal_of}
use Rattle.outcome.specs.Outcome.{answer_of}
use Rattle.outcome.proofs.Outcomes.{answering, refused-outcome, done-is}

-- 17 and on name no place
pub nowhere : (j : Job) (k : ℕ) → 17 ≤ k → record { byte = 0; fault = 0; grammar = 0 } ≡ places_at (job_values j) k
nowhere j k l =
    let two = value 2 (λ _. break_of every j.grammar (after_mark j.grammar)) in
    let three = value 3 (λ _. break_of known j.grammar (after_mark j.grammar)) in
    let twelve = value 12 (λ _. break_of every j.input 0) in
    let thirteen = value 13 (λ _. break_of known j.input 0) in
    let e = value-skip two (three ∷ twelve ∷ thirteen ∷ []) k (λ q. omega arith) ∙ value-skip three (twelve ∷ thirteen ∷ []) k (λ q. omega arith)
    ∙ value-skip twelve (thirteen ∷ []) k (λ q. omega arith) ∙ value-skip thirteen [] k (λ q. omega arith) in
    let f = value-skip (value 16 (λ _. fault_in j)) [] k (λ q. omega arith) in
    let g = placeless j.grammar k (inr (omega arith)) in
    λ ι. record { byte = sym e ι; fault = sym f ι; grammar = sym g ι }

-- the derivation that is found of a job's grammar and record
pub record Spoken (c : Finder) (j : Job) (g : Grammar) (r : Text) (row : Row) : Type 0 where
  pub is : tree_of j.grammar ≡ parsed g
  pub decoded : decode j.input ≡ text r
  pub choice : c g r ≡ found row

module _ {c : Finder} {j : Job} {g : Grammar} {r : Text} {row : Row} (y : Spoken c j g r row) where
  -- 1. Its lines.
  module _ (ts : List Test) where
    abbrev x : Document
    x = document g r row

    -- what the tests 17 to 22 come to, by what they find
    tests_by : (t m u a b n : Bool) → twice x ≡ t → misnamed x ≡ m → unwritable x ≡ u → is_attribute (mark_of g (root g)) ≡ a → not_one x ≡ b → namespaced x ≡ n
        → ((topmost t m u a b n ≡ 0) × (first_of (document_tests_of c j ts) ≡ first_of ts)) ⊎ ((topmost t m u a b n ≡ 0 → ⊥) × (first_of (document_tests_of c j ts) ≡ topmost t m u a b n))
    tests_by true m u a b n et em eu ea eb en = inr ((λ z. omega arith), rw (y.is, y.decoded, y.choice, et))
    tests_by false true u a b n et em eu ea eb en = inr ((λ z. omega arith), rw (y.is, y.decoded, y.choice, et, em))
    tests_by false false true a b n et em eu ea eb en = inr ((λ z. omega arith), rw (y.is, y.decoded, y.choice, et, em, eu))
    tests_by false false false true b n et em eu ea eb en = inr ((λ z. omega arith), rw (y.is, y.decoded, y.choice, et, em, eu, ea))
    tests_by false false false false true n et em eu ea eb en = inr ((λ z. omega arith), rw (y.is, y.decoded, y.choice, et, em, eu, ea, eb))
    tests_by false false false false false true et em eu ea eb en = inr ((λ z. omega arith), rw (y.is, y.decoded, y.choice, et, em, eu, ea, eb, en))
    tests_by false false false false false false et em eu ea eb en = inl (refl, rw (y.is, y.decoded, y.choice, et, em, eu, ea, eb, en))

    judged : ((judgment_of g r row ≡ 0) × (first_of (document_tests_of c j ts) ≡ first_of ts)) ⊎ ((judgment_of g r row ≡ 0 → ⊥) × (first_of (document_tests_of c j ts) ≡ judgment_of g r row))
    judged = tests_by (twice x) (misnamed x) (unwritable x) (is_attribute (mark_of g (root g))) (not_one x) (namespaced x) refl refl refl refl refl refl

    passing : judgment_of g r row ≡ 0 → first_of (document_tests_of c j ts) ≡ first_of ts
    passing e = ⊎_elim (λ p. p.1) (λ p. absurd (p.0 e)) judged

    failing : (n : ℕ) → n ≡ judgment_of g r row → (n ≡ 0 → ⊥) → first_of (document_tests_of c j ts) ≡ n
    failing n e z = ⊎_elim (λ p. absurd (z (e ∙ p.0))) (λ p. p.1 ∙ sym e) judged

  -- 2. Its result.
  module _ (k : Marker) (F : Shown) where
    pub found-result : found_result c j (result_with k F) ≡ result_with k F g r row
    found-result = rw (y.is, y.decoded, y.choice)

    module _ (old : List ℕ) where
      long-is : (long_test_by c k F j old).passes tt ≡ ltb (length old) (length (result_with k F g r row).cells)
      long-is = rw (y.is, y.decoded, y.choice)

      pub longer : length old < length (result_with k F g r row).cells → first_of (long_test_by c k F j old ∷ []) ≡ 23
      longer l = rw (long-is, lt-ltb (length old) (length (result_with k F g r row).cells) l)

      pub fits_in : length (result_with k F g r row).cells ≤ length old → first_of (long_test_by c k F j old ∷ []) ≡ 0
      fits_in l = rw (long-is, le-ltb (length old) (length (result_with k F g r row).cells) l)

  -- 3. The answer to its XML.
  module _ (k : Marker) (old : List ℕ) where
    abbrev cells : List ℕ
    cells = bytes (k g r row) (mismatched g) (document g r row)

    abbrev tests : List Test
    tests = document_tests_of c j (long_test_by c k as_xml j old ∷ [])

    abbrev made : ℕ → Outcome
    made n = outcome old (mismatch j.grammar) (job_values j) n (found_result c j (result_with k as_xml))

    late : (n : ℕ) → ((n ≡ judgment_of g r row) × (n ≡ 0 → ⊥)) ⊎ ((judgment_of g r row ≡ 0) × (n ≡ 23) × (length old < length cells)) → 17 ≤ n
    late k (inl p) = by (twice x) (misnamed x) (unwritable x) (is_attribute (mark_of g (root g))) (not_one x) (namespaced x) p.0 p.1
      where
        x : Document
        x = document g r row

        by : (t m u a b n : Bool) → k ≡ topmost t m u a b n → (k ≡ 0 → ⊥) → 17 ≤ k
        by true m u a b n e z = omega arith
        by false true u a b n e z = omega arith
        by false false true a b n e z = omega arith
        by false false false true b n e z = omega arith
        by false false false false true n e z = omega arith
        by false false false false false true e z = omega arith
        by false false false false false false e z = absurd (z e)
    late k (inr p) = omega (arith, p.1)

    module _ (m mark : Bool) (version : m ≡ mismatch j.grammar) (marked : mark ≡ k g r row) (new : List ℕ) where
      marks : m ≡ mismatched g
      marks = version ∙ rw y.is

      not_written : (n : ℕ) → NotWritten cells (judgment_of g r row) old new n → (N : ℕ) → N ≡ first_of tests
          → made N ≡ record { answer = shown (refusal_of (record { why = plainly n; mismatch = m })); buffer = new }
      not_written n u N f =
          let some : n ≡ 0 → ⊥ = λ z. ⊎_elim (λ p. p.1 z) (λ p. (let l = p.1 in omega arith)) u.why in
          let at : first_of tests ≡ n = ⊎_elim (λ p. failing (long_test_by c k as_xml j old ∷ []) n p.0 p.1)
          (λ p. passing (long_test_by c k as_xml j old ∷ []) p.0 ∙ longer k as_xml old p.2 ∙ sym p.1) u.why in
          let v = ap (λ (b : Bool). eqb n 16 && b) version in
          let q : Refusal = record { why = plainly n; mismatch = m } in
          ap made (f ∙ at) ∙ refused-outcome old (mismatch j.grammar) (job_values j) q (found_result c j (result_with k as_xml)) some v (nowhere j n (late n u.why))
          ∙ rw u.buffer refl

      written : (n : ℕ) → Written cells (judgment_of g r row) old new n → (N : ℕ) → N ≡ first_of tests
          → made N ≡ record { answer = shown (answer_of (Ok n) mark m); buffer = new }
      written n u N f =
          let first = f ∙ passing (long_test_by c k as_xml j old ∷ []) u.allowed ∙ fits_in k as_xml old u.fits in
          ap made first ∙ ap (answering old (mismatch j.grammar)) (found-result k as_xml) ∙ ap (λ (b : Bool). answering old b (result_with k as_xml g r row)) (sym version)
          ∙ done-is old new cells m (k g r row) mark n u.buffer u.count marked

      -- whatever is concluded of it
      pub concluded : (v : Result ℕ ConvertError) → Concludes g r row mark m old new v → (N : ℕ) → N ≡ first_of tests → made N ≡ record { answer = shown (answer_of v mark m); buffer = new }
      concluded v h = go v (subst (λ (b : Bool). Concludes g r row b (mismatched g) old new v) marked (subst (λ (b : Bool). Concludes g r row mark b old new v) marks h))
        where
          go : (v : Result ℕ ConvertError) → Concludes g r row (k g r row) (mismatched g) old new v → (N : ℕ) → N ≡ first_of tests
              → made N ≡ record { answer = shown (answer_of v mark m); buffer = new }
          go (Ok n) h = written n (h.written n refl)
          go (Err e) h = not_written (refusal_number e) (h.not_written e refl)
