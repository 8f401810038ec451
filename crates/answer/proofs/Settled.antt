-- Each call has exactly one answer for each job, and it is the one that is computed.
use mathlib.Core.Bool.{Bool, true, false, not, ◌&&◌}
use mathlib.Core.Path.{◌≡◌, refl, sym, subst, ap, ◌∙◌}
use mathlib.Core.Logic.{◌⊎◌, inl, inr, ◌↔◌, ⊎_elim}
use mathlib.Core.List.{List, [], ◌∷◌, ◌++◌}
use Prim.Native.Nat.{ℕ, ◌<◌}
use native.Mathlib.Omega.{arith}
use native.Mathlib.Decide.{ℕ_discrete}
use lib.Dec.{T, ltb, eqb, ltb→lt}
use lib.ListN.{length, drop}
use borrow.Author.Tests.{eqb-true, eqb-false, eq-eqb, ne_eqb}
use Rattle.text.specs.Limits.{reading_numbers}
use Rattle.text.specs.Lists.{Text, all}
use Rattle.text.specs.Utf8.{Utf8, unmarked}
use Rattle.text.proofs.Tests.{clash, and_left, and_right}
use Rattle.text.specs.Decode.{Decoded, text, not-utf8, decode}
use Rattle.text.proofs.Decode.{decode-sound, decode-complete}
use Rattle.tree.specs.Tree.{Grammar}
use Rattle.syntax.specs.Parser.{Parsed, parsed, no-parse, parse}
use Rattle.derive.specs.Derive.{Row, left_parse}
use Rattle.derive.specs.Pick.{Choice, found, no-choice}
use Rattle.derive.specs.Pick.{chosen_of}
use Rattle.plain.specs.Static.{mismatched}
use Rattle.viable.specs.Fault.{FaultAt}
use Rattle.answer.specs.Answer.{Line, Topmost, of_tree, grammar_lines, reading_lines, document_lines, list_lines, document_lines_of, need_lines, Need, main_need, scratch_need}
use Rattle.answer.specs.Answer.{Job, GrammarTree, of_job, Source, given}
use Rattle.answer.specs.Answer.{Shown, as_numbers, as_xml, ResultBy, too_long, too_long_by, Notes, Placed, check_notes, job_notes, Answer, Answers, Checks, Reads, Converts, Judges}
use Rattle.answer.specs.Compute.{Test, test, first_of, on_reading, on_found, grammar_tests, need_tests, none_test, document_tests, document_tests_of, is_text, is_tree, is_found}
use Rattle.answer.specs.Compute.{on_text, on_job, tree_of, after_mark, Result, result, Finder, Marker, never, found_result, result_with, Outcome, outcome, mismatch}
use Rattle.answer.specs.Compute.{fault_in, Values, check_values, job_values, check_of, long_test, long_test_by, read_of, convert_of, judge_of}
use Rattle.answer.specs.Named.{named_of}
use Rattle.answer.proofs.Lines.{one-topmost, Agree, first-topmost, numbers, distinct, given as applied}
use Rattle.answer.proofs.Noted.{Sole, one_placed, Keeps, keeps_placed, keeps-check, keeps-job, reading-fault, sole-check, sole-job}
use Rattle.answer.proofs.Agree.{Tests, grammar-agrees, need-agrees, reading-agrees, list-agrees, document-agrees, tree-known, source_known, same_test, less, tree-sound, tree-complete}
pub use Rattle.answer.proofs.Agree.{same-mark}
use Rattle.answer.proofs.Agree.{Finds, chosen-finds, given-finds}

module _ (lines : List Line) (notes : Notes) (sole : Sole notes) (R : List ℕ → Bool → Type 0) (bs old : List ℕ)
    (one : (xs ys : List ℕ) (m n : Bool) → R xs m → R ys n → (xs ≡ ys) × (m ≡ n)) where
  -- no two answers
  pub one_answer : (a b : Answer) (new new' : List ℕ) → Answers lines notes R bs old a new → Answers lines notes R bs old b new' → (a ≡ b) × (new ≡ new')
  one_answer a b new new' p q = elim (ℕ_discrete a.number 0) as (λ _. (a ≡ b) × (new ≡ new')) [
    | yes z ↦ (let x = p.answered z in
        let y = q.answered (sym same ∙ z) in
        let w = one x.0 y.0 a.ambiguous b.ambiguous x.1 y.1 in (
          λ ι. record { number = same ι; length = (x.2 ∙ ap length w.0 ∙ sym y.2) ι; ambiguous = w.1 ι; version = marks ι; places = where-at ι },
          x.3 ∙ ap (λ (xs : List ℕ). xs ++ drop (length xs) old) w.0 ∙ sym y.3,
        ))
    | no z ↦ (let x = p.refused z in
        let y = q.refused (λ e. z (same ∙ e)) in
        (λ ι. record { number = same ι; length = (x.0 ∙ sym y.0) ι; ambiguous = (x.1 ∙ sym y.1) ι; version = marks ι; places = where-at ι }, x.2 ∙ sym y.2))
  ]
    where
      same : a.number ≡ b.number
      same = one-topmost lines a.number b.number p.number q.number

      marks : a.version ≡ b.version
      marks = same-mark a.version b.version (((a.number ≡ 0) ⊎ (a.number ≡ 16)) × of_tree bs (λ g. T (mismatched g))) p.version
          (subst (λ (n : ℕ). T b.version ↔ (((n ≡ 0) ⊎ (n ≡ 16)) × of_tree bs (λ g. T (mismatched g)))) (sym same) q.version)

      where-at : a.places ≡ b.places
      where-at = one_placed notes sole a.number a.places b.places p.places (subst (λ (n : ℕ). Placed notes n b.places) (sym same) q.places)

-- the computed one is one
mark-0 : (m : Bool) (A : Type 0) (n : ℕ) → n ≡ 0 → T m ↔ A → T m ↔ (((n ≡ 0) ⊎ (n ≡ 16)) × A)
mark-0 m A n e h = (λ t. (inl e, h.0 t), λ x. h.1 x.1)

mark-other : (m : Bool) (A : Type 0) (n : ℕ) → (n ≡ 0 → ⊥) → T m ↔ A → T (eqb n 16 && m) ↔ (((n ≡ 0) ⊎ (n ≡ 16)) × A)
mark-other m A n z h = elim (ℕ_discrete n 16) as (λ _. T (eqb n 16 && m) ↔ (((n ≡ 0) ⊎ (n ≡ 16)) × A)) [
  | yes e ↦ rw (eq-eqb n 16 e) (λ t. (inr e, h.0 t), λ x. h.1 x.1)
  | no e ↦ rw (ne_eqb n 16 e) (λ t. absurd t, λ x. ⊎_elim (λ q. z q) (λ q. e q) x.0)
]

pub computed : (ls : List Line) (ts : List Test) (notes : Notes) (vs : Values) (R : List ℕ → Bool → Type 0) (bs old : List ℕ) (x : Result) (m : Bool)
    → Agree ls ts → T m ↔ of_tree bs (λ g. T (mismatched g))
    → ((n : ℕ) → Topmost ls n → Keeps n notes vs) → (first_of ts ≡ 0 → R x.cells x.ambiguous)
    → Answers ls notes R bs old (outcome old m vs (first_of ts) x).answer (outcome old m vs (first_of ts) x).buffer
computed ls ts notes vs R bs old x m a v p h = go (first_of ts) (first-topmost ls ts a) h (eqb (first_of ts) 0) refl
  where
    go : (n : ℕ) → Topmost ls n → (n ≡ 0 → R x.cells x.ambiguous) → (b : Bool) → eqb n 0 ≡ b → Answers ls notes R bs old (outcome old m vs n x).answer (outcome old m vs n x).buffer
    go n t k true e =
        rw (e, outcome) (record {
          number = t;
          answered = λ z. (x.cells, k z, refl, refl);
          refused = λ z. absurd (z (eqb-true n 0 e));
          version = mark-0 m (of_tree bs (λ g. T (mismatched g))) n (eqb-true n 0 e) v;
          places = keeps_placed n notes vs (p n t);
        })
    go n t k false e =
        rw (e, outcome) (record {
          number = t;
          answered = λ z. absurd (eqb-false n 0 e z);
          refused = λ z. (refl, refl, refl);
          version = mark-other m (of_tree bs (λ g. T (mismatched g))) n (eqb-false n 0 e) v;
          places = keeps_placed n notes vs (p n t);
        })

-- Checking.
mismatch-known : (bs : List ℕ) → T (mismatch bs) ↔ of_tree bs (λ g. T (mismatched g))
mismatch-known bs = tree-known bs mismatched (λ g. T (mismatched g)) (λ g. same_test (mismatched g))

no_buffer : (m : Bool) (vs : Values) (n : ℕ) → (outcome [] m vs n (result [] false)).buffer ≡ []
no_buffer m vs n = go (eqb n 0) refl
  where
    go : (b : Bool) → eqb n 0 ≡ b → (outcome [] m vs n (result [] false)).buffer ≡ []
    go true e = rw (e, outcome)
    go false e = rw (e, outcome)

pub check-answers : (bs : List ℕ) → Checks bs (check_of bs)
unfolding check_of
check-answers bs =
    let n = first_of (grammar_tests bs []) in
    let w = computed (grammar_lines bs []) (grammar_tests bs []) (check_notes bs) (check_values bs) (λ xs m. (xs ≡ []) × (m ≡ false)) bs [] (result [] false) (mismatch bs)
    (grammar-agrees bs [] [] tt) (mismatch-known bs) (keeps-check bs) (λ z. (refl, refl)) in
    subst (λ (new : List ℕ). Checks' bs (outcome [] (mismatch bs) (check_values bs) n (result [] false)).answer new) (no_buffer (mismatch bs) (check_values bs) n) w
  where
    Checks' : List ℕ → Answer → List ℕ → Type 0
    Checks' bs a new = Answers (grammar_lines bs []) (check_notes bs) (λ xs m. (xs ≡ []) × (m ≡ false)) bs [] a new

pub check-settled : (bs : List ℕ) (a : Answer) → Checks bs a → a ≡ check_of bs
check-settled bs a p =
    (one_answer (grammar_lines bs []) (check_notes bs) (sole-check bs) (λ xs m. (xs ≡ []) × (m ≡ false)) bs []
    (λ xs ys m n x y. (x.0 ∙ sym y.0, x.1 ∙ sym y.1)) a (check_of bs) [] [] p (check-answers bs)).0

-- no test passes
abbrev Fail : List Test → Type 0
Fail [] = Unit {0}
Fail (t ∷ ts) = (t.passes tt ≡ false) × Fail ts

abbrev numbered : List Test → Bool
numbered ts = all (λ t. ltb 0 t.number) ts

none_pass : (ts : List Test) → T (numbered ts) → first_of ts ≡ 0 → Fail ts
none_pass [] k z = tt
none_pass (t ∷ ts) k z = go (t.passes tt) refl z (none_pass ts (and_right (ltb 0 t.number) (numbered ts) k))
  where
    go : (b : Bool) → t.passes tt ≡ b → ◌≡◌ {A = ℕ} (elim b as (λ _. ℕ) [ true ↦ t.number | false ↦ first_of ts ]) 0 → (first_of ts ≡ 0 → Fail ts) → Fail (t ∷ ts)
    go true e q h = let l = ltb→lt 0 t.number (and_left (ltb 0 t.number) (numbered ts) k) in absurd (omega arith)
    go false e q h = (e, h q)

text-there : (d : Decoded) → not (is_text d) ≡ false → (cs : Text) × (d ≡ text cs)
text-there (text cs) e = (cs, refl)
text-there not-utf8 e = absurd (clash e refl)

tree-there : (p : Parsed) → not (is_tree p) ≡ false → (g : Grammar) × (p ≡ parsed g)
tree-there (parsed g) e = (g, refl)
tree-there no-parse e = absurd (clash e refl)

choice-there : (c : Choice) → not (is_found c) ≡ false → (t : Row) × (c ≡ found t)
choice-there (found t) e = (t, refl)
choice-there no-choice e = absurd (clash e refl)

-- A call on a record, by the derivation that it speaks of.
module _ {s : Source} {c : Finder} {k : Marker} (w : Finds s c k) (j : Job) (F : Shown) where
  -- whatever is a result is the computed one
  result-is : (xs : List ℕ) (m : Bool) → ResultBy s j F xs m → result xs m ≡ found_result c j (result_with k F)
  result-is xs m x =
      let g = x.0 in
      let r = x.1 in
      let t = x.3.0 in
      let p = x.3.1 in
      let y = x.3.2 in
      let em : m ≡ k g r t = w.one-mark g r t p y m x.3.3.0 in
      let ep = w.numbers g r t p y in
      let ex : xs ≡ F (k g r t) g r t (left_parse t) = x.3.3.1 ∙ (λ ι. F (em ι) g r t (ep ι)) in
      let ec : result xs m ≡ result (F (k g r t) g r t (left_parse t)) (k g r t) = λ ι. result (ex ι) (em ι) in
      rw (tree-complete j.grammar g x.2.0, decode-complete j.input r x.2.1, w.complete g r t p y) ec

  one-result : (xs ys : List ℕ) (m n : Bool) → ResultBy s j F xs m → ResultBy s j F ys n → (xs ≡ ys) × (m ≡ n)
  one-result xs ys m n x y = let e = result-is xs m x ∙ sym (result-is ys n y) in (ap (λ (z : Result). z.cells) e, ap (λ (z : Result). z.ambiguous) e)

  by-source : (g : Grammar) (r : Text) (t : Row) → GrammarTree j.grammar g × Utf8 j.input r → s.Is g r t (left_parse t)
      → ResultBy s j F (result_with k F g r t).cells (result_with k F g r t).ambiguous
  by-source g r t v y = (g, r, v, (t, left_parse t, y, (w.marked g r t (left_parse t) y, refl)))

  -- the numbers of a source are those of its derivation
  with-numbers : (g : Grammar) (r : Text) (t : Row) (p : List ℕ) → s.Is g r t p → s.Is g r t (left_parse t)
  with-numbers g r t p y = subst (λ (q : List ℕ). s.Is g r t q) (w.numbers g r t p y) y

  long-known : (old : List ℕ) → Tests (on_found c j (λ g r t. ltb (length old) (length (result_with k F g r t).cells)))
      ((xs : List ℕ) × (m : Bool) × ResultBy s j F xs m × (length old < length xs))
  long-known old =
      let o = source_known w j (λ g r t. ltb (length old) (length (result_with k F g r t).cells))
      (λ g r t p. length old < length (result_with k F g r t).cells) (λ g r t. less (length old) (length (result_with k F g r t).cells)) in (
        λ h. let x = o.0 h in (
          (result_with k F x.0 x.1 x.3.0).cells,
          (result_with k F x.0 x.1 x.3.0).ambiguous,
          by-source x.0 x.1 x.3.0 x.2 (with-numbers x.0 x.1 x.3.0 x.3.1 x.3.2),
          x.3.3,
        ),
        λ x. o.1 (x.2.0, x.2.1, x.2.2, (x.2.3.0, x.2.3.1, x.2.3.2, longer x.0 x.1 x.2 x.3)),
      )
    where
      longer : (xs : List ℕ) (m : Bool) (x : ResultBy s j F xs m) → length old < length xs → length old < length (result_with k F x.0 x.1 x.3.0).cells
      longer xs m x h = subst (λ (ys : List ℕ). length old < length ys)
          (one-result xs (result_with k F x.0 x.1 x.3.0).cells m (result_with k F x.0 x.1 x.3.0).ambiguous x
          (by-source x.0 x.1 x.3.0 x.2 (with-numbers x.0 x.1 x.3.0 x.3.1 x.3.2))).0 h

  -- where no line applies there is a result
  there-tree : (cs : Text) → decode j.grammar ≡ text cs → on_text (decode j.grammar) (λ cs. not (is_tree (parse (unmarked cs)))) ≡ false
      → (g : Grammar) × (tree_of j.grammar ≡ parsed g)
  unfolding tree_of
  there-tree cs e f = let p = tree-there (parse (unmarked cs)) (rw e at f) in (p.0, ap after_mark e ∙ p.1)

  there-result : (g : Grammar) (r : Text) (t : Row) → tree_of j.grammar ≡ parsed g → decode j.input ≡ text r → c g r ≡ found t
      → ResultBy s j F (found_result c j (result_with k F)).cells (found_result c j (result_with k F)).ambiguous
  there-result g r t et er ec = rw (et, er, ec) (by-source g r t (tree-sound j.grammar g et, decode-sound j.input r er) (w.sound g r t ec))

  there-choice : (g : Grammar) (r : Text) → tree_of j.grammar ≡ parsed g → decode j.input ≡ text r
      → on_job j (λ g r. not (is_found (c g r))) ≡ false → (t : Row) × (c g r ≡ found t)
  there-choice g r et er f = choice-there (c g r) (rw (et, er) at f)

  module _ (need : Need) (number : ℕ) (ts : List Test) where
    tests : List Test
    tests = grammar_tests j.grammar (need_tests need j (none_test number c j ∷ ts))

    there : Fail tests → ResultBy s j F (found_result c j (result_with k F)).cells (found_result c j (result_with k F)).ambiguous
    unfolding tests
    there u =
        let records = u.1.1.1.1.1.1.1.1.1.1.1.1 in
        let d = text-there (decode j.grammar) u.1.0 in
        let e = text-there (decode j.input) records.0 in
        let p = there-tree d.0 d.1 u.1.1.1.0 in
        let o = there-choice p.0 e.0 p.1 e.1 records.1.1.1.1.0 in
        there-result p.0 e.0 o.0 p.1 e.1 o.1

    -- the lines of a call, and its tests
    module _ (old : List ℕ) (ls : List Line) (h : T (numbered tests)) (d : T (distinct (numbers (grammar_lines j.grammar (need_lines need j ls))))) (a : Agree ls (none_test number c j ∷ ts))
        (fault : (n : ℕ) → Topmost (grammar_lines j.grammar (need_lines need j ls)) n → n ≡ 16 → of_job j (λ g r. FaultAt g r (fault_in j))) where
      lines : List Line
      lines = grammar_lines j.grammar (need_lines need j ls)

      made : Outcome
      made = outcome old (mismatch j.grammar) (job_values j) (first_of tests) (found_result c j (result_with k F))

      call-answers : Answers lines (job_notes j) (ResultBy s j F) j.grammar old made.answer made.buffer
      unfolding lines made tests
      call-answers =
          computed (grammar_lines j.grammar (need_lines need j ls)) (grammar_tests j.grammar (need_tests need j (none_test number c j ∷ ts))) (job_notes j) (job_values j)
          (ResultBy s j F) j.grammar old (found_result c j (result_with k F)) (mismatch j.grammar)
          (grammar-agrees j.grammar (need_lines need j ls) (need_tests need j (none_test number c j ∷ ts)) (need-agrees need j ls (none_test number c j ∷ ts) a))
          (mismatch-known j.grammar) (λ n t. keeps-job need j ls d n t (fault n t))
          (λ z. there (none_pass (grammar_tests j.grammar (need_tests need j (none_test number c j ∷ ts))) h z))

      call_settled : (b : Answer) (new : List ℕ) → Answers lines (job_notes j) (ResultBy s j F) j.grammar old b new → (b ≡ made.answer) × (new ≡ made.buffer)
      call_settled b new p = one_answer lines (job_notes j) (sole-job j) (ResultBy s j F) j.grammar old one-result b made.answer new made.buffer p call-answers

-- the computed answer is an answer, and the only one
module _ (j : Job) (old : List ℕ) where
  longest : Test
  longest = test 29 (λ _. on_reading j (λ g r t. ltb reading_numbers (length (left_parse t))))

  read-lines : Agree (reading_lines j (too_long j as_numbers old ∷ [])) (none_test 16 chosen_of j ∷ longest ∷ long_test as_numbers j old ∷ [])
  unfolding longest
  read-lines = reading-agrees j (too_long j as_numbers old ∷ []) (long_test as_numbers j old ∷ []) (refl, long-known chosen-finds j as_numbers old, tt)

  pub read-answers : Reads j old (read_of j old).answer (read_of j old).buffer
  unfolding read_of lines made longest tests
  read-answers = call-answers chosen-finds j as_numbers main_need 16 (longest ∷ long_test as_numbers j old ∷ []) old (reading_lines j (too_long j as_numbers old ∷ [])) tt tt read-lines
      (reading-fault j (too_long j as_numbers old ∷ []) tt)

  pub read-settled : (a : Answer) (new : List ℕ) → Reads j old a new → (a ≡ (read_of j old).answer) × (new ≡ (read_of j old).buffer)
  unfolding read_of lines made longest tests
  read-settled a new p = call_settled chosen-finds j as_numbers main_need 16 (longest ∷ long_test as_numbers j old ∷ []) old (reading_lines j (too_long j as_numbers old ∷ [])) tt tt read-lines
      (reading-fault j (too_long j as_numbers old ∷ []) tt) a new p

  abbrev convert_lines : List Line
  convert_lines = reading_lines j (document_lines j (too_long j as_xml old ∷ []))

  convert-lines : Agree convert_lines (none_test 16 chosen_of j ∷ longest ∷ document_tests j (long_test as_xml j old ∷ []))
  unfolding longest
  convert-lines = reading-agrees j (document_lines j (too_long j as_xml old ∷ [])) (document_tests j (long_test as_xml j old ∷ []))
      (document-agrees chosen-finds j (too_long j as_xml old ∷ []) (long_test as_xml j old ∷ []) (refl, long-known chosen-finds j as_xml old, tt))

  pub convert-answers : Converts j old (convert_of j old).answer (convert_of j old).buffer
  unfolding convert_of lines made longest tests
  convert-answers = call-answers chosen-finds j as_xml main_need 16 (longest ∷ document_tests j (long_test as_xml j old ∷ [])) old convert_lines tt tt convert-lines
      (reading-fault j (document_lines j (too_long j as_xml old ∷ [])) tt)

  pub convert-settled : (a : Answer) (new : List ℕ) → Converts j old a new → (a ≡ (convert_of j old).answer) × (new ≡ (convert_of j old).buffer)
  unfolding convert_of lines made longest tests
  convert-settled a new p = call_settled chosen-finds j as_xml main_need 16 (longest ∷ document_tests j (long_test as_xml j old ∷ [])) old convert_lines tt tt convert-lines
      (reading-fault j (document_lines j (too_long j as_xml old ∷ [])) tt) a new p

  module _ (q : List ℕ) where
    abbrev judge_lines : List Line
    judge_lines = list_lines q j (document_lines_of (given q) j (too_long_by (given q) j as_xml old ∷ []))

    abbrev judge_tests : List Test
    judge_tests = document_tests_of (named_of q) j (long_test_by (named_of q) never as_xml j old ∷ [])

    judge-lines : Agree judge_lines (none_test 25 (named_of q) j ∷ judge_tests)
    judge-lines = list-agrees q j (document_lines_of (given q) j (too_long_by (given q) j as_xml old ∷ [])) judge_tests
        (document-agrees (given-finds q) j (too_long_by (given q) j as_xml old ∷ []) (long_test_by (named_of q) never as_xml j old ∷ []) (refl, long-known (given-finds q) j as_xml old, tt))

    -- judging gives no 16
    no-fault : (n : ℕ) → Topmost (grammar_lines j.grammar (need_lines (scratch_need q) j judge_lines)) n → n ≡ 16 → of_job j (λ g r. FaultAt g r (fault_in j))
    no-fault n t e = absurd (applied (grammar_lines j.grammar (need_lines (scratch_need q) j judge_lines)) 16 tt (λ z. omega arith)
        (subst (Topmost (grammar_lines j.grammar (need_lines (scratch_need q) j judge_lines))) e t))

    pub judge-answers : Judges q j old (judge_of q j old).answer (judge_of q j old).buffer
    unfolding judge_of lines made tests
    judge-answers = call-answers (given-finds q) j as_xml (scratch_need q) 25 judge_tests old judge_lines tt tt judge-lines no-fault

    pub judge-settled : (a : Answer) (new : List ℕ) → Judges q j old a new → (a ≡ (judge_of q j old).answer) × (new ≡ (judge_of q j old).buffer)
    unfolding judge_of lines made tests
    judge-settled a new p = call_settled (given-finds q) j as_xml (scratch_need q) 25 judge_tests old judge_lines tt tt judge-lines no-fault a new p
