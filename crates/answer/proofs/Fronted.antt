-- Comments before a grammar change nothing but the place in it.
use mathlib.Core.Bool.{Bool, true, false, not}
use mathlib.Core.Path.{◌≡◌, refl, sym, subst, ap, ◌∙◌}
use mathlib.Core.List.{List, [], ◌∷◌, ◌++◌}
use Prim.Native.Nat.{ℕ}
use lib.Dec.{ltb, eqb}
use lib.ListN.{length}
use Rattle.text.specs.Limits.{grammar_bytes, most_size}
use Rattle.text.specs.Lists.{Text, all}
use Rattle.text.specs.Utf8.{unmarked, known}
use Rattle.text.specs.Decode.{Decoded, text, decode, break_of}
use Rattle.text.specs.Faults.{every, after_mark}
use Rattle.text.proofs.Tests.{clash}
use Rattle.text.proofs.Decode.{decode-complete}
use Rattle.tree.specs.Tree.{Grammar}
use Rattle.syntax.specs.Parser.{Parsed, parsed, no-parse, parse}
use Rattle.syntax.proofs.Sound.{sound}
use Rattle.syntax.proofs.Complete.{complete}
use Rattle.plain.specs.Static.{undefined, duplicate, beyond, banned, backwards, unclassed, mismatched}
use Rattle.plain.specs.Plain.{size}
use Rattle.derive.specs.Yield.{unproductive}
use Rattle.viable.specs.Compute.{fault_of}
use Rattle.places.proofs.Fronted.{same-tree}
use Rattle.answer.specs.Answer.{GrammarText, Job, job, Shown, as_numbers, as_xml, Answer, Checks}
use Rattle.answer.specs.Compute.{Test, test, first_of, on_text, on_tree, is_text, is_tree, after_mark as tree_after, tree_of, grammar_tests, record_tests, document_tests, long_test}
use Rattle.answer.specs.Compute.{Value, value, value_at, Values, grammar_values, input_values, reading_values, place_values, place_tree, place_text}
use Rattle.answer.specs.Compute.{Result, result, result_of, result_by, Outcome, outcome, mismatch, check_of, read_of, convert_of}
use Rattle.answer.specs.Fronted.{Fronts, Past, Alike, FrontedLaws}
use Rattle.answer.proofs.Noted.{value-skip}
use Rattle.answer.proofs.Settled.{check-settled, read-settled, convert-settled}

-- 1. A number past the first four tests is that of the later ones.
passed : (t : Test) (ts : List Test) (n : ℕ) → first_of (t ∷ ts) ≡ n → (n ≡ t.number → ⊥) → (t.passes tt ≡ false) × (first_of ts ≡ n)
passed t ts n e z = go (t.passes tt) refl e
  where
    go : (b : Bool) → t.passes tt ≡ b → elim b as (λ _. ℕ) [ true ↦ t.number | false ↦ first_of ts ] ≡ n → (t.passes tt ≡ false) × (first_of ts ≡ n)
    go true p q = absurd (z (sym q))
    go false p q = (p, q)

first_cong : (ss ts us : List Test) → first_of ts ≡ first_of us → first_of (ss ++ ts) ≡ first_of (ss ++ us)
first_cong [] ts us e = e
first_cong (s ∷ ss) ts us e = ap (λ (n : ℕ). elim (s.passes tt) as (λ _. ℕ) [ true ↦ s.number | false ↦ n ]) (first_cong ss ts us e)

-- those from the fifth on judge the tree alone
abbrev later : Parsed → List Test
later p =
    test 5 (λ _. on_tree p undefined)
    ∷ test 6 (λ _. on_tree p duplicate)
    ∷ test 7 (λ _. on_tree p beyond)
    ∷ test 8 (λ _. on_tree p banned)
    ∷ test 9 (λ _. on_tree p backwards)
    ∷ test 10 (λ _. on_tree p unclassed)
    ∷ test 11 (λ _. on_tree p (λ g. ltb most_size (size g)))
    ∷ test 24 (λ _. on_tree p unproductive)
    ∷ []

pub record Later (bs : List ℕ) (ts : List Test) : Type 0 where
  pub same : first_of (grammar_tests bs ts) ≡ first_of (later (tree_of bs) ++ ts)
  pub tree : on_text (decode bs) (λ cs. not (is_tree (parse (unmarked cs)))) ≡ false

later-there : (bs : List ℕ) (ts : List Test) → Past (first_of (grammar_tests bs ts)) → Later bs ts
later-there bs ts z =
    let n = first_of (grammar_tests bs ts) in
    let test-2 = test 2 (λ _. not (is_text (decode bs))) in
    let test-3 = test 3 (λ _. on_text (decode bs) (λ cs. not (all known (unmarked cs)))) in
    let test-4 = test 4 (λ _. on_text (decode bs) (λ cs. not (is_tree (parse (unmarked cs))))) in
    let more = later (tree_of bs) ++ ts in
    let a = passed (test 1 (λ _. ltb grammar_bytes (length bs))) (test-2 ∷ test-3 ∷ test-4 ∷ more) n refl z.one in
    let b = passed test-2 (test-3 ∷ test-4 ∷ more) n a.1 z.two in
    let c = passed test-3 (test-4 ∷ more) n b.1 z.three in
    let d = passed test-4 more n c.1 z.four in
    record { same = sym d.1; tree = d.0 }

-- 2. The two grammars have one tree.
pub record OneTree (bs bs' : List ℕ) : Type 0 where
  pub tree : Grammar
  pub first : tree_of bs ≡ parsed tree
  pub second : tree_of bs' ≡ parsed tree

tree-of : (bs : List ℕ) (t : Text) → GrammarText bs t → tree_of bs ≡ parse t
unfolding tree_of
tree-of bs t x = ap tree_after (decode-complete bs x.0 x.1) ∙ ap parse (sym x.2)

one-tree : (bs bs' : List ℕ) → Fronts bs bs' → on_text (decode bs) (λ cs. not (is_tree (parse (unmarked cs)))) ≡ false → OneTree bs bs'
one-tree bs bs' f e = go (parse f.text) refl
    (sym (ap (λ (d : Decoded). on_text d (λ cs. not (is_tree (parse (unmarked cs))))) (decode-complete bs f.first.0 f.first.1)
    ∙ ap (λ (c : Text). not (is_tree (parse c))) (sym f.first.2)) ∙ e)
  where
    go : (p : Parsed) → parse f.text ≡ p → not (is_tree p) ≡ false → OneTree bs bs'
    go (parsed g) q h = record {
      tree = g;
      first = tree-of bs f.text f.first ∙ q;
      second = tree-of bs' f.other f.second ∙ complete f.other g (same-tree f.text f.other g f.fronted (sound f.text g q));
    }
    go no-parse q h = absurd (clash h refl)

-- 3. Outcomes.
pub record Same (x y : Outcome) : Type 0 where
  pub alike : Alike x.answer y.answer
  pub buffer : x.buffer ≡ y.buffer

number_of : (old : List ℕ) (m : Bool) (v : Values) (n : ℕ) (x : Result) → (outcome old m v n x).answer.number ≡ n
number_of old m v n x = go (eqb n 0) refl
  where
    go : (b : Bool) → eqb n 0 ≡ b → (outcome old m v n x).answer.number ≡ n
    go true e = rw (e, outcome)
    go false e = rw (e, outcome)

same_outcome : (old : List ℕ) (m : Bool) (v w : Values) (n : ℕ) (x : Result) → value_at v.bytes n ≡ value_at w.bytes n → value_at v.faults n ≡ value_at w.faults n
    → Same (outcome old m v n x) (outcome old m w n x)
same_outcome old m v w n x p q = go (eqb n 0) refl
  where
    go : (b : Bool) → eqb n 0 ≡ b → Same (outcome old m v n x) (outcome old m w n x)
    go true e = rw (e, outcome) (record { alike = record { number = refl; length = refl; ambiguous = refl; version = refl; byte = p; fault = q }; buffer = refl })
    go false e = rw (e, outcome) (record { alike = record { number = refl; length = refl; ambiguous = refl; version = refl; byte = p; fault = q }; buffer = refl })

-- the values of a call, by its grammar, the byte places that are not the grammar's, and the places in the record
abbrev values_of : List ℕ → List Value → List Value → Values
values_of bs vs fs = record { bytes = grammar_values bs vs; faults = fs; grammars = place_values bs }

no_bytes : (bs : List ℕ) (vs : List Value) (n : ℕ) → Past n → value_at (grammar_values bs vs) n ≡ value_at vs n
no_bytes bs vs n z =
    let at-2 = value 2 (λ _. break_of every bs (after_mark bs)) in
    let at-3 = value 3 (λ _. break_of known bs (after_mark bs)) in
    value-skip at-2 (at-3 ∷ vs) n z.two ∙ value-skip at-3 vs n z.three

module _ (bs bs' : List ℕ) (f : Fronts bs bs') (old : List ℕ) (vs fs fs' : List Value) (ts ts' : List Test) (x x' : Result)
    (after : OneTree bs bs' → (first_of ts ≡ first_of ts') × (x ≡ x') × (fs ≡ fs')) where
  pub call-alike : Past (first_of (grammar_tests bs ts)) → Past (first_of (grammar_tests bs' ts'))
      → Same (outcome old (mismatch bs) (values_of bs vs fs) (first_of (grammar_tests bs ts)) x) (outcome old (mismatch bs') (values_of bs' vs fs') (first_of (grammar_tests bs' ts')) x')
  call-alike z z' =
      let l = later-there bs ts z in
      let l' = later-there bs' ts' z' in
      let w = one-tree bs bs' f l.tree in
      let same : tree_of bs ≡ tree_of bs' = w.first ∙ sym w.second in
      let a = after w in
      let n : first_of (grammar_tests bs ts) ≡ first_of (grammar_tests bs' ts') =
      l.same ∙ first_cong (later (tree_of bs)) ts ts' a.0 ∙ ap (λ (p : Parsed). first_of (later p ++ ts')) same ∙ sym l'.same in
      let m : mismatch bs ≡ mismatch bs' = ap (λ (p : Parsed). on_tree p mismatched) same in
      subst (λ (o : Outcome). Same (outcome old (mismatch bs) (values_of bs vs fs) (first_of (grammar_tests bs ts)) x) o)
      (λ ι. outcome old (m ι) (values_of bs' vs fs') (n ι) (a.1 ι))
      (same_outcome old (mismatch bs) (values_of bs vs fs) (values_of bs' vs fs') (first_of (grammar_tests bs ts)) x
      (no_bytes bs vs (first_of (grammar_tests bs ts)) z ∙ sym (no_bytes bs' vs (first_of (grammar_tests bs ts)) z))
      (ap (λ (us : List Value). value_at us (first_of (grammar_tests bs ts))) a.2))

-- 4. The calls.
past_of : (a : Answer) (o : Outcome) (n : ℕ) → a ≡ o.answer → o.answer.number ≡ n → Past a.number → Past n
past_of a o n e q z = subst Past (ap (λ (b : Answer). b.number) e ∙ q) z

alike-by : (a a' : Answer) (o o' : Outcome) → a ≡ o.answer → a' ≡ o'.answer → Same o o' → Alike a a'
alike-by a a' o o' e e' s = subst (λ (b : Answer). Alike a b) (sym e') (subst (λ (b : Answer). Alike b o'.answer) (sym e) s.alike)

pub checks-fronted : (gs gs' : List ℕ) → Fronts gs gs' → (a a' : Answer) → Checks gs a → Checks gs' a' → Past a.number → Past a'.number → Alike a a'
unfolding check_of
checks-fronted gs gs' f a a' c c' z z' =
    let x = result [] false in
    let e = check-settled gs a c in
    let e' = check-settled gs' a' c' in
    let o = outcome [] (mismatch gs) (values_of gs [] []) (first_of (grammar_tests gs [])) x in
    let o' = outcome [] (mismatch gs') (values_of gs' [] []) (first_of (grammar_tests gs' [])) x in
    alike-by a a' o o' e e'
    (call-alike gs gs' f [] [] [] [] [] [] x x (λ t. (refl, refl, refl)) (past_of a o (first_of (grammar_tests gs [])) e
    (number_of [] (mismatch gs) (values_of gs [] []) (first_of (grammar_tests gs [])) x) z)
    (past_of a' o' (first_of (grammar_tests gs' [])) e' (number_of [] (mismatch gs') (values_of gs' [] []) (first_of (grammar_tests gs' [])) x) z'))

module _ (gs gs' rs : List ℕ) (main second : ℕ) (f : Fronts gs gs') (old new new' : List ℕ) (a a' : Answer) (ts : Job → List Test) (F : Shown) where
  abbrev first : Job
  first = job gs rs main second

  abbrev next : Job
  next = job gs' rs main second

  abbrev made_of : Job → Outcome
  made_of j = outcome old (mismatch j.grammar) (values_of j.grammar (input_values rs []) (reading_values j [])) (first_of (grammar_tests j.grammar (record_tests j (ts j)))) (result_of j (result_by F))

  -- by what the call's answers are, and that its tests depend on the tree alone
  by-calls : ((t : OneTree gs gs') → first_of (record_tests first (ts first)) ≡ first_of (record_tests next (ts next)))
      → (a ≡ (made_of first).answer) × (new ≡ (made_of first).buffer) → (a' ≡ (made_of next).answer) × (new' ≡ (made_of next).buffer)
      → Past a.number → Past a'.number → Alike a a' × (new ≡ new')
  by-calls h e e' z z' =
      let v = input_values rs [] in
      let n = first_of (grammar_tests gs (record_tests first (ts first))) in
      let n' = first_of (grammar_tests gs' (record_tests next (ts next))) in
      let s = call-alike gs gs' f old v (reading_values first []) (reading_values next []) (record_tests first (ts first)) (record_tests next (ts next)) (result_of first (result_by F))
      (result_of next (result_by F))
      (λ t. (h t, rw (t.first, t.second), ap (λ (p : Parsed). value 16 (λ _. place_tree p (λ g. place_text (decode rs) (fault_of g))) ∷ []) (t.first ∙ sym t.second)))
      (past_of a (made_of first) n e.0 (number_of old (mismatch gs) (values_of gs v (reading_values first [])) n (result_of first (result_by F))) z)
      (past_of a' (made_of next) n' e'.0 (number_of old (mismatch gs') (values_of gs' v (reading_values next [])) n' (result_of next (result_by F))) z') in
      (alike-by a a' (made_of first) (made_of next) e.0 e'.0 s, e.1 ∙ s.buffer ∙ sym e'.1)

pub fronted-laws : FrontedLaws
unfolding read_of convert_of
fronted-laws = record {
  checking = checks-fronted;
  reading = λ gs gs' rs main second f old new new' a a' r r' z z'.
      by-calls gs gs' rs main second f old new new' a a' (λ j. long_test as_numbers j old ∷ []) as_numbers (λ t. rw (t.first, t.second))
      (read-settled (job gs rs main second) old a new r) (read-settled (job gs' rs main second) old a' new' r') z z';
  converting = λ gs gs' rs main second f old new new' a a' r r' z z'.
      by-calls gs gs' rs main second f old new new' a a' (λ j. document_tests j (long_test as_xml j old ∷ [])) as_xml (λ t. rw (t.first, t.second))
      (convert-settled (job gs rs main second) old a new r) (convert-settled (job gs' rs main second) old a' new' r') z z';
}
