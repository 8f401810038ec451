-- Each test is its line's: what the tests compute is what the lines say.
use mathlib.Core.Bool.{Bool, true, false, not, ◌||◌}
use mathlib.Core.Path.{◌≡◌, refl, sym, subst, ◌∙◌}
use mathlib.Core.Logic.{◌⊎◌, inl, inr, ◌↔◌}
use mathlib.Core.List.{List, ◌∷◌}
use Prim.Native.Nat.{ℕ, ◌<◌}
use native.Mathlib.Omega.{arith}
use lib.Dec.{T, ltb, ltb→lt, lt→ltb}
use lib.ListN.{length}
use Rattle.text.specs.Limits.{grammar_bytes, most_size, record_chars, grammar_table, reading_numbers}
use Rattle.text.specs.Lists.{Text, all}
use Rattle.text.specs.Utf8.{Utf8, unmarked, known}
use Rattle.text.specs.Decode.{Decoded, text, not-utf8, decode}
use Rattle.text.proofs.Decode.{decode-sound, decode-complete}
use Rattle.tree.specs.Tree.{Grammar}
use Rattle.syntax.specs.Syntax.{Ixml}
use Rattle.syntax.specs.Parser.{Parsed, parsed, no-parse, parse}
use Rattle.syntax.proofs.Sound.{sound}
use Rattle.syntax.proofs.Complete.{complete}
use Rattle.plain.specs.Static.{undefined, duplicate, beyond, banned, backwards, unclassed}
use Rattle.plain.specs.Plain.{size}
use Rattle.derive.specs.Derive.{Row, Derivation, root, left_parse}
use Rattle.derive.specs.Chosen.{Second}
use Rattle.derive.specs.Pick.{Choice, found, no-choice, chosen_of}
use Rattle.derive.specs.Productive.{Unproductive}
use Rattle.derive.specs.Yield.{unproductive}
use Rattle.derive.proofs.Productive.{unproductive-is}
use Rattle.derive.proofs.Chosen.{chosen-derives}
use Rattle.derive.proofs.Choose.{found-chosen, none-derives, chosen-found}
use Rattle.derive.specs.Another.{ambiguous_of}
use Rattle.derive.proofs.Ambiguous.{ambiguous-second}
use Rattle.text.proofs.Tests.{T_true, T_false}
use Rattle.xml.specs.Document.{document, mark_of, twice, misnamed, unwritable, is_attribute, not_one, namespaced}
use Rattle.answer.specs.Answer.{Line, GrammarText, GrammarTree, of_text, of_tree, grammar_lines, Job, of_job, of_reading, of_source, Source, chosen, given, Names}
use Rattle.answer.specs.Answer.{Need, need_lines, reading_lines, list_lines, document_lines_of}
use Rattle.answer.specs.Compute.{Test, test, on_text, on_tree, on_choice, is_text, is_tree, is_found, after_mark, tree_of, grammar_tests, on_job, on_reading, on_found, Finder, Marker, never}
use Rattle.answer.specs.Compute.{need_tests, none_test, document_tests_of}
use Rattle.answer.specs.Named.{named_of}
use Rattle.answer.proofs.Lines.{Agree}
use Rattle.answer.proofs.Named.{named-found, found-named}

-- a test of a test is its fact
abbrev pub Tests : Bool → Type 0 → Type 0
Tests b A = T b ↔ A

pub same_test : (b : Bool) → Tests b (T b)
same_test b = (λ h. h, λ h. h)

pub less : (a b : ℕ) → Tests (ltb a b) (a < b)
less a b = (ltb→lt a b, lt→ltb a b)

either : (a b : Bool) (A B : Type 0) → Tests a A → Tests b B → Tests (a || b) (A ⊎ B)
either true b A B p q = (λ h. inl (p.0 tt), λ h. tt)
either false b A B p q = (λ h. inr (q.0 h), λ h. elim h as (λ _. T b) [ inl x ↦ absurd (p.1 x) | inr y ↦ q.1 y ])

-- a text, its tree
text-known : (bs : List ℕ) (f : Text → Bool) (P : Text → Type 0) → ((cs : Text) → Tests (f cs) (P cs)) → Tests (on_text (decode bs) f) (of_text Utf8 bs P)
text-known bs f P h = (go (decode bs) refl, λ x. rw (decode-complete bs x.0 x.1) ((h x.0).1 x.2))
  where
    go : (d : Decoded) → decode bs ≡ d → T (on_text d f) → of_text Utf8 bs P
    go (text cs) e t = (cs, decode-sound bs cs e, (h cs).0 t)
    go not-utf8 e t = absurd t

no_text : (bs : List ℕ) → Tests (not (is_text (decode bs))) (((cs : Text) × Utf8 bs cs) → ⊥)
no_text bs = (go (decode bs) refl, back (decode bs) refl)
  where
    go : (d : Decoded) → decode bs ≡ d → T (not (is_text d)) → ((cs : Text) × Utf8 bs cs) → ⊥
    go (text cs) e t x = t
    go not-utf8 e t x = let w : not-utf8 ≡ text x.0 = sym e ∙ decode-complete bs x.0 x.1 in let z : ◌≡◌ {A = ℕ} 0 1 = cc in omega arith

    back : (d : Decoded) → decode bs ≡ d → (((cs : Text) × Utf8 bs cs) → ⊥) → T (not (is_text d))
    back (text cs) e n = n (cs, decode-sound bs cs e)
    back not-utf8 e n = tt

marked-known : (bs : List ℕ) (f : Text → Bool) (P : Text → Type 0) → ((cs : Text) → Tests (f cs) (P cs)) → Tests (on_text (decode bs) (λ cs. f (unmarked cs))) (of_text GrammarText bs P)
marked-known bs f P h =
    let w = text-known bs (λ cs. f (unmarked cs)) (λ cs. P (unmarked cs)) (λ cs. h (unmarked cs)) in
    (λ t. let x = w.0 t in (unmarked x.0, (x.0, x.1, refl), x.2), λ x. w.1 (x.1.0, x.1.1, subst P x.1.2 x.2))

no-tree : (cs : Text) → Tests (not (is_tree (parse cs))) (((g : Grammar) × Ixml cs g) → ⊥)
no-tree cs = (go (parse cs) refl, back (parse cs) refl)
  where
    go : (p : Parsed) → parse cs ≡ p → T (not (is_tree p)) → ((g : Grammar) × Ixml cs g) → ⊥
    go (parsed g) e t x = t
    go no-parse e t x = let w : no-parse ≡ parsed x.0 = sym e ∙ complete cs x.0 x.1 in let z : ◌≡◌ {A = ℕ} 0 1 = cc in omega arith

    back : (p : Parsed) → parse cs ≡ p → (((g : Grammar) × Ixml cs g) → ⊥) → T (not (is_tree p))
    back (parsed g) e n = n (g, sound cs g e)
    back no-parse e n = tt

pub tree-sound : (bs : List ℕ) (g : Grammar) → tree_of bs ≡ parsed g → GrammarTree bs g
unfolding tree_of
tree-sound bs g e = go (decode bs) refl e
  where
    go : (d : Decoded) → decode bs ≡ d → after_mark d ≡ parsed g → GrammarTree bs g
    go (text cs) q p = (unmarked cs, (cs, decode-sound bs cs q, refl), sound (unmarked cs) g p)
    go not-utf8 q p = let z : ◌≡◌ {A = ℕ} 0 1 = cc in absurd (omega arith)

pub tree-complete : (bs : List ℕ) (g : Grammar) → GrammarTree bs g → tree_of bs ≡ parsed g
unfolding tree_of
tree-complete bs g x = rw (decode-complete bs x.1.0 x.1.1) (complete (unmarked x.1.0) g (subst (λ (cs : Text). Ixml cs g) x.1.2 x.2))

pub tree-known : (bs : List ℕ) (f : Grammar → Bool) (P : Grammar → Type 0) → ((g : Grammar) → Tests (f g) (P g)) → Tests (on_tree (tree_of bs) f) (of_tree bs P)
tree-known bs f P h = (go (tree_of bs) refl, λ x. rw (tree-complete bs x.0 x.1) ((h x.0).1 x.2))
  where
    go : (p : Parsed) → tree_of bs ≡ p → T (on_tree p f) → of_tree bs P
    go (parsed g) e t = (g, tree-sound bs g e, (h g).0 t)
    go no-parse e t = absurd t

test_known : (bs : List ℕ) (f : Grammar → Bool) → Tests (on_tree (tree_of bs) f) (of_tree bs (λ g. T (f g)))
test_known bs f = tree-known bs f (λ g. T (f g)) (λ g. same_test (f g))

pub grammar-agrees : (bs : List ℕ) (ls : List Line) (ts : List Test) → Agree ls ts → Agree (grammar_lines bs ls) (grammar_tests bs ts)
grammar-agrees bs ls ts a = (
  refl,
  less grammar_bytes (length bs),
  (
    refl,
    no_text bs,
    (
      refl,
      marked-known bs (λ cs. not (all known cs)) (λ cs. T (not (all known cs))) (λ cs. same_test (not (all known cs))),
      (
        refl,
        marked-known bs (λ cs. not (is_tree (parse cs))) (λ cs. ((g : Grammar) × Ixml cs g) → ⊥) no-tree,
        (
          refl,
          test_known bs undefined,
          (
            refl,
            test_known bs duplicate,
            (
              refl,
              test_known bs beyond,
              (
                refl,
                test_known bs banned,
                (
                  refl,
                  test_known bs backwards,
                  (
                    refl,
                    test_known bs unclassed,
                    (
                      refl,
                      tree-known bs (λ g. ltb most_size (size g)) (λ g. most_size < size g)
                          (λ g. less most_size (size g)),
                      (refl, tree-known bs unproductive Unproductive unproductive-is, a),
                    ),
                  ),
                ),
              ),
            ),
          ),
        ),
      ),
    ),
  ),
)

-- a job has one grammar and one record
pub one-grammar : (j : Job) {g h : Grammar} → GrammarTree j.grammar g → GrammarTree j.grammar h → g ≡ h
one-grammar j {g} {h} x y = let e : parsed g ≡ parsed h = sym (tree-complete j.grammar g x) ∙ tree-complete j.grammar h y in cc

pub one-record : (j : Job) {r s : Text} → Utf8 j.input r → Utf8 j.input s → r ≡ s
one-record j {r} {s} x y = let e : text r ≡ text s = sym (decode-complete j.input r x) ∙ decode-complete j.input s y in cc

-- a job's grammar and record, and its chosen reading
pub job-known : (j : Job) (f : Grammar → Text → Bool) (P : Grammar → Text → Type 0) → ((g : Grammar) (r : Text) → Tests (f g r) (P g r)) → Tests (on_job j f) (of_job j P)
job-known j f P h =
    let w = tree-known j.grammar (λ g. on_text (decode j.input) (f g)) (λ g. of_text Utf8 j.input (P g)) (λ g. text-known j.input (f g) (P g) (h g)) in
    (λ t. let x = w.0 t in (x.0, x.2.0, (x.1, x.2.1), x.2.2), λ x. w.1 (x.0, x.2.0, (x.1, x.2.1, x.3)))

-- the derivation that a call speaks of is the one that is found, with the mark that is told
pub record Finds (s : Source) (c : Finder) (k : Marker) : Type 0 where
  pub sound : (g : Grammar) (r : Text) (t : Row) → c g r ≡ found t → s.Is g r t (left_parse t)
  pub complete : (g : Grammar) (r : Text) (t : Row) (p : List ℕ) → s.Is g r t p → c g r ≡ found t
  pub numbers : (g : Grammar) (r : Text) (t : Row) (p : List ℕ) → s.Is g r t p → p ≡ left_parse t
  pub marked : (g : Grammar) (r : Text) (t : Row) (p : List ℕ) → s.Is g r t p → s.Marks g r p (k g r t)
  pub one-mark : (g : Grammar) (r : Text) (t : Row) (p : List ℕ) → s.Is g r t p → (m : Bool) → s.Marks g r p m → m ≡ k g r t

-- two tests of one fact are one
pub same-mark : (a b : Bool) (A : Type 0) → T a ↔ A → T b ↔ A → a ≡ b
same-mark true b A p q = sym (T_true b (q.1 (p.0 tt)))
same-mark false b A p q = sym (T_false b (λ t. p.1 (q.0 t)))

pub chosen-finds : Finds chosen chosen_of ambiguous_of
chosen-finds = record {
  sound = λ g r t e. record { chosen = found-chosen g r e; parse = refl };
  complete = λ g r t p x. chosen-found g r x.chosen;
  numbers = λ g r t p x. x.parse;
  marked = λ g r t p x. ambiguous-second g r x;
  one-mark = λ g r t p x m y. same-mark m (ambiguous_of g r t) (Second g r p) y (ambiguous-second g r x);
}

pub given-finds : (q : List ℕ) → Finds (given q) (named_of q) never
given-finds q = record {
  sound = λ g r t e. (found-named g r q t e, refl);
  complete = λ g r t p x. named-found g r q t x.0;
  numbers = λ g r t p x. x.1;
  marked = λ g r t p x. refl;
  one-mark = λ g r t p x m y. y;
}

module _ {s : Source} {c : Finder} {k : Marker} (w : Finds s c k) where
  pub source_known : (j : Job) (f : Grammar → Text → Row → Bool) (P : Grammar → Text → Row → List ℕ → Type 0)
      → ((g : Grammar) (r : Text) (t : Row) → Tests (f g r t) (P g r t (left_parse t))) → Tests (on_found c j f) (of_source s j P)
  source_known j f P h = job-known j (λ g r. on_choice (c g r) (f g r)) (λ g r. (t : Row) × (p : List ℕ) × s.Is g r t p × P g r t p) each
    where
      each : (g : Grammar) (r : Text) → Tests (on_choice (c g r) (f g r)) ((t : Row) × (p : List ℕ) × s.Is g r t p × P g r t p)
      each g r =
          (go (c g r) refl, λ x. rw (w.complete g r x.0 x.1 x.2) ((h g r x.0).1 (subst (λ (p : List ℕ). P g r x.0 p) (w.numbers g r x.0 x.1 x.2) x.3)))
        where
          go : (o : Choice) → c g r ≡ o → T (on_choice o (f g r)) → (t : Row) × (p : List ℕ) × s.Is g r t p × P g r t p
          go (found t) e q = (t, left_parse t, w.sound g r t e, (h g r t).0 q)
          go no-choice e q = absurd q

  test-source : (j : Job) (f : Grammar → Text → Row → Bool) → Tests (on_found c j f) (of_source s j (λ g r t p. T (f g r t)))
  test-source j f = source_known j f (λ g r t p. T (f g r t)) (λ g r t. same_test (f g r t))

pub reading-known : (j : Job) (f : Grammar → Text → Row → Bool) (P : Grammar → Text → Row → List ℕ → Type 0)
    → ((g : Grammar) (r : Text) (t : Row) → Tests (f g r t) (P g r t (left_parse t)))
    → Tests (on_reading j f) (of_reading j P)
reading-known = source_known chosen-finds

no-reading : (g : Grammar) (r : Text) → Tests (not (is_found (chosen_of g r))) (((t : Row) × Derivation g r t) → ⊥)
no-reading g r = (go (chosen_of g r) refl, back (chosen_of g r) refl)
  where
    go : (c : Choice) → chosen_of g r ≡ c → T (not (is_found c)) → ((t : Row) × Derivation g r t) → ⊥
    go (found t) e q x = q
    go no-choice e q x = none-derives g r e x.0 x.1

    back : (c : Choice) → chosen_of g r ≡ c → (((t : Row) × Derivation g r t) → ⊥) → T (not (is_found c))
    back (found t) e n = n (t, chosen-derives g r (found-chosen g r e))
    back no-choice e n = tt

no-list : (q : List ℕ) (g : Grammar) (r : Text) → Tests (not (is_found (named_of q g r))) (((t : Row) × Names q g r t) → ⊥)
no-list q g r = (go (named_of q g r) refl, back (named_of q g r) refl)
  where
    go : (c : Choice) → named_of q g r ≡ c → T (not (is_found c)) → ((t : Row) × Names q g r t) → ⊥
    go (found t) e h x = h
    go no-choice e h x = let w : no-choice ≡ found x.0 = sym e ∙ named-found g r q x.0 x.1 in let z : ◌≡◌ {A = ℕ} 0 1 = cc in omega arith

    back : (c : Choice) → named_of q g r ≡ c → (((t : Row) × Names q g r t) → ⊥) → T (not (is_found c))
    back (found t) e n = n (t, found-named g r q t e)
    back no-choice e n = tt

pub need-agrees : (need : Need) (j : Job) (ls : List Line) (ts : List Test) → Agree ls ts → Agree (need_lines need j ls) (need_tests need j ts)
need-agrees need j ls ts a = (
  refl,
  no_text j.input,
  (
    refl,
    text-known j.input (λ cs. not (all known cs)) (λ cs. T (not (all known cs))) (λ cs. same_test (not (all known cs))),
    (
      refl,
      text-known j.input (λ cs. ltb record_chars (length cs)) (λ cs. record_chars < length cs) (λ cs. less record_chars (length cs)),
      (
        refl,
        job-known j (λ g r. ltb j.main_table (need g r) || ltb j.second_table grammar_table)
            (λ g r. (j.main_table < need g r) ⊎ (j.second_table < grammar_table))
            (λ g r. either (ltb j.main_table (need g r)) (ltb j.second_table grammar_table) (j.main_table < need g r) (j.second_table < grammar_table)
            (less j.main_table (need g r)) (less j.second_table grammar_table)),
        a,
      ),
    ),
  ),
)

pub reading-agrees : (j : Job) (ls : List Line) (ts : List Test) → Agree ls ts
    → Agree (reading_lines j ls) (none_test 16 chosen_of j ∷ test 29 (λ _. on_reading j (λ g r t. ltb reading_numbers (length (left_parse t)))) ∷ ts)
reading-agrees j ls ts a = (
  refl,
  job-known j (λ g r. not (is_found (chosen_of g r))) (λ g r. ((t : Row) × Derivation g r t) → ⊥) no-reading,
  (refl, reading-known j (λ g r t. ltb reading_numbers (length (left_parse t))) (λ g r t p. reading_numbers < length p) (λ g r t. less reading_numbers (length (left_parse t))), a),
)

pub list-agrees : (q : List ℕ) (j : Job) (ls : List Line) (ts : List Test) → Agree ls ts → Agree (list_lines q j ls) (none_test 25 (named_of q) j ∷ ts)
list-agrees q j ls ts a = (refl, job-known j (λ g r. not (is_found (named_of q g r))) (λ g r. ((t : Row) × Names q g r t) → ⊥) (no-list q), a)

pub document-agrees : {s : Source} {c : Finder} {k : Marker} → Finds s c k → (j : Job) (ls : List Line) (ts : List Test) → Agree ls ts
    → Agree (document_lines_of s j ls) (document_tests_of c j ts)
document-agrees w j ls ts a = (
  refl,
  test-source w j (λ g r t. twice (document g r t)),
  (
    refl,
    test-source w j (λ g r t. misnamed (document g r t)),
    (
      refl,
      test-source w j (λ g r t. unwritable (document g r t)),
      (
        refl,
        test-source w j (λ g r t. is_attribute (mark_of g (root g))),
        (refl, test-source w j (λ g r t. not_one (document g r t)), (refl, test-source w j (λ g r t. namespaced (document g r t)), a)),
      ),
    ),
  ),
)
