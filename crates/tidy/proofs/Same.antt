-- The tidy text of an accepted grammar is accepted, and every call answers the same with it.
use mathlib.Core.Bool.{Bool, true, false, not, ◌&&◌, ◌||◌}
use mathlib.Core.Path.{◌≡◌, refl, sym, subst, ap, ◌∙◌}
use mathlib.Core.Logic.{◌⊎◌, inl, inr, ⊎_elim}
use mathlib.Core.List.{List, [], ◌∷◌, ◌++◌}
use Prim.Native.Nat.{ℕ, ◌<◌, ◌≤◌}
use native.Mathlib.Omega.{arith}
use lib.Dec.{T, leb, ltb, eqb, leb→le, ltb→lt}
use lib.ListN.{length, drop}
use borrow.Author.Tests.{eqb-true}
use Rattle.text.specs.Limits.{most_size}
use Rattle.text.specs.Lists.{Text, pick, any, all, inside, span}
use Rattle.text.specs.Utf8.{Scalar, All, none, more, unmarked, alphabet, known}
use Rattle.text.specs.Decode.{break_of, decode}
use Rattle.text.specs.Faults.{every, after_mark}
use Rattle.text.proofs.Decode.{utf8-unique}
use Rattle.text.proofs.Tests.{and_left, and_right, or_case}
use Rattle.tree.specs.Tree.{Grammar}
use Rattle.syntax.specs.Syntax.{Ixml}
use Rattle.syntax.specs.Parser.{Parsed}
use Rattle.plain.specs.Static.{undefined, duplicate, beyond, banned, backwards, unclassed, mismatched}
use Rattle.plain.specs.Plain.{size}
use Rattle.derive.specs.Productive.{Unproductive}
use Rattle.answer.specs.Answer.{GrammarText, GrammarTree, of_text, of_tree, grammar_lines, Job, job, as_numbers, as_xml}
use Rattle.viable.specs.Compute.{fault_of}
use Rattle.answer.specs.Compute.{Test, first_of, tree_of, grammar_tests, record_tests, document_tests, long_test, Values, Value}
use Rattle.answer.specs.Compute.{value, value_at, grammar_values, place_values, places_at, input_values, reading_values, place_tree, place_text}
use Rattle.answer.specs.Compute.{Result, result, result_tree, result_of, result_by, Outcome, outcome, mismatch, check_of, read_of, convert_of}
use Rattle.answer.specs.Demands.{None}
use Rattle.answer.proofs.Agree.{grammar-agrees, tree-complete}
use Rattle.answer.proofs.Lines.{first-topmost, none-given, other}
use Rattle.answer.proofs.Noted.{value-skip, placeless}
use Rattle.tidy.specs.Tidy.{tidy_text}
use Rattle.tidy.specs.Call.{tidy_bytes, tidy_tests, tidy_of}
use Rattle.tidy.specs.Laws.{Tidiable}
use Rattle.tidy.proofs.ReadBack.{tidy-reads}
use Rattle.tidy.proofs.Known.{tidy-known}

-- known characters are scalar values, and none is a byte order mark
known-low : (c : ℕ) → T (known c) → c ≤ 0x2040
unfolding known alphabet
known-low c h = elim (or_case (inside c (span 0 0x17f)) (any (inside c) (span 0x300 0x36f ∷ span 0x203f 0x2040 ∷ [])) h) as (λ _. c ≤ 0x2040) [
  | inl x ↦ (let l = leb→le c 0x17f (and_right (leb 0 c) (leb c 0x17f) x) in omega arith)
  | inr y ↦ elim (or_case (inside c (span 0x300 0x36f)) (any (inside c) (span 0x203f 0x2040 ∷ [])) y) as (λ _. c ≤ 0x2040) [
    | inl x ↦ (let l = leb→le c 0x36f (and_right (leb 0x300 c) (leb c 0x36f) x) in omega arith)
    | inr z ↦ elim (or_case (inside c (span 0x203f 0x2040)) false z) as (λ _. c ≤ 0x2040) [
      | inl x ↦ leb→le c 0x2040 (and_right (leb 0x203f c) (leb c 0x2040) x)
      | inr x ↦ absurd x
    ]
  ]
]

pub known-scalars : (t : Text) → T (all known t) → All Scalar t
known-scalars [] h = none
known-scalars (c ∷ t) h =
    let l = known-low c (and_left (known c) (all known t) h) in
    more {c = c} (record { below = omega arith; plain = inl (omega arith) }) (known-scalars t (and_right (known c) (all known t) h))

no-mark : (t : Text) → T (all known t) → unmarked t ≡ t
unfolding unmarked
no-mark [] h = refl
no-mark (c ∷ t) h = go (eqb c 0xfeff) refl
  where
    go : (b : Bool) → eqb c 0xfeff ≡ b → pick b t (c ∷ t) ≡ c ∷ t
    go true e = let l = known-low c (and_left (known c) (all known t) h) in let z = eqb-true c 0xfeff e in absurd (omega arith)
    go false e = refl

-- two outcomes of one number and result differ at most in their places
same_outcome : (old : List ℕ) (m : Bool) (v w : Values) (n : ℕ) (x : Result) → places_at v n ≡ places_at w n → outcome old m v n x ≡ outcome old m w n x
same_outcome old m v w n x p = go (eqb n 0) refl
  where
    go : (b : Bool) → eqb n 0 ≡ b → outcome old m v n x ≡ outcome old m w n x
    go true e =
        rw (e, outcome)
        (λ ι. record {
          answer = record { number = n; length = length x.cells; ambiguous = x.ambiguous; version = m; places = p ι };
          buffer = x.cells ++ drop (length x.cells) old;
        })
    go false e = rw (e, outcome) (λ ι. record { answer = record { number = n; length = 0; ambiguous = false; version = eqb n 16 && m; places = p ι }; buffer = old })

-- what every test's number passes, and 0, the first's does
first_passes : (p : ℕ → Bool) (ts : List Test) → T (p 0) → T (all (λ t. p t.number) ts) → T (p (first_of ts))
first_passes p [] z h = z
first_passes p (t ∷ ts) z h = go (t.passes tt) (first_passes p ts z (and_right (p t.number) (all (λ t. p t.number) ts) h))
  where
    go : (b : Bool) → T (p (first_of ts)) → T (p (elim b as (λ _. ℕ) [ true ↦ t.number | false ↦ first_of ts ]))
    go true w = and_left (p t.number) (all (λ t. p t.number) ts) h
    go false w = w

-- 0, or a number past those of a grammar's places
abbrev late : ℕ → Bool
late n = ltb n 1 || ltb 10 n

-- tests of which none passes are passed over
none_first : (ss ts : List Test) → T (all (λ t. other 0 t.number) ss) → first_of ss ≡ 0 → first_of (ss ++ ts) ≡ first_of ts
none_first [] ts h z = refl
none_first (s ∷ ss) ts h z = go (s.passes tt) z (none_first ss ts (and_right (other 0 s.number) (all (λ t. other 0 t.number) ss) h))
  where
    go : (b : Bool) → ◌≡◌ {A = ℕ} (elim b as (λ _. ℕ) [ true ↦ s.number | false ↦ first_of ss ]) 0 → (first_of ss ≡ 0 → first_of (ss ++ ts) ≡ first_of ts)
        → ◌≡◌ {A = ℕ} (elim b as (λ _. ℕ) [ true ↦ s.number | false ↦ first_of (ss ++ ts) ]) (first_of ts)
    go true e f = absurd (subst (λ (m : ℕ). T (other 0 m)) e (and_left (other 0 s.number) (all (λ t. other 0 t.number) ss) h))
    go false e f = f e

-- values of bytes, and of the record's characters
abbrev by_bytes : List Value → List Value → Values
by_bytes vs fs = record { bytes = vs; faults = fs; grammars = [] }

-- with those of a grammar
abbrev with : List ℕ → List Value → List Value → Values
with bs vs fs = record { bytes = grammar_values bs vs; faults = fs; grammars = place_values bs }

-- the places of a grammar that is not refused
module _ (bs : List ℕ) (vs fs : List Value) (n : ℕ) (h : T (late n)) where
  far : (n < 5) ⊎ (10 < n)
  far = ⊎_elim (λ l. let k = ltb→lt n 1 l in inl (omega arith)) (λ l. inr (ltb→lt 10 n l)) (or_case (ltb n 1) (ltb 10 n) h)

  no_place : places_at (with bs vs fs) n ≡ places_at (by_bytes vs fs) n
  no_place =
      let at-3 = value 3 (λ _. break_of known bs (after_mark bs)) in
      let at-2 = value 2 (λ _. break_of every bs (after_mark bs)) in
      let e = value-skip at-2 (at-3 ∷ vs) n (λ e. subst (λ (m : ℕ). T (late m)) e h) ∙ value-skip at-3 vs n (λ e. subst (λ (m : ℕ). T (late m)) e h) in
      let g = placeless bs n far in
      λ ι. record { byte = e ι; fault = value_at fs n; grammar = g ι }

-- bytes of the tree g that no line refuses
module _ (bs : List ℕ) (g : Grammar) (tree : GrammarTree bs g) (accepted : None (grammar_lines bs [])) where
  pub known-text : T (all known tree.0)
  known-text = go (all known tree.0) refl
    where
      go : (b : Bool) → all known tree.0 ≡ b → T b
      go true e = tt
      go false e = absurd (accepted.1.1.0 (tree.0, tree.1, rw e tt))

  none_passes : (ts : List Test) → first_of (grammar_tests bs ts) ≡ first_of ts
  none_passes ts =
      let first = first-topmost (grammar_lines bs []) (grammar_tests bs []) (grammar-agrees bs [] [] tt) in
      none_first (grammar_tests bs []) ts tt ((none-given (grammar_lines bs []) (first_of (grammar_tests bs [])) tt first).1 accepted)

  -- what a call answers, by the tree, the tests after the grammar's and the places that are not the grammar's
  pub outcome-is : (old : List ℕ) (ts : List Test) (vs fs : List Value) (x : Result) → T (all (λ t. late t.number) ts)
      → outcome old (mismatch bs) (with bs vs fs) (first_of (grammar_tests bs ts)) x ≡ outcome old (mismatched g) (by_bytes vs fs) (first_of ts) x
  outcome-is old ts vs fs x h =
      rw (none_passes ts, tree-complete bs g tree)
      (same_outcome old (mismatched g) (with bs vs fs) (by_bytes vs fs) (first_of ts) x
      (no_place bs vs fs (first_of ts) (first_passes late ts tt h)))

module _ (bs : List ℕ) (g : Grammar) (h : Tidiable bs g) where
  tidied-known : T (all known (tidy_text g))
  tidied-known = tidy-known h.tree.0 g h.tree.2 (known-text bs g h.tree h.accepted)

  tidied-tree : GrammarTree (tidy_bytes g) g
  tidied-tree = (
    tidy_text g,
    (tidy_text g, record { scalars = known-scalars (tidy_text g) tidied-known; spelt = refl }, sym (no-mark (tidy_text g) tidied-known)),
    tidy-reads h.tree.0 g h.tree.2,
  )

  -- a line that judges the tree alone applies to both or to neither
  still : (P : Grammar → Type 0) → (of_tree bs P → ⊥) → of_tree (tidy_bytes g) P → ⊥
  still P f x = f (g, h.tree, subst P (one-tree x.1) x.2)
    where
      one-tree : {k : Grammar} → GrammarTree (tidy_bytes g) k → k ≡ g
      one-tree {k} y = let w = sym (tree-complete (tidy_bytes g) k y) ∙ tree-complete (tidy_bytes g) g tidied-tree in cc

  is-text : (cs : Text) → GrammarText (tidy_bytes g) cs → cs ≡ tidy_text g
  unfolding tidied-tree
  is-text cs x = let w = tidied-tree.1 in x.2 ∙ ap unmarked (utf8-unique (tidy_bytes g) x.0 w.0 x.1 w.1) ∙ sym w.2

  tidied-accepted : None (grammar_lines (tidy_bytes g) [])
  tidied-accepted =
      let m = h.short in
      let old = h.accepted.1.1.1.1 in (
        λ l. omega arith,
        (
          λ f. f (tidied-tree.1.0, tidied-tree.1.1),
          (
            not-unknown,
            (
              λ x. x.2 (g, reads x.0 x.1),
              (
                still (λ k. T (undefined k)) old.0,
                (
                  still (λ k. T (duplicate k)) old.1.0,
                  (
                    still (λ k. T (beyond k)) old.1.1.0,
                    (
                      still (λ k. T (banned k)) old.1.1.1.0,
                      (
                        still (λ k. T (backwards k)) old.1.1.1.1.0,
                        (
                          still (λ k. T (unclassed k)) old.1.1.1.1.1.0,
                          (still (λ k. most_size < size k) old.1.1.1.1.1.1.0, (still Unproductive old.1.1.1.1.1.1.1.0, tt)),
                        ),
                      ),
                    ),
                  ),
                ),
              ),
            ),
          ),
        ),
      )
    where
      reads : (cs : Text) → GrammarText (tidy_bytes g) cs → Ixml cs g
      reads cs x = subst (λ (ds : Text). Ixml ds g) (sym (is-text cs x)) (tidy-reads h.tree.0 g h.tree.2)

      not-both : (b : Bool) → T b → T (not b) → ⊥
      not-both true x y = y
      not-both false x y = x

      not-unknown : of_text GrammarText (tidy_bytes g) (λ cs. T (not (all known cs))) → ⊥
      not-unknown x = not-both (all known (tidy_text g)) tidied-known (subst (λ (cs : Text). T (not (all known cs))) (is-text x.0 x.1) x.2)

  pub still-tidiable : Tidiable (tidy_bytes g) g
  still-tidiable = record { tree = tidied-tree; accepted = tidied-accepted; short = h.short }

  -- the two calls' outcomes, both brought to the tree
  both : (old : List ℕ) (ts us : List Test) (vs fs gs : List Value) (x y : Result) → T (all (λ t. late t.number) ts) → T (all (λ t. late t.number) us) → first_of ts ≡ first_of us → x ≡ y → fs ≡ gs
      → outcome old (mismatch (tidy_bytes g)) (with (tidy_bytes g) vs fs) (first_of (grammar_tests (tidy_bytes g) ts)) x
      ≡ outcome old (mismatch bs) (with bs vs gs) (first_of (grammar_tests bs us)) y
  both old ts us vs fs gs x y a b e f q =
      outcome-is (tidy_bytes g) g tidied-tree tidied-accepted old ts vs fs x a
      ∙ (λ ι. outcome old (mismatched g) (by_bytes vs (q ι)) (e ι) (f ι))
      ∙ sym (outcome-is bs g h.tree h.accepted old us vs gs y b)

  trees : tree_of (tidy_bytes g) ≡ tree_of bs
  trees = tree-complete (tidy_bytes g) g tidied-tree ∙ sym (tree-complete bs g h.tree)

  pub same_check : check_of (tidy_bytes g) ≡ check_of bs
  unfolding check_of
  same_check = ap (λ (o : Outcome). o.answer) (both [] [] [] [] [] [] (result [] false) (result [] false) tt tt refl refl refl)

  pub same-tidy : (old : List ℕ) → tidy_of (tidy_bytes g) old ≡ tidy_of bs old
  unfolding tidy_of
  same-tidy old =
      let made : Parsed → Result = λ p. result_tree p (λ k. result (tidy_bytes k) false) in
      both old (tidy_tests (tidy_bytes g) old) (tidy_tests bs old) [] [] [] (made (tree_of (tidy_bytes g))) (made (tree_of bs)) tt tt (rw trees) (ap made trees) refl

  module _ (rs : List ℕ) (m s : ℕ) (old : List ℕ) where
    new : Job
    new = job (tidy_bytes g) rs m s

    was : Job
    was = job bs rs m s

    -- the place of the fault is that of the tree and the record
    same-fault : reading_values new [] ≡ reading_values was []
    unfolding new was
    same-fault = ap (λ (k : ℕ). value 16 (λ _. k) ∷ []) (ap (λ (p : Parsed). place_tree p (λ k. place_text (decode rs) (fault_of k))) trees)

    pub same_read : read_of (job (tidy_bytes g) rs m s) old ≡ read_of (job bs rs m s) old
    unfolding read_of new was
    same_read =
        both old (record_tests new (long_test as_numbers new old ∷ [])) (record_tests was (long_test as_numbers was old ∷ [])) (input_values rs [])
        (reading_values new []) (reading_values was []) (result_of new (result_by as_numbers)) (result_of was (result_by as_numbers)) tt tt (rw trees) (rw trees) same-fault

    pub same-convert : convert_of (job (tidy_bytes g) rs m s) old ≡ convert_of (job bs rs m s) old
    unfolding convert_of new was
    same-convert =
        both old (record_tests new (document_tests new (long_test as_xml new old ∷ []))) (record_tests was (document_tests was (long_test as_xml was old ∷ []))) (input_values rs [])
        (reading_values new []) (reading_values was []) (result_of new (result_by as_xml)) (result_of was (result_by as_xml)) tt tt (rw trees) (rw trees) same-fault
