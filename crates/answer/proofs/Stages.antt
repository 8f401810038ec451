-- What the tests come to, stage by stage: the shape in which code meets them.
use mathlib.Core.Bool.{Bool, true, false, ◌||◌}
use mathlib.Core.Path.{◌≡◌}
use mathlib.Core.List.{List, [], ◌∷◌}
use Prim.Native.Nat.{ℕ, ◌<◌, ◌≤◌}
use lib.Dec.{T, ltb, leb, leb→le}
use lib.ListN.{length}
use native.Mathlib.Omega.{arith}
use borrow.Author.Tests.{lt-ltb, le-ltb}
use Rattle.text.specs.Limits.{grammar_bytes, most_size, record_chars, grammar_table, reading_numbers}
use Rattle.text.specs.Lists.{Text, all}
use Rattle.text.specs.Utf8.{unmarked, known}
use Rattle.text.proofs.Tests.{and_left, and_right}
use Rattle.text.specs.Decode.{text, not-utf8, decode}
use Rattle.tree.specs.Tree.{Grammar}
use Rattle.syntax.specs.Parser.{parsed, no-parse, parse}
use Rattle.plain.specs.Static.{undefined, duplicate, beyond, banned, backwards, unclassed, mismatched}
use Rattle.plain.specs.Plain.{size}
use Rattle.derive.specs.Derive.{Row, left_parse}
use Rattle.derive.specs.Yield.{unproductive}
use Rattle.derive.specs.Pick.{found, no-choice, chosen_of}
use Rattle.answer.specs.Answer.{Job, Need, table_need}
use Rattle.answer.specs.Compute.{Test, test, first_of, tree_of, grammar_tests, need_tests, none_test, Finder, record_tests, mismatch}

-- no test's number is above m, so neither is the first that passes
pub first_below : (m : ℕ) (ts : List Test) → T (all (λ t. leb t.number m) ts) → first_of ts ≤ m
first_below m [] h = omega arith
first_below m (t ∷ ts) h = go (t.passes tt) (first_below m ts (and_right (leb t.number m) (all (λ t. leb t.number m) ts) h))
  where
    go : (b : Bool) → first_of ts ≤ m → elim b as (λ _. ℕ) [ true ↦ t.number | false ↦ first_of ts ] ≤ m
    go true k = leb→le t.number m (and_left (leb t.number m) (all (λ t. leb t.number m) ts) h)
    go false k = k

-- the first of the six static tests that passes
abbrev pub static_tests : Grammar → List Test → List Test
static_tests g ts =
    test 5 (λ _. undefined g)
    ∷ test 6 (λ _. duplicate g)
    ∷ test 7 (λ _. beyond g)
    ∷ test 8 (λ _. banned g)
    ∷ test 9 (λ _. backwards g)
    ∷ test 10 (λ _. unclassed g)
    ∷ ts

-- a grammar's bytes
module _ (bs : List ℕ) (ts : List Test) where
  pub stage-1 : grammar_bytes < length bs → first_of (grammar_tests bs ts) ≡ 1
  stage-1 l = rw (lt-ltb grammar_bytes (length bs) l)

  module _ (l : length bs ≤ grammar_bytes) where
    pub stage-2 : decode bs ≡ not-utf8 → first_of (grammar_tests bs ts) ≡ 2
    stage-2 e = rw (le-ltb grammar_bytes (length bs) l, e)

    module _ (cs : Text) (e : decode bs ≡ text cs) where
      pub stage-3 : all known (unmarked cs) ≡ false → first_of (grammar_tests bs ts) ≡ 3
      stage-3 k = rw (le-ltb grammar_bytes (length bs) l, e, k)

      module _ (k : all known (unmarked cs) ≡ true) where
        pub stage-4 : parse (unmarked cs) ≡ no-parse → first_of (grammar_tests bs ts) ≡ 4
        stage-4 p = rw (le-ltb grammar_bytes (length bs) l, e, k, p)

        module _ (g : Grammar) (p : parse (unmarked cs) ≡ parsed g) where
          pub tree_is : tree_of bs ≡ parsed g
          unfolding tree_of
          tree_is = rw e p

          pub stage-static : first_of (grammar_tests bs ts) ≡ first_of (static_tests g (test 11 (λ _. ltb most_size (size g)) ∷ test 24 (λ _. unproductive g) ∷ ts))
          stage-static = rw (le-ltb grammar_bytes (length bs) l, e, k, p, tree_is)

          pub mismatch-is : mismatch bs ≡ mismatched g
          mismatch-is = rw tree_is

-- a record's bytes, and the lent tables
module _ (need : Need) (j : Job) (ts : List Test) where
  pub stage-12 : decode j.input ≡ not-utf8 → first_of (need_tests need j ts) ≡ 12
  stage-12 e = rw e

  module _ (r : Text) (e : decode j.input ≡ text r) where
    pub stage-13 : all known r ≡ false → first_of (need_tests need j ts) ≡ 13
    stage-13 k = rw (e, k)

    module _ (k : all known r ≡ true) where
      pub stage-14 : record_chars < length r → first_of (need_tests need j ts) ≡ 14
      stage-14 l = rw (e, k, lt-ltb record_chars (length r) l)

      module _ (l : length r ≤ record_chars) (g : Grammar) (t : tree_of j.grammar ≡ parsed g) where
        pub stage-15 : (ltb j.main_table (need g r) || ltb j.second_table grammar_table) ≡ true → first_of (need_tests need j ts) ≡ 15
        stage-15 w = rw (e, k, le-ltb record_chars (length r) l, t, w)

        pub stage-lent : (ltb j.main_table (need g r) || ltb j.second_table grammar_table) ≡ false → first_of (need_tests need j ts) ≡ first_of ts
        stage-lent w = rw (e, k, le-ltb record_chars (length r) l, t, w)

-- the derivation that is spoken of
module _ (j : Job) (ts : List Test) (r : Text) (e : decode j.input ≡ text r) (g : Grammar) (t : tree_of j.grammar ≡ parsed g) where
  module _ (number : ℕ) (c : Finder) where
    pub stage-none : c g r ≡ no-choice → first_of (none_test number c j ∷ ts) ≡ number
    stage-none o = rw (e, t, o)

    pub stage-found : (row : Row) → c g r ≡ found row → first_of (none_test number c j ∷ ts) ≡ first_of ts
    stage-found row o = rw (e, t, o)

module _ (j : Job) (ts : List Test) (r : Text) (e : decode j.input ≡ text r) (k : all known r ≡ true) (l : length r ≤ record_chars)
    (g : Grammar) (t : tree_of j.grammar ≡ parsed g) (w : (ltb j.main_table (table_need (size g) (length r)) || ltb j.second_table grammar_table) ≡ false) where
  pub stage-16 : chosen_of g r ≡ no-choice → first_of (record_tests j ts) ≡ 16
  stage-16 c = rw (e, k, le-ltb record_chars (length r) l, t, w, c)

  module _ (row : Row) (c : chosen_of g r ≡ found row) where
    pub stage-29 : reading_numbers < length (left_parse row) → first_of (record_tests j ts) ≡ 29
    stage-29 q = rw (e, k, le-ltb record_chars (length r) l, t, w, c, lt-ltb reading_numbers (length (left_parse row)) q)

    pub stage-read : length (left_parse row) ≤ reading_numbers → first_of (record_tests j ts) ≡ first_of ts
    stage-read q = rw (e, k, le-ltb record_chars (length r) l, t, w, c, le-ltb reading_numbers (length (left_parse row)) q)
