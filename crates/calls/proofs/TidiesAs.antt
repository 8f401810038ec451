-- From an accepted grammar to the answer of tidying.
use mathlib.Core.Bool.{Bool, true, false, ◌&&◌}
use mathlib.Core.Path.{◌≡◌, refl, sym, subst, ap, ◌∙◌}
use mathlib.Core.Logic.{⊎_elim}
use mathlib.Core.List.{List, []}
use Prim.Native.Nat.{ℕ}
use native.Mathlib.Omega.{arith}
use lib.Dec.{ltb, eqb}
use lib.ListN.{length}
use borrow.Author.Tests.{ne_eqb, lt-ltb, le-ltb}
use Rattle.text.specs.Limits.{grammar_bytes, grammar_table}
use Rattle.text.specs.Stages.{plainly}
use Rattle.text.specs.declared.Diagnostic.{Diagnostic}
use Rattle.text.proofs.Tests.{T_false}
use Rattle.tree.specs.Tree.{Grammar}
use Rattle.tree.specs.Tokens.{Token, grammar_tokens}
use Rattle.plain.specs.Static.{beyond}
use Rattle.tokens.specs.Lengths.{Left}
use Rattle.tokens.proofs.Walk.{left-start}
use Rattle.encode.specs.Out.{enc}
use Rattle.answer.specs.Answer.{GrammarTree, grammar_lines}
use Rattle.answer.specs.Compute.{Test, first_of, tree_of, grammar_tests, Result, result, result_tree, places_at, check_values, mismatch, Outcome, outcome}
use Rattle.answer.specs.Demands.{None}
use Rattle.answer.proofs.Agree.{grammar-agrees, tree-sound}
use Rattle.answer.proofs.Lines.{first-topmost, none-given}
use Rattle.load.specs.Loaded.{places_of}
use Rattle.load.proofs.Stages.{to-size}
use Rattle.accept.specs.declared.Rules.{Rules}
use Rattle.accept.specs.Accepted.{Accepted, Kept, Accepts}
use Rattle.exported.specs.declared.Refusal.{Refusal}
use Rattle.tidy.specs.Scan.{scan}
use Rattle.tidy.specs.Call.{tidy_bytes, tidy_tests, Tidies, tidy_of}
use Rattle.tidy.proofs.Answers.{tidy-answers}
use Rattle.tidy.proofs.Same.{known-text}
use Rattle.tidy_writer.specs.Walk.{SomeLeft}
use Rattle.std.specs.Prelude.{Result as Either, Ok, Err}
use Rattle.tidy_text.specs.declared.TidyError.{TidyError}
use Rattle.tidy_text.specs.Whole.{error_number, AllFit, Written, NotWritten, Concludes}
use Rattle.tidy_text.proofs.Fits.{grammar-fits}
use Rattle.tidy_text.proofs.Encoded.{tidy-encoded}
use Rattle.exported.specs.declared.Answer.{Answer}
use Rattle.exported.specs.Exported.{shown, done, refusal_of}
use Rattle.outcome.specs.Given.{Tokened, tidied_of, GivesTidy}
use Rattle.outcome.specs.Calls.{TidiedAs}
use Rattle.outcome.proofs.Outcomes.{answering, refused-outcome, done-is}

module _ (bs old : List ℕ) where
  abbrev made : Result
  made = result_tree (tree_of bs) (λ g. result (tidy_bytes g) false)

  abbrev tests : List Test
  tests = grammar_tests bs (tidy_tests bs old)

  tidied-as : (a : Answer) (new : List ℕ) → tidy_of bs old ≡ record { answer = shown a; buffer = new } → TidiedAs bs old a new
  tidied-as a new e = record {
    computed = sym (ap (λ (o : Outcome). o.answer) e);
    buffer = sym (ap (λ (o : Outcome). o.buffer) e);
    defines = subst (λ (o : Outcome). Tidies bs old o.answer o.buffer) e (tidy-answers bs old);
  }

  -- the tests end with a refusal, which is not 16
  refused_as : (d : Diagnostic) → first_of tests ≡ d.number → (d.number ≡ 0 → ⊥) → (d.number ≡ 16 → ⊥) → places_of d.places ≡ places_at (check_values bs) d.number
      → (a : Answer) → a ≡ refusal_of (record { why = d; mismatch = false }) → TidiedAs bs old a old
  unfolding tidy_of
  refused_as d e z s p a q =
      let r : Refusal = record { why = d; mismatch = false } in
      let v : (eqb d.number 16 && false) ≡ (eqb d.number 16 && mismatch bs) = rw (ne_eqb d.number 16 s) in
      rw q (tidied-as (refusal_of r) old (ap (λ (k : ℕ). outcome old (mismatch bs) (check_values bs) k made) e ∙ refused-outcome old (mismatch bs) (check_values bs) r made z v p))

-- the tokens of an accepted grammar
module _ {bs U : List ℕ} {p : Rules} (y : Kept bs U p) where
  abbrev g : Grammar
  g = y.tree

  tree : GrammarTree bs g
  tree = tree-sound bs g y.is

  accepted : None (grammar_lines bs [])
  accepted =
      (none-given (grammar_lines bs []) (first_of (grammar_tests bs [])) tt (first-topmost (grammar_lines bs []) (grammar_tests bs []) (grammar-agrees bs [] [] tt))).0 (y.first [])

  left : Left U p.end 0 (grammar_tokens g)
  left = left-start (to-size U p.end g y.stands)

  pub some_left : length U ≡ grammar_table → SomeLeft U p.end 0
  some_left l = record { tokens = grammar_tokens g; left = left; inside = omega (arith, y.inside, l); low = omega arith }

  fits : AllFit (grammar_tokens g)
  fits = grammar-fits tree.0 g tree.2 (T_false (beyond g) (λ b. accepted.1.1.1.1.1.1.0 (g, tree, b)))

  bytes-are : enc (scan true (grammar_tokens g)) ≡ tidy_bytes g
  bytes-are = tidy-encoded tree.0 g tree.2 (known-text bs g tree accepted)

  module _ (old new : List ℕ) (v : Either ℕ TidyError) (h : (ts : List Token) → Left U p.end 0 ts → AllFit ts → Concludes (enc (scan true ts)) old new v) where
    abbrev cells : List ℕ
    cells = tidy_bytes g

    concludes : Concludes cells old new v
    concludes = subst (λ (xs : List ℕ). Concludes xs old new v) bytes-are (h (grammar_tokens g) left fits)

    long-is : first_of (tidy_tests bs old) ≡ elim (ltb grammar_bytes (length cells)) as (λ _. ℕ) [
      | true ↦ 28
      | false ↦ elim (ltb (length old) (length cells)) as (λ _. ℕ) [ true ↦ 23 | false ↦ 0 ]
    ]
    long-is = rw y.is

    refused-at : (k : ℕ) → NotWritten cells old new k → (a : Answer) → a ≡ refusal_of (record { why = plainly k; mismatch = false }) → TidiedAs bs old a new
    refused-at k w a q = subst (TidiedAs bs old a) (sym w.buffer) (⊎_elim
        (λ x. at k 28 x.0 (long-is ∙ rw (lt-ltb grammar_bytes (length cells) x.1)) (λ z. omega arith) (λ z. omega arith) refl q)
        (λ x. at k 23 x.0 (long-is ∙ rw (le-ltb grammar_bytes (length cells) x.1, lt-ltb (length old) (length cells) x.2)) (λ z. omega arith) (λ z. omega arith) refl q)
        w.why)
      where
        at : (k n : ℕ) → k ≡ n → first_of (tidy_tests bs old) ≡ n → (n ≡ 0 → ⊥) → (n ≡ 16 → ⊥) → places_of (plainly n).places ≡ places_at (check_values bs) n
            → a ≡ refusal_of (record { why = plainly k; mismatch = false }) → TidiedAs bs old a old
        at k n e f z s r q = refused_as bs old (plainly n) (y.first (tidy_tests bs old) ∙ f) z s r a (q ∙ ap (λ (m : ℕ). refusal_of (record { why = plainly m; mismatch = false })) e)

    tidied : (n : ℕ) (a : Answer) → v ≡ Ok n → a ≡ done n false p.mismatch → TidiedAs bs old a new
    unfolding tidy_of
    tidied n a e z =
        let w : Written cells old new n = subst (Concludes cells old new) e concludes in
        let first : first_of (tests bs old) ≡ 0 = y.first (tidy_tests bs old) ∙ long-is
        ∙ rw (le-ltb grammar_bytes (length cells) w.short, le-ltb (length old) (length cells) w.fits) in
        let m : made bs old ≡ result cells false = rw y.is in
        rw z (tidied-as bs old (done n false p.mismatch) new
        (ap (λ (k : ℕ). outcome old (mismatch bs) (check_values bs) k (made bs old)) first
        ∙ ap (answering old (mismatch bs)) m
        ∙ ap (λ (b : Bool). answering old b (result cells false)) (sym y.version)
        ∙ done-is old new cells p.mismatch false false n w.buffer w.count refl))

-- the tokens stand in the table
pub tokened : (bs U : List ℕ) (q : Accepted) → Accepts bs U q → length U ≡ grammar_table → Tokened q U
tokened bs U (Err d) t l = tt
tokened bs U (Ok p) y l = some_left y l

-- whatever is given of a grammar
pub tidy-given : (bs old U : List ℕ) (q : Accepted) → Accepts bs U q → (new : List ℕ) (a : Answer) → GivesTidy q U old new a → TidiedAs bs old a new
tidy-given bs old U (Err d) t new a h =
    rw h.1 (refused_as bs old d (t.first (tidy_tests bs old)) t.some (λ q. ⊎_elim (λ l. omega arith) (λ l. omega arith) t.early) t.places a h.0)
tidy-given bs old U (Ok p) y new a h = go h.tidied h.concludes h.answer
  where
    go : (v : Either ℕ TidyError) → ((ts : List Token) → Left U p.end 0 ts → AllFit ts → Concludes (enc (scan true ts)) old new v) → a ≡ tidied_of v p.mismatch → TidiedAs bs old a new
    go (Ok n) c z = tidied y old new (Ok n) c n a refl z
    go (Err e) c z = refused-at y old new (Err e) c (error_number e) (concludes y old new (Err e) c) a z
