-- The laws of specs/Demands.antt hold.
use mathlib.Core.Bool.{Bool, true, false, not, ◌||◌}
use mathlib.Core.Path.{◌≡◌, refl, sym, subst, ap, ◌∙◌}
use mathlib.Core.Logic.{◌⊎◌, ◌↔◌, ⊎_elim}
use mathlib.Core.List.{List, [], ◌∷◌, ◌++◌}
use Prim.Native.Nat.{ℕ, ◌<◌, ◌≤◌}
use native.Mathlib.Omega.{arith}
use lib.Dec.{T, leb, eqb}
use lib.ListN.{length, drop}
use Rattle.text.specs.Limits.{reading_numbers}
use Rattle.text.specs.Lists.{Text, all, among}
use Rattle.text.specs.Utf8.{Utf8}
use Rattle.text.specs.Decode.{text}
use Rattle.text.proofs.Tests.{split}
use Rattle.tree.specs.Tree.{Grammar}
use Rattle.derive.specs.Derive.{Row, left_parse, Derivation}
use Rattle.derive.specs.Chosen.{Reading, Second}
use Rattle.derive.specs.Pick.{found, chosen_of}
use Rattle.derive.proofs.Choose.{chosen-found}
use Rattle.derive.proofs.Chosen.{chosen-derives, chosen-least}
use Rattle.viable.specs.Fault.{FaultAt}
use Rattle.viable.specs.Compute.{fault_of}
use Rattle.viable.proofs.Fault.{fault-unique}
use Rattle.answer.specs.Answer.{job_notes, Line, line, Topmost, GrammarTree, Job, of_reading, Shown, as_numbers, as_xml, ResultOf, Answer, Answers, Checks, Reads, Converts}
use Rattle.answer.specs.Answer.{grammar_lines, input_lines, reading_lines, record_lines, document_lines, too_long}
use Rattle.answer.specs.Demands.{None, Admitted, Underivable, Faulted, ShortReading, Given, of_grammar, AsChecked, OfChecking, OfReading, OfConverting, OneReading, Demands}
use Rattle.answer.proofs.Lines.{numbers, listed, other, head-given, none-given, passed, begun}
use Rattle.answer.proofs.Agree.{one-grammar, one-record}
use Rattle.answer.proofs.Noted.{admitted-fault}
use Rattle.answer.proofs.Settled.{same-mark}
use Rattle.answer.proofs.Sizes.{size-of-literal, size-of-repetition}

-- 1. A job has one grammar, one record and one chosen derivation.
one-row : {g h : Grammar} {r s : Text} {t u : Row} {p q : List ℕ} → g ≡ h → r ≡ s → Reading g r t p → Reading h s u q → t ≡ u
one-row {g} {h} {r} {s} {t} {u} e f x y =
    let c : chosen_of g r ≡ found t = chosen-found g r x.chosen in
    let d : chosen_of h s ≡ found u = chosen-found h s y.chosen in
    let z : found t ≡ found u = sym c ∙ ap (λ (k : Grammar). chosen_of k r) e ∙ ap (chosen_of h) f ∙ d in
    cc

one-reading : (j : Job) {g h : Grammar} {r s : Text} {t u : Row} {p q : List ℕ} → GrammarTree j.grammar g × Utf8 j.input r → Reading g r t p
    → GrammarTree j.grammar h × Utf8 j.input s → Reading h s u q → OneReading j g h r s t u p q
one-reading j {g} {h} {r} {s} {t} {u} {p} {q} m x n y =
    let e : g ≡ h = one-grammar j m.0 n.0 in
    let f : r ≡ s = one-record j m.1 n.1 in
    let d : t ≡ u = one-row e f x y in
    record { grammar = e; text = f; derivation = d; numbers = x.parse ∙ ap left_parse d ∙ sym y.parse }

-- 2. The lines from 16 on, of a call whose last lines are ls and whose result is F.
module _ (j : Job) (F : Shown) (ls : List Line) (old new : List ℕ) (a : Answer)
    (w : Answers (grammar_lines j.grammar (record_lines j ls)) (job_notes j) (ResultOf j F) j.grammar old a new) where
  later : Admitted j → Topmost (reading_lines j ls) a.number
  later u = passed (grammar_lines j.grammar (input_lines j [])) (reading_lines j ls) a.number u w.number

  none-exactly : T (all (other 16) (numbers ls)) → Admitted j → (a.number ≡ 16) ↔ Underivable j
  none-exactly h u = head-given (line 16 (Underivable j)) (line 29 (of_reading j (λ g r t p. reading_numbers < length p)) ∷ ls) a.number tt h (later u)

  -- a reading of at most 4,096 numbers rules out 16 and 29
  derived : {P : List ℕ → Type 0} → ShortReading j P → Underivable j → ⊥
  derived x y =
      let g : x.0 ≡ y.0 = one-grammar j x.2.0 y.2.0 in
      let r : x.1 ≡ y.1 = one-record j x.2.1 y.2.1 in
      let d : Derivation x.0 x.1 x.3.0 = chosen-derives x.0 x.1 x.3.2.chosen in
      let e : Derivation y.0 y.1 x.3.0 = subst (λ (z : Text). Derivation y.0 z x.3.0) r (subst (λ (z : Grammar). Derivation z x.1 x.3.0) g d) in
      y.3 (x.3.0, e)

  not-long : {P : List ℕ → Type 0} → ShortReading j P → of_reading j (λ g r t p. reading_numbers < length p) → ⊥
  not-long x y =
      let e : length x.3.1 ≡ length y.3.1 = ap length (one-reading j x.2 x.3.2 y.2 y.3.2).numbers in
      omega (arith, e, x.3.3.0, y.3.3)

  -- and an answer of 0 has one
  short : None (reading_lines j ls) → a.number ≡ 0 → ShortReading j (λ p. Unit {0})
  short u e =
      let y = (w.answered e).1 in
      let m : length y.3.1 ≤ reading_numbers =
      ⊎_elim (λ l. absurd (u.1.0 (y.0, y.1, y.2, (y.3.0, y.3.1, y.3.2, l)))) (λ l. l) (split reading_numbers (length y.3.1)) in
      (y.0, y.1, y.2, (y.3.0, y.3.1, y.3.2, (m, tt)))

  answers-exactly : T (all (other 0) (numbers ls)) → Admitted j → (a.number ≡ 0) ↔ (ShortReading j (λ p. Unit {0}) × None ls)
  answers-exactly h u =
      let k = none-given (reading_lines j ls) a.number h (later u) in
      (λ e. (short (k.0 e) e, (k.0 e).1.1), λ x. k.1 (derived x.0, (not-long x.0, x.1)))

  faulted : Faulted j a
  faulted = ⊎_elim (λ x. (λ _. x.1, λ z. absurd (z x.0))) (λ x. (λ z. absurd (x.0 z), λ _. x.1)) w.places.fault

  -- the numbers from checking
  as-checked : T (all (λ n. not (of_grammar n)) (numbers (record_lines j ls))) → AsChecked j.grammar a.number
  as-checked h =
      record {
        refused = λ c v z. ⊎_elim (λ e. absurd (z e)) (λ e. e)
            (begun (grammar_lines j.grammar []) (record_lines j ls) c.number a.number v.number w.number);
        accepted = accepted;
      }
    where
      not-and : (b : Bool) → T (not b) → T b → ⊥
      not-and true x y = x
      not-and false x y = y

      accepted : (c : Answer) → Checks j.grammar c → c.number ≡ 0 → T (of_grammar a.number) → ⊥
      accepted c v e =
          let u = (none-given (grammar_lines j.grammar []) c.number tt v.number).0 e in
          let t = passed (grammar_lines j.grammar []) (record_lines j ls) a.number u w.number in
          not-and (of_grammar a.number) (listed (λ n. not (of_grammar n)) (record_lines j ls) a.number tt h t)

-- 3. Each call.
of-checking : (bs : List ℕ) (a : Answer) → Checks bs a → OfChecking bs a
of-checking bs a w = record {
  accepts = none-given (grammar_lines bs []) a.number tt w.number;
  numbers = listed (λ n. eqb n 0 || of_grammar n) (grammar_lines bs []) a.number tt tt w.number;
}

module _ (j : Job) (old new : List ℕ) (a : Answer) where
  abbrev reading-end : List Line
  reading-end = too_long j as_numbers old ∷ []

  abbrev converting-end : List Line
  converting-end = document_lines j (too_long j as_xml old ∷ [])

  reading-chosen : Reads j old a new → a.number ≡ 0 → of_reading j (λ g r. Given old new a (λ t p. p) g r)
  reading-chosen w e =
      let x = w.answered e in
      let q = x.1.3 in
      (x.1.0, x.1.1, x.1.2, (q.0, q.1, q.2, (q.3.0, x.2 ∙ ap length q.3.1, x.3 ∙ ap (λ (l : List ℕ). l ++ drop (length l) old) q.3.1)))

  converting-chosen : Converts j old a new → a.number ≡ 0 → of_reading j (λ g r. Given old new a (as_xml a.ambiguous g r) g r)
  converting-chosen w e =
      let x = w.answered e in
      let q = x.1.3 in
      (x.1.0, x.1.1, x.1.2, (q.0, q.1, q.2, (q.3.0, x.2 ∙ ap length q.3.1, x.3 ∙ ap (λ (l : List ℕ). l ++ drop (length l) old) q.3.1)))

  -- the result of reading fits the room exactly when the reading's numbers do
  fits : None reading-end → a.number ≡ 0 → Reads j old a new → ShortReading j (λ p. Unit {0}) → ShortReading j (λ p. length p ≤ length old)
  fits u e w x =
      let y = w.answered e in
      let q = y.1.3 in
      let l : length y.0 ≤ length old = ⊎_elim (λ h. absurd (u.0 (y.0, a.ambiguous, y.1, h))) (λ h. h) (split (length old) (length y.0)) in
      let s : length y.0 ≡ length x.3.1 = ap length (q.3.1 ∙ (one-reading j y.1.2 q.2 x.2 x.3.2).numbers) in
      (x.0, x.1, x.2, (x.3.0, x.3.1, x.3.2, (x.3.3.0, subst (λ (k : ℕ). k ≤ length old) s l)))

  fitting : ShortReading j (λ p. length p ≤ length old) → None reading-end
  fitting x = (λ y. over y, tt)
    where
      over : ((xs : List ℕ) × (m : Bool) × ResultOf j as_numbers xs m × (length old < length xs)) → ⊥
      over y =
          let z = y.2 in
          let s : length y.0 ≡ length x.3.1 = ap length (z.3.3.1 ∙ (one-reading j z.2 z.3.2 x.2 x.3.2).numbers) in
          omega (arith, s, x.3.3.1, y.3)

  of-reading : Reads j old a new → OfReading j old a new
  of-reading w =
      let k = answers-exactly j as_numbers reading-end old new a w tt in
      record {
        none = none-exactly j as_numbers reading-end old new a w tt;
        answers = λ u. (λ e. fits ((k u).0 e).1 e w ((k u).0 e).0, λ x. (k u).1 ((x.0, x.1, x.2, (x.3.0, x.3.1, x.3.2, (x.3.3.0, tt))), fitting x));
        chosen = reading-chosen w;
        fault = faulted j as_numbers reading-end old new a w;
        numbers = listed (λ n. leb n 16 || among n (24 ∷ 29 ∷ 23 ∷ [])) (grammar_lines j.grammar (record_lines j reading-end)) a.number tt tt w.number;
        checked = as-checked j as_numbers reading-end old new a w tt;
      }

  of-converting : Converts j old a new → OfConverting j old a new
  of-converting w = record {
    none = none-exactly j as_xml converting-end old new a w tt;
    answers = answers-exactly j as_xml converting-end old new a w tt;
    chosen = converting-chosen w;
    fault = faulted j as_xml converting-end old new a w;
    numbers = listed (λ n. leb n 24 || among n (29 ∷ [])) (grammar_lines j.grammar (record_lines j converting-end)) a.number tt tt w.number;
    checked = as-checked j as_xml converting-end old new a w tt;
  }

-- 4. One mark.
one-mark : (j : Job) (old old' new new' : List ℕ) (a b : Answer) → Reads j old a new → a.number ≡ 0 → Converts j old' b new' → b.number ≡ 0 → a.ambiguous ≡ b.ambiguous
one-mark j old old' new new' a b v e w f =
    let x = reading-chosen j old new a v e in
    let y = converting-chosen j old' new' b w f in
    let o = one-reading j x.2 x.3.2 y.2 y.3.2 in
    let m : T a.ambiguous ↔ Second y.0 y.1 y.3.1 =
    subst (λ (z : List ℕ). T a.ambiguous ↔ Second y.0 y.1 z) o.numbers
    (subst (λ (z : Text). T a.ambiguous ↔ Second y.0 z x.3.1) o.text
    (subst (λ (z : Grammar). T a.ambiguous ↔ Second z x.1 x.3.1) o.grammar x.3.3.0)) in
    same-mark a.ambiguous b.ambiguous (Second y.0 y.1 y.3.1) m y.3.3.0

-- 5. The place of the fault.
some-fault : (j : Job) → Admitted j → {g : Grammar} {r : Text} → GrammarTree j.grammar g × Utf8 j.input r → (k : ℕ) × FaultAt g r k
some-fault j u {g} {r} x = (fault_of g r, admitted-fault j u x)

pub demands-hold : Demands
demands-hold = record {
  checking = of-checking;
  reading = λ j old new a. of-reading j old new a;
  converting = λ j old new a. of-converting j old new a;
  one = one-reading;
  marks = one-mark;
  least = λ {g} {r} x d. chosen-least g r x.chosen d;
  fault = some-fault;
  one-fault = fault-unique;
  need = refl;
  sizes = (size-of-literal, size-of-repetition);
}
