-- The places of an answer: its number has one, and the computed one is it.
use mathlib.Core.Bool.{Bool, true, false, not, ◌&&◌}
use mathlib.Core.Path.{◌≡◌, refl, sym, subst, ap, ◌∙◌}
use mathlib.Core.Logic.{◌⊎◌, inl, inr, ⊎_elim}
use mathlib.Core.List.{List, [], ◌∷◌}
use Prim.Native.Nat.{ℕ, ◌<◌, ◌≤◌}
use native.Mathlib.Omega.{arith}
use lib.Dec.{T, eqb, leb, leb→le}
use lib.ListN.{drop}
use borrow.Author.Tests.{eqb-true, eqb-false}
use Rattle.text.specs.Lists.{Text, all}
use Rattle.text.specs.Utf8.{Utf8, unmarked, known}
use Rattle.text.specs.Decode.{Decoded, decode, break_of}
use Rattle.text.specs.Faults.{every, Breaks, after_mark}
use Rattle.text.proofs.Decode.{utf8-unique, decode-complete}
use Rattle.text.proofs.Tests.{look, is_t, T_false}
use Rattle.derive.specs.Yield.{unproductive}
use Rattle.derive.proofs.Productive.{unproductive-is}
use Rattle.viable.specs.Fault.{FaultAt}
use Rattle.viable.specs.Compute.{fault_of}
use Rattle.viable.proofs.Fault.{fault-unique, fault-of, root-produces}
use Rattle.text.proofs.Faults.{scalars, passing, one-break, break-there}
use Rattle.text.proofs.Tests.{and_left, and_right}
use Rattle.text.proofs.Marks.{marked-text}
use Rattle.tree.specs.Tree.{Grammar}
use Rattle.syntax.specs.Syntax.{Ixml}
use Rattle.plain.specs.Static.{undefined, duplicate, beyond, banned, backwards, unclassed}
use Rattle.places.specs.Place.{Place}
use Rattle.places.specs.Tokens.{place_of}
use Rattle.places.proofs.Unique.{place_is, one_place}
use Rattle.places.proofs.Exists.{by-rule, place-5, place-6, place-7, place-8, place-9, place-10}
use Rattle.answer.specs.Answer.{GrammarText, of_tree, place_note, place_notes}
use Rattle.answer.specs.Compute.{place_in, place_value, place_values}
use Rattle.answer.specs.Answer.{Line, Topmost, Note, Noted, Notes, Placed, Places, grammar_lines, Need, need_lines, record_lines, grammar_notes, input_notes, check_notes, job_notes, Job}
use Rattle.answer.specs.Compute.{fault_in, Value, value_at, Values, places_at, grammar_values, input_values, check_values, job_values}
use Rattle.answer.proofs.Lines.{numbers, distinct, given, unapplied}
use Rattle.answer.specs.Answer.{GrammarTree, of_job, input_lines, reading_lines}
use Rattle.answer.specs.Demands.{Admitted}
use Rattle.answer.proofs.Agree.{tree-complete, one-grammar, one-record}

-- 1. Where each note says one place, a number has one.
abbrev pub Single : List Note → Type 0
Single [] = Unit {0}
Single (x ∷ xs) = ((p q : ℕ) → x.Says p → x.Says q → p ≡ q) × Single xs

one-noted : (xs : List Note) → Single xs → (n p q : ℕ) → Noted xs n p → Noted xs n q → p ≡ q
one-noted [] s n p q a b = a ∙ sym b
one-noted (x ∷ xs) s n p q (inl a) (inl b) = s.0 p q a.1 b.1
one-noted (x ∷ xs) s n p q (inl a) (inr b) = absurd (b.0 a.0)
one-noted (x ∷ xs) s n p q (inr a) (inl b) = absurd (a.0 b.0)
one-noted (x ∷ xs) s n p q (inr a) (inr b) = one-noted xs s.1 n p q a.1 b.1

pub record Sole (x : Notes) : Type 0 where
  pub bytes : Single x.bytes
  pub faults : Single x.faults
  pub grammars : Single x.grammars

pub one_placed : (x : Notes) → Sole x → (n : ℕ) (p q : Places) → Placed x n p → Placed x n q → p ≡ q
one_placed x s n p q a b =
    let e = one-noted x.bytes s.bytes n p.byte q.byte a.byte b.byte in
    let f = one-noted x.faults s.faults n p.fault q.fault a.fault b.fault in
    let g = one-noted x.grammars s.grammars n p.grammar q.grammar a.grammar b.grammar in
    λ ι. record { byte = e ι; fault = f ι; grammar = g ι }

-- 2. Values that are as the notes say, each where its number is given.
abbrev pub Kept : ℕ → List Note → List Value → Type 0
Kept n [] [] = Unit {0}
Kept n [] (v ∷ vs) = ⊥
Kept n (x ∷ xs) [] = ⊥
Kept n (x ∷ xs) (v ∷ vs) = (v.number ≡ x.number) × (n ≡ x.number → x.Says (v.value tt)) × Kept n xs vs

kept-noted : (n : ℕ) (xs : List Note) (vs : List Value) → Kept n xs vs → Noted xs n (value_at vs n)
kept-noted n [] [] k = refl
kept-noted n [] (v ∷ vs) k = absurd k
kept-noted n (x ∷ xs) [] k = absurd k
kept-noted n (x ∷ xs) (v ∷ vs) k = go (eqb n v.number) refl (kept-noted n xs vs k.2)
  where
    go : (b : Bool) → eqb n v.number ≡ b → Noted xs n (value_at vs n) → Noted (x ∷ xs) n (elim b as (λ _. ℕ) [ true ↦ v.value tt | false ↦ value_at vs n ])
    go true e w = let q : n ≡ x.number = eqb-true n v.number e ∙ k.0 in inl (q, k.1 q)
    go false e w = inr (λ q. eqb-false n v.number e (q ∙ sym k.0), w)

-- the values of other numbers
pub value-skip : (v : Value) (vs : List Value) (n : ℕ) → (n ≡ v.number → ⊥) → value_at (v ∷ vs) n ≡ value_at vs n
value-skip v vs n h = go (eqb n v.number) refl
  where
    go : (b : Bool) → eqb n v.number ≡ b → ◌≡◌ {A = ℕ} (elim b as (λ _. ℕ) [ true ↦ v.value tt | false ↦ value_at vs n ]) (value_at vs n)
    go true e = absurd (h (eqb-true n v.number e))
    go false e = refl

pub record Keeps (n : ℕ) (x : Notes) (v : Values) : Type 0 where
  pub bytes : Kept n x.bytes v.bytes
  pub faults : Kept n x.faults v.faults
  pub grammars : Kept n x.grammars v.grammars

pub keeps_placed : (n : ℕ) (x : Notes) (v : Values) → Keeps n x v → Placed x n (places_at v n)
keeps_placed n x v k = record {
  byte = kept-noted n x.bytes v.bytes k.bytes;
  fault = kept-noted n x.faults v.faults k.faults;
  grammar = kept-noted n x.grammars v.grammars k.grammars;
}

-- 3. The bytes of a grammar and of a record.
broken : (bs : List ℕ) (from : ℕ) → ((cs : Text) → Utf8 (drop from bs) cs → ⊥) → Breaks every bs from (break_of every bs from)
broken bs from h = break-there every bs from (λ w. h w.chars (record { scalars = scalars w.fits; spelt = w.spelt }))

outside : (bs : List ℕ) (from : ℕ) (cs : Text) → ((ds : Text) → Utf8 (drop from bs) ds → ds ≡ cs) → T (not (all known cs)) → Breaks known bs from (break_of known bs from)
outside bs from cs one h =
    break-there known bs from (λ w.
    let e = one w.chars (record { scalars = scalars w.fits; spelt = w.spelt }) in
    no-not (all known cs) h (ap (all known) (sym e) ∙ passing w.fits))
  where
    no-not : (b : Bool) → T (not b) → b ≡ true → ⊥
    no-not true t e = t
    no-not false t e = subst T (sym e) tt

-- 4. The place in a grammar.
one-text : (bs : List ℕ) (cs ds : Text) → GrammarText bs cs → GrammarText bs ds → cs ≡ ds
one-text bs cs ds x y = x.2 ∙ ap unmarked (utf8-unique bs x.0 y.0 x.1 y.1) ∙ sym y.2

one_in : (bs : List ℕ) (k p q : ℕ) → (place_note bs k).Says p → (place_note bs k).Says q → p ≡ q
one_in bs k p q x y = one_place k y.0 p q (subst (λ (cs : Text). Place k cs p) (one-text bs x.0 y.0 x.1 y.1) x.2) y.2

single-places : (bs : List ℕ) → Single (place_notes bs)
single-places bs = (one_in bs 5, (one_in bs 6, (one_in bs 7, (one_in bs 8, (one_in bs 9, (one_in bs 10, tt))))))

-- where the refusal applies, the computed place is it
place_at : (bs : List ℕ) (k : ℕ) (P : Grammar → Bool) → ((t : Text) (g : Grammar) → Ixml t g → T (P g) → (p : ℕ) × Place k t p)
    → of_tree bs (λ g. T (P g)) → (place_note bs k).Says (place_in (decode bs) k)
place_at bs k P there x =
    let cs = x.1.0 in
    let t = x.1.1 in
    let w = there cs x.0 x.1.2 x.2 in
    let e : place_in (decode bs) k ≡ w.0 =
    ap (λ (d : Decoded). place_in d k) (decode-complete bs t.0 t.1) ∙ ap (place_of k) (sym t.2) ∙ sym (place_is k cs w.0 w.1) in
    (cs, t, subst (Place k cs) (sym e) w.1)

pub place-value : (bs : List ℕ) (n : ℕ) → 5 ≤ n → n ≤ 10 → value_at (place_values bs) n ≡ place_in (decode bs) n
place-value bs n l h = by-rule (λ k. value_at (place_values bs) k ≡ place_in (decode bs) k) refl refl refl refl refl refl n l h

-- other numbers have none
pub placeless : (bs : List ℕ) (n : ℕ) → (n < 5) ⊎ (10 < n) → value_at (place_values bs) n ≡ 0
placeless bs n h = skip (5 ∷ 6 ∷ 7 ∷ 8 ∷ 9 ∷ 10 ∷ []) tt
  where
    values : List ℕ → List Value
    values [] = []
    values (k ∷ ks) = place_value bs k ∷ values ks

    skip : (ks : List ℕ) → T (all (λ k. leb 5 k && leb k 10) ks) → value_at (values ks) n ≡ 0
    skip [] l = refl
    skip (k ∷ ks) l =
        let c = and_left (leb 5 k && leb k 10) (all (λ k. leb 5 k && leb k 10) ks) l in
        let a = leb→le 5 k (and_left (leb 5 k) (leb k 10) c) in
        let b = leb→le k 10 (and_right (leb 5 k) (leb k 10) c) in
        value-skip (place_value bs k) (values ks) n (λ e. ⊎_elim (λ l. omega arith) (λ l. omega arith) h)
        ∙ skip ks (and_right (leb 5 k && leb k 10) (all (λ k. leb 5 k && leb k 10) ks) l)

pub none_kept : (bs : List ℕ) (n : ℕ) → (n < 5) ⊎ (10 < n) → Kept n (place_notes bs) (place_values bs)
none_kept bs n h = (refl, out 5 tt, (refl, out 6 tt, (refl, out 7 tt, (refl, out 8 tt, (refl, out 9 tt, (refl, out 10 tt, tt))))))
  where
    out : (k : ℕ) {A : Type 0} → T (leb 5 k && leb k 10) → n ≡ k → A
    out k c e =
        let a = leb→le 5 k (and_left (leb 5 k) (leb k 10) c) in
        let b = leb→le k 10 (and_right (leb 5 k) (leb k 10) c) in
        absurd (⊎_elim (λ l. omega arith) (λ l. omega arith) h)

-- 5. The place of the fault in a record.
-- the computed place is that of the job's grammar and record
pub fault-in : (j : Job) (g : Grammar) (r : Text) → GrammarTree j.grammar g → Utf8 j.input r → fault_in j ≡ fault_of g r
fault-in j g r x y = rw (tree-complete j.grammar g x, decode-complete j.input r y)

-- where none of 1 to 15 applies, nor 24, the grammar's rules have texts, and the record's characters are known
pub admitted-fault : (j : Job) → Admitted j → {g : Grammar} {r : Text} → GrammarTree j.grammar g × Utf8 j.input r → FaultAt g r (fault_of g r)
admitted-fault j u {g} {r} x =
    let lively = u.1.1.1.1.1.1.1.1.1.1.1.0 in
    let spelt = u.1.1.1.1.1.1.1.1.1.1.1.1.1.0 in
    let held : T (all known r) = ⊎_elim (λ q. is_t q) (λ q. absurd (spelt (r, x.1, rw q tt))) (look (all known r)) in
    fault-of g r held (root-produces g (T_false (unproductive g) (λ q. lively (g, x.0, (unproductive-is g).0 q))))

-- 6. The notes of the calls.
module _ (bs : List ℕ) (ls : List Line) (d : T (distinct (numbers (grammar_lines bs ls)))) (n : ℕ) (t : Topmost (grammar_lines bs ls) n) where
  at-2 : n ≡ 2 → Breaks every bs (after_mark bs) (break_of every bs (after_mark bs))
  at-2 e =
      let none = given (grammar_lines bs ls) 2 d (λ z. omega arith) (subst (Topmost (grammar_lines bs ls)) e t) in
      broken bs (after_mark bs) (λ cs u. let w = marked-text bs cs u in none (w.0, w.1))

  at-3 : n ≡ 3 → Breaks known bs (after_mark bs) (break_of known bs (after_mark bs))
  at-3 e =
      let x = given (grammar_lines bs ls) 3 d (λ z. omega arith) (subst (Topmost (grammar_lines bs ls)) e t) in
      outside bs (after_mark bs) x.0
      (λ cs u. let w = marked-text bs cs u in w.2 ∙ ap unmarked (utf8-unique bs w.0 x.1.0 w.1 x.1.1) ∙ sym x.1.2) x.2

  placed_at : (k : ℕ) (P : Grammar → Bool) → ((t : Text) (g : Grammar) → Ixml t g → T (P g) → (p : ℕ) × Place k t p)
      → (Topmost (grammar_lines bs ls) k → of_tree bs (λ g. T (P g))) → n ≡ k → (place_note bs k).Says (place_in (decode bs) k)
  placed_at k P there one e = place_at bs k P there (one (subst (Topmost (grammar_lines bs ls)) e t))

  kept-places : Kept n (place_notes bs) (place_values bs)
  kept-places = (
    refl,
    placed_at 5 undefined place-5 (given (grammar_lines bs ls) 5 d (λ z. omega arith)),
    (
      refl,
      placed_at 6 duplicate place-6 (given (grammar_lines bs ls) 6 d (λ z. omega arith)),
      (
        refl,
        placed_at 7 beyond place-7 (given (grammar_lines bs ls) 7 d (λ z. omega arith)),
        (
          refl,
          placed_at 8 banned place-8 (given (grammar_lines bs ls) 8 d (λ z. omega arith)),
          (
            refl,
            placed_at 9 backwards place-9 (given (grammar_lines bs ls) 9 d (λ z. omega arith)),
            (refl, placed_at 10 unclassed place-10 (given (grammar_lines bs ls) 10 d (λ z. omega arith)), tt),
          ),
        ),
      ),
    ),
  )

  kept-grammar : (xs : List Note) (vs : List Value) → Kept n xs vs → Kept n (grammar_notes bs xs) (grammar_values bs vs)
  kept-grammar xs vs k = (refl, at-2, (refl, at-3, k))

pub keeps-check : (bs : List ℕ) (n : ℕ) → Topmost (grammar_lines bs []) n → Keeps n (check_notes bs) (check_values bs)
keeps-check bs n t = record { bytes = kept-grammar bs [] tt n t [] [] tt; faults = tt; grammars = kept-places bs [] tt n t }

module _ (need : Need) (j : Job) (ls : List Line) (d : T (distinct (numbers (grammar_lines j.grammar (need_lines need j ls))))) (n : ℕ)
    (t : Topmost (grammar_lines j.grammar (need_lines need j ls)) n) where
  at-12 : n ≡ 12 → Breaks every j.input 0 (break_of every j.input 0)
  at-12 e =
      let none = given (grammar_lines j.grammar (need_lines need j ls)) 12 d (λ z. omega arith) (subst (Topmost (grammar_lines j.grammar (need_lines need j ls))) e t) in
      broken j.input 0 (λ cs u. none (cs, u))

  at-13 : n ≡ 13 → Breaks known j.input 0 (break_of known j.input 0)
  at-13 e =
      let x = given (grammar_lines j.grammar (need_lines need j ls)) 13 d (λ z. omega arith) (subst (Topmost (grammar_lines j.grammar (need_lines need j ls))) e t) in
      outside j.input 0 x.0 (λ cs u. utf8-unique j.input cs x.0 u x.1) x.2

  pub keeps-job : (n ≡ 16 → of_job j (λ g r. FaultAt g r (fault_in j))) → Keeps n (job_notes j) (job_values j)
  keeps-job fault = record {
    bytes = kept-grammar j.grammar (need_lines need j ls) d n t (input_notes j.input []) (input_values j.input []) (refl, at-12, (refl, at-13, tt));
    faults = (refl, fault, tt);
    grammars = kept-places j.grammar (need_lines need j ls) d n t;
  }

-- with 16 the grammar and the record are there, and what is computed is the place of their fault
pub reading-fault : (j : Job) (ls : List Line) → T (distinct (numbers (grammar_lines j.grammar (record_lines j ls)))) → (n : ℕ)
    → Topmost (grammar_lines j.grammar (record_lines j ls)) n → n ≡ 16 → of_job j (λ g r. FaultAt g r (fault_in j))
reading-fault j ls d n t e =
    let s = subst (Topmost (grammar_lines j.grammar (record_lines j ls))) e t in
    let x = given (grammar_lines j.grammar (record_lines j ls)) 16 d (λ z. omega arith) s in
    let u = unapplied (grammar_lines j.grammar (input_lines j [])) (reading_lines j ls) 16 tt s in
    (x.0, x.1, x.2, subst (FaultAt x.0 x.1) (sym (fault-in j x.0 x.1 x.2.0 x.2.1)) (admitted-fault j u x.2))

-- a job has one place of the fault
pub one-fault : (j : Job) (p q : ℕ) → of_job j (λ g r. FaultAt g r p) → of_job j (λ g r. FaultAt g r q) → p ≡ q
one-fault j p q x y =
    let e = one-grammar j x.2.0 y.2.0 in
    let f = one-record j x.2.1 y.2.1 in
    fault-unique p q (subst (λ (r : Text). FaultAt y.0 r p) f (subst (λ (g : Grammar). FaultAt g x.1 p) e x.3)) y.3

pub sole-check : (bs : List ℕ) → Sole (check_notes bs)
sole-check bs = record { bytes = (one-break every bs (after_mark bs), (one-break known bs (after_mark bs), tt)); faults = tt; grammars = single-places bs }

pub sole-job : (j : Job) → Sole (job_notes j)
sole-job j = record {
  bytes = (
    one-break every j.grammar (after_mark j.grammar),
    (
      one-break known j.grammar (after_mark j.grammar),
      (one-break every j.input 0, (one-break known j.input 0, tt)),
    ),
  );
  faults = (one-fault j, tt);
  grammars = single-places j.grammar;
}
