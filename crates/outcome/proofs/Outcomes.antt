-- What a call comes to, by the stage that ends it.
use mathlib.Core.Bool.{Bool, false, ◌&&◌}
use mathlib.Core.Path.{◌≡◌, sym, ap, ◌∙◌}
use mathlib.Core.List.{List, [], ◌∷◌, ◌++◌}
use Prim.Native.Nat.{ℕ, ◌≤◌, ◌<◌}
use lib.Dec.{ltb, eqb}
use native.Mathlib.Omega.{arith}
use lib.ListN.{length, drop, length-take}
use borrow.Author.Tests.{ne_eqb, lt-ltb, le-ltb}
use Rattle.answer.specs.Answer.{Job, Shown}
use Rattle.answer.specs.Compute.{Values, places_at, job_values, Test, first_of, mismatch, Result, Outcome, outcome, result_of, result_by, long_test, call_of}
use Rattle.job.specs.declared.LeftParse.{LeftParse}
use Rattle.exported.specs.declared.Refusal.{Refusal}
use Rattle.load.specs.Loaded.{places_of}
use Rattle.exported.specs.Exported.{shown, done}
use Rattle.job.specs.Found.{first_test}
use Rattle.job.specs.Parses.{IsChosen}

-- a refusal, and an answer
abbrev pub refusing : List ℕ → Refusal → Outcome
refusing old r = record {
  answer = record { number = r.why.number; length = 0; ambiguous = false; version = eqb r.why.number 16 && r.mismatch; places = places_of r.why.places };
  buffer = old;
}

abbrev pub answering : List ℕ → Bool → Result → Outcome
answering old m x = record {
  answer = record { number = 0; length = length x.cells; ambiguous = x.ambiguous; version = m; places = record { byte = 0; fault = 0; grammar = 0 } };
  buffer = x.cells ++ drop (length x.cells) old;
}

-- the fields of an answer, as a call has them
pub done-is : (old new bs : List ℕ) (v amb mark : Bool) (count : ℕ) → new ≡ bs ++ drop (length bs) old → count ≡ length bs → mark ≡ amb
    → answering old v (record { cells = bs; ambiguous = amb }) ≡ record { answer = shown (done count mark v); buffer = new }
done-is old new bs v amb mark count e f g = rw (e, f, g)

pub refused-outcome : (old : List ℕ) (m : Bool) (vs : Values) (r : Refusal) (x : Result) → (r.why.number ≡ 0 → ⊥)
    → (eqb r.why.number 16 && r.mismatch) ≡ (eqb r.why.number 16 && m) → places_of r.why.places ≡ places_at vs r.why.number
    → outcome old m vs r.why.number x ≡ refusing old r
refused-outcome old m vs r x z v p =
    let n = r.why.number in
    rw (ne_eqb n 0 z, outcome, v)
    (λ ι. record { answer = record { number = n; length = 0; ambiguous = false; version = eqb n 16 && m; places = sym p ι }; buffer = old })

module _ (j : Job) (old : List ℕ) (F : Shown) (ts : List Test) where
  -- the tests end with a refusal
  pub call-refused : (r : Refusal) → first_test j ts ≡ r.why.number → (r.why.number ≡ 0 → ⊥)
      → (eqb r.why.number 16 && r.mismatch) ≡ (eqb r.why.number 16 && mismatch j.grammar)
      → places_of r.why.places ≡ places_at (job_values j) r.why.number → call_of ts F j old ≡ refusing old r
  call-refused r e z v p =
      ap (λ (k : ℕ). outcome old (mismatch j.grammar) (job_values j) k (result_of j (result_by F))) e
      ∙ refused-outcome old (mismatch j.grammar) (job_values j) r (result_of j (result_by F)) z v p

  pub call-answered : (m : Bool) (x : Result) → first_test j ts ≡ 0 → m ≡ mismatch j.grammar → result_of j (result_by F) ≡ x → call_of ts F j old ≡ answering old m x
  call-answered m x e q f =
      ap (λ (k : ℕ). outcome old (mismatch j.grammar) (job_values j) k (result_of j (result_by F))) e
      ∙ ap (answering old (mismatch j.grammar)) f
      ∙ ap (λ (b : Bool). answering old b x) (sym q)

module _ (j : Job) (T new P : List ℕ) (f : LeftParse) (y : IsChosen j T new P f) where
  -- its numbers stand in `P`
  pub numbers-in : f.count ≤ length P
  numbers-in = omega (arith, length-take f.count P, ap length y.list, y.count)

module _ (j : Job) (T new P : List ℕ) (f : LeftParse) (y : IsChosen j T new P f) (F : Shown) where
  -- the numbers or bytes of the chosen derivation
  abbrev pub cells : List ℕ
  cells = (result_by F y.tree y.input.chars y.row).cells

  pub result-is : result_of j (result_by F) ≡ result_by F y.tree y.input.chars y.row
  result-is = rw (y.is, y.input.decoded, y.choice)

  long-is : (old : List ℕ) → (long_test F j old).passes tt ≡ ltb (length old) (length cells)
  long-is old = rw (y.is, y.input.decoded, y.choice)

  pub too_long : (old : List ℕ) → length old < length cells → first_of (long_test F j old ∷ []) ≡ 23
  too_long old l = rw (long-is old, lt-ltb (length old) (length cells) l)

  pub fitting : (old : List ℕ) → length cells ≤ length old → first_of (long_test F j old ∷ []) ≡ 0
  fitting old l = rw (long-is old, le-ltb (length old) (length cells) l)
