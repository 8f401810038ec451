-- From an accepted grammar to the answer of checking.
use mathlib.Core.Bool.{Bool, false}
use mathlib.Core.Path.{◌≡◌, sym, subst, ap, ◌∙◌}
use mathlib.Core.Logic.{⊎_elim}
use mathlib.Core.List.{List, []}
use Prim.Native.Nat.{ℕ}
use native.Mathlib.Omega.{arith}
use lib.Dec.{eqb}
use borrow.Author.Tests.{ne_eqb}
use Rattle.text.specs.declared.Diagnostic.{Diagnostic}
use Rattle.answer.specs.Answer.{Checks}
use Rattle.answer.specs.Compute.{Values, places_at, check_values, mismatch, result, outcome, check_of}
use Rattle.answer.proofs.Settled.{check-answers}
use Rattle.load.specs.Loaded.{Turned, places_of}
use Rattle.accept.specs.declared.Rules.{Rules}
use Rattle.accept.specs.Accepted.{Kept}
use Rattle.exported.specs.declared.Answer.{Answer}
use Rattle.exported.specs.Exported.{shown, done, refusal_of}
use Rattle.outcome.specs.Calls.{Checked}

refused-answer : (m : Bool) (vs : Values) (d : Diagnostic) → eqb d.number 0 ≡ false → eqb d.number 16 ≡ false → places_of d.places ≡ places_at vs d.number
    → (outcome [] m vs d.number (result [] false)).answer ≡ shown (refusal_of (record { why = d; mismatch = false }))
refused-answer m vs d z s p =
    rw (z, s, outcome) (λ ι. record { number = d.number; length = 0; ambiguous = false; version = false; places = sym p ι })

refused-is : (bs : List ℕ) (d : Diagnostic) → Turned bs d → check_of bs ≡ shown (refusal_of (record { why = d; mismatch = false }))
unfolding check_of
refused-is bs d t =
    ap (λ (k : ℕ). (outcome [] (mismatch bs) (check_values bs) k (result [] false)).answer) (t.first [])
    ∙ refused-answer (mismatch bs) (check_values bs) d (ne_eqb d.number 0 t.some) (ne_eqb d.number 16 (λ q. ⊎_elim (λ l. omega arith) (λ l. omega arith) t.early)) t.places

kept-is : (bs T : List ℕ) (p : Rules) → Kept bs T p → check_of bs ≡ shown (done 0 false p.mismatch)
unfolding check_of
kept-is bs T p k =
    ap (λ (n : ℕ). (outcome [] (mismatch bs) (check_values bs) n (result [] false)).answer) (k.first [])
    ∙ ap (λ (v : Bool). shown (done 0 false v)) (sym k.version)

checked : (bs : List ℕ) (a : Answer) → shown a ≡ check_of bs → Checked bs a
checked bs a e = record { computed = e; defines = subst (Checks bs) (sym e) (check-answers bs) }

pub refuses : (bs : List ℕ) (d : Diagnostic) (a : Answer) → Turned bs d → a ≡ refusal_of (record { why = d; mismatch = false }) → Checked bs a
refuses bs d a t z = subst (Checked bs) (sym z) (checked bs (refusal_of (record { why = d; mismatch = false })) (sym (refused-is bs d t)))

pub accepts : (bs T : List ℕ) (p : Rules) (a : Answer) → Kept bs T p → a ≡ done 0 false p.mismatch → Checked bs a
accepts bs T p a k z = subst (Checked bs) (sym z) (checked bs (done 0 false p.mismatch) (sym (kept-is bs T p k)))
