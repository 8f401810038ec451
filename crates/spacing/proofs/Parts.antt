-- How an answer for a part gives an answer for the whole.
use mathlib.Core.Path.{◌≡◌, sym, ◌∙◌}
use mathlib.Core.List.{List, [], ◌++◌, append_assoc, append-nil}
use Prim.Native.Nat.{ℕ, ◌+◌, ◌*◌, ◌≤◌}
use native.Mathlib.Omega.{arith}
use lib.ListN.{drop, take}
use Rattle.text.specs.Lists.{Text}
use Rattle.syntax.specs.Result.{Result, ok, fail, map, then}
use Rattle.syntax.specs.Spacing.{spaced}
use Rattle.std.specs.Prelude.{Some, None}
use Rattle.spacing.specs.Answers.{Step, Step-in, Spaced, After}

-- after numbers xs that are written, for the characters from p to n, an answer for the rest is an answer for the whole
pub tail : {B C : Type 0} (E : Result B → Type 0) (F : Result C → Type 0) (code_b : B → List ℕ) (code_c : C → List ℕ) (g : B → C) (xs : List ℕ)
    (s : Text) (p lo n low : ℕ) (o : List ℕ) (at : ℕ) (m : List ℕ) (j : ℕ)
    → take j m ≡ take at o ++ xs → j + 3 * p ≤ at + 3 * n → lo ≤ low → ((v : B) → code_c (g v) ≡ xs ++ code_b v) → ((x : Result B) → E x → F (map g x))
    → (r : Step) (o' : List ℕ) → After E code_b s n low m j r o' → After F code_c s p lo o at r o'
unfolding map
tail E F code_b code_c g xs s p lo n low o at m j w h l e f (Some (x, y)) o' a = let k = a.onward in let c = a.cells in record {
  value = g a.value;
  same = f (ok a.value (drop x.0 s)) a.same;
  onward = record { on = omega arith; within = k.within };
  wrote = a.wrote ∙ rw (w, e a.value) (append_assoc (take at o) xs (code_b a.value));
  cells = omega arith;
}
tail E F code_b code_c g xs s p lo n low o at m j w h l e f None o' a = f fail a

-- the same where nothing is written before
pub as-part : {B C : Type 0} (E : Result B → Type 0) (F : Result C → Type 0) (code_b : B → List ℕ) (code_c : C → List ℕ) (g : B → C)
    (s : Text) (p lo n low : ℕ) (o : List ℕ) (at : ℕ)
    → p ≤ n → lo ≤ low → ((v : B) → code_c (g v) ≡ code_b v) → ((x : Result B) → E x → F (map g x))
    → (r : Step) (o' : List ℕ) → After E code_b s n low o at r o' → After F code_c s p lo o at r o'
as-part E F code_b code_c g s p lo n low o at h l e f = tail E F code_b code_c g [] s p lo n low o at o at (sym (append-nil (take at o))) (omega arith) l e f

-- spacing after what is read
pub spaced-after : {A : Type 0} (E F : Result A → Type 0) (code : A → List ℕ) (s : Text) (p lo : ℕ) (o : List ℕ) (at : ℕ)
    → ((x : Result A) → E x → F (then x (λ v u. spaced v u)))
    → (r : Step) (o' : List ℕ) (r' : Step) → After E code s p lo o at r o' → Spaced s r r' → After F code s p lo o at r' o'
unfolding then spaced map
spaced-after E F code s p lo o at f (Some (q, b)) o' (Some (w, e)) a k = let i = a.onward in let j = k.skipped.onward in let c = a.cells in let d = k.cell in record {
  value = a.value;
  same = rw k.skipped.past at (f (ok a.value (drop q.0 s)) a.same);
  onward = record { on = omega arith; within = j.within };
  wrote = rw k.cell a.wrote;
  cells = omega arith;
}
spaced-after E F code s p lo o at f (Some (q, b)) o' None a k = rw k at (f (ok a.value (drop q.0 s)) a.same)
spaced-after E F code s p lo o at f None o' (Some (w, e)) a k = absurd k
spaced-after E F code s p lo o at f None o' None a k = f fail a

-- the step's place is in the text
pub step_in : {A : Type 0} (E : Result A → Type 0) (code : A → List ℕ) (s : Text) (p lo : ℕ) (o : List ℕ) (at : ℕ) (r : Step) (o' : List ℕ)
    → After E code s p lo o at r o' → Step-in s r
step_in E code s p lo o at (Some (q, b)) o' a = a.onward.within
step_in E code s p lo o at None o' a = tt
