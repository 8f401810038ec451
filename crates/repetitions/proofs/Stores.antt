-- Stores into a table.
use mathlib.Core.List.{List, [], ◌∷◌, ◌++◌}
use mathlib.Core.Path.{◌≡◌, refl, sym, ap, ◌∙◌}
use Prim.Native.Nat.{ℕ, suc, ◌+◌, ◌*◌, ◌<◌, ◌≤◌}
use native.Mathlib.Nat.{add-suc, suc-add, add-zero}
use native.Mathlib.Omega.{arith}
use lib.ListN.{length, get_or, take, drop, set}
use lib.Seq.{sets, set-get_or, get_or-set_other, take-set-le, drop-set-lt, drop-set-add}
use Rattle.repetitions.specs.Blocks.{entry, entry_at, laid}

module _ (T : List ℕ) (i : ℕ) where
  pub get_or-sets-out : (xs : List ℕ) (j : ℕ) → i + length xs ≤ j → get_or (sets T i xs) j 0 ≡ get_or T j 0
  get_or-sets-out xs j h = out xs T i h
    where
      out : (xs T : List ℕ) (i : ℕ) → i + length xs ≤ j → get_or (sets T i xs) j 0 ≡ get_or T j 0
      out [] T i h = refl
      out (x ∷ xs) T i h = out xs (set T i x) (suc i) (omega arith) ∙ get_or-set_other T i j x 0 (λ e. omega arith)

pub get_d_sets_before : (xs T : List ℕ) (i j : ℕ) → j < i → get_or (sets T i xs) j 0 ≡ get_or T j 0
get_d_sets_before [] T i j h = refl
get_d_sets_before (x ∷ xs) T i j h = get_d_sets_before xs (set T i x) (suc i) j (omega arith) ∙ get_or-set_other T i j x 0 (λ e. omega arith)

pub take-sets : (xs T : List ℕ) (n i : ℕ) → n ≤ i → take n (sets T i xs) ≡ take n T
take-sets [] T n i h = refl
take-sets (x ∷ xs) T n i h = take-sets xs (set T i x) n (suc i) (omega arith) ∙ take-set-le n T i x h

pub drop-sets : (xs T : List ℕ) (n i : ℕ) → i + length xs ≤ n → drop n (sets T i xs) ≡ drop n T
drop-sets [] T n i h = refl
drop-sets (x ∷ xs) T n i h = drop-sets xs (set T i x) n (suc i) (omega arith) ∙ drop-set-lt n T i x (omega arith)

pub drop-sets-add : (xs T : List ℕ) (n i : ℕ) → drop n (sets T (n + i) xs) ≡ sets (drop n T) i xs
drop-sets-add [] T n i = refl
drop-sets-add (x ∷ xs) T n i = ap (λ (k : ℕ). drop n (sets (set T (n + i) x) k xs)) (sym (add-suc n i))
    ∙ drop-sets-add xs (set T (n + i) x) n (suc i) ∙ ap (λ (l : List ℕ). sets l (suc i) xs) (drop-set-add n T i x)

pub sets_then : (xs ys T : List ℕ) (i : ℕ) → sets (sets T i xs) (i + length xs) ys ≡ sets T i (xs ++ ys)
sets_then [] ys T i = ap (λ (k : ℕ). sets T k ys) (add-zero i)
sets_then (x ∷ xs) ys T i = ap (λ (k : ℕ). sets (sets (set T i x) (suc i) xs) k ys) (add-suc i (length xs) ∙ sym (suc-add i (length xs))) ∙ sets_then xs ys (set T i x) (suc i)

-- one block of items after another
pub laid_then : (T : List ℕ) {T₁ T₂ : List ℕ} (i j : ℕ) (xs ys : List ℕ) → T₁ ≡ laid T i xs → 3 * j ≡ 3 * i + length xs → T₂ ≡ laid T₁ j ys
    → T₂ ≡ laid T i (xs ++ ys)
laid_then T i j xs ys p e q =
    q ∙ ap (λ (l : List ℕ). laid l j ys) p ∙ ap (λ (k : ℕ). sets (laid T i xs) k ys)
    (let z : 12288 + 3 * j ≡ 12288 + 3 * i + length xs = omega arith in z) ∙ sets_then xs ys T (12288 + 3 * i)

-- an entry above what was stored
pub entry_kept : (T : List ℕ) {T₁ : List ℕ} (i : ℕ) (xs : List ℕ) (from : ℕ) → T₁ ≡ laid T i xs → 12288 + 3 * i + length xs ≤ from → entry_at T₁ from ≡ entry_at T from
entry_kept T i xs from p h =
    ap (λ (l : List ℕ). entry_at l from) p
    ∙ entries (get_or-sets-out T (12288 + 3 * i) xs from h) (get_or-sets-out T (12288 + 3 * i) xs (from + 1) (omega arith)) (get_or-sets-out T (12288 + 3 * i) xs (from + 2) (omega arith))
  where
    entries : {a b c a' b' c' : ℕ} → a ≡ a' → b ≡ b' → c ≡ c' → entry a b c ≡ entry a' b' c'
    entries p q r = λ i. entry (p i) (q i) (r i)

-- two numbers stored, and the third as it was
pub renewed : (T : List ℕ) (at a b : ℕ) → set (set T at a) (at + 1) b ≡ sets T at (a ∷ b ∷ get_or T (at + 2) 0 ∷ [])
renewed T at a b =
    let U = set (set T at a) (suc at) b in
    let e : get_or T (at + 2) 0 ≡ get_or U (suc (suc at)) 0 =
    ap (λ (k : ℕ). get_or T k 0) (two at) ∙ sym (get_or-set_other (set T at a) (suc at) (suc (suc at)) b 0 (λ e. omega arith) ∙ get_or-set_other T at (suc (suc at)) a 0 (λ e. omega arith)) in
    ap (λ (k : ℕ). set (set T at a) k b) (one at) ∙ sym (ap (set U (suc (suc at))) e ∙ set-get_or U (suc (suc at)) 0)
  where
    one : (n : ℕ) → n + 1 ≡ suc n
    one n = omega arith

    two : (n : ℕ) → n + 2 ≡ suc (suc n)
    two n = omega arith
