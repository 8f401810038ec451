-- What the table holds up to a cell, after numbers are stored.
use mathlib.Core.Path.{◌≡◌, ap, ◌∙◌}
use mathlib.Core.List.{List, [], ◌∷◌, ◌++◌, append_assoc}
use Prim.Native.Nat.{ℕ, ◌+◌, ◌-◌, ◌<◌, ◌≤◌}
use native.Mathlib.Numerals.{add-one}
use native.Mathlib.Omega.{arith}
use lib.ListN.{length, get_or, take, set, length-set}
use lib.Seq.{take-suc, take-suc-set, take-set-lt, set_comm, set_at, length-take-le}
use Rattle.spacing.specs.Answers.{headed, three}

-- one number more after what is written
pub one_more : (o m : List ℕ) (at j c : ℕ) (cs : List ℕ) → j < length m → take j m ≡ take at o ++ cs → take (j + 1) (set m j c) ≡ take at o ++ (cs ++ c ∷ [])
one_more o m at j c cs h e = rw (add-one, take-suc-set m j c h, e) (append_assoc (take at o) cs (c ∷ []))

pub one_number : (o : List ℕ) (at c : ℕ) → at < length o → take (at + 1) (set o at c) ≡ take at o ++ c ∷ []
one_number o at c h = rw add-one (take-suc-set o at c h)

pub two-numbers : (o : List ℕ) (at a b : ℕ) → at + 2 ≤ length o → take (at + 2) (set (set o at a) (at + 1) b) ≡ take at o ++ a ∷ b ∷ []
two-numbers o at a b h =
    let k : at + 2 ≡ at + 1 + 1 = omega arith in
    rw k (one_more o (set o at a) at (at + 1) b (a ∷ []) (simp length-set (omega arith)) (one_number o at a (omega arith)))

pub three-numbers : (o : List ℕ) (at a b c : ℕ) → at + 3 ≤ length o → take (at + 3) (three o at a b c) ≡ take at o ++ a ∷ b ∷ c ∷ []
three-numbers o at a b c h =
    let k : at + 3 ≡ at + 2 + 1 = omega arith in
    rw k (one_more o (set (set o at a) (at + 1) b) at (at + 2) c (a ∷ b ∷ []) (simp length-set (omega arith)) (two-numbers o at a b (omega arith)))

-- a number before what is written
put_in : (o cs : List ℕ) (at k : ℕ) → at < length o → set (take (at + 1) o ++ cs) at k ≡ take at o ++ k ∷ cs
put_in o cs at k h =
    rw (add-one, take-suc o at 0 h, append_assoc (take at o) (get_or o at 0 ∷ []) cs) (set_at (take at o) (get_or o at 0) cs k at (length-take-le at o (omega arith)))

pub put-before : (o m cs : List ℕ) (at b k : ℕ) → at < length o → at < b → take b m ≡ take (at + 1) o ++ cs → take b (set m at k) ≡ take at o ++ k ∷ cs
put-before o m cs at b k h l e = take-set-lt b m at k l ∙ rw e (put_in o cs at k h)

pub two-before : (o m cs : List ℕ) (at b k l : ℕ) → at + 2 ≤ length o → at + 2 ≤ b → take b m ≡ take (at + 2) o ++ cs
    → take b (set (set m at k) (at + 1) l) ≡ take at o ++ k ∷ l ∷ cs
two-before o m cs at b k l h i e =
    let j : at + 2 ≡ at + 1 + 1 = omega arith in
    ap (take b) (set_comm m at (at + 1) k l (λ z. omega arith))
    ∙ put-before o (set m (at + 1) l) (l ∷ cs) at b k (omega arith) (omega arith)
    (put-before o m cs (at + 1) b l (omega arith) (omega arith) (e ∙ ap (λ (n : ℕ). take n o ++ cs) j))

pub head-before : (o m cs : List ℕ) (at b k : ℕ) → at + 2 ≤ length o → at + 2 ≤ b → take b m ≡ take (at + 2) o ++ cs
    → take b (headed m at k b) ≡ take at o ++ k ∷ (b - (at + 2)) ∷ cs
head-before o m cs at b k = two-before o m cs at b k (b - (at + 2))
