-- The topmost line is one, and the first test that passes finds it.
use mathlib.Core.Bool.{Bool, true, false, not, ◌&&◌}
use mathlib.Core.Path.{◌≡◌, refl, sym, subst, ◌∙◌}
use mathlib.Core.Logic.{◌⊎◌, inl, inr, ◌↔◌}
use mathlib.Core.List.{List, [], ◌∷◌, ◌++◌}
use Prim.Native.Nat.{ℕ}
use lib.Dec.{T, eqb}
use borrow.Author.Tests.{eq-eqb, eqb-true}
use Rattle.text.specs.Lists.{all}
use Rattle.text.proofs.Tests.{is_t, not_t, and_left, and_right}
use Rattle.answer.specs.Answer.{Line, Topmost}
use Rattle.answer.specs.Compute.{Test, first_of}
use Rattle.answer.specs.Demands.{None}

pub one-topmost : (ls : List Line) (m n : ℕ) → Topmost ls m → Topmost ls n → m ≡ n
one-topmost [] m n p q = p ∙ sym q
one-topmost (l ∷ ls) m n (inl p) (inl q) = p.1 ∙ sym q.1
one-topmost (l ∷ ls) m n (inl p) (inr q) = absurd (q.0 p.0)
one-topmost (l ∷ ls) m n (inr p) (inl q) = absurd (p.0 q.0)
one-topmost (l ∷ ls) m n (inr p) (inr q) = one-topmost ls m n p.1 q.1

-- the tests are those of the lines, one by one
abbrev pub Agree : List Line → List Test → Type 0
Agree [] [] = Unit {0}
Agree [] (t ∷ ts) = ⊥
Agree (l ∷ ls) [] = ⊥
Agree (l ∷ ls) (t ∷ ts) = (t.number ≡ l.number) × (T (t.passes tt) ↔ l.Applies) × Agree ls ts

pub first-topmost : (ls : List Line) (ts : List Test) → Agree ls ts → Topmost ls (first_of ts)
first-topmost [] [] a = refl
first-topmost [] (t ∷ ts) a = absurd a
first-topmost (l ∷ ls) [] a = absurd a
first-topmost (l ∷ ls) (t ∷ ts) a = go (t.passes tt) refl (first-topmost ls ts a.2)
  where
    go : (b : Bool) → t.passes tt ≡ b → Topmost ls (first_of ts) → Topmost (l ∷ ls) (elim b as (λ _. ℕ) [ true ↦ t.number | false ↦ first_of ts ])
    go true e w = inl (a.1.0 (is_t e), a.0)
    go false e w = inr (λ x. not_t e (a.1.1 x), w)

abbrev pub numbers : List Line → List ℕ
numbers [] = []
numbers (l ∷ ls) = l.number ∷ numbers ls

-- what holds of 0 and of every line's number holds of the number that is given
pub listed : (p : ℕ → Bool) (ls : List Line) (n : ℕ) → T (p 0) → T (all p (numbers ls)) → Topmost ls n → T (p n)
listed p [] n z h t = subst (λ (m : ℕ). T (p m)) (sym t) z
listed p (l ∷ ls) n z h (inl x) = subst (λ (m : ℕ). T (p m)) (sym x.1) (and_left (p l.number) (all p (numbers ls)) h)
listed p (l ∷ ls) n z h (inr x) = listed p ls n z (and_right (p l.number) (all p (numbers ls)) h) x.1

not-not : (b : Bool) → T (not b) → T b → ⊥
not-not true h t = h
not-not false h t = t

-- a number other than k
abbrev pub other : ℕ → ℕ → Bool
other k m = not (eqb m k)

-- the first line's number is given exactly when the line applies
pub head-given : (l : Line) (ls : List Line) (n : ℕ) → T (other l.number 0) → T (all (other l.number) (numbers ls)) → Topmost (l ∷ ls) n → (n ≡ l.number) ↔ l.Applies
head-given l ls n z h (inl x) = (λ e. x.0, λ a. x.1)
head-given l ls n z h (inr x) =
    (λ e. absurd (not-not (eqb n l.number) (listed (other l.number) ls n z h x.1) (is_t (eq-eqb n l.number e))), λ a. absurd (x.0 a))

-- 0 is given exactly when no line applies
pub none-given : (ls : List Line) (n : ℕ) → T (all (other 0) (numbers ls)) → Topmost ls n → (n ≡ 0) ↔ None ls
none-given [] n h t = (λ e. tt, λ u. t)
none-given (l ∷ ls) n h (inl x) =
    let k = and_left (other 0 l.number) (all (other 0) (numbers ls)) h in
    (λ e. absurd (not-not (eqb l.number 0) k (is_t (eq-eqb l.number 0 (sym x.1 ∙ e)))), λ u. absurd (u.0 x.0))
none-given (l ∷ ls) n h (inr x) =
    let k = none-given ls n (and_right (other 0 l.number) (all (other 0) (numbers ls)) h) x.1 in
    (λ e. (x.0, k.0 e), λ u. k.1 u.1)

-- lines of which none applies are passed over
pub passed : (ls ms : List Line) (n : ℕ) → None ls → Topmost (ls ++ ms) n → Topmost ms n
passed [] ms n u t = t
passed (l ∷ ls) ms n u (inl x) = absurd (u.0 x.0)
passed (l ∷ ls) ms n u (inr x) = passed ls ms n u.1 x.1

-- lines before that of the number which is given do not apply
pub unapplied : (ls ms : List Line) (n : ℕ) → T (all (λ m. not (eqb n m)) (numbers ls)) → Topmost (ls ++ ms) n → None ls
unapplied [] ms n h t = tt
unapplied (l ∷ ls) ms n h (inl x) = absurd (not-not (eqb n l.number) (and_left (not (eqb n l.number)) (all (λ m. not (eqb n m)) (numbers ls)) h) (is_t (eq-eqb n l.number x.1)))
unapplied (l ∷ ls) ms n h (inr x) = (x.0, unapplied ls ms n (and_right (not (eqb n l.number)) (all (λ m. not (eqb n m)) (numbers ls)) h) x.1)

-- the number that the first lines give is that of all, or 0
pub begun : (ls ms : List Line) (m n : ℕ) → Topmost ls m → Topmost (ls ++ ms) n → (m ≡ 0) ⊎ (n ≡ m)
begun [] ms m n t u = inl t
begun (l ∷ ls) ms m n (inl x) (inl y) = inr (y.1 ∙ sym x.1)
begun (l ∷ ls) ms m n (inl x) (inr y) = absurd (y.0 x.0)
begun (l ∷ ls) ms m n (inr x) (inl y) = absurd (x.0 y.0)
begun (l ∷ ls) ms m n (inr x) (inr y) = begun ls ms m n x.1 y.1

-- the numbers of a list are all different, and none is 0
abbrev pub distinct : List ℕ → Bool
distinct [] = true
distinct (n ∷ ns) = (other n 0 && all (other n) ns) && distinct ns

-- what the line of a number says
abbrev pub applies : ℕ → List Line → Type 0
applies n [] = ⊥
applies n (l ∷ ls) = elim (eqb l.number n) as (λ _. Type 0) [ true ↦ l.Applies | false ↦ applies n ls ]

-- a number is given only where its line applies
pub given : (ls : List Line) (n : ℕ) → T (distinct (numbers ls)) → (n ≡ 0 → ⊥) → Topmost ls n → applies n ls
given [] n d z t = z t
given (l ∷ ls) n d z (inl x) =
    subst (λ (b : Bool). elim b as (λ _. Type 0) [ true ↦ l.Applies | false ↦ applies n ls ]) (sym (eq-eqb l.number n (sym x.1))) x.0
given (l ∷ ls) n d z (inr x) = go (given ls n (and_right (other l.number 0 && all (other l.number) (numbers ls)) (distinct (numbers ls)) d) z x.1) (eqb l.number n) refl
  where
    apart : T (other l.number 0 && all (other l.number) (numbers ls))
    apart = and_left (other l.number 0 && all (other l.number) (numbers ls)) (distinct (numbers ls)) d

    differs : T (other l.number n)
    differs = listed (other l.number) ls n (and_left (other l.number 0) (all (other l.number) (numbers ls)) apart)
        (and_right (other l.number 0) (all (other l.number) (numbers ls)) apart) x.1

    go : applies n ls → (b : Bool) → eqb l.number n ≡ b → elim b as (λ _. Type 0) [ true ↦ l.Applies | false ↦ applies n ls ]
    go rest true e = absurd (not-not (eqb n l.number) differs (is_t (eq-eqb n l.number (sym (eqb-true l.number n e)))))
    go rest false e = rest
