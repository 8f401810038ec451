-- A text has one place for each refusal, inside the text: the computed one.
use native.Mathlib.Omega.{arith}
use mathlib.Core.Bool.{Bool, true, false}
use mathlib.Core.Path.{◌≡◌, refl, sym, subst, ◌∙◌}
use mathlib.Core.List.{List, [], ◌∷◌, ◌++◌}
use Prim.Native.Nat.{ℕ, zero, suc, ◌+◌, ◌-◌, ◌<◌, ◌≤◌}
use lib.ListN.{length, get_or}
use Rattle.text.specs.Lists.{Text, pick}
use Rattle.tree.specs.Tree.{Grammar}
use Rattle.plain.specs.Written.{heads}
use Rattle.syntax.specs.Syntax.{Ixml}
use Rattle.syntax.proofs.Complete.{complete}
use Rattle.places.specs.Spots.{Part, Spot, spots}
use Rattle.places.specs.Place.{at_fault, First, here, later, Place}
use Rattle.places.specs.Scan.{State, between, begins, step, lefts}
use Rattle.places.specs.Tokens.{index, fault_index, place_of}
use Rattle.places.specs.Laws.{left}
use Rattle.places.proofs.Runs.{lefts-known}
use Rattle.places.proofs.Parts.{bare, parts-known}

-- 1. The first spot at fault, by its number.
pub record Numbered (m k : ℕ) (ls : List ℕ) : Type 0 where
  pub there : m < length ls
  pub is : get_or ls m 0 ≡ k

pub first-number : (f : List Part → Part → Bool) {before : List Part} {ss : List Spot} {k : ℕ} → First f before ss k → Numbered (index f before (bare ss)) k (left ss)
first-number f (here p) = rw p (record { there = omega arith; is = refl })
first-number f (later p h) = let w = first-number f h in rw p (record { there = omega (arith, w.there); is = w.is })

-- 2. What is left at the spots of a text falls from its length on, and is never 0.
low : (s : State) (t : Text) (k : ℕ) → k < length (lefts s t) → (0 < get_or (lefts s t) k 0) × (get_or (lefts s t) k 0 ≤ length t)
unfolding lefts
low s [] k h = absurd (omega arith)
low s (c ∷ t) k h = go (begins s c) k h (low (step s c) t)
  where
    go : (b : Bool) (k : ℕ) → k < length (pick b (suc (length t) ∷ []) [] ++ lefts (step s c) t)
        → ((k : ℕ) → k < length (lefts (step s c) t) → (0 < get_or (lefts (step s c) t) k 0) × (get_or (lefts (step s c) t) k 0 ≤ length t))
        → (0 < get_or (pick b (suc (length t) ∷ []) [] ++ lefts (step s c) t) k 0) × (get_or (pick b (suc (length t) ∷ []) [] ++ lefts (step s c) t) k 0 ≤ suc (length t))
    go true zero h ih = (omega arith, omega arith)
    go true (suc k) h ih = let w = ih k (omega arith) in (w.0, omega (arith, w.1))
    go false k h ih = let w = ih k h in (w.0, omega (arith, w.1))

falls : (s : State) (t : Text) (i j : ℕ) → i < j → j < length (lefts s t) → get_or (lefts s t) j 0 < get_or (lefts s t) i 0
unfolding lefts
falls s [] i j l h = absurd (omega arith)
falls s (c ∷ t) i j l h = go (begins s c) i j l h (falls (step s c) t)
  where
    go : (b : Bool) (i j : ℕ) → i < j → j < length (pick b (suc (length t) ∷ []) [] ++ lefts (step s c) t)
        → ((i j : ℕ) → i < j → j < length (lefts (step s c) t) → get_or (lefts (step s c) t) j 0 < get_or (lefts (step s c) t) i 0)
        → get_or (pick b (suc (length t) ∷ []) [] ++ lefts (step s c) t) j 0 < get_or (pick b (suc (length t) ∷ []) [] ++ lefts (step s c) t) i 0
    go true i zero l h ih = absurd (omega arith)
    go true zero (suc j) l h ih = let w = (low (step s c) t j (omega arith)).1 in omega (arith, w)
    go true (suc i) (suc j) l h ih = ih i j (omega arith) (omega arith)
    go false i j l h ih = ih i j l h

-- the spots of a derivation stand in the order of the text
pub in_order : {t : Text} {g : Grammar} (d : Ixml t g) (i j : ℕ) → i < j → j < length (left (spots d)) → get_or (left (spots d)) j 0 < get_or (left (spots d)) i 0
in_order {t} d i j l h = rw (← lefts-known d) (falls between t i j l (rw (lefts-known d) h))

-- 3. The place is computed.
pub record Known (n : ℕ) (t : Text) (g : Grammar) (k : ℕ) : Type 0 where
  pub numbered : Numbered (fault_index n g) k (lefts between t)
  pub some : 0 < k
  pub inside : k ≤ length t

pub left-known : (n : ℕ) {t : Text} {g : Grammar} (d : Ixml t g) {k : ℕ} → First (at_fault n (heads g)) [] (spots d) k → Known n t g k
left-known n {t} {g} d {k} x =
    let w = first-number (at_fault n (heads g)) x in
    let e : Numbered (fault_index n g) k (lefts between t) =
    subst (λ (ls : List ℕ). Numbered (fault_index n g) k ls) (sym (lefts-known d)) (subst (λ (ps : List Part). Numbered (index (at_fault n (heads g)) [] ps) k (left (spots d))) (parts-known d) w) in
    let l = low between t (fault_index n g) e.there in
    record { numbered = e; some = subst (λ (m : ℕ). 0 < m) e.is l.0; inside = subst (λ (m : ℕ). m ≤ length t) e.is l.1 }

pub place_is : (n : ℕ) (t : Text) (p : ℕ) → Place n t p → p ≡ place_of n t
unfolding place_of
place_is n t p x =
    let w = left-known n x.derived x.first in
    let c = x.counted in
    rw (complete t x.grammar x.derived, w.numbered.is) (omega arith)

pub one_place : (n : ℕ) (t : Text) (p q : ℕ) → Place n t p → Place n t q → p ≡ q
one_place n t p q x y = place_is n t p x ∙ sym (place_is n t q y)

pub place_inside : (n : ℕ) (t : Text) (p : ℕ) → Place n t p → p < length t
place_inside n t p x = let w = left-known n x.derived x.first in omega (arith, w.some, x.counted)
