-- The scan over the text: spots and their places.
use native.Mathlib.Omega.{arith}
use mathlib.Core.Bool.{Bool, true, false}
use mathlib.Core.Path.{◌≡◌, refl, sym, ap, subst, ◌∙◌}
use mathlib.Core.List.{List, [], ◌∷◌, ◌++◌, append-nil}
use Prim.Native.Nat.{ℕ, zero, suc, ◌+◌, ◌<◌, ◌≤◌}
use native.Mathlib.Decide.{ℕ_discrete}
use lib.ListN.{length, drop, get_or, set, length-set, length-drop, length-append}
use lib.Seq.{get_or-set_same, get_or-set_other}
use Rattle.text.specs.Lists.{Text, pick}
use Rattle.spacing.proofs.Places.{at-char, at-end}
use Rattle.places.specs.Scan.{opens, step, begins, lefts}
use Rattle.places.specs.Scan as scan
use Rattle.locate.specs.Spots.{goes_on, deep, Located}
use Rattle.locate.proofs.Modes.{begins-as, deep_step}

-- at the place i the first n spots are in the array, and the others are still to be found
pub record Walked (t : Text) (old places : List ℕ) (n i : ℕ) (s : scan.State) : Type 0 where
  pub size : length places ≡ length old
  pub place : i ≤ length t
  pub few : n ≤ i
  pub low : deep s ≤ i
  pub found : List ℕ
  pub count : length found ≡ n
  pub split : lefts scan.between t ≡ found ++ lefts s (drop i t)
  pub each : (k : ℕ) → k < n → get_or places k 0 + get_or found k 0 ≡ length t

pub walk_start : (t : Text) (old : List ℕ) → Walked t old old 0 0 scan.between
walk_start t old =
    record { size = refl; place = omega arith; few = omega arith; low = omega arith; found = []; count = refl; split = refl; each = λ k l. absurd (omega arith) }

at-text : (t : Text) (i : ℕ) (s : scan.State) → i < length t
    → lefts s (drop i t) ≡ pick (begins s (get_or t i 0)) (suc (length (drop (i + 1) t)) ∷ []) [] ++ lefts (step s (get_or t i 0)) (drop (i + 1) t)
unfolding lefts
at-text t i s h = rw (at-char t i h)

get_or-left : (xs : List ℕ) (y : ℕ) (k : ℕ) → k < length xs → get_or (xs ++ y ∷ []) k 0 ≡ get_or xs k 0
get_or-left [] y k h = absurd (omega arith)
get_or-left (x ∷ xs) y zero h = refl
get_or-left (x ∷ xs) y (suc k) h = get_or-left xs y k (omega arith)

get_or-last : (xs : List ℕ) (y k : ℕ) → k ≡ length xs → get_or (xs ++ y ∷ []) k 0 ≡ y
get_or-last [] y zero h = refl
get_or-last [] y (suc k) h = absurd (omega arith)
get_or-last (x ∷ xs) y zero h = absurd (omega arith)
get_or-last (x ∷ xs) y (suc k) h = get_or-last xs y k (omega arith)

assoc : (xs : List ℕ) (y : ℕ) (zs : List ℕ) → xs ++ (y ∷ zs) ≡ (xs ++ y ∷ []) ++ zs
assoc [] y zs = refl
assoc (x ∷ xs) y zs = ap (◌∷◌ x) (assoc xs y zs)

module _ (t : Text) (old places : List ℕ) (n i : ℕ) (s : scan.State) (w : Walked t old places n i s) (l : i < length t) (on b : Bool)
    (e : on ≡ goes_on s (get_or t i 0)) (f : b ≡ pick on false (opens (get_or t i 0))) where
  told : begins s (get_or t i 0) ≡ b
  told = begins-as s (get_or t i 0) ∙ ap (λ (x : Bool). pick x false (opens (get_or t i 0))) (sym e) ∙ sym f

  -- nothing begins here
  walk-past : b ≡ false → (s' : scan.State) → s' ≡ step s (get_or t i 0) → Walked t old places n (i + 1) s'
  walk-past z s' q =
      let d = deep_step s (get_or t i 0) in
      let u = w.low in
      let v = w.few in
      let x : lefts s (drop i t) ≡ lefts (step s (get_or t i 0)) (drop (i + 1) t) =
      at-text t i s l ∙ ap (λ (c : Bool). pick c (suc (length (drop (i + 1) t)) ∷ []) [] ++ lefts (step s (get_or t i 0)) (drop (i + 1) t)) (told ∙ z) in
      subst (Walked t old places n (i + 1)) (sym q) (record {
        size = w.size;
        place = omega arith;
        few = omega arith;
        low = omega arith;
        found = w.found;
        count = w.count;
        split = w.split ∙ ap (◌++◌ w.found) x;
        each = w.each;
      })

  -- a spot
  walk-spot : b ≡ true → n < length places → (s' : scan.State) → s' ≡ step s (get_or t i 0) → Walked t old (set places n i) (n + 1) (i + 1) s'
  walk-spot z r s' q =
      let d = deep_step s (get_or t i 0) in
      let u = w.low in
      let v = w.few in
      let y = suc (length (drop (i + 1) t)) in
      let x : lefts s (drop i t) ≡ y ∷ lefts (step s (get_or t i 0)) (drop (i + 1) t) =
      at-text t i s l ∙ ap (λ (c : Bool). pick c (y ∷ []) [] ++ lefts (step s (get_or t i 0)) (drop (i + 1) t)) (told ∙ z) in
      subst (Walked t old (set places n i) (n + 1) (i + 1)) (sym q) (record {
        size = length-set places n i ∙ w.size;
        place = omega arith;
        few = omega arith;
        low = omega arith;
        found = w.found ++ y ∷ [];
        count = length-append w.found (y ∷ []) ∙ ap (λ (k : ℕ). k + 1) w.count;
        split = w.split ∙ ap (◌++◌ w.found) x ∙ assoc w.found y (lefts (step s (get_or t i 0)) (drop (i + 1) t));
        each = λ k h. elim (ℕ_discrete k n) as (λ _. get_or (set places n i) k 0 + get_or (w.found ++ y ∷ []) k 0 ≡ length t) [
          | yes m ↦ rw (m, get_or-set_same places n i 0 r, get_or-last w.found y n (sym w.count)) (omega (arith, length-drop (i + 1) t))
          | no m ↦ rw (get_or-set_other places n k i 0 m, get_or-left w.found y k (omega (arith, w.count))) (w.each k (omega arith))
        ];
      })

  pub walk : n < length places → (r : ℕ) (new : List ℕ) (s' : scan.State) → r ≡ pick b (n + 1) n → new ≡ pick b (set places n i) places
      → s' ≡ step s (get_or t i 0) → Walked t old new r (i + 1) s'
  walk h r new s' x y q = go b refl
    where
      go : (a : Bool) → b ≡ a → Walked t old new r (i + 1) s'
      go true z =
          let u : r ≡ n + 1 = x ∙ ap (λ (c : Bool). pick c (n + 1) n) z in
          let v : new ≡ set places n i = y ∙ ap (λ (c : Bool). pick c (set places n i) places) z in
          rw (u, v) (walk-spot z h s' q)
      go false z =
          let u : r ≡ n = x ∙ ap (λ (c : Bool). pick c (n + 1) n) z in
          let v : new ≡ places = y ∙ ap (λ (c : Bool). pick c (set places n i) places) z in
          rw (u, v) (walk-past z s' q)

pub walk_end : (t : Text) (old places : List ℕ) (n i : ℕ) (s : scan.State) → Walked t old places n i s → length t ≤ i → Located t places
unfolding lefts
walk_end t old places n i s w h = record { each = λ k m. go k m }
  where
    all : lefts scan.between t ≡ w.found
    all = w.split ∙ ap (λ (z : Text). w.found ++ lefts s z) (at-end t i h) ∙ append-nil w.found

    go : (k : ℕ) → k < length (lefts scan.between t) → get_or places k 0 + get_or (lefts scan.between t) k 0 ≡ length t
    go k m = rw all (w.each k (omega (arith, w.count, ap length all)))

pub walk-deep : (t : Text) (old places : List ℕ) (n i : ℕ) (s : scan.State) → Walked t old places n i s → length t < 4294967295 → deep s < 4294967295
walk-deep t old places n i s w l = omega (arith, w.low, w.place)
