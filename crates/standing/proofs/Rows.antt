-- Rows of sets.
use mathlib.Core.Bool.{Bool, true, false, ◌||◌}
use mathlib.Core.List.{List}
use mathlib.Core.Logic.{◌⊎◌, inl, inr, ⊎_elim}
use mathlib.Core.Path.{◌≡◌, refl, sym, subst, ◌∙◌}
use Prim.Native.Nat.{ℕ, ◌+◌, ◌*◌, ◌/◌, ◌%◌, ◌<◌, ◌≤◌}
use native.Mathlib.Decide.{ℕ_discrete, dec_lt}
use native.Mathlib.Omega.{arith}
use lib.ListN.{length, get_or, set, replicate, length-set}
use lib.Seq.{get_or-set_same, get_or-set_other}
use Rattle.bits.specs.Bits.{Lit, Has, Union, Grows}
use Rattle.bits.proofs.Laws.{lit-zero, lit-set, lit-stored, has-stored, has_other}
use Rattle.bits.proofs.Grows.{grows_start, grows-join, grows-set}
use Rattle.chart.proofs.Users.{all-zero}
use Rattle.standing.specs.Sets.{Member, Joined, Merged}

pub has-at : (C : List ℕ) {v x : ℕ} → x / 32 ≡ v → Lit (get_or C v 0) (x % 32) → Has C x
has-at C {v} {x} e l = record { lit = subst (λ (k : ℕ). Lit (get_or C k 0) (x % 32)) (sym e) l }

pub joined-start : {S C : List ℕ} {row : ℕ} → Joined S S row C
joined-start = record { long = refl; is = λ q x m. inl m }

pub joined_step : {S₀ S C : List ℕ} {row v at r : ℕ} → v < 8 → at ≡ 8 * row + v → Joined S₀ S row C → ((x : ℕ) → x / 32 ≡ v → Lit r (x % 32) → Lit (get_or S at 0) (x % 32) ⊎ Has C x)
    → Joined S₀ (set S at r) row C
joined_step {S₀} {S} {C} {row} {v} {at} {r} h i j f = record {
  long = length-set S at r ∙ j.long;
  is = λ q x m. ⊎_elim (new q x m.low) (λ z. j.is q x (record { low = m.low; lit = z }))
      (lit-stored S at (8 * q + x / 32) m.lit);
}
  where
    new : (q x : ℕ) → x < 256 → (8 * q + x / 32 ≡ at) × Lit r (x % 32) → Member S₀ q x ⊎ ((q ≡ row) × Has C x)
    new q x low z =
        let e : x / 32 ≡ v = omega (arith, low, z.0, i, h) in
        let p : q ≡ row = omega (arith, low, z.0, i, h) in
        ⊎_elim (λ u. j.is q x (record { low = low; lit = subst (λ (k : ℕ). Lit (get_or S k 0) (x % 32)) (sym z.0) u })) (λ u. inr (p, u)) (f x e z.1)

-- a number that grows loses no place
grown-member : {at b r : ℕ} (S : List ℕ) → at < length S → Union (get_or S at 0) b r → (q x : ℕ) → Member S q x → Member (set S at r) q x
grown-member {at} {b} {r} S h u q x m = record { low = m.low; lit = go (8 * q + x / 32) m.lit (ℕ_discrete (8 * q + x / 32) at) }
  where
    go : (y : ℕ) → Lit (get_or S y 0) (x % 32) → Dec (y ≡ at) → Lit (get_or (set S at r) y 0) (x % 32)
    go y l (yes e) = subst (λ (k : ℕ). Lit (get_or (set S at r) k 0) (x % 32)) (sym e)
        (subst (λ (k : ℕ). Lit k (x % 32)) (sym (get_or-set_same S at r 0 h)) (u.all (x % 32) (inl (subst (λ (k : ℕ). Lit (get_or S k 0) (x % 32)) e l))))
    go y l (no d) = subst (λ (k : ℕ). Lit k (x % 32)) (sym (get_or-set_other S at y r 0 d)) l

-- the numbers of the row before v take in those of a set
pub record Merging (S S' : List ℕ) (row : ℕ) (C : List ℕ) (v : ℕ) (g : Bool) : Type 0 where
  pub joined : Joined S S' row C
  pub kept : length S ≡ 8192 → (q x : ℕ) → Member S q x → Member S' q x
  pub all : length S ≡ 8192 → (x : ℕ) → x < 256 → x / 32 < v → Has C x → Member S' row x
  pub grows : length S ≡ 8192 → Grows S S' g

pub merge-start : {S C : List ℕ} {row : ℕ} → Merging S S row C 0 false
merge-start = record { joined = joined-start; kept = λ l q x m. m; all = λ l x h i. absurd (omega (arith, i)); grows = λ l. grows_start }

pub merge_step : {S₀ S C : List ℕ} {row v at r : ℕ} {g g' b : Bool} → v < 8 → row < 1024 → at ≡ 8 * row + v → Merging S₀ S row C v g → Union (get_or S at 0) (get_or C v 0) r → g' ≡ (g || b)
    → (b ≡ true → r ≡ get_or S at 0 → ⊥) → (b ≡ false → r ≡ get_or S at 0) → Merging S₀ (set S at r) row C (v + 1) g'
merge_step {S₀} {S} {C} {row} {v} {at} {r} {g} {g'} {b} h w i j u z p q = record {
  joined = joined_step h i j.joined (λ x e l. ⊎_elim inl (λ y. inr (has-at C e y)) (u.is (x % 32) l));
  kept = λ l k x m. grown-member S (inside l) u k x (j.kept l k x m);
  all = λ l x low k y. all l x low k y (dec_lt (x / 32) v);
  grows = λ l. grows-join g b (j.grows l) (grows-set S (inside l) refl u.above u.most p q) z;
}
  where
    inside : length S₀ ≡ 8192 → at < length S
    inside l = omega (arith, i, h, w, l, j.joined.long)

    all : length S₀ ≡ 8192 → (x : ℕ) → x < 256 → x / 32 < v + 1 → Has C x → Dec (x / 32 < v) → Member (set S at r) row x
    all l x low k y (yes d) = grown-member S (inside l) u row x (j.all l x low d y)
    all l x low k y (no d) =
        let e : x / 32 ≡ v = omega (arith, k, d) in
        let f : at ≡ 8 * row + x / 32 = omega (arith, i, e) in
        record {
          low = low;
          lit = subst (λ (k : ℕ). Lit (get_or (set S at r) k 0) (x % 32)) f (subst (λ (k : ℕ). Lit k (x % 32)) (sym (get_or-set_same S at r 0 (inside l)))
              (u.all (x % 32) (inr (subst (λ (k : ℕ). Lit (get_or C k 0) (x % 32)) e y.lit))));
        }

pub merge-end : {S S' C : List ℕ} {row v : ℕ} {g : Bool} → 8 ≤ v → Merging S S' row C v g → Merged S S' row C g
merge-end h j = record {
  joined = j.joined;
  grown = record { long = j.joined.long; kept = j.kept; grows = j.grows };
  all = λ l x low y. j.all l x low (omega (arith, low, h)) y;
}

pub less-step : (C : List ℕ) (v : ℕ) {w : ℕ} → ((k : ℕ) → Lit w k → Lit (get_or C v 0) k) → (x : ℕ) → Has (set C v w) x → Has C x
less-step C v {w} f x h = ⊎_elim (λ z. has-at C z.0 (f (x % 32) z.1)) (λ z. record { lit = z }) (lit-stored C v (x / 32) h.lit)

pub take_step : (S C : List ℕ) (row v : ℕ) → v < 8 → ((x : ℕ) → x / 32 < v → Has C x → Member S row x) → (x : ℕ) → x / 32 < v + 1 → Has (set C v (get_or S (8 * row + v) 0)) x → Member S row x
take_step S C row v h f x l y = go (dec_lt (x / 32) v)
  where
    go : Dec (x / 32 < v) → Member S row x
    go (yes z) = f x z (⊎_elim (λ u. absurd (omega (arith, z, u.0))) (λ u. record { lit = u }) (lit-stored C v (x / 32) y.lit))
    go (no z) =
        let e : x / 32 ≡ v = omega (arith, l, z) in
        let u = lit-set C v (subst (λ (k : ℕ). Lit (get_or (set C v (get_or S (8 * row + v) 0)) k 0) (x % 32)) e y.lit) in
        record { low = omega (arith, e, h); lit = subst (λ (k : ℕ). Lit (get_or S (8 * row + k) 0) (x % 32)) (sym e) u }

-- and all of it
pub take_all : (S C : List ℕ) (row v : ℕ) → v < length C → ((x : ℕ) → x / 32 < v → Member S row x → Has C x) → (x : ℕ) → x / 32 < v + 1 → Member S row x → Has (set C v (get_or S (8 * row + v) 0)) x
take_all S C row v h f x l m = go (dec_lt (x / 32) v)
  where
    go : Dec (x / 32 < v) → Has (set C v (get_or S (8 * row + v) 0)) x
    go (yes z) = has_other C (get_or S (8 * row + v) 0) (λ e. omega (arith, e, z)) (f x z m)
    go (no z) =
        let e : x / 32 ≡ v = omega (arith, l, z) in
        has-stored C h e (subst (λ (k : ℕ). Lit (get_or S (8 * row + k) 0) (x % 32)) e m.lit)

pub no_member : (q x : ℕ) → Member (replicate 8192 0) q x → ⊥
no_member q x m = lit-zero (all-zero 8192 (8 * q + x / 32)) m.lit
