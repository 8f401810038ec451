-- Bits of what the operations give; a place put into a set.
use mathlib.Core.List.{List, [], ◌∷◌}
use mathlib.Core.Logic.{◌⊎◌, inl, inr, ⊎_elim}
use mathlib.Core.Path.{◌≡◌, refl, sym, ap, subst, ◌∙◌}
use Prim.Native.Nat.{ℕ, zero, suc, ◌+◌, ◌*◌, ◌/◌, ◌%◌, ◌^◌, ◌<◌, ◌≤◌, min, max}
use native.Mathlib.Decide.{ℕ_discrete, dec_lt}
use native.Mathlib.Nat.{pow-suc, mod-lt, mod-eq_of_lt, div_self, zero-max, zero-min, min-zero, max-eq_left, max-eq_right}
use native.Mathlib.Omega.{arith}
use lib.Bits.{bit_or, bit_and, bit_xor, differ, or_step, and_step, xor_step, or_shr, and_shr, xor_shr, and_mask, or_add_and, and_le_r, or_lt}
use lib.ListN.{length, get_or, set, length-set}
use lib.Pow.{shr-shr, shr_le, pow_pos}
use lib.Seq.{get_or-set_same, get_or-set_other}
use Rattle.bits.specs.Bits.{bit_of, Lit, Has, Union, Masking, Beyond, Adds}

odd-or : (x y : ℕ) → bit_or x y % 2 ≡ 1 → (x % 2 ≡ 1) ⊎ (y % 2 ≡ 1)
odd-or x y h = go (ℕ_discrete (x % 2) 1)
  where
    go : Dec (x % 2 ≡ 1) → (x % 2 ≡ 1) ⊎ (y % 2 ≡ 1)
    go (yes e) = inl e
    go (no n) =
        let z : x % 2 ≡ 0 = omega (arith, n) in
        let e : bit_or x y ≡ bit_or (x / 2) (y / 2) * 2 + y % 2 = or_step x y ∙ ap (λ (v : ℕ). bit_or (x / 2) (y / 2) * 2 + max v (y % 2)) z ∙ ap
        (λ (v : ℕ). bit_or (x / 2) (y / 2) * 2 + v) (zero-max (y % 2)) in
        inr (omega (arith, e, h))

odd-and : (x y : ℕ) → bit_and x y % 2 ≡ 1 → (x % 2 ≡ 1) × (y % 2 ≡ 1)
odd-and x y h = (left (ℕ_discrete (x % 2) 1), right (ℕ_discrete (y % 2) 1))
  where
    left : Dec (x % 2 ≡ 1) → x % 2 ≡ 1
    left (yes e) = e
    left (no n) =
        let z : x % 2 ≡ 0 = omega (arith, n) in
        let e : bit_and x y ≡ bit_and (x / 2) (y / 2) * 2 + 0 = and_step x y ∙ ap (λ (v : ℕ). bit_and (x / 2) (y / 2) * 2 + min v (y % 2)) z ∙ ap
        (λ (v : ℕ). bit_and (x / 2) (y / 2) * 2 + v) (zero-min (y % 2)) in
        absurd (omega (arith, e, h))

    right : Dec (y % 2 ≡ 1) → y % 2 ≡ 1
    right (yes e) = e
    right (no n) =
        let z : y % 2 ≡ 0 = omega (arith, n) in
        let e : bit_and x y ≡ bit_and (x / 2) (y / 2) * 2 + 0 = and_step x y ∙ ap (λ (v : ℕ). bit_and (x / 2) (y / 2) * 2 + min (x % 2) v) z ∙ ap
        (λ (v : ℕ). bit_and (x / 2) (y / 2) * 2 + v) (min-zero (x % 2)) in
        absurd (omega (arith, e, h))

pub lit-or : {a b k : ℕ} → Lit (bit_or a b) k → Lit a k ⊎ Lit b k
unfolding bit_of
lit-or {a} {b} {k} h = ⊎_elim (λ z. inl (record { is = z })) (λ z. inr (record { is = z })) (odd-or (a / 2 ^ k) (b / 2 ^ k) (sym (ap (λ (x : ℕ). x % 2) (or_shr a b k)) ∙ h.is))

pub lit-and : {a b k : ℕ} → Lit (bit_and a b) k → Lit a k × Lit b k
unfolding bit_of
lit-and {a} {b} {k} h = let z = odd-and (a / 2 ^ k) (b / 2 ^ k) (sym (ap (λ (x : ℕ). x % 2) (and_shr a b k)) ∙ h.is) in (record { is = z.0 }, record { is = z.1 })

zero-shifted : (k : ℕ) → 0 / 2 ^ k ≡ 0
zero-shifted k = let z : 0 / 2 ^ k ≤ 0 = shr_le 0 k in omega (arith, z)

pub lit-zero : {w k : ℕ} → w ≡ 0 → Lit w k → ⊥
unfolding bit_of
lit-zero {w} {k} e h = go (w / 2 ^ k) (ap (λ (x : ℕ). x / 2 ^ k) e ∙ zero-shifted k) h.is
  where
    go : (x : ℕ) → x ≡ 0 → x % 2 ≡ 1 → ⊥
    go x e h = omega (arith, e, h)

-- the bit of a shifted number, masked by 1
pub lit-shifted : (w b : ℕ) → bit_and (w / 2 ^ b) 1 ≡ 1 → Lit w b
unfolding bit_of
lit-shifted w b h = record { is = sym (and_mask (w / 2 ^ b) 1) ∙ h }

-- a power of two has one bit
only-bit : (b k : ℕ) → (2 ^ b / 2 ^ k) % 2 ≡ 1 → k ≡ b
only-bit zero zero h = refl
only-bit zero (suc k) h = absurd (go (1 / 2 ^ suc k) small h)
  where
    small : 1 / 2 ^ suc k ≡ 0
    small = sym (shr-shr 1 1 k ∙ ap (λ (x : ℕ). 1 / 2 ^ x) (let z : 1 + k ≡ suc k = omega arith in z)) ∙ zero-shifted k

    go : (x : ℕ) → x ≡ 0 → x % 2 ≡ 1 → ⊥
    go x e h = omega (arith, e, h)
only-bit (suc b) zero h = absurd (go (2 ^ suc b) (pow-suc 2 b) h)
  where
    go : (x : ℕ) → x ≡ 2 ^ b * 2 → (x / 1) % 2 ≡ 1 → ⊥
    go x e h = omega (arith, e, h)
only-bit (suc b) (suc k) h = ap suc (only-bit b k (sym (ap (λ (x : ℕ). x % 2) half) ∙ h))
  where
    half : 2 ^ suc b / 2 ^ suc k ≡ 2 ^ b / 2 ^ k
    half =
        let z : 1 + k ≡ suc k = omega arith in
        let d : (x : ℕ) → (x * 2) / 2 ≡ x = λ x. omega arith in
        sym (ap (λ (x : ℕ). 2 ^ suc b / 2 ^ x) z) ∙ sym (shr-shr (2 ^ suc b) 1 k) ∙ ap (λ (x : ℕ). x / 2 / 2 ^ k) (pow-suc 2 b) ∙ ap (λ (x : ℕ). x / 2 ^ k) (d (2 ^ b))

pub lit-power : {b k : ℕ} → Lit (2 ^ b) k → k ≡ b
unfolding bit_of
lit-power {b} {k} h = only-bit b k h.is

-- the number that is stored, where it is; outside the list there is none
pub lit-set : {w k : ℕ} (l : List ℕ) (i : ℕ) → Lit (get_or (set l i w) i 0) k → Lit w k
lit-set [] i h = absurd (lit-zero refl h)
lit-set (y ∷ ys) zero h = h
lit-set (y ∷ ys) (suc i) h = lit-set ys i h

-- a bit of a list after a store: the stored number's, or one that was there
pub lit-stored : {w k : ℕ} (l : List ℕ) (i j : ℕ) → Lit (get_or (set l i w) j 0) k → ((j ≡ i) × Lit w k) ⊎ Lit (get_or l j 0) k
lit-stored {w} {k} l i j h = go (ℕ_discrete j i)
  where
    go : Dec (j ≡ i) → ((j ≡ i) × Lit w k) ⊎ Lit (get_or l j 0) k
    go (yes e) = inl (e, lit-set l i (subst (λ (v : ℕ). Lit (get_or (set l i w) v 0) k) e h))
    go (no n) = inr (subst (λ (v : ℕ). Lit v k) (get_or-set_other l i j w 0 n) h)

-- the other way round
odd-either : (x y : ℕ) → (x % 2 ≡ 1) ⊎ (y % 2 ≡ 1) → bit_or x y % 2 ≡ 1
odd-either x y h =
    let a : x % 2 < 2 = mod-lt x (omega arith) in
    let b : y % 2 < 2 = mod-lt y (omega arith) in
    let m : max (x % 2) (y % 2) ≡ 1 = ⊎_elim (λ e. max-eq_left (omega (arith, e, b)) ∙ e) (λ e. max-eq_right (omega (arith, e, a)) ∙ e) h in
    let e : bit_or x y ≡ bit_or (x / 2) (y / 2) * 2 + 1 = or_step x y ∙ ap (λ (v : ℕ). bit_or (x / 2) (y / 2) * 2 + v) m in
    omega (arith, e)

odd-both : (x y : ℕ) → (x % 2 ≡ 1) → (y % 2 ≡ 1) → bit_and x y % 2 ≡ 1
odd-both x y h k =
    let e : bit_and x y ≡ bit_and (x / 2) (y / 2) * 2 + 1 = and_step x y ∙ ap (λ (v : ℕ). bit_and (x / 2) (y / 2) * 2 + min v (y % 2)) h ∙ ap
    (λ (v : ℕ). bit_and (x / 2) (y / 2) * 2 + min 1 v) k in
    omega (arith, e)

pub lit-either : {a b k : ℕ} → Lit a k ⊎ Lit b k → Lit (bit_or a b) k
unfolding bit_of
lit-either {a} {b} {k} h = record { is = ap (λ (x : ℕ). x % 2) (or_shr a b k) ∙ odd-either (a / 2 ^ k) (b / 2 ^ k) (⊎_elim (λ z. inl z.is) (λ z. inr z.is) h) }

lit-both : {a b k : ℕ} → Lit a k → Lit b k → Lit (bit_and a b) k
unfolding bit_of
lit-both {a} {b} {k} h l = record { is = ap (λ (x : ℕ). x % 2) (and_shr a b k) ∙ odd-both (a / 2 ^ k) (b / 2 ^ k) h.is l.is }

-- the digits of two numbers that differ
odd-alone : (x y : ℕ) → x % 2 ≡ 1 → (y % 2 ≡ 1 → ⊥) → bit_xor x y % 2 ≡ 1
odd-alone x y h n =
    let z : y % 2 ≡ 0 = omega (arith, n) in
    let e : bit_xor x y ≡ bit_xor (x / 2) (y / 2) * 2 + 1 = xor_step x y ∙ ap (λ (v : ℕ). bit_xor (x / 2) (y / 2) * 2 + differ v (y % 2)) h ∙ ap
    (λ (v : ℕ). bit_xor (x / 2) (y / 2) * 2 + differ 1 v) z in
    omega (arith, e)

odd-same : (x y : ℕ) → x % 2 ≡ 1 → y % 2 ≡ 1 → bit_xor x y % 2 ≡ 1 → ⊥
odd-same x y h k o =
    let e : bit_xor x y ≡ bit_xor (x / 2) (y / 2) * 2 + 0 = xor_step x y ∙ ap (λ (v : ℕ). bit_xor (x / 2) (y / 2) * 2 + differ v (y % 2)) h ∙ ap
    (λ (v : ℕ). bit_xor (x / 2) (y / 2) * 2 + differ 1 v) k in
    omega (arith, e, o)

pub beyond-of : (a old : ℕ) → Beyond a old (bit_and a (bit_xor a old))
unfolding bit_of
beyond-of a old = record {
  is = λ k z. (let w = lit-and {a = a} {b = bit_xor a old} z in
      (w.0, λ o. odd-same (a / 2 ^ k) (old / 2 ^ k) w.0.is o.is (sym (ap (λ (x : ℕ). x % 2) (xor_shr a old k)) ∙ w.1.is)));
  all = λ k z n. lit-both z (record { is = ap (λ (x : ℕ). x % 2) (xor_shr a old k) ∙ odd-alone (a / 2 ^ k) (old / 2 ^ k) z.is (λ e. n (record { is = e })) });
}

pub shifted-lit : (w b : ℕ) → Lit w b → bit_and (w / 2 ^ b) 1 ≡ 1
unfolding bit_of
shifted-lit w b h = and_mask (w / 2 ^ b) 1 ∙ h.is

pub power-lit : (b : ℕ) → Lit (2 ^ b) b
unfolding bit_of
power-lit b = record { is = ap (λ (x : ℕ). x % 2) (div_self (pow_pos b)) }

pub union-of : (a b : ℕ) → a < 2 ^ 32 → b < 2 ^ 32 → Union a b (bit_or a b)
union-of a b h l = record {
  is = λ k. lit-or;
  all = λ k. lit-either;
  above = (let x = or_add_and a b in let y = and_le_r a b in omega (arith, x, y));
  most = (let z : bit_or a b < 4294967296 = or_lt 32 a b h l in omega (arith, z));
}

pub masking-of : (a d on : ℕ) → d < 2 ^ 32 → Masking a d on (bit_or a (bit_and d on))
masking-of a d on h = record {
  is = λ k z. ⊎_elim inl (λ y. (let w = lit-and {a = d} {b = on} y in inr (w.0, λ e. lit-zero e w.1))) (lit-or z);
  kept = λ k z. lit-either (inl z);
  all = λ k e z. lit-either {a = a} (inr (subst (λ (v : ℕ). Lit v k) (sym (ap (bit_and d) e ∙ and_mask d 32 ∙ mod-eq_of_lt h)) z));
}

-- a place that is of a set's number v, or of another
pub has-stored : (s : List ℕ) {v w x : ℕ} → v < length s → x / 32 ≡ v → Lit w (x % 32) → Has (set s v w) x
has-stored s {v} {w} {x} h e l = record { lit = subst (λ (k : ℕ). Lit (get_or (set s v w) k 0) (x % 32)) (sym e) (subst (λ (k : ℕ). Lit k (x % 32)) (sym (get_or-set_same s v w 0 h)) l) }

pub has_other : (s : List ℕ) {v x : ℕ} (w : ℕ) → (x / 32 ≡ v → ⊥) → Has s x → Has (set s v w) x
has_other s {v} {x} w n h = record { lit = subst (λ (k : ℕ). Lit k (x % 32)) (sym (get_or-set_other s v (x / 32) w 0 n)) h.lit }

-- a number of a set takes in bits: the places that they stand for come in
pub adds-word : {P : ℕ → Type 0} (s : List ℕ) {v b r : ℕ} → v < 8 → Union (get_or s v 0) b r → ((x : ℕ) → x / 32 ≡ v → Lit b (x % 32) → P x) → ((x : ℕ) → P x → (x / 32 ≡ v) × Lit b (x % 32))
    → Adds P s (set s v r)
adds-word {P} s {v} {b} {r} h u f g = record {
  long = length-set s v r;
  is = λ x y. ⊎_elim (λ z. ⊎_elim (λ w. inl (record { lit = subst (λ (k : ℕ). Lit (get_or s k 0) (x % 32)) (sym z.0) w })) (λ w. inr (f x z.0 w)) (u.is (x % 32) z.1))
      (λ z. inl (record { lit = z })) (lit-stored s v (x / 32) y.lit);
  kept = λ l x y. keep l x y (ℕ_discrete (x / 32) v);
  all = λ l x p. has-stored s (omega (arith, h, l)) (g x p).0 (u.all (x % 32) (inr (g x p).1));
}
  where
    keep : length s ≡ 8 → (x : ℕ) → Has s x → Dec (x / 32 ≡ v) → Has (set s v r) x
    keep l x y (yes e) = has-stored s (omega (arith, h, l)) e (u.all (x % 32) (inl (subst (λ (k : ℕ). Lit (get_or s k 0) (x % 32)) e y.lit)))
    keep l x y (no n) = has_other s r n y

-- the place x is put into a set
pub put-adds : (s : List ℕ) {x b r : ℕ} → x < 256 → b ≡ x % 32 → Union (get_or s (x / 32) 0) (2 ^ b) r → Adds (λ y. y ≡ x) s (set s (x / 32) r)
put-adds s {x} {b} {r} h e u = adds-word s (omega (arith, h)) u (λ y i l. omega (arith, lit-power l, e, i))
    (λ y i. (ap (λ (k : ℕ). k / 32) i, subst (λ (k : ℕ). Lit (2 ^ b) k) (e ∙ sym (ap (λ (k : ℕ). k % 32) i)) (power-lit b)))

pub adds_none : {P : ℕ → Type 0} {s : List ℕ} → ((x : ℕ) → P x → ⊥) → Adds P s s
adds_none f = record { long = refl; is = λ x h. inl h; kept = λ l x h. h; all = λ l x p. absurd (f x p) }

pub adds-join : {P Q : ℕ → Type 0} (S : ℕ → Type 0) {s s' s'' : List ℕ} → Adds P s s' → Adds Q s' s'' → ((x : ℕ) → P x ⊎ Q x → S x) → ((x : ℕ) → S x → P x ⊎ Q x) → Adds S s s''
adds-join S v w f g = record {
  long = w.long ∙ v.long;
  is = λ x h. ⊎_elim (λ y. ⊎_elim inl (λ z. inr (f x (inl z))) (v.is x y)) (λ z. inr (f x (inr z))) (w.is x h);
  kept = λ l x h. w.kept (v.long ∙ l) x (v.kept l x h);
  all = λ l x p. ⊎_elim (λ z. w.kept (v.long ∙ l) x (v.all l x z)) (w.all (v.long ∙ l) x) (g x p);
}

pub adds-as : {P : ℕ → Type 0} (S : ℕ → Type 0) {s s' : List ℕ} → Adds P s s' → ((x : ℕ) → P x → S x) → ((x : ℕ) → S x → P x) → Adds S s s'
adds-as S v f g = record { long = v.long; is = λ x h. ⊎_elim inl (λ z. inr (f x z)) (v.is x h); kept = v.kept; all = λ l x p. v.all l x (g x p) }

-- one mask more
pub masked-next : (on : List ℕ) {word b : ℕ} (w : ℕ) → b < 32 → ((x : ℕ) → x < b → (get_or on x 0 ≡ 0 → ⊥) → Lit word x) → ((w ≡ 0 → ⊥) → Lit word b)
    → (x : ℕ) → x < b + 1 → (get_or (set on b w) x 0 ≡ 0 → ⊥) → Lit word x
masked-next on {word} {b} w h f g x l n = go (ℕ_discrete x b)
  where
    go : Dec (x ≡ b) → Lit word x
    go (no d) = f x (omega (arith, d)) (λ z. n (get_or-set_other on b x w 0 d ∙ z))
    go (yes e) = subst (Lit word) (sym e) (g (λ z. n (ap (λ (y : ℕ). get_or (set on b w) y 0) e ∙ zero-set on b z)))
      where
        zero-set : (l : List ℕ) (i : ℕ) → w ≡ 0 → get_or (set l i w) i 0 ≡ 0
        zero-set [] i z = refl
        zero-set (y ∷ ys) zero z = z
        zero-set (y ∷ ys) (suc i) z = zero-set ys i z

-- and the other way round
pub spread-next : (on : List ℕ) {word b : ℕ} (w : ℕ) → b < length on → ((x : ℕ) → x < b → Lit word x → get_or on x 0 ≡ 4294967295) → (Lit word b → w ≡ 4294967295)
    → (x : ℕ) → x < b + 1 → Lit word x → get_or (set on b w) x 0 ≡ 4294967295
spread-next on {word} {b} w h f g x l n = go (ℕ_discrete x b)
  where
    go : Dec (x ≡ b) → get_or (set on b w) x 0 ≡ 4294967295
    go (no d) = get_or-set_other on b x w 0 d ∙ f x (omega (arith, d)) n
    go (yes e) = ap (λ (k : ℕ). get_or (set on b w) k 0) e ∙ get_or-set_same on b w 0 h ∙ g (subst (Lit word) e n)

-- one number more of those that are seen
pub none-next : (s : List ℕ) {v a : ℕ} → ((x : ℕ) → x / 32 < v → Has s x → Lit a (x % 32)) → (x : ℕ) → x / 32 < v + 1 → Has s x → Lit (bit_or a (get_or s v 0)) (x % 32)
none-next s {v} {a} f x h y = go (dec_lt (x / 32) v)
  where
    go : Dec (x / 32 < v) → Lit (bit_or a (get_or s v 0)) (x % 32)
    go (yes z) = lit-either (inl (f x z y))
    go (no z) = lit-either {a = a} (inr (subst (λ (k : ℕ). Lit (get_or s k 0) (x % 32)) (let e : x / 32 ≡ v = omega (arith, h, z) in e) y.lit))
