-- The step takes a character exactly when the bytes begin with the encoding of a scalar value.
use mathlib.Core.Path.{◌≡◌, refl, sym, ap, ◌∙◌}
use mathlib.Core.Logic.{◌⊎◌, inl, inr, ⊎_elim}
use mathlib.Core.List.{List, [], ◌∷◌, ◌++◌}
use Prim.Native.Nat.{ℕ, suc, ◌+◌, ◌*◌, ◌-◌, ◌/◌, ◌%◌, ◌≤◌, ◌<◌}
use native.Mathlib.Omega.{arith}
use lib.ListN.{length}
use lib.Dec.{lit≤}
use native.Mathlib.Nat.{le_trans}
use native.Mathlib.Decide.{ℕ_discrete}
use borrow.Author.Tests.{lt-ltb, le-ltb, eq-eqb, ne_eqb}
use Rattle.text.specs.Utf8.{Scalar, utf8}
use Rattle.text.specs.Decode.{Taken, got, cut, bad, second_low, second_high, rest_of, char_of}
use Rattle.text.proofs.Tests.{split}

pub utf8-1 : (c : ℕ) → c < 0x80 → utf8 c ≡ c ∷ []
unfolding utf8
utf8-1 c p = simp (lt-ltb c 0x80 p)

pub utf8-2 : (c : ℕ) → 0x80 ≤ c → c < 0x800 → utf8 c ≡ (0xc0 + c / 64) ∷ (0x80 + c % 64) ∷ []
unfolding utf8
utf8-2 c p q = simp (le-ltb c 0x80 p, lt-ltb c 0x800 q)

pub utf8-3 : (c : ℕ) → 0x800 ≤ c → c < 0x10000 → utf8 c ≡ (0xe0 + c / 4096) ∷ (0x80 + c / 64 % 64) ∷ (0x80 + c % 64) ∷ []
unfolding utf8
utf8-3 c p q = simp (le-ltb c 0x80 (omega arith), le-ltb c 0x800 p, lt-ltb c 0x10000 q)

pub utf8-4 : (c : ℕ) → 0x10000 ≤ c → utf8 c ≡ (0xf0 + c / 262144) ∷ (0x80 + c / 4096 % 64) ∷ (0x80 + c / 64 % 64) ∷ (0x80 + c % 64) ∷ []
unfolding utf8
utf8-4 c p = simp (le-ltb c 0x80 (omega arith), le-ltb c 0x800 (omega arith), le-ltb c 0x10000 p)

-- the limits of a second byte, by the first: of three bytes
record Second3 (b : ℕ) : Type 0 where
  pub low : 0x80 ≤ second_low b
  pub high : second_high b ≤ 0xbf
  pub long : 0x800 ≤ (b - 0xe0) * 4096 + (second_low b - 0x80) * 64
  pub plain : ((b - 0xe0) * 4096 + (second_high b - 0x80) * 64 + 63 < 0xd800) ⊎ (0xe000 ≤ (b - 0xe0) * 4096)

low-else : (b : ℕ) → (b ≡ 0xe0 → ⊥) → (b ≡ 0xf0 → ⊥) → second_low b ≡ 0x80
unfolding second_low
low-else b p q = simp (ne_eqb b 0xe0 p, ne_eqb b 0xf0 q)

high-else : (b : ℕ) → (b ≡ 0xed → ⊥) → (b ≡ 0xf4 → ⊥) → second_high b ≡ 0xbf
unfolding second_high
high-else b p q = simp (ne_eqb b 0xed p, ne_eqb b 0xf4 q)

low-e0 : (b : ℕ) → b ≡ 0xe0 → second_low b ≡ 0xa0
unfolding second_low
low-e0 b e = simp (eq-eqb b 0xe0 e)

low-f0 : (b : ℕ) → b ≡ 0xf0 → second_low b ≡ 0x90
unfolding second_low
low-f0 b e = rw e

high-ed : (b : ℕ) → b ≡ 0xed → second_high b ≡ 0x9f
unfolding second_high
high-ed b e = simp (eq-eqb b 0xed e)

high-f4 : (b : ℕ) → b ≡ 0xf4 → second_high b ≡ 0x8f
unfolding second_high
high-f4 b e = rw e

plain-else : (b : ℕ) → 0xe0 ≤ b → b < 0xf0 → (b ≡ 0xed → ⊥) → ((b - 0xe0) * 4096 + (0xbf - 0x80) * 64 + 63 < 0xd800) ⊎ (0xe000 ≤ (b - 0xe0) * 4096)
plain-else b p q h = ⊎_elim (λ l. inl (omega arith)) (λ l. inr (omega arith)) (split b 0xed)

second-3 : (b : ℕ) → 0xe0 ≤ b → b < 0xf0 → Second3 b
second-3 b p q = elim (ℕ_discrete b 0xe0) as (λ _. Second3 b) [
  | yes e ↦ (let l = low-e0 b e in let h = high-else b (omega arith) (omega arith) in
      record { low = omega arith; high = omega arith; long = omega arith; plain = inl (omega arith) })
  | no e ↦ (let l = low-else b e (omega arith) in
      elim (ℕ_discrete b 0xed) as (λ _. Second3 b) [
        | yes f ↦ (let h = high-ed b f in record { low = omega arith; high = omega arith; long = omega arith; plain = inl (omega arith) })
        | no f ↦ (let h = high-else b f (omega arith) in record { low = omega arith; high = omega arith; long = omega arith; plain = rw h (plain-else b p q f) })
      ])
]

-- of four bytes
record Second4 (b : ℕ) : Type 0 where
  pub low : 0x80 ≤ second_low b
  pub high : second_high b ≤ 0xbf
  pub long : 0x10000 ≤ (b - 0xf0) * 262144 + (second_low b - 0x80) * 4096
  pub below : (b - 0xf0) * 262144 + (second_high b - 0x80) * 4096 + 4095 < 0x110000

second-4 : (b : ℕ) → 0xf0 ≤ b → b < 0xf5 → Second4 b
second-4 b p q = elim (ℕ_discrete b 0xf0) as (λ _. Second4 b) [
  | yes e ↦ (let l = low-f0 b e in let h = high-else b (omega arith) (omega arith) in record { low = omega arith; high = omega arith; long = omega arith; below = omega arith })
  | no e ↦ (let l = low-else b (omega arith) e in
      elim (ℕ_discrete b 0xf4) as (λ _. Second4 b) [
        | yes f ↦ (let h = high-f4 b f in record { low = omega arith; high = omega arith; long = omega arith; below = omega arith })
        | no f ↦ (let h = high-else b (omega arith) f in record { low = omega arith; high = omega arith; long = omega arith; below = omega arith })
      ])
]

-- what the step does, by the range of the first byte
char-1 : (b : ℕ) (t : List ℕ) → b < 0x80 → char_of (b ∷ t) ≡ got b 1 t
unfolding char_of
char-1 b t p = simp (lt-ltb b 0x80 p)

char-none : (b : ℕ) (t : List ℕ) → 0x80 ≤ b → b < 0xc2 → char_of (b ∷ t) ≡ bad
unfolding char_of
char-none b t p q = simp (le-ltb b 0x80 p, lt-ltb b 0xc2 q)

char-2 : (b : ℕ) (t : List ℕ) → 0xc2 ≤ b → b < 0xe0 → char_of (b ∷ t) ≡ rest_of 1 0x80 0xbf (b - 0xc0) 1 t
unfolding char_of
char-2 b t p q = simp (le-ltb b 0x80 (omega arith), le-ltb b 0xc2 p, lt-ltb b 0xe0 q)

char-3 : (b : ℕ) (t : List ℕ) → 0xe0 ≤ b → b < 0xf0 → char_of (b ∷ t) ≡ rest_of 2 (second_low b) (second_high b) (b - 0xe0) 1 t
unfolding char_of
char-3 b t p q = simp (le-ltb b 0x80 (omega arith), le-ltb b 0xc2 (omega arith), le-ltb b 0xe0 p, lt-ltb b 0xf0 q)

char-4 : (b : ℕ) (t : List ℕ) → 0xf0 ≤ b → b < 0xf5 → char_of (b ∷ t) ≡ rest_of 3 (second_low b) (second_high b) (b - 0xf0) 1 t
unfolding char_of
char-4 b t p q = simp (le-ltb b 0x80 (omega arith), le-ltb b 0xc2 (omega arith), le-ltb b 0xe0 (omega arith), le-ltb b 0xf0 p, lt-ltb b 0xf5 q)

char-past : (b : ℕ) (t : List ℕ) → 0xf5 ≤ b → char_of (b ∷ t) ≡ bad
unfolding char_of
char-past b t p = simp (le-ltb b 0x80 (omega arith), le-ltb b 0xc2 (omega arith), le-ltb b 0xe0 (omega arith), le-ltb b 0xf0 (omega arith), le-ltb b 0xf5 p)

rest_end : (lo hi v n : ℕ) (t : List ℕ) → rest_of 0 lo hi v n t ≡ got v n t
unfolding rest_of
rest_end lo hi v n t = refl

rest-on : (m lo hi v n b : ℕ) (bs : List ℕ) → lo ≤ b → b ≤ hi → rest_of (suc m) lo hi v n (b ∷ bs) ≡ rest_of m 0x80 0xbf (v * 64 + (b - 0x80)) (n + 1) bs
unfolding rest_of
rest-on m lo hi v n b bs p q = simp (le-ltb b lo p, le-ltb hi b q)

-- Whatever is encoded is taken.
abbrev Comes : ℕ → List ℕ → Type 0
Comes c t = char_of (utf8 c ++ t) ≡ got c (length (utf8 c)) t

value-4 : (c : ℕ) → ((c / 262144 * 64 + c / 4096 % 64) * 64 + c / 64 % 64) * 64 + c % 64 ≡ c
value-4 c =
    let e : c / 64 / 64 ≡ c / 4096 = omega arith in
    let f : c / 4096 / 64 ≡ c / 262144 = omega arith in
    omega arith

module _ (c : ℕ) (t : List ℕ) where
  comes-1 : c < 0x80 → Comes c t
  comes-1 p = rw (utf8-1 c p) (char-1 c t p)

  comes-2 : 0x80 ≤ c → c < 0x800 → Comes c t
  comes-2 p q = rw (utf8-2 c p q)
      (char-2 (0xc0 + c / 64) ((0x80 + c % 64) ∷ t) (omega arith) (omega arith)
      ∙ rest-on 0 0x80 0xbf (0xc0 + c / 64 - 0xc0) 1 (0x80 + c % 64) t (omega arith) (omega arith)
      ∙ rest_end 0x80 0xbf ((0xc0 + c / 64 - 0xc0) * 64 + (0x80 + c % 64 - 0x80)) 2 t
      ∙ ap (λ (d : ℕ). got d 2 t) (omega arith))

  -- the second byte of three lies within its limits
  within-3 : 0x800 ≤ c → c < 0x10000 → (c < 0xd800) ⊎ (0xe000 ≤ c) → (second_low (0xe0 + c / 4096) ≤ 0x80 + c / 64 % 64) × (0x80 + c / 64 % 64 ≤ second_high (0xe0 + c / 4096))
  within-3 p q w =
      ⊎_elim (λ l. (rw (low-e0 (0xe0 + c / 4096) (omega arith)) (omega arith), rw (high-else (0xe0 + c / 4096) (omega arith) (omega arith)) (omega arith)))
      (λ l. ⊎_elim
      (λ h. (rw (low-else (0xe0 + c / 4096) (omega arith) (omega arith)) (omega arith), rw (high-else (0xe0 + c / 4096) (omega arith) (omega arith)) (omega arith)))
      (λ h. ⊎_elim
      (λ u. (rw (low-else (0xe0 + c / 4096) (omega arith) (omega arith)) (omega arith), rw (high-ed (0xe0 + c / 4096) (omega arith)) (omega arith)))
      (λ u. (rw (low-else (0xe0 + c / 4096) (omega arith) (omega arith)) (omega arith), rw (high-else (0xe0 + c / 4096) (omega arith) (omega arith)) (omega arith)))
      w) (split c 0xd000)) (split c 0x1000)

  comes-3 : 0x800 ≤ c → c < 0x10000 → (c < 0xd800) ⊎ (0xe000 ≤ c) → Comes c t
  comes-3 p q w =
      let b = 0xe0 + c / 4096 in
      let v = 0xe0 + c / 4096 - 0xe0 in
      let x = 0x80 + c / 64 % 64 in
      let i = within-3 p q w in
      rw (utf8-3 c p q)
      (char-3 b (x ∷ (0x80 + c % 64) ∷ t) (omega arith) (omega arith)
      ∙ rest-on 1 (second_low b) (second_high b) v 1 x ((0x80 + c % 64) ∷ t) i.0 i.1
      ∙ rest-on 0 0x80 0xbf (v * 64 + (x - 0x80)) 2 (0x80 + c % 64) t (omega arith) (omega arith)
      ∙ rest_end 0x80 0xbf ((v * 64 + (x - 0x80)) * 64 + (0x80 + c % 64 - 0x80)) 3 t
      ∙ ap (λ (d : ℕ). got d 3 t) (omega arith))

  within-4 : 0x10000 ≤ c → c < 0x110000 → (second_low (0xf0 + c / 262144) ≤ 0x80 + c / 4096 % 64) × (0x80 + c / 4096 % 64 ≤ second_high (0xf0 + c / 262144))
  within-4 p q =
      ⊎_elim (λ l. (rw (low-f0 (0xf0 + c / 262144) (omega arith)) (omega arith), rw (high-else (0xf0 + c / 262144) (omega arith) (omega arith)) (omega arith)))
      (λ l. ⊎_elim
      (λ h. (rw (low-else (0xf0 + c / 262144) (omega arith) (omega arith)) (omega arith), rw (high-else (0xf0 + c / 262144) (omega arith) (omega arith)) (omega arith)))
      (λ h. (rw (low-else (0xf0 + c / 262144) (omega arith) (omega arith)) (omega arith), rw (high-f4 (0xf0 + c / 262144) (omega arith)) (omega arith)))
      (split c 0x100000)) (split c 0x40000)

  comes-4 : 0x10000 ≤ c → c < 0x110000 → Comes c t
  comes-4 p q =
      let b = 0xf0 + c / 262144 in
      let v = 0xf0 + c / 262144 - 0xf0 in
      let x = 0x80 + c / 4096 % 64 in
      let y = 0x80 + c / 64 % 64 in
      let i = within-4 p q in
      rw (utf8-4 c p)
      (char-4 b (x ∷ y ∷ (0x80 + c % 64) ∷ t) (omega arith) (omega arith)
      ∙ rest-on 2 (second_low b) (second_high b) v 1 x (y ∷ (0x80 + c % 64) ∷ t) i.0 i.1
      ∙ rest-on 1 0x80 0xbf (v * 64 + (x - 0x80)) 2 y ((0x80 + c % 64) ∷ t) (omega arith) (omega arith)
      ∙ rest-on 0 0x80 0xbf ((v * 64 + (x - 0x80)) * 64 + (y - 0x80)) 3 (0x80 + c % 64) t (omega arith) (omega arith)
      ∙ rest_end 0x80 0xbf (((v * 64 + (x - 0x80)) * 64 + (y - 0x80)) * 64 + (0x80 + c % 64 - 0x80)) 4 t
      ∙ ap (λ (d : ℕ). got d 4 t) (omega (arith, value-4 c)))

  pub step-complete : Scalar c → char_of (utf8 c ++ t) ≡ got c (length (utf8 c)) t
  step-complete w =
      ⊎_elim comes-1 (λ p. ⊎_elim (comes-2 p) (λ q. ⊎_elim (λ r. comes-3 q r w.plain) (λ r. comes-4 r w.below) (split c 0x10000)) (split c 0x800)) (split c 0x80)

-- Whatever is taken is encoded.
-- the digits of a number, six bits each
digits_3 : (x y z c : ℕ) → y < 64 → z < 64 → (x * 64 + y) * 64 + z ≡ c → (c / 4096 ≡ x) × (c / 64 % 64 ≡ y) × (c % 64 ≡ z)
digits_3 x y z c p q e =
    let d : c / 64 ≡ x * 64 + y = omega arith in
    (omega arith, rw d (omega arith), omega arith)

digits_4 : (w x y z c : ℕ) → x < 64 → y < 64 → z < 64 → ((w * 64 + x) * 64 + y) * 64 + z ≡ c → (c / 262144 ≡ w) × (c / 4096 % 64 ≡ x) × (c / 64 % 64 ≡ y) × (c % 64 ≡ z)
digits_4 w x y z c o p q e =
    let d = digits_3 (w * 64 + x) y z c p q e in
    (omega arith, rw d.0 (omega arith), d.1, d.2)

six : (y : ℕ) → y ≤ 0xbf → y - 0x80 < 64
six y p = omega arith

back : (y d : ℕ) → 0x80 ≤ y → d ≡ y - 0x80 → y ≡ 0x80 + d
back y d p e = omega arith

less : (x y : ℕ) → x ≤ y → x - 0x80 ≤ y - 0x80
less x y p = omega arith

first : (k b d : ℕ) → k ≤ b → d ≡ b - k → b ≡ k + d
first k b d p e = omega arith

bounds-3 : (v l h x y c : ℕ) → l ≤ x → x ≤ h → y < 64 → v < 16 → 0x800 ≤ v * 4096 + l * 64 → (v * 4096 + h * 64 + 63 < 0xd800) ⊎ (0xe000 ≤ v * 4096)
    → (v * 64 + x) * 64 + y ≡ c → x < 64 → (0x800 ≤ c) × (c < 0x10000) × ((c < 0xd800) ⊎ (0xe000 ≤ c))
bounds-3 v l h x y c p q r d s u e f = (omega arith, omega arith, ⊎_elim (λ z. inl (omega arith)) (λ z. inr (omega arith)) u)

bounds-4 : (v l h x y z c : ℕ) → l ≤ x → x ≤ h → y < 64 → z < 64 → 0x10000 ≤ v * 262144 + l * 4096 → v * 262144 + h * 4096 + 4095 < 0x110000
    → ((v * 64 + x) * 64 + y) * 64 + z ≡ c → (0x10000 ≤ c) × (c < 0x110000)
bounds-4 v l h x y z c p q r s u w e = (omega arith, omega arith)

record Next (m lo hi v n : ℕ) (bs : List ℕ) (o : Taken) : Type 0 where
  pub b : ℕ
  pub left : List ℕ
  pub is : bs ≡ b ∷ left
  pub low : lo ≤ b
  pub high : b ≤ hi
  pub on : rest_of m 0x80 0xbf (v * 64 + (b - 0x80)) (n + 1) left ≡ o

pub nothing-cut : (c n : ℕ) (t : List ℕ) → cut ≡ got c n t → ⊥
nothing-cut c n t e = let z : ◌≡◌ {A = ℕ} 0 1 = cc in omega arith

pub nothing-bad : (c n : ℕ) (t : List ℕ) → bad ≡ got c n t → ⊥
nothing-bad c n t e = let z : ◌≡◌ {A = ℕ} 0 1 = cc in omega arith

rest-inv : (m lo hi v n : ℕ) (bs : List ℕ) (c k : ℕ) (t : List ℕ) → rest_of (suc m) lo hi v n bs ≡ got c k t → Next m lo hi v n bs (got c k t)
unfolding rest_of
rest-inv m lo hi v n [] c k t e = absurd (nothing-cut c k t e)
rest-inv m lo hi v n (b ∷ bs) c k t e =
    ⊎_elim (λ p. absurd (nothing-bad c k t (rw (lt-ltb b lo p) at e)))
    (λ p. ⊎_elim (λ q. absurd (nothing-bad c k t (rw (le-ltb b lo p, lt-ltb hi b q) at e)))
    (λ q. record { b = b; left = bs; is = refl; low = p; high = q; on = rw (le-ltb b lo p, le-ltb hi b q) at e })
    (split hi b)) (split b lo)

pub record Spells (bs : List ℕ) (c n : ℕ) (t : List ℕ) : Type 0 where
  pub scalar : Scalar c
  pub spelt : bs ≡ utf8 c ++ t
  pub wide : n ≡ length (utf8 c)

module _ (b : ℕ) (bs : List ℕ) (c n : ℕ) (t : List ℕ) (e : char_of (b ∷ bs) ≡ got c n t) where
  spells-1 : b < 0x80 → Spells (b ∷ bs) c n t
  spells-1 p =
      let w : got b 1 bs ≡ got c n t = sym (char-1 b bs p) ∙ e in
      let f : b ≡ c = cc in
      let g : 1 ≡ n = cc in
      let h : bs ≡ t = cc in
      record { scalar = record { below = omega arith; plain = inl (omega arith) }; spelt = rw (utf8-1 c (omega arith)) (cc); wide = rw (utf8-1 c (omega arith)) (sym g) }

  spells-2 : 0xc2 ≤ b → b < 0xe0 → Spells (b ∷ bs) c n t
  spells-2 p q =
      let w = rest-inv 0 0x80 0xbf (b - 0xc0) 1 bs c n t (sym (char-2 b bs p q) ∙ e) in
      let on : got ((b - 0xc0) * 64 + (w.b - 0x80)) 2 w.left ≡ got c n t = sym (rest_end 0x80 0xbf ((b - 0xc0) * 64 + (w.b - 0x80)) 2 w.left) ∙ w.on in
      let f : (b - 0xc0) * 64 + (w.b - 0x80) ≡ c = cc in
      let g : 2 ≡ n = cc in
      let h : w.left ≡ t = cc in
      let i = w.is in
      let e₀ : b ≡ 0xc0 + c / 64 = omega arith in
      let e₁ : w.b ≡ 0x80 + c % 64 = omega arith in
      record { scalar = record { below = omega arith; plain = inl (omega arith) }; spelt = rw (utf8-2 c (omega arith) (omega arith)) (cc); wide = rw (utf8-2 c (omega arith) (omega arith)) (sym g) }

  spells-3 : 0xe0 ≤ b → b < 0xf0 → Spells (b ∷ bs) c n t
  spells-3 p q =
      let l = second-3 b p q in
      let v = b - 0xe0 in
      let w = rest-inv 1 (second_low b) (second_high b) v 1 bs c n t (sym (char-3 b bs p q) ∙ e) in
      let x = rest-inv 0 0x80 0xbf (v * 64 + (w.b - 0x80)) 2 w.left c n t w.on in
      let on : got ((v * 64 + (w.b - 0x80)) * 64 + (x.b - 0x80)) 3 x.left ≡ got c n t = sym (rest_end 0x80 0xbf ((v * 64 + (w.b - 0x80)) * 64 + (x.b - 0x80)) 3 x.left) ∙ x.on in
      let f : (v * 64 + (w.b - 0x80)) * 64 + (x.b - 0x80) ≡ c = cc in
      let g : 3 ≡ n = cc in
      let h : x.left ≡ t = cc in
      let i = w.is in
      let j = x.is in
      let w₁ : w.b ≤ 0xbf = le_trans w.high l.high in
      let w₀ : 0x80 ≤ w.b = le_trans l.low w.low in
      let m = digits_3 v (w.b - 0x80) (x.b - 0x80) c (six w.b w₁) (six x.b x.high) f in
      let k = bounds-3 v (second_low b - 0x80) (second_high b - 0x80) (w.b - 0x80) (x.b - 0x80) c (less (second_low b) w.b w.low)
      (less w.b (second_high b) w.high) (six x.b x.high) (omega arith) l.long l.plain f (six w.b w₁) in
      let e₀ = first 0xe0 b (c / 4096) p m.0 in
      let e₁ = back w.b (c / 64 % 64) w₀ m.1 in
      let e₂ = back x.b (c % 64) x.low m.2 in
      record { scalar = record { below = le_trans k.1 (lit≤ tt); plain = k.2 }; spelt = rw (utf8-3 c k.0 k.1) (cc); wide = rw (utf8-3 c k.0 k.1) (sym g) }

  spells-4 : 0xf0 ≤ b → b < 0xf5 → Spells (b ∷ bs) c n t
  spells-4 p q =
      let l = second-4 b p q in
      let v = b - 0xf0 in
      let w = rest-inv 2 (second_low b) (second_high b) v 1 bs c n t (sym (char-4 b bs p q) ∙ e) in
      let x = rest-inv 1 0x80 0xbf (v * 64 + (w.b - 0x80)) 2 w.left c n t w.on in
      let y = rest-inv 0 0x80 0xbf ((v * 64 + (w.b - 0x80)) * 64 + (x.b - 0x80)) 3 x.left c n t x.on in
      let on : got (((v * 64 + (w.b - 0x80)) * 64 + (x.b - 0x80)) * 64 + (y.b - 0x80)) 4 y.left ≡ got c n t = sym
      (rest_end 0x80 0xbf (((v * 64 + (w.b - 0x80)) * 64 + (x.b - 0x80)) * 64 + (y.b - 0x80)) 4 y.left) ∙ y.on in
      let f : ((v * 64 + (w.b - 0x80)) * 64 + (x.b - 0x80)) * 64 + (y.b - 0x80) ≡ c = cc in
      let g : 4 ≡ n = cc in
      let h : y.left ≡ t = cc in
      let i = w.is in
      let j = x.is in
      let o = y.is in
      let w₁ : w.b ≤ 0xbf = le_trans w.high l.high in
      let w₀ : 0x80 ≤ w.b = le_trans l.low w.low in
      let m = digits_4 v (w.b - 0x80) (x.b - 0x80) (y.b - 0x80) c (six w.b w₁) (six x.b x.high) (six y.b y.high) f in
      let k = bounds-4 v (second_low b - 0x80) (second_high b - 0x80) (w.b - 0x80) (x.b - 0x80) (y.b - 0x80) c
      (less (second_low b) w.b w.low) (less w.b (second_high b) w.high) (six x.b x.high) (six y.b y.high)
      l.long l.below f in
      let e₀ = first 0xf0 b (c / 262144) p m.0 in
      let e₁ = back w.b (c / 4096 % 64) w₀ m.1 in
      let e₂ = back x.b (c / 64 % 64) x.low m.2 in
      let e₃ = back y.b (c % 64) y.low m.3 in
      record { scalar = record { below = k.1; plain = inr (le_trans (lit≤ tt) k.0) }; spelt = rw (utf8-4 c k.0) (cc); wide = rw (utf8-4 c k.0) (sym g) }

  spells : Spells (b ∷ bs) c n t
  spells =
      ⊎_elim spells-1 (λ p. ⊎_elim (λ q. absurd (nothing-bad c n t (sym (char-none b bs p q) ∙ e))) (λ q. ⊎_elim (spells-2 q) (λ r. ⊎_elim (spells-3 r) (λ s. ⊎_elim (spells-4 s)
      (λ u. absurd (nothing-bad c n t (sym (char-past b bs u) ∙ e))) (split b 0xf5)) (split b 0xf0)) (split b 0xe0)) (split b 0xc2)) (split b 0x80)

pub step-sound : (bs : List ℕ) (c n : ℕ) (t : List ℕ) → char_of bs ≡ got c n t → Spells bs c n t
unfolding char_of
step-sound [] c n t e = absurd (nothing-cut c n t e)
step-sound (b ∷ bs) c n t e = spells b bs c n t e
