-- Signs and digits, put.
use mathlib.Core.Path.{◌≡◌, refl, sym, ap, ◌∙◌}
use mathlib.Core.Logic.{⊎_elim}
use mathlib.Core.List.{List, [], ◌∷◌, ◌++◌}
use Prim.Native.Nat.{ℕ, zero, suc, ◌+◌, ◌*◌, ◌/◌, ◌%◌, ◌<◌, ◌≤◌}
use native.Mathlib.Nat.{div-div-eq-div-mul}
use native.Mathlib.Omega.{arith}
use lib.Dec.{eqb}
use lib.ListN.{length, take}
use borrow.Author.Tests.{eq-eqb, ne_eqb, lt-ltb, le-ltb}
use Rattle.text.specs.Lists.{Text, chars, pick, concat_map}
use Rattle.text.specs.Utf8.{utf8}
use Rattle.text.proofs.Tests.{split}
use Rattle.tree.specs.Tokens.{capped}
use Rattle.encode.specs.Out.{state, puts, enc, Wrote}
use Rattle.encode.proofs.Puts.{wrote-text, wrote-bytes, and_then, enc-one}
use Rattle.encode.proofs.Texts.{text-end}
use Rattle.tidy.specs.Tidy.{quoted_char, quoted_text, lower_digit, hex_text}
use Rattle.tidy.specs.Numbers.{sign_by}
use Rattle.tidy.proofs.Numbers.{numbered}
use Rattle.tidy_parts.specs.Parts.{coded_text}

module _ (k : ℕ) where
  pub sign-1 : k ≡ 1 → sign_by k ≡ chars "^"
  unfolding sign_by
  sign-1 e = rw (eq-eqb k 1 e)

  pub sign-2 : (k ≡ 1 → ⊥) → k ≡ 2 → sign_by k ≡ chars "@"
  unfolding sign_by
  sign-2 f e = rw (ne_eqb k 1 f, eq-eqb k 2 e)

  pub sign-3 : (k ≡ 1 → ⊥) → (k ≡ 2 → ⊥) → k ≡ 3 → sign_by k ≡ chars "-"
  unfolding sign_by
  sign-3 f g e = rw (ne_eqb k 1 f, ne_eqb k 2 g, eq-eqb k 3 e)

  pub sign-0 : (k ≡ 1 → ⊥) → (k ≡ 2 → ⊥) → (k ≡ 3 → ⊥) → sign_by k ≡ []
  unfolding sign_by
  sign-0 f g h = rw (ne_eqb k 1 f, ne_eqb k 2 g, ne_eqb k 3 h)

pub low_digit : (d : ℕ) → d < 10 → lower_digit d ≡ 0x30 + d
low_digit d h = rw (lt-ltb d 10 h)

pub high_digit : (d : ℕ) → 10 ≤ d → lower_digit d ≡ 0x57 + d
high_digit d h = rw (le-ltb d 10 h)

-- a byte below 80 is its character
pub enc-low : (c : ℕ) → c < 0x80 → enc (c ∷ []) ≡ c ∷ []
unfolding utf8
enc-low c h = let e : capped c ≡ c = omega arith in rw (enc-one c, e, lt-ltb c 0x80 h)

-- the digits of a number, and none of 0
unfoldable pub leading : ℕ → Text
leading n = pick (eqb n 0) [] (hex_text n)

pub leading-none : (n : ℕ) → n ≤ 0 → leading n ≡ []
unfolding leading
leading-none n h = rw (eq-eqb n 0 (omega arith))

leading-some : (n : ℕ) → 0 < n → leading n ≡ hex_text n
unfolding leading
leading-some n h = rw (ne_eqb n 0 (λ (e : n ≡ 0). omega arith))

-- 16, and 16 times such a number
abbrev power : ℕ → ℕ
power zero = 16
power (suc k) = 16 * power k

pub record Power (u : ℕ) : Type 0 where
  pub exponent : ℕ
  pub is : u ≡ power exponent

power-high : (k : ℕ) → 16 ≤ power k
power-high zero = omega arith
power-high (suc k) = let h = power-high k in omega arith

pub power-some : {u : ℕ} → Power u → 0 < u / 16
power-some {u} w = let h = power-high w.exponent in let e = w.is in omega arith

power-whole : (k : ℕ) → power k / 16 * 16 ≡ power k
power-whole zero = refl
power-whole (suc k) = omega arith

pub power-down : {u : ℕ} → Power u → 16 < u → Power (u / 16)
power-down w h = go w.exponent _ w.is h
  where
    go : (k u : ℕ) → u ≡ power k → 16 < u → Power (u / 16)
    go zero u e h = absurd (omega arith)
    go (suc k) u e h = record { exponent = k; is = omega arith }

pub power-low : {u : ℕ} → Power u → u ≤ 16 → u ≡ 16
power-low w h = let l = power-high w.exponent in let e = w.is in omega arith

module _ {l p p₁ : ℕ} {o o₁ : List ℕ} where
  -- as the digits before the next one
  pub leading-next : (n u : ℕ) → Power u → Wrote l p o p₁ o₁ (leading (n / u)) → Wrote l p o p₁ o₁ (leading (n / (u / 16) / 16))
  leading-next n u w = wrote-text (ap leading (div-div-eq-div-mul n (u / 16) 16 ∙ ap (λ (v : ℕ). n / v) (rw w.is (power-whole w.exponent))))

  pub still-none : (n : ℕ) → n ≤ 0 → Wrote l p o p₁ o₁ (leading (n / 16)) → Wrote l p o p₁ o₁ (leading n)
  still-none n h = wrote-text (ap leading (let e : n ≡ n / 16 = omega arith in e))

  module _ {p₂ : ℕ} {o₂ : List ℕ} (n : ℕ) (a : Wrote l p o p₁ o₁ (leading (n / 16))) (b : Wrote l p₁ o₁ p₂ o₂ (lower_digit (n % 16) ∷ [])) where
    -- the last digit behind the others
    pub last-digit : Wrote l p o p₂ o₂ (hex_text n)
    last-digit = wrote-text (digits n) (and_then a b)
      where
        digits : (n : ℕ) → hex_text n ≡ leading (n / 16) ++ lower_digit (n % 16) ∷ []
        digits n = ⊎_elim
            (λ h. let e : n % 16 ≡ n = omega arith in rw (leading-none (n / 16) (omega arith), e) (numbered.one_digit n h))
            (λ h. rw (leading-some (n / 16) (omega arith)) (numbered.more_digits n h))
            (split n 16)

    pub next-digit : 0 < n → Wrote l p o p₂ o₂ (leading n)
    next-digit h = wrote-text (leading-some n h) last-digit

module _ (c : ℕ) where
  pub in-quotes-quote : c ≡ 0x22 → quoted_char c ≡ 0x22 ∷ 0x22 ∷ []
  in-quotes-quote e = rw (eq-eqb c 0x22 e)

  pub in-quotes-other : (c ≡ 0x22 → ⊥) → quoted_char c ≡ c ∷ []
  in-quotes-other f = rw (ne_eqb c 0x22 f)

-- a quote, all characters, a quote
pub quotes-around : {l p p₁ p₂ p₃ : ℕ} {o o₁ o₂ o₃ : List ℕ} (cs : Text) (i : ℕ) → length cs ≤ i → state p₁ o₁ ≡ puts l (state p o) (0x22 ∷ [])
    → Wrote l p₁ o₁ p₂ o₂ (concat_map quoted_char (take i cs)) → state p₃ o₃ ≡ puts l (state p₂ o₂) (0x22 ∷ []) → Wrote l p o p₃ o₃ (quoted_text cs)
quotes-around cs i h a w b =
    let quote = enc-low 0x22 (omega arith) in
    and_then {ys = concat_map quoted_char cs ++ chars "\""} (wrote-bytes _ a quote) (and_then (text-end quoted_char cs i h w) (wrote-bytes _ b quote))

-- a hex number behind its sign
pub after-hash : {l p p₁ p₂ : ℕ} {o o₁ o₂ : List ℕ} (n m : ℕ) → m ≡ capped n → state p₁ o₁ ≡ puts l (state p o) (0x23 ∷ [])
    → Wrote l p₁ o₁ p₂ o₂ (hex_text m) → Wrote l p o p₂ o₂ (coded_text n)
after-hash n m e a b = and_then {xs = chars "#"} (wrote-bytes _ a (enc-low 0x23 (omega arith))) (wrote-text (ap hex_text (sym e)) b)
