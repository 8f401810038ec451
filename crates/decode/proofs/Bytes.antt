-- The bytes of one character at a place: what its first byte says, and one byte more.
use mathlib.Core.Path.{◌≡◌, refl, sym, ap, ◌∙◌}
use mathlib.Core.Bool.{Bool, true, false}
use mathlib.Core.Logic.{⊎_elim}
use mathlib.Core.List.{List, ◌∷◌}
use Prim.Native.Nat.{ℕ, zero, suc, ◌+◌, ◌*◌, ◌-◌, ◌≤◌, ◌<◌}
use native.Mathlib.Omega.{arith}
use native.Mathlib.Decide.{ℕ_discrete}
use lib.Dec.{eqb, ltb}
use lib.ListN.{length, get_or, drop, drop_of_length-le}
use lib.Seq.{drop-cons}
use borrow.Author.Tests.{lt-ltb, le-ltb, le-leb, lt-leb, eq-eqb, ne_eqb}
use Rattle.text.specs.Lists.{pick, inside, span}
use Rattle.text.specs.Decode.{Taken, got, cut, bad, second_low, second_high, rest_of, char_of}
use Rattle.text.proofs.Tests.{split, clash}
use Rattle.decode.specs.declared.sequence.Sequence.{Sequence}
use Rattle.decode.specs.Sequence.{lead, lead_of, taking, Takes}

pub lead-1 : (b : ℕ) → b < 0x80 → lead_of b ≡ lead 0 b b
unfolding lead_of
lead-1 b p = simp (lt-ltb b 0x80 p)

pub lead-none : (b : ℕ) → 0x80 ≤ b → b < 0xc2 → lead_of b ≡ lead 4 0 b
unfolding lead_of
lead-none b p q = simp (le-ltb b 0x80 p, lt-ltb b 0xc2 q)

pub lead-2 : (b : ℕ) → 0xc2 ≤ b → b < 0xe0 → lead_of b ≡ lead 1 (b - 0xc0) b
unfolding lead_of
lead-2 b p q = simp (le-ltb b 0x80 (omega arith), le-ltb b 0xc2 p, lt-ltb b 0xe0 q)

pub lead-3 : (b : ℕ) → 0xe0 ≤ b → b < 0xf0 → lead_of b ≡ lead 2 (b - 0xe0) b
unfolding lead_of
lead-3 b p q = simp (le-ltb b 0x80 (omega arith), le-ltb b 0xc2 (omega arith), le-ltb b 0xe0 p, lt-ltb b 0xf0 q)

pub lead-4 : (b : ℕ) → 0xf0 ≤ b → b < 0xf5 → lead_of b ≡ lead 3 (b - 0xf0) b
unfolding lead_of
lead-4 b p q = simp (le-ltb b 0x80 (omega arith), le-ltb b 0xc2 (omega arith), le-ltb b 0xe0 (omega arith), le-ltb b 0xf0 p, lt-ltb b 0xf5 q)

pub lead-past : (b : ℕ) → 0xf5 ≤ b → lead_of b ≡ lead 4 0 b
unfolding lead_of
lead-past b p = simp (le-ltb b 0x80 (omega arith), le-ltb b 0xc2 (omega arith), le-ltb b 0xe0 (omega arith), le-ltb b 0xf0 (omega arith), le-ltb b 0xf5 p)

-- a character by its first byte
abbrev pub after_lead : Sequence → List ℕ → Taken
after_lead l bs = pick (eqb l.more 4) bad (rest_of l.more l.low l.high l.bits 1 bs)

low-two : (b : ℕ) → b < 0xe0 → second_low b ≡ 0x80
unfolding second_low
low-two b p = simp (ne_eqb b 0xe0 (λ e. omega arith), ne_eqb b 0xf0 (λ e. omega arith))

high-two : (b : ℕ) → b < 0xe0 → second_high b ≡ 0xbf
unfolding second_high
high-two b p = simp (ne_eqb b 0xed (λ e. omega arith), ne_eqb b 0xf4 (λ e. omega arith))

-- what holds of the lead holds at its six cases
by-lead : (P : Sequence → Type 0) (b : ℕ) → (b < 0x80 → P (lead 0 b b)) → (0x80 ≤ b → P (lead 4 0 b)) → (0xc2 ≤ b → b < 0xe0 → P (lead 1 (b - 0xc0) b))
    → (0xe0 ≤ b → b < 0xf0 → P (lead 2 (b - 0xe0) b)) → (0xf0 ≤ b → b < 0xf5 → P (lead 3 (b - 0xf0) b)) → P (lead_of b)
by-lead P b h₁ h₀ h₂ h₃ h₄ =
    ⊎_elim (λ q. rw (lead-1 b q) (h₁ q))
    (λ p. ⊎_elim (λ q. rw (lead-none b p q) (h₀ p))
    (λ p₂. ⊎_elim (λ q. rw (lead-2 b p₂ q) (h₂ p₂ q))
    (λ p₃. ⊎_elim (λ q. rw (lead-3 b p₃ q) (h₃ p₃ q))
    (λ p₄. ⊎_elim (λ q. rw (lead-4 b p₄ q) (h₄ p₄ q))
    (λ p₅. rw (lead-past b p₅) (h₀ p))
    (split b 0xf5)) (split b 0xf0)) (split b 0xe0)) (split b 0xc2)) (split b 0x80)

pub by_first : (b : ℕ) (bs : List ℕ) → char_of (b ∷ bs) ≡ after_lead (lead_of b) bs
unfolding char_of lead_of rest_of
by_first b bs =
    ⊎_elim (λ q. simp (lt-ltb b 0x80 q))
    (λ p. ⊎_elim (λ q. simp (le-ltb b 0x80 p, lt-ltb b 0xc2 q))
    (λ p₂. ⊎_elim (λ q. simp (le-ltb b 0x80 p, le-ltb b 0xc2 p₂, lt-ltb b 0xe0 q, low-two b q, high-two b q))
    (λ p₃. ⊎_elim (λ q. simp (le-ltb b 0x80 p, le-ltb b 0xc2 p₂, le-ltb b 0xe0 p₃, lt-ltb b 0xf0 q))
    (λ p₄. ⊎_elim (λ q. simp (le-ltb b 0x80 p, le-ltb b 0xc2 p₂, le-ltb b 0xe0 p₃, le-ltb b 0xf0 p₄, lt-ltb b 0xf5 q))
    (λ p₅. simp (le-ltb b 0x80 p, le-ltb b 0xc2 p₂, le-ltb b 0xe0 p₃, le-ltb b 0xf0 p₄, le-ltb b 0xf5 p₅))
    (split b 0xf5)) (split b 0xf0)) (split b 0xe0)) (split b 0xc2)) (split b 0x80)

low-least : (b : ℕ) → 0x80 ≤ second_low b
unfolding second_low
low-least b = go (eqb b 0xe0) (eqb b 0xf0)
  where
    go : (x y : Bool) → 0x80 ≤ pick x 0xa0 (pick y 0x90 0x80)
    go true y = omega arith
    go false true = omega arith
    go false false = omega arith

ordered : (b : ℕ) → second_low b ≤ second_high b
unfolding second_low second_high
ordered b = elim (ℕ_discrete b 0xe0) as (λ _. second_low b ≤ second_high b) [
  | yes e ↦ rw e (omega arith)
  | no e ↦ elim (ℕ_discrete b 0xf0) as (λ _. second_low b ≤ second_high b) [
    | yes f ↦ rw f (omega arith)
    | no f ↦ rw (ne_eqb b 0xe0 e, ne_eqb b 0xf0 f) (go (eqb b 0xed) (eqb b 0xf4))
  ]
]
  where
    go : (x y : Bool) → 0x80 ≤ pick x 0x9f (pick y 0x8f 0xbf)
    go true y = omega arith
    go false true = omega arith
    go false false = omega arith

high-most : (b : ℕ) → second_high b ≤ 0xbf
unfolding second_high
high-most b = go (eqb b 0xed) (eqb b 0xf4)
  where
    go : (x y : Bool) → pick x 0x9f (pick y 0x8f 0xbf) ≤ 0xbf
    go true y = omega arith
    go false true = omega arith
    go false false = omega arith

-- the greatest value, and one more, before m bytes
unfoldable pub top : ℕ → ℕ
top zero = 2097152
top (suc zero) = 32768
top (suc (suc zero)) = 512
top (suc (suc (suc m))) = 8

-- a sequence that some first byte and bytes after it led to
pub record Sane (s : Sequence) : Type 0 where
  pub few : s.more ≤ 3
  pub low : 0x80 ≤ s.low
  pub high : s.high ≤ 0xbf
  pub order : s.low ≤ s.high
  pub small : s.bits < top s.more

made-sane : (m v b : ℕ) → m ≤ 3 → v < top m → Sane (lead m v b)
made-sane m v b p q = record { few = p; low = low-least b; high = high-most b; order = ordered b; small = q }

pub sane : (b : ℕ) → ((lead_of b).more ≡ 4 → ⊥) → Sane (lead_of b)
unfolding top
sane b =
    by-lead (λ s. (s.more ≡ 4 → ⊥) → Sane s) b (λ q n. made-sane 0 b b (omega arith) (omega arith)) (λ p n. absurd (n refl))
    (λ p q n. made-sane 1 (b - 0xc0) b (omega arith) (omega arith)) (λ p q n. made-sane 2 (b - 0xe0) b (omega arith) (omega arith))
    (λ p q n. made-sane 3 (b - 0xf0) b (omega arith) (omega arith))

top-on : (m v d : ℕ) → m ≤ 3 → 0 < m → v < top m → d < 64 → (v < 32768) × (v * 64 + d < top (m - 1))
unfolding top
top-on zero v d p q r e = absurd (omega arith)
top-on (suc zero) v d p q r e = (omega arith, omega arith)
top-on (suc (suc zero)) v d p q r e = (omega arith, omega arith)
top-on (suc (suc (suc zero))) v d p q r e = (omega arith, omega arith)
top-on (suc (suc (suc (suc m)))) v d p q r e = absurd (omega arith)

-- what is left to read after the bytes from i to j: the sequence s at j
pub record In (bs : List ℕ) (i j : ℕ) (s : Sequence) : Type 0 where
  pub sane : Sane s
  pub begun : i < j
  pub within : j ≤ length bs
  pub on : char_of (drop i bs) ≡ rest_of s.more s.low s.high s.bits (j - i) (drop j bs)

module _ (bs : List ℕ) (i : ℕ) (h : i < length bs) (s : Sequence) (e : s ≡ lead_of (get_or bs i 0)) where
  at_first : char_of (drop i bs) ≡ after_lead s (drop (suc i) bs)
  at_first = rw (drop-cons bs i 0 h) (rw e (by_first (get_or bs i 0) (drop (suc i) bs)))

  pub never : s.more ≡ 4 → char_of (drop i bs) ≡ bad
  never f = at_first ∙ rw (eq-eqb s.more 4 f)

  pub begins : (s.more ≡ 4 → ⊥) → (j : ℕ) → j ≡ i + 1 → In bs i j s
  begins f j p =
      let q : j ≡ suc i = omega arith in
      let r : j - i ≡ 1 = omega arith in
      record {
        sane = rw e (sane (get_or bs i 0) (λ z. f (ap (λ (x : Sequence). x.more) e ∙ z)));
        begun = omega arith;
        within = omega arith;
        on = at_first ∙ rw (ne_eqb s.more 4 f, r, q);
      }

module _ (bs : List ℕ) (i j : ℕ) (s : Sequence) (w : In bs i j s) where
  pub done : s.more ≤ 0 → char_of (drop i bs) ≡ got s.bits (j - i) (drop j bs)
  unfolding rest_of
  done p = let q : s.more ≡ 0 = omega arith in w.on ∙ rw q

  module _ (p : 0 < s.more) where
    more : s.more ≡ suc (s.more - 1)
    more = omega arith

    pub ends : length bs ≤ j → char_of (drop i bs) ≡ cut
    unfolding rest_of
    ends h = w.on ∙ rw (more, drop_of_length-le bs h)

    module _ (h : j < length bs) (b : ℕ) (e : b ≡ get_or bs j 0) where
      at_next : char_of (drop i bs) ≡ pick (ltb b s.low) bad (pick (ltb s.high b) bad (rest_of (s.more - 1) 0x80 0xbf (s.bits * 64 + (b - 0x80)) (j - i + 1) (drop (suc j) bs)))
      unfolding rest_of
      at_next =
          w.on ∙ ap (λ (m : ℕ). rest_of m s.low s.high s.bits (j - i) (drop j bs)) more
          ∙ ap (rest_of (suc (s.more - 1)) s.low s.high s.bits (j - i)) (drop-cons bs j 0 h ∙ ap (λ (x : ℕ). x ∷ drop (suc j) bs) (sym e))

      pub other : inside b (span s.low s.high) ≡ false → char_of (drop i bs) ≡ bad
      other f =
          ⊎_elim (λ q. at_next ∙ rw (lt-ltb b s.low q))
          (λ q. ⊎_elim (λ r. at_next ∙ rw (le-ltb b s.low q, lt-ltb s.high b r))
          (λ r. absurd (clash f (rw (le-leb s.low b q, le-leb b s.high r)))) (split s.high b)) (split b s.low)

      module _ (f : inside b (span s.low s.high) ≡ true) where
        low : s.low ≤ b
        low = ⊎_elim (λ q. absurd (clash {b = inside b (span s.low s.high)} (rw (lt-leb s.low b q)) f)) (λ q. q) (split b s.low)

        high : b ≤ s.high
        high = ⊎_elim (λ q. absurd (clash {b = inside b (span s.low s.high)} (rw (le-leb s.low b low, lt-leb b s.high q)) f)) (λ q. q) (split s.high b)

        grown : (s.bits < 32768) × (s.bits * 64 + (b - 0x80) < top (s.more - 1))
        grown = let z = w.sane in let t = high in let l = z.high in top-on s.more s.bits (b - 0x80) z.few p z.small (omega arith)

        pub takes : Takes s b
        takes = let z = w.sane in let l = low in let t = high in record { some = p; small = grown.0; low = omega arith; high = omega arith }

        pub next : (r : Sequence) → r ≡ taking s b → (k : ℕ) → k ≡ j + 1 → In bs i k r
        next r g k q =
            let z = w.sane in
            let few = z.few in
            let u = w.begun in
            let m : k ≡ suc j = omega arith in
            let n : j - i + 1 ≡ k - i = omega arith in
            rw g (record {
              sane = record { few = omega arith; low = omega arith; high = omega arith; order = omega arith; small = grown.1 };
              begun = omega arith;
              within = omega arith;
              on = at_next ∙ rw (le-ltb b s.low low, le-ltb s.high b high, n, m);
            })
