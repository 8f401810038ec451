-- Laws of the state's numbers.
use mathlib.Core.Bool.{Bool, true, false}
use mathlib.Core.List.{List}
use mathlib.Core.Logic.{◌⊎◌, inl, inr}
use mathlib.Core.Path.{◌≡◌, refl, sym, ◌∙◌}
use Prim.Native.Nat.{ℕ, ◌+◌, ◌<◌, ◌≤◌}
use native.Mathlib.Decide.{dec_lt, ℕ_discrete}
use native.Mathlib.Omega.{arith}
use lib.Dec.{eqb}
use lib.ListN.{length, get_or, set, length-set, get_or-eq_default}
use lib.Seq.{get_or-set_same, get_or-set_other}
use borrow.Author.Tests.{eqb-true, eq-eqb}
use Rattle.tells.specs.Tells.{Tells}
use Rattle.tells.proofs.Tells.{hit, miss}
use Rattle.state.specs.State.{state_length, rounds_of, BytesAt, Head, Keeps, Kept, headed, Counted, Blank}

pub equal : (x y z : ℕ) → x ≡ z → Tells (eqb x y) (z ≡ y)
equal x y z e = record { yes = λ q. sym e ∙ eqb-true x y q; no = λ q. eq-eqb x y (e ∙ q) }

-- bytes, one after the other
module _ (S bs : List ℕ) (at : ℕ) where
  abbrev pub Upto : ℕ → Type 0
  Upto b = (i : ℕ) → i < b → get_or S (at + i) 0 ≡ get_or bs i 0

  pub upto_next : (i x : ℕ) → Upto i → x ≡ get_or bs i 0 → get_or S (at + i) 0 ≡ x → Upto (i + 1)
  upto_next i x a e q j l = elim (ℕ_discrete j i) as (λ _. get_or S (at + j) 0 ≡ get_or bs j 0) [
    | yes o ↦ rw o (q ∙ e)
    | no o ↦ a j (omega arith)
  ]

  pub bytes-differ : (i x : ℕ) → i < length bs → x ≡ get_or bs i 0 → (get_or S (at + i) 0 ≡ x → ⊥) → Tells false (BytesAt S at bs)
  bytes-differ i x l e n = miss (λ a. n (a i l ∙ sym e))

  pub bytes-all : (i : ℕ) → length bs ≤ i → Upto i → Tells true (BytesAt S at bs)
  bytes-all i l a = hit (λ j h. a j (omega arith))

-- the head
module _ (S : List ℕ) (g r : ℕ) where
  pub head-by : (x : ℕ) → x ≡ get_or S 4 0 → get_or S 0 0 ≡ 1769500012 → rounds_of S ≤ 102912 → get_or S 2 0 ≤ 1 → get_or S 3 0 ≡ g → g ≤ 4096 → r ≤ 800 → Tells (eqb x r) (Head S g r)
  head-by x e a b c d f h =
      let t = equal x r (get_or S 4 0) e in
      record {
        yes = λ q. record { tag = a; few = b; told = c; grammar = d; input = t.yes q; grammar-short = f; input-short = h };
        no = λ w. t.no w.input;
      }

pub keeps-by : {gs rs S : List ℕ} {b : Bool} → Head S (length gs) (length rs) → BytesAt S 8 gs → Tells b (BytesAt S 4104 rs) → Tells b (Keeps gs rs S)
keeps-by h g t = record { yes = λ q. record { head = h; grammar = g; input = t.yes q }; no = λ w. t.no w.input }

-- storing bytes
module _ (S₀ bs : List ℕ) (at : ℕ) where
  pub record Keeping (S : List ℕ) (b : ℕ) : Type 0 where
    pub within : b ≤ length bs
    pub long : length S ≡ length S₀
    pub bytes : (i : ℕ) → i < b → get_or S (at + i) 0 ≡ get_or bs i 0
    pub other : (x : ℕ) → (x < at) ⊎ (at + b ≤ x) → get_or S x 0 ≡ get_or S₀ x 0

  pub keeping_start : Keeping S₀ 0
  keeping_start = record { within = omega arith; long = refl; bytes = λ i l. absurd (omega arith); other = λ x _. refl }

  pub keeping-next : (S : List ℕ) (b v : ℕ) → Keeping S b → b < length bs → at + length bs ≤ length S₀ → v ≡ get_or bs b 0 → Keeping (set S (at + b) v) (b + 1)
  keeping-next S b v a l room e = record {
    within = omega arith;
    long = length-set S (at + b) v ∙ a.long;
    bytes = λ i h. elim (ℕ_discrete i b) as (λ _. get_or (set S (at + b) v) (at + i) 0 ≡ get_or bs i 0) [
      | yes o ↦ rw o (get_or-set_same S (at + b) v 0 (omega (arith, a.long)) ∙ e)
      | no o ↦ get_or-set_other S (at + b) (at + i) v 0 (λ q. o (omega arith)) ∙ a.bytes i (omega arith)
    ];
    other = λ x h. get_or-set_other S (at + b) x v 0 (λ q. outside x q h) ∙ a.other x (wider x h);
  }
    where
      outside : (x : ℕ) → x ≡ at + b → (x < at) ⊎ (at + (b + 1) ≤ x) → ⊥
      outside x q (inl w) = omega arith
      outside x q (inr w) = omega arith

      wider : (x : ℕ) → (x < at) ⊎ (at + (b + 1) ≤ x) → (x < at) ⊎ (at + b ≤ x)
      wider x (inl w) = inl w
      wider x (inr w) = inr (omega arith)

  pub keeping-end : (S : List ℕ) (b : ℕ) → length bs ≤ b → Keeping S b → Kept S₀ S at bs
  keeping-end S b l a = record { long = a.long; bytes = λ i h. a.bytes i (omega arith); other = λ x h. a.other x (back x h) }
    where
      back : (x : ℕ) → (x < at) ⊎ (at + length bs ≤ x) → (x < at) ⊎ (at + b ≤ x)
      back x (inl w) = inl w
      back x (inr w) = inr (omega (arith, a.within))

pub counted : (S : List ℕ) (k f : ℕ) → length S ≡ state_length → Counted S (set (set S 1 k) 2 f) k f
counted S k f l = record {
  long = length-set (set S 1 k) 2 f ∙ length-set S 1 k;
  rounds-are = get_or-set_other (set S 1 k) 2 1 f 0 (λ q. omega arith) ∙ get_or-set_same S 1 k 0 (omega arith);
  told = get_or-set_same (set S 1 k) 2 f 0 (omega (arith, length-set S 1 k));
  other = λ x a b. get_or-set_other (set S 1 k) 2 x f 0 b ∙ get_or-set_other S 1 x k 0 a;
}

-- the five numbers of a read that begins
module _ (S : List ℕ) (g r : ℕ) (l : length S ≡ state_length) where
  abbrev S₀ : List ℕ
  S₀ = set S 0 1769500012

  abbrev S₁ : List ℕ
  S₁ = set S₀ 1 0

  abbrev S₂ : List ℕ
  S₂ = set S₁ 2 0

  abbrev S₃ : List ℕ
  S₃ = set S₂ 3 g

  abbrev H : List ℕ
  H = headed S g r

  long₀ : length S₀ ≡ state_length
  long₀ = length-set S 0 1769500012 ∙ l

  long₁ : length S₁ ≡ state_length
  long₁ = length-set S₀ 1 0 ∙ long₀

  long₂ : length S₂ ≡ state_length
  long₂ = length-set S₁ 2 0 ∙ long₁

  long₃ : length S₃ ≡ state_length
  long₃ = length-set S₂ 3 g ∙ long₂

  pub after-head : (x : ℕ) → 4 < x → get_or H x 0 ≡ get_or S x 0
  after-head x h =
      get_or-set_other S₃ 4 x r 0 (λ q. omega arith) ∙ get_or-set_other S₂ 3 x g 0 (λ q. omega arith) ∙ get_or-set_other S₁ 2 x 0 0 (λ q. omega arith)
      ∙ get_or-set_other S₀ 1 x 0 0 (λ q. omega arith) ∙ get_or-set_other S 0 x 1769500012 0 (λ q. omega arith)

  is-0 : get_or H 0 0 ≡ 1769500012
  is-0 =
      get_or-set_other S₃ 4 0 r 0 (λ q. omega arith) ∙ get_or-set_other S₂ 3 0 g 0 (λ q. omega arith) ∙ get_or-set_other S₁ 2 0 0 0 (λ q. omega arith)
      ∙ get_or-set_other S₀ 1 0 0 0 (λ q. omega arith) ∙ get_or-set_same S 0 1769500012 0 (omega arith)

  pub is-1 : get_or H 1 0 ≡ 0
  is-1 =
      get_or-set_other S₃ 4 1 r 0 (λ q. omega arith) ∙ get_or-set_other S₂ 3 1 g 0 (λ q. omega arith) ∙ get_or-set_other S₁ 2 1 0 0 (λ q. omega arith)
      ∙ get_or-set_same S₀ 1 0 0 (omega (arith, long₀))

  pub is-2 : get_or H 2 0 ≡ 0
  is-2 = get_or-set_other S₃ 4 2 r 0 (λ q. omega arith) ∙ get_or-set_other S₂ 3 2 g 0 (λ q. omega arith) ∙ get_or-set_same S₁ 2 0 0 (omega (arith, long₁))

  is-3 : get_or H 3 0 ≡ g
  is-3 = get_or-set_other S₃ 4 3 r 0 (λ q. omega arith) ∙ get_or-set_same S₂ 3 g 0 (omega (arith, long₂))

  is-4 : get_or H 4 0 ≡ r
  is-4 = get_or-set_same S₃ 4 r 0 (omega (arith, long₃))

  pub headed-long : length H ≡ state_length
  headed-long = length-set S₃ 4 r ∙ long₃

  pub head_of : g ≤ 4096 → r ≤ 800 → Head H g r
  head_of a b = record { tag = is-0; few = omega (arith, is-1); told = omega (arith, is-2); grammar = is-3; input = is-4; grammar-short = a; input-short = b }

-- a state that begins
pub begun : {gs rs A B : List ℕ} (C : List ℕ) (l : length C ≡ state_length) → length gs ≤ 4096 → length rs ≤ 800 → Kept A B 8 gs → Kept B C 4104 rs
    → Keeps gs rs (headed C (length gs) (length rs)) × (rounds_of (headed C (length gs) (length rs)) ≡ 0) × (get_or (headed C (length gs) (length rs)) 2 0 ≡ 0)
begun {gs} {rs} C l a b x y = (
  record {
    head = head_of C (length gs) (length rs) l a b;
    grammar = λ i h. after-head C (length gs) (length rs) l (8 + i) (omega arith) ∙ y.other (8 + i) (inl (omega arith)) ∙ x.bytes i h;
    input = λ i h. after-head C (length gs) (length rs) l (4104 + i) (omega arith) ∙ y.bytes i h;
  },
  is-1 C (length gs) (length rs) l,
  is-2 C (length gs) (length rs) l,
)

-- zeros
pub blank-next : (S : List ℕ) (b : ℕ) → ((x : ℕ) → x < b → get_or S x 0 ≡ 0) → b < length S → (x : ℕ) → x < b + 1 → get_or (set S b 0) x 0 ≡ 0
blank-next S b a l x h = elim (ℕ_discrete x b) as (λ _. get_or (set S b 0) x 0 ≡ 0) [
  | yes e ↦ rw e (get_or-set_same S b 0 0 l)
  | no e ↦ get_or-set_other S b x 0 0 e ∙ a x (omega arith)
]

pub blank-all : (S : List ℕ) (b : ℕ) → length S ≤ b → ((x : ℕ) → x < b → get_or S x 0 ≡ 0) → Blank S
blank-all S b l a x = elim (dec_lt x b) as (λ _. get_or S x 0 ≡ 0) [ yes h ↦ a x h | no h ↦ get_or-eq_default S 0 {n = x} (omega arith) ]
