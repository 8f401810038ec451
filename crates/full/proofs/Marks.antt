-- Laws of the flags as they are set.
use mathlib.Core.List.{List}
use mathlib.Core.Path.{◌≡◌, refl, sym, ap, ◌∙◌}
use Prim.Native.Nat.{ℕ, ◌+◌, ◌*◌, ◌<◌, ◌≤◌}
use native.Mathlib.Decide.{ℕ_discrete}
use native.Mathlib.Omega.{arith}
use lib.ListN.{length, get_or, set, length-set}
use lib.Seq.{get_or-set_same, get_or-set_other}
use borrow.Author.Tests.{ne_eqb}
use Rattle.text.specs.Limits.{most_size, record_chars}
use Rattle.chart.specs.Code.{next_kind, fits_at}
use Rattle.reach.specs.Flags.{dot_at, begin_at, end_at}
use Rattle.full.specs.Whole.{dot_flag, PlaceMarked, Marked}

module _ (c f : List ℕ) (p i : ℕ) where
  pub flag-other : (next_kind c p ≡ 1 → ⊥) → dot_flag c f p i ≡ 2
  unfolding dot_flag
  flag-other z = rw (ne_eqb (next_kind c p) 1 z) refl

  pub flag-fits : next_kind c p ≡ 1 → fits_at f p i ≡ 1 → dot_flag c f p i ≡ 2
  unfolding dot_flag
  flag-fits z e = rw (z, e) refl

  pub flag-misfits : next_kind c p ≡ 1 → (fits_at f p i ≡ 1 → ⊥) → dot_flag c f p i ≡ 1
  unfolding dot_flag
  flag-misfits z e = rw (z, ne_eqb (fits_at f p i) 1 e) refl

pub place-start : (c f : List ℕ) (size i : ℕ) (M : List ℕ) → PlaceMarked c f size i 0 M M
place-start c f size i M = record { long = refl; dots = λ p h. absurd (omega arith); begins = λ p h. absurd (omega arith); ends = λ p h. absurd (omega arith); kept = λ x h. refl }

-- one dot more
module _ {c f : List ℕ} {size i p : ℕ} {M₀ M : List ℕ} (w : PlaceMarked c f size i p M₀ M) (long : length M₀ ≡ 308736) (small : size ≤ most_size)
    (short : i ≤ record_chars) (h : p < size) (v x b y : ℕ) (e : v ≡ dot_flag c f p i) (ex : x ≡ 1536 * i + p) (eb : b ≡ 1536 * i + (512 + p)) (ey : y ≡ 1536 * i + (1024 + p)) where
  abbrev M₁ : List ℕ
  M₁ = set M x v

  abbrev M₂ : List ℕ
  M₂ = set M₁ b 1

  abbrev M' : List ℕ
  M' = set M₂ y 2

  other : (z : ℕ) → (z ≡ x → ⊥) → (z ≡ b → ⊥) → (z ≡ y → ⊥) → get_or M' z 0 ≡ get_or M z 0
  other z l m r = get_or-set_other M₂ y z 2 0 r ∙ get_or-set_other M₁ b z 1 0 m ∙ get_or-set_other M x z v 0 l

  dot-here : get_or M' x 0 ≡ dot_flag c f p i
  dot-here = get_or-set_other M₂ y x 2 0 (λ q. omega arith) ∙ get_or-set_other M₁ b x 1 0 (λ q. omega arith) ∙ get_or-set_same M x v 0 (omega (arith, w.long)) ∙ e

  begin-here : get_or M' b 0 ≡ 1
  begin-here = get_or-set_other M₂ y b 2 0 (λ q. omega arith) ∙ get_or-set_same M₁ b 1 0 (omega (arith, length-set M x v, w.long))

  end-here : get_or M' y 0 ≡ 2
  end-here = get_or-set_same M₂ y 2 0 (omega (arith, length-set M₁ b 1, length-set M x v, w.long))

  pub place-next : PlaceMarked c f size i (p + 1) M₀ M'
  place-next = record {
    long = length-set M₂ y 2 ∙ length-set M₁ b 1 ∙ length-set M x v ∙ w.long;
    dots = λ q l. elim (ℕ_discrete q p) as (λ _. dot_at M' q i ≡ dot_flag c f q i) [
      | yes d ↦ (let a : 1536 * i + q ≡ x = omega arith in ap (λ (z : ℕ). get_or M' z 0) a ∙ dot-here ∙ ap (λ (z : ℕ). dot_flag c f z i) (sym d))
      | no d ↦ other (1536 * i + q) (λ a. omega arith) (λ a. omega arith) (λ a. omega arith) ∙ w.dots q (omega arith)
    ];
    begins = λ q l. elim (ℕ_discrete q p) as (λ _. begin_at M' q i ≡ 1) [
      | yes d ↦ (let a : 1536 * i + (512 + q) ≡ b = omega arith in ap (λ (z : ℕ). get_or M' z 0) a ∙ begin-here)
      | no d ↦ other (1536 * i + (512 + q)) (λ a. omega arith) (λ a. omega arith) (λ a. omega arith) ∙ w.begins q (omega arith)
    ];
    ends = λ q l. elim (ℕ_discrete q p) as (λ _. end_at M' q i ≡ 2) [
      | yes d ↦ (let a : 1536 * i + (1024 + q) ≡ y = omega arith in ap (λ (z : ℕ). get_or M' z 0) a ∙ end-here)
      | no d ↦ other (1536 * i + (1024 + q)) (λ a. omega arith) (λ a. omega arith) (λ a. omega arith) ∙ w.ends q (omega arith)
    ];
    kept = λ z l. other z (λ a. omega arith) (λ a. omega arith) (λ a. omega arith) ∙ w.kept z l;
  }

pub place_end : {c f : List ℕ} {size i p : ℕ} {M M' : List ℕ} → PlaceMarked c f size i p M M' → size ≤ p → PlaceMarked c f size i size M M'
place_end w h = record { long = w.long; dots = λ q l. w.dots q (omega arith); begins = λ q l. w.begins q (omega arith); ends = λ q l. w.ends q (omega arith); kept = w.kept }

pub marked_start : (c f : List ℕ) (size : ℕ) (M : List ℕ) → length M ≡ 308736 → Marked c f size 0 M
marked_start c f size M l = record { long = l; dots = λ p i h b. absurd (omega arith); begins = λ p i h b. absurd (omega arith); ends = λ p i h b. absurd (omega arith) }

-- one place more
pub marked_next : {c f : List ℕ} {size i b : ℕ} {M M' : List ℕ} → size ≤ most_size → Marked c f size i M → PlaceMarked c f size i b M M' → size ≤ b → Marked c f size (i + 1) M'
marked_next {c} {f} {size} {i} {M' = M'} small w u hb = record {
  long = u.long ∙ w.long;
  dots = λ p k h l. elim (ℕ_discrete k i) as (λ _. dot_at M' p k ≡ dot_flag c f p k) [
    | yes d ↦ rw d (u.dots p (omega arith))
    | no d ↦ u.kept (1536 * k + p) (omega arith) ∙ w.dots p k h (omega arith)
  ];
  begins = λ p k h l. elim (ℕ_discrete k i) as (λ _. begin_at M' p k ≡ 1) [
    | yes d ↦ rw d (u.begins p (omega arith))
    | no d ↦ u.kept (1536 * k + (512 + p)) (omega arith) ∙ w.begins p k h (omega arith)
  ];
  ends = λ p k h l. elim (ℕ_discrete k i) as (λ _. end_at M' p k ≡ 2) [
    | yes d ↦ rw d (u.ends p (omega arith))
    | no d ↦ u.kept (1536 * k + (1024 + p)) (omega arith) ∙ w.ends p k h (omega arith)
  ];
}

pub marked-end : {c f : List ℕ} {size i b : ℕ} {M : List ℕ} → Marked c f size i M → b ≤ i → Marked c f size b M
marked-end w h = record { long = w.long; dots = λ p k l m. w.dots p k l (omega arith); begins = λ p k l m. w.begins p k l (omega arith); ends = λ p k l m. w.ends p k l (omega arith) }
