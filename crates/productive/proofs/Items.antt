-- The marks after live terminals, one item after the other; what a code says of the search's answer.
use mathlib.Core.Bool.{Bool, false}
use mathlib.Core.List.{List}
use mathlib.Core.Path.{◌≡◌, refl, sym, subst, ap, ◌∙◌}
use Prim.Native.Nat.{ℕ, zero, suc, ◌+◌, ◌<◌, ◌≤◌}
use native.Mathlib.Decide.{ℕ_discrete}
use native.Mathlib.Omega.{arith}
use lib.ListN.{length, get_or, set, replicate, length-set}
use lib.Seq.{get_or-set_same, get_or-set_other}
use Rattle.text.proofs.Tests.{clash}
use Rattle.tree.specs.Tree.{Terminal}
use Rattle.plain.specs.Live.{live}
use Rattle.chart.specs.Code.{next_kind}
use Rattle.rules.specs.Ready.{Token}
use Rattle.productive.specs.Made.{Sure}
use Rattle.productive.specs.Marks.{Terminals, Blank, ItemMarked, Lively}

-- a fresh table
pub all-blank : (k : ℕ) → Blank (replicate k false)
all-blank zero x = refl
all-blank (suc k) zero = refl
all-blank (suc k) (suc x) = all-blank k x

pub item-skip : {T c : List ℕ} {M : List Bool} {p : ℕ} → (next_kind c p ≡ 1 → ⊥) → ItemMarked T c M M p
item-skip n = record { long = refl; lives = λ k. absurd (n k); skips = λ k. refl; kept = λ j d. refl }

module _ {T c : List ℕ} {size p : ℕ} {M : List Bool} (t : Terminals T c size M) (h : p < size) (k : next_kind c p ≡ 1) where
  pub item_room : 513 + p < length M
  item_room = let l = t.shape.after p h (λ z. omega arith) in omega (arith, t.marks-long, t.shape.small)

  pub item-marked : (r : Bool) → ((x : Terminal) → Token T p x → r ≡ live x) → ItemMarked T c M (set M (513 + p) r) p
  item-marked r e = record {
    long = length-set M (513 + p) r;
    lives = λ _ x w. ap (λ (i : ℕ). get_or (set M (513 + p) r) i false) at ∙ get_or-set_same M (513 + p) r false item_room ∙ e x w;
    skips = λ n. absurd (n k);
    kept = λ j n. get_or-set_other M (513 + p) j r false (λ z. n (z ∙ sym at));
  }
    where
      at : 512 + (p + 1) ≡ 513 + p
      at = omega arith

-- the items before p are marked
pub record Marking (T c : List ℕ) (size : ℕ) (M₀ M : List Bool) (p : ℕ) : Type 0 where
  pub low : p ≤ size
  pub long : length M ≡ length M₀
  pub none : (x : ℕ) → x ≤ 512 → get_or M x false ≡ false
  pub later : (q : ℕ) → p ≤ q → get_or M (512 + (q + 1)) false ≡ false
  pub only : (q : ℕ) → q < p → Sure M (q + 1) → next_kind c q ≡ 1
  pub lives : (q : ℕ) → q < p → next_kind c q ≡ 1 → (x : Terminal) → Token T q x → get_or M (512 + (q + 1)) false ≡ live x

pub marking-start : (T c : List ℕ) (size : ℕ) (M : List Bool) → Blank M → Marking T c size M M 0
marking-start T c size M b = record {
  low = omega arith;
  long = refl;
  none = λ x h. b x;
  later = λ q h. b (512 + (q + 1));
  only = λ q h. absurd (omega arith);
  lives = λ q h. absurd (omega arith);
}

pub marking-terminals : {T c : List ℕ} {size : ℕ} {M₀ M : List Bool} {p : ℕ} → Terminals T c size M₀ → Marking T c size M₀ M p → Terminals T c size M
marking-terminals t m = record { long = t.long; shape = t.shape; room = t.room; here = t.here; marks-long = m.long ∙ t.marks-long }

pub marking-next : {T c : List ℕ} {size : ℕ} {M₀ M M' : List Bool} {p : ℕ} → Marking T c size M₀ M p → p < size → ItemMarked T c M M' p → Marking T c size M₀ M' (p + 1)
marking-next {T} {c} {M = M} {M'} {p} m h i = record {
  low = omega arith;
  long = i.long ∙ m.long;
  none = λ x l. i.kept x (λ z. omega arith) ∙ m.none x l;
  later = λ q l. i.kept (512 + (q + 1)) (λ z. omega arith) ∙ m.later q (omega arith);
  only = λ q l s. elim (ℕ_discrete q p) as (λ _. next_kind c q ≡ 1) [
    | yes z ↦ ap (next_kind c) z ∙ here (subst (λ (x : ℕ). Sure M' (x + 1)) z s)
    | no z ↦ m.only q (omega arith) (sym (i.kept (512 + (q + 1)) (λ y. z (omega arith))) ∙ s)
  ];
  lives = λ q l k x w. elim (ℕ_discrete q p) as (λ _. get_or M' (512 + (q + 1)) false ≡ live x) [
    | yes z ↦ ap (λ (y : ℕ). get_or M' (512 + (y + 1)) false) z ∙ i.lives (ap (next_kind c) (sym z) ∙ k) x (subst (λ (y : ℕ). Token T y x) z w)
    | no z ↦ i.kept (512 + (q + 1)) (λ y. z (omega arith)) ∙ m.lives q (omega arith) k x w
  ];
}
  where
    here : Sure M' (p + 1) → next_kind c p ≡ 1
    here s = elim (ℕ_discrete (next_kind c p) 1) as (λ _. next_kind c p ≡ 1) [ yes e ↦ e | no e ↦ absurd (clash (i.skips e ∙ m.later p (omega arith)) s) ]

pub marking-end : {T c : List ℕ} {size : ℕ} {M₀ M : List Bool} {p : ℕ} → Terminals T c size M₀ → Marking T c size M₀ M p → size ≤ p → Lively T c size M
marking-end t m h = record {
  fresh = record { shape = t.shape; room = t.room; long = m.long ∙ t.marks-long; none = m.none; only = λ q l. m.only q (omega arith) };
  lives = λ q l. m.lives q (omega arith);
}
