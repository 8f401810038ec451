-- Which dots wake and hand on, by cases.
use mathlib.Core.Bool.{true, false}
use mathlib.Core.List.{List}
use mathlib.Core.Logic.{⊎_elim}
use mathlib.Core.Path.{◌≡◌, sym, ap, subst, ◌∙◌}
use Prim.Native.Nat.{ℕ, ◌+◌, ◌<◌}
use native.Mathlib.Decide.{ℕ_discrete}
use native.Mathlib.Omega.{arith}
use lib.ListN.{length, get_or, set}
use lib.Seq.{get_or-set_same, get_or-set_other}
use Rattle.text.proofs.Tests.{clash}
use Rattle.chart.specs.Code.{next_kind, goes_at, rule_at, owner_at}
use Rattle.chart.specs.Heights.{none}
use Rattle.reach.specs.Flags.{Wanted}
use Rattle.sparse.specs.Cells.{is_last, empty_in, empty_rest, Shape}
use Rattle.sparse.specs.Column.{Vanishes, UnitsTo}
use Rattle.listing.specs.Listing.{Idle, Handing, Keeping}

-- one use more
module _ (c F : List ℕ) (p : ℕ) (C : List ℕ) (u : UnitsTo c F p C) where
  pub units-skip : (next_kind c p ≡ 2 → empty_rest c F (p + 1) < none → ⊥) → UnitsTo c F (p + 1) C
  units-skip d q h k s z = elim (ℕ_discrete q p) as (λ _. ⊥) [
    | yes e ↦ d (ap (next_kind c) (sym e) ∙ k) (subst (λ (x : ℕ). empty_rest c F (x + 1) < none) e s)
    | no e ↦ u q (omega arith) k s z
  ]

  pub units-add : (e : ℕ) → e ≡ rule_at c p → 2051 + e < length C → UnitsTo c F (p + 1) (set C (2051 + e) 1)
  units-add e is room q h k s z = elim (ℕ_discrete (rule_at c q) e) as (λ _. ⊥) [
    | yes d ↦ omega (arith, get_or-set_same C (2051 + e) 1 0 room, ap (λ (x : ℕ). get_or (set C (2051 + e) 1) (2051 + x) 0) d)
    | no d ↦ (let other : q ≡ p → ⊥ = λ w. d (ap (rule_at c) w ∙ sym is) in
        u q (omega (arith, other)) k s (sym (get_or-set_other C (2051 + e) (2051 + rule_at c q) 1 0 (λ w. d (omega arith))) ∙ z))
  ]

-- what cannot vanish
module _ (c F : List ℕ) (q : ℕ) where
  pub stands-terminal : next_kind c q ≡ 1 → (goes_at c q ≡ 0 → ⊥) → Vanishes c F q → ⊥
  stands-terminal k d = ⊎_elim (λ w. d w.1) (λ w. omega (arith, w.0))

  pub stands-symbol : next_kind c q ≡ 2 → none ≡ empty_in F (rule_at c q) → Vanishes c F q → ⊥
  stands-symbol k d = ⊎_elim (λ w. omega (arith, w.0)) (λ w. omega (arith, w.1))

  pub stands-other : (next_kind c q ≡ 1 → ⊥) → (next_kind c q ≡ 2 → ⊥) → Vanishes c F q → ⊥
  stands-other a b = ⊎_elim (λ w. a w.0) (λ w. b w.0)

-- what does not wake
module _ (c F : List ℕ) (size : ℕ) (shape : Shape c size) (x : ℕ) where
  pub idle-end : (C : List ℕ) → next_kind c x ≡ 0 → get_or C (2051 + x) 0 ≡ 0 → UnitsTo c F size C → Idle c F size x
  idle-end C z e u = record {
    rule = λ p h k s d. u p h k s (ap (λ (y : ℕ). get_or C (2051 + y) 0) d ∙ e);
    dot = λ q d k o b v. k (ap (next_kind c) (sym d) ∙ z);
  }

  pub idle-dot : (next_kind c x ≡ 0 → ⊥) → ((q : ℕ) → x ≡ q + 1 → owner_at c (q + 1) ≡ 0 → is_last c (q + 1) ≡ false → Vanishes c F q → ⊥) → Idle c F size x
  idle-dot z d = record {
    rule = λ p h k s e. let w = shape.names p h k in
        z (ap (next_kind c) (sym e) ∙ (shape.owners _ (rule_at c p) w.1 w.2).1);
    dot = λ q e k o b v. d q e o b v;
  }

-- what does not hand on, and what does
module _ (c M : List ℕ) (size j x : ℕ) where
  pub keep-end : next_kind c x ≡ 0 → Keeping c M j x
  keep-end z p e k o w = k (ap (next_kind c) (sym e) ∙ z)

  pub keep-first : (owner_at c x ≡ 0 → ⊥) → Keeping c M j x
  keep-first d p e k o w = d (ap (owner_at c) e ∙ o)

  pub keep-unwanted : is_last c x ≡ true → (Wanted M (rule_at c x) j → ⊥) → Keeping c M j x
  keep-unwanted b d p e k o w = d (subst (λ (y : ℕ). Wanted M (rule_at c y) j) (sym e) (w (ap (is_last c) (sym e) ∙ b)))

  module _ (later : x ≡ 0 → ⊥) (kind : next_kind c x ≡ 0 → ⊥) (y : ℕ) where
    pub hand-own : x < size → is_last c x ≡ false → x ≡ y → Handing c M size j x y
    hand-own h b e = record { later = omega (arith, later); row = omega arith; kind = kind; own = λ _. sym e; last = λ b'. absurd (clash b b') }

    pub hand-last : rule_at c x < size → is_last c x ≡ true → y ≡ rule_at c x → Wanted M (rule_at c x) j → Handing c M size j x y
    hand-last h b e w = record { later = omega (arith, later); row = omega arith; kind = kind; own = λ b'. absurd (clash b' b); last = λ _. (e, w) }
