-- What the notes offer a dot, by cases.
use mathlib.Core.List.{List}
use mathlib.Core.Path.{◌≡◌, refl, ◌∙◌}
use Prim.Native.Nat.{ℕ, ◌+◌, ◌<◌, max}
use native.Mathlib.Decide.{ℕ_discrete}
use native.Mathlib.Omega.{arith}
use borrow.Author.Tests.{ne_eqb}
use Rattle.chart.specs.Code.{next_kind, goes_at, rule_at}
use Rattle.chart.specs.Heights.{none}
use Rattle.heights.specs.Table.{up_of}
use Rattle.heights.specs.Part.{Offers, by_end, by-terminal, by-split}
use Rattle.reach.specs.Flags.{home_of}
use Rattle.sparse.specs.Cells.{empty_in, empty_rest}
use Rattle.empties.specs.Empty.{offer_of, Still, Any, rule_in, rest_in}

module _ (c F : List ℕ) (p : ℕ) where
  pub offer-end : next_kind c p ≡ 0 → offer_of c F p ≡ 0
  unfolding offer_of
  offer-end z = rw z

  pub offer-terminal : next_kind c p ≡ 1 → goes_at c p ≡ 0 → offer_of c F p ≡ empty_rest c F (p + 1)
  unfolding offer_of
  offer-terminal z g = rw (z, g)

  pub offer-taking : next_kind c p ≡ 1 → (goes_at c p ≡ 0 → ⊥) → offer_of c F p ≡ none
  unfolding offer_of
  offer-taking z g = rw (z, ne_eqb (goes_at c p) 0 g)

  pub offer-symbol : next_kind c p ≡ 2 → offer_of c F p ≡ max (up_of (empty_in F (rule_at c p))) (empty_rest c F (p + 1))
  unfolding offer_of
  offer-symbol z = rw z

  pub offer-other : (next_kind c p ≡ 0 → ⊥) → (next_kind c p ≡ 1 → ⊥) → (next_kind c p ≡ 2 → ⊥) → offer_of c F p ≡ none
  unfolding offer_of
  offer-other x y z = rw (ne_eqb (next_kind c p) 0 x, ne_eqb (next_kind c p) 1 y, ne_eqb (next_kind c p) 2 z)

  module _ (size i v : ℕ) (e : v ≡ offer_of c F p) where
    abbrev Offered : Type 0
    Offered = Offers c size (home_of c) (Still c) Any Any (rule_in F) (rest_in c F) p i i v

    pub offers : v < none → Offered
    offers l = elim (ℕ_discrete (next_kind c p) 0) as (λ _. Offered) [
      | yes z ↦ by_end z refl (e ∙ offer-end z)
      | no x ↦ (elim (ℕ_discrete (next_kind c p) 1) as (λ _. Offered) [
        | yes z ↦ (elim (ℕ_discrete (goes_at c p) 0) as (λ _. Offered) [
          | yes g ↦ by-terminal z g (omega arith) (e ∙ offer-terminal z g)
          | no g ↦ absurd (omega (arith, offer-taking z g))
        ])
        | no y ↦ (elim (ℕ_discrete (next_kind c p) 2) as (λ _. Offered) [
          | yes z ↦ by-split i z (omega arith) (omega arith) tt (e ∙ offer-symbol z)
          | no z ↦ absurd (omega (arith, offer-other x y z))
        ])
      ])
    ]
