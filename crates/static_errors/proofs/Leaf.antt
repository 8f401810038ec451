-- One token at a place of a table, and what its form makes of it.
use mathlib.Core.Path.{◌≡◌, refl, sym, ap, ◌∙◌}
use mathlib.Core.Bool.{Bool, true, false, not, ◌||◌}
use mathlib.Core.List.{List, [], ◌∷◌}
use Prim.Native.Nat.{ℕ, ◌+◌, ◌≤◌}
use native.Mathlib.Omega.{arith}
use native.Mathlib.Decide.{ℕ_discrete}
use lib.ListN.{length, get_or}
use borrow.Author.Tests.{eq-eqb, ne_eqb}
use Rattle.text.specs.Lists.{Text, any, same}
use Rattle.text.proofs.Lists.{or-false, any_append}
use Rattle.category.specs.Category.{letters}
use Rattle.tokens.specs.Lengths.{form_of, length_at}
use Rattle.tokens.specs.Names.{name_at, Named}
use Rattle.tokens.proofs.Forms as forms
use Rattle.static_errors.specs.Parts.{Part, used, headed, code, between, classed, other, part_of, part_at, used_in, heads_in, end_codes, codes_in}
use Rattle.static_errors.specs.Parts.{lacking, bad_code, bad_codes, backward, classless, faulty}

-- the cases of a part
pub by_form : (P : Part → Type 0) (s : ℕ) (n : Text) (v w x y : ℕ) → (s ≡ 0 → P (used n)) → (s ≡ 1 → P (headed n)) → (s ≡ 3 → P (code v)) → (s ≡ 4 → P (between v w x y))
    → (s ≡ 5 → P (classed (letters v w))) → P other → P (part_of s n v w x y)
unfolding part_of
by_form P s n v w x y h₀ h₁ h₃ h₄ h₅ h = elim (ℕ_discrete s 0) as (λ _. P (part_of s n v w x y)) [
  | yes e ↦ rw (eq-eqb s 0 e) (h₀ e)
  | no e₀ ↦ elim (ℕ_discrete s 1) as (λ _. P (part_of s n v w x y)) [
    | yes e ↦ rw (ne_eqb s 0 e₀, eq-eqb s 1 e) (h₁ e)
    | no e₁ ↦ elim (ℕ_discrete s 3) as (λ _. P (part_of s n v w x y)) [
      | yes e ↦ rw (ne_eqb s 0 e₀, ne_eqb s 1 e₁, eq-eqb s 3 e) (h₃ e)
      | no e₃ ↦ elim (ℕ_discrete s 4) as (λ _. P (part_of s n v w x y)) [
        | yes e ↦ rw (ne_eqb s 0 e₀, ne_eqb s 1 e₁, ne_eqb s 3 e₃, eq-eqb s 4 e) (h₄ e)
        | no e₄ ↦ elim (ℕ_discrete s 5) as (λ _. P (part_of s n v w x y)) [
          | yes e ↦ rw (ne_eqb s 0 e₀, ne_eqb s 1 e₁, ne_eqb s 3 e₃, ne_eqb s 4 e₄, eq-eqb s 5 e) (h₅ e)
          | no e₅ ↦ rw (ne_eqb s 0 e₀, ne_eqb s 1 e₁, ne_eqb s 3 e₃, ne_eqb s 4 e₄, ne_eqb s 5 e₅) h
        ]
      ]
    ]
  ]
]

in_turn : (a b c d : Bool) → ((a || b) || c) || d ≡ a || (b || (c || d))
in_turn true b c d = refl
in_turn false true c d = refl
in_turn false false c d = refl

module _ (t : List ℕ) (k s : ℕ) (e : s ≡ form_of (get_or t k 0)) where
  pub at-form : part_at t k ≡ part_of s (name_at t k) (get_or t (k + 1) 0) (get_or t (k + 2) 0) (get_or t (k + 3) 0) (get_or t (k + 4) 0)
  at-form = ap (λ (z : ℕ). part_of z (name_at t k) (get_or t (k + 1) 0) (get_or t (k + 2) 0) (get_or t (k + 3) 0) (get_or t (k + 4) 0)) (sym e)

  pub is-used : s ≡ 0 → part_at t k ≡ used (name_at t k)
  unfolding part_of
  is-used f = at-form ∙ rw f

  pub is-headed : s ≡ 1 → part_at t k ≡ headed (name_at t k)
  unfolding part_of
  is-headed f = at-form ∙ rw f

  pub is_code : s ≡ 3 → part_at t k ≡ code (get_or t (k + 1) 0)
  unfolding part_of
  is_code f = at-form ∙ rw f

  pub is-range : s ≡ 4 → part_at t k ≡ between (get_or t (k + 1) 0) (get_or t (k + 2) 0) (get_or t (k + 3) 0) (get_or t (k + 4) 0)
  unfolding part_of
  is-range f = at-form ∙ rw f

  pub is-class : s ≡ 5 → part_at t k ≡ classed (letters (get_or t (k + 1) 0) (get_or t (k + 2) 0))
  unfolding part_of
  is-class f = at-form ∙ rw f

  pub not-used : (s ≡ 0 → ⊥) → used_in (part_at t k) ≡ []
  not-used f = rw at-form (by_form (λ p. used_in p ≡ []) s _ _ _ _ _ (λ g. absurd (f g)) (λ g. refl) (λ g. refl) (λ g. refl) (λ g. refl) refl)

  pub not-headed : (s ≡ 1 → ⊥) → heads_in (part_at t k) ≡ []
  not-headed f = rw at-form (by_form (λ p. heads_in p ≡ []) s _ _ _ _ _ (λ g. refl) (λ g. absurd (f g)) (λ g. refl) (λ g. refl) (λ g. refl) refl)

  pub not_code : (s ≡ 3 → ⊥) → (s ≡ 4 → ⊥) → codes_in (part_at t k) ≡ []
  not_code f h = rw at-form (by_form (λ p. codes_in p ≡ []) s _ _ _ _ _ (λ g. refl) (λ g. refl) (λ g. absurd (f g)) (λ g. absurd (h g)) (λ g. refl) refl)

  pub not-range : (s ≡ 4 → ⊥) → false ≡ backward (part_at t k)
  not-range f = rw at-form (by_form (λ p. false ≡ backward p) s _ _ _ _ _ (λ g. refl) (λ g. refl) (λ g. refl) (λ g. absurd (f g)) (λ g. refl) refl)

  pub not-class : (s ≡ 5 → ⊥) → false ≡ classless (part_at t k)
  not-class f = rw at-form (by_form (λ p. false ≡ classless p) s _ _ _ _ _ (λ g. refl) (λ g. refl) (λ g. refl) (λ g. refl) (λ g. absurd (f g)) refl)

  -- the codes of a token
  pub one_code : (rule : ℕ) → s ≡ 3 → bad_code rule (get_or t (k + 1) 0) ≡ bad_codes rule (part_at t k)
  one_code rule f = rw (is_code f) (sym (or-false (bad_code rule (get_or t (k + 1) 0))))

  pub no_code : (rule : ℕ) → (s ≡ 3 → ⊥) → (s ≡ 4 → ⊥) → false ≡ bad_codes rule (part_at t k)
  no_code rule f h = rw (not_code f h)

  -- no name, no code
  pub unused : (s ≡ 0 → ⊥) → (hs : List Text) → lacking hs (part_at t k) ≡ false
  unused f hs = rw (not-used f)

  pub uncoded : (hs : List Text) (r : Bool) → (s ≡ 3 → ⊥) → (s ≡ 4 → ⊥) → (s ≡ 5 → ⊥) → r ≡ lacking hs (part_at t k) → r ≡ faulty hs (part_at t k)
  uncoded hs r a b c e = e ∙ sym (rw (← no_code 7 a b, ← no_code 8 a b, ← not-range b, ← not-class c) (or-false (lacking hs (part_at t k))))

  -- the rules on what is no name, in turn
  pub coded : (s ≡ 0 → ⊥) → (hs : List Text) (v r : Bool) → v ≡ (bad_codes 7 (part_at t k) || bad_codes 8 (part_at t k)) || backward (part_at t k)
      → r ≡ v || classless (part_at t k) → r ≡ faulty hs (part_at t k)
  coded f hs v r p q =
      rw (unused f hs) (q ∙ ap (λ (x : Bool). x || classless (part_at t k)) p
      ∙ in_turn (bad_codes 7 (part_at t k)) (bad_codes 8 (part_at t k)) (backward (part_at t k)) (classless (part_at t k)))

  pub two-codes : (rule : ℕ) → s ≡ 4
      → any (bad_code rule) (end_codes (get_or t (k + 1) 0) (get_or t (k + 2) 0)) || any (bad_code rule) (end_codes (get_or t (k + 3) 0) (get_or t (k + 4) 0)) ≡ bad_codes rule (part_at t k)
  two-codes rule f = rw (is-range f) (sym (any_append (bad_code rule) (end_codes (get_or t (k + 1) 0) (get_or t (k + 2) 0)) (end_codes (get_or t (k + 3) 0) (get_or t (k + 4) 0))))

-- a token that is a name has its characters in the table
pub name-here : (t : List ℕ) (k : ℕ) → k + length_at t k ≤ length t → (s : ℕ) → s ≡ form_of (get_or t k 0) → s ≡ 0 → Named t k
name-here t k fits s e f = omega (arith, forms.sized t k fits s (get_or t (k + 1) 0 + 2) e (forms.length-text s (get_or t (k + 1) 0) (omega arith)))

pub lacks-it : (t : List ℕ) (k s : ℕ) → s ≡ form_of (get_or t k 0) → s ≡ 0 → (hs : List Text) (r : Bool) → r ≡ any (same (name_at t k)) hs → not r ≡ lacking hs (part_at t k)
lacks-it t k s e f hs r g = rw (is-used t k s e f) (ap not g ∙ sym (or-false (not (any (same (name_at t k)) hs))))

pub either_left : (a b : Bool) → a ≡ true → a ≡ a || b
either_left a b e = rw e

pub either-right : (a b : Bool) → a ≡ false → b ≡ a || b
either-right a b e = rw e

-- all numbers but 7 ask for surrogates and noncharacters
unassigned : (r : ℕ) → (r ≡ 7 → ⊥) → (vs : List ℕ) → any (bad_code r) vs ≡ any (bad_code 8) vs
unfolding bad_code
unassigned r n [] = refl
unassigned r n (v ∷ vs) = rw (ne_eqb r 7 n, unassigned r n vs) refl

pub no_hex : (r : ℕ) → (r ≡ 7 → ⊥) → (p : Part) → bad_codes r p ≡ bad_codes 8 p
no_hex r n p = unassigned r n (codes_in p)
