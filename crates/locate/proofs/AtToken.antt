-- A rule at the token at a place of the table, by the token's form.
use native.Mathlib.Omega.{arith}
use mathlib.Core.Bool.{Bool, true, false}
use mathlib.Core.Path.{◌≡◌, refl, sym, ap, subst, ◌∙◌}
use mathlib.Core.List.{List}
use Prim.Native.Nat.{ℕ, ◌+◌, ◌<◌, ◌≤◌}
use lib.Dec.{ltb}
use lib.ListN.{get_or}
use borrow.Author.Tests.{eq-eqb, ne_eqb, lt-ltb, le-ltb}
use Rattle.text.specs.Lists.{Text, pick, any, same}
use Rattle.text.proofs.Lists.{or-false}
use Rattle.tokens.specs.Lengths.{form_of}
use Rattle.tokens.specs.Names.{name_at}
use Rattle.static_errors.specs.Parts.{Part, used, headed, code, between, classed, other, part_at, end_codes, bad_code, failing}
use Rattle.static_errors.specs.Scan.{Looking}
use Rattle.static_errors.proofs.Leaf.{by_form, at-form, is-headed, is-range, not-headed}
use Rattle.locate.specs.Faults.{again, at_token, second_of, offset_of, Faulting}

pub narrow : {t : List ℕ} {k : ℕ} {list : List ℕ} {n before : ℕ} → Faulting t k list n before → Looking t k list before
narrow f = let l = f.looking.listing in let b = f.few in let c = l.few in record { fits = f.looking.fits; listing = record { few = omega arith; each = λ i h. l.each i (omega arith) } }

pub at-6 : (rule : ℕ) (hs before : List Text) (p : Part) (r : Bool) → rule ≡ 6 → r ≡ again before p → r ≡ at_token rule hs before p
unfolding at_token
at-6 rule hs before p r e h = rw (eq-eqb rule 6 e) h

pub at_other : (rule : ℕ) (hs before : List Text) (p : Part) (r : Bool) → (rule ≡ 6 → ⊥) → r ≡ failing rule hs p → r ≡ at_token rule hs before p
unfolding at_token
at_other rule hs before p r e h = rw (ne_eqb rule 6 e) h

module _ (t : List ℕ) (k s : ℕ) (e : s ≡ form_of (get_or t k 0)) where
  pub repeats-none : (before : List Text) → (s ≡ 1 → ⊥) → false ≡ again before (part_at t k)
  repeats-none before f = rw (not-headed t k s e f)

  pub repeats-it : (before : List Text) (r : Bool) → s ≡ 1 → r ≡ any (same (name_at t k)) before → r ≡ again before (part_at t k)
  repeats-it before r f h = rw (is-headed t k s e f) (h ∙ sym (or-false (any (same (name_at t k)) before)))

  no_second : (rule : ℕ) → (s ≡ 4 → ⊥) → second_of rule (part_at t k) ≡ 0
  no_second rule f = rw (at-form t k s e) (by_form (λ p. second_of rule p ≡ 0) s _ _ _ _ _ (λ g. refl) (λ g. refl) (λ g. refl) (λ g. absurd (f g)) (λ g. refl) refl)

  pub offset-none : (rule : ℕ) → rule ≤ 8 → (s ≡ 4 → ⊥) → 0 ≡ offset_of rule (part_at t k)
  unfolding offset_of
  offset-none rule l f = rw (le-ltb 8 rule l) (sym (no_second rule f))

  pub offset-range : (rule : ℕ) (b : Bool) → rule ≤ 8 → s ≡ 4 → b ≡ any (bad_code rule) (end_codes (get_or t (k + 1) 0) (get_or t (k + 2) 0)) → pick b 0 1 ≡ offset_of rule (part_at t k)
  unfolding offset_of
  offset-range rule b l f h = rw (le-ltb 8 rule l, is-range t k s e f) (ap (λ (x : Bool). pick x 0 1) h)

pub offset-late : (rule : ℕ) (p : Part) → 8 < rule → 0 ≡ offset_of rule p
unfolding offset_of
offset-late rule p l = rw (lt-ltb 8 rule l)

pub offset-low : (rule : ℕ) (p : Part) (o : ℕ) → o ≡ offset_of rule p → o ≤ 1
unfolding offset_of
offset-low rule p o e = subst (λ (n : ℕ). n ≤ 1) (sym e) (by (ltb 8 rule) p)
  where
    by_end : (b : Bool) → pick b 0 1 ≤ 1
    by_end true = omega arith
    by_end false = omega arith

    second : (p : Part) → second_of rule p ≤ 1
    second (used n) = omega arith
    second (headed n) = omega arith
    second (code v) = omega arith
    second (between f v g w) = by_end (any (bad_code rule) (end_codes f v))
    second (classed k) = omega arith
    second other = omega arith

    by : (b : Bool) (p : Part) → pick b 0 (second_of rule p) ≤ 1
    by true p = omega arith
    by false p = second p
