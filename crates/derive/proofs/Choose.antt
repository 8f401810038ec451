-- `chosen_of` gives the chosen derivation of the record exactly where the record has a derivation.
use mathlib.Core.Path.{◌≡◌, refl, sym, ap, subst, ◌∙◌}
use mathlib.Core.Bool.{Bool}
use mathlib.Core.Logic.{inl, inr}
use mathlib.Core.List.{List, [], ◌∷◌}
use Prim.Native.Nat.{ℕ, suc}
use native.Mathlib.Omega.{arith}
use lib.Dec.{leb, leb→le, le→leb}
use lib.ListN.{length}
use Rattle.text.specs.Lists.{Text}
use Rattle.tree.specs.Tree.{Grammar}
use Rattle.derive.specs.Derive.{Row, left_parse, Derivation, root}
use Rattle.derive.specs.Level.{first, can_one}
use Rattle.derive.specs.Bound.{top}
use Rattle.derive.specs.Chosen.{Chosen, Reading}
use Rattle.derive.specs.Pick.{pick_tree, Choice, no-choice, found, chosen_of}
use Rattle.derive.proofs.Tools.{look, is_t, not_t, search_is}
use Rattle.derive.proofs.Symbols.{root-inside}
use Rattle.derive.proofs.Bound.{bounded-one}
use Rattle.derive.proofs.Chosen.{chosen-derives, chosen-one}
use Rattle.derive.proofs.Picks.{pick-tree, chosen-exists}

abbrev IsFound : Choice → Type 0
IsFound no-choice = ⊥
IsFound (found t) = Unit {0}

found≢no-choice : {t : Row} → found t ≡ no-choice → ⊥
found≢no-choice e = subst IsFound e tt

module _ (g : Grammar) (r : Text) where
  -- what an answer says
  data Says : Choice → Type 0 where
    says-found : (t : Row) → Chosen g r t (root g ∷ []) 0 (length r) → Says (found t)
    says_none : ((t : Row) → Derivation g r t → ⊥) → Says no-choice

  says : Says (chosen_of g r)
  says =
      let p : ℕ → Bool = λ (k : ℕ). can_one g r k (root g) 0 (length r) in
      let w = search_is p 0 (suc (top g r)) in
      let k = first p 0 (suc (top g r)) in
      elim (look (leb k (top g r))) as (λ _. Says (chosen_of g r)) [
        | inl e ↦
            (let q : chosen_of g r ≡ found (pick_tree g r k (root g) 0 (length r)) = rw (e, chosen_of) in
            let l = leb→le k (top g r) (is_t e) in
            rw q (says-found (pick_tree g r k (root g) 0 (length r)) (pick-tree g r k (root g) 0 (length r) (w.holds (omega arith)))))
        | inr e ↦
            (let q : chosen_of g r ≡ no-choice = rw (e, chosen_of) in
            rw q (says_none (λ t d. not_t e (le→leb k (top g r) (w.least (top g r) (omega arith) (bounded-one g r (root-inside g).0 (omega arith) d))))))
      ]

  said-found : {a : Choice} {t : Row} → Says a → a ≡ found t → Chosen g r t (root g ∷ []) 0 (length r)
  said-found {t = t} (says-found u c) e = let q : u ≡ t = cc in rw q at c
  said-found (says_none f) e = absurd (found≢no-choice (sym e))

  said-none : {a : Choice} → Says a → a ≡ no-choice → (t : Row) → Derivation g r t → ⊥
  said-none (says-found u c) e = absurd (found≢no-choice e)
  said-none (says_none f) e = f

  said-lacks : {a : Choice} → Says a → ((t : Row) → Derivation g r t → ⊥) → a ≡ no-choice
  said-lacks (says-found u c) f = absurd (f u (chosen-derives g r c))
  said-lacks (says_none h) f = refl

  said-chosen : {a : Choice} {t : Row} → Says a → Chosen g r t (root g ∷ []) 0 (length r) → a ≡ found t
  said-chosen (says-found u c) d = let q = chosen-one g r c d in cc
  said-chosen {t = t} (says_none f) d = absurd (f t (chosen-derives g r d))

  pub found-chosen : {t : Row} → chosen_of g r ≡ found t → Chosen g r t (root g ∷ []) 0 (length r)
  found-chosen e = said-found says e

  pub none-derives : chosen_of g r ≡ no-choice → (t : Row) → Derivation g r t → ⊥
  none-derives e = said-none says e

  pub lacks-none : ((t : Row) → Derivation g r t → ⊥) → chosen_of g r ≡ no-choice
  lacks-none f = said-lacks says f

  pub chosen-found : {t : Row} → Chosen g r t (root g ∷ []) 0 (length r) → chosen_of g r ≡ found t
  chosen-found c = said-chosen says c

  -- "The chosen reading": wherever the record has a derivation there is one, and one only
  pub reading-exists : {t : Row} → Derivation g r t → (u : Row) × Reading g r u (left_parse u)
  reading-exists d = let c = chosen-exists g r d in (c.0, record { chosen = c.1; parse = refl })

  pub reading-unique : {t u : Row} {p q : List ℕ} → Reading g r t p → Reading g r u q → p ≡ q
  reading-unique a b = a.parse ∙ ap left_parse (chosen-one g r a.chosen b.chosen) ∙ sym b.parse

  pub found-reading : {t : Row} → chosen_of g r ≡ found t → Reading g r t (left_parse t)
  found-reading e = record { chosen = found-chosen e; parse = refl }
