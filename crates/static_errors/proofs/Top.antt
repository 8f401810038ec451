-- The answers for a tree in a table.
use mathlib.Core.Path.{◌≡◌, refl, sym, ap, ◌∙◌}
use mathlib.Core.Bool.{Bool, false, not}
use mathlib.Core.List.{List, [], ◌∷◌, ◌++◌}
use Prim.Native.Nat.{ℕ, ◌+◌, ◌≤◌, ◌<◌}
use native.Mathlib.Omega.{arith}
use lib.ListN.{length, get_or, take}
use Rattle.text.specs.Lists.{Text, same, concat_map, chars}
use Rattle.tree.specs.Tree.{Mark, Prolog, no-prolog, version, Rule, Grammar}
use Rattle.tree.specs.Tokens.{Token, rule-head, version-is, mark_number, body_tokens, rule_end, rule_tokens, prolog_tokens, grammar_tokens}
use Rattle.plain.specs.Static.{mismatched}
use Rattle.static_errors.specs.Held.{Holds, Held, static_of}
use Rattle.tokens.specs.Lengths.{form_of, late_form, length_at}
use Rattle.tokens.specs.Names.{name_at, Named}
use Rattle.tokens.proofs.Forms.{sized, length-text}
use Rattle.tokens.proofs.Walk.{by-mark}
use Rattle.static_errors.specs.Scan.{Tokens, Some, names_at, Indexed, refusal_of}
use Rattle.static_errors.proofs.View.{Step, step, spelt}
use Rattle.static_errors.proofs.ProperTrees.{tokens-of}
use Rattle.static_errors.proofs.Trees.{rules-agree}

mismatch : Prolog → Bool
mismatch p = elim p [ no-prolog ↦ false | version k ↦ not (same k (chars "1.0")) ]

no-rule : (m : Mark) → 20 + mark_number m ≡ 40 → ⊥
no-rule m = by-mark (λ k. 20 + k ≡ 40 → ⊥) (λ e. omega arith) (λ e. omega arith) (λ e. omega arith) (λ e. omega arith) m

is-two : (n : ℕ) → n ≡ 40 → 2 ≡ form_of n
unfolding form_of late_form
is-two n f = rw f

module _ (t : List ℕ) (end : ℕ) where
  pub some-tokens : Held t end → Some t end
  some-tokens h = record { tokens = grammar_tokens h.grammar; held = tokens-of t end h.grammar h.holds }

  pub answer : (index : List ℕ) (n : ℕ) → Indexed t end n index → (r : ℕ) → ((ts : List Token) → Tokens t end 0 ts → r ≡ refusal_of (names_at t (take n index)) ts)
      → (g : Grammar) → Holds t end g → r ≡ static_of g
  answer index n i r e g h =
      let k = tokens-of t end g h in
      e (grammar_tokens g) k ∙ ap (λ (hs : List Text). refusal_of hs (grammar_tokens g)) (i.heads (grammar_tokens g) k) ∙ rules-agree g h.proper

  -- the first token
  head-token : Prolog → Rule → Token
  head-token no-prolog r = rule-head r.mark r.name
  head-token (version k) r = version-is k

  tail-tokens : Prolog → Rule → List Rule → List Token
  tail-tokens no-prolog r rs = (body_tokens r.body ++ rule_end ∷ []) ++ concat_map rule_tokens rs
  tail-tokens (version k) r rs = rule_tokens r ++ concat_map rule_tokens rs

  begins-with : (p : Prolog) (r : Rule) (rs : List Rule) → prolog_tokens p ++ concat_map rule_tokens (r ∷ rs) ≡ head-token p r ∷ tail-tokens p r rs
  unfolding head-token tail-tokens
  begins-with no-prolog r rs = refl
  begins-with (version k) r rs = refl

  module _ (g : Grammar) (h : Holds t end g) where
    firsts : Tokens t end 0 (head-token g.prolog g.root ∷ tail-tokens g.prolog g.root g.others)
    firsts = rw (begins-with g.prolog g.root g.others) at (tokens-of t end g h)

    first_step : Step t end 0 (head-token g.prolog g.root) (tail-tokens g.prolog g.root g.others)
    first_step = step t end 0 _ _ firsts

    pub some-there : 0 < length t
    some-there = let a = first_step.fits in let b = first_step.some in let c = h.within in omega arith

    pub fits-there : 0 + length_at t 0 ≤ length t
    fits-there = let a = first_step.fits in let c = h.within in omega arith

  of-prolog : (p : Prolog) (r : Rule) (rs : List Rule) → Tokens t end 0 (head-token p r ∷ tail-tokens p r rs)
      → (get_or t 0 0 ≡ 40 → not (same (name_at t 0) (chars "1.0")) ≡ mismatch p) × ((get_or t 0 0 ≡ 40 → ⊥) → false ≡ mismatch p)
  unfolding head-token tail-tokens mismatch
  of-prolog no-prolog r rs w = (λ e. absurd (no-rule r.mark (sym ((step t end 0 _ _ w).numbers 0 (omega arith)) ∙ e)), λ e. refl)
  of-prolog (version k) r rs w = (λ e. ap (λ (n : Text). not (same n (chars "1.0"))) (spelt t end 0 _ _ w 40 k refl), λ e. absurd (e ((step t end 0 _ _ w).numbers 0 (omega arith))))

  module _ (g : Grammar) (h : Holds t end g) where
    pub no-version : (get_or t 0 0 ≡ 40 → ⊥) → false ≡ mismatched g
    unfolding mismatched mismatch
    no-version e = (of-prolog g.prolog g.root g.others (firsts g h)).1 e

    pub with-version : get_or t 0 0 ≡ 40 → (r : Bool) → r ≡ same (name_at t 0) (chars "1.0") → not r ≡ mismatched g
    unfolding mismatched mismatch
    with-version e r f = ap not f ∙ (of-prolog g.prolog g.root g.others (firsts g h)).0 e

  pub named-there : 0 + length_at t 0 ≤ length t → get_or t 0 0 ≡ 40 → Named t 0
  named-there h e = omega (arith, sized t 0 h 2 (get_or t (0 + 1) 0 + 2) (is-two (get_or t 0 0) e) (length-text 2 (get_or t (0 + 1) 0) (omega arith)))
