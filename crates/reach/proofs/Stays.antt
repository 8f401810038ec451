-- Derivations stay in what the two passes flag.
use mathlib.Core.Path.{◌≡◌}
use mathlib.Core.List.{List}
use Prim.Native.Nat.{ℕ, ◌+◌, ◌<◌}
use native.Mathlib.Omega.{arith}
use lib.ListN.{length}
use Rattle.text.specs.Lists.{Text}
use Rattle.tree.specs.Tree.{Terminal, Symbol, Grammar}
use Rattle.chart.specs.Code.{next_kind, rule_at, On, at-end, at-terminal, at_symbol, Ruled}
use Rattle.heights.proofs.Part.{Stays}
use Rattle.reach.specs.Flags.{Reached, Fits, Wanted, home_of, LeftClosed, RightClosed}
use Rattle.reach.proofs.Closed.{home-first, home-next, steps-over, wants}

module _ {At : ℕ → Terminal → Type 0} {c : List ℕ} {g : Grammar} {dots : List (List Symbol)} {heads : List Symbol} {p : ℕ} where
  -- a dot that is no end has a next one
  pub goes_on : On At c g dots heads p → (next_kind c p ≡ 0 → ⊥) → p + 1 < length dots
  goes_on (at-end q _) z = absurd (z q)
  goes_on (at-terminal x q l _ _ _) z = l
  goes_on (at_symbol s q l _ _ _ _) z = l

  -- a symbol's rule is named by a dot
  pub named : On At c g dots heads p → next_kind c p ≡ 2 → rule_at c p < length dots
  named (at-end q _) z = absurd (omega arith)
  named (at-terminal x q _ _ _ _) z = absurd (omega arith)
  named (at_symbol s q _ _ _ l _) z = l

pub stays : {At : ℕ → Terminal → Type 0} {c : List ℕ} {g : Grammar} {r : Text} {size top first : ℕ} {M : List ℕ} (w : Ruled At c g size top first) → LeftClosed At c r size top M
    → RightClosed c (length r) size top M → Stays w r (home_of c) (Fits M) (Reached M) (Wanted M)
stays {c = c} w l v = record {
  next-home = λ p h z. home-next c p (w.inner p (omega (arith, goes_on (w.stands p h) z, w.count)) z);
  shifts = λ p i x h b z u a f. l.fit p i x h b z u a f;
  enters = λ p q i h hq b z u o. (l.first q _ i hq b o (l.begin p i h b z u), home-first c q _ o);
  passes = λ p i m h e n d b u. (steps-over w l h e n d b u).1;
  wants = λ p i m j h e n d f b u y. wants w l v h e n d f b u y;
}
