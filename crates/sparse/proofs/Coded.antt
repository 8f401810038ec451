-- The code of a grammar's rules: its shape, and what the flags of a record make of it.
use mathlib.Core.Path.{◌≡◌, refl, sym, ap, ◌∙◌}
use mathlib.Core.List.{List, []}
use Prim.Native.Nat.{ℕ, zero, suc, ◌+◌, ◌*◌, ◌<◌, ◌≤◌}
use native.Mathlib.Omega.{arith}
use lib.ListN.{length}
use Rattle.text.specs.Limits.{most_size}
use Rattle.text.specs.Lists.{Text}
use Rattle.tree.specs.Tree.{Terminal, Symbol, Grammar}
use Rattle.chart.specs.Code.{next_kind, goes_at, owner_at, after_dot, On, at-end, at-terminal, at_symbol, Chain, ch-last, ch-next, Ruled}
use Rattle.heights.proofs.Part.{Stays, rule-first}
use Rattle.reach.specs.Flags.{Reached, Fits, Wanted, home_of, LeftClosed, RightClosed, FitsOnly}
use Rattle.reach.proofs.Closed.{home-first, home-next}
use Rattle.reach.proofs.Stays.{goes_on, named, stays}
use Rattle.sparse.specs.Cells.{Shape}
use Rattle.sparse.specs.Steps.{Flagged}

module _ {At : ℕ → Terminal → Type 0} {c : List ℕ} {g : Grammar} {size top first : ℕ} (k : Ruled At c g size top first) where
  nexts : (p : ℕ) → p < size → (next_kind c p ≡ 0 → ⊥) → p + 1 < size
  nexts p h z = omega (arith, goes_on (k.stands p h) z, k.count)

  longer : {p n : ℕ} → length (after_dot k.dots p) ≡ suc n → On At c g k.dots k.heads p → (next_kind c p ≡ 0 → ⊥) × (length (after_dot k.dots (p + 1)) ≡ n)
  longer l (at-end z e) = absurd (omega (arith, ap length e))
  longer l (at-terminal x z _ e _ _) = (λ q. omega arith, omega (arith, ap length e))
  longer l (at_symbol s z _ e _ _ _) = (λ q. omega arith, omega (arith, ap length e))

  -- the rule of a dot is that of the end of its alternative
  home-end : (n p : ℕ) → p < size → length (after_dot k.dots p) ≡ n → home_of c (p + n) ≡ home_of c p
  home-end zero p h e = let a : p + 0 ≡ p = omega arith in ap (home_of c) a
  home-end (suc n) p h e =
      let l = longer e (k.stands p h) in
      let b = nexts p h l.0 in
      let a : p + suc n ≡ p + 1 + n = omega arith in
      ap (home_of c) a ∙ home-end n (p + 1) b l.1 ∙ home-next c p (k.inner p b l.0)

  chain-last : {e q : ℕ} {ts : List (List Symbol)} → Chain c k.dots e q ts → (goes_at c e ≡ 0) × (home_of c e ≡ e)
  chain-last {e} (ch-last {q} h o l z) = (z, ap (home_of c) (sym l) ∙ home-end (length (after_dot k.dots q)) q (omega (arith, k.count)) refl ∙ home-first c q e o)
  chain-last (ch-next h o z r) = chain-last r

  pub shape_of : size ≤ most_size → 4 * size ≤ length c → Shape c size
  shape_of s r = record {
    small = s;
    room = r;
    nexts = nexts;
    inner = k.inner;
    names = λ p h z. (let a = rule-first k [] (home_of c) (Fits []) (Fits []) (Fits []) p h z in (omega (arith, named (k.stands p h) z, k.count), a.0, a.1));
    owners = λ p e h o. (let a = k.owned p e h o in
        let b = chain-last a.chain in
        (omega (arith, a.inside, k.count), a.last, b.0, b.1));
  }

  -- flags of a record in the place of its grammar's terminals
  module _ {r : Text} {M : List ℕ} (left : LeftClosed At c r size top M) (only : FitsOnly At c r size M) where
    on-flags : {p : ℕ} → p < size → On At c g k.dots k.heads p → On (Flagged M r) c g k.dots k.heads p
    on-flags h (at-end z e) = at-end z e
    on-flags {p} h (at-terminal x z l e w a) = at-terminal x z l e w (λ i b. (λ f. only p i x h b z f a, λ u t. (left.fit p i x h b z u a t).0))
    on-flags h (at_symbol s z l e n q d) = at_symbol s z l e n q d

    pub flag-code : Ruled (Flagged M r) c g size top first
    flag-code = record {
      dots = k.dots;
      heads = k.heads;
      count = k.count;
      stands = λ p h. on-flags h (k.stands p h);
      owned = k.owned;
      inner = k.inner;
      chains = k.chains;
      root-chain = k.root-chain;
      root-head = k.root-head;
      root-inside = k.root-inside;
      every = k.every;
      only = k.only;
      within = k.within;
      few = k.few;
      laid = k.laid;
      named = k.named;
      names = k.names;
    }

    shifted : (p i : ℕ) → p < size → i ≤ length r → next_kind c p ≡ 1 → Reached M p i → Fits M p i → On At c g k.dots k.heads p
        → Fits M p i × Reached M (p + 1) (i + goes_at c p)
    shifted p i h b z u f (at-end q e) = absurd (omega arith)
    shifted p i h b z u f (at-terminal x q l e w a) = left.fit p i x h b z u a (only p i x h b z f a)
    shifted p i h b z u f (at_symbol s q l e n w d) = absurd (omega arith)

    pub flag-stays : RightClosed c (length r) size top M → Stays flag-code r (home_of c) (Fits M) (Reached M) (Wanted M)
    unfolding flag-code
    flag-stays right =
        let s = stays k left right in
        record {
          next-home = s.next-home;
          shifts = λ p i x h b z u a f. shifted p i h b z u ((a i b).1 u f) (k.stands p h);
          enters = s.enters;
          passes = s.passes;
          wants = s.wants;
        }

    -- the root's alternatives begin with the record
    pub flag-root : (q : ℕ) → q < size → owner_at c q ≡ top + 1 → Reached M q 0
    flag-root q h o = left.first q top 0 h (omega arith) o left.root
