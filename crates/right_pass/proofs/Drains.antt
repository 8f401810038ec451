-- The queue of the pass from the right at one place.
use mathlib.Core.List.{List}
use mathlib.Core.Logic.{◌⊎◌, inl, inr, ⊎_elim}
use mathlib.Core.Path.{◌≡◌, sym, subst, ap, ◌∙◌}
use Prim.Native.Nat.{ℕ, ◌+◌, ◌*◌, ◌-◌, ◌<◌, ◌≤◌}
use native.Mathlib.Decide.{ℕ_discrete}
use native.Mathlib.Omega.{arith}
use lib.ListN.{get_or}
use Rattle.chart.specs.Code.{next_kind, goes_at, rule_at, owner_at}
use Rattle.reach.specs.Flags.{Continued}
use Rattle.reach.specs.Work.{tail_of, Waits}
use Rattle.right_pass.specs.Right.{At, Stepped, FirstDone, SymbolDone, EmptyDone, Done, Closing, Closed}
use Rattle.reach.proofs.Queue.{waits-on, waits-from}
use Rattle.left_pass.proofs.Steps.{stir-none, stir-join}

-- nothing is to do
pub no-first : (c M : List ℕ) (j x : ℕ) → owner_at c x ≡ 0 → FirstDone c M j x
no-first c M j x z e o = absurd (omega arith)

module _ (c M Q : List ℕ) (j x : ℕ) where
  pub start-symbol : x ≡ 0 → SymbolDone c M Q j x
  start-symbol z p e = absurd (omega arith)

  pub no_symbol : (0 < x) → (next_kind c (x - 1) ≡ 2 → ⊥) → SymbolDone c M Q j x
  no_symbol h n p e k = absurd (n (ap (next_kind c) (let y : x - 1 ≡ p = omega arith in y) ∙ k))

  pub start-empty : x ≡ 0 → EmptyDone c M j x
  start-empty z p e = absurd (omega arith)

  pub no-terminal : (0 < x) → (next_kind c (x - 1) ≡ 1 → ⊥) → EmptyDone c M j x
  no-terminal h n p e k = absurd (n (ap (next_kind c) (let y : x - 1 ≡ p = omega arith in y) ∙ k))

  pub no-empty : (0 < x) → (goes_at c (x - 1) ≡ 0 → ⊥) → EmptyDone c M j x
  no-empty h n p e k g = absurd (n (ap (goes_at c) (let y : x - 1 ≡ p = omega arith in y) ∙ g))

pub stepped-join : {c : List ℕ} {size j : ℕ} {M Q M₁ Q₁ M₂ Q₂ : List ℕ} → Stepped c size M Q M₁ Q₁ j → Stepped c size M₁ Q₁ M₂ Q₂ j → Stepped c size M Q M₂ Q₂ j
stepped-join a b = record {
  stir = stir-join a.stir b.stir;
  wants = b.wants;
  ones = λ y h. a.ones y (b.ones y h);
  twos = λ p k h f. a.twos p k h (b.twos p k h f);
}

pub at_next : {c : List ℕ} {size j x : ℕ} {M Q M' Q' : List ℕ} → At c size M Q j x → Stepped c size M Q M' Q' j → At c size M' Q' j x
at_next a s = record { shape = a.shape; kept = s.stir.kept; wants = s.wants; inside = a.inside }

module _ {c : List ℕ} {size j : ℕ} {M Q M' Q' : List ℕ} (x : ℕ) (h : x < 512) (s : Stepped c size M Q M' Q' j) where
  first_more : FirstDone c M j x → FirstDone c M' j x
  first_more f e o b = omega (arith, f e o (s.ones (1536 * j + (512 + e)) b), s.stir.grows (1536 * j + (512 + e)))

  symbol-more : SymbolDone c M Q j x → SymbolDone c M' Q' j x
  symbol-more f p e k = let d = f p e k in
      (s.stir.seen p d.0, λ v. omega (arith, d.1 (s.ones (1536 * j + (1024 + rule_at c p)) v), s.stir.grows (1536 * j + (1024 + rule_at c p))))

  empty-more : EmptyDone c M j x → EmptyDone c M' j x
  empty-more f p e k g v = omega (arith, f p e k g (s.twos p j (omega arith) v), s.stir.grows (1536 * j + p))

  done_more : Done c M Q j x → Done c M' Q' j x
  done_more d = record { first = first_more d.first; symbol = symbol-more d.symbol; empty = empty-more d.empty }

pub record Draining (c : List ℕ) (size : ℕ) (M₀ Q₀ M Q : List ℕ) (j h : ℕ) : Type 0 where
  pub stepped : Stepped c size M₀ Q₀ M Q j
  pub pending : (p : ℕ) → p < size → Continued M p j → Waits Q h p ⊎ Done c M Q j p
  pub low : h ≤ tail_of Q

pub drain-start : {c : List ℕ} {size j : ℕ} {U E M Q : List ℕ} → Closing c size U E M Q j → Draining c size M Q M Q j 0
drain-start k = record {
  stepped = record { stir = stir-none k.kept; wants = k.wants; ones = λ y h. h; twos = λ p i h f. f };
  pending = λ p h r. inl (k.listed p h r);
  low = omega arith;
}

module _ {c : List ℕ} {size j h : ℕ} {U E M₀ Q₀ M Q : List ℕ} (k : Closing c size U E M₀ Q₀ j) (d : Draining c size M₀ Q₀ M Q j h) (l : h < tail_of Q) where
  abbrev x : ℕ
  x = get_or Q (h + 1) 0

  pub drain-at : At c size M Q j x
  drain-at = let q = d.stepped.stir.kept.queued (h + 1) (omega arith) (omega arith) in
      record { shape = k.shape; kept = d.stepped.stir.kept; wants = d.stepped.wants; inside = q.0 }

  pub drain-tail : h < 512
  drain-tail = omega (arith, d.stepped.stir.kept.count)

  module _ {M₁ Q₁ M₂ Q₂ M₃ Q₃ : List ℕ} (s : Stepped c size M Q M₁ Q₁ j × FirstDone c M₁ j x) (e : Stepped c size M₁ Q₁ M₂ Q₂ j × SymbolDone c M₂ Q₂ j x)
      (t : Stepped c size M₂ Q₂ M₃ Q₃ j × EmptyDone c M₃ j x) where
    three : Stepped c size M Q M₃ Q₃ j
    three = stepped-join s.0 (stepped-join e.0 t.0)

    inside : x < 512
    inside = omega (arith, drain-at.inside, k.shape.small)

    dot-done : Done c M₃ Q₃ j x
    dot-done = record {
      first = first_more x inside t.0 (first_more x inside e.0 s.1);
      symbol = symbol-more x inside t.0 e.1;
      empty = t.1;
    }

    later : (q : ℕ) → Waits Q h q → Waits Q₃ (h + 1) q ⊎ Done c M₃ Q₃ j q
    later q w = elim (ℕ_discrete w.at (h + 1)) as (λ _. Waits Q₃ (h + 1) q ⊎ Done c M₃ Q₃ j q) [
      | yes z ↦ inr (subst (Done c M₃ Q₃ j) (ap (λ (y : ℕ). get_or Q y 0) (sym z) ∙ w.is) dot-done)
      | no z ↦ inl (waits-on {Q = Q} three.stir.more three.stir.same (record { at = w.at; after = omega (arith, w.after); before = w.before; is = w.is }))
    ]

    pub drain-next : Draining c size M₀ Q₀ M₃ Q₃ j (h + 1)
    drain-next = record {
      stepped = stepped-join d.stepped three;
      pending = λ q a r. ⊎_elim (λ o. ⊎_elim (later q) (λ f. inr (done_more q (omega (arith, k.shape.small)) three f)) (d.pending q a o))
          (λ w. inl (waits-from (omega arith) w)) (three.stir.fresh q (omega (arith, k.shape.small)) r);
      low = omega (arith, three.stir.more);
    }

pub drain-end : {c : List ℕ} {size j h : ℕ} {M₀ Q₀ M Q : List ℕ} → Draining c size M₀ Q₀ M Q j h → (h < tail_of Q → ⊥) → Closed c size M₀ Q₀ M Q j
drain-end d n = record {
  stepped = d.stepped;
  done = λ p h r. ⊎_elim (λ w. absurd (n (omega (arith, w.after, w.before)))) (λ f. f) (d.pending p h r);
}
