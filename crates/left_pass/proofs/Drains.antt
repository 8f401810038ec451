-- Steps of the pass from the left one after the other: the queue of a place drained.
use mathlib.Core.List.{List}
use mathlib.Core.Logic.{◌⊎◌, inl, inr, ⊎_elim}
use mathlib.Core.Path.{sym, subst, ap, ◌∙◌}
use Prim.Native.Nat.{ℕ, ◌+◌, ◌*◌, ◌<◌, ◌≤◌}
use native.Mathlib.Decide.{ℕ_discrete}
use native.Mathlib.Omega.{arith}
use lib.ListN.{get_or}
use Rattle.chart.specs.Code.{rule_at}
use Rattle.reach.specs.Flags.{Reached, home_of}
use Rattle.reach.specs.Work.{tail_of, Waits}
use Rattle.left_pass.specs.Left.{Stir, At, Stepped, SymbolDone, EndDone, EmptyDone, Done, Closing, Closed}
use Rattle.reach.proofs.Queue.{waits-on, waits-from}
use Rattle.left_pass.proofs.Steps.{stir-join, stir-none}

-- steps compose
pub stepped-join : {c : List ℕ} {size i : ℕ} {M Q M₁ Q₁ M₂ Q₂ : List ℕ} → Stepped c size M Q M₁ Q₁ i → Stepped c size M₁ Q₁ M₂ Q₂ i → Stepped c size M Q M₂ Q₂ i
stepped-join a b = record {
  stir = stir-join a.stir b.stir;
  rules = b.rules;
  only = λ p h k f. ⊎_elim (λ y. a.only p h k y) inr (b.only p h k f);
  level = λ x h v. b.level x h (a.level x h v);
}

pub at_next : {c : List ℕ} {size i p : ℕ} {M Q M' Q' : List ℕ} → At c size M Q i p → Stepped c size M Q M' Q' i → At c size M' Q' i p
at_next {i = i} {p} a s = record {
  shape = a.shape;
  kept = s.stir.kept;
  rules = s.rules;
  inside = a.inside;
  reached = omega (arith, a.reached, s.stir.grows (1536 * i + p));
}

module _ {size i : ℕ} {M Q M' Q' : List ℕ} (c : List ℕ) (p : ℕ) (s : Stir size 0 M Q M' Q' i) where
  symbol-more : SymbolDone c M Q i p → SymbolDone c M' Q' i p
  symbol-more f k = let d = f k in (omega (arith, d.0, s.grows (1536 * i + (512 + rule_at c p))), s.seen (p + 1) d.1, omega (arith, d.2, s.grows (1536 * i + p)))

  end_more : EndDone c M i p → EndDone c M' i p
  end_more f k = let d = f k in (omega (arith, d.0, s.grows (1536 * i + (1024 + home_of c p))), omega (arith, d.1, s.grows (1536 * i + p)))

  empty-more : EmptyDone c M i p → EmptyDone c M' i p
  empty-more f k z = let d = f k z in (omega (arith, d.0, s.grows (1536 * i + p)), omega (arith, d.1, s.grows (1536 * i + (p + 1))))

  done_more : Done c M Q i p → Done c M' Q' i p
  done_more d = record { symbol = symbol-more d.symbol; end = end_more d.end; empty = empty-more d.empty }

-- the dots of the queue up to the place h are done
pub record Draining (c : List ℕ) (size : ℕ) (M₀ Q₀ M Q : List ℕ) (i h : ℕ) : Type 0 where
  pub stepped : Stepped c size M₀ Q₀ M Q i
  pub pending : (p : ℕ) → p < size → Reached M p i → Waits Q h p ⊎ Done c M Q i p
  pub low : h ≤ tail_of Q

pub drain-start : {c : List ℕ} {size i : ℕ} {F A M Q : List ℕ} → Closing c size F A M Q i → Draining c size M Q M Q i 0
drain-start k = record {
  stepped = record { stir = stir-none k.kept; rules = k.rules; only = λ q h z f. inl f; level = λ x h l. l };
  pending = λ p h r. inl (k.listed p h r);
  low = omega arith;
}

module _ {c : List ℕ} {size i h : ℕ} {F A M₀ Q₀ M Q : List ℕ} (k : Closing c size F A M₀ Q₀ i) (d : Draining c size M₀ Q₀ M Q i h) (l : h < tail_of Q) where
  abbrev p : ℕ
  p = get_or Q (h + 1) 0

  pub drain-at : At c size M Q i p
  drain-at = let q = d.stepped.stir.kept.queued (h + 1) (omega arith) (omega arith) in
      record { shape = k.shape; kept = d.stepped.stir.kept; rules = d.stepped.rules; inside = q.0; reached = q.1 }

  pub drain-tail : h < 512
  drain-tail = omega (arith, d.stepped.stir.kept.count)

  module _ {M₁ Q₁ M₂ Q₂ M₃ Q₃ : List ℕ} (s : Stepped c size M Q M₁ Q₁ i × SymbolDone c M₁ Q₁ i p) (e : Stepped c size M₁ Q₁ M₂ Q₂ i × EndDone c M₂ i p)
      (t : Stepped c size M₂ Q₂ M₃ Q₃ i × EmptyDone c M₃ i p) where
    three : Stepped c size M Q M₃ Q₃ i
    three = stepped-join s.0 (stepped-join e.0 t.0)

    dot-done : Done c M₃ Q₃ i p
    dot-done = record {
      symbol = symbol-more c p t.0.stir (symbol-more c p e.0.stir s.1);
      end = end_more c p t.0.stir e.1;
      empty = t.1;
    }

    later : (q : ℕ) → Waits Q h q → Waits Q₃ (h + 1) q ⊎ Done c M₃ Q₃ i q
    later q w = elim (ℕ_discrete w.at (h + 1)) as (λ _. Waits Q₃ (h + 1) q ⊎ Done c M₃ Q₃ i q) [
      | yes z ↦ inr (subst (Done c M₃ Q₃ i) (ap (λ (x : ℕ). get_or Q x 0) (sym z) ∙ w.is) dot-done)
      | no z ↦ inl (waits-on {Q = Q} three.stir.more three.stir.same (record { at = w.at; after = omega (arith, w.after); before = w.before; is = w.is }))
    ]

    pub drain-next : Draining c size M₀ Q₀ M₃ Q₃ i (h + 1)
    drain-next = record {
      stepped = stepped-join d.stepped three;
      pending = λ q a r. ⊎_elim (λ o. ⊎_elim (later q) (λ f. inr (done_more c q three.stir f)) (d.pending q a o))
          (λ w. inl (waits-from (omega arith) w)) (three.stir.fresh q (omega (arith, k.shape.small)) r);
      low = omega (arith, three.stir.more);
    }

pub drain-end : {c : List ℕ} {size i h : ℕ} {M₀ Q₀ M Q : List ℕ} → Draining c size M₀ Q₀ M Q i h → (h < tail_of Q → ⊥) → Closed c size M₀ Q₀ M Q i
drain-end d n = record {
  stepped = d.stepped;
  done = λ p h r. ⊎_elim (λ w. absurd (n (omega (arith, w.after, w.before)))) (λ f. f) (d.pending p h r);
}
