-- The search as a whole: a rule is found exactly if it derives some text.
use mathlib.Core.Bool.{Bool}
use mathlib.Core.List.{List}
use mathlib.Core.Logic.{inl, ⊎_elim}
use mathlib.Core.Path.{◌≡◌, refl}
use Prim.Native.Nat.{ℕ, ◌+◌, ◌<◌}
use native.Mathlib.Omega.{arith}
use lib.ListN.{get_or, replicate, length-replicate, get_or-replicate}
use Rattle.text.proofs.Tests.{clash}
use Rattle.chart.specs.Code.{next_kind, rule_at}
use Rattle.chart.proofs.Users.{all-zero}
use Rattle.productive.specs.Made.{Good, Sure, Made, made-end, made-terminal, made-symbol, Tells, Fresh}
use Rattle.productive.specs.State.{Done, tail_of, Kept, Sound, Begun, Pending, Drained, Answers}
use Rattle.productive.proofs.Counts.{total-ones, one-most}

inside : {c : List ℕ} {size : ℕ} {F : List Bool} {p : ℕ} → Made c F size p → p < size
inside (made-end h k) = h
inside (made-terminal h k s m) = h
inside (made-symbol h k o m n) = h

module _ {c : List ℕ} {size : ℕ} {F : List Bool} (f : Fresh c size F) where
  abbrev O₀ : List ℕ
  O₀ = replicate 512 1

  abbrev Q₀ : List ℕ
  Q₀ = replicate 513 0

  no-tail : tail_of Q₀ ≡ 0
  no-tail = all-zero 513 0

  none-good : (x : ℕ) → x < size → Good F x → ⊥
  none-good x h g = clash (f.none x (omega (arith, f.shape.small))) g

  none_done : (e : ℕ) → e < size → Done O₀ e → ⊥
  none_done e h d = let o : get_or O₀ e 0 ≡ 1 = get_or-replicate 512 e 1 0 (omega (arith, f.shape.small)) in omega arith

  pub whole-start : Kept c size F O₀ Q₀ size
  whole-start = record {
    shape = f.shape;
    room = f.room;
    marks-long = f.long;
    missing-long = length-replicate {A = ℕ} 512 1;
    queue_long = length-replicate {A = ℕ} 513 0;
    count = omega (arith, no-tail, total-ones 512);
    flags = one-most 512;
    queued = λ i h l. absurd (omega (arith, no-tail));
    bottom = f.none 512 (omega arith);
    closed = λ y h n g s. absurd (none-good (y + 1) h g);
    owner = λ x e h g o. absurd (none-good x h g);
  }

  sound-start : Sound c F size F O₀
  sound-start = record {
    good = λ x h g. absurd (none-good x h g);
    sure = λ y h s. inl (f.only y (omega arith) s, s);
    done = λ e h d. absurd (none_done e h d);
  }

  module _ {M₁ : List Bool} {O₁ Q₁ : List ℕ} (b : Begun c size F O₀ Q₀ M₁ O₁ Q₁ 0 size) where
    pub whole-pending : Pending c size M₁ O₁ Q₁ 0
    whole-pending e h d = ⊎_elim (λ o. absurd (none_done e h o)) (λ w. inl (record { at = w.at; after = omega (arith, w.after); before = w.before; is = w.is })) (b.moved.grown.fresh e d)

    module _ {M₂ : List Bool} {O₂ Q₂ : List ℕ} (d : Drained c size M₁ O₁ Q₁ M₂ O₂ Q₂) where
      sound-end : Sound c F size M₂ O₂
      sound-end = d.moved.sound F (b.moved.sound F sound-start tt) tt

      kept : Kept c size M₂ O₂ Q₂ size
      kept = d.moved.kept

      back : (p : ℕ) → p < size → (next_kind c p ≡ 0 → ⊥) → Good M₂ (p + 1) → Sure M₂ (p + 1) → Good M₂ p
      back p h n = let l = f.shape.after p h n in kept.closed p l (λ z. omega arith)

      good_of : {p : ℕ} → Made c F size p → Good M₂ p
      good_of (made-end {p} h k) = d.moved.grown.marks p (b.ends p (omega arith) h k)
      good_of (made-terminal {p} h k s m) = back p h (λ z. omega arith) (good_of m) (d.moved.grown.marks (512 + (p + 1)) (b.moved.grown.marks (512 + (p + 1)) s))
      good_of (made-symbol {p} {q} h k o m n) =
          back p h (λ z. omega arith) (good_of n) (d.uses (rule_at c p) (f.shape.rule p h k) (kept.owner q (rule_at c p) (inside m) (good_of m) o) p h k refl)

      pub whole-end : {r : Bool} → Answers c size O₂ r → Tells c F size r
      whole-end a = record {
        some = λ e. (let w = a.some e in
            record { dot = w.0; rule = w.2.rule; inside = w.1; owner = w.2.owner; none = λ m. w.2.is (kept.owner m.dot w.2.rule (inside m.made) (good_of m.made) m.owner) });
        every = λ e p x h o. sound-end.done x (f.shape.owner p x h o) (a.every e p x h o);
      }
