-- The search keeps its sets sound.
use mathlib.Core.List.{List}
use mathlib.Core.Logic.{⊎_elim}
use mathlib.Core.Path.{◌≡◌, refl, sym, subst, ◌∙◌}
use Prim.Native.Nat.{ℕ, ◌+◌, ◌<◌, ◌≤◌}
use native.Mathlib.Omega.{arith}
use Rattle.bits.specs.Bits.{Has}
use Rattle.chart.specs.Code.{rule_at}
use Rattle.reach.specs.Flags.{Reached, Ends}
use Rattle.ends.specs.Spans.{OnList}
use Rattle.moves.specs.Moves.{Move, move-terminal, move-symbol, Moved}
use Rattle.ends.proofs.Reach.{list_inside, arrived}
use Rattle.standing.specs.Stood.{Stood, at_first, entering, past-terminal, past-symbol, Base}
use Rattle.standing.specs.Sets.{Joined, AtDot, Told, Followed, Ran}

-- where a dot stands, it is flagged
pub record Flagged (M : List ℕ) (size n p i : ℕ) : Type 0 where
  pub inside : p < size
  pub on : i ≤ n
  pub used : Reached M p i

module _ {c L M : List ℕ} {size n top : ℕ} {t : List ℕ} (b : Base c L M size n top t) where
  pub stood-flagged : {p i : ℕ} → Stood c L M n top p i → Flagged M size n p i
  stood-flagged (at_first {q} o) = record {
    inside = list_inside b.ground.linked b.inside q o;
    on = omega arith;
    used = b.ground.flows.first q top 0 b.inside (omega arith) o b.root;
  }
  stood-flagged (entering {p} {i} {q} s k o) =
      let a = stood-flagged s in
      let h = (b.ground.shape.names p a.inside k).0 in
      record {
        inside = list_inside b.ground.linked h q o;
        on = a.on;
        used = b.ground.flows.first q (rule_at c p) i h a.on o (b.ground.flows.begin p i a.inside a.on k a.used);
      }
  stood-flagged (past-terminal {p} {i} s k f w) =
      let a = stood-flagged s in
      record {
        inside = b.ground.shape.nexts p a.inside (λ z. omega (arith, z, k));
        on = w;
        used = b.ground.flows.shift p i a.inside a.on k a.used f;
      }
  stood-flagged (past-symbol {p} {i} {m} s k w) =
      let a = stood-flagged s in
      let h = (b.ground.shape.names p a.inside k).0 in
      let r = arrived b.ground.shape b.ground.linked b.ground.flows (rule_at c p) h a.on w.listed (b.ground.flows.begin p i a.inside a.on k a.used) w.steps in
      let e = subst (λ (u : ℕ). Ends M u m) r.home (b.ground.flows.end w.last m r.inside r.on w.end r.used) in
      record {
        inside = b.ground.shape.nexts p a.inside (λ z. omega (arith, z, k));
        on = r.on;
        used = b.ground.flows.over p i m a.inside r.order r.on k a.used e;
      }

  one-moved : {p y z : ℕ} → Stood c L M n top p y → Move c M n t p y z → Stood c L M n top (p + 1) z
  one-moved {p} s (move-terminal k l) = subst (Stood c L M n top (p + 1)) (sym l.is) (past-terminal s k l.fits l.within)
  one-moved {p} {y} {z} s (move-symbol k l d) =
      let a = stood-flagged s in
      let h = (b.ground.shape.names p a.inside k).0 in
      past-symbol s k (b.sound.is (rule_at c p) y z h l (b.ground.flows.begin p y a.inside l k a.used) (omega arith) d)

  from_low : {p y z : ℕ} → Move c M n t p y z → y < 256
  from_low (move-terminal k l) = omega (arith, l.within, b.ground.short)
  from_low (move-symbol k l d) = omega (arith, l, b.ground.short)

  pub moved-stood : {C : List ℕ} {p : ℕ} → AtDot c L M n top p C → (z : ℕ) → Moved c M n t p C z → Stood c L M n top (p + 1) z
  moved-stood f z w = one-moved (f w.from (from_low w.move) w.has) w.move

-- a dot's row takes in places where it stands; a rule's, places where it is entered
module _ {c L M : List ℕ} {n top : ℕ} {S S' C : List ℕ} (s : Told c L M n top S) where
  pub told-dot : {p : ℕ} → p < 512 → Joined S S' p C → AtDot c L M n top p C → Told c L M n top S'
  told-dot {p} h j f = record {
    dots = λ q x l m. ⊎_elim (s.dots q x l) (λ z. subst (λ (y : ℕ). Stood c L M n top y x) (sym z.0) (f x m.low z.1)) (j.is q x m);
    rules = λ e x l m q o. ⊎_elim (λ y. s.rules e x l y q o) (λ z. absurd (omega (arith, z.0, h))) (j.is (512 + e) x m);
  }

  pub told-rule : {row : ℕ} (e : ℕ) → row ≡ 512 + e → Joined S S' row C → ((x : ℕ) → x < 256 → Has C x → (q : ℕ) → OnList L e q → Stood c L M n top q x) → Told c L M n top S'
  told-rule {row} e i j f = record {
    dots = λ q x l m. ⊎_elim (s.dots q x l) (λ z. absurd (omega (arith, z.0, i, l))) (j.is q x m);
    rules = λ e' x l m q o. ⊎_elim (λ y. s.rules e' x l y q o) (λ z. f x m.low z.1 q (subst (λ (y : ℕ). OnList L y q) (let w : e' ≡ e = omega (arith, z.0, i) in w) o))
        (j.is (512 + e') x m);
  }

pub ran-start : {c L M : List ℕ} {size n : ℕ} {t S : List ℕ} → Ran c L M size n t S S
ran-start = record { long = refl; told = λ top b s. s }

pub ran-join : {c L M : List ℕ} {size n : ℕ} {t S S' S'' : List ℕ} → Ran c L M size n t S S' → Ran c L M size n t S' S'' → Ran c L M size n t S S''
ran-join v w = record { long = w.long ∙ v.long; told = λ top b s. w.told top b (v.told top b s) }

pub ran-one : {c L M : List ℕ} {size n rule q : ℕ} {t S S' S'' : List ℕ} → OnList L rule q → Ran c L M size n t S S' → Followed c M size n rule q t S' S'' → Ran c L M size n t S S''
ran-one {L = L} o v w = record { long = w.long ∙ v.long; told = λ top b s. w.told L top b o (v.told top b s) }
