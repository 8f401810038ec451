-- Where steps lead: the flags of the pass from the left have it.
use mathlib.Core.List.{List}
use mathlib.Core.Path.{◌≡◌, sym, subst, ◌∙◌}
use Prim.Native.Nat.{ℕ, ◌+◌, ◌*◌, ◌-◌, ◌<◌, ◌≤◌}
use native.Mathlib.Omega.{arith}
use lib.ListN.{get_or}
use Rattle.chart.specs.Code.{rule_at}
use Rattle.reach.specs.Flags.{Reached, Begins, Ends, home_of}
use Rattle.reach.specs.Work.{Listed, l-here, l-next, Linked}
use Rattle.reach.proofs.Closed.{home-next}
use Rattle.sparse.specs.Cells.{Shape}
use Rattle.ends.specs.Spans.{OnList, Steps, here, by-terminal, by-symbol, Flows}

pub list_inside : {L : List ℕ} {size e : ℕ} → Linked size L → e < size → (q : ℕ) → OnList L e q → q < size
list_inside {L} {size} {e} w h q l = go (get_or L (2 * e) 0) (w.last e h) (λ u v. v) l
  where
    go : (x : ℕ) → x ≤ size → ((u : ℕ) → Listed L x u → OnList L e u) → Listed L x q → q < size
    go x b f (l-here z) = omega arith
    go x b f (l-next v z r) =
        let n = w.next e v h (f v (l-here z)) in
        go (get_or L (2 * v + 1) 0) (omega arith) (λ u y. f u (l-next v z y)) r

-- where steps from a rule's first dot lead
pub record Arrived (c M : List ℕ) (size n e x p j : ℕ) : Type 0 where
  pub inside : p < size
  pub on : j ≤ n
  pub order : x ≤ j
  pub used : Reached M p j
  pub home : home_of c p ≡ e

module _ {c L M : List ℕ} {size n : ℕ} (shape : Shape c size) (linked : Linked size L) (flows : Flows c L M size n) where
  pub arrived : {q x p j : ℕ} (e : ℕ) → e < size → x ≤ n → OnList L e q → Begins M e x → Steps c L M n q x p j → Arrived c M size n e x p j
  arrived {q} {x} e h l o b here = record {
    inside = list_inside linked h q o;
    on = l;
    order = omega arith;
    used = flows.first q e x h l o b;
    home = flows.home q e h o;
  }
  arrived {q} {x} e h l o b (by-terminal {p = p} {j = j} s k f w) =
      let a = arrived e h l o b s in
      let next = shape.nexts p a.inside (λ z. omega (arith, z, k)) in
      record {
        inside = next;
        on = w;
        order = omega (arith, a.order);
        used = flows.shift p j a.inside a.on k a.used f;
        home = home-next c p (shape.inner p next (λ z. omega (arith, z, k))) ∙ a.home;
      }
  arrived {q} {x} e h l o b (by-symbol {p = p} {j = j} {f = f} {l = last} {m = m} s k r t z) =
      let a = arrived e h l o b s in
      let next = shape.nexts p a.inside (λ y. omega (arith, y, k)) in
      let named = (shape.names p a.inside k).0 in
      let i = arrived (rule_at c p) named a.on r (flows.begin p j a.inside a.on k a.used) t in
      let ends = subst (λ (u : ℕ). Ends M u m) i.home (flows.end last m i.inside i.on z i.used) in
      record {
        inside = next;
        on = i.on;
        order = omega (arith, a.order, i.order);
        used = flows.over p j m a.inside i.order i.on k a.used ends;
        home = home-next c p (shape.inner p next (λ y. omega (arith, y, k))) ∙ a.home;
      }

-- the next link of a list
module _ {L : List ℕ} {size e x : ℕ} (w : Linked size L) (h : e < size) (t : 0 < x) (f : (u : ℕ) → Listed L x u → OnList L e u) where
  link : 2 * (x - 1) + 1 ≡ 2 * x - 1
  link = omega (arith, t)

  pub link_here : OnList L e (x - 1)
  link_here = f (x - 1) (l-here (omega (arith, t)))

  pub link-less : get_or L (2 * x - 1) 0 < x
  link-less =
      let y : get_or L (2 * x - 1) 0 ≤ x - 1 = subst (λ (k : ℕ). get_or L k 0 ≤ x - 1) link (w.next e (x - 1) h link_here) in
      omega (arith, y, t)

  pub link-next : (u : ℕ) → Listed L (get_or L (2 * x - 1) 0) u → OnList L e u
  link-next u z = f u (l-next (x - 1) (omega (arith, t)) (subst (λ (k : ℕ). Listed L (get_or L k 0) u) (sym link) z))
