-- One visit: the dot, then the rule of which an alternative begins there.
use mathlib.Core.Bool.{Bool, true, false, ◌||◌}
use mathlib.Core.Path.{◌≡◌, refl, sym, ap, subst, ◌∙◌}
use mathlib.Core.List.{List}
use Prim.Native.Nat.{ℕ, ◌+◌, ◌-◌, ◌<◌, ◌≤◌}
use native.Mathlib.Omega.{arith}
use lib.ListN.{get_or, set}
use Rattle.chart.specs.Code.{next_kind, owner_at}
use Rattle.chart.specs.Heights.{cell_at, none}
use Rattle.heights.specs.Table.{cell_of, value_of, Shape, Place}
use Rattle.heights.specs.Filling.{Gives, by-owned, stay, Only}
use Rattle.heights.proofs.Cells.{owner-place}
use Rattle.heights.proofs.Lowering.{steps-join, steps-le}
use Rattle.sweeps.specs.Layers.{Running, Offered, Adds, added, same, Done, Passed, DotAdded, dot-held, dot-free, dot-added}
use Rattle.sweeps.specs.Layers.{RuleAdded, no-rule, rule-held, rule-above, rule-added, Visited}
use Rattle.sweeps.proofs.Storing.{taken, cell_other, stored, still, dot-kept, done-kept}

pub adds-stay : (c : List ℕ) (size n : ℕ) (t : List ℕ) → Adds c size n t t false
adds-stay c size n t = same (λ e i j h k. refl)

-- one part of the sweep after another
pub adds-join : {c : List ℕ} {size n : ℕ} {t u w : List ℕ} {r s : Bool} → ((x : ℕ) → get_or u x 0 ≤ get_or t x 0) → ((x : ℕ) → get_or w x 0 ≤ get_or u x 0)
    → Adds c size n t u r → Adds c size n u w s → Adds c size n t w (r || s)
adds-join {n = n} a b (added e i j h k l m) s = added e i j h k l (omega (arith, b (cell_at n e i j)))
adds-join {n = n} a b (same f) (added e i j h k l m) = added e i j h k (omega (arith, a (cell_at n e i j))) m
adds-join a b (same f) (same g) = same (λ e i j h k. g e i j h k ∙ f e i j h k)

pub passed-join : {c f : List ℕ} {size n h : ℕ} {A : ℕ → ℕ → Type 0} {P Q R : List ℕ → Type 0} {t u w : List ℕ} {r s : Bool}
    → Passed c f size n h A P t r u → Passed c f size n h A Q u s w → (P u → Q w → R w) → Passed c f size n h A R t (r || s) w
passed-join {c} {f} {size} {n} a b d = record {
  steps = steps-join c f size n a.steps b.steps;
  running = b.running;
  done = d a.done b.done;
  adds = adds-join (steps-le c f size n a.steps) (steps-le c f size n b.steps) a.adds b.adds;
}

module _ (c f : List ℕ) (size n h len : ℕ) (sh : Shape c size n len) (i j p : ℕ) (pl : Place size n p i j) where
  -- the dot
  record DotDone (t u : List ℕ) : Type 0 where
    here : (next_kind c p ≡ 0 → ⊥) → Gives c f size n u p i j h → cell_of n u p i j ≤ h
    kept : (q : ℕ) → p < q → q < size → Done c f size n h t i j q → Done c f size n h u i j q

  dot-passed : {t u : List ℕ} → Running c f size n h t → DotAdded c f size n h t p i j u → Passed c f size n h (Only i j) (DotDone t) t false u
  dot-passed {t} run (dot-held o) = record {
    steps = stay;
    running = run;
    done = record { here = λ d g. omega (arith, run.capped.low p i j pl (omega (arith, run.capped.most p i j pl))); kept = λ q a b w. w };
    adds = adds-stay c size n t;
  }
  dot-passed {t} run (dot-free o) = record {
    steps = stay;
    running = run;
    done = record { here = λ d g. absurd (o run.height d (record { value = h; gives = g; low = omega arith })); kept = λ q a b w. w };
    adds = adds-stay c size n t;
  }
  dot-passed {t} run (dot-added b d o) = record {
    steps = stored c f size n h len sh t run p i j pl b o;
    running = still c f size n h len sh t run p i j pl b;
    done = record {
      here = λ d' g. omega (arith, taken c f size n h len sh t run p i j pl b);
      kept = λ q a l w. done-kept c f size n h len sh t run p i j pl b q i j l pl.order pl.stop (λ _ e. omega arith) (λ _ e. omega arith) w;
    };
    adds = same (λ e k l w z. cell_other c f size n h len sh t run p i j pl b e k l w.order w.stop (λ q. d (rw q at z)));
  }

  -- then the rule
  rule-passed : {t u w : List ℕ} {r : Bool} → Running c f size n h u → DotDone t u → RuleAdded c n h u p i j r w → Passed c f size n h (Only i j) (Visited c f size n h i j p t) u r w
  rule-passed {u = u} run d (no-rule o) = record {
    steps = stay;
    running = run;
    done = record { here = record { dot = d.here; owner = λ e z v. absurd (omega arith) }; kept = d.kept };
    adds = adds-stay c size n u;
  }
  rule-passed {u = u} run d (rule-held e o b) = record {
    steps = stay;
    running = run;
    done = record {
      here = record {
        dot = d.here;
        owner = λ e' z v. let q : e ≡ e' = omega arith in let w = owner-place sh pl e o in
            subst (λ (y : ℕ). cell_of n u y i j ≤ h) q (omega (arith, run.capped.low e i j w (omega (arith, run.capped.most e i j w))));
      };
      kept = d.kept;
    };
    adds = adds-stay c size n u;
  }
  rule-passed {u = u} run d (rule-above b) = record {
    steps = stay;
    running = run;
    done = record { here = record { dot = d.here; owner = λ e z v. absurd (omega arith) }; kept = d.kept };
    adds = adds-stay c size n u;
  }
  rule-passed {u = u} run d (rule-added e o b l) =
      let w = owner-place sh pl e o in
      let ends = sh.owner-ends p e pl.inside o in
      let keep : (q : ℕ) → (next_kind c q ≡ 0 → ⊥) → q ≡ e → ⊥ = λ q k z. k (rw z ends) in
      record {
        steps = stored c f size n h len sh u run e i j w b (record { value = value_of c u n p i j; gives = by-owned p pl.inside o refl; low = l });
        running = still c f size n h len sh u run e i j w b;
        done = record {
          here = record {
            dot = dot-kept c f size n h len sh u run e i j w b p i j pl.inside pl.order pl.stop (keep (p + 1)) d.here;
            owner = λ e' z v. let q : e ≡ e' = omega arith in
                subst (λ (y : ℕ). cell_of n (set u (cell_at n e i j) h) y i j ≤ h) q (omega (arith, taken c f size n h len sh u run e i j w b));
          };
          kept = λ q a m x. done-kept c f size n h len sh u run e i j w b q i j m pl.order pl.stop (keep (q + 1)) (keep q) (d.kept q a m x);
        };
        adds = added e i j w ends (omega (arith, b)) (omega (arith, taken c f size n h len sh u run e i j w b, run.height));
      }

  pub visited : {t u w : List ℕ} {r : Bool} → Running c f size n h t → DotAdded c f size n h t p i j u → RuleAdded c n h u p i j r w
      → Passed c f size n h (Only i j) (Visited c f size n h i j p t) t r w
  visited run a b =
      let x = dot-passed run a in
      passed-join x (rule-passed x.running x.done b) (λ _ y. y)

-- what `add_rule` finds at the cell x of the owner
module _ (c : List ℕ) (n h : ℕ) (t : List ℕ) (p i j x : ℕ) (o : owner_at c p ≡ 0 → ⊥) (at : x ≡ cell_at n (owner_at c p - 1) i j) where
  owner-is : owner_at c p ≡ owner_at c p - 1 + 1
  owner-is = omega arith

  there : get_or t x 0 ≡ cell_of n t (owner_at c p - 1) i j
  there = ap (λ (z : ℕ). get_or t z 0) at

  pub held-rule : (get_or t x 0 ≡ none → ⊥) → RuleAdded c n h t p i j false t
  held-rule b = rule-held (owner_at c p - 1) owner-is (λ e. b (there ∙ e))

  pub took-rule : get_or t x 0 ≡ none → value_of c t n p i j ≤ h → RuleAdded c n h t p i j true (set t x h)
  took-rule b l = subst (λ (z : ℕ). RuleAdded c n h t p i j true (set t z h)) (sym at) (rule-added (owner_at c p - 1) owner-is (sym there ∙ b) l)

-- what `add_dot` finds at the cell x of p
module _ (c f : List ℕ) (size n h : ℕ) (t : List ℕ) (p i j x : ℕ) (at : x ≡ cell_at n p i j) where
  here-is : get_or t x 0 ≡ cell_of n t p i j
  here-is = ap (λ (z : ℕ). get_or t z 0) at

  pub held-dot : (get_or t x 0 ≡ none → ⊥) → DotAdded c f size n h t p i j t
  held-dot b = dot-held (λ e. b (here-is ∙ e))

  pub free-dot : (r : Bool) → Offered c f size n h t p i j r → r ≡ false → DotAdded c f size n h t p i j t
  free-dot r o e = dot-free (λ z d. o.no z e d)

  pub took-dot : get_or t x 0 ≡ none → (r : Bool) → Offered c f size n h t p i j r → r ≡ true → DotAdded c f size n h t p i j (set t x h)
  took-dot b r o e = subst (λ (z : ℕ). DotAdded c f size n h t p i j (set t z h)) (sym at) (dot-added (sym here-is ∙ b) (o.yes e).0 (o.yes e).1)
