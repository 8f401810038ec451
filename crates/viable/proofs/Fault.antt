-- The place of the fault: there is one, and only one; `faultOf` computes it; it is the farthest place that what stands on the record reaches.
use mathlib.Core.Path.{◌≡◌, refl, sym, subst}
use mathlib.Core.Bool.{Bool, false, not}
use mathlib.Core.Logic.{◌⊎◌, inl, inr}
use mathlib.Core.List.Memᴰ.{head as in_head}
use mathlib.Core.List.{[], ◌∷◌, Memᴰ as In}
use mathlib.Core.List.Memᴰ.{append_left as in_left}
use Prim.Native.Nat.{ℕ, zero, suc, ◌≤◌}
use native.Mathlib.Decide.{ℕ_discrete}
use native.Mathlib.Omega.{arith}
use lib.Dec.{T}
use lib.ListN.{length, take}
use Rattle.text.specs.Lists.{Text, all, concat_map}
use Rattle.text.specs.Utf8.{known}
use Rattle.text.proofs.Tests.{look, is_t, not_t}
use Rattle.tree.specs.Tree.{nonterminal, unmarked, Grammar}
use Rattle.plain.specs.Plain.{makes, ruled}
use Rattle.plain.specs.Written.{written}
use Rattle.derive.specs.Derive.{root}
use Rattle.derive.specs.Productive.{Produces}
use Rattle.derive.specs.Yield.{productive, unproductive}
use Rattle.derive.proofs.Productive.{any-in, productive-is}
use Rattle.viable.specs.Fault.{Begins, FaultAt}
use Rattle.viable.specs.Stands.{Farthest}
use Rattle.viable.specs.Compute.{begins_at, last_of, fault_of}
use Rattle.viable.proofs.Sound.{reached-begins, reach-inside}
use Rattle.viable.proofs.Reaching.{near, begins-is}

-- one place
pub fault-unique : {g : Grammar} {r : Text} (k m : ℕ) → FaultAt g r k → FaultAt g r m → k ≡ m
fault-unique k m a b = omega (arith, a.greatest m b.inside b.begins, b.greatest k a.inside a.begins)

-- the last number that passes
record LastOf (p : ℕ → Bool) (n : ℕ) : Type 0 where
  below : last_of p n ≤ n
  holds : (last_of p n ≡ 0) ⊎ T (p (last_of p n))
  most : (m : ℕ) → m ≤ n → T (p m) → m ≤ last_of p n

last-of : (p : ℕ → Bool) (n : ℕ) → LastOf p n
last-of p zero = record { below = omega arith; holds = inl refl; most = λ m h t. h }
last-of p (suc n) = elim (look (p (suc n))) as (λ _. LastOf p (suc n)) [
  | inl e ↦ (let q : last_of p (suc n) ≡ suc n = rw (e, last_of) in record { below = omega arith; holds = inr (rw q (is_t e)); most = λ m h t. omega arith })
  | inr e ↦ (let q : last_of p (suc n) ≡ last_of p n = rw (e, last_of) in
      let w = last-of p n in
      record {
        below = omega (arith, w.below);
        holds = rw q w.holds;
        most = λ m h t. elim (ℕ_discrete m (suc n)) as (λ _. m ≤ last_of p (suc n)) [
          | yes f ↦ absurd (not_t e (subst (λ (z : ℕ). T (p z)) f t))
          | no f ↦ omega (arith, w.most m (omega arith) t)
        ];
      })
]

-- a grammar whose root derives some text accepts some
pub empty-begins : {g : Grammar} → Produces g (root g) → Begins g []
empty-begins w = record { rest = w.text; held = w.held; tree = w.tree; derives = w.derives }

-- it does where no rule is without a text
pub root-produces : (g : Grammar) → unproductive g ≡ false → Produces g (root g)
unfolding unproductive
root-produces g e =
    let m : In (root g) (ruled g) = in_left (concat_map makes (written g)) (in_head {xs = concat_map (λ r. nonterminal unmarked r.name ∷ []) g.others} refl) in
    (productive-is g m).0 (elim (look (productive g (root g))) as (λ _. T (productive g (root g))) [
      | inl q ↦ is_t q
      | inr q ↦ absurd (not_t e (any-in (λ s. not (productive g s)) (ruled g) m (rw q tt)))
    ])

module _ (g : Grammar) (r : Text) (held : T (all known r)) where
  -- the computed place is the place of the fault
  pub fault-of : Produces g (root g) → FaultAt g r (fault_of g r)
  unfolding fault_of
  fault-of p =
      let w = last-of (begins_at g r) (length r) in
      record {
        inside = w.below;
        begins = elim w.holds as (λ _. Begins g (take (last_of (begins_at g r) (length r)) r)) [
          | inl e ↦ subst (λ (z : ℕ). Begins g (take z r)) (sym e) (empty-begins p)
          | inr t ↦ (begins-is g r (last_of (begins_at g r) (length r)) held w.below).0 t
        ];
        greatest = λ m h b. w.most m h ((begins-is g r m held h).1 b);
      }

  -- so is the farthest place that is reached
  pub farthest-fault : {k : ℕ} → Farthest g r k → FaultAt g r k
  farthest-fault {k} f =
      let e = f.is in
      record {
        inside = omega (arith, reach-inside g r held f.symbols f.stands);
        begins = reached-begins g r held f.stands k (omega arith);
        greatest = λ m h b. (let n = near g r m h ((begins-is g r m held h).1 b) in omega (arith, n.far, f.most n.stands));
      }

  -- and what else is a place of the fault is the computed one
  pub fault-settled : {k : ℕ} → Produces g (root g) → FaultAt g r k → k ≡ fault_of g r
  fault-settled {k} p f = fault-unique k (fault_of g r) f (fault-of p)
