-- Where the rules stand that a run adds: one after the other, in the order of the layout.
use mathlib.Core.List.{List, [], ◌∷◌, ◌++◌}
use mathlib.Core.Logic.{◌⊎◌, inl, inr, ⊎_elim}
use mathlib.Core.Path.{◌≡◌, sym, ap, subst}
use Prim.Native.Nat.{ℕ, suc, ◌+◌}
use native.Mathlib.Omega.{arith}
use lib.ListN.{length}
use Rattle.tree.specs.Tree.{Symbol, Rule, Grammar}
use Rattle.plain.specs.Plain.{alts, weight}
use Rattle.layout.specs.Layout.{dot_count, starts_from}
use Rattle.layout.proofs.Sums.{sum-append, Own}
use Rattle.items.specs.Items.{Starts, Among}
use Rattle.items.specs.Scanned.{RuleBegins, Begins}
use Rattle.items.proofs.RuleNames.{among-left, among-right}

-- the rules of ss stand from item n on, up to m; At tells where a rule begins
pub record Lays (g : Grammar) (At : ℕ → Symbol → Type 0) (n m : ℕ) (ss : List Symbol) : Type 0 where
  pub next : m ≡ n + dot_count g ss
  pub begins : (x : ℕ) (s : Symbol) → Among x s (starts_from g n ss) → At x s

abbrev pub LaysIn : Grammar → Starts → ℕ → ℕ → List Symbol → Type 0
LaysIn g S n m ss = Lays g (λ x s. Among x s S) n m ss

starts-split : (g : Grammar) (n : ℕ) (ss ts : List Symbol) (x : ℕ) (s : Symbol) → Among x s (starts_from g n (ss ++ ts))
    → Among x s (starts_from g n ss) ⊎ Among x s (starts_from g (n + dot_count g ss) ts)
starts-split g n [] ts x s m = inr (subst (λ (k : ℕ). Among x s (starts_from g k ts)) (let e : n ≡ n + 0 = omega arith in e) m)
starts-split g n (u ∷ ss) ts x s (inl e) = inl (inl e)
starts-split g n (u ∷ ss) ts x s (inr m) = ⊎_elim
    (λ a. inl (inr a))
    (λ b. inr (subst (λ (k : ℕ). Among x s (starts_from g k ts))
    (let e : n + weight (alts g u) + dot_count g ss ≡ n + dot_count g (u ∷ ss) = omega arith in e) b))
    (starts-split g (n + weight (alts g u)) ss ts x s m)

module _ {g : Grammar} where
  pub lays-none : {At : ℕ → Symbol → Type 0} {n : ℕ} → Lays g At n n []
  lays-none = record { next = omega arith; begins = λ x s m. absurd m }

  pub lays-then : {P Q : ℕ → Symbol → Type 0} {n m k : ℕ} (ss ts : List Symbol) → ((x : ℕ) (s : Symbol) → P x s → Q x s) → Lays g P n m ss → Lays g Q m k ts → Lays g Q n k (ss ++ ts)
  lays-then {n = n} {m = m} ss ts later v w = record {
    next = omega (arith, v.next, w.next, sum-append (λ s. weight (alts g s)) ss ts);
    begins = λ x s a. ⊎_elim
        (λ b. later x s (v.begins x s b))
        (λ b. w.begins x s (subst (λ (j : ℕ). Among x s (starts_from g j ts)) (sym v.next) b))
        (starts-split g n ss ts x s a);
  }

  -- the rules that an operator makes stand in front of the list of starts
  pub lays-made : {n m : ℕ} (B S : Starts) (ss us : List Symbol) (c : ℕ) → starts_from g m us ≡ B → dot_count g us ≡ c → LaysIn g S n m ss → LaysIn g (B ++ S) n (m + c) (ss ++ us)
  lays-made {m = m} B S ss us c e d v = lays-then ss us (λ x s a. among-right x s B S a) v (record {
    next = ap (λ (k : ℕ). m + k) (sym d);
    begins = λ x s a. among-left x s B S (subst (λ (T : Starts). Among x s T) e a);
  })

pub begins-left : (x : ℕ) (s : Symbol) (S S' : Starts) (rs rs' : List Rule) (xs xs' : List ℕ) → (Among x s S → Among x s S') → Begins x s S rs xs → Begins x s S' (rs ++ rs') (xs ++ xs')
begins-left x s S S' rs rs' xs xs' later (inl a) = inl (later a)
begins-left x s S S' rs rs' xs xs' later (inr b) = inr (left rs xs b)
  where
    left : (rs : List Rule) (xs : List ℕ) → RuleBegins x s rs xs → RuleBegins x s (rs ++ rs') (xs ++ xs')
    left [] xs b = absurd b
    left (r ∷ rs) [] b = absurd b
    left (r ∷ rs) (y ∷ xs) (inl e) = inl e
    left (r ∷ rs) (y ∷ xs) (inr b) = inr (left rs xs b)

pub begins-right : (x : ℕ) (s : Symbol) (S : Starts) (rs rs' : List Rule) (xs xs' : List ℕ) → length rs ≡ length xs → Begins x s S rs' xs' → Begins x s S (rs ++ rs') (xs ++ xs')
begins-right x s S rs rs' xs xs' even (inl a) = inl a
begins-right x s S rs rs' xs xs' even (inr b) = inr (right rs xs even)
  where
    right : (rs : List Rule) (xs : List ℕ) → length rs ≡ length xs → RuleBegins x s (rs ++ rs') (xs ++ xs')
    right [] [] e = b
    right [] (y ∷ xs) e = absurd (let z : 0 ≡ suc (length xs) = e in omega arith)
    right (r ∷ rs) [] e = absurd (let z : suc (length rs) ≡ 0 = e in omega arith)
    right (r ∷ rs) (y ∷ xs) e = inr (right rs xs (let z : suc (length rs) ≡ suc (length xs) = e in omega arith))

pub own_split : (all rs rs' : List Rule) → Own all (rs ++ rs') → Own all rs × Own all rs'
own_split all [] rs' o = (tt, o)
own_split all (r ∷ rs) rs' o = let k = own_split all rs rs' o.1 in ((o.0, k.0), k.1)
