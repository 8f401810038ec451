-- What the flags of a grammar's code say of the grammar.
use mathlib.Core.Bool.{false, not}
use mathlib.Core.List.{List, [], ◌∷◌, Memᴰ as In}
use mathlib.Core.Logic.{⊎_elim}
use mathlib.Core.Path.{◌≡◌, refl, sym, ap, subst}
use Prim.Native.Nat.{ℕ, zero, suc, ◌+◌, ◌<◌}
use native.Mathlib.Omega.{arith}
use lib.Dec.{T}
use lib.ListN.{length}
use Rattle.text.specs.Lists.{any, all}
use Rattle.text.proofs.Tests.{look, is_t, not_t, both-and, and_left, and_right, or_case, or_right}
use Rattle.tree.specs.Tree.{Terminal, Symbol, terminal, Grammar}
use Rattle.plain.specs.Written.{terminals_in}
use Rattle.plain.specs.Plain.{alts, ruled}
use Rattle.plain.specs.Live.{live}
use Rattle.derive.specs.Bound.{symbols_of}
use Rattle.derive.specs.Yield.{yields, productive, unproductive}
use Rattle.derive.proofs.Symbols.{the-terminal}
use Rattle.derive.proofs.Productive.{any-in, passing, leaf-yields, above}
use Rattle.chart.specs.Code.{next_kind, goes_at, rule_at, owner_at, after_dot, head_of, On, at-end as on-end, at-terminal as on-terminal, at_symbol as on-symbol, Chain, ch-last, ch-next, Ruled}
use Rattle.rules.specs.Ready.{Token}
use Rattle.sparse.specs.Cells.{Shape}
use Rattle.stands.specs.Viable.{Begins}
use Rattle.stands.proofs.Laws.{list-below}
use Rattle.fault.specs.Firsts.{AllLive, SomeLive, Finishing, at-end, at-terminal, at_other, Firsts}

not_none : {c : List ℕ} {dots : List (List Symbol)} {e q : ℕ} {ts : List (List Symbol)} → Chain c dots e q ts → ts ≡ [] → ⊥
not_none (ch-last h o l z) d = let n : ◌≡◌ {A = ℕ} 1 0 = ap length d in omega arith
not_none (ch-next {ts = ts} h o z r) d = let n : suc (length ts) ≡ 0 = ap length d in omega arith

-- a productive terminal is live
terminal-live : (g : Grammar) (x : Terminal) → T (productive g (terminal x)) → T (live x)
terminal-live g x t = ⊎_elim (λ h. ⊎_elim (λ l. l) (λ l. absurd l) (or_case (live x) false h)) (λ h. absurd h) (above g (length (symbols_of g)) (terminal x) t)

module _ {Tb c : List ℕ} {g : Grammar} {size top first : ℕ} (k : Ruled (Token Tb) c g size top first) (shape : Shape c size) (prod : unproductive g ≡ false) where
  -- every rule is productive
  rule-productive : (s : Symbol) → In s (ruled g) → T (productive g s)
  unfolding unproductive
  rule-productive s m = ⊎_elim is_t (λ q. absurd (not_t prod (any-in (λ x. not (productive g x)) (ruled g) m (rw q tt)))) (look (productive g s))

  -- so is every symbol after a dot that has a rule
  symbol-productive : (p : ℕ) (s : Symbol) → p < size → next_kind c p ≡ 2 → alts g (head_of g k.heads (rule_at c p)) ≡ alts g s → T (productive g s)
  symbol-productive p s h z e =
      let n = shape.names p h z in
      let o = shape.owners (goes_at c p) (rule_at c p) n.1 n.2 in
      let u = head_of g k.heads (rule_at c p) in
      let t = rule-productive u (k.only (rule_at c p) n.0 o.1 o.2) in
      ⊎_elim
      (λ y. absurd (let w = passing live (terminals_in u) y in
      not_none (k.chains p h z) (ap (alts g) (sym (the-terminal u w.x w.is)))))
      (λ y. or_right (any live (terminals_in s)) (any (all (yields g (length (symbols_of g)))) (alts g s))
      (subst (λ (us : List (List Symbol)). T (any (all (yields g (length (symbols_of g)))) us)) e y))
      (above g (length (symbols_of g)) u t)

  -- what can be finished by the code is productive, and the other way round
  finishing-alive : {p : ℕ} → p < size → Finishing (AllLive Tb) c p → T (all (productive g) (after_dot k.dots p))
  finishing-alive {p} h (at-end z) = go (k.stands p h)
    where
      go : On (Token Tb) c g k.dots k.heads p → T (all (productive g) (after_dot k.dots p))
      go (on-end y e) = rw e tt
      go (on-terminal x y l e w a) = absurd (omega arith)
      go (on-symbol s y l e n r d) = absurd (omega arith)
  finishing-alive {p} h (at-terminal z v f) = go (λ l. finishing-alive {p = p + 1} l f) (k.stands p h)
    where
      go : (p + 1 < size → T (all (productive g) (after_dot k.dots (p + 1)))) → On (Token Tb) c g k.dots k.heads p → T (all (productive g) (after_dot k.dots p))
      go r (on-end y e) = absurd (omega arith)
      go r (on-terminal x y l e w a) = rw e (both-and (productive g (terminal x)) (all (productive g) (after_dot k.dots (p + 1)))
          (leaf-yields g (suc (length (symbols_of g))) x (v x a)) (r (omega (arith, k.count))))
      go r (on-symbol s y l e n q d) = absurd (omega arith)
  finishing-alive {p} h (at_other a b f) = go (λ l. finishing-alive {p = p + 1} l f) (k.stands p h)
    where
      go : (p + 1 < size → T (all (productive g) (after_dot k.dots (p + 1)))) → On (Token Tb) c g k.dots k.heads p → T (all (productive g) (after_dot k.dots p))
      go r (on-end y e) = absurd (a y)
      go r (on-terminal x y l e w _) = absurd (b y)
      go r (on-symbol s y l e n q d) = rw e (both-and (productive g s) (all (productive g) (after_dot k.dots (p + 1))) (symbol-productive p s h y d) (r (omega (arith, k.count))))

  alive-finishing : (n p : ℕ) → length (after_dot k.dots p) ≡ n → p < size → T (all (productive g) (after_dot k.dots p)) → Finishing (SomeLive Tb) c p
  alive-finishing zero p l h t = go (k.stands p h)
    where
      go : On (Token Tb) c g k.dots k.heads p → Finishing (SomeLive Tb) c p
      go (on-end y e) = at-end y
      go (on-terminal x y b e w a) = absurd (omega (arith, ap length e))
      go (on-symbol s y b e m q d) = absurd (omega (arith, ap length e))
  alive-finishing (suc n) p l h t = go (alive-finishing n (p + 1)) (k.stands p h)
    where
      go : (length (after_dot k.dots (p + 1)) ≡ n → p + 1 < size → T (all (productive g) (after_dot k.dots (p + 1))) → Finishing (SomeLive Tb) c (p + 1))
          → On (Token Tb) c g k.dots k.heads p → Finishing (SomeLive Tb) c p
      go r (on-end y e) = at-end y
      go r (on-terminal x y b e w a) =
          let u : T (all (productive g) (terminal x ∷ after_dot k.dots (p + 1))) = subst (λ (ss : List Symbol). T (all (productive g) ss)) e t in
          let ts = all (productive g) (after_dot k.dots (p + 1)) in
          at-terminal y (x, a, terminal-live g x (and_left (productive g (terminal x)) ts u)) (r (omega (arith, ap length e)) (omega (arith, k.count)) (and_right (productive g (terminal x)) ts u))
      go r (on-symbol s y b e m q d) =
          let u : T (all (productive g) (s ∷ after_dot k.dots (p + 1))) = subst (λ (ss : List Symbol). T (all (productive g) ss)) e t in
          at_other {p = p} (λ z. omega (arith, y, z)) (λ z. omega (arith, y, z))
          (r (omega (arith, ap length e)) (omega (arith, k.count)) (and_right (productive g s) (all (productive g) (after_dot k.dots (p + 1))) u))

  -- the dots on a rule's list begin alternatives that can be finished
  module _ {L : List ℕ} (f : Firsts Tb c size L) where
    pub first-alive : (q e : ℕ) → e < size → Begins L e q → (q < size) × (owner_at c q ≡ e + 1) × T (all (productive g) (after_dot k.dots q))
    first-alive q e h b =
        let l = list-below f.linked h q b in
        let w = f.only q e h b in
        (l, w.owner, finishing-alive l w.finishing)

    pub alive-first : (q e : ℕ) → q < size → owner_at c q ≡ e + 1 → T (all (productive g) (after_dot k.dots q)) → Begins L e q
    alive-first q e h o t = f.all q e h (record { owner = o; finishing = alive-finishing (length (after_dot k.dots q)) q refl h t })
