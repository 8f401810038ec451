-- A round, from the code to the grammar.
use mathlib.Core.Bool.{Bool, true, false}
use mathlib.Core.Path.{◌≡◌, refl, sym, subst}
use mathlib.Core.Logic.{inl, inr, ⊎_elim}
use mathlib.Core.List.{List, Memᴰ as In}
use Prim.Native.Nat.{ℕ, suc, ◌+◌, ◌*◌, ◌<◌, ◌≤◌}
use native.Mathlib.Omega.{arith}
use lib.ListN.{length, get_or}
use Rattle.text.specs.Lists.{Text}
use Rattle.tree.specs.Tree.{Symbol, Terminal, Grammar}
use Rattle.plain.specs.Plain as plain
use Rattle.layout.specs.Layout.{layout}
use Rattle.chart.specs.Code.{Coded, Ruled}
use Rattle.chart.specs.Heights.{stretches, none}
use Rattle.heights.proofs.Lowering.{steps-length}
use Rattle.sweeps.specs.Layers.{Upto, Swept}
use Rattle.numbering.proofs.Names.{owner-named, named-owner}
use Rattle.tells.specs.Tells.{Tells}
use Rattle.tells.proofs.Tells.{hit, miss}
use Rattle.rounds.specs.Rounds.{most_rounds, AllStand}
use Rattle.rounds.specs.After.{rule_symbol, TableSays, After, Ends, Finished}
use Rattle.rounds.proofs.Says.{after-says}
use Rattle.advance.specs.Numbered.{Numbered}
use Rattle.advance.specs.Advanced.{Advanced, goes_on, idles, closes}
use Rattle.advance.specs.Round.{Rounded}
use Rattle.advance.proofs.Layered.{Layered, layered-next, layered-of, after-of}
use Rattle.advance.proofs.Finishing.{layered-idle, idle-when, busy-when, full-says}

-- the code of a grammar's rules is numbered
pub numbered_of : {At : ℕ → Terminal → Type 0} {c : List ℕ} {g : Grammar} {size top first : ℕ} (w : Ruled At c g size top first) → size ≡ plain.size g
    → Numbered c g w.dots w.heads size
numbered_of w e = record {
  count = e;
  laid = w.laid;
  named = w.named;
  owner = λ p x h o. (let n = owner-named w p x h o in (n.q, n.inside, n.is));
  owned = named-owner w;
  within = w.within;
}

pub listed_of : {At : ℕ → Terminal → Type 0} {c : List ℕ} {g : Grammar} {size top first : ℕ} (w : Ruled At c g size top first) → (q : ℕ) → q < length (layout g)
    → In (rule_symbol g q) (plain.ruled g)
listed_of {g = g} w q h = let o = w.named q h in subst (λ (s : Symbol). In s (plain.ruled g)) o.head (w.only _ (omega (arith, o.inside, w.count)) o.ends o.last)

module _ (c f : List ℕ) (g : Grammar) (r : Text) (size top first : ℕ) (k : Coded c f g r size top first) (m : Numbered c g k.dots k.heads size)
    (all : AllStand g (plain.ruled g)) (listed : (q : ℕ) → q < length (layout g) → In (rule_symbol g q) (plain.ruled g)) (few : most_rounds g r ≤ 102912) where
  abbrev n : ℕ
  n = length r

  module _ (h : ℕ) (t u : List ℕ) (room : size * stretches n ≤ length t) (l : h < most_rounds g r) (most : (x : ℕ) → get_or t x 0 ≤ none) (a : After g r h t) where
    lay : Layered c f g r size top first k m h t
    lay = layered-of c f g r size top first k m h t a (omega arith) most

    pub upto-of : Upto c f size n h t
    upto-of = lay.upto

    -- what follows from the three kinds of rounds
    record Follows (last : Bool) : Type 0 where
      goes : last ≡ false → After g r (suc h) u
      ends : last ≡ true → Finished g r u
      says : TableSays g r (suc h) u
      tells : Tells last (Ends g r h)

    never : {P : Type 0} → true ≡ false → P
    never e = absurd (let z : ◌≡◌ {A = ℕ} 0 1 = cc in omega arith)

    up : h + 1 ≡ suc h
    up = omega arith

    module _ {v : List ℕ} {b : Bool} (s : Swept c f size n h t b v) where
      next : Layered c f g r size top first k m (h + 1) v
      next = layered-next c f g r size top first k m lay s

      after_next : After g r (h + 1) v
      after_next = after-of c f g r size top first k m (h + 1) v next (omega arith) (omega (arith, steps-length c f size n s.steps))

    follows : {last : Bool} → Advanced c f size n h (most_rounds g r) t u last → Follows last
    follows (goes_on s b) =
        let x = subst (λ (o : ℕ). After g r o u) up (after_next s) in
        record {
          goes = λ _. x;
          ends = λ e. never (sym e);
          says = after-says (omega arith) x;
          tells = miss (⊎_elim (busy-when c f g r size top first k m (omega arith) a (after_next s) (next s) s.adds) (λ e. omega arith));
        }
    follows (idles s) = record {
      goes = λ e. never e;
      ends = λ _. after-of c f g r size top first k m (suc (most_rounds g r)) u (layered-idle c f g r size top first k m lay s (suc (most_rounds g r)) (omega arith) (omega arith)) (omega arith)
          (omega (arith, steps-length c f size n s.steps));
      says = after-says (omega arith) (subst (λ (o : ℕ). After g r o u) up (after_next s));
      tells = hit (inl (idle-when c f g r size top first k m (omega arith) a (after_next s) s.adds));
    }
    follows (closes {v} s b w) =
        let e : most_rounds g r ≡ suc h = omega arith in
        let e' : h + 1 + 1 ≡ suc (most_rounds g r) = omega arith in
        let y = subst (λ (o : ℕ). Layered c f g r size top first k m o u) e' (layered-next c f g r size top first k m (next s) w) in
        record {
          goes = λ e. never e;
          ends = λ _. after-of c f g r size top first k m (suc (most_rounds g r)) u y (omega arith) (omega (arith, steps-length c f size n s.steps, steps-length c f size n w.steps));
          says = subst (λ (o : ℕ). TableSays g r o u) e (full-says c f g r size top first k m all listed (omega arith) y);
          tells = hit (inr (sym e));
        }

  -- the promise of a round
  pub rounded : (h : ℕ) (t u : List ℕ) (last : Bool) → size * stretches n ≤ length t → ((x : ℕ) → get_or t x 0 ≤ none) → h < most_rounds g r
      → (Upto c f size n h t → Advanced c f size n h (most_rounds g r) t u last) → Rounded g r h t u last
  rounded h t u last room most l w = record {
    few = few;
    enough = λ b. absurd (omega arith);
    goes_on = λ b a e. (go a).goes e;
    ends = λ b a e. (go a).ends e;
    says = λ b a. (go a).says;
    tells = λ b a. (go a).tells;
  }
    where
      go : (a : After g r h t) → Follows h t u room l most a last
      go a = follows h t u room l most a (w (upto-of h t u room l most a))

  pub enough-rounds : (h : ℕ) (t : List ℕ) → most_rounds g r ≤ h → Rounded g r h t t true
  enough-rounds h t l = record {
    few = few;
    enough = λ _. (refl, refl);
    goes_on = λ b. absurd (omega arith);
    ends = λ b. absurd (omega arith);
    says = λ b. absurd (omega arith);
    tells = λ b. absurd (omega arith);
  }
