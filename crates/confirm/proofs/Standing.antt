-- What stands by the code stands by the grammar: steps are derivations.
use mathlib.Core.Bool.{false}
use mathlib.Core.List.{List, []}
use mathlib.Core.Path.{◌≡◌, sym, ap, subst, ◌∙◌}
use Prim.Native.Nat.{ℕ, ◌+◌, ◌<◌, ◌≤◌}
use native.Mathlib.Omega.{arith}
use lib.Dec.{T}
use lib.ListN.{length, get_or}
use Rattle.text.specs.Lists.{Text, all}
use Rattle.tree.specs.Tree.{Symbol, Grammar}
use Rattle.plain.specs.Plain.{alts, width}
use Rattle.derive.specs.Derive.{Row, end, leaf, node, Derives, d-end, d-leaf, d-node, alternative, root}
use Rattle.derive.specs.Yield.{productive, unproductive}
use Rattle.viable.specs.Stands.{Stands, at-root, into}
use Rattle.viable.specs.Stands as sees
use Rattle.chart.specs.Code.{next_kind, goes_at, rule_at, after_dot, head_of, On, at-end, at-terminal, at_symbol, Ruled}
use Rattle.rules.specs.Ready.{Token}
use Rattle.left_pass.proofs.Shifts.{fits-within}
use Rattle.reach.specs.Flags.{Reached, Fits, Begins, LeftClosed, FitsOnly}
use Rattle.reach.proofs.Closed.{home-first, steps-over}
use Rattle.sparse.specs.Cells.{Shape}
use Rattle.fault.specs.Firsts.{Firsts}
use Rattle.fault.proofs.Model.{first-alive}
use Rattle.ends.specs.Spans.{OnList, Steps, here, by-terminal, by-symbol, Spans, Flows}
use Rattle.ends.proofs.Reach.{list_inside, arrived}
use Rattle.standing.specs.Stood.{Stood, at_first, entering, past-terminal, past-symbol}

module _ {Tb c M : List ℕ} {R : Text} {size top first : ℕ} {g : Grammar} (k : Ruled (Token Tb) c g size top first) (shape : Shape c size) (left : LeftClosed (Token Tb) c R size top M)
    (only : FitsOnly (Token Tb) c R size M) where
  abbrev n : ℕ
  n = length R

  abbrev dots : List (List Symbol)
  dots = k.dots

  -- what the flags are closed under, by lists of first dots
  pub flows-of : (L : List ℕ) → Firsts Tb c size L → Flows c L M size n
  flows-of L f = record {
    begin = left.begin;
    first = λ q e i h l o b. left.first q e i (list_inside f.linked h q o) l (f.only q e h o).owner b;
    home = λ q e h o. home-first c q e (f.only q e h o).owner;
    shift = λ p i h l z u y. shift p i h l z u y (k.stands p h);
    end = left.end;
    over = left.over;
  }
    where
      shift : (p i : ℕ) → p < size → i ≤ n → next_kind c p ≡ 1 → Reached M p i → Fits M p i → On (Token Tb) c g dots k.heads p → Reached M (p + 1) (i + goes_at c p)
      shift p i h l z u y (at-end q e) = absurd (omega (arith, q, z))
      shift p i h l z u y (at-terminal x q b e w a) = (left.fit p i x h l z u a (only p i x h l z y a)).1
      shift p i h l z u y (at_symbol s q b e m w d) = absurd (omega (arith, q, z))

  module _ (prod : unproductive g ≡ false) {L : List ℕ} (f : Firsts Tb c size L) where
    flows : Flows c L M size n
    flows = flows-of L f

    record Led (q x p j : ℕ) : Type 0 where
      on : (d : Row) (m : ℕ) → Derives g R d (after_dot dots p) j m → (t : Row) × Derives g R t (after_dot dots q) x m

    -- the alternative that begins at q, over a symbol with the same alternatives
    record Alternative (q : ℕ) (u : Symbol) : Type 0 where
      number : ℕ
      exists : number < length (alts g u)
      is : after_dot dots q ≡ alternative g u number
      alive : T (all (productive g) (alternative g u number))

    alternative-at : (q e : ℕ) (u : Symbol) → e < size → OnList L e q → alts g (head_of g k.heads e) ≡ alts g u → Alternative q u
    alternative-at q e u h b d =
        let w = first-alive k shape prod f q e h b in
        let o = k.owned q e w.0 w.1 in
        let is : after_dot dots q ≡ alternative g u o.number = o.is ∙ ap (λ (ts : List (List Symbol)). get_or ts o.number []) d in
        record {
          number = o.number;
          exists = subst (λ (ts : List (List Symbol)). o.number < length ts) d o.exists;
          is = is;
          alive = subst (λ (ss : List Symbol). T (all (productive g) ss)) is w.2;
        }

    record Node (u : Symbol) (i m : ℕ) : Type 0 where
      number : ℕ
      exists : number < length (alts g u)
      row : Row
      derives : Derives g R row (alternative g u number) i m

    ended : (q e last j m : ℕ) (u : Symbol) → e < size → OnList L e q → alts g (head_of g k.heads e) ≡ alts g u → last < size → next_kind c last ≡ 0 → Led q j last m → Node u j m
    ended q e last j m u h o d b z w = go (k.stands last b)
      where
        go : On (Token Tb) c g dots k.heads last → Node u j m
        go (at-end y is) =
            let a = alternative-at q e u h o d in
            let r = w.on end m (subst (λ (ss : List Symbol). Derives g R end ss m m) (sym is) d-end) in
            record { number = a.number; exists = a.exists; row = r.0; derives = subst (λ (ss : List Symbol). Derives g R r.0 ss j m) a.is r.1 }
        go (at-terminal x y l is v a) = absurd (omega (arith, y, z))
        go (at_symbol s y l is v r a) = absurd (omega (arith, y, z))

    over-terminal : (q x p j : ℕ) → p < size → j ≤ n → next_kind c p ≡ 1 → Fits M p j → Led q x p j → Led q x (p + 1) (j + goes_at c p)
    over-terminal q x p j h l z y w = go (k.stands p h)
      where
        go : On (Token Tb) c g dots k.heads p → Led q x (p + 1) (j + goes_at c p)
        go (at-end v e) = absurd (omega (arith, v, z))
        go (at_symbol s v b e m r d) = absurd (omega (arith, v, z))
        go (at-terminal u v b e r a) = record {
          on = λ d m t. w.on (leaf (j + width u) d) m
              (subst (λ (ss : List Symbol). Derives g R (leaf (j + width u) d) ss j m) (sym e)
              (d-leaf (only p j u h l z y a) (subst (λ (i : ℕ). Derives g R d (after_dot dots (p + 1)) (j + i) m) r t)));
        }

    over-symbol : (q x p j m : ℕ) → p < size → next_kind c p ≡ 2 → ((u : Symbol) → alts g (head_of g k.heads (rule_at c p)) ≡ alts g u → Node u j m) → Led q x p j → Led q x (p + 1) m
    over-symbol q x p j m h z y w = go (k.stands p h)
      where
        go : On (Token Tb) c g dots k.heads p → Led q x (p + 1) m
        go (at-end v e) = absurd (omega (arith, v, z))
        go (at-terminal u v b e r a) = absurd (omega (arith, v, z))
        go (at_symbol s v b e t r a) = record {
          on = λ d i u. (let t = y s a in let row = node t.number m t.row d in w.on row i
              (subst (λ (ss : List Symbol). Derives g R row ss j i) (sym e) (d-node t.exists t.derives u)));
        }

    -- steps are derivations
    led : {q x p j : ℕ} (e : ℕ) → e < size → x ≤ n → OnList L e q → Begins M e x → Steps c L M n q x p j → Led q x p j
    led e h l o b here = record { on = λ d m t. (d, t) }
    led {q} {x} e h l o b (by-terminal {p = p} {j = j} s z y v) =
        let a = arrived shape f.linked flows e h l o b s in
        over-terminal q x p j a.inside a.on z y (led e h l o b s)
    led {q} {x} e h l o b (by-symbol {p = p} {j = j} {f = q'} {l = last} {m = m} s z r t y) =
        let a = arrived shape f.linked flows e h l o b s in
        let e' = (shape.names p a.inside z).0 in
        let b' = flows.begin p j a.inside a.on z a.used in
        let i = arrived shape f.linked flows (rule_at c p) e' a.on r b' t in
        let w = led (rule_at c p) e' a.on r b' t in
        over-symbol q x p j m a.inside z (λ u d. ended q' (rule_at c p) last j m u e' r d i.inside y w) (led e h l o b s)

    spans-node : (e x j : ℕ) (u : Symbol) → e < size → x ≤ n → Begins M e x → alts g (head_of g k.heads e) ≡ alts g u → Spans c L M n e x j → Node u x j
    spans-node e x j u h l b d s =
        let i = arrived shape f.linked flows e h l s.listed b s.steps in
        ended s.first e s.last x j u h s.listed d i.inside s.end (led e h l s.listed b s.steps)

    -- what stands by the code stands by the grammar
    pub record Standing (p i : ℕ) : Type 0 where
      pub inside : p < size
      pub on : i ≤ n
      pub used : Reached M p i
      pub stands : Stands g R (after_dot dots p) i

    entered : (q e i : ℕ) (u : Symbol) → e < size → i ≤ n → OnList L e q → alts g (head_of g k.heads e) ≡ alts g u → Begins M e i
        → ((a : ℕ) → a < length (alts g u) → T (all (productive g) (alternative g u a)) → Stands g R (alternative g u a) i) → Standing q i
    entered q e i u h l o d b go =
        let a = alternative-at q e u h o d in
        record {
          inside = list_inside f.linked h q o;
          on = l;
          used = flows.first q e i h l o b;
          stands = subst (λ (ss : List Symbol). Stands g R ss i) (sym a.is) (go a.number a.exists a.alive);
        }

    pub standing : {p i : ℕ} → Stood c L M n top p i → Standing p i
    standing (at_first {q} o) = entered q top 0 (root g) k.root-inside (omega arith) o k.root-head left.root (λ a l v. at-root l v)
    standing (entering {p} {i} {q} v z b) = go (standing v) (k.stands p (standing v).inside)
      where
        go : Standing p i → On (Token Tb) c g dots k.heads p → Standing q i
        go o (at-end y e) = absurd (omega (arith, y, z))
        go o (at-terminal x y l e w a) = absurd (omega (arith, y, z))
        go o (at_symbol u y l e m r d) = entered q (rule_at c p) i u (shape.names p o.inside z).0 o.on b d (left.begin p i o.inside o.on z o.used)
            (λ a x t. into (subst (λ (ss : List Symbol). Stands g R ss i) e o.stands) x t)
    standing (past-terminal {p} {i} v z y b) = go (standing v) (k.stands p (standing v).inside)
      where
        go : Standing p i → On (Token Tb) c g dots k.heads p → Standing (p + 1) (i + goes_at c p)
        go o (at-end q e) = absurd (omega (arith, q, z))
        go o (at_symbol u q l e m r d) = absurd (omega (arith, q, z))
        go o (at-terminal x q l e w a) =
            let fit = only p i x o.inside o.on z y a in
            let far = fits-within x R i o.on fit in
            record {
              inside = omega (arith, l, k.count);
              on = b;
              used = flows.shift p i o.inside o.on z o.used y;
              stands = subst (λ (j : ℕ). Stands g R (after_dot dots (p + 1)) (i + j)) (sym w) (sees.past-terminal (subst (λ (ss : List Symbol). Stands g R ss i) e o.stands) fit far);
            }
    standing (past-symbol {p} {i} {m} v z w) = go (standing v) (k.stands p (standing v).inside)
      where
        go : Standing p i → On (Token Tb) c g dots k.heads p → Standing (p + 1) m
        go o (at-end q e) = absurd (omega (arith, q, z))
        go o (at-terminal x q l e y a) = absurd (omega (arith, q, z))
        go o (at_symbol u q l e t r d) =
            let h = (shape.names p o.inside z).0 in
            let b = left.begin p i o.inside o.on z o.used in
            let at = spans-node (rule_at c p) i m u h o.on b d w in
            let far = (arrived shape f.linked flows (rule_at c p) h o.on w.listed b w.steps).on in
            record {
              inside = omega (arith, l, k.count);
              on = far;
              used = (steps-over k left o.inside e at.exists at.derives far o.used).1;
              stands = sees.past-symbol (subst (λ (ss : List Symbol). Stands g R ss i) e o.stands) at.exists at.derives far;
            }
