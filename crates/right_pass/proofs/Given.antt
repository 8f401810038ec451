-- What the passes are given, of the code of a grammar's rules; a record whose end the root's rule does not reach has no derivation.
use mathlib.Core.Bool.{Bool, true, false}
use mathlib.Core.List.{List}
use mathlib.Core.Path.{◌≡◌, sym, ◌∙◌}
use Prim.Native.Nat.{ℕ, ◌+◌, ◌*◌, ◌-◌, ◌<◌, ◌≤◌}
use native.Mathlib.Decide.{ℕ_discrete}
use native.Mathlib.Omega.{arith}
use lib.ListN.{length, get_or}
use Rattle.text.specs.Limits.{grammar_table}
use Rattle.text.specs.Lists.{Text}
use Rattle.tree.specs.Tree.{Terminal, Grammar}
use Rattle.plain.specs.Plain.{width}
use Rattle.derive.specs.Derive.{Row, Derivation}
use Rattle.chart.specs.Code.{next_kind, goes_at, owner_at, On, at-end, at-terminal, at_symbol, Ruled}
use Rattle.items.specs.Items.{token_at}
use Rattle.terminals.specs.Places.{TerminalHere, TerminalAt}
use Rattle.terminals.proofs.Widths.{width-at}
use Rattle.rules.specs.Ready.{Token}
use Rattle.reach.specs.Lists.{Shape}
use Rattle.left_pass.specs.Left.{Given, Lefting, Lefted}
use Rattle.right_pass.specs.Right.{Righting}
use Rattle.reach.proofs.Closed.{root_ends}
use Rattle.reach.proofs.Stays.{goes_on, named}

module _ {Tb c : List ℕ} {g : Grammar} {size top first : ℕ} (w : Ruled (Token Tb) c g size top first) where
  kind-of : (p : ℕ) → On (Token Tb) c g w.dots w.heads p → next_kind c p ≤ 2
  kind-of p (at-end z e) = omega arith
  kind-of p (at-terminal x z l e _ t) = omega arith
  kind-of p (at_symbol s z l e _ r d) = omega arith

  owner_of : (p : ℕ) → p < size → owner_at c p ≤ size
  owner_of p h = elim (ℕ_discrete (owner_at c p) 0) as (λ _. owner_at c p ≤ size) [
    | yes z ↦ omega arith
    | no z ↦ omega (arith, (w.owned p (owner_at c p - 1) h (omega arith)).inside, w.count)
  ]

  pub shape_of : size ≤ 512 → 4 * size ≤ length c → Shape c size
  shape_of s r = record {
    small = s;
    room = r;
    kinds = λ p h. kind-of p (w.stands p h);
    owner = owner_of;
    after = λ p h n. omega (arith, goes_on (w.stands p h) n, w.count);
    inner = w.inner;
    rule = λ p h k. omega (arith, named (w.stands p h) k, w.count);
  }

  here_of : (p : ℕ) → next_kind c p ≡ 1 → On (Token Tb) c g w.dots w.heads p → TerminalHere Tb (token_at Tb p)
  here_of p k (at-end z e) = absurd (omega arith)
  here_of p k (at-terminal x z _ e _ t) = record { terminal = x; is = t.1 }
  here_of p k (at_symbol s z _ e _ r d) = absurd (omega arith)

  token-of : (p : ℕ) (x : Terminal) → next_kind c p ≡ 1 → TerminalAt Tb (token_at Tb p) x → On (Token Tb) c g w.dots w.heads p → Token Tb p x
  token-of p x k a (at-end z e) = absurd (omega arith)
  token-of p x k a (at-terminal y z _ e _ t) = (t.0, a)
  token-of p x k a (at_symbol s z _ e _ r d) = absurd (omega arith)

  goes_of : (p : ℕ) (x : Terminal) → next_kind c p ≡ 1 → TerminalAt Tb (token_at Tb p) x → On (Token Tb) c g w.dots w.heads p → goes_at c p ≡ width x
  goes_of p x k a (at-end z e) = absurd (omega arith)
  goes_of p x k a (at-terminal y z _ e v t) =
      v ∙ sym (width-at Tb (token_at Tb p) y t.1.more t.1.stands) ∙ width-at Tb (token_at Tb p) x a.more a.stands
  goes_of p x k a (at_symbol s z _ e _ r d) = absurd (omega arith)

  pub given-of : {R : Text} {M : List ℕ} → length Tb ≡ grammar_table → size ≤ 512 → 4 * size ≤ length c → length R ≤ 200 → 1536 * length R + 1536 ≤ length M → Given Tb c R size M
  given-of t s r h m = record {
    table-long = t;
    shape = shape_of s r;
    here = λ p l k. here_of p k (w.stands p l);
    token = λ p x l k a. token-of p x k a (w.stands p l);
    goes = λ p x l k a. goes_of p x k a.1 (w.stands p l);
    short = h;
    marks-long = m;
  }

  pub lefting-of : {R : Text} {M : List ℕ} → Given Tb c R size M → ((x : ℕ) → get_or M x 0 ≡ 0) → Lefting Tb c R size top M
  lefting-of v z = record { given = v; inside = w.root-inside; none = z }

  -- the pass says no
  pub no-derivation : {R : Text} {M : List ℕ} {r : Bool} {t : Row} → Lefted Tb c R size top M r → r ≡ false → Derivation g R t → ⊥
  no-derivation l e d = l.fails e (root_ends w l.closed d)

  -- it says yes: the flags go to the pass from the right
  pub righting-of : {R : Text} {M : List ℕ} {r : Bool} → size ≤ 512 → 4 * size ≤ length c → length R ≤ 200 → Lefted Tb c R size top M r → r ≡ true → Righting Tb c R size top M
  righting-of s d h l e = record {
    shape = shape_of s d;
    short = h;
    inside = w.root-inside;
    marks-long = l.long;
    closed = l.closed;
    only = l.only;
    level = l.level;
    ends = l.ends e;
  }
