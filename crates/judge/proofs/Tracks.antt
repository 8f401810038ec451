-- Where a walk over a list stands: its open nodes, its items.
use mathlib.Core.Path.{◌≡◌, refl, ◌∙◌}
use mathlib.Core.Logic.{⊎_elim}
use mathlib.Core.List.{List, [], ◌∷◌, ◌++◌}
use Prim.Native.Nat.{ℕ, ◌+◌, ◌-◌, ◌*◌, ◌<◌, ◌≤◌}
use native.Mathlib.Omega.{arith}
use lib.ListN.{length, get_or, set, drop, length-set}
use lib.Seq.{get_or-set_same, get_or-set_other}
use Rattle.text.specs.Lists.{Text}
use Rattle.tree.specs.Tree.{Terminal, Symbol, terminal, nonterminal, unmarked, Grammar, rules}
use Rattle.tree.specs.Tokens.{terminal_tokens, encode}
use Rattle.plain.specs.Written.{terminals_in}
use Rattle.plain.specs.Plain.{alts, over, rule_mark}
use Rattle.terminals.specs.Places.{TerminalAt}
use Rattle.rules.proofs.Dots.{mark-kind}
use Rattle.rules.proofs.Numbers.{whole, some-tokens}
use Rattle.items.specs.Items.{kind_at, target_at, token_at, Starts, Stands, st-terminal, st-name, st-made, Spells, sp_end, sp-item, Alternatives}
use Rattle.left_parse.specs.declared.Position.{Position}
use Rattle.left_parse.specs.Steps.{Small, Enters, Leaves}
use Rattle.left_parse.proofs.Items.{in_table, spells-kind}
use Rattle.judge.specs.Tracks.{Open, Opens, none_open, some-open, Table, SomeTracks}

-- open nodes stay where they are while later entries are written
pub opens-set : {T S : List ℕ} {g : Grammar} {starts : Starts} {os : List Open} {n : ℕ} → Opens T S g starts os n → (k v : ℕ) → 2 * n ≤ k
    → Opens T (set S k v) g starts os n
opens-set (none_open z) k v h = none_open z
opens-set {S = S} (some-open {o = o} e l a b i sp os) k v h =
    some-open e l (get_or-set_other S k (2 * o.entry) v 0 (λ z. omega arith) ∙ a) (get_or-set_other S k (2 * o.entry + 1) v 0 (λ z. omega arith) ∙ b) i sp
    (opens-set os k v (omega arith))

-- one more
pub opens-more : {T S : List ℕ} {g : Grammar} {starts : Starts} {os : List Open} {n : ℕ} (e p : ℕ) (ss : List Symbol) → Opens T S g starts os n → n ≤ e
    → 2 * e + 1 < length S → p < length T → Spells T g starts (p + 1) ss
    → Opens T (set (set S (2 * e) n) (2 * e + 1) p) g starts (record { entry = e; link = n; item = p; symbols = ss } ∷ os) (e + 1)
opens-more {S = S} {n = n} e p ss os l room i sp =
    let len = length-set S (2 * e) n in
    some-open refl l
    (get_or-set_other (set S (2 * e) n) (2 * e + 1) (2 * e) p 0 (λ z. omega arith) ∙ get_or-set_same S (2 * e) n 0 (omega arith))
    (get_or-set_same (set S (2 * e) n) (2 * e + 1) p 0 (omega arith)) i sp
    (opens-set (opens-set os (2 * e) n (omega arith)) (2 * e + 1) p (omega arith))

-- a symbol that has a node
pub no-terminals : {T : List ℕ} {g : Grammar} {starts : Starts} {p : ℕ} {s : Symbol} → 2 ≤ kind_at T p → Stands T g starts p s → terminals_in s ≡ []
no-terminals k (st-terminal e r i) = absurd (omega arith)
no-terminals k (st-name e r a) = refl
no-terminals k (st-made q e r a) = rw (q, terminals_in)

pub alternatives-at : {T : List ℕ} {g : Grammar} {starts : Starts} {p : ℕ} {s : Symbol} → Table T g starts → 2 ≤ kind_at T p → Stands T g starts p s
    → Alternatives T g starts (target_at T p) (alts g s)
alternatives-at B k (st-terminal e r i) = absurd (omega arith)
alternatives-at {T} B k (st-name {p = p} {n = n} e r a) = B.rule (target_at T p) (nonterminal unmarked n) a
alternatives-at {T} B k (st-made {p = p} {s = s} q e r a) = B.rule (target_at T p) s a

-- a terminal's tokens
pub token-here : {T : List ℕ} {g : Grammar} {starts : Starts} {p : ℕ} {x : Terminal} → Table T g starts → Stands T g starts p (terminal x) → TerminalAt T (token_at T p) x
token-here {T} B (st-terminal {p = p} {x = x} e r i) =
    record { more = r.more ++ drop 12288 T; stands = whole T 12288 (token_at T p) (encode (terminal_tokens x)) r.more (some-tokens x) r.stands; sound = B.sound x i }
token-here B (st-made q e r a) = absurd (let z : ◌≡◌ {A = ℕ} 0 1 = cc in omega arith)

-- what is written in a row, by its first item
pub data Next (T : List ℕ) (g : Grammar) (starts : Starts) (p : ℕ) : List Symbol → Type 0 where
  n-end : 5 ≤ kind_at T p → Next T g starts p []
  n-leaf : {x : Terminal} {ss : List Symbol} → kind_at T p ≡ 1 → Stands T g starts p (terminal x) → Spells T g starts (p + 1) ss → Next T g starts p (terminal x ∷ ss)
  n-node : {s : Symbol} {ss : List Symbol} → 2 ≤ kind_at T p → kind_at T p ≤ 4 → Stands T g starts p s → Spells T g starts (p + 1) ss → Next T g starts p (s ∷ ss)

pub next_of : {T : List ℕ} {g : Grammar} {starts : Starts} {p : ℕ} {ss : List Symbol} → Spells T g starts p ss → Next T g starts p ss
next_of (sp_end k) = n-end (⊎_elim (λ e. omega arith) (λ e. omega arith) k)
next_of (sp-item (st-terminal k r i) sp) = n-leaf k (st-terminal k r i) sp
next_of {T} {g} {starts} (sp-item (st-name {p = p} {m = m} {n = n} k r a) sp) =
    let b = mark-kind (over m (rule_mark (rules g) n)) in n-node (omega arith) (omega arith) (st-name k r a) sp
next_of (sp-item (st-made q k r a) sp) = n-node (omega arith) (omega arith) (st-made q k r a) sp

-- the numbers of a position are small
module _ {T P : List ℕ} {r : Text} {S : List ℕ} {h : Position} (w : SomeTracks T P r S h) where
  pub item_in : h.item < length T
  item_in = in_table T h.item (spells-kind w.tracks.spells)

  pub small : Small h
  small = record {
    item = omega (arith, item_in, w.lent.table);
    entry = omega (arith, w.tracks.inside, w.lent.list);
    place = omega (arith, w.tracks.within, w.lent.short);
  }

  pub enters : h.entry < length P → Enters S h
  enters l = record {
    room = omega (arith, w.lent.room);
    item = omega (arith, item_in, w.lent.table);
    inner = omega (arith, w.tracks.deep, w.lent.list);
  }

  pub leaves : 0 < h.inner → Leaves S h
  leaves some = record {
    some = some;
    room = omega (arith, w.tracks.deep, w.tracks.inside, w.lent.room);
    item = go w.tracks.opens;
    entry = small.entry;
    place = small.place;
  }
    where
      go : {os : List Open} → Opens T S w.g w.starts os h.inner → get_or S (2 * (h.inner - 1) + 1) 0 < 4294967296
      go (none_open z) = absurd (omega arith)
      go (some-open {o = o} e l a b i sp os) = let j : h.inner - 1 ≡ o.entry = omega arith in rw (j, b) (omega (arith, i, w.lent.table))
