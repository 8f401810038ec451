-- What an item's kind tells of a node: its mark, its name, and what it comes to.
use mathlib.Core.Path.{◌≡◌, refl, sym, ap, ◌∙◌}
use mathlib.Core.List.{List, ◌∷◌, ◌++◌, append-nil}
use Prim.Native.Nat.{ℕ, ◌≤◌, ◌<◌}
use native.Mathlib.Omega.{arith}
use lib.ListN.{length}
use Rattle.text.specs.Lists.{Text}
use Rattle.tree.specs.Tree.{Mark, unmarked, included, attribute, deleted, Symbol, Grammar, rules}
use Rattle.tree.specs.Tokens.{mark_number}
use Rattle.plain.specs.Written.{Kind, atom, named, made, kind}
use Rattle.plain.specs.Plain.{alts, rule_mark, over}
use Rattle.derive.specs.Derive.{Row, node, alternative}
use Rattle.items.specs.Items.{kind_at, token_at, mark_kind, Starts, Stands, st-terminal, st-name, st-made}
use Rattle.xml.specs.Document.{Xml, none, attr, elem, join, mark_of, name_of, marked, value, nodes}
use Rattle.left_parse.specs.Steps.{Named}

by_kind : Grammar → Kind → Mark
by_kind g k = elim k [ atom x ↦ deleted | named m n ↦ over m (rule_mark (rules g) n) | made ↦ deleted ]

pub made-mark : (g : Grammar) (s : Symbol) → kind s ≡ made → 4 ≡ mark_kind (mark_of g s)
unfolding by_kind
made-mark g s q = sym (ap (λ (x : Kind). mark_kind (by_kind g x)) q)

module _ {T : List ℕ} {g : Grammar} {starts : Starts} where
  pub node-mark : {p a : ℕ} {s : Symbol} → Stands T g starts p s → a < length (alts g s) → kind_at T p ≡ mark_kind (mark_of g s)
  node-mark (st-terminal k r i) l = absurd (omega arith)
  node-mark (st-name {m = m} {n = n} k r a) l = k
  node-mark (st-made {s = s} q k r a) l = k ∙ made-mark g s q

  pub node-named : {p : ℕ} {s : Symbol} → Stands T g starts p s → 2 ≤ kind_at T p → kind_at T p ≤ 3 → (k : ℕ) × Named T (token_at T p) k (name_of s)
  node-named (st-terminal k r i) a b = absurd (omega arith)
  node-named (st-name {m = m} {n = n} k r x) a b = (mark_number m, record { more = r.more; stands = r.stands ∙ ap (λ (t : Text). mark_number m ∷ length n ∷ (t ++ r.more)) (append-nil n) })
  node-named (st-made q k r x) a b = absurd (omega arith)

module _ (n : Text) (x : Xml) (v : Text) where
  pub marked-element : (m : Mark) → 2 ≡ mark_kind m → marked m n x v ≡ elem n x none
  marked-element unmarked e = refl
  marked-element included e = refl
  marked-element attribute e = absurd (omega arith)
  marked-element deleted e = absurd (omega arith)

  pub marked-attribute : (m : Mark) → 3 ≡ mark_kind m → marked m n x v ≡ attr n v none
  marked-attribute unmarked e = absurd (omega arith)
  marked-attribute included e = absurd (omega arith)
  marked-attribute attribute e = refl
  marked-attribute deleted e = absurd (omega arith)

  pub marked-deleted : (m : Mark) → 4 ≡ mark_kind m → marked m n x v ≡ x
  marked-deleted unmarked e = absurd (omega arith)
  marked-deleted included e = absurd (omega arith)
  marked-deleted attribute e = absurd (omega arith)
  marked-deleted deleted e = refl

-- what a node comes to
module _ (g : Grammar) (r : Text) (s : Symbol) (ss : List Symbol) (i a m : ℕ) (c t : Row) where
  pub nodes-element : 2 ≡ mark_kind (mark_of g s) → nodes g r (node a m c t) (s ∷ ss) i ≡ elem (name_of s) (nodes g r c (alternative g s a) i) (nodes g r t ss m)
  nodes-element e = ap (λ (x : Xml). join x (nodes g r t ss m)) (marked-element (name_of s) (nodes g r c (alternative g s a) i) (value g r c (alternative g s a) i) (mark_of g s) e)

  pub nodes-attribute : 3 ≡ mark_kind (mark_of g s) → nodes g r (node a m c t) (s ∷ ss) i ≡ attr (name_of s) (value g r c (alternative g s a) i) (nodes g r t ss m)
  nodes-attribute e = ap (λ (x : Xml). join x (nodes g r t ss m)) (marked-attribute (name_of s) (nodes g r c (alternative g s a) i) (value g r c (alternative g s a) i) (mark_of g s) e)

  pub nodes-deleted : 4 ≡ mark_kind (mark_of g s) → nodes g r (node a m c t) (s ∷ ss) i ≡ join (nodes g r c (alternative g s a) i) (nodes g r t ss m)
  nodes-deleted e = ap (λ (x : Xml). join x (nodes g r t ss m)) (marked-deleted (name_of s) (nodes g r c (alternative g s a) i) (value g r c (alternative g s a) i) (mark_of g s) e)
