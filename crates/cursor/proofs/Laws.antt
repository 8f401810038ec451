-- Laws of nodes before all that is ahead, and of what rows come to.
use mathlib.Core.Path.{◌≡◌, refl, ap}
use mathlib.Core.List.{List, [], ◌∷◌, ◌++◌}
use Prim.Native.Nat.{ℕ, zero, suc, ◌≤◌, ◌<◌}
use native.Mathlib.Omega.{arith}
use Rattle.text.specs.Lists.{Text}
use Rattle.tree.specs.Tree.{Symbol, terminal, Terminal, Grammar}
use Rattle.derive.specs.Derive.{Row, end, leaf, node, alternative}
use Rattle.items.specs.Items.{mark_kind}
use Rattle.xml.specs.Document.{Xml, none, char, attr, elem, join, text, value, mark_of, stretch, terminal_text}
use Rattle.left_parse.proofs.Marks.{nodes-deleted}
use Rattle.cursor.specs.Rest.{Rest, row, within, before}
use Rattle.cursor.specs.Ahead.{spread}

pub join-none : (x : Xml) → join x none ≡ x
join-none none = refl
join-none (char c x) = ap (char c) (join-none x)
join-none (attr n v x) = ap (attr n v) (join-none x)
join-none (elem n i x) = ap (elem n i) (join-none x)

pub join-assoc : (x y z : Xml) → join (join x y) z ≡ join x (join y z)
join-assoc none y z = refl
join-assoc (char c x) y z = ap (char c) (join-assoc x y z)
join-assoc (attr n v x) y z = ap (attr n v) (join-assoc x y z)
join-assoc (elem n i x) y z = ap (elem n i) (join-assoc x y z)

-- nodes before nodes
pub before-join : (x y : Xml) (k : Rest) → before (join x y) k ≡ before x (before y k)
before-join x y (row z) = ap row (join-assoc x y z)
before-join x y (within n z k) = ap (λ (w : Xml). within n w k) (join-assoc x y z)

pub before-none : (k : Rest) → before none k ≡ k
before-none (row z) = refl
before-none (within n z k) = refl

pub text-append : (s t : Text) → text (s ++ t) ≡ join (text s) (text t)
text-append [] t = refl
text-append (c ∷ s) t = ap (char c) (text-append s t)

-- a row that begins with a terminal
pub spread-leaf : (g : Grammar) (r : Text) (v m i : ℕ) (x : Terminal) (ss : List Symbol) (t : Row)
    → spread g r v (leaf m t) (terminal x ∷ ss) i ≡ join (text (terminal_text x (stretch r i m))) (spread g r v t ss m)
spread-leaf g r zero m i x ss t = refl
spread-leaf g r (suc v) m i x ss t = text-append (terminal_text x (stretch r i m)) (value g r t ss m)

-- a row that begins with a node that is not written itself
pub spread-node : (g : Grammar) (r : Text) (v i a m : ℕ) (c t : Row) (s : Symbol) (ss : List Symbol) → (v ≡ 0 → 4 ≡ mark_kind (mark_of g s))
    → spread g r v (node a m c t) (s ∷ ss) i ≡ join (spread g r v c (alternative g s a) i) (spread g r v t ss m)
spread-node g r zero i a m c t s ss d = nodes-deleted g r s ss i a m c t (d refl)
spread-node g r (suc v) i a m c t s ss d = text-append (value g r c (alternative g s a) i) (value g r t ss m)

pub spread_end : (g : Grammar) (r : Text) (v i : ℕ) → spread g r v end [] i ≡ none
spread_end g r zero i = refl
spread_end g r (suc v) i = refl

-- in a value
pub spread-value : (g : Grammar) (r : Text) (v i : ℕ) (t : Row) (ss : List Symbol) → 0 < v → spread g r v t ss i ≡ text (value g r t ss i)
spread-value g r zero i t ss l = absurd (omega arith)
spread-value g r (suc v) i t ss l = refl

pub decide-zero : (v : ℕ) → (v ≡ 0 → ⊥) → 0 < v
decide-zero v h = omega arith

pub none_above : {v : ℕ} → v ≤ 0 → v ≡ 0
none_above h = omega arith

pub above-none : {v : ℕ} → 0 < v → v ≡ 0 → ⊥
above-none h z = omega arith

pub not-two : {k n : ℕ} → k ≡ n → k ≡ 3 → n ≡ 2 → ⊥
not-two e a b = omega arith
