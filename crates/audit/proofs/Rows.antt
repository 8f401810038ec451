-- What a row of nodes says: with no attribute it is the row's value, and where all text is kept, the stretch that the row derives.
use mathlib.Core.Path.{◌≡◌, refl, sym, ap, subst, ◌∙◌}
use mathlib.Core.Bool.{Bool, true, false, not, ◌&&◌}
use mathlib.Core.List.{List, [], ◌∷◌, ◌++◌, append_assoc, append-nil}
use Prim.Native.Nat.{ℕ, ◌+◌, ◌-◌, ◌≤◌}
use native.Mathlib.Omega.{arith}
use lib.Dec.{T}
use lib.ListN.{take, drop}
use lib.Seq.{drop-drop, take-add}
use Rattle.text.specs.Lists.{Text, pick, all, same}
use Rattle.text.proofs.Tests.{and_left, and_right, both-and}
use Rattle.tree.specs.Tree.{Mark, unmarked, included, attribute, deleted, Terminal, literal, inclusion, exclusion, insertion}
use Rattle.tree.specs.Tree.{Symbol, terminal, nonterminal, group, option, repeat0, repeat1, repeat0sep, repeat1sep, rest, Rule, Grammar, rules}
use Rattle.plain.specs.Written.{Kind, made, kind, written}
use Rattle.plain.specs.Plain.{rule_mark, over, width}
use Rattle.derive.specs.Derive.{Row, end, leaf, node, alternative, Derives, d-end, d-leaf, d-node}
use Rattle.xml.specs.Document.{Xml, none, char, attr, elem, join, text, mark_of, name_of, leaf_text, terminal_text, stretch, value, marked, nodes, is_attribute}
use Rattle.audit.specs.Audit.{exposes, changes}
use Rattle.audit.proofs.Fair.{fair, fairs, fair-alternative}

-- the characters between the tags, elements entered
abbrev pub spoken : Xml → Text
spoken none = []
spoken (char c x) = c ∷ spoken x
spoken (attr n v x) = spoken x
spoken (elem n i x) = spoken i ++ spoken x

-- no attribute stands in it, at any depth
abbrev pub unadorned : Xml → Bool
unadorned none = true
unadorned (char c x) = unadorned x
unadorned (attr n v x) = false
unadorned (elem n i x) = unadorned i && unadorned x

spoken-join : (x y : Xml) → spoken (join x y) ≡ spoken x ++ spoken y
spoken-join none y = refl
spoken-join (char c x) y = ap (λ (t : Text). c ∷ t) (spoken-join x y)
spoken-join (attr n v x) y = spoken-join x y
spoken-join (elem n i x) y = ap (λ (t : Text). spoken i ++ t) (spoken-join x y) ∙ sym (append_assoc (spoken i) (spoken x) (spoken y))

unadorned-join : (x y : Xml) → T (unadorned x) → T (unadorned y) → T (unadorned (join x y))
unadorned-join none y h k = k
unadorned-join (char c x) y h k = unadorned-join x y h k
unadorned-join (attr n v x) y h k = h
unadorned-join (elem n i x) y h k =
    both-and (unadorned i) (unadorned (join x y)) (and_left (unadorned i) (unadorned x) h) (unadorned-join x y (and_right (unadorned i) (unadorned x) h) k)

spoken-text : (cs : Text) → spoken (text cs) ≡ cs
spoken-text [] = refl
spoken-text (c ∷ cs) = ap (λ (t : Text). c ∷ t) (spoken-text cs)

unadorned-text : (cs : Text) → T (unadorned (text cs))
unadorned-text [] = tt
unadorned-text (c ∷ cs) = unadorned-text cs

-- a node that is no attribute
pub plain-spoken : (m : Mark) (n v : Text) (x : Xml) → T (not (is_attribute m)) → spoken (marked m n x v) ≡ spoken x
unfolding is_attribute
plain-spoken unmarked n v x h = append-nil (spoken x)
plain-spoken included n v x h = append-nil (spoken x)
plain-spoken attribute n v x h = absurd h
plain-spoken deleted n v x h = refl

pub plain-unadorned : (m : Mark) (n v : Text) (x : Xml) → T (not (is_attribute m)) → T (unadorned x) → T (unadorned (marked m n x v))
unfolding is_attribute
plain-unadorned unmarked n v x h k = both-and (unadorned x) true k tt
plain-unadorned included n v x h k = both-and (unadorned x) true k tt
plain-unadorned attribute n v x h k = absurd h
plain-unadorned deleted n v x h k = k

-- marks
abbrev pub unmarked-rules : List Rule → Bool
unmarked-rules rs = all (λ (r : Rule). not (is_attribute r.mark)) rs

plain-rule : (rs : List Rule) (n : Text) → T (unmarked-rules rs) → T (not (is_attribute (rule_mark rs n)))
unfolding is_attribute
plain-rule [] n h = tt
plain-rule (r ∷ rs) n h = go (same n r.name) (and_left (not (is_attribute r.mark)) (unmarked-rules rs) h) (plain-rule rs n (and_right (not (is_attribute r.mark)) (unmarked-rules rs) h))
  where
    go : (b : Bool) → T (not (is_attribute r.mark)) → T (not (is_attribute (rule_mark rs n))) → T (not (is_attribute (pick b r.mark (rule_mark rs n))))
    go true x y = x
    go false x y = y

plain_over : (m k : Mark) → T (not (is_attribute m)) → T (not (is_attribute k)) → T (not (is_attribute (over m k)))
unfolding is_attribute
plain_over unmarked k h l = l
plain_over included k h l = tt
plain_over attribute k h l = absurd h
plain_over deleted k h l = tt

abbrev pub kept : Symbol → Bool
kept s = not (exposes (kind s))

plain-mark : (g : Grammar) (s : Symbol) → T (unmarked-rules (rules g)) → T (kept s) → T (not (is_attribute (mark_of g s)))
unfolding is_attribute
plain-mark g (terminal x) w h = tt
plain-mark g (nonterminal m n) w h = plain_over m (rule_mark (rules g) n) h (plain-rule (rules g) n w)
plain-mark g (group b) w h = tt
plain-mark g (option f) w h = tt
plain-mark g (repeat0 f) w h = tt
plain-mark g (repeat1 f) w h = tt
plain-mark g (repeat0sep f sep) w h = tt
plain-mark g (repeat1sep f sep) w h = tt
plain-mark g (rest f sep) w h = tt

itself : (p : Symbol → Bool) (s : Symbol) → T (fair p s) → T (p s)
itself p (terminal x) h = and_left (p (terminal x)) true h
itself p (nonterminal m n) h = and_left (p (nonterminal m n)) true h
itself p (group b) h = and_left (p (group b)) _ h
itself p (option f) h = and_left (p (option f)) _ h
itself p (repeat0 f) h = and_left (p (repeat0 f)) _ h
itself p (repeat1 f) h = and_left (p (repeat1 f)) _ h
itself p (repeat0sep f sep) h = and_left (p (repeat0sep f sep)) _ h
itself p (repeat1sep f sep) h = and_left (p (repeat1sep f sep)) _ h
itself p (rest f sep) h = and_left (p (rest f sep)) _ h

pub made_kept : (s : Symbol) → kind s ≡ made → T (kept s)
made_kept s e = subst (λ (k : Kind). T (not (exposes k))) (sym e) tt

-- 1. With no attribute, a row says its value.
module _ (g : Grammar) (r : Text) (w : T (unmarked-rules (rules g))) (a : T (all kept (written g))) where
  pub row-spoken : (t : Row) (ss : List Symbol) (i : ℕ) → T (fairs kept ss) → spoken (nodes g r t ss i) ≡ value g r t ss i
  row-spoken end ss i h = refl
  row-spoken (leaf m t) [] i h = refl
  row-spoken (leaf m t) (s ∷ ss) i h =
      spoken-join (text (leaf_text s (stretch r i m))) (nodes g r t ss m) ∙ rw (spoken-text (leaf_text s (stretch r i m)), row-spoken t ss m (and_right (fair kept s) (fairs kept ss) h))
  row-spoken (node b m c t) [] i h = refl
  row-spoken (node b m c t) (s ∷ ss) i h =
      let f = and_left (fair kept s) (fairs kept ss) h in
      let x = nodes g r c (alternative g s b) i in
      let v = value g r c (alternative g s b) i in
      let e : spoken (marked (mark_of g s) (name_of s) x v) ≡ v = plain-spoken (mark_of g s) (name_of s) v x
      (plain-mark g s w (itself kept s f)) ∙ row-spoken c (alternative g s b) i (fair-alternative kept g a made_kept s b f) in
      spoken-join (marked (mark_of g s) (name_of s) x v) (nodes g r t ss m) ∙ rw (e, row-spoken t ss m (and_right (fair kept s) (fairs kept ss) h))

  pub row-unadorned : (t : Row) (ss : List Symbol) (i : ℕ) → T (fairs kept ss) → T (unadorned (nodes g r t ss i))
  row-unadorned end ss i h = tt
  row-unadorned (leaf m t) [] i h = tt
  row-unadorned (leaf m t) (s ∷ ss) i h =
      unadorned-join (text (leaf_text s (stretch r i m))) (nodes g r t ss m) (unadorned-text (leaf_text s (stretch r i m))) (row-unadorned t ss m (and_right (fair kept s) (fairs kept ss) h))
  row-unadorned (node b m c t) [] i h = tt
  row-unadorned (node b m c t) (s ∷ ss) i h =
      let f = and_left (fair kept s) (fairs kept ss) h in
      let x = nodes g r c (alternative g s b) i in
      let v = value g r c (alternative g s b) i in
      unadorned-join (marked (mark_of g s) (name_of s) x v) (nodes g r t ss m)
      (plain-unadorned (mark_of g s) (name_of s) v x (plain-mark g s w (itself kept s f)) (row-unadorned c (alternative g s b) i (fair-alternative kept g a made_kept s b f)))
      (row-unadorned t ss m (and_right (fair kept s) (fairs kept ss) h))

-- 2. Where all text is kept, a row's value is the stretch that it derives.
abbrev pub verbatim : Symbol → Bool
verbatim s = not (changes (kind s))

pub made-verbatim : (s : Symbol) → kind s ≡ made → T (verbatim s)
made-verbatim s e = subst (λ (k : Kind). T (not (changes k))) (sym e) tt

leaf-kept : (x : Terminal) (t : Text) → T (verbatim (terminal x)) → terminal_text x t ≡ t
leaf-kept (literal unmarked k) t h = refl
leaf-kept (literal included k) t h = refl
leaf-kept (literal attribute k) t h = refl
leaf-kept (literal deleted k) t h = absurd h
leaf-kept (inclusion unmarked k) t h = refl
leaf-kept (inclusion included k) t h = refl
leaf-kept (inclusion attribute k) t h = refl
leaf-kept (inclusion deleted k) t h = absurd h
leaf-kept (exclusion unmarked k) t h = refl
leaf-kept (exclusion included k) t h = refl
leaf-kept (exclusion attribute k) t h = refl
leaf-kept (exclusion deleted k) t h = absurd h
leaf-kept (insertion k) t h = absurd h

adjoin : (r : Text) (i m j : ℕ) → i ≤ m → m ≤ j → stretch r i m ++ stretch r m j ≡ stretch r i j
adjoin r i m j h k =
    let e : (m - i) + (j - m) ≡ j - i = omega arith in
    let f : i + (m - i) ≡ m = omega arith in
    let d : drop (m - i) (drop i r) ≡ drop m r = drop-drop (m - i) i r ∙ ap (λ (n : ℕ). drop n r) f in
    ap (λ (t : Text). take (m - i) (drop i r) ++ take (j - m) t) (sym d) ∙ sym (take-add (m - i) (j - m) (drop i r)) ∙ ap (λ (n : ℕ). take n (drop i r)) e

empty : (r : Text) (i : ℕ) → stretch r i i ≡ []
empty r i = let e : i - i ≡ 0 = omega arith in ap (λ (n : ℕ). take n (drop i r)) e

pub onward : {g : Grammar} {r : Text} {t : Row} {ss : List Symbol} {i j : ℕ} → Derives g r t ss i j → i ≤ j
onward d-end = omega arith
onward (d-leaf f d) = let k = onward d in omega arith
onward (d-node b c d) = let k = onward c in let l = onward d in omega arith

module _ (g : Grammar) (r : Text) (a : T (all verbatim (written g))) where
  pub row-verbatim : {t : Row} {ss : List Symbol} {i j : ℕ} → Derives g r t ss i j → T (fairs verbatim ss) → value g r t ss i ≡ stretch r i j
  row-verbatim {i = i} d-end h = sym (empty r i)
  row-verbatim (d-leaf {x = x} {ss = ss} {t = t} {i = i} {j = j} f d) h =
      let k = row-verbatim d (and_right (fair verbatim (terminal x)) (fairs verbatim ss) h) in
      rw (leaf-kept x (stretch r i (i + width x)) (itself verbatim (terminal x) (and_left (fair verbatim (terminal x)) (fairs verbatim ss) h)), k) (adjoin r i (i + width x) j (omega arith) (onward d))
  row-verbatim (d-node {s = s} {ss = ss} {c = c} {t = t} {a = b} {i = i} {m = m} {j = j} l e d) h =
      let f = and_left (fair verbatim s) (fairs verbatim ss) h in
      let k = row-verbatim e (fair-alternative verbatim g a made-verbatim s b f) in
      let n = row-verbatim d (and_right (fair verbatim s) (fairs verbatim ss) h) in
      rw (k, n) (adjoin r i m j (onward e) (onward d))
