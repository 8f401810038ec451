-- Nothing is lost between record and XML.
use mathlib.Core.Path.{◌≡◌, refl, sym, ap, subst, ◌∙◌}
use mathlib.Core.Bool.{Bool, true, false, not, ◌||◌}
use mathlib.Core.List.{List, [], ◌∷◌, ◌++◌, append-nil, append_assoc}
use Prim.Native.Nat.{ℕ, zero, suc, ◌-◌, ◌<◌}
use native.Mathlib.Omega.{arith}
use lib.Dec.{T}
use lib.ListN.{length, take, drop}
use lib.Seq.{take-append_seam}
use Rattle.text.specs.Lists.{Text, chars, any, all}
use Rattle.text.specs.Utf8.{Utf8, utf8, utf8s}
use Rattle.text.proofs.Tests.{clash, is_t, T_false, and_left, both-and}
use Rattle.tree.specs.Tree.{Mark, unmarked, included, attribute, deleted, Rule, Grammar, rules}
use Rattle.plain.specs.Written.{kind, written}
use Rattle.plain.specs.Static.{mismatched}
use Rattle.derive.specs.Derive.{Row, node, alternative, root, Derives, d-end, d-node, Derivation}
use Rattle.derive.proofs.Chosen.{chosen-derives}
use Rattle.xml.specs.Names.{xml_name}
use Rattle.xml.specs.Document.{Xml, none, char, attr, elem, mark_of, as_root, nodes, value, stretch, document, is_attribute, misnamed, not_one}
use Rattle.xml.specs.Bytes.{state, attributes, closed, content, bytes}
use Rattle.answer.specs.Answer.{Line, Job, Answer, Converts, Judges, GrammarTree, of_tree, as_xml, grammar_lines, record_lines, document_lines, too_long}
use Rattle.answer.specs.Answer.{need_lines, scratch_need, list_lines, document_lines_of, given, too_long_by}
use Rattle.answer.specs.Demands.{None}
use Rattle.answer.proofs.Lines.{none-given}
use Rattle.answer.proofs.Agree.{one-grammar}
use Rattle.answer.proofs.Demands.{demands-hold}
use Rattle.audit.specs.Audit.{Between, b_end, exposes, changes, no_attributes, all_kept, Audits, Audited}
use Rattle.audit.proofs.Once.{one-text}
use Rattle.audit.proofs.Fair.{fair, fairs, fair-alternative}
use Rattle.audit.proofs.Rows.{spoken, unadorned, kept, verbatim, made_kept, unmarked-rules, row-spoken, row-unadorned, row-verbatim, plain-spoken, plain-unadorned}
use Rattle.audit.proofs.Tags.{inner, name-inner, element, element-between, contents, no-attributes, silent, not-true, neither}

-- no element passes, so all fail
none-all : {A : Type 0} (f : A → Bool) (xs : List A) → any f xs ≡ false → T (all (λ x. not (f x)) xs)
none-all f [] h = tt
none-all f (x ∷ xs) h = let k = neither (f x) (any f xs) h in both-and (not (f x)) (all (λ x. not (f x)) xs) (is_t (ap not k.0)) (none-all f xs k.1)

not-false : (b : Bool) → T (not b) → b ≡ false
not-false true h = absurd h
not-false false h = refl

no-uses : (g : Grammar) → T (no_attributes g) → T (all kept (written g)) × T (unmarked-rules (rules g))
unfolding no_attributes
no-uses g h =
    let k = neither (any (λ s. exposes (kind s)) (written g)) (any (λ (r : Rule). is_attribute r.mark) (rules g)) (not-false _ h) in
    (none-all (λ s. exposes (kind s)) (written g) k.0, none-all (λ (r : Rule). is_attribute r.mark) (rules g) k.1)

all-verbatim : (g : Grammar) → T (all_kept g) → T (all verbatim (written g))
unfolding all_kept
all-verbatim g h = none-all (λ s. changes (kind s)) (written g) (not-false _ h)

-- the state ends no tag
state-inner : (a m : Bool) → T (all inner (utf8s (state a m)))
unfolding utf8s utf8
state-inner true true = tt
state-inner true false = tt
state-inner false true = tt
state-inner false false = tt

-- 1. A document that is one element.
one-element : (a m : Bool) (x : Xml) → T (unadorned x) → misnamed x ≡ false → not_one x ≡ false → Between (bytes a m x) (utf8s (spoken x))
unfolding misnamed not_one bytes
one-element a m none h n o = absurd (clash o refl)
one-element a m (char c x) h n o = absurd (clash o refl)
one-element a m (attr k v x) h n o = absurd (clash o refl)
one-element a m (elem k i (char c x)) h n o = absurd (clash o refl)
one-element a m (elem k i (attr l v x)) h n o = absurd (clash o refl)
one-element a m (elem k i (elem l j x)) h n o = absurd (clash o refl)
one-element a m (elem k i none) h n o =
    let hi = and_left (unadorned i) true h in
    let n1 = neither (not (xml_name k) || misnamed i) false n in
    let n2 = neither (not (xml_name k)) (misnamed i) n1.0 in
    let b = element-between k (state a m) (name-inner k (not-true (xml_name k) n2.0)) (state-inner a m) (content i) (spoken i) (silent i)
    (λ w u b. contents i w u hi n2.1 b) [] [] b_end in
    let e : chars "<" ++ k ++ state a m ++ attributes i ++ closed k (content i) ≡ element k (state a m) (content i) =
    ap (λ (t : Text). chars "<" ++ k ++ state a m ++ t ++ closed k (content i)) (no-attributes i hi) ∙ simp append_assoc in
    let f : utf8s (element k (state a m) (content i)) ++ [] ≡ utf8s (chars "<" ++ k ++ state a m ++ attributes i ++ closed k (content i)) =
    append-nil (utf8s (element k (state a m) (content i))) ∙ ap utf8s (sym e) in
    let d : utf8s (spoken i) ++ [] ≡ utf8s (spoken i ++ []) = append-nil (utf8s (spoken i)) ∙ ap utf8s (sym (append-nil (spoken i))) in
    subst (λ (t : List ℕ). Between (utf8s (chars "<" ++ k ++ state a m ++ attributes i ++ closed k (content i))) t) d
    (subst (λ (t : List ℕ). Between t (utf8s (spoken i) ++ [])) f b)

-- 2. What the document of a derivation says.
plain-root : (m : Mark) → T (not (is_attribute (as_root m)))
unfolding is_attribute
plain-root unmarked = tt
plain-root included = tt
plain-root attribute = tt
plain-root deleted = tt

module _ (g : Grammar) (r : Text) (h : T (no_attributes g)) where
  root-fair : T (fair kept (root g))
  unfolding is_attribute
  root-fair = tt

  document-spoken : {t : Row} → Derivation g r t → (spoken (document g r t) ≡ value g r t (root g ∷ []) 0) × T (unadorned (document g r t))
  document-spoken (d-node {c = c} {t = t} {a = b} {m = m} l e d) =
      let k = no-uses g h in
      let f = fair-alternative kept g k.0 made_kept (root g) b root-fair in
      let x = nodes g r c (alternative g (root g) b) 0 in
      let p = plain-spoken (as_root (mark_of g (root g))) g.root.name [] x (plain-root (mark_of g (root g))) in
      let s = row-spoken g r k.1 k.0 c (alternative g (root g) b) 0 f in
      let u = plain-unadorned (as_root (mark_of g (root g))) g.root.name [] x (plain-root (mark_of g (root g))) (row-unadorned g r k.1 k.0 c (alternative g (root g) b) 0 f) in
      (p ∙ s ∙ sym (last d), u)
    where
      last : {t : Row} {m j : ℕ} → Derives g r t [] m j → value g r (node b m c t) (root g ∷ []) 0 ≡ value g r c (alternative g (root g) b) 0
      last d-end = append-nil (value g r c (alternative g (root g) b) 0)

whole-stretch : (r : Text) → stretch r 0 (length r) ≡ r
whole-stretch r =
    let e : length r - 0 ≡ length r = omega arith in
    ap (λ (n : ℕ). take n r) e ∙ ap (take (length r)) (sym (append-nil r)) ∙ take-append_seam r []

audits : (g : Grammar) (r : Text) (t : Row) (a m : Bool) → Derivation g r t → misnamed (document g r t) ≡ false → not_one (document g r t) ≡ false → Audits g r t a m
audits g r t a m d n o = record {
  undeleted = undeleted;
  whole = λ h k. subst (λ (s : Text). Between (bytes a m (document g r t)) (utf8s s))
      (row-verbatim g r (all-verbatim g k) d root-verbatim ∙ whole-stretch r) (undeleted h);
}
  where
    undeleted : T (no_attributes g) → Between (bytes a m (document g r t)) (utf8s (value g r t (root g ∷ []) 0))
    undeleted h =
        let s = document-spoken g r h d in
        subst (λ (v : Text). Between (bytes a m (document g r t)) (utf8s v)) s.0 (one-element a m (document g r t) s.1 n o)

    root-verbatim : T (fairs verbatim (root g ∷ []))
    root-verbatim = tt

-- 3. Converting: with 0 no line applies, so names are XML names and the document is one element.
abbrev later : ℕ → List Line → List Line
later zero ls = ls
later (suc k) [] = []
later (suc k) (l ∷ ls) = later k ls

later-none : (k : ℕ) (ls : List Line) → None ls → None (later k ls)
later-none zero ls h = h
later-none (suc k) [] h = h
later-none (suc k) (l ∷ ls) h = later-none k ls h.1

-- the lines before 18
abbrev before-names : ℕ
before-names = 19

-- the XML that begins a buffer, of a derivation of the record that no line forbids
module _ (j : Job) (old new : List ℕ) (n : ℕ) (mark : Bool) {g : Grammar} {r : Text} {t : Row} (texts : GrammarTree j.grammar g × Utf8 j.input r)
    (d : Derivation g r t) (named : misnamed (document g r t) ≡ false) (single : not_one (document g r t) ≡ false)
    (k : of_tree j.grammar (λ g. T (no_attributes g) × T (all_kept g))) where
  abbrev xml : List ℕ
  xml = bytes mark (mismatched g) (document g r t)

  spells-record : n ≡ length xml → new ≡ xml ++ drop (length xml) old → Between (take n new) j.input
  spells-record e f =
      let same : k.0 ≡ g = one-grammar j k.1 texts.0 in
      let fair : T (no_attributes g) × T (all_kept g) = subst (λ (h : Grammar). T (no_attributes h) × T (all_kept h)) same k.2 in
      let b = (audits g r t mark (mismatched g) d named single).whole fair.0 fair.1 in
      let c : take n new ≡ xml = ap (λ (i : ℕ). take i new) e ∙ ap (take (length xml)) f ∙ take-append_seam xml (drop (length xml) old) in
      subst (λ (v : List ℕ). Between v j.input) (sym c) (subst (λ (v : List ℕ). Between xml v) (sym texts.1.spelt) b)

converted : (j : Job) (old new : List ℕ) (a : Answer) → Converts j old a new → a.number ≡ 0 → of_tree j.grammar (λ g. T (no_attributes g) × T (all_kept g))
    → Between (take a.length new) j.input
converted j old new a w e k =
    let x = (demands-hold.converting j old new a w).chosen e in
    let g = x.0 in
    let r = x.1 in
    let t = x.3.0 in
    let ls = grammar_lines j.grammar (record_lines j (document_lines j (too_long j as_xml old ∷ []))) in
    let none = later-none before-names ls ((none-given ls a.number tt w.number).0 e) in
    let named = T_false (misnamed (document g r t)) (λ m. none.0 (g, r, x.2, (t, x.3.1, x.3.2, m))) in
    let single = T_false (not_one (document g r t)) (λ m. none.1.1.1.0 (g, r, x.2, (t, x.3.1, x.3.2, m))) in
    spells-record j old new a.length a.ambiguous x.2 (chosen-derives g r x.3.2.chosen) named single k x.3.3.1 x.3.3.2

-- 4. Judging: the same of the derivation that the list names. The lines before 18 are one less, for 29.
judged : (q : List ℕ) (j : Job) (old new : List ℕ) (a : Answer) → Judges q j old a new → a.number ≡ 0 → of_tree j.grammar (λ g. T (no_attributes g) × T (all_kept g))
    → Between (take a.length new) j.input
judged q j old new a w e k =
    let x = w.answered e in
    let y = x.1 in
    let g = y.0 in
    let r = y.1 in
    let t = y.3.0 in
    let ls = grammar_lines j.grammar (need_lines (scratch_need q) j (list_lines q j (document_lines_of (given q) j (too_long_by (given q) j as_xml old ∷ [])))) in
    let none = later-none 18 ls ((none-given ls a.number tt w.number).0 e) in
    let named = T_false (misnamed (document g r t)) (λ m. none.0 (g, r, y.2, (t, y.3.1, y.3.2, m))) in
    let single = T_false (not_one (document g r t)) (λ m. none.1.1.1.0 (g, r, y.2, (t, y.3.1, y.3.2, m))) in
    let is : x.0 ≡ bytes a.ambiguous (mismatched g) (document g r t) = y.3.3.1 in
    spells-record j old new a.length a.ambiguous y.2 y.3.2.0.0 named single k (x.2 ∙ ap length is) (x.3 ∙ ap (λ (xs : List ℕ). xs ++ drop (length xs) old) is)

pub audited : Audited
audited = record { derivations = audits; converting = converted; judging = judged; one = one-text }
