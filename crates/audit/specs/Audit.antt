-- Nothing lost between record and XML: what an auditor reads off the bytes of a result.
use Rattle.std.specs.Prelude.{Bool, true, false, not, ◌||◌, ◌≡◌, List, [], ◌∷◌, ◌++◌, ℕ, T, eqb, take}
use Rattle.text.specs.Lists.{Text, chars, any, all, among}
use Rattle.text.specs.Utf8.{utf8s}
use Rattle.tree.specs.Tree.{Mark, unmarked, included, attribute, deleted, Terminal, literal, inclusion, exclusion, insertion, Symbol, Rule, Grammar, rules}
use Rattle.plain.specs.Written.{Kind, atom, named, made, kind, written}
use Rattle.derive.specs.Derive.{Row, root, Derivation}
use Rattle.xml.specs.Document.{document, value, is_attribute, misnamed, not_one}
use Rattle.xml.specs.Bytes.{bytes}
use Rattle.xml.specs.References.{Reference}
use Rattle.answer.specs.Answer.{Job, Answer, of_tree, Converts, Judges}

-- "the text between the tags, with references turned back into characters": of the bytes t it is u. A tag runs from `<` to the next `>`, a
-- reference from `&` to its `;`, and any other byte stands for itself.
pub data Between : List ℕ → List ℕ → Type 0 where
  b_end : Between [] []
  b-tag : (n : List ℕ) {t u : List ℕ} → T (all (λ b. not (eqb b 0x3e)) n) → Between t u → Between (0x3c ∷ (n ++ 0x3e ∷ t)) u
  b-reference : {n t u : List ℕ} {c : ℕ} → Reference n c → Between t u → Between (0x26 ∷ (n ++ 0x3b ∷ t)) (c ∷ u)
  b-byte : {b : ℕ} {t u : List ℕ} → T (not (among b (chars "<&"))) → Between t u → Between (b ∷ t) (b ∷ u)

-- "no `@` anywhere": neither at a use nor at a rule
abbrev pub exposes : Kind → Bool
exposes (atom x) = false
exposes (named m n) = is_attribute m
exposes made = false

unfoldable pub no_attributes : Grammar → Bool
no_attributes g = not (any (λ s. exposes (kind s)) (written g) || any (λ (r : Rule). is_attribute r.mark) (rules g))

-- "no `-` on a terminal and no insertion"
abbrev pub is_deleted : Mark → Bool
is_deleted m = elim m [ unmarked ↦ false | included ↦ false | attribute ↦ false | deleted ↦ true ]

abbrev pub alters : Terminal → Bool
alters x = elim x [ literal m k ↦ is_deleted m | inclusion m ms ↦ is_deleted m | exclusion m ms ↦ is_deleted m | insertion k ↦ true ]

abbrev pub changes : Kind → Bool
changes (atom x) = alters x
changes (named m n) = false
changes made = false

unfoldable pub all_kept : Grammar → Bool
all_kept g = not (any (λ s. changes (kind s)) (written g))

-- Of any derivation of the record, the chosen one or another, where its document may be written: with no attribute, what stands between the
-- tags is all undeleted text of its terminals and insertions, in order; and where all text is kept it is the record.
pub record Audits (g : Grammar) (r : Text) (t : Row) (ambiguous mismatch : Bool) : Type 0 where
  pub undeleted : T (no_attributes g) → Between (bytes ambiguous mismatch (document g r t)) (utf8s (value g r t (root g ∷ []) 0))
  pub whole : T (no_attributes g) → T (all_kept g) → Between (bytes ambiguous mismatch (document g r t)) (utf8s r)

pub record Audited : Type 0 where
  pub derivations : (g : Grammar) (r : Text) (t : Row) (ambiguous mismatch : Bool) → Derivation g r t → misnamed (document g r t) ≡ false
      → not_one (document g r t) ≡ false → Audits g r t ambiguous mismatch
  -- and so of converting, whatever the record
  pub converting : (j : Job) (old new : List ℕ) (a : Answer) → Converts j old a new → a.number ≡ 0
      → of_tree j.grammar (λ g. T (no_attributes g) × T (all_kept g)) → Between (take a.length new) j.input
  -- and of judging, whoever made the list
  pub judging : (q : List ℕ) (j : Job) (old new : List ℕ) (a : Answer) → Judges q j old a new → a.number ≡ 0
      → of_tree j.grammar (λ g. T (no_attributes g) × T (all_kept g)) → Between (take a.length new) j.input
  -- what stands between the tags is one text
  pub one : {t u w : List ℕ} → Between t u → Between t w → u ≡ w
