-- The laws of specs/Laws.antt hold.
use mathlib.Core.Bool.{Bool, false, ◌&&◌, ◌||◌}
use mathlib.Core.Path.{◌≡◌, refl, sym, subst, ap, ◌∙◌}
use mathlib.Core.Logic.{◌⊎◌, inl, inr, ◌↔◌, ⊎_elim}
use mathlib.Core.List.{List, [], ◌∷◌, ◌++◌}
use Prim.Native.Nat.{ℕ, ◌≤◌}
use native.Mathlib.Omega.{arith}
use native.Mathlib.Decide.{ℕ_discrete}
use lib.Dec.{T, leb, leb→le}
use lib.ListN.{length, take, drop}
use lib.Seq.{take-append_seam}
use Rattle.text.specs.Lists.{Text}
use Rattle.text.specs.Utf8.{Utf8}
use Rattle.text.proofs.Decode.{utf8-unique}
use Rattle.text.proofs.Tests.{split, and_left, and_right}
use Rattle.tree.specs.Tree.{Grammar}
use Rattle.plain.specs.Static.{mismatched}
use Rattle.derive.specs.Derive.{Row, left_parse, root}
use Rattle.derive.specs.Chosen.{Reading}
use Rattle.derive.proofs.Chosen.{chosen-derives}
use Rattle.derive.proofs.Unique.{same-derivation}
use Rattle.xml.specs.Document.{document, mark_of, twice, misnamed, unwritable, is_attribute, not_one, namespaced}
use Rattle.answer.specs.Answer.{Line, line, Topmost, Job, GrammarTree, of_job, of_reading, of_source, chosen, given, Names, as_numbers, as_xml, Answer, Reads, Judges}
use Rattle.answer.specs.Answer.{grammar_lines, need_lines, record_lines, list_lines, document_lines, document_lines_of, too_long, too_long_by, scratch_need, ResultBy}
use Rattle.answer.specs.Demands.{None}
use Rattle.answer.proofs.Lines.{numbers, listed, head-given, none-given, passed, begun, given as given-only}
use Rattle.answer.proofs.Agree.{one-grammar}
use Rattle.answer.proofs.Demands.{demands-hold}
use Rattle.judging.specs.Laws.{Admits, SameTexts, OwnReading, Laws}
use Rattle.judging.proofs.Alike.{Alike, top-alike, none_alike, first-or, shorter}

-- the lines of judging after 15, and after 25
abbrev last_lines : List ℕ → Job → List ℕ → List Line
last_lines q j old = document_lines_of (given q) j (too_long_by (given q) j as_xml old ∷ [])

abbrev judge_lines : List ℕ → Job → List ℕ → List Line
judge_lines q j old = grammar_lines j.grammar (need_lines (scratch_need q) j (list_lines q j (last_lines q j old)))

past : (q : List ℕ) (j : Job) (old new : List ℕ) (a : Answer) → Judges q j old a new → Admits q j → Topmost (list_lines q j (last_lines q j old)) a.number
past q j old new a w u = passed (grammar_lines j.grammar (need_lines (scratch_need q) j [])) (list_lines q j (last_lines q j old)) a.number u w.number

exactly : (q : List ℕ) (j : Job) (old new : List ℕ) (a : Answer) → Judges q j old a new → Admits q j
    → (a.number ≡ 25) ↔ of_job j (λ g r. ((t : Row) × Names q g r t) → ⊥)
exactly q j old new a w u =
    head-given (line 25 (of_job j (λ g r. ((t : Row) × Names q g r t) → ⊥))) (last_lines q j old) a.number tt tt (past q j old new a w u)

-- what reading leaves: the chosen derivation, and its numbers
record Left (j : Job) (q : List ℕ) : Type 0 where
  g : Grammar
  r : Text
  texts : GrammarTree j.grammar g × Utf8 j.input r
  t : Row
  p : List ℕ
  reading : Reading g r t p
  list : p ≡ q

left_by : (j : Job) (q old new : List ℕ) (a : Answer) → Reads j old a new → a.number ≡ 0 → q ≡ take a.length new → Left j q
left_by j q old new a w e z =
    let x = (demands-hold.reading j old new a w).chosen e in
    let p = x.3.1 in
    let c : take a.length new ≡ p = ap (λ (n : ℕ). take n new) x.3.3.1 ∙ ap (take (length p)) x.3.3.2 ∙ take-append_seam p (drop (length p) old) in
    record { g = x.0; r = x.1; texts = x.2; t = x.3.0; p = p; reading = x.3.2; list = sym c ∙ sym z }

-- the derivation that the list names is the chosen one
module _ (j k : Job) (q : List ℕ) (s : SameTexts j k) (L : Left j q) where
  names : Names q L.g L.r L.t
  names = (chosen-derives L.g L.r L.reading.chosen, sym L.reading.parse ∙ L.list)

  -- any grammar and record of the job are those
  same-grammar : {h : Grammar} → GrammarTree k.grammar h → h ≡ L.g
  same-grammar {h} x = one-grammar j (subst (λ (bs : List ℕ). GrammarTree bs h) s.grammar x) L.texts.0

  same_text : {u : Text} → Utf8 k.input u → u ≡ L.r
  same_text {u} x = utf8-unique j.input u L.r (subst (λ (bs : List ℕ). Utf8 bs u) s.input x) L.texts.1

  texts-k : GrammarTree k.grammar L.g × Utf8 k.input L.r
  texts-k = (subst (λ (bs : List ℕ). GrammarTree bs L.g) (sym s.grammar) L.texts.0, subst (λ (bs : List ℕ). Utf8 bs L.r) (sym s.input) L.texts.1)

  accepted : of_job k (λ g r. ((t : Row) × Names q g r t) → ⊥) → ⊥
  accepted y =
      let e = same-grammar y.2.0 in
      let f = same_text y.2.1 in
      let n : Names q y.0 y.1 L.t = subst (λ (u : Text). Names q y.0 u L.t) (sym f) (subst (λ (h : Grammar). Names q h L.r L.t) (sym e) names) in
      y.3 (L.t, n)

  -- whatever is said of the one is said of the other
  module _ (P : Grammar → Text → Row → Type 0) where
    there : P L.g L.r L.t → of_reading j (λ g r t p. P g r t)
    there h = (L.g, L.r, L.texts, (L.t, L.p, L.reading, h))

    there-given : P L.g L.r L.t → of_source (given q) k (λ g r t p. P g r t)
    there-given h = (L.g, L.r, texts-k, (L.t, left_parse L.t, (names, refl), h))

    from-reading : of_reading j (λ g r t p. P g r t) → P L.g L.r L.t
    from-reading y =
        let o = demands-hold.one j y.2 y.3.2 L.texts L.reading in
        subst (P L.g L.r) o.derivation (subst (λ (u : Text). P L.g u y.3.0) o.text (subst (λ (h : Grammar). P h y.1 y.3.0) o.grammar y.3.3))

    from-given : of_source (given q) k (λ g r t p. P g r t) → P L.g L.r L.t
    from-given y =
        let e = same-grammar y.2.0 in
        let f = same_text y.2.1 in
        let n : Names q L.g L.r y.3.0 = subst (λ (u : Text). Names q L.g u y.3.0) f (subst (λ (h : Grammar). Names q h y.1 y.3.0) e y.3.2.0) in
        let d : y.3.0 ≡ L.t = same-derivation L.g L.r n.0 names.0 (n.1 ∙ sym names.1) in
        subst (P L.g L.r) d (subst (λ (u : Text). P L.g u y.3.0) f (subst (λ (h : Grammar). P h y.1 y.3.0) e y.3.3))

    one : of_reading j (λ g r t p. P g r t) ↔ of_source (given q) k (λ g r t p. P g r t)
    one = (λ y. there-given (from-reading y), λ y. there (from-given y))

  alike : Alike (document_lines j []) (document_lines_of (given q) k [])
  alike = (
    refl,
    one (λ g r t. T (twice (document g r t))),
    (
      refl,
      one (λ g r t. T (misnamed (document g r t))),
      (
        refl,
        one (λ g r t. T (unwritable (document g r t))),
        (
          refl,
          one (λ g r t. T (is_attribute (mark_of g (root g)))),
          (refl, one (λ g r t. T (not_one (document g r t))), (refl, one (λ g r t. T (namespaced (document g r t))), tt)),
        ),
      ),
    ),
  )

own : (j k : Job) (q old new old' new' : List ℕ) (a b : Answer) → SameTexts j k → Reads j old a new → a.number ≡ 0 → q ≡ take a.length new
    → Judges q k old' b new' → b.number ≡ 25 → ⊥
own j k q old new old' new' a b s w e z v f =
    accepted j k q s (left_by j q old new a w e z) (given-only (judge_lines q k old') 25 tt (λ y. omega arith) (subst (Topmost (judge_lines q k old')) f v.number))

-- our own reading, in converting and in judging
module _ (j k : Job) (q out out₁ out₂ : List ℕ) (c b : Answer) (w : OwnReading j k q out c out₁ b out₂) where
  left : Left j q
  left = left_by j q w.old w.new w.answer w.reads w.answered w.list

  -- no line of reading applies
  abbrev first : List Line
  first = grammar_lines j.grammar (record_lines j [])

  clear : None first
  clear = front first (too_long j as_numbers w.old ∷ []) ((none-given (first ++ (too_long j as_numbers w.old ∷ [])) w.answer.number tt w.reads.number).0 w.answered)
    where
      front : (ls ms : List Line) → None (ls ++ ms) → None ls
      front [] ms u = tt
      front (l ∷ ls) ms u = (u.0, front ls ms u.1)

  converting : Topmost (document_lines j [] ++ (too_long j as_xml out ∷ [])) c.number
  converting = passed first (document_lines j (too_long j as_xml out ∷ [])) c.number clear w.converts.number

  judging : Topmost (document_lines_of (given q) k [] ++ (too_long_by (given q) k as_xml out ∷ [])) b.number
  judging = go (past q k out out₂ b w.judges w.admitted)
    where
      go : Topmost (list_lines q k (last_lines q k out)) b.number → Topmost (last_lines q k out) b.number
      go (inl x) = absurd (accepted j k q w.same left x.0)
      go (inr x) = x.1

  abbrev document-lines : List Line
  document-lines = document_lines j []

  refused : T (leb 17 c.number && leb c.number 22) → b.number ≡ c.number
  refused h = go (first-or document-lines (too_long j as_xml out ∷ []) c.number converting)
    where
      in_between : (n : ℕ) → T (leb 17 n && leb n 22) → (17 ≤ n) × (n ≤ 22)
      in_between n t = let a = and_left (leb 17 n) (leb n 22) t in let b = and_right (leb 17 n) (leb n 22) t in (leb→le 17 n a, leb→le n 22 b)

      go : Topmost document-lines c.number ⊎ (None document-lines × Topmost (too_long j as_xml out ∷ []) c.number) → b.number ≡ c.number
      go (inl t) =
          let u = top-alike document-lines (document_lines_of (given q) k []) c.number (alike j k q w.same left) t in
          ⊎_elim (λ z. absurd (let l = in_between c.number h in omega arith)) (λ z. z)
          (begun (document_lines_of (given q) k []) (too_long_by (given q) k as_xml out ∷ []) c.number b.number u judging)
      go (inr (u, inl x)) = absurd (let l = in_between c.number h in omega (arith, x.1))
      go (inr (u, inr x)) = absurd (let l = in_between c.number h in omega (arith, x.1))

  written : c.number ≡ 0 → (b.number ≡ 0) × of_reading j (λ g r t p. (take c.length out₁ ≡ as_xml c.ambiguous g r t p) × (take b.length out₂ ≡ as_xml false g r t p))
  written e = (zero, finish (w.converts.answered e) (w.judges.answered zero))
    where
      none : None document-lines × (length (as_xml c.ambiguous left.g left.r left.t []) ≤ length out)
      none = go ((none-given (document-lines ++ (too_long j as_xml out ∷ [])) c.number tt converting).0 e) (w.converts.answered e)
        where
          go : None (document-lines ++ (too_long j as_xml out ∷ []))
              → ((xs : List ℕ) × ResultBy chosen j as_xml xs c.ambiguous × (c.length ≡ length xs) × (out₁ ≡ xs ++ drop (length xs) out))
              → None document-lines × (length (as_xml c.ambiguous left.g left.r left.t []) ≤ length out)
          go u x =
              let same : x.0 ≡ as_xml c.ambiguous left.g left.r left.t [] = from-reading j k q w.same left (λ g r t. x.0 ≡ as_xml c.ambiguous g r t [])
              (x.1.0, x.1.1, x.1.2, (x.1.3.0, x.1.3.1, x.1.3.2, x.1.3.3.1)) in
              let l : length x.0 ≤ length out = ⊎_elim (λ h. absurd (u.1.1.1.1.1.1.0 (x.0, c.ambiguous, x.1, h))) (λ h. h) (split (length out) (length x.0)) in
              ((u.0, (u.1.0, (u.1.1.0, (u.1.1.1.0, (u.1.1.1.1.0, (u.1.1.1.1.1.0, tt)))))), subst (λ (ys : List ℕ). length ys ≤ length out) same l)

      fits : (too_long_by (given q) k as_xml out).Applies → ⊥
      fits y =
          let same : y.0 ≡ as_xml y.1 left.g left.r left.t [] = from-given j k q w.same left (λ g r t. y.0 ≡ as_xml y.1 g r t [])
          (y.2.0, y.2.1, y.2.2, (y.2.3.0, y.2.3.1, y.2.3.2, y.2.3.3.1)) in
          let m : y.1 ≡ false = y.2.3.3.0 in
          let e : length y.0 ≡ length (as_xml false left.g left.r left.t []) = ap length (same ∙ ap (λ (b : Bool). as_xml b left.g left.r left.t []) m) in
          omega (arith, e, y.3, shorter c.ambiguous (mismatched left.g) (document left.g left.r left.t), none.1)

      zero : b.number ≡ 0
      zero =
          let u = none_alike document-lines (document_lines_of (given q) k []) (alike j k q w.same left) none.0 in
          (none-given (last_lines q k out) b.number tt judging).1 (u.0, (u.1.0, (u.1.1.0, (u.1.1.1.0, (u.1.1.1.1.0, (u.1.1.1.1.1.0, (fits, tt)))))))

      finish : ((xs : List ℕ) × ResultBy chosen j as_xml xs c.ambiguous × (c.length ≡ length xs) × (out₁ ≡ xs ++ drop (length xs) out))
          → ((ys : List ℕ) × ResultBy (given q) k as_xml ys b.ambiguous × (b.length ≡ length ys) × (out₂ ≡ ys ++ drop (length ys) out))
          → of_reading j (λ g r t p. (take c.length out₁ ≡ as_xml c.ambiguous g r t p) × (take b.length out₂ ≡ as_xml false g r t p))
      finish x y =
          let sx : x.0 ≡ as_xml c.ambiguous left.g left.r left.t [] = from-reading j k q w.same left (λ g r t. x.0 ≡ as_xml c.ambiguous g r t [])
          (x.1.0, x.1.1, x.1.2, (x.1.3.0, x.1.3.1, x.1.3.2, x.1.3.3.1)) in
          let sy : y.0 ≡ as_xml b.ambiguous left.g left.r left.t [] = from-given j k q w.same left (λ g r t. y.0 ≡ as_xml b.ambiguous g r t [])
          (y.1.0, y.1.1, y.1.2, (y.1.3.0, y.1.3.1, y.1.3.2, y.1.3.3.1)) in
          let m : b.ambiguous ≡ false = y.1.3.3.0 in
          there j k q w.same left (λ g r t. (take c.length out₁ ≡ as_xml c.ambiguous g r t []) × (take b.length out₂ ≡ as_xml false g r t []))
          (begins x.2 x.3 ∙ sx, begins y.2 y.3 ∙ sy ∙ ap (λ (b : Bool). as_xml b left.g left.r left.t []) m)
        where
          begins : {n : ℕ} {now xs : List ℕ} → n ≡ length xs → now ≡ xs ++ drop (length xs) out → take n now ≡ xs
          begins {n} {now} {xs} e f = ap (λ (i : ℕ). take i now) e ∙ ap (take (length xs)) f ∙ take-append_seam xs (drop (length xs) out)

-- no mark, whatever is answered
unmarked : (q : List ℕ) (j : Job) (old new : List ℕ) (a : Answer) → Judges q j old a new → a.ambiguous ≡ false
unmarked q j old new a w = elim (ℕ_discrete a.number 0) as (λ _. a.ambiguous ≡ false) [
  | yes z ↦ (w.answered z).1.3.3.0
  | no z ↦ (w.refused z).1
]

pub laws-hold : Laws
laws-hold = record {
  exactly = exactly;
  own = own;
  refused = refused;
  written = written;
  unmarked = unmarked;
  numbers = λ q j old new a w. listed (λ n. leb n 15 || (leb 17 n && leb n 25)) (judge_lines q j old) a.number tt tt w.number;
}
