-- The document as a whole: its root, its bytes, and the buffer.
use mathlib.Core.Path.{◌≡◌, refl, sym, ap, ◌∙◌}
use mathlib.Core.Bool.{Bool, true, false}
use mathlib.Core.List.{List, [], ◌∷◌, ◌++◌, append-nil, append_assoc}
use Prim.Native.Nat.{ℕ, ◌+◌, ◌≤◌, ◌<◌, min}
use native.Mathlib.Omega.{arith}
use lib.ListN.{length, get_or, drop}
use borrow.Author.Tests.{eq-eqb}
use Rattle.std.specs.Prelude.{Some, None}
use Rattle.text.specs.Lists.{Text, chars, pick, same}
use Rattle.tree.specs.Tree.{Mark, unmarked, included, attribute, deleted, Grammar}
use Rattle.tree.specs.Tokens.{counted, mark_number}
use Rattle.derive.specs.Derive.{Row, end, node, alternative, root}
use Rattle.plain.specs.Plain.{rule_mark}
use Rattle.xml.specs.Document.{Xml, none, char, attr, elem, nodes, marked, mark_of, as_root, document, not_one, misnamed, unwritable}
use Rattle.xml.specs.Bytes.{attributes, content, closed, bytes}
use Rattle.left_parse.specs.Noted.{Noted, Room}
use Rattle.left_parse.specs.Steps.{Found, Named}
use Rattle.left_parse.proofs.Items.{tokens-in}
use Rattle.left_parse.proofs.Notes.{begins}
use Rattle.encode.specs.Out.{State, state, puts, enc, Wrote}
use Rattle.markup.specs.Tags.{closing, lead_of, end_of, state_of, no_words}
use Rattle.markup.specs.declared.StateWords.{StateWords}
use Rattle.encode.proofs.Puts.{puts_none, enc-none, and_then, wrote-text, dry, room}
use Rattle.cursor.specs.Ahead.{AtRow, SomeRow, root_at}
use Rattle.cursor.specs.declared.Cursor.{Cursor}
use Rattle.cursor.proofs.Nodes.{ahead-begin}
use Rattle.extent.specs.Extent.{most_of, attributes_of, Covers, Fits}
use Rattle.extent.proofs.Sizes.{start-size, state-size, row-size, no-attributes}
use Rattle.tags.specs.Stated.{late, start_of, stated, turned}
use Rattle.writer.specs.Markup.{fresh_at, May, Attributed, Came}
use Rattle.writer.specs.Whole.{Job, SomeJob, Writable, Documented, Answered}
use Rattle.text.specs.declared.BytePlace.{BytePlace}
use Rattle.tags.specs.declared.Output.{Output}
use Rattle.writer.specs.declared.Plan.{Plan}
use Rattle.tags.proofs.Laws.{stated-none, element-bytes}
use Rattle.writer.proofs.Folds.{same-limit}
use Rattle.tags.proofs.Chars.{enc_ok, element-ok}

-- what stands in an element has attributes only where it may
may-inside : {o t : Output} {p : BytePlace} {u : Bool} {d : StateWords} {n : Text} {x : Xml} → t ≡ turned o p u d → May o (elem n x none) → May t x
may-inside is M = record { bare = λ h. omega (arith, M.bare (sym (ap (λ (q : Output). q.attributed) is) ∙ h)) }

-- the root's row
pub record Rooted (T P : List ℕ) (r : Text) (S : List ℕ) (item : ℕ) (g : Grammar) (t : Row) : Type 0 where
  pub inner : Xml
  pub stands : AtRow T P r S (root_at item) inner
  pub is : document g r t ≡ marked (as_root (mark_of g (root g))) g.root.name inner []

pub rooted : {T : List ℕ} {R : ℕ} {P : List ℕ} {r : Text} {S : List ℕ} {g : Grammar} {t : Row} → Room T P S → Job T R P r S g t → (item : ℕ)
    → Found T R (get_or P 0 0) item → Rooted T P r S item g t
rooted {T} {R} {P} {r} {S} {g} {t} room J item found =
    let B = begins room J.parsed item found in
    let tree = B.tree in
    let N : Noted S 0 (node tree.number (length r) tree.children end) = rw tree.is at J.noted in
    record { inner = nodes g r tree.children (alternative g (root g) tree.number) 0; stands = ahead-begin (B.walk S N.2) room.scratch; is = ap (document g r) tree.is }

-- the root's mark is that of the first rule
same_self : (t : Text) → same t t ≡ true
same_self [] = refl
same_self (c ∷ cs) = rw (eq-eqb c c refl) (same_self cs)

root-mark : (g : Grammar) → mark_of g (root g) ≡ g.root.mark
root-mark g = ap (λ (b : Bool). pick b g.root.mark (rule_mark g.others g.root.name)) (same_self g.root.name)

module _ (n : Text) (x : Xml) where
  as-deleted : (m : Mark) → 20 + mark_number m ≡ 23 → marked (as_root m) n x [] ≡ x
  as-deleted unmarked e = absurd (omega arith)
  as-deleted included e = absurd (omega arith)
  as-deleted attribute e = absurd (omega arith)
  as-deleted deleted e = refl

  as-element : (m : Mark) → (20 + mark_number m ≡ 23 → ⊥) → marked (as_root m) n x [] ≡ elem n x none
  as-element unmarked e = refl
  as-element included e = refl
  as-element attribute e = refl
  as-element deleted e = absurd (e refl)

pub head-number : {T : List ℕ} {head k : ℕ} {n : Text} → Named T head k n → get_or T head 0 ≡ k
head-number {T} {head} {k} {n} N = (tokens-in T head k (counted n ++ N.more) N.stands).1

module _ {T P : List ℕ} {r : Text} {S : List ℕ} {item : ℕ} {g : Grammar} {t : Row} (R : Rooted T P r S item g t) where
  pub document-deleted : 20 + mark_number g.root.mark ≡ 23 → document g r t ≡ R.inner
  document-deleted e = R.is ∙ ap (λ (m : Mark). marked (as_root m) g.root.name R.inner []) (root-mark g) ∙ as-deleted g.root.name R.inner g.root.mark e

  pub document-element : (20 + mark_number g.root.mark ≡ 23 → ⊥) → document g r t ≡ elem g.root.name R.inner none
  document-element e = R.is ∙ ap (λ (m : Mark). marked (as_root m) g.root.name R.inner []) (root-mark g) ∙ as-element g.root.name R.inner g.root.mark e

  pub root-row : SomeRow T P r S (root_at item)
  root-row = record { x = R.inner; stands = R.stands }

  -- a deleted root: its contents are the document
  pub wrote-deleted : {S' out out' : List ℕ} {o s : Output} → o.unclosed ≡ false → May o R.inner → Came T P r S S' out out' o (root_at item) s
      → Wrote o.limit.0 o.pos.0 out s.pos.0 out' (stated (state_of o.due) R.inner)
  wrote-deleted {S'} {out} {out'} {o} {s} u M C =
      let l = o.limit.0 in
      let x = stated (state_of o.due) R.inner in
      let e : late o.unclosed x [] [] ≡ x = rw u (append-nil x) in
      record { is = sym (nothing s.unclosed) ∙ C.wrote R.inner R.stands M [] [] ∙ ap (λ (t : Text). puts l (state o.pos.0 out) (enc t)) e }
    where
      nothing : (b : Bool) → puts o.limit.0 (state s.pos.0 out') (enc (end_of b [] [])) ≡ state s.pos.0 out'
      nothing true = rw enc-none (puts_none o.limit.0 (state s.pos.0 out'))
      nothing false = rw enc-none (puts_none o.limit.0 (state s.pos.0 out'))

  -- an element: a start tag, its contents and its end
  pub wrote-element : {S' S'' out out₁ out₂ out₃ : List ℕ} (o : Output) {t s : Output} {q : ℕ} (n : Text) → S' ≡ S → t ≡ turned o t.pos true no_words
      → May o (elem n R.inner none)
      → Wrote o.limit.0 o.pos.0 out t.pos.0 out₁ (start_of n (state_of o.due) R.inner)
      → Came T P r S' S'' out₁ out₂ t (root_at item) s → Wrote s.limit.0 s.pos.0 out₂ q out₃ (end_of s.unclosed (chars "/>") (closing n))
      → Wrote o.limit.0 o.pos.0 out q out₃ (stated (state_of o.due) (elem n R.inner none))
  wrote-element {out₁ = out₁} {out₃ = out₃} o {t = t} {s = s} {q = q} n k is M a C E =
      let x = R.inner in
      let L = late true (content x) (chars "/>") (closing n) in
      let l : t.limit ≡ o.limit = ap (λ (p : Output). p.limit) is in
      let e : late t.unclosed (stated (state_of t.due) x) (chars "/>") (closing n) ≡ L = rw
      (ap (λ (p : Output). p.unclosed) is, ap (λ (p : Output). p.due) is, stated-none x) in
      let w = same-limit C.limit E in
      let b : Wrote t.limit.0 t.pos.0 out₁ q out₃ L = record {
        is = w.is ∙ C.wrote x (rw k R.stands) (may-inside is M) (chars "/>") (closing n)
            ∙ ap (λ (u : Text). puts t.limit.0 (state t.pos.0 out₁) (enc u)) e;
      } in
      wrote-text (ap (λ (u : Text). start_of n (state_of o.due) x ++ u) (append-nil L)) (and_then a (same-limit l b))

-- the bytes of one element
one : (x : Xml) → not_one x ≡ false → (n : Text) × (i : Xml) × (x ≡ elem n i none)
unfolding not_one
one none h = absurd (let z : ◌≡◌ {A = ℕ} 0 1 = cc in omega arith)
one (char c x) h = absurd (let z : ◌≡◌ {A = ℕ} 0 1 = cc in omega arith)
one (attr n v x) h = absurd (let z : ◌≡◌ {A = ℕ} 0 1 = cc in omega arith)
one (elem n i none) h = (n, i, refl)
one (elem n i (char c x)) h = absurd (let z : ◌≡◌ {A = ℕ} 0 1 = cc in omega arith)
one (elem n i (attr m v x)) h = absurd (let z : ◌≡◌ {A = ℕ} 0 1 = cc in omega arith)
one (elem n i (elem m j x)) h = absurd (let z : ◌≡◌ {A = ℕ} 0 1 = cc in omega arith)

pub document-bytes : {g : Grammar} {r : Text} {t : Row} (due : StateWords) → Writable g r t
    → enc (stated (state_of due) (document g r t)) ≡ bytes due.ambiguous due.mismatch (document g r t)
document-bytes {g} {r} {t} due W =
    let o = one (document g r t) W.one in
    rw o.2 (element-bytes due o.0 o.1 (rw o.2 at W.names) (rw o.2 at W.chars))

-- the bytes that a run from the beginning comes to
pub documented : {T : List ℕ} {R : ℕ} {P : List ℕ} {r : Text} {S S' out out' : List ℕ} {o : Output} {limit : ℕ} {plan : Plan} {q : ℕ} {g : Grammar} {t : Row}
    → o ≡ fresh_at limit plan → Documented T R P r S S' out out' o q → Job T R P r S g t → Writable g r t → Covers plan.extent (document g r t)
    → state q out' ≡ puts limit (state 0 out) (bytes plan.due.ambiguous plan.due.mismatch (document g r t))
documented {out = out} {limit = limit} {plan = plan} {g = g} {t = t} e D J W C =
    let D₀ = rw e at D in (D₀.wrote g t J (record { bare = C.bare })).is ∙ ap (puts limit (state 0 out)) (document-bytes plan.due W)

-- the bytes are at most what is known
element-fits : (due : StateWords) (n : Text) (i : Xml) → misnamed (elem n i none) ≡ false → unwritable (elem n i none) ≡ false
    → length (bytes due.ambiguous due.mismatch (elem n i none)) ≤ most_of (elem n i none) + 80
unfolding bytes
element-fits due n i p q = omega (
  arith,
  ap length (enc_ok (chars "<" ++ n ++ state_of due ++ attributes i ++ closed n (content i)) (element-ok due.ambiguous due.mismatch n i none p q)),
  start-size n (state_of due) (attributes i) (content i),
  state-size due.ambiguous due.mismatch,
  row-size i,
)

pub document-fits : {g : Grammar} {r : Text} {t : Row} {room : ℕ} (plan : Plan) → Writable g r t → Covers plan.extent (document g r t)
    → Fits plan.extent room → length (bytes plan.due.ambiguous plan.due.mismatch (document g r t)) ≤ room
document-fits {g} {r} {t} plan W C F =
    let o = one (document g r t) W.one in
    let m = C.most F.known in
    let h : length (bytes plan.due.ambiguous plan.due.mismatch (document g r t)) ≤ most_of (document g r t) + 80 = rw o.2
    (element-fits plan.due o.0 o.1 (rw o.2 at W.names) (rw o.2 at W.chars)) in
    omega (arith, F.enough)

-- measured too long
pub too_long : (m : ℕ) (o' o bs : List ℕ) → state m o' ≡ puts 0 (state 0 o) bs → length o < m → Answered bs o o' None
too_long m o' o bs e h =
    let d = e ∙ dry 0 o bs (omega arith) in
    let p : m ≡ min (0 + length bs) (length o + 1) = ap (λ (s : State). s.pos) d in
    record { fits = λ f. absurd (omega arith); long = λ f. (refl, ap (λ (s : State). s.out) d) }

-- known to fit, and written
pub all-written : (n : ℕ) (o'' o bs : List ℕ) → length bs ≤ length o → state n o'' ≡ puts (length o) (state 0 o) bs → Answered bs o o'' (Some n)
all-written n o'' o bs h w =
    let f = w ∙ room 0 (length o) o bs (omega arith) (omega arith) in
    let z : 0 + length bs ≡ length bs = omega arith in
    let fn : n ≡ length bs = ap (λ (s : State). s.pos) f ∙ z in
    let fo : o'' ≡ bs ++ drop (0 + length bs) o = ap (λ (s : State). s.out) f in
    record { fits = λ k. (ap Some fn, fo ∙ rw z); long = λ k. absurd (omega arith) }

-- measured and written
pub written : (m n : ℕ) (o' o'' o bs : List ℕ) → state m o' ≡ puts 0 (state 0 o) bs → m ≤ length o
    → state n o'' ≡ puts (length o) (state 0 o') bs → Answered bs o o'' (Some n)
written m n o' o'' o bs e h w =
    let d = e ∙ dry 0 o bs (omega arith) in
    let p : m ≡ min (0 + length bs) (length o + 1) = ap (λ (s : State). s.pos) d in
    let q : o' ≡ o = ap (λ (s : State). s.out) d in
    all-written n o'' o bs (omega arith) (w ∙ ap (λ (b : List ℕ). puts (length o) (state 0 b) bs) q)

-- the notes are as they were
pub room-again : {T P S S' : List ℕ} → S' ≡ S → Room T P S → Room T P S'
room-again e R = rw e R

pub job-again : {T : List ℕ} {R : ℕ} {P : List ℕ} {r : Text} {S S' : List ℕ} → S' ≡ S → SomeJob T R P r S → SomeJob T R P r S'
job-again e J = rw e J

-- at the root's row
pub row-again : {T P : List ℕ} {r : Text} {S S' : List ℕ} {c c' : Cursor} → c ≡ c' → S' ≡ S → SomeRow T P r S c' → SomeRow T P r S' c
row-again e q D = rw (e, q) D

pub came-at : {T P : List ℕ} {r : Text} {S S' out out' : List ℕ} {o q : Output} {c c' : Cursor} → c ≡ c'
    → Came T P r S S' out out' o c q → Came T P r S S' out out' o c' q
came-at e C = rw e at C

pub attributed-at : {T P : List ℕ} {r : Text} {S S' out out' : List ℕ} {o q : Output} {c c' : Cursor} → c ≡ c'
    → Attributed T P r S S' out out' o c q → Attributed T P r S S' out out' o c' q
attributed-at e A = rw e at A

-- a start tag, and then its attributes
module _ {T P : List ℕ} {r : Text} {S S' out₁ out₂ : List ℕ} (o : Output) {t q : Output} {c : Cursor} (e : t ≡ turned o t.pos true no_words)
    (A : Attributed T P r S S' out₁ out₂ t c q) where
  pub started-is : q ≡ turned o q.pos true no_words
  started-is = A.is ∙ ap (λ (p : Output). turned p q.pos p.unclosed p.due) e

  pub started : {out : List ℕ} (n : Text) (x : Xml) → Wrote o.limit.0 o.pos.0 out t.pos.0 out₁ (lead_of o.unclosed ++ (chars "<" ++ (n ++ state_of o.due)))
      → AtRow T P r S c x → Wrote o.limit.0 o.pos.0 out q.pos.0 out₂ (lead_of o.unclosed ++ start_of n (state_of o.due) x)
  started n x w R = wrote-text (parts (lead_of o.unclosed) (chars "<") n (state_of o.due) (attributes x))
      (and_then w (same-limit (ap (λ (p : Output). p.limit) e) (A.wrote x R)))
    where
      parts : (l a n st i : Text) → l ++ (a ++ n ++ st ++ i) ≡ (l ++ (a ++ (n ++ st))) ++ i
      parts l a n st i = simp append_assoc

-- a start tag that has none
pub started-bare : {out out₁ : List ℕ} {p : ℕ} (o : Output) (n : Text) (x : Xml) → attributes_of x ≡ 0
    → Wrote o.limit.0 o.pos.0 out p out₁ (lead_of o.unclosed ++ (chars "<" ++ (n ++ state_of o.due)))
    → Wrote o.limit.0 o.pos.0 out p out₁ (lead_of o.unclosed ++ start_of n (state_of o.due) x)
started-bare o n x e w = wrote-text (ap (λ (a : Text). lead_of o.unclosed ++ (chars "<" ++ n ++ state_of o.due ++ a)) (no-attributes x e)
    ∙ parts (lead_of o.unclosed) (chars "<") n (state_of o.due)) w
  where
    parts : (l a n st : Text) → l ++ (a ++ n ++ st ++ []) ≡ l ++ (a ++ (n ++ st))
    parts l a n st = simp (append-nil, append_assoc)

-- where no start tag was open
pub unled : {u : Bool} {l p p' : ℕ} {out out' : List ℕ} {t : Text} → u ≡ false → Wrote l p out p' out' (lead_of u ++ t) → Wrote l p out p' out' t
unled e w = rw e at w

-- the root's alternative is the first entry
pub found_first : {T : List ℕ} {x a item : ℕ} (P : List ℕ) → a ≡ get_or P 0 0 → Found T x a item → Found T x (get_or P 0 0) item
found_first P e F = rw e at F
