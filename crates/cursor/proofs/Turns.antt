-- The steps of a cursor, and many that meet nothing.
use mathlib.Core.Path.{◌≡◌, refl, sym, ap, ◌∙◌}
use mathlib.Core.Logic.{◌⊎◌, ⊎_elim}
use mathlib.Core.List.{List}
use Prim.Native.Nat.{ℕ, ◌+◌, ◌-◌, ◌*◌, ◌≤◌, ◌<◌}
use native.Mathlib.Omega.{arith}
use lib.ListN.{get_or}
use Rattle.text.specs.Lists.{Text}
use Rattle.plain.specs.Plain.{width}
use Rattle.items.specs.Items.{kind_at, token_at}
use Rattle.xml.specs.Document.{text, stretch, terminal_text}
use Rattle.left_parse.specs.declared.Position.{Position}
use Rattle.left_parse.specs.Steps.{Skipped, jumped}
use Rattle.left_parse.specs.Steps as ends
use Rattle.markup.specs.Pieces.{Pieced}
use Rattle.markup.specs.declared.Piece.{Piece}
use Rattle.cursor.specs.Rest.{Rest, before}
use Rattle.cursor.specs.Ahead.{Ahead, SomeAhead, SomeText, SomeNode}
use Rattle.cursor.specs.Events.{weight, MetText, MetElement, MetAttribute, MetClose, MetEnd, Moves, Rests, Stops, NextCases, Next}
use Rattle.cursor.specs.Events.{Through, Shown, s-text, s-node, s-close, s-end, Settled, Over, Entered, Past, Inside}
use Rattle.cursor.specs.declared.Cursor.{Cursor}
use Rattle.cursor.specs.declared.Event.{Event}
use Rattle.cursor.specs.declared.Event.TheVariants.{Text as Text', Open, Attribute, Close, End}
use Rattle.cursor.proofs.Laws.{before-none}
use Rattle.cursor.proofs.Steps.{cursor, text-there, node-there, into-node, out-of-node, at-node}
use Rattle.cursor.proofs.Nodes.{enter-node, enter-less, past-node, inside-node}

module _ {T P S : List ℕ} {c : Cursor} (A : SomeAhead T P S c) where
  -- a terminal that writes nothing
  pub turn-empty : kind_at T c.at.item ≡ 1 → {p : Piece} → Pieced T (token_at T c.at.item) c.at.place.0 p → p.count ≡ 0
      → {n : Position} → Skipped T c.at n → Through T P S S c (cursor n c.value)
  turn-empty one {p} Q z {n} K =
      let b = text-there A.ahead one in
      record { goes = go; falls = b.falls n K; later = omega (arith, b.same n K) }
    where
      go : (r : Text) (S₀ : List ℕ) (k : Rest) → Ahead T P r S₀ S c k → Ahead T P r S₀ S (cursor n c.value) k
      go r S₀ k B =
          let b = text-there B one in
          let e = (Q.says b.x r b.reads b.fit).none z in
          rw (b.met ∙ ap (λ (t : Text). before (text t) b.rest) e ∙ before-none b.rest) (b.over n K)

  -- a terminal's text
  pub turn-text : kind_at T c.at.item ≡ 1 → (p : Piece) → Pieced T (token_at T c.at.item) c.at.place.0 p → (p.count ≡ 0 → ⊥)
      → Rests T P S c c (λ r S₀ k. MetText T P r S₀ S k c)
  turn-text one p Q z = record { goes = go; near = omega arith; later = omega arith }
    where
      go : (r : Text) (S₀ : List ℕ) (k : Rest) → Ahead T P r S₀ S c k → MetText T P r S₀ S k c
      go r S₀ k B =
          let b = text-there B one in
          record {
            t = terminal_text b.x (stretch r c.at.place.0 (c.at.place.0 + width b.x));
            rest = b.rest;
            met = b.met;
            some = (Q.says b.x r b.reads b.fit).some z;
            stands = record { all = k; ahead = B; terminal = one; says = λ p Q. Q.says b.x r b.reads b.fit; over = b.over };
          }

  -- into a node that is not written itself
  pub turn-into : 2 ≤ kind_at T c.at.item → kind_at T c.at.item ≤ 4 → (c.value ≡ 0 → kind_at T c.at.item ≡ 4)
      → {S' : List ℕ} {n : Position} → ends.Entered T P S S' c.at n → Through T P S S' c (cursor n c.value)
  turn-into a b d {S'} {n} E = record {
    goes = λ r S₀ k B. (into-node B a b d S' n E).0;
    falls = (into-node A.ahead a b d S' n E).1;
    later = let e : n.entry ≡ c.at.entry + 1 = ap (λ (q : Position). q.entry) E.spot in omega arith;
  }

  module _ (five : 5 ≤ kind_at T c.at.item) (some : 0 < c.at.inner) {S' : List ℕ} {n : Position} (E : ends.Left S S' c.at n) {item : ℕ}
      (ie : item ≡ get_or S (2 * (c.at.inner - 1) + 1) 0) where
    -- the end of an element or of a value
    pub turn-close : ((c.value ≡ c.at.inner) ⊎ ((c.value ≡ 0) × (kind_at T item ≡ 2))) → Moves T P S c (cursor n 0) (λ r S₀ k. MetClose T P r S₀ S' k item (cursor n 0))
    turn-close x =
        let b = out-of-node A.ahead five some S' n E item ie in
        record { goes = λ r S₀ k B. (out-of-node B five some S' n E item ie).closes x; falls = b.falls; later = b.later }

    -- out of a node that is not written itself
    pub turn-out : (c.value ≡ c.at.inner → ⊥) → (c.value ≡ 0 → kind_at T item ≡ 2 → ⊥) → Through T P S S' c (cursor n c.value)
    turn-out x y =
        let b = out-of-node A.ahead five some S' n E item ie in
        record { goes = λ r S₀ k B. (out-of-node B five some S' n E item ie).passes x y; falls = b.falls; later = b.later }

  module _ (free : c.value ≡ 0) {token : ℕ} (te : token ≡ token_at T c.at.item) (fits : token < 4294967296) where
    pub turn-open : kind_at T c.at.item ≡ 2 → Stops T P S c c token 2 (λ r S₀ k. MetElement T P r S₀ S k token c)
    turn-open e =
        rw te (record {
          goes = λ r S₀ k B. ⊎_elim (λ x. x.1) (λ x. absurd (omega (arith, x.0)))
              (at-node B free (omega arith) (omega arith));
          near = omega arith;
          later = omega arith;
          listed = node-there A.ahead (omega arith) (omega arith);
          is = e;
          fits = rw te at fits;
        })

    pub turn-attribute : kind_at T c.at.item ≡ 3 → Stops T P S c c token 3 (λ r S₀ k. MetAttribute T P r S₀ S k token c)
    turn-attribute e =
        rw te (record {
          goes = λ r S₀ k B. ⊎_elim (λ x. absurd (omega (arith, x.0))) (λ x. x.1)
              (at-node B free (omega arith) (omega arith));
          near = omega arith;
          later = omega arith;
          listed = node-there A.ahead (omega arith) (omega arith);
          is = e;
          fits = rw te at fits;
        })

-- what was passed before
pub record Came (T P S₁ S : List ℕ) (b c : Cursor) : Type 0 where
  pub goes : (r : Text) (S₀ : List ℕ) (k : Rest) → Ahead T P r S₀ S₁ b k → Ahead T P r S₀ S c k
  pub near : weight T P c ≤ weight T P b
  pub later : b.at.entry ≤ c.at.entry

pub came-begin : {T P S : List ℕ} {c : Cursor} → Came T P S S c c
came-begin = record { goes = λ r S₀ k A. A; near = omega arith; later = omega arith }

module _ {T P S₁ S : List ℕ} {b c : Cursor} (G : Came T P S₁ S b c) where
  pub came-on : {S' : List ℕ} {n : Cursor} → Through T P S S' c n → Came T P S₁ S' b n
  came-on M = record { goes = λ r S₀ k A. M.goes r S₀ k (G.goes r S₀ k A); near = omega (arith, G.near, M.falls); later = omega (arith, G.later, M.later) }

  moved : {n : Cursor} {F : Text → List ℕ → Rest → Type 0} → Moves T P S c n F → Moves T P S₁ b n F
  moved M = record { goes = λ r S₀ k A. M.goes r S₀ k (G.goes r S₀ k A); falls = omega (arith, G.near, M.falls); later = omega (arith, G.later, M.later) }

  stopped : {n : Cursor} {token q : ℕ} {F : Text → List ℕ → Rest → Type 0} → Stops T P S c n token q F → Stops T P S₁ b n token q F
  stopped M =
      record {
        goes = λ r S₀ k A. M.goes r S₀ k (G.goes r S₀ k A);
        near = omega (arith, G.near, M.near);
        later = omega (arith, G.later, M.later);
        listed = M.listed;
        is = M.is;
        fits = M.fits;
      }

  rested : {n : Cursor} {F : Text → List ℕ → Rest → Type 0} → Rests T P S c n F → Rests T P S₁ b n F
  rested M = record { goes = λ r S₀ k A. M.goes r S₀ k (G.goes r S₀ k A); near = omega (arith, G.near, M.near); later = omega (arith, G.later, M.later) }

  pub came-settled : Shown T S c → Settled T P S₁ S b c
  came-settled s = record { goes = G.goes; near = G.near; later = G.later; shown = s }

  pub came-next : {S' : List ℕ} {e : Event} → Next T P S S' c e → Next T P S₁ S' b e
  came-next {S'} {e} M = record { is = go e M.is }
    where
      go : (e : Event) → NextCases T P S S' c e → NextCases T P S₁ S' b e
      go (Text' n) M = rested M
      go (Open token n) M = stopped M
      go (Attribute token n) M = stopped M
      go (Close item n) M = moved M
      go End M = λ r S₀ k A. M r S₀ k (G.goes r S₀ k A)

pub came-some : {T P S S' : List ℕ} {c n : Cursor} → SomeAhead T P S c → Through T P S S' c n → SomeAhead T P S' n
came-some A M = record { r = A.r; S₀ = A.S₀; k = A.k; ahead = M.goes A.r A.S₀ A.k A.ahead }

-- by the variant of an event
module _ {T P S S' : List ℕ} {c : Cursor} {e : Event} (M : Next T P S S' c e) where
  pub text-is : {n : Cursor} → e ≡ Text' n → Rests T P S c n (λ r S₀ k. MetText T P r S₀ S' k n)
  text-is q = (rw q at M).is

  pub open_is : {token : ℕ} {n : Cursor} → e ≡ Open token n → Stops T P S c n token 2 (λ r S₀ k. MetElement T P r S₀ S' k token n)
  open_is q = (rw q at M).is

  pub attribute-is : {token : ℕ} {n : Cursor} → e ≡ Attribute token n → Stops T P S c n token 3 (λ r S₀ k. MetAttribute T P r S₀ S' k token n)
  attribute-is q = (rw q at M).is

  pub close-is : {item : ℕ} {n : Cursor} → e ≡ Close item n → Moves T P S c n (λ r S₀ k. MetClose T P r S₀ S' k item n)
  close-is q = (rw q at M).is

  pub end_is : e ≡ End → (r : Text) (S₀ : List ℕ) (k : Rest) → Ahead T P r S₀ S c k → MetEnd S₀ S' k
  end_is q = (rw q at M).is

pub settled-came : {T P S S' : List ℕ} {c n : Cursor} → Settled T P S S' c n → Came T P S S' c n
settled-came M = record { goes = M.goes; near = M.near; later = M.later }

pub settled-some : {T P S S' : List ℕ} {c n : Cursor} → SomeAhead T P S c → Settled T P S S' c n → SomeAhead T P S' n
settled-some A M = record { r = A.r; S₀ = A.S₀; k = A.k; ahead = M.goes A.r A.S₀ A.k A.ahead }

-- what is shown, by the kind of the item
module _ {T S : List ℕ} {c : Cursor} {k : ℕ} (e : k ≡ kind_at T c.at.item) where
  pub shown-text : Shown T S c → k ≡ 1 → (p : Piece) × Pieced T (token_at T c.at.item) c.at.place.0 p × (p.count ≡ 0 → ⊥)
  shown-text (s-text o p Q z) q = (p, Q, z)
  shown-text (s-node v a b) q = absurd (omega arith)
  shown-text (s-close f i j y x) q = absurd (omega arith)
  shown-text (s-end f i) q = absurd (omega arith)

  pub shown-node : Shown T S c → 2 ≤ k → k ≤ 3 → c.value ≡ 0
  shown-node (s-text o p Q z) a b = absurd (omega arith)
  shown-node (s-node v a' b') a b = v
  shown-node (s-close f i j y x) a b = absurd (omega arith)
  shown-node (s-end f i) a b = absurd (omega arith)

  pub shown-end : Shown T S c → (k ≡ 1 → ⊥) → (k ≡ 2 → ⊥) → (k ≡ 3 → ⊥) → 5 ≤ kind_at T c.at.item
  shown-end (s-text o p Q z) a b d = absurd (a (e ∙ o))
  shown-end (s-node v a' b') a b d = absurd (omega arith)
  shown-end (s-close f i j y x) a b d = f
  shown-end (s-end f i) a b d = f

  pub shown-close : Shown T S c → (k ≡ 1 → ⊥) → (k ≡ 2 → ⊥) → (k ≡ 3 → ⊥) → (c.at.inner ≡ 0 → ⊥) → {item : ℕ}
      → item ≡ get_or S (2 * (c.at.inner - 1) + 1) 0 → ((c.value ≡ c.at.inner) ⊎ ((c.value ≡ 0) × (kind_at T item ≡ 2)))
  shown-close (s-text o p Q z) a b d n q = absurd (a (e ∙ o))
  shown-close (s-node v a' b') a b d n q = absurd (omega arith)
  shown-close (s-close f i j y x) a b d n q = rw (q ∙ sym y) x
  shown-close (s-end f i) a b d n q = absurd (n i)

-- over text
pub over-text : {T P S : List ℕ} {c : Cursor} → SomeText T P S c → {n : Position} → Skipped T c.at n → Over T P S c (cursor n c.value)
over-text N {n} K =
    let b = text-there N.stands.ahead N.stands.terminal in
    record { goes = λ r S₀ t k B. B.over n K; falls = b.falls n K; later = omega (arith, b.same n K) }

module _ {T P : List ℕ} {r : Text} {S : List ℕ} {c : Cursor} (N : SomeNode T P r S c) where
  pub entered : {S' : List ℕ} {h : Position} → ends.Entered T P S S' c.at h → (v : ℕ) → (kind_at T c.at.item ≡ 2 → v ≡ 0)
      → (kind_at T c.at.item ≡ 3 → v ≡ h.inner) → Entered T P S S' c (cursor h v)
  entered {S'} {h} E v a b = record {
    goes = λ r S₀ n x k M. enter-node M S' h E v a b;
    falls = enter-less N.node S' h E v;
    later = let e : h.entry ≡ c.at.entry + 1 = ap (λ (q : Position). q.entry) E.spot in omega arith;
  }

  pub passed-by : {h : Position} → h ≡ jumped S c.at → Past T P S c (cursor h c.value)
  passed-by {h} e = let b = past-node N.node h e c.value refl in record { goes = λ r S₀ n x k M. (past-node M h e c.value refl).0; falls = b.1; later = b.2 }

  pub inside_of : {h : Position} → ends.Inside T P c.at h → Inside T P S c (cursor h 0)
  inside_of {h} I = record { goes = λ e r S₀ n x k M. inside-node M e h I }
