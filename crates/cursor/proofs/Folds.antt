-- Walks that fold what is ahead: one law for each event, and no walk in sight.
use mathlib.Core.Path.{◌≡◌}
use mathlib.Core.List.{List}
use Prim.Native.Nat.{ℕ, ◌<◌}
use lib.ListN.{length}
use Rattle.text.specs.Lists.{Text}
use Rattle.items.specs.Items.{token_at}
use Rattle.xml.specs.Document.{Xml, none, attr, elem}
use Rattle.xml.specs.Document as xml
use Rattle.left_parse.specs.Steps.{Named}
use Rattle.markup.specs.Pieces.{Says, Pieced}
use Rattle.markup.specs.declared.Piece.{Piece}
use Rattle.cursor.specs.Rest.{Rest, row, within, before}
use Rattle.cursor.specs.Ahead.{Ahead, SomeAhead, SomeText, AtNode, SomeNode, SomeRow}
use Rattle.cursor.specs.Events.{Next, Over, Entered, Past}
use Rattle.cursor.specs.declared.Cursor.{Cursor}
use Rattle.cursor.specs.declared.Event.{Event}
use Rattle.cursor.specs.declared.Event.TheVariants.{Text as Text', Open, Attribute, Close, End}
use Rattle.cursor.proofs.Turns.{text-is, open_is, attribute-is, close-is, end_is}

-- how what was ahead at first and what is ahead now hang together, for a record r
abbrev pub Relation : Type 1
Relation = Text → Rest → Rest → Type 0

pub record Arrived (T P : List ℕ) (r : Text) (S₀ S : List ℕ) (c : Cursor) (k₀ : Rest) (R : Relation) : Type 0 where
  pub k : Rest
  pub ahead : Ahead T P r S₀ S c k
  pub holds : R r k₀ k

-- from b the walk has come to c
abbrev pub Reached : List ℕ → List ℕ → List ℕ → List ℕ → Cursor → Cursor → Relation → Type 0
Reached T P S₁ S b c R = (r : Text) (S₀ : List ℕ) (k₀ : Rest) → Ahead T P r S₀ S₁ b k₀ → Arrived T P r S₀ S c k₀ R

pub reached-begin : {T P S : List ℕ} {c : Cursor} (R : Relation) → ((r : Text) (k : Rest) → R r k k) → Reached T P S S c c R
reached-begin R h r S₀ k A = record { k = k; ahead = A; holds = h r k }

module _ {T P S₁ S : List ℕ} {b c : Cursor} (R : Relation) (G : Reached T P S₁ S b c R) where
  pub reached-some : SomeAhead T P S₁ b → SomeAhead T P S c
  reached-some A = let a = G A.r A.S₀ A.k A.ahead in record { r = A.r; S₀ = A.S₀; k = a.k; ahead = a.ahead }

  module _ {S' : List ℕ} {e : Event} (N : Next T P S S' c e) where
    pub text-stands : {n : Cursor} → e ≡ Text' n → SomeAhead T P S₁ b → SomeText T P S' n
    text-stands q A =
        let a = G A.r A.S₀ A.k A.ahead in
        let m = (text-is N q).goes A.r A.S₀ a.k a.ahead in
        record { r = A.r; S₀ = A.S₀; t = m.t; k = m.rest; stands = m.stands }

    pub on-text : {n n' : Cursor} → e ≡ Text' n → Over T P S' n n' → (R' : Relation)
        → ((r : Text) (k₀ k : Rest) (t : Text) → ((p : Piece) → Pieced T (token_at T n.at.item) n.at.place.0 p → Says T r p t)
        → 0 < length t → R r k₀ (before (xml.text t) k) → R' r k₀ k) → Reached T P S₁ S' b n' R'
    on-text q E R' law r S₀ k₀ A =
        let a = G r S₀ k₀ A in
        let m = (text-is N q).goes r S₀ a.k a.ahead in
        record { k = m.rest; ahead = E.goes r S₀ m.t m.rest m.stands; holds = law r k₀ m.rest m.t m.stands.says m.some (rw (← m.met) a.holds) }

    pub on-close : {item : ℕ} {n : Cursor} → e ≡ Close item n → (R' : Relation)
        → ((r : Text) (k₀ k : Rest) (kind : ℕ) (name : Text) → Named T (token_at T item) kind name → R r k₀ (within name none k) → R' r k₀ k)
        → Reached T P S₁ S' b n R'
    on-close q R' law r S₀ k₀ A =
        let a = G r S₀ k₀ A in
        let m = (close-is N q).goes r S₀ a.k a.ahead in
        record { k = m.rest; ahead = m.ahead; holds = law r k₀ m.rest m.kind m.name m.named (rw (← m.met) a.holds) }

    pub on-end : e ≡ End → (r : Text) (S₀ : List ℕ) (k₀ : Rest) → Ahead T P r S₀ S₁ b k₀ → (S' ≡ S₀) × R r k₀ (row none)
    on-end q r S₀ k₀ A =
        let a = G r S₀ k₀ A in
        let m = end_is N q r S₀ a.k a.ahead in
        (m.kept, rw (← m.met) a.holds)

    module _ {token : ℕ} {n : Cursor} (q : e ≡ Open token n) where
      pub open-node : (A : SomeAhead T P S₁ b) → SomeNode T P A.r S' n
      open-node A =
          let a = G A.r A.S₀ A.k A.ahead in
          let m = (open_is N q).goes A.r A.S₀ a.k a.ahead in
          record { S₀ = A.S₀; n = m.name; x = m.inner; k = m.rest; node = m.node }

      pub open-enter : {S'' : List ℕ} {n' : Cursor} → Entered T P S' S'' n n' → (R' : Relation)
          → ((r : Text) (k₀ k : Rest) (kind : ℕ) (name : Text) (i : Xml) → Named T token kind name → (S₀ : List ℕ)
          → AtNode T P r S₀ S' n name i k → R r k₀ (before (elem name i none) k) → R' r k₀ (within name i k)) → Reached T P S₁ S'' b n' R'
      open-enter E R' law r S₀ k₀ A =
          let a = G r S₀ k₀ A in
          let m = (open_is N q).goes r S₀ a.k a.ahead in
          record {
            k = within m.name m.inner m.rest;
            ahead = E.goes r S₀ m.name m.inner m.rest m.node;
            holds = law r k₀ m.rest m.kind m.name m.inner m.named S₀ m.node (rw (← m.met) a.holds);
          }

      pub open-past : {n' : Cursor} → Past T P S' n n' → (R' : Relation)
          → ((r : Text) (k₀ k : Rest) (kind : ℕ) (name : Text) (i : Xml) → Named T token kind name → R r k₀ (before (elem name i none) k)
          → R' r k₀ k) → Reached T P S₁ S' b n' R'
      open-past E R' law r S₀ k₀ A =
          let a = G r S₀ k₀ A in
          let m = (open_is N q).goes r S₀ a.k a.ahead in
          record { k = m.rest; ahead = E.goes r S₀ m.name m.inner m.rest m.node; holds = law r k₀ m.rest m.kind m.name m.inner m.named (rw (← m.met) a.holds) }

    module _ {token : ℕ} {n : Cursor} (q : e ≡ Attribute token n) where
      pub attribute-node : (A : SomeAhead T P S₁ b) → SomeNode T P A.r S' n
      attribute-node A =
          let a = G A.r A.S₀ A.k A.ahead in
          let m = (attribute-is N q).goes A.r A.S₀ a.k a.ahead in
          record { S₀ = A.S₀; n = m.name; x = xml.text m.value; k = m.rest; node = m.node }

      pub attribute-enter : {S'' : List ℕ} {n' : Cursor} → Entered T P S' S'' n n' → (R' : Relation)
          → ((r : Text) (k₀ k : Rest) (kind : ℕ) (name v : Text) → Named T token kind name → R r k₀ (before (attr name v none) k)
          → R' r k₀ (within name (xml.text v) k)) → Reached T P S₁ S'' b n' R'
      attribute-enter E R' law r S₀ k₀ A =
          let a = G r S₀ k₀ A in
          let m = (attribute-is N q).goes r S₀ a.k a.ahead in
          record {
            k = within m.name (xml.text m.value) m.rest;
            ahead = E.goes r S₀ m.name (xml.text m.value) m.rest m.node;
            holds = law r k₀ m.rest m.kind m.name m.value m.named (rw (← m.met) a.holds);
          }

      pub attribute-past : {n' : Cursor} → Past T P S' n n' → (R' : Relation)
          → ((r : Text) (k₀ k : Rest) (kind : ℕ) (name v : Text) → Named T token kind name → R r k₀ (before (attr name v none) k)
          → R' r k₀ k) → Reached T P S₁ S' b n' R'
      attribute-past E R' law r S₀ k₀ A =
          let a = G r S₀ k₀ A in
          let m = (attribute-is N q).goes r S₀ a.k a.ahead in
          record {
            k = m.rest;
            ahead = E.goes r S₀ m.name (xml.text m.value) m.rest m.node;
            holds = law r k₀ m.rest m.kind m.name m.value m.named (rw (← m.met) a.holds);
          }

-- a row begins
abbrev pub row-some : {T P : List ℕ} {r : Text} {S : List ℕ} {c : Cursor} → SomeRow T P r S c → SomeAhead T P S c
row-some {r = r} {S = S} D = record { r = r; S₀ = S; k = row D.x; ahead = D.stands }
