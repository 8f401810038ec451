-- A cursor, and all that is ahead of it.
use Rattle.std.specs.Prelude.{◌≡◌, ◌⊎◌, List, [], ◌∷◌, ℕ, zero, suc, ◌+◌, ◌*◌, ◌≤◌, ◌<◌, length}
use Rattle.text.specs.Lists.{Text}
use Rattle.tree.specs.Tree.{Symbol, Grammar}
use Rattle.derive.specs.Derive.{Row, node, alternative}
use Rattle.items.specs.Items.{kind_at, token_at, Starts}
use Rattle.xml.specs.Document.{Xml, none, text, value, nodes}
use Rattle.left_parse.specs.Walk.{Frame, opened, Walk}
use Rattle.left_parse.specs.Steps.{Named, Skipped}
use Rattle.left_parse.specs.declared.Position.{Position}
use Rattle.markup.specs.Pieces.{Says, Pieced}
use Rattle.markup.specs.declared.Piece.{Piece}
use Rattle.cursor.specs.Rest.{Rest, row, within, before}
use Rattle.cursor.specs.declared.Cursor.{Cursor}

-- what a row comes to: in no value its nodes, in a value all its text
abbrev pub spread : Grammar → Text → ℕ → Row → List Symbol → ℕ → Xml
spread g r zero t ss i = nodes g r t ss i
spread g r (suc v) t ss i = text (value g r t ss i)

-- of the row after an open node
abbrev pub following : Grammar → Text → ℕ → Frame → Xml
following g r v f = spread g r v f.row f.symbols f.from

-- what is after the row at hand, by the open nodes; v as in a cursor
pub data Outer (T : List ℕ) (g : Grammar) (r : Text) : ℕ → List Frame → Rest → Type 0 where
  b-none : {v : ℕ} {k : Rest} → v ≡ 0 → k ≡ row none → Outer T g r v [] k
  b-deleted : {v : ℕ} {f : Frame} {fs : List Frame} {j k : Rest} → v ≡ 0 → kind_at T f.item ≡ 4 → Outer T g r 0 fs j
      → k ≡ before (following g r 0 f) j → Outer T g r v (f ∷ fs) k
  b-element : {v : ℕ} {f : Frame} {fs : List Frame} {j k : Rest} {m : ℕ} {n : Text} → v ≡ 0 → kind_at T f.item ≡ 2
      → Named T (token_at T f.item) m n → Outer T g r 0 fs j → k ≡ within n none (before (following g r 0 f) j)
      → Outer T g r v (f ∷ fs) k
  b-attribute : {v : ℕ} {f : Frame} {fs : List Frame} {j k : Rest} {m : ℕ} {n : Text} → v ≡ f.entry + 1 → Named T (token_at T f.item) m n
      → Outer T g r 0 fs j → k ≡ within n none (before (following g r 0 f) j) → Outer T g r v (f ∷ fs) k
  b-inside : {v : ℕ} {f : Frame} {fs : List Frame} {j k : Rest} → 0 < v → v ≤ f.link → Outer T g r v fs j → k ≡ before (following g r v f) j → Outer T g r v (f ∷ fs) k

-- the cursor stands at c, and k is all that is ahead; the scratch is S now, and S₀ where no node is open
pub record Ahead (T P : List ℕ) (r : Text) (S₀ S : List ℕ) (c : Cursor) (k : Rest) : Type 0 where
  pub g : Grammar
  pub starts : Starts
  pub e₁ : ℕ
  pub i₁ : ℕ
  pub row : Row
  pub ss : List Symbol
  pub fs : List Frame
  pub rest : Rest
  pub walk : Walk T P r S₀ g starts e₁ i₁ c.at row ss fs
  pub scratch : S ≡ opened fs S₀
  pub room : 2 * length P ≤ length S₀
  pub deep : c.value ≤ c.at.inner
  pub outer : Outer T g r c.value fs rest
  pub meets : k ≡ before (spread g r c.value row ss c.at.place.0) rest

pub record SomeAhead (T P S : List ℕ) (c : Cursor) : Type 0 where
  pub r : Text
  pub S₀ : List ℕ
  pub k : Rest
  pub ahead : Ahead T P r S₀ S c k

-- The cursor stands before the text t of a terminal, and k is what is after it.
pub record AtText (T P : List ℕ) (r : Text) (S₀ S : List ℕ) (c : Cursor) (t : Text) (k : Rest) : Type 0 where
  pub all : Rest
  pub ahead : Ahead T P r S₀ S c all
  pub terminal : kind_at T c.at.item ≡ 1
  pub says : (p : Piece) → Pieced T (token_at T c.at.item) c.at.place.0 p → Says T r p t
  pub over : (n : Position) → Skipped T c.at n → Ahead T P r S₀ S (record { at = n; value = c.value }) k

pub record SomeText (T P S : List ℕ) (c : Cursor) : Type 0 where
  pub r : Text
  pub S₀ : List ℕ
  pub t : Text
  pub k : Rest
  pub stands : AtText T P r S₀ S c t k

-- The cursor stands before an element or an attribute of the name n; x is what stands in it, and k what is after it.
pub record AtNode (T P : List ℕ) (r : Text) (S₀ S : List ℕ) (c : Cursor) (n : Text) (x : Xml) (k : Rest) : Type 0 where
  pub g : Grammar
  pub starts : Starts
  pub e₁ : ℕ
  pub i₁ : ℕ
  pub s : Symbol
  pub ss : List Symbol
  pub a : ℕ
  pub m : ℕ
  pub children : Row
  pub row : Row
  pub fs : List Frame
  pub rest : Rest
  pub walk : Walk T P r S₀ g starts e₁ i₁ c.at (node a m children row) (s ∷ ss) fs
  pub scratch : S ≡ opened fs S₀
  pub room : 2 * length P ≤ length S₀
  pub free : c.value ≡ 0
  pub outer : Outer T g r 0 fs rest
  pub token : ℕ
  pub named : Named T (token_at T c.at.item) token n
  pub holds : ((kind_at T c.at.item ≡ 2) × (x ≡ nodes g r children (alternative g s a) c.at.place.0))
      ⊎ ((kind_at T c.at.item ≡ 3) × (x ≡ text (value g r children (alternative g s a) c.at.place.0)))
  pub after : k ≡ before (nodes g r row ss m) rest

pub record SomeNode (T P : List ℕ) (r : Text) (S : List ℕ) (c : Cursor) : Type 0 where
  pub S₀ : List ℕ
  pub n : Text
  pub x : Xml
  pub k : Rest
  pub node : AtNode T P r S₀ S c n x k

-- the cursor stands before a whole row, that comes to x, and no node is open
abbrev pub AtRow : List ℕ → List ℕ → Text → List ℕ → Cursor → Xml → Type 0
AtRow T P r S c x = Ahead T P r S S c (row x)

pub record SomeRow (T P : List ℕ) (r : Text) (S : List ℕ) (c : Cursor) : Type 0 where
  pub x : Xml
  pub stands : AtRow T P r S c x

-- before the row that stands in the root
abbrev pub root_at : ℕ → Cursor
root_at item = record { at = record { item = item; entry = 1; place = record { 0 = 0 }; inner = 0 }; value = 0 }
