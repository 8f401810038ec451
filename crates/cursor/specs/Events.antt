-- What each event says of all that is ahead.
use Rattle.std.specs.Prelude.{◌≡◌, ◌⊎◌, Bool, true, false, List, ℕ, ◌+◌, ◌-◌, ◌*◌, ◌≤◌, ◌<◌, length, get_or}
use Rattle.text.specs.Lists.{Text}
use Rattle.items.specs.Items.{kind_at, token_at}
use Rattle.xml.specs.Document.{Xml, none, attr, elem}
use Rattle.xml.specs.Document as xml
use Rattle.left_parse.specs.Walk as ends
use Rattle.left_parse.specs.Steps.{Named}
use Rattle.markup.specs.Pieces.{Pieced}
use Rattle.markup.specs.declared.Piece.{Piece}
use Rattle.cursor.specs.Rest.{Rest, row, within, before}
use Rattle.cursor.specs.Ahead.{Ahead, AtText, AtNode, AtRow}
use Rattle.cursor.specs.declared.Cursor.{Cursor}
use Rattle.cursor.specs.declared.Event.{Event}
use Rattle.cursor.specs.declared.Event.TheVariants.{Text as Text', Open, Attribute, Close, End}

-- every step makes it less
abbrev pub weight : List ℕ → List ℕ → Cursor → ℕ
weight T P c = ends.weight T P c.at

-- text, which is not empty
pub record MetText (T P : List ℕ) (r : Text) (S₀ S : List ℕ) (k : Rest) (c : Cursor) : Type 0 where
  pub t : Text
  pub rest : Rest
  pub met : k ≡ before (xml.text t) rest
  pub some : 0 < length t
  pub stands : AtText T P r S₀ S c t rest

-- an element
pub record MetElement (T P : List ℕ) (r : Text) (S₀ S : List ℕ) (k : Rest) (token : ℕ) (c : Cursor) : Type 0 where
  pub kind : ℕ
  pub name : Text
  pub inner : Xml
  pub rest : Rest
  pub met : k ≡ before (elem name inner none) rest
  pub named : Named T token kind name
  pub node : AtNode T P r S₀ S c name inner rest

-- an attribute
pub record MetAttribute (T P : List ℕ) (r : Text) (S₀ S : List ℕ) (k : Rest) (token : ℕ) (c : Cursor) : Type 0 where
  pub kind : ℕ
  pub name : Text
  pub value : Text
  pub rest : Rest
  pub met : k ≡ before (attr name value none) rest
  pub named : Named T token kind name
  pub node : AtNode T P r S₀ S c name (xml.text value) rest

-- the end of the element or attribute that the cursor is in
pub record MetClose (T P : List ℕ) (r : Text) (S₀ S : List ℕ) (k : Rest) (item : ℕ) (c : Cursor) : Type 0 where
  pub kind : ℕ
  pub name : Text
  pub rest : Rest
  pub met : k ≡ within name none rest
  pub named : Named T (token_at T item) kind name
  pub ahead : Ahead T P r S₀ S c rest

-- the end of all
pub record MetEnd (S₀ S : List ℕ) (k : Rest) : Type 0 where
  pub met : k ≡ row none
  pub kept : S ≡ S₀

-- the cursor moves on, over what F says of all that is ahead
pub record Moves (T P S : List ℕ) (c n : Cursor) (F : Text → List ℕ → Rest → Type 0) : Type 0 where
  pub goes : (r : Text) (S₀ : List ℕ) (k : Rest) → Ahead T P r S₀ S c k → F r S₀ k
  pub falls : weight T P n < weight T P c
  pub later : c.at.entry ≤ n.at.entry

-- the cursor stops before text
pub record Rests (T P S : List ℕ) (c n : Cursor) (F : Text → List ℕ → Rest → Type 0) : Type 0 where
  pub goes : (r : Text) (S₀ : List ℕ) (k : Rest) → Ahead T P r S₀ S c k → F r S₀ k
  pub near : weight T P n ≤ weight T P c
  pub later : c.at.entry ≤ n.at.entry

-- the cursor stops before a node
pub record Stops (T P S : List ℕ) (c n : Cursor) (token kind : ℕ) (F : Text → List ℕ → Rest → Type 0) : Type 0 where
  pub goes : (r : Text) (S₀ : List ℕ) (k : Rest) → Ahead T P r S₀ S c k → F r S₀ k
  pub near : weight T P n ≤ weight T P c
  pub later : c.at.entry ≤ n.at.entry
  pub listed : n.at.entry < length P
  pub is : kind_at T n.at.item ≡ kind
  pub fits : token < 4294967296

-- by the event; a record around the cases, so that arguments can be left out
abbrev pub NextCases : List ℕ → List ℕ → List ℕ → List ℕ → Cursor → Event → Type 0
NextCases T P S S' c (Text' n) = Rests T P S c n (λ r S₀ k. MetText T P r S₀ S' k n)
NextCases T P S S' c (Open token n) = Stops T P S c n token 2 (λ r S₀ k. MetElement T P r S₀ S' k token n)
NextCases T P S S' c (Attribute token n) = Stops T P S c n token 3 (λ r S₀ k. MetAttribute T P r S₀ S' k token n)
NextCases T P S S' c (Close item n) = Moves T P S c n (λ r S₀ k. MetClose T P r S₀ S' k item n)
NextCases T P S S' c End = (r : Text) (S₀ : List ℕ) (k : Rest) → Ahead T P r S₀ S c k → MetEnd S₀ S' k

pub record Next (T P S S' : List ℕ) (c : Cursor) (e : Event) : Type 0 where
  pub is : NextCases T P S S' c e

-- a step that meets nothing
abbrev pub Through : List ℕ → List ℕ → List ℕ → List ℕ → Cursor → Cursor → Type 0
Through T P S S' c n = Moves T P S c n (λ r S₀ k. Ahead T P r S₀ S' n k)

pub record Closes (T : List ℕ) (item value inner : ℕ) (b : Bool) : Type 0 where
  pub yes : b ≡ true → (value ≡ inner) ⊎ ((value ≡ 0) × (kind_at T item ≡ 2))
  pub no : b ≡ false → (value ≡ inner → ⊥) × (value ≡ 0 → kind_at T item ≡ 2 → ⊥)

pub record KindIn (T : List ℕ) (item value k : ℕ) : Type 0 where
  pub text : k ≡ 1 → kind_at T item ≡ 1
  pub node : (k ≡ 2) ⊎ (k ≡ 3) → (value ≡ 0) × (kind_at T item ≡ k)
  pub into : k ≡ 4 → (2 ≤ kind_at T item) × (kind_at T item ≤ 4) × (value ≡ 0 → kind_at T item ≡ 4)
  pub ends : (k ≡ 1 → ⊥) → (k ≡ 2 → ⊥) → (k ≡ 3 → ⊥) → (k ≡ 4 → ⊥) → (kind_at T item ≡ 0 → ⊥) → 5 ≤ kind_at T item

-- at the cursor stands something that is written, or an end that is met
pub data Shown (T S : List ℕ) (c : Cursor) : Type 0 where
  s-text : kind_at T c.at.item ≡ 1 → (p : Piece) → Pieced T (token_at T c.at.item) c.at.place.0 p → (p.count ≡ 0 → ⊥) → Shown T S c
  s-node : c.value ≡ 0 → 2 ≤ kind_at T c.at.item → kind_at T c.at.item ≤ 3 → Shown T S c
  s-close : 5 ≤ kind_at T c.at.item → 0 < c.at.inner → (item : ℕ) → item ≡ get_or S (2 * (c.at.inner - 1) + 1) 0
      → (c.value ≡ c.at.inner) ⊎ ((c.value ≡ 0) × (kind_at T item ≡ 2)) → Shown T S c
  s-end : 5 ≤ kind_at T c.at.item → c.at.inner ≡ 0 → Shown T S c

-- from c over all that writes nothing to n
pub record Settled (T P S S' : List ℕ) (c n : Cursor) : Type 0 where
  pub goes : (r : Text) (S₀ : List ℕ) (k : Rest) → Ahead T P r S₀ S c k → Ahead T P r S₀ S' n k
  pub near : weight T P n ≤ weight T P c
  pub later : c.at.entry ≤ n.at.entry
  pub shown : Shown T S' n

-- over text
pub record Over (T P S : List ℕ) (c n : Cursor) : Type 0 where
  pub goes : (r : Text) (S₀ : List ℕ) (t : Text) (k : Rest) → AtText T P r S₀ S c t k → Ahead T P r S₀ S n k
  pub falls : weight T P n < weight T P c
  pub later : c.at.entry ≤ n.at.entry

-- into a node
pub record Entered (T P S S' : List ℕ) (c c' : Cursor) : Type 0 where
  pub goes : (r : Text) (S₀ : List ℕ) (n : Text) (x : Xml) (k : Rest) → AtNode T P r S₀ S c n x k → Ahead T P r S₀ S' c' (within n x k)
  pub falls : weight T P c' < weight T P c
  pub later : c.at.entry < c'.at.entry

-- over a node
pub record Past (T P S : List ℕ) (c c' : Cursor) : Type 0 where
  pub goes : (r : Text) (S₀ : List ℕ) (n : Text) (x : Xml) (k : Rest) → AtNode T P r S₀ S c n x k → Ahead T P r S₀ S c' k
  pub falls : weight T P c' < weight T P c
  pub later : c.at.entry < c'.at.entry

-- before what stands in an element, as a walk of its own
pub record Inside (T P S : List ℕ) (c c' : Cursor) : Type 0 where
  pub goes : kind_at T c.at.item ≡ 2 → (r : Text) (S₀ : List ℕ) (n : Text) (x : Xml) (k : Rest) → AtNode T P r S₀ S c n x k → AtRow T P r S c' x
