-- A walk over a left parse: where it stands, and the nodes that are open.
use Rattle.std.specs.Prelude.{◌≡◌, List, [], ◌∷◌, ◌++◌, ℕ, ◌+◌, ◌-◌, ◌*◌, ◌<◌, ◌≤◌, length, get_or, set, drop}
use Rattle.text.specs.Lists.{Text}
use Rattle.tree.specs.Tree.{Symbol, Grammar}
use Rattle.plain.specs.Plain.{alts}
use Rattle.derive.specs.Derive.{Row, left_parse, Derives}
use Rattle.items.specs.Items.{Starts, Among, Stands, Spells, Alternatives, kind_at}
use Rattle.left_parse.specs.Noted.{Noted}
use Rattle.left_parse.specs.declared.Position.{Position}

-- an open node: its entry, the number that was open before it, its item and symbol, and the row that follows it
pub record Frame : Type 0 where
  pub entry : ℕ
  pub link : ℕ
  pub item : ℕ
  pub symbol : Symbol
  pub row : Row
  pub symbols : List Symbol
  pub from : ℕ
  pub to : ℕ

-- While a node is open, its two numbers are the number that was open before it and its item.
abbrev pub opened : List Frame → List ℕ → List ℕ
opened [] S = S
opened (f ∷ fs) S = set (set (opened fs S) (2 * f.entry) f.link) (2 * f.entry + 1) f.item

-- the entries of the rows that follow
abbrev pub rests : List Frame → List ℕ
rests [] = []
rests (f ∷ fs) = left_parse f.row ++ rests fs

-- the innermost open node ends before an entry, at a place
pub record Link (T : List ℕ) (r : Text) (S : List ℕ) (g : Grammar) (starts : Starts) (f : Frame) (inner entry place : ℕ) : Type 0 where
  pub last : inner ≡ f.entry + 1
  pub lower : f.link ≤ f.entry
  pub ends : get_or S (2 * f.entry) 0 ≡ entry
  pub stops : get_or S (2 * f.entry + 1) 0 ≡ place
  pub stands : Stands T g starts f.item f.symbol
  pub spells : Spells T g starts (f.item + 1) f.symbols
  pub from : f.from ≡ place
  pub derives : Derives g r f.row f.symbols place f.to
  pub noted : Noted S entry f.row

-- the open nodes, innermost first; all ends before the entry e₁, at the place i₁
pub data Chain (T : List ℕ) (r : Text) (S : List ℕ) (g : Grammar) (starts : Starts) (e₁ i₁ : ℕ) : List Frame → ℕ → ℕ → ℕ → Type 0 where
  bottom : {inner entry place : ℕ} → inner ≡ 0 → entry ≡ e₁ → place ≡ i₁ → Chain T r S g starts e₁ i₁ [] inner entry place
  link : {f : Frame} {fs : List Frame} {inner entry place : ℕ} → Link T r S g starts f inner entry place
      → Chain T r S g starts e₁ i₁ fs f.link (entry + length (left_parse f.row)) f.to
      → Chain T r S g starts e₁ i₁ (f ∷ fs) inner entry place

-- The walk stands before a row of the symbols, whose entries S notes.
pub record Walk (T P : List ℕ) (r : Text) (S : List ℕ) (g : Grammar) (starts : Starts) (e₁ i₁ : ℕ) (h : Position) (row : Row) (ss : List Symbol) (fs : List Frame) : Type 0 where
  pub to : ℕ
  pub more : List ℕ
  pub rules : (x : ℕ) (s : Symbol) → Among x s starts → Alternatives T g starts x (alts g s)
  pub spells : Spells T g starts h.item ss
  pub derives : Derives g r row ss h.place.0 to
  pub noted : Noted S h.entry row
  pub chain : Chain T r S g starts e₁ i₁ fs h.inner (h.entry + length (left_parse row)) to
  pub list : drop h.entry P ≡ left_parse row ++ (rests fs ++ more)
  pub deep : h.inner ≤ h.entry
  pub inside : h.entry ≤ length P
  pub last : i₁ ≤ length r
  pub table : length T < 4294967296
  pub entries : length P < 4611686018427387904
  pub record-length : length r < 4294967296

-- a step falls by this
abbrev pub weight : List ℕ → List ℕ → Position → ℕ
weight T P h = ((length P - h.entry) * (length P + 1) + h.inner) * (length T + 1) + (length T - h.item)

-- the walk is over
abbrev pub Over : List ℕ → Position → Type 0
Over T h = (5 ≤ kind_at T h.item) × (h.inner ≡ 0)
