-- What the parts of a walk promise.
use Rattle.std.specs.Prelude.{◌≡◌, Bool, true, false, List, [], ◌∷◌, ◌++◌, ℕ, ◌+◌, ◌-◌, ◌*◌, ◌<◌, ◌≤◌, length, get_or, set, take, drop}
use Rattle.text.specs.Lists.{Text}
use Rattle.tree.specs.Tree.{Symbol, Terminal, Grammar}
use Rattle.tree.specs.Tokens.{terminal_tokens, counted}
use Rattle.plain.specs.Plain as plain
use Rattle.derive.specs.Derive.{Row, node}
use Rattle.items.specs.Items.{Starts, Spells, Alternatives, Reads, kind_at, target_at, token_at}
use Rattle.left_parse.specs.Walk.{Frame, opened, Walk, weight}
use Rattle.left_parse.specs.declared.Position.{Position}

pub record Symbolic (T : List ℕ) (p : ℕ) (r : Bool) : Type 0 where
  pub some : r ≡ true → (1 ≤ kind_at T p) × (kind_at T p ≤ 4)
  pub none : r ≡ false → 1 ≤ kind_at T p → 5 ≤ kind_at T p

-- from the item p the alternative ends at r
pub record Passed (T : List ℕ) (p r : ℕ) : Type 0 where
  pub ends : (g : Grammar) (starts : Starts) (ss : List Symbol) → Spells T g starts p ss → r ≡ p + length ss

-- the alternative a of the rule at the item x begins at r
pub record Found (T : List ℕ) (x a r : ℕ) : Type 0 where
  pub spells : (g : Grammar) (starts : Starts) (ts : List (List Symbol)) → Alternatives T g starts x ts → a < length ts → Spells T g starts r (get_or ts a [])

-- whether the rule at the item x has an alternative a
pub record Counted (T : List ℕ) (x a : ℕ) (r : Bool) : Type 0 where
  pub some : r ≡ true → (g : Grammar) (starts : Starts) (ts : List (List Symbol)) → Alternatives T g starts x ts → a < length ts
  pub none : r ≡ false → (g : Grammar) (starts : Starts) (ts : List (List Symbol)) → Alternatives T g starts x ts → length ts ≤ a

pub record Wide (T : List ℕ) (token r : ℕ) : Type 0 where
  pub is : (x : Terminal) → Reads T token (terminal_tokens x) → r ≡ plain.width x
  pub fits : r < 4294967296

-- a node is entered
pub record Enters (S : List ℕ) (h : Position) : Type 0 where
  pub room : 2 * h.entry + 1 < length S
  pub item : h.item < 4294967296
  pub inner : h.inner < 4611686018427387904

pub record Entered (T P S S' : List ℕ) (h r : Position) : Type 0 where
  pub scratch : S' ≡ set (set S (2 * h.entry) h.inner) (2 * h.entry + 1) h.item
  pub spot : r ≡ record { item = r.item; entry = h.entry + 1; place = h.place; inner = h.entry + 1 }
  pub found : Found T (target_at T h.item) (get_or P h.entry 0) r.item

-- the innermost open node is left
pub record Leaves (S : List ℕ) (h : Position) : Type 0 where
  pub some : 0 < h.inner
  pub room : 2 * h.inner ≤ length S
  pub item : get_or S (2 * (h.inner - 1) + 1) 0 < 4294967296
  pub entry : h.entry < 4611686018427387904
  pub place : h.place.0 < 4294967296

pub record Left (S S' : List ℕ) (h r : Position) : Type 0 where
  pub scratch : S' ≡ set (set S (2 * (h.inner - 1)) h.entry) (2 * (h.inner - 1) + 1) h.place.0
  pub spot : r ≡ record { item = get_or S (2 * (h.inner - 1) + 1) 0 + 1; entry = h.entry; place = h.place; inner = get_or S (2 * (h.inner - 1)) 0 }

-- a token that holds a name stands at a place
pub record Named (T : List ℕ) (token first : ℕ) (n : Text) : Type 0 where
  pub more : List ℕ
  pub stands : drop token (take 12288 T) ≡ first ∷ (counted n ++ more)

pub record Small (h : Position) : Type 0 where
  pub item : h.item < 4294967296
  pub entry : h.entry < 4611686018427387904
  pub place : h.place.0 < 4294967296

-- over a terminal
pub record Skipped (T : List ℕ) (h r : Position) : Type 0 where
  pub w : ℕ
  pub wide : Wide T (token_at T h.item) w
  pub spot : r ≡ record { item = h.item + 1; entry = h.entry; place = record { 0 = h.place.0 + w }; inner = h.inner }

-- over a node, by its notes
abbrev pub jumped : List ℕ → Position → Position
jumped S h = record { item = h.item + 1; entry = get_or S (2 * h.entry) 0; place = record { 0 = get_or S (2 * h.entry + 1) 0 }; inner = h.inner }

-- before the children of a node, as a walk of its own
pub record Inside (T P : List ℕ) (h r : Position) : Type 0 where
  pub spot : r ≡ record { item = r.item; entry = h.entry + 1; place = h.place; inner = 0 }
  pub found : Found T (target_at T h.item) (get_or P h.entry 0) r.item

-- a node of the symbol s begins at h, by the alternative a, with the children c; S has the notes, but for open nodes
pub record Node (T P : List ℕ) (r : Text) (S : List ℕ) (h : Position) (g : Grammar) (starts : Starts) (s : Symbol) (a : ℕ) (c : Row) : Type 0 where
  pub S₀ : List ℕ
  pub e₁ : ℕ
  pub i₁ : ℕ
  pub m : ℕ
  pub t : Row
  pub ss : List Symbol
  pub fs : List Frame
  pub walk : Walk T P r S₀ g starts e₁ i₁ h (node a m c t) (s ∷ ss) fs
  pub scratch : S ≡ opened fs S₀
  pub room : 2 * length P ≤ length S₀

pub record SomeNode (T P : List ℕ) (r : Text) (S : List ℕ) (h : Position) : Type 0 where
  pub g : Grammar
  pub starts : Starts
  pub s : Symbol
  pub a : ℕ
  pub c : Row
  pub node : Node T P r S h g starts s a c

-- Entries are being noted as F has them: all that are before h and not open are.
pub record Going (T P S : List ℕ) (h : Position) (F : List ℕ) (e₁ i₁ : ℕ) : Type 0 where
  pub g : Grammar
  pub r : Text
  pub starts : Starts
  pub row : Row
  pub ss : List Symbol
  pub fs : List Frame
  pub under : List ℕ
  pub walk : Walk T P r F g starts e₁ i₁ h row ss fs
  pub scratch : S ≡ opened fs under
  pub noted : (k : ℕ) → k < 2 * h.entry → get_or under k 0 ≡ get_or F k 0
  pub room : 2 * length P ≤ length S

pub record Stepped (T P S S' : List ℕ) (h r : Position) : Type 0 where
  pub goes : (F : List ℕ) (e₁ i₁ : ℕ) → Going T P S h F e₁ i₁ → Going T P S' r F e₁ i₁
  pub falls : weight T P r < weight T P h
