-- A walk over a list that may be no left parse: where it stands, what is due, and what its steps promise.
use Rattle.std.specs.Prelude.{◌≡◌, Bool, true, false, ℕ, ◌+◌, ◌*◌, ◌<◌, ◌≤◌, length, get_or, set, drop, Option, Some, None}
use mathlib.Core.List.{List, [], ◌∷◌, Memᴰ as In}
use Rattle.text.specs.Limits.{grammar_table, record_chars}
use Rattle.text.specs.Lists.{Text}
use Rattle.tree.specs.Tree.{Terminal, Symbol, Grammar}
use Rattle.plain.specs.Written.{terminals}
use Rattle.plain.specs.Plain.{alts}
use Rattle.derive.specs.Derive.{Row}
use Rattle.terminals.specs.Sound.{SoundTerminal}
use Rattle.items.specs.Items.{Starts, Among, Spells, Alternatives, Items}
use Rattle.left_parse.specs.Noted.{Noted, Parsed}
use Rattle.left_parse.specs.Walk.{weight, Over}
use Rattle.left_parse.specs.Steps.{Going}
use Rattle.left_parse.specs.declared.Position.{Position}
use Rattle.judge.specs.Due.{Named, Due}

-- an open node: its entry, the number that was open before it, its item, and the symbols after it
pub record Open : Type 0 where
  pub entry : ℕ
  pub link : ℕ
  pub item : ℕ
  pub symbols : List Symbol

abbrev pub afters : List Open → List (List Symbol)
afters [] = []
afters (o ∷ os) = o.symbols ∷ afters os

-- the open nodes stand in the scratch, the innermost first
pub data Opens (T S : List ℕ) (g : Grammar) (starts : Starts) : List Open → ℕ → Type 0 where
  none_open : {n : ℕ} → n ≡ 0 → Opens T S g starts [] n
  some-open : {o : Open} {os : List Open} {n : ℕ} → n ≡ o.entry + 1 → o.link ≤ o.entry → get_or S (2 * o.entry) 0 ≡ o.link → get_or S (2 * o.entry + 1) 0 ≡ o.item
      → o.item < length T → Spells T g starts (o.item + 1) o.symbols → Opens T S g starts os o.link → Opens T S g starts (o ∷ os) n

-- the rules of a grammar, in the table
pub record Table (T : List ℕ) (g : Grammar) (starts : Starts) : Type 0 where
  pub rule : (x : ℕ) (s : Symbol) → Among x s starts → Alternatives T g starts x (alts g s)
  pub sound : (x : Terminal) → In x (terminals g) → SoundTerminal x

-- the walk stands at h: the list names a derivation exactly when what is left of it is what is due
pub record Tracks (T P : List ℕ) (r : Text) (S : List ℕ) (h : Position) (g : Grammar) (starts : Starts) : Type 0 where
  pub ss : List Symbol
  pub os : List Open
  pub spells : Spells T g starts h.item ss
  pub opens : Opens T S g starts os h.inner
  pub deep : h.inner ≤ h.entry
  pub inside : h.entry ≤ length P
  pub within : h.place.0 ≤ length r
  pub forth : Named P g r → Due g r ss h.place.0 (afters os) (drop h.entry P)
  pub back : Due g r ss h.place.0 (afters os) (drop h.entry P) → Named P g r

-- the lengths of what is lent
pub record Lent (T P : List ℕ) (r : Text) (S : List ℕ) : Type 0 where
  pub table : length T ≡ grammar_table
  pub list : length P < 4611686018427387904
  pub short : length r ≤ record_chars
  pub room : 2 * length P ≤ length S

pub record SomeTracks (T P : List ℕ) (r : Text) (S : List ℕ) (h : Position) : Type 0 where
  pub lent : Lent T P r S
  pub g : Grammar
  pub starts : Starts
  pub table : Table T g starts
  pub tracks : Tracks T P r S h g starts

-- a step: whatever is tracked is still, and what is noted of a left parse
pub record Moved (T P : List ℕ) (r : Text) (S S' : List ℕ) (h n : Position) : Type 0 where
  pub tracks : (g : Grammar) (starts : Starts) → Table T g starts → Tracks T P r S h g starts → Tracks T P r S' n g starts
  pub goes : (F : List ℕ) (e i : ℕ) → Going T P S h F e i → Going T P S' n F e i
  pub falls : weight T P n < weight T P h

-- there is none, and the list names no derivation
pub record Refuted (T P : List ℕ) (r : Text) (S : List ℕ) (h : Position) : Type 0 where
  pub no : (g : Grammar) (starts : Starts) → Table T g starts → Tracks T P r S h g starts → Named P g r → ⊥

abbrev pub Steps : (T P : List ℕ) (r : Text) (S S' : List ℕ) → Position → Option Position → Type 0
Steps T P r S S' h (Some n) = Moved T P r S S' h n
Steps T P r S S' h None = Refuted T P r S h

-- all steps together: whether the list names a derivation, and then all is noted but for the first entry
pub record Ended (T P S S' : List ℕ) (h : Position) (F : List ℕ) (e i : ℕ) : Type 0 where
  pub last : Position
  pub scratch : List ℕ
  pub goes : Going T P scratch last F e i
  pub over : Over T last
  pub noted : S' ≡ set (set scratch 0 last.entry) 1 last.place.0

pub record Walked (T P : List ℕ) (r : Text) (S S' : List ℕ) (h : Position) (b : Bool) : Type 0 where
  pub yes : b ≡ true → (g : Grammar) (starts : Starts) → Table T g starts → Tracks T P r S h g starts → Named P g r
  pub no : b ≡ false → (g : Grammar) (starts : Starts) → Table T g starts → Tracks T P r S h g starts → Named P g r → ⊥
  pub noted : b ≡ true → (F : List ℕ) (e i : ℕ) → Going T P S h F e i → Ended T P S S' h F e i

-- what is asked of the table alone: some grammar's rules stand in it
pub record Given (T : List ℕ) (root : ℕ) (g : Grammar) : Type 0 where
  pub items : Items T g root
  pub sound : (x : Terminal) → In x (terminals g) → SoundTerminal x

pub record Asked (T : List ℕ) (root : ℕ) (P : List ℕ) (r : Text) (S : List ℕ) : Type 0 where
  pub lent : Lent T P r S
  pub g : Grammar
  pub given : Given T root g

-- the answer is whether the list names a derivation; and then every entry is noted
pub record Judged (T : List ℕ) (root : ℕ) (P : List ℕ) (r : Text) (S' : List ℕ) (b : Bool) : Type 0 where
  pub yes : b ≡ true → (g : Grammar) → Given T root g → Named P g r
  pub no : b ≡ false → (g : Grammar) → Given T root g → Named P g r → ⊥
  pub noted : b ≡ true → (g : Grammar) (u : Text) (t : Row) → Parsed T root P g u t → Noted S' 0 t
