-- How many rounds a read takes at most.
use mathlib.Core.List.{List, Memᴰ as In}
use Rattle.std.specs.Prelude.{◌≡◌, ℕ, ◌+◌, ◌*◌, ◌<◌, length}
use Rattle.text.specs.Lists.{Text}
use Rattle.tree.specs.Tree.{Symbol, Grammar}
use Rattle.plain.specs.Plain.{alts, ruled}
use Rattle.derive.specs.Bound.{symbols_of}

-- "With N nonterminals in the plain rules and n characters, a read is finished after … round N × (n+1)": the rules that are written and made
abbrev pub most_rounds : Grammar → Text → ℕ
most_rounds g r = length (ruled g) * (length r + 1)

-- a symbol of the list stands for s: it has the same alternatives
pub record Stands (g : Grammar) (ns : List Symbol) (s : Symbol) : Type 0 where
  pub symbol : Symbol
  pub listed : In symbol ns
  pub same : alts g symbol ≡ alts g s

-- every symbol of the plain rules that has an alternative is stood for
abbrev pub AllStand : Grammar → List Symbol → Type 0
AllStand g ns = (s : Symbol) → In s (symbols_of g) → (a : ℕ) → a < length (alts g s) → Stands g ns s
