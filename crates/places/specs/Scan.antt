-- The spots of a grammar text by one scan, a character at a time: each name, class, string, hex number and opening bracket.
use Rattle.std.specs.Prelude.{Bool, true, false, ◌||◌, List, [], ◌∷◌, ◌++◌, ℕ, zero, suc, eqb, length}
use Rattle.text.specs.Lists.{Text, chars, pick, among}
use Rattle.syntax.specs.Syntax.{quote, namestart, namefollower}

-- between words; in a name, class or hex number; in a string with the quote q; behind a quote that may be doubled; in comments, k + 1 deep
pub data State : Type 0 where
  between word : State
  quoted closed : ℕ → State
  comment : ℕ → State

-- what begins at a character
unfoldable pub sign : ℕ → Bool
sign c = among c (chars "#[(")

unfoldable pub opens : ℕ → Bool
opens c = namestart c || quote c || sign c

unfoldable pub onward : ℕ → State
onward c = pick (namestart c || eqb c 0x23) word (pick (quote c) (quoted c) (pick (eqb c 0x7b) (comment 0) between))

abbrev pub step : State → ℕ → State
step between c = onward c
step word c = pick (namefollower c) word (onward c)
step (quoted q) c = pick (eqb c q) (closed q) (quoted q)
step (closed q) c = pick (eqb c q) (quoted q) (onward c)
step (comment k) c = pick (eqb c 0x7b) (comment (suc k)) (pick (eqb c 0x7d) (elim k as (λ _. State) [ zero ↦ between | suc j ↦ comment j ]) (comment k))

abbrev pub begins : State → ℕ → Bool
begins between c = opens c
begins word c = pick (namefollower c) false (opens c)
begins (quoted q) c = false
begins (closed q) c = pick (eqb c q) false (opens c)
begins (comment k) c = false

-- how many characters are left at each
unfoldable pub lefts : State → Text → List ℕ
lefts s [] = []
lefts s (c ∷ t) = pick (begins s c) (suc (length t) ∷ []) [] ++ lefts (step s c) t
