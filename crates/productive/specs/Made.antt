-- Which dots and rules derive some text, by the code of the rules alone.
use Rattle.std.specs.Prelude.{Bool, true, false, List, ◌≡◌, ℕ, ◌+◌, ◌*◌, ◌<◌, ◌≤◌, length, get_or}
use Rattle.text.specs.Limits.{most_size, grammar_table}
use Rattle.tree.specs.Tree.{Grammar}
use Rattle.chart.specs.Code.{next_kind, rule_at, owner_at}
use Rattle.rules.specs.Ready.{Ready}

-- two marks for each dot: what follows it derives some text; so does the symbol before it
abbrev pub Good : List Bool → ℕ → Type 0
Good M p = get_or M p false ≡ true

abbrev pub Sure : List Bool → ℕ → Type 0
Sure M p = get_or M (most_size + p) false ≡ true

-- what follows the dot p derives some text, where F marks the dots after live terminals
pub data Made (c : List ℕ) (F : List Bool) (size : ℕ) : ℕ → Type 0 where
  made-end : {p : ℕ} → p < size → next_kind c p ≡ 0 → Made c F size p
  made-terminal : {p : ℕ} → p < size → next_kind c p ≡ 1 → Sure F (p + 1) → Made c F size (p + 1) → Made c F size p
  made-symbol : {p q : ℕ} → p < size → next_kind c p ≡ 2 → owner_at c q ≡ rule_at c p + 1 → Made c F size q → Made c F size (p + 1) → Made c F size p

-- the rule e derives some text: one of its alternatives does
pub record RuleMade (c : List ℕ) (F : List Bool) (size e : ℕ) : Type 0 where
  pub dot : ℕ
  pub owner : owner_at c dot ≡ e + 1
  pub made : Made c F size dot

-- a rule that "derives no finite text whatever"
pub record Missing (c : List ℕ) (F : List Bool) (size : ℕ) : Type 0 where
  pub dot : ℕ
  pub rule : ℕ
  pub inside : dot < size
  pub owner : owner_at c dot ≡ rule + 1
  pub none : RuleMade c F size rule → ⊥

-- whether there is one
pub record Tells (c : List ℕ) (F : List Bool) (size : ℕ) (r : Bool) : Type 0 where
  pub some : r ≡ true → Missing c F size
  pub every : r ≡ false → (p e : ℕ) → p < size → owner_at c p ≡ e + 1 → RuleMade c F size e

-- what is used of a code
pub record Shape (c : List ℕ) (size : ℕ) : Type 0 where
  pub small : size ≤ most_size
  pub owner : (p e : ℕ) → p < size → owner_at c p ≡ e + 1 → e < size
  pub after : (p : ℕ) → p < size → (next_kind c p ≡ 0 → ⊥) → p + 1 < size
  pub rule : (p : ℕ) → p < size → next_kind c p ≡ 2 → rule_at c p < size

-- in the beginning: M marks dots after terminals only
pub record Fresh (c : List ℕ) (size : ℕ) (M : List Bool) : Type 0 where
  pub shape : Shape c size
  pub room : 4 * size ≤ length c
  pub long : length M ≡ most_size + most_size
  pub none : (x : ℕ) → x ≤ most_size → get_or M x false ≡ false
  pub only : (p : ℕ) → p < size → Sure M (p + 1) → next_kind c p ≡ 1

-- what the stage is given
pub record Given (T : List ℕ) (size root : ℕ) : Type 0 where
  pub grammar : Grammar
  pub ready : Ready T grammar size root
  pub long : length T ≡ grammar_table
  pub small : size ≤ most_size
