-- Names get the kinds and targets of their rules.
use Rattle.std.specs.Prelude.{true, false, List, ◌≡◌, ℕ, ◌+◌, ◌*◌, ◌<◌, ◌≤◌, length, get_or, take, drop}
use Rattle.text.specs.Lists.{Text, same}
use Rattle.tokens.specs.Names.{Holding}
use Rattle.items.specs.Items.{kind_at, target_at, token_at}
use Rattle.repetitions.specs.Blocks.{kind_by}

-- the token at a place of the tokens' part of the table holds the text
abbrev pub NameAt : List ℕ → ℕ → Text → Type 0
NameAt T at x = Holding (take 12288 T) at x

-- rule j of the list of rules: the place of its head, and its first item
abbrev pub head_at : List ℕ → ℕ → ℕ
head_at T j = get_or T (13824 + 2 * j) 0

abbrev pub first_at : List ℕ → ℕ → ℕ
first_at T j = get_or T (13825 + 2 * j) 0

-- the first rule with the name of the token at a place; `rules` where there is none
pub record Found (T : List ℕ) (rules at r : ℕ) : Type 0 where
  pub within : r ≤ rules
  pub before : (j : ℕ) → j < r → (x y : Text) → NameAt T at x → NameAt T (head_at T j) y → same x y ≡ false
  pub there : r < rules → (x y : Text) → NameAt T at x → NameAt T (head_at T r) y → same x y ≡ true

pub record Linkable (T : List ℕ) (items rules : ℕ) : Type 0 where
  pub size : length T ≡ 16384
  pub few-items : items ≤ 512
  pub few-rules : rules ≤ 512

-- item p of T as T' has it: kept, or a name with the kind and the first item of its rule
pub record Resolved (T : List ℕ) (rules : ℕ) (T' : List ℕ) (p : ℕ) : Type 0 where
  pub token : token_at T' p ≡ token_at T p
  pub kept : (kind_at T p ≡ 2 → ⊥) → (kind_at T' p ≡ kind_at T p) × (target_at T' p ≡ target_at T p)
  pub row : ℕ
  pub found : kind_at T p ≡ 2 → Found T rules (token_at T p) row
  pub linked : kind_at T p ≡ 2 → row < rules → token_at T p < 12288 → head_at T row < 12288
      → (kind_at T' p ≡ kind_by (get_or T (token_at T p) 0) (get_or T (head_at T row) 0)) × (target_at T' p ≡ first_at T row)

-- all but the items is kept
pub record Beside (T T' : List ℕ) : Type 0 where
  pub tokens : take 12288 T' ≡ take 12288 T
  pub rows : drop 13824 T' ≡ drop 13824 T

pub record Single (T : List ℕ) (rules : ℕ) (T' : List ℕ) (p : ℕ) : Type 0 where
  pub beside : Beside T T'
  pub item : Resolved T rules T' p
  pub others : (q : ℕ) → (q ≡ p → ⊥) → (kind_at T' q ≡ kind_at T q) × (target_at T' q ≡ target_at T q) × (token_at T' q ≡ token_at T q)

pub record Linked (T : List ℕ) (items rules : ℕ) (T' : List ℕ) : Type 0 where
  pub beside : Beside T T'
  pub item : (p : ℕ) → p < items → Resolved T rules T' p
