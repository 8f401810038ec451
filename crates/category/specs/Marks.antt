-- Marks by place of the alphabet and by category.
use Rattle.std.specs.Prelude.{Bool, false, ◌||◌, List, ◌≡◌, ℕ, length, get_or}
use Rattle.text.specs.Utf8.{alphabet}
use Rattle.text.specs.Ranks.{code_at}
use Rattle.category.specs.Category.{category_number}

-- the code point at a place is marked: its place is, or its category
abbrev pub marked : List Bool → List Bool → ℕ → Bool
marked P K k = get_or P k false || get_or K (category_number (code_at alphabet k)) false

-- a mark for each place, and one for each category
pub record Marks (P K : List Bool) : Type 0 where
  pub places : length P ≡ 498
  pub categories : length K ≡ 30
