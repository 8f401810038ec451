-- Marks by place of the alphabet and by category: the known code points that a set's members match.
use Rattle.std.specs.Prelude.{Bool, false, ◌&&◌, ◌||◌, List, ◌≡◌, ℕ, ◌<◌, leb, ltb, length, get_or}
use Rattle.text.specs.Utf8.{alphabet}
use Rattle.text.specs.Ranks.{code_at}
use Rattle.category.specs.Marks.{marked, Marks}
use Rattle.terminals.specs.Places.{MemberHere, MembersHere}

-- marked besides: the numbers from `from` on, before `past`
pub record Spanned (M M' : List Bool) (from past : ℕ) : Type 0 where
  pub long : length M' ≡ length M
  pub at : (k : ℕ) → get_or M' k false ≡ (get_or M k false || (leb from k && ltb k past))

-- marked besides, by place: the code points that pass a test
pub record Placed (test : ℕ → Bool) (P P' : List Bool) : Type 0 where
  pub long : length P' ≡ length P
  pub at : (k : ℕ) → k < 498 → get_or P' k false ≡ (get_or P k false || test (code_at alphabet k))

-- the same, by place or by category
pub record Adds (test : ℕ → Bool) (P K P' K' : List Bool) : Type 0 where
  pub marks : Marks P' K'
  pub at : (k : ℕ) → k < 498 → marked P' K' k ≡ (marked P K k || test (code_at alphabet k))

-- what the steps ask for
pub record MarkMember (T : List ℕ) (at : ℕ) (P K : List Bool) : Type 0 where
  pub here : MemberHere T at
  pub marks : Marks P K

pub record MarkMembers (T : List ℕ) (at : ℕ) (P K : List Bool) : Type 0 where
  pub here : MembersHere T at
  pub marks : Marks P K
