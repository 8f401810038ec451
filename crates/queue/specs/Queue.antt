-- The rules that were lowered on a stretch and whose uses have not been looked at since: a ring of 512 numbers, a flag for each rule, and
-- where the ring begins and how many are in it.
use Rattle.std.specs.Prelude.{List, ◌≡◌, ℕ, ◌+◌, ◌-◌, ◌<◌, ◌≤◌, ltb, length, get_or}
use Rattle.text.specs.Lists.{pick}
use Rattle.reach.specs.Work.{at_most}

abbrev pub flag_of : List ℕ → ℕ → ℕ
flag_of Q e = get_or Q (512 + e) 0

abbrev pub head_of : List ℕ → ℕ
head_of Q = get_or Q 1024 0

abbrev pub count_of : List ℕ → ℕ
count_of Q = get_or Q 1025 0

-- the place of the k-th from the head on
abbrev pub slot : ℕ → ℕ → ℕ
slot h k = pick (ltb (h + k) 512) (h + k) (h + k - 512)

abbrev pub Pending : List ℕ → ℕ → Type 0
Pending Q e = flag_of Q e ≡ 0 → ⊥

pub record Waits (Q : List ℕ) (e : ℕ) : Type 0 where
  pub at : ℕ
  pub before : at < count_of Q
  pub is : get_or Q (slot (head_of Q) at) 0 ≡ e

pub record Queued (size : ℕ) (Q : List ℕ) : Type 0 where
  pub small : size ≤ 512
  pub long : length Q ≡ 1026
  pub head : head_of Q < 512
  pub each : (k : ℕ) → k < count_of Q → get_or Q (slot (head_of Q) k) 0 < size
  pub waits : (e : ℕ) → e < 512 → Pending Q e → Waits Q e
  -- a rule is put in where its flag is 0
  pub room : count_of Q + at_most 0 Q 512 512 ≤ 512

-- the rule e is pending
pub record Put (size : ℕ) (Q Q' : List ℕ) (e : ℕ) : Type 0 where
  pub queued : Queued size Q'
  pub pending : Pending Q' e
  pub others : (x : ℕ) → x < 512 → (x ≡ e → ⊥) → flag_of Q' x ≡ flag_of Q x
  pub count : count_of Q' ≤ count_of Q + 1

-- the rule e was the first
pub record Taken (size : ℕ) (Q Q' : List ℕ) (e : ℕ) : Type 0 where
  pub queued : Queued size Q'
  pub inside : e < size
  pub others : (x : ℕ) → x < 512 → (x ≡ e → ⊥) → flag_of Q' x ≡ flag_of Q x
  pub count : count_of Q' + 1 ≡ count_of Q
