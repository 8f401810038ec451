-- What a pass keeps at a place: a queue of the dots that are reached there, which dots are open, and the rule of each dot.
use Rattle.std.specs.Prelude.{List, ◌⊎◌, ◌≡◌, ℕ, zero, suc, ◌+◌, ◌*◌, ◌<◌, ◌≤◌, leb, length, get_or, set}
use Rattle.text.specs.Lists.{pick}
use Rattle.reach.specs.Flags.{dot_at}

-- the first number of the work is the place of the queue's last dot
abbrev pub tail_of : List ℕ → ℕ
tail_of Q = get_or Q 0 0

-- the dot p is put into the queue
abbrev pub pushed : List ℕ → ℕ → List ℕ
pushed Q p = set (set Q 0 (tail_of Q + 1)) (tail_of Q + 1) p

-- the dot p is open: no symbol is before it, or one that was met
abbrev pub Seen : List ℕ → ℕ → Type 0
Seen Q p = 1 ≤ get_or Q (513 + p) 0

-- the dot p is in the queue after the place h
pub record Waits (Q : List ℕ) (h p : ℕ) : Type 0 where
  pub at : ℕ
  pub after : h < at
  pub before : at ≤ tail_of Q
  pub is : get_or Q at 0 ≡ p

-- how many of the k bytes from b on are at most `low`
unfoldable pub at_most : ℕ → List ℕ → ℕ → ℕ → ℕ
at_most low M b zero = 0
at_most low M b (suc k) = pick (leb (get_or M (b + k) 0) low) 1 0 + at_most low M b k

-- a pass that lifts dots above `low`, at the place i
pub record Kept (size low : ℕ) (M Q : List ℕ) (i : ℕ) : Type 0 where
  pub small : size ≤ 512
  pub levels : low ≤ 2
  pub on : i ≤ 200
  pub marks-long : 1536 * i + 1536 ≤ length M
  pub work-long : length Q ≡ 1537
  -- each dot is put into the queue once
  pub count : tail_of Q + at_most low M (1536 * i) 512 ≤ 512
  pub queued : (k : ℕ) → 0 < k → k ≤ tail_of Q → (get_or Q k 0 < size) × (low < dot_at M (get_or Q k 0) i)

-- the byte x, of a dot at the place i, is lifted
pub record Lifted (low : ℕ) (M M' : List ℕ) (i x : ℕ) : Type 0 where
  pub was : get_or M x 0 ≡ low
  pub now-is : get_or M' x 0 ≡ low + 1
  pub from : 1536 * i ≤ x
  pub to : x < 1536 * i + 512

-- dots are lifted, and put into the queue
pub record Grown (size low : ℕ) (M Q M' Q' : List ℕ) (i : ℕ) : Type 0 where
  pub kept : Kept size low M' Q' i
  pub long : length M' ≡ length M
  pub cell : (x : ℕ) → (get_or M' x 0 ≡ get_or M x 0) ⊎ Lifted low M M' i x
  pub rest : (x : ℕ) → 512 < x → get_or Q' x 0 ≡ get_or Q x 0
  pub more : tail_of Q ≤ tail_of Q'
  pub same : (k : ℕ) → 0 < k → k ≤ tail_of Q → get_or Q' k 0 ≡ get_or Q k 0
  pub fresh : (p : ℕ) → p < 512 → low < dot_at M' p i → (low < dot_at M p i) ⊎ Waits Q' (tail_of Q) p

-- the dot p is, if it is open
pub record Lift (size low : ℕ) (M Q M' Q' : List ℕ) (i p : ℕ) : Type 0 where
  pub grown : Grown size low M Q M' Q' i
  pub there : Seen Q p → low ≤ dot_at M p i → low < dot_at M' p i

-- a list of dots, linked from the last to the first: u is on it from x on
pub data Listed (L : List ℕ) : ℕ → ℕ → Type 0 where
  l-here : {x u : ℕ} → x ≡ u + 1 → Listed L x u
  l-next : {x u : ℕ} (v : ℕ) → x ≡ v + 1 → Listed L (get_or L (2 * v + 1) 0) u → Listed L x u

-- the links of a rule's list lead to ever earlier dots
pub record Linked (size : ℕ) (L : List ℕ) : Type 0 where
  pub room : 2 * size ≤ length L
  pub last : (e : ℕ) → e < size → get_or L (2 * e) 0 ≤ size
  pub next : (e u : ℕ) → e < size → Listed L (get_or L (2 * e) 0) u → get_or L (2 * u + 1) 0 ≤ u

pub record Spreads (size low : ℕ) (L M Q : List ℕ) (i e : ℕ) : Type 0 where
  pub kept : Kept size low M Q i
  pub linked : Linked size L
  pub inside : e < size

-- the open dots of the rule's list are lifted
pub record Spread (size low : ℕ) (L M Q M' Q' : List ℕ) (i e : ℕ) : Type 0 where
  pub grown : Grown size low M Q M' Q' i
  pub there : (u : ℕ) → Listed L (get_or L (2 * e) 0) u → Seen Q u → low ≤ dot_at M u i → low < dot_at M' u i

-- the byte x is raised to v
pub record Raised (M M' : List ℕ) (x v : ℕ) : Type 0 where
  pub long : length M' ≡ length M
  pub there : v ≤ get_or M' x 0
  pub cell : (y : ℕ) → (get_or M' y 0 ≡ get_or M y 0) ⊎ ((y ≡ x) × (get_or M y 0 < v) × (get_or M' y 0 ≡ v))

-- a rule's byte in a column is lifted above `low`, and the dots of its list above `dots`
pub record Woken (size dots low column : ℕ) (L M Q M' Q' : List ℕ) (i e : ℕ) : Type 0 where
  pub kept : Kept size dots M' Q' i
  pub long : length M' ≡ length M
  pub cell : (x : ℕ) → ((get_or M' x 0 ≡ get_or M x 0) ⊎ Lifted dots M M' i x)
      ⊎ ((x ≡ 1536 * i + (column + e)) × (get_or M x 0 ≡ low) × (get_or M' x 0 ≡ low + 1))
  pub rest : (x : ℕ) → 512 < x → get_or Q' x 0 ≡ get_or Q x 0
  pub more : tail_of Q ≤ tail_of Q'
  pub same : (k : ℕ) → 0 < k → k ≤ tail_of Q → get_or Q' k 0 ≡ get_or Q k 0
  pub fresh : (p : ℕ) → p < 512 → dots < dot_at M' p i → (dots < dot_at M p i) ⊎ Waits Q' (tail_of Q) p
  pub there : low ≤ get_or M (1536 * i + (column + e)) 0 → low < get_or M' (1536 * i + (column + e)) 0
  pub woken : get_or M (1536 * i + (column + e)) 0 ≡ low → (u : ℕ) → Listed L (get_or L (2 * e) 0) u → Seen Q u → dots ≤ dot_at M u i → dots < dot_at M' u i

pub record Waking (size dots low column : ℕ) (L M Q : List ℕ) (i e : ℕ) : Type 0 where
  pub spreads : Spreads size dots L M Q i e
  pub from : 512 ≤ column
  pub to : column ≤ 1024
  pub levels : low ≤ 1

-- the dots before p that are above `low` are in the queue, which was empty
pub record Collecting (size low : ℕ) (M Q₀ Q : List ℕ) (i p : ℕ) : Type 0 where
  pub small : size ≤ 512
  pub levels : low ≤ 2
  pub on : i ≤ 200
  pub marks-long : 1536 * i + 1536 ≤ length M
  pub work-long : length Q ≡ 1537
  pub below : p ≤ size
  pub count : tail_of Q + at_most low M (1536 * i) p ≤ p
  pub queued : (k : ℕ) → 0 < k → k ≤ tail_of Q → (get_or Q k 0 < size) × (low < dot_at M (get_or Q k 0) i)
  pub rest : (x : ℕ) → 512 < x → get_or Q x 0 ≡ get_or Q₀ x 0
  pub listed : (q : ℕ) → q < p → low < dot_at M q i → Waits Q 0 q

pub record Collects (size low : ℕ) (M Q : List ℕ) (i : ℕ) : Type 0 where
  pub small : size ≤ 512
  pub levels : low ≤ 2
  pub on : i ≤ 200
  pub marks-long : 1536 * i + 1536 ≤ length M
  pub work-long : length Q ≡ 1537

pub record Collected (size low : ℕ) (M Q Q' : List ℕ) (i : ℕ) : Type 0 where
  pub kept : Kept size low M Q' i
  pub rest : (x : ℕ) → 512 < x → get_or Q' x 0 ≡ get_or Q x 0
  pub listed : (q : ℕ) → q < size → low < dot_at M q i → Waits Q' 0 q
