-- Where dots may stand and rules may begin and end: flags for each place of the record, and what they are closed under.
use Rattle.std.specs.Prelude.{List, ◌≡◌, ℕ, zero, suc, ◌+◌, ◌*◌, ◌-◌, ◌<◌, ◌≤◌, T, eqb, length, get_or, drop}
use Rattle.text.specs.Lists.{Text, pick}
use Rattle.tree.specs.Tree.{Terminal}
use Rattle.plain.specs.Plain.{fits}
use Rattle.chart.specs.Code.{next_kind, goes_at, rule_at, owner_at}

-- Three bytes for each dot and place: of the dot itself; of the rule that it names, its beginning; and its end.
abbrev pub dot_at : List ℕ → ℕ → ℕ → ℕ
dot_at M p i = get_or M (1536 * i + p) 0

abbrev pub begin_at : List ℕ → ℕ → ℕ → ℕ
begin_at M e i = get_or M (1536 * i + (512 + e)) 0

abbrev pub end_at : List ℕ → ℕ → ℕ → ℕ
end_at M e i = get_or M (1536 * i + (1024 + e)) 0

-- the dot p may stand at the place i; no terminal stands after it that does not fit there; what follows it may go on to a wanted end
abbrev pub Reached : List ℕ → ℕ → ℕ → Type 0
Reached M p i = 1 ≤ dot_at M p i

abbrev pub Fits : List ℕ → ℕ → ℕ → Type 0
Fits M p i = 2 ≤ dot_at M p i

abbrev pub Continued : List ℕ → ℕ → ℕ → Type 0
Continued M p i = 3 ≤ dot_at M p i

-- the rule e may begin at i; it may end there; it is wanted to end there
abbrev pub Begins : List ℕ → ℕ → ℕ → Type 0
Begins M e i = 1 ≤ begin_at M e i

abbrev pub Ends : List ℕ → ℕ → ℕ → Type 0
Ends M e i = 1 ≤ end_at M e i

abbrev pub Wanted : List ℕ → ℕ → ℕ → Type 0
Wanted M e i = 2 ≤ end_at M e i

-- the rule in which the dot p is: that of the alternative which begins at p or last before it
unfoldable pub home_of : List ℕ → ℕ → ℕ
home_of c zero = owner_at c 0 - 1
home_of c (suc p) = pick (eqb (owner_at c (suc p)) 0) (home_of c p) (owner_at c (suc p) - 1)

-- What is reached from the left, of the code c on the record r; the root's rule is named top. Where a rule began is not looked at when it
-- ends, so that more may be flagged than derivations reach.
pub record LeftClosed (At : ℕ → Terminal → Type 0) (c : List ℕ) (r : Text) (size top : ℕ) (M : List ℕ) : Type 0 where
  pub root : Begins M top 0
  pub begin : (p i : ℕ) → p < size → i ≤ length r → next_kind c p ≡ 2 → Reached M p i → Begins M (rule_at c p) i
  pub first : (q e i : ℕ) → q < size → i ≤ length r → owner_at c q ≡ e + 1 → Begins M e i → Reached M q i
  pub live : (p i : ℕ) → p < size → i ≤ length r → (next_kind c p ≡ 1 → ⊥) → Reached M p i → Fits M p i
  pub fit : (p i : ℕ) (x : Terminal) → p < size → i ≤ length r → next_kind c p ≡ 1 → Reached M p i → At p x → T (fits x (drop i r))
      → Fits M p i × Reached M (p + 1) (i + goes_at c p)
  pub end : (p i : ℕ) → p < size → i ≤ length r → next_kind c p ≡ 0 → Reached M p i → Ends M (home_of c p) i
  pub over : (p i m : ℕ) → p < size → i ≤ m → m ≤ length r → next_kind c p ≡ 2 → Reached M p i → Ends M (rule_at c p) m → Reached M (p + 1) m

-- where a terminal is flagged, it fits
abbrev pub FitsOnly : (ℕ → Terminal → Type 0) → List ℕ → Text → ℕ → List ℕ → Type 0
FitsOnly At c r size M = (p i : ℕ) (x : Terminal) → p < size → i ≤ length r → next_kind c p ≡ 1 → Fits M p i → At p x → T (fits x (drop i r))

-- What is wanted from the right, of what is reached from the left on a record of n characters.
pub record RightClosed (c : List ℕ) (n size top : ℕ) (M : List ℕ) : Type 0 where
  pub root : Wanted M top n
  pub end : (p j : ℕ) → p < size → j ≤ n → next_kind c p ≡ 0 → Reached M p j → Wanted M (home_of c p) j → Continued M p j
  pub shift : (p i : ℕ) → p < size → i + goes_at c p ≤ n → next_kind c p ≡ 1 → Fits M p i → Continued M (p + 1) (i + goes_at c p) → Continued M p i
  pub want : (p j : ℕ) → p < size → j ≤ n → next_kind c p ≡ 2 → Continued M (p + 1) j → Ends M (rule_at c p) j → Wanted M (rule_at c p) j
  pub back : (p q i j : ℕ) → p < size → q < size → i ≤ j → j ≤ n → next_kind c p ≡ 2 → Reached M p i → Continued M (p + 1) j
      → owner_at c q ≡ rule_at c p + 1 → Continued M q i → Continued M p i
