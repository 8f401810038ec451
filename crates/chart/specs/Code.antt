-- What the engine is given of a grammar and a record: four numbers for each dot position, and where terminals fit.
use Rattle.std.specs.Prelude.{Bool, true, false, ◌≡◌, ℕ, ◌+◌, ◌*◌, ◌<◌, ◌≤◌, length, get_or, drop}
use mathlib.Core.List.{List, [], ◌∷◌, Memᴰ as In}
use Rattle.text.specs.Limits.{most_size, record_chars}
use Rattle.text.specs.Lists.{Text}
use Rattle.tree.specs.Tree.{Terminal, Symbol, terminal, Grammar}
use Rattle.plain.specs.Plain.{alts, fits, width, ruled}
use Rattle.layout.specs.Layout.{layout, dots_of, name_at}
use Rattle.derive.specs.Derive.{alternative, root}
use Rattle.derive.specs.Bound.{symbols_of}

-- The numbers of the dot position p. Kind: 0 the end of an alternative, 1 before a terminal, 2 before a symbol with alternatives.
abbrev pub next_kind : List ℕ → ℕ → ℕ
next_kind c p = get_or c (4 * p) 0

-- at an end: the first position of the rule's next alternative and 1, or 0; at a terminal: how many characters it takes;
-- else: the first position of the symbol's rule
abbrev pub goes_at : List ℕ → ℕ → ℕ
goes_at c p = get_or c (4 * p + 1) 0

-- at a symbol with alternatives: the end of the last alternative of its rule, which names the rule
abbrev pub rule_at : List ℕ → ℕ → ℕ
rule_at c p = get_or c (4 * p + 2) 0

-- at the first position of an alternative: the name of its rule and 1; else 0
abbrev pub owner_at : List ℕ → ℕ → ℕ
owner_at c p = get_or c (4 * p + 3) 0

-- 1 where a terminal at p fits the record from place i on
abbrev pub fits_at : List ℕ → ℕ → ℕ → ℕ
fits_at f p i = get_or f (p * (record_chars + 1) + i) 0

abbrev pub flag : Bool → ℕ
flag true = 1
flag false = 0

-- the symbols after the dot p; the symbol of the rule named e
abbrev pub after_dot : List (List Symbol) → ℕ → List Symbol
after_dot dots p = get_or dots p []

abbrev pub head_of : Grammar → List Symbol → ℕ → Symbol
head_of g heads e = get_or heads e (root g)

-- what stands at a position, where At says what is known of a terminal at one
pub data On (At : ℕ → Terminal → Type 0) (c : List ℕ) (g : Grammar) (dots : List (List Symbol)) (heads : List Symbol) (p : ℕ) : Type 0 where
  at-end : next_kind c p ≡ 0 → after_dot dots p ≡ [] → On At c g dots heads p
  at-terminal : (x : Terminal) → next_kind c p ≡ 1 → p + 1 < length dots → after_dot dots p ≡ terminal x ∷ after_dot dots (p + 1) → goes_at c p ≡ width x
      → At p x → On At c g dots heads p
  at_symbol : (s : Symbol) → next_kind c p ≡ 2 → p + 1 < length dots → after_dot dots p ≡ s ∷ after_dot dots (p + 1) → ((x : Terminal) → s ≡ terminal x → ⊥)
      → rule_at c p < length dots → alts g (head_of g heads (rule_at c p)) ≡ alts g s → On At c g dots heads p

-- f tells where a terminal fits the record
abbrev pub Fitting : List ℕ → Text → ℕ → Terminal → Type 0
Fitting f r p x = (i : ℕ) → i ≤ length r → fits_at f p i ≡ flag (fits x (drop i r))

abbrev pub Stands : List ℕ → List ℕ → Grammar → Text → List (List Symbol) → List Symbol → ℕ → Type 0
Stands c f g r dots heads p = On (Fitting f r) c g dots heads p

-- the alternatives of the rule e from the position q on, in order
pub data Chain (c : List ℕ) (dots : List (List Symbol)) (e : ℕ) : ℕ → List (List Symbol) → Type 0 where
  ch-last : {q : ℕ} → q < length dots → owner_at c q ≡ e + 1 → q + length (after_dot dots q) ≡ e → goes_at c e ≡ 0 → Chain c dots e q (after_dot dots q ∷ [])
  ch-next : {q m : ℕ} {ts : List (List Symbol)} → q < length dots → owner_at c q ≡ e + 1 → goes_at c (q + length (after_dot dots q)) ≡ m + 1
      → Chain c dots e m ts → Chain c dots e q (after_dot dots q ∷ ts)

-- the alternative that an owner names; every alternative of its rule is there
pub record Owned (c : List ℕ) (g : Grammar) (dots : List (List Symbol)) (heads : List Symbol) (p e : ℕ) : Type 0 where
  pub number : ℕ
  pub exists : number < length (alts g (head_of g heads e))
  pub is : after_dot dots p ≡ alternative g (head_of g heads e) number
  pub inside : e < length dots
  pub last : next_kind c e ≡ 0
  pub first : ℕ
  pub chain : Chain c dots e first (alts g (head_of g heads e))

-- the rule of a symbol: the end that names it, and its alternatives
pub record RuleOf (c : List ℕ) (g : Grammar) (dots : List (List Symbol)) (heads : List Symbol) (s : Symbol) (e : ℕ) : Type 0 where
  pub inside : e < length dots
  pub ends : next_kind c e ≡ 0
  pub last : goes_at c e ≡ 0
  pub head : head_of g heads e ≡ s
  pub first : ℕ
  pub chain : Chain c dots e first (alts g s)

-- c is the code of the rules of the grammar g; the root's rule is named top and begins at first
pub record Ruled (At : ℕ → Terminal → Type 0) (c : List ℕ) (g : Grammar) (size top first : ℕ) : Type 0 where
  pub dots : List (List Symbol)
  pub heads : List Symbol
  pub count : length dots ≡ size
  pub stands : (p : ℕ) → p < size → On At c g dots heads p
  pub owned : (p e : ℕ) → p < size → owner_at c p ≡ e + 1 → Owned c g dots heads p e
  -- inside an alternative none begins
  pub inner : (p : ℕ) → p + 1 < size → (next_kind c p ≡ 0 → ⊥) → owner_at c (p + 1) ≡ 0
  -- every rule that a symbol or the root names, from its first position on
  pub chains : (p : ℕ) → p < size → next_kind c p ≡ 2 → Chain c dots (rule_at c p) (goes_at c p) (alts g (head_of g heads (rule_at c p)))
  pub root-chain : Chain c dots top first (alts g (root g))
  pub root-head : alts g (head_of g heads top) ≡ alts g (root g)
  pub root-inside : top < size
  -- the symbols that have a rule, and the ends that name one
  pub every : (s : Symbol) → In s (ruled g) → (e : ℕ) × RuleOf c g dots heads s e
  pub only : (e : ℕ) → e < size → next_kind c e ≡ 0 → goes_at c e ≡ 0 → In (head_of g heads e) (ruled g)
  -- what stands after a dot are symbols of the plain rules, of which there are few
  pub within : (p : ℕ) → p < size → (s : Symbol) → In s (after_dot dots p) → In s (symbols_of g)
  pub few : length (symbols_of g) ≤ 4 * size + 1
  -- dots and rules are numbered as the layout does it
  pub laid : (p : ℕ) → p < size → after_dot dots p ≡ get_or (dots_of g) p []
  pub named : (q : ℕ) → q < length (layout g) → RuleOf c g dots heads (get_or (layout g) q (root g)) (name_at g q)
  pub names : (e : ℕ) → e < size → next_kind c e ≡ 0 → goes_at c e ≡ 0 → (q : ℕ) × (q < length (layout g)) × (e ≡ name_at g q)

-- c and f are the code of the grammar g on the record r; the root's rule is named top and begins at first
pub record Coded (c f : List ℕ) (g : Grammar) (r : Text) (size top first : ℕ) : Type 0 where
  pub dots : List (List Symbol)
  pub heads : List Symbol
  pub count : length dots ≡ size
  pub small : size ≤ most_size
  pub room : 4 * size ≤ length c
  pub short : length r ≤ record_chars
  pub fits-room : size * (record_chars + 1) ≤ length f
  pub stands : (p : ℕ) → p < size → Stands c f g r dots heads p
  pub owned : (p e : ℕ) → p < size → owner_at c p ≡ e + 1 → Owned c g dots heads p e
  -- every rule that a symbol or the root names, from its first position on
  pub chains : (p : ℕ) → p < size → next_kind c p ≡ 2 → Chain c dots (rule_at c p) (goes_at c p) (alts g (head_of g heads (rule_at c p)))
  pub root-chain : Chain c dots top first (alts g (root g))
  pub root-head : alts g (head_of g heads top) ≡ alts g (root g)
  pub root-inside : top < size
