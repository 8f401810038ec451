-- What stands at an item, and the code's numbers by its kind.
use mathlib.Core.List.{List, [], ◌∷◌, ◌++◌, append_assoc}
use mathlib.Core.Logic.{◌⊎◌, inl, inr, ⊎_elim}
use mathlib.Core.Path.{◌≡◌, refl, sym, ap, ◌∙◌}
use Prim.Native.Nat.{ℕ, zero, suc, ◌+◌, ◌*◌, ◌-◌, ◌<◌, ◌≤◌}
use native.Mathlib.Nat.{not-suc-le-zero}
use native.Mathlib.Decide.{ℕ_discrete}
use native.Mathlib.Omega.{arith}
use lib.ListN.{length, get_or, take, drop, length-append, length-drop, take-append-drop}
use lib.Seq.{drop-append-le}
use borrow.Author.Tests.{eq-eqb, ne_eqb, lt-ltb, le-ltb}
use Rattle.text.proofs.Tests.{split}
use Rattle.tree.specs.Tree.{string, hex, Terminal, literal, inclusion, exclusion, insertion, Symbol, terminal}
use Rattle.tree.specs.Tokens.{encode, terminal_tokens}
use Rattle.plain.specs.Written.{kind, made, atom}
use Rattle.items.specs.Items.{kind_at, target_at, token_at}
use Rattle.chart.specs.Code.{owner_at}
use Rattle.tokens.specs.Lengths.{width_at}
use Rattle.rules.specs.Ready.{owner_of, next_kind_of, goes_of, rule_of}

-- a list of a function's values
abbrev pub tab : {A : Type 0} → (ℕ → A) → ℕ → ℕ → List A
tab f k zero = []
tab f k (suc n) = f k ∷ tab f (suc k) n

pub tab-count : {A : Type 0} (f : ℕ → A) (k n : ℕ) → length (tab f k n) ≡ n
tab-count f k zero = refl
tab-count f k (suc n) = ap suc (tab-count f (suc k) n)

pub tab-at : {A : Type 0} (f : ℕ → A) (k n i : ℕ) (d : A) → i < n → get_or (tab f k n) i d ≡ f (k + i)
tab-at f k zero i d h = absurd (not-suc-le-zero h)
tab-at f k (suc n) zero d h = ap f (let e : k ≡ k + 0 = omega arith in e)
tab-at f k (suc n) (suc i) d h = tab-at f (suc k) n i d (omega arith) ∙ ap f (let e : suc k + i ≡ k + suc i = omega arith in e)

-- an alternative begins at the item p
abbrev pub Begin : List ℕ → ℕ → Type 0
Begin T p = (p ≡ 0) ⊎ (4 < kind_at T (p - 1))

prior : (T : List ℕ) (p : ℕ) → (p ≡ 0 → ⊥) → get_or T (12285 + 3 * p) 0 ≡ kind_at T (p - 1)
prior T p d = ap (λ (n : ℕ). get_or T n 0) (let e : 12285 + 3 * p ≡ 12288 + 3 * (p - 1) = omega arith in e)

pub owner-begin : (T : List ℕ) (p e : ℕ) → Begin T p → owner_of T p e ≡ e + 1
unfolding owner_of
owner-begin T p e b = elim (ℕ_discrete p 0) as (λ _. owner_of T p e ≡ e + 1) [
  | yes d ↦ rw (eq-eqb p 0 d)
  | no d ↦ (let l : 5 ≤ get_or T (12285 + 3 * p) 0 = ⊎_elim (λ z. absurd (d z)) (λ l. omega (arith, prior T p d)) b in rw (ne_eqb p 0 d, le-ltb (get_or T (12285 + 3 * p) 0) 5 l))
]

pub owner-inner : (T : List ℕ) (p e : ℕ) → kind_at T p < 5 → owner_of T (p + 1) e ≡ 0
unfolding owner_of
owner-inner T p e h = rw (
  ne_eqb (p + 1) 0 (λ d. omega arith),
  lt-ltb (get_or T (12285 + 3 * (p + 1)) 0) 5 (omega (arith, prior T (p + 1) (λ d. omega arith), ap (kind_at T) (let e : p + 1 - 1 ≡ p = omega arith in e))),
)

pub owner-inv : (T : List ℕ) (p e e' : ℕ) → owner_of T p e ≡ e' + 1 → Begin T p × (e' ≡ e)
unfolding owner_of
owner-inv T p e e' q = elim (ℕ_discrete p 0) as (λ _. Begin T p × (e' ≡ e)) [
  | yes d ↦ (let s : e + 1 ≡ e' + 1 = rw (eq-eqb p 0 d) at q in (inl d, omega arith))
  | no d ↦ ⊎_elim
      (λ l. (let s : 0 ≡ e' + 1 = rw (ne_eqb p 0 d, lt-ltb (get_or T (12285 + 3 * p) 0) 5 l) at q in absurd (omega arith)))
      (λ l. (let s : e + 1 ≡ e' + 1 = rw (ne_eqb p 0 d, le-ltb (get_or T (12285 + 3 * p) 0) 5 l) at q in (inr (omega (arith, prior T p d)), omega arith)))
      (split (get_or T (12285 + 3 * p) 0) 5)
]

-- tokens that stand in the first part of the table stand in the table
pub whole : (T : List ℕ) (n at : ℕ) (xs more : List ℕ) → 0 < length xs → drop at (take n T) ≡ xs ++ more → drop at T ≡ xs ++ (more ++ drop n T)
whole T n at xs more h e =
    ap (drop at) (sym (take-append-drop n T))
    ∙ drop-append-le at (take n T) (drop n T) (omega (arith, sym (length-drop at (take n T)) ∙ ap length e ∙ length-append xs more))
    ∙ ap (λ (l : List ℕ). l ++ drop n T) e
    ∙ append_assoc xs more (drop n T)

pub some-tokens : (x : Terminal) → 0 < length (encode (terminal_tokens x))
some-tokens (literal m (string cs)) = omega arith
some-tokens (literal m (hex n)) = omega arith
some-tokens (inclusion m ms) = omega arith
some-tokens (exclusion m ms) = omega arith
some-tokens (insertion (string cs)) = omega arith
some-tokens (insertion (hex n)) = omega arith

pub made-not : (s : Symbol) (x : Terminal) → kind s ≡ made → s ≡ terminal x → ⊥
made-not s x e q = let k : made ≡ atom x = sym e ∙ ap kind q in let z : ◌≡◌ {A = ℕ} 0 1 = cc in omega arith

-- the code's numbers by an item's kind
pub kind-end : (k : ℕ) → 4 < k → next_kind_of k ≡ 0
unfolding next_kind_of
kind-end k h = rw (ne_eqb k 1 (λ e. omega arith), le-ltb k 5 h)

pub kind-symbol : (k : ℕ) → (k ≡ 1 → ⊥) → k < 5 → next_kind_of k ≡ 2
unfolding next_kind_of
kind-symbol k d h = rw (ne_eqb k 1 d, lt-ltb k 5 h)

pub kind-terminal : (k : ℕ) → k ≡ 1 → next_kind_of k ≡ 1
unfolding next_kind_of
kind-terminal k e = rw (eq-eqb k 1 e)

pub goes-terminal : (T : List ℕ) (p k : ℕ) → k ≡ 1 → goes_of T p k ≡ width_at T (token_at T p)
unfolding goes_of
goes-terminal T p k e = rw (eq-eqb k 1 e)

pub goes-symbol : (T : List ℕ) (p k : ℕ) → (k ≡ 1 → ⊥) → k < 5 → goes_of T p k ≡ target_at T p
unfolding goes_of
goes-symbol T p k d h = rw (ne_eqb k 1 d, lt-ltb k 5 h)

pub goes_on : (T : List ℕ) (p k : ℕ) → k ≡ 5 → goes_of T p k ≡ p + 2
unfolding goes_of
goes_on T p k e = rw e

pub goes-no : (T : List ℕ) (p k : ℕ) → k ≡ 6 → goes_of T p k ≡ 0
unfolding goes_of
goes-no T p k e = rw e

pub rule-symbol : (T c : List ℕ) (p k : ℕ) → (k ≡ 1 → ⊥) → k < 5 → rule_of T c p k ≡ owner_at c (target_at T p) - 1
unfolding rule_of
rule-symbol T c p k d h = rw (ne_eqb k 1 d, lt-ltb k 5 h)
