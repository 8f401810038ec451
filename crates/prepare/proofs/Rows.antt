-- Laws of the rows of tests.
use mathlib.Core.Bool.{Bool, true, false}
use mir.Val.{bool_byte}
use mathlib.Core.List.{List}
use mathlib.Core.Logic.{◌⊎◌, inl, inr, ⊎_elim}
use mathlib.Core.Path.{◌≡◌, refl, ap, ◌∙◌}
use Prim.Native.Nat.{ℕ, ◌+◌, ◌*◌, ◌<◌, ◌≤◌}
use native.Mathlib.Decide.{ℕ_discrete}
use native.Mathlib.Omega.{arith}
use lib.ListN.{length, get_or, set, drop, length-set}
use lib.Seq.{get_or-set_same, get_or-set_other}
use Rattle.text.specs.Limits.{record_chars}
use Rattle.text.specs.Lists.{Text}
use Rattle.text.proofs.Tests.{split}
use Rattle.tree.specs.Tree.{Terminal, Symbol, Grammar}
use Rattle.plain.specs.Plain.{fits}
use Rattle.items.specs.Items.{kind_at, token_at}
use Rattle.chart.specs.Code.{next_kind, flag, fits_at, On, at-end, at-terminal, at_symbol, Fitting, Ruled}
use Rattle.terminals.specs.Places.{TerminalAt}
use Rattle.rules.specs.Ready.{Token}
use Rattle.prepare.specs.Rows.{Row, ItemRow, Rows}

-- a test as a byte
pub flag_byte : (b : Bool) → bool_byte b ≡ flag b
flag_byte true = refl
flag_byte false = refl

-- the tests of the places before i are stored
pub record Rowing (T R f₀ f : List ℕ) (at base i : ℕ) : Type 0 where
  pub low : i ≤ length R + 1
  pub long : length f ≡ length f₀
  pub row : (x : Terminal) → TerminalAt T at x → (j : ℕ) → j < i → get_or f (base + j) 0 ≡ flag (fits x (drop j R))
  pub kept : (j : ℕ) → (j < base) ⊎ (base + length R < j) → get_or f j 0 ≡ get_or f₀ j 0

pub row-start : (T R f : List ℕ) (at base : ℕ) → Rowing T R f f at base 0
row-start T R f at base = record { low = omega arith; long = refl; row = λ x w j h. absurd (omega arith); kept = λ j o. refl }

module _ {T R f₀ f : List ℕ} {at base i : ℕ} (w : Rowing T R f₀ f at base i) (h : i ≤ length R) (room : base + length R < length f₀)
    (r : Bool) (e : (x : Terminal) → TerminalAt T at x → r ≡ fits x (drop i R)) where
  pub row_next : Rowing T R f₀ (set f (base + i) (flag r)) at base (i + 1)
  row_next = record {
    low = omega arith;
    long = length-set f (base + i) (flag r) ∙ w.long;
    row = λ x v j l. elim (ℕ_discrete j i) as (λ _. get_or (set f (base + i) (flag r)) (base + j) 0 ≡ flag (fits x (drop j R))) [
      | yes d ↦ rw d (get_or-set_same f (base + i) (flag r) 0 (omega (arith, w.long)) ∙ ap flag (e x v))
      | no d ↦ get_or-set_other f (base + i) (base + j) (flag r) 0 (omega arith) ∙ w.row x v j (omega arith)
    ];
    kept = λ j o. ⊎_elim (λ l. other j (omega arith) ∙ w.kept j o) (λ l. other j (omega arith) ∙ w.kept j o) o;
  }
    where
      other : (j : ℕ) → (j ≡ base + i → ⊥) → get_or (set f (base + i) (flag r)) j 0 ≡ get_or f j 0
      other j d = get_or-set_other f (base + i) j (flag r) 0 d

pub row-end : {T R f₀ f : List ℕ} {at base i : ℕ} → Rowing T R f₀ f at base i → length R < i → Row T R f₀ f at base
row-end w h = record { long = w.long; row = λ x v j l. w.row x v j (omega arith); kept = w.kept }

-- an item's row
pub item-skip : {T R f : List ℕ} {p : ℕ} → (kind_at T p ≡ 1 → ⊥) → ItemRow T R f f p
item-skip d = record { long = refl; row = λ x e w i h. absurd (d e); kept = λ q i n h. refl }

pub item-row : {T R f f' : List ℕ} {at p : ℕ} → at ≡ token_at T p → length R ≤ record_chars → Row T R f f' at (p * (record_chars + 1)) → ItemRow T R f f' p
item-row {T} {R} {p = p} e s w = record {
  long = w.long;
  row = λ x k v i h. w.row x (rw e v) i h;
  kept = λ q i n h. w.kept (q * (record_chars + 1) + i) (⊎_elim (λ l. inl (omega arith)) (λ l. inr (omega arith)) (split q p));
}

pub record RowsBelow (T : List ℕ) (size : ℕ) (R f₀ f : List ℕ) (p : ℕ) : Type 0 where
  pub low : p ≤ size
  pub long : length f ≡ length f₀
  pub rows : (q : ℕ) → q < p → (x : Terminal) → kind_at T q ≡ 1 → TerminalAt T (token_at T q) x → (i : ℕ) → i ≤ length R → fits_at f q i ≡ flag (fits x (drop i R))

pub rows_start : (T : List ℕ) (size : ℕ) (R f : List ℕ) → RowsBelow T size R f f 0
rows_start T size R f = record { low = omega arith; long = refl; rows = λ q h. absurd (omega arith) }

pub rows_next : {T : List ℕ} {size : ℕ} {R f₀ f f' : List ℕ} {p : ℕ} → RowsBelow T size R f₀ f p → p < size → ItemRow T R f f' p → RowsBelow T size R f₀ f' (p + 1)
rows_next {T} {R = R} {f' = f'} {p = p} w h u = record {
  low = omega arith;
  long = u.long ∙ w.long;
  rows = λ q l x k v i m. elim (ℕ_discrete q p) as (λ _. fits_at f' q i ≡ flag (fits x (drop i R))) [
    | yes d ↦ rw d (u.row x (rw (← d) k) (rw (← d) v) i m)
    | no d ↦ u.kept q i d m ∙ w.rows q (omega arith) x k v i m
  ];
}

pub rows_end : {T : List ℕ} {size : ℕ} {R f₀ f : List ℕ} {p : ℕ} → RowsBelow T size R f₀ f p → size ≤ p → Rows T size R f₀ f
rows_end w h = record { long = w.long; rows = λ q l. w.rows q (omega arith) }

-- the same code with something else known of its terminals
module _ {At Bt : ℕ → Terminal → Type 0} {c : List ℕ} {g : Grammar} where
  pub on-as : {dots : List (List Symbol)} {heads : List Symbol} {p : ℕ} → ((x : Terminal) → next_kind c p ≡ 1 → At p x → Bt p x) → On At c g dots heads p → On Bt c g dots heads p
  on-as f (at-end z e) = at-end z e
  on-as f (at-terminal x z l e w a) = at-terminal x z l e w (f x z a)
  on-as f (at_symbol s z l e n i q) = at_symbol s z l e n i q

  unfoldable pub ruled-as : {size top first : ℕ} → ((p : ℕ) (x : Terminal) → p < size → next_kind c p ≡ 1 → At p x → Bt p x) → Ruled At c g size top first → Ruled Bt c g size top first
  ruled-as f k = record {
    dots = k.dots;
    heads = k.heads;
    count = k.count;
    stands = λ p h. on-as (λ x. f p x h) (k.stands p h);
    owned = k.owned;
    inner = k.inner;
    chains = k.chains;
    root-chain = k.root-chain;
    root-head = k.root-head;
    root-inside = k.root-inside;
    every = k.every;
    only = k.only;
    within = k.within;
    few = k.few;
    laid = k.laid;
    named = k.named;
    names = k.names;
  }

-- the rows of tests tell where the code's terminals fit
unfoldable pub fitted : {T c f f₀ : List ℕ} {g : Grammar} {R : Text} {size top first : ℕ} → Ruled (Token T) c g size top first → Rows T size R f₀ f → Ruled (Fitting f R) c g size top first
fitted k v = ruled-as (λ p x h z t i m. v.rows p h x t.0 t.1 i m) k
