-- Numbers of sets in the table's cells.
use mathlib.Core.Bool.{Bool, true, false, ◌||◌}
use mathlib.Core.List.{List}
use mathlib.Core.Logic.{◌⊎◌, inl, inr, ⊎_elim}
use mathlib.Core.Path.{◌≡◌, refl, sym, ap, subst, ◌∙◌}
use Prim.Native.Nat.{ℕ, ◌+◌, ◌/◌, ◌%◌, ◌<◌, ◌≤◌}
use native.Mathlib.Decide.{ℕ_discrete, dec_lt}
use native.Mathlib.Omega.{arith}
use lib.ListN.{length, get_or, set, length-set}
use lib.Seq.{get_or-set_same, get_or-set_other}
use Rattle.bits.specs.Bits.{Lit, Has, Union, Grows}
use Rattle.bits.proofs.Laws.{lit-zero, lit-set, lit-stored}
use Rattle.bits.proofs.Grows.{grows_start, grows-join, grows-set}
use Rattle.chart.specs.Heights.{cell_at}
use Rattle.heights.proofs.Cells.{cell-inj}
use Rattle.moves.specs.Moves.{column_of, Derived}
use Rattle.moves.proofs.Cells.{column-on}
use Rattle.ends.specs.Table.{Kept, Finished, Cleared}

-- a number is stored in the rule's row at m
module _ {n e m w at : ℕ} (hm : m ≤ n) (hw : w ≤ n / 32) (lo : m / 32 ≤ w) (i : at ≡ cell_at n e m (column_of n w)) where
  pub stored : {t : List ℕ} {r e' x j : ℕ} → x ≤ n → Derived n (set t at r) e' x j → Derived n t e' x j ⊎
      ((e' ≡ e) × (x ≡ m) × (j / 32 ≡ w) × Lit r (j % 32) × (cell_at n e' x (column_of n (j / 32)) ≡ at))
  stored {t} {r} {e'} {x} {j} hx d = ⊎_elim one (λ z. inl (record { order = d.order; inside = d.inside; lit = z })) (lit-stored t at (cell_at n e' x (column_of n (j / 32))) d.lit)
    where
      one : (cell_at n e' x (column_of n (j / 32)) ≡ at) × Lit r (j % 32) → Derived n t e' x j ⊎ ((e' ≡ e) × (x ≡ m) × (j / 32 ≡ w) × Lit r (j % 32) × (cell_at n e' x (column_of n (j / 32)) ≡ at))
      one z =
          let a = column-on n (j / 32) x d.inside hx d.order in
          let b = column-on n w m hw hm lo in
          let s = cell-inj n e' x (column_of n (j / 32)) e m (column_of n w) a.0 a.1 b.0 b.1 (z.0 ∙ i) in
          inr (s.same-p, s.same-i, omega (arith, s.same-j, hw, d.inside), z.1, z.0)

-- the numbers of the rule's row at m before w take in those of a set
pub record Finishing (n : ℕ) (t t' : List ℕ) (e m : ℕ) (S : List ℕ) (w : ℕ) (r : Bool) : Type 0 where
  pub long : length t' ≡ length t
  pub is : (e' x j : ℕ) → x ≤ n → Derived n t' e' x j → Derived n t e' x j ⊎ ((e' ≡ e) × (x ≡ m) × Has S j)
  pub kept : Kept n t t'
  pub all : (j : ℕ) → Has S j → m / 32 ≤ j / 32 → j / 32 < w → Derived n t' e m j
  pub grows : Grows t t' r

-- a number that grows loses no end
pub grown-kept : {n at r b : ℕ} (t : List ℕ) → at < length t → Union (get_or t at 0) b r → Kept n t (set t at r)
grown-kept {n} {at} {r} t h u e x j d = record { order = d.order; inside = d.inside; lit = go (cell_at n e x (column_of n (j / 32))) d.lit (ℕ_discrete (cell_at n e x (column_of n (j / 32))) at) }
  where
    go : (y : ℕ) → Lit (get_or t y 0) (j % 32) → Dec (y ≡ at) → Lit (get_or (set t at r) y 0) (j % 32)
    go y l (yes e) = subst (λ (k : ℕ). Lit (get_or (set t at r) k 0) (j % 32)) (sym e)
        (subst (λ (k : ℕ). Lit k (j % 32)) (sym (get_or-set_same t at r 0 h)) (u.all (j % 32) (inl (subst (λ (k : ℕ). Lit (get_or t k 0) (j % 32)) e l))))
    go y l (no d) = subst (λ (k : ℕ). Lit k (j % 32)) (sym (get_or-set_other t at y r 0 d)) l

pub finish-start : {n e m w : ℕ} {t S : List ℕ} → w ≤ m / 32 → Finishing n t t e m S w false
finish-start h = record { long = refl; is = λ e' x j h d. inl d; kept = λ e x j d. d; all = λ j s l i. absurd (omega (arith, l, i, h)); grows = grows_start }

module _ {n e m w at : ℕ} (hm : m ≤ n) (hw : w ≤ n / 32) (lo : m / 32 ≤ w) (i : at ≡ cell_at n e m (column_of n w)) where
  pub finish-step : {t₀ t S : List ℕ} {r : ℕ} {g g' b : Bool} → at < length t → Finishing n t₀ t e m S w g → Union (get_or t at 0) (get_or S w 0) r → g' ≡ (g || b)
      → (b ≡ true → r ≡ get_or t at 0 → ⊥) → (b ≡ false → r ≡ get_or t at 0) → Finishing n t₀ (set t at r) e m S (w + 1) g'
  finish-step {t₀} {t} {S} {r} {g} {g'} {b} h f u z p q = record {
    long = length-set t at r ∙ f.long;
    is = λ e' x j hx d. ⊎_elim (f.is e' x j hx) (new e' x j hx d) (stored hm hw lo i hx d);
    kept = λ e x j d. grown-kept t h u e x j (f.kept e x j d);
    all = λ j s l k. all j s l k (dec_lt (j / 32) w);
    grows = grows-join g b f.grows (grows-set t h refl u.above u.most p q) z;
  }
    where
      new : (e' x j : ℕ) → x ≤ n → Derived n (set t at r) e' x j → (e' ≡ e) × (x ≡ m) × (j / 32 ≡ w) × Lit r (j % 32) × (cell_at n e' x (column_of n (j / 32)) ≡ at)
          → Derived n t₀ e' x j ⊎ ((e' ≡ e) × (x ≡ m) × Has S j)
      new e' x j hx d z =
          ⊎_elim (λ y. f.is e' x j hx (record { order = d.order; inside = d.inside; lit = subst (λ (k : ℕ). Lit (get_or t k 0) (j % 32)) (sym z.4) y }))
          (λ y. inr (z.0, z.1, record { lit = subst (λ (k : ℕ). Lit (get_or S k 0) (j % 32)) (sym z.2) y })) (u.is (j % 32) z.3)

      all : (j : ℕ) → Has S j → m / 32 ≤ j / 32 → j / 32 < w + 1 → Dec (j / 32 < w) → Derived n (set t at r) e m j
      all j s l k (yes y) = grown-kept t h u e m j (f.all j s l y)
      all j s l k (no y) =
          let v : w ≡ j / 32 = omega (arith, k, y) in
          let x : at ≡ cell_at n e m (column_of n (j / 32)) = i ∙ ap (λ (k : ℕ). cell_at n e m (column_of n k)) v in
          record {
            order = l;
            inside = omega (arith, v, hw);
            lit = subst (λ (k : ℕ). Lit (get_or (set t at r) k 0) (j % 32)) x (subst (λ (k : ℕ). Lit k (j % 32)) (sym (get_or-set_same t at r 0 h))
                (u.all (j % 32) (inr (subst (λ (k : ℕ). Lit (get_or S k 0) (j % 32)) (sym v) s.lit))));
          }

pub finish-end : {n e m w : ℕ} {t t' S : List ℕ} {g : Bool} → n / 32 < w → Finishing n t t' e m S w g → Finished n t t' e m S g
finish-end h f = record { long = f.long; is = f.is; kept = f.kept; all = λ j s l i. f.all j s (omega (arith, l)) (omega (arith, i, h)); grows = f.grows }

-- numbers of the rule's row at m before w are 0
pub record Clearing (n : ℕ) (t t' : List ℕ) (e m w : ℕ) : Type 0 where
  pub long : length t' ≡ length t
  pub none : (j : ℕ) → j / 32 < w → Derived n t' e m j → ⊥
  pub same : (e' x j : ℕ) → x ≤ n → Derived n t' e' x j → Derived n t e' x j
  pub kept : (e' x j : ℕ) → x ≤ n → m < x → Derived n t e' x j → Derived n t' e' x j

pub clear-start : {n e m : ℕ} {t : List ℕ} → Clearing n t t e m (m / 32)
clear-start = record { long = refl; none = λ j h d. omega (arith, h, d.order); same = λ e' x j h d. d; kept = λ e' x j h l d. d }

pub clear_step : {n e m w at : ℕ} {t₀ t : List ℕ} → m ≤ n → w ≤ n / 32 → m / 32 ≤ w → at ≡ cell_at n e m (column_of n w) → Clearing n t₀ t e m w → Clearing n t₀ (set t at 0) e m (w + 1)
clear_step {n} {e} {m} {w} {at} {t₀} {t} hm hw lo i f = record {
  long = length-set t at 0 ∙ f.long;
  none = λ j h d. go j h d (dec_lt (j / 32) w);
  same = λ e' x j h d. ⊎_elim (f.same e' x j h) (λ z. absurd (lit-zero refl z.3)) (stored hm hw lo i h d);
  kept = λ e' x j h l d. other e' x j h l (f.kept e' x j h l d);
}
  where
    other : (e' x j : ℕ) → x ≤ n → m < x → Derived n t e' x j → Derived n (set t at 0) e' x j
    other e' x j h l d = record { order = d.order; inside = d.inside; lit = subst (λ (k : ℕ). Lit k (j % 32)) (sym (get_or-set_other t at (cell_at n e' x (column_of n (j / 32))) 0 0 apart)) d.lit }
      where
        apart : cell_at n e' x (column_of n (j / 32)) ≡ at → ⊥
        apart z =
            let a = column-on n (j / 32) x d.inside h d.order in
            let b = column-on n w m hw hm lo in
            let s = cell-inj n e' x (column_of n (j / 32)) e m (column_of n w) a.0 a.1 b.0 b.1 (z ∙ i) in
            omega (arith, s.same-i, l)

    go : (j : ℕ) → j / 32 < w + 1 → Derived n (set t at 0) e m j → Dec (j / 32 < w) → ⊥
    go j h d (yes z) = ⊎_elim (λ u. f.none j z u) (λ u. lit-zero refl u.3) (stored hm hw lo i hm d)
    go j h d (no z) =
        let q : w ≡ j / 32 = omega (arith, h, z) in
        let at_one = subst (λ (v : ℕ). Lit (get_or (set t at 0) v 0) (j % 32)) (sym (i ∙ ap (λ (v : ℕ). cell_at n e m (column_of n v)) q)) d.lit in
        lit-zero refl (lit-set t at at_one)

pub clear-end : {n e m w : ℕ} {t t' : List ℕ} → n / 32 < w → Clearing n t t' e m w → Cleared n t t' e m
clear-end h f = record { long = f.long; none = λ j d. f.none j (omega (arith, h, d.inside)) d; same = f.same; kept = f.kept }
