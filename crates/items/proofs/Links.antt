-- The table while names are linked.
use mathlib.Core.List.{List}
use mathlib.Core.Logic.{⊎_elim}
use mathlib.Core.Path.{◌≡◌, refl, sym, ap, ap₂, ◌∙◌, subst}
use Prim.Native.Nat.{ℕ, ◌+◌, ◌*◌, ◌<◌, ◌≤◌}
use native.Mathlib.Omega.{arith}
use lib.ListN.{length, get_or, drop, set, length-set}
use lib.Seq.{get_or-take, get_or-drop, get_or-set_other, get_or-set_same, take-set-le, drop-set-lt}
use Rattle.text.specs.Lists.{Text}
use Rattle.text.proofs.Tests.{split}
use Rattle.items.specs.Items.{kind_at, target_at, token_at}
use Rattle.repetitions.specs.Blocks.{kind_by}
use Rattle.items.specs.Linked.{NameAt, head_at, first_at, Found, Resolved, Beside, Single, Linked}

pub beside-row : {T T' : List ℕ} → Beside T T' → (j : ℕ) → get_or T' (13824 + j) 0 ≡ get_or T (13824 + j) 0
beside-row {T} {T'} b j = sym (get_or-drop 13824 T' j 0) ∙ ap (λ (l : List ℕ). get_or l j 0) b.rows ∙ get_or-drop 13824 T j 0

pub beside_head : {T T' : List ℕ} → Beside T T' → (j : ℕ) → head_at T' j ≡ head_at T j
beside_head b j = beside-row b (2 * j)

pub beside_first : {T T' : List ℕ} → Beside T T' → (j : ℕ) → first_at T' j ≡ first_at T j
beside_first {T} {T'} b j =
    let e : 13825 + 2 * j ≡ 13824 + (2 * j + 1) = omega arith in
    ap (λ (k : ℕ). get_or T' k 0) e ∙ beside-row b (2 * j + 1) ∙ ap (λ (k : ℕ). get_or T k 0) (sym e)

pub beside-token : {T T' : List ℕ} → Beside T T' → (j : ℕ) → j < 12288 → get_or T' j 0 ≡ get_or T j 0
beside-token {T} {T'} b j h = sym (get_or-take 12288 T' j 0 h) ∙ ap (λ (l : List ℕ). get_or l j 0) b.tokens ∙ get_or-take 12288 T j 0 h

pub beside-holding : {T T' : List ℕ} → Beside T T' → {a : ℕ} {x : Text} → NameAt T a x → NameAt T' a x
beside-holding b {a} h = record { more = h.more; stands = ap (drop (a + 1)) b.tokens ∙ h.stands }

pub beside-found : {T T' : List ℕ} {rules a a' r : ℕ} → Beside T T' → a' ≡ a → Found T' rules a' r → Found T rules a r
beside-found {T} {T'} {a = a} {a' = a'} {r = r} b e f = record {
  within = f.within;
  before = λ j l x y h k. f.before j l x y (subst (λ (z : ℕ). NameAt T' z x) (sym e) (beside-holding b h)) (subst (λ (z : ℕ). NameAt T' z y) (sym (beside_head b j)) (beside-holding b k));
  there = λ l x y h k. f.there l x y (subst (λ (z : ℕ). NameAt T' z x) (sym e) (beside-holding b h)) (subst (λ (z : ℕ). NameAt T' z y) (sym (beside_head b r)) (beside-holding b k));
}

pub beside-refl : (T : List ℕ) → Beside T T
beside-refl T = record { tokens = refl; rows = refl }

pub beside-then : {T T' T'' : List ℕ} → Beside T T' → Beside T' T'' → Beside T T''
beside-then b c = record { tokens = c.tokens ∙ b.tokens; rows = c.rows ∙ b.rows }

-- an item that is no name is left
pub single-kept : (T : List ℕ) (rules p : ℕ) → (kind_at T p ≡ 2 → ⊥) → Single T rules T p
single-kept T rules p d = record {
  beside = beside-refl T;
  item = record { token = refl; kept = λ z. (refl, refl); row = 0; found = λ e. absurd (d e); linked = λ e. absurd (d e) };
  others = λ q z. (refl, refl, refl);
}

-- nothing can be written
pub single-none : (T : List ℕ) (rules p r : ℕ) → kind_at T p ≡ 2 → Found T rules (token_at T p) r → (token_at T p < 12288 → head_at T r < 12288 → ⊥) → Single T rules T p
single-none T rules p r e f d = record {
  beside = beside-refl T;
  item = record { token = refl; kept = λ z. (refl, refl); row = r; found = λ z. f; linked = λ z l h k. absurd (d h k) };
  others = λ q z. (refl, refl, refl);
}

-- kind and target written
abbrev pub written : List ℕ → ℕ → ℕ → ℕ → List ℕ
written T p k t = set (set T (12288 + 3 * p) k) (12289 + 3 * p) t

module _ (T : List ℕ) (p k t : ℕ) (size : length T ≡ 16384) (small : p < 512) where
  written-other : (j : ℕ) → (j ≡ 12288 + 3 * p → ⊥) → (j ≡ 12289 + 3 * p → ⊥) → get_or (written T p k t) j 0 ≡ get_or T j 0
  written-other j a b = get_or-set_other (set T (12288 + 3 * p) k) (12289 + 3 * p) j t 0 b ∙ get_or-set_other T (12288 + 3 * p) j k 0 a

  written-kind : kind_at (written T p k t) p ≡ k
  written-kind = get_or-set_other (set T (12288 + 3 * p) k) (12289 + 3 * p) (12288 + 3 * p) t 0 (λ e. omega arith) ∙ get_or-set_same T (12288 + 3 * p) k 0 (omega arith)

  written-target : target_at (written T p k t) p ≡ t
  written-target = get_or-set_same (set T (12288 + 3 * p) k) (12289 + 3 * p) t 0 (rw length-set (omega arith))

  pub single-written : (rules r : ℕ) → kind_at T p ≡ 2 → Found T rules (token_at T p) r
      → k ≡ kind_by (get_or T (token_at T p) 0) (get_or T (head_at T r) 0) → t ≡ first_at T r → Single T rules (written T p k t) p
  single-written rules r e f a b = record {
    beside = record {
      tokens = take-set-le 12288 (set T (12288 + 3 * p) k) (12289 + 3 * p) t (omega arith) ∙ take-set-le 12288 T (12288 + 3 * p) k (omega arith);
      rows = drop-set-lt 13824 (set T (12288 + 3 * p) k) (12289 + 3 * p) t (omega arith) ∙ drop-set-lt 13824 T (12288 + 3 * p) k (omega arith);
    };
    item = record {
      token = written-other (12290 + 3 * p) (λ z. omega arith) (λ z. omega arith);
      kept = λ z. absurd (z e);
      row = r;
      found = λ z. f;
      linked = λ z l h m. (written-kind ∙ a, written-target ∙ b);
    };
    others = λ q d. (
      written-other (12288 + 3 * q) (λ z. d (omega arith)) (λ z. omega arith),
      written-other (12289 + 3 * q) (λ z. omega arith) (λ z. d (omega arith)),
      written-other (12290 + 3 * q) (λ z. omega arith) (λ z. omega arith),
    );
  }

-- the items below p are linked
pub record Linking (T₀ : List ℕ) (rules : ℕ) (T : List ℕ) (p : ℕ) : Type 0 where
  pub size : length T ≡ length T₀
  pub beside : Beside T₀ T
  pub done : (q : ℕ) → q < p → Resolved T₀ rules T q
  pub todo : (q : ℕ) → p ≤ q → (kind_at T q ≡ kind_at T₀ q) × (target_at T q ≡ target_at T₀ q) × (token_at T q ≡ token_at T₀ q)

pub linking-start : (T : List ℕ) (rules : ℕ) → Linking T rules T 0
linking-start T rules = record { size = refl; beside = beside-refl T; done = λ q h. absurd (omega arith); todo = λ q h. (refl, refl, refl) }

-- an item that was resolved, seen from the first table
resolved-from : (T₀ T T' : List ℕ) (rules p : ℕ) → Beside T₀ T → (kind_at T p ≡ kind_at T₀ p) × (target_at T p ≡ target_at T₀ p)
    × (token_at T p ≡ token_at T₀ p) → Resolved T rules T' p → Resolved T₀ rules T' p
resolved-from T₀ T T' rules p b s r = record {
  token = r.token ∙ s.2;
  kept = λ d. let k = r.kept (λ e. d (sym s.0 ∙ e)) in (k.0 ∙ s.0, k.1 ∙ s.1);
  row = r.row;
  found = λ e. beside-found b s.2 (r.found (s.0 ∙ e));
  linked = λ e l h m.
      let h' : token_at T p < 12288 = omega (arith, s.2) in
      let m' : head_at T r.row < 12288 = omega (arith, beside_head b r.row) in
      let k = r.linked (s.0 ∙ e) l h' m' in (
        k.0 ∙ ap₂ kind_by (ap (λ (j : ℕ). get_or T j 0) s.2 ∙ beside-token b (token_at T₀ p) h)
            (ap (λ (j : ℕ). get_or T j 0) (beside_head b r.row) ∙ beside-token b (head_at T₀ r.row) m),
        k.1 ∙ beside_first b r.row,
      );
}

-- an item stays resolved while others are written
resolved-later : (T₀ T T' : List ℕ) (rules p : ℕ) → (kind_at T' p ≡ kind_at T p) × (target_at T' p ≡ target_at T p)
    × (token_at T' p ≡ token_at T p) → Resolved T₀ rules T p → Resolved T₀ rules T' p
resolved-later T₀ T T' rules p s r = record {
  token = s.2 ∙ r.token;
  kept = λ d. (s.0 ∙ (r.kept d).0, s.1 ∙ (r.kept d).1);
  row = r.row;
  found = r.found;
  linked = λ e l h m. (s.0 ∙ (r.linked e l h m).0, s.1 ∙ (r.linked e l h m).1);
}

pub linking-next : {T₀ : List ℕ} {rules : ℕ} {T : List ℕ} {p : ℕ} → Linking T₀ rules T p → (T' : List ℕ) → length T' ≡ length T
    → Single T rules T' p → Linking T₀ rules T' (p + 1)
linking-next {T₀} {rules} {T} {p} w T' l s = record {
  size = l ∙ w.size;
  beside = beside-then w.beside s.beside;
  done = λ q h. ⊎_elim (λ b. resolved-later T₀ T T' rules q (s.others q (λ e. omega arith)) (w.done q b))
      (λ b. subst (Resolved T₀ rules T') (let z : p ≡ q = omega arith in
      z) (resolved-from T₀ T T' rules p w.beside (w.todo p (omega arith)) s.item)) (split q p);
  todo = λ q h. let a = s.others q (λ e. omega arith) in let b = w.todo q (omega arith) in (a.0 ∙ b.0, a.1 ∙ b.1, a.2 ∙ b.2);
}

pub linking-done : {T₀ : List ℕ} {rules : ℕ} {T : List ℕ} {p : ℕ} (items : ℕ) → Linking T₀ rules T p → items ≤ p → Linked T₀ items rules T
linking-done items w h = record { beside = w.beside; item = λ q l. w.done q (omega arith) }
