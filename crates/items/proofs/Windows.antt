-- Stores into a table, and what its parts hold then.
use mathlib.Core.List.{List, ◌++◌}
use mathlib.Core.Path.{◌≡◌, refl, sym, ap, ◌∙◌}
use Prim.Native.Nat.{ℕ, suc, ◌+◌, ◌*◌, ◌-◌, ◌<◌, ◌≤◌}
use native.Mathlib.Numerals.{add-one, add-two}
use native.Mathlib.Omega.{arith}
use lib.ListN.{length, get_or, take, drop, length-append, length-drop}
use lib.Seq.{sets, length-sets, sets-eq, take_at, drop_at, get_or-take, get_or-drop}
use lib.Seq.{get_or-append-add, take-take, drop-drop, take-add, length-take-le}
use lib.Seq.{drop-cons}
use Rattle.repetitions.specs.Blocks.{Entry, entry, nums, entry_at, laid}
use Rattle.repetitions.proofs.Stores.{take-sets, drop-sets, drop-sets-add, laid_then, entry_kept}
use Rattle.items.specs.Machine.{Copied}

-- the k numbers from a on
pub win : List ℕ → ℕ → ℕ → List ℕ
win T a k = take k (drop a T)

pub win-before : (T xs : List ℕ) (a k i : ℕ) → a + k ≤ i → take k (drop a (sets T i xs)) ≡ take k (drop a T)
win-before T xs a k i h =
    ap (λ (j : ℕ). take k (drop a (sets T j xs))) (let e : i ≡ a + (i - a) = omega arith in e)
    ∙ ap (take k) (drop-sets-add xs T a (i - a))
    ∙ take-sets xs (drop a T) k (i - a) (omega arith)

pub win-after : (T xs : List ℕ) (a k i : ℕ) → i + length xs ≤ a → take k (drop a (sets T i xs)) ≡ take k (drop a T)
win-after T xs a k i h = ap (take k) (drop-sets xs T a i h)

pub win-end : (T xs : List ℕ) (a k n i : ℕ) → i ≡ a + k → n ≡ k + length xs → a + n ≤ length T → take n (drop a (sets T i xs)) ≡ take k (drop a T) ++ xs
win-end T xs a k n i e f h =
    ap (λ (j : ℕ). take n (drop a (sets T j xs))) e
    ∙ ap (take n) (drop-sets-add xs T a k ∙ sets-eq xs (drop a T) k (rw length-drop (omega arith)))
    ∙ take_at (take k (drop a T) ++ xs) (drop (k + length xs) (drop a T)) n
    (length-append (take k (drop a T)) xs ∙ ap (λ (m : ℕ). m + length xs) (length-take-le k (drop a T) (rw length-drop (omega arith)))
    ∙ sym f)

-- the lower part of the stack, an entry on it, and what stands above a mark
module _ (T : List ℕ) (d : ℕ) (under more : List ℕ) (c : ℕ) (stacked : take (3 * d) (drop 14848 T) ≡ under ++ more)
    (long : length under ≡ 3 * c) (low : 3 * c + length more ≡ 3 * d) where
  pub stack-under : take (3 * c) (drop 14848 T) ≡ under
  stack-under = sym (take-take (3 * c) (3 * d) (drop 14848 T) (omega arith)) ∙ ap (take (3 * c)) stacked ∙ take_at under more (3 * c) long

  pub stack_at : (j : ℕ) → j < length more → get_or T (14848 + 3 * c + j) 0 ≡ get_or more j 0
  stack_at j h =
      ap (λ (k : ℕ). get_or T k 0) (let e : 14848 + 3 * c + j ≡ 14848 + (3 * c + j) = omega arith in e)
      ∙ sym (get_or-drop 14848 T (3 * c + j) 0)
      ∙ sym (get_or-take (3 * d) (drop 14848 T) (3 * c + j) 0 (omega arith))
      ∙ ap (λ (l : List ℕ). get_or l (3 * c + j) 0) stacked
      ∙ ap (λ (k : ℕ). get_or (under ++ more) (k + j) 0) (sym long)
      ∙ get_or-append-add under more j 0

  -- the numbers above a lower part
  pub stack_above : (k : ℕ) → length more ≡ 3 * k → take (3 * k) (drop (14848 + 3 * c) T) ≡ more
  stack_above k w =
      ap (take (3 * k)) (sym (drop-drop (3 * c) 14848 T))
      ∙ sym (drop_at (take (3 * c) (drop 14848 T)) (take (3 * k) (drop (3 * c) (drop 14848 T))) (3 * c) (ap length stack-under ∙ long))
      ∙ ap (drop (3 * c)) (sym (take-add (3 * c) (3 * k) (drop 14848 T)) ∙ ap (λ (m : ℕ). take m (drop 14848 T)) (let e : 3 * c + 3 * k ≡ 3 * d = omega arith in e) ∙ stacked)
      ∙ drop_at under more (3 * c) long

pub three-at : (T : List ℕ) (m : ℕ) → m + 3 ≤ length T → take 3 (drop m T) ≡ nums (entry_at T m)
three-at T m h = rw (drop-cons T m 0 (omega arith), drop-cons T (suc m) 0 (omega arith), drop-cons T (suc (suc m)) 0 (omega arith), add-one, add-two)

-- the first k entries copied from the stack, one after the other
pub record Copying (T₀ : List ℕ) (i j : ℕ) (T : List ℕ) (k : ℕ) : Type 0 where
  pub table : T ≡ laid T₀ i (take (3 * k) (drop (14848 + 3 * j) T₀))

module _ {T₀ : List ℕ} {i j : ℕ} {T : List ℕ} {k : ℕ} (w : Copying T₀ i j T k) (size : length T₀ ≡ 16384) (fits : i + k ≤ 512) (high : j + k ≤ 512) where
  copied-length : length (take (3 * k) (drop (14848 + 3 * j) T₀)) ≡ 3 * k
  copied-length = length-take-le (3 * k) (drop (14848 + 3 * j) T₀) (rw length-drop (omega arith))

  pub copy-next : {T' : List ℕ} → i + k < 512 → j + k < 512 → T' ≡ laid T (i + k) (nums (entry_at T (14848 + 3 * (j + k)))) → Copying T₀ i j T' (k + 1)
  copy-next {T'} h l e =
      let kept : entry_at T (14848 + 3 * (j + k)) ≡ entry_at T₀ (14848 + 3 * (j + k)) = entry_kept T₀ i (take (3 * k) (drop (14848 + 3 * j) T₀))
      (14848 + 3 * (j + k)) w.table (omega (arith, copied-length)) in
      let more : nums (entry_at T₀ (14848 + 3 * (j + k))) ≡ take 3 (drop (3 * k) (drop (14848 + 3 * j) T₀)) = sym
      (ap (take 3) (drop-drop (3 * k) (14848 + 3 * j) T₀
      ∙ ap (λ (m : ℕ). drop m T₀) (let z : 14848 + 3 * j + 3 * k ≡ 14848 + 3 * (j + k) = omega arith in
      z)) ∙ three-at T₀ (14848 + 3 * (j + k)) (omega arith)) in
      record {
        table =
            laid_then T₀ i (i + k) (take (3 * k) (drop (14848 + 3 * j) T₀)) (nums (entry_at T₀ (14848 + 3 * (j + k)))) w.table
            (omega (arith, copied-length)) (e ∙ ap (λ (x : Entry). laid T (i + k) (nums x)) kept)
            ∙ ap (λ (l : List ℕ). laid T₀ i (take (3 * k) (drop (14848 + 3 * j) T₀) ++ l)) more
            ∙ ap (laid T₀ i) (sym (take-add (3 * k) 3 (drop (14848 + 3 * j) T₀))
            ∙ ap (λ (m : ℕ). take m (drop (14848 + 3 * j) T₀)) (let z : 3 * k + 3 ≡ 3 * (k + 1) = omega arith in z));
      }

  pub copy_done : {T' : List ℕ} {depth : ℕ} → depth ≡ j + k → T' ≡ laid T (i + k) (nums (entry 6 0 0)) → Copied T₀ i j depth (i + k + 1) T'
  copy_done d e = record {
    count = k;
    deep = d;
    table = laid_then T₀ i (i + k) (take (3 * k) (drop (14848 + 3 * j) T₀)) (nums (entry 6 0 0)) w.table (omega (arith, copied-length)) e;
    next = omega arith;
  }

pub copy_start : (T : List ℕ) (i j : ℕ) → Copying T i j T 0
copy_start T i j = record { table = refl }

pub copy-size : {T₀ : List ℕ} {i j : ℕ} {T : List ℕ} {k : ℕ} → Copying T₀ i j T k → length T ≡ length T₀
copy-size {T₀} {i} {j} {T} {k} w = ap length w.table ∙ length-sets T₀ (12288 + 3 * i) (take (3 * k) (drop (14848 + 3 * j) T₀))
