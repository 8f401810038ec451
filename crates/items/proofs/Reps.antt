-- What the machine's stores do to a table that has a state.
use mathlib.Core.Bool.{Bool, true, false}
use mathlib.Core.List.{List, [], ◌∷◌, ◌++◌, append_assoc}
use mathlib.Core.Path.{◌≡◌, refl, sym, ap, ◌∙◌, subst}
use Prim.Native.Nat.{ℕ, ◌+◌, ◌*◌, ◌<◌, ◌≤◌}
use native.Mathlib.Omega.{arith}
use lib.Dec.{eqb}
use lib.ListN.{length, get_or, take, drop, length-append, length-take}
use lib.Seq.{sets, length-sets, take-take, take_at}
use Rattle.text.specs.Lists.{pick}
use Rattle.items.specs.declared.State.{State}
use Rattle.items.specs.declared.Action.{Action}
use Rattle.repetitions.specs.Blocks.{Entry, entry, nums, entry_at, both_ends, once_block, option_block, star_block, list_block}
use Rattle.repetitions.specs.Blocks.{one_block, one_count, one_first, two_block, two_count, two_first, laid}
use Rattle.items.specs.Machine.{Abs, pushed, One, Two, Block}
use Rattle.items.specs.Machine.{Closed, Finished, Fit, Has, Rep, Copied, Space, Act, Ready}
use Rattle.repetitions.proofs.Stores.{take-sets, entry_kept}
use Rattle.items.proofs.Windows.{win-before, win-after, win-end, stack_at, stack_above}

pub one-length : (k : ℕ) (f : Entry) (i : ℕ) → length (one_block k f i) ≡ 3 * one_count k
unfolding one_block one_count
one-length k f i = both (eqb k 34) (eqb k 35)
  where
    both : (p q : Bool) → length (pick p (option_block f) (pick q (star_block f i) (star_block f i ++ once_block f i))) ≡ 3 * pick p 3 (pick q 4 7)
    both true q = refl
    both false true = refl
    both false false = refl

pub two-length : (k : ℕ) (f sep : Entry) (i : ℕ) → length (two_block k f sep i) ≡ 3 * two_count k
unfolding two_block two_count
two-length k f sep i = both (eqb k 38)
  where
    both : (p : Bool) → length (pick p (list_block f sep i) (list_block f sep i ++ (4 ∷ (i + 5) ∷ f.token ∷ both_ends))) ≡ 3 * pick p 8 11
    both true = refl
    both false = refl

abbrev pub longer : Abs → List ℕ → ℕ → Abs
longer a xs m = record { tokens = a.tokens; list = a.list ++ xs; items = a.items + m; rows = a.rows; rules = a.rules; stack = a.stack; depth = a.depth; base = a.base }

abbrev pub cut : Abs → List ℕ → ℕ → ℕ → Abs
cut a under c b = record { tokens = a.tokens; list = a.list; items = a.items; rows = a.rows; rules = a.rules; stack = under; depth = c; base = b }

abbrev pub rowed : Abs → ℕ → ℕ → Abs
rowed a p x = record { tokens = a.tokens; list = a.list; items = a.items; rows = a.rows ++ (p ∷ x ∷ []); rules = a.rules + 1; stack = a.stack; depth = a.depth; base = a.base }

module _ {T : List ℕ} {a : Abs} (h : Has T a) where
  pub has-laid : (i : ℕ) (xs : List ℕ) (m : ℕ) → i ≡ a.items → length xs ≡ 3 * m → a.items + m ≤ 512 → Has (laid T i xs) (longer a xs m)
  has-laid i xs m e w r = record {
    size = length-sets T (12288 + 3 * i) xs ∙ h.size;
    fit = record { items = r; rules = h.fit.rules; depth = h.fit.depth; base = h.fit.base };
    tokens = take-sets xs T 12288 (12288 + 3 * i) (omega arith) ∙ h.tokens;
    list = win-end T xs 12288 (3 * a.items) (3 * (a.items + m)) (12288 + 3 * i) (omega arith) (omega arith) (omega (arith, h.size)) ∙ ap (λ (l : List ℕ). l ++ xs) h.list;
    rows = win-after T xs 13824 (2 * a.rules) (12288 + 3 * i) (omega arith) ∙ h.rows;
    stack = win-after T xs 14848 (3 * a.depth) (12288 + 3 * i) (omega arith) ∙ h.stack;
  }

  pub has-cut : (under more : List ℕ) (c b : ℕ) → a.stack ≡ under ++ more → length under ≡ 3 * c → c ≤ a.depth → b ≤ 512 → Has T (cut a under c b)
  has-cut under more c b e w l small = record {
    size = h.size;
    fit = record { items = h.fit.items; rules = h.fit.rules; depth = omega (arith, h.fit.depth); base = small };
    tokens = h.tokens;
    list = h.list;
    rows = h.rows;
    stack = sym (take-take (3 * c) (3 * a.depth) (drop 14848 T) (omega arith)) ∙ ap (take (3 * c)) (h.stack ∙ e) ∙ take_at under more (3 * c) w;
  }

  pub has_push : (d : ℕ) (e : Entry) (b : ℕ) → d ≡ a.depth → a.depth + 1 ≤ 512 → b ≤ 512 → Has (sets T (14848 + 3 * d) (nums e)) (pushed a e b)
  has_push d e b q r small = record {
    size = length-sets T (14848 + 3 * d) (nums e) ∙ h.size;
    fit = record { items = h.fit.items; rules = h.fit.rules; depth = r; base = small };
    tokens = take-sets (nums e) T 12288 (14848 + 3 * d) (omega arith) ∙ h.tokens;
    list = win-before T (nums e) 12288 (3 * a.items) (14848 + 3 * d) (omega (arith, h.fit.items)) ∙ h.list;
    rows = win-before T (nums e) 13824 (2 * a.rules) (14848 + 3 * d) (omega (arith, h.fit.rules)) ∙ h.rows;
    stack = win-end T (nums e) 14848 (3 * a.depth) (3 * (a.depth + 1)) (14848 + 3 * d) (omega arith) (omega arith) (omega (arith, h.size)) ∙ ap (λ (l : List ℕ). l ++ nums e) h.stack;
  }

  pub has-row : (r p x : ℕ) → r ≡ a.rules → a.rules + 1 ≤ 512 → Has (sets T (13824 + 2 * r) (p ∷ x ∷ [])) (rowed a p x)
  has-row r p x q l = record {
    size = length-sets T (13824 + 2 * r) (p ∷ x ∷ []) ∙ h.size;
    fit = record { items = h.fit.items; rules = l; depth = h.fit.depth; base = h.fit.base };
    tokens = take-sets (p ∷ x ∷ []) T 12288 (13824 + 2 * r) (omega arith) ∙ h.tokens;
    list = win-before T (p ∷ x ∷ []) 12288 (3 * a.items) (13824 + 2 * r) (omega (arith, h.fit.items)) ∙ h.list;
    rows = win-end T (p ∷ x ∷ []) 13824 (2 * a.rules) (2 * (a.rules + 1)) (13824 + 2 * r) (omega arith) (omega arith)
        (omega (arith, h.size)) ∙ ap (λ (l : List ℕ). l ++ (p ∷ x ∷ [])) h.rows;
    stack = win-after T (p ∷ x ∷ []) 14848 (3 * a.depth) (13824 + 2 * r) (omega arith) ∙ h.stack;
  }

entries : {a b c a' b' c' : ℕ} → a ≡ a' → b ≡ b' → c ≡ c' → entry a b c ≡ entry a' b' c'
entries p q r = λ i. entry (p i) (q i) (r i)

-- an entry of the stack
pub entry-under : {T : List ℕ} {a : Abs} (h : Has T a) (under : List ℕ) (f : Entry) (more : List ℕ) (c from : ℕ) → a.stack ≡ under
    ++ (nums f ++ more) → length under ≡ 3 * c → 3 * c + (3 + length more) ≡ 3 * a.depth → from ≡ 14848 + 3 * c → entry_at T from ≡ f
entry-under {T} {a} h under f more c from e w l q =
    ap (λ (k : ℕ). entry_at T k) q
    ∙ entries (ap (λ (k : ℕ). get_or T k 0) (let z : 14848 + 3 * c ≡ 14848 + 3 * c + 0 = omega arith in z) ∙ at 0 (omega arith)) (at 1 (omega arith)) (at 2 (omega arith))
  where
    at : (j : ℕ) → j < length (nums f ++ more) → get_or T (14848 + 3 * c + j) 0 ≡ get_or (nums f ++ more) j 0
    at j i = stack_at T a.depth under (nums f ++ more) c (h.stack ∙ e) w (omega arith) j i

pub rep-one : {T : List ℕ} {a b : Abs} {T₁ T₂ : List ℕ} (k n d from first : ℕ) (h : Has T a) (o : One k a b) → Fit b → n ≡ a.items
    → d + 1 ≡ a.depth → from ≡ 14848 + 3 * d → T₁ ≡ laid T n (one_block k (entry_at T from) n) → first ≡ n + one_first k
    → T₂ ≡ sets T₁ from (nums (entry 4 first (get_or T₁ (from + 2) 0))) → Has T₂ b
rep-one {T} {a} {b} {T₁} {T₂} k n d from first h o fit en ed ef e₁ e₃ e₂ =
    let c = o.count in
    let dc : d ≡ c = omega (arith, o.deep) in
    let ff : entry_at T from ≡ o.f = entry-under h o.under o.f [] c from o.stacked o.long (omega (arith, o.deep)) (omega arith) in
    let items : a.items + one_count k ≤ 512 = subst (λ (z : Abs). z.items ≤ 512) o.result fit.items in
    let deep : c + 1 ≤ 512 = subst (λ (z : Abs). z.depth ≤ 512) o.result fit.depth in
    let tk : get_or T₁ (from + 2) 0 ≡ o.f.token = ap (λ (e : Entry). e.token)
    (entry_kept T n (one_block k (entry_at T from) n) from e₁ (omega (arith, one-length k (entry_at T from) n)) ∙ ff) in
    let e₄ : T₁ ≡ laid T n (one_block k o.f a.items) = e₁ ∙ ap (λ (f : Entry). laid T n (one_block k f n)) ff ∙ ap (λ (m : ℕ). laid T n (one_block k o.f m)) en in
    let u : Has (laid T n (one_block k o.f a.items)) (longer a (one_block k o.f a.items) (one_count k)) = has-laid h n
    (one_block k o.f a.items) (one_count k) en (one-length k o.f a.items) items in
    let v = has-cut u o.under (nums o.f) c a.base o.stacked o.long (omega (arith, o.deep)) h.fit.base in
    let w = has_push v d (entry 4 (a.items + one_first k) o.f.token) a.base dc deep h.fit.base in
    let e₅ : T₂ ≡ sets (laid T n (one_block k o.f a.items)) (14848 + 3 * d) (nums (entry 4 (a.items + one_first k) o.f.token)) = e₂
    ∙ ap (λ (t : ℕ). sets T₁ from (nums (entry 4 first t))) tk
    ∙ ap (λ (l : List ℕ). sets l from (nums (entry 4 first o.f.token))) e₄
    ∙ ap (λ (j : ℕ). sets (laid T n (one_block k o.f a.items)) j (nums (entry 4 first o.f.token))) ef
    ∙ ap (λ (x : ℕ). sets (laid T n (one_block k o.f a.items)) (14848 + 3 * d) (nums (entry 4 x o.f.token)))
    (e₃ ∙ ap (λ (m : ℕ). m + one_first k) en) in
    subst (λ (z : Abs). Has T₂ z) (sym o.result) (subst
    (λ (l : List ℕ). Has l (pushed (cut (longer a (one_block k o.f a.items) (one_count k)) o.under c a.base)
    (entry 4 (a.items + one_first k) o.f.token) a.base)) (sym e₅) w)

pub rep-two : {T : List ℕ} {a b : Abs} {T₁ T₂ : List ℕ} (k n d from first : ℕ) (h : Has T a) (o : Two k a b) → Fit b → n ≡ a.items
    → d + 2 ≡ a.depth → from ≡ 14848 + 3 * d → T₁ ≡ laid T n (two_block k (entry_at T from) (entry_at T (from + 3)) n)
    → first ≡ n + two_first k → T₂ ≡ sets T₁ from (nums (entry 4 first (get_or T₁ (from + 2) 0))) → Has T₂ b
rep-two {T} {a} {b} {T₁} {T₂} k n d from first h o fit en ed ef e₁ e₃ e₂ =
    let c = o.count in
    let dc : d ≡ c = omega (arith, o.deep) in
    let ff : entry_at T from ≡ o.f = entry-under h o.under o.f (nums o.sep) c from o.stacked o.long (omega (arith, o.deep)) (omega arith) in
    let gg : entry_at T (from + 3) ≡ o.sep = entry-under h (o.under ++ nums o.f) o.sep [] (c + 1) (from + 3)
    (o.stacked ∙ sym (append_assoc o.under (nums o.f) (nums o.sep)))
    (length-append o.under (nums o.f) ∙ (let z : length o.under + 3 ≡ 3 * (c + 1) = omega (arith, o.long) in
    z)) (omega (arith, o.deep)) (omega arith) in
    let items : a.items + two_count k ≤ 512 = subst (λ (z : Abs). z.items ≤ 512) o.result fit.items in
    let deep : c + 1 ≤ 512 = subst (λ (z : Abs). z.depth ≤ 512) o.result fit.depth in
    let xs = two_block k o.f o.sep a.items in
    let tk : get_or T₁ (from + 2) 0 ≡ o.f.token = ap (λ (e : Entry). e.token)
    (entry_kept T n (two_block k (entry_at T from) (entry_at T (from + 3)) n) from e₁ (omega (arith, two-length k (entry_at T from) (entry_at T (from + 3)) n)) ∙ ff) in
    let e₄ : T₁ ≡ laid T n (two_block k o.f o.sep a.items) = e₁
    ∙ ap (λ (f : Entry). laid T n (two_block k f (entry_at T (from + 3)) n)) ff ∙ ap (λ (g : Entry). laid T n (two_block k o.f g n)) gg
    ∙ ap (λ (m : ℕ). laid T n (two_block k o.f o.sep m)) en in
    let u : Has (laid T n (two_block k o.f o.sep a.items))
    (longer a (two_block k o.f o.sep a.items) (two_count k)) = has-laid h n (two_block k o.f o.sep a.items) (two_count k)
    en (two-length k o.f o.sep a.items) items in
    let v = has-cut u o.under (nums o.f ++ nums o.sep) c a.base o.stacked o.long (omega (arith, o.deep)) h.fit.base in
    let w = has_push v d (entry 4 (a.items + two_first k) o.f.token) a.base dc deep h.fit.base in
    let e₅ : T₂ ≡ sets (laid T n (two_block k o.f o.sep a.items)) (14848 + 3 * d) (nums (entry 4 (a.items + two_first k) o.f.token)) = e₂
    ∙ ap (λ (t : ℕ). sets T₁ from (nums (entry 4 first t))) tk
    ∙ ap (λ (l : List ℕ). sets l from (nums (entry 4 first o.f.token))) e₄
    ∙ ap (λ (j : ℕ). sets (laid T n (two_block k o.f o.sep a.items)) j (nums (entry 4 first o.f.token))) ef
    ∙ ap (λ (x : ℕ). sets (laid T n (two_block k o.f o.sep a.items)) (14848 + 3 * d) (nums (entry 4 x o.f.token)))
    (e₃ ∙ ap (λ (m : ℕ). m + two_first k) en) in
    subst (λ (z : Abs). Has T₂ z) (sym o.result) (subst
    (λ (l : List ℕ). Has l (pushed (cut (longer a (two_block k o.f o.sep a.items) (two_count k)) o.under c a.base)
    (entry 4 (a.items + two_first k) o.f.token) a.base)) (sym e₅) w)

-- a block above a mark
module _ {T : List ℕ} {a : Abs} (h : Has T a) (o : Block a) where
  mark-long : 3 * a.base + (3 + length o.body) ≡ 3 * a.depth
  mark-long = omega (arith, o.deep, o.wide)

  pub mark-at : entry_at T (14848 + 3 * a.base) ≡ entry 0 o.old o.place
  mark-at = entry-under h o.under (entry 0 o.old o.place) o.body a.base (14848 + 3 * a.base) o.stacked o.long mark-long refl

  above : take (3 * o.count) (drop (14848 + 3 * (a.base + 1)) T) ≡ o.body
  above = stack_above T a.depth (o.under ++ nums (entry 0 o.old o.place)) o.body (a.base + 1)
      (h.stack ∙ o.stacked ∙ sym (append_assoc o.under (nums (entry 0 o.old o.place)) o.body))
      (length-append o.under (nums (entry 0 o.old o.place))
      ∙ (let z : length o.under + 3 ≡ 3 * (a.base + 1) = omega (arith, o.long) in
      z)) (omega (arith, o.deep, o.wide)) o.count o.wide

  pub has_block : {T₁ : List ℕ} (n b d r : ℕ) → n ≡ a.items → b ≡ a.base → d ≡ a.depth → Copied T n (b + 1) d r T₁
      → a.items + (o.count + 1) ≤ 512 → Has T₁ (longer a (o.body ++ nums (entry 6 0 0)) (o.count + 1)) × (r ≡ n + (o.count + 1))
  has_block {T₁} n b d r en eb ed w f =
      let cc : w.count ≡ o.count = omega (arith, w.deep, o.deep) in
      let e : T₁ ≡ laid T n (o.body ++ nums (entry 6 0 0)) = w.table
      ∙ ap (λ (m : ℕ). laid T n (take (3 * m) (drop (14848 + 3 * (b + 1)) T) ++ nums (entry 6 0 0))) cc ∙ ap
      (λ (m : ℕ). laid T n (take (3 * o.count) (drop (14848 + 3 * (m + 1)) T) ++ nums (entry 6 0 0))) eb
      ∙ ap (λ (l : List ℕ). laid T n (l ++ nums (entry 6 0 0))) above in (
        subst (λ (l : List ℕ). Has l (longer a (o.body ++ nums (entry 6 0 0)) (o.count + 1))) (sym e)
            (has-laid h n (o.body ++ nums (entry 6 0 0)) (o.count + 1) en
            (length-append o.body (nums (entry 6 0 0)) ∙ (let z : length o.body + 3 ≡ 3 * (o.count + 1) = omega (arith, o.wide) in
            z)) f),
        omega (arith, w.next),
      )

-- the base that a mark keeps
pub mark-old : {T : List ℕ} {s : State} {a : Abs} (rep : Rep T s a) (o : Block a) → get_or T (14849 + 3 * s.base) 0 ≡ o.old
mark-old {T} {s} {a} rep o = ap (λ (n : ℕ). get_or T n 0) (let z : 14849 + 3 * s.base ≡ 14848 + 3 * a.base + 1 = omega (arith, rep.base) in
    z) ∙ ap (λ (e : Entry). e.target) (mark-at rep.has o)

-- and its place, which stays where the block above it is laid down
pub mark-place : {T : List ℕ} {s : State} {a : Abs} (rep : Rep T s a) (o : Block a) {T₁ : List ℕ} {next : ℕ} (w : Copied T s.items (s.base + 1) s.depth next T₁)
    → a.items + (o.count + 1) ≤ 512 → get_or T₁ (14848 + 3 * s.base + 2) 0 ≡ o.place
mark-place {T} {s} {a} rep o {T₁} w f =
    let xs = take (3 * w.count) (drop (14848 + 3 * (s.base + 1)) T) in
    let l : length xs ≤ 3 * w.count = omega (arith, length-take (3 * w.count) (drop (14848 + 3 * (s.base + 1)) T)) in
    let m = length-append xs (nums (entry 6 0 0)) in
    let b : 12288 + 3 * s.items + length (xs ++ nums (entry 6 0 0)) ≤ 14848 + 3 * s.base = omega (arith, w.deep, o.deep, rep.items, rep.base, rep.depth) in
    ap (λ (e : Entry). e.token)
    (entry_kept T s.items (xs ++ nums (entry 6 0 0)) (14848 + 3 * s.base) w.table b ∙ ap (λ (n : ℕ). entry_at T (14848 + 3 * n)) rep.base ∙ mark-at rep.has o)

-- each action keeps table and state together
module _ {T T' : List ℕ} {s s' : State} {a b : Abs} (rep : Rep T s a) (fit : Fit b) where
  pub rep-pushed : (e : Entry) (c : ℕ) → b ≡ pushed a e c → T' ≡ sets T (14848 + 3 * s.depth) (nums e) → s'.items ≡ s.items
      → s'.rules ≡ s.rules → s'.depth ≡ s.depth + 1 → s'.base ≡ c → Rep T' s' b
  rep-pushed e c q t i r d l = subst (λ (z : Abs). Rep T' s' z) (sym q) (record {
    has = subst (λ (l : List ℕ). Has l (pushed a e c)) (sym t)
        (has_push rep.has s.depth e c rep.depth (subst (λ (z : Abs). z.depth ≤ 512) q fit.depth)
        (subst (λ (z : Abs). z.base ≤ 512) q fit.base));
    items = i ∙ rep.items;
    rules = r ∙ rep.rules;
    depth = omega (arith, rep.depth);
    base = l;
  })

  pub rep-one' : {T₁ : List ℕ} (k d from first : ℕ) → One k a b → d + 1 ≡ s.depth → from ≡ 14848 + 3 * d
      → T₁ ≡ laid T s.items (one_block k (entry_at T from) s.items) → first ≡ s.items + one_first k
      → T' ≡ sets T₁ from (nums (entry 4 first (get_or T₁ (from + 2) 0))) → s'.items ≡ s.items + one_count k → s'.rules ≡ s.rules → s'.depth ≡ d + 1
      → s'.base ≡ s.base → Rep T' s' b
  rep-one' k d from first o e₀ e₁ e₂ e₃ e₄ i r q l = record {
    has = rep-one k s.items d from first rep.has o fit rep.items (omega (arith, rep.depth)) e₁ e₂ e₃ e₄;
    items = i ∙ ap (λ (n : ℕ). n + one_count k) rep.items ∙ sym (ap (λ (z : Abs). z.items) o.result);
    rules = r ∙ rep.rules ∙ sym (ap (λ (z : Abs). z.rules) o.result);
    depth = omega (arith, ap (λ (z : Abs). z.depth) o.result, o.deep, rep.depth);
    base = l ∙ rep.base ∙ sym (ap (λ (z : Abs). z.base) o.result);
  }

  pub rep-two' : {T₁ : List ℕ} (k d from first : ℕ) → Two k a b → d + 2 ≡ s.depth → from ≡ 14848 + 3 * d
      → T₁ ≡ laid T s.items (two_block k (entry_at T from) (entry_at T (from + 3)) s.items) → first ≡ s.items + two_first k
      → T' ≡ sets T₁ from (nums (entry 4 first (get_or T₁ (from + 2) 0))) → s'.items ≡ s.items + two_count k → s'.rules ≡ s.rules → s'.depth ≡ d + 1
      → s'.base ≡ s.base → Rep T' s' b
  rep-two' k d from first o e₀ e₁ e₂ e₃ e₄ i r q l = record {
    has = rep-two k s.items d from first rep.has o fit rep.items (omega (arith, rep.depth)) e₁ e₂ e₃ e₄;
    items = i ∙ ap (λ (n : ℕ). n + two_count k) rep.items ∙ sym (ap (λ (z : Abs). z.items) o.result);
    rules = r ∙ rep.rules ∙ sym (ap (λ (z : Abs). z.rules) o.result);
    depth = omega (arith, ap (λ (z : Abs). z.depth) o.result, o.deep, rep.depth);
    base = l ∙ rep.base ∙ sym (ap (λ (z : Abs). z.base) o.result);
  }

  pub rep-closed : {T₁ : List ℕ} {next : ℕ} → Closed a b → Copied T s.items (s.base + 1) s.depth next T₁
      → T' ≡ sets T₁ (14848 + 3 * s.base) (nums (entry 4 s.items (get_or T₁ (14848 + 3 * s.base + 2) 0))) → s'.items ≡ next → s'.rules ≡ s.rules → s'.depth ≡ s.base + 1
      → s'.base ≡ get_or T (14849 + 3 * s.base) 0 → Rep T' s' b
  rep-closed {T₁} {next} o w t i r d l =
      let p = o.block in
      let items : a.items + (o.block.count + 1) ≤ 512 = subst (λ (z : Abs). z.items ≤ 512) o.result fit.items in
      let deep : a.base + 1 ≤ 512 = subst (λ (z : Abs). z.depth ≤ 512) o.result fit.depth in
      let u = has_block rep.has o.block s.items s.base s.depth next rep.items rep.base rep.depth w items in
      let v = has-cut u.0 o.block.under (nums (entry 0 o.block.old o.block.place) ++ o.block.body) a.base
      o.block.old o.block.stacked o.block.long (omega (arith, o.block.deep))
      (subst (λ (z : Abs). z.base ≤ 512) o.result fit.base) in
      let x = has_push v s.base (entry 4 a.items o.block.place) o.block.old rep.base deep (subst (λ (z : Abs). z.base ≤ 512) o.result fit.base) in
      let tk : get_or T₁ (14848 + 3 * s.base + 2) 0 ≡ o.block.place = mark-place rep o.block w items in
      let t' : T' ≡ sets T₁ (14848 + 3 * s.base) (nums (entry 4 a.items o.block.place)) = t ∙ ap (λ (q : ℕ). sets T₁ (14848 + 3 * s.base) (nums (entry 4 s.items q))) tk
      ∙ ap (λ (n : ℕ). sets T₁ (14848 + 3 * s.base) (nums (entry 4 n o.block.place))) rep.items in
      let old : get_or T (14849 + 3 * s.base) 0 ≡ o.block.old = mark-old rep o.block in
      subst (λ (z : Abs). Rep T' s' z) (sym o.result) (record {
        has = subst (λ (m : List ℕ). Has m (pushed (cut (longer a (o.block.body ++ nums (entry 6 0 0)) (o.block.count + 1))
            o.block.under a.base o.block.old) (entry 4 a.items o.block.place) o.block.old)) (sym t') x;
        items = omega (arith, u.1, rep.items);
        rules = r ∙ rep.rules;
        depth = omega (arith, rep.base);
        base = l ∙ old;
      })

  pub rep-finished : {T₁ : List ℕ} {next : ℕ} → Finished a b → Copied T s.items (s.base + 1) s.depth next T₁
      → T' ≡ sets T₁ (13824 + 2 * s.rules) (get_or T (14850 + 3 * s.base) 0 ∷ s.items ∷ []) → s'.items ≡ next → s'.rules ≡ s.rules + 1
      → s'.depth ≡ s.base → s'.base ≡ get_or T (14849 + 3 * s.base) 0 → Rep T' s' b
  rep-finished {T₁} {next} o w t i r d l =
      let items : a.items + (o.block.count + 1) ≤ 512 = subst (λ (z : Abs). z.items ≤ 512) o.result fit.items in
      let few : a.rules + 1 ≤ 512 = subst (λ (z : Abs). z.rules ≤ 512) o.result fit.rules in
      let u = has_block rep.has o.block s.items s.base s.depth next rep.items rep.base rep.depth w items in
      let v = has-cut u.0 o.block.under (nums (entry 0 o.block.old o.block.place) ++ o.block.body) a.base
      o.block.old o.block.stacked o.block.long (omega (arith, o.block.deep))
      (subst (λ (z : Abs). z.base ≤ 512) o.result fit.base) in
      let x = has-row v s.rules o.block.place a.items rep.rules few in
      let old : get_or T (14849 + 3 * s.base) 0 ≡ o.block.old = mark-old rep o.block in
      let place : get_or T (14850 + 3 * s.base) 0 ≡ o.block.place = ap (λ (n : ℕ). get_or T n 0)
      (let z : 14850 + 3 * s.base ≡ 14848 + 3 * a.base + 2 = omega (arith, rep.base) in
      z) ∙ ap (λ (e : Entry). e.token) (mark-at rep.has o.block) in
      let t' : T' ≡ sets T₁ (13824 + 2 * s.rules) (o.block.place ∷ a.items ∷ []) = t
      ∙ ap (λ (n : ℕ). sets T₁ (13824 + 2 * s.rules) (n ∷ s.items ∷ [])) place
      ∙ ap (λ (n : ℕ). sets T₁ (13824 + 2 * s.rules) (o.block.place ∷ n ∷ [])) rep.items in
      subst (λ (z : Abs). Rep T' s' z) (sym o.result) (record {
        has = subst (λ (m : List ℕ). Has m (rowed (cut (longer a (o.block.body ++ nums (entry 6 0 0)) (o.block.count + 1))
            o.block.under a.base o.block.old) o.block.place a.items)) (sym t') x;
        items = omega (arith, u.1, rep.items);
        rules = omega (arith, rep.rules);
        depth = d ∙ rep.base;
        base = l ∙ old;
      })

-- bounds that the code needs
pub one-bounds : {k : ℕ} {a b : Abs} → One k a b → Fit b → (a.items + one_count k ≤ 512) × (1 ≤ a.depth)
one-bounds o f = (subst (λ (z : Abs). z.items ≤ 512) o.result f.items, omega (arith, o.deep))

pub two-bounds : {k : ℕ} {a b : Abs} → Two k a b → Fit b → (a.items + two_count k ≤ 512) × (2 ≤ a.depth)
two-bounds o f = (subst (λ (z : Abs). z.items ≤ 512) o.result f.items, omega (arith, o.deep))

pub one-first : (k : ℕ) → one_first k ≤ one_count k
unfolding one_first one_count
one-first k = both (eqb k 34) (eqb k 35)
  where
    both : (p q : Bool) → pick p 0 (pick q 0 4) ≤ pick p 3 (pick q 4 7)
    both true q = omega arith
    both false true = omega arith
    both false false = omega arith

pub two-first : (k : ℕ) → two_first k ≤ two_count k
unfolding two_first two_count
two-first k = both (eqb k 38)
  where
    both : (p : Bool) → pick p 5 8 ≤ pick p 8 11
    both true = omega arith
    both false = omega arith

pub block-bounds : {a : Abs} (o : Block a) → a.items + (o.count + 1) ≤ 512 → a.depth ≤ 512 → (T : List ℕ) (n b d : ℕ) → length T ≡ 16384
    → n ≡ a.items → b ≡ a.base → d ≡ a.depth → Space T n (b + 1) d
block-bounds o f g T n b d s e₁ e₂ e₃ = record { count = o.count; size = s; deep = omega (arith, o.deep); high = omega arith; fits = omega arith }

pub closed-items : {a b : Abs} (o : Closed a b) → Fit b → a.items + (o.block.count + 1) ≤ 512
closed-items o f = subst (λ (z : Abs). z.items ≤ 512) o.result f.items

pub finished-items : {a b : Abs} (o : Finished a b) → Fit b → (a.items + (o.block.count + 1) ≤ 512) × (a.rules + 1 ≤ 512)
finished-items o f = (subst (λ (z : Abs). z.items ≤ 512) o.result f.items, subst (λ (z : Abs). z.rules ≤ 512) o.result f.rules)

-- by what the token asks for
pub act-as : (at : ℕ) (a b : Abs) {d e : Action} → d ≡ e → Act d at a b → Act e at a b
act-as at a b q act = subst (λ (x : Action). Act x at a b) q act

pub ready-as : {d e : Action} {at place : ℕ} {T : List ℕ} {s : State} → d ≡ e → Ready d at T s → place < 12288 → ((a b : Abs) → Act e at a b → Act e place a b) → Ready e place T s
ready-as {at = at} q r h f = record { from = r.from; to = r.to; rep = r.rep; act = f r.from r.to (act-as at r.from r.to q r.act); fit = r.fit; place = h }
