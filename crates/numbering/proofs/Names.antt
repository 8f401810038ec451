-- The names of rules in the code are those of the layout, and as many.
use mathlib.Core.Bool.{Bool, true}
use mathlib.Core.List.{List, [], ◌∷◌}
use mathlib.Core.Logic.{⊎_elim}
use mathlib.Core.Path.{◌≡◌, refl, sym, ap, ◌∙◌}
use Prim.Native.Nat.{ℕ, zero, suc, ◌+◌, ◌-◌, ◌<◌, ◌≤◌}
use native.Mathlib.Omega.{arith}
use lib.Dec.{T, eqb}
use lib.ListN.{length, get_or, take}
use borrow.Author.Tests.{eq-eqb, eqb-true}
use Rattle.text.proofs.Tests.{split, T_true, T_false, and_left, and_right}
use Rattle.tree.specs.Tree.{Terminal, Symbol, Grammar}
use Rattle.plain.specs.Plain.{alts, sum_of, weight}
use Rattle.layout.specs.Layout.{layout, dot_count, name_at}
use Rattle.layout.proofs.Spots.{sum-take, name-ends}
use Rattle.derive.specs.Derive.{root}
use Rattle.chart.specs.Code.{next_kind, goes_at, owner_at, flag, head_of, Chain, ch-last, ch-next, Ruled}
use Rattle.numbering.specs.Names.{Named, is_name, name_count}

chain-some : {c : List ℕ} {dots : List (List Symbol)} {e q : ℕ} {ts : List (List Symbol)} → Chain c dots e q ts → 0 < weight ts
chain-some (ch-last h o l s) = omega arith
chain-some (ch-next h o s w) = omega arith

chain-stops : {c : List ℕ} {dots : List (List Symbol)} {e q : ℕ} {ts : List (List Symbol)} → Chain c dots e q ts → goes_at c e ≡ 0
chain-stops (ch-last h o l s) = s
chain-stops (ch-next h o s w) = chain-stops w

chain_first : {c : List ℕ} {dots : List (List Symbol)} {e q : ℕ} {ts : List (List Symbol)} → Chain c dots e q ts → (q < length dots) × (owner_at c q ≡ e + 1)
chain_first (ch-last h o l s) = (h, o)
chain_first (ch-next h o s w) = (h, o)

take_less : {A : Type 0} (W : A → ℕ) (xs : List A) (n m : ℕ) → n ≤ m → sum_of W (take n xs) ≤ sum_of W (take m xs)
take_less W [] zero m h = omega arith
take_less W [] (suc n) zero h = omega arith
take_less W [] (suc n) (suc m) h = omega arith
take_less W (x ∷ xs) zero m h = omega arith
take_less W (x ∷ xs) (suc n) zero h = absurd (omega arith)
take_less W (x ∷ xs) (suc n) (suc m) h = omega (arith, take_less W xs n m (omega arith))

-- names in numbers
name-true : (c : List ℕ) (e : ℕ) → next_kind c e ≡ 0 → goes_at c e ≡ 0 → is_name c e ≡ true
unfolding is_name
name-true c e k o = rw (eq-eqb (next_kind c e) 0 k, eq-eqb (goes_at c e) 0 o)

name-two : (c : List ℕ) (e : ℕ) → T (is_name c e) → (next_kind c e ≡ 0) × (goes_at c e ≡ 0)
unfolding is_name
name-two c e t = (
  eqb-true (next_kind c e) 0 (T_true (eqb (next_kind c e) 0) (and_left (eqb (next_kind c e) 0) (eqb (goes_at c e) 0) t)),
  eqb-true (goes_at c e) 0 (T_true (eqb (goes_at c e) 0) (and_right (eqb (next_kind c e) 0) (eqb (goes_at c e) 0) t)),
)

-- a stretch without names
none_more : (c : List ℕ) (n m : ℕ) → ((e : ℕ) → n ≤ e → e < n + m → T (is_name c e) → ⊥) → name_count c (n + m) ≡ name_count c n
none_more c n zero h = ap (name_count c) (let e : n + 0 ≡ n = omega arith in e)
none_more c n (suc m) h =
    ap (name_count c) (let e : n + suc m ≡ suc (n + m) = omega arith in e)
    ∙ ap (λ (b : Bool). name_count c (n + m) + flag b) (T_false (is_name c (n + m)) (h (n + m) (omega arith) (omega arith)))
    ∙ (let e : name_count c (n + m) + 0 ≡ name_count c (n + m) = omega arith in e)
    ∙ none_more c n m (λ e l k t. h e l (omega arith) t)

none_between : (c : List ℕ) (n m : ℕ) → n ≤ m → ((e : ℕ) → n ≤ e → e < m → T (is_name c e) → ⊥) → name_count c m ≡ name_count c n
none_between c n m l h = ap (name_count c) (let e : m ≡ n + (m - n) = omega arith in e) ∙ none_more c n (m - n) (λ e a b t. h e a (omega arith) t)

module _ {At : ℕ → Terminal → Type 0} {c : List ℕ} {g : Grammar} {size top first : ℕ} (w : Ruled At c g size top first) where
  -- the rule that an owner names is one of the layout
  pub owner-named : (p e : ℕ) → p < size → owner_at c p ≡ e + 1 → Named g w.heads e
  owner-named p e h o =
      let z = w.owned p e h o in
      let n = w.names e (omega (arith, z.inside, w.count)) z.last (chain-stops z.chain) in
      record { q = n.0; inside = n.1; is = n.2; head = ap (head_of g w.heads) n.2 ∙ (w.named n.0 n.1).head }

  -- each rule of the layout is named by an owner
  pub named-owner : (q : ℕ) → q < length (layout g) → (p : ℕ) × (p < size) × (owner_at c p ≡ name_at g q + 1)
  named-owner q h =
      let z = w.named q h in
      let f = chain_first z.chain in
      (z.first, omega (arith, f.0, w.count), f.1)

  -- where rule q begins
  abbrev begin : ℕ → ℕ
  begin q = dot_count g (take q (layout g))

  begin-less : (n m : ℕ) → n ≤ m → begin n ≤ begin m
  begin-less n m h = take_less (λ s. weight (alts g s)) (layout g) n m h

  some-dots : (q : ℕ) → q < length (layout g) → 0 < weight (alts g (get_or (layout g) q (root g)))
  some-dots q h = chain-some (w.named q h).chain

  begin-next : (q : ℕ) → q < length (layout g) → name_at g q + 1 ≡ begin (suc q)
  begin-next q h = name-ends g (root g) q h (some-dots q h) ∙ sym (sum-take (λ s. weight (alts g s)) (root g) (layout g) q h)

  -- a name stands before where a rule begins, or not before its name
  name-apart : (q q' : ℕ) → q < length (layout g) → q' < length (layout g) → begin q ≤ name_at g q' → name_at g q ≤ name_at g q'
  name-apart q q' h h' l = ⊎_elim
      (λ m. omega (arith, begin-next q' h', begin-less (suc q') q m))
      (λ m. omega (arith, begin-next q h, begin-next q' h', begin-less (suc q) (suc q') (omega arith)))
      (split q' q)

  no_name : (q : ℕ) → q < length (layout g) → (e : ℕ) → begin q ≤ e → e < name_at g q → T (is_name c e) → ⊥
  no_name q h e l m t =
      let k = name-two c e t in
      let n = w.names e (omega (arith, (w.named q h).inside, w.count)) k.0 k.1 in
      omega (arith, n.2, name-apart q n.0 h n.1 (omega (arith, n.2)))

  -- how many names there are before rule q
  count-before : (q : ℕ) → q ≤ length (layout g) → name_count c (begin q) ≡ q
  count-before zero h = refl
  count-before (suc q) h =
      let s = w.named q h in
      let l : begin q ≤ name_at g q = omega (arith, name-ends g (root g) q h (some-dots q h), some-dots q h) in
      ap (name_count c) (let e : begin (suc q) ≡ suc (name_at g q) = omega (arith, begin-next q h) in e)
      ∙ ap (λ (b : Bool). name_count c (name_at g q) + flag b) (name-true c (name_at g q) s.ends s.last)
      ∙ (let e : name_count c (name_at g q) + 1 ≡ suc q = omega (arith, none_between c (begin q) (name_at g q) l (no_name q h), count-before q (omega arith)) in e)

  begin-within : (q : ℕ) → q ≤ length (layout g) → begin q ≤ size
  begin-within zero h = omega arith
  begin-within (suc q) h = omega (arith, begin-next q h, (w.named q h).inside, w.count)

  no-name-after : (e : ℕ) → begin (length (layout g)) ≤ e → e < size → T (is_name c e) → ⊥
  no-name-after e l h t =
      let k = name-two c e t in
      let n = w.names e h k.0 k.1 in
      omega (arith, n.2, begin-next n.0 n.1, begin-less (suc n.0) (length (layout g)) n.1)

  -- there are as many names as rules
  pub names-count : name_count c size ≡ length (layout g)
  names-count =
      let all = length (layout g) in
      none_between c (begin all) size (begin-within all (omega arith)) no-name-after ∙ count-before all (omega arith)
