-- Where rules begin, by their names.
use mathlib.Core.Bool.{Bool, true, false, ◌||◌}
use mathlib.Core.List.{List, [], ◌∷◌, ◌++◌, append-nil}
use mathlib.Core.Logic.{◌⊎◌, inl, inr, ⊎_elim}
use mathlib.Core.Path.{◌≡◌, refl, sym, ap, ◌∙◌}
use Prim.Native.Nat.{ℕ, suc, ◌+◌, ◌*◌, ◌-◌, ◌<◌, ◌≤◌}
use native.Mathlib.Omega.{arith}
use lib.Dec.{T}
use lib.ListN.{length, get_or, take, drop, length-drop}
use lib.Seq.{get_or-take, get_or-drop, length-take-le, drop-drop}
use borrow.Author.Tests.{eq-eqb}
use Rattle.text.specs.Lists.{Text, pick, any, same, concat_map}
use Rattle.text.proofs.Tests.{is_t, same-is, clash}
use Rattle.tree.specs.Tree.{Mark, unmarked, included, attribute, deleted, Symbol, nonterminal, Rule, Grammar}
use Rattle.tree.specs.Tokens.{rule-head, mark_number, counted}
use Rattle.plain.specs.Plain.{rule_for, weight, size, rule_mark, over}
use Rattle.items.specs.Items.{mark_kind, Starts, Among, Alternatives}
use Rattle.repetitions.specs.Blocks.{kind_by}
use Rattle.items.specs.Scanned.{At, Bodies}
use Rattle.items.specs.Linked.{NameAt}

-- the first item of the first rule of a name
abbrev pub first_for : List Rule → List ℕ → Text → ℕ
first_for [] xs n = 0
first_for (r ∷ rs) [] n = 0
first_for (r ∷ rs) (x ∷ xs) n = pick (same n r.name) x (first_for rs xs n)

-- each name, unmarked, there
abbrev pub name_starts : (Text → ℕ) → List Rule → Starts
name_starts f [] = []
name_starts f (r ∷ rs) = (f r.name, nonterminal unmarked r.name) ∷ name_starts f rs

pub among-left : (x : ℕ) (s : Symbol) (S S' : Starts) → Among x s S → Among x s (S ++ S')
among-left x s [] S' m = absurd m
among-left x s (y ∷ S) S' (inl e) = inl e
among-left x s (y ∷ S) S' (inr m) = inr (among-left x s S S' m)

pub among-right : (x : ℕ) (s : Symbol) (S S' : Starts) → Among x s S' → Among x s (S ++ S')
among-right x s [] S' m = m
among-right x s (y ∷ S) S' m = inr (among-right x s S S' m)

pub among-split : (x : ℕ) (s : Symbol) (S S' : Starts) → Among x s (S ++ S') → Among x s S ⊎ Among x s S'
among-split x s [] S' m = inr m
among-split x s (y ∷ S) S' (inl e) = inl (inl e)
among-split x s (y ∷ S) S' (inr m) = ⊎_elim (λ a. inl (inr a)) (λ b. inr b) (among-split x s S S' m)

pub same_refl : (n : Text) → same n n ≡ true
same_refl [] = refl
same_refl (c ∷ n) = rw (eq-eqb c c refl) (same_refl n)

-- a name that has a rule is among the starts
pub name-among : (f : Text → ℕ) (n : Text) (rs : List Rule) → any (same n) (concat_map (λ r. r.name ∷ []) rs) ≡ true → Among (f n) (nonterminal unmarked n) (name_starts f rs)
name-among f n [] e = absurd (clash refl e)
name-among f n (r ∷ rs) e = go (λ t. name-among f n rs t) (same n r.name) refl
  where
    go : (any (same n) (concat_map (λ r. r.name ∷ []) rs) ≡ true → Among (f n) (nonterminal unmarked n) (name_starts f rs)) → (b : Bool)
        → same n r.name ≡ b → Among (f n) (nonterminal unmarked n) (name_starts f (r ∷ rs))
    go ih true p = let q : n ≡ r.name = same-is n r.name (is_t p) in inl (ap f (sym q), ap (nonterminal unmarked) (sym q))
    go ih false p = inr (ih (rw p at e))

-- what is there is a name with a rule
pub record Named (f : Text → ℕ) (rs : List Rule) (x : ℕ) (s : Symbol) : Type 0 where
  pub called : Text
  pub place : f called ≡ x
  pub symbol : nonterminal unmarked called ≡ s
  pub known : any (same called) (concat_map (λ r. r.name ∷ []) rs) ≡ true

or-true : (a : Bool) → a || true ≡ true
or-true true = refl
or-true false = refl

pub among-named : (f : Text → ℕ) (rs : List Rule) (x : ℕ) (s : Symbol) → Among x s (name_starts f rs) → Named f rs x s
among-named f [] x s m = absurd m
among-named f (r ∷ rs) x s (inl e) = record { called = r.name; place = e.0; symbol = e.1; known = rw (same_refl r.name) }
among-named f (r ∷ rs) x s (inr m) =
    let w = among-named f rs x s m in
    record { called = w.called; place = w.place; symbol = w.symbol; known = ap (λ (b : Bool). same w.called r.name || b) w.known ∙ or-true (same w.called r.name) }

-- the alternatives of a name with a rule
pub named-body : (F : List ℕ) (g : Grammar) (S : Starts) (m : ℕ) (rs : List Rule) (xs : List ℕ) (n : Text) → Bodies F g S m rs xs
    → any (same n) (concat_map (λ r. r.name ∷ []) rs) ≡ true → Alternatives F g S (first_for rs xs n) (rule_for rs n)
    × (first_for rs xs n + weight (rule_for rs n) ≤ m)
named-body F g S m [] xs n b e = absurd (clash refl e)
named-body F g S m (r ∷ rs) [] n b e = absurd b
named-body F g S m (r ∷ rs) (x ∷ xs) n b e = go (λ t. named-body F g S m rs xs n b.1 t) (same n r.name) refl
  where
    go : (any (same n) (concat_map (λ r. r.name ∷ []) rs) ≡ true → Alternatives F g S (first_for rs xs n) (rule_for rs n)
        × (first_for rs xs n + weight (rule_for rs n) ≤ m)) → (t : Bool) → same n r.name ≡ t
        → Alternatives F g S (first_for (r ∷ rs) (x ∷ xs) n) (rule_for (r ∷ rs) n)
        × (first_for (r ∷ rs) (x ∷ xs) n + weight (rule_for (r ∷ rs) n) ≤ m)
    go ih true p = rw p b.0
    go ih false p = rw p (ih (rw p at e))

pub kind-marks : (m r : Mark) → kind_by (mark_number m) (20 + mark_number r) ≡ mark_kind (over m r)
unfolding kind_by
kind-marks unmarked unmarked = refl
kind-marks unmarked included = refl
kind-marks unmarked attribute = refl
kind-marks unmarked deleted = refl
kind-marks included r = refl
kind-marks attribute r = refl
kind-marks deleted r = refl

-- a token with a name: it holds the name, and its first number is there
pub record Told (T : List ℕ) (at c : ℕ) (n : Text) : Type 0 where
  pub holds : NameAt T at n
  pub first : get_or T at 0 ≡ c
  pub low : at < 12288

pub token-told : (T : List ℕ) (size : length T ≡ 16384) (at c : ℕ) (n : Text) (more : List ℕ) → drop at (take 12288 T) ≡ ((c ∷ counted n) ++ []) ++ more → Told T at c n
token-told T size at c n more e =
    let long : length (take 12288 T) ≡ 12288 = length-take-le 12288 T (omega arith) in
    let some : length (take 12288 T) - at ≡ suc (length (((counted n) ++ []) ++ more)) = sym (length-drop at (take 12288 T)) ∙ ap length e in
    let low : at < 12288 = omega arith in
    record {
      holds = record { more = more; stands = sym (drop-drop 1 at (take 12288 T)) ∙ ap (drop 1) e ∙ ap (λ (l : List ℕ). length n ∷ (l ++ more)) (append-nil n) };
      first = sym (get_or-take 12288 T at 0 low) ∙ ap (λ (k : ℕ). get_or (take 12288 T) k 0) (let z : at ≡ at + 0 = omega arith in
          z) ∙ sym (get_or-drop at (take 12288 T) 0 0) ∙ ap (λ (l : List ℕ). get_or l 0 0) e;
      low = low;
    }

-- the row that was found for a name
pub record Row (T : List ℕ) (ys : List ℕ) (rs : List Rule) (xs : List ℕ) (n : Text) (row : ℕ) : Type 0 where
  pub inside : row < length rs
  pub first : get_or ys (2 * row + 1) 0 ≡ first_for rs xs n
  pub low : get_or ys (2 * row) 0 < 12288
  pub mark : get_or T (get_or ys (2 * row) 0) 0 ≡ 20 + mark_number (rule_mark rs n)

pub two-suc : (ys : List ℕ) (a b j : ℕ) → get_or (a ∷ b ∷ ys) (2 * suc j) 0 ≡ get_or ys (2 * j) 0
two-suc ys a b j = ap (λ (k : ℕ). get_or (a ∷ b ∷ ys) k 0) (let z : 2 * suc j ≡ suc (suc (2 * j)) = omega arith in z)

pub two-suc' : (ys : List ℕ) (a b j : ℕ) → get_or (a ∷ b ∷ ys) (2 * suc j + 1) 0 ≡ get_or ys (2 * j + 1) 0
two-suc' ys a b j = ap (λ (k : ℕ). get_or (a ∷ b ∷ ys) k 0) (let z : 2 * suc j + 1 ≡ suc (suc (2 * j + 1)) = omega arith in z)

pub head-told : (T : List ℕ) (size : length T ≡ 16384) (K : List ℕ) → take 12288 T ≡ K → (at : ℕ) (r : Rule)
    → At K at (rule-head r.mark r.name ∷ []) → Told T at (20 + mark_number r.mark) r.name
head-told T size K k at r w = token-told T size at (20 + mark_number r.mark) r.name w.more (ap (drop at) k ∙ w.stands)
