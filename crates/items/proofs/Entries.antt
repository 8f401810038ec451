-- What a symbol and a row of symbols leave on the machine's stack, and the machine's run over a terminal and a name.
use mathlib.Core.Bool.{Bool, true, false, not, ◌||◌}
use mathlib.Core.List.Memᴰ.{append_left as in_left}
use mathlib.Core.List.Memᴰ.{append_right as in_right}
use mathlib.Core.List.{List, [], ◌∷◌, ◌++◌, Memᴰ as In}
use mathlib.Core.Logic.{inl, inr}
use mathlib.Core.Path.{◌≡◌, refl, sym, ap, ◌∙◌, subst}
use Prim.Native.Nat.{ℕ, ◌+◌, ◌*◌, ◌<◌, ◌≤◌}
use native.Mathlib.Omega.{arith}
use borrow.Author.Tests.{not-false}
use lib.ListN.{length, length-append}
use Rattle.text.specs.Lists.{Text, any, same, concat_map}
use Rattle.text.proofs.Lists.{concat-append}
use Rattle.tree.specs.Tree.{Mark, string, hex, Member, chars, range, class, Terminal, literal, inclusion, exclusion, insertion}
use Rattle.tree.specs.Tree.{Symbol, terminal, nonterminal, Alternative, Body, Grammar}
use Rattle.tree.specs.Tokens.{Token, include, exclude, set-end, encode}
use Rattle.tree.specs.Tokens.{member_token, member_tokens, terminal_tokens, symbol_tokens, alternative_tokens, body_tokens}
use Rattle.plain.specs.Written.{heads, terminals, names_in, terminals_in, within, within_alternative, within_body}
use Rattle.plain.specs.Plain.{symbols, alternatives, makes, weight}
use Rattle.layout.specs.Layout.{laid, laid_alternative, laid_body}
use Rattle.tokens.specs.Lengths.{first_number}
use Rattle.measure.specs.Costs.{costs, cost_of}
use Rattle.tokens.proofs.Walk.{by-mark}
use Rattle.measure.proofs.Sizes.{terminal-costs}
use Rattle.items.specs.declared.Action.TheVariants.{Skip, Push}
use Rattle.items.specs.Items.{Starts, Among, Stands, st-terminal, Reads, lead}
use Rattle.repetitions.specs.Blocks.{Entry, entry, nums, one_block}
use Rattle.items.specs.Machine.{Abs, pushed, action_of}
use Rattle.repetitions.specs.Blocks.{one_count, one_first, two_block, two_count, two_first}
use Rattle.items.specs.Scanned.{At}
use Rattle.items.specs.Final.{Placed, Final}
use Rattle.items.proofs.Reps.{act-as}
use Rattle.items.proofs.Blocks.{Rows}
use Rattle.items.proofs.Runs.{Ok, Run}
use Rattle.items.proofs.Runs.{run-then, run-quiet, reads-final}
use Rattle.items.proofs.Adds.{Adds, adds_none}
use Rattle.items.proofs.Lays.{LaysIn, lays-none}

-- the name has no rule
abbrev pub Bad : Grammar → Text → Bool
Bad g n = not (any (same n) (heads g))

-- every name in the symbols has a rule, and every terminal is one of g
abbrev pub KnownAll : Grammar → List Symbol → Type 0
KnownAll g ss = (any (Bad g) (concat_map names_in ss) ≡ false) × ((x : Terminal) → In x (concat_map terminals_in ss) → In x (terminals g))

or-false : (a b : Bool) → (a || b) ≡ false → (a ≡ false) × (b ≡ false)
or-false true b e = (e, (let z : ◌≡◌ {A = ℕ} 0 1 = cc in absurd (let y : 0 < 0 = omega arith in omega arith)))
or-false false b e = (refl, e)

any_append : (f : Text → Bool) (xs ys : List Text) → any f (xs ++ ys) ≡ false → (any f xs ≡ false) × (any f ys ≡ false)
any_append f [] ys e = (refl, e)
any_append f (x ∷ xs) ys e =
    let h = or-false (f x) (any f (xs ++ ys)) e in
    let k = any_append f xs ys h.1 in
    (rw h.0 k.0, k.1)

pub known-append : (g : Grammar) (xs ys : List Symbol) → KnownAll g (xs ++ ys) → KnownAll g xs × KnownAll g ys
known-append g xs ys e =
    let k = any_append (Bad g) (concat_map names_in xs) (concat_map names_in ys) (sym (ap (any (Bad g)) (concat-append names_in xs ys)) ∙ e.0) in
    let c : (x : Terminal) → In x (concat_map terminals_in xs ++ concat_map terminals_in ys)
    → In x (terminals g) = λ x m. e.1 x (subst (λ (l : List Terminal). In x l) (sym (concat-append terminals_in xs ys)) m) in
    ((k.0, λ x m. c x (in_left (concat_map terminals_in ys) m)), (k.1, λ x m. c x (in_right (concat_map terminals_in xs) m)))

pub in-first : (B S : Starts) (x : ℕ) (s : Symbol) → Among x s B → Among x s (B ++ S)
in-first [] S x s m = absurd m
in-first (y ∷ B) S x s (inl m) = inl m
in-first (y ∷ B) S x s (inr m) = inr (in-first B S x s m)

-- a symbol leaves an entry
pub record Sym (g : Grammar) (K : List ℕ) (s : Symbol) (at : ℕ) (a : Abs) (S : Starts) : Type 0 where
  pub after : Abs
  pub starts : Starts
  pub e : Entry
  pub run : Run g K (symbol_tokens s) at a after S starts
  pub stack : after.stack ≡ a.stack ++ nums e
  pub depth : after.depth ≡ a.depth + 1
  pub cost : after.items + after.depth ≡ a.items + a.depth + costs (symbol_tokens s)
  pub adds : Adds S starts (concat_map makes (within s))
  pub lays : LaysIn g starts a.items after.items (laid s)
  pub leads : (F : List ℕ) (T : Starts) → Final g K after.list starts F T → Reads F e.token (lead s)
  pub means : (F : List ℕ) (T : Starts) → Final g K after.list starts F T → (p : ℕ) → Placed F g T p e.sort e.target e.token → Stands F g T p s

-- a row of symbols leaves a row of entries
pub record Alt (g : Grammar) (K : List ℕ) (x : Alternative) (at : ℕ) (a : Abs) (S : Starts) : Type 0 where
  pub after : Abs
  pub starts : Starts
  pub entries : List ℕ
  pub count : ℕ
  pub run : Run g K (alternative_tokens x) at a after S starts
  pub stack : after.stack ≡ a.stack ++ entries
  pub depth : after.depth ≡ a.depth + count
  pub wide : length entries ≡ 3 * count
  pub counts : count ≡ length (symbols x)
  pub cost : after.items + after.depth ≡ a.items + a.depth + costs (alternative_tokens x)
  pub adds : Adds S starts (concat_map makes (within_alternative x))
  pub lays : LaysIn g starts a.items after.items (laid_alternative x)
  pub rows : (F : List ℕ) (T : Starts) → Final g K after.list starts F T → (tail : List ℕ) (ts : List (List Symbol))
      → Rows F g T tail ([] ∷ ts) → Rows F g T (entries ++ tail) (symbols x ∷ ts)

pub record Bod (g : Grammar) (K : List ℕ) (x : Body) (at : ℕ) (a : Abs) (S : Starts) : Type 0 where
  pub after : Abs
  pub starts : Starts
  pub entries : List ℕ
  pub count : ℕ
  pub run : Run g K (body_tokens x) at a after S starts
  pub stack : after.stack ≡ a.stack ++ entries
  pub depth : after.depth ≡ a.depth + count
  pub wide : length entries ≡ 3 * count
  pub weighs : count + 1 ≡ weight (alternatives x)
  pub cost : after.items + after.depth ≡ a.items + a.depth + costs (body_tokens x)
  pub adds : Adds S starts (concat_map makes (within_body x))
  pub lays : LaysIn g starts a.items after.items (laid_body x)
  pub rows : (F : List ℕ) (T : Starts) → Final g K after.list starts F T → Rows F g T (entries ++ nums (entry 6 0 0)) (alternatives x)

pub ok-pushed : {K : List ℕ} {a : Abs} (e : Entry) (b : ℕ) → Ok K a → a.depth + 1 ≤ 512 → b ≤ 512 → Ok K (pushed a e b)
ok-pushed {a = a} e b k h l = record {
  tokens = k.tokens;
  list = k.list;
  stack = length-append a.stack (nums e) ∙ (let z : length a.stack + 3 ≡ 3 * (a.depth + 1) = omega (arith, k.stack) in
      z);
  fit = record { items = k.fit.items; rules = k.fit.rules; depth = h; base = l };
}

skip-member : (m : Member) → action_of (first_number (member_token m)) ≡ Skip
unfolding action_of
skip-member (chars (string cs)) = refl
skip-member (chars (hex n)) = refl
skip-member (range a b) = refl
skip-member (class k) = refl

skip-end : action_of (first_number set-end) ≡ Skip
unfolding action_of
skip-end = refl

push-include : (m : Mark) → action_of (first_number (include m)) ≡ Push 1
unfolding action_of
push-include m = by-mark (λ k. action_of (12 + k) ≡ Push 1) refl refl refl refl m

push-exclude : (m : Mark) → action_of (first_number (exclude m)) ≡ Push 1
unfolding action_of
push-exclude m = by-mark (λ k. action_of (16 + k) ≡ Push 1) refl refl refl refl m

name-cost : (m : Mark) (n : Text) → costs (Rattle.tree.specs.Tokens.name m n ∷ []) ≡ 1
unfolding cost_of
name-cost m n = by-mark (λ k. cost_of k + 0 ≡ 1) refl refl refl refl m

name-action : (m : Mark) → (n : Text) → action_of (first_number (Rattle.tree.specs.Tokens.name m n)) ≡ Push 2
unfolding action_of
name-action m n = by-mark (λ k. action_of k ≡ Push 2) refl refl refl refl m

module _ {g : Grammar} {K : List ℕ} where
  pub push-run : {at : ℕ} {a : Abs} (t : Token) (k : ℕ) (S : Starts) → action_of (first_number t) ≡ Push k → Ok K a → a.depth + 1 ≤ 512
      → Run g K (t ∷ []) at a (pushed a (entry k 0 at) a.base) S S
  push-run {at} {a} t k S d o h = run-quiet t S (act-as at a (pushed a (entry k 0 at) a.base) (sym d) refl) (ok-pushed (entry k 0 at) a.base o h o.fit.base) refl refl refl refl refl

  pub skip-run : {at : ℕ} {a : Abs} (t : Token) (S : Starts) → action_of (first_number t) ≡ Skip → Ok K a → Run g K (t ∷ []) at a a S S
  skip-run {at} {a} t S d o = run-quiet t S (act-as at a a (sym d) refl) o refl refl refl refl refl

  members_run : {at : ℕ} {a : Abs} (ms : List Member) (S : Starts) → Ok K a → Run g K (member_tokens ms) at a a S S
  members_run [] S o = skip-run set-end S skip-end o
  members_run {at = at} {a = a} (m ∷ ms) S o =
      run-then {us = member_token m ∷ []} {vs = member_tokens ms} (skip-run (member_token m) S (skip-member m) o) (members_run {at = at + length (encode (member_token m ∷ []))} ms S o)

  terminal-run : {at : ℕ} {a : Abs} (x : Terminal) (S : Starts) → Ok K a → a.depth + 1 ≤ 512 → Run g K (terminal_tokens x) at a (pushed a (entry 1 0 at) a.base) S S
  unfolding action_of
  terminal-run (literal m (string cs)) S o h = push-run (Rattle.tree.specs.Tokens.quoted m cs) 1 S (by-mark (λ k. action_of (4 + k) ≡ Push 1) refl refl refl refl m) o h
  terminal-run (literal m (hex n)) S o h = push-run (Rattle.tree.specs.Tokens.coded m n) 1 S (by-mark (λ k. action_of (8 + k) ≡ Push 1) refl refl refl refl m) o h
  terminal-run {a = a} (inclusion m ms) S o h = run-then {us = include m ∷ []} {vs = member_tokens ms}
      (push-run (include m) 1 S (push-include m) o h) (members_run ms S (ok-pushed (entry 1 0 _) a.base o h o.fit.base))
  terminal-run {a = a} (exclusion m ms) S o h = run-then {us = exclude m ∷ []} {vs = member_tokens ms}
      (push-run (exclude m) 1 S (push-exclude m) o h) (members_run ms S (ok-pushed (entry 1 0 _) a.base o h o.fit.base))
  terminal-run (insertion (string cs)) S o h = push-run (Rattle.tree.specs.Tokens.insert-quoted cs) 1 S refl o h
  terminal-run (insertion (hex n)) S o h = push-run (Rattle.tree.specs.Tokens.insert-coded n) 1 S refl o h

  pub terminal-sym : (x : Terminal) (at : ℕ) (a : Abs) (S : Starts) → In x (terminals g) → At K at (terminal_tokens x) → Ok K a
      → a.items + a.depth + costs (terminal_tokens x) ≤ 512 → Sym g K (terminal x) at a S
  terminal-sym x at a S i w o h = record {
    after = pushed a (entry 1 0 at) a.base;
    starts = S;
    e = entry 1 0 at;
    run = terminal-run x S o (omega (arith, terminal-costs x));
    stack = refl;
    depth = refl;
    cost = omega (arith, terminal-costs x);
    adds = adds_none S;
    lays = lays-none;
    leads = λ F T f. reads-final w F T f;
    means = λ F T f p v. let k = v.kept (λ e. omega arith) in st-terminal k.0 (subst (λ (q : ℕ). Reads F q (terminal_tokens x)) (sym k.2) (reads-final w F T f)) i;
  }

  pub name-sym : (m : Mark) (n : Text) (at : ℕ) (a : Abs) (S : Starts) → KnownAll g (nonterminal m n ∷ [])
      → At K at (symbol_tokens (nonterminal m n)) → Ok K a → a.items + a.depth + costs (symbol_tokens (nonterminal m n)) ≤ 512
      → Sym g K (nonterminal m n) at a S
  name-sym m n at a S known w o h = record {
    after = pushed a (entry 2 0 at) a.base;
    starts = S;
    e = entry 2 0 at;
    run = push-run (Rattle.tree.specs.Tokens.name m n) 2 S (name-action m n) o (omega (arith, name-cost m n));
    stack = refl;
    depth = refl;
    cost = omega (arith, name-cost m n);
    adds = adds_none S;
    lays = lays-none;
    leads = λ F T f. reads-final w F T f;
    means = λ F T f p v. v.named refl m n (reads-final w F T f) (not-false (any (same n) (heads g)) (or-false (Bad g n) false known.0).0);
  }

abbrev pub after_one : ℕ → Abs → List ℕ → ℕ → Entry → Abs
after_one k b under c e =
    record {
      tokens = b.tokens;
      list = b.list ++ one_block k e b.items;
      items = b.items + one_count k;
      rows = b.rows;
      rules = b.rules;
      stack = under ++ nums (entry 4 (b.items + one_first k) e.token);
      depth = c + 1;
      base = b.base;
    }

abbrev pub after_two : ℕ → Abs → List ℕ → ℕ → Entry → Entry → Abs
after_two k b under c e e' =
    record {
      tokens = b.tokens;
      list = b.list ++ two_block k e e' b.items;
      items = b.items + two_count k;
      rows = b.rows;
      rules = b.rules;
      stack = under ++ nums (entry 4 (b.items + two_first k) e.token);
      depth = c + 1;
      base = b.base;
    }

pub three-more : (under : List ℕ) (e : Entry) (c : ℕ) → length under ≡ 3 * c → length (under ++ nums e) ≡ 3 * (c + 1)
three-more under e c w = length-append under (nums e) ∙ (let z : length under + 3 ≡ 3 * (c + 1) = omega arith in z)
