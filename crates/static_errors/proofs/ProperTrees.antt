-- The tokens of a proper tree are sound, and give its heads.
use mathlib.Core.Path.{◌≡◌, refl, sym, ap, ap₂, ◌∙◌}
use mathlib.Core.Bool.{Bool, true, false, ◌&&◌, ◌||◌}
use mathlib.Core.List.{List, [], ◌∷◌, ◌++◌}
use Prim.Native.Nat.{ℕ}
use native.Mathlib.Omega.{arith}
use lib.Dec.{T}
use Rattle.text.specs.Lists.{Text, pick, any, all, concat_map}
use Rattle.text.proofs.Lists.{any_append, any-concat}
use Rattle.text.proofs.Table.{and_left, and_right}
use Rattle.text.proofs.Tests.{T_true}
use Rattle.tree.specs.Tree.{string, hex, Member, Terminal, literal, inclusion, exclusion, insertion, Grammar}
use Rattle.tree.specs.Tree.{Symbol, terminal, nonterminal, group, option, repeat0, repeat1, repeat0sep, repeat1sep, rest}
use Rattle.tree.specs.Tree as tree
use Rattle.tree.specs.Tokens.{open-group, close-group, next-alternative, to-option, to-repeat0, to-repeat1, to-repeat0sep, to-repeat1sep, rule_end, version-is}
use Rattle.tree.specs.Tokens.{Token, name, member_token, member_tokens, terminal_tokens, grammar_tokens}
use Rattle.plain.specs.Written.{written, heads}
use Rattle.static_errors.specs.Held.{single, lettered, proper_member, proper_symbol, proper, Holds}
use Rattle.static_errors.specs.Parts.{Part, headed, other, part, heads_in}
use Rattle.static_errors.specs.Scan.{sound, Tokens, heads_of}
use Rattle.static_errors.proofs.Agree.{Local, of-written, of-heads}

-- what tokens give, of a symbol
abbrev pub symbol_part : {A : Type 0} → (Token → List A) → Symbol → List A
symbol_part p (terminal x) = concat_map p (terminal_tokens x)
symbol_part p (nonterminal m n) = p (name m n)
symbol_part p (group b) = []
symbol_part p (option f) = []
symbol_part p (repeat0 f) = []
symbol_part p (repeat1 f) = []
symbol_part p (repeat0sep f sep) = []
symbol_part p (repeat1sep f sep) = []
symbol_part p (rest f sep) = []

-- where tokens that hold nothing give nothing
local-of : {A : Type 0} (p : Token → List A) → p open-group ≡ [] → p close-group ≡ [] → p next-alternative ≡ [] → p to-option ≡ [] → p to-repeat0 ≡ [] → p to-repeat1 ≡ []
    → p to-repeat0sep ≡ [] → p to-repeat1sep ≡ [] → p rule_end ≡ [] → ((k : Text) → p (version-is k) ≡ []) → Local p (symbol_part p)
local-of p opens closes next optional star plus stars pluses ends version = record {
  terminals = λ x. refl;
  name = λ m n. refl;
  group = λ b. refl;
  option = λ f. refl;
  repeat0 = λ f. refl;
  repeat1 = λ f. refl;
  repeat0sep = λ f s. refl;
  repeat1sep = λ f s. refl;
  open-group = opens;
  close-group = closes;
  next-alternative = next;
  to-option = optional;
  to-repeat0 = star;
  to-repeat1 = plus;
  to-repeat0sep = stars;
  to-repeat1sep = pluses;
  rule_end = ends;
  version = version;
}

-- what is taken from parts, nothing from a part of no account
module _ {A : Type 0} (p : Part → List A) (e : p other ≡ []) where
  local : Local (λ x. p (part x)) (symbol_part (λ x. p (part x)))
  local = local-of (λ x. p (part x)) e e e e e e e e e (λ k. e)

  -- a test over the tokens is one over the symbols
  pub by-symbols : ((n : Text) → p (headed n) ≡ []) → (t : A → Bool) (g : Grammar) → T (proper g)
      → any (λ x. any t (p (part x))) (grammar_tokens g) ≡ any (λ s. any t (symbol_part (λ x. p (part x)) s)) (written g)
  by-symbols f t g h =
      sym (any-concat t (λ x. p (part x)) (grammar_tokens g))
      ∙ ap (any t) (of-written (λ x. p (part x)) (symbol_part (λ x. p (part x))) local (λ m n. f n) g h)
      ∙ any-concat t (symbol_part (λ x. p (part x))) (written g)

  -- of the members of a set
  module _ {B : Type 0} (t : A → Bool) (q : Member → List B) (u : B → Bool) (l : (m : Member) → any t (p (part (member_token m))) ≡ any u (q m)) where
    pub by_members : (ms : List Member) → any t (concat_map (λ x. p (part x)) (member_tokens ms)) ≡ any u (concat_map q ms)
    by_members [] = rw e
    by_members (m ∷ ms) =
        any_append t (p (part (member_token m))) (concat_map (λ x. p (part x)) (member_tokens ms))
        ∙ ap₂ ◌||◌ (l m) (by_members ms)
        ∙ sym (any_append u (q m) (concat_map q ms))

    in-set : (ms : List Member) → any t (p other ++ concat_map (λ x. p (part x)) (member_tokens ms)) ≡ any u (concat_map q ms)
    in-set ms = rw e (by_members ms)

-- the tokens of a proper tree are sound
faults : Token → List Bool
faults x = pick (sound x) [] (true ∷ [])

faults-local : Local faults (symbol_part faults)
unfolding faults
faults-local = local-of faults refl refl refl refl refl refl refl refl refl (λ k. refl)

fault-member : (m : Member) → T (proper_member m) → faults (member_token m) ≡ []
unfolding faults
fault-member (tree.chars (string cs)) h = refl
fault-member (tree.chars (hex n)) h = refl
fault-member (tree.range a b) h = rw (T_true (single a && single b) h)
fault-member (tree.class k) h = rw (T_true (lettered k) h)

fault-set : (ms : List Member) → T (all proper_member ms) → concat_map faults (member_tokens ms) ≡ []
unfolding faults
fault-set [] h = refl
fault-set (m ∷ ms) h = ap₂ ◌++◌ (fault-member m (and_left (proper_member m) (all proper_member ms) h)) (fault-set ms (and_right (proper_member m) (all proper_member ms) h))

fault-symbol : (s : Symbol) → T (proper_symbol s) → symbol_part faults s ≡ []
unfolding faults
fault-symbol (terminal (literal m (string cs))) h = refl
fault-symbol (terminal (literal m (hex n))) h = refl
fault-symbol (terminal (inclusion m ms)) h = fault-set ms h
fault-symbol (terminal (exclusion m ms)) h = fault-set ms h
fault-symbol (terminal (insertion (string cs))) h = refl
fault-symbol (terminal (insertion (hex n))) h = refl
fault-symbol (nonterminal m n) h = refl
fault-symbol (group b) h = refl
fault-symbol (option f) h = refl
fault-symbol (repeat0 f) h = refl
fault-symbol (repeat1 f) h = refl
fault-symbol (repeat0sep f sep) h = refl
fault-symbol (repeat1sep f sep) h = refl
fault-symbol (rest f sep) h = absurd h

no-faults : (ss : List Symbol) → T (all proper_symbol ss) → concat_map (symbol_part faults) ss ≡ []
no-faults [] h = refl
no-faults (s ∷ ss) h = ap₂ ◌++◌ (fault-symbol s (and_left (proper_symbol s) (all proper_symbol ss) h)) (no-faults ss (and_right (proper_symbol s) (all proper_symbol ss) h))

all_sound : (ts : List Token) → concat_map faults ts ≡ [] → T (all sound ts)
unfolding faults
all_sound [] e = tt
all_sound (x ∷ xs) e = go (all_sound xs) (sound x) refl
  where
    go : (concat_map faults xs ≡ [] → T (all sound xs)) → (b : Bool) → sound x ≡ b → T (all sound (x ∷ xs))
    go ih true f = let u : concat_map faults xs ≡ [] = rw f at e in rw f (ih u)
    go ih false f = let u : ◌≡◌ {A = List Bool} (true ∷ concat_map faults xs) [] = rw f at e in let z : ◌≡◌ {A = ℕ} 0 1 = cc in absurd (omega arith)

pub tokens-of : (t : List ℕ) (end : ℕ) (g : Grammar) → Holds t end g → Tokens t end 0 (grammar_tokens g)
unfolding faults
tokens-of t end g h = record {
  sound = all_sound (grammar_tokens g) (of-written faults (symbol_part faults) faults-local (λ m n. refl) g h.proper ∙ no-faults (written g) h.proper);
  low = omega arith;
  high = h.within;
  held = h.held;
}

-- 6: the heads
pub heads-are : (g : Grammar) → T (proper g) → heads_of (grammar_tokens g) ≡ heads g
heads-are g h = of-heads (λ x. heads_in (part x)) (λ s. []) none (λ r. r.name ∷ []) (λ r. refl) (λ s. refl) g h
  where
    members-none : (ms : List Member) → concat_map (λ x. heads_in (part x)) (member_tokens ms) ≡ []
    members-none [] = refl
    members-none (tree.chars (string cs) ∷ ms) = members-none ms
    members-none (tree.chars (hex n) ∷ ms) = members-none ms
    members-none (tree.range a b ∷ ms) = members-none ms
    members-none (tree.class k ∷ ms) = members-none ms

    terminal-none : (x : Terminal) → concat_map (λ y. heads_in (part y)) (terminal_tokens x) ≡ []
    terminal-none (literal m (string cs)) = refl
    terminal-none (literal m (hex n)) = refl
    terminal-none (inclusion m ms) = members-none ms
    terminal-none (exclusion m ms) = members-none ms
    terminal-none (insertion (string cs)) = refl
    terminal-none (insertion (hex n)) = refl

    none : Local (λ x. heads_in (part x)) (λ s. [])
    none = record {
      terminals = terminal-none;
      name = λ m n. refl;
      group = λ b. refl;
      option = λ f. refl;
      repeat0 = λ f. refl;
      repeat1 = λ f. refl;
      repeat0sep = λ f s. refl;
      repeat1sep = λ f s. refl;
      open-group = refl;
      close-group = refl;
      next-alternative = refl;
      to-option = refl;
      to-repeat0 = refl;
      to-repeat1 = refl;
      to-repeat0sep = refl;
      to-repeat1sep = refl;
      rule_end = refl;
      version = λ k. refl;
    }
