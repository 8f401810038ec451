-- All that a grammar text writes is proper: ends of ranges, letters of classes, and no rest.
use mathlib.Core.Path.{◌≡◌, refl}
use mathlib.Core.Bool.{Bool, true, false, not}
use mathlib.Core.List.{List, [], ◌∷◌, ◌++◌}
use Prim.Native.Nat.{ℕ}
use lib.Dec.{T, eqb}
use borrow.Author.Tests.{eqb-true}
use Rattle.text.specs.Lists.{Text, all, concat_map}
use Rattle.text.proofs.Tests.{and_left, and_right, both-and, clash}
use Rattle.tree.specs.Tree.{Chars, Member, Terminal, Symbol, Alternative, Body, Rule, Grammar}
use Rattle.plain.specs.Written.{within, within_alternative, within_body, members_in}
use Rattle.syntax.specs.Syntax.{letter, capital, chr, Class, c-one, c-two, Character, one_char, one-hex, MemberOf, m-chars, m-range}
use Rattle.syntax.specs.Syntax.{m-class, Members, m-last, m-next, SetOf, set-none, set-some, TerminalOf, t-literal, t-inclusion}
use Rattle.syntax.specs.Syntax.{t-exclusion, t-insertion}
use Rattle.syntax.specs.Syntax.{Alts, alts-one, alts-also, Alt, alt-none, alt-some, Terms, terms-one, terms-more, Term, t-factor, t-option}
use Rattle.syntax.specs.Syntax.{t-repeat0, t-repeat0sep, t-repeat1, t-repeat1sep, Factor, f-terminal, f-nonterminal, f-group}
use Rattle.syntax.specs.Syntax.{RuleOf, a-rule, Rules, rules-none, rules-next, Ixml, ixml}
use Rattle.static_errors.specs.Held.{single, lettered, proper_member, proper_symbol, proper}

all_append : {A : Type 0} (p : A → Bool) (xs ys : List A) → T (all p xs) → T (all p ys) → T (all p (xs ++ ys))
all_append p [] ys h k = k
all_append p (x ∷ xs) ys h k = both-and (p x) (all p (xs ++ ys)) (and_left (p x) (all p xs) h) (all_append p xs ys (and_right (p x) (all p xs) h) k)

end-proper : {t u : Text} {k : Chars} → Character t u k → T (single k)
end-proper (one_char s) = tt
end-proper (one-hex h) = tt

letter-some : (e : ℕ) → letter e ≡ true → T (not (eqb e 0))
unfolding letter capital
letter-some e h = go (eqb e 0) refl
  where
    go : (b : Bool) → eqb e 0 ≡ b → T (not b)
    go true q = let z = eqb-true e 0 q in clash refl (rw z at h)
    go false q = tt

class-proper : {t u k : Text} → Class t u k → T (lettered k)
class-proper (c-one c) = tt
class-proper (c-two {e = e} c (chr h)) = letter-some e h

member-proper : {t u : Text} {m : Member} → MemberOf t u m → T (proper_member m)
member-proper (m-chars k) = tt
member-proper (m-range {a = a} {b = b} x s i s' y) = both-and (single a) (single b) (end-proper x) (end-proper y)
member-proper (m-class k) = class-proper k

members-proper : {t u : Text} {ms : List Member} → Members t u ms → T (all proper_member ms)
members-proper (m-last {m = m} x s) = both-and (proper_member m) true (member-proper x) tt
members-proper (m-next {m = m} {ms = ms} x s i s' xs) = both-and (proper_member m) (all proper_member ms) (member-proper x) (members-proper xs)

set-proper : {t u : Text} {ms : List Member} → SetOf t u ms → T (all proper_member ms)
set-proper (set-none i s i' s') = tt
set-proper (set-some i s ms i' s') = members-proper ms

terminal-proper : {t u : Text} {x : Terminal} → TerminalOf t u x → T (all proper_member (members_in x))
terminal-proper (t-literal m k s) = tt
terminal-proper (t-inclusion m ms) = set-proper ms
terminal-proper (t-exclusion m i s ms) = set-proper ms
terminal-proper (t-insertion i s k s') = tt

mutual
  alts-proper : {d : ℕ} {t u : Text} {b : Body} → Alts d t u b → T (all proper_symbol (within_body b))
  alts-proper (alts-one a) = alt-proper a
  alts-proper (alts-also {a = a} {b = b} x i s y) = all_append proper_symbol (within_alternative a) (within_body b) (alt-proper x) (alts-proper y)

  alt-proper : {d : ℕ} {t u : Text} {a : Alternative} → Alt d t u a → T (all proper_symbol (within_alternative a))
  alt-proper alt-none = tt
  alt-proper (alt-some a) = terms-proper a

  terms-proper : {d : ℕ} {t u : Text} {a : Alternative} → Terms d t u a → T (all proper_symbol (within_alternative a))
  terms-proper (terms-one {f = f} x) = all_append proper_symbol (within f) [] (term-proper x) tt
  terms-proper (terms-more {f = f} {a = a} x i s y) = all_append proper_symbol (within f) (within_alternative a) (term-proper x) (terms-proper y)

  term-proper : {d : ℕ} {t u : Text} {f : Symbol} → Term d t u f → T (all proper_symbol (within f))
  term-proper (t-factor f) = factor-proper f
  term-proper (t-option f i s) = factor-proper f
  term-proper (t-repeat0 f i s) = factor-proper f
  term-proper (t-repeat0sep {f = f} {sep = sep} x i i' s y) = all_append proper_symbol (within f) (within sep) (factor-proper x) (factor-proper y)
  term-proper (t-repeat1 f i s) = factor-proper f
  term-proper (t-repeat1sep {f = f} {sep = sep} x i i' s y) = all_append proper_symbol (within f) (within sep) (factor-proper x) (factor-proper y)

  factor-proper : {d : ℕ} {t u : Text} {f : Symbol} → Factor d t u f → T (all proper_symbol (within f))
  factor-proper (f-terminal {x = x} y) = both-and (all proper_member (members_in x)) true (terminal-proper y) tt
  factor-proper (f-nonterminal m n s) = tt
  factor-proper (f-group i s b i' s') = alts-proper b

rule-proper : {t u : Text} {r : Rule} → RuleOf t u r → T (all proper_symbol (within_body r.body))
rule-proper (a-rule m n s d s' b i) = alts-proper b

rules-proper : {t u : Text} {rs : List Rule} → Rules t u rs → T (all proper_symbol (concat_map (λ r. within_body r.body) rs))
rules-proper rules-none = tt
rules-proper (rules-next {r = r} {rs = rs} s x xs) = all_append proper_symbol (within_body r.body) (concat_map (λ r. within_body r.body) rs) (rule-proper x) (rules-proper xs)

pub written-proper : {t : Text} {g : Grammar} → Ixml t g → T (proper g)
written-proper (ixml {r = r} {rs = rs} s p x xs s') = all_append proper_symbol (within_body r.body) (concat_map (λ r. within_body r.body) rs) (rule-proper x) (rules-proper xs)
