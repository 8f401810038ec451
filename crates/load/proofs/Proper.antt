-- The trees of grammar texts are proper: an end of a range is one character, and no rest is written.
use mathlib.Core.Path.{refl}
use mathlib.Core.List.{List}
use Prim.Native.Nat.{ℕ}
use Rattle.text.specs.Lists.{Text}
use Rattle.tree.specs.Tree.{Chars, Member, Terminal, Symbol, Alternative, Body, Rule, Grammar, rules}
use Rattle.syntax.specs.Syntax.{Character, one_char, one-hex, MemberOf, m-chars, m-range, m-class, Members, m-last, m-next, SetOf}
use Rattle.syntax.specs.Syntax.{set-none, set-some, TerminalOf, t-literal, t-inclusion, t-exclusion, t-insertion}
use Rattle.syntax.specs.Syntax.{Alts, alts-one, alts-also, Alt, alt-none, alt-some, Terms, terms-one, terms-more, Term, t-factor, t-option}
use Rattle.syntax.specs.Syntax.{t-repeat0, t-repeat0sep, t-repeat1, t-repeat1sep, Factor, f-terminal, f-nonterminal, f-group}
use Rattle.syntax.specs.Syntax.{RuleOf, a-rule, Rules, rules-none, rules-next, Ixml, ixml}
use Rattle.tokens.specs.Proper.{ProperEnd, ProperMember, ProperMembers, ProperTerminal, Proper, ProperAlternative, ProperBody, ProperRules}

end-proper : {t u : Text} {k : Chars} → Character t u k → ProperEnd k
end-proper (one_char s) = refl
end-proper (one-hex h) = tt

member-proper : {t u : Text} {m : Member} → MemberOf t u m → ProperMember m
member-proper (m-chars k) = tt
member-proper (m-range a s i s' b) = (end-proper a, end-proper b)
member-proper (m-class k) = tt

members-proper : {t u : Text} {ms : List Member} → Members t u ms → ProperMembers ms
members-proper (m-last m s) = (member-proper m, tt)
members-proper (m-next m s i s' ms) = (member-proper m, members-proper ms)

set-proper : {t u : Text} {ms : List Member} → SetOf t u ms → ProperMembers ms
set-proper (set-none i s i' s') = tt
set-proper (set-some i s ms i' s') = members-proper ms

terminal-proper : {t u : Text} {x : Terminal} → TerminalOf t u x → ProperTerminal x
terminal-proper (t-literal m k s) = tt
terminal-proper (t-inclusion m ms) = set-proper ms
terminal-proper (t-exclusion m i s ms) = set-proper ms
terminal-proper (t-insertion i s k s') = tt

mutual
  alts-proper : {d : ℕ} {t u : Text} {b : Body} → Alts d t u b → ProperBody b
  alts-proper (alts-one a) = alt-proper a
  alts-proper (alts-also a i s b) = (alt-proper a, alts-proper b)

  alt-proper : {d : ℕ} {t u : Text} {a : Alternative} → Alt d t u a → ProperAlternative a
  alt-proper alt-none = tt
  alt-proper (alt-some a) = terms-proper a

  terms-proper : {d : ℕ} {t u : Text} {a : Alternative} → Terms d t u a → ProperAlternative a
  terms-proper (terms-one f) = (term-proper f, tt)
  terms-proper (terms-more f i s a) = (term-proper f, terms-proper a)

  term-proper : {d : ℕ} {t u : Text} {f : Symbol} → Term d t u f → Proper f
  term-proper (t-factor f) = factor-proper f
  term-proper (t-option f i s) = factor-proper f
  term-proper (t-repeat0 f i s) = factor-proper f
  term-proper (t-repeat0sep f i i' s sep) = (factor-proper f, factor-proper sep)
  term-proper (t-repeat1 f i s) = factor-proper f
  term-proper (t-repeat1sep f i i' s sep) = (factor-proper f, factor-proper sep)

  factor-proper : {d : ℕ} {t u : Text} {f : Symbol} → Factor d t u f → Proper f
  factor-proper (f-terminal x) = terminal-proper x
  factor-proper (f-nonterminal m n s) = tt
  factor-proper (f-group i s b i' s') = alts-proper b

rule-proper : {t u : Text} {r : Rule} → RuleOf t u r → ProperBody r.body
rule-proper (a-rule m n s d s' b i) = alts-proper b

rules-proper : {t u : Text} {rs : List Rule} → Rules t u rs → ProperRules rs
rules-proper rules-none = tt
rules-proper (rules-next s r rs) = (rule-proper r, rules-proper rs)

pub grammar-proper : {t : Text} {g : Grammar} → Ixml t g → ProperRules (rules g)
grammar-proper (ixml s p r rs s') = (rule-proper r, rules-proper rs)
