-- A tree that was read is one that is written: operators stand behind factors.
use mathlib.Core.Path.{◌≡◌}
use mathlib.Core.Bool.{true}
use mathlib.Core.List.{List}
use Prim.Native.Nat.{ℕ}
use Rattle.text.specs.Lists.{Text}
use Rattle.tree.specs.Tree.{Symbol, Alternative, Body, Rule, Grammar}
use Rattle.tree.specs.Tokens.{grammar_tokens}
use Rattle.syntax.specs.Syntax.{Alts, alts-one, alts-also, Alt, alt-none, alt-some, Terms, terms-one, terms-more, Term, t-factor, t-option, t-repeat0, t-repeat0sep, t-repeat1}
use Rattle.syntax.specs.Syntax.{t-repeat1sep, Factor, f-terminal, f-nonterminal, f-group, RuleOf, a-rule, Rules, rules-none, rules-next, Ixml, ixml}
use Rattle.tidy.specs.Tidy.{tidy_text}
use Rattle.tidy.specs.Scan.{scan}
use Rattle.tidy.proofs.Scan.{IsFactor, IsTerm, IsAlternative, IsBody, AreRules, grammar-scan}

mutual
  is_body : {d : ℕ} {t u : Text} {b : Body} → Alts d t u b → IsBody b
  is_body (alts-one h) = is-alternative h
  is_body (alts-also h i s hs) = (is-alternative h, is_body hs)

  is-alternative : {d : ℕ} {t u : Text} {a : Alternative} → Alt d t u a → IsAlternative a
  is-alternative alt-none = tt
  is-alternative (alt-some h) = are-terms h

  are-terms : {d : ℕ} {t u : Text} {a : Alternative} → Terms d t u a → IsAlternative a
  are-terms (terms-one h) = (is-term h, tt)
  are-terms (terms-more h i s hs) = (is-term h, are-terms hs)

  is-term : {d : ℕ} {t u : Text} {f : Symbol} → Term d t u f → IsTerm f
  is-term (t-factor h) = factor-term h
  is-term (t-option h i s) = is-factor h
  is-term (t-repeat0 h i s) = is-factor h
  is-term (t-repeat1 h i s) = is-factor h
  is-term (t-repeat0sep h i i' s h') = (is-factor h, is-factor h')
  is-term (t-repeat1sep h i i' s h') = (is-factor h, is-factor h')

  is-factor : {d : ℕ} {t u : Text} {f : Symbol} → Factor d t u f → IsFactor f
  is-factor (f-terminal h) = tt
  is-factor (f-nonterminal h k s) = tt
  is-factor (f-group i s h j s') = is_body h

  factor-term : {d : ℕ} {t u : Text} {f : Symbol} → Factor d t u f → IsTerm f
  factor-term (f-terminal h) = tt
  factor-term (f-nonterminal h k s) = tt
  factor-term (f-group i s h j s') = is_body h

is-rule : {t u : Text} {r : Rule} → RuleOf t u r → IsBody r.body
is-rule (a-rule h k s d s' b e) = is_body b

are-rules : {t u : Text} {rs : List Rule} → Rules t u rs → AreRules rs
are-rules rules-none = tt
are-rules (rules-next s h hs) = (is-rule h, are-rules hs)

pub tidy-scan : (t : Text) (g : Grammar) → Ixml t g → scan true (grammar_tokens g) ≡ tidy_text g
tidy-scan t g (ixml s p h hs e) = grammar-scan g (is-rule h, are-rules hs)
