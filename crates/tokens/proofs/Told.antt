-- The tokens of a proper tree say how many numbers they take.
use mathlib.Core.List.{List, [], ◌∷◌, ◌++◌}
use Rattle.text.specs.Lists.{concat_map}
use Rattle.tree.specs.Tree.{string, hex, Member, chars, range, class, Terminal, literal, inclusion, exclusion, insertion}
use Rattle.tree.specs.Tree.{Symbol, terminal, nonterminal, group, option, repeat0, repeat1, repeat0sep, repeat1sep, rest, Alternative, nil}
use Rattle.tree.specs.Tree.{cons, Body, one, also, Rule, Prolog, no-prolog, version, Grammar, rules}
use Rattle.tree.specs.Tokens.{Token, close-group, next-alternative, to-option, to-repeat0, to-repeat1, to-repeat0sep, to-repeat1sep, rule_end}
use Rattle.tree.specs.Tokens.{member_token, member_tokens, terminal_tokens, symbol_tokens, alternative_tokens, body_tokens, rule_tokens, prolog_tokens, grammar_tokens}
use Rattle.tokens.specs.Proper.{ProperMember, ProperMembers, ProperTerminal, Proper, ProperAlternative, ProperBody, ProperRules}
use Rattle.tokens.specs.Lengths.{Told, AllTold}

pub told-append : (ts us : List Token) → AllTold ts → AllTold us → AllTold (ts ++ us)
told-append [] us p q = q
told-append (t ∷ ts) us p q = (p.0, told-append ts us p.1 q)

told-member : (m : Member) → ProperMember m → Told (member_token m)
told-member (chars (string cs)) p = tt
told-member (chars (hex n)) p = tt
told-member (range a b) p = p
told-member (class k) p = tt

told-members : (ms : List Member) → ProperMembers ms → AllTold (member_tokens ms)
told-members [] p = (tt, tt)
told-members (m ∷ ms) p = (told-member m p.0, told-members ms p.1)

told-terminal : (x : Terminal) → ProperTerminal x → AllTold (terminal_tokens x)
told-terminal (literal m (string cs)) p = (tt, tt)
told-terminal (literal m (hex n)) p = (tt, tt)
told-terminal (inclusion m ms) p = (tt, told-members ms p)
told-terminal (exclusion m ms) p = (tt, told-members ms p)
told-terminal (insertion (string cs)) p = (tt, tt)
told-terminal (insertion (hex n)) p = (tt, tt)

mutual
  pub told-symbol : (s : Symbol) → Proper s → AllTold (symbol_tokens s)
  told-symbol (terminal x) p = told-terminal x p
  told-symbol (nonterminal m n) p = (tt, tt)
  told-symbol (group b) p = (tt, told-append (body_tokens b) (close-group ∷ []) (told-body b p) (tt, tt))
  told-symbol (option f) p = told-append (symbol_tokens f) (to-option ∷ []) (told-symbol f p) (tt, tt)
  told-symbol (repeat0 f) p = told-append (symbol_tokens f) (to-repeat0 ∷ []) (told-symbol f p) (tt, tt)
  told-symbol (repeat1 f) p = told-append (symbol_tokens f) (to-repeat1 ∷ []) (told-symbol f p) (tt, tt)
  told-symbol (repeat0sep f sep) p =
      told-append (symbol_tokens f) (symbol_tokens sep ++ to-repeat0sep ∷ []) (told-symbol f p.0)
      (told-append (symbol_tokens sep) (to-repeat0sep ∷ []) (told-symbol sep p.1) (tt, tt))
  told-symbol (repeat1sep f sep) p =
      told-append (symbol_tokens f) (symbol_tokens sep ++ to-repeat1sep ∷ []) (told-symbol f p.0)
      (told-append (symbol_tokens sep) (to-repeat1sep ∷ []) (told-symbol sep p.1) (tt, tt))
  told-symbol (rest f sep) p = absurd p

  told-alternative : (a : Alternative) → ProperAlternative a → AllTold (alternative_tokens a)
  told-alternative nil p = tt
  told-alternative (cons f a) p = told-append (symbol_tokens f) (alternative_tokens a) (told-symbol f p.0) (told-alternative a p.1)

  pub told-body : (b : Body) → ProperBody b → AllTold (body_tokens b)
  told-body (one a) p = told-alternative a p
  told-body (also a b) p = told-append (alternative_tokens a) (next-alternative ∷ body_tokens b) (told-alternative a p.0) (tt, told-body b p.1)

told-rules : (rs : List Rule) → ProperRules rs → AllTold (concat_map rule_tokens rs)
told-rules [] p = tt
told-rules (r ∷ rs) p = told-append (rule_tokens r) (concat_map rule_tokens rs) (tt, told-append (body_tokens r.body) (rule_end ∷ []) (told-body r.body p.0) (tt, tt)) (told-rules rs p.1)

told-prolog : (p : Prolog) → AllTold (prolog_tokens p)
told-prolog no-prolog = tt
told-prolog (version k) = (tt, tt)

pub told-grammar : (g : Grammar) → ProperRules (rules g) → AllTold (grammar_tokens g)
told-grammar g p = told-append (prolog_tokens g.prolog) (concat_map rule_tokens (rules g)) (told-prolog g.prolog) (told-rules (rules g) p)
