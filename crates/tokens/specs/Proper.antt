-- Trees that their tokens tell: no `rest` is written, and an end of a range is one character.
use Rattle.std.specs.Prelude.{List, [], ◌∷◌, ◌≡◌, length}
use Rattle.tree.specs.Tree.{Chars, string, hex, Member, chars, range, class, Terminal, literal, inclusion, exclusion, insertion}
use Rattle.tree.specs.Tree.{Symbol, terminal, nonterminal, group, option, repeat0, repeat1, repeat0sep, repeat1sep, rest, Alternative, nil, cons, Body, one, also, Rule}

abbrev pub ProperEnd : Chars → Type 0
ProperEnd (string cs) = length cs ≡ 1
ProperEnd (hex n) = Unit {0}

abbrev pub ProperMember : Member → Type 0
ProperMember (chars k) = Unit {0}
ProperMember (range a b) = ProperEnd a × ProperEnd b
ProperMember (class k) = Unit {0}

abbrev pub ProperMembers : List Member → Type 0
ProperMembers [] = Unit {0}
ProperMembers (m ∷ ms) = ProperMember m × ProperMembers ms

abbrev pub ProperTerminal : Terminal → Type 0
ProperTerminal (literal m k) = Unit {0}
ProperTerminal (inclusion m ms) = ProperMembers ms
ProperTerminal (exclusion m ms) = ProperMembers ms
ProperTerminal (insertion k) = Unit {0}

abbrev mutual
  pub Proper : Symbol → Type 0
  Proper (terminal x) = ProperTerminal x
  Proper (nonterminal m n) = Unit {0}
  Proper (group b) = ProperBody b
  Proper (option f) = Proper f
  Proper (repeat0 f) = Proper f
  Proper (repeat1 f) = Proper f
  Proper (repeat0sep f sep) = Proper f × Proper sep
  Proper (repeat1sep f sep) = Proper f × Proper sep
  Proper (rest f sep) = ⊥

  pub ProperAlternative : Alternative → Type 0
  ProperAlternative nil = Unit {0}
  ProperAlternative (cons f a) = Proper f × ProperAlternative a

  pub ProperBody : Body → Type 0
  ProperBody (one a) = ProperAlternative a
  ProperBody (also a b) = ProperAlternative a × ProperBody b

abbrev pub ProperRules : List Rule → Type 0
ProperRules [] = Unit {0}
ProperRules (r ∷ rs) = ProperBody r.body × ProperRules rs
