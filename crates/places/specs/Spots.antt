-- Where what is written in a grammar stands. A derivation of the printed grammar says it: each of its parts is about the text from
-- there on. A spot keeps how many characters are left there, so what stands in front of a grammar moves no spot.
use Rattle.std.specs.Prelude.{List, [], ◌∷◌, ◌++◌, ℕ, length}
use Rattle.text.specs.Lists.{Text}
use Rattle.tree.specs.Tree.{Chars, Member, chars, range, class, Terminal, Symbol, Alternative, Body, Rule, Prolog, Grammar}
use Rattle.syntax.specs.Syntax.{MemberOf, m-chars, m-range, m-class, Members, m-last, m-next, SetOf, set-none, set-some, TerminalOf, t-literal, t-inclusion, t-exclusion, t-insertion}
use Rattle.syntax.specs.Syntax.{Alts, alts-one, alts-also, Alt, alt-none, alt-some, Terms, terms-one, terms-more, Term, t-factor, t-option, t-repeat0, t-repeat0sep, t-repeat1, t-repeat1sep}
use Rattle.syntax.specs.Syntax.{Factor, f-terminal, f-nonterminal, f-group, RuleOf, a-rule, Rules, rules-none, rules-next, PrologOf, prolog-none, prolog-some, Ixml, ixml}

-- what stands at a spot: a name that is used; a rule's name; a literal or an insertion; a member of a set, of which a range is
-- written from its first end on; a range's second end; a set, a group, a word of the prolog
pub data Part : Type 0 where
  used headed : Text → Part
  spelt : Chars → Part
  member : Member → Part
  to : Chars → Part
  other : Part

pub record Spot : Type 0 where
  pub left : ℕ
  pub part : Part

abbrev pub spot : Text → Part → Spot
spot t x = record { left = length t; part = x }

-- a range at the quote or `#` that begins it, its second end at its own, a class at its capital
abbrev pub spots_member : {t u : Text} {m : Member} → MemberOf t u m → List Spot
spots_member {t} (m-chars {k = k} c) = spot t (member (chars k)) ∷ []
spots_member {t} (m-range {x = x} {a = a} {b = b} c s i s' e) = spot t (member (range a b)) ∷ spot x (to b) ∷ []
spots_member {t} (m-class {k = k} c) = spot t (member (class k)) ∷ []

abbrev pub spots_members : {t u : Text} {ms : List Member} → Members t u ms → List Spot
spots_members (m-last m s) = spots_member m
spots_members (m-next m s i s' ms) = spots_member m ++ spots_members ms

-- a set at its bracket
abbrev pub spots_set : {t u : Text} {ms : List Member} → SetOf t u ms → List Spot
spots_set {t} (set-none i s j s') = spot t other ∷ []
spots_set {t} (set-some i s ms j s') = spot t other ∷ spots_members ms

-- a literal or an insertion at its quote or `#`, after its sign and spacing
abbrev pub spots_terminal : {t u : Text} {x : Terminal} → TerminalOf t u x → List Spot
spots_terminal (t-literal {u = u} {k = k} p c s) = spot u (spelt k) ∷ []
spots_terminal (t-inclusion p ms) = spots_set ms
spots_terminal (t-exclusion p i s ms) = spots_set ms
spots_terminal (t-insertion {v = v} {k = k} i s c s') = spot v (spelt k) ∷ []

-- a name after its mark and spacing, a group at its bracket
abbrev mutual
  pub spots_alts : {d : ℕ} {t u : Text} {b : Body} → Alts d t u b → List Spot
  spots_alts (alts-one a) = spots_alt a
  spots_alts (alts-also a i s b) = spots_alt a ++ spots_alts b

  pub spots_alt : {d : ℕ} {t u : Text} {a : Alternative} → Alt d t u a → List Spot
  spots_alt alt-none = []
  spots_alt (alt-some a) = spots_terms a

  pub spots_terms : {d : ℕ} {t u : Text} {a : Alternative} → Terms d t u a → List Spot
  spots_terms (terms-one f) = spots_term f
  spots_terms (terms-more f i s a) = spots_term f ++ spots_terms a

  pub spots_term : {d : ℕ} {t u : Text} {f : Symbol} → Term d t u f → List Spot
  spots_term (t-factor f) = spots_factor f
  spots_term (t-option f i s) = spots_factor f
  spots_term (t-repeat0 f i s) = spots_factor f
  spots_term (t-repeat0sep f i j s g) = spots_factor f ++ spots_factor g
  spots_term (t-repeat1 f i s) = spots_factor f
  spots_term (t-repeat1sep f i j s g) = spots_factor f ++ spots_factor g

  pub spots_factor : {d : ℕ} {t u : Text} {f : Symbol} → Factor d t u f → List Spot
  spots_factor (f-terminal x) = spots_terminal x
  spots_factor (f-nonterminal {u = u} {n = n} p k s) = spot u (used n) ∷ []
  spots_factor {d} {t} (f-group i s b j s') = spot t other ∷ spots_alts b

abbrev pub spots_rule : {t u : Text} {r : Rule} → RuleOf t u r → List Spot
spots_rule (a-rule {u = u} {n = n} p k s i s' a j) = spot u (headed n) ∷ spots_alts a

abbrev pub spots_rules : {t u : Text} {rs : List Rule} → Rules t u rs → List Spot
spots_rules rules-none = []
spots_rules (rules-next s r rs) = spots_rule r ++ spots_rules rs

abbrev pub spots_prolog : {t u : Text} {p : Prolog} → PrologOf t u p → List Spot
spots_prolog prolog-none = []
spots_prolog {t} (prolog-some {v = v} {x = x} i r w r' k s j s') = spot t other ∷ spot v other ∷ spot x other ∷ []

-- all that is written, in the order of the text
abbrev pub spots : {t : Text} {g : Grammar} → Ixml t g → List Spot
spots (ixml s p r rs e) = spots_prolog p ++ (spots_rule r ++ spots_rules rs)
