-- What is left after something read is shorter.
use native.Mathlib.Omega.{arith}
use mathlib.Core.Bool.{Bool}
use mathlib.Core.List.{List}
use Prim.Native.Nat.{ℕ, ◌<◌, ◌≤◌}
use Rattle.text.specs.Lists.{Text}
use Rattle.syntax.specs.Syntax.{chr, is, S, Comment, Inside, RS, String, CharsOf, SetOf, Marked, Followers, Name, TerminalOf, Alts}
use Rattle.syntax.specs.Syntax.{Alt, Terms, Term, Factor, RuleOf, Qchar, Qchars, Digits, Hex, Character, MemberOf, Members}
use Rattle.syntax.specs.Syntax.Comment.{comment}
use Rattle.syntax.specs.Syntax.Inside.{in-none, in-char, in-comment}
use Rattle.syntax.specs.Syntax.S.{s-none, s-white, s-comment}
use Rattle.syntax.specs.Syntax.RS.{rs-white, rs-comment}
use lib.ListN.{length}
use Rattle.tree.specs.Tree.{Mark, Chars, Member, Terminal, Symbol, Alternative, Body, Rule}
use Rattle.syntax.specs.Syntax.SetOf.{set-none, set-some}
use Rattle.syntax.specs.Syntax.Marked.{mark-none, mark-some}
use Rattle.syntax.specs.Syntax.CharsOf.{c-string, c-hex}
use Rattle.syntax.specs.Syntax.Followers.{f-none, f-next}
use Rattle.syntax.specs.Syntax.Name.{a-name}
use Rattle.syntax.specs.Syntax.TerminalOf.{t-literal, t-inclusion, t-exclusion, t-insertion}
use Rattle.syntax.specs.Syntax.Alts.{alts-one, alts-also}
use Rattle.syntax.specs.Syntax.Alt.{alt-none, alt-some}
use Rattle.syntax.specs.Syntax.Terms.{terms-one, terms-more}
use Rattle.syntax.specs.Syntax.Term.{t-factor, t-option, t-repeat0, t-repeat0sep, t-repeat1, t-repeat1sep}
use Rattle.syntax.specs.Syntax.Factor.{f-terminal, f-nonterminal, f-group}
use Rattle.syntax.specs.Syntax.RuleOf.{a-rule}
use Rattle.syntax.specs.Syntax.Qchar.{q-plain, q-doubled}
use Rattle.syntax.specs.Syntax.Qchars.{q-last, q-next}
use Rattle.syntax.specs.Syntax.String.{a-string}
use Rattle.syntax.specs.Syntax.Digits.{d-last, d-next}
use Rattle.syntax.specs.Syntax.Hex.{a-hex}
use Rattle.syntax.specs.Syntax.Character.{one_char, one-hex}
use Rattle.syntax.specs.Syntax.Class.{c-one, c-two}
use Rattle.syntax.specs.Syntax.MemberOf.{m-chars, m-range, m-class}
use Rattle.syntax.specs.Syntax.Members.{m-last, m-next}

mutual
  pub short-comment : {d : ℕ} {t u : Text} → Comment d t u → length u < length t
  short-comment (comment (is p) b (is q)) = let h = short-inside b in omega arith

  pub short-inside : {d : ℕ} {t u : Text} → Inside d t u → length u ≤ length t
  short-inside in-none = omega arith
  short-inside (in-char (is p) b) = let h = short-inside b in omega arith
  short-inside (in-comment c b) = let h = short-inside b in let k = short-comment c in omega arith

pub short-s : {t u : Text} → S t u → length u ≤ length t
short-s s-none = omega arith
short-s (s-white (is p) s) = let h = short-s s in omega arith
short-s (s-comment c s) = let h = short-s s in let k = short-comment c in omega arith

pub short-rs : {t u : Text} → RS t u → length u < length t
short-rs (rs-white (is p) s) = let h = short-s s in omega arith
short-rs (rs-comment c s) = let h = short-s s in let k = short-comment c in omega arith

pub short-qchar : {q c : ℕ} {t u : Text} → Qchar q t u c → length u < length t
short-qchar (q-plain (chr p)) = omega arith
short-qchar (q-doubled (is p) (is q)) = omega arith

pub short-qchars : {q : ℕ} {t u cs : Text} → Qchars q t u cs → length u < length t
short-qchars (q-last d) = short-qchar d
short-qchars (q-next d r) = let h = short-qchars r in let k = short-qchar d in omega arith

pub short-string : {t u cs : Text} → String t u cs → length u < length t
short-string (a-string (chr p) d (is q)) = let h = short-qchars d in omega arith

pub short-digits : {n m : ℕ} {t u : Text} → Digits n t u m → length u < length t
short-digits (d-last (chr p)) = omega arith
short-digits (d-next (chr p) d) = let h = short-digits d in omega arith

pub short-hex : {t u : Text} {n : ℕ} → Hex t u n → length u < length t
short-hex (a-hex (is p) d) = let h = short-digits d in omega arith

pub short-chars : {t u : Text} {k : Chars} → CharsOf t u k → length u < length t
short-chars (c-string s) = short-string s
short-chars (c-hex h) = short-hex h

pub of-character : {t u : Text} {k : Chars} → Character t u k → CharsOf t u k
of-character (one_char s) = c-string s
of-character (one-hex h) = c-hex h

pub short-member : {t u : Text} {m : Member} → MemberOf t u m → length u < length t
short-member (m-chars h) = short-chars h
short-member (m-range a s (is p) s' b) = let h = short-chars (of-character a) in let i = short-s s in let j = short-s s' in let k = short-chars (of-character b) in omega arith
short-member (m-class (c-one (chr p))) = omega arith
short-member (m-class (c-two (chr p) (chr q))) = omega arith

pub short-members : {t u : Text} {ms : List Member} → Members t u ms → length u < length t
short-members (m-last p s) = let h = short-member p in let i = short-s s in omega arith
short-members (m-next p s (is q) s' r) = let h = short-member p in let i = short-s s in let j = short-s s' in let k = short-members r in omega arith

pub short-set : {t u : Text} {ms : List Member} → SetOf t u ms → length u < length t
short-set (set-none (is p) s (is q) s') = let i = short-s s in let j = short-s s' in omega arith
short-set (set-some (is p) s r (is q) s') = let i = short-s s in let j = short-s s' in let k = short-members r in omega arith

pub short-marked : {f : ℕ → Bool} {t u : Text} {m : Mark} → Marked f t u m → length u ≤ length t
short-marked mark-none = omega arith
short-marked (mark-some (chr p) s) = let i = short-s s in omega arith

pub short-followers : {t u cs : Text} → Followers t u cs → length u ≤ length t
short-followers f-none = omega arith
short-followers (f-next (chr p) f) = let h = short-followers f in omega arith

pub short-name : {t u cs : Text} → Name t u cs → length u < length t
short-name (a-name (chr p) f) = let h = short-followers f in omega arith

pub short-terminal : {t u : Text} {x : Terminal} → TerminalOf t u x → length u < length t
short-terminal (t-literal p h s) = let i = short-marked p in let j = short-chars h in let k = short-s s in omega arith
short-terminal (t-inclusion p h) = let i = short-marked p in let j = short-set h in omega arith
short-terminal (t-exclusion p (is q) s h) = let i = short-marked p in let j = short-set h in let k = short-s s in omega arith
short-terminal (t-insertion (is q) s h s') = let j = short-chars h in let k = short-s s in let l = short-s s' in omega arith

mutual
  pub short-alts : {d : ℕ} {t u : Text} {b : Body} → Alts d t u b → length u ≤ length t
  short-alts (alts-one a) = short-alt a
  short-alts (alts-also a (is b) s r) = let h = short-alt a in let k = short-s s in let l = short-alts r in omega arith

  pub short-alt : {d : ℕ} {t u : Text} {a : Alternative} → Alt d t u a → length u ≤ length t
  short-alt alt-none = omega arith
  short-alt (alt-some ts) = let h = short-terms ts in omega arith

  pub short-terms : {d : ℕ} {t u : Text} {a : Alternative} → Terms d t u a → length u < length t
  short-terms (terms-one a) = short_term a
  short-terms (terms-more a (is b) s r) = let h = short_term a in let k = short-s s in let l = short-terms r in omega arith

  pub short_term : {d : ℕ} {t u : Text} {f : Symbol} → Term d t u f → length u < length t
  short_term (t-factor f) = short-factor f
  short_term (t-option f (is p) s) = let h = short-factor f in let k = short-s s in omega arith
  short_term (t-repeat0 f (is p) s) = let h = short-factor f in let k = short-s s in omega arith
  short_term (t-repeat1 f (is p) s) = let h = short-factor f in let k = short-s s in omega arith
  short_term (t-repeat0sep f (is p) (is q) s g) = let h = short-factor f in let k = short-s s in let l = short-factor g in omega arith
  short_term (t-repeat1sep f (is p) (is q) s g) = let h = short-factor f in let k = short-s s in let l = short-factor g in omega arith

  pub short-factor : {d : ℕ} {t u : Text} {f : Symbol} → Factor d t u f → length u < length t
  short-factor (f-terminal x) = short-terminal x
  short-factor (f-nonterminal p c s) = let g = short-marked p in let h = short-name c in let k = short-s s in omega arith
  short-factor (f-group (is p) s a (is q) s') = let h = short-s s in let k = short-s s' in let l = short-alts a in omega arith

pub short-rule : {t u : Text} {r : Rule} → RuleOf t u r → length u < length t
short-rule (a-rule p n s (is c) s' a (is q)) = let g = short-marked p in let h = short-name n in let i = short-s s in let j = short-s s' in let k = short-alts a in omega arith
