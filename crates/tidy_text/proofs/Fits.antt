-- The table tells all of each token of a grammar's text that no refusal 7 forbids.
use mathlib.Core.Path.{◌≡◌, refl, subst}
use mathlib.Core.Bool.{true, false}
use mathlib.Core.List.Memᴰ.{head as in_head}
use mathlib.Core.List.Memᴰ.{tail as in_Tail}
use mathlib.Core.List.{List, [], ◌∷◌, ◌++◌, Memᴰ as In}
use mathlib.Core.List.Memᴰ.{append_left as in_left}
use mathlib.Core.List.Memᴰ.{append_right as in_right}
use Prim.Native.Nat.{ℕ, ◌<◌}
use native.Mathlib.Omega.{arith}
use lib.Dec.{ltb}
use borrow.Author.Tests.{ltb-false}
use Rattle.text.specs.Lists.{Text, concat_map}
use Rattle.text.proofs.Tests.{T_false, not_t, clash}
use Rattle.tree.specs.Tree.{Chars, hex, Member, Terminal, Symbol, terminal, Alternative, Body, Rule, Prolog, Grammar}
use Rattle.tree.specs.Tokens.{Token, close-group, next-alternative, to-option, to-repeat0, to-repeat1, to-repeat0sep, to-repeat1sep, rule_end}
use Rattle.tree.specs.Tokens.{member_token, member_tokens, terminal_tokens, symbol_tokens, alternative_tokens, body_tokens, rule_tokens, prolog_tokens, grammar_tokens}
use Rattle.syntax.specs.Syntax.{chr, letter, capital, c-string, c-hex, Character, one_char, one-hex, Class, c-one, c-two, MemberOf, m-chars, m-range, m-class}
use Rattle.syntax.specs.Syntax.{Members, m-last, m-next, SetOf, set-none, set-some, TerminalOf, t-literal, t-inclusion, t-exclusion, t-insertion}
use Rattle.syntax.specs.Syntax.{Alts, alts-one, alts-also, Alt, alt-none, alt-some, Terms, terms-one, terms-more, Term, t-factor, t-option, t-repeat0, t-repeat0sep, t-repeat1}
use Rattle.syntax.specs.Syntax.{t-repeat1sep, Factor, f-terminal, f-nonterminal, f-group, RuleOf, a-rule, Rules, rules-none, rules-next, PrologOf, prolog-none, prolog-some, Ixml, ixml}
use Rattle.plain.specs.Written.{within, within_alternative, within_body, written, terminals, terminals_in, chars_in, chars_in_member, hexes, hex_in}
use Rattle.plain.specs.Static.{beyond}
use Rattle.derive.proofs.Symbols.{in-concat}
use Rattle.derive.proofs.Productive.{any-in}
use Rattle.tidy_writer.specs.Parts.{FitEnd, FitClass, Fit}
use Rattle.tidy_text.specs.Whole.{AllFit}

fit_append : (ts us : List Token) → AllFit ts → AllFit us → AllFit (ts ++ us)
fit_append [] us p q = q
fit_append (t ∷ ts) us p q = (p.0, fit_append ts us p.1 q)

-- hex numbers that are characters'
abbrev Low : List Chars → Type 0
Low ks = (n : ℕ) → In (hex n) ks → n < 0x110000

low-left : (xs ys : List Chars) → Low (xs ++ ys) → Low xs
low-left xs ys h n m = h n (in_left ys m)

low-right : (xs ys : List Chars) → Low (xs ++ ys) → Low ys
low-right xs ys h n m = h n (in_right xs m)

fit-end : {t u : Text} {k : Chars} → Character t u k → Low (k ∷ []) → FitEnd k
fit-end (one_char s) h = refl
fit-end (one-hex {n = n} x) h = h n (in_head refl)

fit-class : {t u k : Text} → Class t u k → FitClass k
unfolding letter capital
fit-class (c-one x) = tt
fit-class (c-two x (chr {c = e} l)) = ((λ z. clash refl (subst (λ c. letter c ≡ true) z l)), refl)

fit-member : {t u : Text} {m : Member} → MemberOf t u m → Low (chars_in_member m) → Fit (member_token m)
fit-member (m-chars (c-string s)) h = tt
fit-member (m-chars (c-hex {n = n} x)) h = h n (in_head refl)
fit-member (m-range {a = a} {b = b} x s i s' y) h = (fit-end x (low-left (a ∷ []) (b ∷ []) h), fit-end y (low-right (a ∷ []) (b ∷ []) h))
fit-member (m-class k) h = fit-class k

fit-members : {t u : Text} {ms : List Member} → Members t u ms → Low (concat_map chars_in_member ms) → AllFit (member_tokens ms)
fit-members (m-last {m = m} x s) h = (fit-member x (low-left (chars_in_member m) [] h), (tt, tt))
fit-members (m-next {m = m} {ms = ms} x s i s' xs) h =
    (fit-member x (low-left (chars_in_member m) (concat_map chars_in_member ms) h), fit-members xs (low-right (chars_in_member m) (concat_map chars_in_member ms) h))

fit-set : {t u : Text} {ms : List Member} → SetOf t u ms → Low (concat_map chars_in_member ms) → AllFit (member_tokens ms)
fit-set (set-none i s i' s') h = (tt, tt)
fit-set (set-some i s x i' s') h = fit-members x h

fit-terminal : {t u : Text} {x : Terminal} → TerminalOf t u x → Low (chars_in x) → AllFit (terminal_tokens x)
fit-terminal (t-literal m (c-string c) s) h = (tt, tt)
fit-terminal (t-literal m (c-hex {n = n} c) s) h = (h n (in_head refl), tt)
fit-terminal (t-inclusion m x) h = (tt, fit-set x h)
fit-terminal (t-exclusion m i s x) h = (tt, fit-set x h)
fit-terminal (t-insertion i s (c-string c) s') h = (tt, tt)
fit-terminal (t-insertion i s (c-hex {n = n} c) s') h = (h n (in_head refl), tt)

-- symbols whose terminals have no other hex numbers
abbrev AllLow : List Symbol → Type 0
AllLow ss = (x : Terminal) → In (terminal x) ss → Low (chars_in x)

on-left : (ss ts : List Symbol) → AllLow (ss ++ ts) → AllLow ss
on-left ss ts h x m = h x (in_left ts m)

on-right : (ss ts : List Symbol) → AllLow (ss ++ ts) → AllLow ts
on-right ss ts h x m = h x (in_right ss m)

inner : {s : Symbol} {ss : List Symbol} → AllLow (s ∷ ss) → AllLow ss
inner h x m = h x (in_Tail m)

behind : (f : Symbol) (t : Token) → Fit t → AllFit (symbol_tokens f) → AllFit (symbol_tokens f ++ t ∷ [])
behind f t p q = fit_append (symbol_tokens f) (t ∷ []) q (p, tt)

mutual
  fit-body : {d : ℕ} {t u : Text} {b : Body} → Alts d t u b → AllLow (within_body b) → AllFit (body_tokens b)
  fit-body (alts-one a) h = fit-alternative a h
  fit-body (alts-also {a = a} {b = b} x i s y) h =
      fit_append (alternative_tokens a) (next-alternative ∷ body_tokens b) (fit-alternative x (on-left (within_alternative a) (within_body b) h))
      (tt, fit-body y (on-right (within_alternative a) (within_body b) h))

  fit-alternative : {d : ℕ} {t u : Text} {a : Alternative} → Alt d t u a → AllLow (within_alternative a) → AllFit (alternative_tokens a)
  fit-alternative alt-none h = tt
  fit-alternative (alt-some x) h = fit-terms x h

  fit-terms : {d : ℕ} {t u : Text} {a : Alternative} → Terms d t u a → AllLow (within_alternative a) → AllFit (alternative_tokens a)
  fit-terms (terms-one {f = f} x) h = fit_append (symbol_tokens f) [] (fit-term x (on-left (within f) [] h)) tt
  fit-terms (terms-more {f = f} {a = a} x i s y) h =
      fit_append (symbol_tokens f) (alternative_tokens a) (fit-term x (on-left (within f) (within_alternative a) h)) (fit-terms y (on-right (within f) (within_alternative a) h))

  fit-term : {d : ℕ} {t u : Text} {f : Symbol} → Term d t u f → AllLow (within f) → AllFit (symbol_tokens f)
  fit-term (t-factor x) h = fit-factor x h
  fit-term (t-option {f = f} x i s) h = behind f to-option tt (fit-factor x (inner h))
  fit-term (t-repeat0 {f = f} x i s) h = behind f to-repeat0 tt (fit-factor x (inner h))
  fit-term (t-repeat1 {f = f} x i s) h = behind f to-repeat1 tt (fit-factor x (inner h))
  fit-term (t-repeat0sep {f = f} {sep = sep} x i i' s y) h =
      fit_append (symbol_tokens f) (symbol_tokens sep ++ to-repeat0sep ∷ []) (fit-factor x (on-left (within f) (within sep) (inner h)))
      (behind sep to-repeat0sep tt (fit-factor y (on-right (within f) (within sep) (inner h))))
  fit-term (t-repeat1sep {f = f} {sep = sep} x i i' s y) h =
      fit_append (symbol_tokens f) (symbol_tokens sep ++ to-repeat1sep ∷ []) (fit-factor x (on-left (within f) (within sep) (inner h)))
      (behind sep to-repeat1sep tt (fit-factor y (on-right (within f) (within sep) (inner h))))

  fit-factor : {d : ℕ} {t u : Text} {f : Symbol} → Factor d t u f → AllLow (within f) → AllFit (symbol_tokens f)
  fit-factor (f-terminal {x = x} y) h = fit-terminal y (h x (in_head refl))
  fit-factor (f-nonterminal m n s) h = (tt, tt)
  fit-factor (f-group {b = b} i s x i' s') h = (tt, fit_append (body_tokens b) (close-group ∷ []) (fit-body x (inner h)) (tt, tt))

-- rules and the whole
abbrev bodies : List Rule → List Symbol
bodies rs = concat_map (λ r. within_body r.body) rs

fit-rule : {t u : Text} {r : Rule} → RuleOf t u r → AllLow (within_body r.body) → AllFit (rule_tokens r)
fit-rule (a-rule {b = b} m n s i s' x e) h = (tt, fit_append (body_tokens b) (rule_end ∷ []) (fit-body x h) (tt, tt))

fit-rules : {t u : Text} {rs : List Rule} → Rules t u rs → AllLow (bodies rs) → AllFit (concat_map rule_tokens rs)
fit-rules rules-none h = tt
fit-rules (rules-next {r = r} {rs = rs} s x y) h =
    fit_append (rule_tokens r) (concat_map rule_tokens rs) (fit-rule x (on-left (within_body r.body) (bodies rs) h)) (fit-rules y (on-right (within_body r.body) (bodies rs) h))

fit-prolog : {t u : Text} {p : Prolog} → PrologOf t u p → AllFit (prolog_tokens p)
fit-prolog prolog-none = tt
fit-prolog (prolog-some a b c d e f i s) = (tt, tt)

fit_low : (t : Text) (g : Grammar) → Ixml t g → AllLow (written g) → AllFit (grammar_tokens g)
fit_low t g (ixml {p = p} {r = r} {rs = rs} s x y z s') h =
    fit_append (prolog_tokens p) (concat_map rule_tokens (r ∷ rs)) (fit-prolog x)
    (fit_append (rule_tokens r) (concat_map rule_tokens rs) (fit-rule y (on-left (within_body r.body) (bodies rs) h)) (fit-rules z (on-right (within_body r.body) (bodies rs) h)))

pub grammar-fits : (t : Text) (g : Grammar) → Ixml t g → beyond g ≡ false → AllFit (grammar_tokens g)
unfolding beyond
grammar-fits t g w b = fit_low t g w (λ x i n m.
    let j : In n (hexes g) = in-concat hex_in (concat_map chars_in (terminals g)) (in-concat chars_in (terminals g) (in-concat terminals_in (written g) i (in_head refl)) m) (in_head refl) in
    omega (arith, ltb-false 0x10ffff n (T_false (ltb 0x10ffff n) (λ t. not_t b (any-in (ltb 0x10ffff) (hexes g) j t)))))
