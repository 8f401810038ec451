-- The tidy text has only characters of the grammar's text and signs of the layout: where those are known, all of it is.
use mathlib.Core.Path.{◌≡◌, refl, subst}
use mathlib.Core.Bool.{Bool, true, false}
use mathlib.Core.List.{List, [], ◌∷◌, ◌++◌}
use Prim.Native.Nat.{ℕ, zero, suc, ◌/◌, ◌%◌, ◌<◌}
use native.Mathlib.Omega.{arith}
use lib.Dec.{T, ltb, eqb}
use borrow.Author.Tests.{eqb-true, ltb-true}
use Rattle.text.specs.Lists.{Text, chars, pick, all, concat_map}
use Rattle.text.specs.Utf8.{alphabet, known}
use Rattle.text.proofs.Tests.{and_left, and_right, both-and}
use Rattle.text.proofs.Table.{below_at}
use Rattle.tree.specs.Tree.{Mark, unmarked, included, attribute, deleted, Chars, Member, Terminal, Symbol, Alternative, nil, cons, Body, Rule, Prolog, Grammar}
use Rattle.syntax.specs.Syntax.{ch, Chr, chr, Is, is, Word, word_end, word-char, Comment, comment, Inside, in-none, in-char, in-comment, S, s-none, s-white, s-comment}
use Rattle.syntax.specs.Syntax.{RS, rs-white, rs-comment, Qchar, q-plain, q-doubled, Qchars, q-last, q-next, String, a-string, Digits, d-last, d-next, Hex, a-hex}
use Rattle.syntax.specs.Syntax.{CharsOf, c-string, c-hex, Character, one_char, one-hex, Class, c-one, c-two, MemberOf, m-chars, m-range, m-class}
use Rattle.syntax.specs.Syntax.{Members, m-last, m-next, SetOf, set-none, set-some, Marked, mark-none, mark-some, Followers, f-none, f-next, Name, a-name}
use Rattle.syntax.specs.Syntax.{TerminalOf, t-literal, t-inclusion, t-exclusion, t-insertion, Alts, alts-one, alts-also, Alt, alt-none, alt-some}
use Rattle.syntax.specs.Syntax.{Terms, terms-one, terms-more, Term, t-factor, t-option, t-repeat0, t-repeat0sep, t-repeat1, t-repeat1sep}
use Rattle.syntax.specs.Syntax.{Factor, f-terminal, f-nonterminal, f-group, RuleOf, a-rule, Rules, rules-none, rules-next, PrologOf, prolog-none, prolog-some, Ixml, ixml}
use Rattle.tidy.specs.Tidy.{quoted_char, quoted_text, lower_digit, hex_digits, hex_text, chars_text, mark_text, member_text, members_text, set_text}
use Rattle.tidy.specs.Tidy.{terminal_text, symbol_text, alternative_text, body_text, rule_text, prolog_text, tidy_text}
use Rattle.tidy.proofs.Lexical.{some-member}
use Rattle.tidy.proofs.Factors.{some-term}

record Known (t : Text) : Type 0 where
  is_known : T (all known t)

all_known : {t : Text} → T (all known t) → Known t
all_known h = record { is_known = h }

first-known : {c : ℕ} {t : Text} → Known (c ∷ t) → T (known c)
first-known {c} {t} k = and_left (known c) (all known t) k.is_known

rest-known : {c : ℕ} {t : Text} → Known (c ∷ t) → Known t
rest-known {c} {t} k = all_known (and_right (known c) (all known t) k.is_known)

one_known : {c : ℕ} → T (known c) → Known (c ∷ [])
one_known {c} h = all_known (both-and (known c) true h tt)

known-append : (a b : Text) → Known a → Known b → Known (a ++ b)
known-append [] b h k = k
known-append (c ∷ a) b h k = all_known (both-and (known c) (all known (a ++ b)) (first-known h) (known-append a b (rest-known h) k).is_known)

-- where the text t is known, what follows is; and what was read is, in the layout
abbrev Gap : Text → Text → Type 0
Gap t u = Known t → Known u

abbrev Step : Text → Text → Text → Type 0
Step t u a = Known t → Known u × Known a

-- nothing; one after the other; something that is not written; signs of the layout in place of what was read
nothing : {t : Text} → Step t t []
nothing k = (k, all_known tt)

seq : {t u v : Text} (a b : Text) → Step t u a → Step u v b → Step t v (a ++ b)
seq a b f g k = let x = f k in let y = g x.0 in (y.0, known-append a b x.1 y.1)

after : {t u v a : Text} → Step t u a → Gap u v → Step t v a
after f g k = let x = f k in (g x.0, x.1)

before : {t u v a : Text} → Gap t u → Step u v a → Step t v a
before f g k = g (f k)

signs : {t u : Text} (a : Text) → Known a → Gap t u → Step t u a
signs a h f k = (f k, h)

past : {f : ℕ → Bool} {t u : Text} → Is f t u → Gap t u
past (is h) k = rest-known k

mutual
  gap-comment : {d : ℕ} {t u : Text} → Comment d t u → Gap t u
  gap-comment (comment a i b) k = past b (gap-inside i (past a k))

  gap-inside : {d : ℕ} {t u : Text} → Inside d t u → Gap t u
  gap-inside in-none k = k
  gap-inside (in-char a i) k = gap-inside i (past a k)
  gap-inside (in-comment c i) k = gap-inside i (gap-comment c k)

gap : {t u : Text} → S t u → Gap t u
gap s-none k = k
gap (s-white a s) k = gap s (past a k)
gap (s-comment c s) k = gap s (gap-comment c k)

gap-rs : {t u : Text} → RS t u → Gap t u
gap-rs (rs-white a s) k = gap s (past a k)
gap-rs (rs-comment c s) k = gap s (gap-comment c k)

char : {f : ℕ → Bool} {t u : Text} {c : ℕ} → Chr f t u c → Step t u (c ∷ [])
char (chr h) k = (rest-known k, one_known (first-known k))

-- strings
quoted-known : (c : ℕ) → Known (c ∷ []) → Known (quoted_char c)
unfolding known alphabet
quoted-known c k = go (eqb c 0x22)
  where
    go : (b : Bool) → Known (pick b (0x22 ∷ 0x22 ∷ []) (c ∷ []))
    go true = all_known tt
    go false = k

sign-known : {q : ℕ} {t u : Text} → Is (ch q) t u → Known t → Known (q ∷ [])
unfolding ch
sign-known {q} (is {c} h) k = one_known (subst (λ (m : ℕ). T (known m)) (eqb-true c q h) (first-known k))

qchar : {q c : ℕ} {t u : Text} → Qchar q t u c → Step t u (quoted_char c)
qchar {q} {c} (q-plain x) k = let y = char x k in (y.0, quoted-known c y.1)
qchar {q} (q-doubled a b) k = (past b (past a k), quoted-known q (sign-known a k))

qchars : {q : ℕ} {t u cs : Text} → Qchars q t u cs → Step t u (concat_map quoted_char cs)
qchars (q-last {c = c} x) = seq (quoted_char c) [] (qchar x) nothing
qchars (q-next {cs = ds} {c = c} x xs) = seq (quoted_char c) (concat_map quoted_char ds) (qchar x) (qchars xs)

a-quote : Known (chars "\"")
unfolding known alphabet
a-quote = all_known tt

past-char : {f : ℕ → Bool} {t u : Text} {c : ℕ} → Chr f t u c → Gap t u
past-char x k = (char x k).0

strings : {t u cs : Text} → String t u cs → Step t u (quoted_text cs)
strings (a-string {cs = cs} a h b) =
    seq (chars "\"" ++ concat_map quoted_char cs) (chars "\"") (seq (chars "\"") (concat_map quoted_char cs) (signs _ a-quote (past-char a)) (qchars h)) (signs _ a-quote (past b))

-- hex numbers
lower-known : (d : ℕ) → d < 16 → Known (lower_digit d ∷ [])
unfolding known alphabet
lower-known d h = one_known (below_at 16 (λ n. known (lower_digit n)) tt d h)

hex-known : (k n : ℕ) → Known (hex_digits k n)
hex-known zero n = all_known tt
hex-known (suc k) n = go (ltb n 16) refl (hex-known k (n / 16))
  where
    go : (b : Bool) → ltb n 16 ≡ b → Known (hex_digits k (n / 16))
        → Known (elim b as (λ _. Text) [ true ↦ lower_digit n ∷ [] | false ↦ hex_digits k (n / 16) ++ lower_digit (n % 16) ∷ [] ])
    go true e h = lower-known n (ltb-true n 16 e)
    go false e h = known-append (hex_digits k (n / 16)) (lower_digit (n % 16) ∷ []) h (lower-known (n % 16) (omega arith))

gap-digits : {n m : ℕ} {t u : Text} → Digits n t u m → Gap t u
gap-digits (d-last x) k = past-char x k
gap-digits (d-next x xs) k = gap-digits xs (past-char x k)

hashed : (n : ℕ) → Known (chars "#" ++ hex_text n)
unfolding known alphabet
hashed n = known-append (chars "#") (hex_text n) (all_known tt) (hex-known (suc n) n)

hexes : {t u : Text} {n : ℕ} → Hex t u n → Step t u (chars "#" ++ hex_text n)
hexes {n = n} (a-hex a h) = signs _ (hashed n) (λ k. gap-digits h (past a k))

characters : {t u : Text} {k : Chars} → CharsOf t u k → Step t u (chars_text k)
characters (c-string h) = strings h
characters (c-hex h) = hexes h

character : {t u : Text} {k : Chars} → Character t u k → Step t u (chars_text k)
character (one_char h) = strings h
character (one-hex h) = hexes h

-- sets
classes : {t u k : Text} → Class t u k → Step t u k
classes (c-one x) = char x
classes (c-two {c = c} {e = e} x y) = seq (c ∷ []) (e ∷ []) (char x) (char y)

hyphen : Known (chars "-")
unfolding known alphabet
hyphen = all_known tt

member : {t u : Text} {m : Member} → MemberOf t u m → Step t u (member_text m)
member (m-chars h) = characters h
member (m-range {a = a} {b = b} h s i s' h') =
    seq (chars_text a ++ chars "-") (chars_text b) (seq (chars_text a) (chars "-") (character h) (signs _ hyphen (λ k. gap s' (past i (gap s k))))) (character h')
member (m-class h) = classes h

a-bar : Known (chars "; ")
unfolding known alphabet
a-bar = all_known tt

members : {t u : Text} (ms : List Member) → Members t u ms → Step t u (members_text ms)
members ms (m-last h s) = after (member h) (gap s)
members ms (m-next {ms = []} h s b s' hs) = absurd (some-member hs refl)
members ms (m-next {m = m} {ms = n ∷ ns} h s b s' hs) =
    seq (member_text m ++ chars "; ") (members_text (n ∷ ns))
    (seq (member_text m) (chars "; ") (after (member h) (gap s)) (signs _ a-bar (λ k. gap s' (past b k)))) (members (n ∷ ns) hs)

brackets : Known (chars "[") × Known (chars "]")
unfolding known alphabet
brackets = (all_known tt, all_known tt)

sets : {t u : Text} {ms : List Member} → SetOf t u ms → Step t u (set_text ms)
sets (set-none a s b s') = seq (chars "[") (chars "]") (signs _ brackets.0 (λ k. gap s (past a k))) (signs _ brackets.1 (λ k. gap s' (past b k)))
sets {ms = ms} (set-some a s h b s') =
    seq (chars "[" ++ members_text ms) (chars "]") (seq (chars "[") (members_text ms) (signs _ brackets.0 (λ k. gap s (past a k))) (members ms h))
    (signs _ brackets.1 (λ k. gap s' (past b k)))

-- marks and names
mark-known : (m : Mark) → Known (mark_text m)
unfolding known alphabet
mark-known unmarked = all_known tt
mark-known included = all_known tt
mark-known attribute = all_known tt
mark-known deleted = all_known tt

gap-mark : {f : ℕ → Bool} {t u : Text} {m : Mark} → Marked f t u m → Gap t u
gap-mark mark-none k = k
gap-mark (mark-some x s) k = gap s (past-char x k)

marks : {f : ℕ → Bool} {t u : Text} {m : Mark} → Marked f t u m → Step t u (mark_text m)
marks {m = m} h = signs _ (mark-known m) (gap-mark h)

followers : {t u cs : Text} → Followers t u cs → Step t u cs
followers f-none = nothing
followers (f-next {cs = cs} {c = c} x h) = seq (c ∷ []) cs (char x) (followers h)

names : {t u n : Text} → Name t u n → Step t u n
names (a-name {cs = cs} {c = c} x h) = seq (c ∷ []) cs (char x) (followers h)

-- terminals
tilde-plus : Known (chars "~") × Known (chars "+")
unfolding known alphabet
tilde-plus = (all_known tt, all_known tt)

terminals : {t u : Text} {x : Terminal} → TerminalOf t u x → Step t u (terminal_text x)
terminals (t-literal {m = m} {k = c} h h' s) = after (seq (mark_text m) (chars_text c) (marks h) (characters h')) (gap s)
terminals (t-inclusion {m = m} {ms = ms} h h') = seq (mark_text m) (set_text ms) (marks h) (sets h')
terminals (t-exclusion {m = m} {ms = ms} h i s h') =
    seq (mark_text m ++ chars "~") (set_text ms) (seq (mark_text m) (chars "~") (marks h) (signs _ tilde-plus.0 (λ k. gap s (past i k)))) (sets h')
terminals (t-insertion {k = c} i s h s') = after (seq (chars "+") (chars_text c) (signs _ tilde-plus.1 (λ k. gap s (past i k))) (characters h)) (gap s')

a-comma : Known (chars ", ")
unfolding known alphabet
a-comma = all_known tt

operators : Known (chars "?") × Known (chars "*") × Known (chars "+") × Known (chars "**") × Known (chars "++")
unfolding known alphabet
operators = (all_known tt, all_known tt, all_known tt, all_known tt, all_known tt)

parens : Known (chars "(") × Known (chars ")")
unfolding known alphabet
parens = (all_known tt, all_known tt)

mutual
  bodies : {d : ℕ} {t u : Text} {b : Body} → Alts d t u b → Step t u (body_text b)
  bodies (alts-one h) = alternatives h
  bodies (alts-also {a = a} {b = c} h i s hs) =
      seq (alternative_text a ++ chars "; ") (body_text c) (seq (alternative_text a) (chars "; ") (alternatives h) (signs _ a-bar (λ k. gap s (past i k)))) (bodies hs)

  alternatives : {d : ℕ} {t u : Text} {a : Alternative} → Alt d t u a → Step t u (alternative_text a)
  alternatives alt-none = nothing
  alternatives {a = a} (alt-some h) = terms a h

  terms : {d : ℕ} {t u : Text} (a : Alternative) → Terms d t u a → Step t u (alternative_text a)
  terms a (terms-one h) = term h
  terms a (terms-more {a = nil} h i s hs) = absurd (some-term hs refl)
  terms a (terms-more {f = f} {a = cons x b} h i s hs) =
      seq (symbol_text f ++ chars ", ") (alternative_text (cons x b)) (seq (symbol_text f) (chars ", ") (term h) (signs _ a-comma (λ k. gap s (past i k)))) (terms (cons x b) hs)

  term : {d : ℕ} {t u : Text} {f : Symbol} → Term d t u f → Step t u (symbol_text f)
  term (t-factor h) = factor h
  term (t-option {f = f} h i s) = seq (symbol_text f) (chars "?") (factor h) (signs _ operators.0 (λ k. gap s (past i k)))
  term (t-repeat0 {f = f} h i s) = seq (symbol_text f) (chars "*") (factor h) (signs _ operators.1 (λ k. gap s (past i k)))
  term (t-repeat1 {f = f} h i s) = seq (symbol_text f) (chars "+") (factor h) (signs _ operators.2 (λ k. gap s (past i k)))
  term (t-repeat0sep {f = f} {sep = p} h i i' s h') =
      seq (symbol_text f ++ chars "**") (symbol_text p) (seq (symbol_text f) (chars "**") (factor h) (signs _ operators.3 (λ k. gap s (past i' (past i k))))) (factor h')
  term (t-repeat1sep {f = f} {sep = p} h i i' s h') =
      seq (symbol_text f ++ chars "++") (symbol_text p) (seq (symbol_text f) (chars "++") (factor h) (signs _ operators.4 (λ k. gap s (past i' (past i k))))) (factor h')

  factor : {d : ℕ} {t u : Text} {f : Symbol} → Factor d t u f → Step t u (symbol_text f)
  factor (f-terminal h) = terminals h
  factor (f-nonterminal {n = n} {m = m} h h' s) = after (seq (mark_text m) n (marks h) (names h')) (gap s)
  factor (f-group {b = b} i s h j s') =
      seq (chars "(" ++ body_text b) (chars ")") (seq (chars "(") (body_text b) (signs _ parens.0 (λ k. gap s (past i k))) (bodies h)) (signs _ parens.1 (λ k. gap s' (past j k)))

-- rules
ends : Known (chars ": ") × Known (chars ".\n") × Known (chars "ixml version ")
unfolding known alphabet
ends = (all_known tt, all_known tt, all_known tt)

rule : {t u : Text} {r : Rule} → RuleOf t u r → Step t u (rule_text r)
rule (a-rule {n = n} {m = m} {b = b} h h' s d s' hb e) =
    let head = seq (mark_text m) n (marks h) (names h') in
    let colon = seq (mark_text m ++ n) (chars ": ") (after head (gap s)) (signs _ ends.0 (λ k. gap s' (past d k))) in
    let body = seq (mark_text m ++ n ++ chars ": ") (body_text b) colon (bodies hb) in
    seq (mark_text m ++ n ++ chars ": " ++ body_text b) (chars ".\n") body (signs _ ends.1 (past e))

others : {t u : Text} {rs : List Rule} → Rules t u rs → Step t u (concat_map rule_text rs)
others rules-none = nothing
others (rules-next {r = r} {rs = rs} s h hs) = seq (rule_text r) (concat_map rule_text rs) (before (gap-rs s) (rule h)) (others hs)

gap_word : {w t u : Text} → Word w t u → Gap t u
gap_word word_end k = k
gap_word (word-char i h) k = gap_word h (past i k)

prolog : {t u : Text} {p : Prolog} → PrologOf t u p → Step t u (prolog_text p)
prolog prolog-none = nothing
prolog (prolog-some {k = v} w r w' r' h s i s') =
    let words = signs (chars "ixml version ") ends.2 (λ k. gap-rs r' (gap_word w' (gap-rs r (gap_word w k)))) in
    seq (chars "ixml version " ++ quoted_text v) (chars ".\n") (seq (chars "ixml version ") (quoted_text v) words (strings h)) (signs _ ends.1 (λ k. gap s' (past i (gap s k))))

pub tidy-known : (t : Text) (g : Grammar) → Ixml t g → T (all known t) → T (all known (tidy_text g))
unfolding tidy_text
tidy-known t g (ixml {p = p} {r = r} {rs = rs} s h h' hs e) k =
    (seq (prolog_text p) (rule_text r ++ concat_map rule_text rs) (prolog h) (seq (rule_text r) (concat_map rule_text rs) (rule h') (others hs)) (gap s (all_known k))).1.is_known
