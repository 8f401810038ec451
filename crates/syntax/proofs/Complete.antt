-- What the grammar derives, the reader reads, with the same tree.
use native.Mathlib.Omega.{arith}
use mathlib.Core.Bool.{true, false}
use mathlib.Core.Path.{◌≡◌, refl, sym, ◌∙◌, subst}
use mathlib.Core.List.{List, [], ◌∷◌}
use Prim.Native.Nat.{ℕ, zero, suc, ◌<◌}
use Rattle.text.specs.Lists.{Text, chars, all, among}
use Rattle.syntax.specs.Syntax.{chr, is, ch, quote, capital, letter, is_mark, defines, namestart, namefollower, S, RS, String, Marked}
use Rattle.syntax.specs.Syntax.{Followers, Name, RuleOf, Word, digit, Rules, PrologOf, Ixml}
use Rattle.syntax.specs.Result.{hd, Result, ok, fail, then, map, guard, expect}
use Rattle.syntax.specs.Spacing.{spacing}
use mathlib.Core.Logic.{◌⊎◌, inl, inr}
use lib.ListN.{length}
use Rattle.tree.specs.Tree.{Mark, Rule, version, Grammar, Prolog}
use Rattle.syntax.specs.Syntax.Marked.{mark-none, mark-some}
use Rattle.syntax.specs.Syntax.CharsOf.{c-string}
use Rattle.syntax.specs.Syntax.Followers.{f-none, f-next}
use Rattle.syntax.specs.Syntax.Name.{a-name}
use Rattle.syntax.specs.Syntax.RuleOf.{a-rule}
use Rattle.syntax.specs.Syntax.Word.{word_end, word-char}
use Rattle.syntax.specs.Lexical.{read-mark, read_name, ending, ended}
use Rattle.syntax.specs.Syntax.Rules.{rules-none, rules-next}
use Rattle.syntax.specs.Syntax.PrologOf.{prolog-none, prolog-some}
use Rattle.syntax.specs.Syntax.Ixml.{ixml}
use Rattle.syntax.specs.Parser.{enough, read-rule, at-end, rules, heading, after-heading, read-prolog, read-ixml, Parsed, parsed, no-parse, answer, parse}
use Rattle.syntax.proofs.Classes.{by-category, clash, and_left, and_right, at-ch, among-not, no-spacing, ch-spacing, namestart-end, namefollower-end}
use Rattle.syntax.proofs.Holds.{Holds, some}
use Rattle.syntax.proofs.SpacingLaws.{complete-s, spacing-end, head-rs, rs-s, complete-rs, complete-spaced}
use Rattle.syntax.proofs.Shorter.{short-rs, short-rule}
use Rattle.syntax.proofs.Sound.{Headed, sound-heading, sound}
use Rattle.syntax.proofs.LexicalComplete.{joins, joins-s, complete-word, complete-string, first-chars, opens-spacing}
use Rattle.syntax.proofs.Names.{Ending, Follows, after-alts, spacing-follower, before-follower, complete-name}
use Rattle.syntax.proofs.Plain.{front, after-mark, no-bracket, front-name, front-among, front-wider, front-starts, starts-spacing, name-start, mark-read}
use Rattle.syntax.proofs.Cycle.{first-alts, complete-alts}

-- 1. Rules.
mark-front : (c : ℕ) → is_mark c ≡ true → front (chars "@^-") c ≡ true
unfolding is_mark
mark-front c e = front-among (chars "@^-") c e

rule-marked : {t u : Text} {m : Mark} → Marked is_mark t u m → namestart (hd u) ≡ true → front (chars "@^-") (hd t) ≡ true
rule-marked {t} mark-none e = front-name (chars "@^-") (hd t) e
rule-marked (mark-some (chr p) s) e = mark-front _ p

first-rule : {t u : Text} {r : Rule} → RuleOf t u r → front (chars "@^-") (hd t) ≡ true
first-rule (a-rule p n s i s' a j) = rule-marked p (name-start n)

rule-spacing : {t u : Text} {r : Rule} → RuleOf t u r → spacing (hd t) ≡ false
rule-spacing {t} r = starts-spacing (hd t) (front-starts (hd t) (front-wider (chars "@^-") no-bracket (hd t) refl (first-rule r)))

rule-ended : (u : Text) → front (chars "@^-") (hd u) ≡ true → ended u ≡ true
unfolding ended front is_mark
rule-ended [] e = refl
rule-ended (c ∷ u) e = e

rule-no-end : {A : Type 0} (u : Text) (f g : Unit {0} → A) → front (chars "@^-") (hd u) ≡ true → at-end u f g ≡ g tt
unfolding at-end front
rule-no-end [] f g e = absurd (clash namestart-end e)
rule-no-end (c ∷ u) f g e = refl

defines-spacing : (c : ℕ) → defines c ≡ true → spacing c ≡ false
unfolding defines
defines-spacing c e = no-spacing defines c refl e

defines-follower : (c : ℕ) → defines c ≡ true → namefollower c ≡ false
unfolding defines namefollower namestart by-category
defines-follower c e = among-not (chars "=:") namefollower c refl e

at-dot : {c : ℕ} {t : Text} → ch 0x2e c ≡ true → Ending t → Follows after-alts (c ∷ t)
at-dot {c} e z = record { one-of = at-ch (λ j. among j after-alts) true 0x2e c refl e; dot = λ _. z }

-- the mark and the name of a rule
marks-read : {t u v n : Text} {m : Mark} → Marked is_mark t u m → Name u v n → read-mark t ≡ ok m u
marks-read p n = mark-read p (front-name after-mark _ (name-start n))

name-read : {t u v n : Text} → Name t u n → S u v → defines (hd v) ≡ true → read_name t ≡ ok n u
name-read n s e = complete-name n (before-follower s (defines-follower _ e))

complete-rule : {t u : Text} {r : Rule} → RuleOf t u r → Ending u → read-rule t ≡ ok r u
unfolding read-rule then expect guard
complete-rule (a-rule {y = y} p n s (is c) s' a (is q)) z =
    let f = at-dot q z in
    rw (marks-read p n, name-read n s c, complete-s s (defines-spacing _ c), c, complete-s s' (first-alts a (ch-spacing 0x2e _ refl q)), complete-alts a f (enough y) (omega arith), q)

ending-rules : {t u : Text} {rs : List Rule} → Rules t u rs → S u [] → Ending t
unfolding ending ended
ending-rules rules-none s = record { stops = before-follower s namefollower-end; ends = rw (complete-s s spacing-end) }
ending-rules (rules-next {u = u} b r q) s = record { stops = spacing-follower _ (head-rs b); ends = rw (complete-s (rs-s b) (rule-spacing r)) (rule-ended u (first-rule r)) }

complete-rules : {t u : Text} {rs : List Rule} → Rules t u rs → S u [] → (n : ℕ) → length t < n → rules n t ≡ ok rs []
unfolding rules then map guard at-end
complete-rules r s zero h = absurd (omega arith)
complete-rules rules-none s (suc n) h = rw (complete-s s spacing-end)
complete-rules (rules-next {u = u} b r q) s (suc n) h =
    let i = short-rs b in let j = short-rule r in
    rw (complete-s (rs-s b) (rule-spacing r), rule-no-end u _ _ (first-rule r), head-rs b, complete-rule r (ending-rules q s), complete-rules q s n (omega arith))

-- 2. The prolog. No rule begins as one does.
word-followers : {w t u : Text} → all namefollower w ≡ true → Word w t u → (cs : Text) × Followers t u cs
word-followers e word_end = ([], f-none)
word-followers e (word-char {k = k} {w = w} (is {c = c} p) h) =
    let x = word-followers (and_right (namefollower k) (all namefollower w) e) h in (c ∷ x.0, f-next (chr (at-ch namefollower true k c (and_left (namefollower k) (all namefollower w) e) p)) x.1)

word-name : {t u : Text} (k : ℕ) (w : Text) → namestart k ≡ true → all namefollower w ≡ true → Word (k ∷ w) t u → (n : Text) × Name t u n
word-name k w e f (word-char (is {c = c} p) h) = let x = word-followers f h in (c ∷ x.0, a-name (chr (at-ch namestart true k c e p)) x.1)

ixml-name : {t u : Text} → Word (chars "ixml") t u → (n : Text) × Name t u n
unfolding namefollower namestart by-category
ixml-name h = word-name _ _ refl refl h

first_word : {k : ℕ} {w t u : Text} → Word (k ∷ w) t u → ch k (hd t) ≡ true
first_word (word-char (is p) h) = p

v-spacing : {t u : Text} → Word (chars "version") t u → spacing (hd t) ≡ false
v-spacing h = ch-spacing 0x76 _ refl (first_word h)

v-defines : (c : ℕ) → ch 0x76 c ≡ true → defines c ≡ false
unfolding defines
v-defines c e = at-ch defines false 0x76 c refl e

-- two answers of one reader leave the same text
same_rest : {A : Type 0} {x : Result A} {v w : A} {t u : Text} → x ≡ ok v t → x ≡ ok w u → t ≡ u
same_rest p q = cc

same_name : {t u u' v n n' : Text} → Name t u n → S u v → defines (hd v) ≡ true → Name t u' n' → spacing (hd u') ≡ true → u ≡ u'
same_name n s e n' f = same_rest (name-read n s e) (complete-name n' (spacing-follower _ f))

apart : {t u v w x n n' : Text} → Name t u n → S u v → defines (hd v) ≡ true → Name t w n' → RS w x → ch 0x76 (hd x) ≡ true → ⊥
apart {w = w} {x = x} n s e n' r f =
    let p = same_name n s e n' (head-rs r) in
    let q = same_rest (complete-s (rw p at s) (defines-spacing _ e)) (complete-s (rs-s r) (ch-spacing 0x76 _ refl f)) in
    clash (v-defines (hd x) f) (rw q at e)

no-heading : {t u v : Text} {r : Rule} → Headed t u → RuleOf t v r → ⊥
no-heading h (a-rule p n s (is c) s' a q) =
    let k = ixml-name h.ixml-at in
    let e = same_rest (marks-read p n) (marks-read mark-none k.1) in
    apart (rw e at n) s c k.1 h.space (first_word h.version-at)

heading-fails : {t u : Text} {r : Rule} → RuleOf t u r → heading t ≡ fail
heading-fails {t} r = go (heading t) (sound-heading t)
  where
    go : (x : Result (Unit {0})) → Holds (λ _ u. Headed t u) x → x ≡ fail
    go fail h = refl
    go (ok _ u) (some h) = absurd (no-heading h r)

dot-joins : (c : ℕ) → ch 0x2e c ≡ true → joins c ≡ false
unfolding joins quote digit letter capital
dot-joins c e = at-ch joins false 0x2e c refl e

first-string : {t u k : Text} → String t u k → spacing (hd t) ≡ false
first-string h = opens-spacing _ (first-chars (c-string h))

complete-prolog : {t u v : Text} {p : Prolog} {r : Rule} → PrologOf t u p → RuleOf u v r → read-prolog t ≡ ok p u
unfolding read-prolog heading after-heading then expect guard
complete-prolog prolog-none r = rw (heading-fails r)
complete-prolog (prolog-some {k = k} h s h' s' c s'' (is d) z) r =
    rw (complete-word h, complete-rs s (v-spacing h'), complete-word h', complete-rs s' (first-string c), complete-string c (joins-s s'' (dot-joins _ d)), complete-s s'' (ch-spacing 0x2e _ refl d), d)
    (complete-spaced (version k) z (rule-spacing r))

pub first-prolog : {t u v : Text} {p : Prolog} {r : Rule} → PrologOf t u p → RuleOf u v r → spacing (hd t) ≡ false
first-prolog prolog-none r = rule-spacing r
first-prolog (prolog-some h s h' s' c s'' d z) r = ch-spacing 0x69 _ refl (first_word h)

-- 3. The whole text.
pub complete : (t : Text) (g : Grammar) → Ixml t g → parse t ≡ parsed g
unfolding parse answer read-ixml then map
complete t g (ixml {w = w} s p r rs e) =
    rw (complete-s s (first-prolog p r), complete-prolog p r, complete-rule r (ending-rules rs e), complete-rules rs e (suc (length w)) (omega arith))

pub unique : (t : Text) (g g' : Grammar) → Ixml t g → Ixml t g' → g ≡ g'
unique t g g' p q = let a = complete t g p in let b = complete t g' q in cc

abbrev Refused : Parsed → Type 0
Refused (parsed g) = ⊥
Refused no-parse = Unit {0}

pub refuses : (t : Text) → parse t ≡ no-parse → (g : Grammar) → Ixml t g → ⊥
refuses t e g p = subst Refused (sym e ∙ complete t g p) tt

-- the language is decided
pub decides : (t : Text) → ((g : Grammar) × Ixml t g) ⊎ ((g : Grammar) → Ixml t g → ⊥)
decides t = go (parse t) refl
  where
    go : (x : Parsed) → parse t ≡ x → ((g : Grammar) × Ixml t g) ⊎ ((g : Grammar) → Ixml t g → ⊥)
    go (parsed g) e = inl (g, sound t g e)
    go no-parse e = inr (refuses t e)
