-- The scan at a character, past spacing and past words.
use mathlib.Core.Bool.{Bool, true, false, not, ◌&&◌, ◌||◌}
use mathlib.Core.Path.{◌≡◌, refl, sym, ap, ◌∙◌}
use mathlib.Core.Logic.{⊎_elim}
use mathlib.Core.List.{List, [], ◌∷◌}
use Prim.Native.Nat.{ℕ, suc, ◌<◌}
use native.Mathlib.Omega.{arith}
use lib.Dec.{T, eqb, leb}
use lib.ListN.{length}
use borrow.Author.Tests.{eqb-true, lt-leb, not-true}
use Rattle.text.specs.Lists.{Text, chars, among, all}
use Rattle.text.proofs.Tests.{T_true, split}
use Rattle.tree.specs.Tree.{Mark, Chars}
use Rattle.syntax.specs.Syntax.{chr, Is, is, ch, whitespace, cchar, quote, digit, capital, letter, bar, is_mark, is_tmark, defines, namestart, namefollower}
use Rattle.syntax.specs.Syntax.{Comment, comment, Inside, in-none, in-char, in-comment, S, s-none, s-white, s-comment, RS}
use Rattle.syntax.specs.Syntax.{Qchar, q-plain, q-doubled, Qchars, q-last, q-next, String, a-string, Digits, d-last, d-next, Hex, a-hex, CharsOf, c-string, c-hex}
use Rattle.syntax.specs.Syntax.{Class, c-one, c-two, Followers, f-none, f-next, Name, a-name, Word, word_end, word-char, Marked, mark-none, mark-some}
use Rattle.syntax.specs.Syntax as syntax
use Rattle.syntax.specs.Spacing.{spacing}
use Rattle.syntax.proofs.Classes.{by-category, clash, and_left, and_right, and-false, differ, at-ch, among-not, spacing-not}
use Rattle.syntax.proofs.Names.{spacing-follower}
use Rattle.syntax.proofs.SpacingLaws.{rs-s}
use Rattle.text.proofs.Table.{below, below_at}
use Rattle.places.specs.Scan.{between, word, quoted, closed, sign, opens, onward, lefts}
use Rattle.places.specs.Scan as scan

-- 1. Characters.
pub or_l : (a b : Bool) → a || b ≡ false → a ≡ false
or_l true b e = e
or_l false b e = refl

pub or_r : (a b : Bool) → a || b ≡ false → b ≡ false
or_r true b e = absurd (clash e refl)
or_r false b e = e

pub is-char : {k : ℕ} {t u : Text} → Is (ch k) t u → t ≡ k ∷ u
unfolding ch
is-char {k} {t} {u} (is {c = c} p) = ap (λ (x : ℕ). x ∷ u) (eqb-true c k p)

-- nothing begins at the character
unfoldable pub loud : ℕ → Bool
loud c = opens c || eqb c 0x7b

-- nor does it go on in a word
unfoldable pub stirs : ℕ → Bool
stirs c = namefollower c || loud c

pub quiet : (c : ℕ) (u : Text) → loud c ≡ false → lefts between (c ∷ u) ≡ lefts between u
unfolding lefts loud opens onward sign
quiet c u e =
    let a = or_l (namestart c || quote c || sign c) _ e in
    let b = or_l (namestart c || quote c) _ a in
    let s = or_r (namestart c || quote c) _ a in
    rw (or_l (namestart c) _ b, or_r (namestart c) _ b, s, or_l (eqb c 0x23) _ s, or_r (namestart c || quote c || sign c) _ e)

name-next : (c : ℕ) (u : Text) → namefollower c ≡ true → lefts word (c ∷ u) ≡ lefts word u
unfolding lefts
name-next c u e = rw e

name-ends : (c : ℕ) (u : Text) → namefollower c ≡ false → lefts word (c ∷ u) ≡ lefts between (c ∷ u)
unfolding lefts
name-ends c u e = rw e

quote-ends : (q c : ℕ) (u : Text) → quote q ≡ true → quote c ≡ false → lefts (closed q) (c ∷ u) ≡ lefts between (c ∷ u)
unfolding lefts
quote-ends q c u p e = let d : eqb c q ≡ false = other c q p e in rw d
  where
    other : (c q : ℕ) → quote q ≡ true → quote c ≡ false → eqb c q ≡ false
    other c q p e = go (eqb c q) refl
      where
        go : (b : Bool) → eqb c q ≡ b → b ≡ false
        go true f = absurd (clash (ap quote (sym (eqb-true c q f)) ∙ e) p)
        go false f = refl

-- 2. Spacing.
white-spacing : (c : ℕ) → whitespace c ≡ true → spacing c ≡ true
unfolding spacing
white-spacing c e = go (eqb c 0x7b)
  where
    go : (b : Bool) → b || whitespace c ≡ true
    go true = refl
    go false = e

open-spacing : (c : ℕ) → ch 0x7b c ≡ true → spacing c ≡ true
unfolding spacing ch
open-spacing c e = rw e

white-opens : (c : ℕ) → whitespace c ≡ true → opens c ≡ false
unfolding opens namestart quote sign by-category
white-opens c e = spacing-not opens c refl (white-spacing c e)

white-brace : (c : ℕ) → whitespace c ≡ true → eqb c 0x7b ≡ false
unfolding whitespace by-category
white-brace c e = differ whitespace c 0x7b refl e

white-quiet : (c : ℕ) → whitespace c ≡ true → loud c ≡ false
unfolding loud
white-quiet c e = rw (white-opens c e, white-brace c e)

spacing-quote : (c : ℕ) → spacing c ≡ true → quote c ≡ false
unfolding quote
spacing-quote c e = spacing-not quote c refl e

cchar-quiet : (k c : ℕ) (u : Text) → cchar c ≡ true → lefts (scan.comment k) (c ∷ u) ≡ lefts (scan.comment k) u
unfolding lefts cchar
cchar-quiet k c u e =
    let a = not-true (among c (chars "{}")) e in
    let r = or_r (eqb c 0x7b) _ a in
    rw (or_l (eqb c 0x7b) _ a, or_l (eqb c 0x7d) _ r)

deeper : (k : ℕ) {t u : Text} → Is (ch 0x7b) t u → lefts (scan.comment k) t ≡ lefts (scan.comment (suc k)) u
unfolding lefts
deeper k i = rw (is-char i)

shuts : (k : ℕ) {t u : Text} → Is (ch 0x7d) t u → lefts (scan.comment (suc k)) t ≡ lefts (scan.comment k) u
unfolding lefts
shuts k i = rw (is-char i)

shuts-last : {t u : Text} → Is (ch 0x7d) t u → lefts (scan.comment 0) t ≡ lefts between u
unfolding lefts
shuts-last i = rw (is-char i)

brace : {t u : Text} → Is (ch 0x7b) t u → lefts between t ≡ lefts (scan.comment 0) u
unfolding lefts opens onward namestart quote sign by-category
brace i = rw (is-char i)

mutual
  past-comment : {d : ℕ} {t u : Text} → Comment d t u → (k : ℕ) → lefts (scan.comment k) t ≡ lefts (scan.comment k) u
  past-comment (comment i b j) k = deeper k i ∙ past-inside b (suc k) ∙ shuts k j

  past-inside : {d : ℕ} {t u : Text} → Inside d t u → (k : ℕ) → lefts (scan.comment k) t ≡ lefts (scan.comment k) u
  past-inside in-none k = refl
  past-inside (in-char (is p) b) k = cchar-quiet k _ _ p ∙ past-inside b k
  past-inside (in-comment c b) k = past-comment c k ∙ past-inside b k

out-comment : {d : ℕ} {t u : Text} → Comment d t u → lefts between t ≡ lefts between u
out-comment (comment i c j) = brace i ∙ past-inside c 0 ∙ shuts-last j

pub past-s : {t u : Text} → S t u → lefts between t ≡ lefts between u
past-s s-none = refl
past-s (s-white (is p) s) = quiet _ _ (white-quiet _ p) ∙ past-s s
past-s (s-comment c s) = out-comment c ∙ past-s s

-- 3. Behind a word or a string: being in it makes no difference here.
pub record Calm (t : Text) : Type 0 where
  pub word : lefts word t ≡ lefts between t
  pub quote : (q : ℕ) → quote q ≡ true → lefts (closed q) t ≡ lefts between t

calm-char : (c : ℕ) (u : Text) → namefollower c ≡ false → quote c ≡ false → Calm (c ∷ u)
calm-char c u e f = record { word = name-ends c u e; quote = λ q p. quote-ends q c u p f }

pub calm-nil : Calm []
unfolding lefts
calm-nil = record { word = refl; quote = λ q p. refl }

calm-spacing : (c : ℕ) (u : Text) → spacing c ≡ true → Calm (c ∷ u)
calm-spacing c u e = calm-char c u (spacing-follower c e) (spacing-quote c e)

pub calm-s : {t u : Text} → S t u → Calm u → Calm t
calm-s s-none c = c
calm-s (s-white (is p) s) c = calm-spacing _ _ (white-spacing _ p)
calm-s (s-comment (comment (is p) b j) s) c = calm-spacing _ _ (open-spacing _ p)

pub rs-calm : {t u : Text} → RS t u → Calm t
rs-calm (syntax.rs-white (is p) s) = calm-spacing _ _ (white-spacing _ p)
rs-calm (syntax.rs-comment (comment (is p) b j) s) = calm-spacing _ _ (open-spacing _ p)

-- spacing, and then what a word may end before
pub calm-word : {t u : Text} → S t u → lefts word u ≡ lefts between u → lefts word t ≡ lefts between t
calm-word s-none c = c
calm-word (s-white (is p) s) c = (calm-spacing _ _ (white-spacing _ p)).word
calm-word (s-comment (comment (is p) b j) s) c = (calm-spacing _ _ (open-spacing _ p)).word

pub calm-quote : {t u : Text} → S t u → ((q : ℕ) → quote q ≡ true → lefts (closed q) u ≡ lefts between u) → (q : ℕ) → quote q ≡ true → lefts (closed q) t ≡ lefts between t
calm-quote s-none c = c
calm-quote (s-white (is p) s) c = (calm-spacing _ _ (white-spacing _ p)).quote
calm-quote (s-comment (comment (is p) b j) s) c = (calm-spacing _ _ (open-spacing _ p)).quote

-- a sign behind which a word has ended, at which nothing begins
stirs-quote : (c : ℕ) → stirs c ≡ false → quote c ≡ false
unfolding stirs loud opens
stirs-quote c e =
    let l = or_r (namefollower c) _ e in
    let a = or_l (namestart c || quote c || sign c) _ l in
    or_r (namestart c) _ (or_l (namestart c || quote c) _ a)

pub record Stop (t u : Text) : Type 0 where
  pub calm : Calm t
  pub past : lefts between t ≡ lefts between u

pub stop-at : {f : ℕ → Bool} {t u : Text} → ((c : ℕ) → f c ≡ true → stirs c ≡ false) → Is f t u → Stop t u
unfolding stirs
stop-at h (is {c = c} {u = u} p) = let e = h c p in record {
  calm = calm-char c u (or_l (namefollower c) _ e) (stirs-quote c e);
  past = quiet c u (or_r (namefollower c) _ e);
}

pub stop-ch : (k : ℕ) → stirs k ≡ false → {t u : Text} → Is (ch k) t u → Stop t u
stop-ch k p i = stop-at (λ c e. at-ch stirs false k c p e) i

pub bar-stops : {t u : Text} → Is bar t u → Stop t u
unfolding bar stirs loud opens namefollower namestart quote sign by-category
bar-stops i = stop-at (λ c e. among-not (chars ";|") stirs c refl e) i

pub defines-stops : {t u : Text} → Is defines t u → Stop t u
unfolding defines stirs loud opens namefollower namestart quote sign by-category
defines-stops i = stop-at (λ c e. among-not (chars "=:") stirs c refl e) i

-- 4. A full stop or a hyphen goes on in a word, and nothing begins there.
dot-follows : (c : ℕ) → among c (chars ".-") ≡ true → namefollower c ≡ true
unfolding namefollower namestart by-category
dot-follows c e = go (namefollower c) (among-not (chars ".-") (λ k. not (namefollower k)) c refl e)
  where
    go : (b : Bool) → not b ≡ false → b ≡ true
    go true p = refl
    go false p = absurd (clash p refl)

dot-quiet : (c : ℕ) → among c (chars ".-") ≡ true → loud c ≡ false
unfolding loud opens namestart quote sign by-category
dot-quiet c e = among-not (chars ".-") loud c refl e

dot-quote : (c : ℕ) → among c (chars ".-") ≡ true → quote c ≡ false
unfolding quote
dot-quote c e = among-not (chars ".-") quote c refl e

dotted : (k c : ℕ) → among k (chars ".-") ≡ true → ch k c ≡ true → among c (chars ".-") ≡ true
dotted k c p e = at-ch (λ j. among j (chars ".-")) true k c p e

pub dot-calm : (k : ℕ) → among k (chars ".-") ≡ true → {t u : Text} → Is (ch k) t u → (q : ℕ) → quote q ≡ true → lefts (closed q) t ≡ lefts between t
dot-calm k p (is {c = c} {u = u} e) q f = quote-ends q c u f (dot-quote c (dotted k c p e))

pub calm-dot : (k : ℕ) → among k (chars ".-") ≡ true → {t u : Text} → Is (ch k) t u → lefts word u ≡ lefts between u → Calm t
calm-dot k p (is {c = c} {u = u} e) h = let d = dotted k c p e in record {
  word = name-next c u (dot-follows c d) ∙ h ∙ sym (quiet c u (dot-quiet c d));
  quote = dot-calm k p (is e);
}

pub past-dot : (k : ℕ) → among k (chars ".-") ≡ true → {t u : Text} → Is (ch k) t u → lefts between t ≡ lefts between u
past-dot k p (is {c = c} {u = u} e) = quiet c u (dot-quiet c (dotted k c p e))

-- a mark, a tilde, a plus
mark-quiet : (c : ℕ) → is_mark c ≡ true → loud c ≡ false
unfolding is_mark loud opens namestart quote sign by-category
mark-quiet c e = among-not (chars "@^-") loud c refl e

tmark-quiet : (c : ℕ) → is_tmark c ≡ true → loud c ≡ false
unfolding is_tmark loud opens namestart quote sign by-category
tmark-quiet c e = among-not (chars "^-") loud c refl e

past-marked : {f : ℕ → Bool} {t u : Text} {m : Mark} → ((c : ℕ) → f c ≡ true → loud c ≡ false) → Marked f t u m → lefts between t ≡ lefts between u
past-marked h mark-none = refl
past-marked h (mark-some (chr p) s) = quiet _ _ (h _ p) ∙ past-s s

pub past-mark : {t u : Text} {m : Mark} → Marked is_mark t u m → lefts between t ≡ lefts between u
past-mark p = past-marked mark-quiet p

pub past-tmark : {t u : Text} {m : Mark} → Marked is_tmark t u m → lefts between t ≡ lefts between u
past-tmark p = past-marked tmark-quiet p

-- 5. Words.
abbrev pub put : Text → List ℕ → List ℕ
put t xs = length t ∷ xs

name-first : (c : ℕ) (u : Text) → namestart c ≡ true → lefts between (c ∷ u) ≡ put (c ∷ u) (lefts word u)
unfolding lefts opens onward
name-first c u e = rw e

past-followers : {t u cs : Text} → Followers t u cs → lefts word t ≡ lefts word u
past-followers f-none = refl
past-followers (f-next (chr p) f) = name-next _ _ p ∙ past-followers f

pub past-name : {t u n : Text} → Name t u n → lefts between t ≡ put t (lefts word u)
past-name (a-name {u = u} {c = c} (chr p) f) = name-first c u p ∙ ap (put (c ∷ u)) (past-followers f)

digit_low : (c : ℕ) → digit c ≡ true → c < 0x67
unfolding digit
digit_low c e =
    ⊎_elim (λ l. l) (λ g. absurd (clash (rw (lt-leb c 0x39 (omega arith), lt-leb c 0x66 (omega arith), lt-leb c 0x46 (omega arith)) (off (leb 0x30 c) (leb 0x61 c) (leb 0x41 c))) e)) (split c 0x67)
  where
    off : (a b d : Bool) → (a && false) || (b && false) || (d && false) ≡ false
    off a b d = rw (and-false a, and-false b, and-false d)

letter-low : (c : ℕ) → letter c ≡ true → c < 0x7b
unfolding letter capital
letter-low c e = ⊎_elim (λ l. l) (λ g. absurd (clash (rw (lt-leb c 0x5a (omega arith), lt-leb c 0x7a (omega arith)) (off (leb 0x41 c) (leb 0x61 c))) e)) (split c 0x7b)
  where
    off : (a b : Bool) → (a && false) || (b && false) ≡ false
    off a b = rw (and-false a, and-false b)

-- a test that holds of all below a bound which pass another
implied : (f g : ℕ → Bool) (m c : ℕ) → c < m → T (below m (λ k. not (f k) || g k)) → f c ≡ true → g c ≡ true
implied f g m c l p e = go (f c) (g c) e (T_true _ (below_at m (λ k. not (f k) || g k) p c l))
  where
    go : (a b : Bool) → a ≡ true → not a || b ≡ true → b ≡ true
    go true b p q = q
    go false b p q = absurd (clash refl p)

digit-follows : (c : ℕ) → digit c ≡ true → namefollower c ≡ true
unfolding digit namefollower namestart by-category
digit-follows c e = implied digit namefollower 0x67 c (digit_low c e) tt e

letter-follows : (c : ℕ) → letter c ≡ true → namefollower c ≡ true
unfolding letter capital namefollower namestart by-category
letter-follows c e = implied letter namefollower 0x7b c (letter-low c e) tt e

capital-letter : (c : ℕ) → capital c ≡ true → letter c ≡ true
unfolding letter
capital-letter c e = rw e

capital-starts : (c : ℕ) → capital c ≡ true → namestart c ≡ true
unfolding capital namestart by-category
capital-starts c e = implied capital namestart 0x7b c (letter-low c (capital-letter c e)) tt e

past-digits : {n m : ℕ} {t u : Text} → Digits n t u m → lefts word t ≡ lefts word u
past-digits (d-last (chr p)) = name-next _ _ (digit-follows _ p)
past-digits (d-next (chr p) d) = name-next _ _ (digit-follows _ p) ∙ past-digits d

hash-first : (u : Text) → lefts between (0x23 ∷ u) ≡ put (0x23 ∷ u) (lefts word u)
unfolding lefts opens onward namestart quote sign by-category
hash-first u = refl

pub past-hex : {t u : Text} {n : ℕ} → Hex t u n → lefts between t ≡ put t (lefts word u)
past-hex (a-hex {u = u} i d) = rw (is-char i) (hash-first u ∙ ap (put (0x23 ∷ u)) (past-digits d))

pub past-class : {t u k : Text} → Class t u k → lefts between t ≡ put t (lefts word u)
past-class (c-one {u = u} {c = c} (chr p)) = name-first c u (capital-starts c p)
past-class (c-two {u = u} {c = c} (chr p) (chr q)) = name-first c _ (capital-starts c p) ∙ ap (put (c ∷ u)) (name-next _ _ (letter-follows _ q))

-- 6. Strings, and the two brackets.
quote-start : (q : ℕ) → quote q ≡ true → namestart q || eqb q 0x23 ≡ false
unfolding quote namestart by-category
quote-start q e = among-not (chars "\"'") (λ k. namestart k || eqb k 0x23) q refl e

quote-first : (q : ℕ) (u : Text) → quote q ≡ true → lefts between (q ∷ u) ≡ put (q ∷ u) (lefts (quoted q) u)
unfolding lefts opens onward
quote-first q u e = rw (or_l (namestart q) _ (quote-start q e), or_r (namestart q) _ (quote-start q e), e)

unquotes : (q : ℕ) {t u : Text} → Is (ch q) t u → lefts (quoted q) t ≡ lefts (closed q) u
unfolding lefts ch
unquotes q (is p) = rw p

requotes : (q : ℕ) {t u : Text} → Is (ch q) t u → lefts (closed q) t ≡ lefts (quoted q) u
unfolding lefts ch
requotes q (is p) = rw p

plain-quoted : (q c : ℕ) (u : Text) → syntax.plain q c ≡ true → lefts (quoted q) (c ∷ u) ≡ lefts (quoted q) u
unfolding lefts syntax.plain
plain-quoted q c u e = rw (or_l (eqb c q) _ (not-true _ e))

past-qchar : {q c : ℕ} {t u : Text} → Qchar q t u c → lefts (quoted q) t ≡ lefts (quoted q) u
past-qchar {q} (q-plain (chr p)) = plain-quoted q _ _ p
past-qchar {q} (q-doubled i j) = unquotes q i ∙ requotes q j

past-qchars : {q : ℕ} {t u cs : Text} → Qchars q t u cs → lefts (quoted q) t ≡ lefts (quoted q) u
past-qchars (q-last c) = past-qchar c
past-qchars (q-next c cs) = past-qchar c ∙ past-qchars cs

pub past-string : {t u cs : Text} → String t u cs → ((q : ℕ) → quote q ≡ true → lefts (closed q) u ≡ lefts between u) → lefts between t ≡ put t (lefts between u)
past-string (a-string {q = q} {u = u} (chr e) cs i) c = quote-first q u e ∙ ap (put (q ∷ u)) (past-qchars cs ∙ unquotes q i ∙ c q e)

pub past-set : {t u : Text} → Is (ch 0x5b) t u → lefts between t ≡ put t (lefts between u)
unfolding lefts opens onward namestart quote sign by-category
past-set i = rw (is-char i)

pub past-group : {t u : Text} → Is (ch 0x28) t u → lefts between t ≡ put t (lefts between u)
unfolding lefts opens onward namestart quote sign by-category
past-group i = rw (is-char i)

pub past-chars : {t u : Text} {k : Chars} → CharsOf t u k → Calm u → lefts between t ≡ put t (lefts between u)
past-chars (c-string s) c = past-string s c.quote
past-chars {t} (c-hex h) c = past-hex h ∙ ap (put t) c.word

-- no word goes on into a string or a hex number
quote-fresh : (c : ℕ) → quote c ≡ true → namefollower c ≡ false
unfolding quote namefollower namestart by-category
quote-fresh c e = among-not (chars "\"'") namefollower c refl e

hash-fresh : (c : ℕ) → ch 0x23 c ≡ true → namefollower c ≡ false
unfolding namefollower namestart by-category
hash-fresh c e = at-ch namefollower false 0x23 c refl e

pub fresh : {t u : Text} {k : Chars} → CharsOf t u k → lefts word t ≡ lefts between t
fresh (c-string (a-string (chr e) cs i)) = name-ends _ _ (quote-fresh _ e)
fresh (c-hex (a-hex (is e) d)) = name-ends _ _ (hash-fresh _ e)

-- the words of the prolog
pub past_word : {w t u : Text} → all namefollower w ≡ true → Word w t u → lefts word t ≡ lefts word u
past_word e word_end = refl
past_word e (word-char {k = k} {w = w} (is {c = c} p) h) =
    name-next c _ (at-ch namefollower true k c (and_left (namefollower k) (all namefollower w) e) p) ∙ past_word (and_right (namefollower k) (all namefollower w) e) h

pub past_first : {k : ℕ} {w t u v : Text} → namestart k ≡ true → all namefollower w ≡ true → Word (k ∷ w) t u → RS u v → lefts between t ≡ put t (lefts between v)
past_first {k} e f (word-char (is {c = c} {u = x} p) h) r =
    name-first c x (at-ch namestart true k c e p) ∙ ap (put (c ∷ x)) (past_word f h ∙ (rs-calm r).word ∙ past-s (rs-s r))
