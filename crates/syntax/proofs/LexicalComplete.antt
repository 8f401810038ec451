-- What the grammar derives as a token, the reader reads, where nothing follows that would go on with it.
use native.Mathlib.Omega.{arith}
use mathlib.Core.Bool.{Bool, true, false, not, ◌||◌}
use mathlib.Core.Path.{◌≡◌, refl}
use mathlib.Core.List.{List, [], ◌∷◌}
use Prim.Native.Nat.{ℕ, zero, suc, ◌<◌}
use lib.Dec.{eqb}
use Rattle.text.specs.Lists.{Text, chars, among}
use Rattle.category.specs.Category.{in_class}
use Rattle.syntax.specs.Syntax.{chr, Is, is, ch, quote, capital, letter, bar, is_mark, S, String, CharsOf, SetOf, Marked, Qchar}
use Rattle.syntax.specs.Syntax.{Qchars, Digits, Hex, Character, MemberOf, Members, Word, digit, mark_of, plain, Class}
use Rattle.syntax.specs.Result.{hd, tl, Result, ok, when, then, map, guard, expect}
use Rattle.syntax.specs.Spacing.{spacing, skip}
use mathlib.Core.Logic.{⊎_elim}
use lib.ListN.{length}
use Rattle.tree.specs.Tree.{Mark, Chars, Member, range, class}
use Rattle.syntax.specs.Syntax.SetOf.{set-none, set-some}
use Rattle.syntax.specs.Syntax.Marked.{mark-none, mark-some}
use Rattle.syntax.specs.Syntax.CharsOf.{c-string, c-hex}
use Rattle.syntax.specs.Syntax.Qchar.{q-plain, q-doubled}
use Rattle.syntax.specs.Syntax.Qchars.{q-last, q-next}
use Rattle.syntax.specs.Syntax.String.{a-string}
use Rattle.syntax.specs.Syntax.Digits.{d-last, d-next}
use Rattle.syntax.specs.Syntax.Hex.{a-hex}
use Rattle.syntax.specs.Syntax.Character.{one_char, one-hex}
use Rattle.syntax.specs.Syntax.Class.{c-one, c-two}
use Rattle.syntax.specs.Syntax.MemberOf.{m-chars, m-range, m-class}
use Rattle.syntax.specs.Syntax.Members.{m-last, m-next}
use Rattle.syntax.specs.Syntax.Word.{word_end, word-char}
use Rattle.syntax.specs.Lexical.{read_word, read-string, read-chars, read_set, read-mark, separated, quoted, nonempty, digits}
use Rattle.syntax.specs.Lexical.{read-hex, one-character, read-character, read-class, range-or, read-member, alone, members}
use Rattle.tree.specs.Tree as tree
use Rattle.syntax.proofs.Classes.{clash, or-true, no-ch, at-ch, among-at, none_of, among-not, spacings, no-spacing, ch-spacing, spacing-not}
use Rattle.syntax.proofs.SpacingLaws.{complete-s, head-s, complete-spaced}
use Rattle.syntax.proofs.Shorter.{short-s, of-character, short-member}

-- 1. What follows a token: no quote, no digit, no letter.
unfoldable pub joins : ℕ → Bool
joins c = quote c || (digit c || letter c)

or_left : (a b : Bool) → a || b ≡ false → a ≡ false
or_left true b e = e
or_left false b e = refl

or_right : (a b : Bool) → a || b ≡ false → b ≡ false
or_right true b e = absurd (clash e refl)
or_right false b e = e

joins-quote : (c : ℕ) → joins c ≡ false → quote c ≡ false
unfolding joins
joins-quote c e = or_left (quote c) _ e

joins-digit : (c : ℕ) → joins c ≡ false → digit c ≡ false
unfolding joins
joins-digit c e = or_left (digit c) _ (or_right (quote c) _ e)

joins-letter : (c : ℕ) → joins c ≡ false → letter c ≡ false
unfolding joins
joins-letter c e = or_right (digit c) _ (or_right (quote c) _ e)

-- a test that no spacing passes fails before a spacing if it fails after it
pub before-s : (f : ℕ → Bool) {u w : Text} → none_of f spacings ≡ true → S u w → f (hd w) ≡ false → f (hd u) ≡ false
before-s f {u} p s e = ⊎_elim (λ q. rw q e) (λ q. spacing-not f (hd u) p q) (head-s s)

pub joins-s : {u w : Text} → S u w → joins (hd w) ≡ false → joins (hd u) ≡ false
unfolding joins quote digit letter capital
joins-s s e = before-s joins refl s e

-- 2. Words.
pub complete-word : {w t u : Text} → Word w t u → read_word w t ≡ ok tt u
unfolding read_word expect guard
complete-word word_end = refl
complete-word (word-char (is p) h) = rw p (complete-word h)

-- 3. Strings.
quote-ends : (q : ℕ) (u w : Text) → Is (ch q) u w → ch q (hd w) ≡ false → quoted q u false ≡ ok [] w
unfolding quoted when
quote-ends q u [] (is p) e = rw p
quote-ends q u (c ∷ w) (is p) e = rw (p, e)

plain-quote : (q c : ℕ) → plain q c ≡ true → ch q c ≡ false
unfolding ch plain
plain-quote q c = go (eqb c q) (in_class (chars "Cc") c)
  where
    go : (a b : Bool) → not (a || b) ≡ true → a ≡ false
    go true b e = absurd (clash refl e)
    go false b e = refl

qchar-read : {q c : ℕ} {t u : Text} → Qchar q t u c → quoted q t false ≡ map (◌∷◌ c) (quoted q u false)
unfolding quoted when guard
qchar-read {q} (q-plain (chr p)) = rw (plain-quote q _ p, p)
qchar-read (q-doubled (is p) (is q)) = rw (p, q)

qchars-read : {q : ℕ} {t u w cs : Text} → Qchars q t u cs → Is (ch q) u w → ch q (hd w) ≡ false → quoted q t false ≡ ok cs w
unfolding map
qchars-read (q-last d) i e = rw (qchar-read d, quote-ends _ _ _ i e)
qchars-read (q-next d r) i e = rw (qchar-read d, qchars-read r i e)

nonempty-read : {q : ℕ} {t u : Text} {cs : Text} → Qchars q t u cs → (w : Text) → nonempty (ok cs w) ≡ ok cs w
unfolding nonempty
nonempty-read (q-last d) w = refl
nonempty-read (q-next d r) w = refl

-- what passes f is not what fails it
passes-not : (f : ℕ → Bool) (k c : ℕ) → f k ≡ true → f c ≡ false → ch k c ≡ false
passes-not f k c p e = go (ch k c) refl
  where
    go : (b : Bool) → ch k c ≡ b → b ≡ false
    go true h = absurd (clash e (at-ch f true k c p h))
    go false h = refl

pub complete-string : {t u cs : Text} → String t u cs → joins (hd u) ≡ false → read-string t ≡ ok cs u
unfolding read-string guard
complete-string {u = u} (a-string {q = q} (chr p) d i) e = rw (p, qchars-read d i (passes-not quote q (hd u) p (joins-quote (hd u) e))) (nonempty-read d u)

-- 4. Hex numbers, characters.
digits-end : (n : ℕ) (u : Text) → digit (hd u) ≡ false → digits n u ≡ ok n u
unfolding digits when
digits-end n [] e = refl
digits-end n (c ∷ u) e = rw e

digits-read : {n m : ℕ} {t u : Text} → Digits n t u m → digit (hd u) ≡ false → digits n t ≡ ok m u
unfolding digits when
digits-read {u = u} (d-last (chr p)) e = rw p (digits-end _ u e)
digits-read (d-next (chr p) d) e = rw p (digits-read d e)

first-digit : {n m : ℕ} {t u : Text} → Digits n t u m → digit (hd t) ≡ true
first-digit (d-last (chr p)) = p
first-digit (d-next (chr p) d) = p

complete-hex : {t u : Text} {n : ℕ} → Hex t u n → joins (hd u) ≡ false → read-hex t ≡ ok n u
unfolding read-hex expect guard
complete-hex {u = u} (a-hex (is p) d) e = rw (p, first-digit d, digits-read d (joins-digit (hd u) e))

quote-no-hex : (c : ℕ) → quote c ≡ true → ch 0x23 c ≡ false
unfolding quote
quote-no-hex c e = no-ch quote 0x23 c refl e

pub complete-chars : {t u : Text} {k : Chars} → CharsOf t u k → joins (hd u) ≡ false → read-chars t ≡ ok k u
unfolding read-chars when map
complete-chars (c-string (a-string (chr p) d i)) e = rw (quote-no-hex _ p, complete-string (a-string (chr p) d i) e)
complete-chars (c-hex (a-hex (is p) d)) e = rw (p, complete-hex (a-hex (is p) d) e)

is_one : {t u : Text} {k : Chars} → Character t u k → one-character k ≡ true
unfolding one-character
is_one (one_char s) = refl
is_one (one-hex h) = refl

complete-character : {t u : Text} {k : Chars} → Character t u k → joins (hd u) ≡ false → read-character t ≡ ok k u
unfolding read-character then guard
complete-character c e = rw (complete-chars (of-character c) e, is_one c)

-- 5. Classes.
complete-class : {t u k : Text} → Class t u k → joins (hd u) ≡ false → read-class t ≡ ok k u
unfolding read-class guard when
complete-class {u = u} (c-one (chr p)) e = rw (p, joins-letter (hd u) e)
complete-class (c-two (chr p) (chr q)) e = rw (p, q)

-- 6. Members and sets.
unfoldable pub opens : ℕ → Bool
opens c = among c (chars "\"'#")

open-quote : (c : ℕ) → quote c ≡ true → opens c ≡ true
unfolding quote opens
open-quote c e = among-at (chars "\"'") (λ k. among k (chars "\"'#")) c refl e

open-hex : (c : ℕ) → ch 0x23 c ≡ true → opens c ≡ true
unfolding opens
open-hex c e = at-ch (λ k. among k (chars "\"'#")) true 0x23 c refl e

pub first-chars : {t u : Text} {k : Chars} → CharsOf t u k → opens (hd t) ≡ true
first-chars (c-string (a-string (chr p) d i)) = open-quote _ p
first-chars (c-hex (a-hex (is p) d)) = open-hex _ p

pub opens-spacing : (c : ℕ) → opens c ≡ true → spacing c ≡ false
unfolding opens
opens-spacing c e = no-spacing opens c refl e

opens-capital : (c : ℕ) → opens c ≡ true → capital c ≡ false
unfolding opens capital
opens-capital c e = among-not (chars "\"'#") capital c refl e

-- the first character of a member
member-starts : ℕ → Bool
member-starts c = opens c || capital c

first-class : {t u k : Text} → Class t u k → capital (hd t) ≡ true
first-class (c-one (chr p)) = p
first-class (c-two (chr p) q) = p

first_member : {t u : Text} {m : Member} → MemberOf t u m → member-starts (hd t) ≡ true
unfolding member-starts
first_member (m-chars h) = rw (first-chars h)
first_member (m-range a s p s' b) = rw (first-chars (of-character a))
first_member {t} (m-class p) = rw (first-class p) (or-true (opens (hd t)))

first-members : {t u : Text} {ms : List Member} → Members t u ms → member-starts (hd t) ≡ true
first-members (m-last p s) = first_member p
first-members (m-next p s i s' r) = first_member p

member-spacing : (c : ℕ) → member-starts c ≡ true → spacing c ≡ false
unfolding member-starts opens capital
member-spacing c e = no-spacing member-starts c refl e

member-shut : (c : ℕ) → member-starts c ≡ true → ch 0x5d c ≡ false
unfolding member-starts opens capital
member-shut c e = no-ch member-starts 0x5d c refl e

-- what follows a member: `;`, `|` or `]`
after-member : ℕ → Bool
after-member c = among c (chars ";|]")

after-bar : (c : ℕ) → bar c ≡ true → after-member c ≡ true
unfolding bar after-member
after-bar c e = among-at (chars ";|") (λ k. among k (chars ";|]")) c refl e

after-shut : (c : ℕ) → ch 0x5d c ≡ true → after-member c ≡ true
unfolding after-member
after-shut c e = at-ch (λ k. among k (chars ";|]")) true 0x5d c refl e

after-spacing : (c : ℕ) → after-member c ≡ true → spacing c ≡ false
unfolding after-member
after-spacing c e = no-spacing after-member c refl e

after-joins : (c : ℕ) → after-member c ≡ true → joins c ≡ false
unfolding after-member joins quote digit letter capital
after-joins c e = among-not (chars ";|]") joins c refl e

after-dash : (c : ℕ) → after-member c ≡ true → ch 0x2d c ≡ false
unfolding after-member
after-dash c e = no-ch after-member 0x2d c refl e

dash-joins : (c : ℕ) → ch 0x2d c ≡ true → joins c ≡ false
unfolding joins quote digit letter capital
dash-joins c e = at-ch joins false 0x2d c refl e

complete-range : {v w x : Text} {a b : Chars} (u : Text) → one-character a ≡ true → ch 0x2d (hd u) ≡ true → S (tl u) v → Character v w b
    → S w x → after-member (hd x) ≡ true → range-or a u ≡ ok (range a b) x
unfolding range-or when guard then
complete-range {x = x} {a = a} {b = b} u o p s c s' e =
    rw (p, o, complete-s s (opens-spacing _ (first-chars (of-character c))), complete-character c (joins-s s' (after-joins _ e))) (complete-spaced (range a b) s' (after-spacing (hd x) e))

no-range : (k : Chars) (u : Text) → ch 0x2d (hd u) ≡ false → range-or k u ≡ ok (tree.chars k) u
unfolding range-or when
no-range k u e = rw e

complete-member : {t u v : Text} {m : Member} → MemberOf t u m → S u v → after-member (hd v) ≡ true → read-member t ≡ ok m v
unfolding read-member when then
complete-member {v = v} (m-chars {k = k} h) s e =
    rw (opens-capital _ (first-chars h), complete-chars h (joins-s s (after-joins (hd v) e)), complete-s s (after-spacing (hd v) e)) (no-range k v (after-dash (hd v) e))
complete-member (m-range a s (is p) s' b) s'' e =
    rw (
      opens-capital _ (first-chars (of-character a)),
      complete-chars (of-character a) (joins-s s (dash-joins _ p)),
      complete-s s
          (ch-spacing 0x2d _ refl p),
    ) (complete-range _ (is_one a) p s' b s'' e)
complete-member {v = v} (m-class {k = k} c) s e =
    rw (first-class c, complete-class c (joins-s s (after-joins (hd v) e))) (complete-spaced (class k) s (after-spacing (hd v) e))

module _ {A B : Type 0} (f : ℕ → Bool) (more : A → B → B) (last : A → B) (again : Text → Result B) (v : A) (t : Text) where
  pub separated-last : f (hd t) ≡ false → separated f more last again v t ≡ ok (last v) t
  unfolding separated when
  separated-last e = rw e

  pub separated_more : (u : Text) (x : Result B) → f (hd t) ≡ true → skip (tl t) ≡ ok tt u → again u ≡ x → separated f more last again v t ≡ map (more v) x
  unfolding separated when then
  separated_more u x e s h = rw (e, s, h)

shut-bar : (c : ℕ) → ch 0x5d c ≡ true → bar c ≡ false
unfolding bar
shut-bar c e = at-ch bar false 0x5d c refl e

complete-members : {t u : Text} {ms : List Member} → Members t u ms → ch 0x5d (hd u) ≡ true → (n : ℕ) → length t < n → members n t ≡ ok ms u
unfolding members then map
complete-members r e zero h = absurd (omega arith)
complete-members {u = u} (m-last {m = m} p s) e (suc n) h =
    rw (complete-member p s (after-shut (hd u) e)) (separated-last bar ◌∷◌ alone (λ w. members n w) m u (shut-bar (hd u) e))
complete-members {u = z} (m-next {v = v} {x = x} {m = m} {ms = ms} p s (is q) s' r) e (suc n) h =
    let i = short-member p in let j = short-s s in let k = short-s s' in
    rw (complete-member p s (after-bar _ q))
    (separated_more bar ◌∷◌ alone (λ w. members n w) m v x (ok ms z) q (complete-s s' (member-spacing _ (first-members r))) (complete-members r e n (omega arith)))

pub complete-set : {t u : Text} {ms : List Member} → SetOf t u ms → spacing (hd u) ≡ false → read_set t ≡ ok ms u
unfolding read_set expect guard then when
complete-set (set-none (is p) s (is q) s') e = rw (p, complete-s s (ch-spacing 0x5d _ refl q), q) (complete-spaced [] s' e)
complete-set (set-some {v = v} {ms = ms} (is p) s r (is q) s') e =
    rw (p, complete-s s (member-spacing _ (first-members r)), member-shut _ (first-members r), complete-members r q (suc (length v)) (omega arith), q) (complete-spaced ms s' e)

-- 7. Marks.
pub complete-mark : {t u : Text} {m : Mark} → Marked is_mark t u m → is_mark (hd u) ≡ false → spacing (hd u) ≡ false → read-mark t ≡ ok m u
unfolding read-mark when
complete-mark mark-none e f = rw e
complete-mark (mark-some {c = c} (chr p) s) e f = rw p (complete-spaced (mark_of c) s f)
