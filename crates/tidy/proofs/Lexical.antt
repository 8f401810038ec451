-- Strings, hex numbers, marks, names and sets in the tidy layout read back as what they are, whatever text w follows.
use mathlib.Core.Path.{◌≡◌, refl, subst, ◌∙◌}
use mathlib.Core.Bool.{Bool, true, false, not, ◌||◌}
use mathlib.Core.Logic.{◌⊎◌, ⊎_elim}
use mathlib.Core.List.{List, [], ◌∷◌, ◌++◌, append_assoc, append-nil}
use Prim.Native.Nat.{ℕ, zero, suc, ◌+◌, ◌*◌, ◌/◌, ◌%◌, ◌<◌, ◌≤◌}
use native.Mathlib.Omega.{arith}
use lib.Dec.{ltb, eqb, eqb_refl}
use borrow.Author.Tests.{eqb-true, ltb-true, ltb-false}
use Rattle.text.specs.Lists.{Text, chars, pick, concat_map, among}
use Rattle.text.proofs.Tests.{T_true, look}
use Rattle.text.proofs.Table.{below_at}
use Rattle.category.specs.Category.{in_class}
use Rattle.tree.specs.Tree.{Mark, Chars, Member}
use Rattle.syntax.proofs.Classes.{by-category, among-not, clash}
use Rattle.syntax.specs.Syntax.{Chr, chr, Is, is, ch, whitespace, S, s-none, s-white, RS, rs-white, plain, Qchar, q-plain, q-doubled, Qchars, q-last, q-next, quote}
use Rattle.syntax.specs.Syntax.{String, a-string, digit, digit_value, Digits, d-last, d-next, a-hex, CharsOf, c-string, c-hex, Character, one_char, one-hex}
use Rattle.syntax.specs.Syntax.{Class, c-one, c-two, MemberOf, m-chars, m-range, m-class, bar, Members, m-last, m-next, SetOf, set-none, set-some}
use Rattle.syntax.specs.Syntax.{is_mark, is_tmark, mark_of, Marked, mark-none, mark-some, Followers, f-none, f-next, Name, a-name}
use Rattle.tidy.specs.Tidy.{quoted_char, quoted_text, lower_digit, hex_digits, chars_text, mark_text, member_text, members_text, set_text}

pub three : (a b c w : Text) → a ++ b ++ c ++ w ≡ a ++ (b ++ (c ++ w))
three a b c w = append_assoc (a ++ b) c w ∙ append_assoc a b (c ++ w)

pub sign : (k : ℕ) {w : Text} → Is (ch k) (k ∷ w) w
unfolding ch
sign k = is (T_true (eqb k k) (eqb_refl k))

-- the layout's spaces and line ends
pub space : (w : Text) → S (0x20 ∷ w) w
unfolding whitespace by-category
space w = s-white (is refl) s-none

pub blank : (w : Text) → RS (0x20 ∷ w) w
unfolding whitespace by-category
blank w = rs-white (is refl) s-none

pub line-end : (w : Text) → S (0xa ∷ w) w
unfolding whitespace by-category
line-end w = s-white (is refl) s-none

pub next-line : (w : Text) → RS (0xa ∷ w) w
unfolding whitespace by-category
next-line w = rs-white (is refl) s-none

-- a character of a string is no control character, so double quotes hold it
quote-printed : (q : ℕ) → quote q ≡ true → in_class (chars "Cc") q ≡ false
unfolding quote by-category
quote-printed q h = among-not (chars "\"'") (in_class (chars "Cc")) q refl h

plain-printed : (q c : ℕ) → plain q c ≡ true → in_class (chars "Cc") c ≡ false
unfolding plain
plain-printed q c h = go (eqb c q) (in_class (chars "Cc") c) h
  where
    go : (a b : Bool) → not (a || b) ≡ true → b ≡ false
    go true b e = absurd (clash refl e)
    go false true e = absurd (clash refl e)
    go false false e = refl

printed-reads : (c : ℕ) (w : Text) → in_class (chars "Cc") c ≡ false → Qchar 0x22 (quoted_char c ++ w) w c
unfolding plain ch
printed-reads c w h = go (eqb c 0x22) refl
  where
    go : (b : Bool) → eqb c 0x22 ≡ b → Qchar 0x22 (pick b (0x22 ∷ 0x22 ∷ []) (c ∷ []) ++ w) w c
    go true e = rw (eqb-true c 0x22 e) (q-doubled (is refl) (is refl))
    go false e = q-plain (chr {c = c} (rw (e, h)))

qchar-reads : (q c : ℕ) (t u w : Text) → quote q ≡ true → Qchar q t u c → Qchar 0x22 (quoted_char c ++ w) w c
qchar-reads q c t u w h (q-plain (chr p)) = printed-reads c w (plain-printed q c p)
qchar-reads q c t u w h (q-doubled a b) = printed-reads q w (quote-printed q h)

qchars-read : (q : ℕ) (t u cs w : Text) → quote q ≡ true → Qchars q t u cs → Qchars 0x22 (concat_map quoted_char cs ++ w) w cs
qchars-read q t u cs w h (q-last {c = c} k) = rw (append-nil (quoted_char c)) (q-last (qchar-reads q c _ _ w h k))
qchars-read q t u cs w h (q-next {cs = ds} {c = c} k ks) =
    rw (append_assoc (quoted_char c) (concat_map quoted_char ds) w)
    (q-next (qchar-reads q c _ _ (concat_map quoted_char ds ++ w) h k) (qchars-read q _ _ ds w h ks))

pub string-reads : (t u cs w : Text) → String t u cs → String (quoted_text cs ++ w) w cs
unfolding quote ch
string-reads t u cs w (a-string {q} (chr h) ks (is e)) =
    let k = qchars-read q _ _ cs (0x22 ∷ w) h ks in
    rw (three (chars "\"") (concat_map quoted_char cs) (chars "\"") w) (a-string {q = 0x22} {cs = cs} (chr refl) k (is refl))

-- the sixteen digits
lower-is-digit : (d : ℕ) → d < 16 → digit (lower_digit d) ≡ true
unfolding digit
lower-is-digit d h = T_true (digit (lower_digit d)) (below_at 16 (λ n. digit (lower_digit n)) tt d h)

lower-value : (d : ℕ) → d < 16 → digit_value (lower_digit d) ≡ d
unfolding digit_value
lower-value d h = eqb-true (digit_value (lower_digit d)) d (T_true _ (below_at 16 (λ n. eqb (digit_value (lower_digit n)) n) tt d h))

digit-after : (a m : ℕ) (t u v : Text) (c : ℕ) → Digits a t u m → Chr digit u v c → Digits a t v (16 * m + digit_value c)
digit-after a m t u v c (d-last h) k = d-next h (d-last k)
digit-after a m t u v c (d-next h hs) k = d-next h (digit-after _ m _ u v c hs k)

abbrev Tells : ℕ → Text → Text → ℕ → Type 0
Tells n ds w m = Digits 0 (ds ++ w) w m

hex-reads : (k n : ℕ) (w : Text) → n < k → Tells n (hex_digits k n) w n
hex-reads zero n w h = absurd (omega arith)
hex-reads (suc k) n w h = go (ltb n 16) refl (λ l. hex-reads k (n / 16) (lower_digit (n % 16) ∷ w) (omega arith))
  where
    go : (b : Bool) → ltb n 16 ≡ b → (16 ≤ n → Tells n (hex_digits k (n / 16)) (lower_digit (n % 16) ∷ w) (n / 16))
        → Tells n (elim b as (λ _. Text) [ true ↦ lower_digit n ∷ [] | false ↦ hex_digits k (n / 16) ++ lower_digit (n % 16) ∷ [] ]) w n
    go true e f =
        let l : n < 16 = ltb-true n 16 e in
        let v : 16 * 0 + digit_value (lower_digit n) ≡ n = omega (arith, lower-value n l) in
        subst (λ (m : ℕ). Digits 0 (lower_digit n ∷ w) w m) v (d-last (chr {c = lower_digit n} (lower-is-digit n l)))
    go false e f =
        let q : n % 16 < 16 = omega arith in
        let v : 16 * (n / 16) + digit_value (lower_digit (n % 16)) ≡ n = rw (lower-value (n % 16) q) (omega arith) in
        rw (append_assoc (hex_digits k (n / 16)) (lower_digit (n % 16) ∷ []) w)
        (subst (λ (m : ℕ). Digits 0 (hex_digits k (n / 16) ++ lower_digit (n % 16) ∷ w) w m) v
        (digit-after 0 (n / 16) _ _ w (lower_digit (n % 16)) (f (ltb-false n 16 e)) (chr {c = lower_digit (n % 16)} (lower-is-digit (n % 16) q))))

pub chars-read : (t u w : Text) (k : Chars) → CharsOf t u k → CharsOf (chars_text k ++ w) w k
unfolding ch
chars-read t u w k (c-string h) = c-string (string-reads _ _ _ w h)
chars-read t u w k (c-hex {n = n} h) = c-hex (a-hex (is refl) (hex-reads (suc n) n w (omega arith)))

character-reads : (t u w : Text) (k : Chars) → Character t u k → Character (chars_text k ++ w) w k
unfolding ch
character-reads t u w k (one_char h) = one_char (string-reads _ _ _ w h)
character-reads t u w k (one-hex {n = n} h) = one-hex (a-hex (is refl) (hex-reads (suc n) n w (omega arith)))

-- sets
class-reads : (t u k w : Text) → Class t u k → Class (k ++ w) w k
class-reads t u k w (c-one (chr h)) = c-one (chr h)
class-reads t u k w (c-two (chr h) (chr l)) = c-two (chr h) (chr l)

member-reads : (t u w : Text) (m : Member) → MemberOf t u m → MemberOf (member_text m ++ w) w m
unfolding ch
member-reads t u w m (m-chars h) = m-chars (chars-read _ _ w _ h)
member-reads t u w m (m-range {a = a} {b = b} h s i s' k) =
    rw (three (chars_text a) (chars "-") (chars_text b) w)
    (m-range (character-reads _ _ (0x2d ∷ (chars_text b ++ w)) a h) s-none (is refl) s-none (character-reads _ _ w b k))
member-reads t u w m (m-class h) = m-class (class-reads _ _ _ w h)

pub some-member : {t u : Text} {ms : List Member} → Members t u ms → ms ≡ [] → ⊥
some-member (m-last h s) e = let z : ◌≡◌ {A = ℕ} 0 1 = cc in omega arith
some-member (m-next h s b s' hs) e = let z : ◌≡◌ {A = ℕ} 0 1 = cc in omega arith

members-read : (t u w : Text) (ms : List Member) → Members t u ms → Members (members_text ms ++ w) w ms
unfolding bar
members-read t u w ms (m-last {m = m} h s) = m-last (member-reads _ _ w m h) s-none
members-read t u w ms (m-next {m = m} {ms = []} h s b s' hs) = absurd (some-member hs refl)
members-read t u w ms (m-next {m = m} {ms = n ∷ ns} h s b s' hs) =
    let after = members_text (n ∷ ns) ++ w in
    rw (three (member_text m) (chars "; ") (members_text (n ∷ ns)) w)
    (m-next (member-reads _ _ (chars "; " ++ after) m h) s-none (is refl) (space after) (members-read _ _ w (n ∷ ns) hs))

pub set_reads : (t u w : Text) (ms : List Member) → SetOf t u ms → SetOf (set_text ms ++ w) w ms
unfolding ch
set_reads t u w ms (set-none a s b s') = set-none (is refl) s-none (is refl) s-none
set_reads t u w ms (set-some a s hs b s') =
    rw (three (chars "[") (members_text ms) (chars "]") w) (set-some {ms = ms} (is refl) s-none (members-read _ _ (0x5d ∷ w) ms hs) (is refl) s-none)

-- marks: one of the three signs, wherever the test f admits it
module _ (f : ℕ → Bool) (w : Text) where
  abbrev Goes : ℕ → Type 0
  Goes c = Marked f (mark_text (mark_of c) ++ w) w (mark_of c)

  at_sign : (k c : ℕ) → (f k ≡ true → Goes k) → f c ≡ true → eqb c k ≡ true → Goes c
  at_sign k c g h e = let z = eqb-true c k e in rw z (g (rw z at h))

  sign_reads : (c : ℕ) → f c ≡ true → among c (chars "@^-") ≡ true → Goes c
  unfolding mark_of
  sign_reads c h m =
      ⊎_elim (at_sign 0x40 c (λ k. mark-some (chr {c = 0x40} k) s-none) h)
      (λ e. ⊎_elim (at_sign 0x5e c (λ k. mark-some (chr {c = 0x5e} k) s-none) h)
      (λ e'. ⊎_elim (at_sign 0x2d c (λ k. mark-some (chr {c = 0x2d} k) s-none) h)
      (λ e''. absurd (clash (none_left (eqb c 0x40) (eqb c 0x5e) (eqb c 0x2d) e e' e'') m)) (look (eqb c 0x2d))) (look (eqb c 0x5e))) (look (eqb c 0x40))
    where
      none_left : (a b d : Bool) → a ≡ false → b ≡ false → d ≡ false → a || (b || (d || false)) ≡ false
      none_left a b d e e' e'' = rw (e, e', e'')

tmark-is-mark : (c : ℕ) → is_tmark c ≡ true → among c (chars "@^-") ≡ true
unfolding is_tmark
tmark-is-mark c h = go (eqb c 0x40) (eqb c 0x5e || (eqb c 0x2d || false)) h
  where
    go : (a b : Bool) → b ≡ true → a || b ≡ true
    go true b e = refl
    go false b e = e

pub tmark-reads : (t u w : Text) (m : Mark) → Marked is_tmark t u m → Marked is_tmark (mark_text m ++ w) w m
tmark-reads t u w m mark-none = mark-none
tmark-reads t u w m (mark-some {c = c} (chr h) s) = sign_reads is_tmark w c h (tmark-is-mark c h)

mark-is-mark : (c : ℕ) → is_mark c ≡ true → among c (chars "@^-") ≡ true
unfolding is_mark
mark-is-mark c h = h

pub mark-reads : (t u w : Text) (m : Mark) → Marked is_mark t u m → Marked is_mark (mark_text m ++ w) w m
mark-reads t u w m mark-none = mark-none
mark-reads t u w m (mark-some {c = c} (chr h) s) = sign_reads is_mark w c h (mark-is-mark c h)

-- names
followers-read : (t u cs w : Text) → Followers t u cs → Followers (cs ++ w) w cs
followers-read t u cs w f-none = f-none
followers-read t u cs w (f-next (chr h) k) = f-next (chr h) (followers-read _ _ _ w k)

pub name-reads : (t u n w : Text) → Name t u n → Name (n ++ w) w n
name-reads t u n w (a-name (chr h) k) = a-name (chr h) (followers-read _ _ _ w k)
