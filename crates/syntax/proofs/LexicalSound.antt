-- What the reader's tokens accept, the grammar derives.
use mathlib.Core.Bool.{Bool, true, false, not, ◌&&◌}
use mathlib.Core.Path.{◌≡◌, refl, sym, subst}
use mathlib.Core.List.{[], ◌∷◌}
use Prim.Native.Nat.{ℕ, zero, suc, ◌+◌, ◌*◌}
use lib.Dec.{eqb}
use borrow.Author.Tests.{eqb-true, not-true, eq-eqb}
use Rattle.text.specs.Lists.{Text, all}
use Rattle.syntax.specs.Syntax.{chr, Is, is, ch, quote, capital, letter, bar, is_mark, namestart, namefollower, S, String, CharsOf}
use Rattle.syntax.specs.Syntax.{SetOf, Marked, Followers, Name, Qchar, Qchars, Digits, Hex, Character, MemberOf, Members, Word}
use Rattle.syntax.specs.Syntax.{digit, mark_of, plain, digit_value, Class}
use Rattle.syntax.specs.Result.{hd, tl, Result, ok, fail, when, map, guard}
use Rattle.syntax.specs.Spacing.{skip}
use lib.ListN.{length}
use Rattle.tree.specs.Tree.{Chars, Member, string, hex, range, class}
use Rattle.syntax.specs.Syntax.SetOf.{set-none, set-some}
use Rattle.syntax.specs.Syntax.Marked.{mark-none, mark-some}
use Rattle.syntax.specs.Syntax.CharsOf.{c-string, c-hex}
use Rattle.syntax.specs.Syntax.Followers.{f-none, f-next}
use Rattle.syntax.specs.Syntax.Name.{a-name}
use Rattle.syntax.specs.Syntax.Qchar.{q-plain, q-doubled}
use Rattle.syntax.specs.Syntax.Qchars.{q-last, q-next}
use Rattle.syntax.specs.Syntax.String.{a-string}
use Rattle.syntax.specs.Syntax.Digits.{d-last, d-next}
use Rattle.syntax.specs.Syntax.Hex.{a-hex}
use Rattle.syntax.specs.Syntax.Character.{one_char, one-hex}
use Rattle.syntax.specs.Syntax.Class.{c-one, c-two}
use Rattle.syntax.specs.Syntax.MemberOf.{m-chars, m-range, m-class}
use Rattle.syntax.specs.Syntax.Members.{m-last, m-next}
use Rattle.syntax.specs.Syntax.Word.{word_end, word-char}
use Rattle.syntax.specs.Lexical.{read_word, read-string, read-chars, read_set, read-mark, read_name, read-use, ending, separated}
use Rattle.syntax.specs.Lexical.{quoted, nonempty, digits, read-hex, one-character, read-character, read-class, range-or}
use Rattle.syntax.specs.Lexical.{read-member, alone, members, run, last-dot, but_last, less-dot}
use Rattle.syntax.proofs.Classes.{clash, and_left, and_right, chr-at, is_at, ch-end, quote-end, capital-end, letter-end, bar-end, mark-end, namestart-end}
use Rattle.syntax.proofs.Holds.{Holds, holds-when, holds-guard, holds-expect, holds_then, holds-map, weaken, none, some}
use Rattle.syntax.proofs.SpacingLaws.{sound-spaced, holds-skip}

-- a word of code points
pub sound-word : (w t : Text) → all (λ k. not (eqb 0x110000 k)) w ≡ true → Holds (λ _ u. Word w t u) (read_word w t)
unfolding read_word
sound-word [] t e = some word_end
sound-word (k ∷ w) t e =
    holds-expect (ch k) t (ch-end k (not-true _ (and_left (not (eqb 0x110000 k)) _ e))) (λ u i. weaken (sound-word w u (and_right (not (eqb 0x110000 k)) _ e)) (λ _ v h. word-char i h))

-- strings: the characters and the last quote
data Rest (q : ℕ) : Text → Text → Text → Type 0 where
  rest_end : {t u : Text} → Is (ch q) t u → Rest q t u []
  rest-char : {t u v cs : Text} {c : ℕ} → Qchar q t u c → Rest q u v cs → Rest q t v (c ∷ cs)

quote-at : (q : ℕ) {t : Text} → Is (ch q) (q ∷ t) t
unfolding ch
quote-at q = is (eq-eqb q q refl)

as-quote : {q c : ℕ} {t u cs : Text} → ch q c ≡ true → Rest q (q ∷ t) u cs → Rest q (c ∷ t) u cs
unfolding ch
as-quote {q} {c} {t} {u} {cs} e r = subst (λ (k : ℕ). Rest q (k ∷ t) u cs) (sym (eqb-true c q e)) r

abbrev Both : ℕ → Text → Type 0
Both q t = Holds (λ cs u. Rest q t u cs) (quoted q t false) × Holds (λ cs u. Rest q (q ∷ t) u cs) (quoted q t true)

sound-quoted : (q : ℕ) (t : Text) → Both q t
unfolding quoted
sound-quoted q [] = (none, some (rest_end (quote-at q)))
sound-quoted q (c ∷ t) = let ih : Both q t = sound-quoted q t in (
  holds-when (ch q c) (λ _ e. weaken ih.1 (λ cs u r. as-quote e r))
      (λ _ _. holds-guard (plain q c) (λ _ f. holds-map (◌∷◌ c) ih.0 (λ cs u r. rest-char (q-plain (chr f)) r))),
  holds-when (ch q c) (λ _ e. holds-map (◌∷◌ q) ih.0 (λ cs u r. rest-char (q-doubled (quote-at q) (is e)) r)) (λ _ _. some (rest_end (quote-at q))),
)

into-string : {q c : ℕ} {t u cs : Text} → Rest q t u (c ∷ cs) → (v : Text) × Qchars q t v (c ∷ cs) × Is (ch q) v u
into-string (rest-char d (rest_end q)) = (_, q-last d, q)
into-string (rest-char d (rest-char d' r)) = let x = into-string (rest-char d' r) in (x.0, q-next d x.1, x.2)

sound-nonempty : (t : Text) (x : Result Text) → quote (hd t) ≡ true → Holds (λ cs u. Rest (hd t) (tl t) u cs) x → Holds (λ cs u. String t u cs) (nonempty x)
unfolding nonempty
sound-nonempty t fail e h = none
sound-nonempty t (ok [] u) e h = none
sound-nonempty t (ok (c ∷ cs) u) e (some r) = let x = into-string r in some (a-string (chr-at quote t quote-end e) x.1 x.2)

pub sound-string : (t : Text) → Holds (λ cs u. String t u cs) (read-string t)
unfolding read-string
sound-string t = holds-guard (quote (hd t)) (λ _ e. sound-nonempty t (quoted (hd t) (tl t) false) e (sound-quoted (hd t) (tl t)).0)

-- the digits after a first one
sound-digits : (t : Text) (n c : ℕ) → digit c ≡ true → Holds (λ m u. Digits n (c ∷ t) u m) (digits (16 * n + digit_value c) t)
unfolding digits
sound-digits [] n c e = some (d-last (chr e))
sound-digits (c' ∷ t) n c e =
    holds-when (digit c') (λ _ f. weaken (sound-digits t (16 * n + digit_value c) c' f) (λ m u d. d-next (chr e) d)) (λ _ _. some (d-last (chr e)))

first-digit : (t : Text) → digit (hd t) ≡ true → Holds (λ m u. Digits 0 t u m) (digits 0 t)
unfolding digits digit when
first-digit [] e = absurd (clash refl e)
first-digit (c ∷ t) e = rw e (sound-digits t 0 c e)

pub sound-hex : (t : Text) → Holds (λ n u. Hex t u n) (read-hex t)
unfolding read-hex
sound-hex t = holds-expect (ch 0x23) t (ch-end 0x23 refl) (λ u i. holds-guard (digit (hd u)) (λ _ e. weaken (first-digit u e) (λ n v d. a-hex i d)))

pub sound-chars : (t : Text) → Holds (λ k u. CharsOf t u k) (read-chars t)
unfolding read-chars
sound-chars t = holds-when (ch 0x23 (hd t)) (λ _ _. holds-map hex (sound-hex t) (λ n u h. c-hex h)) (λ _ _. holds-map string (sound-string t) (λ cs u s. c-string s))

as-character : {t u : Text} (k : Chars) → one-character k ≡ true → CharsOf t u k → Character t u k
unfolding one-character
as-character (string []) e h = absurd (clash refl e)
as-character (string (c ∷ [])) e (c-string s) = one_char s
as-character (string (c ∷ c' ∷ cs)) e h = absurd (clash refl e)
as-character (hex n) e (c-hex h) = one-hex h

pub sound-character : (t : Text) → Holds (λ k u. Character t u k) (read-character t)
unfolding read-character
sound-character t = holds_then (sound-chars t) (λ k u h. holds-guard (one-character k) (λ _ e. some (as-character k e h)))

pub sound-class : (t : Text) → Holds (λ k u. Class t u k) (read-class t)
unfolding read-class
sound-class t = holds-guard (capital (hd t)) (λ _ e. let c = chr-at capital t capital-end e in
    holds-when (letter (hd (tl t))) (λ _ f. some (c-two c (chr-at letter (tl t) letter-end f))) (λ _ _. some (c-one c)))

-- a member and the spacing after it
abbrev Member-s : Text → Member → Text → Type 0
Member-s t m v = (u : Text) × MemberOf t u m × S u v

sound-range : {t u v : Text} {k : Chars} → CharsOf t u k → S u v → Holds (Member-s t) (range-or k v)
unfolding range-or
sound-range {t} {u} {v} {k} h s = holds-when (ch 0x2d (hd v))
    (λ _ e. holds-guard (one-character k) (λ _ f. holds-skip (tl v) (λ _ w s'. holds_then (sound-character w) (λ e' x h'.
    sound-spaced (range k e') x (λ y s''. (x, m-range (as-character k f h) s (is_at (ch 0x2d) v (ch-end 0x2d refl) e) s' h', s''))))))
    (λ _ _. some (u, m-chars h, s))

sound-member : (t : Text) → Holds (Member-s t) (read-member t)
unfolding read-member
sound-member t = holds-when (capital (hd t))
    (λ _ _. holds_then (sound-class t) (λ k u c. sound-spaced (class k) u (λ v s. (u, m-class c, s))))
    (λ _ _. holds_then (sound-chars t) (λ k u h. holds-skip u (λ _ v s. sound-range h s)))

pub sound-separated : {A B : Type 0} {Q : B → Text → Type 0} (P : Text → B → Text → Type 0) (f : ℕ → Bool) (more : A → B → B) (last : A → B)
    (again : Text → Result B) (v : A) (t : Text)
    → f 0x110000 ≡ false → ((w : Text) → Holds (P w) (again w))
    → ((u w : Text) → Is f t u → S u w → (b : B) (x : Text) → P w b x → Q (more v b) x) → Q (last v) t → Holds Q (separated f more last again v t)
unfolding separated
sound-separated P f more last again v t e h k l = holds-when (f (hd t)) (λ _ q. holds-skip (tl t) (λ _ w s. holds-map (more v) (h w) (λ b x p. k (tl t) w (is_at f t e q) s b x p))) (λ _ _. some l)

sound-members : (n : ℕ) (t : Text) → Holds (λ ms u. Members t u ms) (members n t)
unfolding members
sound-members zero t = none
sound-members (suc n) t = holds_then (sound-member t) (λ m u p.
    sound-separated (λ w ms x. Members w x ms) bar ◌∷◌ alone (λ w. members n w) m u bar-end (λ w. sound-members n w) (λ v w i s ms x q. m-next p.1 p.2 i s q) (m-last p.1 p.2))

pub sound-set : (t : Text) → Holds (λ ms u. SetOf t u ms) (read_set t)
unfolding read_set
sound-set t = holds-expect (ch 0x5b) t (ch-end 0x5b refl) (λ u i. holds-skip u (λ _ v s. holds-when (ch 0x5d (hd v))
    (λ _ e. sound-spaced [] (tl v) (λ w s'. set-none i s (is_at (ch 0x5d) v (ch-end 0x5d refl) e) s'))
    (λ _ _. holds_then (sound-members (suc (length v)) v) (λ ms w h. holds-expect (ch 0x5d) w (ch-end 0x5d refl) (λ x j. sound-spaced ms x (λ y s'. set-some i s h j s'))))))

pub sound-mark : (t : Text) → Holds (λ m u. Marked is_mark t u m) (read-mark t)
unfolding read-mark
sound-mark t = holds-when (is_mark (hd t)) (λ _ e. sound-spaced (mark_of (hd t)) (tl t) (λ u s. mark-some (chr-at is_mark t mark-end e) s)) (λ _ _. some mark-none)

-- names
sound-run : (t : Text) → Holds (λ cs u. Followers t u cs) (run t)
unfolding run
sound-run [] = some f-none
sound-run (c ∷ t) = holds-when (namefollower c) (λ _ e. holds-map (◌∷◌ c) (sound-run t) (λ cs u p. f-next (chr e) p)) (λ _ _. some f-none)

-- a run whose last character is a dot, without it
back : {t u cs : Text} → Followers t u cs → last-dot cs ≡ true → Followers t (0x2e ∷ u) (but_last cs)
unfolding last-dot but_last ch
back f-none e = absurd (clash refl e)
back (f-next {c = c} (chr {u = t} p) f-none) e = subst (λ (k : ℕ). Followers (c ∷ t) (k ∷ t) []) (eqb-true c 0x2e e) f-none
back (f-next p (f-next q r)) e = f-next p (back (f-next q r) e)

sound-less-dot : (t : Text) (x : Result Text) → Holds (λ cs u. Followers t u cs) x → Holds (λ cs u. Followers t u cs) (less-dot x)
unfolding less-dot
sound-less-dot t fail h = none
sound-less-dot t (ok cs u) (some p) = holds-when (last-dot cs && ending (skip u)) (λ _ e. some (back p (and_left _ _ e))) (λ _ _. some p)

-- a name start and a run are a name
named : (t : Text) (x : Result Text) → Holds (λ cs u. Followers (tl t) u cs) x → Holds (λ cs u. Name t u cs) (guard (namestart (hd t)) (λ _. map (◌∷◌ (hd t)) x))
named t x h = holds-guard (namestart (hd t)) (λ _ e. holds-map (◌∷◌ (hd t)) h (λ cs u f. a-name (chr-at namestart t namestart-end e) f))

pub sound-name : (t : Text) → Holds (λ cs u. Name t u cs) (read_name t)
unfolding read_name
sound-name t = named t (run (tl t)) (sound-run (tl t))

pub sound-use : (t : Text) → Holds (λ cs u. Name t u cs) (read-use t)
unfolding read-use
sound-use t = named t (less-dot (run (tl t))) (sound-less-dot (tl t) (run (tl t)) (sound-run (tl t)))
