-- The reader's tokens: words, names, strings, hex numbers, classes, sets and marks.
use Rattle.std.specs.Prelude.{Bool, true, false, ◌&&◌, ◌||◌, List, [], ◌∷◌, ℕ, zero, suc, ◌+◌, ◌*◌, length}
use Rattle.text.specs.Lists.{Text}
use Rattle.tree.specs.Tree.{Mark, unmarked, Chars, string, hex, Member, range, class}
use Rattle.tree.specs.Tree as tree
use Rattle.syntax.specs.Syntax.{ch, plain, quote, digit, digit_value, capital, letter, bar, is_mark, mark_of, namestart, namefollower}
use Rattle.syntax.specs.Result.{Result, ok, fail, hd, tl, when, then, map, guard, expect}
use Rattle.syntax.specs.Spacing.{skip, spaced}

-- the word w
unfoldable pub read_word : Text → Text → Result (Unit {0})
read_word [] t = ok tt t
read_word (k ∷ w) t = expect (ch k) t (λ u. read_word w u)

-- the characters of a string after its first quote q; true: after a quote that may be doubled
unfoldable pub quoted : ℕ → Text → Bool → Result Text
quoted q [] false = fail
quoted q [] true = ok [] []
quoted q (c ∷ t) false = when (ch q c) (λ _. quoted q t true) (λ _. guard (plain q c) (λ _. map (◌∷◌ c) (quoted q t false)))
quoted q (c ∷ t) true = when (ch q c) (λ _. map (◌∷◌ q) (quoted q t false)) (λ _. ok [] (c ∷ t))

-- "Strings have at least one character"
unfoldable pub nonempty : Result Text → Result Text
nonempty (ok [] u) = fail
nonempty (ok (c ∷ cs) u) = ok (c ∷ cs) u
nonempty fail = fail

unfoldable pub read-string : Text → Result Text
read-string t = guard (quote (hd t)) (λ _. nonempty (quoted (hd t) (tl t) false))

-- the digits at the head of the text, after digits of the value n
unfoldable pub digits : ℕ → Text → Result ℕ
digits n [] = ok n []
digits n (c ∷ t) = when (digit c) (λ _. digits (16 * n + digit_value c) t) (λ _. ok n (c ∷ t))

unfoldable pub read-hex : Text → Result ℕ
read-hex t = expect (ch 0x23) t (λ u. guard (digit (hd u)) (λ _. digits 0 u))

unfoldable pub read-chars : Text → Result Chars
read-chars t = when (ch 0x23 (hd t)) (λ _. map hex (read-hex t)) (λ _. map string (read-string t))

-- an end of a range: one character, or a hex number
unfoldable pub one-character : Chars → Bool
one-character (string []) = false
one-character (string (c ∷ [])) = true
one-character (string (c ∷ e ∷ cs)) = false
one-character (hex n) = true

unfoldable pub read-character : Text → Result Chars
read-character t = then (read-chars t) (λ k u. guard (one-character k) (λ _. ok k u))

unfoldable pub read-class : Text → Result Text
read-class t = guard (capital (hd t)) (λ _. when (letter (hd (tl t))) (λ _. ok (hd t ∷ hd (tl t) ∷ []) (tl (tl t))) (λ _. ok (hd t ∷ []) (tl t)))

-- a member that begins with the characters k, from after the spacing that follows them
unfoldable pub range-or : Chars → Text → Result Member
range-or k t =
    when (ch 0x2d (hd t))
    (λ _. guard (one-character k) (λ _. then (skip (tl t)) (λ _ u. then (read-character u) (λ e w. spaced (range k e) w))))
    (λ _. ok (tree.chars k) t)

-- member, s
unfoldable pub read-member : Text → Result Member
read-member t =
    when (capital (hd t))
    (λ _. then (read-class t) (λ k u. spaced (class k) u))
    (λ _. then (read-chars t) (λ k u. then (skip u) (λ _ v. range-or k v)))

-- what follows the first of a list whose separator passes the test f: another, with the rest of the list; or nothing
unfoldable pub separated : {A B : Type 0} → (ℕ → Bool) → (A → B → B) → (A → B) → (Text → Result B) → A → Text → Result B
separated f more last again v t = when (f (hd t)) (λ _. then (skip (tl t)) (λ _ u. map (more v) (again u))) (λ _. ok (last v) t)

abbrev pub alone : {A : Type 0} → A → List A
alone v = v ∷ []

-- (member, s)++(-[";|"], s)   the first argument bounds the count of members: the characters left are enough
unfoldable pub members : ℕ → Text → Result (List Member)
members zero t = fail
members (suc n) t = then (read-member t) (λ m u. separated bar ◌∷◌ alone (λ w. members n w) m u)

unfoldable pub read_set : Text → Result (List Member)
read_set t =
    expect (ch 0x5b) t (λ u. then (skip u) (λ _ v.
    when (ch 0x5d (hd v)) (λ _. spaced [] (tl v)) (λ _. then (members (suc (length v)) v) (λ ms w. expect (ch 0x5d) w (λ x. spaced ms x)))))

-- (mark, s)?
unfoldable pub read-mark : Text → Result Mark
read-mark t = when (is_mark (hd t)) (λ _. spaced (mark_of (hd t)) (tl t)) (λ _. ok unmarked t)

-- the longest run of name characters
unfoldable pub run : Text → Result Text
run [] = ok [] []
run (c ∷ t) = when (namefollower c) (λ _. map (◌∷◌ c) (run t)) (λ _. ok [] (c ∷ t))

-- a name at the head of a rule
unfoldable pub read_name : Text → Result Text
read_name t = guard (namestart (hd t)) (λ _. map (◌∷◌ (hd t)) (run (tl t)))

-- "the end or a new rule"
unfoldable pub ended : Text → Bool
ended [] = true
ended (c ∷ t) = is_mark c || namestart c

unfoldable pub ending : Result (Unit {0}) → Bool
ending (ok _ u) = ended u
ending fail = false

unfoldable pub last-dot : Text → Bool
last-dot [] = false
last-dot (c ∷ []) = ch 0x2e c
last-dot (c ∷ e ∷ cs) = last-dot (e ∷ cs)

unfoldable pub but_last : Text → Text
but_last [] = []
but_last (c ∷ []) = []
but_last (c ∷ e ∷ cs) = c ∷ but_last (e ∷ cs)

-- a run in a rule's body: "a name and a full stop when the next thing after spacing and comments is the end or a new rule"
unfoldable pub less-dot : Result Text → Result Text
less-dot (ok cs u) = when (last-dot cs && ending (skip u)) (λ _. ok (but_last cs) (0x2e ∷ u)) (λ _. ok cs u)
less-dot fail = fail

-- a name in a rule's body
unfoldable pub read-use : Text → Result Text
read-use t = guard (namestart (hd t)) (λ _. map (◌∷◌ (hd t)) (less-dot (run (tl t))))
