-- A text has one UTF-8 reading, and decoding finds it.
use mathlib.Core.Path.{◌≡◌, refl, sym, ap, ◌∙◌}
use mathlib.Core.Logic.{⊎_elim}
use mathlib.Core.List.{List, [], ◌∷◌, ◌++◌}
use Prim.Native.Nat.{ℕ, zero, suc, ◌+◌, ◌<◌}
use native.Mathlib.Omega.{arith}
use lib.ListN.{length, length-append}
use Rattle.text.specs.Lists.{Text}
use Rattle.text.specs.Utf8.{Scalar, utf8, utf8s, All, none, more, Utf8}
use Rattle.text.specs.Decode.{Taken, got, cut, bad, second_low, second_high, rest_of, char_of, Decoded, text, not-utf8, push, after, decode_in, decode}
use Rattle.text.proofs.Tests.{split}
use Rattle.text.proofs.Step.{utf8-1, utf8-2, utf8-3, utf8-4, step-complete, step-sound}

pub some_bytes : (c : ℕ) → 0 < length (utf8 c)
some_bytes c =
    ⊎_elim (λ p. rw (utf8-1 c p) (omega arith))
    (λ p. ⊎_elim (λ q. rw (utf8-2 c p q) (omega arith))
    (λ q. ⊎_elim (λ r. rw (utf8-3 c q r) (omega arith))
    (λ r. rw (utf8-4 c r) (omega arith)) (split c 0x10000)) (split c 0x800)) (split c 0x80)

in_some : (f : ℕ) (bs : List ℕ) → 0 < length bs → decode_in (suc f) bs ≡ after (decode_in f) (char_of bs)
unfolding decode_in
in_some f [] p = absurd (omega arith)
in_some f (b ∷ bs) p = refl

complete-in : (f : ℕ) (cs : Text) → All Scalar cs → length (utf8s cs) < f → decode_in f (utf8s cs) ≡ text cs
unfolding decode_in utf8s
complete-in zero cs p l = absurd (omega arith)
complete-in (suc f) [] none l = refl
complete-in (suc f) (c ∷ cs) (more p ps) l =
    let a = length-append (utf8 c) (utf8s cs) in
    let b = some_bytes c in
    in_some f (utf8 c ++ utf8s cs) (omega arith) ∙ rw (step-complete c (utf8s cs) p, complete-in f cs ps (omega arith))

-- every UTF-8 text is decoded
pub decode-complete : (bs : List ℕ) (cs : Text) → Utf8 bs cs → decode bs ≡ text cs
unfolding decode
decode-complete bs cs u = rw u.spelt (complete-in (suc (length (utf8s cs))) cs u.scalars (omega arith))

-- so it has one reading
pub utf8-unique : (bs : List ℕ) (cs ds : Text) → Utf8 bs cs → Utf8 bs ds → cs ≡ ds
utf8-unique bs cs ds u v = let e : text cs ≡ text ds = sym (decode-complete bs cs u) ∙ decode-complete bs ds v in cc

pub nothing-text : (cs : Text) → not-utf8 ≡ text cs → ⊥
nothing-text cs e = let z : ◌≡◌ {A = ℕ} 0 1 = cc in omega arith

push-inv : (c : ℕ) (d : Decoded) (cs : Text) → push c d ≡ text cs → (ds : Text) × (d ≡ text ds) × (cs ≡ c ∷ ds)
push-inv c (text ds) cs e = (ds, refl, cc)
push-inv c not-utf8 cs e = absurd (nothing-text cs e)

after-sound : (f : ℕ) (bs : List ℕ) (cs : Text) → ((t : List ℕ) (ds : Text) → decode_in f t ≡ text ds → Utf8 t ds)
    → (o : Taken) → char_of bs ≡ o → after (decode_in f) o ≡ text cs → Utf8 bs cs
unfolding utf8s
after-sound f bs cs ih (got c n t) o e =
    let s = step-sound bs c n t o in
    let w = push-inv c (decode_in f t) cs e in
    let u = ih t w.0 w.1 in
    rw w.2 (record { scalars = more s.scalar u.scalars; spelt = s.spelt ∙ ap (λ (x : List ℕ). utf8 c ++ x) u.spelt })
after-sound f bs cs ih cut o e = absurd (nothing-text cs e)
after-sound f bs cs ih bad o e = absurd (nothing-text cs e)

nil-sound : (cs : Text) → text [] ≡ text cs → Utf8 [] cs
unfolding utf8s
nil-sound cs e = let q : [] ≡ cs = cc in rw (← q) (record { scalars = none; spelt = refl })

sound-in : (f : ℕ) (bs : List ℕ) (cs : Text) → decode_in f bs ≡ text cs → Utf8 bs cs
unfolding decode_in
sound-in zero bs cs e = absurd (nothing-text cs e)
sound-in (suc f) [] cs e = nil-sound cs e
sound-in (suc f) (b ∷ bs) cs e = after-sound f (b ∷ bs) cs (sound-in f) (char_of (b ∷ bs)) refl e

-- only UTF-8 is decoded
pub decode-sound : (bs : List ℕ) (cs : Text) → decode bs ≡ text cs → Utf8 bs cs
unfolding decode
decode-sound bs cs e = sound-in (suc (length bs)) bs cs e

-- what follows a character is shorter
pub shorter : (bs : List ℕ) (c n : ℕ) (t : List ℕ) → char_of bs ≡ got c n t → length t < length bs
shorter bs c n t e =
    let s = step-sound bs c n t e in
    omega (arith, ap length s.spelt, length-append (utf8 c) t, some_bytes c)

after_same : (f g : ℕ) (bs : List ℕ) → ((t : List ℕ) → length t < length bs → decode_in f t ≡ decode_in g t) → (o : Taken) → char_of bs ≡ o
    → after (decode_in f) o ≡ after (decode_in g) o
after_same f g bs ih (got c n t) e = ap (push c) (ih t (shorter bs c n t e))
after_same f g bs ih cut e = refl
after_same f g bs ih bad e = refl

-- every bound above the count of bytes gives the same
in-enough : (f g : ℕ) (bs : List ℕ) → length bs < f → length bs < g → decode_in f bs ≡ decode_in g bs
unfolding decode_in
in-enough zero g bs p q = absurd (omega arith)
in-enough (suc f) zero bs p q = absurd (omega arith)
in-enough (suc f) (suc g) [] p q = refl
in-enough (suc f) (suc g) (b ∷ bs) p q = after_same f g (b ∷ bs) (λ t l. in-enough f g t (omega arith) (omega arith)) (char_of (b ∷ bs)) refl

after-whole : (bs : List ℕ) (o : Taken) → char_of bs ≡ o → after (decode_in (length bs)) o ≡ after decode o
unfolding decode
after-whole bs (got c n t) e = let l = shorter bs c n t e in ap (push c) (in-enough (length bs) (suc (length t)) t l (omega arith))
after-whole bs cut e = refl
after-whole bs bad e = refl

-- a text is its first character and the rest
pub decode-nil : decode [] ≡ text []
unfolding decode decode_in
decode-nil = refl

pub decode-step : (bs : List ℕ) → 0 < length bs → decode bs ≡ after decode (char_of bs)
unfolding decode
decode-step bs p = in_some (length bs) bs p ∙ after-whole bs (char_of bs) refl

mark-char : (bs : List ℕ) → char_of (0xef ∷ 0xbb ∷ 0xbf ∷ bs) ≡ got 0xfeff 3 bs
unfolding char_of rest_of second_low second_high
mark-char bs = refl

-- a byte order mark is U+FEFF
pub decode-mark : (bs : List ℕ) → decode (0xef ∷ 0xbb ∷ 0xbf ∷ bs) ≡ push 0xfeff (decode bs)
decode-mark bs = decode-step (0xef ∷ 0xbb ∷ 0xbf ∷ bs) (omega arith) ∙ ap (after decode) (mark-char bs)

pub mark-bytes : (bs : List ℕ) (cs : Text) → decode bs ≡ text (0xfeff ∷ cs) → bs ≡ 0xef ∷ 0xbb ∷ 0xbf ∷ utf8s cs
unfolding utf8s utf8
mark-bytes bs cs e = (decode-sound bs (0xfeff ∷ cs) e).spelt
