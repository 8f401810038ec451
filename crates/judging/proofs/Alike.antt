-- Lines that say the same of two calls; XML without a word is no longer than with it.
use mathlib.Core.Bool.{Bool, true, false}
use mathlib.Core.Path.{◌≡◌, refl, ap, ◌∙◌}
use mathlib.Core.Logic.{◌⊎◌, inl, inr, ◌↔◌}
use mathlib.Core.List.{List, [], ◌∷◌, ◌++◌}
use Prim.Native.Nat.{ℕ, ◌+◌, ◌≤◌}
use native.Mathlib.Omega.{arith}
use lib.ListN.{length, length-append}
use Rattle.text.specs.Lists.{Text, chars}
use Rattle.text.specs.Utf8.{utf8, utf8s}
use Rattle.audit.proofs.Tags.{utf8s-append}
use Rattle.xml.specs.Document.{Xml, none, char, attr, elem}
use Rattle.xml.specs.Bytes.{state, attributes, closed, content, bytes}
use Rattle.answer.specs.Answer.{Line, Topmost}
use Rattle.answer.specs.Demands.{None}

abbrev pub Alike : List Line → List Line → Type 0
Alike [] [] = Unit {0}
Alike [] (m ∷ ms) = ⊥
Alike (l ∷ ls) [] = ⊥
Alike (l ∷ ls) (m ∷ ms) = (l.number ≡ m.number) × (l.Applies ↔ m.Applies) × Alike ls ms

pub top-alike : (ls ms : List Line) (n : ℕ) → Alike ls ms → Topmost ls n → Topmost ms n
top-alike [] [] n a t = t
top-alike [] (m ∷ ms) n a t = absurd a
top-alike (l ∷ ls) [] n a t = absurd a
top-alike (l ∷ ls) (m ∷ ms) n a (inl x) = inl (a.1.0 x.0, x.1 ∙ a.0)
top-alike (l ∷ ls) (m ∷ ms) n a (inr x) = inr (λ y. x.0 (a.1.1 y), top-alike ls ms n a.2 x.1)

pub none_alike : (ls ms : List Line) → Alike ls ms → None ls → None ms
none_alike [] [] a u = tt
none_alike [] (m ∷ ms) a u = absurd a
none_alike (l ∷ ls) [] a u = absurd a
none_alike (l ∷ ls) (m ∷ ms) a u = (λ y. u.0 (a.1.1 y), none_alike ls ms a.2 u.1)

-- a number comes from the first lines, or none of those applies
pub first-or : (ls ms : List Line) (n : ℕ) → Topmost (ls ++ ms) n → Topmost ls n ⊎ (None ls × Topmost ms n)
first-or [] ms n t = inr (tt, t)
first-or (l ∷ ls) ms n (inl x) = inl (inl x)
first-or (l ∷ ls) ms n (inr x) = go (first-or ls ms n x.1)
  where
    go : Topmost ls n ⊎ (None ls × Topmost ms n) → Topmost (l ∷ ls) n ⊎ (None (l ∷ ls) × Topmost ms n)
    go (inl y) = inl (inr (x.0, y))
    go (inr y) = inr ((x.0, y.0), y.1)

-- the state's words
state-shorter : (a v : Bool) → length (utf8s (state false v)) ≤ length (utf8s (state a v))
unfolding utf8s utf8
state-shorter false v = omega arith
state-shorter true false = let e : length (utf8s (state false false)) ≡ 0 = refl in omega arith
state-shorter true true =
    let e : length (utf8s (state false true)) ≡ 70 = refl in
    let f : length (utf8s (state true true)) ≡ 80 = refl in
    omega arith

-- text after a shorter one is shorter
longer-on : (x y s : Text) → length (utf8s x) ≤ length (utf8s y) → length (utf8s (x ++ s)) ≤ length (utf8s (y ++ s))
longer-on x y s l =
    let e = ap length (utf8s-append x s) ∙ length-append (utf8s x) (utf8s s) in
    let f = ap length (utf8s-append y s) ∙ length-append (utf8s y) (utf8s s) in
    omega arith

longer-after : (x y s : Text) → length (utf8s x) ≤ length (utf8s y) → length (utf8s (s ++ x)) ≤ length (utf8s (s ++ y))
longer-after x y s l =
    let e = ap length (utf8s-append s x) ∙ length-append (utf8s s) (utf8s x) in
    let f = ap length (utf8s-append s y) ∙ length-append (utf8s s) (utf8s y) in
    omega arith

pub shorter : (a v : Bool) (x : Xml) → length (bytes false v x) ≤ length (bytes a v x)
unfolding bytes
shorter a v none = omega arith
shorter a v (char c x) = omega arith
shorter a v (attr n w x) = omega arith
shorter a v (elem n i x) =
    let l = longer-after (state false v) (state a v) (chars "<" ++ n) (state-shorter a v) in
    let m = longer-on ((chars "<" ++ n) ++ state false v) ((chars "<" ++ n) ++ state a v) (attributes i) l in
    longer-on (((chars "<" ++ n) ++ state false v) ++ attributes i) (((chars "<" ++ n) ++ state a v) ++ attributes i) (closed n (content i)) m
