-- Sets: each answer from the answers of what it calls.
use Rattle.std.specs.Prelude.{Some, None}
use mathlib.Core.Bool.{true, false}
use mathlib.Core.Path.{◌≡◌, refl, sym, ap, ◌∙◌}
use mathlib.Core.List.{List, [], ◌∷◌, ◌++◌}
use Prim.Native.Nat.{ℕ, ◌+◌, ◌<◌, ◌≤◌}
use native.Mathlib.Omega.{arith}
use lib.ListN.{length, get_or, drop, take, set}
use Rattle.text.specs.Lists.{Text}
use Rattle.tree.specs.Tree.{Chars, string, hex, range, class}
use Rattle.tree.specs.Tree as tree
use Rattle.tree.specs.Tokens.{end_numbers, class_numbers}
use Rattle.syntax.specs.Syntax.{ch, capital, letter}
use Rattle.syntax.specs.Result.{Result, ok, fail, hd, map, when, then, guard}
use Rattle.syntax.specs.Spacing.{skip, spaced}
use Rattle.syntax.specs.Lexical.{read-chars, one-character, read-character, read-class, range-or, read-member}
use Rattle.syntax.proofs.Classes.{capital-end, letter-end}
use Rattle.text.specs.declared.CharPlace.{CharPlace}
use Rattle.spacing.specs.declared.Cell.{Cell}
use Rattle.lexical.specs.declared.Characters.{Characters}
use Rattle.lexical.specs.declared.Characters.TheVariants.{Quoted, Coded}
use Rattle.spacing.specs.Answers.{Step, Onward, Skipped, Room, Step-in, Spaced, Read, After, three}
use Rattle.lexical.specs.Answers.{Space, Copied, Coding, After-chars, chars_code, Chars-token}
use Rattle.sets.specs.Answers.{Chars-in, Past-chars, Range-end, range-to, After-rest, After-class, member_code, After-member}
use Rattle.spacing.proofs.Places.{hd-char, tl-at, in-text, in-char, tested}
use Rattle.spacing.proofs.Table.{two-numbers, three-numbers, put-before, two-before}
use Rattle.lexical.proofs.Words.{chars-tokened}
use Rattle.spacing.proofs.Parts.{tail, as-part, spaced-after, step_in}

-- a character that is seen is in the text
pub seen-in : (s : Text) (p c k : ℕ) → c ≡ hd (drop p s) → c ≡ k → k < 0x110000 → p < length s
seen-in s p c k u e h = in-char s p c u (omega arith)

-- a class
module _ (s : Text) (p : ℕ) (o : List ℕ) (at : ℕ) (r : Room s p o at) (h : capital (hd (drop p s)) ≡ true) where
  pub class-in : p < length s
  class-in = in-text s p capital capital-end h

  pub class-room : at + 3 ≤ length o
  class-room = let i = class-in in let c = r.cells in omega arith

  module _ (c : ℕ) (u : c ≡ hd (drop (p + 1) s)) (o' : List ℕ) where
    pub class-two : letter c ≡ true → o' ≡ three o at 27 (get_or s p 0) c → Read (λ x. read-class (drop p s) ≡ x) (λ k. 27 ∷ class_numbers k) s p (p + 1) o at o' (p + 2) (at + 3)
    unfolding read-class guard when
    class-two e f =
        let i = class-in in let j = in-text s (p + 1) letter letter-end (tested u letter e) in
        let k : p + 1 + 1 ≡ p + 2 = omega arith in record {
          value = get_or s p 0 ∷ c ∷ [];
          same = rw (h, tl-at s p, ← u, e, tl-at s (p + 1), hd-char s p i, k);
          onward = record { on = omega arith; within = omega arith };
          wrote = rw f (three-numbers o at 27 (get_or s p 0) c class-room);
          cells = omega arith;
        }

    pub class-one : letter c ≡ false → o' ≡ three o at 27 (get_or s p 0) 0 → Read (λ x. read-class (drop p s) ≡ x) (λ k. 27 ∷ class_numbers k) s p (p + 1) o at o' (p + 1) (at + 3)
    unfolding read-class guard when
    class-one e f = let i = class-in in record {
      value = get_or s p 0 ∷ [];
      same = rw (h, tl-at s p, ← u, e, hd-char s p i);
      onward = record { on = omega arith; within = omega arith };
      wrote = rw f (three-numbers o at 27 (get_or s p 0) 0 class-room);
      cells = omega arith;
    }

-- a value that is made from what is read, with spacing after
pub map-spaced : {A B : Type 0} (g : A → B) (v : A) (t : Text) → spaced (g v) t ≡ map g (spaced v t)
unfolding spaced map
map-spaced g v t = go (skip t)
  where
    go : (x : Result (Unit {0})) → map (λ _. g v) x ≡ map g (map (λ _. v) x)
    go (ok y u) = refl
    go fail = refl

pub then-spaced : {A B : Type 0} (g : A → B) (x : Result A) → then x (λ v u. spaced (g v) u) ≡ map g (then x (λ v u. spaced v u))
unfolding then map
then-spaced g (ok v u) = map-spaced g v u
then-spaced g fail = refl

-- an end of a range
one-yes : (cs : Text) → length cs ≡ 1 → one-character (string cs) ≡ true
unfolding one-character
one-yes [] e = absurd (omega arith)
one-yes (c ∷ []) e = refl
one-yes (c ∷ d ∷ cs) e = absurd (omega arith)

one-not : (cs : Text) → (length cs ≡ 1 → ⊥) → one-character (string cs) ≡ false
unfolding one-character
one-not [] e = refl
one-not (c ∷ []) e = absurd (e refl)
one-not (c ∷ d ∷ cs) e = refl

module _ (s : Text) (u : ℕ) where
  character-of : (k : Chars) (w : Text) → read-chars (drop u s) ≡ ok k w → one-character k ≡ true → read-character (drop u s) ≡ ok k w
  unfolding read-character then guard
  character-of k w e f = rw (e, f)

  no-character : (k : Chars) (w : Text) → read-chars (drop u s) ≡ ok k w → one-character k ≡ false → read-character (drop u s) ≡ fail
  unfolding read-character then guard
  no-character k w e f = rw (e, f)

  none-there : read-chars (drop u s) ≡ fail → read-character (drop u s) ≡ fail
  unfolding read-character then
  none-there e = rw e

module _ (s : Text) (p u : ℕ) (h : p < u) (o : List ℕ) (at : ℕ) (l : at + 2 ≤ length o) (m : List ℕ) (len : length m ≡ length o) where
  quoted-end : (q e : ℕ) (o' : List ℕ) → Copied (λ x. read-chars (drop u s) ≡ map string x) s u 2 o (at + 1) m q e → o' ≡ set m at 0 → e ≡ at + 2
      → Read (λ x. read-character (drop u s) ≡ x) end_numbers s p (p + 1) o at o' q e
  unfolding map
  quoted-end q e o' a f i = let c = a.cells in let d = a.count in let j = a.onward in record {
    value = string a.chars;
    same = character-of s u (string a.chars) (drop q s) a.same (one-yes a.chars (omega arith));
    onward = record { on = omega arith; within = j.within };
    wrote = rw f (put-before o m a.chars at e 0 (omega arith) (omega arith) a.wrote);
    cells = omega arith;
  }

  coded-end : (q v : ℕ) (o' : List ℕ) → Coding s u q v o m → o' ≡ set (set m at 1) (at + 1) v → Read (λ x. read-character (drop u s) ≡ x) end_numbers s p (p + 1) o at o' q (at + 2)
  unfolding map one-character
  coded-end q v o' a f = let j = a.number.onward in record {
    value = hex a.number.value;
    same = character-of s u (hex a.number.value) (drop q s) a.number.same refl;
    onward = record { on = omega arith; within = j.within };
    wrote = rw f (two-numbers m at 1 v (omega arith) ∙ rw (a.same, a.number.held));
    cells = omega arith;
  }

  pub end_read : (c : Characters) → After-chars s u o (at + 1) (Some c) m → (t : Step) (o' : List ℕ) → Range-end c m at t o'
      → After (λ x. read-character (drop u s) ≡ x) end_numbers s p (p + 1) o at t o'
  unfolding map
  end_read (Quoted q e) a (Some (x, y)) o' w = rw (w.0.place, w.0.cell) (quoted-end q.0 e.0 o' a w.0.table w.1)
  end_read (Quoted q e) a None o' w = let c = a.cells in no-character s u (string a.chars) (drop q.0 s) a.same (one-not a.chars (λ z. w (omega arith)))
  end_read (Coded q v) a (Some (x, y)) o' w = rw (w.place, w.cell) (coded-end q.0 v o' a w.table)
  end_read (Coded q v) a None o' w = absurd w

-- the rest of a range
module _ (s : Text) (p : ℕ) where
  pub rest-bad : skip (drop (p + 1) s) ≡ fail → range-to (drop (p + 1) s) ≡ fail
  unfolding range-to then
  rest-bad f = rw f

  module _ (o : List ℕ) (at : ℕ) (r : Room s p o at) (h : p < length s) (u : ℕ) (k : Skipped s (p + 1) u) where
    pub rest-space : Space s u 1 o (at + 1)
    rest-space = let c = r.cells in let n = k.onward in record { place = n.within; cells = λ i. omega arith }

    rest-on : p < u
    rest-on = let n = k.onward in omega arith

    rest-cells : at + 2 ≤ length o
    rest-cells = let c = r.cells in omega arith

    rest_of : (x : Result Chars) → read-character (drop u s) ≡ x → range-to (drop (p + 1) s) ≡ then x (λ v w. spaced v w)
    unfolding range-to then
    rest_of x e = rw (k.past, e)

    pub rest_none : read-chars (drop u s) ≡ fail → range-to (drop (p + 1) s) ≡ fail
    unfolding then
    rest_none e = rest_of fail (none-there s u e)

    module _ (m : List ℕ) (len : length m ≡ length o) (c : Characters) (a : After-chars s u o (at + 1) (Some c) m) (t : Step) (o' : List ℕ) (w : Range-end c m at t o') where
      pub rest_in : Step-in s t
      rest_in = step_in (λ x. read-character (drop u s) ≡ x) end_numbers s p (p + 1) o at t o' (end_read s p u rest-on o at rest-cells m len c a t o' w)

      pub rest_read : (t' : Step) → Spaced s t t' → After-rest s p o at t' o'
      rest_read t' z =
          spaced-after (λ x. read-character (drop u s) ≡ x) (λ x. range-to (drop (p + 1) s) ≡ x) end_numbers s p (p + 1) o at rest_of t o' t'
          (end_read s p u rest-on o at rest-cells m len c a t o' w) z

range-tail : (k : Chars) (t : Text) → then (skip t) (λ _ u. then (read-character u) (λ e w. spaced (range k e) w)) ≡ map (range k) (range-to t)
unfolding range-to then map
range-tail k t = go (skip t)
  where
    go : (x : Result (Unit {0})) → then x (λ _ u. then (read-character u) (λ e w. spaced (range k e) w)) ≡ map (range k) (then x (λ _ u. then (read-character u) (λ e w. spaced e w)))
    go (ok y u) = then-spaced (range k) (read-character u)
    go fail = refl

-- the first end of a range, written after the range's number
pub record Begun (s : Text) (p : ℕ) (o : List ℕ) (at : ℕ) (o' : List ℕ) (q e : ℕ) : Type 0 where
  pub chars : Chars
  pub same : read-chars (drop p s) ≡ ok chars (drop q s)
  pub one : one-character chars ≡ true
  pub wrote : take e o' ≡ take at o ++ 26 ∷ end_numbers chars
  pub cells : e ≡ at + 3

chars-code : (k : Chars) → member_code (tree.chars k) ≡ chars_code 24 25 k
chars-code (string cs) = refl
chars-code (hex n) = refl

-- a member that begins with characters
module _ (s : Text) (p : ℕ) (o : List ℕ) (at : ℕ) (r : Room s p o at) (f : capital (hd (drop p s)) ≡ false) where
  by-chars : (k : Chars) (u : Text) → read-chars (drop p s) ≡ ok k u → read-member (drop p s) ≡ then (skip u) (λ _ v. range-or k v)
  unfolding read-member when then
  by-chars k u e = rw (f, e)

  pub member_none : read-chars (drop p s) ≡ fail → read-member (drop p s) ≡ fail
  unfolding read-member when then
  member_none e = rw (f, e)

  bad-space : (k : Chars) (q : ℕ) → read-chars (drop p s) ≡ ok k (drop q s) → skip (drop q s) ≡ fail → read-member (drop p s) ≡ fail
  unfolding then
  bad-space k q e z = by-chars k (drop q s) e ∙ rw z

  module _ (k : Chars) (q w : ℕ) (e : read-chars (drop p s) ≡ ok k (drop q s)) (y : skip (drop q s) ≡ ok tt (drop w s)) where
    as-chars : ch 0x2d (hd (drop w s)) ≡ false → read-member (drop p s) ≡ ok (tree.chars k) (drop w s)
    unfolding then range-or when
    as-chars h = by-chars k (drop q s) e ∙ rw (y, h)

    as-range : ch 0x2d (hd (drop w s)) ≡ true → one-character k ≡ true → read-member (drop p s) ≡ map (range k) (range-to (drop (w + 1) s))
    unfolding then range-or when guard
    as-range h n = by-chars k (drop q s) e ∙ rw (y, h, n, tl-at s w) (range-tail k (drop (w + 1) s))

    not-range : ch 0x2d (hd (drop w s)) ≡ true → one-character k ≡ false → read-member (drop p s) ≡ fail
    unfolding then range-or when guard
    not-range h n = by-chars k (drop q s) e ∙ rw (y, h, n)

  module _ (m : List ℕ) (len : length m ≡ length o) where
    pub chars-in : (c : Characters) → After-chars s p o (at + 2) (Some c) m → Chars-in s c
    chars-in (Quoted q b) a = a.onward.within
    chars-in (Coded q v) a = a.number.onward.within

    pub member-unspaced : (c : Characters) → After-chars s p o (at + 2) (Some c) m → Past-chars s c None → read-member (drop p s) ≡ fail
    unfolding map
    member-unspaced (Quoted q b) a z = bad-space (string a.chars) q.0 a.same z
    member-unspaced (Coded q v) a z = bad-space (hex a.number.value) q.0 a.number.same z

    quoted-begun : (q e : ℕ) (o' : List ℕ) → at + 3 ≤ length m → Copied (λ x. read-chars (drop p s) ≡ map string x) s p 2 o (at + 2) m q e
        → o' ≡ set (set m at 26) (at + 1) 0 → e ≡ at + 1 + 2 → Begun s p o at o' q e
    unfolding map
    quoted-begun q e o' h a z i = let c = a.cells in record {
      chars = string a.chars;
      same = a.same;
      one = one-yes a.chars (omega arith);
      wrote = rw z (two-before o m a.chars at e 26 0 (omega arith) (omega arith) a.wrote);
      cells = omega arith;
    }

    coded-begun : (q v : ℕ) (o' : List ℕ) → at + 3 ≤ length m → Coding s p q v o m → o' ≡ set (set (set m at 26) (at + 1) 1) (at + 1 + 1) v → Begun s p o at o' q (at + 1 + 2)
    unfolding map one-character
    coded-begun q v o' h a z = let k : at + 1 + 1 ≡ at + 2 = omega arith in let l : at + 1 + 2 ≡ at + 3 = omega arith in record {
      chars = hex a.number.value;
      same = a.number.same;
      one = refl;
      wrote = rw (z, k, l) (three-numbers m at 26 1 v h ∙ rw (a.same, a.number.held));
      cells = l;
    }

    module _ (c : Characters) (w : CharPlace) where
      pub past-on : After-chars s p o (at + 2) (Some c) m → Past-chars s c (Some w) → Onward s (p + 1) w.0
      past-on a z = go c a z
        where
          go : (c : Characters) → After-chars s p o (at + 2) (Some c) m → Past-chars s c (Some w) → Onward s (p + 1) w.0
          go (Quoted q b) a z = let i = a.onward in let c = a.cells in let d = a.count in let n = z.onward in record { on = omega arith; within = n.within }
          go (Coded q v) a z = let i = a.number.onward in let n = z.onward in record { on = omega arith; within = n.within }

      pub head-room : After-chars s p o (at + 2) (Some c) m → Past-chars s c (Some w) → w.0 < length s → at + 3 ≤ length m
      head-room a z h = let n = past-on a z in let k = r.cells in omega arith

    pub no-range : (c : Characters) (w : CharPlace) (o' : List ℕ) → After-chars s p o (at + 2) (Some c) m → Range-end c (set m at 26) (at + 1) None o'
        → Past-chars s c (Some w) → ch 0x2d (hd (drop w.0 s)) ≡ true → read-member (drop p s) ≡ fail
    unfolding map
    no-range (Quoted q e) w o' a z k h = let c = a.cells in not-range (string a.chars) q.0 w.0 a.same k.past h (one-not a.chars (λ n. z (omega arith)))
    no-range (Coded q v) w o' a z k h = absurd z

    begun : (c : Characters) (x : CharPlace) (y : Cell) (o' : List ℕ) → at + 3 ≤ length m → After-chars s p o (at + 2) (Some c) m
        → Range-end c (set m at 26) (at + 1) (Some (x, y)) o' → Begun s p o at o' x.0 y.0
    begun (Quoted q e) x y o' h a z = rw (z.0.place, z.0.cell) (quoted-begun q.0 e.0 o' h a z.0.table z.1)
    begun (Coded q v) x y o' h a z = rw (z.place, z.cell) (coded-begun q.0 v o' h a z.table)

    begun-skipped : (c : Characters) (w x : CharPlace) (y : Cell) (o' : List ℕ) → Range-end c (set m at 26) (at + 1) (Some (x, y)) o' → Past-chars s c (Some w) → Skipped s x.0 w.0
    begun-skipped (Quoted q e) w x y o' z k = rw z.0.place k
    begun-skipped (Coded q v) w x y o' z k = rw z.place k

    module _ (c : Characters) (a : After-chars s p o (at + 2) (Some c) m) (w : CharPlace) (y : Past-chars s c (Some w)) where
      module _ (h : ch 0x2d (hd (drop w.0 s)) ≡ true) (i : w.0 < length s) (x : CharPlace) (e : Cell) (o' : List ℕ) (z : Range-end c (set m at 26) (at + 1) (Some (x, e)) o') where
        started : Begun s p o at o' x.0 e.0
        started = begun c x e o' (head-room c w a y i) a z

        pub rest-room : length o' ≡ length m → Room s w.0 o' e.0
        rest-room l = let n = past-on c w a y in let b = started.cells in let k = r.cells in let j = r.few in record { place = n.within; cells = omega arith; few = omega arith }

        pub range-member : (t : Step) (o'' : List ℕ) → After-rest s w.0 o' e.0 t o'' → After-member s p o at t o''
        range-member = let b = started in let d = b.cells in let n = past-on c w a y in
            tail (λ x. range-to (drop (w.0 + 1) s) ≡ x) (λ x. read-member (drop p s) ≡ x) end_numbers member_code (range started.chars)
            (26 ∷ end_numbers started.chars) s p (p + 1) w.0 (w.0 + 1) o at o' e.0
            started.wrote (omega arith) (omega arith) (λ v. refl)
            (λ v g. as-range started.chars x.0 w.0 started.same (begun-skipped c w x e o' z y).past h started.one ∙ ap (map (range started.chars)) g)

    token-skipped : (c : Characters) (w : CharPlace) (t : CharPlace × Cell) (o' : List ℕ) → Chars-token c 24 25 m at t o' → Past-chars s c (Some w) → Skipped s t.0.0 w.0
    token-skipped (Quoted q e) w t o' z k = rw z.place k
    token-skipped (Coded q v) w t o' z k = rw z.place k

    chars-alone : (w q b : ℕ) (o' : List ℕ) → Read (λ x. read-chars (drop p s) ≡ x) (chars_code 24 25) s p (p + 1) o at o' q b → Skipped s q w
        → ch 0x2d (hd (drop w s)) ≡ false → Read (λ x. read-member (drop p s) ≡ x) member_code s p (p + 1) o at o' w b
    chars-alone w q b o' a y h = let i = a.onward in let n = y.onward in let c = a.cells in record {
      value = tree.chars a.value;
      same = as-chars a.value q w a.same y.past h;
      onward = record { on = omega arith; within = n.within };
      wrote = a.wrote ∙ ap (λ (l : List ℕ). take at o ++ l) (sym (chars-code a.value));
      cells = omega arith;
    }

    pub chars-member : (c : Characters) → After-chars s p o (at + 2) (Some c) m → (w : CharPlace) → Past-chars s c (Some w)
        → ch 0x2d (hd (drop w.0 s)) ≡ false → (t : CharPlace × Cell) (o' : List ℕ) → Chars-token c 24 25 m at t o'
        → Read (λ x. read-member (drop p s) ≡ x) member_code s p (p + 1) o at o' w.0 t.1.0
    chars-member c a w y h t o' z = chars-alone w.0 t.0.0 t.1.0 o' (chars-tokened s p o at r m len 24 25 c a t o' z) (token-skipped c w t o' z y) h

-- a member that is a class
by-class : (s : Text) (p : ℕ) → capital (hd (drop p s)) ≡ true → (x : Result Text) → then (read-class (drop p s)) (λ v u. spaced v u) ≡ x → read-member (drop p s) ≡ map class x
unfolding read-member when
by-class s p h x e = rw h (then-spaced class (read-class (drop p s)) ∙ ap (map class) e)

pub class-step : (s : Text) (p : ℕ) (o : List ℕ) (at : ℕ) (t : Step) (o' : List ℕ) → After-class s p o at t o' → Step-in s t
class-step s p o at = step_in (λ x. read-class (drop p s) ≡ x) (λ k. 27 ∷ class_numbers k) s p (p + 1) o at

pub class-member : (s : Text) (p : ℕ) (o : List ℕ) (at : ℕ) → capital (hd (drop p s)) ≡ true → (t : Step) (o' : List ℕ) (t' : Step)
    → After-class s p o at t o' → Spaced s t t' → After-member s p o at t' o'
class-member s p o at h t o' t' a z =
    as-part (λ x. then (read-class (drop p s)) (λ v u. spaced v u) ≡ x) (λ x. read-member (drop p s) ≡ x) (λ k. 27 ∷ class_numbers k) member_code
    class s p (p + 1) p (p + 1) o at (omega arith) (omega arith) (λ v. refl) (by-class s p h) t' o'
    (spaced-after (λ x. read-class (drop p s) ≡ x) (λ x. then (read-class (drop p s)) (λ v u. spaced v u) ≡ x) (λ k. 27 ∷ class_numbers k) s p
    (p + 1) o at (λ x e. ap (λ (y : Result Text). then y (λ v u. spaced v u)) e) t o' t' a z)
