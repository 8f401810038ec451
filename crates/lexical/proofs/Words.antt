-- Strings, hex numbers, names and marks: each answer from the answers of what it calls.
use Rattle.std.specs.Prelude.{Some}
use mathlib.Core.Bool.{true, false}
use mathlib.Core.Path.{◌≡◌, refl, ap, ◌∙◌}
use mathlib.Core.List.{List, [], ◌∷◌, ◌++◌}
use Prim.Native.Nat.{ℕ, ◌+◌, ◌-◌, ◌<◌, ◌≤◌}
use native.Mathlib.Omega.{arith}
use lib.ListN.{length, drop, take, set}
use Rattle.text.specs.Lists.{Text}
use Rattle.text.specs.declared.CharPlace.{CharPlace}
use Rattle.tree.specs.Tree.{string, hex, unmarked}
use Rattle.tree.specs.Tokens.{mark_number}
use Rattle.syntax.specs.Syntax.{ch, quote, digit, is_mark, mark_of, namestart, namefollower}
use Rattle.syntax.specs.Result.{Result, ok, fail, hd, tl, map, when, guard, expect}
use Rattle.syntax.specs.Spacing.{skip, spaced}
use Rattle.syntax.specs.Lexical.{quoted, nonempty, read-string, digits, read-hex, read-chars, run, read_name, read-mark}
use Rattle.syntax.proofs.Classes.{clash, quote-end, mark-end, namestart-end}
use Rattle.lexical.specs.declared.Characters.{Characters}
use Rattle.lexical.specs.declared.Characters.TheVariants.{Quoted, Coded}
use Rattle.spacing.specs.declared.Cell.{Cell}
use Rattle.spacing.specs.Answers.{Skipped, Room, Read, headed}
use Rattle.lexical.specs.Answers.{Space, Copied, Hexed, Coding, After-chars, chars_code, Headable, Tokenable, Chars-token, counted_code, After-chars-token, Mark-read}
use Rattle.spacing.proofs.Places.{tl-at, in-text, tested}
use Rattle.spacing.proofs.Table.{two-numbers, head-before}

-- a hex number
module _ (s : Text) (p : ℕ) (h : ch 0x23 (hd (drop p s)) ≡ true) where
  pub hex-none : digit (hd (drop (p + 1) s)) ≡ false → read-hex (drop p s) ≡ fail
  unfolding read-hex expect guard
  hex-none e = rw (h, tl-at s p, e)

  pub hex-some : (e : digit (hd (drop (p + 1) s)) ≡ true) (q v : ℕ) → Hexed (λ x. digits 0 (drop (p + 1) s) ≡ x) s (p + 1) q v
      → Hexed (λ x. read-hex (drop p s) ≡ x) s (p + 1) q v
  unfolding read-hex expect guard
  hex-some e q v a = record { value = a.value; same = rw (h, tl-at s p, e) a.same; onward = a.onward; held = a.held }

-- a string
pub string-none : (s : Text) (p : ℕ) → quote (hd (drop p s)) ≡ false → read-string (drop p s) ≡ fail
unfolding read-string guard
string-none s p e = rw e

no-chars : (cs u : Text) → length cs ≡ 0 → nonempty (ok cs u) ≡ fail
unfolding nonempty
no-chars [] u e = refl
no-chars (c ∷ cs) u e = absurd (omega arith)

some-chars : (cs u : Text) → (length cs ≡ 0 → ⊥) → nonempty (ok cs u) ≡ ok cs u
unfolding nonempty
some-chars [] u e = absurd (e refl)
some-chars (c ∷ cs) u e = refl

module _ (s : Text) (p q : ℕ) (u : q ≡ hd (drop p s)) (e : quote q ≡ true) where
  pub string-in : p < length s
  string-in = in-text s p quote quote-end (tested u quote e)

  pub string-space : (o : List ℕ) (at : ℕ) → Space s p 1 o at → Space s (p + 1) 0 o at
  string-space o at v = let i = string-in in let c = v.cells i in record { place = omega arith; cells = λ h. omega arith }

  string-of : (x : Result Text) → quoted q (drop (p + 1) s) false ≡ x → read-string (drop p s) ≡ nonempty x
  unfolding read-string guard
  string-of x f = rw (← u, e, tl-at s p, f)

  pub string-bad : quoted q (drop (p + 1) s) false ≡ fail → read-string (drop p s) ≡ fail
  unfolding nonempty
  string-bad f = string-of fail f

  module _ (o : List ℕ) (at : ℕ) (m : List ℕ) (w b : ℕ) (v : Copied (λ x. quoted q (drop (p + 1) s) false ≡ x) s (p + 1) 1 o at m w b) where
    pub string-empty : b ≡ at → read-string (drop p s) ≡ fail
    string-empty z = let c = v.cells in string-of (ok v.chars (drop w s)) v.same ∙ no-chars v.chars (drop w s) (omega arith)

    pub string-read : (b ≡ at → ⊥) → Copied (λ x. read-string (drop p s) ≡ x) s p 2 o at m w b
    string-read z = let c = v.cells in let k = v.onward in let d = v.count in record {
      chars = v.chars;
      same = string-of (ok v.chars (drop w s)) v.same ∙ some-chars v.chars (drop w s) (λ n. z (omega arith));
      onward = record { on = omega arith; within = k.within };
      wrote = v.wrote;
      cells = v.cells;
      count = omega arith;
    }

-- characters
pub chars-hex : (s : Text) (p : ℕ) → ch 0x23 (hd (drop p s)) ≡ true → (x : Result ℕ) → read-hex (drop p s) ≡ x → read-chars (drop p s) ≡ map hex x
unfolding read-chars when
chars-hex s p e x f = rw (e, f)

pub chars-string : (s : Text) (p : ℕ) → ch 0x23 (hd (drop p s)) ≡ false → (x : Result Text) → read-string (drop p s) ≡ x → read-chars (drop p s) ≡ map string x
unfolding read-chars when
chars-string s p e x f = rw (e, f)

pub chars-no-hex : (s : Text) (p : ℕ) → ch 0x23 (hd (drop p s)) ≡ true → read-hex (drop p s) ≡ fail → read-chars (drop p s) ≡ fail
unfolding map
chars-no-hex s p e f = chars-hex s p e fail f

pub chars-no-string : (s : Text) (p : ℕ) → ch 0x23 (hd (drop p s)) ≡ false → read-string (drop p s) ≡ fail → read-chars (drop p s) ≡ fail
unfolding map
chars-no-string s p e f = chars-string s p e fail f

pub coding : (s : Text) (p q v : ℕ) (o : List ℕ) → ch 0x23 (hd (drop p s)) ≡ true → Hexed (λ x. read-hex (drop p s) ≡ x) s (p + 1) q v → Coding s p q v o o
coding s p q v o e h = record { number = record { value = h.value; same = chars-hex s p e (ok h.value (drop q s)) h.same; onward = h.onward; held = h.held }; same = refl }

module _ (s : Text) (p : ℕ) (o : List ℕ) (at : ℕ) (r : Room s p o at) (m : List ℕ) (len : length m ≡ length o) where
  pub headable : (E : Result Text → Type 0) (n q b : ℕ) → Copied E s p n o (at + 2) m q b → p < q → Headable m at b
  headable E n q b v h = let c = v.cells in let k = v.onward in let d = v.count in let i = r.cells in let f = r.few in record { low = omega arith; high = omega arith; few = omega arith }

  -- the token of characters that are written after its head
  pub counted-token : (E : Result Text → Type 0) (n q b k : ℕ) (o' : List ℕ) → Copied E s p n o (at + 2) m q b → p < q
      → o' ≡ headed m at k b → Read E (counted_code k) s p (p + 1) o at o' q b
  counted-token E n q b k o' v h e =
      let c = v.cells in let j = v.onward in let d = v.count in let i = r.cells in
      let z : b - (at + 2) ≡ length v.chars = omega arith in record {
        value = v.chars;
        same = v.same;
        onward = record { on = omega arith; within = j.within };
        wrote = rw e (head-before o m v.chars at b k (omega arith) (omega arith) v.wrote ∙ ap (λ (x : ℕ). take at o ++ k ∷ x ∷ v.chars) z);
        cells = omega arith;
      }

  pub quoted-on : (E : Result Text → Type 0) (q b : ℕ) → Copied E s p 2 o (at + 2) m q b → p < q
  quoted-on E q b v = let c = v.cells in let d = v.count in omega arith

  coded-room : (q v : ℕ) → Coding s p q v o m → at + 2 ≤ length m
  coded-room q v a = let j = a.number.onward in let i = r.cells in omega arith

  pub tokenable : (c : Characters) → After-chars s p o (at + 2) (Some c) m → Tokenable c m at
  tokenable (Quoted q b) a = headable (λ x. read-chars (drop p s) ≡ map string x) 2 q.0 b.0 a (quoted-on (λ x. read-chars (drop p s) ≡ map string x) q.0 b.0 a)
  tokenable (Coded q v) a = coded-room q.0 v a

  quoted-token : (q b k l : ℕ) (o' : List ℕ) → Copied (λ x. read-chars (drop p s) ≡ map string x) s p 2 o (at + 2) m q b → o' ≡ headed m at k b
      → Read (λ x. read-chars (drop p s) ≡ x) (chars_code k l) s p (p + 1) o at o' q b
  unfolding map
  quoted-token q b k l o' a e = let t = counted-token (λ x. read-chars (drop p s) ≡ map string x) 2 q b k o' a (quoted-on (λ x. read-chars (drop p s) ≡ map string x) q b a) e in
      record { value = string t.value; same = t.same; onward = t.onward; wrote = t.wrote; cells = t.cells }

  coded-token : (q v k l : ℕ) (o' : List ℕ) → Coding s p q v o m → o' ≡ set (set m at l) (at + 1) v
      → Read (λ x. read-chars (drop p s) ≡ x) (chars_code k l) s p (p + 1) o at o' q (at + 2)
  unfolding map
  coded-token q v k l o' a e = let j = a.number.onward in let h = coded-room q v a in record {
    value = hex a.number.value;
    same = a.number.same;
    onward = j;
    wrote = rw e (two-numbers m at l v h ∙ rw (a.same, a.number.held));
    cells = omega arith;
  }

  pub chars-tokened : (k l : ℕ) (c : Characters) → After-chars s p o (at + 2) (Some c) m → (t : CharPlace × Cell) (o' : List ℕ)
      → Chars-token c k l m at t o' → After-chars-token k l s p o at (Some t) o'
  chars-tokened k l (Quoted q b) a t o' w = rw (w.place, w.cell) (quoted-token q.0 b.0 k l o' a w.table)
  chars-tokened k l (Coded q v) a t o' w = rw (w.place, w.cell) (coded-token q.0 v k l o' a w.table)

-- a name
pub no_name : (s : Text) (p : ℕ) → namestart (hd (drop p s)) ≡ false → read_name (drop p s) ≡ fail
unfolding read_name guard
no_name s p e = rw e

name-run : (t : Text) → namestart (hd t) ≡ true → read_name t ≡ run t
unfolding read_name run when guard namefollower
name-run [] e = absurd (clash namestart-end e)
name-run (c ∷ t) e = rw e

run-some : (t cs u : Text) → namestart (hd t) ≡ true → run t ≡ ok cs u → 1 ≤ length cs
unfolding read_name guard map
run-some t cs u e f = go (run (tl t)) (rw e at (name-run t e ∙ f))
  where
    go : (x : Result Text) → map (◌∷◌ (hd t)) x ≡ ok cs u → 1 ≤ length cs
    go (ok ds w) f = let z : hd t ∷ ds ≡ cs = cc in let l = ap length z in omega arith
    go fail f = let z : ◌≡◌ {A = ℕ} 0 1 = cc in absurd (omega arith)

module _ (s : Text) (p : ℕ) (e : namestart (hd (drop p s)) ≡ true) where
  pub name_in : p < length s
  name_in = in-text s p namestart namestart-end e

  pub run_on : (o : List ℕ) (at : ℕ) (m : List ℕ) (q b : ℕ) → Copied (λ x. run (drop p s) ≡ x) s p 0 o at m q b → p < q
  run_on o at m q b v = let h = run-some (drop p s) v.chars (drop q s) e v.same in let c = v.cells in let d = v.count in omega arith

  pub name-same : (x : Result Text) → run (drop p s) ≡ x → read_name (drop p s) ≡ x
  name-same x f = name-run (drop p s) e ∙ f

-- a mark
module _ (s : Text) (p c : ℕ) (u : c ≡ hd (drop p s)) where
  pub no-mark : is_mark c ≡ false → p ≤ length s → Mark-read s p p 0
  unfolding read-mark when
  no-mark e h = record { value = unmarked; same = rw (← u, e); onward = record { on = omega arith; within = h }; number = refl }

  module _ (e : is_mark c ≡ true) where
    pub mark-in : p < length s
    mark-in = in-text s p is_mark mark-end (tested u is_mark e)

    pub mark-bad : skip (drop (p + 1) s) ≡ fail → read-mark (drop p s) ≡ fail
    unfolding read-mark when spaced map
    mark-bad f = rw (← u, e, tl-at s p, f)

    pub mark-read : (q m : ℕ) → Skipped s (p + 1) q → m ≡ mark_number (mark_of c) → Mark-read s p q m
    unfolding read-mark when spaced map
    mark-read q m k f = let i = k.onward in record { value = mark_of c; same = rw (← u, e, tl-at s p, k.past); onward = record { on = omega arith; within = i.within }; number = f }
