-- Factors that are no brackets: each answer from the answers of what it calls.
use Rattle.std.specs.Prelude.{Some, None}
use mathlib.Core.Bool.{true, false}
use mathlib.Core.Path.{◌≡◌, refl, sym, ap, ◌∙◌}
use mathlib.Core.List.{List, ◌∷◌, ◌++◌, append-nil}
use Prim.Native.Nat.{ℕ, ◌+◌, ◌<◌, ◌≤◌}
use native.Mathlib.Omega.{arith}
use lib.ListN.{length, drop, take}
use Rattle.text.specs.Lists.{Text}
use Rattle.tree.specs.Tree.{Mark, unmarked, included, attribute, deleted, Terminal, Chars, string, hex, Member, literal, inclusion, exclusion, insertion, terminal, nonterminal}
use Rattle.tree.specs.Tokens.{mark_number, member_tokens, encode}
use Rattle.syntax.specs.Syntax.{ch, namestart}
use Rattle.syntax.specs.Result.{Result, ok, fail, hd, map, when, then, guard, expect}
use Rattle.syntax.specs.Spacing.{skip, spaced}
use Rattle.syntax.specs.Lexical.{read-chars, read_set, read-mark, read-use}
use Rattle.syntax.specs.Parser.{read-terminal, read-insertion, read-nonterminal, tmark, marked, read_plain}
use Rattle.syntax.proofs.Classes.{ch-end}
use Rattle.spacing.specs.Answers.{Step, Skipped, Room, Step-in, Spaced, After}
use Rattle.lexical.specs.Answers.{chars_code, counted_code, After-chars-token, After-name, Mark-read}
use Rattle.sets.specs.Answers.{After-set}
use Rattle.spacing.proofs.Places.{tl-at, in-text}
use Rattle.spacing.proofs.Parts.{as-part, step_in}
use Rattle.reader.specs.Answers.{terminal_code, symbol_code, After-terminal, After-insertion, After-plain}

-- a value made from what is read, with spacing after
spaced-as : {A C : Type 0} (E : Result A → Type 0) (F : Result C → Type 0) (code_a : A → List ℕ) (code_c : C → List ℕ) (g : A → C) (s : Text) (p lo n low : ℕ) (o : List ℕ) (at : ℕ)
    → p ≤ n → lo ≤ low → ((v : A) → code_c (g v) ≡ code_a v) → ((x : Result A) → E x → F (then x (λ v u. spaced (g v) u)))
    → (r : Step) (o' : List ℕ) (r' : Step) → After E code_a s n low o at r o' → Spaced s r r' → After F code_c s p lo o at r' o'
unfolding then spaced map
spaced-as E F code_a code_c g s p lo n low o at h l e f (Some (q, b)) o' (Some (w, k)) a z = let i = a.onward in let j = z.skipped.onward in let c = a.cells in let d = z.cell in record {
  value = g a.value;
  same = rw z.skipped.past at (f (ok a.value (drop q.0 s)) a.same);
  onward = record { on = omega arith; within = j.within };
  wrote = rw z.cell (a.wrote ∙ ap (λ (x : List ℕ). take at o ++ x) (sym (e a.value)));
  cells = omega arith;
}
spaced-as E F code_a code_c g s p lo n low o at h l e f (Some (q, b)) o' None a z = rw z at (f (ok a.value (drop q.0 s)) a.same)
spaced-as E F code_a code_c g s p lo n low o at h l e f None o' (Some (w, k)) a z = absurd z
spaced-as E F code_a code_c g s p lo n low o at h l e f None o' None a z = f fail a

pub chars-step : (a b : ℕ) (s : Text) (p : ℕ) (o : List ℕ) (at : ℕ) (t : Step) (o' : List ℕ) → After-chars-token a b s p o at t o' → Step-in s t
chars-step a b s p o at = step_in (λ x. read-chars (drop p s) ≡ x) (chars_code a b) s p (p + 1) o at

pub name-step : (k : ℕ) (s : Text) (p : ℕ) (o : List ℕ) (at : ℕ) (t : Step) (o' : List ℕ) → After-name read-use k s p o at t o' → Step-in s t
name-step k s p o at = step_in (λ x. read-use (drop p s) ≡ x) (counted_code k) s p (p + 1) o at

-- room further on in the text
pub room-past : (s : Text) (p q : ℕ) (o : List ℕ) (at : ℕ) → Room s p o at → Skipped s (p + 1) q → Room s q o at
room-past s p q o at r y = let c = r.cells in let n = y.onward in record { place = n.within; cells = omega arith; few = r.few }

pub room-mark : (s : Text) (p q m : ℕ) (o : List ℕ) (at : ℕ) → Room s p o at → Mark-read s p q m → Room s q o at
room-mark s p q m o at r y = let c = r.cells in let n = y.onward in record { place = n.within; cells = omega arith; few = r.few }

-- an insertion
insertion-code : (k : Chars) → terminal_code (insertion k) ≡ chars_code 29 30 k
insertion-code (string cs) = ap (λ (l : List ℕ). 29 ∷ length cs ∷ l) (append-nil cs)
insertion-code (hex n) = refl

module _ (s : Text) (p : ℕ) (h : ch 0x2b (hd (drop p s)) ≡ true) where
  pub insertion-in : p < length s
  insertion-in = in-text s p (ch 0x2b) (ch-end 0x2b refl) h

  pub insertion-bad : skip (drop (p + 1) s) ≡ fail → read-insertion (drop p s) ≡ fail
  unfolding read-insertion expect guard then
  insertion-bad f = rw (h, tl-at s p, f)

  module _ (q : ℕ) (y : Skipped s (p + 1) q) where
    by-insertion : (x : Result Chars) → read-chars (drop q s) ≡ x → read-insertion (drop p s) ≡ then x (λ k u. spaced (insertion k) u)
    unfolding read-insertion expect guard then
    by-insertion x f = rw (h, tl-at s p, y.past, f)

    pub inserted : (o : List ℕ) (at : ℕ) (t : Step) (o' : List ℕ) (t' : Step) → After-chars-token 29 30 s q o at t o' → Spaced s t t' → After-insertion s p o at t' o'
    inserted o at = let n = y.onward in
        spaced-as (λ x. read-chars (drop q s) ≡ x) (λ x. read-insertion (drop p s) ≡ x) (chars_code 29 30) terminal_code insertion s p (p + 1) q
        (q + 1) o at (omega arith) (omega arith) insertion-code by-insertion

-- a terminal
module _ (s : Text) (p m : ℕ) (o : List ℕ) (at : ℕ) where
  module _ (h : ch 0x7e (hd (drop p s)) ≡ true) where
    pub exclude-bad : skip (drop (p + 1) s) ≡ fail → (mark : Mark) → m ≡ mark_number mark → read-terminal mark (drop p s) ≡ fail
    unfolding read-terminal when then
    exclude-bad f mark e = rw (h, tl-at s p, f)

    by-exclude : (q : ℕ) → Skipped s (p + 1) q → (mark : Mark) (x : Result (List Member)) → read_set (drop q s) ≡ x → read-terminal mark (drop p s) ≡ map (exclusion mark) x
    unfolding read-terminal when then
    by-exclude q y mark x f = rw (h, tl-at s p, y.past, f)

    pub excluded : (q : ℕ) → Skipped s (p + 1) q → (t : Step) (o' : List ℕ) → After-set (16 + m) s q o at t o' → After-terminal m s p o at t o'
    excluded q y t o' a mark e = let n = y.onward in
        as-part (λ x. read_set (drop q s) ≡ x) (λ x. read-terminal mark (drop p s) ≡ x) (λ ms. (16 + m) ∷ encode (member_tokens ms)) terminal_code
        (exclusion mark) s p (p + 1) q (q + 1) o at (omega arith) (omega arith)
        (λ ms. ap (λ (k : ℕ). (16 + k) ∷ encode (member_tokens ms)) (sym e)) (by-exclude q y mark) t o' a

  module _ (h : ch 0x7e (hd (drop p s)) ≡ false) where
    by-include : ch 0x5b (hd (drop p s)) ≡ true → (mark : Mark) (x : Result (List Member)) → read_set (drop p s) ≡ x → read-terminal mark (drop p s) ≡ map (inclusion mark) x
    unfolding read-terminal when
    by-include i mark x f = rw (h, i, f)

    pub included-set : ch 0x5b (hd (drop p s)) ≡ true → (t : Step) (o' : List ℕ) → After-set (12 + m) s p o at t o' → After-terminal m s p o at t o'
    included-set i t o' a mark e =
        as-part (λ x. read_set (drop p s) ≡ x) (λ x. read-terminal mark (drop p s) ≡ x) (λ ms. (12 + m) ∷ encode (member_tokens ms)) terminal_code
        (inclusion mark) s p (p + 1) p (p + 1) o at (omega arith) (omega arith)
        (λ ms. ap (λ (k : ℕ). (12 + k) ∷ encode (member_tokens ms)) (sym e)) (by-include i mark) t o' a

    by-literal : ch 0x5b (hd (drop p s)) ≡ false → (mark : Mark) (x : Result Chars) → read-chars (drop p s) ≡ x → read-terminal mark (drop p s) ≡ then x (λ k u. spaced (literal mark k) u)
    unfolding read-terminal when
    by-literal i mark x f = rw (h, i, f)

    literal-code : (mark : Mark) → m ≡ mark_number mark → (k : Chars) → terminal_code (literal mark k) ≡ chars_code (4 + m) (8 + m) k
    literal-code mark e (string cs) = rw e (ap (λ (l : List ℕ). (4 + mark_number mark) ∷ length cs ∷ l) (append-nil cs))
    literal-code mark e (hex n) = rw e

    pub a-literal : ch 0x5b (hd (drop p s)) ≡ false → (t : Step) (o' : List ℕ) (t' : Step) → After-chars-token (4 + m) (8 + m) s p o at t o'
        → Spaced s t t' → After-terminal m s p o at t' o'
    a-literal i t o' t' a z mark e =
        spaced-as (λ x. read-chars (drop p s) ≡ x) (λ x. read-terminal mark (drop p s) ≡ x) (chars_code (4 + m) (8 + m)) terminal_code
        (literal mark) s p (p + 1) p (p + 1) o at (omega arith) (omega arith)
        (literal-code mark e) (by-literal i mark) t o' t' a z

-- a factor that is no bracket
pub plain-insertion : (s : Text) (p : ℕ) (o : List ℕ) (at : ℕ) → ch 0x2b (hd (drop p s)) ≡ true → (t : Step) (o' : List ℕ) → After-insertion s p o at t o' → After-plain s p o at t o'
unfolding read_plain when
plain-insertion s p o at h =
    as-part (λ x. read-insertion (drop p s) ≡ x) (λ x. read_plain (drop p s) ≡ x) terminal_code symbol_code terminal s p (p + 1) p (p + 1) o at
    (omega arith) (omega arith) (λ v. refl) (λ x f. rw (h, f))

pub plain-bad : (s : Text) (p : ℕ) → ch 0x2b (hd (drop p s)) ≡ false → read-mark (drop p s) ≡ fail → read_plain (drop p s) ≡ fail
unfolding read_plain when then
plain-bad s p h f = rw (h, f)

mark-two : (mark : Mark) → mark_number mark ≡ 2 → tmark mark ≡ false
unfolding tmark
mark-two unmarked e = absurd (omega arith)
mark-two included e = absurd (omega arith)
mark-two attribute e = refl
mark-two deleted e = absurd (omega arith)

mark-other : (mark : Mark) → (mark_number mark ≡ 2 → ⊥) → tmark mark ≡ true
unfolding tmark
mark-other unmarked e = refl
mark-other included e = refl
mark-other attribute e = absurd (e refl)
mark-other deleted e = refl

mark-below : (mark : Mark) → mark_number mark < 4
mark-below unmarked = omega arith
mark-below included = omega arith
mark-below attribute = omega arith
mark-below deleted = omega arith

module _ (s : Text) (p : ℕ) (h : ch 0x2b (hd (drop p s)) ≡ false) (q m : ℕ) (y : Mark-read s p q m) where
  pub mark-small : m < 4
  mark-small = let i = mark-below y.value in let e = y.number in omega arith

  by-mark : read_plain (drop p s) ≡ marked y.value (drop q s)
  unfolding read_plain when then
  by-mark = rw (h, y.same)

  module _ (i : namestart (hd (drop q s)) ≡ true) where
    by_name : (x : Result Text) → read-use (drop q s) ≡ x → read_plain (drop p s) ≡ then x (λ v u. spaced (nonterminal y.value v) u)
    unfolding marked when read-nonterminal
    by_name x f = by-mark ∙ rw (i, f)

    name-code : (n : Text) → symbol_code (nonterminal y.value n) ≡ counted_code m n
    name-code n = rw y.number (ap (λ (l : List ℕ). mark_number y.value ∷ length n ∷ l) (append-nil n))

    pub plain-name : (o : List ℕ) (at : ℕ) (t : Step) (o' : List ℕ) (t' : Step) → After-name read-use m s q o at t o' → Spaced s t t' → After-plain s p o at t' o'
    plain-name o at = let n = y.onward in
        spaced-as (λ x. read-use (drop q s) ≡ x) (λ x. read_plain (drop p s) ≡ x) (counted_code m) symbol_code (nonterminal y.value) s p (p + 1)
        q (q + 1) o at (omega arith) (omega arith) name-code by_name

  module _ (i : namestart (hd (drop q s)) ≡ false) where
    pub plain-attribute : m ≡ 2 → read_plain (drop p s) ≡ fail
    unfolding marked when guard
    plain-attribute e = let z : tmark y.value ≡ false = mark-two y.value (sym y.number ∙ e) in by-mark ∙ rw (i, z)

    by-terminal : (m ≡ 2 → ⊥) → (x : Result Terminal) → read-terminal y.value (drop q s) ≡ x → read_plain (drop p s) ≡ map terminal x
    unfolding marked when guard
    by-terminal e x f = let z : tmark y.value ≡ true = mark-other y.value (λ k. e (y.number ∙ k)) in by-mark ∙ rw (i, z, f)

    pub plain-terminal : (m ≡ 2 → ⊥) → (o : List ℕ) (at : ℕ) (t : Step) (o' : List ℕ) → After-terminal m s q o at t o' → After-plain s p o at t o'
    plain-terminal e o at t o' a = let n = y.onward in
        as-part (λ x. read-terminal y.value (drop q s) ≡ x) (λ x. read_plain (drop p s) ≡ x) terminal_code symbol_code terminal s p (p + 1) q
        (q + 1) o at (omega arith) (omega arith) (λ v. refl) (by-terminal e) t o' (a y.value y.number)
