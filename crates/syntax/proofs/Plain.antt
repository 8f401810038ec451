-- Factors that are no brackets: first characters, and what the grammar derives, the reader reads.
use mathlib.Core.Bool.{Bool, true, false, ◌||◌}
use mathlib.Core.Path.{◌≡◌, refl}
use mathlib.Core.List.{List}
use Prim.Native.Nat.{ℕ}
use Rattle.text.specs.Lists.{Text, chars, among}
use Rattle.syntax.specs.Syntax.{chr, Is, is, ch, is_mark, namestart, S, CharsOf, SetOf, Marked, Name, TerminalOf, mark_of, is_tmark}
use Rattle.syntax.specs.Result.{hd, Result, ok, when, then, map, guard, expect}
use Rattle.syntax.specs.Spacing.{spacing}
use Rattle.tree.specs.Tree.{Mark, Chars, Member, Terminal, Symbol, literal, inclusion, exclusion, insertion, terminal, nonterminal}
use Rattle.syntax.specs.Syntax.SetOf.{set-none, set-some}
use Rattle.syntax.specs.Syntax.Marked.{mark-none, mark-some}
use Rattle.syntax.specs.Syntax.Name.{a-name}
use Rattle.syntax.specs.Syntax.TerminalOf.{t-literal, t-inclusion, t-exclusion, t-insertion}
use Rattle.syntax.specs.Lexical.{read-mark}
use Rattle.syntax.specs.Parser.{read-terminal, read-insertion, read-nonterminal, tmark, marked, read_plain, starts}
use Rattle.syntax.proofs.Classes.{by-category, or-true, no-ch, at-ch, ch-not, among-at, among-not, not-among, no-spacing, ch-spacing}
use Rattle.syntax.proofs.SpacingLaws.{complete-s, complete-spaced}
use Rattle.syntax.proofs.LexicalComplete.{joins-s, complete-chars, opens, first-chars, opens-spacing, complete-set, complete-mark}
use Rattle.syntax.proofs.Names.{Follows, after-factor, within, follows-spacing, follows-joins, complete-use}

-- 1. First characters: one of ks, or the start of a name.
unfoldable pub front : List ℕ → ℕ → Bool
front ks c = among c ks || namestart c

-- after a mark; of a factor that may be marked; of a factor that is no bracket
abbrev pub after-mark : List ℕ
after-mark = chars "\"'#[~"

abbrev pub may-be-marked : List ℕ
may-be-marked = chars "@^-\"'#[~"

abbrev pub no-bracket : List ℕ
no-bracket = chars "+@^-\"'#[~"

pub front-name : (ks : List ℕ) (c : ℕ) → namestart c ≡ true → front ks c ≡ true
unfolding front
front-name ks c e = rw e (or-true (among c ks))

pub front-among : (ks : List ℕ) (c : ℕ) → among c ks ≡ true → front ks c ≡ true
unfolding front
front-among ks c e = rw e

pub front-ch : (ks : List ℕ) (k c : ℕ) → among k ks ≡ true → ch k c ≡ true → front ks c ≡ true
front-ch ks k c p e = front-among ks c (at-ch (λ j. among j ks) true k c p e)

pub front-wider : (js ks : List ℕ) (c : ℕ) → within js ks ≡ true → front js c ≡ true → front ks c ≡ true
unfolding front
front-wider js ks c p e = go (among c js) refl e
  where
    go : (b : Bool) → among c js ≡ b → b || namestart c ≡ true → front ks c ≡ true
    go true q r = front-among ks c (among-at js (λ k. among k ks) c p q)
    go false q r = front-name ks c r

pub front-starts : (c : ℕ) → front no-bracket c ≡ true → starts c ≡ true
unfolding front starts
front-starts c e = front-wider no-bracket (chars "(+@^-\"'#[~") c refl e

pub starts-round : (c : ℕ) → ch 0x28 c ≡ true → starts c ≡ true
unfolding front starts
starts-round c e = front-ch (chars "(+@^-\"'#[~") 0x28 c refl e

pub starts-spacing : (c : ℕ) → starts c ≡ true → spacing c ≡ false
unfolding starts namestart by-category
starts-spacing c e = no-spacing starts c refl e

front-spacing : (c : ℕ) → front no-bracket c ≡ true → spacing c ≡ false
front-spacing c e = starts-spacing c (front-starts c e)

pub front-round : (c : ℕ) → front no-bracket c ≡ true → ch 0x28 c ≡ false
unfolding front namestart by-category
front-round c e = no-ch (front no-bracket) 0x28 c refl e

front-plus : (c : ℕ) → front may-be-marked c ≡ true → ch 0x2b c ≡ false
unfolding front namestart by-category
front-plus c e = no-ch (front may-be-marked) 0x2b c refl e

-- what stands after a mark is no mark, and a terminal's first character starts no name
pub front-mark : (c : ℕ) → front after-mark c ≡ true → is_mark c ≡ false
unfolding front is_mark namestart by-category
front-mark c e = not-among (chars "@^-") (front after-mark) c refl e

terminal-name : (c : ℕ) → among c after-mark ≡ true → namestart c ≡ false
unfolding namestart by-category
terminal-name c e = among-not after-mark namestart c refl e

pub name-start : {t u n : Text} → Name t u n → namestart (hd t) ≡ true
name-start (a-name (chr p) f) = p

mark-start : (c : ℕ) → is_mark c ≡ true → front may-be-marked c ≡ true
unfolding is_mark
mark-start c e = front-among may-be-marked c (among-at (chars "@^-") (λ k. among k may-be-marked) c refl e)

first-marked : {t u : Text} {m : Mark} → Marked is_mark t u m → front after-mark (hd u) ≡ true → front may-be-marked (hd t) ≡ true
first-marked {t} mark-none e = front-wider after-mark may-be-marked (hd t) refl e
first-marked (mark-some (chr p) s) e = mark-start _ p

first-set : {t u : Text} {ms : List Member} → SetOf t u ms → ch 0x5b (hd t) ≡ true
first-set (set-none (is p) s i s') = p
first-set (set-some (is p) s r i s') = p

-- the first characters of terminals after their marks
chars_after : {t u : Text} {k : Chars} → CharsOf t u k → among (hd t) after-mark ≡ true
unfolding opens
chars_after {t} h = among-at (chars "\"'#") (λ k. among k after-mark) (hd t) refl (first-chars h)

ch-after : (k c : ℕ) → among k after-mark ≡ true → ch k c ≡ true → among c after-mark ≡ true
ch-after k c p e = at-ch (λ j. among j after-mark) true k c p e

set_after : {t u : Text} {ms : List Member} → SetOf t u ms → among (hd t) after-mark ≡ true
set_after h = ch-after 0x5b _ refl (first-set h)

-- 2. Marks.
tmark-mark : (c : ℕ) → is_tmark c ≡ true → is_mark c ≡ true
unfolding is_tmark is_mark
tmark-mark c e = among-at (chars "^-") (λ k. among k (chars "@^-")) c refl e

tmark-bears : (c : ℕ) → is_tmark c ≡ true → tmark (mark_of c) ≡ true
unfolding is_tmark mark_of tmark
tmark-bears c e = among-at (chars "^-") (λ k. tmark (mark_of k)) c refl e

as-mark : {t u : Text} {m : Mark} → Marked is_tmark t u m → Marked is_mark t u m
as-mark mark-none = mark-none
as-mark (mark-some (chr p) s) = mark-some (chr (tmark-mark _ p)) s

bears : {t u : Text} {m : Mark} → Marked is_tmark t u m → tmark m ≡ true
unfolding tmark
bears mark-none = refl
bears (mark-some (chr p) s) = tmark-bears _ p

pub mark-read : {t u : Text} {m : Mark} → Marked is_mark t u m → front after-mark (hd u) ≡ true → read-mark t ≡ ok m u
mark-read {u = u} p e = complete-mark p (front-mark (hd u) e) (front-spacing (hd u) (front-wider after-mark no-bracket (hd u) refl e))

marked-read : {t u : Text} {m : Mark} (x : Result Symbol) → Marked is_mark t u m → front after-mark (hd u) ≡ true → marked m u ≡ x → read_plain t ≡ x
unfolding read_plain when then
marked-read {t} x p e h = rw (front-plus (hd t) (first-marked p e), mark-read p e) h

after_read : {v : Text} (u : Text) (m : Mark) (x : Terminal) → among (hd u) after-mark ≡ true → tmark m ≡ true → read-terminal m u ≡ ok x v → marked m u ≡ ok (terminal x) v
unfolding marked when guard map
after_read u m x e b h = rw (terminal-name (hd u) e, b, h)

terminal-read : {t u v : Text} {m : Mark} {x : Terminal} → Marked is_tmark t u m → among (hd u) after-mark ≡ true → read-terminal m u ≡ ok x v → read_plain t ≡ ok (terminal x) v
terminal-read {u = u} {m = m} {x = x} p e h = marked-read _ (as-mark p) (front-among after-mark (hd u) e) (after_read u m x e (bears p) h)

-- 3. Terminals and nonterminals.
opens-no-set : (c : ℕ) → opens c ≡ true → (ch 0x7e c ≡ false) × (ch 0x5b c ≡ false)
unfolding opens
opens-no-set c e = (no-ch opens 0x7e c refl e, no-ch opens 0x5b c refl e)

literal-read : {u v w : Text} {k : Chars} (m : Mark) → CharsOf u v k → S v w → Follows after-factor w → read-terminal m u ≡ ok (literal m k) w
unfolding read-terminal when then
literal-read {u} {k = k} m h s f = let z = opens-no-set (hd u) (first-chars h) in
    rw (z.0, z.1, complete-chars h (joins-s s (follows-joins f))) (complete-spaced (literal m k) s (follows-spacing f))

inclusion-read : {u v : Text} {ms : List Member} (m : Mark) → SetOf u v ms → Follows after-factor v → read-terminal m u ≡ ok (inclusion m ms) v
unfolding read-terminal when map
inclusion-read {u} m h f = rw (at-ch (ch 0x7e) false 0x5b (hd u) (ch-not 0x7e 0x5b refl) (first-set h), first-set h, complete-set h (follows-spacing f))

exclusion-read : {u v w x : Text} {ms : List Member} (m : Mark) → Is (ch 0x7e) u v → S v w → SetOf w x ms → Follows after-factor x → read-terminal m u ≡ ok (exclusion m ms) x
unfolding read-terminal when then map
exclusion-read m (is e) s h f = rw (e, complete-s s (ch-spacing 0x5b _ refl (first-set h)), complete-set h (follows-spacing f))

insertion-read : {t u v w x : Text} {k : Chars} → Is (ch 0x2b) t u → S u v → CharsOf v w k → S w x → Follows after-factor x → read_plain t ≡ ok (terminal (insertion k)) x
unfolding read_plain read-insertion when expect guard then map
insertion-read {k = k} (is e) s h s' f =
    rw (e, complete-s s (opens-spacing _ (first-chars h)), complete-chars h (joins-s s' (follows-joins f)), complete-spaced (insertion k) s' (follows-spacing f))

pub complete-terminal : {t u : Text} {x : Terminal} → TerminalOf t u x → Follows after-factor u → read_plain t ≡ ok (terminal x) u
complete-terminal (t-literal {m = m} p h s) f = terminal-read p (chars_after h) (literal-read m h s f)
complete-terminal (t-inclusion {m = m} p h) f = terminal-read p (set_after h) (inclusion-read m h f)
complete-terminal (t-exclusion {m = m} p (is q) s h) f = terminal-read p (ch-after 0x7e _ refl q) (exclusion-read m (is q) s h f)
complete-terminal (t-insertion q s h s') f = insertion-read q s h s' f

first-after : {t u : Text} {m : Mark} → Marked is_tmark t u m → among (hd u) after-mark ≡ true → front no-bracket (hd t) ≡ true
first-after {t} {u} p e = front-wider may-be-marked no-bracket (hd t) refl (first-marked (as-mark p) (front-among after-mark (hd u) e))

pub first-terminal : {t u : Text} {x : Terminal} → TerminalOf t u x → front no-bracket (hd t) ≡ true
first-terminal (t-literal p h s) = first-after p (chars_after h)
first-terminal (t-inclusion p h) = first-after p (set_after h)
first-terminal (t-exclusion p (is q) s h) = first-after p (ch-after 0x7e _ refl q)
first-terminal (t-insertion (is q) s h s') = front-ch no-bracket 0x2b _ refl q

pub first-nonterminal : {t u v n : Text} {m : Mark} → Marked is_mark t u m → Name u v n → front no-bracket (hd t) ≡ true
first-nonterminal {t} p h = front-wider may-be-marked no-bracket (hd t) refl (first-marked p (front-name after-mark _ (name-start h)))

name-read : {u v w n : Text} (m : Mark) → Name u v n → S v w → Follows after-factor w → marked m u ≡ ok (nonterminal m n) w
unfolding marked read-nonterminal when then
name-read {n = n} m h s f = rw (name-start h, complete-use h s f) (complete-spaced (nonterminal m n) s (follows-spacing f))

pub complete-nonterminal : {t u v w n : Text} {m : Mark} → Marked is_mark t u m → Name u v n → S v w → Follows after-factor w → read_plain t ≡ ok (nonterminal m n) w
complete-nonterminal {m = m} p h s f = marked-read _ p (front-name after-mark _ (name-start h)) (name-read m h s f)
