-- What follows in a rule's body, and names there: whether a run's last dot is the name's or the rule's.
use mathlib.Core.Bool.{Bool, true, false, not, ◌&&◌, ◌||◌}
use mathlib.Core.Path.{◌≡◌, refl, sym, ap}
use mathlib.Core.List.{List, [], ◌∷◌, ◌++◌}
use Prim.Native.Nat.{ℕ}
use borrow.Author.Tests.{eqb-true}
use Rattle.text.specs.Lists.{Text, chars, all, among}
use Rattle.syntax.specs.Syntax.{chr, ch, quote, capital, letter, is_mark, namestart, namefollower, S, Followers, Name, digit}
use Rattle.syntax.specs.Result.{hd, tl, ok, when, map, guard}
use Rattle.syntax.specs.Spacing.{spacing, skip}
use mathlib.Core.Logic.{⊎_elim}
use Rattle.syntax.specs.Syntax.Followers.{f-none, f-next}
use Rattle.syntax.specs.Syntax.Name.{a-name}
use Rattle.syntax.specs.Lexical.{read_name, read-use, ending, run, last-dot, but_last, less-dot, ended}
use Rattle.syntax.specs.Parser.{starts}
use Rattle.syntax.proofs.Classes.{by-category, clash, and-false, at-ch, among-at, none_of, among-not, no-spacing, spacing-not}
use Rattle.syntax.proofs.SpacingLaws.{complete-s, head-s}
use Rattle.syntax.proofs.LexicalComplete.{joins}

-- 1. FOLLOW sets. After a full stop comes what ends a rule.
pub record Ending (w : Text) : Type 0 where
  pub stops : namefollower (hd w) ≡ false
  pub ends : ending (skip w) ≡ true

pub record Follows (ks : List ℕ) (u : Text) : Type 0 where
  pub one-of : among (hd u) ks ≡ true
  pub dot : ch 0x2e (hd u) ≡ true → Ending (tl u)

abbrev pub after-alts : List ℕ
after-alts = chars ")."

abbrev pub after-alt : List ℕ
after-alt = chars ";|)."

abbrev pub after-term : List ℕ
after-term = chars ",;|)."

abbrev pub after-factor : List ℕ
after-factor = chars "?*+,;|)."

-- js are among ks
abbrev pub within : List ℕ → List ℕ → Bool
within js ks = all (λ k. among k ks) js

pub wider : {js : List ℕ} {u : Text} (ks : List ℕ) → within js ks ≡ true → Follows js u → Follows ks u
wider {js} {u} ks p f = record { one-of = among-at js (λ k. among k ks) (hd u) p f.one-of; dot = f.dot }

pub follows-not : {ks : List ℕ} {u : Text} (g : ℕ → Bool) → none_of g ks ≡ true → Follows ks u → g (hd u) ≡ false
follows-not {ks} {u} g p f = among-not ks g (hd u) p f.one-of

-- a character of js, which are no full stops, is at the head
pub head-among : {c : ℕ} {t : Text} (js ks : List ℕ) → within js ks ≡ true → none_of (ch 0x2e) js ≡ true → among c js ≡ true → Follows ks (c ∷ t)
head-among {c} js ks p q e = record { one-of = among-at js (λ k. among k ks) c p e; dot = λ z. absurd (clash (among-not js (ch 0x2e) c q e) z) }

pub head-ch : {c : ℕ} {t : Text} (k : ℕ) (ks : List ℕ) → among k ks ≡ true → ch 0x2e k ≡ false → ch k c ≡ true → Follows ks (c ∷ t)
head-ch {c} k ks p q e = record { one-of = at-ch (λ j. among j ks) true k c p e; dot = λ z. absurd (clash (at-ch (ch 0x2e) false k c q e) z) }

pub follows-spacing : {u : Text} → Follows after-factor u → spacing (hd u) ≡ false
follows-spacing {u} f = no-spacing (λ c. among c after-factor) (hd u) refl f.one-of

pub follows-joins : {u : Text} → Follows after-factor u → joins (hd u) ≡ false
unfolding joins quote digit letter capital
follows-joins f = follows-not joins refl f

pub follows-starts : {u : Text} → Follows after-alt u → starts (hd u) ≡ false
unfolding starts namestart by-category
follows-starts f = follows-not starts refl f

-- 2. Runs.
run-stops : (u : Text) → namefollower (hd u) ≡ false → run u ≡ ok [] u
unfolding run when
run-stops [] e = refl
run-stops (c ∷ u) e = rw e

run_end : {t u cs : Text} → Followers t u cs → namefollower (hd u) ≡ false → run t ≡ ok cs u
unfolding run when map
run_end {u = u} f-none e = run-stops u e
run_end (f-next (chr p) f) e = rw (p, run_end f e)

dot-follower : namefollower 0x2e ≡ true
unfolding namefollower namestart by-category
dot-follower = refl

run-dot : {t u cs : Text} (w : Text) → Followers t u cs → u ≡ 0x2e ∷ w → namefollower (hd w) ≡ false → run t ≡ ok (cs ++ 0x2e ∷ []) w
unfolding run when map
run-dot w f-none h e = rw h (rw (dot-follower, run-stops w e))
run-dot w (f-next (chr p) f) h e = rw (p, run-dot w f h e)

dot-last : (cs : Text) → last-dot (cs ++ 0x2e ∷ []) ≡ true
unfolding last-dot ch
dot-last [] = refl
dot-last (c ∷ []) = refl
dot-last (c ∷ e ∷ cs) = dot-last (e ∷ cs)

dot-less : (cs : Text) → but_last (cs ++ 0x2e ∷ []) ≡ cs
unfolding but_last
dot-less [] = refl
dot-less (c ∷ []) = refl
dot-less (c ∷ e ∷ cs) = ap (λ (x : Text). c ∷ x) (dot-less (e ∷ cs))

dot-cons : (w : Text) → ch 0x2e (hd w) ≡ true → w ≡ 0x2e ∷ tl w
unfolding ch
dot-cons [] e = absurd (clash refl e)
dot-cons (c ∷ w) e = ap (λ (k : ℕ). k ∷ w) (eqb-true c 0x2e e)

-- 3. A name in a body.
follows-ended : (u : Text) → Follows after-factor u → ended u ≡ false
unfolding ended is_mark namestart by-category
follows-ended [] f = absurd (clash refl f.one-of)
follows-ended (c ∷ u) f = follows-not {u = c ∷ u} (λ k. is_mark k || namestart k) refl f

whole-name : {t u w cs : Text} → Followers t u cs → S u w → Follows after-factor w → namefollower (hd u) ≡ false → less-dot (run t) ≡ ok cs u
unfolding less-dot when ending
whole-name {w = w} {cs = cs} f s a e = rw (run_end f e, complete-s s (follows-spacing a), follows-ended w a, and-false (last-dot cs))

less-a-dot : {t u cs : Text} → Followers t u cs → Follows after-factor u → ch 0x2e (hd u) ≡ true → less-dot (run t) ≡ ok cs u
unfolding less-dot when
less-a-dot {u = u} {cs = cs} f a e = let z = a.dot e in
    rw (run-dot (tl u) f (dot-cons u e) z.stops, dot-last cs, z.ends, dot-less cs) (ap (λ (x : Text). ok cs x) (sym (dot-cons u e)))

pub spacing-follower : (c : ℕ) → spacing c ≡ true → namefollower c ≡ false
unfolding namefollower namestart by-category
spacing-follower c e = spacing-not namefollower c refl e

-- of what follows a factor, only the full stop goes on with a name
only-dot : (c : ℕ) → among c after-factor ≡ true → not (ch 0x2e c) && namefollower c ≡ false
unfolding ch namefollower namestart by-category
only-dot c e = among-not after-factor (λ k. not (ch 0x2e k) && namefollower k) c refl e

no-dot : (c : ℕ) → among c after-factor ≡ true → ch 0x2e c ≡ false → namefollower c ≡ false
no-dot c e f = rw f at (only-dot c e)

name-read : {t u w cs : Text} → Followers t u cs → S u w → Follows after-factor w → less-dot (run t) ≡ ok cs u
name-read {t} {u} {w} {cs} f s a = ⊎_elim (λ e. same (ch 0x2e (hd w)) refl e) (λ e. whole-name f s a (spacing-follower _ e)) (head-s s)
  where
    same : (b : Bool) → ch 0x2e (hd w) ≡ b → u ≡ w → less-dot (run t) ≡ ok cs u
    same true p e = less-a-dot f (rw e a) (rw e p)
    same false p e = whole-name f s a (rw e (no-dot (hd w) a.one-of p))

pub complete-use : {t u w cs : Text} → Name t u cs → S u w → Follows after-factor w → read-use t ≡ ok cs u
unfolding read-use guard map
complete-use (a-name (chr p) f) s a = rw (p, name-read f s a)

-- 4. A name at the head of a rule.
pub before-follower : {u w : Text} → S u w → namefollower (hd w) ≡ false → namefollower (hd u) ≡ false
before-follower {u} s e = ⊎_elim (λ q. rw q e) (λ q. spacing-follower (hd u) q) (head-s s)

pub complete-name : {t u cs : Text} → Name t u cs → namefollower (hd u) ≡ false → read_name t ≡ ok cs u
unfolding read_name guard map
complete-name (a-name (chr p) f) e = rw (p, run_end f e)
