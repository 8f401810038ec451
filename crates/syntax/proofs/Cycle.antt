-- What the grammar derives as alternatives, terms and factors, the reader reads, where what follows is in the FOLLOW set.
use native.Mathlib.Omega.{arith}
use mathlib.Core.Bool.{true, false}
use mathlib.Core.Path.{◌≡◌, refl, ◌∙◌}
use mathlib.Core.List.{◌∷◌}
use Prim.Native.Nat.{ℕ, suc, ◌<◌}
use lib.Dec.{eqb}
use Rattle.text.specs.Lists.{Text, chars}
use Rattle.syntax.specs.Syntax.{Is, is, ch, bar, S, Alts, Alt, Terms, Term, Factor}
use Rattle.syntax.specs.Result.{hd, tl, Result, ok, when, then, map, guard, expect}
use Rattle.syntax.specs.Spacing.{spacing, spaced}
use lib.ListN.{length}
use Rattle.tree.specs.Tree.{Symbol, Alternative, Body, group, option, repeat0, repeat1, repeat0sep, repeat1sep, cons, one, also}
use Rattle.syntax.specs.Syntax.Alts.{alts-one, alts-also}
use Rattle.syntax.specs.Syntax.Alt.{alt-none, alt-some}
use Rattle.syntax.specs.Syntax.Terms.{terms-one, terms-more}
use Rattle.syntax.specs.Syntax.Term.{t-factor, t-option, t-repeat0, t-repeat0sep, t-repeat1, t-repeat1sep}
use Rattle.syntax.specs.Syntax.Factor.{f-terminal, f-nonterminal, f-group}
use Rattle.syntax.specs.Parser.{repeated, suffix, under, starts, single, Alts=, Alt=, Terms=, Term=, Factor=}
use Rattle.syntax.proofs.Classes.{at-ch, ch-not, none_of, spacings, no-spacing, ch-spacing}
use Rattle.syntax.proofs.SpacingLaws.{complete-s, complete-spaced}
use Rattle.syntax.proofs.Shorter.{short-s, short-alt, short_term, short-factor}
use Rattle.syntax.proofs.LexicalComplete.{before-s, separated-last, separated_more}
use Rattle.syntax.proofs.Names.{Follows, after-alts, after-alt, after-term, after-factor, wider, follows-not, head-among, head-ch, follows-spacing, follows-starts}
use Rattle.syntax.proofs.Steps.{alt-none=, alt-some=, alts-step, terms-step, term-step, factor-plain, factor-step}
use Rattle.syntax.proofs.Plain.{front-starts, starts-round, starts-spacing, front-round, complete-terminal, first-terminal, first-nonterminal, complete-nonterminal}

-- 1. Repetitions.
module _ (g : Text → Result Symbol) (v : Symbol) (u : Text) where
  suffix-none : ch 0x3f (hd u) ≡ false → ch 0x2a (hd u) ≡ false → ch 0x2b (hd u) ≡ false → suffix g v u ≡ ok v u
  unfolding suffix when
  suffix-none p q r = rw (p, q, r)

  suffix-option : ch 0x3f (hd u) ≡ true → suffix g v u ≡ spaced (option v) (tl u)
  unfolding suffix when
  suffix-option p = rw p

  suffix-star : ch 0x2a (hd u) ≡ true → suffix g v u ≡ repeated 0x2a repeat0 repeat0sep g v (tl u)
  unfolding suffix when
  suffix-star p = rw (at-ch (ch 0x3f) false 0x2a (hd u) (ch-not 0x3f 0x2a refl) p, p)

  suffix-plus : ch 0x2b (hd u) ≡ true → suffix g v u ≡ repeated 0x2b repeat1 repeat1sep g v (tl u)
  unfolding suffix when
  suffix-plus p = rw (at-ch (ch 0x3f) false 0x2b (hd u) (ch-not 0x3f 0x2b refl) p, at-ch (ch 0x2a) false 0x2b (hd u) (ch-not 0x2a 0x2b refl) p, p)

-- `*` and `+`
module _ (k : ℕ) (plain : Symbol → Symbol) (sep : Symbol → Symbol → Symbol)
    (at-k : (g : Text → Result Symbol) (v : Symbol) (u : Text) → ch k (hd u) ≡ true → suffix g v u ≡ repeated k plain sep g v (tl u)) where
  repeat-plain : {u v w : Text} {f : Symbol} (d : ℕ) (t : Text) → Factor= d t (ok f u) → Is (ch k) u v → S v w
      → none_of (ch k) spacings ≡ true → ch k (hd w) ≡ false → spacing (hd w) ≡ false → Term= d t (ok (plain f) w)
  unfolding then repeated when
  repeat-plain {u} {v} {w} {f} d t p (is i) s z e q =
      term-step d t (ok f u) (ok (plain f) w) p (λ g _. at-k g f u i ∙ rw (before-s (ch k) z s e) (complete-spaced (plain f) s q))

  repeat-sep : {u v w x y : Text} {f f' : Symbol} (d : ℕ) (t : Text) → Factor= d t (ok f u) → length u < length t → Is (ch k) u v
      → Is (ch k) v w → S w x → Factor= d x (ok f' y) → starts (hd x) ≡ true → Term= d t (ok (sep f f') y)
  unfolding then repeated when map
  repeat-sep {u} {x = x} {y = y} {f = f} {f' = f'} d t p l (is i) (is j) s q e =
      let h = short-s s in
      term-step d t (ok f u) (ok (sep f f') y) p (λ g a. at-k g f u i ∙ rw (j, complete-s s (starts-spacing (hd x) e), a x (ok f' y) (omega arith) q))

-- 2. First characters.
first-factor : {d : ℕ} {t u : Text} {f : Symbol} → Factor d t u f → starts (hd t) ≡ true
first-factor (f-terminal x) = front-starts _ (first-terminal x)
first-factor (f-nonterminal p n s) = front-starts _ (first-nonterminal p n)
first-factor (f-group (is p) s a q s') = starts-round _ p

first-term : {d : ℕ} {t u : Text} {f : Symbol} → Term d t u f → starts (hd t) ≡ true
first-term (t-factor f) = first-factor f
first-term (t-option f p s) = first-factor f
first-term (t-repeat0 f p s) = first-factor f
first-term (t-repeat1 f p s) = first-factor f
first-term (t-repeat0sep f p q s g) = first-factor f
first-term (t-repeat1sep f p q s g) = first-factor f

first-terms : {d : ℕ} {t u : Text} {a : Alternative} → Terms d t u a → starts (hd t) ≡ true
first-terms (terms-one a) = first-term a
first-terms (terms-more a b s r) = first-term a

bar-spacing : (c : ℕ) → bar c ≡ true → spacing c ≡ false
unfolding bar
bar-spacing c e = no-spacing bar c refl e

pub first-alts : {d : ℕ} {t u : Text} {b : Body} → Alts d t u b → spacing (hd u) ≡ false → spacing (hd t) ≡ false
first-alts (alts-one alt-none) e = e
first-alts (alts-one (alt-some ts)) e = starts-spacing _ (first-terms ts)
first-alts (alts-also alt-none (is b) s r) e = bar-spacing _ b
first-alts (alts-also (alt-some ts) b s r) e = starts-spacing _ (first-terms ts)

-- 3. What follows.
at-bar : {c : ℕ} {t : Text} → bar c ≡ true → Follows after-alt (c ∷ t)
unfolding bar ch
at-bar e = head-among (chars ";|") after-alt refl refl e

alts-bar : {u : Text} → Follows after-alts u → bar (hd u) ≡ false
unfolding bar
alts-bar f = follows-not bar refl f

alt-comma : {u : Text} → Follows after-alt u → ch 0x2c (hd u) ≡ false
unfolding ch
alt-comma f = follows-not (ch 0x2c) refl f

-- no repetition sign follows a term
term-sign : {u : Text} (k : ℕ) → none_of (λ j. eqb j k) after-term ≡ true → Follows after-term u → ch k (hd u) ≡ false
unfolding ch
term-sign k p f = follows-not (ch k) p f

term-end : {u : Text} → Follows after-term u → Follows after-factor u
term-end f = wider after-factor refl f

alts-end : {u : Text} → Follows after-alts u → Follows after-factor u
alts-end f = wider after-factor refl f

no_sign : (k : ℕ) → none_of (λ j. eqb j k) spacings ≡ true → none_of (ch k) spacings ≡ true
unfolding ch
no_sign k e = e

-- 4. The cycle.
complete-group : {t u v w x y : Text} {b : Body} (d : ℕ) → Is (ch 0x28) t u → S u v → spacing (hd v) ≡ false → Alts= d v (ok b w)
    → Is (ch 0x29) w x → S x y → Follows after-factor y → Factor= (suc d) t (ok (group b) y)
unfolding under then expect guard
complete-group {t} {v = v} {w = w} {y = y} {b = b} d (is p) s e a (is q) s' f =
    let h = short-s s in
    factor-step (suc d) t (ok (group b) y) p (λ g k. rw (complete-s s e, k d v (ok b w) (omega arith) a, q) (complete-spaced (group b) s' (follows-spacing f)))

mutual
  unfolding then map

  pub complete-alts : {d : ℕ} {t u : Text} {b : Body} → Alts d t u b → Follows after-alts u → Alts= d t (ok b u)
  complete-alts (alts-one {d = d} {t = t} {u = u} {a = a} p) f =
      alts-step d t (ok a u) (ok (one a) u) (complete-alt p (wider after-alt refl f)) (λ g _. separated-last bar also one g a u (alts-bar f))
  complete-alts (alts-also {d = d} {t = t} {u = u} {w = w} {x = x} {a = a} {b = b} p (is q) s r) f =
      let i = short-alt p in let j = short-s s in
      alts-step d t (ok a u) (ok (also a b) x) (complete-alt p (at-bar q))
      (λ g k. separated_more bar also one g a u w (ok b x) q (complete-s s (first-alts r (follows-spacing (alts-end f))))
      (k w (ok b x) (omega arith) (complete-alts r f)))

  complete-alt : {d : ℕ} {t u : Text} {a : Alternative} → Alt d t u a → Follows after-alt u → Alt= d t (ok a u)
  complete-alt (alt-none {d = d} {t = t}) f = alt-none= d t (follows-starts f)
  complete-alt (alt-some {d = d} {t = t} ts) f = alt-some= d t _ (first-terms ts) (complete-terms ts f)

  complete-terms : {d : ℕ} {t u : Text} {a : Alternative} → Terms d t u a → Follows after-alt u → Terms= d t (ok a u)
  complete-terms (terms-one {d = d} {t = t} {u = u} {f = v} p) f =
      terms-step d t (ok v u) (ok (single v) u) (complete-term p (wider after-term refl f)) (λ g _. separated-last (ch 0x2c) cons single g v u (alt-comma f))
  complete-terms (terms-more {d = d} {t = t} {u = u} {w = w} {x = x} {f = v} {a = a} p (is q) s r) f =
      let i = short_term p in let j = short-s s in
      terms-step d t (ok v u) (ok (cons v a) x) (complete-term p (head-ch 0x2c after-term refl (ch-not 0x2e 0x2c refl) q))
      (λ g k. separated_more (ch 0x2c) cons single g v u w (ok a x) q (complete-s s (starts-spacing _ (first-terms r))) (k w (ok a x) (omega arith) (complete-terms r f)))

  complete-term : {d : ℕ} {t u : Text} {f : Symbol} → Term d t u f → Follows after-term u → Term= d t (ok f u)
  complete-term (t-factor {d = d} {t = t} {u = u} {f = v} p) f =
      term-step d t (ok v u) (ok v u) (complete-factor p (term-end f)) (λ g _. suffix-none g v u (term-sign 0x3f refl f) (term-sign 0x2a refl f) (term-sign 0x2b refl f))
  complete-term (t-option {d = d} {t = t} {u = u} {w = w} {f = v} p (is i) s) f =
      term-step d t (ok v u) (ok (option v) w) (complete-factor p (head-ch 0x3f after-factor refl (ch-not 0x2e 0x3f refl) i))
      (λ g _. suffix-option g v u i ∙ complete-spaced (option v) s (follows-spacing (term-end f)))
  complete-term (t-repeat0 {d = d} {t = t} p (is i) s) f =
      repeat-plain 0x2a repeat0 repeat0sep suffix-star d t (complete-factor p (head-ch 0x2a after-factor refl (ch-not 0x2e 0x2a refl) i))
      (is i) s (no_sign 0x2a refl) (term-sign 0x2a refl f) (follows-spacing (term-end f))
  complete-term (t-repeat0sep {d = d} {t = t} p (is i) j s q) f =
      repeat-sep 0x2a repeat0 repeat0sep suffix-star d t (complete-factor p (head-ch 0x2a after-factor refl (ch-not 0x2e 0x2a refl) i))
      (short-factor p) (is i) j s (complete-factor q (term-end f)) (first-factor q)
  complete-term (t-repeat1 {d = d} {t = t} p (is i) s) f =
      repeat-plain 0x2b repeat1 repeat1sep suffix-plus d t (complete-factor p (head-ch 0x2b after-factor refl (ch-not 0x2e 0x2b refl) i))
      (is i) s (no_sign 0x2b refl) (term-sign 0x2b refl f) (follows-spacing (term-end f))
  complete-term (t-repeat1sep {d = d} {t = t} p (is i) j s q) f =
      repeat-sep 0x2b repeat1 repeat1sep suffix-plus d t (complete-factor p (head-ch 0x2b after-factor refl (ch-not 0x2e 0x2b refl) i))
      (short-factor p) (is i) j s (complete-factor q (term-end f)) (first-factor q)

  complete-factor : {d : ℕ} {t u : Text} {f : Symbol} → Factor d t u f → Follows after-factor u → Factor= d t (ok f u)
  complete-factor (f-terminal {d = d} {t = t} x) f = λ n h. factor-plain d t (front-round (hd t) (first-terminal x)) n h ∙ complete-terminal x f
  complete-factor (f-nonterminal {d = d} {t = t} p c s) f =
      λ n h. factor-plain d t (front-round (hd t) (first-nonterminal p c)) n h ∙ complete-nonterminal p c s f
  complete-factor (f-group {d = d} p s a (is q) s') f =
      let z = head-ch 0x29 after-alts refl (ch-not 0x2e 0x29 refl) q in
      complete-group d p s (first-alts a (ch-spacing 0x29 _ refl q)) (complete-alts a z) (is q) s' f
