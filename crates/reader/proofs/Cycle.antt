-- The cycle of alternatives, terms and factors: each answer from the answers of what it calls.
use Rattle.std.specs.Prelude.{Some, None}
use mathlib.Core.Bool.{Bool, true, false}
use mathlib.Core.Path.{◌≡◌, refl, sym, ap, ◌∙◌}
use mathlib.Core.List.{List, [], ◌∷◌, ◌++◌, append_assoc, append-nil}
use Prim.Native.Nat.{ℕ, suc, ◌+◌, ◌*◌, ◌-◌, ◌<◌, ◌≤◌}
use native.Mathlib.Omega.{arith}
use lib.ListN.{length, drop, take, set}
use Rattle.text.specs.Lists.{Text}
use Rattle.tree.specs.Tree.{Symbol, group, option, repeat0, repeat1, repeat0sep, repeat1sep, nil, cons, Body, one, also}
use Rattle.tree.specs.Tokens.{Token, encode, symbol_tokens, alternative_tokens, body_tokens, close-group, next-alternative, to-option, to-repeat0, to-repeat1, to-repeat0sep, to-repeat1sep}
use Rattle.syntax.specs.Syntax.{ch, bar}
use Rattle.syntax.specs.Result.{Result, ok, fail, hd, tl, when, then, map, guard, expect}
use Rattle.syntax.specs.Spacing.{skip, spaced}
use Rattle.syntax.specs.Lexical.{separated}
use Rattle.syntax.specs.Parser.{repeated, suffix, under, starts, single, Alts=, Alt=, Terms=, Term=, Factor=}
use Rattle.syntax.proofs.Classes.{at-ch, ch-not}
use Rattle.syntax.proofs.Steps.{alt-none=, alt-some=, alts-step, terms-step, term-step, factor-plain, factor-step}
use Rattle.spacing.specs.Answers.{Step, Skipped, Room, Read, After-token}
use borrow.Author.Tests.{eqb-true}
use Rattle.spacing.proofs.Places.{tl-at, shorter, in-char}
use Rattle.spacing.proofs.Table.{one_more}
use Rattle.spacing.proofs.Parts.{tail, as-part}
use Rattle.reader.specs.Answers.{symbol_code, alternative_code, body_code, Repeat, alone, by, repeat-rest, repeat_code, Repeat=, After-repeat, After-plain, After-factor, After-term}
use Rattle.reader.specs.Answers.{After-terms, After-alternative}
use Rattle.reader.proofs.Loops.{encode-append, map-twice, Context, room-on, Looping, loop-on, falls-on}

-- Alternatives.
pub alts-none : (d : ℕ) (t : Text) → Alt= d t fail → Alts= d t fail
unfolding then
alts-none d t f = alts-step d t fail fail f (λ again h. refl)

module _ (s : Text) (p d : ℕ) (o : List ℕ) (at : ℕ) (m : List ℕ) (q b : ℕ) (v : Read (λ x. Alt= d (drop p s) x) alternative_code s p p o at m q b) where
  pub alts-stop : bar (hd (drop q s)) ≡ false → Read (λ x. Alts= d (drop p s) x) body_code s p p o at m q b
  unfolding then separated when
  alts-stop e = record {
    value = one v.value;
    same = alts-step d (drop p s) (ok v.value (drop q s)) (ok (one v.value) (drop q s)) v.same (λ again h. rw e);
    onward = v.onward;
    wrote = v.wrote;
    cells = v.cells;
  }

  module _ (e : bar (hd (drop q s)) ≡ true) where
    pub alts-no-space : skip (drop (q + 1) s) ≡ fail → Alts= d (drop p s) fail
    unfolding then separated when
    alts-no-space f = alts-step d (drop p s) (ok v.value (drop q s)) fail v.same (λ again h. rw (e, tl-at s q, f))

    pub alts-next : (n : List ℕ) (w k : ℕ) → Read (λ x. skip (drop (q + 1) s) ≡ x) (λ _. 33 ∷ []) s q (q + 1) m b n w k → Context (λ i x. Alts= d (drop i s) x) body_code p o at w n k
    unfolding then separated when
    alts-next n w k y = let a = v.onward in let g = y.onward in let c = v.cells in let z = y.cells in record {
      wrap = also v.value;
      written = alternative_code v.value ++ 33 ∷ [];
      leads = λ x f. alts-step d (drop p s) (ok v.value (drop q s)) (map (also v.value) x) v.same
          (λ again h. rw (e, tl-at s q, y.same, h (drop w s) x (shorter s p w (omega arith) g.within) f));
      codes = λ t. encode-append (alternative_tokens v.value) (next-alternative ∷ body_tokens t) ∙ sym (append_assoc (alternative_code v.value) (33 ∷ []) (body_code t));
      wrote = y.wrote ∙ ap (λ (l : List ℕ). l ++ 33 ∷ []) v.wrote ∙ append_assoc (take at o) (alternative_code v.value) (33 ∷ []);
      cells = omega arith;
      on = omega arith;
    }

    module _ (n : List ℕ) (w k : ℕ) (y : Read (λ x. skip (drop (q + 1) s) ≡ x) (λ _. 33 ∷ []) s q (q + 1) m b n w k) where
      pub alts-again : {P : ℕ} {O : List ℕ} {AT : ℕ} → Looping (λ i x. Alts= d (drop i s) x) body_code s P O AT p o at → length m ≡ length o
          → length n ≡ length m → Looping (λ i x. Alts= d (drop i s) x) body_code s P O AT w n k
      alts-again l f g = loop-on l w n k (alts-next n w k y) y.onward.within (g ∙ f)

      pub alts-less : length s - w < length s - p
      alts-less = let g = v.onward in let h = y.onward in omega arith

-- An alternative.
pub alt-nothing : (s : Text) (p d : ℕ) (o : List ℕ) (at : ℕ) → p ≤ length s → starts (hd (drop p s)) ≡ false → Read (λ x. Alt= d (drop p s) x) alternative_code s p p o at o p at
alt-nothing s p d o at r e = record {
  value = nil;
  same = alt-none= d (drop p s) e;
  onward = record { on = omega arith; within = r };
  wrote = sym (append-nil (take at o));
  cells = omega arith;
}

pub alt-of-terms : (s : Text) (p d : ℕ) (o : List ℕ) (at : ℕ) → starts (hd (drop p s)) ≡ true → (r : Step) (o' : List ℕ)
    → After-terms d s p o at r o' → After-alternative d s p o at r o'
alt-of-terms s p d o at e (Some (x, y)) o' a = let n = a.onward in record {
  value = a.value;
  same = alt-some= d (drop p s) (ok a.value (drop x.0 s)) e a.same;
  onward = record { on = omega arith; within = n.within };
  wrote = a.wrote;
  cells = a.cells;
}
alt-of-terms s p d o at e None o' a = alt-some= d (drop p s) fail e a

-- Terms.
pub terms-none : (d : ℕ) (t : Text) → Term= d t fail → Terms= d t fail
unfolding then
terms-none d t f = terms-step d t fail fail f (λ again h. refl)

module _ (s : Text) (p d : ℕ) (o : List ℕ) (at : ℕ) (m : List ℕ) (q b : ℕ) (v : Read (λ x. Term= d (drop p s) x) symbol_code s p (p + 1) o at m q b) where
  pub terms-stop : ch 44 (hd (drop q s)) ≡ false → Read (λ x. Terms= d (drop p s) x) alternative_code s p (p + 1) o at m q b
  unfolding then separated when
  terms-stop e = record {
    value = single v.value;
    same = terms-step d (drop p s) (ok v.value (drop q s)) (ok (single v.value) (drop q s)) v.same (λ again h. rw e);
    onward = v.onward;
    wrote = v.wrote ∙ ap (λ (l : List Token). take at o ++ encode l) (sym (append-nil (symbol_tokens v.value)));
    cells = v.cells;
  }

  module _ (e : ch 44 (hd (drop q s)) ≡ true) where
    pub terms-no-space : skip (drop (q + 1) s) ≡ fail → Terms= d (drop p s) fail
    unfolding then separated when
    terms-no-space f = terms-step d (drop p s) (ok v.value (drop q s)) fail v.same (λ again h. rw (e, tl-at s q, f))

    pub terms-next : (w : ℕ) → Skipped s (q + 1) w → Context (λ i x. Terms= d (drop i s) x) alternative_code p o at w m b
    unfolding then separated when
    terms-next w y = let a = v.onward in let g = y.onward in let c = v.cells in record {
      wrap = cons v.value;
      written = symbol_code v.value;
      leads = λ x f. terms-step d (drop p s) (ok v.value (drop q s)) (map (cons v.value) x) v.same
          (λ again h. rw (e, tl-at s q, y.past, h (drop w s) x (shorter s p w (omega arith) g.within) f));
      codes = λ t. encode-append (symbol_tokens v.value) (alternative_tokens t);
      wrote = v.wrote;
      cells = omega arith;
      on = omega arith;
    }

    module _ (w : ℕ) (y : Skipped s (q + 1) w) where
      pub terms-again : {P : ℕ} {O : List ℕ} {AT : ℕ} → Looping (λ i x. Terms= d (drop i s) x) alternative_code s P O AT p o at → length m ≡ length o
          → Looping (λ i x. Terms= d (drop i s) x) alternative_code s P O AT w m b
      terms-again l f = loop-on l w m b (terms-next w y) y.onward.within f

      pub terms-less : length s - w < length s - p
      terms-less = let g = v.onward in let h = y.onward in omega arith

-- A term.
pub term-none : (d : ℕ) (t : Text) → Factor= d t fail → Term= d t fail
unfolding then
term-none d t f = term-step d t fail fail f (λ again h. refl)

-- what a repetition makes of a factor
choice : (plain : Symbol → Symbol) (sep : Symbol → Symbol → Symbol) → Symbol → Repeat → Symbol
choice plain sep v alone = plain v
choice plain sep v (by f) = sep v f

rest-law : (plain : Symbol → Symbol) (sep : Symbol → Symbol → Symbol) (v : Symbol) (f : Text → Result Symbol) (b : Bool) (x y : Result (Unit {0}))
    → when b (λ _. then x (λ _ u. map (sep v) (f u))) (λ _. map (λ _. plain v) y) ≡ map (choice plain sep v) (when b (λ _. then x (λ _ u. map by (f u))) (λ _. map (λ _. alone) y))
unfolding when then map choice
rest-law plain sep v f true (ok w u) y = sym (map-twice (choice plain sep v) by (f u))
rest-law plain sep v f true fail y = refl
rest-law plain sep v f false x (ok w u) = refl
rest-law plain sep v f false x fail = refl

rest_of : (k : ℕ) (plain : Symbol → Symbol) (sep : Symbol → Symbol → Symbol) (v : Symbol) (f : Text → Result Symbol) (t : Text)
    → repeated k plain sep f v t ≡ map (choice plain sep v) (repeat-rest k f t)
unfolding repeated repeat-rest spaced
rest_of k plain sep v f t = rest-law plain sep v f (ch k (hd t)) (skip (tl t)) (skip t)

module _ (s : Text) (p d : ℕ) (o : List ℕ) (at : ℕ) (m : List ℕ) (q b : ℕ) (v : Read (λ x. Factor= d (drop p s) x) symbol_code s p (p + 1) o at m q b) where
  pub term-stop : ch 63 (hd (drop q s)) ≡ false → ch 42 (hd (drop q s)) ≡ false → ch 43 (hd (drop q s)) ≡ false → Read (λ x. Term= d (drop p s) x) symbol_code s p (p + 1) o at m q b
  unfolding then suffix when
  term-stop e f g = record {
    value = v.value;
    same = term-step d (drop p s) (ok v.value (drop q s)) (ok v.value (drop q s)) v.same (λ again h. rw (e, f, g));
    onward = v.onward;
    wrote = v.wrote;
    cells = v.cells;
  }

  pub term-option : ch 63 (hd (drop q s)) ≡ true → (r : Step) (o' : List ℕ) → After-token s q 34 m b r o' → After-term d s p o at r o'
  unfolding then suffix when spaced
  term-option e = let n = v.onward in tail (λ x. skip (drop (q + 1) s) ≡ x) (λ x. Term= d (drop p s) x) (λ _. 34 ∷ []) symbol_code (λ _. option v.value) (symbol_code v.value)
      s p (p + 1) q (q + 1) o at m b v.wrote v.cells (omega arith) (λ _. encode-append (symbol_tokens v.value) (to-option ∷ []))
      (λ x f. term-step d (drop p s) (ok v.value (drop q s)) (map (λ _. option v.value) x) v.same (λ again h. rw (e, tl-at s q, f)))

  module _ (k : ℕ) (plain : Symbol → Symbol) (sep : Symbol → Symbol → Symbol)
      (at-k : (again : Text → Result Symbol) → suffix again v.value (drop q s) ≡ repeated (42 + k) plain sep again v.value (tl (drop q s)))
      (as_plain : (f : Symbol) → symbol_code (plain f) ≡ symbol_code f ++ (35 + k) ∷ [])
      (as-sep : (f g : Symbol) → symbol_code (sep f g) ≡ symbol_code f ++ (symbol_code g ++ (37 + k) ∷ [])) where
    repeat-code : (x : Repeat) → symbol_code (choice plain sep v.value x) ≡ symbol_code v.value ++ repeat_code k x
    unfolding choice
    repeat-code alone = as_plain v.value
    repeat-code (by g) = as-sep v.value g

    term-repeat : (r : Step) (o' : List ℕ) → After-repeat k d s q m b r o' → After-term d s p o at r o'
    unfolding then
    term-repeat = let n = v.onward in let l = shorter s p q (omega arith) n.within in
        tail (λ x. Repeat= k d (drop q s) x) (λ x. Term= d (drop p s) x) (repeat_code k) symbol_code (choice plain sep v.value) (symbol_code v.value)
        s p (p + 1) q (q + 1) o at m b v.wrote v.cells (omega arith) repeat-code
        (λ x f. term-step d (drop p s) (ok v.value (drop q s)) (map (choice plain sep v.value) x) v.same
        (λ again h. at-k again ∙ rest_of (42 + k) plain sep v.value again (tl (drop q s)) ∙ ap (map (choice plain sep v.value)) (f again (λ u y i g. h u y (omega arith) g))))

  pub term-star : ch 42 (hd (drop q s)) ≡ true → (r : Step) (o' : List ℕ) → After-repeat 0 d s q m b r o' → After-term d s p o at r o'
  unfolding suffix when
  term-star e = term-repeat 0 repeat0 repeat0sep (λ again. rw (at-ch (ch 63) false 42 (hd (drop q s)) (ch-not 63 42 refl) e, e))
      (λ f. encode-append (symbol_tokens f) (to-repeat0 ∷ []))
      (λ f g. encode-append (symbol_tokens f) (symbol_tokens g ++ to-repeat0sep ∷ []) ∙ ap (λ (l : List ℕ). symbol_code f ++ l) (encode-append (symbol_tokens g) (to-repeat0sep ∷ [])))

  pub term-plus : ch 43 (hd (drop q s)) ≡ true → (r : Step) (o' : List ℕ) → After-repeat 1 d s q m b r o' → After-term d s p o at r o'
  unfolding suffix when
  term-plus e = term-repeat 1 repeat1 repeat1sep (λ again. rw (at-ch (ch 63) false 43 (hd (drop q s)) (ch-not 63 43 refl) e, at-ch (ch 42) false 43 (hd (drop q s)) (ch-not 42 43 refl) e, e))
      (λ f. encode-append (symbol_tokens f) (to-repeat1 ∷ []))
      (λ f g. encode-append (symbol_tokens f) (symbol_tokens g ++ to-repeat1sep ∷ []) ∙ ap (λ (l : List ℕ). symbol_code f ++ l) (encode-append (symbol_tokens g) (to-repeat1sep ∷ [])))

-- What follows a repeated factor.
two-on : (s : Text) (p : ℕ) → tl (tl (drop p s)) ≡ drop (p + 2) s
two-on s p = let k : p + 1 + 1 ≡ p + 2 = omega arith in ap tl (tl-at s p) ∙ tl-at s (p + 1) ∙ ap (λ (n : ℕ). drop n s) k

-- the characters are in the text
pub mark-in : (s : Text) (p k : ℕ) → k < 2 → ch (42 + k) (hd (drop p s)) ≡ true → p < length s
unfolding ch
mark-in s p k h e = let f : hd (drop p s) ≡ 42 + k = eqb-true (hd (drop p s)) (42 + k) e in in-char s p (hd (drop p s)) refl (omega arith)

pub marks-in : (s : Text) (p k c : ℕ) → k < 2 → c ≡ hd (drop (p + 1) s) → c ≡ 42 + k → p + 2 ≤ length s
marks-in s p k c h u e = let i = in-char s (p + 1) c u (omega arith) in omega arith

pub sep-room : {s : Text} {p : ℕ} {o : List ℕ} {at : ℕ} (w : ℕ) → Room s p o at → Skipped s (p + 2) w → Room s w o at
sep-room {o = o} {at = at} w r y = let g = y.onward in room-on r w o at g.within (omega arith) refl

pub sep-falls : (t j k : ℕ) (s : Text) (p w : ℕ) → Skipped s (p + 2) w → 8 * (length s - p) + j ≡ t → k < 8 + j → 8 * (length s - w) + k < t
sep-falls t j k s p w y e i = let g = y.onward in falls-on t (length s) p w j k (omega arith) g.within e i

module _ (s : Text) (p k d : ℕ) (o : List ℕ) (at : ℕ) where
  pub repeat-alone : ch (42 + k) (hd (drop (p + 1) s)) ≡ false → (r : Step) (o' : List ℕ) → After-token s p (35 + k) o at r o' → After-repeat k d s p o at r o'
  unfolding repeat-rest when
  repeat-alone e = as-part (λ x. skip (drop (p + 1) s) ≡ x) (λ x. Repeat= k d (drop p s) x) (λ _. (35 + k) ∷ []) (repeat_code k) (λ _. alone) s p (p + 1) p (p + 1) o at
      (omega arith) (omega arith) (λ _. refl) (λ x f again h. rw (tl-at s p, e, f))

  module _ (e : ch (42 + k) (hd (drop (p + 1) s)) ≡ true) where
    sep-at : hd (tl (drop p s)) ≡ hd (drop (p + 1) s)
    sep-at = ap hd (tl-at s p)

    pub repeat-no-space : skip (drop (p + 2) s) ≡ fail → Repeat= k d (drop p s) fail
    unfolding repeat-rest when then
    repeat-no-space f again h = rw (sep-at, e, two-on s p, f)

    module _ (w : ℕ) (y : Skipped s (p + 2) w) where
      repeat-by : (x : Result Symbol) → Factor= d (drop w s) x → Repeat= k d (drop p s) (map by x)
      unfolding repeat-rest when then
      repeat-by x f again h = let g = y.onward in rw (sep-at, e, two-on s p, y.past, h (drop w s) x (shorter s p w (omega arith) g.within) f)

      pub repeat-no-factor : Factor= d (drop w s) fail → Repeat= k d (drop p s) fail
      unfolding map
      repeat-no-factor f = repeat-by fail f

      module _ (m : List ℕ) (q b : ℕ) (v : Read (λ x. Factor= d (drop w s) x) symbol_code s w (w + 1) o at m q b) (r : Room s p o at) (l : length m ≡ length o) where
        pub repeat-cell : b + 4 ≤ length m
        repeat-cell = let c = v.cells in let g = y.onward in let n = v.onward in let a = r.cells in omega arith

        pub repeat-sep : Read (λ x. Repeat= k d (drop p s) x) (repeat_code k) s p (p + 1) o at (set m b (37 + k)) q (b + 1)
        unfolding map
        repeat-sep = let c = v.cells in let g = y.onward in let n = v.onward in let i = repeat-cell in record {
          value = by v.value;
          same = repeat-by (ok v.value (drop q s)) v.same;
          onward = record { on = omega arith; within = n.within };
          wrote = one_more o m at b (37 + k) (symbol_code v.value) (omega arith) v.wrote;
          cells = omega arith;
        }

-- A factor.
pub factor-of-plain : (s : Text) (p d : ℕ) (o : List ℕ) (at : ℕ) → ch 40 (hd (drop p s)) ≡ false → (r : Step) (o' : List ℕ) → After-plain s p o at r o' → After-factor d s p o at r o'
factor-of-plain s p d o at e (Some (x, y)) o' a = record { value = a.value; same = λ n h. factor-plain d (drop p s) e n h ∙ a.same; onward = a.onward; wrote = a.wrote; cells = a.cells }
factor-of-plain s p d o at e None o' a = λ n h. factor-plain d (drop p s) e n h ∙ a

module _ (s : Text) (p d : ℕ) (o : List ℕ) (at : ℕ) (e : ch 40 (hd (drop p s)) ≡ true) where
  pub factor-deep : d ≡ 0 → Factor= d (drop p s) fail
  unfolding under
  factor-deep z = factor-step d (drop p s) fail e (λ again h. rw z)

  module _ (d' : ℕ) (less : d ≡ suc d') where
    pub factor-no-space : skip (drop (p + 1) s) ≡ fail → Factor= d (drop p s) fail
    unfolding under then
    factor-no-space f = factor-step d (drop p s) fail e (λ again h. rw (less, tl-at s p, f))

    module _ (n : List ℕ) (w j : ℕ) (y : Read (λ x. skip (drop (p + 1) s) ≡ x) (λ _. 31 ∷ []) s p (p + 1) o at n w j) where
      in-round : (x : Result Body) → Alts= d' (drop w s) x → (z : Result Symbol) → then x (λ b v. expect (ch 0x29) v (λ w. spaced (group b) w)) ≡ z → Factor= d (drop p s) z
      unfolding under then
      in-round x f z g = factor-step d (drop p s) z e (λ again h. let i = y.onward in rw (less, tl-at s p, y.same, h d' (drop w s) x (shorter s p w (omega arith) i.within) f) g)

      pub factor-no-alts : Alts= d' (drop w s) fail → Factor= d (drop p s) fail
      unfolding then
      factor-no-alts f = in-round fail f fail refl

      module _ (m : List ℕ) (q b : ℕ) (a : Read (λ x. Alts= d' (drop w s) x) body_code s w w n j m q b) where
        pub factor-open : ch 41 (hd (drop q s)) ≡ false → Factor= d (drop p s) fail
        unfolding then expect guard
        factor-open g = in-round (ok a.value (drop q s)) a.same fail (rw g)

        pub factor-shut : ch 41 (hd (drop q s)) ≡ true → (r : Step) (o' : List ℕ) → After-token s q 32 m b r o' → After-factor d s p o at r o'
        unfolding then expect guard spaced
        factor-shut g = let i = y.onward in let l = a.onward in let c = y.cells in let k = a.cells in
            tail (λ x. skip (drop (q + 1) s) ≡ x) (λ x. Factor= d (drop p s) x) (λ _. 32 ∷ []) symbol_code (λ _. group a.value) (31 ∷ body_code a.value)
            s p (p + 1) q (q + 1) o at m b (a.wrote ∙ ap (λ (l : List ℕ). l ++ body_code a.value) y.wrote ∙ append_assoc (take at o) (31 ∷ []) (body_code a.value))
            (omega arith) (omega arith) (λ _. ap (◌∷◌ 31) (encode-append (body_tokens a.value) (close-group ∷ [])))
            (λ x f. in-round (ok a.value (drop q s)) a.same (map (λ _. group a.value) x) (rw (g, tl-at s q, f)))
