-- A name in a rule's body, and the full stop that may end it.
use mathlib.Core.Bool.{Bool, true, false, ◌&&◌}
use mathlib.Core.Path.{◌≡◌, refl, sym, ap, ◌∙◌}
use mathlib.Core.List.{List, [], ◌∷◌, ◌++◌, append_assoc}
use Prim.Native.Nat.{ℕ, zero, suc, ◌+◌, ◌-◌, ◌<◌, ◌≤◌}
use native.Mathlib.Omega.{arith}
use lib.ListN.{length, get_or, drop, take, length-append, length-drop}
use lib.Seq.{get_or-drop, take-take, take_at, length-take-le}
use borrow.Author.Tests.{eq-eqb, ne_eqb, eqb-true}
use Rattle.text.specs.Lists.{Text}
use Rattle.syntax.specs.Syntax.{ch, namestart, namefollower}
use Rattle.syntax.proofs.Classes.{namestart-end, clash, and_left}
use Rattle.syntax.specs.Result.{Result, ok, fail, hd, map, when, guard}
use Rattle.syntax.specs.Spacing.{skip}
use Rattle.syntax.specs.Lexical.{run, ended, ending, last-dot, but_last, less-dot, read-use}
use Rattle.spacing.specs.Answers.{Skipped}
use Rattle.lexical.specs.Answers.{Copied, Stops}
use Rattle.spacing.proofs.Places.{at-char, hd-char, tl-at, in-text}

-- a run stands in the text
run-splits : (t cs u : Text) → run t ≡ ok cs u → t ≡ cs ++ u
unfolding run when map
run-splits [] cs u e = let a : cs ≡ [] = cc in let b : u ≡ [] = cc in rw (a, b)
run-splits (c ∷ t) cs u e = go (namefollower c) (run t) (λ ds w f. run-splits t ds w f) e
  where
    go : (b : Bool) (x : Result Text) → ((ds w : Text) → x ≡ ok ds w → t ≡ ds ++ w) → when b (λ _. map (◌∷◌ c) x) (λ _. ok [] (c ∷ t)) ≡ ok cs u → c ∷ t ≡ cs ++ u
    go true (ok ds w) f e = let a : cs ≡ c ∷ ds = cc in let b : u ≡ w = cc in rw (a, b) (ap (◌∷◌ c) (f ds w refl))
    go true fail f e = let z : ◌≡◌ {A = ℕ} 0 1 = cc in absurd (omega arith)
    go false x f e = let a : cs ≡ [] = cc in let b : u ≡ c ∷ t = cc in rw (a, b)

no-dot : (cs : Text) → length cs ≡ 0 → last-dot cs ≡ false
unfolding last-dot
no-dot [] e = refl
no-dot (c ∷ cs) e = absurd (omega arith)

-- the last character of a run, in the text
last-at : (cs u : Text) (k : ℕ) → length cs ≡ k + 1 → last-dot cs ≡ ch 0x2e (get_or (cs ++ u) k 0)
unfolding last-dot
last-at [] u k e = absurd (omega arith)
last-at (c ∷ []) u zero e = refl
last-at (c ∷ []) u (suc k) e = absurd (omega arith)
last-at (c ∷ d ∷ cs) u zero e = absurd (omega arith)
last-at (c ∷ d ∷ cs) u (suc k) e = last-at (d ∷ cs) u k (omega arith)

module _ (s : Text) (p q : ℕ) (h : p < q) (l : q ≤ length s) where
  pub stops-short : q ≡ p + 1 → Stops s p q false
  stops-short e cs f g = rw (no-dot cs (omega arith))

  -- the character before q is the last of the run
  last-here : (cs : Text) → run (drop (p + 1) s) ≡ ok cs (drop q s) → q ≡ p + 1 + length cs → (q ≡ p + 1 → ⊥) → last-dot cs ≡ ch 0x2e (get_or s (q - 1) 0)
  last-here cs f g n =
      let k : length cs ≡ (q - p - 2) + 1 = omega (arith, n) in
      let i : p + 1 + (q - p - 2) ≡ q - 1 = omega (arith, n) in
      last-at cs (drop q s) (q - p - 2) k
      ∙ ap (λ (t : Text). ch 0x2e (get_or t (q - p - 2) 0)) (sym (run-splits (drop (p + 1) s) cs (drop q s) f))
      ∙ ap (ch 0x2e) (get_or-drop (p + 1) s (q - p - 2) 0 ∙ ap (λ (m : ℕ). get_or s m 0) i)

  module _ (n : q ≡ p + 1 → ⊥) where
    pub stops-no-dot : (get_or s (q - 1) 0 ≡ 0x2e → ⊥) → Stops s p q false
    unfolding ch
    stops-no-dot e cs f g = rw (last-here cs f g n, ne_eqb _ _ e)

    module _ (e : get_or s (q - 1) 0 ≡ 0x2e) where
      dot-here : (cs : Text) → run (drop (p + 1) s) ≡ ok cs (drop q s) → q ≡ p + 1 + length cs → last-dot cs ≡ true
      unfolding ch
      dot-here cs f g = last-here cs f g n ∙ eq-eqb _ _ e

      pub stops-open : skip (drop q s) ≡ fail → Stops s p q false
      unfolding ending
      stops-open k cs f g = rw (dot-here cs f g, k)

      pub stops_then : (w : ℕ) (r : Bool) → Skipped s q w → r ≡ ended (drop w s) → Stops s p q r
      unfolding ending
      stops_then w r k m cs f g = rw (dot-here cs f g, k.past) m

-- the name: its run, less a full stop
pub no-use : (s : Text) (p : ℕ) → namestart (hd (drop p s)) ≡ false → read-use (drop p s) ≡ fail
unfolding read-use guard
no-use s p e = rw e

-- a run that begins a name: its first character, and the run after that
pub record First (s : Text) (p q : ℕ) (cs : Text) : Type 0 where
  pub others : Text
  pub whole : cs ≡ hd (drop p s) ∷ others
  pub following : run (drop (p + 1) s) ≡ ok others (drop q s)

first_of : (c : ℕ) (t cs u : Text) → namestart c ≡ true → run (c ∷ t) ≡ ok cs u → (x : Result Text) → run t ≡ x → map (◌∷◌ c) x ≡ ok cs u
unfolding run when namefollower
first_of c t cs u e f x g = (rw (e, g) at f)

pub first : (s : Text) (p q : ℕ) (cs : Text) → namestart (hd (drop p s)) ≡ true → run (drop p s) ≡ ok cs (drop q s) → First s p q cs
unfolding map
first s p q cs e f = go (run (drop (p + 1) s)) refl (first_of (get_or s p 0) (drop (p + 1) s) cs (drop q s) (rw (hd-char s p i) at e) (rw (at-char s p i) at f) (run (drop (p + 1) s)) refl)
  where
    i : p < length s
    i = in-text s p namestart namestart-end e

    go : (x : Result Text) → run (drop (p + 1) s) ≡ x → map (◌∷◌ (get_or s p 0)) x ≡ ok cs (drop q s) → First s p q cs
    go (ok ds w) g h =
        let a : cs ≡ get_or s p 0 ∷ ds = cc in let b : w ≡ drop q s = cc in
        record { others = ds; whole = a ∙ ap (λ (k : ℕ). k ∷ ds) (sym (hd-char s p i)); following = g ∙ ap (λ (z : Text). ok ds z) b }
    go fail g h = let z : ◌≡◌ {A = ℕ} 0 1 = cc in absurd (omega arith)

module _ (s : Text) (p q : ℕ) (cs : Text) (e : namestart (hd (drop p s)) ≡ true) (v : First s p q cs) where
  pub use-whole : last-dot v.others && ending (skip (drop q s)) ≡ false → read-use (drop p s) ≡ ok cs (drop q s)
  unfolding read-use guard less-dot map when
  use-whole f = rw (e, tl-at s p, v.following, f, v.whole)

  pub use-stopped : last-dot v.others && ending (skip (drop q s)) ≡ true → read-use (drop p s) ≡ ok (hd (drop p s) ∷ but_last v.others) (0x2e ∷ drop q s)
  unfolding read-use guard less-dot map when
  use-stopped f = rw (e, tl-at s p, v.following, f)

run_length : (s : Text) (p q : ℕ) (cs : Text) → p ≤ length s → q ≤ length s → run (drop p s) ≡ ok cs (drop q s) → q ≡ p + length cs
run_length s p q cs h l f = omega (arith, simp (length-append, length-drop) at (ap length (run-splits (drop p s) cs (drop q s) f)))

-- all but the last of a list, and the last
record Lasting (cs : Text) : Type 0 where
  last : ℕ
  whole : cs ≡ but_last cs ++ last ∷ []

put_back : (cs : Text) → (length cs ≡ 0 → ⊥) → Lasting cs
unfolding but_last
put_back [] e = absurd (e refl)
put_back (c ∷ []) e = record { last = c; whole = refl }
put_back (c ∷ d ∷ cs) e = let r = put_back (d ∷ cs) (λ z. omega arith) in record { last = r.last; whole = ap (◌∷◌ c) r.whole }

dotted : (cs : Text) → last-dot cs ≡ true → length cs ≡ 0 → ⊥
dotted cs e h = clash (no-dot cs h) e

push-but-last : (c : ℕ) (cs : Text) → (length cs ≡ 0 → ⊥) → but_last (c ∷ cs) ≡ c ∷ but_last cs
unfolding but_last
push-but-last c [] e = absurd (e refl)
push-but-last c (d ∷ cs) e = refl

both_left : (a b : Bool) → a && b ≡ true → a ≡ true
both_left a b e = and_left a b e

module _ (s : Text) (p : ℕ) (o : List ℕ) (at : ℕ) (m : List ℕ) (q b : ℕ) (e : namestart (hd (drop p s)) ≡ true)
    (v : Copied (λ x. run (drop p s) ≡ x) s p 0 o at m q b) (r : Bool) (w : Stops s p q r) where
  begun : First s p q v.chars
  begun = first s p q v.chars e v.same

  ends_at : q ≡ p + 1 + length begun.others
  ends_at = let k = v.onward in let h = run_length s p q v.chars (omega arith) k.within v.same in let l = ap length begun.whole in omega arith

  pub use-run : r ≡ false → Copied (λ x. read-use (drop p s) ≡ x) s p 0 o at m q b
  use-run f = record {
    chars = v.chars;
    same = use-whole s p q v.chars e begun (sym (w begun.others begun.following ends_at) ∙ f);
    onward = v.onward;
    wrote = v.wrote;
    cells = v.cells;
    count = v.count;
  }

  module _ (f : r ≡ true) where
    stopped : last-dot begun.others && ending (skip (drop q s)) ≡ true
    stopped = sym (w begun.others begun.following ends_at) ∙ f

    others-some : length begun.others ≡ 0 → ⊥
    others-some = dotted begun.others (both_left _ _ stopped)

    pub stop-on : p < q - 1
    stop-on = let h = ends_at in let n = others-some in omega (arith, n)

    stop-here : drop (q - 1) s ≡ 0x2e ∷ drop q s
    unfolding ch
    stop-here =
        let k = v.onward in let h = ends_at in let n : q ≡ p + 1 → ⊥ = λ z. others-some (omega arith) in
        let d : get_or s (q - 1) 0 ≡ 0x2e = eqb-true _ _ (sym (last-here s p q (omega (arith, n)) k.within begun.others begun.following ends_at n) ∙ both_left _ _ stopped) in
        let i : q - 1 + 1 ≡ q = omega (arith, n) in
        at-char s (q - 1) (omega (arith, n)) ∙ rw (d, i)

    chars-some : length v.chars ≡ 0 → ⊥
    chars-some z = let l = ap length begun.whole in omega arith

    pub use-stop : b ≤ length m → length m ≡ length o → Copied (λ x. read-use (drop p s) ≡ x) s p 0 o at m (q - 1) (b - 1)
    use-stop h g =
        let c = v.cells in let k = v.onward in let d = v.count in let n = stop-on in
        let z = (put_back v.chars chars-some).whole in
        let l : length v.chars ≡ length (but_last v.chars) + 1 = omega (arith, simp length-append at (ap length z)) in
        record {
          chars = but_last v.chars;
          same = use-stopped s p q v.chars e begun stopped ∙ ap (λ (x : Text). ok x (0x2e ∷ drop q s))
              (sym (ap but_last begun.whole ∙ push-but-last _ begun.others others-some)) ∙ ap (λ (x : Text). ok (but_last v.chars) x)
              (sym stop-here);
          onward = record { on = omega arith; within = omega arith };
          wrote = sym (take-take (b - 1) b m (omega arith)) ∙ ap (take (b - 1))
              (v.wrote ∙ ap (λ (x : List ℕ). take at o ++ x) z ∙ sym (append_assoc (take at o) (but_last v.chars) _)) ∙ take_at
              (take at o ++ but_last v.chars) _ (b - 1) (simp (length-append, length-take-le at o (omega arith)) (omega arith));
          cells = omega arith;
          count = omega arith;
        }
