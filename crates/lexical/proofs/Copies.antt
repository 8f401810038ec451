-- Characters that are read at a place and written to the table: what the loops keep.
use mathlib.Core.Bool.{Bool, true, false, ◌||◌}
use mathlib.Core.Path.{◌≡◌, refl, sym, ap, ◌∙◌}
use mathlib.Core.List.{List, [], ◌∷◌, ◌++◌, append_assoc, append-nil}
use Prim.Native.Nat.{ℕ, ◌+◌, ◌*◌, ◌<◌, ◌≤◌}
use native.Mathlib.Omega.{arith}
use lib.ListN.{length, get_or, drop, take, set, length-set, length-append}
use lib.Dec.{eqb}
use borrow.Author.Tests.{eq-eqb, ne_eqb, eqb-true}
use Rattle.syntax.proofs.Classes.{clash}
use Rattle.text.specs.Lists.{Text}
use Rattle.tree.specs.Tokens.{capped}
use Rattle.syntax.specs.Syntax.{ch, plain, digit, digit_value, namefollower, quote}
use Rattle.syntax.specs.Result.{Result, ok, fail, hd, tl, map, when, guard}
use Rattle.syntax.specs.Lexical.{run, quoted, digits}
use Rattle.spacing.specs.Answers.{Onward}
use Rattle.lexical.specs.Answers.{Space, Copied, Hexed}
use Rattle.spacing.proofs.Places.{at-char, at-end, tl-at, in-char}
use Rattle.spacing.proofs.Table.{one_more}

abbrev pub prepend : Text → Result Text → Result Text
prepend cs (ok ds u) = ok (cs ++ ds) u
prepend cs fail = fail

prepend-none : (x : Result Text) → prepend [] x ≡ x
prepend-none (ok ds u) = refl
prepend-none fail = refl

prepend-more : (cs : Text) (c : ℕ) (x : Result Text) → prepend cs (map (◌∷◌ c) x) ≡ prepend (cs ++ c ∷ []) x
unfolding map
prepend-more cs c (ok ds u) = ap (λ (l : Text). ok l u) (sym (append_assoc cs (c ∷ []) ds))
prepend-more cs c fail = refl

pub record Copying (F : Text → Result Text) (s : Text) (p : ℕ) (o : List ℕ) (at : ℕ) (m : List ℕ) (i j : ℕ) : Type 0 where
  pub before : Text
  pub same : F (drop p s) ≡ prepend before (F (drop i s))
  pub onward : Onward s p i
  pub wrote : take j m ≡ take at o ++ before
  pub cells : j ≡ at + length before
  pub count : j + p ≤ at + i
  pub len : length m ≡ length o

pub copy_start : (F : Text → Result Text) (s : Text) (p : ℕ) (o : List ℕ) (at : ℕ) → p ≤ length s → Copying F s p o at o p at
copy_start F s p o at h = record {
  before = [];
  same = sym (prepend-none (F (drop p s)));
  onward = record { on = omega arith; within = h };
  wrote = sym (append-nil (take at o));
  cells = omega arith;
  count = omega arith;
  len = refl;
}

module _ (F : Text → Result Text) (s : Text) (p : ℕ) (o : List ℕ) (at : ℕ) (m : List ℕ) (i j : ℕ) (v : Copying F s p o at m i j) where
  pub copy-room : Space s p 0 o at → i < length s → j < length m
  copy-room r h = let a = v.onward in let b = r.cells (omega arith) in let l = v.len in let k = v.count in omega arith

  pub copy-on : (c n : ℕ) → n ≤ length s → i < n → j < length m → F (drop i s) ≡ map (◌∷◌ c) (F (drop n s)) → Copying F s p o at (set m j c) n (j + 1)
  copy-on c n k h b e = let a = v.onward in record {
    before = v.before ++ c ∷ [];
    same = v.same ∙ rw e (prepend-more v.before c (F (drop n s)));
    onward = record { on = omega arith; within = k };
    wrote = one_more o m at j c v.before b v.wrote;
    cells = let e = v.cells in simp length-append (omega arith);
    count = omega arith;
    len = length-set m j c ∙ v.len;
  }

  pub copy-no : F (drop i s) ≡ fail → F (drop p s) ≡ fail
  copy-no e = v.same ∙ rw e

  pub copy-end : (n q : ℕ) → i + n ≤ q → q ≤ length s → F (drop i s) ≡ ok [] (drop q s) → Copied (λ x. F (drop p s) ≡ x) s p n o at m q j
  copy-end n q h k e = let a = v.onward in record {
    chars = v.before;
    same = v.same ∙ rw e (ap (λ (l : Text). ok l (drop q s)) (append-nil v.before));
    onward = record { on = omega arith; within = k };
    wrote = v.wrote;
    cells = v.cells;
    count = omega arith;
  }

-- the steps of a run
pub run-char : (s : Text) (i : ℕ) → i < length s → namefollower (get_or s i 0) ≡ true → run (drop i s) ≡ map (◌∷◌ (get_or s i 0)) (run (drop (i + 1) s))
unfolding run when
run-char s i h e = rw (at-char s i h, e)

pub run-stop : (s : Text) (i : ℕ) → i < length s → namefollower (get_or s i 0) ≡ false → run (drop i s) ≡ ok [] (drop i s)
unfolding run when
run-stop s i h e = rw (at-char s i h, e)

pub run_end : (s : Text) (i : ℕ) → length s ≤ i → run (drop i s) ≡ ok [] (drop i s)
unfolding run
run_end s i h = rw (at-end s i h)

-- the steps of a string whose quote is q
abbrev pub quoted-by : ℕ → Text → Result Text
quoted-by q t = quoted q t false

pub chars-end : (q : ℕ) (s : Text) (i : ℕ) → length s ≤ i → quoted-by q (drop i s) ≡ fail
unfolding quoted
chars-end q s i h = rw (at-end s i h)

module _ (q : ℕ) (s : Text) (i : ℕ) (h : i < length s) where
  pub chars-plain : (get_or s i 0 ≡ q → ⊥) → plain q (get_or s i 0) ≡ true → quoted-by q (drop i s) ≡ map (◌∷◌ (get_or s i 0)) (quoted-by q (drop (i + 1) s))
  unfolding quoted when guard ch
  chars-plain e f = rw (at-char s i h, ne_eqb _ _ e, f)

  pub chars-no : (get_or s i 0 ≡ q → ⊥) → plain q (get_or s i 0) ≡ false → quoted-by q (drop i s) ≡ fail
  unfolding quoted when guard ch
  chars-no e f = rw (at-char s i h, ne_eqb _ _ e, f)

  quote-then : get_or s i 0 ≡ q → quoted-by q (drop i s) ≡ quoted q (drop (i + 1) s) true
  unfolding quoted when ch
  quote-then e = rw (at-char s i h, eq-eqb _ _ e)

  after-quote : (t : Text) → (hd t ≡ q → ⊥) → quoted q t true ≡ ok [] t
  unfolding quoted when ch
  after-quote [] e = refl
  after-quote (c ∷ t) e = rw (ne_eqb _ _ e)

  pub chars-last : get_or s i 0 ≡ q → (hd (drop (i + 1) s) ≡ q → ⊥) → quoted-by q (drop i s) ≡ ok [] (drop (i + 1) s)
  chars-last e f = quote-then e ∙ after-quote (drop (i + 1) s) f

  again : (t : Text) → hd t ≡ q → q < 0x110000 → quoted q t true ≡ map (◌∷◌ q) (quoted q (tl t) false)
  unfolding quoted when ch
  again [] e l = absurd (omega arith)
  again (c ∷ t) e l = rw (eq-eqb _ _ e)

  pub chars-quote : get_or s i 0 ≡ q → hd (drop (i + 1) s) ≡ q → q < 0x110000 → quoted-by q (drop i s) ≡ map (◌∷◌ q) (quoted-by q (drop (i + 2) s))
  chars-quote e f l =
      let k : i + 1 + 1 ≡ i + 2 = omega arith in
      quote-then e ∙ again (drop (i + 1) s) f l ∙ ap (λ (t : Text). map (◌∷◌ q) (quoted q t false)) (tl-at s (i + 1) ∙ ap (λ (n : ℕ). drop n s) k)

-- a quote is a character
pub quote-small : (q : ℕ) → quote q ≡ true → q < 0x110000
unfolding quote
quote-small q e = go (eqb q 0x22) (eqb q 0x27) refl refl e
  where
    go : (a b : Bool) → eqb q 0x22 ≡ a → eqb q 0x27 ≡ b → a || (b || false) ≡ true → q < 0x110000
    go true b f g e = let h : q ≡ 0x22 = eqb-true q 0x22 f in omega arith
    go false true f g e = let h : q ≡ 0x27 = eqb-true q 0x27 g in omega arith
    go false false f g e = absurd (clash refl e)

pub second-in : (s : Text) (i q : ℕ) → hd (drop (i + 1) s) ≡ q → q < 0x110000 → i + 2 ≤ length s
second-in s i q e l = let h = in-char s (i + 1) q (sym e) l in omega arith

-- digits: n is the value of those before i, and v the same number capped
pub capped-next : (n d : ℕ) → capped (16 * capped n + d) ≡ capped (16 * n + d)
capped-next n d = omega arith

pub record Counting (s : Text) (p i v : ℕ) : Type 0 where
  pub value : ℕ
  pub same : digits 0 (drop p s) ≡ digits value (drop i s)
  pub onward : Onward s p i
  pub held : v ≡ capped value

pub counting-start : (s : Text) (p : ℕ) → p ≤ length s → Counting s p p 0
counting-start s p h = record { value = 0; same = refl; onward = record { on = omega arith; within = h }; held = refl }

module _ (s : Text) (p i v : ℕ) (w : Counting s p i v) where
  pub counting-small : v ≤ 0x110000
  counting-small = let e = w.held in omega arith

  pub counting-end : length s ≤ i → Hexed (λ x. digits 0 (drop p s) ≡ x) s p i v
  unfolding digits
  counting-end h = record { value = w.value; same = w.same ∙ rw (at-end s i h); onward = w.onward; held = w.held }

  module _ (h : i < length s) where
    pub counting-stop : digit (get_or s i 0) ≡ false → Hexed (λ x. digits 0 (drop p s) ≡ x) s p i v
    unfolding digits when
    counting-stop e = record { value = w.value; same = w.same ∙ rw (at-char s i h, e); onward = w.onward; held = w.held }

    pub counting-on : digit (get_or s i 0) ≡ true → (r : ℕ) → r ≡ capped (16 * v + digit_value (get_or s i 0)) → Counting s p (i + 1) r
    unfolding digits when
    counting-on e r f = let a = w.onward in record {
      value = 16 * w.value + digit_value (get_or s i 0);
      same = w.same ∙ rw (at-char s i h, e);
      onward = record { on = omega arith; within = omega arith };
      held = f ∙ rw w.held (capped-next w.value (digit_value (get_or s i 0)));
    }

-- the same characters, by another definition
pub recopy : (E F : Result Text → Type 0) → ((x : Result Text) → E x → F x)
    → {s : Text} {p n : ℕ} {o : List ℕ} {at : ℕ} {m : List ℕ} {q b : ℕ} → Copied E s p n o at m q b → Copied F s p n o at m q b
recopy E F f {s = s} {q = q} c = record { chars = c.chars; same = f (ok c.chars (drop q s)) c.same; onward = c.onward; wrote = c.wrote; cells = c.cells; count = c.count }
