-- Loops that read and write, and what falls in a cycle of calls.
use mathlib.Core.Path.{◌≡◌, refl, sym, ap, ◌∙◌}
use mathlib.Core.List.{List, [], ◌∷◌, ◌++◌, append_assoc, append-nil}
use Prim.Native.Nat.{ℕ, suc, ◌+◌, ◌*◌, ◌-◌, ◌<◌, ◌≤◌}
use native.Mathlib.Omega.{arith}
use lib.ListN.{length, drop, take}
use Rattle.text.specs.Lists.{Text}
use Rattle.tree.specs.Tokens.{Token, numbers, encode}
use Rattle.syntax.specs.Result.{Result, ok, fail, hd, map}
use Rattle.spacing.specs.Answers.{Room, Read}
use Rattle.spacing.proofs.Places.{in-char}

pub encode-append : (xs ys : List Token) → encode (xs ++ ys) ≡ encode xs ++ encode ys
encode-append [] ys = refl
encode-append (x ∷ xs) ys = ap (λ (l : List ℕ). numbers x ++ l) (encode-append xs ys) ∙ sym (append_assoc (numbers x) (encode xs) (encode ys))

pub map_same : {A : Type 0} (x : Result A) → map (λ v. v) x ≡ x
unfolding map
map_same (ok v u) = refl
map_same fail = refl

pub map-twice : {A B C : Type 0} (f : B → C) (g : A → B) (x : Result A) → map f (map g x) ≡ map (λ v. f (g v)) x
unfolding map
map-twice f g (ok v u) = refl
map-twice f g fail = refl

-- Where a loop is: what it wrote for the characters from p to i, and how the rest leads to the whole.
pub record Context {A : Type 0} (E : ℕ → Result A → Type 0) (code : A → List ℕ) (p : ℕ) (o : List ℕ) (at i : ℕ) (m : List ℕ) (j : ℕ) : Type 0 where
  pub wrap : A → A
  pub written : List ℕ
  pub leads : (x : Result A) → E i x → E p (map wrap x)
  pub codes : (v : A) → code (wrap v) ≡ written ++ code v
  pub wrote : take j m ≡ take at o ++ written
  pub cells : j + 3 * p ≤ at + 3 * i
  pub on : p ≤ i

module _ {A : Type 0} (E : ℕ → Result A → Type 0) (code : A → List ℕ) where
  pub context-start : (p : ℕ) (o : List ℕ) (at : ℕ) → Context E code p o at p o at
  context-start p o at = record {
    wrap = λ v. v;
    written = [];
    leads = λ x e. rw (map_same x) e;
    codes = λ v. refl;
    wrote = sym (append-nil (take at o));
    cells = omega arith;
    on = omega arith;
  }

  pub context-on : {p : ℕ} {o : List ℕ} {at i : ℕ} {m : List ℕ} {j w : ℕ} {n : List ℕ} {k : ℕ} → Context E code p o at i m j
      → Context E code i m j w n k → Context E code p o at w n k
  context-on {o = o} {at = at} a b = let c = a.cells in let d = b.cells in let h = a.on in let l = b.on in record {
    wrap = λ v. a.wrap (b.wrap v);
    written = a.written ++ b.written;
    leads = λ x e. rw (sym (map-twice a.wrap b.wrap x)) (a.leads (map b.wrap x) (b.leads x e));
    codes = λ v. a.codes (b.wrap v) ∙ ap (λ (l : List ℕ). a.written ++ l) (b.codes v) ∙ sym (append_assoc a.written b.written (code v));
    wrote = b.wrote ∙ ap (λ (l : List ℕ). l ++ b.written) a.wrote ∙ append_assoc (take at o) a.written b.written;
    cells = omega arith;
    on = omega arith;
  }

-- room after what is written
module _ {s : Text} {p : ℕ} {o : List ℕ} {at : ℕ} (r : Room s p o at) where
  pub room-on : (w : ℕ) (m : List ℕ) (j : ℕ) → w ≤ length s → j + 3 * p ≤ at + 3 * w → length m ≡ length o → Room s w m j
  room-on w m j h c l = let a = r.cells in let f = r.few in record { place = h; cells = omega arith; few = omega arith }

  pub room-read : {A : Type 0} {E : Result A → Type 0} {code : A → List ℕ} {lo : ℕ} {m : List ℕ} {q b : ℕ} → Read E code s p lo o at m q b → length m ≡ length o → Room s q m b
  room-read {m = m} {q = q} {b = b} v l = room-on q m b v.onward.within v.cells l

  pub room-cell : p < length s → at < length o
  room-cell h = let a = r.cells in omega arith

-- what a loop keeps
pub record Looping {A : Type 0} (E : ℕ → Result A → Type 0) (code : A → List ℕ) (s : Text) (p : ℕ) (o : List ℕ) (at i : ℕ) (m : List ℕ) (j : ℕ) : Type 0 where
  pub context : Context E code p o at i m j
  pub room : Room s i m j
  pub same : length m ≡ length o

pub loop-start : {A : Type 0} (E : ℕ → Result A → Type 0) (code : A → List ℕ) (s : Text) (p : ℕ) (o : List ℕ) (at : ℕ) → Room s p o at → Looping E code s p o at p o at
loop-start E code s p o at r = record { context = context-start E code p o at; room = r; same = refl }

module _ {A : Type 0} {E : ℕ → Result A → Type 0} {code : A → List ℕ} {s : Text} {p : ℕ} {o : List ℕ} {at i : ℕ} {m : List ℕ} {j : ℕ} (l : Looping E code s p o at i m j) where
  pub loop-fail : E i fail → E p fail
  unfolding map
  loop-fail e = l.context.leads fail e

  pub loop-read : (lo low : ℕ) (n : List ℕ) (q b : ℕ) → lo ≤ low → Read (E i) code s i low m j n q b → Read (E p) code s p lo o at n q b
  unfolding map
  loop-read lo low n q b h a = let c = l.context.cells in let d = a.cells in let k = a.onward in record {
    value = l.context.wrap a.value;
    same = l.context.leads (ok a.value (drop q s)) a.same;
    onward = record { on = omega arith; within = k.within };
    wrote = a.wrote ∙ rw (l.context.wrote, l.context.codes a.value) (append_assoc (take at o) l.context.written (code a.value));
    cells = omega arith;
  }

  pub loop-on : (w : ℕ) (n : List ℕ) (b : ℕ) → Context E code i m j w n b → w ≤ length s → length n ≡ length m → Looping E code s p o at w n b
  loop-on w n b c h k = record { context = context-on E code l.context c; room = room-on l.room w n b h c.cells k; same = k ∙ l.same }

-- the measure falls where the place goes on
pub falls-on : (t n p w j k : ℕ) → p < w → w ≤ n → 8 * (n - p) + j ≡ t → k < 8 + j → 8 * (n - w) + k < t
falls-on t n p w j k h l e i = omega arith

pub falls_at : (t n p w j k : ℕ) → p ≤ w → w ≤ n → 8 * (n - p) + j ≡ t → k < j → 8 * (n - w) + k < t
falls_at t n p w j k h l e i = omega arith

pub falls-read : (t j k : ℕ) {A : Type 0} {E : Result A → Type 0} {code : A → List ℕ} {s : Text} {p : ℕ} {o : List ℕ} {at : ℕ} {m : List ℕ} {w b : ℕ}
    → Read E code s p (p + 1) o at m w b → 8 * (length s - p) + j ≡ t → k < 8 + j → 8 * (length s - w) + k < t
falls-read t j k {s = s} {p = p} {w = w} v e i = let n = v.onward in falls-on t (length s) p w j k (omega arith) n.within e i

-- a character that was seen is in the text
pub seen-in : (s : Text) (q c k : ℕ) → c ≡ hd (drop q s) → c ≡ k → k < 0x110000 → q < length s
seen-in s q c k u e h = in-char s q c u (omega arith)

pub less_one : (d : ℕ) → (d ≡ 0 → ⊥) → d ≡ suc (d - 1)
less_one d f = omega (arith, f)
