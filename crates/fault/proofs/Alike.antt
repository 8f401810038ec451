-- Common characters, one by one; what a terminal's tokens say.
use mathlib.Core.Bool.{true, false}
use mathlib.Core.List.{List, [], ◌∷◌, ◌++◌, append-nil}
use mathlib.Core.Logic.{◌⊎◌, inl, inr, ⊎_elim}
use mathlib.Core.Path.{◌≡◌, refl, sym, ap, ◌∙◌}
use Prim.Native.Nat.{ℕ, suc, ◌+◌, ◌<◌, ◌≤◌}
use native.Mathlib.Omega.{arith}
use lib.Dec.{ltb, eqb}
use lib.ListN.{length, get_or, take, drop, length-drop, drop_of_length-le}
use lib.Seq.{drop-cons, drop-drop, get_or-take, get_or-drop, length-take-le, take-append_seam}
use borrow.Author.Tests.{eq-eqb, ne_eqb, eqb-true, eqb-false, lt-ltb, le-ltb}
use Rattle.text.specs.Lists.{Text, pick}
use Rattle.text.proofs.Tests.{clash}
use Rattle.tree.specs.Tree.{string, hex, Terminal, literal, inclusion, exclusion, insertion}
use Rattle.tree.specs.Tokens.{encode, member_tokens, terminal_tokens, capped}
use Rattle.tokens.proofs.Walk.{by-mark}
use Rattle.terminals.specs.Sound.{SoundTerminal}
use Rattle.terminals.specs.Places.{TerminalAt, Beside}
use Rattle.terminals.proofs.MemberPlaces.{first-at, cap}
use Rattle.viable.specs.Stands.{alike, begun_by}
use Rattle.viable.proofs.Parts.{alike-left}
use Rattle.rules.specs.Ready.{Token}
use Rattle.chart.specs.Code.{next_kind}
use Rattle.fault.specs.Far.{Agrees, Begun}

alike-nil : (cs : Text) → alike cs [] ≡ 0
alike-nil [] = refl
alike-nil (c ∷ cs) = refl

abbrev part : List ℕ → ℕ → ℕ → Text
part Tb at n = take n (drop at Tb)

part-long : (Tb : List ℕ) (at n : ℕ) → at + n ≤ length Tb → length (part Tb at n) ≡ n
part-long Tb at n h = length-take-le n (drop at Tb) (omega (arith, length-drop at Tb))

pub record Agreeing (Tb : List ℕ) (at n : ℕ) (R : Text) (i k : ℕ) : Type 0 where
  pub low : k ≤ n
  pub on : i + k ≤ length R
  pub is : alike (part Tb at n) (drop i R) ≡ k + alike (drop k (part Tb at n)) (drop (i + k) R)

module _ {Tb : List ℕ} {at n : ℕ} {R : Text} {i : ℕ} (b : Beside Tb at n R i) where
  pub agreeing-start : Agreeing Tb at n R i 0
  agreeing-start = record {
    low = omega arith;
    on = omega (arith, b.on);
    is = first (alike (part Tb at n) (drop i R))
        (ap (λ (x : ℕ). alike (part Tb at n) (drop x R)) (let z : i ≡ i + 0 = omega arith in z));
  }
    where
      first : (x : ℕ) {y : ℕ} → x ≡ y → x ≡ 0 + y
      first x e = omega arith

  pub agreeing-next : {k : ℕ} → Agreeing Tb at n R i k → (k < n) × (i + k < length R) × (get_or Tb (at + k) 0 ≡ get_or R (i + k) 0) → Agreeing Tb at n R i (k + 1)
  agreeing-next {k} w h = record { low = omega (arith, h.0); on = omega (arith, h.1); is = go }
    where
      xs : Text
      xs = part Tb at n

      same : eqb (get_or (part Tb at n) k 0) (get_or R (i + k) 0) ≡ true
      same = eq-eqb (get_or (part Tb at n) k 0) (get_or R (i + k) 0) (get_or-take n (drop at Tb) k 0 h.0 ∙ get_or-drop at Tb k 0 ∙ h.2)

      step : alike (drop k (part Tb at n)) (drop (i + k) R) ≡ suc (alike (drop (suc k) (part Tb at n)) (drop (suc (i + k)) R))
      step = rw (drop-cons (part Tb at n) k 0 (omega (arith, h.0, part-long Tb at n b.inside)), drop-cons R (i + k) 0 h.1, same, alike)

      go : alike (part Tb at n) (drop i R) ≡ (k + 1) + alike (drop (k + 1) (part Tb at n)) (drop (i + (k + 1)) R)
      go =
          let e : alike (drop (suc k) (part Tb at n)) (drop (suc (i + k)) R) ≡ alike (drop (k + 1) (part Tb at n)) (drop (i + (k + 1)) R) =
          ap (λ (x : ℕ). alike (drop x (part Tb at n)) (drop (suc (i + k)) R)) (let z : suc k ≡ k + 1 = omega arith in z)
          ∙ ap (λ (x : ℕ). alike (drop (k + 1) (part Tb at n)) (drop x R)) (let z : suc (i + k) ≡ i + (k + 1) = omega arith in z) in
          omega (arith, w.is, step, e)

  pub agreeing-end : {k : ℕ} → Agreeing Tb at n R i k → (n ≤ k) ⊎ ((length R ≤ i + k) ⊎ ((k < n) × (i + k < length R) × (get_or Tb (at + k) 0 ≡ get_or R (i + k) 0 → ⊥)))
      → k ≡ alike (part Tb at n) (drop i R)
  agreeing-end {k} w h = let z = ⊎_elim short (⊎_elim over differs) h in omega (arith, w.is, z)
    where
      short : n ≤ k → alike (drop k (part Tb at n)) (drop (i + k) R) ≡ 0
      short l = ap (λ (x : Text). alike x (drop (i + k) R)) (drop_of_length-le (part Tb at n) {i = k} (omega (arith, part-long Tb at n b.inside)))

      over : length R ≤ i + k → alike (drop k (part Tb at n)) (drop (i + k) R) ≡ 0
      over l = ap (λ (x : Text). alike (drop k (part Tb at n)) x) (drop_of_length-le R {i = i + k} l) ∙ alike-nil (drop k (part Tb at n))

      differs : (k < n) × (i + k < length R) × (get_or Tb (at + k) 0 ≡ get_or R (i + k) 0 → ⊥) → alike (drop k (part Tb at n)) (drop (i + k) R) ≡ 0
      differs d =
          let ne = ne_eqb (get_or (part Tb at n) k 0) (get_or R (i + k) 0) (λ z. d.2 (sym (get_or-take n (drop at Tb) k 0 d.0 ∙ get_or-drop at Tb k 0) ∙ z)) in
          rw (drop-cons (part Tb at n) k 0 (omega (arith, d.0, part-long Tb at n b.inside)), drop-cons R (i + k) 0 d.1, ne, alike)

-- by the numbers of a terminal's token: how much of it a text begins with
unfoldable pub begun_of : List ℕ → Text → ℕ
begun_of xs t = pick (ltb (get_or xs 0 0) 8) (alike (take (get_or xs 1 0) (drop 2 xs)) t) (pick (ltb (get_or xs 0 0) 12) (alike (take 1 (drop 1 xs)) t) 0)

quoted-part : (cs more : Text) → take (length cs) ((cs ++ []) ++ more) ≡ cs
quoted-part cs more = ap (λ (x : Text). take (length cs) (x ++ more)) (append-nil cs) ∙ take-append_seam cs more

begun-tokens : (x : Terminal) → SoundTerminal x → (more : List ℕ) (t : Text) → begun_of (encode (terminal_tokens x) ++ more) t ≡ begun_by x t
unfolding begun_of
begun-tokens (literal m (string cs)) s more t =
    by-mark (λ k. begun_of ((4 + k) ∷ length cs ∷ ((cs ++ []) ++ more)) t ≡ alike cs t) (rw quoted-part) (rw quoted-part) (rw quoted-part) (rw quoted-part) m
begun-tokens (literal m (hex n)) s more t =
    by-mark (λ k. begun_of ((8 + k) ∷ capped n ∷ more) t ≡ alike (n ∷ []) t) same same same same m
  where
    same : alike (capped n ∷ []) t ≡ alike (n ∷ []) t
    same = ap (λ (y : ℕ). alike (y ∷ []) t) (cap n s)
begun-tokens (inclusion m ms) s more t = by-mark (λ k. begun_of ((12 + k) ∷ (encode (member_tokens ms) ++ more)) t ≡ 0) refl refl refl refl m
begun-tokens (exclusion m ms) s more t = by-mark (λ k. begun_of ((16 + k) ∷ (encode (member_tokens ms) ++ more)) t ≡ 0) refl refl refl refl m
begun-tokens (insertion (string cs)) s more t = refl
begun-tokens (insertion (hex n)) s more t = refl

module _ {Tb : List ℕ} {at : ℕ} {x : Terminal} (w : TerminalAt Tb at x) (t : Text) where
  whole : begun_of (drop at Tb) t ≡ begun_by x t
  whole = rw w.stands (begun-tokens x w.sound w.more t)

  pub begun-quoted : get_or Tb at 0 < 8 → alike (take (get_or Tb (at + 1) 0) (drop (at + 2) Tb)) t ≡ begun_by x t
  unfolding begun_of
  begun-quoted h = sym (rw (first-at Tb at, lt-ltb (get_or Tb at 0) 8 h, get_or-drop at Tb 1 0, drop-drop 2 at Tb)) ∙ whole

  pub begun-coded : 8 ≤ get_or Tb at 0 → get_or Tb at 0 < 12 → alike (take 1 (drop (at + 1) Tb)) t ≡ begun_by x t
  unfolding begun_of
  begun-coded h l = sym (rw (first-at Tb at, le-ltb (get_or Tb at 0) 8 h, lt-ltb (get_or Tb at 0) 12 l, drop-drop 1 at Tb)) ∙ whole

  pub begun-none : 12 ≤ get_or Tb at 0 → 0 ≡ begun_by x t
  unfolding begun_of
  begun-none h = sym (rw (first-at Tb at, le-ltb (get_or Tb at 0) 8 (omega arith), le-ltb (get_or Tb at 0) 12 h)) ∙ whole

-- two terminals with the same tokens are begun alike
pub begun-same : {Tb : List ℕ} {at : ℕ} {x y : Terminal} → TerminalAt Tb at x → TerminalAt Tb at y → (t : Text) → begun_by x t ≡ begun_by y t
begun-same v w t = sym (whole v t) ∙ whole w t

-- one character
module _ {Tb : List ℕ} {at n : ℕ} {R : Text} {i k : ℕ} where
  pub agrees-end : n ≤ k → Agrees Tb at n R i k false
  agrees-end h = record { yes = λ e. absurd (clash refl e); no = λ _. inl h }

  pub agrees-over : length R ≤ i + k → Agrees Tb at n R i k false
  agrees-over h = record { yes = λ e. absurd (clash refl e); no = λ _. inr (inl h) }

  pub agrees-by : k < n → i + k < length R → Agrees Tb at n R i k (eqb (get_or Tb (at + k) 0) (get_or R (i + k) 0))
  agrees-by h l = record {
    yes = λ e. (h, l, eqb-true (get_or Tb (at + k) 0) (get_or R (i + k) 0) e);
    no = λ e. inr (inr (h, l, eqb-false (get_or Tb (at + k) 0) (get_or R (i + k) 0) e));
  }

-- what is begun ends within the record
pub alike-within : (xs R : Text) (i : ℕ) {b : ℕ} → i ≤ length R → b ≡ alike xs (drop i R) → i + b ≤ length R
alike-within xs R i h e = omega (arith, alike-left xs (drop i R), length-drop i R)

module _ {Tb c : List ℕ} {R : Text} {p i b : ℕ} where
  pub begun-terminal : next_kind c p ≡ 1 → ((x : Terminal) → Token Tb p x → b ≡ begun_by x (drop i R)) → Begun Tb c R p i b
  begun-terminal z f = record { terminal = λ _. f; other = λ n. absurd (n z) }

pub begun-other : {Tb c : List ℕ} {R : Text} {p i : ℕ} → (next_kind c p ≡ 1 → ⊥) → Begun Tb c R p i 0
begun-other n = record { terminal = λ z. absurd (n z); other = λ _. refl }
