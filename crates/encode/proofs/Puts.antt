-- What is put after what, and where it comes to lie.
use mathlib.Core.Path.{◌≡◌, refl, sym, ap, ◌∙◌}
use mathlib.Core.Logic.{⊎_elim}
use mathlib.Core.List.{List, [], ◌∷◌, ◌++◌, append_assoc, append-nil}
use Prim.Native.Nat.{ℕ, suc, ◌+◌, ◌≤◌, ◌<◌, min}
use native.Mathlib.Numerals.{add-one}
use native.Mathlib.Omega.{arith}
use lib.ListN.{length, get_or, set, take, drop, length-set, take-append-drop}
use lib.Seq.{take-suc, take-suc-set, append_snoc, drop-set-lt}
use borrow.Author.Tests.{lt-ltb, le-ltb, le-leb, lt-leb}
use Rattle.text.specs.Lists.{Text}
use Rattle.text.specs.Utf8.{utf8}
use Rattle.text.proofs.Tests.{split}
use Rattle.tree.specs.Tokens.{capped}
use Rattle.encode.specs.Out.{State, state, put1, puts, enc, Wrote}

pub puts-append : (l : ℕ) (s : State) (xs ys : List ℕ) → puts l s (xs ++ ys) ≡ puts l (puts l s xs) ys
unfolding puts
puts-append l s [] ys = refl
puts-append l s (x ∷ xs) ys = puts-append l (put1 l s x) xs ys

pub puts_none : (l : ℕ) (s : State) → puts l s [] ≡ s
unfolding puts
puts_none l s = refl

-- two writes, one after the other
pub then : (l : ℕ) (a : State) {b c : State} (xs ys : List ℕ) → b ≡ puts l a xs → c ≡ puts l b ys → c ≡ puts l a (xs ++ ys)
then l a xs ys p q = q ∙ rw p (sym (puts-append l a xs ys))

pub enc-append : (xs ys : Text) → enc (xs ++ ys) ≡ enc xs ++ enc ys
unfolding enc
enc-append [] ys = refl
enc-append (x ∷ xs) ys = rw (enc-append xs ys) (sym (append_assoc (utf8 (capped x)) (enc xs) (enc ys)))

pub enc-none : enc [] ≡ []
unfolding enc
enc-none = refl

pub enc-one : (c : ℕ) → enc (c ∷ []) ≡ utf8 (capped c)
unfolding enc
enc-one c = append-nil (utf8 (capped c))

module _ {l : ℕ} where
  pub and_then : {p p₁ p₂ : ℕ} {o o₁ o₂ : List ℕ} {xs ys : Text} → Wrote l p o p₁ o₁ xs → Wrote l p₁ o₁ p₂ o₂ ys → Wrote l p o p₂ o₂ (xs ++ ys)
  and_then {p = p} {o = o} {xs = xs} {ys = ys} a b = record { is = rw (enc-append xs ys) (then l (state p o) (enc xs) (enc ys) a.is b.is) }

  pub wrote-bytes : {p p₁ : ℕ} {o o₁ : List ℕ} (bs : List ℕ) {t : Text} → state p₁ o₁ ≡ puts l (state p o) bs → enc t ≡ bs → Wrote l p o p₁ o₁ t
  wrote-bytes bs e q = record { is = rw q e }

  pub wrote_none : {p : ℕ} {o : List ℕ} → Wrote l p o p o []
  wrote_none {p} {o} = record { is = rw enc-none (sym (puts_none l (state p o))) }

  pub wrote_as : {p p₁ : ℕ} {o o₁ : List ℕ} {t u : Text} → enc u ≡ enc t → Wrote l p o p₁ o₁ t → Wrote l p o p₁ o₁ u
  wrote_as e w = record { is = rw e w.is }

  pub wrote-text : {p p₁ : ℕ} {o o₁ : List ℕ} {t u : Text} → u ≡ t → Wrote l p o p₁ o₁ t → Wrote l p o p₁ o₁ u
  wrote-text e w = rw e w

  -- xs and ys were owed; xs was written, and ys is owed
  pub paid : {p p₁ : ℕ} {o o₁ : List ℕ} {fin : State} (xs ys all : Text) → puts l (state p o) (enc all) ≡ fin → all ≡ xs ++ ys
      → Wrote l p o p₁ o₁ xs → puts l (state p₁ o₁) (enc ys) ≡ fin
  paid {p} {p₁} {o} {o₁} xs ys all e s w = rw w.is (sym (puts-append l (state p o) (enc xs) (enc ys)) ∙ rw (← (enc-append xs ys), ← s) e)

-- with no room nothing is stored, and the place counts, up to after the buffer
pub dry : (p : ℕ) (o bs : List ℕ) → p ≤ length o + 1 → puts 0 (state p o) bs ≡ state (min (p + length bs) (length o + 1)) o
unfolding puts
dry p o [] h = let e : min (p + 0) (length o + 1) ≡ p = omega arith in rw e
dry p o (b ∷ bs) h = ⊎_elim
    (λ l.
    let e : min (p + 1 + length bs) (length o + 1) ≡ min (p + suc (length bs)) (length o + 1) = omega arith in
    rw (le-ltb p 0 (omega arith), le-leb p (length o) (omega arith)) (dry (p + 1) o bs (omega arith) ∙ rw e))
    (λ l.
    let e : min (p + length bs) (length o + 1) ≡ min (p + suc (length bs)) (length o + 1) = omega arith in
    rw (le-ltb p 0 (omega arith), lt-leb p (length o) (omega arith)) (dry p o bs h ∙ rw e))
    (split p (length o + 1))

-- with room enough all is stored, and the rest is as it was
pub room : (p l : ℕ) (o bs : List ℕ) → l ≤ length o → p + length bs ≤ l → puts l (state p o) bs ≡ state (p + length bs) (take p o ++ (bs ++ drop (p + length bs) o))
unfolding puts
room p l o [] a h = let e : p + 0 ≡ p = omega arith in rw (e, take-append-drop p o)
room p l o (b ∷ bs) a h =
    let e : p + 1 ≡ suc p = omega arith in
    let q : suc p + length bs ≡ p + suc (length bs) = omega arith in
    let z : p < length o = omega arith in
    rw (lt-ltb p l (omega arith), le-leb p (length o) (omega arith), e)
    (room (suc p) l (set o p b) bs (simp length-set (omega arith)) (omega arith)
    ∙ rw (q, take-suc-set o p b z, drop-set-lt (p + suc (length bs)) o p b (omega arith), append_snoc (take p o) b (bs ++ drop (p + suc (length bs)) o)))

-- one byte more of a list
pub puts-on : (l : ℕ) (a : State) {b c : State} (s : List ℕ) (i : ℕ) → i < length s → b ≡ puts l a (take i s) → c ≡ puts l b (get_or s i 0 ∷ []) → c ≡ puts l a (take (i + 1) s)
puts-on l a s i h p q = then l a (take i s) (get_or s i 0 ∷ []) p q ∙ ap (puts l a) (rw (add-one, take-suc s i 0 h))
