-- The byte order mark: where it is found, and a grammar's text without it.
use mathlib.Core.Path.{◌≡◌, refl, sym, ap, ◌∙◌}
use mathlib.Core.Bool.{Bool, true, false, ◌&&◌, and-false}
use mathlib.Core.List.{List, [], ◌∷◌}
use Prim.Native.Nat.{ℕ, ◌≤◌, ◌<◌}
use native.Mathlib.Omega.{arith}
use native.Mathlib.Decide.{ℕ_discrete}
use lib.Dec.{eqb, eqb→eq}
use lib.ListN.{length, get_or, drop}
use borrow.Author.Tests.{eq-eqb, ne_eqb}
use Rattle.text.specs.Lists.{Text, pick}
use Rattle.text.specs.Utf8.{Utf8, unmarked}
use Rattle.text.specs.Decode.{Decoded, text, not-utf8, push, decode, unmark}
use Rattle.text.specs.Faults.{marked, after_mark}
use Rattle.text.proofs.Tests.{clash, is_t}
use Rattle.text.proofs.Table.{and_left, and_right}
use Rattle.text.proofs.Decode.{decode-mark, mark-bytes, nothing-text, decode-complete, decode-sound}

pub mark-short : (bs : List ℕ) → length bs < 3 → false ≡ marked bs
mark-short [] h = refl
mark-short (a ∷ []) h = sym (and-false (eqb 0xef a))
mark-short (a ∷ b ∷ []) h = rw (and-false (eqb 0xbb b), and-false (eqb 0xef a))
mark-short (a ∷ b ∷ c ∷ bs) h = absurd (omega arith)

pub mark-long : (bs : List ℕ) → 3 ≤ length bs → marked bs ≡ eqb 0xef (get_or bs 0 0) && (eqb 0xbb (get_or bs 1 0) && (eqb 0xbf (get_or bs 2 0) && true))
mark-long [] h = absurd (omega arith)
mark-long (a ∷ []) h = absurd (omega arith)
mark-long (a ∷ b ∷ []) h = absurd (omega arith)
mark-long (a ∷ b ∷ c ∷ bs) h = refl

module _ (bs : List ℕ) (h : 3 ≤ length bs) where
  pub not_first : (get_or bs 0 0 ≡ 0xef → ⊥) → false ≡ marked bs
  not_first e = sym (mark-long bs h ∙ rw (ne_eqb 0xef (get_or bs 0 0) (λ z. e (sym z))))

  module _ (a : get_or bs 0 0 ≡ 0xef) where
    pub not-second : (get_or bs 1 0 ≡ 0xbb → ⊥) → false ≡ marked bs
    not-second e = sym (mark-long bs h ∙ rw (eq-eqb 0xef (get_or bs 0 0) (sym a), ne_eqb 0xbb (get_or bs 1 0) (λ z. e (sym z))))

    module _ (b : get_or bs 1 0 ≡ 0xbb) where
      pub not_third : (get_or bs 2 0 ≡ 0xbf → ⊥) → false ≡ marked bs
      not_third e = sym (mark-long bs h ∙ rw (eq-eqb 0xef (get_or bs 0 0) (sym a), eq-eqb 0xbb (get_or bs 1 0) (sym b), ne_eqb 0xbf (get_or bs 2 0) (λ z. e (sym z))))

      pub all_three : get_or bs 2 0 ≡ 0xbf → true ≡ marked bs
      all_three e = sym (mark-long bs h ∙ rw (eq-eqb 0xef (get_or bs 0 0) (sym a), eq-eqb 0xbb (get_or bs 1 0) (sym b), eq-eqb 0xbf (get_or bs 2 0) (sym e)))

mark-is : (bs : List ℕ) → true ≡ marked bs → bs ≡ 0xef ∷ 0xbb ∷ 0xbf ∷ drop 3 bs
mark-is [] h = absurd (clash refl (sym h))
mark-is (a ∷ []) h = absurd (clash (and-false (eqb 0xef a)) (sym h))
mark-is (a ∷ b ∷ []) h = absurd (clash (sym (mark-short (a ∷ b ∷ []) (omega arith))) (sym h))
mark-is (a ∷ b ∷ c ∷ bs) h =
    let t = is_t (sym h) in
    let u = and_right (eqb 0xef a) (eqb 0xbb b && (eqb 0xbf c && true)) t in
    let p = eqb→eq 0xef a (and_left (eqb 0xef a) (eqb 0xbb b && (eqb 0xbf c && true)) t) in
    let q = eqb→eq 0xbb b (and_left (eqb 0xbb b) (eqb 0xbf c && true) u) in
    let r = eqb→eq 0xbf c (and_left (eqb 0xbf c) true (and_right (eqb 0xbb b) (eqb 0xbf c && true) u)) in
    rw (← p, ← q, ← r)

mark-fits : (bs : List ℕ) → true ≡ marked bs → 3 ≤ length bs
mark-fits bs h = omega (arith, ap length (mark-is bs h))

unmark-push : (d : Decoded) → unmark (push 0xfeff d) ≡ d
unfolding unmarked
unmark-push (text cs) = refl
unmark-push not-utf8 = refl

-- after the mark; where there is none, the whole
skips : (bs : List ℕ) → true ≡ marked bs → unmark (decode bs) ≡ decode (drop 3 bs)
skips bs h = ap (λ (x : List ℕ). unmark (decode x)) (mark-is bs h) ∙ ap unmark (decode-mark (drop 3 bs)) ∙ unmark-push (decode (drop 3 bs))

keeps : (bs : List ℕ) → false ≡ marked bs → unmark (decode bs) ≡ decode bs
unfolding unmarked
keeps bs h = go (decode bs) refl
  where
    go : (d : Decoded) → decode bs ≡ d → unmark d ≡ d
    go (text []) e = refl
    go (text (c ∷ cs)) e = elim (ℕ_discrete c 0xfeff) as (λ _. unmark (text (c ∷ cs)) ≡ text (c ∷ cs)) [
      | yes f ↦ absurd (clash (sym h) (ap marked (mark-bytes bs cs (e ∙ ap (λ (x : ℕ). text (x ∷ cs)) f))))
      | no f ↦ rw (ne_eqb c 0xfeff f)
    ]
    go not-utf8 e = refl

-- the characters after the mark, if there is one
pub after-mark : (bs : List ℕ) → decode (drop (after_mark bs) bs) ≡ unmark (decode bs)
after-mark bs = go (marked bs) refl
  where
    go : (b : Bool) → b ≡ marked bs → decode (drop (pick b 3 0) bs) ≡ unmark (decode bs)
    go true e = sym (skips bs e)
    go false e = sym (keeps bs e)

pub mark-within : (bs : List ℕ) → after_mark bs ≤ length bs
mark-within bs = go (marked bs) refl
  where
    go : (b : Bool) → b ≡ marked bs → pick b 3 0 ≤ length bs
    go true e = mark-fits bs e
    go false e = omega arith

unmark-text : (d : Decoded) (cs : Text) → unmark d ≡ text cs → (ds : Text) × (d ≡ text ds) × (cs ≡ unmarked ds)
unmark-text (text ds) cs e = (ds, refl, cc)
unmark-text not-utf8 cs e = absurd (nothing-text cs e)

-- what is UTF-8 after the mark is so with it
pub marked-text : (bs : List ℕ) (cs : Text) → Utf8 (drop (after_mark bs) bs) cs → (ds : Text) × Utf8 bs ds × (cs ≡ unmarked ds)
marked-text bs cs u =
    let w = unmark-text (decode bs) cs (sym (after-mark bs) ∙ decode-complete (drop (after_mark bs) bs) cs u) in
    (w.0, decode-sound bs w.0 w.1, w.2)
