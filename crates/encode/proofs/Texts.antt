-- How characters are spelt, one by one and in a row.
use mathlib.Core.Path.{◌≡◌, refl, sym, ap, ◌∙◌}
use mathlib.Core.Bool.{Bool, true, false}
use mathlib.Core.Logic.{⊎_elim}
use mathlib.Core.List.{List, [], ◌∷◌, ◌++◌, append-nil}
use Prim.Native.Nat.{ℕ, suc, ◌+◌, ◌≤◌, ◌<◌}
use native.Mathlib.Omega.{arith}
use lib.ListN.{length, get_or, take}
use lib.Seq.{take-suc, take_all}
use borrow.Author.Tests.{ne_eqb}
use Rattle.text.specs.Lists.{Text, concat_map}
use Rattle.text.proofs.Lists.{concat-append}
use Rattle.text.proofs.Tests.{split}
use Rattle.tree.specs.Tokens.{capped}
use Rattle.xml.specs.Bytes.{escape}
use Rattle.xml.proofs.References.{reference-small}
use Rattle.xml.proofs.Escapes.{Escaped, as-reference, as-itself, escaped}
use Rattle.encode.specs.Out.{enc, spelt, Wrote}
use Rattle.encode.specs.declared.Spelling.TheVariants.{Plain}
use Rattle.encode.proofs.Puts.{enc-one, and_then, wrote-text}

pub content-other : (c : ℕ) → (c ≡ 0x26 → ⊥) → (c ≡ 0x3c → ⊥) → (c ≡ 0x3e → ⊥) → (c ≡ 0xd → ⊥) → escape false c ≡ c ∷ []
unfolding escape
content-other c n₁ n₂ n₃ n₄ = rw (ne_eqb c 0x26 n₁, ne_eqb c 0x3c n₂, ne_eqb c 0x3e n₃, ne_eqb c 0xd n₄)

pub value-other : (c : ℕ) → (c ≡ 0x27 → ⊥) → (c ≡ 0xa → ⊥) → (c ≡ 0x9 → ⊥) → escape true c ≡ escape false c
unfolding escape
value-other c n₁ n₂ n₃ = rw (ne_eqb c 0x27 n₁, ne_eqb c 0xa n₂, ne_eqb c 0x9 n₃)

-- a number above all characters has no other spelling
large : (v : Bool) (n : ℕ) → 0x110000 ≤ n → escape v n ≡ n ∷ []
large v n h = go (escaped v n)
  where
    go : {t : Text} → Escaped v n t → t ≡ n ∷ []
    go (as-reference k) = absurd (let l = reference-small k in omega arith)
    go (as-itself e) = refl

-- a character in content or in a value, spelt by the table
pub escape-capped : (v : Bool) (n : ℕ) → enc (concat_map (escape v) (capped n ∷ [])) ≡ enc (concat_map (escape v) (n ∷ []))
escape-capped v n = ⊎_elim
    (λ l. let e : capped n ≡ n = omega arith in rw e)
    (λ l.
    let x : escape v (capped n) ≡ capped n ∷ [] = large v (capped n) (omega arith) in
    let y : escape v n ≡ n ∷ [] = large v n l in
    ap (λ (t : Text). enc (t ++ [])) x ∙ again n ∙ sym (ap (λ (t : Text). enc (t ++ [])) y))
    (split n 0x110000)
  where
    twice : (n : ℕ) → capped (capped n) ≡ capped n
    twice n = omega arith

    again : (n : ℕ) → enc (capped n ∷ []) ≡ enc (n ∷ [])
    again n = enc-one (capped n) ∙ ap Rattle.text.specs.Utf8.utf8 (twice n) ∙ sym (enc-one n)

-- one character more of a list is written, each as f spells it
pub text-on : {l p q q' : ℕ} {o o₁ o' : List ℕ} (f : ℕ → Text) (xs : List ℕ) (i : ℕ) → i < length xs
    → Wrote l p o q o₁ (concat_map f (take i xs)) → Wrote l q o₁ q' o' (f (get_or xs i 0)) → Wrote l p o q' o' (concat_map f (take (i + 1) xs))
text-on f xs i h a b =
    let s : i + 1 ≡ suc i = omega arith in
    let e : take (i + 1) xs ≡ take i xs ++ get_or xs i 0 ∷ [] = rw (s, take-suc xs i 0 h) in
    wrote-text (ap (concat_map f) e ∙ concat-append f (take i xs) (get_or xs i 0 ∷ []) ∙ ap (λ (t : Text). concat_map f (take i xs) ++ t) (append-nil (f (get_or xs i 0)))) (and_then a b)

pub text-end : {l p q : ℕ} {o o₁ : List ℕ} (f : ℕ → Text) (xs : List ℕ) (i : ℕ) → length xs ≤ i → Wrote l p o q o₁ (concat_map f (take i xs)) → Wrote l p o q o₁ (concat_map f xs)
text-end f xs i h w = wrote-text (ap (concat_map f) (sym (take_all i xs h))) w

-- in a name characters stand as they are
pub spelt-plain : (n : Text) → concat_map (spelt Plain) n ≡ n
spelt-plain [] = refl
spelt-plain (c ∷ cs) = ap (λ (t : Text). c ∷ t) (spelt-plain cs)
