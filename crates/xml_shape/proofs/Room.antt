-- Different names have different tokens, so no more than there are cells for tokens can be listed.
use mathlib.Core.Path.{◌≡◌, refl, sym, ap, ◌∙◌}
use mathlib.Core.Bool.{Bool, true, false, ◌||◌}
use mathlib.Core.List.{List, [], ◌∷◌, ◌++◌}
use Prim.Native.Nat.{ℕ, zero, suc, ◌≤◌, ◌<◌}
use native.Mathlib.Omega.{arith}
use lib.Dec.{eqb}
use lib.ListN.{length, get_or, take, drop, length-drop, length-take}
use borrow.Author.Tests.{eq-eqb, eqb-true, eqb-false, ne_eqb}
use Rattle.text.specs.Lists.{Text, any, same, pick}
use Rattle.text.proofs.Tests.{clash}
use Rattle.tree.specs.Tokens.{counted}
use Rattle.tokens.proofs.Names.{held-name}
use Rattle.left_parse.specs.Steps.{Named}
use Rattle.left_parse.proofs.Items.{named-holding}
use Rattle.xml_shape.specs.Names.{Listed, Fresh, name_tokens}

-- 1. Different numbers below m are at most m.
abbrev Below : ℕ → List ℕ → Type 0
Below m [] = Unit {0}
Below m (x ∷ xs) = (x < m) × Below m xs

abbrev Apart : List ℕ → Type 0
Apart [] = Unit {0}
Apart (x ∷ xs) = (any (eqb x) xs ≡ false) × Apart xs

abbrev without : ℕ → List ℕ → List ℕ
without n [] = []
without n (x ∷ xs) = pick (eqb n x) (without n xs) (x ∷ without n xs)

neither : (a b : Bool) → (a || b) ≡ false → (a ≡ false) × (b ≡ false)
neither true b e = absurd (clash e refl)
neither false b e = (refl, e)

absent : (n : ℕ) (xs : List ℕ) → any (eqb n) xs ≡ false → without n xs ≡ xs
absent n [] e = refl
absent n (x ∷ xs) e = let h = neither (eqb n x) (any (eqb n) xs) e in rw h.0 (ap (λ (ys : List ℕ). x ∷ ys) (absent n xs h.1))

one_less : (n : ℕ) (xs : List ℕ) → Apart xs → length xs ≤ suc (length (without n xs))
one_less n [] a = omega arith
one_less n (x ∷ xs) a = go (eqb n x) refl (one_less n xs a.1)
  where
    go : (b : Bool) → eqb n x ≡ b → length xs ≤ suc (length (without n xs)) → suc (length xs) ≤ suc (length (pick b (without n xs) (x ∷ without n xs)))
    go true e h = let q : any (eqb n) xs ≡ false = rw (eqb-true n x e) a.0 in omega (arith, ap length (absent n xs q))
    go false e h = omega arith

lower : (m : ℕ) (xs : List ℕ) → Below (suc m) xs → Below m (without m xs)
lower m [] b = tt
lower m (x ∷ xs) b = go (eqb m x) refl (lower m xs b.1)
  where
    go : (c : Bool) → eqb m x ≡ c → Below m (without m xs) → Below m (pick c (without m xs) (x ∷ without m xs))
    go true e h = h
    go false e h = (less x m b.0 (λ q. eqb-false m x e (sym q)), h)
      where
        less : (x m : ℕ) → x < suc m → (x ≡ m → ⊥) → x < m
        less x m l d = omega arith

missing : (k n : ℕ) (xs : List ℕ) → any (eqb k) xs ≡ false → any (eqb k) (without n xs) ≡ false
missing k n [] e = refl
missing k n (x ∷ xs) e = let h = neither (eqb k x) (any (eqb k) xs) e in go (eqb n x) h.0 (missing k n xs h.1)
  where
    go : (b : Bool) → eqb k x ≡ false → any (eqb k) (without n xs) ≡ false → any (eqb k) (pick b (without n xs) (x ∷ without n xs)) ≡ false
    go true d h = h
    go false d h = rw d h

still-apart : (n : ℕ) (xs : List ℕ) → Apart xs → Apart (without n xs)
still-apart n [] a = tt
still-apart n (x ∷ xs) a = go (eqb n x) (still-apart n xs a.1)
  where
    go : (b : Bool) → Apart (without n xs) → Apart (pick b (without n xs) (x ∷ without n xs))
    go true h = h
    go false h = (missing x n xs a.0, h)

few : (m : ℕ) (xs : List ℕ) → Below m xs → Apart xs → length xs ≤ m
few zero [] b a = omega arith
few zero (x ∷ xs) b a = absurd (omega (arith, b.0))
few (suc m) xs b a = omega (arith, few m (without m xs) (lower m xs b) (still-apart m xs a), one_less m xs a)

-- 2. The tokens of listed names.
same_refl : (n : Text) → same n n ≡ true
same_refl [] = refl
same_refl (c ∷ n) = rw (eq-eqb c c refl) (same_refl n)

one_name : {T : List ℕ} {x k l : ℕ} {m n : Text} → Named T x k m → Named T x l n → m ≡ n
one_name N M = sym (held-name (named-holding N)) ∙ held-name (named-holding M)

abbrev tokens_of : List ℕ → List Text → List ℕ
tokens_of seen [] = []
tokens_of seen (n ∷ ns) = get_or seen (length ns) 0 ∷ tokens_of seen ns

other-token : {T : List ℕ} (seen : List ℕ) (x k : ℕ) (m : Text) (ns : List Text) → Named T x k m → Listed T seen ns → any (same m) ns ≡ false → any (eqb x) (tokens_of seen ns) ≡ false
other-token seen x k m [] N L e = refl
other-token {T} seen x k m (n ∷ ns) N L e =
    let h = neither (same m n) (any (same m) ns) e in
    let d : eqb x (get_or seen (length ns) 0) ≡ false = ne_eqb x (get_or seen (length ns) 0) (λ q. clash h.0 (differ q)) in
    rw d (other-token seen x k m ns N L.1 h.1)
  where
    differ : x ≡ get_or seen (length ns) 0 → same m n ≡ true
    differ q = let M : Named T x L.0.0 n = rw q L.0.1 in rw (one_name N M) (same_refl n)

tokens-apart : (T seen : List ℕ) (ns : List Text) → Listed T seen ns → Fresh ns → Apart (tokens_of seen ns)
tokens-apart T seen [] L f = tt
tokens-apart T seen (n ∷ ns) L f = (other-token seen (get_or seen (length ns) 0) L.0.0 n ns L.0.1 L.1 f.0, tokens-apart T seen ns L.1 f.1)

low-token : {T : List ℕ} {x k : ℕ} {n : Text} → Named T x k n → x < name_tokens
low-token {T} {x} {k} {n} N =
    let l : length (drop x (take 12288 T)) ≡ suc (length (counted n ++ N.more)) = ap length N.stands in
    omega (arith, length-drop x (take 12288 T), length-take 12288 T)

tokens-below : (T seen : List ℕ) (ns : List Text) → Listed T seen ns → Below name_tokens (tokens_of seen ns)
tokens-below T seen [] L = tt
tokens-below T seen (n ∷ ns) L = (low-token L.0.1, tokens-below T seen ns L.1)

as_many : (seen : List ℕ) (ns : List Text) → length (tokens_of seen ns) ≡ length ns
as_many seen [] = refl
as_many seen (n ∷ ns) = ap suc (as_many seen ns)

-- there is room for one more
pub room_for : {T : List ℕ} (seen : List ℕ) {token k : ℕ} {n : Text} (ns : List Text) → Named T token k n → Listed T seen ns → any (same n) ns ≡ false
    → Fresh ns → length ns < name_tokens
room_for {T} seen {token} {k} {n} ns N L e f =
    omega (
      arith,
      as_many seen ns,
      few name_tokens (token ∷ tokens_of seen ns) (low-token N, tokens-below T seen ns L) (other-token seen token k n ns N L e, tokens-apart T seen ns L f),
    )
