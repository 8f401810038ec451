-- Beginnings and parts of texts: what derives a part of a text looks at no other.
use mathlib.Core.Path.{◌≡◌, refl, sym, ap, ◌∙◌, subst}
use mathlib.Core.Bool.{Bool, true, false, not}
use mathlib.Core.List.{List, [], ◌∷◌, ◌++◌}
use Prim.Native.Nat.{ℕ, zero, suc, ◌+◌, ◌-◌, ◌<◌, ◌≤◌}
use native.Mathlib.Nat.{suc-add, zero-add}
use native.Mathlib.Omega.{arith}
use lib.Dec.{T, eqb, eqb→eq, eqb_refl}
use lib.ListN.{length, take, drop}
use lib.Seq.{take-take, take-nil}
use Rattle.text.specs.Lists.{Text, all, any, begins}
use Rattle.text.proofs.Tests.{and_left, and_right, both-and, T_true}
use Rattle.tree.specs.Tree.{Terminal, literal, inclusion, exclusion, insertion, codes, Symbol, Grammar}
use Rattle.plain.specs.Plain.{fits, width, is_member}
use Rattle.derive.specs.Derive.{Row, Derives, d-end, d-leaf, d-node}
use Rattle.derive.proofs.Rows.{forward}
use Rattle.viable.specs.Stands.{alike, begun_by}

pub all_take : (f : ℕ → Bool) (n : ℕ) (xs : Text) → T (all f xs) → T (all f (take n xs))
all_take f zero xs h = tt
all_take f (suc n) [] h = tt
all_take f (suc n) (x ∷ xs) h = both-and (f x) (all f (take n xs)) (and_left (f x) (all f xs) h) (all_take f n xs (and_right (f x) (all f xs) h))

-- texts that are the same up to m are so up to less, and in each part
pub less : (i m : ℕ) (t u : Text) → i ≤ m → take m t ≡ take m u → take i t ≡ take i u
less i m t u h e = sym (take-take i m t h) ∙ ap (λ (z : Text). take i z) e ∙ take-take i m u h

drop-take : (i n : ℕ) (t : Text) → drop i (take (i + n) t) ≡ take n (drop i t)
drop-take zero n t = ap (λ (k : ℕ). take k t) (zero-add n)
drop-take (suc i) n [] = ap (λ (z : Text). drop (suc i) z) (take-nil (suc i + n)) ∙ sym (take-nil n)
drop-take (suc i) n (x ∷ t) = ap (λ (k : ℕ). drop (suc i) (take k (x ∷ t))) (suc-add i n) ∙ drop-take i n t

pub same-part : (i n m : ℕ) (t u : Text) → i + n ≤ m → take m t ≡ take m u → take n (drop i t) ≡ take n (drop i u)
same-part i n m t u h e = sym (drop-take i n t) ∙ ap (λ (z : Text). drop i z) (less (i + n) m t u h e) ∙ drop-take i n u

cons_same : {x y : ℕ} {t u : Text} → x ∷ t ≡ y ∷ u → (x ≡ y) × (t ≡ u)
cons_same e = (cc, cc)

not-nil : {A : Type 0} {x : ℕ} {t : Text} → x ∷ t ≡ [] → A
not-nil {t = t} e = let n : suc (length t) ≡ 0 = ap length e in absurd (omega arith)

begins-same : (cs t u : Text) → take (length cs) t ≡ take (length cs) u → T (begins cs t) → T (begins cs u)
begins-same [] t u e h = tt
begins-same (c ∷ cs) [] u e h = absurd h
begins-same (c ∷ cs) (d ∷ t) [] e h = not-nil e
begins-same (c ∷ cs) (d ∷ t) (b ∷ u) e h =
    let q = cons_same e in
    both-and (eqb c b) (begins cs u) (subst (λ (z : ℕ). T (eqb c z)) q.0 (and_left (eqb c d) (begins cs t) h)) (begins-same cs t u q.1 (and_right (eqb c d) (begins cs t) h))

pub begins-front : (cs u : Text) → T (begins cs (cs ++ u))
begins-front [] u = tt
begins-front (c ∷ cs) u = both-and (eqb c c) (begins cs (cs ++ u)) (eqb_refl c) (begins-front cs u)

-- a terminal looks at as many characters as it takes
pub fits-same : (x : Terminal) (t u : Text) → take (width x) t ≡ take (width x) u → T (fits x t) → T (fits x u)
fits-same (literal m k) t u e h = begins-same (codes k) t u e h
fits-same (inclusion m ms) [] u e h = absurd h
fits-same (inclusion m ms) (c ∷ t) [] e h = not-nil e
fits-same (inclusion m ms) (c ∷ t) (d ∷ u) e h = subst (λ (z : ℕ). T (any (is_member z) ms)) (cons_same e).0 h
fits-same (exclusion m ms) [] u e h = absurd h
fits-same (exclusion m ms) (c ∷ t) [] e h = not-nil e
fits-same (exclusion m ms) (c ∷ t) (d ∷ u) e h = subst (λ (z : ℕ). T (not (any (is_member z) ms))) (cons_same e).0 h
fits-same (insertion k) t u e h = tt

module _ (g : Grammar) (r w : Text) (k : ℕ) (e : take k r ≡ take k w) where
  pub fits-here : (x : Terminal) (i : ℕ) → i + width x ≤ k → T (fits x (drop i r)) → T (fits x (drop i w))
  fits-here x i h f = fits-same x (drop i r) (drop i w) (same-part i (width x) k r w h e) f

  -- a derivation of a part that the texts have in common
  pub derives-here : {t : Row} {ss : List Symbol} {i j : ℕ} → j ≤ k → Derives g r t ss i j → Derives g w t ss i j
  derives-here h d-end = d-end
  derives-here h (d-leaf {x} {i = i} f d) = let l = forward g r d in d-leaf (fits-here x i (omega arith) f) (derives-here h d)
  derives-here h (d-node l c d) = let m = forward g r d in d-node l (derives-here (omega arith) c) (derives-here h d)

-- common first characters
pub alike-left : (cs t : Text) → alike cs t ≤ length t
alike-left [] t = omega arith
alike-left (c ∷ cs) [] = omega arith
alike-left (c ∷ cs) (d ∷ t) = elim (eqb c d) as (λ b. elim b [ true ↦ suc (alike cs t) | false ↦ 0 ] ≤ suc (length t)) [
  | true ↦ omega (arith, alike-left cs t)
  | false ↦ omega arith
]

pub alike_right : (cs t : Text) → alike cs t ≤ length cs
alike_right [] t = omega arith
alike_right (c ∷ cs) [] = omega arith
alike_right (c ∷ cs) (d ∷ t) = elim (eqb c d) as (λ b. elim b [ true ↦ suc (alike cs t) | false ↦ 0 ] ≤ suc (length cs)) [
  | true ↦ omega (arith, alike_right cs t)
  | false ↦ omega arith
]

pub alike-take : (cs t : Text) → take (alike cs t) cs ≡ take (alike cs t) t
alike-take [] t = refl
alike-take (c ∷ cs) [] = refl
alike-take (c ∷ cs) (d ∷ t) = go (alike-take cs t) (eqb c d) refl
  where
    go : take (alike cs t) cs ≡ take (alike cs t) t → (b : Bool) → eqb c d ≡ b → take (elim b [ true ↦ suc (alike cs t) | false ↦ 0 ]) (c ∷ cs) ≡ take
        (elim b [ true ↦ suc (alike cs t) | false ↦ 0 ]) (d ∷ t)
    go y true q = let z : c ≡ d = eqb→eq c d (rw q tt) in (λ ι. z ι ∷ y ι)
    go y false q = refl

pub alike-far : (n : ℕ) (cs t u : Text) → T (begins cs t) → take n t ≡ take n u → n ≤ length cs → n ≤ alike cs u
alike-far zero cs t u h e l = omega arith
alike-far (suc n) [] t u h e l = absurd (omega arith)
alike-far (suc n) (c ∷ cs) [] u h e l = absurd h
alike-far (suc n) (c ∷ cs) (d ∷ t) [] h e l = not-nil e
alike-far (suc n) (c ∷ cs) (d ∷ t) (b ∷ u) h e l =
    let q = cons_same e in
    let z : eqb c b ≡ true = T_true (eqb c b) (subst (λ (z : ℕ). T (eqb c z)) q.0 (and_left (eqb c d) (begins cs t) h)) in
    rw (z, alike) (let y = alike-far n cs t u (and_right (eqb c d) (begins cs t) h) q.1 (omega arith) in omega arith)

-- a terminal that reaches past k in one text is begun up to k in another that is the same up to there
pub begun-far : (x : Terminal) (i k : ℕ) (t u : Text) → i ≤ k → k < i + width x → T (fits x (drop i t)) → take k t ≡ take k u → k ≤ i + begun_by x (drop i u)
begun-far (literal m c) i k t u h l f e =
    let n : i + (k - i) ≤ k = omega arith in
    let y = alike-far (k - i) (codes c) (drop i t) (drop i u) f (same-part i (k - i) k t u n e) (omega arith) in
    omega arith
begun-far (inclusion m ms) i k t u h l f e = omega arith
begun-far (exclusion m ms) i k t u h l f e = omega arith
begun-far (insertion c) i k t u h l f e = omega arith
