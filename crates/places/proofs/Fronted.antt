-- Comments and spacing before a grammar: the same tree, the same spots, so places that differ by the characters put in front.
use native.Mathlib.Omega.{arith}
use mathlib.Core.Bool.{false}
use mathlib.Core.Path.{◌≡◌, refl, sym, subst, ◌∙◌}
use mathlib.Core.List.{List, []}
use Prim.Native.Nat.{ℕ, ◌+◌, ◌-◌}
use lib.ListN.{length}
use Rattle.text.specs.Lists.{Text}
use Rattle.tree.specs.Tree.{Grammar}
use Rattle.plain.specs.Written.{heads}
use Rattle.syntax.specs.Syntax.{S, s-none, s-white, s-comment, Ixml, ixml}
use Rattle.syntax.specs.Result.{Result, ok, hd}
use Rattle.syntax.specs.Spacing.{skip, spacing}
use Rattle.syntax.proofs.Holds.{Holds, taken}
use Rattle.syntax.proofs.SpacingLaws.{past-s, complete-s, sound-s, Skipped}
use Rattle.syntax.proofs.Complete.{first-prolog}
use Rattle.places.specs.Spots.{Spot, spots}
use Rattle.places.specs.Place.{at_fault, First, Place}
use Rattle.places.specs.Laws.{Fronted}
use Rattle.places.proofs.Unique.{left-known, one_place}

s-trans : {t u v : Text} → S t u → S u v → S t v
s-trans s-none b = b
s-trans (s-white i a) b = s-white i (s-trans a b)
s-trans (s-comment c a) b = s-comment c (s-trans a b)

-- spacing begun earlier or later ends at the same place
s-rest : {t r u : Text} → S t r → S t u → spacing (hd u) ≡ false → S r u
s-rest {t} {r} {u} a b e = (go (skip r) (sym (past-s a) ∙ complete-s b e) (sound-s r)).derived
  where
    go : (x : Result (Unit {0})) → x ≡ ok tt u → Holds (λ _ v. Skipped r v) x → Skipped r u
    go x p h = taken (subst (λ (y : Result (Unit {0})). Holds (λ _ v. Skipped r v) y) p h)

-- the other text's derivation, with the same spots
moved : {t t' : Text} {g : Grammar} → Fronted t t' → (d : Ixml t g) → (d' : Ixml t' g) × (spots d' ≡ spots d)
moved f (ixml s p r rs e) = (ixml (s-trans f.second (s-rest f.first s (first-prolog p r))) p r rs e, refl)

pub same-tree : (t t' : Text) (g : Grammar) → Fronted t t' → Ixml t g → Ixml t' g
same-tree t t' g f d = (moved f d).0

-- from the end, the same
pub moved-place : (n : ℕ) (t t' : Text) (p q : ℕ) → Fronted t t' → Place n t p → Place n t' q → p + length t' ≡ q + length t
moved-place n t t' p q f x y =
    let m = moved f x.derived in
    let w = subst (λ (ss : List Spot). First (at_fault n (heads x.grammar)) [] ss x.left) (sym m.1) x.first in
    let k = left-known n m.0 w in
    let z : Place n t' (length t' - x.left) = record { grammar = x.grammar; derived = m.0; left = x.left; first = w; counted = omega (arith, k.inside) } in
    let e = one_place n t' (length t' - x.left) q z y in
    let c = x.counted in
    omega (arith, k.inside)
