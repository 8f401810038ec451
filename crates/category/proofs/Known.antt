-- Classes of which some code point is known, and the categories of a class.
use mathlib.Core.Path.{◌≡◌, refl, sym, ap, ◌∙◌, subst}
use mathlib.Core.Bool.{Bool, true, false, ◌&&◌}
use mathlib.Core.List.{List, [], ◌∷◌}
use mathlib.Core.Logic.{⊎_elim}
use Prim.Native.Nat.{ℕ, ◌+◌, ◌<◌, ◌≤◌, ◌/◌, ◌%◌}
use native.Mathlib.Omega.{arith}
use lib.Dec.{T, leb, ltb, ltb→lt}
use lib.ListN.{length, get_or}
use borrow.Author.Tests.{lt-ltb, le-ltb, lt-leb, le-leb}
use Rattle.text.specs.Lists.{any}
use Rattle.text.specs.Utf8.{alphabet}
use Rattle.text.specs.Ranks.{code_at, some_known}
use Rattle.text.proofs.Tests.{split, T-both}
use Rattle.text.proofs.Lists.{any-index, index-any}
use Rattle.text.proofs.Known.{some-place, place-some}
use Rattle.text.proofs.Table.{at, below_at}
use Rattle.category.specs.Category.{classes, in_class, category_number, SpanOf}
use Rattle.category.proofs.Agree.{table, by_place, spans, class-spans, agree, agree-is}

-- the table of the code
unfoldable pub known_classes : List Bool
known_classes =
    true ∷ true ∷ false ∷ false ∷ true ∷ true ∷ false ∷ false ∷ true ∷ false ∷ true ∷ true ∷ true ∷ true ∷ true ∷ true ∷ true ∷ true ∷ true ∷ true ∷ true ∷
    true ∷ true ∷ false ∷ false ∷ true ∷ true ∷ false ∷ false ∷ false ∷ true ∷ true ∷ true ∷ true ∷ true ∷ true ∷ true ∷ true ∷ []

-- the class's span has the category
spans_over : ℕ → ℕ → Bool
spans_over k n = leb (get_or spans k 0 / 32) n && leb n (get_or spans k 0 % 32)

told : ℕ → Bool
told k = agree (get_or known_classes k false) (any (spans_over k) table)

table-told : (k : ℕ) → k < 38 → get_or known_classes k false ≡ any (spans_over k) table
unfolding told known_classes spans_over spans table agree
table-told k h = agree-is (get_or known_classes k false) (any (spans_over k) table) (below_at 38 told tt k h)

long : length table ≡ 498
unfolding table
long = refl

-- at a place of the alphabet
of-place : (k j : ℕ) → k < 38 → j < 498 → spans_over k (get_or table j 0) ≡ in_class (get_or classes k []) (code_at alphabet j)
unfolding spans_over
of-place k j h l = ap (spans_over k) (by_place j l) ∙ sym (class-spans k (code_at alphabet j) h)

pub class-known : (k : ℕ) → k < 38 → get_or known_classes k false ≡ some_known (in_class (get_or classes k []))
class-known k h =
    let test = in_class (get_or classes k []) in
    table-told k h ∙ T-both (any (spans_over k) table) (some_known test)
    (λ t. let r = any-index (spans_over k) table t in
    let l : r.0 < 498 = omega (arith, r.1.0, long) in
    some-place test r.0 l (subst T (of-place k r.0 h l) r.1.1))
    (λ t. let r = place-some test t in
    index-any (spans_over k) table r.0 (omega (arith, r.1.0, long)) (subst T (sym (of-place k r.0 h r.1.0)) r.1.1))

-- the categories of known code points
low : ℕ → ℕ → Bool
low k n = ltb n 30

pub number_at : (k : ℕ) → k < 498 → category_number (code_at alphabet k) < 30
unfolding low table
number_at k h = subst (λ (n : ℕ). n < 30) (by_place k h) (ltb→lt (get_or table k 0) 30 (at low table tt k h))

-- the categories of a class
up_to : (n m : ℕ) → leb n m ≡ ltb n (m + 1)
up_to n m = ⊎_elim
    (λ (g : m < n). lt-leb n m g ∙ sym (le-ltb n (m + 1) (omega arith)))
    (λ (g : n ≤ m). le-leb n m g ∙ sym (lt-ltb n (m + 1) (omega arith)))
    (split m n)

starts : ℕ → Bool
starts k = ltb (get_or spans k 0 / 32) 30

pub starts-low : (k : ℕ) → k < 38 → get_or spans k 0 / 32 < 30
unfolding starts spans
starts-low k h = ltb→lt (get_or spans k 0 / 32) 30 (below_at 38 starts tt k h)

ends : ℕ → Bool
ends k = ltb (get_or spans k 0 % 32) 30

ends_low : (k : ℕ) → k < 38 → get_or spans k 0 % 32 < 30
unfolding ends spans
ends_low k h = ltb→lt (get_or spans k 0 % 32) 30 (below_at 38 ends tt k h)

pub span_of : (k : ℕ) → k < 38 → SpanOf (get_or classes k []) (get_or spans k 0 / 32) (get_or spans k 0 % 32 + 1)
span_of k h = record {
  inside = omega (arith, ends_low k h);
  is = λ c. class-spans k c h ∙ ap (◌&&◌ (leb (get_or spans k 0 / 32) (category_number c))) (up_to (category_number c) (get_or spans k 0 % 32));
}
