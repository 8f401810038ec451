-- Laws of names that clash, and of shapes.
use mathlib.Core.Path.{◌≡◌, refl, sym, ap, ap₂, ◌∙◌}
use mathlib.Core.Bool.{Bool, true, false, not, ◌&&◌, ◌||◌}
use mathlib.Core.List.{List, [], ◌∷◌}
use mathlib.Core.Logic.{⊎_elim}
use Prim.Native.Nat.{ℕ, ◌-◌, ◌≤◌, ◌<◌}
use native.Mathlib.Omega.{arith}
use lib.Dec.{eqb}
use lib.ListN.{length, get_or, set}
use lib.Seq.{get_or-set_same, get_or-set_other}
use borrow.Author.Tests.{eq-eqb, ne_eqb, eqb-true, eqb-false}
use Rattle.text.specs.Lists.{Text, any, same, repeats}
use Rattle.text.proofs.Tests.{look}
use Rattle.xml.specs.Document.{Xml, none, char, attr, elem, not_one}
use Rattle.left_parse.specs.Steps.{Named}
use Rattle.xml_shape.specs.Names.{clashes, Listed}
use Rattle.xml_shape.specs.One.{shape, is_one}
use Rattle.xml_shape.specs.declared.Shape.TheVariants.{Nothing, Other}

-- equality either way round
eqb-sym : (a b : ℕ) → eqb a b ≡ eqb b a
eqb-sym a b = ⊎_elim (λ e. e ∙ sym (eq-eqb b a (sym (eqb-true a b e)))) (λ e. e ∙ sym (ne_eqb b a (λ q. eqb-false a b e (sym q)))) (look (eqb a b))

same-sym : (x y : Text) → same x y ≡ same y x
same-sym [] [] = refl
same-sym [] (d ∷ ds) = refl
same-sym (c ∷ cs) [] = refl
same-sym (c ∷ cs) (d ∷ ds) = ap₂ ◌&&◌ (eqb-sym c d) (same-sym cs ds)

-- tests in another order
shuffle : (s p a b : Bool) → (s || p) || (a || b) ≡ (s || a) || (p || b)
shuffle true p a b = refl
shuffle false true true b = refl
shuffle false true false b = refl
shuffle false false a b = refl

-- a name among those known, or equal to m
known : (m : Text) (ns ms : List Text) → any (λ k. any (same k) (m ∷ ns)) ms ≡ (any (same m) ms || any (λ k. any (same k) ns) ms)
known m ns [] = refl
known m ns (k ∷ ms) = rw (known m ns ms, same-sym k m) (shuffle (same m k) (any (same k) ns) (any (same m) ms) (any (λ k. any (same k) ns) ms))

-- the same with the tests of a name first
regroup : (a b c d : Bool) → a || ((b || c) || d) ≡ (a || c) || (b || d)
regroup true b c d = refl
regroup false true true d = refl
regroup false true false d = refl
regroup false false c d = refl

-- a name clashes with a known one, or with one of its own list
clashes-are : (ns ms : List Text) → clashes ns ms ≡ (any (λ k. any (same k) ns) ms || repeats ms)
clashes-are ns [] = refl
clashes-are ns (m ∷ ms) = rw (clashes-are (m ∷ ns) ms, known m ns ms) (regroup (any (same m) ns) (any (same m) ms) (any (λ k. any (same k) ns) ms) (repeats ms))

-- of no names none is known
none-known : (ms : List Text) → any (λ k. any (same k) []) ms ≡ false
none-known [] = refl
none-known (m ∷ ms) = none-known ms

-- at the beginning no name is known
pub clashes-begin : (ms : List Text) → clashes [] ms ≡ repeats ms
clashes-begin ms = clashes-are [] ms ∙ rw (none-known ms)

-- what is anything else stays so
pub else : (x : Xml) → shape Other x ≡ Other
else none = refl
else (char c x) = else x
else (attr m v x) = else x
else (elem m i x) = else x

-- one element, and nothing beside it
pub one-shape : (x : Xml) → not (is_one (shape Nothing x)) ≡ not_one x
unfolding not_one
one-shape none = refl
one-shape (char c x) = rw (else x)
one-shape (attr m v x) = rw (else x)
one-shape (elem m i none) = refl
one-shape (elem m i (char c x)) = rw (else x)
one-shape (elem m i (attr n v x)) = rw (else x)
one-shape (elem m i (elem n j x)) = rw (else x)

-- listed names stay so when a place after them is written
pub listed-set : (T seen : List ℕ) (ns : List Text) (at v : ℕ) → length ns ≤ at → Listed T seen ns → Listed T (set seen at v) ns
listed-set T seen [] at v h l = tt
listed-set T seen (n ∷ ns) at v h l =
    let e : get_or (set seen at v) (length ns) 0 ≡ get_or seen (length ns) 0 = get_or-set_other seen at (length ns) v 0 (λ q. omega arith) in
    ((l.0.0, rw e l.0.1), listed-set T seen ns at v (omega arith) l.1)

-- one name more
pub listed_more : (T seen : List ℕ) (ns : List Text) (at token k : ℕ) (n : Text) → length ns ≡ at → at < length seen → Named T token k n
    → Listed T seen ns → Listed T (set seen at token) (n ∷ ns)
listed_more T seen ns at token k n e h N l =
    let q : get_or (set seen at token) (length ns) 0 ≡ token = ap (λ (j : ℕ). get_or (set seen at token) j 0) e ∙ get_or-set_same seen at token 0 h in
    ((k, rw q N), listed-set T seen ns at token (omega arith) l)

-- the names still to be looked at: the first i of those listed
abbrev pub Searched : List ℕ → List ℕ → ℕ → ℕ → ℕ → Type 0
Searched T seen count token i = (k : ℕ) (n : Text) (ns : List Text) → Named T token k n → Listed T seen ns → length ns ≡ count
    → (ms : List Text) × (length ms ≡ i) × Listed T seen ms × (any (same n) ns ≡ any (same n) ms)

module _ (T seen : List ℕ) (count token : ℕ) where
  pub searched-begin : Searched T seen count token count
  searched-begin k n ns N L e = (ns, e, L, refl)

  module _ (i : ℕ) (h : 0 < i) (C : Searched T seen count token i) (o : ℕ) (p : o ≡ get_or seen (i - 1) 0) (b : Bool)
      (same-as : (k l : ℕ) (x y : Text) → Named T token k x → Named T o l y → b ≡ same x y) where
    split_off : (k : ℕ) (n : Text) → Named T token k n → (ms : List Text) → length ms ≡ i → Listed T seen ms → (rest : List Text)
        × (length rest ≡ i - 1) × Listed T seen rest × (any (same n) ms ≡ (b || any (same n) rest))
    split_off k n N [] e L = absurd (omega arith)
    split_off k n N (m ∷ ms) e L =
        let j : length ms ≡ i - 1 = omega arith in
        let M : Named T o L.0.0 m = rw (p ∙ ap (λ (x : ℕ). get_or seen x 0) (sym j)) L.0.1 in
        (ms, j, L.1, ap (λ (x : Bool). x || any (same n) ms) (sym (same-as k L.0.0 n m N M)))

    pub searched-hit : b ≡ true → (k : ℕ) (n : Text) (ns : List Text) → Named T token k n → Listed T seen ns → length ns ≡ count → true ≡ any (same n) ns
    searched-hit z k n ns N L e =
        let c = C k n ns N L e in
        let f = split_off k n N c.0 c.1 c.2 in
        sym (c.3 ∙ f.3 ∙ ap (λ (x : Bool). x || any (same n) f.0) z)

    pub searched-next : b ≡ false → Searched T seen count token (i - 1)
    searched-next z k n ns N L e =
        let c = C k n ns N L e in
        let f = split_off k n N c.0 c.1 c.2 in
        (f.0, f.1, f.2, c.3 ∙ f.3 ∙ ap (λ (x : Bool). x || any (same n) f.0) z)

  pub searched-end : (i : ℕ) → i ≡ 0 → Searched T seen count token i → (k : ℕ) (n : Text) (ns : List Text) → Named T token k n
      → Listed T seen ns → length ns ≡ count → false ≡ any (same n) ns
  searched-end i z C k n ns N L e = let c = C k n ns N L e in sym (c.3 ∙ empty c.0 (c.1 ∙ z))
    where
      empty : (ms : List Text) → length ms ≡ 0 → any (same n) ms ≡ false
      empty [] e = refl
      empty (m ∷ ms) e = absurd (omega arith)
