-- What the tests of a table tell.
use mathlib.Core.Bool.{Bool, true, false}
use mathlib.Core.Logic.{◌⊎◌, inl, inr, ⊎_elim}
use mathlib.Core.Path.{◌≡◌, refl, sym, ap, subst, ◌∙◌}
use mathlib.Core.List.{List}
use Prim.Native.Nat.{ℕ, ◌+◌, ◌-◌, ◌<◌, ◌≤◌}
use native.Mathlib.Decide.{dec_lt, ℕ_discrete}
use native.Mathlib.Omega.{arith}
use mir.Val.{Fits}
use mir.Syntax.{w32}
use lib.ListN.{length, get_or, set, replicate, length-set, get_or-replicate}
use lib.Dec.{eqb}
use borrow.Author.Tests.{eqb-true, eq-eqb}
use lib.Seq.{get_or-set_same, get_or-set_other}
use Rattle.text.specs.Limits.{most_size}
use Rattle.chart.specs.Code.{next_kind, owner_at}
use Rattle.chart.specs.Heights.{none}
use Rattle.heights.specs.Table.{cell_of, value_of, Shape}
use Rattle.heights.specs.Filling.{Gives, by-terminal, by-split, by-owned}
use Rattle.sweeps.specs.Layers.{Offered}
use Rattle.tells.specs.Tells.{Tells}
use Rattle.tells.proofs.Tells.{hit, miss}
use Rattle.fixpoint.specs.Fixed.{Below, Fixed, StartsFixed, EndsFixed, Fixpoint, Least, Leasts, Lowered}

-- what holds below b and at b
pub and-here : (P : ℕ → Type 0) (b : ℕ) → ((p : ℕ) → p < b → P p) → P b → (p : ℕ) → p < b + 1 → P p
and-here P b a h p l = elim (ℕ_discrete p b) as (λ _. P p) [ yes e ↦ subst P (sym e) h | no e ↦ a p (omega arith) ]

pub owner-inside : {c : List ℕ} {size n len : ℕ} (p : ℕ) → Shape c size n len → p < size → (owner_at c p ≡ 0 → ⊥) → owner_at c p - 1 < size
owner-inside {c} p sh h z = sh.owners p (owner_at c p - 1) h (elim (ℕ_discrete (owner_at c p) 0) as (λ _. owner_at c p ≡ owner_at c p - 1 + 1) [ yes e ↦ absurd (z e) | no e ↦ omega arith ])

module _ (c t : List ℕ) (n i j p : ℕ) (H : List ℕ) where
  pub lower-none : owner_at c p ≡ 0 → Lowered c t n i j p H H
  lower-none z = record { long = refl; other = λ e o. refl; lower = λ e o. absurd (omega arith); is = λ e o. absurd (omega arith) }

  pub lower-keep : (v : ℕ) → v ≡ value_of c t n p i j → get_or H (owner_at c p - 1) 0 ≤ v → Lowered c t n i j p H H
  lower-keep v w l = record {
    long = refl;
    other = λ e o. refl;
    lower = λ e o. (let q : owner_at c p - 1 ≡ e = omega arith in let b : get_or H (owner_at c p - 1) 0 ≡ get_or H e 0 = ap (λ (x : ℕ). get_or H x 0) q in (omega arith, omega arith));
    is = λ e o. inl refl;
  }

  pub lower-set : (v : ℕ) → (owner_at c p ≡ 0 → ⊥) → owner_at c p - 1 < length H → v ≡ value_of c t n p i j → v < get_or H (owner_at c p - 1) 0
      → Lowered c t n i j p H (set H (owner_at c p - 1) v)
  lower-set v z b w l = record {
    long = length-set H (owner_at c p - 1) v;
    other = λ e o. get_or-set_other H (owner_at c p - 1) e v 0 (λ q. o (omega arith));
    lower = λ e o. (let q : e ≡ owner_at c p - 1 = omega arith in rw q (omega (arith, get_or-set_same H (owner_at c p - 1) v 0 b), omega (arith, get_or-set_same H (owner_at c p - 1) v 0 b)));
    is = λ e o. (let q : e ≡ owner_at c p - 1 = omega arith in inr (rw q (get_or-set_same H (owner_at c p - 1) v 0 b ∙ w)));
  }

module _ (c t : List ℕ) (n i j : ℕ) where
  pub leasts-start : (size : ℕ) → size ≤ most_size → Leasts c t size n i j 0 (replicate 512 none)
  leasts-start size l e h =
      let z : get_or (replicate 512 none) e 0 ≡ none = get_or-replicate 512 e none 0 (omega arith) in
      record { most = omega (arith, z); low = λ q b. absurd (omega arith); is = λ b. absurd (omega (arith, z)) }

  least-next : (p e h h' : ℕ) → Least c t n i j p e h → ((owner_at c p ≡ e + 1 → ⊥) → h' ≡ h) → (owner_at c p ≡ e + 1 → (h' ≤ h) × (h' ≤ value_of c t n p i j))
      → (owner_at c p ≡ e + 1 → (h' ≡ h) ⊎ (h' ≡ value_of c t n p i j)) → Least c t n i j (p + 1) e h'
  least-next p e h h' a other lower is = elim (ℕ_discrete (owner_at c p) (e + 1)) as (λ _. Least c t n i j (p + 1) e h') [
    | no o ↦ (let q = other o in record {
      most = omega (arith, a.most);
      low = λ x b w l. elim (ℕ_discrete x p) as (λ _. h' ≤ value_of c t n x i j) [ yes z ↦ absurd (o (sym (ap (owner_at c) z) ∙ w)) | no z ↦ omega (arith, a.low x (omega arith) w l) ];
      is = λ l. (let u = a.is (omega arith) in (u.0, omega (arith, u.1), u.2, q ∙ u.3));
    })
    | yes o ↦ record {
      most = omega (arith, a.most, (lower o).0);
      low = λ x b w l. elim (ℕ_discrete x p) as (λ _. h' ≤ value_of c t n x i j) [
        | yes z ↦ subst (λ (y : ℕ). h' ≤ value_of c t n y i j) (sym z) (lower o).1
        | no z ↦ omega (arith, a.low x (omega arith) w l, (lower o).0)
      ];
      is = λ l. ⊎_elim (λ q. let u = a.is (omega arith) in (u.0, omega (arith, u.1), u.2, q ∙ u.3)) (λ q. (p, omega arith, o, q)) (is o);
    }
  ]

  pub leasts-next : (size p : ℕ) (H H' : List ℕ) → Leasts c t size n i j p H → Lowered c t n i j p H H' → Leasts c t size n i j (p + 1) H'
  leasts-next size p H H' a w e h = least-next p e (get_or H e 0) (get_or H' e 0) (a e h) (w.other e) (w.lower e) (w.is e)

  pub leasts-all : (size p : ℕ) (H : List ℕ) → p ≤ size → size ≤ p → Leasts c t size n i j p H → Leasts c t size n i j size H
  leasts-all size p H a b = subst (λ (x : ℕ). Leasts c t size n i j x H) (omega arith)

pub most-by : {v : ℕ} → Fits w32 v → v ≤ none
most-by l = omega (arith, l)

module _ (c f : List ℕ) (size n len : ℕ) (sh : Shape c size n len) (t : List ℕ) (p i j : ℕ) where
  pub below-zero : Tells false (Below c f size n t p i j 0)
  below-zero = miss (λ b. omega (arith, b.low))

  pub below_by : (h b : ℕ) {r : Bool} → (next_kind c p ≡ 0 → ⊥) → h < none → b ≡ h + 1 → Offered c f size n h t p i j r → Tells r (Below c f size n t p i j b)
  below_by h b {r} z l e o = record {
    yes = λ q. (let u = (o.yes q).1 in record { value = u.value; gives = u.gives; low = omega (arith, u.low) });
    no = λ w. told r (λ q. o.no l q z (record { value = w.value; gives = w.gives; low = omega (arith, w.low) }));
  }
    where
      told : (r : Bool) → (r ≡ false → ⊥) → r ≡ true
      told true w = refl
      told false w = absurd (w refl)

  -- a dot with the height v
  module _ (v : ℕ) (at : v ≡ cell_of n t p i j) (most : v ≤ none) where
    pub dot-greatest : v ≡ 4294967294 → Tells false (Fixed c f size n t p i j)
    dot-greatest e = miss (λ x. omega (arith, x.small (omega arith)))

    pub dot-lower : Below c f size n t p i j v → Tells false (Fixed c f size n t p i j)
    dot-lower b = miss (λ x. omega (arith, x.least b.value b.gives (omega (arith, b.low)), b.low))

    module _ (none-lower : Below c f size n t p i j v → ⊥) where
      least_by : (w : ℕ) → Gives c f size n t p i j w → cell_of n t p i j ≤ w
      least_by w q = elim (dec_lt w v) as (λ _. cell_of n t p i j ≤ w) [ yes l ↦ absurd (none-lower (record { value = w; gives = q; low = l })) | no l ↦ omega arith ]

      pub dot-none : v ≡ none → Tells true (Fixed c f size n t p i j)
      dot-none e = hit (record { most = omega arith; small = λ l. absurd (omega arith); given = λ l. absurd (omega arith); least = λ w q l. least_by w q })

      pub dot-given : {r : Bool} → (v ≡ 4294967294 → ⊥) → (v ≡ none → ⊥) → Tells r (Below c f size n t p i j (v + 1)) → Tells r (Fixed c f size n t p i j)
      dot-given z y b = record {
        yes = λ e. (let u = b.yes e in record {
          most = omega arith;
          small = λ l. omega arith;
          given = λ l. subst (Gives c f size n t p i j) (omega (arith, u.low, least_by u.value u.gives)) u.gives;
          least = λ w q l. least_by w q;
        });
        no = λ x. b.no (record { value = cell_of n t p i j; gives = x.given (omega arith); low = omega arith });
      }

  -- an end, which names a rule or none
  pub end_by : (H : List ℕ) {r : Bool} → p < size → next_kind c p ≡ 0 → Leasts c t size n i j size H
      → Tells r ((cell_of n t p i j ≡ get_or H p 0) × (cell_of n t p i j ≡ 4294967294 → ⊥)) → Tells r (Fixed c f size n t p i j)
  end_by H hp z a b = record {
    yes = λ e. (let u = b.yes e in record {
      most = omega (arith, u.0, here.most);
      small = λ l. elim (ℕ_discrete (cell_of n t p i j) 4294967294) as (λ _. cell_of n t p i j + 1 < none) [ yes w ↦ absurd (u.1 w) | no w ↦ omega arith ];
      given = λ l. (let w = here.is (omega (arith, u.0)) in by-owned w.0 w.1 w.2 (u.0 ∙ w.3));
      least = λ v q l. gives-least u.0 v q l;
    });
    no = λ x. b.no (same x, λ e. omega (arith, x.small (omega arith)));
  }
    where
      here : Least c t n i j size p (get_or H p 0)
      here = a p hp

      gives-least : cell_of n t p i j ≡ get_or H p 0 → (v : ℕ) → Gives c f size n t p i j v → v < none → cell_of n t p i j ≤ v
      gives-least e v (by-terminal k _ _ _) l = absurd (omega arith)
      gives-least e v (by-split m k _ _ _) l = absurd (omega arith)
      gives-least e v (by-owned q hq o w) l = omega (arith, here.low q hq o (omega arith))

      above : (v : ℕ) → Gives c f size n t p i j v → v < none → get_or H p 0 ≤ v
      above v (by-terminal k _ _ _) l = absurd (omega arith)
      above v (by-split m k _ _ _) l = absurd (omega arith)
      above v (by-owned q hq o w) l = omega (arith, here.low q hq o (omega arith))

      upper : Fixed c f size n t p i j → get_or H p 0 < none → cell_of n t p i j ≤ get_or H p 0
      upper x l = let w = here.is l in x.least (get_or H p 0) (by-owned w.0 w.1 w.2 w.3) l

      same : Fixed c f size n t p i j → cell_of n t p i j ≡ get_or H p 0
      same x = elim (dec_lt (cell_of n t p i j) none) as (λ _. cell_of n t p i j ≡ get_or H p 0) [
        | yes l ↦ omega (arith, above (cell_of n t p i j) (x.given l) l, upper x (omega (arith, above (cell_of n t p i j) (x.given l) l)))
        | no l ↦ (elim (dec_lt (get_or H p 0) none) as (λ _. cell_of n t p i j ≡ get_or H p 0) [ yes b ↦ absurd (omega (arith, upper x b)) | no b ↦ omega (arith, here.most, x.most) ])
      ]

-- an end's own test, of the value v at its cell x
pub end-greatest : (v x : ℕ) {h : ℕ} → v ≡ x → v ≡ 4294967294 → Tells false ((x ≡ h) × (x ≡ 4294967294 → ⊥))
end-greatest v x e z = miss (λ w. w.1 (sym e ∙ z))

pub end-tested : (v x h : ℕ) → v ≡ x → (v ≡ 4294967294 → ⊥) → Tells (eqb v h) ((x ≡ h) × (x ≡ 4294967294 → ⊥))
end-tested v x h e z = record { yes = λ q. (sym e ∙ eqb-true v h q, λ y. z (e ∙ y)); no = λ w. eq-eqb v h (e ∙ w.0) }

-- a scan of P from 0 up to b
pub none-missed : (P : ℕ → Type 0) (p b : ℕ) → p < b → (P p → ⊥) → Tells false ((q : ℕ) → q < b → P q)
none-missed P p b l n = miss (λ a. n (a p l))

pub all-hit : (P : ℕ → Type 0) (p b : ℕ) → b ≤ p → ((q : ℕ) → q < p → P q) → Tells true ((q : ℕ) → q < b → P q)
all-hit P p b l a = hit (λ q h. a q (omega arith))

-- all ends
pub ends-fixed : (c f : List ℕ) (size n : ℕ) (t : List ℕ) → EndsFixed c f size n t (n + 1) → Fixpoint c f size n t
ends-fixed c f size n t a p i j h = a j (omega (arith, h.stop)) i (omega (arith, h.order)) p h.inside

pub fixed-ends : (c f : List ℕ) (size n : ℕ) (t : List ℕ) → Fixpoint c f size n t → (j : ℕ) → j ≤ n → StartsFixed c f size n t j (j + 1)
fixed-ends c f size n t a j hj i hi p hp = a p i j (record { inside = hp; order = omega arith; stop = hj })
