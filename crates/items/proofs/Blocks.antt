-- Blocks of items: a list of numbers that, wherever a finished table takes it over, is the alternatives of a symbol.
use mathlib.Core.List.{List, [], ◌∷◌, ◌++◌}
use mathlib.Core.Logic.{◌⊎◌, inl, inr, ⊎_elim}
use mathlib.Core.Path.{◌≡◌, refl, sym, ap, ◌∙◌, subst}
use Prim.Native.Nat.{ℕ, suc, ◌+◌, ◌*◌, ◌-◌, ◌<◌, ◌≤◌}
use native.Mathlib.Omega.{arith}
use lib.ListN.{length, length-append}
use Rattle.text.proofs.Tests.{split}
use Rattle.tree.specs.Tree.{Symbol, Rule, Grammar}
use Rattle.plain.specs.Plain.{alts, weight}
use Rattle.items.specs.Items.{kind_at, Starts, Among, Stands, sp_end, sp-item, Alternatives, al-last, al-more, Spelt}
use Rattle.items.specs.Scanned.{RuleCover, RuleBegins, Begins, Clean, Cleans}
use Rattle.items.specs.Built.{Cover}
use Rattle.items.specs.Final.{Placed, PlacedAll}
use Rattle.items.proofs.Uses.{rule-spelt}

module _ (F : List ℕ) (g : Grammar) (S : Starts) where
  pub placed-append : (xs ys : List ℕ) (m p : ℕ) → length xs ≡ 3 * m → PlacedAll F g S p (xs ++ ys) → PlacedAll F g S p xs × PlacedAll F g S (p + m) ys
  placed-append [] ys m p e w = (tt, subst (λ (k : ℕ). PlacedAll F g S k ys) (let z : p ≡ p + m = omega arith in z) w)
  placed-append (k ∷ []) ys m p e w = absurd (odd1 m e)
    where
      odd1 : (m : ℕ) → 1 ≡ 3 * m → ⊥
      odd1 m e = omega arith
  placed-append (k ∷ t ∷ []) ys m p e w = absurd (odd2 m e)
    where
      odd2 : (m : ℕ) → 2 ≡ 3 * m → ⊥
      odd2 m e = omega arith
  placed-append (k ∷ t ∷ q ∷ xs) ys m p e w =
      let r = placed-append xs ys (m - 1) (p + 1) (omega arith) w.1 in
      ((w.0, r.0), subst (λ (j : ℕ). PlacedAll F g S j ys) (let z : p + 1 + (m - 1) ≡ p + m = omega arith in z) r.1)

move : (F : List ℕ) {x y k : ℕ} → x ≡ y → kind_at F y ≡ k → kind_at F x ≡ k
move F e q = ap (kind_at F) e ∙ q

-- numbers that are alternatives, the last with its end
pub data Rows (F : List ℕ) (g : Grammar) (S : Starts) : List ℕ → List (List Symbol) → Type 0 where
  r_last : {t q : ℕ} → Rows F g S (6 ∷ t ∷ q ∷ []) ([] ∷ [])
  r-more : {t q : ℕ} {xs : List ℕ} {ts : List (List Symbol)} → Rows F g S xs ts → Rows F g S (5 ∷ t ∷ q ∷ xs) ([] ∷ ts)
  r-item : {k t q : ℕ} {s : Symbol} {xs : List ℕ} {ss : List Symbol} {ts : List (List Symbol)}
      → ((p : ℕ) → Placed F g S p k t q → Stands F g S p s) → Rows F g S xs (ss ∷ ts) → Rows F g S (k ∷ t ∷ q ∷ xs) ((s ∷ ss) ∷ ts)

module _ {F : List ℕ} {g : Grammar} {S : Starts} where
  pub rows-length : {xs : List ℕ} {ts : List (List Symbol)} → Rows F g S xs ts → length xs ≡ 3 * weight ts
  rows-length r_last = refl
  rows-length (r-more r) = omega (arith, rows-length r)
  rows-length (r-item m r) = omega (arith, rows-length r)

  rows-some : {xs : List ℕ} {ts : List (List Symbol)} → Rows F g S xs ts → 0 < weight ts
  rows-some r_last = omega arith
  rows-some (r-more r) = omega arith
  rows-some (r-item m r) = omega arith

  kind-kept : {p k t q : ℕ} → Placed F g S p k t q → 5 ≤ k → kind_at F p ≡ k
  kind-kept w h = (w.kept (λ e. omega arith)).0

  -- one more symbol in front
  in-front : {x : ℕ} {s : Symbol} {ts : List (List Symbol)} (ss : List Symbol) → Stands F g S x s → Alternatives F g S (x + 1) (ss ∷ ts) → Alternatives F g S x ((s ∷ ss) ∷ ts)
  in-front {x} ss w (al-last v k) = al-last (sp-item w v) (move F (let e : x + suc (length ss) ≡ x + 1 + length ss = omega arith in e) k)
  in-front {x} {ts = ts} ss w (al-more v k u) = al-more (sp-item w v)
      (move F (let e : x + suc (length ss) ≡ x + 1 + length ss = omega arith in
      e) k) (subst (λ (j : ℕ). Alternatives F g S j ts) (let e : x + 1 + (length ss + 1) ≡ x + (suc (length ss) + 1) = omega arith in e) u)

  pub rows-alternatives : {xs : List ℕ} {ts : List (List Symbol)} (x : ℕ) → Rows F g S xs ts → PlacedAll F g S x xs → Alternatives F g S x ts
  rows-alternatives x r_last w = al-last (sp_end (inr (kind-kept w.0 (omega arith)))) (move F (let e : x + 0 ≡ x = omega arith in e) (kind-kept w.0 (omega arith)))
  rows-alternatives x (r-more {ts = ts} r) w = al-more (sp_end (inl (kind-kept w.0 (omega arith))))
      (move F (let e : x + 0 ≡ x = omega arith in e) (kind-kept w.0 (omega arith))) (rows-alternatives (x + 1) r w.1)
  rows-alternatives x (r-item {ss = ss} m r) w = in-front ss (m x w.0) (rows-alternatives (x + 1) r w.1)

-- blocks one after the other, each the alternatives of its symbol; the rules begin at the items of the list
pub data Blocks (F : List ℕ) (g : Grammar) (S : Starts) : ℕ → List ℕ → Starts → Type 0 where
  b-none : {x : ℕ} → Blocks F g S x [] []
  b-rule : {x : ℕ} {s : Symbol} {xs ys : List ℕ} {B : Starts} → Rows F g S xs (alts g s) → Blocks F g S (x + weight (alts g s)) ys B → Blocks F g S x (xs ++ ys) ((x, s) ∷ B)

-- the last item of alternatives ends them
pub alternatives-last : {F : List ℕ} {g : Grammar} {S : Starts} {x : ℕ} {ts : List (List Symbol)} → Alternatives F g S x ts → (y : ℕ) → x + weight ts ≡ y + 1 → kind_at F y ≡ 6
alternatives-last {F} {x = x} (al-last {ss = ss} w k) y e = move F (let z : y ≡ x + length ss = omega arith in z) k
alternatives-last (al-more w k v) y e = alternatives-last v y (omega arith)

cover-left : (rs rs' : List Rule) (xs xs' : List ℕ) (p : ℕ) → RuleCover rs xs p → RuleCover (rs ++ rs') (xs ++ xs') p
cover-left [] rs' xs xs' p c = absurd c
cover-left (r ∷ rs) rs' [] xs' p c = absurd c
cover-left (r ∷ rs) rs' (x ∷ xs) xs' p (inl c) = inl c
cover-left (r ∷ rs) rs' (x ∷ xs) xs' p (inr c) = inr (cover-left rs rs' xs xs' p c)

cover-right : (rs rs' : List Rule) (xs xs' : List ℕ) (p : ℕ) → length rs ≡ length xs → RuleCover rs' xs' p → RuleCover (rs ++ rs') (xs ++ xs') p
cover-right [] rs' [] xs' p e c = c
cover-right [] rs' (x ∷ xs) xs' p e c = absurd (let z : 0 ≡ suc (length xs) = e in omega arith)
cover-right (r ∷ rs) rs' [] xs' p e c = absurd (let z : suc (length rs) ≡ 0 = e in omega arith)
cover-right (r ∷ rs) rs' (x ∷ xs) xs' p e c = inr (cover-right rs rs' xs xs' p (let z : suc (length rs) ≡ suc (length xs) = e in omega arith) c)

pub cover-later : {g : Grammar} {S S' : Starts} {p : ℕ} → ((x : ℕ) (s : Symbol) → Among x s S → Among x s S') → Cover g S p → Cover g S' p
cover-later h c = record { first = c.first; symbol = c.symbol; among = h c.first c.symbol c.among; above = c.above; under = c.under }

cleans-append : (F : List ℕ) (n : ℕ) (xs xs' : List ℕ) → Cleans F n xs → Cleans F n xs' → Cleans F n (xs ++ xs')
cleans-append F n [] xs' c d = d
cleans-append F n (x ∷ xs) xs' c d = (c.0, cleans-append F n xs xs' c.1 d)

-- what is first from m on is first from n on, if what is before m ends a rule
clean-lower : (F : List ℕ) (n m x : ℕ) → n ≤ m → ((y : ℕ) → m ≡ y + 1 → n ≤ y → kind_at F y ≡ 6) → Clean F m x → Clean F n x
clean-lower F n m x h l c = ((let z = c.0 in omega arith), λ y e i. ⊎_elim (λ (b : y < m). l y (let z = c.0 in omega arith) i) (λ (b : m ≤ y). c.1 y e b) (split y m))

cleans-lower : (F : List ℕ) (n m : ℕ) (xs : List ℕ) → n ≤ m → ((y : ℕ) → m ≡ y + 1 → n ≤ y → kind_at F y ≡ 6) → Cleans F m xs → Cleans F n xs
cleans-lower F n m [] h l c = tt
cleans-lower F n m (x ∷ xs) h l c = (clean-lower F n m x h l c.0, cleans-lower F n m xs h l c.1)

begins-split : (x : ℕ) (s : Symbol) (rs rs' : List Rule) (xs xs' : List ℕ) → length rs ≡ length xs → RuleBegins x s (rs ++ rs') (xs ++ xs')
    → RuleBegins x s rs xs ⊎ RuleBegins x s rs' xs'
begins-split x s [] rs' [] xs' e b = inr b
begins-split x s [] rs' (y ∷ xs) xs' e b = absurd (let z : 0 ≡ suc (length xs) = e in omega arith)
begins-split x s (r ∷ rs) rs' [] xs' e b = absurd (let z : suc (length rs) ≡ 0 = e in omega arith)
begins-split x s (r ∷ rs) rs' (y ∷ xs) xs' e (inl b) = inl (inl b)
begins-split x s (r ∷ rs) rs' (y ∷ xs) xs' e (inr b) = ⊎_elim (λ c. inl (inr c)) (λ c. inr c)
    (begins-split x s rs rs' xs xs' (let z : suc (length rs) ≡ suc (length xs) = e in omega arith) b)

begins-clean : (F : List ℕ) (n x : ℕ) (s : Symbol) (rs : List Rule) (xs : List ℕ) → Cleans F n xs → RuleBegins x s rs xs → n ≤ x
begins-clean F n x s [] xs c b = absurd b
begins-clean F n x s (r ∷ rs) [] c b = absurd b
begins-clean F n x s (r ∷ rs) (y ∷ xs) c (inl b) = let z = c.0.0 in let q = b.0 in omega arith
begins-clean F n x s (r ∷ rs) (y ∷ xs) c (inr b) = begins-clean F n x s rs xs c.1 b

-- all rules begin below n
abbrev pub Under : ℕ → Starts → Type 0
Under n S = (x : ℕ) (s : Symbol) → Among x s S → x < n

-- what a run added is sound: new rules have their alternatives, new items are in some alternative, blocks stand side by side,
-- and each begins where no other does
pub record Sound (F : List ℕ) (g : Grammar) (S : Starts) (from to : ℕ) (S₁ S₂ : Starts) (rs : List Rule) (xs : List ℕ) : Type 0 where
  pub grew : from ≤ to
  pub rule : (x : ℕ) (s : Symbol) → Among x s S₂ → Among x s S₁ ⊎ (Alternatives F g S x (alts g s) × (x + weight (alts g s) ≤ to))
  pub spelt : (p : ℕ) → p < to → (p < from) ⊎ Spelt F g S p
  pub covered : (p : ℕ) → p < to → (p < from) ⊎ (Cover g S₂ p ⊎ RuleCover rs xs p)
  pub apart : (x : ℕ) (s : Symbol) → Among x s S₂ → Among x s S₁ ⊎ Clean F from x
  pub clean : Cleans F from xs
  pub last : (y : ℕ) → to ≡ y + 1 → from ≤ y → kind_at F y ≡ 6
  pub under : Under from S₁ → (x : ℕ) (s : Symbol) → Begins x s S₂ rs xs → x < to
  pub single : Under from S₁ → (x : ℕ) (s t : Symbol) → from ≤ x → Begins x s S₂ rs xs → Begins x t S₂ rs xs → s ≡ t

-- a run that adds nothing, in numbers
none-under : {n m : ℕ} (S₁ : Starts) → n ≤ m → Under n S₁ → (x : ℕ) (s : Symbol) → Begins x s S₁ [] [] → x < m
none-under S₁ h u x s (inl a) = omega (arith, u x s a)
none-under S₁ h u x s (inr a) = absurd a

none-single : {n : ℕ} (S₁ : Starts) → Under n S₁ → (x : ℕ) (s t : Symbol) → n ≤ x → Begins x s S₁ [] [] → Begins x t S₁ [] [] → s ≡ t
none-single S₁ u x s t l (inl a) b = absurd (omega (arith, u x s a))
none-single S₁ u x s t l (inr a) b = absurd a

module _ {F : List ℕ} {g : Grammar} {S : Starts} where
  pub sound_none : (n : ℕ) (S₁ : Starts) → Sound F g S n n S₁ S₁ [] []
  sound_none n S₁ =
      record {
        grew = omega arith;
        rule = λ x s a. inl a;
        spelt = λ p h. inl h;
        covered = λ p h. inl h;
        apart = λ x s a. inl a;
        clean = tt;
        last = λ y e h. absurd (omega arith);
        under = none-under S₁ (omega arith);
        single = none-single S₁;
      }

  -- a rule of two runs that begins before the second run is one of the first; one that begins after it is one of the second
  module _ {n m k : ℕ} {S₁ S₂ S₃ : Starts} {rs rs' : List Rule} {xs xs' : List ℕ} (even : length rs ≡ length xs)
      (v : Sound F g S n m S₁ S₂ rs xs) (w : Sound F g S m k S₂ S₃ rs' xs') where
    begins-first : (x : ℕ) (s : Symbol) → x < m → Begins x s S₃ (rs ++ rs') (xs ++ xs') → Begins x s S₂ rs xs
    begins-first x s l (inl a) = ⊎_elim (λ b. inl b) (λ b. absurd (let z = b.0 in omega arith)) (w.apart x s a)
    begins-first x s l (inr a) = ⊎_elim (λ b. inr b) (λ b. absurd (let z = begins-clean F m x s rs' xs' w.clean b in omega arith)) (begins-split x s rs rs' xs xs' even a)

    begins-second : Under n S₁ → (x : ℕ) (s : Symbol) → m ≤ x → Begins x s S₃ (rs ++ rs') (xs ++ xs') → Begins x s S₃ rs' xs'
    begins-second u x s l (inl a) = inl a
    begins-second u x s l (inr a) = ⊎_elim (λ b. absurd (let z = v.under u x s (inr b) in omega arith)) (λ b. inr b) (begins-split x s rs rs' xs xs' even a)

    then-under : m ≤ k → Under n S₁ → (x : ℕ) (s : Symbol) → Begins x s S₃ (rs ++ rs') (xs ++ xs') → x < k
    then-under h u x s a = ⊎_elim (λ (l : x < m). omega arith) (λ (l : m ≤ x). w.under (λ y t b. v.under u y t (inl b)) x s (begins-second u x s l a)) (split x m)

    then-single : Under n S₁ → (x : ℕ) (s t : Symbol) → n ≤ x → Begins x s S₃ (rs ++ rs') (xs ++ xs') → Begins x t S₃ (rs ++ rs') (xs ++ xs') → s ≡ t
    then-single u x s t h a b = ⊎_elim
        (λ (l : x < m). v.single u x s t h (begins-first x s l a) (begins-first x t l b))
        (λ (l : m ≤ x). w.single (λ y q c. v.under u y q (inl c)) x s t l (begins-second u x s l a) (begins-second u x t l b))
        (split x m)

  pub sound-then : {n m k : ℕ} {S₁ S₂ S₃ : Starts} {rs rs' : List Rule} {xs xs' : List ℕ}
      → ((x : ℕ) (s : Symbol) → Among x s S₂ → Among x s S₃) → length rs ≡ length xs → m ≤ k → Sound F g S n m S₁ S₂ rs xs
      → Sound F g S m k S₂ S₃ rs' xs' → Sound F g S n k S₁ S₃ (rs ++ rs') (xs ++ xs')
  sound-then {n} {m} {k} {rs = rs} {rs' = rs'} {xs = xs} {xs' = xs'} later even h v w = record {
    grew = omega (arith, v.grew);
    rule = λ x s a. ⊎_elim (λ b. ⊎_elim (λ c. inl c) (λ c. inr (c.0, (let z = c.1 in omega arith))) (v.rule x s b)) (λ b. inr b) (w.rule x s a);
    spelt = λ p l. ⊎_elim (λ b. v.spelt p b) (λ b. inr b) (w.spelt p l);
    covered =
        λ p l. ⊎_elim (λ b. ⊎_elim (λ c. inl c) (λ c. inr
        (⊎_elim (λ d. inl (cover-later later d)) (λ d. inr (cover-left rs rs' xs xs' p d)) c)) (v.covered p b))
        (λ b. inr (⊎_elim (λ d. inl d) (λ d. inr (cover-right rs rs' xs xs' p even d)) b)) (w.covered p l);
    apart = λ x s a. ⊎_elim (λ b. v.apart x s b) (λ b. inr (clean-lower F n m x v.grew v.last b)) (w.apart x s a);
    clean = cleans-append F n xs xs' v.clean (cleans-lower F n m xs' v.grew v.last w.clean);
    last = λ y e i. ⊎_elim (λ (b : y < m). v.last y (omega arith) i) (λ (b : m ≤ y). w.last y e b) (split y m);
    under = then-under even v w h;
    single = then-single even v w;
  }

  among-here : {x y : ℕ} {s u : Symbol} → (y ≡ x) × (u ≡ s) → Alternatives F g S y (alts g u) → Alternatives F g S x (alts g s)
  among-here {x} {y} {s} {u} e w = subst (λ (v : Symbol). Alternatives F g S x (alts g v)) e.1 (subst (λ (j : ℕ). Alternatives F g S j (alts g u)) e.0 w)

  -- one block more in front
  module _ {n m k : ℕ} {S₁ S₂ : Starts} (some : n < m) (w : Sound F g S m k S₁ S₂ [] []) where
    front-under : {u : Symbol} → Under n S₁ → (x : ℕ) (s : Symbol) → Begins x s ((n, u) ∷ S₂) [] [] → x < k
    front-under h x s (inl (inl e)) = let z = e.0 in omega (arith, w.grew)
    front-under h x s (inl (inr a)) = w.under (λ y t b. (let z = h y t b in omega arith)) x s (inl a)
    front-under h x s (inr b) = absurd b

    front-new : {u : Symbol} → Under n S₁ → (x : ℕ) (s : Symbol) → n ≤ x → Begins x s ((n, u) ∷ S₂) [] [] → ((n ≡ x) × (u ≡ s)) ⊎ ((m ≤ x) × Among x s S₂)
    front-new h x s l (inl (inl e)) = inl e
    front-new h x s l (inl (inr a)) = inr (⊎_elim (λ b. absurd (let z = h x s b in omega arith)) (λ b. b.0) (w.apart x s a), a)
    front-new h x s l (inr b) = absurd b

    front-single : {u : Symbol} → Under n S₁ → (x : ℕ) (s t : Symbol) → n ≤ x → Begins x s ((n, u) ∷ S₂) [] [] → Begins x t ((n, u) ∷ S₂) [] [] → s ≡ t
    front-single h x s t l a b = ⊎_elim
        (λ d. ⊎_elim (λ e. sym d.1 ∙ e.1) (λ e. absurd (let y = d.0 in let z = e.0 in omega arith)) (front-new h x t l b))
        (λ d. ⊎_elim (λ e. absurd (let y = d.0 in let z = e.0 in
        omega arith)) (λ e. w.single (λ y q c. (let z = h y q c in omega arith)) x s t d.0 (inl d.1) (inl e.1))
        (front-new h x t l b))
        (front-new h x s l a)

  pub blocks-sound : {x : ℕ} {xs : List ℕ} {B : Starts} (m : ℕ) (S₁ : Starts) → Blocks F g S x xs B → PlacedAll F g S x xs
      → length xs ≡ 3 * m → Sound F g S x (x + m) S₁ (B ++ S₁) [] []
  blocks-sound {x} m S₁ b-none w e = let z : 3 * m ≡ 0 = sym e in
      record {
        grew = omega arith;
        rule = λ y s a. inl a;
        spelt = λ p h. inl (omega arith);
        covered = λ p h. inl (omega arith);
        apart = λ y s a. inl a;
        clean = tt;
        last = λ y q h. absurd (omega arith);
        under = none-under S₁ (omega arith);
        single = none-single S₁;
      }
  blocks-sound {x} m S₁ (b-rule {s = u} {xs = xs} {ys = ys} {B = B} r b) w e =
      let l : length xs ≡ 3 * weight (alts g u) = rows-length r in
      let ll : length xs + length ys ≡ 3 * m = sym (length-append xs ys) ∙ e in
      let pp = placed-append F g S xs ys (weight (alts g u)) x l w in
      let al : Alternatives F g S x (alts g u) = rows-alternatives x r pp.0 in
      let rest = blocks-sound (m - weight (alts g u)) S₁ b pp.1 (omega arith) in
      let some : x < x + weight (alts g u) = omega (arith, rows-some r) in
      record {
        rule = λ y s a. ⊎_elim
            (λ q. inr (among-here q al, subst (λ (v : Symbol). y + weight (alts g v) ≤ x + m) q.1 (let z = q.0 in omega arith)))
            (λ a'. ⊎_elim (λ b'. inl b') (λ b'. inr (b'.0, (let z = b'.1 in omega arith))) (rest.rule y s a'))
            a;
        grew = omega arith;
        spelt = λ p h. ⊎_elim
            (λ c. inl c)
            (λ c. ⊎_elim (λ d. inr (rule-spelt al p c d)) (λ d. ⊎_elim (λ c'. absurd (omega arith)) (λ c'. inr c') (rest.spelt p (omega arith))) (split p (x + weight (alts g u))))
            (split p x);
        covered = λ p h. ⊎_elim
            (λ c. inl c)
            (λ (c : x ≤ p). ⊎_elim (λ (d : p < x + weight (alts g u)). inr
            (inl (record { first = x; symbol = u; among = inl (refl, refl); above = c; under = d })))
            (λ (d : x + weight (alts g u) ≤ p). ⊎_elim (λ c'. absurd (omega arith))
            (λ c'. inr (⊎_elim (λ b'. inl (cover-later (λ y s a. inr a) b')) (λ b'. absurd b') c')) (rest.covered p (omega arith)))
            (split p (x + weight (alts g u))))
            (split p x);
        apart = λ y s a. ⊎_elim
            (λ q. inr (let z = q.0 in omega arith, λ j f i. absurd (let z = q.0 in omega arith)))
            (λ a'. ⊎_elim (λ b'. inl b') (λ b'. inr (clean-lower F x (x + weight (alts g u)) y (omega arith) (λ j f i. alternatives-last al j f) b')) (rest.apart y s a'))
            a;
        clean = tt;
        last = λ y f i. ⊎_elim (λ (d : y < x + weight (alts g u)). alternatives-last al y (omega arith))
            (λ (d : x + weight (alts g u) ≤ y). rest.last y (omega arith) d) (split y (x + weight (alts g u)));
        under = λ q y s c. (let z = front-under some rest q y s c in omega arith);
        single = front-single some rest;
      }
