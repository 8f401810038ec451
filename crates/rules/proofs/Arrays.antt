-- Laws of the arrays: stores of an item's numbers, the owners from right to left, the rows of tests.
use mathlib.Core.List.{List}
use mathlib.Core.Logic.{◌⊎◌, inl, inr, ⊎_elim}
use mathlib.Core.Path.{◌≡◌, refl, sym, ap, ◌∙◌, subst}
use Prim.Native.Nat.{ℕ, ◌+◌, ◌*◌, ◌-◌, ◌<◌, ◌≤◌}
use native.Mathlib.Decide.{ℕ_discrete}
use native.Mathlib.Omega.{arith}
use lib.ListN.{length, get_or, set, length-set}
use lib.Seq.{get_or-set_same, get_or-set_other}
use borrow.Author.Tests.{eq-eqb, ne_eqb, lt-ltb, le-ltb}
use Rattle.text.proofs.Tests.{split}
use Rattle.items.specs.Items.{kind_at, target_at, token_at}
use Rattle.tokens.specs.Lengths.{width_at}
use Rattle.chart.specs.Code.{owner_at}
use Rattle.rules.specs.Ready.{Last, last_of, owner_of, Owners, Put, next_kind_of, goes_of, rule_of, Codes}

-- three stores side by side
module _ (c : List ℕ) (a x y z : ℕ) where
  abbrev stored : List ℕ
  stored = set (set (set c a x) (a + 1) y) (a + 2) z

  far : (j : ℕ) → (j ≡ a → ⊥) → (j ≡ a + 1 → ⊥) → (j ≡ a + 2 → ⊥) → get_or stored j 0 ≡ get_or c j 0
  far j u v w = get_or-set_other (set (set c a x) (a + 1) y) (a + 2) j z 0 w ∙ get_or-set_other (set c a x) (a + 1) j y 0 v ∙ get_or-set_other c a j x 0 u

  store-0 : a + 3 < length c → get_or stored a 0 ≡ x
  store-0 h = get_or-set_other (set (set c a x) (a + 1) y) (a + 2) a z 0 (omega arith) ∙ get_or-set_other (set c a x) (a + 1) a y 0 (omega arith) ∙ get_or-set_same c a x 0 (omega arith)

  store-1 : a + 3 < length c → get_or stored (a + 1) 0 ≡ y
  store-1 h = get_or-set_other (set (set c a x) (a + 1) y) (a + 2) (a + 1) z 0 (omega arith) ∙ get_or-set_same (set c a x) (a + 1) y 0 (simp length-set (omega arith))

  store-2 : a + 3 < length c → get_or stored (a + 2) 0 ≡ z
  store-2 h = get_or-set_same (set (set c a x) (a + 1) y) (a + 2) z 0 (simp length-set (omega arith))

pub put-law : (c : List ℕ) (p kind goes rule : ℕ) → 4 * p + 3 < length c → Put c (set (set (set c (4 * p) kind) (4 * p + 1) goes) (4 * p + 2) rule) p kind goes rule
put-law c p kind goes rule h = record {
  long = simp length-set;
  kind-is = store-0 c (4 * p) kind goes rule h;
  goes-is = store-1 c (4 * p) kind goes rule h;
  rule-is = store-2 c (4 * p) kind goes rule h;
  kept = λ j o. ⊎_elim (λ l. far c (4 * p) kind goes rule j (omega arith) (omega arith) (omega arith)) (λ l. far c (4 * p) kind goes rule j (omega arith) (omega arith) (omega arith)) o;
}

-- the owners of the items from p on are there
pub record Owning (T : List ℕ) (size : ℕ) (c₀ c : List ℕ) (p last : ℕ) : Type 0 where
  pub low : p ≤ size
  pub long : length c ≡ length c₀
  pub small : last < 512
  pub last-is : (e : ℕ) → Last T p e → e < size → last ≡ e
  pub owner : (q e : ℕ) → p ≤ q → q < size → Last T q e → e < size → owner_at c q ≡ owner_of T q e

pub own-start : (T : List ℕ) (size : ℕ) (c : List ℕ) → Owning T size c c size 0
own-start T size c = record {
  low = omega arith;
  long = refl;
  small = omega arith;
  last-is = λ e w h. absurd (omega (arith, w.from));
  owner = λ q e l h w k. absurd (omega arith);
}

last_step : (T : List ℕ) (size p last : ℕ) → ((e : ℕ) → Last T (p + 1) e → e < size → last ≡ e) → (e : ℕ) → Last T p e → e < size → last_of T p last ≡ e
unfolding last_of
last_step T size p last f e w h = elim (ℕ_discrete (kind_at T p) 6) as (λ _. last_of T p last ≡ e) [
  | yes k ↦ rw (eq-eqb (kind_at T p) 6 k) (elim (ℕ_discrete p e) as (λ _. p ≡ e) [
    | yes d ↦ d
    | no d ↦ absurd (w.before p (omega arith) (omega (arith, w.from)) k)
  ])
  | no k ↦ rw (ne_eqb (kind_at T p) 6 k) (f e (record {
    from = elim (ℕ_discrete p e) as (λ _. p + 1 ≤ e) [ yes d ↦ absurd (k (ap (kind_at T) d ∙ w.ends)) | no d ↦ omega (arith, w.from) ];
    ends = w.ends;
    before = λ q l m. w.before q (omega arith) m;
  }) h)
]

last-small : (T : List ℕ) (p last : ℕ) → p < 512 → last < 512 → last_of T p last < 512
unfolding last_of
last-small T p last h l = elim (ℕ_discrete (kind_at T p) 6) as (λ _. last_of T p last < 512) [
  | yes k ↦ rw (eq-eqb (kind_at T p) 6 k) h
  | no k ↦ rw (ne_eqb (kind_at T p) 6 k) l
]

module _ {T : List ℕ} {size : ℕ} {c₀ c : List ℕ} {last : ℕ} (p q : ℕ) (w : Owning T size c₀ c q last) (after_dot : q ≡ p + 1)
    (small : size ≤ 512) (room : 4 * size ≤ length c₀) where
  pub own-small : last_of T p last < 512
  own-small = last-small T p last (omega (arith, w.low)) w.small

  last-next : (e : ℕ) → Last T (p + 1) e → e < size → last ≡ e
  last-next e v h = w.last-is e (subst (λ (n : ℕ). Last T n e) (sym after_dot) v) h

  pub own-next : Owning T size c₀ (set c (4 * p + 3) (owner_of T p (last_of T p last))) p (last_of T p last)
  own-next = record {
    low = omega (arith, w.low);
    long = length-set c (4 * p + 3) (owner_of T p (last_of T p last)) ∙ w.long;
    small = own-small;
    last-is = last_step T size p last last-next;
    owner = λ r e l h v k. elim (ℕ_discrete r p) as (λ _. owner_at (set c (4 * p + 3) (owner_of T p (last_of T p last))) r ≡ owner_of T r e) [
      | yes d ↦
          ap (λ (n : ℕ). get_or (set c (4 * p + 3) (owner_of T p (last_of T p last))) (4 * n + 3) 0) d
          ∙ get_or-set_same c (4 * p + 3) (owner_of T p (last_of T p last)) 0 (omega (arith, w.low, w.long))
          ∙ ap (owner_of T p) (last_step T size p last last-next e (subst (λ (n : ℕ). Last T n e) d v) k)
          ∙ ap (λ (n : ℕ). owner_of T n e) (sym d)
      | no d ↦ get_or-set_other c (4 * p + 3) (4 * r + 3) (owner_of T p (last_of T p last)) 0 (omega arith) ∙ w.owner r e (omega arith) h v k
    ];
  }

pub own-end : {T : List ℕ} {size : ℕ} {c₀ c : List ℕ} {p last : ℕ} → Owning T size c₀ c p last → p ≤ 0 → Owners T size c₀ c
own-end w h = record { long = w.long; owner = λ q e l v k. w.owner q e (omega arith) l v k }

-- the items below p are coded
pub record Coding (T : List ℕ) (size : ℕ) (c₀ c : List ℕ) (p : ℕ) : Type 0 where
  pub low : p ≤ size
  pub long : length c ≡ length c₀
  pub kind-is : (q : ℕ) → q < p → get_or c (4 * q) 0 ≡ next_kind_of (kind_at T q)
  pub goes-is : (q : ℕ) → q < p → get_or c (4 * q + 1) 0 ≡ goes_of T q (kind_at T q)
  pub rule-is : (q : ℕ) → q < p → get_or c (4 * q + 2) 0 ≡ rule_of T c₀ q (kind_at T q)
  pub owner-is : (q : ℕ) → owner_at c q ≡ owner_at c₀ q

pub code-start : (T : List ℕ) (size : ℕ) (c : List ℕ) → Coding T size c c 0
code-start T size c = record {
  low = omega arith;
  long = refl;
  kind-is = λ q h. absurd (omega arith);
  goes-is = λ q h. absurd (omega arith);
  rule-is = λ q h. absurd (omega arith);
  owner-is = λ q. refl;
}

module _ {T : List ℕ} {size : ℕ} {c₀ c c' : List ℕ} {p : ℕ} (w : Coding T size c₀ c p) (h : p < size)
    (u : Put c c' p (next_kind_of (kind_at T p)) (goes_of T p (kind_at T p)) (rule_of T c p (kind_at T p))) where
  rule-same : rule_of T c p (kind_at T p) ≡ rule_of T c₀ p (kind_at T p)
  unfolding rule_of
  rule-same = rw (w.owner-is (target_at T p))

  pub code-next : Coding T size c₀ c' (p + 1)
  code-next = record {
    low = omega arith;
    long = u.long ∙ w.long;
    kind-is =
        λ q l. elim (ℕ_discrete q p) as (λ _. get_or c' (4 * q) 0 ≡ next_kind_of (kind_at T q))
        [ yes d ↦ rw d u.kind-is | no d ↦ u.kept (4 * q) (inl (omega arith)) ∙ w.kind-is q (omega arith) ];
    goes-is =
        λ q l. elim (ℕ_discrete q p) as (λ _. get_or c' (4 * q + 1) 0 ≡ goes_of T q (kind_at T q))
        [ yes d ↦ rw d u.goes-is | no d ↦ u.kept (4 * q + 1) (inl (omega arith)) ∙ w.goes-is q (omega arith) ];
    rule-is =
        λ q l. elim (ℕ_discrete q p) as (λ _. get_or c' (4 * q + 2) 0 ≡ rule_of T c₀ q (kind_at T q))
        [ yes d ↦ rw d (u.rule-is ∙ rule-same) | no d ↦ u.kept (4 * q + 2) (inl (omega arith)) ∙ w.rule-is q (omega arith) ];
    owner-is = λ q. u.kept (4 * q + 3) (elim (ℕ_discrete q p) as (λ _. (4 * q + 3 < 4 * p) ⊎ (4 * p + 2 < 4 * q + 3)) [ yes d ↦ inr (omega arith) | no d ↦ side q d ]) ∙ w.owner-is q;
  }
    where
      side : (q : ℕ) → (q ≡ p → ⊥) → (4 * q + 3 < 4 * p) ⊎ (4 * p + 2 < 4 * q + 3)
      side q d = ⊎_elim (λ l. inl (omega arith)) (λ l. inr (omega arith)) (split q p)

pub code-end : {T : List ℕ} {size : ℕ} {c₀ c : List ℕ} {p : ℕ} → Coding T size c₀ c p → size ≤ p → Codes T size c₀ c
code-end w h = record {
  long = w.long;
  kind-is = λ q l. w.kind-is q (omega arith);
  goes-is = λ q l. w.goes-is q (omega arith);
  rule-is = λ q l. w.rule-is q (omega arith);
  owner-is = λ q l. w.owner-is q;
}

-- an item's numbers by its kind
put_as : {c c' : List ℕ} {p a b d a' b' d' : ℕ} → Put c c' p a b d → a ≡ a' → b ≡ b' → d ≡ d' → Put c c' p a' b' d'
put_as u x y z = record { long = u.long; kind-is = u.kind-is ∙ x; goes-is = u.goes-is ∙ y; rule-is = u.rule-is ∙ z; kept = u.kept }

abbrev pub PutItem : List ℕ → List ℕ → List ℕ → ℕ → Type 0
PutItem T c c' p = Put c c' p (next_kind_of (kind_at T p)) (goes_of T p (kind_at T p)) (rule_of T c p (kind_at T p))

module _ (T : List ℕ) {c c' : List ℕ} {p : ℕ} where
  pub item-terminal : {w : ℕ} → Put c c' p 1 w 0 → kind_at T p ≡ 1 → w ≡ width_at T (token_at T p) → PutItem T c c' p
  unfolding next_kind_of goes_of rule_of
  item-terminal u e h = put_as u (rw (eq-eqb (kind_at T p) 1 e)) (rw (eq-eqb (kind_at T p) 1 e) h) (rw (eq-eqb (kind_at T p) 1 e))

  pub item-symbol : {x r : ℕ} → Put c c' p 2 x r → (kind_at T p ≡ 1 → ⊥) → kind_at T p < 5 → x ≡ target_at T p → r ≡ owner_at c (target_at T p) - 1 → PutItem T c c' p
  unfolding next_kind_of goes_of rule_of
  item-symbol u e l x r =
      put_as u (rw (ne_eqb (kind_at T p) 1 e, lt-ltb (kind_at T p) 5 l)) (rw (ne_eqb (kind_at T p) 1 e, lt-ltb (kind_at T p) 5 l) x)
      (rw (ne_eqb (kind_at T p) 1 e, lt-ltb (kind_at T p) 5 l) r)

  pub item-end : Put c c' p 0 (p + 2) 0 → (kind_at T p ≡ 1 → ⊥) → 5 ≤ kind_at T p → kind_at T p ≡ 5 → PutItem T c c' p
  unfolding next_kind_of goes_of rule_of
  item-end u e l k =
      put_as u (rw (ne_eqb (kind_at T p) 1 e, le-ltb (kind_at T p) 5 l))
      (rw (ne_eqb (kind_at T p) 1 e, le-ltb (kind_at T p) 5 l, eq-eqb (kind_at T p) 5 k))
      (rw (ne_eqb (kind_at T p) 1 e, le-ltb (kind_at T p) 5 l))

  pub item-last : Put c c' p 0 0 0 → (kind_at T p ≡ 1 → ⊥) → 5 ≤ kind_at T p → (kind_at T p ≡ 5 → ⊥) → PutItem T c c' p
  unfolding next_kind_of goes_of rule_of
  item-last u e l k =
      put_as u (rw (ne_eqb (kind_at T p) 1 e, le-ltb (kind_at T p) 5 l))
      (rw (ne_eqb (kind_at T p) 1 e, le-ltb (kind_at T p) 5 l, ne_eqb (kind_at T p) 5 k))
      (rw (ne_eqb (kind_at T p) 1 e, le-ltb (kind_at T p) 5 l))
