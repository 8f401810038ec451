-- Numbers of sets in the table's cells.
use mathlib.Core.Bool.{Bool, true}
use mathlib.Core.List.{List}
use mathlib.Core.Logic.{◌⊎◌, inl, inr, ⊎_elim}
use mathlib.Core.Path.{◌≡◌, refl, sym, ap, subst, ◌∙◌}
use Prim.Native.Nat.{ℕ, ◌+◌, ◌*◌, ◌-◌, ◌/◌, ◌%◌, ◌<◌, ◌≤◌}
use native.Mathlib.Decide.{dec_lt}
use native.Mathlib.Omega.{arith}
use native.Mathlib.Nat.{mul-le-mul_right}
use lib.ListN.{length, get_or, set, replicate}
use Rattle.bits.specs.Bits.{Lit, Has, Union, Masking, Spread, Adds}
use Rattle.bits.proofs.Laws.{lit-zero, adds-word, adds-join, adds-as, adds_none}
use Rattle.chart.specs.Code.{next_kind, goes_at, rule_at}
use Rattle.chart.specs.Heights.{stretches, cell_at}
use Rattle.chart.proofs.Cells.{cell-lt}
use Rattle.chart.proofs.Users.{all-zero}
use Rattle.moves.specs.Moves.{column_of, Derived, Row, Masks, Gathered, Masked, Worded, Passed, Landed, LandedBy, Shifted, Move, move-terminal, move-symbol, Stepped}

pub row_of : {size e n main : ℕ} → size ≤ 512 → e < size → n ≤ 200 → size * stretches n ≤ main → Row n e main
row_of {size} {e} {n} {main} small h short room = record {
  short = short;
  small = omega arith;
  room =
      (let z : (e + 1) * stretches n ≤ size * stretches n = mul-le-mul_right (stretches n) (omega arith) in omega (arith, z, room));
}

pub none_has : (x : ℕ) → Has (replicate 8 0) x → ⊥
none_has x h = lit-zero (all-zero 8 (x / 32)) h.lit

pub column-on : (n w x : ℕ) → w ≤ n / 32 → x ≤ n → x / 32 ≤ w → (x ≤ column_of n w) × (column_of n w ≤ n)
column-on n w x h l o = (omega (arith, h, l, o), omega (arith, h))

pub cell-inside : {n e main w x at : ℕ} → Row n e main → w ≤ n / 32 → x ≤ n → x / 32 ≤ w → at ≡ cell_at n e x (column_of n w) → at < main
cell-inside {n} {e} {main} {w} {x} r h l o i = let z = column-on n w x h l o in let y = cell-lt n e x (column_of n w) main z.0 z.1 r.room in subst (λ (v : ℕ). v < main) (sym i) y

-- the last of a row's numbers on the record
pub lanes-inside : {n e main w v count at : ℕ} → Row n e main → w ≤ n / 32 → v ≤ w → 32 * v + count ≤ n + 1 → count ≤ 32 → at ≡ cell_at n e (32 * v) (column_of n w) → at + count ≤ main
lanes-inside {n} {e} {main} {w} {v} {count} {at} r h l c d i =
    let z : (count : ℕ) → 32 * v + count ≤ n + 1 → count ≤ 32 → at + count ≤ main = go in z count c d
  where
    go : (k : ℕ) → 32 * v + k ≤ n + 1 → k ≤ 32 → at + k ≤ main
    go k a b = elim (dec_lt 0 k) as (λ _. at + k ≤ main) [
      | yes p ↦ (let q = cell-inside {n = n} {e = e} {main = main} {w = w} {x = 32 * v + (k - 1)} {at = at + (k - 1)} r h (omega arith) (omega arith) (omega (arith, i)) in omega (arith, q))
      | no p ↦ (let q = cell-inside {n = n} {e = e} {main = main} {w = w} {x = 32 * v} {at = at} r h (omega arith) (omega arith) i in omega (arith, q))
    ]

-- one number more
pub gathered_none : {t O : List ℕ} {at : ℕ} → Gathered t at O 0 0
gathered_none = record { is = λ k h. absurd (lit-zero refl h); all = λ k b l. absurd (omega (arith, l)) }

pub gathered_next : {t O : List ℕ} {at b r s : ℕ} → Gathered t at O b r → Masking r (get_or t (at + b) 0) (get_or O b 0) s → Gathered t at O (b + 1) s
gathered_next {t} {O} {at} {b} {r} {s} g m = record {
  is = λ k h. ⊎_elim (λ z. (let y = g.is k z in (y.0, omega (arith, y.1), y.2, y.3))) (λ z. (b, omega arith, z.1, z.0)) (m.is k h);
  all = λ k x h e z. go k x h e z (dec_lt x b);
}
  where
    go : (k x : ℕ) → x < b + 1 → get_or O x 0 ≡ 4294967295 → Lit (get_or t (at + x) 0) k → Dec (x < b) → Lit s k
    go k x h e z (yes y) = m.kept k (g.all k x y e z)
    go k x h e z (no y) =
        let i : x ≡ b = omega (arith, h, y) in
        m.all k (subst (λ (v : ℕ). get_or O v 0 ≡ 4294967295) i e) (subst (λ (v : ℕ). Lit (get_or t (at + v) 0) k) i z)

-- ends that are in the number w of a set
module _ {t O : List ℕ} (n e v w at count g : ℕ) (i : at ≡ cell_at n e (32 * v) (column_of n w)) (h : w ≤ n / 32) (l : v ≤ w) (c : count ≤ 32) (c' : 32 * v + count ≤ n + 1)
    (c'' : (b : ℕ) → b < 32 → 32 * v + b ≤ n → b < count) (full : Masks O) (d : Gathered t at O count g) where
  over : (x b : ℕ) → x / 32 ≡ w → at + b ≡ cell_at n e (32 * v + b) (column_of n (x / 32))
  over x b z =
      let y : at + b ≡ cell_at n e (32 * v + b) (column_of n w) = omega (arith, i) in
      y ∙ ap (λ (k : ℕ). cell_at n e (32 * v + b) (column_of n k)) (sym z)

  at-word : (x : ℕ) → x / 32 ≡ w → Lit g (x % 32) → Masked n t e v O x × (x / 32 ≡ w)
  at-word x z u =
      let q = d.is (x % 32) u in (
        record {
          b = q.0;
          low = omega (arith, q.1, c);
          on = omega (arith, q.1, c');
          lit = q.2;
          derived = record {
            order = omega (arith, z, q.1, c, l);
            inside = omega (arith, z, h);
            lit = subst (λ (k : ℕ). Lit (get_or t k 0) (x % 32)) (over x q.0 z) q.3;
          };
        },
        z,
      )

  word_at : (x : ℕ) → Masked n t e v O x × (x / 32 ≡ w) → (x / 32 ≡ w) × Lit g (x % 32)
  word_at x p =
      let m = p.0 in
      (p.1, d.all (x % 32) m.b (c'' m.b m.low m.on) (full m.b m.low m.lit) (subst (λ (k : ℕ). Lit (get_or t k 0) (x % 32)) (sym (over x m.b p.1)) m.derived.lit))

  pub masked-word : {r : ℕ} (S : List ℕ) → n ≤ 200 → Union (get_or S w 0) g r → Adds (λ x. Masked n t e v O x × (x / 32 ≡ w)) S (set S w r)
  masked-word S short u = adds-word S (omega (arith, h, short)) u at-word word_at

-- up to the number w
pub masked-next : {n : ℕ} {t O : List ℕ} {e v w : ℕ} {s s' s'' : List ℕ} → Adds (λ x. Masked n t e v O x × (x / 32 < w)) s s' → Adds (λ x. Masked n t e v O x × (x / 32 ≡ w)) s' s''
    → Adds (λ x. Masked n t e v O x × (x / 32 < w + 1)) s s''
masked-next {n} {t} {O} {e} {v} {w} a b = adds-join (λ x. Masked n t e v O x × (x / 32 < w + 1)) a b
    (λ x z. ⊎_elim (λ y. (y.0, omega (arith, y.1))) (λ y. (y.0, omega (arith, y.1))) z) (λ x z. go x z (dec_lt (x / 32) w))
  where
    go : (x : ℕ) → Masked n t e v O x × (x / 32 < w + 1) → Dec (x / 32 < w) → (Masked n t e v O x × (x / 32 < w)) ⊎ (Masked n t e v O x × (x / 32 ≡ w))
    go x z (yes y) = inl (z.0, y)
    go x z (no y) = inr (z.0, omega (arith, z.1, y))

-- the masks are those of a word
pub masks-of : {word : ℕ} {O O' : List ℕ} → length O ≡ 32 → Spread word O O' → Masks O'
masks-of l f b h n = f.all l b h (f.is b h n)

pub word-adds : {n : ℕ} {t O O' : List ℕ} {e v word : ℕ} {s s' : List ℕ} → length O ≡ 32 → Spread word O O' → Adds (Masked n t e v O') s s' → Adds (Worded n t e v word) s s'
word-adds {n} {t} {O} {O'} {e} {v} {word} l f a = adds-as (Worded n t e v word) a
    (λ x m. record { b = m.b; low = m.low; on = m.on; lit = f.is m.b m.low m.lit; derived = m.derived })
    (λ x m. record { b = m.b; low = m.low; on = m.on; lit = λ z. omega (arith, z, f.all l m.b m.low m.lit); derived = m.derived })

pub bit-has : (S : List ℕ) (v b : ℕ) → b < 32 → Lit (get_or S v 0) b → Has S (32 * v + b)
bit-has S v b h l = record {
  lit = subst (λ (k : ℕ). Lit (get_or S k 0) ((32 * v + b) % 32)) (let z : v ≡ (32 * v + b) / 32 = omega arith in z)
      (subst (λ (k : ℕ). Lit (get_or S v 0) k) (let z : b ≡ (32 * v + b) % 32 = omega arith in z) l);
}

-- the ends from the numbers of a set before v
abbrev pub PassedTo : ℕ → List ℕ → ℕ → List ℕ → ℕ → ℕ → Type 0
PassedTo n t e S v x = (y : Passed n t e S x) × (y.from / 32 < v)

pub passed-next : {n : ℕ} {t : List ℕ} {e v : ℕ} (S : List ℕ) {s s' s'' : List ℕ} → Adds (PassedTo n t e S v) s s' → Adds (Worded n t e v (get_or S v 0)) s' s'' → Adds (PassedTo n t e S (v + 1)) s s''
passed-next {n} {t} {e} {v} S a b = adds-join (PassedTo n t e S (v + 1)) a b (λ x z. ⊎_elim old new z) (λ x z. go x z (dec_lt (z.0.from / 32) v))
  where
    old : {x : ℕ} → PassedTo n t e S v x → PassedTo n t e S (v + 1) x
    old y = (y.0, omega (arith, y.1))

    new : {x : ℕ} → Worded n t e v (get_or S v 0) x → PassedTo n t e S (v + 1) x
    new m = (record { from = 32 * v + m.b; on = m.on; has = bit-has S v m.b m.low m.lit; derived = m.derived }, omega (arith, m.low))

    go : (x : ℕ) (z : PassedTo n t e S (v + 1) x) → Dec (z.0.from / 32 < v) → PassedTo n t e S v x ⊎ Worded n t e v (get_or S v 0) x
    go x z (yes l) = inl (z.0, l)
    go x z (no l) =
        let i : z.0.from / 32 ≡ v = omega (arith, l, z.1) in
        let f : z.0.from ≡ 32 * v + z.0.from % 32 = omega (arith, i) in
        inr (record {
          b = z.0.from % 32;
          low = omega arith;
          on = omega (arith, f, z.0.on);
          lit = subst (λ (k : ℕ). Lit (get_or S k 0) (z.0.from % 32)) i z.0.has.lit;
          derived = subst (λ (k : ℕ). Derived n t e k x) f z.0.derived;
        })

pub passed_start : {n : ℕ} {t : List ℕ} {e : ℕ} {S s : List ℕ} → Adds (PassedTo n t e S 0) s s
passed_start = adds_none (λ x z. omega (arith, z.1))

pub passed-end : {n : ℕ} {t : List ℕ} {e v : ℕ} (S : List ℕ) {s s' : List ℕ} → n / 32 < v → Adds (PassedTo n t e S v) s s' → Adds (Passed n t e S) s s'
passed-end {n} {t} {e} S h a = adds-as (Passed n t e S) a (λ x z. z.0) (λ x z. (z, omega (arith, z.on, h)))

-- the places after a terminal from the bits of a word before b
abbrev pub LandedTo : List ℕ → ℕ → ℕ → ℕ → ℕ → ℕ → ℕ → ℕ → Type 0
LandedTo M p width n v word b z = (y : LandedBy M p width n v word z) × (y.b < b)

pub landed-next : {M : List ℕ} {p width n v word b x : ℕ} {on : Bool} {s s' s'' : List ℕ} → b < 32 → x ≡ 32 * v + b → (on ≡ true → Lit word b) → (Lit word b → on ≡ true)
    → Adds (LandedTo M p width n v word b) s s' → Adds (λ z. (on ≡ true) × Landed M p width n x z) s' s'' → Adds (LandedTo M p width n v word (b + 1)) s s''
landed-next {M} {p} {width} {n} {v} {word} {b} {x} {on} h e f g a d = adds-join (LandedTo M p width n v word (b + 1)) a d (λ z y. ⊎_elim old new y) (λ z y. go z y (dec_lt y.0.b b))
  where
    old : {z : ℕ} → LandedTo M p width n v word b z → LandedTo M p width n v word (b + 1) z
    old y = (y.0, omega (arith, y.1))

    new : {z : ℕ} → (on ≡ true) × Landed M p width n x z → LandedTo M p width n v word (b + 1) z
    new {z} y = (record { b = b; low = h; lit = f y.0; landed = subst (λ (k : ℕ). Landed M p width n k z) e y.1 }, omega arith)

    go : (z : ℕ) (y : LandedTo M p width n v word (b + 1) z) → Dec (y.0.b < b) → LandedTo M p width n v word b z ⊎ ((on ≡ true) × Landed M p width n x z)
    go z y (yes l) = inl (y.0, l)
    go z y (no l) =
        let i : y.0.b ≡ b = omega (arith, l, y.1) in
        inr (g (subst (Lit word) i y.0.lit), subst (λ (k : ℕ). Landed M p width n k z) (let q : 32 * v + y.0.b ≡ x = omega (arith, e, i) in q) y.0.landed)

pub landed-start : {M : List ℕ} {p width n v word : ℕ} {s : List ℕ} → Adds (LandedTo M p width n v word 0) s s
landed-start = adds_none (λ x z. omega (arith, z.1))

pub landed-end : {M : List ℕ} {p width n v word b : ℕ} {s s' : List ℕ} → 32 ≤ b → Adds (LandedTo M p width n v word b) s s' → Adds (LandedBy M p width n v word) s s'
landed-end {M} {p} {width} {n} {v} {word} h a = adds-as (LandedBy M p width n v word) a (λ x z. z.0) (λ x z. (z, omega (arith, z.low, h)))

-- from the numbers of a set before v
abbrev pub ShiftedTo : List ℕ → ℕ → ℕ → ℕ → List ℕ → ℕ → ℕ → Type 0
ShiftedTo M p width n S v z = (y : Shifted M p width n S z) × (y.from / 32 < v)

pub shifted_next : {M : List ℕ} {p width n v : ℕ} (S : List ℕ) {s s' s'' : List ℕ} → Adds (ShiftedTo M p width n S v) s s' → Adds (LandedBy M p width n v (get_or S v 0)) s' s''
    → Adds (ShiftedTo M p width n S (v + 1)) s s''
shifted_next {M} {p} {width} {n} {v} S a b = adds-join (ShiftedTo M p width n S (v + 1)) a b (λ x z. ⊎_elim old new z) (λ x z. go x z (dec_lt (z.0.from / 32) v))
  where
    old : {x : ℕ} → ShiftedTo M p width n S v x → ShiftedTo M p width n S (v + 1) x
    old y = (y.0, omega (arith, y.1))

    new : {x : ℕ} → LandedBy M p width n v (get_or S v 0) x → ShiftedTo M p width n S (v + 1) x
    new m = (record { from = 32 * v + m.b; has = bit-has S v m.b m.low m.lit; landed = m.landed }, omega (arith, m.low))

    go : (x : ℕ) (z : ShiftedTo M p width n S (v + 1) x) → Dec (z.0.from / 32 < v) → ShiftedTo M p width n S v x ⊎ LandedBy M p width n v (get_or S v 0) x
    go x z (yes l) = inl (z.0, l)
    go x z (no l) =
        let i : z.0.from / 32 ≡ v = omega (arith, l, z.1) in
        let f : z.0.from ≡ 32 * v + z.0.from % 32 = omega (arith, i) in
        inr (record {
          b = z.0.from % 32;
          low = omega arith;
          lit = subst (λ (k : ℕ). Lit (get_or S k 0) (z.0.from % 32)) i z.0.has.lit;
          landed = subst (λ (k : ℕ). Landed M p width n k x) f z.0.landed;
        })

pub shifted_start : {M : List ℕ} {p width n : ℕ} {S s : List ℕ} → Adds (ShiftedTo M p width n S 0) s s
shifted_start = adds_none (λ x z. omega (arith, z.1))

pub shifted_end : {M : List ℕ} {p width n v : ℕ} (S : List ℕ) {s s' : List ℕ} → n / 32 < v → Adds (ShiftedTo M p width n S v) s s' → Adds (Shifted M p width n S) s s'
shifted_end {M} {p} {width} {n} S h a = adds-as (Shifted M p width n S) a (λ x z. z.0) (λ x z. (z, omega (arith, z.landed.within, h)))

-- a step, by what stands after the dot
module _ {c M : List ℕ} {n : ℕ} {t : List ℕ} {p : ℕ} {S s s' : List ℕ} (l : length s ≡ 8) (none : (x : ℕ) → Has s x → ⊥) where
  pub stepped-terminal : {width : ℕ} → next_kind c p ≡ 1 → width ≡ goes_at c p → Adds (Shifted M p width n S) s s' → Stepped c M n t p S s'
  stepped-terminal {width} k e a = record {
    long = a.long ∙ l;
    is = λ z h. ⊎_elim (λ y. absurd (none z y))
        (λ y. record { from = y.from; has = y.has; move = move-terminal k (subst (λ (w : ℕ). Landed M p w n y.from z) e y.landed) }) (a.is z h);
    all = λ z m. a.all l z (go m.has m.move);
  }
    where
      go : {y z : ℕ} → Has S y → Move c M n t p y z → Shifted M p width n S z
      go {y} {z} h (move-terminal i w) = record { from = y; has = h; landed = subst (λ (w : ℕ). Landed M p w n y z) (sym e) w }
      go h (move-symbol i w d) = absurd (omega (arith, k, i))

  pub stepped-symbol : {rule : ℕ} → next_kind c p ≡ 2 → rule ≡ rule_at c p → Adds (Passed n t rule S) s s' → Stepped c M n t p S s'
  stepped-symbol {rule} k e a = record {
    long = a.long ∙ l;
    is = λ z h. ⊎_elim (λ y. absurd (none z y))
        (λ y. record { from = y.from; has = y.has; move = move-symbol k y.on (subst (λ (r : ℕ). Derived n t r y.from z) e y.derived) }) (a.is z h);
    all = λ z m. a.all l z (go m.has m.move);
  }
    where
      go : {y z : ℕ} → Has S y → Move c M n t p y z → Passed n t rule S z
      go h (move-terminal i w) = absurd (omega (arith, k, i))
      go {y} {z} h (move-symbol i w d) = record { from = y; on = w; has = h; derived = subst (λ (r : ℕ). Derived n t r y z) (sym e) d }

pub stepped-end : {c M : List ℕ} {n : ℕ} {t : List ℕ} {p : ℕ} {S s : List ℕ} → length s ≡ 8 → ((x : ℕ) → Has s x → ⊥) → (next_kind c p ≡ 1 → ⊥) → (next_kind c p ≡ 2 → ⊥) → Stepped c M n t p S s
stepped-end {c} {M} {n} {t} {p} l none a b = record { long = l; is = λ z h. absurd (none z h); all = λ z m. absurd (go m.move) }
  where
    go : {y z : ℕ} → Move c M n t p y z → ⊥
    go (move-terminal i w) = a i
    go (move-symbol i w d) = b i
