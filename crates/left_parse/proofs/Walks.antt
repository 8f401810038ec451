-- The steps of a walk.
use mathlib.Core.Path.{◌≡◌, refl, sym, ap, ◌∙◌}
use mathlib.Core.List.{List, [], ◌∷◌, ◌++◌, append_assoc}
use Prim.Native.Nat.{ℕ, suc, ◌+◌, ◌-◌, ◌*◌, ◌<◌, ◌≤◌}
use native.Mathlib.Omega.{arith}
use native.Mathlib.Nat.{suc-mul, mul-le-mul_right, add-zero}
use lib.ListN.{length, get_or, drop, length-append, length-drop}
use lib.Seq.{drop-drop, drop_at, get_or-drop}
use Rattle.text.specs.Lists.{Text}
use Rattle.tree.specs.Tree.{Symbol, Grammar}
use Rattle.derive.specs.Derive.{Row, end, leaf, node, left_parse, alternative, Derives, d-end, d-leaf, d-node}
use Rattle.derive.proofs.Rows.{forward}
use Rattle.items.specs.Items.{Starts, Spells, kind_at}
use Rattle.left_parse.specs.declared.Position.{Position}
use Rattle.left_parse.specs.Walk.{Frame, opened, rests, Link, Chain, bottom, link, Walk, Over}
use Rattle.left_parse.proofs.Scratch.{innermost, outer, item_of}
use Rattle.left_parse.proofs.Items.{View, v-end, v-leaf, v-node, view, next-spells, first-stands, spells-kind, stands-kind, in_table}

abbrev pub spot : ℕ → ℕ → ℕ → ℕ → Position
spot p e i n = record { item = p; entry = e; place = record { 0 = i }; inner = n }

pub list-head : (p : List ℕ) (at a : ℕ) (xs : List ℕ) → drop at p ≡ a ∷ xs → (at < length p) × (get_or p at 0 ≡ a) × (drop (at + 1) p ≡ xs)
list-head p at a xs e =
    let l : length (drop at p) ≡ suc (length xs) = ap length e in
    let n = length-drop at p in
    let z : at + 0 ≡ at = omega arith in (
      omega arith,
      sym (ap (λ (x : ℕ). get_or p x 0) z) ∙ sym (get_or-drop at p 0 0) ∙ ap (λ (ys : List ℕ). get_or ys 0 0) e,
      sym (drop-drop 1 at p) ∙ ap (drop 1) e,
    )

leaf-rest : {g : Grammar} {r : Text} {m i j : ℕ} {t : Row} {s : Symbol} {ss : List Symbol} → Derives g r (leaf m t) (s ∷ ss) i j → Derives g r t ss m j
leaf-rest (d-leaf f d) = d

pub node-inner : {g : Grammar} {r : Text} {a m i j : ℕ} {c t : Row} {s : Symbol} {ss : List Symbol} → Derives g r (node a m c t) (s ∷ ss) i j → Derives g r c (alternative g s a) i m
node-inner (d-node l c d) = c

node-rest : {g : Grammar} {r : Text} {a m i j : ℕ} {c t : Row} {s : Symbol} {ss : List Symbol} → Derives g r (node a m c t) (s ∷ ss) i j → Derives g r t ss m j
node-rest (d-node l c d) = d

end-place : {g : Grammar} {r : Text} {i j : ℕ} → Derives g r end [] i j → i ≡ j
end-place d-end = refl

ahead : (e : ℕ) (c t : Row) → e + 1 + length (left_parse c) + length (left_parse t) ≡ e + suc (length (left_parse c ++ left_parse t))
ahead e c t = let l = length-append (left_parse c) (left_parse t) in omega arith

over-row : {T : List ℕ} {r : Text} {S : List ℕ} {g : Grammar} {starts : Starts} {e₁ i₁ p i j n e : ℕ} {row : Row} {ss : List Symbol}
    {fs : List Frame} → View T r g starts p i j row ss → 5 ≤ kind_at T p → n ≡ 0
    → Chain T r S g starts e₁ i₁ fs n (e + length (left_parse row)) j → (row ≡ end) × (ss ≡ []) × (fs ≡ []) × (e ≡ e₁) × (i ≡ i₁)
over-row (v-leaf k m x f d) h z c = absurd (omega arith)
over-row (v-node l k st b c' d) h z c = absurd (omega arith)
over-row (v-end q k) h z (bottom a b c) = (refl, refl, refl, omega arith, q ∙ c)
over-row (v-end q k) h z (link l c) = absurd (omega (arith, l.last))

-- a chain ends later
chain-last : {T : List ℕ} {r : Text} {S : List ℕ} {g : Grammar} {starts : Starts} {e₁ i₁ n e i : ℕ} {fs : List Frame} → Chain T r S g starts e₁ i₁ fs n e i → i ≤ i₁
chain-last (bottom a b c) = omega arith
chain-last {r = r} {g = g} (link l c) = omega (arith, forward g r l.derives, chain-last c)

-- the item that is kept of the innermost open node stands in the table
open-item : {T : List ℕ} (U : List ℕ) {r : Text} {S : List ℕ} {g : Grammar} {starts : Starts} {e₁ i₁ n e i : ℕ} {fs : List Frame}
    → Chain T r S g starts e₁ i₁ fs n e i → 0 < n → 2 * n ≤ length U → get_or (opened fs U) (2 * (n - 1) + 1) 0 < length T
open-item U (bottom a b c) some room = absurd (omega arith)
open-item {T} U {n = n} (link {f = f} {fs = fs} L c) some room =
    let j : n - 1 ≡ f.entry = omega (arith, L.last) in
    rw (j, item_of f fs U (omega (arith, L.last))) (in_table T f.item (λ z. omega (arith, (stands-kind L.stands).0)))

-- the frame of a node that is entered
abbrev pub frame : Position → Symbol → Row → List Symbol → ℕ → ℕ → Frame
frame h s t ss m to = record { entry = h.entry; link = h.inner; item = h.item; symbol = s; row = t; symbols = ss; from = m; to = to }

module _ {T P S : List ℕ} {r : Text} {g : Grammar} {starts : Starts} {e₁ i₁ : ℕ} where
  pub seen : {h : Position} {row : Row} {ss : List Symbol} {fs : List Frame} (W : Walk T P r S g starts e₁ i₁ h row ss fs) → View T r g starts h.item h.place.0 W.to row ss
  seen W = view W.spells W.derives

  pub item-inside : {h : Position} {row : Row} {ss : List Symbol} {fs : List Frame} → Walk T P r S g starts e₁ i₁ h row ss fs → h.item < length T
  item-inside {h} W = in_table T h.item (spells-kind W.spells)

  pub place_inside : {h : Position} {row : Row} {ss : List Symbol} {fs : List Frame} (W : Walk T P r S g starts e₁ i₁ h row ss fs) → (h.place.0 ≤ W.to) × (W.to ≤ length r)
  place_inside W = (forward g r W.derives, omega (arith, chain-last W.chain, W.last))

  pub node-last : {h : Position} {a m : ℕ} {c t : Row} {s : Symbol} {ss : List Symbol} {fs : List Frame} → Walk T P r S g starts e₁ i₁ h (node a m c t) (s ∷ ss) fs → m ≤ length r
  node-last W = omega (arith, forward g r (node-rest W.derives), chain-last W.chain, W.last)

  pub open-inside : {h : Position} {row : Row} {ss : List Symbol} {fs : List Frame} (U : List ℕ) {now : List ℕ} → Walk T P r S g starts e₁ i₁ h row ss fs
      → now ≡ opened fs U → 2 * length P ≤ length U → 0 < h.inner → get_or now (2 * (h.inner - 1) + 1) 0 < length T
  open-inside U W e room some = rw e (open-item U W.chain some (omega (arith, W.deep, W.inside)))

  pub walk-leaf : {h : Position} {m : ℕ} {t : Row} {s : Symbol} {ss : List Symbol} {fs : List Frame}
      → Walk T P r S g starts e₁ i₁ h (leaf m t) (s ∷ ss) fs
      → Walk T P r S g starts e₁ i₁ (spot (h.item + 1) h.entry m h.inner) t ss fs
  walk-leaf W = record {
    to = W.to;
    more = W.more;
    rules = W.rules;
    spells = next-spells W.spells;
    derives = leaf-rest W.derives;
    noted = W.noted;
    chain = W.chain;
    list = W.list;
    deep = W.deep;
    inside = W.inside;
    last = W.last;
    table = W.table;
    entries = W.entries;
    record-length = W.record-length;
  }

  -- the entry of a node, and what follows it in the list
  pub node-list : {h : Position} {a m : ℕ} {c t : Row} {ss : List Symbol} {fs : List Frame} (W : Walk T P r S g starts e₁ i₁ h (node a m c t) ss fs)
      → (h.entry < length P) × (get_or P h.entry 0 ≡ a) × (drop (h.entry + 1) P ≡ left_parse c ++ (left_parse t ++ (rests fs ++ W.more)))
  node-list {h} {a} {m} {c} {t} {ss} {fs} W =
      let n = list-head P h.entry a ((left_parse c ++ left_parse t) ++ (rests fs ++ W.more)) W.list in
      (n.0, n.1, n.2 ∙ append_assoc (left_parse c) (left_parse t) (rests fs ++ W.more))

  -- over a node, by what is noted of it
  pub walk-jump : {h : Position} {a m : ℕ} {c t : Row} {s : Symbol} {ss : List Symbol} {fs : List Frame} → Walk T P r S g starts e₁ i₁ h (node a m c t) (s ∷ ss) fs
      → (e i : ℕ) → e ≡ h.entry + 1 + length (left_parse c) → i ≡ m → Walk T P r S g starts e₁ i₁ (spot (h.item + 1) e i h.inner) t ss fs
  walk-jump {h} {a} {m} {c} {t} {s} {ss} {fs} W e i p q =
      let n = node-list W in
      let k = length-drop (h.entry + 1) P in
      let l : length (drop (h.entry + 1) P) ≡ length (left_parse c ++ (left_parse t ++ (rests fs ++ W.more))) = ap length n.2 in
      let l' = length-append (left_parse c) (left_parse t ++ (rests fs ++ W.more)) in
      let x : e + length (left_parse t) ≡ h.entry + suc (length (left_parse c ++ left_parse t)) = ap (λ (z : ℕ). z + length (left_parse t)) p ∙ ahead h.entry c t in
      record {
        to = W.to;
        more = W.more;
        rules = W.rules;
        spells = next-spells W.spells;
        derives = rw q (node-rest W.derives);
        noted = rw p W.noted.3;
        chain = rw x W.chain;
        list =
            rw p (sym (drop-drop (length (left_parse c)) (h.entry + 1) P) ∙ ap (drop (length (left_parse c))) n.2
            ∙ drop_at (left_parse c) (left_parse t ++ (rests fs ++ W.more)) (length (left_parse c)) refl);
        deep = omega (arith, W.deep);
        inside = omega (arith, n.0);
        last = W.last;
        table = W.table;
        entries = W.entries;
        record-length = W.record-length;
      }

  pub walk-enter : {h : Position} {a m : ℕ} {c t : Row} {s : Symbol} {ss : List Symbol} {fs : List Frame} (W : Walk T P r S g starts e₁ i₁ h (node a m c t) (s ∷ ss) fs)
      → (p : ℕ) → Spells T g starts p (alternative g s a)
      → Walk T P r S g starts e₁ i₁ (spot p (h.entry + 1) h.place.0 (h.entry + 1)) c (alternative g s a)
      (frame h s t ss m W.to ∷ fs)
  walk-enter {h} {a} {m} {c} {t} {s} {ss} {fs} W p sp =
      let n = node-list W in
      record {
        to = m;
        more = W.more;
        rules = W.rules;
        spells = sp;
        derives = node-inner W.derives;
        noted = W.noted.2;
        chain =
            link {fs = fs} (record {
              last = refl;
              lower = W.deep;
              ends = W.noted.0;
              stops = W.noted.1;
              stands = first-stands W.spells;
              spells = next-spells W.spells;
              from = refl;
              derives = node-rest W.derives;
              noted = W.noted.3;
            }) (rw (ahead h.entry c t) W.chain);
        list = n.2 ∙ ap (λ (z : List ℕ). left_parse c ++ z) (sym (append_assoc (left_parse t) (rests fs) W.more));
        deep = omega arith;
        inside = omega (arith, n.0);
        last = W.last;
        table = W.table;
        entries = W.entries;
        record-length = W.record-length;
      }

  -- the innermost open node ends here
  pub node-ends : {h : Position} {f : Frame} {fs : List Frame} → Walk T P r S g starts e₁ i₁ h end [] (f ∷ fs) → Link T r S g starts f h.inner h.entry h.place.0
  node-ends {h} W = rw (end-place W.derives) (rw (add-zero h.entry) at (innermost W.chain))

  pub walk-leave : {h : Position} {f : Frame} {fs : List Frame} → Walk T P r S g starts e₁ i₁ h end [] (f ∷ fs)
      → Walk T P r S g starts e₁ i₁ (spot (f.item + 1) h.entry h.place.0 f.link) f.row f.symbols fs
  walk-leave {h} {f} {fs} W =
      let L = node-ends W in
      record {
        to = f.to;
        more = W.more;
        rules = W.rules;
        spells = L.spells;
        derives = L.derives;
        noted = L.noted;
        chain = rw (add-zero h.entry) at (outer W.chain);
        list = W.list ∙ append_assoc (left_parse f.row) (rests fs) W.more;
        deep = omega (arith, L.last, L.lower, W.deep);
        inside = W.inside;
        last = W.last;
        table = W.table;
        entries = W.entries;
        record-length = W.record-length;
      }

  -- the end of all
  pub walk-over : {h : Position} {row : Row} {ss : List Symbol} {fs : List Frame} → Walk T P r S g starts e₁ i₁ h row ss fs → Over T h
      → (row ≡ end) × (ss ≡ []) × (fs ≡ []) × (h.entry ≡ e₁) × (h.place.0 ≡ i₁)
  walk-over {h} W o = over-row {e = h.entry} (seen W) o.0 o.1 W.chain

-- the weight falls
pub falls : (a b n x y : ℕ) → a < b → a * (n + 1) + (n - x) < b * (n + 1) + (n - y)
falls a b n x y h = omega (arith, suc-mul a (n + 1), mul-le-mul_right (n + 1) h)

pub falls-on : (a n x : ℕ) → x < n → a * (n + 1) + (n - (x + 1)) < a * (n + 1) + (n - x)
falls-on a n x h = omega arith

-- at a later entry
pub later : (P e e' n n' : ℕ) → e < e' → e' ≤ P → n' ≤ P → (P - e') * (P + 1) + n' < (P - e) * (P + 1) + n
later P e e' n n' h l b = omega (arith, suc-mul (P - e') (P + 1), mul-le-mul_right (P + 1) (fewer P e e' h l))
  where
    fewer : (P e e' : ℕ) → e < e' → e' ≤ P → suc (P - e') ≤ P - e
    fewer P e e' h l = omega arith

pub positive : (n : ℕ) → (n ≡ 0 → ⊥) → 0 < n
positive n h = omega arith
