-- What stands on a record reaches no farther than the grammar's texts do.
use mathlib.Core.Path.{◌≡◌, refl, sym, ap, ◌∙◌, subst}
use mathlib.Core.Bool.{false, ◌||◌}
use mathlib.Core.Logic.{inl, inr}
use mathlib.Core.List.{List, [], ◌∷◌, ◌++◌, append_assoc, append-nil}
use Prim.Native.Nat.{ℕ, ◌+◌, ◌<◌, ◌≤◌}
use native.Mathlib.Omega.{arith}
use lib.Dec.{T}
use lib.ListN.{length, take, drop, length-append, length-drop, take-append-drop}
use lib.Seq.{take-append-le, take_at, drop_at, take-add, length-take-le, take-take}
use Rattle.text.specs.Lists.{Text, all}
use Rattle.text.specs.Utf8.{known}
use Rattle.text.proofs.Tests.{and_left, and_right, or_case}
use Rattle.tree.specs.Tree.{Mark, Chars, literal, inclusion, exclusion, insertion, codes, Symbol, terminal, nonterminal, group, option, repeat0, repeat1, repeat0sep, repeat1sep, rest, Grammar}
use Rattle.plain.specs.Plain.{alts, fits, width}
use Rattle.plain.specs.Live.{live}
use Rattle.derive.specs.Derive.{Row, end, leaf, node, Derives, d-end, d-leaf, d-node, alternative, root, Derivation}
use Rattle.derive.specs.Yield.{productive}
use Rattle.derive.proofs.Rows.{forward}
use Rattle.derive.proofs.Productive.{all_append, all_drop, spelled}
use Rattle.viable.specs.Fault.{Begins}
use Rattle.viable.specs.Stands.{alike, begun, Stands, at-root, past-terminal, into, past-symbol}
use Rattle.viable.proofs.Parts.{less, all_take, begins-front, fits-here, derives-here, alike-left, alike_right, alike-take}

-- whose beginning begins a text of the grammar
pub begins-less : {g : Grammar} (p q : Text) → T (all known q) → Begins g (p ++ q) → Begins g p
begins-less {g} p q h b = record {
  rest = q ++ b.rest;
  held = all_append known q b.rest h b.held;
  tree = b.tree;
  derives = subst (λ (z : Text). Derivation g z b.tree) (append_assoc p q b.rest) b.derives;
}

-- a symbol of which some characters may have been begun is a literal
pub data First (s : Symbol) : Type 0 where
  is-literal : (m : Mark) (c : Chars) → s ≡ terminal (literal m c) → First s
  no-literal : ((ss : List Symbol) (t : Text) → begun (s ∷ ss) t ≡ 0) → First s

pub first_of : (s : Symbol) → First s
first_of (terminal (literal m c)) = is-literal m c refl
first_of (terminal (inclusion m ms)) = no-literal (λ ss t. refl)
first_of (terminal (exclusion m ms)) = no-literal (λ ss t. refl)
first_of (terminal (insertion k)) = no-literal (λ ss t. refl)
first_of (nonterminal m n) = no-literal (λ ss t. refl)
first_of (group b) = no-literal (λ ss t. refl)
first_of (option f) = no-literal (λ ss t. refl)
first_of (repeat0 f) = no-literal (λ ss t. refl)
first_of (repeat1 f) = no-literal (λ ss t. refl)
first_of (repeat0sep f e) = no-literal (λ ss t. refl)
first_of (repeat1sep f e) = no-literal (λ ss t. refl)
first_of (rest f e) = no-literal (λ ss t. refl)

module _ (g : Grammar) (r : Text) (held : T (all known r)) where
  -- what stands at i can be finished, and a text that has the record's first i characters, the rest of which it derives, begins a text of the grammar
  pub record Stood (ss : List Symbol) (i : ℕ) : Type 0 where
    pub inside : i ≤ length r
    pub alive : T (all (productive g) ss)
    pub goes : (w : Text) → T (all known w) → take i w ≡ take i r → i ≤ length w → (t : Row) → Derives g w t ss i (length w) → Begins g w

  root-stood : {a : ℕ} → a < length (alts g (root g)) → T (all (productive g) (alternative g (root g) a)) → Stood (alternative g (root g) a) 0
  root-stood {a} l h = record {
    inside = omega arith;
    alive = h;
    goes = λ w k e i t d. record {
      rest = [];
      held = tt;
      tree = node a (length w) t end;
      derives = subst (λ (z : Text). Derivation g z (node a (length w) t end)) (sym (append-nil w)) (d-node l d d-end);
    };
  }

  -- what can be finished after a text, put there
  finished : {s : Symbol} {ss : List Symbol} {a i : ℕ} → Stood (s ∷ ss) i → a < length (alts g s) → (w : Text) → T (all known w) → take i w ≡ take i r → i ≤ length w
      → (t : Row) → Derives g w t (alternative g s a) i (length w) → Begins g w
  finished {s} {ss} {a} {i} o l w k e h t d =
      let f = spelled g ss (and_right (productive g s) (all (productive g) ss) o.alive) in
      let u = f.text ++ [] in
      let ku : T (all known (f.text ++ [])) = all_append known f.text [] f.held tt in
      let c = derives-here g w (w ++ u) (length w) (take-append-same w u) (omega arith) d in
      let whole : length w + length f.text ≡ length (w ++ u) = omega (arith, length-append w (f.text ++ []), ap length (append-nil f.text)) in
      let y = subst (λ (n : ℕ). Derives g (w ++ u) (f.tree w []) ss (length w) n) whole (f.derives w []) in
      begins-less w u ku (o.goes (w ++ u) (all_append known w u k ku) (take-append-le i w u h ∙ e) (omega (arith, length-append w u)) (node a (length w) t (f.tree w [])) (d-node l c y))
    where
      take-append-same : (w u : Text) → take (length w) w ≡ take (length w) (w ++ u)
      take-append-same w u = sym (take-append-le (length w) w u (omega arith))

  pub stood : {ss : List Symbol} {i : ℕ} → Stands g r ss i → Stood ss i
  stood (at-root l h) = root-stood l h
  stood (past-terminal {x} {ss} {i} s f l) =
      let o = stood s in
      record {
        inside = l;
        alive = and_right (productive g (terminal x)) (all (productive g) ss) o.alive;
        goes = λ w k e h t d. o.goes w k (less i (i + width x) w r (omega arith) e) (omega arith) (leaf (i + width x) t)
            (d-leaf (fits-here g r w (i + width x) (sym e) x i (omega arith) f) d);
      }
  stood (into s l h) = let o = stood s in record { inside = o.inside; alive = h; goes = finished o l }
  stood (past-symbol {s} {ss} {c} {a} {i} {m} z l d b) =
      let o = stood z in
      let f = forward g r d in
      record {
        inside = b;
        alive = and_right (productive g s) (all (productive g) ss) o.alive;
        goes = λ w k e h t y. o.goes w k (less i m w r f e) (omega arith) (node a m c t) (d-node l (derives-here g r w m (sym e) (omega arith) d) y);
      }

  -- the rest of a text that follows the record's first i characters may be cut where it leaves the record
  cut : (i b : ℕ) (u : Text) → T (all known u) → take b u ≡ take b (drop i r) → Begins g (take i r ++ u) → Begins g (take (i + b) r)
  cut i b u k e w =
      let one : take (i + b) r ≡ take i r ++ take b u = take-add i b r ∙ ap (λ (z : Text). take i r ++ z) (sym e) in
      let two : take i r ++ u ≡ take (i + b) r ++ drop b u =
      ap (λ (z : Text). take i r ++ z) (sym (take-append-drop b u)) ∙ sym (append_assoc (take i r) (take b u) (drop b u)) ∙ ap (λ (z : Text). z ++ drop b u) (sym one) in
      begins-less (take (i + b) r) (drop b u) (all_drop known b u k) (subst (Begins g) two w)

  -- a text after the record's first i characters that what stands there derives
  follow : {ss : List Symbol} {i : ℕ} → Stood ss i → (u : Text) → T (all known u) → (t : Row) → Derives g (take i r ++ u) t ss i (i + length u) → Begins g (take i r ++ u)
  follow {ss} {i} o u k t d =
      let n = length-take-le i r o.inside in
      let l : i + length u ≡ length (take i r ++ u) = omega (arith, length-append (take i r) u, n) in
      o.goes (take i r ++ u) (all_append known (take i r) u (all_take known i r held) k) (take_at (take i r) u i n) (omega arith) t
      (subst (λ (z : ℕ). Derives g (take i r ++ u) t ss i z) l d)

  -- what stands at i reaches i
  pub stands-begins : {ss : List Symbol} {i : ℕ} → Stood ss i → Begins g (take i r)
  stands-begins {ss} {i} o =
      let f = spelled g ss o.alive in
      let u = f.text ++ [] in
      let n = length-take-le i r o.inside in
      let l : length f.text ≡ length u = sym (ap length (append-nil f.text)) in
      let d = subst (λ (z : ℕ). Derives g (take i r ++ u) (f.tree (take i r) []) ss z (z + length f.text)) n (f.derives (take i r) []) in
      let ku = all_append known f.text [] f.held tt in
      begins-less (take i r) u ku (follow o u ku (f.tree (take i r) []) (subst (λ (z : ℕ). Derives g (take i r ++ u) (f.tree (take i r) []) ss i (i + z)) l d))

  -- a literal that stands at i reaches as far as the record has its characters
  literal-begins : {m : Mark} {c : Chars} {ss : List Symbol} {i : ℕ} → Stood (terminal (literal m c) ∷ ss) i → T (live (literal m c)) → Begins g (take (i + alike (codes c) (drop i r)) r)
  literal-begins {m} {c} {ss} {i} o lv =
      let f = spelled g ss (and_right (productive g (terminal (literal m c))) (all (productive g) ss) o.alive) in
      let v = f.text ++ [] in
      let kv = all_append known f.text [] f.held tt in
      let u = codes c ++ v in
      let n = length-take-le i r o.inside in
      let w = take i r ++ u in
      let e : (take i r ++ codes c) ++ v ≡ w = append_assoc (take i r) (codes c) v in
      let a : length (take i r ++ codes c) ≡ i + length (codes c) = omega (arith, length-append (take i r) (codes c)) in
      let b : i + length (codes c) + length f.text ≡ i + length u = omega (arith, length-append (codes c) v, ap length (append-nil f.text)) in
      let y = f.derives (take i r ++ codes c) [] in
      let t = f.tree (take i r ++ codes c) [] in
      let y1 = subst (λ (z : Text). Derives g z t ss (length (take i r ++ codes c)) (length (take i r ++ codes c) + length f.text)) e y in
      let y2 = subst (λ (z : ℕ). Derives g w t ss z (z + length f.text)) a y1 in
      let y3 = subst (λ (z : ℕ). Derives g w t ss (i + length (codes c)) z) b y2 in
      let fit : T (fits (literal m c) (drop i w)) = subst (λ (z : Text). T (fits (literal m c) z)) (sym (drop_at (take i r) u i n)) (begins-front (codes c) v) in
      let ku = all_append known (codes c) v lv kv in
      let k = alike (codes c) (drop i r) in
      let s : take k u ≡ take k (drop i r) = take-append-le k (codes c) v (alike_right (codes c) (drop i r)) ∙ alike-take (codes c) (drop i r) in
      cut i k u ku s (follow o u ku (leaf (i + length (codes c)) t) (d-leaf fit y3))

  plus_none : (i : ℕ) {b : ℕ} → b ≡ 0 → i ≡ i + b
  plus_none i e = omega arith

  -- a productive terminal is live
  live_of : (m : Mark) (c : Chars) → T (productive g (terminal (literal m c))) → T (live (literal m c))
  live_of m c h = elim (or_case (live (literal m c)) false (elim (or_case (live (literal m c) || false) false h) as (λ _. T (live (literal m c) || false)) [ inl y ↦ y | inr y ↦ absurd y ]))
      as (λ _. T (live (literal m c))) [ inl y ↦ y | inr y ↦ absurd y ]

  reach-begins : (ss : List Symbol) {i : ℕ} → Stood ss i → Begins g (take (i + begun ss (drop i r)) r)
  reach-begins [] {i} o = subst (λ (z : ℕ). Begins g (take z r)) (plus_none i refl) (stands-begins o)
  reach-begins (s ∷ ss) {i} o = go (first_of s)
    where
      go : First s → Begins g (take (i + begun (s ∷ ss) (drop i r)) r)
      go (no-literal e) = subst (λ (z : ℕ). Begins g (take z r)) (plus_none i (e ss (drop i r))) (stands-begins o)
      go (is-literal m c e) =
          let q = subst (λ (z : Symbol). Stood (z ∷ ss) i) e o in
          let lv = live_of m c (and_left (productive g (terminal (literal m c))) (all (productive g) ss) q.alive) in
          subst (λ (z : Symbol). Begins g (take (i + begun (z ∷ ss) (drop i r)) r)) (sym e) (literal-begins q lv)

  -- up to where something that stands reaches, the record begins a text of the grammar
  pub reached-begins : {ss : List Symbol} {i : ℕ} → Stands g r ss i → (k : ℕ) → k ≤ i + begun ss (drop i r) → Begins g (take k r)
  reached-begins {ss} {i} s k h =
      let n = i + begun ss (drop i r) in
      let e : take n r ≡ take k r ++ drop k (take n r) = sym (take-append-drop k (take n r)) ∙ ap (λ (z : Text). z ++ drop k (take n r)) (take-take k n r h) in
      begins-less (take k r) (drop k (take n r)) (all_drop known k (take n r) (all_take known n r held)) (subst (Begins g) e (reach-begins ss (stood s)))

  -- nothing reaches past the record
  pub reach-inside : (ss : List Symbol) {i : ℕ} → Stands g r ss i → i + begun ss (drop i r) ≤ length r
  reach-inside [] {i} s = omega (arith, (stood s).inside)
  reach-inside (s ∷ ss) {i} z = go (first_of s)
    where
      go : First s → i + begun (s ∷ ss) (drop i r) ≤ length r
      go (no-literal e) = omega (arith, (stood z).inside, e ss (drop i r))
      go (is-literal m c e) = subst (λ (y : Symbol). i + begun (y ∷ ss) (drop i r) ≤ length r) (sym e) (omega (arith, (stood z).inside, alike-left (codes c) (drop i r), length-drop i r))
