-- The steps that note entries.
use mathlib.Core.Path.{◌≡◌, refl, sym, ap, ◌∙◌}
use mathlib.Core.Logic.{⊎_elim}
use mathlib.Core.List.{List, [], ◌∷◌, ◌++◌}
use Prim.Native.Nat.{ℕ, suc, ◌+◌, ◌-◌, ◌*◌, ◌<◌, ◌≤◌}
use native.Mathlib.Omega.{arith}
use lib.ListN.{length, get_or, set, drop, length-set}
use lib.Seq.{get_or-set_same, get_or-set_other}
use Rattle.text.specs.Lists.{Text}
use Rattle.text.proofs.Tests.{split}
use Rattle.tree.specs.Tree.{Symbol, nonterminal, unmarked, Grammar}
use Rattle.plain.specs.Plain.{alts}
use Rattle.derive.specs.Derive.{Row, end, node, left_parse, alternative, root, Derives, d-end, d-node}
use Rattle.items.specs.Items.{Starts, Spells, Stands, kind_at, target_at, token_at}
use Rattle.left_parse.specs.declared.Position.{Position}
use Rattle.left_parse.specs.Noted.{Noted, Parsed, Room}
use Rattle.left_parse.specs.Walk.{Frame, opened, Chain, bottom, link, Walk, Over}
use Rattle.left_parse.specs.Steps.{Found, Wide, Enters, Entered, Leaves, Left, Going, Stepped}
use Rattle.left_parse.proofs.Items.{View, v-end, v-leaf, v-node, alternatives-of}
use Rattle.left_parse.proofs.Scratch.{opened-length, opened-over, opened-back, link-of, item_of, noted-same, Has}
use Rattle.left_parse.proofs.Walks.{spot, frame, seen, walk-leaf, walk-enter, walk-leave, node-ends, node-list, walk-over, item-inside, place_inside, open-inside, falls, falls-on, later}

-- what an alternative's number finds
pub found_at : {T P S : List ℕ} {r : Text} {g : Grammar} {starts : Starts} {e₁ i₁ : ℕ} {h : Position} {a m : ℕ} {c t : Row} {s : Symbol} {ss : List Symbol} {fs : List Frame}
    → Walk T P r S g starts e₁ i₁ h (node a m c t) (s ∷ ss) fs → Stands T g starts h.item s → a < length (alts g s) → (to : ℕ)
    → Found T (target_at T h.item) (get_or P h.entry 0) to → Spells T g starts to (alternative g s a)
found_at {g = g} {starts = starts} {h = h} {a = a} {s = s} W st l to F =
    let n = (node-list W).1 in
    let q = F.spells g starts (alts g s) (alternatives-of W.rules st l) (omega arith) in
    rw n at q

module _ {T P S F : List ℕ} {h : Position} {e₁ i₁ : ℕ} where
  -- a terminal
  pub going-leaf : Going T P S h F e₁ i₁ → kind_at T h.item ≡ 1 → (w : ℕ) → Wide T (token_at T h.item) w
      → Going T P S (spot (h.item + 1) h.entry (h.place.0 + w) h.inner) F e₁ i₁
  going-leaf G k w wide = go (seen G.walk) G.walk
    where
      go : {row : Row} {ss : List Symbol} {j : ℕ} → View T G.r G.g G.starts h.item h.place.0 j row ss → Walk T P G.r F G.g G.starts e₁ i₁ h row ss G.fs
          → Going T P S (spot (h.item + 1) h.entry (h.place.0 + w) h.inner) F e₁ i₁
      go (v-end q k') W = absurd (omega arith)
      go (v-node l k' st b c d) W = absurd (omega arith)
      go (v-leaf {x = x} {ss = ss} {m = m} {t = t} k' q R f d) W =
          let z : h.place.0 + w ≡ m = ap (λ (n : ℕ). h.place.0 + n) (wide.is x R) ∙ sym q in
          record { g = G.g; r = G.r; starts = G.starts; row = t; ss = ss; fs = G.fs; under = G.under; walk = rw z (walk-leaf W); scratch = G.scratch; noted = G.noted; room = G.room }

  -- a node
  pub going-enter : Going T P S h F e₁ i₁ → 2 ≤ kind_at T h.item → kind_at T h.item ≤ 4 → (to : ℕ) → Found T (target_at T h.item) (get_or P h.entry 0) to
      → (h.entry < length P) × Going T P (set (set S (2 * h.entry) h.inner) (2 * h.entry + 1) h.item) (spot to (h.entry + 1) h.place.0 (h.entry + 1)) F e₁ i₁
  going-enter G k k₄ to found = go (seen G.walk) G.walk
    where
      go : {row : Row} {ss : List Symbol} {j : ℕ} → View T G.r G.g G.starts h.item h.place.0 j row ss → Walk T P G.r F G.g G.starts e₁ i₁ h row ss G.fs
          → (h.entry < length P) × Going T P (set (set S (2 * h.entry) h.inner) (2 * h.entry + 1) h.item) (spot to (h.entry + 1) h.place.0 (h.entry + 1)) F e₁ i₁
      go (v-end q k') W = absurd (omega arith)
      go (v-leaf k' q R f d) W = absurd (omega arith)
      go (v-node {s = s} {ss = ss} {a = n} {m = m} {c = c} {t = t} l k' st b' dc dt) W =
          let room = G.room in
          let inside = (node-list W).0 in
          let a = get_or F (2 * h.entry) 0 in
          let b = get_or F (2 * h.entry + 1) 0 in
          let len : length S ≡ length G.under = ap length G.scratch ∙ opened-length G.fs G.under in
          let ua = length-set G.under (2 * h.entry) a in (
            inside,
            record {
              g = G.g;
              r = G.r;
              starts = G.starts;
              row = c;
              ss = alternative G.g s n;
              fs = frame h s t ss m W.to ∷ G.fs;
              under = set (set G.under (2 * h.entry) a) (2 * h.entry + 1) b;
              walk = walk-enter W to (found_at W st b' to found);
              scratch = rw G.scratch (opened-over (frame h s t ss m W.to) W.chain W.deep G.under a b);
              noted = λ j u. ⊎_elim
                  (λ v. get_or-set_other (set G.under (2 * h.entry) a) (2 * h.entry + 1) j b 0 (λ e. omega arith)
                  ∙ get_or-set_other G.under (2 * h.entry) j a 0 (λ e. omega arith) ∙ G.noted j v)
                  (λ v. ⊎_elim
                  (λ w. let z : j ≡ 2 * h.entry = omega arith in
                  rw z (get_or-set_other (set G.under (2 * h.entry) a) (2 * h.entry + 1) (2 * h.entry) b 0 (λ e. omega arith)
                  ∙ get_or-set_same G.under (2 * h.entry) a 0 (omega arith)))
                  (λ w. let z : j ≡ 2 * h.entry + 1 = omega arith in rw z (get_or-set_same (set G.under (2 * h.entry) a) (2 * h.entry + 1) b 0 (omega arith)))
                  (split j (2 * h.entry + 1)))
                  (split j (2 * h.entry));
              room = simp length-set room;
            },
          )

  -- the end of a node
  pub going-leave : Going T P S h F e₁ i₁ → 5 ≤ kind_at T h.item → 0 < h.inner → (u p : ℕ) → u ≡ get_or S (2 * (h.inner - 1)) 0 → p ≡ get_or S (2 * (h.inner - 1) + 1) 0
      → (u < h.inner) × Going T P (set (set S (2 * (h.inner - 1)) h.entry) (2 * (h.inner - 1) + 1) h.place.0) (spot (p + 1) h.entry h.place.0 u) F e₁ i₁
  going-leave G k some u p ue pe = go (seen G.walk) G.walk.chain G.walk G.scratch
    where
      go : {row : Row} {ss : List Symbol} {fs : List Frame} {n j j' : ℕ} → View T G.r G.g G.starts h.item h.place.0 j row ss
          → Chain T G.r F G.g G.starts e₁ i₁ fs h.inner n j'
          → Walk T P G.r F G.g G.starts e₁ i₁ h row ss fs → S ≡ opened fs G.under
          → (u < h.inner) × Going T P (set (set S (2 * (h.inner - 1)) h.entry) (2 * (h.inner - 1) + 1) h.place.0) (spot (p + 1) h.entry h.place.0 u) F e₁ i₁
      go (v-leaf k' q R f d) c W e = absurd (omega arith)
      go (v-node l k' st b c' d) c W e = absurd (omega arith)
      go (v-end q k') (bottom x y z) W e = absurd (omega arith)
      go (v-end q k') (link {f = f} {fs = fs} l c) W e =
          let L = node-ends W in
          let U = G.under in
          let room = G.room in
          let inside = W.inside in
          let deep = W.deep in
          let last = L.last in
          let j : h.inner - 1 ≡ f.entry = omega arith in
          let len : length S ≡ length U = ap length e ∙ opened-length (f ∷ fs) U in
          let u' : u ≡ f.link = ue ∙ rw (j, e) (link-of f fs U (omega arith)) in
          let p' : p ≡ f.item = pe ∙ rw (j, e) (item_of f fs U (omega arith)) in
          let a = G.noted (2 * f.entry) (omega arith) ∙ L.ends in
          let b = G.noted (2 * f.entry + 1) (omega arith) ∙ L.stops in (
            rw u' (omega (arith, L.lower)),
            record {
              g = G.g;
              r = G.r;
              starts = G.starts;
              row = f.row;
              ss = f.symbols;
              fs = fs;
              under = U;
              walk = rw (u', p') (walk-leave W);
              scratch = rw (j, e) (opened-back W.chain U h.entry h.place.0 a b);
              noted = G.noted;
              room = simp length-set room;
            },
          )

  pub going-over : Going T P S h F e₁ i₁ → Over T h → (h.entry ≡ e₁) × (h.place.0 ≡ i₁) × ((k : ℕ) → k < 2 * e₁ → get_or F k 0 ≡ get_or S k 0)
  going-over G o =
      let w = walk-over G.walk o in
      let e = w.3 in
      let s : S ≡ G.under = G.scratch ∙ ap (λ (fs : List Frame). opened fs G.under) w.2 in
      (e, w.4, λ k l. rw s (sym (G.noted k (omega arith))))

-- the steps, with the weight that falls
module _ {T P S F₀ : List ℕ} {h : Position} {e₀ i₀ : ℕ} (G₀ : Going T P S h F₀ e₀ i₀) where
  pub stepped-leaf : kind_at T h.item ≡ 1 → (w : ℕ) → Wide T (token_at T h.item) w → Stepped T P S S h (spot (h.item + 1) h.entry (h.place.0 + w) h.inner)
  stepped-leaf k w wide = record {
    goes = λ F e₁ i₁ G. going-leaf G k w wide;
    falls = falls-on ((length P - h.entry) * (length P + 1) + h.inner) (length T) h.item (item-inside G₀.walk);
  }

  pub enters-fit : 2 ≤ kind_at T h.item → kind_at T h.item ≤ 4 → Enters S h
  enters-fit k k₄ =
      let W = G₀.walk in
      let inside = going-enter-inside (seen W) W in
      record { room = omega (arith, G₀.room); item = omega (arith, item-inside W, W.table); inner = omega (arith, W.deep, W.entries) }
    where
      going-enter-inside : {row : Row} {ss : List Symbol} {j : ℕ} → View T G₀.r G₀.g G₀.starts h.item h.place.0 j row ss
          → Walk T P G₀.r F₀ G₀.g G₀.starts e₀ i₀ h row ss G₀.fs → h.entry < length P
      going-enter-inside (v-end q k') W = absurd (omega arith)
      going-enter-inside (v-leaf k' q R f d) W = absurd (omega arith)
      going-enter-inside (v-node l k' st b' dc dt) W = (node-list W).0

  pub stepped-enter : {S' : List ℕ} {r : Position} → 2 ≤ kind_at T h.item → kind_at T h.item ≤ 4 → Entered T P S S' h r → Stepped T P S S' h r
  stepped-enter {S'} {r} k k₄ E =
      let l = (going-enter G₀ k k₄ r.item E.found).0 in
      rw (E.spot, E.scratch)
      (record {
        goes = λ F e₁ i₁ G. (going-enter G k k₄ r.item E.found).1;
        falls =
            falls ((length P - (h.entry + 1)) * (length P + 1) + (h.entry + 1)) ((length P - h.entry) * (length P + 1) + h.inner)
            (length T) r.item h.item (later (length P) h.entry (h.entry + 1) h.inner (h.entry + 1) (omega arith) (omega arith)
            (omega arith));
      })

  pub leaves-fit : 5 ≤ kind_at T h.item → 0 < h.inner → Leaves S h
  leaves-fit k some =
      let W = G₀.walk in
      let b = place_inside W in
      let len : length S ≡ length G₀.under = ap length G₀.scratch ∙ opened-length G₀.fs G₀.under in
      let item = open-inside G₀.under W G₀.scratch (omega (arith, G₀.room)) some in
      record {
        some = some;
        room = omega (arith, W.deep, W.inside, G₀.room);
        item = omega (arith, W.table);
        entry = omega (arith, W.inside, W.entries);
        place = omega (arith, b.0, b.1, W.record-length);
      }

  pub stepped-leave : {S' : List ℕ} {r : Position} → 5 ≤ kind_at T h.item → 0 < h.inner → Left S S' h r → Stepped T P S S' h r
  stepped-leave {S'} {r} k some L =
      let u = get_or S (2 * (h.inner - 1)) 0 in
      let p = get_or S (2 * (h.inner - 1) + 1) 0 in
      let l = (going-leave G₀ k some u p refl refl).0 in
      rw (L.spot, L.scratch)
      (record {
        goes = λ F e₁ i₁ G. (going-leave G k some u p refl refl).1;
        falls = falls ((length P - h.entry) * (length P + 1) + u) ((length P - h.entry) * (length P + 1) + h.inner) (length T) (p + 1) h.item (omega arith);
      })

-- A derivation is a node, and the walk goes over its children.
pub record Tree (g : Grammar) (r : Text) (s : Symbol) (i j : ℕ) (t : Row) : Type 0 where
  pub number : ℕ
  pub children : Row
  pub is : t ≡ node number j children end
  pub below : number < length (alts g s)
  pub derives : Derives g r children (alternative g s number) i j

pub tree-of : {g : Grammar} {r n : Text} {i j : ℕ} {t : Row} → Derives g r t (nonterminal unmarked n ∷ []) i j → Tree g r (nonterminal unmarked n) i j t
tree-of (d-node {c = c} {a = a} l d d-end) = record { number = a; children = c; is = refl; below = l; derives = d }

pub some-entry : {T P : List ℕ} {R : ℕ} {g : Grammar} {r : Text} {t : Row} → Parsed T R P g r t → 1 ≤ length P
some-entry parsed = let tree = tree-of parsed.derives in omega (arith, ap length (sym parsed.parse ∙ ap left_parse tree.is))

pub record Begins (T P : List ℕ) (r : Text) (S : List ℕ) (g : Grammar) (item : ℕ) (t : Row) : Type 0 where
  pub tree : Tree g r (root g) 0 (length r) t
  pub starts : Starts
  pub walk : (F : List ℕ) → Noted F 1 tree.children
      → Walk T P r F g starts (1 + length (left_parse tree.children)) (length r) (spot item 1 0 0) tree.children
      (alternative g (root g) tree.number) []

pub begins : {T P S : List ℕ} {R : ℕ} {g : Grammar} {r : Text} {t : Row} → Room T P S → Parsed T R P g r t → (item : ℕ) → Found T R (get_or P 0 0) item → Begins T P r S g item t
begins {T} {P} {S} {R} {g} {r} {t} room parsed item found =
    let tree = tree-of parsed.derives in
    let I = parsed.items in
    let p : P ≡ tree.number ∷ (left_parse tree.children ++ []) = sym parsed.parse ∙ ap left_parse tree.is in
    let n : get_or P 0 0 ≡ tree.number = ap (λ (xs : List ℕ). get_or xs 0 0) p in
    let l : length P ≡ suc (length (left_parse tree.children ++ [])) = ap length p in
    let d : drop 1 P ≡ left_parse tree.children ++ [] = ap (drop 1) p in
    let b = tree.below in
    let sp = found.spells g I.starts (alts g (root g)) (I.rule R (root g) I.begins) (omega arith) in
    record {
      tree = tree;
      starts = I.starts;
      walk = λ F N. record {
        to = length r;
        more = [];
        rules = I.rule;
        spells = rw n at sp;
        derives = tree.derives;
        noted = N;
        chain = bottom refl refl refl;
        list = d;
        deep = omega arith;
        inside = omega arith;
        last = omega arith;
        table = room.table;
        entries = room.list;
        record-length = parsed.short;
      };
    }

pub going-begin : {T P S : List ℕ} {g : Grammar} {r : Text} {item : ℕ} {t : Row} → Room T P S → (B : Begins T P r S g item t)
    → (N : Has (get_or S 0 0) (get_or S 1 0) B.tree.children)
    → Going T P S (spot item 1 0 0) N.list (1 + length (left_parse B.tree.children)) (length r)
going-begin {S = S} {g = g} {r = r} room B N = record {
  g = g;
  r = r;
  starts = B.starts;
  row = B.tree.children;
  ss = alternative g (root g) B.tree.number;
  fs = [];
  under = S;
  walk = B.walk N.list N.noted;
  scratch = refl;
  noted = λ k l. ⊎_elim (λ a. let z : k ≡ 0 = omega arith in rw z (sym N.first)) (λ a. let z : k ≡ 1 = omega arith in rw z (sym N.second)) (split k 1);
  room = room.scratch;
}

-- all are noted, and then the first
pub going_end : {T P S : List ℕ} {g : Grammar} {r : Text} {item : ℕ} {t : Row} {h : Position} (B : Begins T P r S g item t) (S' : List ℕ) (N : Has (get_or S 0 0) (get_or S 1 0) B.tree.children)
    → Going T P S' h N.list (1 + length (left_parse B.tree.children)) (length r) → Over T h → Noted (set (set S' 0 h.entry) 1 h.place.0) 0 t
going_end {P = P} {h = h} B S' N G o =
    let v = going-over G o in
    let c = B.tree.children in
    let room = G.room in
    let inside = G.walk.inside in
    let n = v.0 in
    let l = length-set S' 0 h.entry in
    let two : 2 ≤ length S' = omega arith in
    let e : get_or (set (set S' 0 h.entry) 1 h.place.0) 0 0 ≡ h.entry = get_or-set_other (set S' 0 h.entry) 1 0 h.place.0 0
    (λ e. omega arith) ∙ get_or-set_same S' 0 h.entry 0 (omega arith) in
    let i : get_or (set (set S' 0 h.entry) 1 h.place.0) 1 0 ≡ h.place.0 = get_or-set_same (set S' 0 h.entry) 1 h.place.0 0 (omega arith) in
    let z : 0 + 1 + length (left_parse c) ≡ 1 + length (left_parse c) = omega arith in
    rw B.tree.is (
      e ∙ n ∙ sym z,
      i ∙ v.1,
      noted-same N.list (set (set S' 0 h.entry) 1 h.place.0) 1 c
          (λ k a b. v.2 k b ∙ sym (get_or-set_other (set S' 0 h.entry) 1 k h.place.0 0 (λ e. omega arith)
          ∙ get_or-set_other S' 0 k h.entry 0 (λ e. omega arith))) N.noted,
      tt,
    )
