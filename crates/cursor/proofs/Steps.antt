-- A cursor with all that is ahead, after each of its steps.
use mathlib.Core.Path.{◌≡◌, refl, sym, ap, ◌∙◌}
use mathlib.Core.Logic.{◌⊎◌, inl, inr, ⊎_elim}
use mathlib.Core.List.{List, [], ◌∷◌}
use Prim.Native.Nat.{ℕ, zero, suc, ◌+◌, ◌-◌, ◌*◌, ◌≤◌, ◌<◌}
use native.Mathlib.Omega.{arith}
use lib.Dec.{T as Holds}
use lib.ListN.{length, get_or, drop}
use Rattle.text.specs.Lists.{Text}
use Rattle.tree.specs.Tree.{Symbol, Terminal}
use Rattle.tree.specs.Tokens.{terminal_tokens}
use Rattle.plain.specs.Plain.{fits, width}
use Rattle.derive.specs.Derive.{Row, alternative}
use Rattle.items.specs.Items.{kind_at, token_at, Reads}
use Rattle.xml.specs.Document.{Xml, none, attr, elem, join, text, nodes, name_of, value, stretch, terminal_text}
use Rattle.left_parse.specs.declared.Position.{Position}
use Rattle.left_parse.specs.Walk.{Frame, opened, Link, Chain, bottom, link, Walk}
use Rattle.left_parse.specs.Steps.{Enters, Leaves, Named, Small, Skipped}
use Rattle.left_parse.specs.Steps as ends
use Rattle.left_parse.proofs.Scratch.{opened-length}
use Rattle.left_parse.proofs.Items.{View, v-end, v-leaf, v-node, spells-kind}
use Rattle.left_parse.proofs.Walks.{frame, seen, node-list, node-ends, walk-over, item-inside}
use Rattle.left_parse.proofs.After.{small_of, after-leaf, after-enter, after_leave}
use Rattle.left_parse.proofs.Marks.{node-mark, node-named, nodes-element, nodes-attribute}
use Rattle.cursor.specs.Rest.{Rest, row, within, before}
use Rattle.cursor.specs.Ahead.{spread, following, Outer, b-none, b-deleted, b-element, b-attribute, b-inside, Ahead, AtNode}
use Rattle.cursor.specs.Events.{weight, MetElement, MetAttribute, MetClose, MetEnd}
use Rattle.cursor.specs.declared.Cursor.{Cursor}
use Rattle.cursor.proofs.Laws.{before-join, before-none, spread-leaf, spread-node, spread_end}
use Rattle.cursor.proofs.Weights.{enters-at, leaves_at, on-falls, enter-falls, leave-falls}

abbrev pub cursor : Position → ℕ → Cursor
cursor h v = record { at = h; value = v }

-- at a terminal, whose text may be empty
pub record TextThere (T P : List ℕ) (r : Text) (S₀ S : List ℕ) (c : Cursor) (k : Rest) : Type 0 where
  pub x : Terminal
  pub rest : Rest
  pub reads : Reads T (token_at T c.at.item) (terminal_tokens x)
  pub fit : Holds (fits x (drop c.at.place.0 r))
  pub met : k ≡ before (text (terminal_text x (stretch r c.at.place.0 (c.at.place.0 + width x)))) rest
  pub over : (n : Position) → Skipped T c.at n → Ahead T P r S₀ S (cursor n c.value) rest
  pub falls : (n : Position) → Skipped T c.at n → weight T P (cursor n c.value) < weight T P c
  pub same : (n : Position) → Skipped T c.at n → n.entry ≡ c.at.entry

-- the end of an open node: of an element or a value, or of a node that is not written itself
pub record Shut (T P : List ℕ) (r : Text) (S₀ S : List ℕ) (c : Cursor) (n : Position) (item : ℕ) (k : Rest) : Type 0 where
  pub falls : weight T P (cursor n 0) < weight T P c
  pub later : c.at.entry ≤ n.entry
  pub closes : ((c.value ≡ c.at.inner) ⊎ ((c.value ≡ 0) × (kind_at T item ≡ 2))) → MetClose T P r S₀ S k item (cursor n 0)
  pub passes : (c.value ≡ c.at.inner → ⊥) → (c.value ≡ 0 → kind_at T item ≡ 2 → ⊥) → Ahead T P r S₀ S (cursor n c.value) k

module _ {T P : List ℕ} {r : Text} {S₀ S : List ℕ} {c : Cursor} {k : Rest} (A : Ahead T P r S₀ S c k) where
  same-room : length S ≡ length S₀
  same-room = ap length A.scratch ∙ opened-length A.fs S₀

  pub ahead_small : Small c.at
  ahead_small = small_of A.walk

  pub ahead-kind : kind_at T c.at.item ≡ 0 → ⊥
  ahead-kind = spells-kind A.walk.spells

  pub ahead-enters : 2 ≤ kind_at T c.at.item → kind_at T c.at.item ≤ 4 → Enters S c.at
  ahead-enters a b = enters-at A.walk same-room A.room a b

  pub ahead-leaves : 0 < c.at.inner → Leaves S c.at
  ahead-leaves some = leaves_at A.walk A.scratch same-room A.room some

  abbrev Seen : ℕ → Row → List Symbol → Type 0
  Seen j t ss = View T r A.g A.starts c.at.item c.at.place.0 j t ss

  abbrev At : Row → List Symbol → List Frame → Type 0
  At t ss fs = Walk T P r S₀ A.g A.starts A.e₁ A.i₁ c.at t ss fs

  abbrev At-n : Position → Row → List Symbol → Type 0
  At-n n t ss = Walk T P r S₀ A.g A.starts A.e₁ A.i₁ n t ss A.fs

  abbrev Meets : Row → List Symbol → Rest → Type 0
  Meets t ss j = k ≡ before (spread A.g r c.value t ss c.at.place.0) j

  pub text-there : kind_at T c.at.item ≡ 1 → TextThere T P r S₀ S c k
  text-there one = go (seen A.walk) A.walk A.meets
    where
      go : {t : Row} {ss : List Symbol} {j : ℕ} → Seen j t ss → At t ss A.fs → Meets t ss A.rest → TextThere T P r S₀ S c k
      go (v-end e k') W o = absurd (omega arith)
      go (v-node l k' st b dc dt) W o = absurd (omega arith)
      go (v-leaf {x = x} {ss = ss} {m = m} {t = t} k' e R f d) W o =
          let rest = before (spread A.g r c.value t ss m) A.rest in
          record {
            x = x;
            rest = rest;
            reads = R;
            fit = f;
            met =
                o
                ∙ ap (λ (y : Xml). before y A.rest) (spread-leaf A.g r c.value m c.at.place.0 x ss t)
                ∙ before-join (text (terminal_text x (stretch r c.at.place.0 m))) (spread A.g r c.value t ss m) A.rest
                ∙ ap (λ (q : ℕ). before (text (terminal_text x (stretch r c.at.place.0 q))) rest) e;
            over = λ n K. beyond n (after-leaf W x e R n K);
            falls = λ n K. rw (after-leaf W x e R n K).0 (on-falls T P c.at m (item-inside W));
            same = λ n K. ap (λ (q : Position). q.entry) (after-leaf W x e R n K).0;
          }
        where
          beyond : (n : Position) → (n ≡ Rattle.left_parse.proofs.Walks.spot (c.at.item + 1) c.at.entry m c.at.inner) × At-n n t ss
              → Ahead T P r S₀ S (cursor n c.value) (before (spread A.g r c.value t ss m) A.rest)
          beyond n a =
              let z : n.place.0 ≡ m = ap (λ (q : Position). q.place.0) a.0 in
              let i : n.inner ≡ c.at.inner = ap (λ (q : Position). q.inner) a.0 in
              let deep = A.deep in
              record {
                g = A.g;
                starts = A.starts;
                e₁ = A.e₁;
                i₁ = A.i₁;
                row = t;
                ss = ss;
                fs = A.fs;
                rest = A.rest;
                walk = a.1;
                scratch = A.scratch;
                room = A.room;
                deep = omega arith;
                outer = A.outer;
                meets = ap (λ (q : ℕ). before (spread A.g r c.value t ss q) A.rest) (sym z);
              }

  -- a node stands there
  pub node-there : 2 ≤ kind_at T c.at.item → kind_at T c.at.item ≤ 4 → c.at.entry < length P
  node-there a b = go (seen A.walk) A.walk
    where
      go : {t : Row} {ss : List Symbol} {j : ℕ} → Seen j t ss → At t ss A.fs → c.at.entry < length P
      go (v-end e k') W = absurd (omega arith)
      go (v-leaf k' e R f d) W = absurd (omega arith)
      go (v-node l k' st b dc dt) W = (node-list W).0

  -- into a node that is not written itself
  pub into-node : 2 ≤ kind_at T c.at.item → kind_at T c.at.item ≤ 4 → (c.value ≡ 0 → kind_at T c.at.item ≡ 4)
      → (S' : List ℕ) (n : Position) → ends.Entered T P S S' c.at n
      → Ahead T P r S₀ S' (cursor n c.value) k × (weight T P (cursor n c.value) < weight T P c)
  into-node k₂ k₄ four S' n E = go (seen A.walk) A.walk A.meets
    where
      go : {t : Row} {ss : List Symbol} {j : ℕ} → Seen j t ss → At t ss A.fs → Meets t ss A.rest
          → Ahead T P r S₀ S' (cursor n c.value) k × (weight T P (cursor n c.value) < weight T P c)
      go (v-end e k') W o = absurd (omega arith)
      go (v-leaf k' e R f d) W o = absurd (omega arith)
      go (v-node {s = s} {ss = ss} {a = a} {m = m} {c = kids} {t = t} l k' st b dc dt) W o =
          let B = after-enter W st b A.scratch S' n E in
          let z : n.place.0 ≡ c.at.place.0 = ap (λ (q : Position). q.place.0) E.spot in
          let i : n.inner ≡ c.at.entry + 1 = ap (λ (q : Position). q.inner) E.spot in
          let f = frame c.at s t ss m W.to in
          let deep = A.deep in
          let inner = spread A.g r c.value kids (alternative A.g s a) c.at.place.0 in
          let rest = before (following A.g r c.value f) A.rest in (
            record {
              g = A.g;
              starts = A.starts;
              e₁ = A.e₁;
              i₁ = A.i₁;
              row = kids;
              ss = alternative A.g s a;
              fs = f ∷ A.fs;
              rest = rest;
              walk = B.1;
              scratch = B.0;
              room = A.room;
              deep = omega (arith, W.deep);
              outer = inner-after c.value f A.outer four refl A.deep;
              meets =
                  o
                  ∙ ap (λ (y : Xml). before y A.rest) (spread-node A.g r c.value c.at.place.0 a m kids t s ss (λ v. sym (four v) ∙ node-mark st b))
                  ∙ before-join inner (spread A.g r c.value t ss m) A.rest
                  ∙ ap (λ (q : ℕ). before (spread A.g r c.value kids (alternative A.g s a) q) rest) (sym z);
            },
            rw E.spot (enter-falls T P c.at n.item (node-list W).0),
          )
        where
          inner-after : (v : ℕ) (f : Frame) {fs : List Frame} {j : Rest} → Outer T A.g r v fs j → (v ≡ 0 → kind_at T c.at.item ≡ 4)
              → f.item ≡ c.at.item → v ≤ f.link → Outer T A.g r v (f ∷ fs) (before (following A.g r v f) j)
          inner-after zero f B d e l = b-deleted refl (ap (kind_at T) e ∙ d refl) B refl
          inner-after (suc v) f B d e l = b-inside {v = suc v} (omega arith) l B refl

  -- out of the innermost open node
  pub out-of-node : 5 ≤ kind_at T c.at.item → 0 < c.at.inner → (S' : List ℕ) (n : Position) → ends.Left S S' c.at n → (item : ℕ)
      → item ≡ get_or S (2 * (c.at.inner - 1) + 1) 0 → Shut T P r S₀ S' c n item k
  out-of-node five some S' n E item ie = go (seen A.walk) A.walk.chain A.walk A.scratch A.meets A.outer
    where
      go : {t : Row} {ss : List Symbol} {fs : List Frame} {m j j' : ℕ} → Seen j t ss
          → Chain T r S₀ A.g A.starts A.e₁ A.i₁ fs c.at.inner m j' → At t ss fs → S ≡ opened fs S₀ → Meets t ss A.rest
          → Outer T A.g r c.value fs A.rest → Shut T P r S₀ S' c n item k
      go (v-leaf k' q R f d) C W e o B = absurd (omega arith)
      go (v-node l k' st b c' d) C W e o B = absurd (omega arith)
      go (v-end q k') (bottom a b d) W e o B = absurd (omega arith)
      go (v-end q k') (link {f = f} {fs = fs} l C) W e o B =
          let y : n.entry ≡ c.at.entry = ap (λ (y : Position). y.entry) D.1 in
          rw (ie ∙ D.3)
          (record {
            falls = rw D.1 (leave-falls T P c.at (f.item + 1) c.at.place.0 f.link (omega (arith, N.last, N.lower)));
            later = omega arith;
            closes = λ x. close x B;
            passes = λ x x'. pass x x' B;
          })
        where
          D : (S' ≡ opened fs S₀) × (n ≡ Rattle.left_parse.proofs.Walks.spot (f.item + 1) c.at.entry c.at.place.0 f.link)
              × Walk T P r S₀ A.g A.starts A.e₁ A.i₁ n f.row f.symbols fs
              × (get_or S (2 * (c.at.inner - 1) + 1) 0 ≡ f.item)
          D = after_leave W e A.room S' n E

          N : Link T r S₀ A.g A.starts f c.at.inner c.at.entry c.at.place.0
          N = node-ends W

          met : k ≡ A.rest
          met = o ∙ ap (λ (x : Xml). before x A.rest) (spread_end A.g r c.value c.at.place.0) ∙ before-none A.rest

          z : f.from ≡ n.place.0
          z = sym (ap (λ (y : Position). y.place.0) D.1 ∙ sym N.from)

          on : (v : ℕ) {j : Rest} → v ≤ f.link → Outer T A.g r v fs j → Ahead T P r S₀ S' (cursor n v) (before (following A.g r v f) j)
          on v {j} d B = record {
            g = A.g;
            starts = A.starts;
            e₁ = A.e₁;
            i₁ = A.i₁;
            row = f.row;
            ss = f.symbols;
            fs = fs;
            rest = j;
            walk = D.2;
            scratch = D.0;
            room = A.room;
            deep = let i : n.inner ≡ f.link = ap (λ (y : Position). y.inner) D.1 in
                omega arith;
            outer = B;
            meets = ap (λ (q : ℕ). before (spread A.g r v f.row f.symbols q) j) z;
          }

          shut : (m : ℕ) (x : Text) (j : Rest) → Named T (token_at T f.item) m x → Outer T A.g r 0 fs j
              → A.rest ≡ within x none (before (following A.g r 0 f) j) → MetClose T P r S₀ S' k f.item (cursor n 0)
          shut m x j N B e = record { kind = m; name = x; rest = before (following A.g r 0 f) j; met = met ∙ e; named = N; ahead = on 0 (omega arith) B }

          close : ((c.value ≡ c.at.inner) ⊎ ((c.value ≡ 0) × (kind_at T f.item ≡ 2)))
              → Outer T A.g r c.value (f ∷ fs) A.rest → MetClose T P r S₀ S' k f.item (cursor n 0)
          close x (b-deleted v four B e) = absurd (⊎_elim (λ (y : c.value ≡ c.at.inner). omega arith) (λ (y : (c.value ≡ 0) × (kind_at T f.item ≡ 2)). omega (arith, y.1)) x)
          close x (b-element v two N B e) = shut _ _ _ N B e
          close x (b-attribute v N B e) = shut _ _ _ N B e
          close x (b-inside v l B e) = absurd (⊎_elim (λ (y : c.value ≡ c.at.inner). omega (arith, N.last, N.lower))
              (λ (y : (c.value ≡ 0) × (kind_at T f.item ≡ 2)). omega (arith, y.0)) x)

          pass : (c.value ≡ c.at.inner → ⊥) → (c.value ≡ 0 → kind_at T f.item ≡ 2 → ⊥)
              → Outer T A.g r c.value (f ∷ fs) A.rest → Ahead T P r S₀ S' (cursor n c.value) k
          pass x y (b-deleted {j = j} v four B e) = rw (v, met ∙ e) (on 0 (omega arith) B)
          pass x y (b-element v two N B e) = absurd (y v two)
          pass x y (b-attribute v N' B e) = absurd (x (v ∙ sym N.last))
          pass x y (b-inside v l B e) = rw (met ∙ e) (on c.value l B)

  -- the end of all
  pub ahead-over : 5 ≤ kind_at T c.at.item → c.at.inner ≡ 0 → MetEnd S₀ S k
  ahead-over five z =
      let w = walk-over A.walk (five, z) in
      record {
        met = A.meets ∙ ap (λ (j : Rest). before (spread A.g r c.value A.row A.ss c.at.place.0) j)
            (none_after (rw w.2 at A.outer)) ∙ rw (w.0, w.1)
            (ap (λ (x : Xml). row (join x none)) (spread_end A.g r c.value c.at.place.0));
        kept = A.scratch ∙ ap (λ (fs : List Frame). opened fs S₀) w.2;
      }
    where
      none_after : Outer T A.g r c.value [] A.rest → A.rest ≡ row none
      none_after (b-none v e) = e

  -- before an element or an attribute
  pub at-node : c.value ≡ 0 → (2 ≤ kind_at T c.at.item) → kind_at T c.at.item ≤ 3
      → ((kind_at T c.at.item ≡ 2) × MetElement T P r S₀ S k (token_at T c.at.item) c)
      ⊎ ((kind_at T c.at.item ≡ 3) × MetAttribute T P r S₀ S k (token_at T c.at.item) c)
  at-node free k₂ k₃ = go (seen A.walk) A.walk (rw free at A.meets)
    where
      go : {t : Row} {ss : List Symbol} {j : ℕ} → Seen j t ss → At t ss A.fs → k ≡ before (nodes A.g r t ss c.at.place.0) A.rest
          → ((kind_at T c.at.item ≡ 2) × MetElement T P r S₀ S k (token_at T c.at.item) c)
          ⊎ ((kind_at T c.at.item ≡ 3) × MetAttribute T P r S₀ S k (token_at T c.at.item) c)
      go (v-end e k') W o = absurd (omega arith)
      go (v-leaf k' e R f d) W o = absurd (omega arith)
      go (v-node {s = s} {ss = ss} {a = a} {m = m} {c = kids} {t = t} l k' st b dc dt) W o = ⊎_elim (λ e. inl (e, element e))
          (λ e. inr (e, attribute e)) (two-or-three (kind_at T c.at.item) k₂ k₃)
        where
          two-or-three : (q : ℕ) → 2 ≤ q → q ≤ 3 → (q ≡ 2) ⊎ (q ≡ 3)
          two-or-three q a b = ⊎_elim (λ l. inl (omega arith)) (λ l. inr (omega arith)) (Rattle.text.proofs.Tests.split q 3)

          w : (t : ℕ) × Named T (token_at T c.at.item) t (name_of s)
          w = node-named st k₂ (omega arith)

          inner : Xml
          inner = nodes A.g r kids (alternative A.g s a) c.at.place.0

          said : Text
          said = value A.g r kids (alternative A.g s a) c.at.place.0

          after : Rest
          after = before (nodes A.g r t ss m) A.rest

          at : (x : Xml) → ((kind_at T c.at.item ≡ 2) × (x ≡ inner)) ⊎ ((kind_at T c.at.item ≡ 3) × (x ≡ text said)) → AtNode T P r S₀ S c (name_of s) x after
          at x h =
              record {
                g = A.g;
                starts = A.starts;
                e₁ = A.e₁;
                i₁ = A.i₁;
                s = s;
                ss = ss;
                a = a;
                m = m;
                children = kids;
                row = t;
                fs = A.fs;
                rest = A.rest;
                walk = W;
                scratch = A.scratch;
                room = A.room;
                free = free;
                outer = rw free at A.outer;
                token = w.0;
                named = w.1;
                holds = h;
                after = refl;
              }

          element : kind_at T c.at.item ≡ 2 → MetElement T P r S₀ S k (token_at T c.at.item) c
          element e = record {
            kind = w.0;
            name = name_of s;
            inner = inner;
            rest = after;
            met = o ∙ ap (λ (x : Xml). before x A.rest)
                (nodes-element A.g r s ss c.at.place.0 a m kids t (sym e ∙ node-mark st b))
                ∙ before-join (elem (name_of s) inner none) (nodes A.g r t ss m) A.rest;
            named = w.1;
            node = at inner (inl (e, refl));
          }

          attribute : kind_at T c.at.item ≡ 3 → MetAttribute T P r S₀ S k (token_at T c.at.item) c
          attribute e = record {
            kind = w.0;
            name = name_of s;
            value = said;
            rest = after;
            met = o ∙ ap (λ (x : Xml). before x A.rest)
                (nodes-attribute A.g r s ss c.at.place.0 a m kids t (sym e ∙ node-mark st b))
                ∙ before-join (attr (name_of s) said none) (nodes A.g r t ss m) A.rest;
            named = w.1;
            node = at (text said) (inr (e, refl));
          }
