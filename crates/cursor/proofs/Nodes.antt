-- Into a node, over it, and before what stands in it as a walk of its own; and where a walk begins.
use mathlib.Core.Path.{◌≡◌, refl, sym, ap, ◌∙◌}
use mathlib.Core.Logic.{⊎_elim}
use mathlib.Core.List.{List, [], ◌∷◌}
use Prim.Native.Nat.{ℕ, ◌+◌, ◌*◌, ◌≤◌, ◌<◌}
use native.Mathlib.Omega.{arith}
use lib.ListN.{length}
use Rattle.text.specs.Lists.{Text}
use Rattle.tree.specs.Tree.{Symbol, Grammar}
use Rattle.plain.specs.Plain.{alts}
use Rattle.derive.specs.Derive.{Row, node, left_parse, alternative}
use Rattle.items.specs.Items.{kind_at, Starts, Stands}
use Rattle.xml.specs.Document.{Xml, none, text, nodes, value}
use Rattle.left_parse.specs.declared.Position.{Position}
use Rattle.left_parse.specs.Walk.{Frame, Walk}
use Rattle.left_parse.specs.Steps.{Enters, Small, jumped}
use Rattle.left_parse.specs.Steps as ends
use Rattle.left_parse.proofs.Scratch.{opened-length}
use Rattle.left_parse.proofs.Items.{View, v-node}
use Rattle.left_parse.proofs.Walks.{frame, seen, node-list}
use Rattle.left_parse.proofs.After.{small_of, after-enter, after-jump, walk_inside}
use Rattle.cursor.specs.Rest.{Rest, row, within, before}
use Rattle.cursor.specs.Ahead.{spread, Outer, b-none, b-element, b-attribute, Ahead, AtNode}
use Rattle.cursor.specs.Events.{weight}
use Rattle.cursor.specs.declared.Cursor.{Cursor}
use Rattle.cursor.proofs.Laws.{join-none}
use Rattle.cursor.proofs.Weights.{enters-at, enter-falls, jump-falls}
use Rattle.cursor.proofs.Steps.{cursor}

-- a walk begins
pub ahead-begin : {T P : List ℕ} {r : Text} {S : List ℕ} {h : Position} {g : Grammar} {starts : Starts} {e₁ i₁ : ℕ} {t : Row} {ss : List Symbol}
    → Walk T P r S g starts e₁ i₁ h t ss [] → 2 * length P ≤ length S → Ahead T P r S S (cursor h 0) (row (nodes g r t ss h.place.0))
ahead-begin {r = r} {h = h} {g = g} {starts = starts} {e₁ = e₁} {i₁ = i₁} {t = t} {ss = ss} W room =
    record {
      g = g;
      starts = starts;
      e₁ = e₁;
      i₁ = i₁;
      row = t;
      ss = ss;
      fs = [];
      rest = row none;
      walk = W;
      scratch = refl;
      room = room;
      deep = omega arith;
      outer = b-none refl refl;
      meets = sym (ap row (join-none (nodes g r t ss h.place.0)));
    }

module _ {T P : List ℕ} {r : Text} {S₀ S : List ℕ} {c : Cursor} {n : Text} {x : Xml} {k : Rest} (N : AtNode T P r S₀ S c n x k) where
  same-room : length S ≡ length S₀
  same-room = ap length N.scratch ∙ opened-length N.fs S₀

  pub node-small : Small c.at
  node-small = small_of N.walk

  pub node-kinds : (2 ≤ kind_at T c.at.item) × (kind_at T c.at.item ≤ 3)
  node-kinds = ⊎_elim (λ h. (omega (arith, h.0), omega (arith, h.0))) (λ h. (omega (arith, h.0), omega (arith, h.0))) N.holds

  pub node-enters : Enters S c.at
  node-enters = enters-at N.walk same-room N.room node-kinds.0 (omega (arith, node-kinds.1))

  below : Stands T N.g N.starts c.at.item N.s × (N.a < length (alts N.g N.s))
  below = go (seen N.walk)
    where
      go : {j : ℕ} → View T r N.g N.starts c.at.item c.at.place.0 j (node N.a N.m N.children N.row) (N.s ∷ N.ss)
          → Stands T N.g N.starts c.at.item N.s × (N.a < length (alts N.g N.s))
      go (v-node l k' st b dc dt) = (st, b)

  -- into the node; in an attribute the cursor knows its entry
  pub enter-node : (S' : List ℕ) (h : Position) → ends.Entered T P S S' c.at h → (v : ℕ) → (kind_at T c.at.item ≡ 2 → v ≡ 0)
      → (kind_at T c.at.item ≡ 3 → v ≡ h.inner) → Ahead T P r S₀ S' (cursor h v) (within n x k)
  enter-node S' h E v two three = ⊎_elim (λ z. into-element z.0 z.1) (λ z. into-value z.0 z.1) N.holds
    where
      B : (S' ≡ Rattle.left_parse.specs.Walk.opened (frame c.at N.s N.row N.ss N.m N.walk.to ∷ N.fs) S₀)
          × Walk T P r S₀ N.g N.starts N.e₁ N.i₁ h N.children (alternative N.g N.s N.a)
          (frame c.at N.s N.row N.ss N.m N.walk.to ∷ N.fs)
      B = after-enter N.walk below.0 below.1 N.scratch S' h E

      z : h.place.0 ≡ c.at.place.0
      z = ap (λ (q : Position). q.place.0) E.spot

      i : h.inner ≡ c.at.entry + 1
      i = ap (λ (q : Position). q.inner) E.spot

      f : Frame
      f = frame c.at N.s N.row N.ss N.m N.walk.to

      stand : v ≤ h.inner → Outer T N.g r v (f ∷ N.fs) (within n none k)
          → x ≡ spread N.g r v N.children (alternative N.g N.s N.a) h.place.0
          → Ahead T P r S₀ S' (cursor h v) (within n x k)
      stand d b e = record {
        g = N.g;
        starts = N.starts;
        e₁ = N.e₁;
        i₁ = N.i₁;
        row = N.children;
        ss = alternative N.g N.s N.a;
        fs = f ∷ N.fs;
        rest = within n none k;
        walk = B.1;
        scratch = B.0;
        room = N.room;
        deep = d;
        outer = b;
        meets = ap (λ (y : Xml). within n y k) (e ∙ sym
            (join-none (spread N.g r v N.children (alternative N.g N.s N.a) h.place.0)));
      }

      into-element : kind_at T c.at.item ≡ 2 → x ≡ nodes N.g r N.children (alternative N.g N.s N.a) c.at.place.0 → Ahead T P r S₀ S' (cursor h v) (within n x k)
      into-element e y =
          let d = two e in
          stand (omega arith) (b-element d e N.named N.outer (ap (within n none) N.after)) (y ∙ rw (d, z) refl)

      into-value : kind_at T c.at.item ≡ 3 → x ≡ text (value N.g r N.children (alternative N.g N.s N.a) c.at.place.0) → Ahead T P r S₀ S' (cursor h v) (within n x k)
      into-value e y =
          let d = three e in
          stand (omega arith) (b-attribute (d ∙ i) N.named N.outer (ap (within n none) N.after))
          (y ∙ rw z (sym (Rattle.cursor.proofs.Laws.spread-value N.g r v c.at.place.0 N.children
          (alternative N.g N.s N.a) (omega (arith, i)))))

  pub enter-less : (S' : List ℕ) (h : Position) → ends.Entered T P S S' c.at h → (v : ℕ) → weight T P (cursor h v) < weight T P c
  enter-less S' h E v = rw E.spot (enter-falls T P c.at h.item (node-list N.walk).0)

  -- over the node
  pub past-node : (h : Position) → h ≡ jumped S c.at → (v : ℕ) → v ≡ c.value → Ahead T P r S₀ S (cursor h v) k × (weight T P (cursor h v) < weight T P c) × (c.at.entry < h.entry)
  past-node h he v ve =
      let B = after-jump N.walk N.scratch h he in
      let z : h.place.0 ≡ N.m = ap (λ (q : Position). q.place.0) B.0 in
      let y : h.entry ≡ c.at.entry + 1 + length (left_parse N.children) = ap (λ (q : Position). q.entry) B.0 in
      let e : v ≡ 0 = ve ∙ N.free in (
        rw e (record {
          g = N.g;
          starts = N.starts;
          e₁ = N.e₁;
          i₁ = N.i₁;
          row = N.row;
          ss = N.ss;
          fs = N.fs;
          rest = N.rest;
          walk = B.1;
          scratch = N.scratch;
          room = N.room;
          deep = omega arith;
          outer = N.outer;
          meets = N.after ∙ ap (λ (q : ℕ). before (nodes N.g r N.row N.ss q) N.rest) (sym z);
        }),
        rw B.0 (jump-falls T P c.at (c.at.item + 1) (c.at.entry + 1 + length (left_parse N.children)) N.m (omega arith)
            (omega (arith, B.1.inside)) (omega (arith, N.walk.deep, N.walk.inside))),
        omega arith,
      )

  -- what stands in an element, as a walk of its own
  pub inside-node : kind_at T c.at.item ≡ 2 → (h : Position) → ends.Inside T P c.at h → Ahead T P r S S (cursor h 0) (row x)
  inside-node e h I =
      let W = walk_inside (record {
        S₀ = S₀;
        e₁ = N.e₁;
        i₁ = N.i₁;
        m = N.m;
        t = N.row;
        ss = N.ss;
        fs = N.fs;
        walk = N.walk;
        scratch = N.scratch;
        room = N.room;
      }) below.0 below.1 h I in
      let z : h.place.0 ≡ c.at.place.0 = ap (λ (q : Position). q.place.0) I.spot in
      let y : x ≡ nodes N.g r N.children (alternative N.g N.s N.a) h.place.0 = ⊎_elim (λ q. q.1) (λ q. absurd (omega (arith, q.0))) N.holds ∙ rw z refl in
      rw y (ahead-begin W (omega (arith, N.room, same-room)))
