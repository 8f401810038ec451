-- The whole course: its beginning, each step, its end, and that it ends.
use mathlib.Core.Path.{◌≡◌, refl, sym, ap, subst, ◌∙◌}
use mathlib.Core.Logic.{◌⊎◌, inl, inr, ◌↔◌}
use mathlib.Core.Bool.{false}
use mathlib.Core.List.{List, [], ◌∷◌, ◌++◌, append-nil}
use Prim.Native.Nat.{ℕ, ◌+◌, ◌*◌, ◌-◌, ◌<◌, ◌≤◌}
use native.Mathlib.Nat.{mul-le-mul_right, suc-mul}
use native.Mathlib.Decide.{dec_lt}
use native.Mathlib.Omega.{arith}
use lib.Dec.{T}
use lib.ListN.{length, get_or, take, length-append, length-take}
use Rattle.text.specs.Limits.{most_size, reading_numbers}
use Rattle.tree.specs.Tree.{Symbol, terminal}
use Rattle.plain.specs.Plain.{width}
use Rattle.derive.specs.Derive.{Row, end, leaf, node, alternative, Derives, d-end, Derivation, left_parse, root}
use Rattle.derive.specs.Chosen.{Chosen, ch-end, ch-node}
use Rattle.derive.specs.Chosen.{Reading as ChosenReading}
use Rattle.derive.proofs.Rows.{forward}
use Rattle.derive.proofs.Chosen.{chosen-derives}
use Rattle.derive.proofs.Picks.{PickedRow, chosen-exists}
use Rattle.derive.proofs.Another.{second_is}
use Rattle.derive.proofs.Twice.{Twice, tw-skip, tw-place, tw-number, tw-inside, tw-later, OtherNumber, OtherPlace, twice-is}
use Rattle.derive.proofs.Parts.{end_row, leaf-row}
use Rattle.chart.specs.Code.{next_kind, after_dot}
use Rattle.chart.specs.Heights.{none}
use Rattle.chart.proofs.Says.{rule-least, rule-some}
use Rattle.sparse.specs.Cells.{rule_of}
use Rattle.reading.specs.declared.Cursor.{Cursor}
use Rattle.reading.specs.Walk.{popped, skipped, full, wrote, Stepped, at-end, at-terminal, at_symbol, CanEnter, CanStep, Over}
use Rattle.reading.specs.Answer.{Finished, IsReading, IsLong}
use Rattle.reading.proofs.Tables.{Known, position, ready, root-rule, root-started, end-at, terminal-at, terminal-placed}
use Rattle.reading.proofs.PendingRows.{Pending, parses, AnyTwice, Stacked, st-none, st-more}
use Rattle.reading.proofs.Walks.{Ambiguous, Going, Before, Stage, goes_on, too_long, enter-stage, some-low}
use Rattle.reading.proofs.Descents.{can-descend, descend-before}

-- What falls: numbers left, then rows on the stack, then what is left of the code.
abbrev pub weight : ℕ → Cursor → ℕ
weight most h = ((reading_numbers + 1 - h.at) * (reading_numbers + 1) + h.depth) * (most + 1) + (most - h.p)

falls-by : (a b size p q : ℕ) → a < b → a * (size + 1) + (size - p) < b * (size + 1) + (size - q)
falls-by a b size p q h = omega (arith, mul-le-mul_right (size + 1) h, suc-mul a (size + 1))

step_less : {c M F H : List ℕ} {size n : ℕ} {out out' st st' : List ℕ} {h r : Cursor} (most : ℕ) → h.p < most → h.depth < h.at → h.at ≤ reading_numbers
    → (next_kind c h.p ≡ 0 → 0 < h.depth) → Stepped c M F size n H out out' st st' h r → weight most r < weight most h
step_less {st = st} {h = h} {r = r} most i d m f (at-end z o s e) =
    let p : 0 < h.depth = f z in
    rw e (falls-by ((reading_numbers + 1 - h.at) * (reading_numbers + 1) + (h.depth - 1)) ((reading_numbers + 1 - h.at) * (reading_numbers + 1) + h.depth) most (popped st h).p h.p (omega arith))
step_less {h = h} most i d m f (at-terminal z o s e) = rw e (omega arith)
step_less {h = h} {r = r} most i d m f (at_symbol x l b u v s (full z o p a g)) =
    falls-by ((reading_numbers + 1 - r.at) * (reading_numbers + 1) + r.depth) ((reading_numbers + 1 - h.at) * (reading_numbers + 1) + h.depth) most r.p h.p (omega arith)
step_less {h = h} most i d m f (at_symbol x l b u v s (wrote a b' q w w' o e)) =
    rw e (falls-by ((reading_numbers + 1 - (h.at + 1)) * (reading_numbers + 1) + (h.depth + 1)) ((reading_numbers + 1 - h.at) * (reading_numbers + 1) + h.depth) most a.place h.p (omega arith))

-- before the root's node, on the characters up to j
abbrev pub start : ℕ → ℕ → ℕ → ℕ → ℕ → Cursor
start size n first j k = record { size = size; n = record { 0 = n }; p = first; i = record { 0 = 0 }; j = record { 0 = j }; k = k; at = 0; depth = 0; mark = false }

-- another way is met nowhere in an empty row
end-once : {A B C : Type 0} → (B → ⊥) → A ⊎ (B ⊎ C) → A ⊎ C
end-once f (inl x) = inl x
end-once f (inr (inl x)) = absurd (f x)
end-once f (inr (inr x)) = inr x

end_more : {A B C : Type 0} → A ⊎ C → A ⊎ (B ⊎ C)
end_more (inl x) = inl x
end_more (inr x) = inr (inr x)

only : {A : Type 0} → A ⊎ ⊥ → A
only (inl x) = x
only (inr x) = absurd x

module _ {c M F H : List ℕ} {size n top first : ℕ} (K : Known c M F H size n top first) where
  abbrev t : Finished c M F H size n top first
  t = K.of

  no-twice : {row : Row} {ss : List Symbol} {i j : ℕ} → row ≡ end → ss ≡ [] → Twice t.g t.r row ss i j → ⊥
  no-twice e f (tw-skip w) = let z : ◌≡◌ {A = ℕ} 0 1 = cc in omega arith
  no-twice e f (tw-place w) = let z : ◌≡◌ {A = ℕ} 0 1 = cc in omega arith
  no-twice e f (tw-number w) = let z : ◌≡◌ {A = ℕ} 0 1 = cc in omega arith
  no-twice e f (tw-inside w) = let z : ◌≡◌ {A = ℕ} 0 1 = cc in omega arith
  no-twice e f (tw-later w) = let z : ◌≡◌ {A = ℕ} 0 1 = cc in omega arith

  -- a row that has come to its end
  pub record Finish (out st : List ℕ) (h : Cursor) (w : Row) (pending : List (Pending K)) : Type 0 where
    pub stop : h.i.0 ≡ h.j.0
    pub list : take h.at out ++ parses K pending ≡ left_parse w
    pub marks : Ambiguous K w ↔ (T h.mark ⊎ AnyTwice K pending)

  row-end : {out st : List ℕ} {h : Cursor} {w : Row} (G : Going K out st h w) → next_kind c h.p ≡ 0 → Finish out st h w G.pending
  row-end {out} {st} {h} {w} G z =
      let b = end-at K h.p G.placed.inside z in
      let e = end_row t.g t.r (subst (λ (ss : List Symbol). Chosen t.g t.r G.row ss h.i.0 h.j.0) b G.picked.chosen) in
      record {
        stop = e.stop;
        list = subst (λ (u : Row). take h.at out ++ (left_parse u ++ parses K G.pending) ≡ left_parse w) e.is G.list;
        marks = (λ a. end-once (no-twice e.is b) (G.marks.0 a), λ a. G.marks.1 (end_more a));
      }

  -- back to the row that was left last
  pop-by : {out st : List ℕ} {h : Cursor} {w : Row} {pending : List (Pending K)} (G : Going K out st h w) → Finish out st h w pending → 0 < h.depth
      → Stacked K st h.depth h.j.0 pending → Going K out st (popped st h) w
  pop-by G F d (st-none z) = absurd (omega arith)
  pop-by {out} {st} {h} {w} G F d (st-more {e = e} {ds = ds} u z a x y k s) =
      let q : h.depth - 1 ≡ e = omega arith in
      let i-is : u.from ≡ h.j.0 = a in
      let p-is : u.place ≡ get_or st (3 * (h.depth - 1)) 0 = sym x ∙ ap (λ (v : ℕ). get_or st (3 * v) 0) (sym q) in
      let j-is : u.to ≡ get_or st (3 * (h.depth - 1) + 1) 0 = sym y ∙ ap (λ (v : ℕ). get_or st (3 * v + 1) 0) (sym q) in
      let k-is : u.bound ≡ get_or st (3 * (h.depth - 1) + 2) 0 = sym k ∙ ap (λ (v : ℕ). get_or st (3 * v + 2) 0) (sym q) in
      let at : Cursor = record { size = h.size; n = h.n; p = u.place; i = record { 0 = u.from }; j = record { 0 = u.to }; k = u.bound; at = h.at; depth = e; mark = h.mark } in
      let same : at ≡ popped st h = λ ι. record {
        size = h.size;
        n = h.n;
        p = p-is ι;
        i = record { 0 = i-is ι };
        j = record { 0 = j-is ι };
        k = k-is ι;
        at = h.at;
        depth = sym q ι;
        mark = h.mark;
      } in
      let go : Going K out st at w = record {
        row = u.row;
        sized = G.sized;
        ended = G.ended;
        placed = u.placed;
        small = u.small;
        picked = u.picked;
        pending = ds;
        stacked = s;
        list = F.list;
        marks = F.marks;
        written = omega (arith, G.written);
        most = G.most;
        room = G.room;
        stack = G.stack;
      } in
      subst (λ (x : Cursor). Going K out st x w) same go

  -- past a terminal
  skip-going : {out st : List ℕ} {h : Cursor} {w : Row} → Going K out st h w → next_kind c h.p ≡ 1 → Going K out st (skipped c h) w
  skip-going {out} {st} {h} {w} G z =
      let dots = t.code.dots in
      let b = terminal-at K h.p G.placed.inside z in
      let v = leaf-row t.g t.r (subst (λ (ss : List Symbol). PickedRow t.g t.r h.k ss h.i.0 h.j.0 G.row) b.is G.picked) in
      let marks = subst (λ (ss : List Symbol). Ambiguous K w ↔ (T h.mark ⊎ (Twice t.g t.r G.row ss h.i.0 h.j.0 ⊎ AnyTwice K G.pending))) b.is G.marks in
      let marks' = subst (λ (u : Row). Ambiguous K w ↔
      (T h.mark ⊎ (Twice t.g t.r u (terminal b.x ∷ after_dot dots (h.p + 1)) h.i.0 h.j.0 ⊎ AnyTwice K G.pending)))
      v.is marks in
      let go : Going K out st (moved (width b.x)) w = record {
        row = v.others;
        sized = G.sized;
        ended = G.ended;
        placed = terminal-placed K G.placed z b (chosen-derives t.g t.r G.picked.chosen);
        small = G.small;
        picked = v.picked;
        pending = G.pending;
        stacked = G.stacked;
        list = subst (λ (u : Row). take h.at out ++ (left_parse u ++ parses K G.pending) ≡ left_parse w) v.is G.list;
        marks = (λ a. skipping (marks'.0 a), λ a. marks'.1 (unskipping a));
        written = G.written;
        most = G.most;
        room = G.room;
        stack = G.stack;
      } in
      subst (λ (x : ℕ). Going K out st (moved x) w) (sym b.wide) go
    where
      moved : ℕ → Cursor
      moved x = record { size = h.size; n = h.n; p = h.p + 1; i = record { 0 = h.i.0 + x }; j = h.j; k = h.k; at = h.at; depth = h.depth; mark = h.mark }

      skipping : {A B : Type 0} {m i j : ℕ} {s : Symbol} {ss : List Symbol} {u : Row} → A ⊎ (Twice t.g t.r (leaf m u) (s ∷ ss) i j ⊎ B) → A ⊎ (Twice t.g t.r u ss m j ⊎ B)
      skipping (inl x) = inl x
      skipping (inr (inl (tw-skip x))) = inr (inl x)
      skipping (inr (inr x)) = inr (inr x)

      unskipping : {A B : Type 0} {m i j : ℕ} {s : Symbol} {ss : List Symbol} {u : Row} → A ⊎ (Twice t.g t.r u ss m j ⊎ B) → A ⊎ (Twice t.g t.r (leaf m u) (s ∷ ss) i j ⊎ B)
      unskipping (inl x) = inl x
      unskipping (inr (inl x)) = inr (inl (tw-skip x))
      unskipping (inr (inr x)) = inr (inr x)

  back : {out st : List ℕ} {h : Cursor} {w : Row} → Going K out st h w → (Over c h → ⊥) → next_kind c h.p ≡ 0 → 0 < h.depth
  back {h = h} G f z = elim (dec_lt 0 h.depth) as (λ _. 0 < h.depth) [ yes q ↦ q | no q ↦ absurd (f (λ _. (z, omega arith))) ]

  -- the cursor has the grammar's size and the record's end
  settled : {out out' st st' : List ℕ} {h r : Cursor} {w : Row} → Going K out st h w → Stepped c M F h.size h.n.0 H out out' st st' h r
      → Stepped c M F size n H out out' st st' h r
  settled {out} {out'} {st} {st'} {h} {r} G s =
      subst (λ (z : ℕ). Stepped c M F z n H out out' st st' h r) G.sized (subst (λ (z : ℕ). Stepped c M F h.size z H out out' st st' h r) G.ended s)

  stage-by : {out out' st st' : List ℕ} {h r : Cursor} {w : Row} → Going K out st h w → (Over c h → ⊥) → Stepped c M F size n H out out' st st' h r → Stage K out' st' r w
  stage-by G f (at-end z o s e) = rw (o, s, e) (goes_on (pop-by G (row-end G z) (back G f z) G.stacked))
  stage-by G f (at-terminal z o s e) = rw (o, s, e) (goes_on (skip-going G z))
  stage-by G f (at_symbol x m b u v s e) = rw s (enter-stage K (descend-before K G x m b u v) e)

  -- every step stays on the course
  pub step-stage : {out out' st st' : List ℕ} {h r : Cursor} {w : Row} → Going K out st h w → (Over c h → ⊥) → Stepped c M F h.size h.n.0 H out out' st st' h r
      → Stage K out' st' r w
  step-stage G f s = stage-by G f (settled G s)

  pub step_falls : {out out' st st' : List ℕ} {h r : Cursor} {w : Row} → Going K out st h w → (Over c h → ⊥) → Stepped c M F h.size h.n.0 H out out' st st' h r
      → weight most_size r < weight most_size h
  step_falls {h = h} G f s = step_less most_size (omega (arith, G.placed.inside, t.tables.shape.small)) G.written G.most (back G f) (settled G s)

  pub can-step : {out st : List ℕ} {h : Cursor} {w : Row} → Going K out st h w → (Over c h → ⊥) → CanStep c M F h.size h.n.0 H out st h
  can-step {out} {st} {h} G f =
      subst (λ (z : ℕ). CanStep c M F z h.n.0 H out st h) (sym G.sized) (subst (λ (z : ℕ). CanStep c M F size z H out st h) (sym G.ended) (record {
        ready = ready K (forward t.g t.r (chosen-derives t.g t.r G.picked.chosen)) (omega (arith, G.placed.stop, t.long));
        position = position K h.p G.placed.inside;
        written = G.written;
        most = G.most;
        room = G.room;
        stack = G.stack;
        back = back G f;
        on = can-descend K G;
      }))

  pub going : {out st : List ℕ} {h : Cursor} {w : Row} → Stage K out st h w → h.at ≤ reading_numbers → Going K out st h w
  going (goes_on G) l = G
  going (too_long z k a b) l = absurd (omega arith)

  -- the beginning
  abbrev pub Root : Row → Type 0
  Root w = Chosen t.g t.r w (root t.g ∷ []) 0 (length t.r)

  pub rooted : (rule_of c M F n H top 0 n ≡ none → ⊥) → (w : Row) × Root w
  rooted f =
      let l = rule-least t.g t.r ((root-rule K).says 0 n (omega arith) (root-started K n refl)) f in
      chosen-exists t.g t.r (subst (λ (z : ℕ). Derives t.g t.r l.tree (root t.g ∷ []) 0 z) (sym t.long) l.derives)

  pub unrooted : rule_of c M F n H top 0 n ≡ none → (w : Row) → Derivation t.g t.r w → ⊥
  unrooted e w d = rule-some t.g t.r ((root-rule K).says 0 n (omega arith) (root-started K n refl)) (subst (λ (z : ℕ). Derives t.g t.r w (root t.g ∷ []) 0 z) t.long d) e

  pub can-begin : (out : List ℕ) (h : Cursor) → reading_numbers ≤ length out → h.i.0 ≡ 0 → h.j.0 ≡ n → h.at ≡ 0
      → (rule_of c M F n H top 0 n ≡ none → ⊥) → CanEnter c M F size n H top first out h
  can-begin out h l a b z f = record {
    ready = ready K (omega arith) (omega arith);
    rule = t.code.root-inside;
    some = rw (a, b) (some-low K (root-rule K) (root-started K n refl) (omega arith) f);
    room = l;
    most = omega arith;
  }

  stops : {s : Symbol} {i j : ℕ} → OtherPlace t.g t.r s [] i j j → ⊥
  stops o = o.other (at_once o.others)
    where
      at_once : {u : Row} {i j : ℕ} → Derives t.g t.r u [] i j → i ≡ j
      at_once d-end = refl

  begins : {s : Symbol} {a i j : ℕ} {u : Row} → Twice t.g t.r (node a j u end) (s ∷ []) i j
      → T false ⊎ (OtherNumber t.g t.r s i j a ⊎ (Twice t.g t.r u (alternative t.g s a) i j ⊎ ⊥))
  begins (tw-place o) = absurd (stops o)
  begins (tw-number o) = inr (inl o)
  begins (tw-inside o) = inr (inr (inl o))
  begins (tw-later o) = absurd (no-twice refl refl o)

  ended : {s : Symbol} {a i j : ℕ} {u : Row}
      → T false ⊎ (OtherNumber t.g t.r s i j a ⊎ (Twice t.g t.r u (alternative t.g s a) i j ⊎ ⊥))
      → Twice t.g t.r (node a j u end) (s ∷ []) i j
  ended (inl z) = absurd z
  ended (inr (inl o)) = tw-number o
  ended (inr (inr (inl o))) = tw-inside o
  ended (inr (inr (inr z))) = absurd z

  begin-by : {out st : List ℕ} {w : Row} {j : ℕ} (k : ℕ) → reading_numbers ≤ length out → 3 * reading_numbers ≤ length st → j ≡ n
      → Chosen t.g t.r w (root t.g ∷ []) 0 j → Ambiguous K w ↔ Twice t.g t.r w (root t.g ∷ []) 0 j
      → Before K top first out st (start size n first j k) w
  begin-by {j = j} k a b l (ch-node {c = u} {a = x} p d ch-end) m = record {
    s = root t.g;
    sized = refl;
    ended = refl;
    rule = root-rule K;
    started = root-started K j l;
    number = x;
    children = u;
    choice = p;
    inside = d;
    pending = [];
    stacked = st-none refl;
    list = refl;
    marks = (λ z. begins (m.0 z), λ z. m.1 (ended z));
    written = omega arith;
    most = omega arith;
    room = a;
    stack = b;
  }

  pub begin : {out st : List ℕ} {w : Row} → reading_numbers ≤ length out → 3 * reading_numbers ≤ length st → Root w
      → Before K top first out st (start size n first n 0) w
  begin {w = w} a b d =
      begin-by 0 a b refl (subst (λ (z : ℕ). Chosen t.g t.r w (root t.g ∷ []) 0 z) t.long d)
      (subst (λ (z : ℕ). Ambiguous K w ↔ Twice t.g t.r w (root t.g ∷ []) 0 z) t.long (twice-is t.g t.r (chosen-derives t.g t.r d)))

  -- the end
  last_row : {out st : List ℕ} {h : Cursor} {w : Row} {pending : List (Pending K)} → Finish out st h w pending → h.depth ≡ 0
      → Stacked K st h.depth h.j.0 pending → Finish out st h w []
  last_row F e (st-none z) = F
  last_row F e (st-more u z a x y k s) = absurd (omega arith)

  list-long : (out p : List ℕ) (at : ℕ) → at ≤ length out → take at out ++ [] ≡ p → length p ≡ at
  list-long out p at l e = omega (arith, ap length e, length-append (take at out) [], length-take at out)

  pub finish : {out st : List ℕ} {h : Cursor} {w : Row} → Stage K out st h w → Root w → Over c h → h.at ≤ reading_numbers → IsReading t.g t.r out h.at h.mark
  finish {out} {st} {h} {w} s d o l =
      let G = going s l in
      let F = last_row (row-end G (o l).0) (o l).1 G.stacked in
      let reading : ChosenReading t.g t.r w (left_parse w) = record { chosen = d; parse = refl } in
      let q = second_is t.g t.r reading in
      record {
        tree = w;
        parse = left_parse w;
        reading = reading;
        long = list-long out (left_parse w) h.at (omega (arith, G.room)) F.list;
        short = l;
        list = sym (append-nil (take h.at out)) ∙ F.list;
        ambiguous = (λ z. q.1 (F.marks.1 (inl z)), λ z. only (F.marks.0 (q.0 z)));
      }

  pub finish-long : {out st : List ℕ} {h : Cursor} {w : Row} → Stage K out st h w → Root w → reading_numbers < h.at → IsLong t.g t.r
  finish-long (goes_on G) d l = absurd (omega (arith, G.most))
  finish-long {w = w} (too_long z k a b) d l = record { tree = w; parse = left_parse w; reading = record { chosen = d; parse = refl }; long = k }
