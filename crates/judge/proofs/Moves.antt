-- The steps of a walk over a list: on, or the list names no derivation.
use mathlib.Core.Path.{◌≡◌, refl, sym, ap, ◌∙◌, subst}
use mathlib.Core.Bool.{Bool, true, false}
use mathlib.Core.List.{List, [], ◌∷◌}
use Prim.Native.Nat.{ℕ, suc, ◌+◌, ◌-◌, ◌*◌, ◌<◌, ◌≤◌}
use native.Mathlib.Omega.{arith}
use lib.Dec.{T as Holds}
use lib.ListN.{length, get_or, drop, length-drop}
use lib.Seq.{drop-cons}
use Rattle.text.specs.Lists.{Text}
use Rattle.text.proofs.Tests.{is_t, not_t}
use Rattle.tree.specs.Tree.{Terminal, Symbol, terminal, Grammar}
use Rattle.plain.specs.Plain.{alts, fits, width}
use Rattle.derive.specs.Derive.{alternative}
use Rattle.terminals.specs.Places.{TerminalAt, TerminalHere}
use Rattle.items.specs.Items.{kind_at, target_at, token_at, Starts, Stands}
use Rattle.left_pass.proofs.Shifts.{fits-within}
use Rattle.left_parse.specs.declared.Position.{Position}
use Rattle.left_parse.specs.Walk.{Over}
use Rattle.left_parse.specs.Steps.{Skipped, Entered, Left, Counted}
use Rattle.left_parse.proofs.Items.{leaf-stands}
use Rattle.left_parse.proofs.Walks.{spot, list-head, falls, falls-on, later}
use Rattle.left_parse.proofs.Notes.{going-leaf, going-enter, going-leave}
use Rattle.judge.specs.Due.{Named, Due}
use Rattle.judge.specs.Tracks.{Open, afters, Opens, none_open, some-open, Table, Tracks, SomeTracks, Moved, Refuted}
use Rattle.judge.proofs.Due.{at-end, end-at, out_of, out-back, over-leaf, leaf-back, into-node, node-back}
use Rattle.judge.proofs.Tracks.{opens-set, opens-more, no-terminals, alternatives-at, token-here, Next, n-end, n-leaf, n-node, next_of, item_in}

fit : {T : List ℕ} (r : Text) (i : ℕ) {g : Grammar} {starts : Starts} {x : Terminal} {p token : ℕ} {b : Bool} → token ≡ token_at T p
    → ((y : Terminal) → TerminalAt T token y → b ≡ fits y (drop i r)) → Table T g starts → Stands T g starts p (terminal x) → b ≡ fits x (drop i r)
fit r i {x = x} te says B st = says x (rw te (token-here B st))

module _ {T P : List ℕ} {r : Text} {S : List ℕ} {h : Position} where
  -- 1. A terminal.
  pub terminal-there : SomeTracks T P r S h → kind_at T h.item ≡ 1 → (token : ℕ) → token ≡ token_at T h.item → TerminalHere T token
  terminal-there w k token e = go (next_of w.tracks.spells)
    where
      go : {ss : List Symbol} → Next T w.g w.starts h.item ss → TerminalHere T token
      go (n-end l) = absurd (omega arith)
      go (n-leaf {x = x} l st sp) = rw e (record { terminal = x; is = token-here w.table st })
      go (n-node l m st sp) = absurd (omega arith)

  module _ (k : kind_at T h.item ≡ 1) {b : Bool} {token : ℕ} (te : token ≡ token_at T h.item)
      (says : (x : Terminal) → TerminalAt T token x → b ≡ fits x (drop h.place.0 r)) where
    module _ {n : Position} (K : Skipped T h n) where
      leaf-on : b ≡ true → (g : Grammar) (starts : Starts) → Table T g starts → Tracks T P r S h g starts → Tracks T P r S n g starts
      leaf-on y g starts B D = go D.ss (next_of D.spells) D.forth D.back
        where
          go : (ss : List Symbol) → Next T g starts h.item ss → (Named P g r → Due g r ss h.place.0 (afters D.os) (drop h.entry P))
              → (Due g r ss h.place.0 (afters D.os) (drop h.entry P) → Named P g r) → Tracks T P r S n g starts
          go ss (n-end l) f e = absurd (omega arith)
          go ss (n-node l m st sp) f e = absurd (omega arith)
          go ss (n-leaf {x = x} {ss = us} l st sp) f e =
              let z : h.place.0 + K.w ≡ h.place.0 + width x = ap (λ (i : ℕ). h.place.0 + i) (K.wide.is x (leaf-stands st).1) in
              let q : n ≡ spot (h.item + 1) h.entry (h.place.0 + width x) h.inner = K.spot ∙ ap (λ (i : ℕ). spot (h.item + 1) h.entry i h.inner) z in
              let t : Holds (fits x (drop h.place.0 r)) = is_t (sym (fit r h.place.0 te says B st) ∙ y) in
              rw q (record {
                ss = us;
                os = D.os;
                spells = sp;
                opens = D.opens;
                deep = D.deep;
                inside = D.inside;
                within = fits-within x r h.place.0 D.within t;
                forth = λ m. (over-leaf g r x us h.place.0 (afters D.os) (drop h.entry P) (f m)).1;
                back = λ d. e (leaf-back g r x us h.place.0 (afters D.os) (drop h.entry P) t d);
              })

      pub moved-leaf : SomeTracks T P r S h → b ≡ true → Moved T P r S S h n
      moved-leaf w y = record {
        tracks = leaf-on y;
        goes = λ F e i G. rw K.spot (going-leaf G k K.w K.wide);
        falls = rw K.spot (falls-on ((length P - h.entry) * (length P + 1) + h.inner) (length T) h.item (item_in w));
      }

    pub refuted-leaf : b ≡ false → Refuted T P r S h
    refuted-leaf y = record { no = λ g starts B D m. go g starts B D D.ss (next_of D.spells) (D.forth m) }
      where
        go : (g : Grammar) (starts : Starts) → Table T g starts → (D : Tracks T P r S h g starts) (ss : List Symbol) → Next T g starts h.item ss
            → Due g r ss h.place.0 (afters D.os) (drop h.entry P) → ⊥
        go g starts B D ss (n-end l) d = absurd (omega arith)
        go g starts B D ss (n-node l m st sp) d = absurd (omega arith)
        go g starts B D ss (n-leaf {x = x} {ss = us} l st sp) d =
            not_t (sym (fit r h.place.0 te says B st) ∙ y) (over-leaf g r x us h.place.0 (afters D.os) (drop h.entry P) d).0

  -- 2. A node.
  module _ (k : 2 ≤ kind_at T h.item) (k₄ : kind_at T h.item ≤ 4) where
    pub refuted-end : length P ≤ h.entry → Refuted T P r S h
    refuted-end l = record { no = λ g starts B D m. go g starts B D D.ss (next_of D.spells) (D.forth m) }
      where
        go : (g : Grammar) (starts : Starts) → Table T g starts → (D : Tracks T P r S h g starts) (ss : List Symbol) → Next T g starts h.item ss
            → Due g r ss h.place.0 (afters D.os) (drop h.entry P) → ⊥
        go g starts B D ss (n-end q) d = absurd (omega arith)
        go g starts B D ss (n-leaf q st sp) d = absurd (omega arith)
        go g starts B D ss (n-node {s = s} {ss = us} q m st sp) d =
            let I = into-node g r s (no-terminals k st) us h.place.0 (afters D.os) (drop h.entry P) d in
            omega (arith, ap length I.list, length-drop h.entry P)

    module _ {a x : ℕ} (ae : a ≡ get_or P h.entry 0) (xe : x ≡ target_at T h.item) {b : Bool} (C : Counted T x a b) where
      pub refuted-number : b ≡ false → Refuted T P r S h
      refuted-number y = record { no = λ g starts B D m. go g starts B D D.ss (next_of D.spells) (D.forth m) }
        where
          go : (g : Grammar) (starts : Starts) → Table T g starts → (D : Tracks T P r S h g starts) (ss : List Symbol) → Next T g starts h.item ss
              → Due g r ss h.place.0 (afters D.os) (drop h.entry P) → ⊥
          go g starts B D ss (n-end q) d = absurd (omega arith)
          go g starts B D ss (n-leaf q st sp) d = absurd (omega arith)
          go g starts B D ss (n-node {s = s} {ss = us} q m st sp) d =
              let I = into-node g r s (no-terminals k st) us h.place.0 (afters D.os) (drop h.entry P) d in
              let A = alternatives-at B k st in
              let n = (list-head P h.entry I.number I.others I.list).1 in
              omega (arith, ae, I.below, C.none y g starts (alts g s) (rw xe A))

      module _ {S' : List ℕ} {n : Position} (room : 2 * length P ≤ length S) (l : h.entry < length P) (E : Entered T P S S' h n) where
        node-on : b ≡ true → (g : Grammar) (starts : Starts) → h.item < length T → Table T g starts → Tracks T P r S h g starts → Tracks T P r S' n g starts
        node-on y g starts it B D = go D.ss (next_of D.spells) D.forth D.back
          where
            a₀ : ℕ
            a₀ = get_or P h.entry 0

            cons : drop h.entry P ≡ get_or P h.entry 0 ∷ drop (h.entry + 1) P
            cons = let z : suc h.entry ≡ h.entry + 1 = omega arith in drop-cons P h.entry 0 l ∙ ap (λ (i : ℕ). get_or P h.entry 0 ∷ drop i P) z

            go : (ss : List Symbol) → Next T g starts h.item ss → (Named P g r → Due g r ss h.place.0 (afters D.os) (drop h.entry P))
                → (Due g r ss h.place.0 (afters D.os) (drop h.entry P) → Named P g r) → Tracks T P r S' n g starts
            go ss (n-end q) f e = absurd (omega arith)
            go ss (n-leaf q st sp) f e = absurd (omega arith)
            go ss (n-node {s = s} {ss = us} q m st sp) f e =
                let A = alternatives-at B k st in
                let u : get_or P h.entry 0 < length (alts g s) = rw ae at (C.some y g starts (alts g s) (rw xe A)) in
                rw (E.spot, E.scratch)
                (record {
                  ss = alternative g s (get_or P h.entry 0);
                  os = record { entry = h.entry; link = h.inner; item = h.item; symbols = us } ∷ D.os;
                  spells = E.found.spells g starts (alts g s) A u;
                  opens = opens-more h.entry h.item us D.opens D.deep (omega arith) it sp;
                  deep = omega arith;
                  inside = omega arith;
                  within = D.within;
                  forth = λ t.
                      let I = into-node g r s (no-terminals k st) us h.place.0 (afters D.os) (drop h.entry P) (f t) in
                      let w = list-head P h.entry I.number I.others I.list in
                      let v : Due g r (alternative g s I.number) h.place.0 (us ∷ afters D.os) I.others = I.due in
                      subst (λ (i : ℕ). Due g r (alternative g s i) h.place.0 (us ∷ afters D.os) (drop (h.entry + 1) P)) (sym w.1)
                      (subst (λ (o : List ℕ). Due g r (alternative g s I.number) h.place.0 (us ∷ afters D.os) o) (sym w.2) v);
                  back = λ d. e (subst (λ (o : List ℕ). Due g r (s ∷ us) h.place.0 (afters D.os) o) (sym cons)
                      (node-back g r s us h.place.0 (get_or P h.entry 0) (afters D.os) (drop (h.entry + 1) P) u d));
                })

        pub moved-node : SomeTracks T P r S h → b ≡ true → Moved T P r S S' h n
        moved-node w y = record {
          tracks = λ g starts B D. node-on y g starts (item_in w) B D;
          goes = λ F e i G. rw (E.spot, E.scratch) (going-enter G k k₄ n.item E.found).1;
          falls =
              rw E.spot (falls ((length P - (h.entry + 1)) * (length P + 1) + (h.entry + 1)) ((length P - h.entry) * (length P + 1) + h.inner)
              (length T) n.item h.item (later (length P) h.entry (h.entry + 1) h.inner (h.entry + 1) (omega arith) (omega arith)
              (omega arith)));
        }

  -- 3. The end of a node.
  module _ (k : 5 ≤ kind_at T h.item) (some : 0 < h.inner) {S' : List ℕ} {n : Position} (L : Left S S' h n) where
    leave-on : (g : Grammar) (starts : Starts) → Table T g starts → Tracks T P r S h g starts → Tracks T P r S' n g starts
    leave-on g starts B D = go D.ss D.os (next_of D.spells) D.opens D.forth D.back
      where
        go : (ss : List Symbol) (os : List Open) → Next T g starts h.item ss → Opens T S g starts os h.inner
            → (Named P g r → Due g r ss h.place.0 (afters os) (drop h.entry P)) → (Due g r ss h.place.0 (afters os) (drop h.entry P) → Named P g r)
            → Tracks T P r S' n g starts
        go ss os (n-leaf q st sp) O f e = absurd (omega arith)
        go ss os (n-node q m st sp) O f e = absurd (omega arith)
        go ss os (n-end q) (none_open z) f e = absurd (omega arith)
        go ss os (n-end q) (some-open {o = o} {os = us} z l a b i sp O) f e =
            let j : h.inner - 1 ≡ o.entry = omega arith in
            let ue : get_or S (2 * (h.inner - 1)) 0 ≡ o.link = rw j a in
            let pe : get_or S (2 * (h.inner - 1) + 1) 0 ≡ o.item = rw j b in
            let ne : n ≡ spot (o.item + 1) h.entry h.place.0 o.link = L.spot ∙ rw (ue, pe) in
            rw (ne, L.scratch)
            (record {
              ss = o.symbols;
              os = us;
              spells = sp;
              opens = opens-set (opens-set O (2 * (h.inner - 1)) h.entry (omega arith)) (2 * (h.inner - 1) + 1) h.place.0 (omega arith);
              deep = omega (arith, D.deep);
              inside = D.inside;
              within = D.within;
              forth = λ t. out_of g r h.place.0 o.symbols (afters us) (drop h.entry P) (f t);
              back = λ d. e (out-back g r h.place.0 o.symbols (afters us) (drop h.entry P) d);
            })

    lower : SomeTracks T P r S h → get_or S (2 * (h.inner - 1)) 0 < h.inner
    lower w = go w.tracks.opens
      where
        go : {os : List Open} → Opens T S w.g w.starts os h.inner → get_or S (2 * (h.inner - 1)) 0 < h.inner
        go (none_open z) = absurd (omega arith)
        go (some-open {o = o} z l a b i sp O) = let j : h.inner - 1 ≡ o.entry = omega arith in let ue : get_or S (2 * (h.inner - 1)) 0 ≡ o.link = rw j a in omega arith

    pub moved-leave : SomeTracks T P r S h → Moved T P r S S' h n
    moved-leave w =
        let u = get_or S (2 * (h.inner - 1)) 0 in
        let p = get_or S (2 * (h.inner - 1) + 1) 0 in
        record {
          tracks = leave-on;
          goes = λ F e i G. rw (L.spot, L.scratch) (going-leave G k some u p refl refl).1;
          falls = rw L.spot (falls ((length P - h.entry) * (length P + 1) + u) ((length P - h.entry) * (length P + 1) + h.inner) (length T) (p + 1) h.item (omega (arith, lower w)));
        }

  -- 4. The end of all.
  module _ (o : Over T h) {g : Grammar} {starts : Starts} (D : Tracks T P r S h g starts) where
    over-due : (Named P g r → Due g r [] h.place.0 [] (drop h.entry P)) × (Due g r [] h.place.0 [] (drop h.entry P) → Named P g r)
    over-due = go D.ss D.os (next_of D.spells) D.opens D.forth D.back
      where
        go : (ss : List Symbol) (os : List Open) → Next T g starts h.item ss → Opens T S g starts os h.inner
            → (Named P g r → Due g r ss h.place.0 (afters os) (drop h.entry P)) → (Due g r ss h.place.0 (afters os) (drop h.entry P) → Named P g r)
            → (Named P g r → Due g r [] h.place.0 [] (drop h.entry P)) × (Due g r [] h.place.0 [] (drop h.entry P) → Named P g r)
        go ss os (n-leaf q st sp) O f e = absurd (omega (arith, o.0))
        go ss os (n-node q m st sp) O f e = absurd (omega (arith, o.0))
        go ss os (n-end q) (none_open z) f e = (f, e)
        go ss os (n-end q) (some-open z l a b i sp O) f e = absurd (omega (arith, o.1))

    pub over-named : length P ≤ h.entry → length r ≤ h.place.0 → Named P g r
    over-named l m =
        over-due.1 (end-at g r h.place.0 (drop h.entry P) (same h.place.0 (length r) m D.within) (empty (drop h.entry P) (length-drop h.entry P)))
      where
        same : (a b : ℕ) → b ≤ a → a ≤ b → a ≡ b
        same a b p q = omega arith

        empty : (q : List ℕ) → length q ≡ length P - h.entry → q ≡ []
        empty [] e = refl
        empty (x ∷ q) e = absurd (omega arith)

    pub over-list : h.entry < length P → Named P g r → ⊥
    over-list l m = let e = (at-end g r h.place.0 (drop h.entry P) (over-due.0 m)).1 in omega (arith, ap length e, length-drop h.entry P)

    pub over-record : h.place.0 < length r → Named P g r → ⊥
    over-record l m = omega (arith, (at-end g r h.place.0 (drop h.entry P) (over-due.0 m)).0)
