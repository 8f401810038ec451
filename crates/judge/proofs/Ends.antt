-- From the first number of a list to the walk, and from the walk's end to the answer.
use mathlib.Core.Path.{◌≡◌, refl, sym, ap, ◌∙◌, subst}
use mathlib.Core.Bool.{Bool, true, false}
use mathlib.Core.List.{List, [], ◌∷◌}
use Prim.Native.Nat.{ℕ, ◌+◌, ◌<◌}
use native.Mathlib.Omega.{arith}
use lib.ListN.{length, get_or, drop}
use lib.Seq.{drop-cons}
use Rattle.text.specs.Lists.{Text}
use Rattle.tree.specs.Tree.{Grammar}
use Rattle.plain.specs.Plain.{alts}
use Rattle.derive.specs.Derive.{Row, alternative, left_parse, root}
use Rattle.left_parse.specs.Noted.{Noted, Parsed, Room}
use Rattle.left_parse.specs.Steps.{Found, Counted}
use Rattle.left_parse.proofs.Walks.{spot, list-head}
use Rattle.left_parse.proofs.Scratch.{notes-of}
use Rattle.left_parse.proofs.Notes.{begins, going-begin, going_end}
use Rattle.judge.specs.Due.{Named, Due}
use Rattle.judge.specs.Tracks.{none_open, Table, Tracks, SomeTracks, Walked, Given, Asked, Judged}
use Rattle.judge.proofs.Due.{into-node, node-back, nothing-after, after_nothing}

-- the rules of a grammar whose items stand in the table
pub table_of : {T : List ℕ} {R : ℕ} {g : Grammar} (G : Given T R g) → Table T g G.items.starts
table_of G = record { rule = G.items.rule; sound = G.sound }

-- no list without numbers names a derivation
pub none-empty : {P : List ℕ} {g : Grammar} {r : Text} → length P ≡ 0 → Named P g r → ⊥
none-empty {P} {g} {r} z n =
    let I = into-node g r (root g) refl [] 0 [] P n in omega (arith, ap length I.list)

module _ {T : List ℕ} {R : ℕ} {P : List ℕ} {r : Text} {a : ℕ} (ae : a ≡ get_or P 0 0) (some : 0 < length P) {b : Bool} (C : Counted T R a b) where
  -- the root has no such alternative
  pub none-there : b ≡ false → (g : Grammar) → Given T R g → Named P g r → ⊥
  none-there y g G n =
      let I = into-node g r (root g) refl [] 0 [] P n in
      let h = ap (λ (q : List ℕ). get_or q 0 0) I.list in
      omega (arith, ae, I.below, C.none y g G.items.starts (alts g (root g)) (G.items.rule R (root g) G.items.begins))

  -- the walk begins before the root's children
  module _ (y : b ≡ true) (item : ℕ) (F : Found T R a item) {S : List ℕ} where
    pub begun : (g : Grammar) (G : Given T R g) → Tracks T P r S (spot item 1 0 0) g G.items.starts
    begun g G =
        let A = G.items.rule R (root g) G.items.begins in
        let u : get_or P 0 0 < length (alts g (root g)) = rw ae at (C.some y g G.items.starts (alts g (root g)) A) in
        let cons : P ≡ get_or P 0 0 ∷ drop 1 P = drop-cons P 0 0 some in
        let f : Found T R (get_or P 0 0) item = rw ae at F in
        record {
          ss = alternative g (root g) (get_or P 0 0);
          os = [];
          spells = f.spells g G.items.starts (alts g (root g)) A u;
          opens = none_open refl;
          deep = omega arith;
          inside = omega arith;
          within = omega arith;
          forth = λ n.
              let I = into-node g r (root g) refl [] 0 [] P n in
              let w = list-head P 0 I.number I.others I.list in
              let v : Due g r (alternative g (root g) I.number) 0 [] I.others = nothing-after g r (alternative g (root g) I.number) 0 I.others I.due in
              subst (λ (i : ℕ). Due g r (alternative g (root g) i) 0 [] (drop 1 P)) (sym w.1)
              (subst (λ (o : List ℕ). Due g r (alternative g (root g) I.number) 0 [] o) (sym w.2) v);
          back = λ d. subst (λ (o : List ℕ). Due g r (root g ∷ []) 0 [] o) (sym cons)
              (node-back g r (root g) [] 0 (get_or P 0 0) [] (drop 1 P) u (after_nothing g r (alternative g (root g) (get_or P 0 0)) 0 (drop 1 P) d));
        }

    pub some-begun : Asked T R P r S → SomeTracks T P r S (spot item 1 0 0)
    some-begun w = record { lent = w.lent; g = w.g; starts = w.given.items.starts; table = table_of w.given; tracks = begun w.g w.given }

    pub judged : {S' : List ℕ} {v : Bool} → Asked T R P r S → Walked T P r S S' (spot item 1 0 0) v → Judged T R P r S' v
    judged {S'} {v} w W = record {
      yes = λ e g G. W.yes e g G.items.starts (table_of G) (begun g G);
      no = λ e g G. W.no e g G.items.starts (table_of G) (begun g G);
      noted = λ e g u t p. noted e g u t p;
    }
      where
        room : Room T P S
        room = record { table = omega (arith, w.lent.table); list = w.lent.list; scratch = w.lent.room }

        noted : v ≡ true → (g : Grammar) (u : Text) (t : Row) → Parsed T R P g u t → Noted S' 0 t
        noted e g u t p =
            let f : Found T R (get_or P 0 0) item = rw ae at F in
            let B = begins {S = S} room p item f in
            let N = notes-of (get_or S 0 0) (get_or S 1 0) B.tree.children in
            let E = W.noted e N.list (1 + length (left_parse B.tree.children)) (length u) (going-begin room B N) in
            rw E.noted (going_end B E.scratch N E.goes E.over)

-- a list that is not judged by a walk
pub refused : {T : List ℕ} {R : ℕ} {P : List ℕ} {r : Text} {S : List ℕ} {b : Bool} → b ≡ false → ((g : Grammar) → Given T R g → Named P g r → ⊥) → Judged T R P r S b
refused {b = b} y n = record {
  yes = λ e. absurd (clash e);
  no = λ e g G. n g G;
  noted = λ e. absurd (clash e);
}
  where
    clash : b ≡ true → ⊥
    clash e = let f : true ≡ false = sym e ∙ y in let z : ◌≡◌ {A = ℕ} 0 1 = cc in omega arith
