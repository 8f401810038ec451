-- What the loop of the walk keeps, for all finished tables.
use mathlib.Core.Path.{◌≡◌}
use mathlib.Core.List.{List}
use Prim.Native.Nat.{ℕ, ◌*◌, ◌<◌, ◌≤◌}
use lib.ListN.{length}
use Rattle.text.specs.Limits.{most_size, reading_numbers}
use Rattle.derive.specs.Derive.{Row}
use Rattle.chart.specs.Heights.{none}
use Rattle.sparse.specs.Cells.{rule_of}
use Rattle.reading.specs.declared.Cursor.{Cursor}
use Rattle.reading.specs.Walk.{Entered, Stepped, CanStep, Over}
use Rattle.reading.specs.Answer.{Finished, IsReading, IsLong}
use Rattle.splits.proofs.Values.{Small}
use Rattle.reading.proofs.Tables.{Known}
use Rattle.reading.proofs.Walks.{Stage, enter-stage}
use Rattle.reading.proofs.Course.{weight, start, going, Root, rooted, begin, can-step, step-stage, step_falls, finish, finish-long}

module _ {c M F H : List ℕ} {size n top first : ℕ} (t : Finished c M F H size n top first) where
  abbrev pub with-small : Small F H → Known c M F H size n top first
  with-small s = record { of = t; small = s }

  -- the walk over the chosen derivation has come to h
  pub record Underway (out st : List ℕ) (h : Cursor) : Type 0 where
    pub small : Small F H
    pub tree : Row
    pub root : Root (with-small small) tree
    pub stage : Stage (with-small small) out st h tree

  pub set_out : {out out' st : List ℕ} {r : Cursor} → Small F H → (rule_of c M F n H top 0 n ≡ none → ⊥) → reading_numbers ≤ length out → 3 * reading_numbers ≤ length st
      → Entered c M F size n H top first out out' (start size n first n 0) r → Underway out' st r
  set_out s f a b e =
      let w = rooted (with-small s) f in
      record { small = s; tree = w.0; root = w.1; stage = enter-stage (with-small s) (begin (with-small s) a b w.1) e }

  module _ {out st : List ℕ} {h : Cursor} (u : Underway out st h) where
    module _ (l : h.at ≤ reading_numbers) where
      pub place_inside : h.p < size
      place_inside = (going (with-small u.small) u.stage l).placed.inside

      module _ (o : Over c h → ⊥) where
        pub may-step : CanStep c M F h.size h.n.0 H out st h
        may-step = can-step (with-small u.small) (going (with-small u.small) u.stage l) o

        module _ {out' st' : List ℕ} {r : Cursor} (s : Stepped c M F h.size h.n.0 H out out' st st' h r) where
          pub falls : weight most_size r < weight most_size h
          falls = step_falls (with-small u.small) (going (with-small u.small) u.stage l) o s

          pub go_on : Underway out' st' r
          go_on = record {
            small = u.small;
            tree = u.tree;
            root = u.root;
            stage = step-stage (with-small u.small) (going (with-small u.small) u.stage l) o s;
          }

    pub arrive : Over c h → h.at ≤ reading_numbers → IsReading t.g t.r out h.at h.mark
    arrive = finish (with-small u.small) u.stage u.root

    pub arrive-long : reading_numbers < h.at → IsLong t.g t.r
    arrive-long = finish-long (with-small u.small) u.stage u.root
