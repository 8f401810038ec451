-- Where the walk stands in the chosen derivation, and that each step keeps it.
use mathlib.Core.Path.{◌≡◌, sym, ap, subst, ◌∙◌}
use mathlib.Core.Logic.{◌⊎◌, ◌↔◌}
use mathlib.Core.Bool.{Bool}
use mathlib.Core.List.{List, [], ◌∷◌, ◌++◌, append_assoc}
use Prim.Native.Nat.{ℕ, ◌+◌, ◌*◌, ◌<◌, ◌≤◌}
use native.Mathlib.Numerals.{add-one}
use native.Mathlib.Decide.{dec_lt}
use native.Mathlib.Omega.{arith}
use lib.Dec.{T}
use lib.ListN.{length, get_or, take, set, length-append, length-take, length-set}
use lib.Seq.{take-suc-set}
use Rattle.text.specs.Limits.{reading_numbers}
use Rattle.tree.specs.Tree.{Symbol}
use Rattle.plain.specs.Plain.{alts}
use Rattle.derive.specs.Derive.{Row, alternative, left_parse, root}
use Rattle.derive.specs.Chosen.{Picked, ends, Chosen}
use Rattle.derive.specs.Another.{AnotherWay}
use Rattle.derive.proofs.Rows.{forward}
use Rattle.derive.proofs.Heights.{way-row, node-least}
use Rattle.derive.proofs.Chosen.{chosen-derives}
use Rattle.derive.proofs.Picks.{PickedRow}
use Rattle.derive.proofs.Twice.{Twice, OtherNumber}
use Rattle.derive.proofs.Parts.{child-row, earliest}
use Rattle.chart.specs.Code.{after_dot}
use Rattle.chart.specs.Heights.{none, Says}
use Rattle.chart.proofs.Says.{says-low, low-says, says_some, some-says, rule-least, least-rule, rule-some, rule-small}
use Rattle.sparse.specs.Cells.{rule_of}
use Rattle.reading.specs.declared.Cursor.{Cursor}
use Rattle.candidates.specs.declared.Alternative.{Alternative}
use Rattle.splits.specs.Splits.{value_at}
use Rattle.candidates.specs.Candidates.{Tells, Line, SomeLow, FirstLow, OtherBy}
use Rattle.reading.specs.Walk.{entered, Entered, full, wrote}
use Rattle.reading.specs.Answer.{Finished}
use Rattle.candidates.proofs.Lines.{line-one}
use Rattle.reading.proofs.Tables.{Known, Placed, Started, value-says, RuleOf, alternative-placed}
use Rattle.reading.proofs.PendingRows.{marked, unmarked, tells-by, Pending, parses, AnyTwice, Stacked}

module _ {c M F H : List ℕ} {size n top first : ℕ} (K : Known c M F H size n top first) where
  abbrev t : Finished c M F H size n top first
  t = K.of

  -- a second derivation, for the chosen one
  abbrev pub Ambiguous : Row → Type 0
  Ambiguous w = AnotherWay t.g t.r w (root t.g ∷ []) 0 (length t.r)

  -- the walk over the derivation w stands at h
  pub record Going (out st : List ℕ) (h : Cursor) (w : Row) : Type 0 where
    pub row : Row
    pub sized : h.size ≡ size
    pub ended : h.n.0 ≡ n
    pub placed : Placed K h.p h.i.0 h.j.0
    pub small : h.k < none
    pub picked : PickedRow t.g t.r h.k (after_dot t.code.dots h.p) h.i.0 h.j.0 row
    pub pending : List (Pending K)
    pub stacked : Stacked K st h.depth h.j.0 pending
    pub list : take h.at out ++ (left_parse row ++ parses K pending) ≡ left_parse w
    pub marks : Ambiguous w ↔ (T h.mark ⊎ (Twice t.g t.r row (after_dot t.code.dots h.p) h.i.0 h.j.0 ⊎ AnyTwice K pending))
    pub written : h.depth < h.at
    pub most : h.at ≤ reading_numbers
    pub room : reading_numbers ≤ length out
    pub stack : 3 * reading_numbers ≤ length st

  -- the walk is before a node of the rule e
  pub record Before (e q : ℕ) (out st : List ℕ) (h : Cursor) (w : Row) : Type 0 where
    pub s : Symbol
    pub sized : h.size ≡ size
    pub ended : h.n.0 ≡ n
    pub rule : RuleOf K s e q
    pub started : Started K e h.i.0 h.j.0
    pub number : ℕ
    pub children : Row
    pub choice : Picked t.g t.r s h.i.0 h.j.0 number (ends children)
    pub inside : Chosen t.g t.r children (alternative t.g s number) h.i.0 h.j.0
    pub pending : List (Pending K)
    pub stacked : Stacked K st h.depth h.j.0 pending
    pub list : take h.at out ++ (number ∷ (left_parse children ++ parses K pending)) ≡ left_parse w
    pub marks : Ambiguous w ↔ (T h.mark ⊎ (OtherNumber t.g t.r s h.i.0 h.j.0 number
        ⊎ (Twice t.g t.r children (alternative t.g s number) h.i.0 h.j.0 ⊎ AnyTwice K pending)))
    pub written : h.depth ≤ h.at
    pub most : h.at ≤ reading_numbers
    pub room : reading_numbers ≤ length out
    pub stack : 3 * reading_numbers ≤ length st

  -- the walk goes on, or has met too many numbers
  pub data Stage (out st : List ℕ) (h : Cursor) (w : Row) : Type 0 where
    goes_on : Going out st h w → Stage out st h w
    too_long : h.at ≡ reading_numbers + 1 → reading_numbers < length (left_parse w) → reading_numbers ≤ length out → 3 * reading_numbers ≤ length st → Stage out st h w

  module _ {s : Symbol} {e q i j : ℕ} (u : RuleOf K s e q) (b : Started K e i j) (h : i ≤ j) where
    -- the value of an alternative
    alternative-value : {a : ℕ} {places : List ℕ} → Line c size q places → a < length (alts t.g s)
        → Says t.g t.r (alternative t.g s a) i j (value_at c M F n H (get_or places a 0) i j)
    alternative-value {a} {places} l k =
        let w = u.alternatives in
        let v = value-says K (get_or w.places a 0) i j h (alternative-placed K u b a k) in
        let v' = subst (λ (ss : List Symbol). Says t.g t.r ss i j (value_at c M F n H (get_or w.places a 0) i j)) (w.is a k) v in
        subst (λ (ps : List ℕ). Says t.g t.r (alternative t.g s a) i j (value_at c M F n H (get_or ps a 0) i j)) (line-one w.line l) v'

    places_count : {places : List ℕ} → Line c size q places → length places ≡ length (alts t.g s)
    places_count l = ap length (line-one l u.alternatives.line) ∙ u.alternatives.same

    -- a rule that derives the stretch has an alternative of its height
    pub some-low : (rule_of c M F n H e i j ≡ none → ⊥) → SomeLow c M F size n H q i j (rule_of c M F n H e i j)
    some-low f =
        let l = rule-least t.g t.r (u.says i j h b) f in
        let v = (node-least t.g t.r s i j (rule_of c M F n H e i j)).0 l in
        let y = way-row t.g t.r v.way in
        let x = low-says t.g t.r (alternative-value u.alternatives.line v.exists) y.derives in
        record {
          places = u.alternatives.places;
          line = u.alternatives.line;
          number = v.number;
          exists = omega (arith, u.alternatives.same, v.exists);
          low = omega (arith, y.high);
        }

    -- the alternative that is found is the chosen one
    record Met (number : ℕ) (es : List ℕ) (p : Picked t.g t.r s i j number es) (a : Alternative) : Type 0 where
      high : rule_of c M F n H e i j ≡ p.high
      small : rule_of c M F n H e i j < none
      same : a.number ≡ number
      placed : Placed K a.place i j
      is : after_dot t.code.dots a.place ≡ alternative t.g s number

    met : {number : ℕ} {es : List ℕ} (p : Picked t.g t.r s i j number es)
        → (a : Alternative) → FirstLow c M F size n H q i j (rule_of c M F n H e i j) a → Met number es p a
    met {number} p a f =
        let y = way-row t.g t.r p.way in
        let says = u.says i j h b in
        let high : rule_of c M F n H e i j ≡ p.high = least-rule t.g t.r says p.lowest in
        let small = rule-small t.g t.r says (rule-some t.g t.r says p.lowest.derives) in
        let own = low-says t.g t.r (alternative-value f.line p.exists) y.derives in
        let la : a.number < length (alts t.g s) = omega (arith, places_count f.line, f.exists) in
        let low = says-low t.g t.r (rule_of c M F n H e i j) (alternative-value {a = a.number} f.line la) (rw f.is f.low) small in
        let late : number ≤ a.number = earliest t.g t.r p la low.derives (omega (arith, low.low)) in
        let early : a.number ≤ number = elim (dec_lt number a.number) as (λ _. a.number ≤ number) [ yes q ↦ absurd (omega (arith, f.first number q, y.high)) | no q ↦ omega arith ] in
        let same : a.number ≡ number = omega arith in
        let place : get_or u.alternatives.places number 0 ≡ a.place = (λ ι. get_or (line-one u.alternatives.line f.line ι) (sym same ι) 0) ∙ f.is in
        record {
          high = high;
          small = small;
          same = same;
          placed = subst (λ (z : ℕ). Placed K z i j) place (alternative-placed K u b number p.exists);
          is = ap (λ (z : ℕ). after_dot t.code.dots z) (sym place) ∙ u.alternatives.is number p.exists;
        }

    -- other alternatives, in the tables and in derivations
    other-number : {a : ℕ} → OtherBy c M F size n H q i j a → OtherNumber t.g t.r s i j a
    other-number o =
        let k : o.number < length (alts t.g s) = omega (arith, places_count o.line, o.exists) in
        let v = says_some t.g t.r (alternative-value {a = o.number} o.line k) o.derives in
        record { number = o.number; exists = k; other = o.other; row = v.row; derives = v.derives }

    other-by : {a : ℕ} → OtherNumber t.g t.r s i j a → OtherBy c M F size n H q i j a
    other-by o = record {
      places = u.alternatives.places;
      line = u.alternatives.line;
      number = o.number;
      exists = omega (arith, u.alternatives.same, o.exists);
      other = o.other;
      derives = some-says t.g t.r (alternative-value u.alternatives.line o.exists) o.derives;
    }

  -- a node is entered
  number-list : (out : List ℕ) (at a : ℕ) (xs ys : List ℕ) → at < length out → take at out ++ (a ∷ xs) ≡ ys → take (at + 1) (set out at a) ++ xs ≡ ys
  number-list out at a xs ys h e = rw (add-one at, take-suc-set out at a h, append_assoc (take at out) (a ∷ []) xs) e

  number-over : (out xs : List ℕ) (at a : ℕ) (ys : List ℕ) → at ≤ length out → take at out ++ (a ∷ xs) ≡ ys → at < length ys
  number-over out xs at a ys h e = omega (arith, ap length e, length-append (take at out) (a ∷ xs), length-take at out)

  enter-wrote : {e q : ℕ} {out st : List ℕ} {h : Cursor} {w : Row} (B : Before e q out st h w) (a : Alternative) (b : Bool) → h.at < reading_numbers
      → FirstLow c M F size n H q h.i.0 h.j.0 (rule_of c M F n H e h.i.0 h.j.0) a
      → Tells b (OtherBy c M F size n H q h.i.0 h.j.0 a.number) → Going (set out h.at a.number) st (entered h a (rule_of c M F n H e h.i.0 h.j.0) b) w
  enter-wrote {e} {q} {out} {st} {h} {w} B a b l f o =
      let order = forward t.g t.r (chosen-derives t.g t.r B.inside) in
      let m = met B.rule B.started order B.choice a f in
      let row = child-row t.g t.r B.choice B.inside in
      let row' = subst (λ (ss : List Symbol). PickedRow t.g t.r B.choice.high ss h.i.0 h.j.0 B.children) (sym m.is) row in
      let o' = subst (λ (z : ℕ). Tells b (OtherBy c M F size n H q h.i.0 h.j.0 z)) m.same o in
      let told = tells-by o' (other-number B.rule B.started order) (other-by B.rule B.started order) in
      let marks = subst
      (λ (ss : List Symbol). Ambiguous w ↔
      (T h.mark ⊎
      (OtherNumber t.g t.r B.s h.i.0 h.j.0 B.number ⊎
      (Twice t.g t.r B.children ss h.i.0 h.j.0 ⊎ AnyTwice K B.pending))))
      (sym m.is) B.marks in
      record {
        row = B.children;
        sized = B.sized;
        ended = B.ended;
        placed = m.placed;
        small = m.small;
        picked = subst (λ (z : ℕ). PickedRow t.g t.r z (after_dot t.code.dots a.place) h.i.0 h.j.0 B.children) (sym m.high) row';
        pending = B.pending;
        stacked = B.stacked;
        list = number-list out h.at a.number (left_parse B.children ++ parses K B.pending) (left_parse w) (omega (arith, B.room)) (rw m.same B.list);
        marks = (marked h.mark b told marks.0, unmarked h.mark b told marks.1);
        written = omega (arith, B.written);
        most = omega arith;
        room = rw (length-set out h.at a.number) B.room;
        stack = B.stack;
      }

  pub enter-stage : {e q : ℕ} {out out' st : List ℕ} {h r : Cursor} {w : Row} → Before e q out st h w → Entered c M F size n H e q out out' h r → Stage out' st r w
  enter-stage {out = out} {h = h} {w = w} B (full z o p a d) =
      rw o (too_long a (omega (arith, number-over out (left_parse B.children ++ parses K B.pending) h.at B.number (left_parse w) (omega (arith, B.room)) B.list)) B.room B.stack)
  enter-stage B (wrote a b l f o x y) = rw (x, y) (goes_on (enter-wrote B a b l f o))
