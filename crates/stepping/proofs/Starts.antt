-- The start of a read: its answer, the cleared table, and that grammar and record fit the state.
use mathlib.Core.Bool.{Bool, true, false, ◌||◌}
use mathlib.Core.Path.{◌≡◌, refl, sym, ap, subst, ◌∙◌}
use mathlib.Core.Logic.{◌⊎◌, inl, inr, ⊎_elim}
use mathlib.Core.List.{List, [], ◌∷◌}
use Prim.Native.Nat.{ℕ, zero, suc, ◌+◌, ◌*◌, ◌<◌, ◌≤◌}
use native.Mathlib.Decide.{dec_lt}
use native.Mathlib.Omega.{arith}
use lib.Dec.{ltb, eqb}
use borrow.Author.Tests.{ltb-false}
use lib.ListN.{length, get_or, take, length-append}
use Rattle.text.specs.Limits.{grammar_bytes, grammar_table, record_chars}
use Rattle.text.specs.Lists.{Text, pick}
use Rattle.std.specs.Prelude.{Err}
use Rattle.text.specs.Utf8.{utf8, utf8s}
use Rattle.text.specs.declared.Diagnostic.{Diagnostic}
use Rattle.text.proofs.Decode.{decode-sound}
use Rattle.tree.specs.Tree.{Symbol, Grammar}
use Rattle.plain.specs.Plain.{alts, weight}
use Rattle.layout.specs.Layout.{layout, dot_count, starts_from, starts_of, dots_of, name_at}
use Rattle.layout.proofs.Spots.{name-ends}
use Rattle.derive.specs.Derive.{Row, Derives, d-leaf, d-node, d-end, height, root}
use Rattle.items.specs.Items.{Starts, Among, Alternatives, al-last, al-more}
use Rattle.chart.specs.Heights.{stretches, cell_at, none, Clear}
use Rattle.heights.specs.Table.{cell_of}
use Rattle.heights.proofs.Cells.{in-room}
use Rattle.rules.specs.Ready.{Ready}
use Rattle.rounds.specs.After.{rule_symbol, DotAfter, dot-none, RuleAfter, rule-none, After}
use Rattle.answer.specs.Answer.{Topmost, Job, of_job, main_need, table_need, grammar_lines, input_lines, job_notes, Placed}
use Rattle.answer.specs.Compute.{first_of, grammar_tests, need_tests, job_values}
use Rattle.answer.proofs.Stages.{stage-1, stage-lent}
use Rattle.answer.proofs.Noted.{keeps-job, keeps_placed}
use Rattle.opening.specs.declared.Start.{Start}
use Rattle.opening.specs.Stages.{Started, Begins, NotBegun}
use Rattle.exported.specs.Exported.{shown, done, refusal_of}
use Rattle.resume.specs.Resume as calls
use Rattle.resume.proofs.Lines.{tops, version-known, no-mark, of-job, opened_of}

-- a character has at most four bytes
few-of : (a b c : Bool) (x y z w : List ℕ) → length x ≤ 4 → length y ≤ 4 → length z ≤ 4 → length w ≤ 4 → length (pick a x (pick b y (pick c z w))) ≤ 4
few-of true b c x y z w p q r s = p
few-of false true c x y z w p q r s = q
few-of false false true x y z w p q r s = r
few-of false false false x y z w p q r s = s

few_bytes : (c : ℕ) → length (utf8 c) ≤ 4
unfolding utf8
few_bytes c = few-of (ltb c 0x80) (ltb c 0x800) (ltb c 0x10000) _ _ _ _ (omega arith) (omega arith) (omega arith) (omega arith)

bytes_most : (cs : Text) → length (utf8s cs) ≤ 4 * length cs
unfolding utf8s
bytes_most [] = omega arith
bytes_most (c ∷ cs) = omega (arith, length-append (utf8 c) (utf8s cs), few_bytes c, bytes_most cs)

module _ (j : Job) {T new : List ℕ} {s : Start} (w : Started j T new s) where
  pub input-fits : length j.input ≤ 800
  input-fits =
      let u = decode-sound j.input w.input.chars w.input.decoded in
      let e : length j.input ≡ length (utf8s w.input.chars) = ap length u.spelt in
      omega (arith, bytes_most w.input.chars, w.input.short)

  pub grammar-fits : length j.grammar ≤ 4096
  grammar-fits = elim (dec_lt grammar_bytes (length j.grammar)) as (λ _. length j.grammar ≤ 4096) [
    | no l ↦ omega arith
    | yes l ↦ absurd (let e : ◌≡◌ {A = ℕ} 1 0 = sym (stage-1 j.grammar [] l) ∙ w.grammar.first [] in omega arith)
  ]

-- rules have alternatives
some-alts : {Tb : List ℕ} {g : Grammar} {S : Starts} {x : ℕ} {ts : List (List Symbol)} → Alternatives Tb g S x ts → 0 < length ts
some-alts (al-last a b) = omega arith
some-alts (al-more a b c) = omega arith

tall : {g : Grammar} {r : Text} {t : Row} {s : Symbol} {i j : ℕ} → Derives g r t (s ∷ []) i j → 0 < length (alts g s) → 0 < height t
tall (d-leaf f d-end) l = absurd (omega arith)
tall (d-node la c d-end) l = omega arith

among-at : (g : Grammar) (d : Symbol) (n : ℕ) (ss : List Symbol) (q : ℕ) → q < length ss → Among (n + dot_count g (take q ss)) (get_or ss q d) (starts_from g n ss)
among-at g d n [] q l = absurd (omega arith)
among-at g d n (s ∷ ss) zero l = inl (let e : n ≡ n + 0 = omega arith in e, refl)
among-at g d n (s ∷ ss) (suc q) l =
    let e : n + weight (alts g s) + dot_count g (take q ss) ≡ n + (weight (alts g s) + dot_count g (take q ss)) = omega arith in
    inr (subst (λ (x : ℕ). Among x (get_or ss q d) (starts_from g (n + weight (alts g s)) ss)) e (among-at g d (n + weight (alts g s)) ss q (omega arith)))

-- a clear table is that of no round
module _ {Tb : List ℕ} {g : Grammar} {size first : ℕ} (ready : Ready Tb g size first) (r : Text) (M : List ℕ) (short : length r ≤ record_chars) (small : size ≤ 512)
    (room : size * stretches (length r) ≤ length M) (clear : Clear (size * stretches (length r)) M) where
  cell-none : (p i j : ℕ) → p < size → i ≤ j → j ≤ length r → cell_of (length r) M p i j ≡ none
  cell-none p i j hp hi hj = clear (cell_at (length r) p i j) (in-room {size = size} (record { few = small; short = short; room = omega arith }) (record { inside = hp; order = hi; stop = hj }))

  module _ (q : ℕ) (hq : q < length (layout g)) where
    there : Among (0 + dot_count g (take q (layout g))) (rule_symbol g q) ready.built.items.starts
    unfolding starts_of
    there = ready.built.blocks.laid ready.simple (0 + dot_count g (take q (layout g))) (rule_symbol g q) (among-at g (root g) 0 (layout g) q hq)

    some : 0 < length (alts g (rule_symbol g q))
    some = some-alts (ready.built.items.rule (0 + dot_count g (take q (layout g))) (rule_symbol g q) there)

    weighs : (ts : List (List Symbol)) → 0 < length ts → 0 < weight ts
    weighs [] l = absurd (omega arith)
    weighs (t ∷ ts) l = omega arith

    name-inside : name_at g q < size
    name-inside =
        omega (arith, name-ends g (root g) q hq (weighs (alts g (rule_symbol g q)) some), ready.built.items.below (0 + dot_count g (take q (layout g))) (rule_symbol g q) there, ready.count)

  pub after-clear : After g r 0 M
  after-clear = record {
    room = rw (sym ready.count) room;
    dot = λ p i j hp hi hj z. subst (DotAfter g r (get_or (dots_of g) p []) i j 0) (sym (cell-none p i j (omega (arith, ready.count)) hi hj)) (dot-none (λ u d. omega arith));
    rule = λ q i j hq hi hj. subst (RuleAfter g r (rule_symbol g q) i j 0) (sym (cell-none (name_at g q) i j (name-inside q hq) hi hj)) (rule-none (λ u d. tall d (some q hq)));
    ends = λ p i j hp hi hj z l. absurd (omega (arith, cell-none p i j (omega (arith, ready.count)) hi hj));
  }

or_left : (a b : Bool) → (a || b) ≡ false → a ≡ false
or_left true b e = e
or_left false b e = refl

-- the answer of a start
module _ (j : Job) (Tb new : List ℕ) where
  no-fault : (n : ℕ) → (n ≤ 15) ⊎ (n ≡ 24) → n ≡ 16 → ⊥
  no-fault n (inl l) e = omega arith
  no-fault n (inr l) e = omega arith

  stopped : (d : Diagnostic) → NotBegun main_need j d → calls.Starts j (shown (refusal_of (record { why = d; mismatch = false })))
  stopped d w =
      let t : Topmost (grammar_lines j.grammar (input_lines j [])) d.number = subst (Topmost (grammar_lines j.grammar (input_lines j []))) (w.is []) (tops j) in
      record {
        number = t;
        answered = λ x. absurd (w.some x);
        refused = λ _. (refl, refl, refl);
        version = (λ q. absurd (no-mark (eqb d.number 16) q), λ x. absurd (⊎_elim w.some (no-fault d.number w.early) x.0));
        places = subst (Placed (job_notes j) d.number) (sym w.places)
            (keeps_placed d.number (job_notes j) (job_values j) (keeps-job main_need j [] tt d.number t (λ e. absurd (no-fault d.number w.early e))));
      }

  pub start-refused : (d : Diagnostic) → Begins j Tb new (Err d) → calls.Starts j (shown (refusal_of (record { why = d; mismatch = false }))) × (d.number ≡ 0 → ⊥)
  start-refused d s = (stopped d s, s.some)

  pub start-done : (s : Start) → Started j Tb new s → calls.Starts j (shown (done 0 false s.rules.mismatch))
  start-done s w =
      let e : first_of (grammar_tests j.grammar (need_tests main_need j [])) ≡ 0 =
      w.grammar.first (need_tests main_need j [])
      ∙ stage-lent main_need j [] w.input.chars w.input.decoded w.input.within w.input.short w.grammar.tree w.grammar.is w.enough in
      let t : Topmost (grammar_lines j.grammar (input_lines j [])) 0 = subst (Topmost (grammar_lines j.grammar (input_lines j []))) e (tops j) in
      record {
        number = t;
        answered = λ _. ([], (refl, refl), refl, refl);
        refused = λ z. absurd (z refl);
        version = version-known j.grammar s.rules.mismatch w.grammar.version;
        places = keeps_placed 0 (job_notes j) (job_values j) (keeps-job main_need j [] tt 0 t (λ e. absurd (omega arith)));
      }

  -- the main table has room
  pub start-room : (s : Start) → Started j Tb new s → (k : ℕ) → k ≡ table_need s.rules.size s.chars.0 → k ≤ j.main_table
  start-room s w k e =
      let chars = w.input.chars in
      let n : k ≡ s.rules.size * stretches (length chars) = e ∙ ap (table_need s.rules.size) w.input.count in
      let y : s.rules.size * stretches (length chars) ≡ main_need w.grammar.tree chars = ap (λ (x : ℕ). x * stretches (length chars)) w.grammar.sized in
      omega (arith, ltb-false j.main_table (main_need w.grammar.tree chars) (or_left (ltb j.main_table (main_need w.grammar.tree chars)) (ltb j.second_table grammar_table) w.enough))

  -- the table that a start leaves
  pub start-table : (s : Start) → Started j Tb new s → (M : List ℕ) → length M ≡ j.main_table → (k : ℕ) → k ≡ table_need s.rules.size s.chars.0 → Clear k M → of_job j (λ g r. After g r 0 M)
  unfolding opened_of
  start-table s w M l k e z =
      let chars = w.input.chars in
      let n : k ≡ s.rules.size * stretches (length chars) = e ∙ ap (table_need s.rules.size) w.input.count in
      of-job j (opened_of j w) (λ g r. After g r 0 M)
      (after-clear w.grammar.ready chars M w.input.short (omega (arith, w.grammar.sized, w.grammar.small)) (omega (arith, start-room s w k e)) (subst (λ (x : ℕ). Clear x M) n z))
