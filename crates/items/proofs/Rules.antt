-- The machine runs over a grammar's rules.
use mathlib.Core.Bool.{false}
use mathlib.Core.List.{List, [], ◌∷◌, ◌++◌, append_assoc, append-nil}
use mathlib.Core.Logic.{inl, inr, ⊎_elim}
use mathlib.Core.Path.{◌≡◌, refl, sym, ap, ◌∙◌, subst}
use Prim.Native.Nat.{ℕ, ◌+◌, ◌*◌, ◌<◌, ◌≤◌}
use native.Mathlib.Omega.{arith}
use lib.ListN.{length, length-append}
use Rattle.text.specs.Lists.{Text, concat_map}
use Rattle.text.proofs.Lists.{concat-append}
use Rattle.text.proofs.Tests.{split}
use Rattle.tree.specs.Tree.{Mark, unmarked, Symbol, nonterminal, Rule, Prolog, no-prolog, version, Grammar, rules}
use Rattle.tree.specs.Tokens.{Token, rule-head, rule_end, version-is, encode, numbers, body_tokens, rule_tokens, prolog_tokens, grammar_tokens}
use Rattle.plain.specs.Written.{within_body}
use Rattle.plain.specs.Static.{undefined}
use Rattle.plain.specs.Plain.{alternatives, makes, weight, size}
use Rattle.layout.specs.Layout.{laid_body, laid_rule}
use Rattle.layout.proofs.Sums.{Own}
use Rattle.tokens.specs.Proper.{ProperBody, ProperRules}
use Rattle.tokens.specs.Lengths.{first_number}
use Rattle.measure.specs.Costs.{costs, cost_of, repeat_cost_of}
use Rattle.tokens.proofs.Walk.{by-mark}
use Rattle.measure.proofs.Sizes.{costs-append, size-costs}
use Rattle.items.specs.declared.Action.TheVariants.{Skip, Open, Finish}
use Rattle.items.specs.Items.{Starts, Among, Alternatives}
use Rattle.repetitions.specs.Blocks.{entry, nums}
use Rattle.items.specs.Machine.{Abs, Act, action_of, late_action_of}
use Rattle.items.specs.Scanned.{At, Listed, l-none, l-rule, Begins, Bodies}
use Rattle.items.specs.Final.{Final, PlacedAll}
use Rattle.items.proofs.Reps.{act-as}
use Rattle.items.proofs.Blocks.{rows-alternatives, rows-length, placed-append, Under, Sound, sound_none, sound-then, alternatives-last}
use Rattle.items.proofs.Uses.{rule-spelt}
use Rattle.items.proofs.Runs.{Trace, t-done, t-step, trace-append, at_left, at_right, Ok, shorter}
use Rattle.items.proofs.Adds.{Adds, written_in, adds_none, adds-rule, adds-rules}
use Rattle.items.proofs.Lays.{Lays, lays-none, lays-then, begins-left, begins-right, own_split}
use Rattle.items.proofs.Entries.{KnownAll, known-append, Bod, three-more, ok-pushed, skip-run}
use Rattle.items.proofs.Repetitions.{opened}
use Rattle.items.proofs.Trees.{body_run, at_head}

-- rules leave nothing on the stack
pub record Ruled (g : Grammar) (K : List ℕ) (us : List Token) (rs : List Rule) (at : ℕ) (a : Abs) (S : Starts) : Type 0 where
  pub after : Abs
  pub starts : Starts
  pub firsts : List ℕ
  pub trace : Trace us at a after
  pub ok : Ok K after
  pub more : List ℕ
  pub list : after.list ≡ a.list ++ more
  pub grew : a.items ≤ after.items
  pub stack : after.stack ≡ a.stack
  pub depth : after.depth ≡ a.depth
  pub rules : after.rules + a.items ≤ a.rules + after.items
  pub table : List ℕ
  pub rows : after.rows ≡ a.rows ++ table
  pub listed : Listed K table rs firsts
  pub later : (x : ℕ) (s : Symbol) → Among x s S → Among x s starts
  pub cost : after.items + after.depth ≡ a.items + a.depth + costs us
  pub adds : Adds S starts (concat_map makes (written_in rs))
  pub lays : Own (g.root ∷ g.others) rs → Lays g (λ x s. Begins x s starts rs firsts) a.items after.items (concat_map laid_rule rs)
  pub sound : (F : List ℕ) (T : Starts) → Final g K after.list starts F T → Sound F g T a.items after.items S starts rs firsts × Bodies F g T after.items rs firsts

head-action : (m : Mark) (n : Text) → action_of (first_number (rule-head m n)) ≡ Open
unfolding action_of
head-action m n = by-mark (λ k. action_of (20 + k) ≡ Open) refl refl refl refl m

end-action : action_of (first_number rule_end) ≡ Finish
unfolding action_of late_action_of
end-action = refl

version-action : (k : Text) → action_of (first_number (version-is k)) ≡ Skip
unfolding action_of late_action_of
version-action k = refl

prolog-cost : (p : Prolog) → costs (prolog_tokens p) ≡ 0
unfolding cost_of repeat_cost_of
prolog-cost no-prolog = refl
prolog-cost (version k) = refl

rule-cost : (r : Rule) → costs (rule_tokens r) ≡ 1 + costs (body_tokens r.body)
unfolding cost_of repeat_cost_of
rule-cost r = omega (arith, costs-append (body_tokens r.body) (rule_end ∷ []), by-mark (λ k. cost_of (20 + k) ≡ 1) refl refl refl refl r.mark)

abbrev after_rule : Abs → Abs → ℕ → List ℕ → ℕ → Abs
after_rule a b at body m =
    record {
      tokens = b.tokens;
      list = b.list ++ (body ++ nums (entry 6 0 0));
      items = b.items + (m + 1);
      rows = b.rows ++ (at ∷ b.items ∷ []);
      rules = b.rules + 1;
      stack = a.stack;
      depth = b.base;
      base = a.base;
    }

bodies-more : (g : Grammar) (F : List ℕ) (T : Starts) (n m : ℕ) (rs : List Rule) (xs : List ℕ) → n ≤ m → Bodies F g T n rs xs → Bodies F g T m rs xs
bodies-more g F T n m [] xs h b = tt
bodies-more g F T n m (r ∷ rs) [] h b = absurd b
bodies-more g F T n m (r ∷ rs) (x ∷ xs) h b = ((b.0.0, (let z = b.0.1 in omega arith)), bodies-more g F T n m rs xs h b.1)

bodies-append : (g : Grammar) (K F : List ℕ) (T : Starts) (n : ℕ) {ys : List ℕ} {rs : List Rule} {xs : List ℕ} (rs' : List Rule)
    (xs' : List ℕ) → Listed K ys rs xs → Bodies F g T n rs xs → Bodies F g T n rs' xs' → Bodies F g T n (rs ++ rs') (xs ++ xs')
bodies-append g K F T n rs' xs' l-none b c = c
bodies-append g K F T n rs' xs' (l-rule w l) b c = (b.0, bodies-append g K F T n rs' xs' l b.1 c)

listed-append : {K ys ys' : List ℕ} {rs rs' : List Rule} {xs xs' : List ℕ} → Listed K ys rs xs → Listed K ys' rs' xs' → Listed K (ys ++ ys') (rs ++ rs') (xs ++ xs')
listed-append l-none m = m
listed-append (l-rule w l) m = l-rule w (listed-append l m)

listed-even : {K ys : List ℕ} {rs : List Rule} {xs : List ℕ} → Listed K ys rs xs → length rs ≡ length xs
listed-even l-none = refl
listed-even (l-rule w l) = omega (arith, listed-even l)

-- one rule that begins after all others
one-under : {n m : ℕ} (S : Starts) (r : Rule) → n < m → Under n S → (x : ℕ) (s : Symbol) → Begins x s S (r ∷ []) (n ∷ []) → x < m
one-under S r h u x s (inl a) = omega (arith, u x s a)
one-under S r h u x s (inr (inl e)) = omega (arith, e.0)
one-under S r h u x s (inr (inr b)) = absurd b

one-new : {n : ℕ} (S : Starts) (r : Rule) → Under n S → (x : ℕ) (s : Symbol) → n ≤ x → Begins x s S (r ∷ []) (n ∷ []) → nonterminal unmarked r.name ≡ s
one-new S r u x s l (inl a) = absurd (omega (arith, u x s a))
one-new S r u x s l (inr (inl e)) = e.1
one-new S r u x s l (inr (inr b)) = absurd b

one_single : {n : ℕ} (S : Starts) (r : Rule) → Under n S → (x : ℕ) (s t : Symbol) → n ≤ x → Begins x s S (r ∷ []) (n ∷ []) → Begins x t S (r ∷ []) (n ∷ []) → s ≡ t
one_single S r u x s t l a b = sym (one-new S r u x s l a) ∙ one-new S r u x t l b

module _ {g : Grammar} {K : List ℕ} where
  -- a rule stands after what its body makes
  rule-lays : (r : Rule) {at : ℕ} {a : Abs} {S : Starts} → Own (rules g) (r ∷ []) → (q : Bod g K r.body at a S)
      → Lays g (λ x s. Begins x s q.starts (r ∷ []) (q.after.items ∷ [])) a.items (q.after.items + (q.count + 1)) (concat_map laid_rule (r ∷ []))
  rule-lays r {a = a} own q =
      subst (Lays g (λ x s. Begins x s q.starts (r ∷ []) (q.after.items ∷ [])) a.items (q.after.items + (q.count + 1))) (sym (append-nil (laid_rule r)))
      (lays-then (laid_body r.body) (nonterminal unmarked r.name ∷ []) (λ x s m. inl m) q.lays (record {
        next = omega (arith, q.weighs, ap weight own.0);
        begins = λ x s m. inr m;
      }))

  rules-lay : {us vs : List Token} {rs rs' : List Rule} {at bt : ℕ} {a : Abs} {S : Starts} (q : Ruled g K us rs at a S) (r : Ruled g K vs rs' bt q.after q.starts)
      → Own (rules g) (rs ++ rs') → Lays g (λ x s. Begins x s r.starts (rs ++ rs') (q.firsts ++ r.firsts)) a.items r.after.items (concat_map laid_rule (rs ++ rs'))
  rules-lay {rs = rs} {rs' = rs'} {a = a} q r own =
      let o = own_split (rules g) rs rs' own in
      subst (Lays g (λ x s. Begins x s r.starts (rs ++ rs') (q.firsts ++ r.firsts)) a.items r.after.items) (sym (concat-append laid_rule rs rs'))
      (lays-then (concat_map laid_rule rs) (concat_map laid_rule rs') (λ x s m. begins-left x s q.starts r.starts rs rs' q.firsts r.firsts (r.later x s) m) (q.lays o.0)
      (record {
        next = (r.lays o.1).next;
        begins = λ x s m. begins-right x s r.starts rs rs' q.firsts r.firsts (listed-even q.listed) ((r.lays o.1).begins x s m);
      }))

  rule-run : (r : Rule) → ProperBody r.body → KnownAll g (within_body r.body) → (at : ℕ) (a : Abs) (S : Starts)
      → At K at (rule_tokens r) → Ok K a → a.rules ≤ a.items → a.items + a.depth + costs (rule_tokens r) ≤ 512
      → Ruled g K (rule_tokens r) (r ∷ []) at a S
  rule-run r p n at a S w o few h =
      let len = length (numbers (rule-head r.mark r.name)) in
      let pl = at + length (numbers (rule-head r.mark r.name)) in
      let oko = ok-pushed (entry 0 a.base at) a.depth o (omega (arith, rule-cost r)) o.fit.depth in
      let q = body_run {g = g} r.body p n (at + length (numbers (rule-head r.mark r.name))) (opened at a) S
      (at_left (body_tokens r.body) (rule_end ∷ [])
      (at_head (rule-head r.mark r.name) (body_tokens r.body ++ rule_end ∷ []) w)) oko (omega (arith, rule-cost r)) in
      let b = q.after in
      let c = after_rule a q.after at q.entries q.count in
      let based : q.after.base ≡ a.depth = q.run.base in
      let wide : length (q.entries ++ nums (entry 6 0 0)) ≡ 3 * (q.count + 1) = three-more q.entries (entry 6 0 0) q.count q.wide in
      let ruled : q.after.rules ≡ a.rules = q.run.rules in
      let okc : Ok K (after_rule a q.after at q.entries q.count) = record {
        tokens = q.run.ok.tokens;
        list = length-append q.after.list (q.entries ++ nums (entry 6 0 0))
            ∙ (let z : length q.after.list + length (q.entries ++ nums (entry 6 0 0)) ≡ 3 *
            (q.after.items + (q.count + 1)) = omega (arith, q.run.ok.list) in z);
        stack = o.stack ∙ ap (λ (k : ℕ). 3 * k) (sym based);
        fit =
            record {
              items = omega (arith, q.cost, q.depth, rule-cost r);
              rules = omega (arith, q.cost, q.depth, q.run.grew, rule-cost r);
              depth = omega (arith, o.fit.depth);
              base = o.fit.base;
            };
      } in
      let act : Act Finish (at + length (numbers (rule-head r.mark r.name)) + length (encode (body_tokens r.body))) q.after (after_rule a q.after at q.entries q.count) = record {
        block =
            record {
              under = a.stack;
              old = a.base;
              place = at;
              body = q.entries;
              count = q.count;
              stacked = q.stack ∙ append_assoc a.stack (nums (entry 0 a.base at)) q.entries;
              deep = omega (arith, q.depth);
              long = omega (arith, o.stack);
              wide = q.wide;
            };
        result = refl;
      } in
      record {
        after = after_rule a q.after at q.entries q.count;
        starts = q.starts;
        firsts = q.after.items ∷ [];
        trace =
            t-step {t = rule-head r.mark r.name} (act-as at a (opened at a) (sym (head-action r.mark r.name)) refl) oko.fit
            (trace-append q.run.trace (t-step {t = rule_end}
            (act-as (at + length (numbers (rule-head r.mark r.name)) + length (encode (body_tokens r.body))) q.after
            (after_rule a q.after at q.entries q.count) (sym end-action) act) okc.fit t-done));
        ok = okc;
        more = q.run.more ++ (q.entries ++ nums (entry 6 0 0));
        list = ap (λ (l : List ℕ). l ++ (q.entries ++ nums (entry 6 0 0))) q.run.list ∙ append_assoc a.list q.run.more (q.entries ++ nums (entry 6 0 0));
        grew = omega (arith, q.run.grew);
        stack = refl;
        depth = based;
        rules = omega (arith, q.run.grew);
        table = at ∷ q.after.items ∷ [];
        rows = ap (λ (l : List ℕ). l ++ (at ∷ q.after.items ∷ [])) q.run.rows;
        listed = l-rule (at_left (rule-head r.mark r.name ∷ []) (body_tokens r.body ++ rule_end ∷ []) w) l-none;
        later = q.run.later;
        cost = omega (arith, q.cost, q.depth, rule-cost r);
        adds = adds-rule r q.adds;
        lays = λ own. rule-lays r own q;
        sound = λ F T f.
            let f' = shorter (q.entries ++ nums (entry 6 0 0)) q.run.ok refl (λ x s m. m) F T f in
            let rows = q.rows F T f' in
            let pp = placed-append F g T q.after.list (q.entries ++ nums (entry 6 0 0)) q.after.items 0 q.run.ok.list f.placed in
            let al : Alternatives F g T q.after.items (alternatives r.body) = rows-alternatives q.after.items rows
            (subst (λ (k : ℕ). PlacedAll F g T k (q.entries ++ nums (entry 6 0 0)))
            (let z : 0 + q.after.items ≡ q.after.items = omega arith in z) pp.1) in
            let wt : q.count + 1 ≡ weight (alternatives r.body) = let z = rows-length rows in omega arith in (
              sound-then {rs = []} {rs' = r ∷ []} {xs = []} {xs' = q.after.items ∷ []} (λ x s m. m) refl
                  (let z : q.after.items ≤ q.after.items + (q.count + 1) = omega arith in z) (q.run.sound F T f') (record {
                    grew = omega arith;
                    rule = λ x s m. inl m;
                    covered = λ j l. ⊎_elim (λ (b : j < q.after.items). inl b) (λ (b : q.after.items ≤ j). inr (inr (inl (b, omega arith)))) (split j q.after.items);
                    apart = λ x s m. inl m;
                    clean = ((omega arith, λ y e i. absurd (omega arith)), tt);
                    last = λ y e i. alternatives-last al y (omega arith);
                    spelt = λ j l. ⊎_elim (λ b. inl b) (λ b. inr (rule-spelt al j b (omega arith))) (split j q.after.items);
                    under = one-under q.starts r (omega arith);
                    single = one_single q.starts r;
                  }),
              ((al, omega arith), tt),
            );
      }

  ruled-then : {us vs : List Token} {rs rs' : List Rule} {at : ℕ} {a : Abs} {S : Starts} (q : Ruled g K us rs at a S)
      → Ruled g K vs rs' (at + length (encode us)) q.after q.starts → Ruled g K (us ++ vs) (rs ++ rs') at a S
  ruled-then {us} {vs} {rs} {rs'} {a = a} q r = record {
    after = r.after;
    starts = r.starts;
    firsts = q.firsts ++ r.firsts;
    trace = trace-append q.trace r.trace;
    ok = r.ok;
    more = q.more ++ r.more;
    list = r.list ∙ ap (λ (l : List ℕ). l ++ r.more) q.list ∙ append_assoc a.list q.more r.more;
    grew = omega (arith, q.grew, r.grew);
    stack = r.stack ∙ q.stack;
    depth = r.depth ∙ q.depth;
    rules = omega (arith, q.rules, r.rules);
    table = q.table ++ r.table;
    rows = r.rows ∙ ap (λ (l : List ℕ). l ++ r.table) q.rows ∙ append_assoc a.rows q.table r.table;
    listed = listed-append q.listed r.listed;
    later = λ x s m. r.later x s (q.later x s m);
    cost = omega (arith, q.cost, r.cost, costs-append us vs);
    adds = adds-rules rs rs' r.later q.adds r.adds;
    lays = λ own. rules-lay q r own;
    sound = λ F T f.
        let f' = shorter r.more q.ok r.list r.later F T f in
        let x = q.sound F T f' in
        let y = r.sound F T f in (
          sound-then r.later (listed-even q.listed) r.grew x.0 y.0,
          bodies-append g K F T r.after.items rs' r.firsts
              q.listed (bodies-more g F T q.after.items r.after.items rs q.firsts r.grew x.1) y.1,
        );
  }

  ruled-quiet : {at : ℕ} {a : Abs} (us : List Token) (S : Starts) → Trace us at a a → Ok K a → costs us ≡ 0 → Ruled g K us [] at a S
  ruled-quiet {a = a} us S t o c = record {
    after = a;
    starts = S;
    firsts = [];
    trace = t;
    ok = o;
    more = [];
    list = sym (append-nil a.list);
    grew = omega arith;
    stack = refl;
    depth = refl;
    rules = omega arith;
    table = [];
    rows = sym (append-nil a.rows);
    listed = l-none;
    later = λ x s m. m;
    cost = omega arith;
    adds = adds_none S;
    lays = λ own. lays-none;
    sound = λ F T f. (sound_none a.items S, tt);
  }

  rules-run : (rs : List Rule) → ProperRules rs → KnownAll g (concat_map (λ r. within_body r.body) rs) → (at : ℕ) (a : Abs) (S : Starts)
      → At K at (concat_map rule_tokens rs) → Ok K a → a.rules ≤ a.items → a.items + a.depth + costs (concat_map rule_tokens rs) ≤ 512
      → Ruled g K (concat_map rule_tokens rs) rs at a S
  rules-run [] p n at a S w o few h = ruled-quiet [] S t-done o refl
  rules-run (r ∷ rs) p n at a S w o few h =
      let k = known-append g (within_body r.body) (concat_map (λ r. within_body r.body) rs) n in
      let c = costs-append (rule_tokens r) (concat_map rule_tokens rs) in
      let q = rule-run r p.0 k.0 at a S (at_left (rule_tokens r) (concat_map rule_tokens rs) w) o few (omega (arith, c)) in
      ruled-then q (rules-run rs p.1 k.1 (at + length (encode (rule_tokens r))) q.after q.starts
      (at_right (rule_tokens r) (concat_map rule_tokens rs) w) q.ok (omega (arith, q.rules)) (omega (arith, c, q.cost)))

  prolog-run : {at : ℕ} {a : Abs} (p : Prolog) (S : Starts) → Ok K a → Ruled g K (prolog_tokens p) [] at a S
  prolog-run no-prolog S o = ruled-quiet [] S t-done o refl
  prolog-run {at} {a} (version k) S o = ruled-quiet (version-is k ∷ []) S (skip-run {g = g} {at = at} (version-is k) S (version-action k) o).trace o (prolog-cost (version k))

-- the machine before the first token
abbrev pub start : List ℕ → Abs
start K = record { tokens = K; list = []; items = 0; rows = []; rules = 0; stack = []; depth = 0; base = 0 }

ok-start : (K : List ℕ) → Ok K (start K)
ok-start K = record { tokens = refl; list = refl; stack = refl; fit = record { items = omega arith; rules = omega arith; depth = omega arith; base = omega arith } }

pub grammar-run : (g : Grammar) (K : List ℕ) → ProperRules (rules g) → undefined g ≡ false → size g ≤ 512 → At K 0 (grammar_tokens g)
    → Ruled g K (grammar_tokens g) (rules g) 0 (start K) []
unfolding undefined
grammar-run g K p n h w =
    let c = costs-append (prolog_tokens g.prolog) (concat_map rule_tokens (rules g)) in
    let z = size-costs g p in
    let q = prolog-run {g = g} {at = 0} g.prolog [] (ok-start K) in
    ruled-then q (rules-run (rules g) p (n, λ x m. m) (0 + length (encode (prolog_tokens g.prolog))) q.after q.starts
    (at_right (prolog_tokens g.prolog) (concat_map rule_tokens (rules g)) w) q.ok (omega (arith, q.rules)) (omega (arith, q.cost)))
