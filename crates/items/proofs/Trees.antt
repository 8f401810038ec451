-- The machine runs over a tree's tokens: each symbol leaves one entry that stands for it.
use mathlib.Core.List.Memᴰ.{head as in_head}
use mathlib.Core.List.{List, [], ◌∷◌, ◌++◌, append_assoc, append-nil}
use mathlib.Core.Logic.{inl, inr}
use mathlib.Core.Path.{◌≡◌, refl, sym, ap, ◌∙◌, subst}
use Prim.Native.Nat.{ℕ, ◌+◌, ◌*◌, ◌≤◌}
use native.Mathlib.Omega.{arith}
use lib.ListN.{length, length-append}
use Rattle.tree.specs.Tree.{Symbol, terminal, nonterminal, group, option, repeat0, repeat1, repeat0sep, repeat1sep, rest, Alternative, nil, cons, Body, one, also, Grammar}
use Rattle.tree.specs.Tokens.{Token, open-group, close-group, next-alternative, to-option, to-repeat0, to-repeat1, to-repeat0sep, to-repeat1sep, encode, numbers}
use Rattle.tree.specs.Tokens.{symbol_tokens, alternative_tokens, body_tokens}
use Rattle.plain.specs.Written.{within, within_alternative, within_body}
use Rattle.plain.specs.Plain.{symbols, alternatives}
use Rattle.layout.specs.Layout.{laid, laid_alternative, laid_body}
use Rattle.tokens.specs.Proper.{Proper, ProperAlternative, ProperBody}
use Rattle.measure.specs.Costs.{costs}
use Rattle.measure.proofs.Sizes.{costs-append}
use Rattle.items.specs.declared.Action.TheVariants.{Close}
use Rattle.items.specs.Items.{Starts}
use Rattle.repetitions.specs.Blocks.{entry, nums}
use Rattle.items.specs.Machine.{Abs, pushed, Act}
use Rattle.items.specs.Scanned.{At}
use Rattle.items.proofs.Reps.{act-as}
use Rattle.items.proofs.Blocks.{Rows, r_last, r-more, r-item, Blocks, b-none, b-rule, sound-then}
use Rattle.items.proofs.Runs.{t-done, t-step, trace-append, sound-block, at_left, at_right, Ok, shorter, run_none}
use Rattle.items.proofs.Runs.{run-then, reads-final, means-made, among_later}
use Rattle.items.proofs.Adds.{adds_none, adds-made, adds-both}
use Rattle.items.proofs.Lays.{lays-none, lays-then, lays-made}
use Rattle.items.proofs.Entries.{KnownAll, known-append, Sym}
use Rattle.items.proofs.Entries.{Alt, Bod, ok-pushed, push-run, terminal-sym, name-sym}
use Rattle.items.proofs.Entries.{three-more}
use Rattle.items.proofs.Repetitions.{option-sym, star-sym, plus-sym, list-sym, maybe-sym, opened, after_close, open-action}
use Rattle.items.proofs.Repetitions.{close-action, next-action, bracket-costs, next-costs}

-- the first token alone
pub at_head : {K : List ℕ} {at : ℕ} (t : Token) (us : List Token) → At K at (t ∷ us) → At K (at + length (numbers t)) us
at_head {K} {at} t us w = subst (λ (n : ℕ). At K n us)
    (let e : at + length (numbers t ++ []) ≡ at + length (numbers t) = ap (λ (l : List ℕ). at + length l) (append-nil (numbers t)) in
    e) (at_right (t ∷ []) us w)

module _ {g : Grammar} {K : List ℕ} where
  group-sym : (x : Body) {at : ℕ} {a : Abs} {S : Starts} → Ok K a → a.items + a.depth + costs (symbol_tokens (group x)) ≤ 512
      → At K at (open-group ∷ []) → Bod g K x (at + 1) (opened at a) S → Sym g K (group x) at a S
  group-sym x {at} {a} {S} o h k r =
      let based : r.after.base ≡ a.depth = r.run.base in
      let wide : length (r.entries ++ nums (entry 6 0 0)) ≡ 3 * (r.count + 1) = three-more r.entries (entry 6 0 0) r.count r.wide in
      let okc : Ok K (after_close at a r.after r.entries r.count) = record {
        tokens = r.run.ok.tokens;
        list = length-append r.after.list (r.entries ++ nums (entry 6 0 0))
            ∙ (let z : length r.after.list + length (r.entries ++ nums (entry 6 0 0)) ≡ 3 *
            (r.after.items + (r.count + 1)) = omega (arith, r.run.ok.list) in z);
        stack = three-more a.stack (entry 4 r.after.items at) r.after.base (omega (arith, o.stack));
        fit = record { items = omega (arith, r.cost, r.depth, bracket-costs x); rules = r.run.ok.fit.rules; depth = omega (arith, bracket-costs x); base = o.fit.base };
      } in
      let act : Act Close (at + 1 + length (encode (body_tokens x))) r.after (after_close at a r.after r.entries r.count) = record {
        block =
            record {
              under = a.stack;
              old = a.base;
              place = at;
              body = r.entries;
              count = r.count;
              stacked = r.stack ∙ append_assoc a.stack (nums (entry 0 a.base at)) r.entries;
              deep = omega (arith, r.depth);
              long = omega (arith, o.stack);
              wide = r.wide;
            };
        result = refl;
      } in
      record {
        after = after_close at a r.after r.entries r.count;
        starts = (r.after.items, group x) ∷ r.starts;
        e = entry 4 r.after.items at;
        run = record {
          trace =
              t-step {t = open-group} (act-as at a (opened at a) (sym open-action) refl)
              (record { items = o.fit.items; rules = o.fit.rules; depth = omega (arith, bracket-costs x); base = o.fit.depth })
              (trace-append r.run.trace (t-step {t = close-group}
              (act-as (at + 1 + length (encode (body_tokens x))) r.after (after_close at a r.after r.entries r.count)
              (sym close-action) act) okc.fit t-done));
          ok = okc;
          more = r.run.more ++ (r.entries ++ nums (entry 6 0 0));
          list = ap (λ (l : List ℕ). l ++ (r.entries ++ nums (entry 6 0 0))) r.run.list ∙ append_assoc a.list r.run.more (r.entries ++ nums (entry 6 0 0));
          grew = omega (arith, r.run.grew);
          rows = r.run.rows;
          rules = r.run.rules;
          base = refl;
          later = λ y s m. inr (r.run.later y s m);
          sound = λ F T f.
              let f' = shorter (r.entries ++ nums (entry 6 0 0)) r.run.ok refl (among_later ((r.after.items, group x) ∷ []) r.starts) F T f in
              sound-then {rs = []} {rs' = []} {xs = []} {xs' = []} (λ y s m. inr m) refl
              (let z : r.after.items ≤ r.after.items + (r.count + 1) = omega arith in
              z) (r.run.sound F T f') (sound-block (after_close at a r.after r.entries r.count) r.starts
              ((r.after.items, group x) ∷ []) (r.entries ++ nums (entry 6 0 0)) (r.count + 1) r.run.ok refl wide refl F T f
              (subst (λ (l : List ℕ). Blocks F g T r.after.items l ((r.after.items, group x) ∷ []))
              (append-nil (r.entries ++ nums (entry 6 0 0))) (b-rule {s = group x} {ys = []} (r.rows F T f') b-none)));
        };
        stack = refl;
        depth = ap (λ (n : ℕ). n + 1) based;
        cost = omega (arith, r.cost, r.depth, bracket-costs x);
        adds = adds-made ((r.after.items, group x) ∷ []) (within_body x) (group x) refl r.adds;
        lays = lays-made ((r.after.items, group x) ∷ []) r.starts (laid_body x) (group x ∷ []) (r.count + 1) refl (omega (arith, r.weighs)) r.lays;
        leads = λ F T w. reads-final k F T w;
        means = λ F T w p v. means-made F g T r.after.items at (group x) refl (reads-final k F T w) (w.sub r.after.items (group x) (inl (refl, refl))) p v;
      }

  mutual
    pub symbol-run : (s : Symbol) → Proper s → KnownAll g (within s) → (at : ℕ) (a : Abs) (S : Starts) → At K at (symbol_tokens s) → Ok K a
        → a.items + a.depth + costs (symbol_tokens s) ≤ 512 → Sym g K s at a S
    symbol-run (terminal x) p n at a S w o h = terminal-sym x at a S (n.1 x (in_head refl)) w o h
    symbol-run (nonterminal m x) p n at a S w o h = name-sym m x at a S n w o h
    symbol-run (group x) p n at a S w o h =
        group-sym x o h (at_left (open-group ∷ []) (body_tokens x ++ close-group ∷ []) w) (body_run x p n (at + 1) (opened at a) S
        (at_left (body_tokens x) (close-group ∷ []) (at_head open-group (body_tokens x ++ close-group ∷ []) w))
        (ok-pushed (entry 0 a.base at) a.depth o (omega (arith, bracket-costs x)) o.fit.depth)
        (omega (arith, bracket-costs x)))
    symbol-run (option f) p n at a S w o h =
        option-sym f o (symbol-run f p n at a S (at_left (symbol_tokens f) (to-option ∷ []) w) o
        (omega (arith, costs-append (symbol_tokens f) (to-option ∷ [])))) h
    symbol-run (repeat0 f) p n at a S w o h =
        star-sym f o (symbol-run f p n at a S (at_left (symbol_tokens f) (to-repeat0 ∷ []) w) o
        (omega (arith, costs-append (symbol_tokens f) (to-repeat0 ∷ [])))) h
    symbol-run (repeat1 f) p n at a S w o h =
        plus-sym f o (symbol-run f p n at a S (at_left (symbol_tokens f) (to-repeat1 ∷ []) w) o
        (omega (arith, costs-append (symbol_tokens f) (to-repeat1 ∷ [])))) h
    symbol-run (repeat0sep f sep) p n at a S w o h =
        let u = symbol_tokens sep ++ to-repeat0sep ∷ [] in
        let q = known-append g (within f) (within sep) n in
        let r = symbol-run f p.0 q.0 at a S (at_left (symbol_tokens f) (symbol_tokens sep ++ to-repeat0sep ∷ []) w) o
        (omega (arith, costs-append (symbol_tokens f) (symbol_tokens sep ++ to-repeat0sep ∷ []))) in
        maybe-sym f sep o r (symbol-run sep p.1 q.1 (at + length (encode (symbol_tokens f))) r.after r.starts
        (at_left (symbol_tokens sep) (to-repeat0sep ∷ []) (at_right (symbol_tokens f) (symbol_tokens sep ++ to-repeat0sep ∷ []) w))
        r.run.ok (omega (
          arith,
          r.cost,
          costs-append (symbol_tokens f) (symbol_tokens sep ++ to-repeat0sep ∷ []),
          costs-append
              (symbol_tokens sep) (to-repeat0sep ∷ []),
        ))) h
    symbol-run (repeat1sep f sep) p n at a S w o h =
        let q = known-append g (within f) (within sep) n in
        let r = symbol-run f p.0 q.0 at a S (at_left (symbol_tokens f) (symbol_tokens sep ++ to-repeat1sep ∷ []) w) o
        (omega (arith, costs-append (symbol_tokens f) (symbol_tokens sep ++ to-repeat1sep ∷ []))) in
        list-sym f sep o r (symbol-run sep p.1 q.1 (at + length (encode (symbol_tokens f))) r.after r.starts
        (at_left (symbol_tokens sep) (to-repeat1sep ∷ []) (at_right (symbol_tokens f) (symbol_tokens sep ++ to-repeat1sep ∷ []) w))
        r.run.ok (omega (
          arith,
          r.cost,
          costs-append (symbol_tokens f) (symbol_tokens sep ++ to-repeat1sep ∷ []),
          costs-append
              (symbol_tokens sep) (to-repeat1sep ∷ []),
        ))) h
    symbol-run (rest f sep) p n at a S w o h = absurd p

    alternative-run : (x : Alternative) → ProperAlternative x → KnownAll g (within_alternative x) → (at : ℕ) (a : Abs) (S : Starts)
        → At K at (alternative_tokens x) → Ok K a → a.items + a.depth + costs (alternative_tokens x) ≤ 512 → Alt g K x at a S
    alternative-run nil p n at a S w o h =
        record {
          after = a;
          starts = S;
          entries = [];
          count = 0;
          run = run_none S o;
          stack = sym (append-nil a.stack);
          depth = omega arith;
          wide = refl;
          cost = omega arith;
          counts = refl;
          adds = adds_none S;
          lays = lays-none;
          rows = λ F T f tail ts r. r;
        }
    alternative-run (cons f x) p n at a S w o h =
        let q = known-append g (within f) (within_alternative x) n in
        let r = symbol-run f p.0 q.0 at a S (at_left (symbol_tokens f) (alternative_tokens x) w) o (omega (arith, costs-append (symbol_tokens f) (alternative_tokens x))) in
        let r' = alternative-run x p.1 q.1 (at + length (encode (symbol_tokens f))) r.after r.starts
        (at_right (symbol_tokens f) (alternative_tokens x) w) r.run.ok
        (omega (arith, r.cost, costs-append (symbol_tokens f) (alternative_tokens x))) in
        record {
          after = r'.after;
          starts = r'.starts;
          entries = nums r.e ++ r'.entries;
          count = 1 + r'.count;
          run = run-then r.run r'.run;
          stack = r'.stack ∙ ap (λ (l : List ℕ). l ++ r'.entries) r.stack ∙ append_assoc a.stack (nums r.e) r'.entries;
          depth = omega (arith, r.depth, r'.depth);
          wide = omega (arith, r'.wide);
          cost = omega (arith, r.cost, r'.cost, costs-append (symbol_tokens f) (alternative_tokens x));
          counts = omega (arith, r'.counts);
          adds = adds-both (within f) (within_alternative x) r'.run.later r.adds r'.adds;
          lays = lays-then (laid f) (laid_alternative x) r'.run.later r.lays r'.lays;
          rows = λ F T w' tail ts v. r-item (r.means F T (shorter r'.run.more r.run.ok r'.run.list r'.run.later F T w')) (r'.rows F T w' tail ts v);
        }

    pub body_run : (x : Body) → ProperBody x → KnownAll g (within_body x) → (at : ℕ) (a : Abs) (S : Starts) → At K at (body_tokens x) → Ok K a
        → a.items + a.depth + costs (body_tokens x) ≤ 512 → Bod g K x at a S
    body_run (one x) p n at a S w o h =
        let r = alternative-run x p n at a S w o h in
        record {
          after = r.after;
          starts = r.starts;
          entries = r.entries;
          count = r.count;
          run = r.run;
          stack = r.stack;
          depth = r.depth;
          wide = r.wide;
          cost = r.cost;
          weighs = omega (arith, r.counts);
          adds = r.adds;
          lays = r.lays;
          rows = λ F T f. r.rows F T f (nums (entry 6 0 0)) [] r_last;
        }
    body_run (also x y) p n at a S w o h =
        let q = known-append g (within_alternative x) (within_body y) n in
        let ca = costs-append (alternative_tokens x) (next-alternative ∷ body_tokens y) in
        let r = alternative-run x p.0 q.0 at a S (at_left (alternative_tokens x) (next-alternative ∷ body_tokens y) w) o (omega (arith, ca)) in
        let at' = at + length (encode (alternative_tokens x)) in
        let okb = ok-pushed (entry 5 0 (at + length (encode (alternative_tokens x)))) r.after.base r.run.ok (omega (arith, ca, r.cost, next-costs (body_tokens y))) r.run.ok.fit.base in
        let r' = body_run y p.1 q.1 (at + length (encode (alternative_tokens x)) + 1)
        (pushed r.after (entry 5 0 (at + length (encode (alternative_tokens x)))) r.after.base) r.starts
        (at_head next-alternative (body_tokens y) (at_right (alternative_tokens x) (next-alternative ∷ body_tokens y) w)) okb
        (omega (arith, ca, r.cost, next-costs (body_tokens y))) in
        record {
          after = r'.after;
          starts = r'.starts;
          entries = r.entries ++ (nums (entry 5 0 (at + length (encode (alternative_tokens x)))) ++ r'.entries);
          count = r.count + (1 + r'.count);
          run =
              run-then r.run (run-then {us = next-alternative ∷ []} {vs = body_tokens y}
              (push-run next-alternative 5 r.starts next-action r.run.ok (omega (arith, ca, r.cost, next-costs (body_tokens y))))
              r'.run);
          stack = r'.stack ∙ ap (λ (l : List ℕ). l ++ nums (entry 5 0 (at + length (encode (alternative_tokens x)))) ++ r'.entries)
              r.stack ∙ ap (λ (l : List ℕ). l ++ r'.entries)
              (append_assoc a.stack r.entries (nums (entry 5 0 (at + length (encode (alternative_tokens x))))))
              ∙ append_assoc a.stack (r.entries ++ nums (entry 5 0 (at + length (encode (alternative_tokens x))))) r'.entries
              ∙ ap (λ (l : List ℕ). a.stack ++ l) (append_assoc r.entries
              (nums (entry 5 0 (at + length (encode (alternative_tokens x))))) r'.entries);
          depth = omega (arith, r.depth, r'.depth);
          wide = length-append r.entries (nums (entry 5 0 (at + length (encode (alternative_tokens x)))) ++ r'.entries)
              ∙ (let z : length r.entries + length (nums (entry 5 0 (at + length (encode (alternative_tokens x)))) ++ r'.entries) ≡ 3 *
              (r.count + (1 + r'.count)) = omega (arith, r.wide, r'.wide) in z);
          cost = omega (arith, r.cost, r'.cost, ca, next-costs (body_tokens y));
          weighs = omega (arith, r.counts, r'.weighs);
          adds = adds-both (within_alternative x) (within_body y) r'.run.later r.adds r'.adds;
          lays = lays-then (laid_alternative x) (laid_body y) r'.run.later r.lays r'.lays;
          rows = λ F T f. subst (λ (l : List ℕ). Rows F g T l (symbols x ∷ alternatives y))
              (sym (append_assoc r.entries (nums (entry 5 0 (at + length (encode (alternative_tokens x)))) ++ r'.entries)
              (nums (entry 6 0 0)))) (r.rows F T (shorter r'.run.more r.run.ok r'.run.list r'.run.later F T f)
              (nums (entry 5 0 (at + length (encode (alternative_tokens x)))) ++ (r'.entries ++ nums (entry 6 0 0))) (alternatives y)
              (r-more (r'.rows F T f)));
        }
