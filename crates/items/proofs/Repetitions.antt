-- The machine's run over the operators: what a repetition and a bracket leave.
use mathlib.Core.List.{List, [], ◌∷◌, ◌++◌, append_assoc}
use mathlib.Core.Logic.{inl, inr}
use mathlib.Core.Path.{◌≡◌, refl, sym, ap, ◌∙◌, subst}
use Prim.Native.Nat.{ℕ, ◌+◌, ◌*◌, ◌<◌, ◌≤◌}
use native.Mathlib.Omega.{arith}
use lib.ListN.{length, length-append}
use Rattle.text.specs.Lists.{concat_map}
use Rattle.tree.specs.Tree.{Symbol, group, option, repeat0, repeat1, repeat0sep, repeat1sep, rest, Body, Grammar}
use Rattle.tree.specs.Tokens.{Token, open-group, close-group, next-alternative, to-option, to-repeat0, to-repeat1, to-repeat0sep, to-repeat1sep, encode}
use Rattle.tree.specs.Tokens.{symbol_tokens, body_tokens}
use Rattle.plain.specs.Written.{within, kind, made}
use Rattle.plain.specs.Plain.{makes}
use Rattle.layout.specs.Layout.{laid, dot_count, starts_from}
use Rattle.tokens.specs.Lengths.{first_number}
use Rattle.measure.specs.Costs.{cost, costs, cost_of, repeat_cost_of}
use Rattle.measure.proofs.Sizes.{costs-append}
use Rattle.items.specs.declared.Action.TheVariants.{Push, Open, Operator, Close}
use Rattle.items.specs.Items.{Starts, Among, Stands, Reads, lead}
use Rattle.repetitions.specs.Blocks.{Entry, entry, nums, one_block}
use Rattle.items.specs.Machine.{Abs, pushed, Act, action_of, late_action_of}
use Rattle.repetitions.specs.Blocks.{one_count, one_first, two_block, two_count, two_first, star_block, once_block, rest_block, both_ends}
use Rattle.items.specs.Final.{Placed, Final}
use Rattle.items.proofs.Reps.{act-as, one-length, two-length}
use Rattle.items.proofs.Blocks.{r_last, r-more, r-item, Blocks, b-none, b-rule}
use Rattle.items.proofs.Runs.{Ok, Run, shorter}
use Rattle.items.proofs.Runs.{run-then, run-block, means-made, among_later}
use Rattle.items.proofs.Adds.{Adds, symbols_back, adds-made, adds-both}
use Rattle.items.proofs.Lays.{LaysIn, lays-then, lays-made}
use Rattle.items.proofs.Entries.{in-first, Sym}
use Rattle.items.proofs.Entries.{after_one}
use Rattle.items.proofs.Entries.{after_two, three-more}

module _ {g : Grammar} {K : List ℕ} where
  -- an operator of one operand; B n are the rules that it makes, from item n on
  one-sym : (s f : Symbol) (t : Token) (k : ℕ) (B : ℕ → Starts) (us : List Symbol) → lead s ≡ lead f → symbol_tokens s ≡ symbol_tokens f ++ t ∷ [] → kind s ≡ made
      → within s ≡ s ∷ within f → ((n : ℕ) → symbols_back (B n) ≡ makes s)
      → laid s ≡ laid f ++ us → ((n : ℕ) → starts_from g n us ≡ B n) → dot_count g us ≡ one_count k
      → action_of (first_number t) ≡ Operator k → k < 37 → cost t ≡ one_count k → {at : ℕ} {a : Abs} {S : Starts} → Ok K a → Sym g K f at a S
      → a.items + a.depth + costs (symbol_tokens s) ≤ 512 → ((n : ℕ) → Among (n + one_first k) s (B n))
      → ((F : List ℕ) (T : Starts) (n : ℕ) (e : Entry) → ((x : ℕ) (u : Symbol) → Among x u (B n) → Among x u T)
      → Reads F e.token (lead s) → ((p : ℕ) → Placed F g T p e.sort e.target e.token → Stands F g T p f) → Blocks F g T n (one_block k e n) (B n))
      → Sym g K s at a S
  one-sym s f t k B us ld q d v mk la st dc y l ct {at} {a} {S} o r h first bl =
      let b = r.after in
      let tc : costs (symbol_tokens s) ≡ costs (symbol_tokens f) + one_count k = ap costs q ∙ costs-append (symbol_tokens f) (t ∷ [])
      ∙ (let z : costs (symbol_tokens f) + (cost t + 0) ≡ costs (symbol_tokens f) + one_count k = omega arith in z) in
      let c = after_one k r.after a.stack a.depth r.e in
      let okb = r.run.ok in
      let okc : Ok K (after_one k r.after a.stack a.depth r.e) = record {
        tokens = r.run.ok.tokens;
        list = length-append r.after.list (one_block k r.e r.after.items)
            ∙ (let z : length r.after.list + length (one_block k r.e r.after.items) ≡ 3 *
            (r.after.items + one_count k) = omega (arith, r.run.ok.list, one-length k r.e r.after.items) in z);
        stack = three-more a.stack (entry 4 (r.after.items + one_first k) r.e.token) a.depth o.stack;
        fit = record { items = omega (arith, r.cost, r.depth); rules = r.run.ok.fit.rules; depth = omega arith; base = r.run.ok.fit.base };
      } in
      let act : Act (Operator k) (at + length (encode (symbol_tokens f))) r.after
      (after_one k r.after a.stack a.depth r.e) = (
        λ _. record {
          under = a.stack;
          count = a.depth;
          f = r.e;
          stacked = r.stack;
          deep = r.depth;
          long = o.stack;
          result = refl;
        },
        λ z. absurd (omega arith),
      ) in
      let later = run-block t r.starts (B r.after.items) (one_block k r.e r.after.items) (one_count k)
      (act-as (at + length (encode (symbol_tokens f))) r.after (after_one k r.after a.stack a.depth r.e) (sym y) act)
      r.run.ok okc refl (one-length k r.e r.after.items) refl refl refl refl
      (λ F T w.
      let w' = shorter (one_block k r.e r.after.items) r.run.ok refl (among_later (B r.after.items) r.starts) F T w in
      bl F T r.after.items r.e (λ x u m. w.sub x u (in-first (B r.after.items) r.starts x u m))
      (subst (λ (us : List Token). Reads F r.e.token us) (sym ld) (r.leads F T w')) (r.means F T w')) in
      record {
        after = after_one k r.after a.stack a.depth r.e;
        starts = B r.after.items ++ r.starts;
        e = entry 4 (r.after.items + one_first k) r.e.token;
        run = subst (λ (us : List Token). Run g K us at a (after_one k r.after a.stack a.depth r.e) S (B r.after.items ++ r.starts)) (sym q) (run-then r.run later);
        stack = refl;
        depth = refl;
        cost = omega (arith, r.cost, r.depth);
        adds = subst (λ (us : List Symbol). Adds S (B r.after.items ++ r.starts) (concat_map makes us)) (sym v)
            (adds-made (B r.after.items) (within f) s (mk r.after.items) r.adds);
        lays = subst (LaysIn g (B r.after.items ++ r.starts) a.items (r.after.items + one_count k)) (sym la)
            (lays-made (B r.after.items) r.starts (laid f) us (one_count k) (st r.after.items) dc r.lays);
        leads = λ F T w. subst (λ (us : List Token). Reads F r.e.token us) (sym ld)
            (r.leads F T (shorter (one_block k r.e r.after.items) r.run.ok refl (among_later (B r.after.items) r.starts) F T w));
        means =
            λ F T w p v. means-made F g T (r.after.items + one_first k) r.e.token s d
            (subst (λ (us : List Token). Reads F r.e.token us) (sym ld)
            (r.leads F T (shorter (one_block k r.e r.after.items) r.run.ok refl (among_later (B r.after.items) r.starts) F T w)))
            (w.sub (r.after.items + one_first k) s (in-first (B r.after.items) r.starts (r.after.items + one_first k) s
            (first r.after.items))) p v;
      }

  -- an operator of two operands
  two-sym : (s f sep : Symbol) (t : Token) (k : ℕ) (B : ℕ → Starts) (us : List Symbol) → lead s ≡ lead f → symbol_tokens s ≡ symbol_tokens f ++ (symbol_tokens sep ++ t ∷ [])
      → kind s ≡ made → within s ≡ s ∷ (within f ++ within sep) → ((n : ℕ) → symbols_back (B n) ≡ makes s)
      → laid s ≡ laid f ++ laid sep ++ us → ((n : ℕ) → starts_from g n us ≡ B n) → dot_count g us ≡ two_count k
      → action_of (first_number t) ≡ Operator k → 37 ≤ k → cost t + 1 ≡ two_count k → {at : ℕ} {a : Abs} {S : Starts} → Ok K a
      → (r : Sym g K f at a S) → (r' : Sym g K sep (at + length (encode (symbol_tokens f))) r.after r.starts)
      → a.items + a.depth + costs (symbol_tokens s) ≤ 512 → ((n : ℕ) → Among (n + two_first k) s (B n))
      → ((F : List ℕ) (T : Starts) (n : ℕ) (e e' : Entry) → ((x : ℕ) (u : Symbol) → Among x u (B n) → Among x u T) → Reads F e.token (lead s)
      → ((p : ℕ) → Placed F g T p e.sort e.target e.token → Stands F g T p f)
      → ((p : ℕ) → Placed F g T p e'.sort e'.target e'.token → Stands F g T p sep) → Blocks F g T n (two_block k e e' n) (B n))
      → Sym g K s at a S
  two-sym s f sep t k B us ld q d v mk la st dc y l ct {at} {a} {S} o r r' h first bl =
      let tc : costs (symbol_tokens s) + 1 ≡ costs (symbol_tokens f) + costs (symbol_tokens sep) + two_count k = ap (λ (n : ℕ). n + 1)
      (ap costs q ∙ costs-append (symbol_tokens f) (symbol_tokens sep ++ t ∷ []))
      ∙ (let z : costs (symbol_tokens f) + costs (symbol_tokens sep ++ t ∷ []) + 1 ≡ costs (symbol_tokens f) + costs (symbol_tokens sep) +
      two_count k = omega (arith, costs-append (symbol_tokens sep) (t ∷ [])) in z) in
      let b = r'.after in
      let pl = at + length (encode (symbol_tokens f)) + length (encode (symbol_tokens sep)) in
      let okc : Ok K (after_two k r'.after a.stack a.depth r.e r'.e) = record {
        tokens = r'.run.ok.tokens;
        list = length-append r'.after.list (two_block k r.e r'.e r'.after.items)
            ∙ (let z : length r'.after.list + length (two_block k r.e r'.e r'.after.items) ≡ 3 *
            (r'.after.items + two_count k) = omega (arith, r'.run.ok.list, two-length k r.e r'.e r'.after.items) in z);
        stack = three-more a.stack (entry 4 (r'.after.items + two_first k) r.e.token) a.depth o.stack;
        fit = record { items = omega (arith, r.cost, r.depth, r'.cost, r'.depth); rules = r'.run.ok.fit.rules; depth = omega arith; base = r'.run.ok.fit.base };
      } in
      let act : Act (Operator k) (at + length (encode (symbol_tokens f)) + length (encode (symbol_tokens sep))) r'.after
      (after_two k r'.after a.stack a.depth r.e r'.e) = (
        λ z. absurd (omega arith),
        λ _. record {
          under = a.stack;
          count = a.depth;
          f = r.e;
          sep = r'.e;
          stacked = r'.stack ∙ ap (λ (m : List ℕ). m ++ nums r'.e) r.stack
              ∙ append_assoc a.stack (nums r.e) (nums r'.e);
          deep = omega (arith, r.depth, r'.depth);
          long = o.stack;
          result = refl;
        },
      ) in
      let B' = B r'.after.items in
      let later = run-block t r'.starts (B r'.after.items) (two_block k r.e r'.e r'.after.items) (two_count k)
      (act-as (at + length (encode (symbol_tokens f)) + length (encode (symbol_tokens sep))) r'.after
      (after_two k r'.after a.stack a.depth r.e r'.e) (sym y) act) r'.run.ok okc refl
      (two-length k r.e r'.e r'.after.items) refl refl refl refl
      (λ F T w.
      let w' = shorter (two_block k r.e r'.e r'.after.items) r'.run.ok refl (among_later (B r'.after.items) r'.starts) F T w in
      let w'' = shorter r'.run.more r.run.ok r'.run.list r'.run.later F T w' in
      bl F T r'.after.items r.e r'.e (λ x u m. w.sub x u (in-first (B r'.after.items) r'.starts x u m))
      (subst (λ (us : List Token). Reads F r.e.token us) (sym ld) (r.leads F T w'')) (r.means F T w'') (r'.means F T w')) in
      record {
        after = after_two k r'.after a.stack a.depth r.e r'.e;
        starts = B r'.after.items ++ r'.starts;
        e = entry 4 (r'.after.items + two_first k) r.e.token;
        run = subst (λ (us : List Token). Run g K us at a (after_two k r'.after a.stack a.depth r.e r'.e) S
            (B r'.after.items ++ r'.starts)) (sym q) (run-then r.run (run-then r'.run later));
        stack = refl;
        depth = refl;
        cost = omega (arith, r.cost, r.depth, r'.cost, r'.depth);
        adds = subst (λ (us : List Symbol). Adds S (B r'.after.items ++ r'.starts) (concat_map makes us)) (sym v)
            (adds-made (B r'.after.items) (within f ++ within sep) s (mk r'.after.items)
            (adds-both (within f) (within sep) r'.run.later r.adds r'.adds));
        lays = subst (LaysIn g (B r'.after.items ++ r'.starts) a.items (r'.after.items + two_count k)) (sym la)
            (lays-made (B r'.after.items) r'.starts (laid f ++ laid sep) us (two_count k) (st r'.after.items) dc
            (lays-then (laid f) (laid sep) r'.run.later r.lays r'.lays));
        leads = λ F T w.
            let w' : Final g K r'.after.list r'.starts F T =
            shorter (two_block k r.e r'.e r'.after.items) r'.run.ok refl (among_later (B r'.after.items) r'.starts) F T w in
            subst (λ (us : List Token). Reads F r.e.token us) (sym ld) (r.leads F T (shorter r'.run.more r.run.ok r'.run.list r'.run.later F T w'));
        means =
            λ F T w p v.
            let w' : Final g K r'.after.list r'.starts F T =
            shorter (two_block k r.e r'.e r'.after.items) r'.run.ok refl (among_later (B r'.after.items) r'.starts) F T w in
            means-made F g T (r'.after.items + two_first k) r.e.token s d
            (subst (λ (us : List Token). Reads F r.e.token us) (sym ld) (r.leads F T (shorter r'.run.more r.run.ok r'.run.list r'.run.later F T w')))
            (w.sub (r'.after.items + two_first k) s (in-first (B r'.after.items) r'.starts (r'.after.items + two_first k) s
            (first r'.after.items))) p v;
      }

  pub option-sym : (f : Symbol) {at : ℕ} {a : Abs} {S : Starts} → Ok K a → Sym g K f at a S → a.items + a.depth + costs (symbol_tokens (option f)) ≤ 512 → Sym g K (option f) at a S
  unfolding action_of late_action_of cost_of repeat_cost_of one_count one_first one_block
  option-sym f o r h =
      one-sym (option f) f to-option 34 (λ n. (n, option f) ∷ []) (option f ∷ []) refl refl refl refl (λ n. refl) refl (λ n. refl) refl refl (omega arith) refl o r h (λ n. inl (omega arith, refl))
      (λ F T n e sub rd m. b-rule {s = option f} (r-item m (r-more r_last)) b-none)

  pub star-sym : (f : Symbol) {at : ℕ} {a : Abs} {S : Starts} → Ok K a → Sym g K f at a S → a.items + a.depth + costs (symbol_tokens (repeat0 f)) ≤ 512 → Sym g K (repeat0 f) at a S
  unfolding action_of late_action_of cost_of repeat_cost_of one_count one_first one_block
  star-sym f o r h =
      one-sym (repeat0 f) f to-repeat0 35 (λ n. (n, repeat0 f) ∷ []) (repeat0 f ∷ []) refl refl refl refl (λ n. refl) refl (λ n. refl) refl refl (omega arith) refl o r h (λ n. inl (omega arith, refl))
      (λ F T n e sub rd m. b-rule {s = repeat0 f} (r-item m
      (r-item (means-made F g T n e.token (repeat0 f) refl rd (sub n (repeat0 f) (inl (refl, refl)))) (r-more r_last))) b-none)

  pub plus-sym : (f : Symbol) {at : ℕ} {a : Abs} {S : Starts} → Ok K a → Sym g K f at a S → a.items + a.depth + costs (symbol_tokens (repeat1 f)) ≤ 512 → Sym g K (repeat1 f) at a S
  unfolding action_of late_action_of cost_of repeat_cost_of one_count one_first one_block
  plus-sym f o r h =
      one-sym (repeat1 f) f to-repeat1 36 (λ n. (n, repeat0 f) ∷ (n + 4, repeat1 f) ∷ []) (repeat0 f ∷ repeat1 f ∷ [])
      refl refl refl refl (λ n. refl) refl (λ n. refl) refl refl (omega arith) refl o r h (λ n. inr (inl (refl, refl)))
      (λ F T n e sub rd m.
      let self = means-made F g T n e.token (repeat0 f) refl rd (sub n (repeat0 f) (inl (refl, refl))) in
      b-rule {s = repeat0 f} {xs = star_block e n} {ys = once_block e n} (r-item m (r-item self (r-more r_last)))
      (b-rule {s = repeat1 f} {xs = once_block e n} {ys = []} (r-item m (r-item self r_last)) b-none))

  pub list-sym : (f sep : Symbol) {at : ℕ} {a : Abs} {S : Starts} → Ok K a → (r : Sym g K f at a S)
      → Sym g K sep (at + length (encode (symbol_tokens f))) r.after r.starts
      → a.items + a.depth + costs (symbol_tokens (repeat1sep f sep)) ≤ 512 → Sym g K (repeat1sep f sep) at a S
  unfolding action_of late_action_of cost_of repeat_cost_of two_count two_first two_block
  list-sym f sep o r r' h =
      two-sym (repeat1sep f sep) f sep to-repeat1sep 38 (λ n. (n, rest f sep) ∷ (n + 5, repeat1sep f sep) ∷ []) (rest f sep ∷ repeat1sep f sep ∷ [])
      refl refl refl refl (λ n. refl) refl (λ n. refl) refl refl (omega arith)
      refl o r r' h (λ n. inr (inl (refl, refl)))
      (λ F T n e e' sub rd m m'.
      let self = means-made F g T n e.token (rest f sep) refl rd (sub n (rest f sep) (inl (refl, refl))) in
      b-rule {s = rest f sep} {xs = rest_block e e' n} {ys = once_block e n} (r-item m' (r-item m (r-item self (r-more r_last))))
      (b-rule {s = repeat1sep f sep} {xs = once_block e n} {ys = []} (r-item m (r-item self r_last)) b-none))

  pub maybe-sym : (f sep : Symbol) {at : ℕ} {a : Abs} {S : Starts} → Ok K a → (r : Sym g K f at a S)
      → Sym g K sep (at + length (encode (symbol_tokens f))) r.after r.starts
      → a.items + a.depth + costs (symbol_tokens (repeat0sep f sep)) ≤ 512 → Sym g K (repeat0sep f sep) at a S
  unfolding action_of late_action_of cost_of repeat_cost_of two_count two_first two_block
  maybe-sym f sep o r r' h =
      two-sym (repeat0sep f sep) f sep to-repeat0sep 37
      (λ n. (n, rest f sep) ∷ (n + 5, repeat1sep f sep) ∷ (n + 5 + 3, repeat0sep f sep) ∷ []) (rest f sep ∷ repeat1sep f sep ∷ repeat0sep f sep ∷ [])
      refl refl refl refl (λ n. refl) refl (λ n. refl) refl refl (omega arith) refl o r r' h
      (λ n. inr (inr (inl (omega arith, refl))))
      (λ F T n e e' sub rd m m'.
      let self = means-made F g T n e.token (rest f sep) refl rd (sub n (rest f sep) (inl (refl, refl))) in
      let whole = means-made F g T (n + 5) e.token (repeat1sep f sep) refl rd (sub (n + 5) (repeat1sep f sep) (inr (inl (refl, refl)))) in
      b-rule {s = rest f sep} {xs = rest_block e e' n} {ys = once_block e n ++ (4 ∷ (n + 5) ∷ e.token ∷ both_ends)}
      (r-item m' (r-item m (r-item self (r-more r_last))))
      (b-rule {s = repeat1sep f sep} {xs = once_block e n} {ys = 4 ∷ (n + 5) ∷ e.token ∷ both_ends} (r-item m (r-item self r_last))
      (b-rule {s = repeat0sep f sep} {xs = 4 ∷ (n + 5) ∷ e.token ∷ both_ends} {ys = []} (r-item whole (r-more r_last)) b-none)))

abbrev pub opened : ℕ → Abs → Abs
opened at a = pushed a (entry 0 a.base at) a.depth

abbrev pub after_close : ℕ → Abs → Abs → List ℕ → ℕ → Abs
after_close at a b body m =
    record {
      tokens = b.tokens;
      list = b.list ++ (body ++ nums (entry 6 0 0));
      items = b.items + (m + 1);
      rows = b.rows;
      rules = b.rules;
      stack = a.stack ++ nums (entry 4 b.items at);
      depth = b.base + 1;
      base = a.base;
    }

pub open-action : action_of (first_number open-group) ≡ Open
unfolding action_of
open-action = refl

pub close-action : action_of (first_number close-group) ≡ Close
unfolding action_of
close-action = refl

pub next-action : action_of (first_number next-alternative) ≡ Push 5
unfolding action_of late_action_of
next-action = refl

pub bracket-costs : (b : Body) → costs (symbol_tokens (group b)) ≡ 2 + costs (body_tokens b)
unfolding cost_of repeat_cost_of
bracket-costs b = omega (arith, costs-append (body_tokens b) (close-group ∷ []))

pub next-costs : (ts : List Token) → costs (next-alternative ∷ ts) ≡ 1 + costs ts
unfolding cost_of
next-costs ts = refl
