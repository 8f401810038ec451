-- The loop over the tokens follows the machine's run.
use mathlib.Core.Bool.{false}
use mathlib.Core.List.{List, [], ◌∷◌, ◌++◌}
use mathlib.Core.Logic.{⊎_elim}
use mathlib.Core.Path.{◌≡◌, refl, sym, ap, ◌∙◌, subst}
use Prim.Native.Nat.{ℕ, ◌+◌, ◌<◌, ◌≤◌}
use native.Mathlib.Omega.{arith}
use lib.ListN.{length, get_or, take, drop, take-append-drop}
use lib.Seq.{take-take}
use Rattle.text.proofs.Tests.{split}
use Rattle.tree.specs.Tree.{Symbol, Grammar, rules}
use Rattle.tree.specs.Tokens.{Token, numbers, grammar_tokens}
use Rattle.plain.specs.Static.{duplicate}
use Rattle.plain.specs.Plain.{size}
use Rattle.layout.specs.Layout.{layout, starts_of}
use Rattle.layout.proofs.Sums.{own_of}
use Rattle.tokens.specs.Lengths.{length_at, Left}
use Rattle.tokens.proofs.Walk.{left-empty, left-inside, left-length, left-first, left-within, left-next, left-start, some_number}
use Rattle.measure.proofs.Sizes.{size-costs}
use Rattle.items.specs.declared.Action.{Action}
use Rattle.items.specs.declared.Action.TheVariants.{Skip, Push, Open, Operator, Close, Finish}
use Rattle.items.specs.declared.State.{State}
use Rattle.items.specs.Machine.{Abs, Act, Fit, Rep, Ready, action_of}
use Rattle.items.specs.Items.{Among}
use Rattle.items.specs.Scanned.{Begins, Readable, Scanned, Listed}
use Rattle.items.specs.Final.{Final}
use Rattle.items.proofs.Reps.{act-as}
use Rattle.items.proofs.Runs.{Trace, t-done, t-step}
use Rattle.items.proofs.Rules.{Ruled, start, grammar-run}

act-tokens : (d : Action) (at : ℕ) (a b : Abs) → Act d at a b → b.tokens ≡ a.tokens
act-tokens Skip at a b e = ap (λ (z : Abs). z.tokens) e
act-tokens (Push k) at a b e = ap (λ (z : Abs). z.tokens) e
act-tokens Open at a b e = ap (λ (z : Abs). z.tokens) e
act-tokens (Operator k) at a b e = ⊎_elim (λ h. ap (λ (z : Abs). z.tokens) (e.0 h).result) (λ h. ap (λ (z : Abs). z.tokens) (e.1 h).result) (split k 37)
act-tokens Close at a b e = ap (λ (z : Abs). z.tokens) e.result
act-tokens Finish at a b e = ap (λ (z : Abs). z.tokens) e.result

left-same : {T T' : List ℕ} {end at : ℕ} {ts : List Token} → take 12288 T' ≡ take 12288 T → end ≤ 12288 → Left T end at ts → Left T' end at ts
left-same {T} {T'} {end} {at} e h w = record { told = w.told; stands = ap (drop at) (sym (take-take end 12288 T' h) ∙ ap (take end) e ∙ take-take end 12288 T h) ∙ w.stands }

-- where the loop stands: the tokens that are left lead the machine to z
pub record Going (K : List ℕ) (T : List ℕ) (end at : ℕ) (s : State) (z : Abs) : Type 0 where
  pub tokens : List Token
  pub state : Abs
  pub left : Left T end at tokens
  pub trace : Trace tokens at state z
  pub rep : Rep T s state
  pub kept : state.tokens ≡ K

pub record Front (K : List ℕ) (T : List ℕ) (end at : ℕ) (s : State) (z : Abs) : Type 0 where
  pub token : Token
  pub others : List Token
  pub from : Abs
  pub to : Abs
  pub left : Left T end at (token ∷ others)
  pub act : Act (action_of (get_or T at 0)) at from to
  pub fit : Fit to
  pub trace : Trace others (at + length (numbers token)) to z
  pub rep : Rep T s from
  pub kept : from.tokens ≡ K

module _ {K T : List ℕ} {end at : ℕ} {s : State} {z : Abs} (h : at < end) (i : end ≤ 12288) (size : length T ≡ 16384) where
  front_of : (ts : List Token) (a : Abs) → Left T end at ts → Trace ts at a z → Rep T s a → a.tokens ≡ K → Front K T end at s z
  front_of [] a w t r k = absurd (let e : end ≤ at = left-empty w (omega arith) in omega arith)
  front_of (t ∷ ts) a w (t-step {b = b} x f v) r k = record {
    token = t;
    others = ts;
    from = a;
    to = b;
    left = w;
    act = act-as at a b (ap action_of (sym (left-first w (omega arith)))) x;
    fit = f;
    trace = v;
    rep = r;
    kept = k;
  }

  pub front : Going K T end at s z → Front K T end at s z
  front w = front_of w.tokens w.state w.left w.trace w.rep w.kept

  pub front-ready : Front K T end at s z → Ready (action_of (get_or T at 0)) at T s
  front-ready w = record { from = w.from; to = w.to; rep = w.rep; act = w.act; fit = w.fit; place = omega arith }

  module _ {T' : List ℕ} {s' : State} (w : Front K T end at s z) (r : Rep T' s' w.to) where
    same-tokens : take 12288 T' ≡ take 12288 T
    same-tokens = r.has.tokens ∙ act-tokens (action_of (get_or T at 0)) at w.from w.to w.act ∙ sym w.rep.has.tokens

    front-left : Left T' end at (w.token ∷ w.others)
    front-left = left-same same-tokens i w.left

    pub front-inside : at + length_at T' at ≤ length T'
    front-inside = left-inside front-left (omega (arith, r.has.size))

    pub front_length : length_at T' at ≡ length (numbers w.token)
    front_length = left-length front-left (omega (arith, r.has.size))

    pub front-forward : (0 < length (numbers w.token)) × (at + length (numbers w.token) ≤ end)
    front-forward = (some_number w.token, left-within w.left (omega arith))

    pub front-next : (at' : ℕ) → at' ≡ at + length_at T' at → Going K T' end at' s' z
    front-next at' e = subst (λ (n : ℕ). Going K T' end n s' z) (sym (e ∙ ap (λ (n : ℕ). at + n) front_length)) (record {
      tokens = w.others;
      state = w.to;
      left = left-next front-left;
      trace = w.trace;
      rep = r;
      kept = act-tokens (action_of (get_or T at 0)) at w.from w.to w.act ∙ w.kept;
    })

empty-list : (T : List ℕ) → take 0 (drop 12288 T) ≡ []
empty-list T = refl

-- a run of the whole grammar, and the machine's state at its end
pub run_of : {T : List ℕ} {end : ℕ} {g : Grammar} → length T ≡ 16384 → end ≤ 12288 → Readable T end g → Ruled g (take 12288 T) (grammar_tokens g) (rules g) 0 (start (take 12288 T)) []
run_of {T} {end} {g} size h r =
    grammar-run g (take 12288 T) r.holds.proper r.known r.small
    (record {
      more = drop end (take 12288 T);
      stands = sym (take-append-drop end (take 12288 T))
          ∙ ap (λ (l : List ℕ). l ++ drop end (take 12288 T)) (take-take end 12288 T h ∙ r.holds.stands);
    })

pub going_start : {T : List ℕ} {end : ℕ} {g : Grammar} {s : State} (size : length T ≡ 16384) (h : end ≤ 12288) (r : Readable T end g)
    → s.items ≡ 0 → s.rules ≡ 0 → s.depth ≡ 0 → s.base ≡ 0 → Going (take 12288 T) T end 0 s (run_of size h r).after
going_start {T} {end} {g} size h r e₁ e₂ e₃ e₄ = record {
  tokens = grammar_tokens g;
  state = start (take 12288 T);
  left = left-start r.holds;
  trace = (run_of size h r).trace;
  rep =
      record {
        has = record {
          size = size;
          fit = record {
            items = omega arith;
            rules = omega arith;
            depth = omega arith;
            base = omega arith;
          };
          tokens = refl;
          list = refl;
          rows = refl;
          stack = refl;
        };
        items = e₁;
        rules = e₂;
        depth = e₃;
        base = e₄;
      };
  kept = refl;
}

done-of : {T : List ℕ} {end at : ℕ} {s : State} {z : Abs} (ts : List Token) (a : Abs) → end ≤ at → end ≤ length T → Left T end at ts → Trace ts at a z → Rep T s a → Rep T s z
done-of [] a h i w t-done r = r
done-of (t ∷ ts) a h i w v r = absurd (let e : 0 < 0 = omega (arith, left-within w i, some_number t) in omega arith)

laid-starts : {T : List ℕ} {end : ℕ} {g : Grammar} (size : length T ≡ 16384) (h : end ≤ 12288) (r : Readable T end g) → duplicate g ≡ false
    → (x : ℕ) (s : Symbol) → Among x s (starts_of g) → Begins x s (run_of size h r).starts (rules g) (run_of size h r).firsts
unfolding starts_of layout
laid-starts {g = g} size h r d x s m = ((run_of size h r).lays (own_of g d)).begins x s m

pub going_done : {T₀ T : List ℕ} {end at : ℕ} {g : Grammar} {s : State} (size : length T₀ ≡ 16384) (h : end ≤ 12288) (r : Readable T₀ end g)
    → end ≤ at → Going (take 12288 T₀) T end at s (run_of size h r).after → Scanned g (take 12288 T₀) T s
going_done {T₀} {T} {end} {at} {g} {s} size h r l w =
    let q = run_of size h r in
    let rep : Rep T s (run_of size h r).after = done-of w.tokens w.state l (omega (arith, w.rep.has.size)) w.left w.trace w.rep in
    record {
      state = (run_of size h r).after;
      tokens = (run_of size h r).ok.tokens;
      rep = rep;
      count = omega (arith, (run_of size h r).cost, (run_of size h r).depth, size-costs g r.holds.proper);
      starts = (run_of size h r).starts;
      every = (run_of size h r).adds.every;
      only = λ x u m. ⊎_elim (λ b. absurd b) (λ b. b) ((run_of size h r).adds.only x u m);
      firsts = (run_of size h r).firsts;
      listed = subst (λ (K : List ℕ). Listed K (run_of size h r).after.rows (rules g) (run_of size h r).firsts)
          (sym (run_of size h r).ok.tokens) (subst (λ (l : List ℕ). Listed (take 12288 T₀) l (rules g) (run_of size h r).firsts)
          (sym (run_of size h r).rows) (run_of size h r).listed);
      laid = laid-starts size h r;
      whole = λ F T' f.
          let x = (run_of size h r).sound F T' (subst (λ (K : List ℕ). Final g K (run_of size h r).after.list (run_of size h r).starts F T') (run_of size h r).ok.tokens f) in
          record {
            rule = λ y u m. ⊎_elim (λ b. absurd b) (λ b. b) (x.0.rule y u m);
            bodies = x.1;
            spelt = λ p k. ⊎_elim (λ b. absurd (let e : p < 0 = b in omega arith)) (λ b. b) (x.0.spelt p k);
            covered = λ p k. ⊎_elim (λ b. absurd (let e : p < 0 = b in omega arith)) (λ b. b) (x.0.covered p k);
            apart = λ y u m. ⊎_elim (λ b. absurd b) (λ b. b) (x.0.apart y u m);
            clean = x.0.clean;
            single = λ y u v a b. x.0.single (λ p q m. absurd m) y u v (omega arith) a b;
          };
    }
