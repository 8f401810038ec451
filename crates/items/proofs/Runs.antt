-- Runs of the machine over tokens: what they add stays where it is, and is sound in every table that takes it over.
use mathlib.Core.List.{List, [], ◌∷◌, ◌++◌, append_assoc, append-nil}
use mathlib.Core.Logic.{inr}
use mathlib.Core.Path.{◌≡◌, refl, sym, ap, ◌∙◌, subst}
use Prim.Native.Nat.{ℕ, ◌+◌, ◌*◌, ◌≤◌}
use native.Mathlib.Omega.{arith}
use lib.ListN.{length, drop, length-append}
use lib.Seq.{drop-drop, drop-append_seam}
use Rattle.tree.specs.Tree.{Symbol, Grammar}
use Rattle.tree.specs.Tokens.{Token, numbers, encode}
use Rattle.plain.specs.Written.{kind, made}
use Rattle.tokens.specs.Lengths.{first_number}
use Rattle.items.specs.Items.{Starts, Among, Stands, st-made, Reads, lead}
use Rattle.items.specs.Machine.{Abs, Act, Fit, action_of}
use Rattle.items.specs.Scanned.{At}
use Rattle.items.specs.Final.{Placed, PlacedAll, Final}
use Rattle.items.proofs.Blocks.{placed-append, Blocks, Sound, sound_none, sound-then, blocks-sound}

pub data Trace : List Token → ℕ → Abs → Abs → Type 0 where
  t-done : {at : ℕ} {a : Abs} → Trace [] at a a
  t-step : {t : Token} {ts : List Token} {at : ℕ} {a b z : Abs} → Act (action_of (first_number t)) at a b → Fit b → Trace ts (at + length (numbers t)) b z → Trace (t ∷ ts) at a z

pub trace-append : {us vs : List Token} {at : ℕ} {a b c : Abs} → Trace us at a b → Trace vs (at + length (encode us)) b c → Trace (us ++ vs) at a c
trace-append {vs = vs} {c = c} (t-done {at = at} {a = a}) w = subst (λ (k : ℕ). Trace vs k a c) (let e : at + 0 ≡ at = omega arith in e) w
trace-append {vs = vs} {c = c} (t-step {t = t} {ts = ts} {at = at} {z = z} x f v) w = t-step x f
    (trace-append v (subst (λ (k : ℕ). Trace vs k z c)
    (let e : at + length (numbers t ++ encode ts) ≡ at + length (numbers t) + length
    (encode ts) = omega (arith, length-append (numbers t) (encode ts)) in e) w))

encode-append : (us vs : List Token) → encode (us ++ vs) ≡ encode us ++ encode vs
encode-append [] vs = refl
encode-append (u ∷ us) vs = ap (λ (l : List ℕ). numbers u ++ l) (encode-append us vs) ∙ sym (append_assoc (numbers u) (encode us) (encode vs))

module _ {K : List ℕ} {at : ℕ} (us vs : List Token) (w : At K at (us ++ vs)) where
  parts : drop at K ≡ encode us ++ (encode vs ++ w.more)
  parts = w.stands ∙ ap (λ (l : List ℕ). l ++ w.more) (encode-append us vs) ∙ append_assoc (encode us) (encode vs) w.more

  pub at_left : At K at us
  at_left = record { more = encode vs ++ w.more; stands = parts }

  pub at_right : At K (at + length (encode us)) vs
  at_right = record { more = w.more; stands = sym (drop-drop (length (encode us)) at K) ∙ ap (drop (length (encode us))) parts ∙ drop-append_seam (encode us) (encode vs ++ w.more) }

pub record Ok (K : List ℕ) (a : Abs) : Type 0 where
  pub tokens : a.tokens ≡ K
  pub list : length a.list ≡ 3 * a.items
  pub stack : length a.stack ≡ 3 * a.depth
  pub fit : Fit a

pub record Run (g : Grammar) (K : List ℕ) (us : List Token) (at : ℕ) (a b : Abs) (S S' : Starts) : Type 0 where
  pub trace : Trace us at a b
  pub ok : Ok K b
  pub more : List ℕ
  pub list : b.list ≡ a.list ++ more
  pub grew : a.items ≤ b.items
  pub rows : b.rows ≡ a.rows
  pub rules : b.rules ≡ a.rules
  pub base : b.base ≡ a.base
  pub later : (x : ℕ) (s : Symbol) → Among x s S → Among x s S'
  pub sound : (F : List ℕ) (T : Starts) → Final g K b.list S' F T → Sound F g T a.items b.items S S' [] []

pub among_later : (B S : Starts) (x : ℕ) (s : Symbol) → Among x s S → Among x s (B ++ S)
among_later [] S x s m = m
among_later (y ∷ B) S x s m = inr (among_later B S x s m)

module _ {g : Grammar} {K : List ℕ} where
  pub shorter : {a : Abs} {l : List ℕ} {S S' : Starts} (more : List ℕ) → Ok K a → l ≡ a.list ++ more
      → ((x : ℕ) (s : Symbol) → Among x s S → Among x s S') → (F : List ℕ) (T : Starts) → Final g K l S' F T → Final g K a.list S F T
  shorter {a} more k e later F T f = record {
    tokens = f.tokens;
    placed = (placed-append F g T a.list more a.items 0 k.list (subst (λ (l : List ℕ). PlacedAll F g T 0 l) e f.placed)).0;
    sub = λ x s m. f.sub x s (later x s m);
  }

  pub run_none : {at : ℕ} {a : Abs} (S : Starts) → Ok K a → Run g K [] at a a S S
  run_none {a = a} S k = record {
    trace = t-done;
    ok = k;
    more = [];
    list = sym (append-nil a.list);
    grew = omega arith;
    rows = refl;
    rules = refl;
    base = refl;
    later = λ x s m. m;
    sound = λ F T f. sound_none a.items S;
  }

  pub run-then : {us vs : List Token} {at : ℕ} {a b c : Abs} {S S' S'' : Starts} → Run g K us at a b S S' → Run g K vs (at + length (encode us)) b c S' S'' → Run g K (us ++ vs) at a c S S''
  run-then {a = a} v w = record {
    trace = trace-append v.trace w.trace;
    ok = w.ok;
    more = v.more ++ w.more;
    list = w.list ∙ ap (λ (l : List ℕ). l ++ w.more) v.list ∙ append_assoc a.list v.more w.more;
    grew = omega (arith, v.grew, w.grew);
    rows = w.rows ∙ v.rows;
    rules = w.rules ∙ v.rules;
    base = w.base ∙ v.base;
    later = λ x s m. w.later x s (v.later x s m);
    sound = λ F T f. sound-then {rs = []} {rs' = []} {xs = []} {xs' = []} w.later refl w.grew (v.sound F T (shorter w.more v.ok w.list w.later F T f)) (w.sound F T f);
  }

  -- a token that adds no item
  pub run-quiet : {at : ℕ} {a b : Abs} (t : Token) (S : Starts) → Act (action_of (first_number t)) at a b → Ok K b → b.list ≡ a.list
      → b.items ≡ a.items → b.rows ≡ a.rows → b.rules ≡ a.rules → b.base ≡ a.base → Run g K (t ∷ []) at a b S S
  run-quiet {a = a} {b = b} t S x k l i r u e = record {
    trace = t-step x k.fit t-done;
    ok = k;
    more = [];
    list = l ∙ sym (append-nil a.list);
    grew = omega arith;
    rows = r;
    rules = u;
    base = e;
    later = λ y s m. m;
    sound = λ F T f. subst (λ (n : ℕ). Sound F g T a.items n S S [] []) (sym i) (sound_none a.items S);
  }

  -- a block of items
  pub sound-block : {a : Abs} (b : Abs) (S B : Starts) (xs : List ℕ) (m : ℕ) → Ok K a → b.list ≡ a.list ++ xs → length xs ≡ 3 * m
      → b.items ≡ a.items + m → (F : List ℕ) (T : Starts) → Final g K b.list (B ++ S) F T → Blocks F g T a.items xs B
      → Sound F g T a.items b.items S (B ++ S) [] []
  sound-block {a} b S B xs m k l w i F T f bl = subst (λ (n : ℕ). Sound F g T a.items n S (B ++ S) [] []) (sym i)
      (blocks-sound m S bl (subst (λ (p : ℕ). PlacedAll F g T p xs) (let z : 0 + a.items ≡ a.items = omega arith in
      z) (placed-append F g T a.list xs a.items 0 k.list (subst (λ (l : List ℕ). PlacedAll F g T 0 l) l f.placed)).1) w)

  -- a token that adds a block
  pub run-block : {at : ℕ} {a b : Abs} (t : Token) (S B : Starts) (xs : List ℕ) (m : ℕ) → Act (action_of (first_number t)) at a b → Ok K a
      → Ok K b → b.list ≡ a.list ++ xs → length xs ≡ 3 * m → b.items ≡ a.items + m → b.rows ≡ a.rows → b.rules ≡ a.rules
      → b.base ≡ a.base → ((F : List ℕ) (T : Starts) → Final g K b.list (B ++ S) F T → Blocks F g T a.items xs B)
      → Run g K (t ∷ []) at a b S (B ++ S)
  run-block {a = a} {b = b} t S B xs m x k k' l w i r u e bl = record {
    trace = t-step x k'.fit t-done;
    ok = k';
    more = xs;
    list = l;
    grew = omega arith;
    rows = r;
    rules = u;
    base = e;
    later = among_later B S;
    sound = λ F T f. sound-block b S B xs m k l w i F T f (bl F T f);
  }

  pub reads-final : {I : List ℕ} {S : Starts} {at : ℕ} {us : List Token} → At K at us → (F : List ℕ) (T : Starts) → Final g K I S F T → Reads F at us
  reads-final {at = at} w F T f = record { more = w.more; stands = ap (drop at) f.tokens ∙ w.stands }

-- an entry that refers to a made rule
pub means-made : (F : List ℕ) (g : Grammar) (T : Starts) (x q : ℕ) (s : Symbol) → kind s ≡ made → Reads F q (lead s) → Among x s T
    → (p : ℕ) → Placed F g T p 4 x q → Stands F g T p s
means-made F g T x q s d r m p w =
    let k = w.kept (λ e. omega arith) in
    st-made d k.0 (subst (λ (y : ℕ). Reads F y (lead s)) (sym k.2) r) (subst (λ (y : ℕ). Among y s T) (sym k.1) m)
