-- From a checked tree to its plain rules, and to 24.
use mathlib.Core.Bool.{Bool, true, false}
use mathlib.Core.Path.{◌≡◌, refl, sym, ap, ◌∙◌, subst}
use mathlib.Core.Logic.{inr}
use mathlib.Core.List.{List, ◌++◌}
use Prim.Native.Nat.{ℕ, ◌≤◌}
use native.Mathlib.Omega.{arith}
use lib.ListN.{length, take, drop, take-append-drop}
use lib.Seq.{take-take}
use Rattle.text.specs.Limits.{grammar_table, most_size}
use Rattle.text.specs.Lists.{pick}
use Rattle.text.specs.Stages.{plainly}
use Rattle.text.specs.declared.Diagnostic.{Diagnostic}
use Rattle.tree.specs.Tree.{Grammar}
use Rattle.tree.specs.Tokens.{grammar_tokens}
use Rattle.plain.specs.Static.{undefined, duplicate, beyond, banned, backwards, unclassed}
use Rattle.derive.specs.Yield.{unproductive}
use Rattle.items.specs.Items.{Reads}
use Rattle.items.specs.Built.{Built}
use Rattle.items.specs.Scanned.{Readable, Prepared}
use Rattle.rules.specs.Ready.{Ready}
use Rattle.rules.proofs.Sounds.{ready}
use Rattle.static_errors.specs.Held.{static_of}
use Rattle.load.specs.declared.Passed.{Passed}
use Rattle.load.specs.Loaded.{Loads, Turned}
use Rattle.load.specs.Loaded as load
use Rattle.load.proofs.Proper.{grammar-proper}
use Rattle.load.proofs.Stages.{to-size}
use Rattle.accept.specs.Accepted.{Kept}

-- no static rule is broken
record Lawful (g : Grammar) : Type 0 where
  defined : undefined g ≡ false
  simple : duplicate g ≡ false
  within : beyond g ≡ false
  classed : unclassed g ≡ false

lawful : (g : Grammar) → static_of g ≡ 0 → Lawful g
unfolding static_of
lawful g e = go (undefined g) (duplicate g) (beyond g) (banned g) (backwards g) (unclassed g) refl refl refl refl e
  where
    go : (a b c d f h : Bool) → undefined g ≡ a → duplicate g ≡ b → beyond g ≡ c → unclassed g ≡ h
        → ◌≡◌ {A = ℕ} (pick a 5 (pick b 6 (pick c 7 (pick d 8 (pick f 9 (pick h 10 0)))))) 0 → Lawful g
    go true b c d f h p q r s e = absurd (let z : ◌≡◌ {A = ℕ} 5 0 = e in omega arith)
    go false true c d f h p q r s e = absurd (let z : ◌≡◌ {A = ℕ} 6 0 = e in omega arith)
    go false false true d f h p q r s e = absurd (let z : ◌≡◌ {A = ℕ} 7 0 = e in omega arith)
    go false false false true f h p q r s e = absurd (let z : ◌≡◌ {A = ℕ} 8 0 = e in omega arith)
    go false false false false true h p q r s e = absurd (let z : ◌≡◌ {A = ℕ} 9 0 = e in omega arith)
    go false false false false false true p q r s e = absurd (let z : ◌≡◌ {A = ℕ} 10 0 = e in omega arith)
    go false false false false false false p q r s e = record { defined = p; simple = q; within = r; classed = s }

module _ (bs T : List ℕ) (p : Passed) (loaded : load.Kept bs T p) where
  abbrev g : Grammar
  g = loaded.tree

  laws : Lawful g
  laws = lawful g loaded.static

  pub readable : Readable T p.end g
  readable = record { holds = to-size T p.end g loaded.stands; small = loaded.small; known = laws.defined }

  pub prepared : length T ≡ grammar_table → Prepared T p.end
  prepared m = record { tree = g; readable = readable; size = m; inside = loaded.inside }

  pub small : p.size ≤ most_size
  small = omega (arith, loaded.sized, loaded.small)

  module _ (T' : List ℕ) (root n : ℕ) (e : n ≡ p.size) (b : (take p.end T' ≡ take p.end T) × Built T' g root) where
    pub is-ready : Ready T' g n root
    is-ready = subst (λ (k : ℕ). Ready T' g k root) (sym (e ∙ loaded.sized)) (ready b.1 (grammar-proper loaded.stands.derived) laws.simple laws.within laws.classed)

    tokens-there : Reads T' 0 (grammar_tokens g)
    tokens-there = record {
      more = drop p.end (take 12288 T');
      stands =
          sym (take-append-drop p.end (take 12288 T'))
          ∙ ap (λ (l : List ℕ). l ++ drop p.end (take 12288 T')) (take-take p.end 12288 T' loaded.inside ∙ b.0 ∙ loaded.stands.held);
    }

    pub unproductive-turned : (k : Diagnostic) → k ≡ plainly 24 → unproductive g ≡ true → Turned bs k
    unproductive-turned k f u = subst (Turned bs) (sym f) (record {
      some = λ z. omega arith;
      early = inr refl;
      first = λ ts. loaded.first ts ∙ rw u;
      places = refl;
    })

    pub kept : unproductive g ≡ false → Kept bs T' (record { root = root; size = n; mismatch = p.mismatch; end = p.end })
    kept u = record {
      tree = g;
      is = loaded.is;
      first = λ ts. loaded.first ts ∙ rw u;
      version = loaded.version;
      sized = e ∙ loaded.sized;
      small = loaded.small;
      productive = u;
      ready = is-ready;
      tokens = tokens-there;
      stands = record { text = loaded.stands.text; derived = loaded.stands.derived; held = b.0 ∙ loaded.stands.held };
      inside = loaded.inside;
    }
