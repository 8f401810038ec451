-- The tests from 5 to 11 come to what the static rules and the size say.
use mathlib.Core.Bool.{Bool, true, false}
use mathlib.Core.Path.{◌≡◌, refl, sym, subst, ◌∙◌}
use mathlib.Core.List.{List, ◌∷◌}
use Prim.Native.Nat.{ℕ, ◌≤◌, ◌<◌}
use native.Mathlib.Omega.{arith}
use lib.Dec.{ltb}
use lib.ListN.{length}
use borrow.Author.Tests.{lt-ltb, le-ltb}
use Rattle.text.specs.Limits.{most_size}
use Rattle.text.specs.Lists.{Text, pick}
use Rattle.tree.specs.Tree.{Grammar}
use Rattle.plain.specs.Static.{undefined, duplicate, beyond, banned, backwards, unclassed, mismatched}
use Rattle.plain.specs.Plain.{size}
use Rattle.answer.specs.Compute.{Test, test, first_of}
use Rattle.static_errors.specs.declared.StaticError.{StaticError}
use Rattle.static_errors.specs.Held.{static_of, rule_number}
use Rattle.static_errors.proofs.Rulings.{some-rule}
use Rattle.static_errors.specs.Held as static
use Rattle.tokens.specs.Lengths as tokens
use Rattle.measure.specs.Costs as sizes
use Rattle.locate.specs.Asked.{Asked}
use Rattle.load.specs.Checked.{Stands, Standing, tree_tests, Refuses, Passes}
use Rattle.load.proofs.Proper.{grammar-proper}
use Rattle.load.proofs.Written.{written-proper}

-- six tests in a row
abbrev chain_of : Bool → Bool → Bool → Bool → Bool → Bool → ℕ
chain_of a b c d e f = pick a 5 (pick b 6 (pick c 7 (pick d 8 (pick e 9 (pick f 10 0)))))

abbrev row_of : Bool → Bool → Bool → Bool → Bool → Bool → List Test → List Test
row_of a b c d e f ts = test 5 (λ _. a) ∷ test 6 (λ _. b) ∷ test 7 (λ _. c) ∷ test 8 (λ _. d) ∷ test 9 (λ _. e) ∷ test 10 (λ _. f) ∷ ts

one_passes : (a b c d e f : Bool) (ts : List Test) → (chain_of a b c d e f ≡ 0 → ⊥) → first_of (row_of a b c d e f ts) ≡ chain_of a b c d e f
one_passes true b c d e f ts h = refl
one_passes false true c d e f ts h = refl
one_passes false false true d e f ts h = refl
one_passes false false false true e f ts h = refl
one_passes false false false false true f ts h = refl
one_passes false false false false false true ts h = refl
one_passes false false false false false false ts h = absurd (h refl)

none_passes : (a b c d e f : Bool) (ts : List Test) → chain_of a b c d e f ≡ 0 → first_of (row_of a b c d e f ts) ≡ first_of ts
none_passes true b c d e f ts h = absurd (omega arith)
none_passes false true c d e f ts h = absurd (omega arith)
none_passes false false true d e f ts h = absurd (omega arith)
none_passes false false false true e f ts h = absurd (omega arith)
none_passes false false false false true f ts h = absurd (omega arith)
none_passes false false false false false true ts h = absurd (omega arith)
none_passes false false false false false false ts h = refl

-- a static rule refuses
static-refuses : (g : Grammar) (n : ℕ) → n ≡ static_of g → (n ≡ 0 → ⊥) → Refuses g n
unfolding static_of
static-refuses g n e h =
    record {
      some = h;
      first = λ ts.
          one_passes (undefined g) (duplicate g) (beyond g) (banned g) (backwards g) (unclassed g) (test 11 (λ _. ltb most_size (size g)) ∷ ts) (λ z. h (e ∙ z)) ∙ sym e;
    }

-- the same of the rule that is named
pub broken : (g : Grammar) (e : StaticError) (n : ℕ) → n ≡ rule_number e → rule_number e ≡ static_of g → Refuses g n
broken g e n f q = static-refuses g n (f ∙ q) (λ z. some-rule e (sym f ∙ z))

passes-static : (g : Grammar) → static_of g ≡ 0 → (ts : List Test) → first_of (tree_tests g ts) ≡ first_of (test 11 (λ _. ltb most_size (size g)) ∷ ts)
unfolding static_of
passes-static g z ts = none_passes (undefined g) (duplicate g) (beyond g) (banned g) (backwards g) (unclassed g) (test 11 (λ _. ltb most_size (size g)) ∷ ts) z

eleven : ◌≡◌ {A = ℕ} 11 0 → ⊥
eleven e = omega arith

pub size-refuses : (g : Grammar) (s : ℕ) → static_of g ≡ 0 → s ≡ size g → 512 < s → Refuses g 11
size-refuses g s z e l =
    let w : ltb most_size (size g) ≡ true = lt-ltb most_size (size g) (omega arith) in
    record { some = eleven; first = λ ts. passes-static g z ts ∙ rw w }

pub passes : (g : Grammar) (end : ℕ) (s : ℕ) (m : Bool) → static_of g ≡ 0 → s ≡ size g → s ≤ 512 → m ≡ mismatched g → Passes g end (record { end = end; size = s; mismatch = m })
passes g end s m z e l v =
    let h : size g ≤ most_size = omega arith in
    let w : ltb most_size (size g) ≡ false = le-ltb most_size (size g) h in
    record { tokens = refl; sized = e; small = h; static = z; version = v; first = λ ts. passes-static g z ts ∙ rw w }

-- what the stages ask for
pub to-static : (T : List ℕ) (end : ℕ) (g : Grammar) → end ≤ length T → Stands T end g → static.Holds T end g
to-static T end g w s = record { within = w; held = s.held; proper = written-proper s.derived }

pub to-size : (T : List ℕ) (end : ℕ) (g : Grammar) → Stands T end g → tokens.Holds T end g
to-size T end g s = record { proper = grammar-proper s.derived; stands = s.held }

pub static-asks : (s : Text) (T : List ℕ) (end : ℕ) → Standing s T end → static.Held T end
static-asks c T end s = let w = s.within in let h = s.short in record { grammar = s.grammar; holds = to-static T end s.grammar w s.stands; short = omega arith }

pub size-asks : (s : Text) (T : List ℕ) (end : ℕ) → Standing s T end → sizes.Tree T end
size-asks c T end s = let w = s.within in let h = s.short in record { tree = s.grammar; holds = to-size T end s.grammar s.stands; inside = w; small = omega arith }

-- the place of the rule that is broken
pub place-asks : (s : Text) (T : List ℕ) (end : ℕ) (x : Standing s T end) (e : StaticError) → rule_number e ≡ static_of x.grammar → Asked s T end (rule_number e)
place-asks s T end x e q = let h = x.short in let w = x.within in record {
  grammar = x.grammar;
  parse = x.parse;
  holds = to-static T end x.grammar w x.stands;
  small = x.chars;
  short = omega arith;
  broken = sym q;
  some = some-rule e;
}

pub at-most-10 : (g : Grammar) (n : ℕ) → n ≡ static_of g → n ≤ 10
unfolding static_of
at-most-10 g n e = subst (λ (m : ℕ). m ≤ 10) (sym e) (by (undefined g) (duplicate g) (beyond g) (banned g) (backwards g) (unclassed g))
  where
    by : (a b c d e f : Bool) → chain_of a b c d e f ≤ 10
    by true b c d e f = omega arith
    by false true c d e f = omega arith
    by false false true d e f = omega arith
    by false false false true e f = omega arith
    by false false false false true f = omega arith
    by false false false false false true = omega arith
    by false false false false false false = omega arith
