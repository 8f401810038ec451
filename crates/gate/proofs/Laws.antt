-- The laws of specs/Laws.antt.
use mathlib.Core.Bool.{Bool, true, false, not, ◌&&◌}
use mathlib.Core.Logic.{◌↔◌}
use mathlib.Core.Path.{◌≡◌, refl}
use Prim.Native.Nat.{ℕ}
use native.Mathlib.Omega.{arith}
use lib.Dec.{T}
use lib.Ieee.{Float}
use Rattle.std.specs.Prelude.{Ok}
use Rattle.text.specs.Lists.{Text, pick}
use Rattle.decimal.specs.Value.{num, Valued}
use Rattle.gate.specs.Gate.{position, beyond, inside, is_box, exchanged, swapped, verdict_of, Ruling, Rules, unsound, no_number, too_far, judged}
use Rattle.gate.specs.Laws.{IsSwapped, Laws}
use Rattle.gate.specs.declared.Gate.{Gate}
use Rattle.gate.specs.declared.Position.{Position}
use Rattle.gate.specs.declared.Verdict.{Verdict}
use Rattle.gate.specs.declared.Verdict.TheVariants.{Inside, Swapped, Suspect}
use Rattle.gate.proofs.Rulings.{rules, one-ruling}
use Rattle.gate.proofs.Attributes.{attribute, bare}

-- the verdict from the two tests
abbrev pick_verdict : Bool → Bool → Verdict
pick_verdict a b = pick a Inside (pick b Swapped Suspect)

inside-test : (a b : Bool) → (pick_verdict a b ≡ Inside) ↔ T a
inside-test true b = (λ e. tt, λ h. refl)
inside-test false true = (λ e. absurd (let z : ◌≡◌ {A = ℕ} 0 1 = cc in omega arith), λ h. absurd h)
inside-test false false = (λ e. absurd (let z : ◌≡◌ {A = ℕ} 0 1 = cc in omega arith), λ h. absurd h)

swapped_test : (a b : Bool) → pick_verdict a b ≡ Swapped → T (not a) × T b
swapped_test true b e = absurd (let z : ◌≡◌ {A = ℕ} 0 1 = cc in omega arith)
swapped_test false true e = (tt, tt)
swapped_test false false e = absurd (let z : ◌≡◌ {A = ℕ} 0 1 = cc in omega arith)

swapped-verdict : (a b : Bool) → T (not a) → T b → pick_verdict a b ≡ Swapped
swapped-verdict true b h k = absurd h
swapped-verdict false true h k = refl
swapped-verdict false false h k = absurd k

three : (a b c : Bool) → T (a && (b && c)) → T a × T b × T c
three true true true h = (tt, tt, tt)
three true true false h = absurd h
three true false c h = absurd h
three false b c h = absurd h

all_three : (a b c : Bool) → T a → T b → T c → T (a && (b && c))
all_three true true c h k l = l
all_three true false c h k l = absurd k
all_three false b c h k l = absurd h

is-swapped : (g : Gate) (p : Position) → (verdict_of g p ≡ Swapped) ↔ IsSwapped g p
is-swapped g p = (
  λ e.
      let s = swapped_test (inside g p) (swapped g p) e in
      let x = three (is_box g) (not (beyond (num 90) (exchanged p).lat.0)) (inside g (exchanged p)) s.1 in
      record { box = x.0; outside = s.0; exchanged_inside = x.2; within_range = x.1 },
  λ x.
      swapped-verdict (inside g p) (swapped g p) x.outside
      (all_three (is_box g) (not (beyond (num 90) (exchanged p).lat.0)) (inside g (exchanged p)) x.box x.within_range x.exchanged_inside),
)

Exchanges : Gate → Text → Text → Type 0
Exchanges g lat lon = (x : Float) × (y : Float) × Valued lat x × Valued lon y × IsSwapped g (position x y)

swapped-texts : (g : Gate) (lat lon : Text) (r : Ruling) → Rules g lat lon r → r ≡ Ok Swapped → Exchanges g lat lon
unfolding Exchanges
swapped-texts g lat lon r (unsound u) e = absurd (let z : ◌≡◌ {A = ℕ} 0 1 = cc in omega arith)
swapped-texts g lat lon r (no_number s n) e = absurd (let z : ◌≡◌ {A = ℕ} 0 1 = cc in omega arith)
swapped-texts g lat lon r (too_far s a b f) e = absurd (let z : ◌≡◌ {A = ℕ} 0 1 = cc in omega arith)
swapped-texts g lat lon r (judged {x} {y} s a b f) e =
    let v : verdict_of g (position x y) ≡ Swapped = cc in
    (x, y, a, b, (is-swapped g (position x y)).0 v)

pub laws-hold : Laws
unfolding Exchanges
laws-hold = record {
  rules = rules;
  one = one-ruling;
  twice = λ p. refl;
  is_inside = λ g p. inside-test (inside g p) (swapped g p);
  is_swapped = is-swapped;
  swapped_texts = λ g lat lon h. swapped-texts g lat lon (Ok Swapped) h refl;
  attribute = attribute;
  bare = bare;
}
