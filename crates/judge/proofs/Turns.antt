-- The turns of a walk over a list, and its end.
use mathlib.Core.Path.{◌≡◌, refl, sym, ◌∙◌, subst}
use mathlib.Core.Bool.{Bool, true, false}
use mathlib.Core.List.{List}
use Prim.Native.Nat.{ℕ, ◌<◌, ◌≤◌}
use native.Mathlib.Omega.{arith}
use lib.ListN.{length, set}
use Rattle.std.specs.Prelude.{Option, Some, None}
use Rattle.text.specs.Lists.{Text}
use Rattle.tree.specs.Tree.{Grammar}
use Rattle.items.specs.Items.{Starts}
use Rattle.left_parse.specs.declared.Position.{Position}
use Rattle.left_parse.specs.Walk.{Over}
use Rattle.left_parse.specs.Steps.{Going}
use Rattle.judge.specs.Due.{Named}
use Rattle.judge.specs.Tracks.{Table, Tracks, SomeTracks, Moved, Refuted, Steps, Walked}
use Rattle.judge.proofs.Moves.{over-named, over-list, over-record}

-- what holds of every turn, from where the walk began
pub record Turned (T P : List ℕ) (r : Text) (S₀ S : List ℕ) (h₀ h : Position) : Type 0 where
  pub some : SomeTracks T P r S h
  pub long : length S ≡ length S₀
  pub tracks : (g : Grammar) (starts : Starts) → Table T g starts → Tracks T P r S₀ h₀ g starts → Tracks T P r S h g starts
  pub goes : (F : List ℕ) (e i : ℕ) → Going T P S₀ h₀ F e i → Going T P S h F e i

pub turn-begin : {T P : List ℕ} {r : Text} {S : List ℕ} {h : Position} → SomeTracks T P r S h → Turned T P r S S h h
turn-begin w = record { some = w; long = refl; tracks = λ g starts B D. D; goes = λ F e i G. G }

module _ {T P : List ℕ} {r : Text} {S₀ S : List ℕ} {h₀ h : Position} (w : Turned T P r S₀ S h₀ h) where
  pub turn_on : {S' : List ℕ} {v : Option Position} {n : Position} → Steps T P r S S' h v → v ≡ Some n → length S' ≡ length S → Turned T P r S₀ S' h₀ n
  turn_on {S'} {v} {n} s e l =
      let m : Moved T P r S S' h n = subst (Steps T P r S S' h) e s in
      let o = w.some in
      record {
        some = record {
          lent = record { table = o.lent.table; list = o.lent.list; short = o.lent.short; room = omega (arith, o.lent.room) };
          g = o.g;
          starts = o.starts;
          table = o.table;
          tracks = m.tracks o.g o.starts o.table o.tracks;
        };
        long = l ∙ w.long;
        tracks = λ g starts B D. m.tracks g starts B (w.tracks g starts B D);
        goes = λ F e i G. m.goes F e i (w.goes F e i G);
      }

  pub turn-falls : {S' : List ℕ} {v : Option Position} {n : Position} → Steps T P r S S' h v → v ≡ Some n → Moved T P r S S' h n
  turn-falls {S'} s e = subst (Steps T P r S S' h) e s

  -- a list that names nothing
  named_none : {S' : List ℕ} {b : Bool} → b ≡ false → ((g : Grammar) (starts : Starts) → Table T g starts → Tracks T P r S h g starts → Named P g r → ⊥)
      → Walked T P r S₀ S' h₀ b
  named_none {b = b} y none = record {
    yes = λ e. absurd (clash e);
    no = λ e g starts B D. none g starts B (w.tracks g starts B D);
    noted = λ e. absurd (clash e);
  }
    where
      clash : b ≡ true → ⊥
      clash e = let f : true ≡ false = sym e ∙ y in let z : ◌≡◌ {A = ℕ} 0 1 = cc in omega arith

  pub walked-stuck : {S' : List ℕ} {v : Option Position} → Steps T P r S S' h v → v ≡ None → Walked T P r S₀ S' h₀ false
  walked-stuck {S'} s e = let f : Refuted T P r S h = subst (Steps T P r S S' h) e s in named_none refl f.no

  pub walked-list : Over T h → h.entry < length P → Walked T P r S₀ S h₀ false
  walked-list o l = named_none refl (λ g starts B D. over-list o D l)

  pub walked-record : Over T h → h.place.0 < length r → Walked T P r S₀ S h₀ false
  walked-record o l = named_none refl (λ g starts B D. over-record o D l)

  pub walked_whole : Over T h → length P ≤ h.entry → length r ≤ h.place.0 → Walked T P r S₀ (set (set S 0 h.entry) 1 h.place.0) h₀ true
  walked_whole o l m = record {
    yes = λ e g starts B D. over-named o (w.tracks g starts B D) l m;
    no = λ e. absurd (let z : ◌≡◌ {A = ℕ} 0 1 = cc in omega arith);
    noted = λ e F k i G. record { last = h; scratch = S; goes = w.goes F k i G; over = o; noted = refl };
  }
