-- From the judgment of a list to its conclusion.
use mathlib.Core.Bool.{Bool, true, false}
use mathlib.Core.Path.{◌≡◌, refl}
use mathlib.Core.List.{List}
use Prim.Native.Nat.{ℕ}
use native.Mathlib.Omega.{arith}
use lib.ListN.{length}
use Rattle.text.specs.Lists.{Text}
use Rattle.text.specs.Stages.{plainly}
use Rattle.tree.specs.Tree.{Grammar}
use Rattle.derive.specs.Derive.{Row}
use Rattle.judge.specs.Due.{Named}
use Rattle.judge.specs.Tracks.{Asked, Judged}
use Rattle.std.specs.Prelude.{Result}
use Rattle.convert.specs.declared.ConvertError.{ConvertError}
use Rattle.convert.specs.Concluded.{Parsing, Annotated, Concludes}
use Rattle.exported.specs.declared.Answer.{Answer}
use Rattle.exported.specs.Exported.{refusal_of}
use Rattle.outcome.specs.Outcome.{answer_of}
use Rattle.outcome.specs.Judging.{Stands, Judgeable, accepted, declined, Concluded}

module _ {T : List ℕ} {R : ℕ} {P : List ℕ} {r : Text} {S : List ℕ} (w : Judgeable T R P r S) where
  pub asked : Asked T R P r S
  asked = record { lent = w.lent; g = w.g; given = w.stands.given }

  module _ {S' : List ℕ} {b : Bool} (J : Judged T R P r S' b) where
    -- the list names a derivation by the rules in the table
    named_by : (e : b ≡ true) (g : Grammar) (s : Stands T R g) → Parsing T R P r g (J.yes e g s.given).0
    named_by e g s =
        let n : Named P g r = J.yes e g s.given in
        record { parsed = record { items = s.given.items; derives = n.1; parse = n.2; short = omega (arith, w.lent.short) }; tokens = s.tokens }

    pub annotated : b ≡ true → length S' ≡ length S → Annotated T R P r S'
    annotated e l = record {
      room = record { table = omega (arith, w.lent.table); list = w.lent.list; scratch = omega (arith, w.lent.room) };
      g = w.g;
      t = (J.yes e w.g w.stands.given).0;
      parsing = named_by e w.g w.stands;
      noted = J.noted e;
    }

    pub concluded-list : {m : Bool} {old new : List ℕ} {v : Result ℕ ConvertError} {a : Answer} → b ≡ true
        → ((g : Grammar) (t : Row) → Parsing T R P r g t → Concludes g r t false m old new v) → a ≡ answer_of v false m → Concluded T R P r m old new a
    concluded-list {v = v} e h z = λ g s.
        let n : Named P g r = J.yes e g s.given in
        accepted (record { row = n.0; named = n; is = refl; converted = v; concludes = h g n.0 (named_by e g s); answer = z })

    pub declined-list : {m : Bool} {old : List ℕ} {a : Answer} → b ≡ false → a ≡ refusal_of (record { why = plainly 25; mismatch = false }) → Concluded T R P r m old old a
    declined-list e z = λ g s. declined (record { none = J.no e g s.given; answer = z; buffer = refl })
