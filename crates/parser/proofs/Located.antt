-- From what the stages of the search promise to the place of the fault.
use mathlib.Core.Bool.{Bool, true, false}
use mathlib.Core.List.{List}
use mathlib.Core.Path.{◌≡◌, refl, sym, subst}
use Prim.Native.Nat.{ℕ, ◌+◌, ◌*◌, ◌≤◌}
use native.Mathlib.Omega.{arith}
use lib.ListN.{length, replicate, length-replicate}
use borrow.Author.Tests.{ltb-true}
use Rattle.text.specs.Lists.{Text}
use Rattle.text.specs.declared.CharPlace.{CharPlace}
use Rattle.text.proofs.Tests.{clash}
use Rattle.tree.specs.Tree.{Grammar}
use Rattle.chart.specs.Code.{Ruled}
use Rattle.chart.proofs.Users.{all-zero}
use Rattle.rules.specs.Ready.{Token}
use Rattle.right_pass.specs.Right.{Righted}
use Rattle.std.specs.Prelude.{Option, Some, None, Result, Ok, Err}
use Rattle.quick_reading.specs.Readable.{Flaggable, Flagged, Staged, Tries, is_answer, is_refused}
use Rattle.right_pass.proofs.Given.{given-of}
use Rattle.sparse.specs.Cells.{Shape, Noted}
use Rattle.sparse.specs.Steps.{Empties}
use Rattle.sparse.proofs.Coded.{shape_of}
use Rattle.reading.specs.declared.Found.{Found}
use Rattle.reading.specs.declared.Unread.{Unread}
use Rattle.reading.specs.declared.Unread.TheVariants as unread
use Rattle.reading.specs.Answer.{IsLong, NotRead, no-reading, too_long}
use Rattle.fault.specs.Firsts.{Tokened}
use Rattle.chooser.specs.Choose.{Choosable}
use Rattle.parser.specs.Choose.{Coded, Blank, LocatableAnew}
use Rattle.confirm.specs.Find.{Confirming, Confirmed}
use Rattle.confirm.proofs.Standing.{flows-of}
use Rattle.confirm.proofs.Found.{confirmed-fault}
use Rattle.parser.specs.declared.Failure.{Failure}
use Rattle.parser.specs.Chosen.{Fault, tried_of, Fails, Chooses}
use Rattle.parser.proofs.Early.{early-underived}

-- what the search is given, and what it says
module _ {Tb c M F : List ℕ} {R : Text} {size n top root main : ℕ} {g : Grammar} (a : Coded Tb c R size n top root main) (w : Noted c size F) (f : Flagged Tb c R size top M)
    (k : Ruled (Token Tb) c g size top root) where
  code-tokened : Tokened Tb c size
  code-tokened =
      let room : 4 * size ≤ length c = omega (arith, a.small, a.code-long) in
      let v = given-of k {R = R} {M = M} a.long a.small room a.short f.long in
      record { long = a.long; shape = shape_of k a.small room; here = v.here; is = v.token }

  pub confirming : Confirming Tb R c M F size n top main
  confirming = record {
    tokened = code-tokened;
    flows = rw a.ends (flows-of k code-tokened.shape f.closed f.only);
    long = a.ends;
    short = a.short;
    marks-long = omega (arith, f.long, a.ends);
    notes-long = w.long;
    room = a.room;
    root = f.closed.root;
    inside = k.root-inside;
  }

  pub fault-found : {p : ℕ} → Confirmed Tb R c M size top p → Fault g R p
  fault-found w prod held = confirmed-fault k code-tokened.shape f.closed f.only code-tokened a.short prod held w

module _ (g : Grammar) (R : Text) where
  pub is-long : NotRead g R 29 → IsLong g R
  is-long (too_long l) = l

  pub refusal : {k : ℕ} → NotRead g R 16 → Fault g R k → Fails g R k
  refusal (no-reading n) f = record { none = λ _ _. n; fault = f }

  module _ (out : List ℕ) where
    -- what the quick engine comes to, where that needs no place
    pub as-answer : (stops : Bool) (t : Option (Result Found Unread)) (k : CharPlace) {c : Result Found Failure} → c ≡ tried_of t k → is_answer t ≡ true → Tries stops g R out t → Chooses g R out c
    as-answer stops t k e h a = subst (Chooses g R out) (sym e) (go t h a)
      where
        go : (t : Option (Result Found Unread)) → is_answer t ≡ true → Tries stops g R out t → Chooses g R out (tried_of t k)
        go (Some (Ok f)) h a = a
        go (Some (Err unread.TooLong)) h a = is-long a
        go (Some (Err unread.NoReading)) h a = absurd (clash refl h)
        go None h a = absurd (clash refl h)

    -- where there is no reading
    pub as-refused : (t : Option (Result Found Unread)) (k : CharPlace) → is_answer t ≡ false → is_refused t k (length R) ≡ true → Tries true g R out t → Fault g R k.0 → Fails g R k.0
    as-refused (Some (Ok w)) k h e a f = absurd (clash h refl)
    as-refused (Some (Err unread.TooLong)) k h e a f = absurd (clash h refl)
    as-refused (Some (Err unread.NoReading)) k h e a f = refusal a f
    as-refused None k h e a f = record { none = λ p held. early-underived (f p held) (ltb-true k.0 (length R) e); fault = f }

    -- where it went to its end
    pub as-tried : (t : Option (Result Found Unread)) (k : CharPlace) {c : Result Found Failure} → c ≡ tried_of t k → Tries false g R out t → Fault g R k.0 → Chooses g R out c
    as-tried t k e a f = subst (Chooses g R out) (sym e) (go t a)
      where
        go : (t : Option (Result Found Unread)) → Tries false g R out t → Chooses g R out (tried_of t k)
        go (Some (Ok w)) a = a
        go (Some (Err unread.TooLong)) a = is-long a
        go (Some (Err unread.NoReading)) a = refusal a f
        go None a = absurd (clash refl a)

pub locatable-anew : {T : List ℕ} {size root main main' parse : ℕ} {r : Text} → Choosable T size root r main parse → main' ≡ main → LocatableAnew T size root r main'
locatable-anew a e = record { grammar = a.grammar; ready = a.ready; long = a.long; small = a.small; short = a.short; room = omega (arith, a.room) }

-- what choosing by a code is given
pub coded : {T c : List ℕ} {g : Grammar} {size root top main : ℕ} {r : Text} → LocatableAnew T size root r main → Ruled (Token T) c g size top root → length c ≡ 2048
    → Coded T c r size (length r) top root main
coded {g = g} a k l = record {
  grammar = g;
  code = k;
  long = a.long;
  small = a.small;
  code-long = l;
  short = a.short;
  ends = refl;
  room = a.room;
}

-- what its steps are given
module _ {T c : List ℕ} {size n root top : ℕ} {r : Text} where
  pub coded_kept : {main main' : ℕ} → Coded T c r size n top root main → main' ≡ main → Coded T c r size n top root main'
  coded_kept a e = subst (Coded T c r size n top root) (sym e) a

  pub coded-shape : {main : ℕ} → Coded T c r size n top root main → Shape c size
  coded-shape a = shape_of a.code a.small (omega (arith, a.small, a.code-long))

  pub flaggable : {M : List ℕ} {main : ℕ} → Coded T c r size n top root main → Blank n M → Flaggable T c r M size top root
  flaggable a b = record {
    grammar = a.grammar;
    code = a.code;
    long = a.long;
    small = a.small;
    code-long = a.code-long;
    short = a.short;
    marks-long = omega (arith, b.long, a.ends);
    none = b.none;
  }

  unfoldable pub staged : {g : Grammar} {M F : List ℕ} {main : ℕ} → Coded T c r size n top root main → Noted c size F × Empties c F size → Ruled (Token T) c g size top root
      → Righted T c r size top M → Staged c M F size n top root
  staged {g} a v k f = record {
    table = T;
    g = g;
    r = r;
    code = k;
    ends = a.ends;
    small = a.small;
    code-room = omega (arith, a.small, a.code-long);
    short = a.short;
    flags = f;
    noted = v.0;
    empties = v.1;
  }

-- flags that are all 0
pub blank : {n len : ℕ} → 1536 * n + 1536 ≤ len → Blank n (replicate {A = ℕ} len 0)
blank {len = len} h = record { long = omega (arith, length-replicate {A = ℕ} len 0); none = all-zero len }
