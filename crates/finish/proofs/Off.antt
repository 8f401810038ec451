-- From a fixed point to what the walk and the search for the fault are given.
use mathlib.Core.List.{List}
use mathlib.Core.Path.{◌≡◌, refl, sym, subst}
use Prim.Native.Nat.{ℕ, ◌+◌, ◌-◌, ◌*◌, ◌<◌, ◌≤◌}
use native.Mathlib.Decide.{ℕ_discrete}
use native.Mathlib.Omega.{arith}
use lib.Dec.{T}
use lib.ListN.{length, get_or, drop}
use Rattle.text.specs.Limits.{most_size, record_chars}
use Rattle.text.specs.Lists.{Text}
use Rattle.tree.specs.Tree.{Terminal, Grammar}
use Rattle.plain.specs.Plain.{fits}
use Rattle.chart.specs.Code.{next_kind, goes_at, rule_at, owner_at, Fitting, On, at-end, at-terminal, at_symbol, Ruled}
use Rattle.chart.specs.Heights.{stretches, none}
use Rattle.rules.specs.Ready.{Token, Ready}
use Rattle.prepare.specs.Rows.{Rows}
use Rattle.prepare.proofs.Rows.{ruled-as, fitted}
use Rattle.heights.specs.Filling.{Filled}
use Rattle.reach.specs.Flags.{Reached, Fits, Begins, Wanted, LeftClosed, FitsOnly, home_of}
use Rattle.sparse.specs.Cells.{Noted, Shape}
use Rattle.sparse.proofs.Coded.{shape_of}
use Rattle.left_pass.proofs.Shifts.{fits-within}
use Rattle.reach.proofs.Keys.{home-most}
use Rattle.sparse.specs.Steps.{Empties}
use Rattle.full.specs.Whole.{Marked}
use Rattle.full.proofs.Marks.{flag-other}
use Rattle.full.proofs.Whole.{coded, whole_code, whole-least, whole-attained, reached, wanted, flagged}
use Rattle.fixpoint.specs.Fixed.{Fixpoint}
use Rattle.fixpoint.proofs.Sound.{fixed-heights}
use Rattle.numbering.specs.Names.{name_count}
use Rattle.rounds.specs.After as rounds
use Rattle.advance.proofs.Readies.{finished-fixed, name-most}
use Rattle.reading.specs.Answer.{Finished}
use Rattle.fault.specs.Far.{Placing, Placed}
use Rattle.fault.proofs.Found as search
use Rattle.fault.proofs.Found.{Searched, found-fault}
use Rattle.parser.specs.Chosen.{Fault}
use Rattle.plain_reading.specs.Filled.{Roomy, Walkable}
use Rattle.plain_reading.proofs.Plain.{finished-plain}
use Rattle.finish.proofs.Located.{Located, tables-for, tokened-for, placing}
use Rattle.finish.specs.Ended.{Settled}

-- a fixed point has the least heights of every grammar with this code
pub filled_of : {c f : List ℕ} {size n : ℕ} {H : List ℕ} → Fixpoint c f size n H → size * stretches n ≤ length H → Filled c f size n H
filled_of {c} {f} {size} {H = H} fix room g r top first k e =
    fixed-heights c f g r size top first k H (subst (λ (m : ℕ). Fixpoint c f size m H) (sym e) fix) (rw e room)

module _ {Tb c f : List ℕ} {R : Text} {size top first : ℕ} {H : List ℕ} {parse : ℕ} (s : Settled Tb c f R size top first H parse) where
  roomy_of : Roomy c f R size (length H)
  roomy_of = record {
    small = s.small;
    code-room = omega (arith, s.small, s.code-long);
    short = s.short;
    fits-room = omega (arith, s.small, s.fits-long);
    room = s.room;
  }

  -- what the walk is given
  pub settled-walkable : {M F : List ℕ} → length M ≡ 308736 → (length F ≡ 2048) × ((x : ℕ) → get_or F x 0 ≡ 0) → Walkable c f size (length R) top first H M F parse
  settled-walkable m n = record {
    grammar = s.grammar;
    text = R;
    long = refl;
    ruled = fitted s.ruled s.rows;
    roomy = roomy_of;
    filled = filled_of s.fixed s.room;
    marks = m;
    notes = n;
    numbers = s.numbers;
  }

module _ {Tb c f : List ℕ} {R : Text} {size top first : ℕ} {H : List ℕ} {parse : ℕ} (s : Settled Tb c f R size top first H parse) {M F : List ℕ}
    (m : Marked c f size (length R + 1) M) (n : Noted c size F × Empties c F size) {g : Grammar} (k : Ruled (Token Tb) c g size top first) where
  pub roomy : Roomy c f R size (length H)
  roomy = roomy_of s

  pub kf : Ruled (Fitting f R) c g size top first
  kf = fitted k s.rows

  pub filled : Filled c f size (length R) H
  filled = filled_of s.fixed s.room

  unfoldable pub settled-finished : Finished c M F H size (length R) top first
  settled-finished = finished-plain kf roomy m n filled

  at_all : (p i : ℕ) → p < size → i ≤ length R → Reached M p i
  at_all = reached kf m s.small roomy.code-room

  ends-all : (e j : ℕ) → e < size → j ≤ length R → Wanted M e j
  ends-all = wanted kf m s.small roomy.code-room

  begins-all : (e i : ℕ) → e < size → i ≤ length R → Begins M e i
  begins-all e i h l = omega (arith, m.begins e i h (omega arith))

  -- a terminal is flagged where it fits
  fits-when : (p i : ℕ) (x : Terminal) → p < size → i ≤ length R → next_kind c p ≡ 1 → Token Tb p x → (Fits M p i → T (fits x (drop i R))) × (T (fits x (drop i R)) → Fits M p i)
  fits-when p i x h l z t =
      let w = flagged kf m s.small roomy.code-room p x h z (λ j b. s.rows.rows p h x t.0 t.1 j b) i l in
      (w.0, λ q. w.1 (at_all p i h l) q)

  sh : Shape c size
  sh = shape_of k s.small roomy.code-room

  home-inside : (p : ℕ) → p < size → home_of c p < size
  home-inside = home-most c size (λ q h. owner-most q h)
    where
      owner-most : (q : ℕ) → q < size → owner_at c q ≤ size
      owner-most q h = elim (ℕ_discrete (owner_at c q) 0) as (λ _. owner_at c q ≤ size) [
        | yes e ↦ omega arith
        | no e ↦ (let x : owner_at c q ≡ owner_at c q - 1 + 1 = omega arith in omega (arith, (sh.owners q (owner_at c q - 1) h x).0))
      ]

  -- after a terminal that fits the record goes on
  after : (p i : ℕ) → p < size → i ≤ length R → next_kind c p ≡ 1 → Fits M p i → On (Token Tb) c g k.dots k.heads p → Reached M (p + 1) (i + goes_at c p)
  after p i h l z b (at-end q e) = absurd (omega arith)
  after p i h l z b (at_symbol x q _ _ _ _ _) = absurd (omega arith)
  after p i h l z b (at-terminal y q d e w a) =
      at_all (p + 1) (i + goes_at c p) (omega (arith, k.count)) (omega (arith, fits-within y R i l ((fits-when p i y h l z a).0 b), w))

  left : LeftClosed (Token Tb) c R size top M
  left = record {
    root = begins-all top 0 k.root-inside (omega arith);
    begin = λ p i h l z _. begins-all (rule_at c p) i (sh.names p h z).0 l;
    first = λ q e i h l _ _. at_all q i h l;
    live = λ p i h l z _. omega (arith, m.dots p i h (omega arith), flag-other c f p i z);
    fit = λ p i x h l z _ a t. (let b = (fits-when p i x h l z a).1 t in (b, after p i h l z b (k.stands p h)));
    end = λ p i h l z _. omega (arith, ends-all (home_of c p) i (home-inside p h) l);
    over = λ p i j h _ l z _ _. at_all (p + 1) j (sh.nexts p h (λ y. omega arith)) l;
  }

  only : FitsOnly (Token Tb) c R size M
  only p i x h l z b a = (fits-when p i x h l z a).0 b

  located : Located Tb c M F R size top (length H)
  located = record {
    long = s.long;
    small = s.small;
    code-room = roomy.code-room;
    short = s.short;
    room = s.room;
    marks-long = omega (arith, m.long, s.short);
    left = left;
    only = only;
    wants = λ e j h l _. ends-all e j h l;
    noted = n.0;
    empties = n.1;
  }

  pub settled-placing : Placing Tb R c M F (length H) size (length R) top
  settled-placing = placing k located

  searched : Searched Tb c M F H R size top first g k
  unfolding kf fitted search.flagged whole_code ruled-as
  searched =
      let heights = filled g R top first (coded kf s.small roomy.code-room s.short roomy.fits-room) refl in
      let at = whole-attained kf m s.small roomy.code-room s.short roomy.fits-room F H heights n.1 in
      record {
        tables = tables-for k located;
        left = left;
        only = only;
        wants = λ e j h l _. ends-all e j h l;
        least = whole-least kf m s.small roomy.code-room s.short roomy.fits-room F H heights n.1;
        attained = λ i j a b. record { rules = (at i j a b).rules; rests = (at i j a b).rests };
      }

  pub settled-fault : {r : ℕ} → Placed Tb R c M F H size top r → Fault g R r
  settled-fault p prod held = found-fault k searched (tokened-for k located) prod held p

-- a table that is no fixed point is not that of a finished read
pub not-finished : {Tb c f f₀ : List ℕ} {R : Text} {size top root : ℕ} {H : List ℕ} {g : Grammar} → Ruled (Token Tb) c g size top root → Rows Tb size R f₀ f → Ready Tb g size root
    → size ≤ most_size → length c ≡ 2048 → length f ≡ 102912 → length R ≤ record_chars → ((x : ℕ) → get_or H x 0 ≤ none) → (Fixpoint c f size (length R) H → ⊥) → rounds.Finished g R H → ⊥
not-finished {c = c} {f} {size = size} {H = H} k rows ready small cl fl short most open-fix a =
    open-fix (finished-fixed f (fitted k rows) ready small (omega (arith, cl)) short (omega (arith, fl)) (name_count c size) refl (name-most c size) H most a)
