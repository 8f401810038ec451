-- An attribute twice in all that is ahead, event by event.
use mathlib.Core.Path.{◌≡◌, refl, sym, ap, ◌∙◌}
use mathlib.Core.Bool.{Bool, false, ◌||◌}
use mathlib.Core.List.{List, [], ◌∷◌}
use Rattle.text.specs.Lists.{Text}
use Rattle.text.proofs.Lists.{or_assoc, or-false}
use Rattle.xml.specs.Document.{Xml, none, char, attr, elem, join, text, twice}
use Rattle.cursor.specs.Rest.{Rest, row, within, before}
use Prim.Native.Nat.{ℕ}
use Rattle.cursor.specs.Ahead.{Ahead, SomeRow}
use Rattle.cursor.specs.declared.Cursor.{Cursor}
use Rattle.xml_shape.specs.Names.{repeated}
use Rattle.xml_names.specs.declared.Faults.{Faults}
use Rattle.xml_names.proofs.Folds.{Owed, told}
use Rattle.extent.specs.declared.Extent.{Extent}
use Rattle.extent.proofs.Folds.{Spans, spans-end}
use Rattle.dynamic_errors.specs.Within.{RowFound}
use Rattle.dynamic_errors.specs.declared.Findings.{Findings}

abbrev pub twice_of : Rest → Bool
twice_of (row x) = twice x
twice_of (within n x k) = twice x || twice_of k

twice-join : (x y : Xml) → twice (join x y) ≡ (twice x || twice y)
unfolding twice
twice-join none y = refl
twice-join (char c x) y = twice-join x y
twice-join (attr n v x) y = twice-join x y
twice-join (elem n i x) y = ap (λ (b : Bool). (repeated i || twice i) || b) (twice-join x y) ∙ sym (or_assoc (repeated i || twice i) (twice x) (twice y))

twice-before : (x : Xml) (k : Rest) → twice_of (before x k) ≡ (twice x || twice_of k)
twice-before x (row y) = twice-join x y
twice-before x (within n y k) = ap (λ (b : Bool). b || twice_of k) (twice-join x y) ∙ or_assoc (twice x) (twice y) (twice_of k)

twice-text : (t : Text) → twice (text t) ≡ false
unfolding twice
twice-text [] = refl
twice-text (c ∷ cs) = twice-text cs

twice-one : (n : Text) (i : Xml) → twice (elem n i none) ≡ (repeated i || twice i)
unfolding twice
twice-one n i = or-false (repeated i || twice i)

twice-nothing : twice none ≡ false
unfolding twice
twice-nothing = refl

twice-attribute : (n v : Text) → twice (attr n v none) ≡ false
unfolding twice
twice-attribute n v = refl

pub record Hunt (found : Bool) (r : Text) (k₀ k : Rest) : Type 0 where
  pub owes : (found || twice_of k) ≡ twice_of k₀

pub hunt-begin : {r : Text} {k : Rest} → Hunt false r k k
hunt-begin = record { owes = refl }

module _ {found : Bool} {r : Text} {k₀ : Rest} where
  over : {k k' : Rest} → twice_of k ≡ twice_of k' → Hunt found r k₀ k → Hunt found r k₀ k'
  over e O = record { owes = ap (λ (b : Bool). found || b) (sym e) ∙ O.owes }

  pub hunt-text : (t : Text) (k : Rest) → Hunt found r k₀ (before (text t) k) → Hunt found r k₀ k
  hunt-text t k = over (twice-before (text t) k ∙ ap (λ (b : Bool). b || twice_of k) (twice-text t))

  pub hunt-attribute : (n v : Text) (k : Rest) → Hunt found r k₀ (before (attr n v none) k) → Hunt found r k₀ k
  hunt-attribute n v k = over (twice-before (attr n v none) k ∙ ap (λ (b : Bool). b || twice_of k) (twice-attribute n v))

  pub hunt-close : (n : Text) (k : Rest) → Hunt found r k₀ (within n none k) → Hunt found r k₀ k
  hunt-close n k = over (ap (λ (b : Bool). b || twice_of k) twice-nothing)

  pub hunt-element : (n : Text) (i : Xml) (k : Rest) {again both : Bool} → again ≡ repeated i → both ≡ (found || again)
      → Hunt found r k₀ (before (elem n i none) k) → Hunt both r k₀ (within n i k)
  hunt-element n i k ae be O = record {
    owes =
        ap (λ (b : Bool). b || (twice i || twice_of k)) (be ∙ ap (λ (b : Bool). found || b) ae)
        ∙ or_assoc found (repeated i) (twice i || twice_of k)
        ∙ ap (λ (b : Bool). found || b) (sym (twice-before (elem n i none) k ∙ ap (λ (b : Bool). b || twice_of k) (twice-one n i) ∙ or_assoc (repeated i) (twice i) (twice_of k)))
        ∙ O.owes;
  }

pub hunt-end : {found : Bool} {r : Text} {x : Xml} → Hunt found r (row x) (row none) → found ≡ twice x
hunt-end {found} O = sym (or-false found) ∙ sym (ap (λ (b : Bool). found || b) twice-nothing) ∙ O.owes

-- both that are looked for, for the record rec
pub record Search (rec : Text) (faults : Faults) (extent : Extent) (r : Text) (k₀ k : Rest) : Type 0 where
  pub owed : Owed rec faults r k₀ k
  pub spans : Spans extent r k₀ k

pub found : {T P : List ℕ} {r : Text} {S S' : List ℕ} {c : Cursor} (f : Findings) → SomeRow T P r S c
    → ((r' : Text) (S₀ : List ℕ) (k₀ : Rest) → Ahead T P r' S₀ S c k₀ → (S' ≡ S₀) × Search r f.faults f.extent r' k₀ (row none))
    → RowFound T P r S S' c f
found {S = S} f D h = record {
  told = told f.faults D (λ r S₀ k A. let m = h r S₀ k A in (m.0, m.1.owed));
  covers = λ r x A. spans-end (h r S (row x) A).1.spans;
}
