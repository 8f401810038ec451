-- The faults of all that is ahead, event by event.
use mathlib.Core.Path.{◌≡◌, refl, sym, ap, ◌∙◌}
use mathlib.Core.List.{List}
use Prim.Native.Nat.{ℕ}
use Rattle.text.specs.Lists.{Text}
use Rattle.xml.specs.Document.{Xml, none, attr, elem, text}
use Rattle.cursor.specs.Rest.{Rest, row, within, before}
use Rattle.cursor.specs.Ahead.{Ahead, SomeRow}
use Rattle.cursor.specs.declared.Cursor.{Cursor}
use Rattle.xml_names.specs.Flags.{sound, both, of_text, of_name, of_attribute_name, of_xml}
use Rattle.xml_names.specs.Told.{Told}
use Rattle.xml_names.specs.declared.Faults.{Faults}
use Rattle.xml_names.proofs.Laws.{both-assoc, both-sound}
use Rattle.xml_names.proofs.Trees.{none-faults, attr-faults, elem-faults, join-faults, text-faults}

abbrev pub of_rest : Rest → Faults
of_rest (row x) = of_xml x
of_rest (within n x k) = both (of_xml x) (of_rest k)

before-faults : (x : Xml) (k : Rest) → of_rest (before x k) ≡ both (of_xml x) (of_rest k)
before-faults x (row y) = join-faults x y
before-faults x (within n y k) = ap (λ (q : Faults). both q (of_rest k)) (join-faults x y) ∙ both-assoc (of_xml x) (of_xml y) (of_rest k)

-- with nothing after it
alone : {x : Faults} (y : Faults) → x ≡ both y (of_xml none) → x ≡ y
alone y e = e ∙ ap (both y) none-faults ∙ both-sound y

-- for the record rec, what was found and what is ahead come to the faults of all
pub record Owed (rec : Text) (found : Faults) (r : Text) (k₀ k : Rest) : Type 0 where
  pub is : r ≡ rec → both found (of_rest k) ≡ of_rest k₀

module _ {rec r : Text} {k₀ : Rest} {a q : Faults} where
  -- a part was found
  part : {k k' : Rest} (t : Faults) → of_rest k ≡ both t (of_rest k') → (r ≡ rec → q ≡ both a t) → Owed rec a r k₀ k → Owed rec q r k₀ k'
  part {k} {k'} t we qe O = record { is = λ z. ap (λ (y : Faults). both y (of_rest k')) (qe z) ∙ both-assoc a t (of_rest k') ∙ ap (both a) (sym we) ∙ O.is z }

  pub text-law : (k : Rest) (t : Text) → (r ≡ rec → q ≡ both a (of_text t)) → Owed rec a r k₀ (before (text t) k) → Owed rec q r k₀ k
  text-law k t = part (of_text t) (before-faults (text t) k ∙ ap (λ (y : Faults). both y (of_rest k)) (text-faults t))

  pub open-law : (k : Rest) (n : Text) (i : Xml) → q ≡ both a (of_name n) → Owed rec a r k₀ (before (elem n i none) k) → Owed rec q r k₀ (within n i k)
  open-law k n i qe = part (of_name n) (before-faults (elem n i none) k
      ∙ ap (λ (y : Faults). both y (of_rest k)) (alone (both (of_name n) (of_xml i)) (elem-faults n i none))
      ∙ both-assoc (of_name n) (of_xml i) (of_rest k)) (λ z. qe)

  pub attribute-law : (k : Rest) (n v : Text) → q ≡ both a (of_attribute_name n) → Owed rec a r k₀ (before (attr n v none) k) → Owed rec q r k₀ (within n (text v) k)
  attribute-law k n v qe =
      part
      (of_attribute_name n)
      (before-faults (attr n v none) k ∙ ap (λ (y : Faults). both y (of_rest k))
      (alone (both (of_attribute_name n) (of_text v)) (attr-faults n v none)) ∙ both-assoc (of_attribute_name n) (of_text v) (of_rest k)
      ∙ ap (λ (y : Faults). both (of_attribute_name n) (both y (of_rest k))) (sym (text-faults v)))
      (λ z. qe)

pub close-law : {rec r : Text} {k₀ : Rest} {a : Faults} (k : Rest) (n : Text) → Owed rec a r k₀ (within n none k) → Owed rec a r k₀ k
close-law {a = a} k n O = record { is = λ z. sym (ap (λ (y : Faults). both a (both y (of_rest k))) none-faults) ∙ O.is z }

pub begin-law : {rec r : Text} {k : Rest} → Owed rec sound r k k
begin-law = record { is = λ z. refl }

pub told : {T P : List ℕ} {r : Text} {S S' : List ℕ} {c : Cursor} (q : Faults) → SomeRow T P r S c
    → ((r' : Text) (S₀ : List ℕ) (k₀ : Rest) → Ahead T P r' S₀ S c k₀ → (S' ≡ S₀) × Owed r q r' k₀ (row none)) → Told T P r S S' c q
told {r = r} {S = S} q D f = record { kept = (f r S (row D.x) D.stands).0; finds = λ x A. finds x ((f r S (row x) A).1.is refl) }
  where
    finds : (x : Xml) → both q (of_xml none) ≡ of_xml x → Rattle.xml_names.specs.Flags.Finds x q
    finds x e =
        let z : q ≡ of_xml x = sym (both-sound q) ∙ sym (ap (both q) none-faults) ∙ e in
        record { misnamed = ap (λ (y : Faults). y.misnamed) z; unwritable = ap (λ (y : Faults). y.unwritable) z; namespaced = ap (λ (y : Faults). y.namespaced) z }
