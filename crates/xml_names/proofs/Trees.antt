-- The faults of rows, tree by tree.
use mathlib.Core.Path.{◌≡◌, refl, sym, ap, ◌∙◌}
use mathlib.Core.Bool.{Bool, true, false, not, ◌||◌}
use mathlib.Core.List.{[], ◌∷◌, ◌++◌}
use Prim.Native.Nat.{ℕ}
use Rattle.text.specs.Lists.{Text, chars, same}
use Rattle.text.proofs.Lists.{any_append, or-false}
use Rattle.xml.specs.Document.{Xml, none, char, attr, elem, join, text, misnamed, unwritable, namespaced}
use Rattle.xml.specs.Names.{xml_name}
use Rattle.xml_names.specs.Flags.{flags, sound, both, bad, of_text, of_name, of_attribute_name, of_xml}
use Rattle.xml_names.specs.declared.Faults.{Faults}
use Rattle.xml_names.proofs.Laws.{both-assoc}

-- the three are one fold: what a node has by itself, and what the rest has
char-faults : (c : ℕ) (x : Xml) → of_xml (char c x) ≡ both (of_text (c ∷ [])) (of_xml x)
unfolding misnamed unwritable namespaced
char-faults c x = ap (λ (b : Bool). flags (misnamed x) b (namespaced x)) (each (bad c) (unwritable x))
  where
    each : (a b : Bool) → a || b ≡ (a || false) || b
    each true b = refl
    each false b = refl

pub attr-faults : (n v : Text) (x : Xml) → of_xml (attr n v x) ≡ both (both (of_attribute_name n) (of_text v)) (of_xml x)
unfolding misnamed unwritable namespaced
attr-faults n v x = rw (or-false (not (xml_name n)), or-false (same n (chars "xmlns"))) refl

pub elem-faults : (n : Text) (i x : Xml) → of_xml (elem n i x) ≡ both (both (of_name n) (of_xml i)) (of_xml x)
unfolding misnamed unwritable namespaced
elem-faults n i x = refl

pub none-faults : of_xml none ≡ sound
unfolding misnamed unwritable namespaced
none-faults = refl

-- put before the rest, and the rest joined
front : (a : Faults) (x y : Xml) (z : Faults) → z ≡ both a (of_xml (join x y)) → of_xml (join x y) ≡ both (of_xml x) (of_xml y) → z ≡ both (both a (of_xml x)) (of_xml y)
front a x y z e h = e ∙ ap (both a) h ∙ sym (both-assoc a (of_xml x) (of_xml y))

pub join-faults : (x y : Xml) → of_xml (join x y) ≡ both (of_xml x) (of_xml y)
join-faults none y = sym (ap (λ (a : Faults). both a (of_xml y)) none-faults)
join-faults (char c x) y = front (of_text (c ∷ [])) x y (of_xml (char c (join x y))) (char-faults c (join x y)) (join-faults x y) ∙ sym (ap (λ (a : Faults). both a (of_xml y)) (char-faults c x))
join-faults (attr n v x) y = front (both (of_attribute_name n) (of_text v)) x y (of_xml (attr n v (join x y))) (attr-faults n v (join x y))
    (join-faults x y) ∙ sym (ap (λ (a : Faults). both a (of_xml y)) (attr-faults n v x))
join-faults (elem n i x) y = front (both (of_name n) (of_xml i)) x y (of_xml (elem n i (join x y))) (elem-faults n i (join x y))
    (join-faults x y) ∙ sym (ap (λ (a : Faults). both a (of_xml y)) (elem-faults n i x))

append-faults : (xs ys : Text) → of_text (xs ++ ys) ≡ both (of_text xs) (of_text ys)
append-faults xs ys = ap (λ (b : Bool). flags false b false) (any_append bad xs ys)

pub text-faults : (t : Text) → of_xml (text t) ≡ of_text t
text-faults [] = none-faults
text-faults (c ∷ cs) = char-faults c (text cs) ∙ ap (both (of_text (c ∷ []))) (text-faults cs) ∙ sym (append-faults (c ∷ []) cs)
