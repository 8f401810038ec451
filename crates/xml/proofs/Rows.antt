-- What the nodes of a row come to, tree by tree: the equations that a walk over a derivation follows.
use mathlib.Core.Bool.{Bool, true, false, not, ◌||◌, or_assoc}
use mathlib.Core.Path.{◌≡◌, refl, sym, ap, ◌∙◌}
use mathlib.Core.List.{List, [], ◌∷◌, ◌++◌, append_assoc}
use Prim.Native.Nat.{ℕ}
use Rattle.text.specs.Lists.{Text, chars, any, same, repeats, concat_map}
use Rattle.xml.specs.Names.{xml_char, xml_name}
use Rattle.xml.specs.Document.{Xml, none, char, attr, elem, join, text, attribute_names, twice, misnamed, unwritable, namespaced}
use Rattle.xml.specs.Bytes.{escape, attributes, closed, content}

-- one row after another
pub content-join : (x y : Xml) → content (join x y) ≡ content x ++ content y
content-join none y = refl
content-join (char c x) y = ap (λ (t : Text). escape false c ++ t) (content-join x y) ∙ sym (append_assoc (escape false c) (content x) (content y))
content-join (attr n v x) y = content-join x y
content-join (elem n i x) y = rw (content-join x y) (sym (append_assoc (chars "<" ++ n ++ attributes i ++ closed n (content i)) (content x) (content y)))

pub attributes-join : (x y : Xml) → attributes (join x y) ≡ attributes x ++ attributes y
attributes-join none y = refl
attributes-join (char c x) y = attributes-join x y
attributes-join (attr n v x) y = rw (attributes-join x y) (sym (append_assoc (chars " " ++ n ++ chars "='" ++ concat_map (escape true) v ++ chars "'") (attributes x) (attributes y)))
attributes-join (elem n i x) y = attributes-join x y

pub names-join : (x y : Xml) → attribute_names (join x y) ≡ attribute_names x ++ attribute_names y
names-join none y = refl
names-join (char c x) y = names-join x y
names-join (attr n v x) y = ap (λ (ns : List Text). n ∷ ns) (names-join x y)
names-join (elem n i x) y = names-join x y

-- a judgment of each node by itself
module _ (f : Xml → Bool) (of_char : ℕ → Bool) (of_attr : Text → Text → Bool) (of_elem : Text → Xml → Bool)
    (at_none : f none ≡ false) (at-char : (c : ℕ) (x : Xml) → f (char c x) ≡ (of_char c || f x)) (at-attr : (n v : Text) (x : Xml) → f (attr n v x) ≡ (of_attr n v || f x))
    (at-elem : (n : Text) (i x : Xml) → f (elem n i x) ≡ (of_elem n i || f x)) where
  judged-join : (x y : Xml) → f (join x y) ≡ (f x || f y)
  judged-join none y = rw at_none
  judged-join (char c x) y = at-char c (join x y) ∙ rw (judged-join x y, at-char c x) (sym (or_assoc (of_char c) (f x) (f y)))
  judged-join (attr n v x) y = at-attr n v (join x y) ∙ rw (judged-join x y, at-attr n v x) (sym (or_assoc (of_attr n v) (f x) (f y)))
  judged-join (elem n i x) y = at-elem n i (join x y) ∙ rw (judged-join x y, at-elem n i x) (sym (or_assoc (of_elem n i) (f x) (f y)))

no_char : ℕ → Bool
no_char c = false

no-attr : Text → Text → Bool
no-attr n v = false

pub twice-join : (x y : Xml) → twice (join x y) ≡ (twice x || twice y)
unfolding twice no_char no-attr
twice-join x y = judged-join twice no_char no-attr (λ n i. repeats (attribute_names i) || twice i) refl (λ c x. refl) (λ n v x. refl) (λ n i x. refl) x y

pub misnamed-join : (x y : Xml) → misnamed (join x y) ≡ (misnamed x || misnamed y)
unfolding misnamed no_char
misnamed-join x y = judged-join misnamed no_char (λ n v. not (xml_name n)) (λ n i. not (xml_name n) || misnamed i) refl (λ c x. refl) (λ n v x. refl) (λ n i x. refl) x y

pub unwritable-join : (x y : Xml) → unwritable (join x y) ≡ (unwritable x || unwritable y)
unfolding unwritable
unwritable-join x y = judged-join unwritable (λ c. not (xml_char c)) (λ n v. any (λ c. not (xml_char c)) v) (λ n i. unwritable i) refl (λ c x. refl) (λ n v x. refl) (λ n i x. refl) x y

pub namespaced-join : (x y : Xml) → namespaced (join x y) ≡ (namespaced x || namespaced y)
unfolding namespaced no_char
namespaced-join x y = judged-join namespaced no_char (λ n v. same n (chars "xmlns")) (λ n i. namespaced i) refl (λ c x. refl) (λ n v x. refl) (λ n i x. refl) x y

-- text
pub content-text : (cs : Text) → content (text cs) ≡ concat_map (escape false) cs
content-text [] = refl
content-text (c ∷ cs) = ap (λ (t : Text). escape false c ++ t) (content-text cs)

pub attributes-text : (cs : Text) → attributes (text cs) ≡ []
attributes-text [] = refl
attributes-text (c ∷ cs) = attributes-text cs
