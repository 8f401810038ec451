-- The bytes of an element with its state are those of the definition.
use mathlib.Core.Path.{◌≡◌, refl, ap, ◌∙◌}
use mathlib.Core.Bool.{true, false}
use mathlib.Core.List.{[], ◌∷◌, ◌++◌, append-nil, append_assoc}
use Rattle.text.specs.Lists.{Text, chars}
use Rattle.xml.specs.Document.{Xml, none, char, attr, elem, misnamed, unwritable}
use Rattle.xml.specs.Bytes.{escape, attributes, content, closed, bytes}
use Rattle.encode.specs.Out.{enc}
use Rattle.markup.specs.Tags.{closing, state_of}
use Rattle.markup.specs.declared.StateWords.{StateWords}
use Rattle.tags.specs.Stated.{late, start_of, stated}
use Rattle.tags.proofs.Chars.{enc_ok, element-ok}

pub late-closed : (n t : Text) → late true t (chars "/>") (closing n) ≡ closed n t
late-closed n [] = refl
late-closed n (c ∷ cs) = simp append_assoc

-- no state is the plain content
pub stated-none : (x : Xml) → stated [] x ≡ content x
stated-none none = refl
stated-none (char c x) = ap (λ (t : Text). escape false c ++ t) (stated-none x)
stated-none (attr n v x) = stated-none x
stated-none (elem n i x) = ap (λ (t : Text). start_of n [] i ++ (t ++ content x)) (late-closed n (content i)) ∙ regroup (chars "<") n (attributes i) (closed n (content i)) (content x)
  where
    regroup : (o n a l y : Text) → (((o ++ n) ++ []) ++ a) ++ (l ++ y) ≡ (((o ++ n) ++ a) ++ l) ++ y
    regroup o n a l y = simp (append-nil, append_assoc)

pub element-bytes : (due : StateWords) (n : Text) (i : Xml) → misnamed (elem n i none) ≡ false → unwritable (elem n i none) ≡ false
    → enc (stated (state_of due) (elem n i none)) ≡ bytes due.ambiguous due.mismatch (elem n i none)
unfolding bytes
element-bytes due n i p q =
    let t = chars "<" ++ n ++ state_of due ++ attributes i ++ closed n (content i) in
    let s : stated (state_of due) (elem n i none) ≡ t = ap (λ (u : Text). start_of n (state_of due) i ++ u)
    (append-nil (late true (content i) (chars "/>") (closing n)) ∙ late-closed n (content i)) in
    ap enc s ∙ enc_ok t (element-ok due.ambiguous due.mismatch n i none p q)
