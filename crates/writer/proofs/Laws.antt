-- Laws of start tags, contents and attributes.
use mathlib.Core.Path.{◌≡◌, refl, sym, ap, ◌∙◌}
use mathlib.Core.Bool.{Bool, true, false}
use mathlib.Core.List.{[], ◌∷◌, ◌++◌, append_assoc}
use Prim.Native.Nat.{ℕ, ◌<◌}
use native.Mathlib.Omega.{arith}
use lib.ListN.{length, length-append}
use Rattle.text.specs.Lists.{Text, chars, concat_map}
use Rattle.xml.specs.Document.{Xml, none, char, attr, elem, join, text}
use Rattle.xml.specs.Bytes.{escape, attributes, content}
use Rattle.xml.proofs.Escapes.{Escaped, as-reference, as-itself, escaped}
use Rattle.markup.specs.Tags.{closing, lead_of, end_of}
use Rattle.cursor.specs.Rest.{Rest, row, within, before}
use Rattle.tags.specs.Stated.{late, start_of, stated}
use Rattle.tags.proofs.Laws.{stated-none}

-- every character is written as some
some-escape : (v : Bool) (c : ℕ) → 0 < length (escape v c)
some-escape v c = go (escaped v c)
  where
    go : {t : Text} → Escaped v c t → 0 < length t
    go (as-reference k) = omega arith
    go (as-itself e) = omega arith

some-text : (t : Text) → 0 < length t → 0 < length (concat_map (escape false) t)
some-text [] h = absurd (omega arith)
some-text (b ∷ bs) h = omega (arith, length-append (escape false b) (concat_map (escape false) bs), some-escape false b)

stated-text : (st cs : Text) (y : Xml) → stated st (join (text cs) y) ≡ concat_map (escape false) cs ++ stated st y
stated-text st [] y = refl
stated-text st (c ∷ cs) y = ap (λ (t : Text). escape false c ++ t) (stated-text st cs y) ∙ sym (append_assoc (escape false c) (concat_map (escape false) cs) (stated st y))

late-some : (unclosed : Bool) (pre t e c : Text) → 0 < length pre → late unclosed (pre ++ t) e c ≡ lead_of unclosed ++ (pre ++ late false t e c)
late-some unclosed [] t e c h = absurd (omega arith)
late-some true (x ∷ xs) t e c h = ap (λ (u : Text). chars ">" ++ (x ∷ u)) (append_assoc xs t c)
late-some false (x ∷ xs) t e c h = ap (λ (u : Text). x ∷ u) (append_assoc xs t c)

-- all that is owed: what is ahead in each element, its end, and one of two ends
abbrev pub owed : Text → Text → Text → Bool → Rest → Text
owed e c st unclosed (row x) = late unclosed (stated st x) e c
owed e c st unclosed (within n x k) = late unclosed (stated st x) (chars "/>") (closing n) ++ owed e c [] false k

module _ (e c : Text) where
  -- something is written
  owed-some : (st st' : Text) (unclosed : Bool) (pre : Text) (x : Xml) (k : Rest) → 0 < length pre
      → ((y : Xml) → stated st (join x y) ≡ pre ++ stated st' y) → owed e c st unclosed (before x k) ≡ lead_of unclosed
      ++ (pre ++ owed e c st' false k)
  owed-some st st' unclosed pre x (row y) h q = ap (λ (t : Text). late unclosed t e c) (q y) ∙ late-some unclosed pre (stated st' y) e c h
  owed-some st st' unclosed pre x (within n y k) h q =
      let E = chars "/>" in
      let C = closing n in
      let O = owed e c [] false k in
      ap (λ (t : Text). late unclosed t E C ++ O) (q y) ∙ ap (λ (t : Text). t ++ O) (late-some unclosed pre (stated st' y) E C h) ∙ regroup (lead_of unclosed) pre (late false (stated st' y) E C) O
    where
      regroup : (a b c d : Text) → (a ++ (b ++ c)) ++ d ≡ a ++ (b ++ (c ++ d))
      regroup a b c d = simp append_assoc

  pub owed-text : (st : Text) (unclosed : Bool) (t : Text) (k : Rest) → 0 < length t
      → owed e c st unclosed (before (text t) k) ≡ (lead_of unclosed ++ concat_map (escape false) t) ++ owed e c st false k
  owed-text st unclosed t k h =
      owed-some st st unclosed (concat_map (escape false) t) (text t) k (some-text t h) (stated-text st t)
      ∙ sym (append_assoc (lead_of unclosed) (concat_map (escape false) t) (owed e c st false k))

  pub owed-attribute : (st : Text) (unclosed : Bool) (n v : Text) (k : Rest) → owed e c st unclosed (before (attr n v none) k) ≡ owed e c st unclosed k
  owed-attribute st unclosed n v (row y) = refl
  owed-attribute st unclosed n v (within m y k) = refl

  pub owed-element : (st : Text) (unclosed : Bool) (n : Text) (i : Xml) (k : Rest)
      → owed e c st unclosed (before (elem n i none) k) ≡ (lead_of unclosed ++ start_of n st i) ++ owed e c [] true (within n i k)
  owed-element st unclosed n i k =
      let L = late true (content i) (chars "/>") (closing n) in
      let O = owed e c [] false k in
      owed-some st [] unclosed (start_of n st i ++ L) (elem n i none) k (omega arith)
      (λ y. ap (λ (t : Text). start_of n st i ++ (L ++ t)) (sym (stated-none y)) ∙ sym (append_assoc (start_of n st i) L (stated [] y)))
      ∙ regroup (lead_of unclosed) (start_of n st i) L O
      ∙ ap (λ (t : Text). (lead_of unclosed ++ start_of n st i) ++ (late true t (chars "/>") (closing n) ++ O)) (sym (stated-none i))
    where
      regroup : (a b c d : Text) → a ++ ((b ++ c) ++ d) ≡ (a ++ b) ++ (c ++ d)
      regroup a b c d = simp append_assoc

  pub owed-closes : (st : Text) (unclosed : Bool) (n : Text) (k : Rest) → owed e c st unclosed (within n none k) ≡ end_of unclosed (chars "/>") (closing n) ++ owed e c [] false k
  owed-closes st true n k = refl
  owed-closes st false n k = refl

  pub owed-over : (st : Text) (unclosed : Bool) → owed e c st unclosed (row none) ≡ end_of unclosed e c
  owed-over st true = refl
  owed-over st false = refl

-- the text of a row by itself, and that it is nothing else
abbrev pub plain : Xml → Text
plain none = []
plain (char c x) = c ∷ plain x
plain (attr n v x) = plain x
plain (elem n i x) = plain x

abbrev pub IsText : Xml → Type 0
IsText none = Unit {0}
IsText (char c x) = IsText x
IsText (attr n v x) = ⊥
IsText (elem n i x) = ⊥

pub is-text : (t : Text) → IsText (text t)
is-text [] = tt
is-text (c ∷ cs) = is-text cs

pub plain-text : (t : Text) → plain (text t) ≡ t
plain-text [] = refl
plain-text (c ∷ cs) = ap (λ (u : Text). c ∷ u) (plain-text cs)

pub plain-join : (t : Text) (x : Xml) → plain (join (text t) x) ≡ t ++ plain x
plain-join [] x = refl
plain-join (c ∷ cs) x = ap (λ (u : Text). c ∷ u) (plain-join cs x)

pub text-join : (t : Text) (x : Xml) → IsText (join (text t) x) → IsText x
text-join [] x h = h
text-join (c ∷ cs) x h = text-join cs x h

pub spells-append : (f : ℕ → Text) (xs ys : Text) → concat_map f (xs ++ ys) ≡ concat_map f xs ++ concat_map f ys
spells-append f [] ys = refl
spells-append f (x ∷ xs) ys = rw (spells-append f xs ys) (sym (append_assoc (f x) (concat_map f xs) (concat_map f ys)))

pub attributes-past : (t : Text) (x : Xml) → attributes (join (text t) x) ≡ attributes x
attributes-past [] x = refl
attributes-past (c ∷ cs) x = attributes-past cs x

-- in an attribute's value, a row of nothing but text in a row; else a row
abbrev pub Shape : Bool → Rest → Type 0
Shape false (row x) = Unit {0}
Shape false (within n x k) = ⊥
Shape true (row x) = ⊥
Shape true (within n x (row y)) = IsText x
Shape true (within n x (within m y k)) = ⊥

-- the rest of a value, its end, and the attributes after it
abbrev pub exposed : Rest → Text
exposed (row x) = attributes x
exposed (within n x k) = concat_map (escape true) (plain x) ++ (chars "'" ++ exposed k)
