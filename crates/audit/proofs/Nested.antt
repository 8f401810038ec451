-- What is written is one element, in the sense of XML's productions.
use mathlib.Core.Path.{◌≡◌, refl, sym, ap, subst, ◌∙◌}
use mathlib.Core.Bool.{Bool, true, false, not, ◌||◌}
use mathlib.Core.List.{List, [], ◌∷◌, ◌++◌, append_assoc, append-nil}
use Prim.Native.Nat.{ℕ, ◌≤◌}
use native.Mathlib.Omega.{arith}
use lib.Dec.{T, eqb}
use borrow.Author.Tests.{ne_eqb}
use Rattle.text.specs.Lists.{Text, chars, all, among, concat_map}
use Rattle.text.specs.Utf8.{utf8, utf8s}
use Rattle.text.proofs.Tests.{clash, is_t, and_left, and_right}
use Rattle.xml.specs.Names.{xml_name, name_start, name_char}
use Rattle.xml.specs.Document.{Xml, none, char, attr, elem, misnamed, not_one}
use Rattle.xml.specs.Bytes.{escape, attributes, closed, content, state_with, state, bytes}
use Rattle.xml.proofs.Escapes.{special, Escaped, as-reference, as-itself, escaped, not_at}
use Rattle.audit.specs.WellFormed.{name_byte, Value, v-end, v-byte, v-reference, Attributes, a-end, a-more, Element, e-empty, e-full, Content, c-end, c-byte, c-reference, c-element, WellFormed}
use Rattle.audit.proofs.Tags.{utf8s-append, utf8s-one, each-byte, reference-bytes, name-bytes, not-true, neither}

utf8s-cons : (c : ℕ) (t : Text) → utf8s (c ∷ t) ≡ utf8 c ++ utf8s t
unfolding utf8s
utf8s-cons c t = refl

utf8s-none : utf8s [] ≡ []
unfolding utf8s
utf8s-none = refl

-- 1. Values.
abbrev quiet : ℕ → Bool
quiet b = not (among b (chars "<&'"))

value-bytes : (bs : List ℕ) {t : List ℕ} → T (all quiet bs) → Value t → Value (bs ++ t)
value-bytes [] h k = k
value-bytes (b ∷ bs) h k = v-byte {b = b} (and_left (quiet b) (all quiet bs) h) (value-bytes bs (and_right (quiet b) (all quiet bs) h) k)

high-quiet : (b : ℕ) → 0x80 ≤ b → quiet b ≡ true
high-quiet b h = rw (ne_eqb b 0x3c (λ e. omega arith), ne_eqb b 0x26 (λ e. omega arith), ne_eqb b 0x27 (λ e. omega arith)) refl

value-one : {c : ℕ} {e : Text} (t : List ℕ) → Escaped true c e → Value t → Value (utf8s e ++ t)
value-one t (as-reference {n} k) v = rw (reference-bytes k, append_assoc n (0x3b ∷ []) t) (v-reference k v)
value-one {c} t (as-itself h) v =
    let no : (k : ℕ) → T (special true k) → eqb c k ≡ false = λ k m. not_at c k (chars "&<>\r'\n\t") h m in
    let q : quiet c ≡ true = simp (no 0x3c tt, no 0x26 tt, no 0x27 tt) in
    rw (utf8s-one c) (value-bytes (utf8 c) (is_t (each-byte quiet c high-quiet (λ _. q))) v)

value-text : (v : Text) → Value (utf8s (concat_map (escape true) v))
value-text [] = rw utf8s-none v-end
value-text (c ∷ v) = rw (utf8s-append (escape true c) (concat_map (escape true) v)) (value-one (utf8s (concat_map (escape true) v)) (escaped true c) (value-text v))

-- 2. Attributes.
high-name : (b : ℕ) → 0x80 ≤ b → name_byte b ≡ true
high-name b h =
    rw (
      ne_eqb b 0x20 (λ e. omega arith),
      ne_eqb b 0x3d (λ e. omega arith),
      ne_eqb b 0x2f (λ e. omega arith),
      ne_eqb b 0x3e
          (λ e. omega arith),
      ne_eqb b 0x3c (λ e. omega arith),
      ne_eqb b 0x26 (λ e. omega arith),
      ne_eqb b 0x27 (λ e. omega arith),
    ) refl

named : (n : Text) → T (xml_name n) → T (all name_byte (utf8s n))
unfolding name_char name_start
named n h = name-bytes (chars " =/><&'") tt high-name n h

attribute-shape : (n v a : Text) (t : List ℕ) → utf8s (chars " " ++ n ++ chars "='" ++ v ++ chars "'" ++ a) ++ t ≡ 0x20 ∷ (utf8s n ++ 0x3d ∷ 0x27 ∷ (utf8s v ++ 0x27 ∷ (utf8s a ++ t)))
unfolding utf8
attribute-shape n v a t = simp (append_assoc, utf8s-cons, utf8s-append)

all-attributes : (x : Xml) (t : List ℕ) → misnamed x ≡ false → Attributes t → Attributes (utf8s (attributes x) ++ t)
unfolding misnamed
all-attributes none t m k = rw utf8s-none k
all-attributes (char c x) t m k = all-attributes x t m k
all-attributes (attr n v x) t m k =
    let p = neither (not (xml_name n)) (misnamed x) m in
    subst Attributes (sym (attribute-shape n (concat_map (escape true) v) (attributes x) t)) (a-more (utf8s n) (named n (not-true (xml_name n) p.0)) (value-text v) (all-attributes x t p.1 k))
all-attributes (elem n i x) t m k = all-attributes x t (neither (not (xml_name n) || misnamed i) (misnamed x) m).1 k

-- the state, which is two attributes
quote-shape : (words : Text) (t : List ℕ) → utf8s (words ++ chars "'") ++ t ≡ utf8s words ++ 0x27 ∷ t
unfolding utf8
quote-shape words t = simp (append_assoc, utf8s-cons, utf8s-append, utf8s-none)

state-shape : (words : Text) (t : List ℕ) → utf8s (state_with words) ++ t
    ≡ 0x20 ∷ (chars "xmlns:ixml" ++ 0x3d ∷ 0x27 ∷ (chars "http://invisiblexml.org/NS" ++ 0x27 ∷ (0x20 ∷ (chars "ixml:state" ++ 0x3d ∷ 0x27 ∷ (utf8s words ++ 0x27 ∷ t)))))
unfolding utf8s utf8
state-shape words t = ap (λ (z : List ℕ). chars " xmlns:ixml='http://invisiblexml.org/NS' ixml:state='" ++ z) (quote-shape words t)

quiet-value : (bs : List ℕ) → T (all quiet bs) → Value bs
quiet-value bs h = subst Value (append-nil bs) (value-bytes bs h v-end)

with-state : (words : Text) (t : List ℕ) → T (all quiet (utf8s words)) → Attributes t → Attributes (utf8s (state_with words) ++ t)
with-state words t h k =
    subst Attributes (sym (state-shape words t))
    (a-more (chars "xmlns:ixml") tt (quiet-value (chars "http://invisiblexml.org/NS") tt) (a-more (chars "ixml:state") tt (quiet-value (utf8s words) h) k))

all-state : (a m : Bool) (t : List ℕ) → Attributes t → Attributes (utf8s (state a m) ++ t)
unfolding utf8s utf8
all-state true true t k = with-state (chars "ambiguous version-mismatch") t tt k
all-state true false t k = with-state (chars "ambiguous") t tt k
all-state false true t k = with-state (chars "version-mismatch") t tt k
all-state false false t k = k

-- 3. Elements and content.
abbrev ordinary : ℕ → Bool
ordinary b = not (among b (chars "<&"))

content-bytes : (bs : List ℕ) {t : List ℕ} → T (all ordinary bs) → Content t → Content (bs ++ t)
content-bytes [] h k = k
content-bytes (b ∷ bs) h k = c-byte {b = b} (and_left (ordinary b) (all ordinary bs) h) (content-bytes bs (and_right (ordinary b) (all ordinary bs) h) k)

high-ordinary : (b : ℕ) → 0x80 ≤ b → ordinary b ≡ true
high-ordinary b h = rw (ne_eqb b 0x3c (λ e. omega arith), ne_eqb b 0x26 (λ e. omega arith)) refl

content-one : {c : ℕ} {e : Text} (t : List ℕ) → Escaped false c e → Content t → Content (utf8s e ++ t)
content-one t (as-reference {n} k) v = rw (reference-bytes k, append_assoc n (0x3b ∷ []) t) (c-reference k v)
content-one {c} t (as-itself h) v =
    let no : (k : ℕ) → T (special false k) → eqb c k ≡ false = λ k m. not_at c k (chars "&<>\r") h m in
    let q : ordinary c ≡ true = simp (no 0x3c tt, no 0x26 tt) in
    rw (utf8s-one c) (content-bytes (utf8 c) (is_t (each-byte ordinary c high-ordinary (λ _. q))) v)

-- a start tag up to its attributes, and what ends an element that is not empty
start-shape : (n st a e : Text) → utf8s (chars "<" ++ n ++ st ++ a ++ e) ≡ 0x3c ∷ (utf8s n ++ ((utf8s st ++ (utf8s a ++ [])) ++ utf8s e))
unfolding utf8
start-shape n st a e = simp (append_assoc, utf8s-cons, utf8s-append)

end-shape : (n k : Text) → utf8s (chars ">" ++ k ++ chars "</" ++ n ++ chars ">") ≡ 0x3e ∷ (utf8s k ++ 0x3c ∷ 0x2f ∷ (utf8s n ++ 0x3e ∷ []))
unfolding utf8
end-shape n k = simp (append_assoc, utf8s-cons, utf8s-append, utf8s-none)

empty-end : utf8s (chars "/>") ≡ 0x2f ∷ 0x3e ∷ []
unfolding utf8s utf8
empty-end = refl

one-element : (n st a k : Text) → T (all name_byte (utf8s n)) → Attributes (utf8s st ++ (utf8s a ++ [])) → Content (utf8s k) → Element (utf8s (chars "<" ++ n ++ st ++ a ++ closed n k))
one-element n st a [] h l c =
    let e = start-shape n st a (chars "/>") ∙ ap (λ (z : List ℕ). 0x3c ∷ (utf8s n ++ ((utf8s st ++ (utf8s a ++ [])) ++ z))) empty-end in
    subst Element (sym e) (e-empty (utf8s n) h l)
one-element n st a (d ∷ ds) h l c =
    let e = start-shape n st a (closed n (d ∷ ds)) ∙ ap (λ (z : List ℕ). 0x3c ∷ (utf8s n ++ ((utf8s st ++ (utf8s a ++ [])) ++ z))) (end-shape n (d ∷ ds)) in
    subst Element (sym e) (e-full (utf8s n) h l c)

contents : (x : Xml) (t : List ℕ) → misnamed x ≡ false → Content t → Content (utf8s (content x) ++ t)
unfolding misnamed
contents none t m k = rw utf8s-none k
contents (char c x) t m k =
    let r = content-one (utf8s (content x) ++ t) (escaped false c) (contents x t m k) in
    let e : utf8s (escape false c ++ content x) ++ t ≡ utf8s (escape false c) ++ (utf8s (content x) ++ t) = simp (utf8s-append, append_assoc) in
    subst Content (sym e) r
contents (attr n v x) t m k = contents x t (neither (not (xml_name n)) (misnamed x) m).1 k
contents (elem n i x) t m k =
    let p = neither (not (xml_name n) || misnamed i) (misnamed x) m in
    let q = neither (not (xml_name n)) (misnamed i) p.0 in
    let inside : Content (utf8s (content i)) = subst Content (append-nil (utf8s (content i))) (contents i [] q.1 c-end) in
    let tag : Attributes (utf8s [] ++ (utf8s (attributes i) ++ [])) = rw utf8s-none (all-attributes i [] q.1 a-end) in
    let r = c-element (one-element n [] (attributes i) (content i) (named n (not-true (xml_name n) q.0)) tag inside) (contents x t p.1 k) in
    let e : content (elem n i x) ≡ (chars "<" ++ n ++ [] ++ attributes i ++ closed n (content i)) ++ content x = simp append_assoc in
    let f : utf8s (content (elem n i x)) ++ t ≡ utf8s (chars "<" ++ n ++ [] ++ attributes i ++ closed n (content i)) ++ (utf8s (content x) ++ t) =
    ap (λ (s : Text). utf8s s ++ t) e ∙ ap (λ (s : List ℕ). s ++ t) (utf8s-append (chars "<" ++ n ++ [] ++ attributes i ++ closed n (content i)) (content x))
    ∙ append_assoc (utf8s (chars "<" ++ n ++ [] ++ attributes i ++ closed n (content i))) (utf8s (content x)) t in
    subst Content (sym f) r

pub well-formed : WellFormed
unfolding misnamed not_one bytes
well-formed a m none n o = absurd (clash o refl)
well-formed a m (char c x) n o = absurd (clash o refl)
well-formed a m (attr k v x) n o = absurd (clash o refl)
well-formed a m (elem k i (char c x)) n o = absurd (clash o refl)
well-formed a m (elem k i (attr l v x)) n o = absurd (clash o refl)
well-formed a m (elem k i (elem l j x)) n o = absurd (clash o refl)
well-formed a m (elem k i none) n o =
    let p = neither (not (xml_name k) || misnamed i) false n in
    let q = neither (not (xml_name k)) (misnamed i) p.0 in
    let inside : Content (utf8s (content i)) = subst Content (append-nil (utf8s (content i))) (contents i [] q.1 c-end) in
    one-element k (state a m) (attributes i) (content i) (named k (not-true (xml_name k) q.0)) (all-state a m (utf8s (attributes i) ++ []) (all-attributes i [] q.1 a-end)) inside
