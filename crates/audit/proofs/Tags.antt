-- The bytes of what is written, tag by tag and character by character.
use mathlib.Core.Path.{◌≡◌, refl, sym, ap, subst, ◌∙◌}
use mathlib.Core.Bool.{Bool, true, false, not, ◌||◌}
use mathlib.Core.Logic.{⊎_elim}
use mathlib.Core.List.{List, [], ◌∷◌, ◌++◌, append_assoc, append-nil}
use Prim.Native.Nat.{ℕ, ◌+◌, ◌/◌, ◌%◌, ◌<◌, ◌≤◌}
use native.Mathlib.Omega.{arith}
use lib.Dec.{T, ltb, eqb}
use borrow.Author.Tests.{eqb-true, ltb-true, ne_eqb}
use Rattle.text.specs.Lists.{inside, Text, chars, pick, all, among}
use Rattle.text.specs.Utf8.{utf8, utf8s}
use Rattle.text.proofs.Tests.{clash, look, is_t, T_true, and_left, and_right, both-and, or_left}
use Rattle.xml.specs.Names.{xml_name, name_start, name_char}
use Rattle.xml.specs.Document.{Xml, none, char, attr, elem, misnamed}
use Rattle.xml.specs.Bytes.{escape, attributes, closed, content}
use Rattle.xml.specs.References.{Reference, amp, lt, gt, apos, quot, tab, lf, cr}
use Rattle.xml.proofs.Escapes.{special, Escaped, as-reference, as-itself, escaped, not_at}
use Rattle.audit.specs.Audit.{Between, b-tag, b-reference, b-byte}
use Rattle.audit.proofs.Rows.{spoken, unadorned}

not-false : (b : Bool) → T (not b) → b ≡ false
not-false true h = absurd h
not-false false h = refl

pub utf8s-append : (xs ys : Text) → utf8s (xs ++ ys) ≡ utf8s xs ++ utf8s ys
unfolding utf8s
utf8s-append [] ys = refl
utf8s-append (x ∷ xs) ys = rw (utf8s-append xs ys) (sym (append_assoc (utf8 x) (utf8s xs) (utf8s ys)))

pub all_append : (f : ℕ → Bool) (xs ys : List ℕ) → T (all f xs) → T (all f ys) → T (all f (xs ++ ys))
all_append f [] ys h k = k
all_append f (x ∷ xs) ys h k = both-and (f x) (all f (xs ++ ys)) (and_left (f x) (all f xs) h) (all_append f xs ys (and_right (f x) (all f xs) h) k)

-- 1. Bytes of characters. Every byte of a character passes a test that the character passes, and every byte from 80 on.
pub each-byte : (f : ℕ → Bool) (c : ℕ) → ((b : ℕ) → 0x80 ≤ b → f b ≡ true) → (c < 0x80 → f c ≡ true) → all f (utf8 c) ≡ true
unfolding utf8
each-byte f c high low = ⊎_elim (λ e. rw e (rw (low (ltb-true c 0x80 e)) refl)) (λ e. rw e (two (ltb c 0x800))) (look (ltb c 0x80))
  where
    three : (b : Bool) → all f (pick b ((0xe0 + c / 4096) ∷ (0x80 + c / 64 % 64) ∷ (0x80 + c % 64) ∷ [])
        ((0xf0 + c / 262144) ∷ (0x80 + c / 4096 % 64) ∷ (0x80 + c / 64 % 64) ∷ (0x80 + c % 64) ∷ [])) ≡ true
    three true = rw (high (0xe0 + c / 4096) (omega arith), high (0x80 + c / 64 % 64) (omega arith), high (0x80 + c % 64) (omega arith)) refl
    three false = rw (high (0xf0 + c / 262144) (omega arith), high (0x80 + c / 4096 % 64) (omega arith), high (0x80 + c / 64 % 64) (omega arith), high (0x80 + c % 64) (omega arith)) refl

    two : (b : Bool) → all f (pick b ((0xc0 + c / 64) ∷ (0x80 + c % 64) ∷ [])
        (pick (ltb c 0x10000) ((0xe0 + c / 4096) ∷ (0x80 + c / 64 % 64) ∷ (0x80 + c % 64) ∷ [])
        ((0xf0 + c / 262144) ∷ (0x80 + c / 4096 % 64) ∷ (0x80 + c / 64 % 64) ∷ (0x80 + c % 64) ∷ []))) ≡ true
    two true = rw (high (0xc0 + c / 64) (omega arith), high (0x80 + c % 64) (omega arith)) refl
    two false = three (ltb c 0x10000)

-- 2. Characters, escaped.
abbrev ordinary : ℕ → Bool
ordinary b = not (among b (chars "<&"))

plain-bytes : (bs : List ℕ) {w u : List ℕ} → T (all ordinary bs) → Between w u → Between (bs ++ w) (bs ++ u)
plain-bytes [] h k = k
plain-bytes (b ∷ bs) h k = b-byte {b = b} (and_left (ordinary b) (all ordinary bs) h) (plain-bytes bs (and_right (ordinary b) (all ordinary bs) h) k)

high-ordinary : (b : ℕ) → 0x80 ≤ b → ordinary b ≡ true
high-ordinary b h = rw (ne_eqb b 0x3c (λ e. omega arith), ne_eqb b 0x26 (λ e. omega arith)) refl

-- a reference and its character are ASCII
pub reference-bytes : {n : Text} {c : ℕ} → Reference n c → utf8s (0x26 ∷ (n ++ 0x3b ∷ [])) ≡ 0x26 ∷ (n ++ 0x3b ∷ [])
unfolding utf8s utf8
reference-bytes amp = refl
reference-bytes lt = refl
reference-bytes gt = refl
reference-bytes apos = refl
reference-bytes quot = refl
reference-bytes tab = refl
reference-bytes lf = refl
reference-bytes cr = refl

character-byte : {n : Text} {c : ℕ} → Reference n c → utf8 c ≡ c ∷ []
unfolding utf8
character-byte amp = refl
character-byte lt = refl
character-byte gt = refl
character-byte apos = refl
character-byte quot = refl
character-byte tab = refl
character-byte lf = refl
character-byte cr = refl

pub utf8s-one : (c : ℕ) → utf8s (c ∷ []) ≡ utf8 c
unfolding utf8s
utf8s-one c = append-nil (utf8 c)

stands : {c : ℕ} {e : Text} (w u : List ℕ) → Escaped false c e → Between w u → Between (utf8s e ++ w) (utf8 c ++ u)
stands w u (as-reference {n} k) r =
    rw (reference-bytes k, character-byte k, append_assoc n (0x3b ∷ []) w) (b-reference k r)
stands {c} w u (as-itself h) r =
    let no : (k : ℕ) → T (special false k) → eqb c k ≡ false = λ k m. not_at c k (chars "&<>\r") h m in
    let o : ordinary c ≡ true = simp (no 0x3c tt, no 0x26 tt) in
    rw (utf8s-one c) (plain-bytes (utf8 c) (is_t (each-byte ordinary c high-ordinary (λ _. o))) r)

-- 3. Names: a test that no character of a name fails, and no byte from 80 on, holds of all bytes of a name.
not_in : (c : ℕ) (f : ℕ → Bool) (ks : Text) → f c ≡ true → T (all (λ k. not (f k)) ks) → among c ks ≡ false
not_in c f [] h n = refl
not_in c f (k ∷ ks) h n = rw (apart (eqb c k) refl, not_in c f ks h (and_right (not (f k)) (all (λ k. not (f k)) ks) n)) refl
  where
    apart : (b : Bool) → eqb c k ≡ b → eqb c k ≡ false
    apart true e = absurd (clash (not-false (f k) (and_left (not (f k)) (all (λ k. not (f k)) ks) n)) (subst (λ (d : ℕ). f d ≡ true) (eqb-true c k e) h))
    apart false e = e

-- none of ks is a name's character
name-text : (ks : Text) → T (all (λ k. not (name_char k)) ks) → ((b : ℕ) → 0x80 ≤ b → not (among b ks) ≡ true) → (cs : Text) → T (all name_char cs)
    → T (all (λ b. not (among b ks)) (utf8s cs))
unfolding utf8s
name-text ks n high [] h = tt
name-text ks n high (c ∷ cs) h =
    let e : not (among c ks) ≡ true = ap not (not_in c name_char ks (T_true (name_char c) (and_left (name_char c) (all name_char cs) h)) n) in
    all_append (λ b. not (among b ks)) (utf8 c) (utf8s cs) (is_t (each-byte (λ b. not (among b ks)) c high (λ _. e))) (name-text ks n high cs (and_right (name_char c) (all name_char cs) h))

pub name-bytes : (ks : Text) → T (all (λ k. not (name_char k)) ks) → ((b : ℕ) → 0x80 ≤ b → not (among b ks) ≡ true) → (n : Text) → T (xml_name n)
    → T (all (λ b. not (among b ks)) (utf8s n))
unfolding xml_name name_char
name-bytes ks k high [] h = absurd h
name-bytes ks k high (c ∷ cs) h =
    name-text ks k high (c ∷ cs) (both-and (name_char c) (all name_char cs) (or_left (name_start c) _ (and_left (name_start c) (all name_char cs) h)) (and_right (name_start c) (all name_char cs) h))

abbrev pub inner : ℕ → Bool
inner b = not (eqb b 0x3e)

inner-is : (b : ℕ) → not (among b (chars ">")) ≡ inner b
inner-is b = ap not (or_nothing (eqb b 0x3e))
  where
    or_nothing : (x : Bool) → x || false ≡ x
    or_nothing true = refl
    or_nothing false = refl

pub name-inner : (n : Text) → T (xml_name n) → T (all inner (utf8s n))
unfolding name_char name_start
name-inner n h = all_alike (utf8s n) (name-bytes (chars ">") tt (λ b l. rw (ne_eqb b 0x3e (λ e. omega arith)) refl) n h)
  where
    all_alike : (bs : List ℕ) → T (all (λ b. not (among b (chars ">"))) bs) → T (all inner bs)
    all_alike [] k = tt
    all_alike (b ∷ bs) k =
        both-and (inner b) (all inner bs) (subst T (inner-is b)
        (and_left (not (among b (chars ">"))) (all (λ b. not (among b (chars ">"))) bs) k))
        (all_alike bs (and_right (not (among b (chars ">"))) (all (λ b. not (among b (chars ">"))) bs) k))

-- a tag by what stands in it
pub tagged : (cs : Text) (w u : List ℕ) → T (all inner (utf8s cs)) → Between w u → Between (utf8s (0x3c ∷ (cs ++ 0x3e ∷ [])) ++ w) u
unfolding utf8s utf8
tagged cs w u h k =
    let e : utf8s (cs ++ 0x3e ∷ []) ++ w ≡ utf8s cs ++ 0x3e ∷ w = ap (λ (t : List ℕ). t ++ w) (utf8s-append cs (0x3e ∷ [])) ∙ append_assoc (utf8s cs) (0x3e ∷ []) w in
    rw e (b-tag (utf8s cs) h k)

-- 4. Elements.
pub no-attributes : (x : Xml) → T (unadorned x) → attributes x ≡ []
no-attributes none h = refl
no-attributes (char c x) h = no-attributes x h
no-attributes (attr n v x) h = absurd h
no-attributes (elem n i x) h = no-attributes x (and_right (unadorned i) (unadorned x) h)

pub not-true : (b : Bool) → not b ≡ false → T b
not-true true h = tt
not-true false h = absurd (clash h refl)

pub neither : (a b : Bool) → a || b ≡ false → (a ≡ false) × (b ≡ false)
neither true b h = absurd (clash h refl)
neither false b h = (refl, h)

-- what writes nothing says nothing
pub silent : (x : Xml) → content x ≡ [] → spoken x ≡ []
silent none e = refl
silent (char c x) e = absurd (go (escaped false c) e)
  where
    go : {t : Text} → Escaped false c t → t ++ content x ≡ [] → ⊥
    go (as-reference k) e = let z : ◌≡◌ {A = ℕ} 0 1 = cc in omega arith
    go (as-itself h) e = let z : ◌≡◌ {A = ℕ} 0 1 = cc in omega arith
silent (attr n v x) e = silent x e
silent (elem n i x) e = let z : ◌≡◌ {A = ℕ} 0 1 = cc in absurd (omega arith)

-- an element without attributes: its name, the state, its content
abbrev pub element : Text → Text → Text → Text
element n st k = chars "<" ++ (n ++ (st ++ closed n k))

slash : T (all inner (utf8s (chars "/")))
unfolding utf8s utf8
slash = tt

utf8s-none : (u : List ℕ) → utf8s [] ++ u ≡ u
unfolding utf8s
utf8s-none u = refl

module _ (n st : Text) (h : T (all inner (utf8s n))) (l : T (all inner (utf8s st))) where
  start-inner : T (all inner (utf8s (n ++ st)))
  start-inner = rw (utf8s-append n st) (all_append inner (utf8s n) (utf8s st) h l)

  empty-inner : T (all inner (utf8s ((n ++ st) ++ chars "/")))
  empty-inner = rw (utf8s-append (n ++ st) (chars "/")) (all_append inner (utf8s (n ++ st)) (utf8s (chars "/")) start-inner slash)

  end-inner : T (all inner (utf8s (chars "/" ++ n)))
  end-inner = rw (utf8s-append (chars "/") n) (all_append inner (utf8s (chars "/")) (utf8s n) slash h)

  -- the three parts of an element that is not empty, and the one of an empty one
  parts : (c : ℕ) (cs : Text) (w : List ℕ) → utf8s (element n st (c ∷ cs)) ++ w
      ≡ utf8s (0x3c ∷ ((n ++ st) ++ 0x3e ∷ [])) ++ (utf8s (c ∷ cs) ++ (utf8s (0x3c ∷ ((chars "/" ++ n) ++ 0x3e ∷ [])) ++ w))
  parts c cs w =
      let a : Text = 0x3c ∷ ((n ++ st) ++ 0x3e ∷ []) in
      let b : Text = 0x3c ∷ ((chars "/" ++ n) ++ 0x3e ∷ []) in
      let e : element n st (c ∷ cs) ≡ a ++ ((c ∷ cs) ++ b) = simp append_assoc in
      ap (λ (t : Text). utf8s t ++ w) e ∙ ap (λ (t : List ℕ). t ++ w) (utf8s-append a ((c ∷ cs) ++ b) ∙ ap (λ (t : List ℕ). utf8s a ++ t) (utf8s-append (c ∷ cs) b))
      ∙ append_assoc (utf8s a) (utf8s (c ∷ cs) ++ utf8s b) w ∙ ap (λ (t : List ℕ). utf8s a ++ t) (append_assoc (utf8s (c ∷ cs)) (utf8s b) w)

  pub element-between : (k s : Text) → (k ≡ [] → s ≡ []) → ((w u : List ℕ) → Between w u → Between (utf8s k ++ w) (utf8s s ++ u))
      → (w u : List ℕ) → Between w u → Between (utf8s (element n st k) ++ w) (utf8s s ++ u)
  element-between [] s z inside w u b =
      let e : element n st [] ≡ 0x3c ∷ (((n ++ st) ++ chars "/") ++ 0x3e ∷ []) = simp append_assoc in
      let t : Between (utf8s (0x3c ∷ (((n ++ st) ++ chars "/") ++ 0x3e ∷ [])) ++ w) u = tagged ((n ++ st) ++ chars "/") w u empty-inner b in
      let d : utf8s s ++ u ≡ u = ap (λ (x : Text). utf8s x ++ u) (z refl) ∙ utf8s-none u in
      subst (λ (x : List ℕ). Between (utf8s (element n st []) ++ w) x) (sym d) (subst (λ (x : Text). Between (utf8s x ++ w) u) (sym e) t)
  element-between (c ∷ cs) s z inside w u b =
      subst (λ (x : List ℕ). Between x (utf8s s ++ u)) (sym (parts c cs w))
      (tagged (n ++ st) _ _ start-inner (inside (utf8s (0x3c ∷ ((chars "/" ++ n) ++ 0x3e ∷ [])) ++ w) u (tagged (chars "/" ++ n) w u end-inner b)))

-- 5. All that a row writes.
none-inner : T (all inner (utf8s []))
unfolding utf8s
none-inner = tt

pub contents : (x : Xml) (w u : List ℕ) → T (unadorned x) → misnamed x ≡ false → Between w u → Between (utf8s (content x) ++ w) (utf8s (spoken x) ++ u)
unfolding misnamed
contents none w u h m b = subst (λ (x : List ℕ). Between x (utf8s [] ++ u)) (sym (utf8s-none w)) (subst (λ (x : List ℕ). Between w x) (sym (utf8s-none u)) b)
contents (char c x) w u h m b =
    let k = stands (utf8s (content x) ++ w) (utf8s (spoken x) ++ u) (escaped false c) (contents x w u h m b) in
    let e : utf8s (escape false c ++ content x) ++ w ≡ utf8s (escape false c) ++ (utf8s (content x) ++ w) =
    ap (λ (t : List ℕ). t ++ w) (utf8s-append (escape false c) (content x)) ∙ append_assoc (utf8s (escape false c)) (utf8s (content x)) w in
    let f : utf8s (c ∷ spoken x) ++ u ≡ utf8 c ++ (utf8s (spoken x) ++ u) = utf8s-more c (spoken x) u in
    subst (λ (t : List ℕ). Between t (utf8s (c ∷ spoken x) ++ u)) (sym e) (subst (λ (t : List ℕ). Between (utf8s (escape false c) ++ (utf8s (content x) ++ w)) t) (sym f) k)
  where
    utf8s-more : (c : ℕ) (t : Text) (u : List ℕ) → utf8s (c ∷ t) ++ u ≡ utf8 c ++ (utf8s t ++ u)
    utf8s-more c t u = ap (λ (s : List ℕ). s ++ u) (utf8s-append (c ∷ []) t) ∙ append_assoc (utf8s (c ∷ [])) (utf8s t) u ∙ ap (λ (s : List ℕ). s ++ (utf8s t ++ u)) (utf8s-one c)
contents (attr n v x) w u h m b = absurd h
contents (elem n i x) w u h m b =
    let hi = and_left (unadorned i) (unadorned x) h in
    let hx = and_right (unadorned i) (unadorned x) h in
    let m1 = neither (not (xml_name n) || misnamed i) (misnamed x) m in
    let m2 = neither (not (xml_name n)) (misnamed i) m1.0 in
    let rest = contents x w u hx m1.1 b in
    let k = element-between n [] (name-inner n (not-true (xml_name n) m2.0)) none-inner (content i) (spoken i) (silent i)
    (λ w u b. contents i w u hi m2.1 b) (utf8s (content x) ++ w) (utf8s (spoken x) ++ u) rest in
    let e : content (elem n i x) ≡ element n [] (content i) ++ content x = ap (λ (t : Text). chars "<" ++ n ++ t ++ closed n (content i) ++ content x) (no-attributes i hi) ∙ simp append_assoc in
    let f : utf8s (content (elem n i x)) ++ w ≡ utf8s (element n [] (content i)) ++ (utf8s (content x) ++ w) =
    ap (λ (t : Text). utf8s t ++ w) e ∙ ap (λ (t : List ℕ). t ++ w) (utf8s-append (element n [] (content i)) (content x))
    ∙ append_assoc (utf8s (element n [] (content i))) (utf8s (content x)) w in
    let d : utf8s (spoken i ++ spoken x) ++ u ≡ utf8s (spoken i)
    ++ (utf8s (spoken x) ++ u) = ap (λ (t : List ℕ). t ++ u) (utf8s-append (spoken i) (spoken x))
    ∙ append_assoc (utf8s (spoken i)) (utf8s (spoken x)) u in
    subst (λ (t : List ℕ). Between t (utf8s (spoken i ++ spoken x) ++ u)) (sym f) (subst (λ (t : List ℕ). Between (utf8s (element n [] (content i)) ++ (utf8s (content x) ++ w)) t) (sym d) k)
