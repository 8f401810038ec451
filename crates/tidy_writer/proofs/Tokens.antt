-- A token's text from its numbers in the table.
use mathlib.Core.Path.{◌≡◌, refl, sym, ap, ◌∙◌}
use mathlib.Core.List.{List, [], ◌∷◌, ◌++◌, append-nil, append_assoc}
use Prim.Native.Nat.{ℕ, ◌+◌, ◌<◌, ◌≤◌}
use native.Mathlib.Omega.{arith}
use lib.ListN.{get_or, take, drop}
use lib.Seq.{get_or-drop, drop-drop}
use borrow.Author.Tests.{eq-eqb, ne_eqb, lt-ltb, le-ltb}
use Rattle.text.specs.Lists.{Text, chars, concat_map}
use Rattle.tree.specs.Tree.{Mark, Chars, string, hex}
use Rattle.tree.specs.Tokens.{Token, name, quoted, coded, include, exclude, member-quoted, member-coded, member-range, member-class, set-end, insert-quoted, insert-coded}
use Rattle.tree.specs.Tokens.{open-group, close-group, next-alternative, to-option, to-repeat0, to-repeat1, to-repeat0sep, to-repeat1sep, rule-head, rule_end, version-is}
use Rattle.tree.specs.Tokens.{mark_number, capped, end_numbers, class_numbers}
use Rattle.tokens.specs.Lengths.{form_of, first_number, TokenAt}
use Rattle.tokens.specs.Names.{name_at}
use Rattle.tokens.proofs.Walk.{by-mark, form, stands-first, stands-form, stands-reads, stands-spelt}
use Rattle.encode.specs.Out.{spelt, Wrote}
use Rattle.encode.specs.declared.Spelling.TheVariants.{Plain}
use Rattle.encode.proofs.Puts.{wrote-text}
use Rattle.encode.proofs.Texts.{spelt-plain}
use Rattle.tidy.specs.Tidy.{quoted_text, hex_text, chars_text, mark_text}
use Rattle.tidy.specs.Scan.{token_text}
use Rattle.tidy.specs.Numbers.{sign_by}
use Rattle.tidy.proofs.Numbers.{numbered}
use Rattle.tidy_parts.specs.Parts.{lead_by, sign_at, tail_by, coded_text}
use Rattle.tidy_writer.specs.Parts.{end_at, range_at, class_at, held_at, FitEnd, FitClass, Fit}

module _ (T : List ℕ) (k : ℕ) where
  pub end-quoted : (c : ℕ) → c ≡ get_or T k 0 → c ≡ 0 → end_at T k ≡ quoted_text (take 1 (drop (k + 1) T))
  unfolding end_at
  end-quoted c e z = rw (sym e ∙ z)

  pub end-coded : (c n : ℕ) → c ≡ get_or T k 0 → (c ≡ 0 → ⊥) → n ≡ get_or T (k + 1) 0 → end_at T k ≡ coded_text n
  unfolding end_at
  end-coded c n e f g = rw (← e, ne_eqb c 0 f, g)

  pub class-one : (c d : ℕ) → c ≡ get_or T k 0 → d ≡ get_or T (k + 1) 0 → d ≡ 0 → class_at T k ≡ c ∷ []
  unfolding class_at
  class-one c d e g z = rw (sym g ∙ z, e)

  pub class-two : (c d : ℕ) → c ≡ get_or T k 0 → d ≡ get_or T (k + 1) 0 → (d ≡ 0 → ⊥) → class_at T k ≡ c ∷ d ∷ []
  unfolding class_at
  class-two c d e g f = rw (← g, ne_eqb d 0 f, e)

  module _ (f n : ℕ) (e : n ≡ get_or T (k + 1) 0) where
    pub held-name : f < 2 → held_at f T k ≡ concat_map (spelt Plain) (take n (drop (k + 2) T))
    unfolding held_at
    held-name h = rw (lt-ltb f 2 h, e) (sym (spelt-plain (name_at T k)))

    pub held-quoted : 2 ≤ f → f ≡ 2 → held_at f T k ≡ quoted_text (take n (drop (k + 2) T))
    unfolding held_at
    held-quoted h z = rw (le-ltb f 2 h, eq-eqb f 2 z, e)

    pub held-coded : 2 ≤ f → (f ≡ 2 → ⊥) → f ≡ 3 → held_at f T k ≡ coded_text n
    unfolding held_at
    held-coded h a z = rw (le-ltb f 2 h, ne_eqb f 2 a, eq-eqb f 3 z, e)

  module _ (f : ℕ) (h : 2 ≤ f) (a : f ≡ 2 → ⊥) (b : f ≡ 3 → ⊥) where
    pub held-range : f ≡ 4 → held_at f T k ≡ range_at T (k + 1)
    unfolding held_at
    held-range z = rw (le-ltb f 2 h, ne_eqb f 2 a, ne_eqb f 3 b, eq-eqb f 4 z)

    pub held-class : (f ≡ 4 → ⊥) → f ≡ 5 → held_at f T k ≡ class_at T (k + 1)
    unfolding held_at
    held-class d z = rw (le-ltb f 2 h, ne_eqb f 2 a, ne_eqb f 3 b, ne_eqb f 4 d, eq-eqb f 5 z)

    pub held_none : (f ≡ 4 → ⊥) → (f ≡ 5 → ⊥) → held_at f T k ≡ []
    unfolding held_at
    held_none d z = rw (le-ltb f 2 h, ne_eqb f 2 a, ne_eqb f 3 b, ne_eqb f 4 d, ne_eqb f 5 z)

pub held-as : {l p p₁ : ℕ} {o o₁ : List ℕ} (T : List ℕ) (k : ℕ) {f F : ℕ} {x : Text} → f ≡ F → held_at f T k ≡ x
    → Wrote l p o p₁ o₁ x → Wrote l p o p₁ o₁ (held_at F T k)
held-as T k e q = wrote-text (ap (λ (g : ℕ). held_at g T k) (sym e) ∙ q)

-- what a token holds
abbrev held : Token → Text
held (name m n) = n
held (quoted m cs) = quoted_text cs
held (coded m n) = chars_text (hex n)
held (include m) = []
held (exclude m) = []
held (member-quoted cs) = quoted_text cs
held (member-coded n) = chars_text (hex n)
held (member-range a b) = chars_text a ++ chars "-" ++ chars_text b
held (member-class k) = k
held set-end = []
held (insert-quoted cs) = quoted_text cs
held (insert-coded n) = chars_text (hex n)
held open-group = []
held close-group = []
held next-alternative = []
held to-option = []
held to-repeat0 = []
held to-repeat1 = []
held to-repeat0sep = []
held to-repeat1sep = []
held (rule-head m n) = n
held rule_end = []
held (version-is cs) = quoted_text cs

-- a kind that has a mark, and what stands after it
abbrev Marked : ℕ → Text → ℕ → Type 0
Marked k z m = (lead_by k ≡ sign_by m) × (tail_by k ≡ z)

marked : (k : ℕ) (m : Mark) (h : Text) {z t : Text} → Marked k z (mark_number m) → t ≡ h ++ z → mark_text m ++ t ≡ lead_by k ++ (h ++ tail_by k)
marked k m h w e = rw (w.0, w.1, numbered.signs m, e)

parts : (x : Token) → token_text x ≡ lead_by (first_number x) ++ (held x ++ tail_by (first_number x))
unfolding lead_by tail_by sign_at sign_by
parts (name m n) = marked (mark_number m) m n (by-mark (λ k. Marked k [] k) (refl, refl) (refl, refl) (refl, refl) (refl, refl) m) (sym (append-nil n))
parts (quoted m cs) = marked (4 + mark_number m) m (quoted_text cs) (by-mark (λ k. Marked (4 + k) [] k) (refl, refl) (refl, refl) (refl, refl) (refl, refl) m)
    (sym (append-nil (quoted_text cs)))
parts (coded m n) = marked (8 + mark_number m) m (chars_text (hex n)) (by-mark (λ k. Marked (8 + k) [] k) (refl, refl) (refl, refl) (refl, refl) (refl, refl) m)
    (sym (append-nil (chars_text (hex n))))
parts (include m) = marked (12 + mark_number m) m [] (by-mark (λ k. Marked (12 + k) (chars "[") k) (refl, refl) (refl, refl) (refl, refl) (refl, refl) m) refl
parts (exclude m) = marked (16 + mark_number m) m [] (by-mark (λ k. Marked (16 + k) (chars "~[") k) (refl, refl) (refl, refl) (refl, refl) (refl, refl) m) refl
parts (rule-head m n) = append_assoc (mark_text m) n (chars ": ")
    ∙ marked (20 + mark_number m) m n (by-mark (λ k. Marked (20 + k) (chars ": ") k) (refl, refl) (refl, refl) (refl, refl) (refl, refl) m) refl
parts (member-quoted cs) = sym (append-nil (quoted_text cs))
parts (member-coded n) = sym (append-nil (chars_text (hex n)))
parts (member-range a b) = sym (append-nil (chars_text a ++ chars "-" ++ chars_text b))
parts (member-class k) = sym (append-nil k)
parts set-end = refl
parts (insert-quoted cs) = ap (λ (t : Text). chars "+" ++ t) (sym (append-nil (quoted_text cs)))
parts (insert-coded n) = ap (λ (t : Text). chars "+" ++ t) (sym (append-nil (chars_text (hex n))))
parts open-group = refl
parts close-group = refl
parts next-alternative = refl
parts to-option = refl
parts to-repeat0 = refl
parts to-repeat1 = refl
parts to-repeat0sep = refl
parts to-repeat1sep = refl
parts rule_end = refl
parts (version-is cs) = refl

code_at : (n v : ℕ) → n < 0x110000 → v ≡ capped n → coded_text v ≡ chars_text (hex n)
code_at n v h e = let z : capped v ≡ n = omega arith in ap (λ (c : ℕ). chars "#" ++ hex_text c) z

-- numbers that stand at a place
module _ (T : List ℕ) (k : ℕ) {a : ℕ} {xs : List ℕ} (e : drop k T ≡ a ∷ xs) where
  at_first : get_or T k 0 ≡ a
  at_first =
      let z : k ≡ k + 0 = omega arith in
      ap (λ (i : ℕ). get_or T i 0) z ∙ sym (get_or-drop k T 0 0) ∙ ap (λ (l : List ℕ). get_or l 0 0) e

  at_next : drop (k + 1) T ≡ xs
  at_next = sym (drop-drop 1 k T) ∙ ap (drop 1) e

at-third : (T : List ℕ) (k : ℕ) {a b : ℕ} {xs : List ℕ} → drop k T ≡ a ∷ b ∷ xs → drop (k + 2) T ≡ xs
at-third T k e = sym (drop-drop 2 k T) ∙ ap (drop 2) e

at_second : (T : List ℕ) (k : ℕ) {a b : ℕ} {xs : List ℕ} → drop k T ≡ a ∷ b ∷ xs → get_or T (k + 1) 0 ≡ b
at_second T k e = at_first T (k + 1) (at_next T k e)

end_is : (T : List ℕ) (k : ℕ) (a : Chars) (more : List ℕ) → FitEnd a → drop k T ≡ end_numbers a ++ more → (end_at T k ≡ chars_text a) × (drop (k + 2) T ≡ more)
end_is T k (string []) more h e = absurd (omega arith)
end_is T k (string (c ∷ [])) more h e =
    (end-quoted T k 0 (sym (at_first T k e)) refl ∙ ap (λ (l : List ℕ). quoted_text (take 1 l)) (at_next T k e), at-third T k e)
end_is T k (string (c ∷ d ∷ cs)) more h e = absurd (omega arith)
end_is T k (hex n) more h e =
    (end-coded T k 1 (capped n) (sym (at_first T k e)) (λ (z : 1 ≡ 0). omega arith) (sym (at_second T k e)) ∙ code_at n (capped n) h refl, at-third T k e)

range-is : (T : List ℕ) (k : ℕ) (a b : Chars) (more : List ℕ) → FitEnd a × FitEnd b → drop k T ≡ (end_numbers a ++ end_numbers b) ++ more
    → range_at T k ≡ chars_text a ++ chars "-" ++ chars_text b
range-is T k a b more h e =
    let l = end_is T k a (end_numbers b ++ more) h.0 (e ∙ append_assoc (end_numbers a) (end_numbers b) more) in
    rw (l.0, (end_is T (k + 2) b more h.1 l.1).0)

class-is : (T : List ℕ) (k : ℕ) (x : Text) (more : List ℕ) → FitClass x → drop k T ≡ class_numbers x ++ more → class_at T k ≡ x
class-is T k [] more h e = absurd h
class-is T k (c ∷ []) more h e = class-one T k c 0 (sym (at_first T k e)) (sym (at_second T k e)) refl
class-is T k (c ∷ d ∷ cs) more h e =
    class-two T k c d (sym (at_first T k e)) (sym (at_second T k e)) h.0 ∙ ap (λ (z : Text). c ∷ d ∷ z) (sym h.1)

module _ {T : List ℕ} {k : ℕ} where
  held-is : (x : Token) → TokenAt T k x → Fit x → held_at (form x) T k ≡ held x
  unfolding held_at form
  held-is (name m n) w h = stands-spelt w (mark_number m) n refl
  held-is (quoted m cs) w h = ap quoted_text (stands-spelt w (4 + mark_number m) cs refl)
  held-is (coded m n) w h = code_at n _ h (stands-reads w 1 (omega arith))
  held-is (include m) w h = refl
  held-is (exclude m) w h = refl
  held-is (member-quoted cs) w h = ap quoted_text (stands-spelt w 24 cs refl)
  held-is (member-coded n) w h = code_at n _ h (stands-reads w 1 (omega arith))
  held-is (member-range a b) w h = range-is T (k + 1) a b w.more h (at_next T k w.stands)
  held-is (member-class x) w h = class-is T (k + 1) x w.more h (at_next T k w.stands)
  held-is set-end w h = refl
  held-is (insert-quoted cs) w h = ap quoted_text (stands-spelt w 29 cs refl)
  held-is (insert-coded n) w h = code_at n _ h (stands-reads w 1 (omega arith))
  held-is open-group w h = refl
  held-is close-group w h = refl
  held-is next-alternative w h = refl
  held-is to-option w h = refl
  held-is to-repeat0 w h = refl
  held-is to-repeat1 w h = refl
  held-is to-repeat0sep w h = refl
  held-is to-repeat1sep w h = refl
  held-is (rule-head m n) w h = stands-spelt w (20 + mark_number m) n refl
  held-is rule_end w h = refl
  held-is (version-is cs) w h = ap quoted_text (stands-spelt w 40 cs refl)

  pub token-text : (x : Token) → TokenAt T k x → Fit x → token_text x ≡ lead_by (get_or T k 0) ++ (held_at (form_of (get_or T k 0)) T k ++ tail_by (get_or T k 0))
  token-text x w h = rw (stands-form w, held-is x w h, stands-first w) (parts x)
