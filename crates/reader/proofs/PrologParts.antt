-- Words, the prolog, and the whole grammar.
use Rattle.std.specs.Prelude.{Some, None}
use mathlib.Core.Path.{◌≡◌, refl, sym, ap, ◌∙◌}
use mathlib.Core.List.{List, ◌++◌, append_assoc, append-nil}
use Prim.Native.Nat.{ℕ, suc, ◌+◌, ◌<◌, ◌≤◌}
use native.Mathlib.Omega.{arith}
use lib.ListN.{length, drop, take, get_or}
use borrow.Author.Tests.{eq-eqb, ne_eqb}
use Rattle.text.specs.Lists.{Text, chars, concat_map}
use Rattle.tree.specs.Tree.{no-prolog, version}
use Rattle.tree.specs.Tokens.{rule_tokens, prolog_tokens}
use Rattle.syntax.specs.Syntax.{ch}
use Rattle.syntax.specs.Result.{Result, ok, fail, hd, map, then, guard, expect}
use Rattle.syntax.specs.Spacing.{skip, required, spaced}
use Rattle.syntax.specs.Lexical.{read_word, read-string}
use Rattle.syntax.specs.Parser.{read-rule, heading, after-heading, read-prolog, grammar, read-ixml, answer, parse}
use Rattle.spacing.specs.Answers.{Past, Step, Onward, Skipped, Room, Read}
use Rattle.lexical.specs.Answers.{After-name, counted_code}
use Rattle.spacing.proofs.Places.{at-char, tl-at, in-char}
use Rattle.spacing.proofs.Places as places
use Rattle.spacing.proofs.Parts.{as-part}
use Rattle.reader.specs.Answers.{one_of, closing, Closed, Rules=, rule_code, rules_code, prolog_code, Passed, After-heading, After-word, After-version, After-prolog, Readable, Held, NotIxml}
use Rattle.reader.proofs.Loops.{encode-append}
use Rattle.reader.proofs.Closings.{one-of-one, closing_same, closing-map, closed_after}

-- where the loop of `word` is: k characters of the word are passed
pub record Spelled (w s : Text) (p i k : ℕ) : Type 0 where
  pub same : read_word w (drop p s) ≡ read_word (drop k w) (drop i s)
  pub onward : Onward s p i

pub spelled-start : (w s : Text) (p : ℕ) → p ≤ length s → Spelled w s p p 0
spelled-start w s p h = record { same = refl; onward = record { on = omega arith; within = h } }

module _ (w s : Text) (p i k : ℕ) (v : Spelled w s p i k) where
  pub spelled-end : length w ≤ k → Passed (λ x. read_word w (drop p s) ≡ x) s p i
  unfolding read_word
  spelled-end h = record { same = v.same ∙ rw (places.at-end w k h); onward = v.onward }

  module _ (h : k < length w) (c : ℕ) (u : c ≡ hd (drop i s)) where
    pub spelled-no : (c ≡ get_or w k 0 → ⊥) → read_word w (drop p s) ≡ fail
    unfolding read_word expect guard ch
    spelled-no g = v.same ∙ rw (at-char w k h, ← u, ne_eqb c (get_or w k 0) g)

    module _ (e : c ≡ get_or w k 0) (l : get_or w k 0 < 256) where
      pub spelled-in : i < length s
      spelled-in = in-char s i c u (omega arith)

      pub spelled-on : Spelled w s p (i + 1) (k + 1)
      unfolding read_word expect guard ch
      spelled-on = let n = v.onward in let m = spelled-in in record {
        same = v.same ∙ rw (at-char w k h, ← u, eq-eqb c (get_or w k 0) e, tl-at s i);
        onward = record { on = omega arith; within = omega arith };
      }

-- the heading
pub heading-no-ixml : (s : Text) (p : ℕ) → read_word (chars "ixml") (drop p s) ≡ fail → heading (drop p s) ≡ fail
unfolding heading then
heading-no-ixml s p e = rw e

module _ (s : Text) (p q : ℕ) (a : Passed (λ x. read_word (chars "ixml") (drop p s) ≡ x) s p q) where
  pub heading-no-space : required (drop q s) ≡ fail → heading (drop p s) ≡ fail
  unfolding heading then
  heading-no-space e = rw (a.same, e)

  pub heading-word : (u : ℕ) → Passed (λ x. required (drop q s) ≡ x) s q u → (r : Past) → After-word (chars "version") s u r → After-heading s p r
  unfolding heading then
  heading-word u b (Some w) v =
      let i = a.onward in let j = b.onward in let k = v.onward in record
      { same = rw (a.same, b.same) v.same; onward = record { on = omega arith; within = k.within } }
  heading-word u b None v = rw (a.same, b.same) v

-- the version
pub version-no-space : (s : Text) (p : ℕ) → required (drop p s) ≡ fail → (t : Text) → after-heading (ok tt (drop p s)) t ≡ fail
unfolding after-heading then
version-no-space s p e t = rw e

module _ (s : Text) (p q : ℕ) (a : Passed (λ x. required (drop p s) ≡ x) s p q) where
  abbrev closes : Result Text → Result Text
  closes x = then x (λ k u. map (λ _. k) (closing (one_of 0x2e 0x2e) u))

  version_of : (t : Text) → after-heading (ok tt (drop p s)) t ≡ map version (closes (read-string (drop q s)))
  unfolding after-heading then spaced
  version_of t = rw a.same (closing-map (ch 0x2e) version (read-string (drop q s)) ∙ ap (map version) (closed_same (read-string (drop q s))))
    where
      closed_same : (x : Result Text) → then x (λ k u. map (λ _. k) (closing (ch 0x2e) u)) ≡ closes x
      closed_same (ok k u) = ap (map (λ _. k)) (closing_same (ch 0x2e) (one_of 0x2e 0x2e) (λ c. sym (one-of-one 0x2e c)) u)
      closed_same fail = refl

  -- the string, the full stop after it, and spacing
  pub version-closed : (o : List ℕ) (at : ℕ) (r : Step) (o' : List ℕ) (r' : Step)
      → After-name read-string 40 s q o at r o' → Closed (one_of 0x2e 0x2e) s r r' → After-version s p o at r' o'
  version-closed o at r o' r' b g =
      let i = a.onward in
      as-part (λ x. closes (read-string (drop q s)) ≡ x) (λ x. (t : Text) → after-heading (ok tt (drop p s)) t ≡ x) (counted_code 40) prolog_code
      version s p p q (q + 1) o at i.on (omega arith) (λ k. append-nil (counted_code 40 k)) (λ x e t. version_of t ∙ ap (map version) e) r' o'
      (closed_after (λ x. read-string (drop q s) ≡ x) (λ x. closes (read-string (drop q s)) ≡ x) (one_of 0x2e 0x2e) (counted_code 40) s q (q + 1) o at (λ x e. ap closes e) r o' r' b g)

-- the prolog
pub prolog-none : (s : Text) (p : ℕ) (o : List ℕ) (at : ℕ) → p ≤ length s → heading (drop p s) ≡ fail → Read (λ x. read-prolog (drop p s) ≡ x) prolog_code s p p o at o p at
unfolding read-prolog after-heading
prolog-none s p o at h e = record {
  value = no-prolog;
  same = rw e;
  onward = record { on = omega arith; within = h };
  wrote = sym (append-nil (take at o));
  cells = omega arith;
}

pub prolog-some : (s : Text) (p u : ℕ) → Passed (λ x. heading (drop p s) ≡ x) s p u → (o : List ℕ) (at : ℕ) (r : Step) (o' : List ℕ)
    → After-version s u o at r o' → After-prolog s p o at r o'
unfolding read-prolog
prolog-some s p u a o at (Some (q, b)) o' v = let i = a.onward in let j = v.onward in let d = v.cells in record {
  value = v.value;
  same = rw a.same (v.same (drop p s));
  onward = record { on = omega arith; within = j.within };
  wrote = v.wrote;
  cells = omega arith;
}
prolog-some s p u a o at None o' v = rw a.same (v (drop p s))

-- the whole
module _ (s : Text) where
  pub grammar-bad : skip (drop 0 s) ≡ fail → NotIxml s 4
  unfolding parse read-ixml then answer
  grammar-bad e = record { number = refl; none = rw e }

  module _ (u : ℕ) (k : Skipped s 0 u) where
    pub grammar-room : (o : List ℕ) → Readable s o → Room s u o 0
    grammar-room o r = let d = r.room in record { place = k.onward.within; cells = omega arith; few = r.few }

    pub grammar-no-prolog : read-prolog (drop u s) ≡ fail → NotIxml s 4
    unfolding parse read-ixml then answer
    grammar-no-prolog e = record { number = refl; none = rw (k.past, e) }

    module _ (o o1 : List ℕ) (v a : ℕ) (g : Read (λ x. read-prolog (drop u s) ≡ x) prolog_code s u u o 0 o1 v a) where
      pub grammar-no-rule : read-rule (drop v s) ≡ fail → NotIxml s 4
      unfolding parse read-ixml then answer
      grammar-no-rule e = record { number = refl; none = rw (k.past, g.same, e) }

      module _ (o2 : List ℕ) (w b : ℕ) (r : Read (λ x. read-rule (drop v s) ≡ x) rule_code s v (v + 1) o1 a o2 w b) where
        pub grammar-no-rules : Rules= (drop w s) fail → NotIxml s 4
        unfolding parse read-ixml then map answer
        grammar-no-rules e = record { number = refl; none = rw (k.past, g.same, r.same, e (suc (length (drop w s))) (omega arith)) }

        pub grammar-got : (o3 : List ℕ) (x e : ℕ) → Read (λ x. Rules= (drop w s) x) rules_code s w w o2 b o3 x e → Held s o3 e
        unfolding parse read-ixml then map answer
        grammar-got o3 x e f = let c1 = g.cells in let c2 = r.cells in let c3 = f.cells in let n = f.onward in record {
          tree = grammar g.value r.value f.value;
          same = rw (k.past, g.same, r.same, f.same (suc (length (drop w s))) (omega arith));
          holds = f.wrote ∙ ap (λ (l : List ℕ). l ++ rules_code f.value) (r.wrote ∙ ap (λ (l : List ℕ). l ++ rule_code r.value) g.wrote)
              ∙ append_assoc (prolog_code g.value) (rule_code r.value) (rules_code f.value)
              ∙ ap (λ (l : List ℕ). prolog_code g.value ++ l) (sym (encode-append (rule_tokens r.value) (concat_map rule_tokens f.value)))
              ∙ sym (encode-append (prolog_tokens g.value) (rule_tokens r.value ++ concat_map rule_tokens f.value));
          cells = omega arith;
        }
