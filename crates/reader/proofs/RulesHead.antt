-- A rule and its head: each answer from the answers of what is called.
use mathlib.Core.Bool.{Bool, true, false}
use mathlib.Core.Path.{◌≡◌, refl, sym, ap, ◌∙◌}
use mathlib.Core.List.{List, [], ◌∷◌, ◌++◌, append_assoc}
use Prim.Native.Nat.{ℕ, ◌+◌, ◌<◌}
use native.Mathlib.Omega.{arith}
use lib.ListN.{length, drop, take, set}
use Rattle.text.specs.Limits.{levels}
use Rattle.text.specs.Lists.{Text}
use Rattle.tree.specs.Tree.{Mark, unmarked, included, attribute, deleted, Body, Rule}
use Rattle.tree.specs.Tokens.{mark_number, counted, body_tokens, rule_end}
use Rattle.syntax.specs.Syntax.{ch, defines}
use Rattle.syntax.specs.Result.{Result, ok, fail, hd, tl, map, then, guard, expect}
use Rattle.syntax.specs.Spacing.{skip}
use Rattle.syntax.specs.Lexical.{read-mark, read_name}
use Rattle.syntax.specs.Parser.{Alts=, alts, enough, rule, read-rule}
use Rattle.syntax.proofs.Classes.{ch-end}
use Rattle.spacing.specs.Answers.{Step, Onward, Room, Read, Step-in}
use Rattle.lexical.specs.Answers.{After-name, counted_code, Mark-read}
use Rattle.spacing.proofs.Parts.{as-part, step_in}
use Rattle.spacing.proofs.Places.{tl-at, in-text}
use Rattle.spacing.proofs.Table.{one_more}
use Rattle.reader.specs.Answers.{one_of, closing, Closed, Head, read_head, head_code, After-head, body_code, rule_code}
use Rattle.reader.proofs.Loops.{encode-append}
use Rattle.reader.proofs.Closings.{one-of-defines, closing_same, closing-map, closed_after}

-- room at a later place
pub room-on : (s : Text) (p q : ℕ) (o : List ℕ) (at : ℕ) → Room s p o at → Onward s p q → Room s q o at
room-on s p q o at r n = let c = r.cells in let d = n.on in record { place = n.within; cells = omega arith; few = r.few }

-- room after what was read
pub room_after : {A : Type 0} (E : Result A → Type 0) (code : A → List ℕ) (s : Text) (p lo : ℕ) (o : List ℕ) (at : ℕ) (m : List ℕ) (q b : ℕ)
    → Room s p o at → length m ≡ length o → Read E code s p lo o at m q b → Room s q m b
room_after E code s p lo o at m q b r e a = let c = r.cells in let d = a.cells in let f = r.few in record { place = a.onward.within; cells = omega arith; few = omega arith }

-- the head after its mark
head_of : (t u : Text) (m : Mark) → read-mark t ≡ ok m u → read_head t ≡ map (λ n. record { mark = m; name = n }) (then (read_name u) (λ n w. map (λ _. n) (closing (one_of 0x3d 0x3a) w)))
unfolding read_head then
head_of t u m e =
    rw e (closing-map defines (λ (n : Text). record { mark = m; name = n }) (read_name u))
    ∙ ap (map (λ (n : Text). record { mark = m; name = n })) (closed_same (read_name u))
  where
    closed_same : (x : Result Text) → then x (λ n w. map (λ _. n) (closing defines w)) ≡ then x (λ n w. map (λ _. n) (closing (one_of 0x3d 0x3a) w))
    closed_same (ok n w) = ap (map (λ _. n)) (closing_same defines (one_of 0x3d 0x3a) (λ c. sym (one-of-defines c)) w)
    closed_same fail = refl

pub head-no-mark : (s : Text) (p : ℕ) → read-mark (drop p s) ≡ fail → read_head (drop p s) ≡ fail
unfolding read_head then
head-no-mark s p e = rw e

mark-small : (m : Mark) → mark_number m < 4
mark-small unmarked = omega arith
mark-small included = omega arith
mark-small attribute = omega arith
mark-small deleted = omega arith

module _ (s : Text) (p q m : ℕ) (v : Mark-read s p q m) where
  pub mark-few : m < 4
  mark-few = rw v.number (mark-small v.value)

  -- the name, `=` or `:` after it, and spacing
  pub head-closed : (k : ℕ) → k ≡ 20 + m → (o : List ℕ) (at : ℕ) (r : Step) (o' : List ℕ) (r' : Step)
      → After-name read_name k s q o at r o' → Closed (one_of 0x3d 0x3a) s r r' → After-head s p o at r' o'
  head-closed k z o at r o' r' a g =
      let i = v.onward in
      as-part (λ x. then (read_name (drop q s)) (λ n u. map (λ _. n) (closing (one_of 0x3d 0x3a) u)) ≡ x) (λ x. read_head (drop p s) ≡ x) (counted_code k) head_code
      (λ n. record { mark = v.value; name = n }) s p (p + 1) q (q + 1) o at i.on (omega arith)
      (λ n. ap (λ (j : ℕ). j ∷ counted n) (sym (z ∙ ap (λ (j : ℕ). 20 + j) v.number))) made r' o'
      (closed_after (λ x. read_name (drop q s) ≡ x) (λ x. then (read_name (drop q s)) (λ n u. map (λ _. n) (closing (one_of 0x3d 0x3a) u)) ≡ x) (one_of 0x3d 0x3a)
      (counted_code k) s q (q + 1) o at (λ x e. ap (λ (y : Result Text). then y (λ n u. map (λ _. n) (closing (one_of 0x3d 0x3a) u))) e) r o' r' a g)
    where
      made : (x : Result Text) → then (read_name (drop q s)) (λ n u. map (λ _. n) (closing (one_of 0x3d 0x3a) u)) ≡ x
          → read_head (drop p s) ≡ map (λ n. record { mark = v.value; name = n }) x
      made x e = head_of (drop p s) (drop q s) v.value v.same ∙ ap (map (λ n. record { mark = v.value; name = n })) e

-- what follows the name of a head
abbrev head-rest : Mark → Text → Text → Result Head
head-rest m n w = expect defines w (λ x. map (λ _. record { mark = m; name = n }) (skip x))

-- a rule after its head
abbrev rule-rest : Head → Text → Result Rule
rule-rest h y = then (alts (enough y) levels y) (λ b z. expect (ch 0x2e) z (λ q. ok (rule h.mark h.name b) q))

rule-of : (t : Text) → read-rule t ≡ then (read_head t) (λ h y. rule-rest h y)
unfolding read-rule read_head then expect guard map
rule-of t = from-mark (read-mark t)
  where
    from-skip : (m : Mark) (n : Text) (x : Result (Unit {0}))
        → then x (λ _ y. rule-rest (record { mark = m; name = n }) y) ≡ then (map (λ _. record { mark = m; name = n }) x) (λ h y. rule-rest h y)
    from-skip m n (ok _ y) = refl
    from-skip m n fail = refl

    from-test : (m : Mark) (n : Text) (w : Text) (b : Bool)
        → guard b (λ _. then (skip (tl w)) (λ _ y. rule-rest (record { mark = m; name = n }) y)) ≡ then
        (guard b (λ _. map (λ _. record { mark = m; name = n }) (skip (tl w)))) (λ h y. rule-rest h y)
    from-test m n w true = from-skip m n (skip (tl w))
    from-test m n w false = refl

    from-space : (m : Mark) (n : Text) (x : Result (Unit {0}))
        → then x (λ _ w. expect defines w (λ x. then (skip x) (λ _ y. rule-rest (record { mark = m; name = n }) y))) ≡ then (then x (λ _ w. head-rest m n w)) (λ h y. rule-rest h y)
    from-space m n (ok _ w) = from-test m n w (defines (hd w))
    from-space m n fail = refl

    from-name : (m : Mark) (x : Result Text)
        → then x (λ n v. then (skip v) (λ _ w. expect defines w (λ x. then (skip x) (λ _ y. rule-rest (record { mark = m; name = n }) y)))) ≡ then
        (then x (λ n v. then (skip v) (λ _ w. head-rest m n w))) (λ h y. rule-rest h y)
    from-name m (ok n v) = from-space m n (skip v)
    from-name m fail = refl

    from-mark : (x : Result Mark)
        → then x
        (λ m u. then (read_name u)
        (λ n v. then (skip v) (λ _ w. expect defines w (λ x. then (skip x) (λ _ y. rule-rest (record { mark = m; name = n }) y)))))
        ≡ then (then x (λ m u. then (read_name u) (λ n v. then (skip v) (λ _ w. head-rest m n w)))) (λ h y. rule-rest h y)
    from-mark (ok m u) = from-name m (read_name u)
    from-mark fail = refl

pub rule-no-head : (s : Text) (p : ℕ) → read_head (drop p s) ≡ fail → read-rule (drop p s) ≡ fail
unfolding then
rule-no-head s p e = rule-of (drop p s) ∙ rw e

-- the numbers of a rule
rule-code : (h : Head) (b : Body) → rule_code (rule h.mark h.name b) ≡ head_code h ++ (body_code b ++ 39 ∷ [])
rule-code h b = ap (λ (l : List ℕ). head_code h ++ l) (encode-append (body_tokens b) (rule_end ∷ []))

module _ (s : Text) (p : ℕ) (o : List ℕ) (at : ℕ) (r : Room s p o at) (o1 : List ℕ) (y b : ℕ) (a : Read (λ x. read_head (drop p s) ≡ x) head_code s p (p + 1) o at o1 y b) where
  rule-at : read-rule (drop p s) ≡ rule-rest a.value (drop y s)
  unfolding then
  rule-at = rule-of (drop p s) ∙ rw a.same

  pub rule-no-body : Alts= 16 (drop y s) fail → read-rule (drop p s) ≡ fail
  unfolding then
  rule-no-body e = rule-at ∙ rw (e (enough (drop y s)) (omega arith))

  module _ (o2 : List ℕ) (len : length o2 ≡ length o) (z e : ℕ) (v : Read (λ x. Alts= 16 (drop y s) x) body_code s y y o1 b o2 z e) where
    rule-by : read-rule (drop p s) ≡ expect (ch 0x2e) (drop z s) (λ q. ok (rule a.value.mark a.value.name v.value) q)
    unfolding then
    rule-by = rule-at ∙ rw (v.same (enough (drop y s)) (omega arith))

    pub rule-no-stop : ch 0x2e (hd (drop z s)) ≡ false → read-rule (drop p s) ≡ fail
    unfolding expect guard
    rule-no-stop f = rule-by ∙ rw f

    module _ (f : ch 0x2e (hd (drop z s)) ≡ true) where
      pub stop-in : z < length s
      stop-in = in-text s z (ch 0x2e) (ch-end 0x2e refl) f

      pub stop-cell : e < length o2
      stop-cell = let i = stop-in in let c = r.cells in let d = a.cells in let g = v.cells in omega arith

      pub rule-got : Read (λ x. read-rule (drop p s) ≡ x) rule_code s p (p + 1) o at (set o2 e 39) (z + 1) (e + 1)
      unfolding expect guard
      rule-got = let i = stop-in in let d = a.cells in let g = v.cells in let j = a.onward in let k = v.onward in record {
        value = rule a.value.mark a.value.name v.value;
        same = rule-by ∙ rw (f, tl-at s z);
        onward = record { on = omega arith; within = omega arith };
        wrote = one_more o1 o2 b e 39 (body_code v.value) stop-cell v.wrote
            ∙ rw a.wrote (append_assoc (take at o) (head_code a.value) (body_code v.value ++ 39 ∷ []))
            ∙ ap (λ (l : List ℕ). take at o ++ l) (sym (rule-code a.value v.value));
        cells = omega arith;
      }

pub word_in : (f : Text → Result Text) (k : ℕ) (s : Text) (p : ℕ) (o : List ℕ) (at : ℕ) (r : Step) (o' : List ℕ) → After-name f k s p o at r o' → Step-in s r
word_in f k s p o at r o' a = step_in (λ x. f (drop p s) ≡ x) (counted_code k) s p (p + 1) o at r o' a
