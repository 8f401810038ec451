-- The loop of `rules`, and spacing that must be there.
use mathlib.Core.Bool.{Bool, true, false}
use mathlib.Core.Path.{◌≡◌, refl, sym, ap, subst, ◌∙◌}
use mathlib.Core.List.{List, [], ◌∷◌, ◌++◌, append_assoc, append-nil}
use Prim.Native.Nat.{ℕ, zero, suc, ◌+◌, ◌*◌, ◌-◌, ◌<◌, ◌≤◌}
use native.Mathlib.Omega.{arith}
use lib.ListN.{length, drop, take, get_or, length-drop}
use Rattle.text.specs.Lists.{Text, concat_map}
use Rattle.tree.specs.Tree.{Rule}
use Rattle.tree.specs.Tokens.{encode, rule_tokens}
use Rattle.syntax.specs.Result.{Result, ok, fail, hd, map, then, guard}
use Rattle.syntax.specs.Spacing.{skip, spacing, required}
use Rattle.syntax.specs.Parser.{read-rule, at-end, rules}
use Rattle.syntax.proofs.Holds.{Holds, some}
use Rattle.syntax.proofs.SpacingLaws as laws
use Rattle.spacing.specs.Answers.{Onward, Skipped, Room, Read}
use Rattle.spacing.proofs.Places.{at-char}
use Rattle.spacing.proofs.Places as places
use Rattle.reader.specs.Answers.{Rules=, rule_code, rules_code, Passed}
use Rattle.reader.proofs.Loops.{encode-append}

-- Spacing moves exactly where its first character is a spacing's.
stops-of : {t u : Text} → Holds {A = Unit {0}} (λ _ u. laws.Skipped t u) (ok (tt {0}) u) → spacing (hd u) ≡ false
stops-of (some k) = k.stops

same_rest : {t u : Text} → ok (tt {0}) t ≡ ok (tt {0}) u → t ≡ u
same_rest e = cc

module _ (s : Text) (p q : ℕ) (k : Skipped s p q) where
  pub unmoved : q ≡ p → spacing (hd (drop p s)) ≡ false
  unmoved e =
      subst (λ (x : ℕ). spacing (hd (drop x s)) ≡ false) e
      (stops-of {t = drop p s} {u = drop q s}
      (subst (λ (x : Result (Unit {0})). Holds (λ _ u. laws.Skipped (drop p s) u) x) k.past (laws.sound-s (drop p s))))

  pub moved : (q ≡ p → ⊥) → spacing (hd (drop p s)) ≡ true
  moved g = go (spacing (hd (drop p s))) refl
    where
      still : spacing (hd (drop p s)) ≡ false → q ≡ p
      still e = let d = k.onward in let a : drop p s ≡ drop q s = same_rest (sym (laws.stop-at (drop p s) e) ∙ k.past) in let b = ap length a in omega (arith, simp length-drop at b)

      go : (x : Bool) → spacing (hd (drop p s)) ≡ x → x ≡ true
      go true e = refl
      go false e = absurd (g (still e))

  pub required-still : q ≡ p → required (drop p s) ≡ fail
  unfolding required guard
  required-still e = rw (unmoved e)

  pub required-moved : (q ≡ p → ⊥) → Passed (λ x. required (drop p s) ≡ x) s p q
  unfolding required guard
  required-moved g = record { same = rw (moved g) k.past; onward = k.onward }

pub required-bad : (s : Text) (p : ℕ) → skip (drop p s) ≡ fail → required (drop p s) ≡ fail
unfolding required guard
required-bad s p e = go (spacing (hd (drop p s)))
  where
    go : (b : Bool) → guard b (λ _. skip (drop p s)) ≡ fail
    go true = e
    go false = refl

-- the steps of the rules' definition
module _ (t : Text) where
  rules-bad : skip t ≡ fail → Rules= t fail
  unfolding rules then
  rules-bad e zero h = absurd (omega arith)
  rules-bad e (suc n) h = rw e

  rules-end : skip t ≡ ok tt [] → Rules= t (ok [] [])
  unfolding rules then at-end
  rules-end e zero h = absurd (omega arith)
  rules-end e (suc n) h = rw e

  module _ (c : ℕ) (u : Text) (e : skip t ≡ ok tt (c ∷ u)) where
    rules-close : spacing (hd t) ≡ false → Rules= t fail
    unfolding rules then at-end guard
    rules-close f zero h = absurd (omega arith)
    rules-close f (suc n) h = rw (e, f)

    rules-none : spacing (hd t) ≡ true → read-rule (c ∷ u) ≡ fail → Rules= t fail
    unfolding rules then at-end guard
    rules-none f g zero h = absurd (omega arith)
    rules-none f g (suc n) h = rw (e, f, g)

    rules-on : spacing (hd t) ≡ true → (r : Rule) (w : Text) → read-rule (c ∷ u) ≡ ok r w → length w < length t → (x : Result (List Rule)) → Rules= w x → Rules= t (map (◌∷◌ r) x)
    unfolding rules then at-end guard
    rules-on f r w g l x a zero h = absurd (omega arith)
    rules-on f r w g l x a (suc n) h = rw (e, f, g, a n (omega arith))

-- the numbers of rules, and of one rule more
pub rules-code : (rs : List Rule) (r : Rule) → rules_code (rs ++ r ∷ []) ≡ rules_code rs ++ rule_code r
rules-code [] r = ap encode (append-nil (rule_tokens r))
rules-code (x ∷ rs) r =
    encode-append (rule_tokens x) (concat_map rule_tokens (rs ++ r ∷ []))
    ∙ ap (λ (l : List ℕ). rule_code x ++ l) (rules-code rs r)
    ∙ sym (append_assoc (rule_code x) (rules_code rs) (rule_code r))
    ∙ ap (λ (l : List ℕ). l ++ rule_code r) (sym (encode-append (rule_tokens x) (concat_map rule_tokens rs)))

-- where the loop of `rules` is: the rules in front, and what is read from i on, are what is read from p on
pub record Context (s : Text) (p : ℕ) (o : List ℕ) (at : ℕ) (o' : List ℕ) (i j : ℕ) : Type 0 where
  pub front : List Rule
  pub back : (x : Result (List Rule)) → Rules= (drop i s) x → Rules= (drop p s) (map (λ rs. front ++ rs) x)
  pub onward : Onward s p i
  pub wrote : take j o' ≡ take at o ++ rules_code front
  pub cells : j + 3 * p ≤ at + 3 * i
  pub len : length o' ≡ length o

map-none : (x : Result (List Rule)) → x ≡ map (λ rs. [] ++ rs) x
unfolding map
map-none (ok v u) = refl
map-none fail = refl

map_more : (rs : List Rule) (r : Rule) (x : Result (List Rule)) → map (λ l. rs ++ l) (map (◌∷◌ r) x) ≡ map (λ l. (rs ++ r ∷ []) ++ l) x
unfolding map
map_more rs r (ok v u) = ap (λ (l : List Rule). ok l u) (sym (append_assoc rs (r ∷ []) v))
map_more rs r fail = refl

pub context-start : (s : Text) (p : ℕ) (o : List ℕ) (at : ℕ) → Room s p o at → Context s p o at o p at
context-start s p o at r = record {
  front = [];
  back = λ x f. subst (λ (z : Result (List Rule)). Rules= (drop p s) z) (map-none x) f;
  onward = record { on = omega arith; within = r.place };
  wrote = sym (append-nil (take at o));
  cells = omega arith;
  len = refl;
}

module _ (s : Text) (p : ℕ) (o : List ℕ) (at : ℕ) (o' : List ℕ) (i j : ℕ) (c : Context s p o at o' i j) where
  pub context-room : (u : ℕ) → Room s p o at → Skipped s i u → Room s u o' j
  context-room u r k = let d = r.cells in let e = c.cells in let l = c.len in let n = k.onward in let f = r.few in record { place = n.within; cells = omega arith; few = omega arith }

  pub loop-bad : skip (drop i s) ≡ fail → Rules= (drop p s) fail
  unfolding map
  loop-bad e = c.back fail (rules-bad (drop i s) e)

  module _ (u : ℕ) (k : Skipped s i u) where
    pub loop-end : u ≡ length s → Read (λ x. Rules= (drop p s) x) rules_code s p p o at o' u j
    unfolding map
    loop-end e = let z = places.at-end s u (omega arith) in let d = k.onward in let n = c.onward in let m = c.cells in record {
      value = c.front;
      same = subst (λ (x : Result (List Rule)). Rules= (drop p s) x) (rw (append-nil c.front, z)) (c.back (ok [] []) (rules-end (drop i s) (k.past ∙ rw z)));
      onward = record { on = omega arith; within = d.within };
      wrote = c.wrote;
      cells = omega arith;
    }

    module _ (f : u ≡ length s → ⊥) where
      inside : u < length s
      inside = let d = k.onward in omega (arith, f)

      past : skip (drop i s) ≡ ok tt (get_or s u 0 ∷ drop (u + 1) s)
      past = k.past ∙ rw (at-char s u inside)

      pub loop-close : u ≡ i → Rules= (drop p s) fail
      unfolding map
      loop-close e = c.back fail (rules-close (drop i s) _ _ past (unmoved s i u k e))

      pub loop-none : (u ≡ i → ⊥) → read-rule (drop u s) ≡ fail → Rules= (drop p s) fail
      unfolding map
      loop-none g e = c.back fail (rules-none (drop i s) _ _ past (moved s i u k g) (subst (λ (t : Text). read-rule t ≡ fail) (at-char s u inside) e))

      module _ (m : List ℕ) (w b : ℕ) (a : Read (λ x. read-rule (drop u s) ≡ x) rule_code s u (u + 1) o' j m w b) where
        pub loop-less : length s - w < length s - i
        loop-less = let d = k.onward in let x = a.onward in let y = inside in omega arith

        pub loop-on : (u ≡ i → ⊥) → length m ≡ length o' → Context s p o at m w b
        loop-on g l = let d = k.onward in let x = a.onward in let y = c.onward in let v = c.cells in let z = a.cells in record {
          front = c.front ++ a.value ∷ [];
          back = λ x r. subst (λ (z : Result (List Rule)). Rules= (drop p s) z) (map_more c.front a.value x) (c.back (map (◌∷◌ a.value) x) (on x r));
          onward = record { on = omega arith; within = x.within };
          wrote = a.wrote ∙ rw c.wrote (append_assoc (take at o) (rules_code c.front) (rule_code a.value))
              ∙ ap (λ (l : List ℕ). take at o ++ l) (sym (rules-code c.front a.value));
          cells = omega arith;
          len = l ∙ c.len;
        }
          where
            on : (x : Result (List Rule)) → Rules= (drop w s) x → Rules= (drop i s) (map (◌∷◌ a.value) x)
            on x r =
                rules-on (drop i s) _ _ past (moved s i u k g) a.value (drop w s)
                (subst (λ (t : Text). read-rule t ≡ ok a.value (drop w s)) (at-char s u inside) a.same)
                (let d = k.onward in let x = a.onward in let y = inside in simp length-drop (omega arith)) x r
