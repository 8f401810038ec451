-- What the reader accepts, the grammar derives, with the same tree.
use mathlib.Core.Bool.{Bool, true, false, ◌||◌}
use mathlib.Core.Path.{◌≡◌, refl}
use mathlib.Core.List.{List, [], ◌∷◌}
use Prim.Native.Nat.{ℕ, zero, suc}
use lib.Dec.{eqb}
use Rattle.text.specs.Lists.{Text, chars, pick}
use Rattle.syntax.specs.Syntax.{chr, Is, ch, bar, is_mark, defines, namestart, S, RS, Marked, TerminalOf, Alts, Alt, Terms, Term}
use Rattle.syntax.specs.Syntax.{Factor, RuleOf, Word, mark_of, plain, is_tmark, Rules, PrologOf, Ixml}
use Rattle.syntax.specs.Result.{hd, tl, Result, ok, fail}
use Rattle.syntax.specs.Spacing.{spacing}
use Rattle.text.specs.Limits.{levels}
use lib.ListN.{length}
use Rattle.tree.specs.Tree.{Mark, Symbol, Rule, included, attribute, deleted, literal, inclusion, exclusion, insertion, terminal}
use Rattle.tree.specs.Tree.{nonterminal, group, option, repeat0, repeat1, repeat0sep, repeat1sep, cons, one, also, version, Grammar}
use Rattle.syntax.specs.Syntax.Marked.{mark-none, mark-some}
use Rattle.syntax.specs.Syntax.TerminalOf.{t-literal, t-inclusion, t-exclusion, t-insertion}
use Rattle.syntax.specs.Syntax.Alts.{alts-one, alts-also}
use Rattle.syntax.specs.Syntax.Alt.{alt-none, alt-some}
use Rattle.syntax.specs.Syntax.Terms.{terms-one, terms-more}
use Rattle.syntax.specs.Syntax.Term.{t-factor, t-option, t-repeat0, t-repeat0sep, t-repeat1, t-repeat1sep}
use Rattle.syntax.specs.Syntax.Factor.{f-terminal, f-nonterminal, f-group}
use Rattle.syntax.specs.Syntax.RuleOf.{a-rule}
use Rattle.syntax.specs.Syntax.Rules.{rules-none, rules-next}
use Rattle.syntax.specs.Syntax.PrologOf.{prolog-none, prolog-some}
use Rattle.syntax.specs.Syntax.Ixml.{ixml}
use Rattle.syntax.specs.Parser.{read-terminal, read-insertion, read-nonterminal, tmark, marked, read_plain, repeated, suffix, under}
use Rattle.syntax.specs.Parser.{starts, single, alts, terms, term, factor, enough, read-rule, at-end, rules, heading, after-heading}
use Rattle.syntax.specs.Parser.{read-prolog, grammar, read-ixml, Parsed, parsed, no-parse, answer, parse}
use Rattle.syntax.proofs.Classes.{clash, is_at, ch-end, bar-end, defines-end}
use Rattle.syntax.proofs.Holds.{Holds, holds-when, holds-guard, holds-expect, holds_then, holds-map, weaken, taken, none, some}
use Rattle.syntax.proofs.SpacingLaws.{sound-s, as-rs, sound-rs, sound-spaced, holds-skip}
use Rattle.syntax.proofs.LexicalSound.{sound-word, sound-string, sound-chars, sound-separated, sound-set, sound-mark, sound-name, sound-use}

-- 1. Factors that are no brackets.
module _ (t u : Text) (m : Mark) (p : Marked is_tmark t u m) where
  sound-terminal : Holds (λ x v. TerminalOf t v x) (read-terminal m u)
  unfolding read-terminal
  sound-terminal = holds-when (ch 0x7e (hd u))
      (λ _ e. holds-skip (tl u) (λ _ v s. holds-map (exclusion m) (sound-set v) (λ ms w h. t-exclusion p (is_at (ch 0x7e) u (ch-end 0x7e refl) e) s h)))
      (λ _ _. holds-when (ch 0x5b (hd u)) (λ _ _. holds-map (inclusion m) (sound-set u) (λ ms v h. t-inclusion p h))
      (λ _ _. holds_then (sound-chars u) (λ k v h. sound-spaced (literal m k) v (λ w s. t-literal p h s))))

sound-insertion : (t : Text) → Holds (λ x u. TerminalOf t u x) (read-insertion t)
unfolding read-insertion
sound-insertion t = holds-expect (ch 0x2b) t (ch-end 0x2b refl) (λ u i. holds-skip u (λ _ v s. holds_then (sound-chars v) (λ k w h. sound-spaced (insertion k) w (λ x s'. t-insertion i s h s'))))

sound-nonterminal : {d : ℕ} (t u : Text) (m : Mark) → Marked is_mark t u m → Holds (λ f v. Factor d t v f) (read-nonterminal m u)
unfolding read-nonterminal
sound-nonterminal t u m p = holds_then (sound-use u) (λ n v h. sound-spaced (nonterminal m n) v (λ w s. f-nonterminal p h s))

-- a mark but `@` may stand before a terminal
no-attribute : (c : ℕ) → is_mark c ≡ true → tmark (mark_of c) ≡ true → is_tmark c ≡ true
unfolding is_mark is_tmark mark_of tmark
no-attribute c = go (eqb c 0x40) (eqb c 0x5e) (eqb c 0x2d)
  where
    go : (a b e : Bool) → a || (b || (e || false)) ≡ true → tmark (pick a attribute (pick b included deleted)) ≡ true → b || (e || false) ≡ true
    go true b e p q = absurd (clash refl q)
    go false b e p q = p

as-tmark : {t u : Text} {m : Mark} → Marked is_mark t u m → tmark m ≡ true → Marked is_tmark t u m
as-tmark mark-none e = mark-none
as-tmark (mark-some (chr p) s) e = mark-some (chr (no-attribute _ p e)) s

sound-marked : {d : ℕ} (t u : Text) (m : Mark) → Marked is_mark t u m → Holds (λ f v. Factor d t v f) (marked m u)
unfolding marked
sound-marked t u m p = holds-when (namestart (hd u)) (λ _ _. sound-nonterminal t u m p)
    (λ _ _. holds-guard (tmark m) (λ _ e. holds-map terminal (sound-terminal t u m (as-tmark p e)) (λ x v h. f-terminal h)))

sound-plain : (d : ℕ) (t : Text) → Holds (λ f u. Factor d t u f) (read_plain t)
unfolding read_plain
sound-plain d t = holds-when (ch 0x2b (hd t)) (λ _ _. holds-map terminal (sound-insertion t) (λ x u h. f-terminal h)) (λ _ _. holds_then (sound-mark t) (λ m u p. sound-marked t u m p))

-- 2. Repetitions.
module _ {d : ℕ} (f : Text → Result Symbol) (hf : (w : Text) → Holds (λ v x. Factor d w x v) (f w)) {t u : Text} {v : Symbol} (p : Factor d t u v) where
  sound-repeated : (k : ℕ) (plain : Symbol → Symbol) (sep : Symbol → Symbol → Symbol) → eqb 0x110000 k ≡ false
      → ((w x : Text) → Is (ch k) u w → S w x → Term d t x (plain v))
      → ((w x y z : Text) (v' : Symbol) → Is (ch k) u w → Is (ch k) w x → S x y → Factor d y z v' → Term d t z (sep v v'))
      → (w : Text) → Is (ch k) u w → Holds (λ v u. Term d t u v) (repeated k plain sep f v w)
  unfolding repeated
  sound-repeated k plain sep z a b w i = holds-when (ch k (hd w))
      (λ _ e. holds-skip (tl w) (λ _ x s. holds-map (sep v) (hf x) (λ v' y q. b w (tl w) x y v' i (is_at (ch k) w (ch-end k z) e) s q)))
      (λ _ _. sound-spaced (plain v) w (λ x s. a w x i s))

  sound-suffix : Holds (λ v u. Term d t u v) (suffix f v u)
  unfolding suffix
  sound-suffix = holds-when (ch 0x3f (hd u)) (λ _ e. sound-spaced (option v) (tl u) (λ w s. t-option p (is_at (ch 0x3f) u (ch-end 0x3f refl) e) s))
      (λ _ _. holds-when (ch 0x2a (hd u)) (λ _ e. sound-repeated 0x2a repeat0 repeat0sep refl (λ w x i s. t-repeat0 p i s)
      (λ w x y z v' i j s q. t-repeat0sep p i j s q) (tl u) (is_at (ch 0x2a) u (ch-end 0x2a refl) e))
      (λ _ _. holds-when (ch 0x2b (hd u)) (λ _ e. sound-repeated 0x2b repeat1 repeat1sep refl (λ w x i s. t-repeat1 p i s)
      (λ w x y z v' i j s q. t-repeat1sep p i j s q) (tl u) (is_at (ch 0x2b) u (ch-end 0x2b refl) e))
      (λ _ _. some (t-factor p))))

-- 3. The cycle.
holds-under : {A : Type 0} {P : A → Text → Type 0} (d : ℕ) {k : ℕ → Result A} → ((e : ℕ) → d ≡ suc e → Holds P (k e)) → Holds P (under d k)
unfolding under
holds-under zero f = none
holds-under (suc d) f = f d refl

mutual
  unfolding alts

  sound-alts : (n d : ℕ) (t : Text) → Holds (λ b u. Alts d t u b) (alts n d t)
  sound-alts zero d t = none
  sound-alts (suc n) d t =
      holds_then {P = λ a u. Alt d t u a} (holds-when (starts (hd t)) (λ _ _. weaken (sound-terms n d t) (λ a u p. alt-some p)) (λ _ _. some alt-none))
      (λ a u p. sound-separated (λ w b x. Alts d w x b) bar also one (λ w. alts n d w) a u bar-end (λ w. sound-alts n d w) (λ v w i s b x q. alts-also p i s q) (alts-one p))

  sound-terms : (n d : ℕ) (t : Text) → Holds (λ a u. Terms d t u a) (terms n d t)
  sound-terms zero d t = none
  sound-terms (suc n) d t =
      holds_then (sound-term n d t)
      (λ f u p. sound-separated (λ w a x. Terms d w x a) (ch 0x2c) cons single (λ w. terms n d w) f u (ch-end 0x2c refl)
      (λ w. sound-terms n d w) (λ v w i s a x q. terms-more p i s q) (terms-one p))

  sound-term : (n d : ℕ) (t : Text) → Holds (λ f u. Term d t u f) (term n d t)
  sound-term zero d t = none
  sound-term (suc n) d t = holds_then (sound-factor n d t) (λ f u p. sound-suffix (λ w. factor n d w) (λ w. sound-factor n d w) p)

  sound-factor : (n d : ℕ) (t : Text) → Holds (λ f u. Factor d t u f) (factor n d t)
  sound-factor zero d t = none
  sound-factor (suc n) d t =
      holds-when (ch 0x28 (hd t))
      (λ _ e. holds-under d (λ d' z. holds-skip (tl t) (λ _ u s. holds_then (sound-alts n d' u) (λ b v p. holds-expect (ch 0x29) v (ch-end 0x29 refl)
      (λ w j. sound-spaced (group b) w (λ x s'. rw z (f-group (is_at (ch 0x28) t (ch-end 0x28 refl) e) s p j s')))))))
      (λ _ _. sound-plain d t)

-- 4. Rules and the prolog.
sound-rule : (t : Text) → Holds (λ r u. RuleOf t u r) (read-rule t)
unfolding read-rule
sound-rule t = holds_then (sound-mark t) (λ m u p. holds_then (sound-name u) (λ n v h. holds-skip v (λ _ w s. holds-expect defines w defines-end (λ x i. holds-skip x (λ _ y s'.
    holds_then (sound-alts (enough y) levels y) (λ b z q. holds-expect (ch 0x2e) z (ch-end 0x2e refl) (λ _ j. some (a-rule p h s i s' q j))))))))

-- the last of the rules, and spacing up to the end
abbrev Rest : Text → List Rule → Text → Type 0
Rest t rs u = (v : Text) × Rules t v rs × S v [] × (u ≡ [])

holds-end : {A : Type 0} {P : A → Text → Type 0} (t : Text) {f g : Unit {0} → Result A} → ((x : Unit {0}) → t ≡ [] → Holds P (f x))
    → ((x : Unit {0}) → Holds P (g x)) → Holds P (at-end t f g)
unfolding at-end
holds-end [] p q = p tt refl
holds-end (c ∷ t) p q = q tt

sound-rules : (n : ℕ) (t : Text) → Holds (Rest t) (rules n t)
unfolding rules
sound-rules zero t = none
sound-rules (suc n) t = holds_then (sound-s t) (λ _ u s. holds-end u
    (λ _ e. some (t, rules-none, rw e at s.derived, refl))
    (λ _. holds-guard (spacing (hd t)) (λ _ f. holds_then (sound-rule u) (λ r v p. holds-map (◌∷◌ r) (sound-rules n v)
    (λ rs w q. (q.0, rules-next (as-rs s.derived f s.stops) p q.1, q.2, q.3))))))

pub record Headed (t u : Text) : Type 0 where
  pub first : Text
  pub second : Text
  pub ixml-at : Word (chars "ixml") t first
  pub space : RS first second
  pub version-at : Word (chars "version") second u

pub sound-heading : (t : Text) → Holds (λ _ u. Headed t u) (heading t)
unfolding heading
sound-heading t = holds_then (sound-word (chars "ixml") t refl) (λ _ u h. holds_then (sound-rs u) (λ _ v s. weaken (sound-word (chars "version") v refl)
    (λ _ w h'. record { first = u; second = v; ixml-at = h; space = s; version-at = h' })))

sound-after-heading : (t : Text) (x : Result (Unit {0})) → Holds (λ _ u. Headed t u) x → Holds (λ p u. PrologOf t u p) (after-heading x t)
unfolding after-heading
sound-after-heading t fail h = some prolog-none
sound-after-heading t (ok _ u) (some h) = holds_then (sound-rs u) (λ _ v s. holds_then (sound-string v) (λ k w p. holds-skip w (λ _ x s'. holds-expect (ch 0x2e) x (ch-end 0x2e refl)
    (λ y i. sound-spaced (version k) y (λ z s''. prolog-some h.ixml-at h.space h.version-at s p s' i s'')))))

sound-prolog : (t : Text) → Holds (λ p u. PrologOf t u p) (read-prolog t)
unfolding read-prolog
sound-prolog t = sound-after-heading t (heading t) (sound-heading t)

sound-ixml : (t : Text) → Holds (λ g _. Ixml t g) (read-ixml t)
unfolding read-ixml
sound-ixml t = holds-skip t (λ _ u s. holds_then (sound-prolog u) (λ p v q. holds_then (sound-rule v) (λ r w h.
    holds-map (grammar p r) (sound-rules (suc (length w)) w) (λ rs x z. ixml s q h z.1 z.2))))

abbrev Says : Text → Parsed → Type 0
Says t (parsed g) = Ixml t g
Says t no-parse = Unit {0}

says : (t : Text) (x : Result Grammar) → Holds (λ g _. Ixml t g) x → Says t (answer x)
unfolding answer
says t fail h = tt
says t (ok g u) h = taken h

pub sound : (t : Text) (g : Grammar) → parse t ≡ parsed g → Ixml t g
unfolding parse
sound t g e = rw e at (says t (read-ixml t) (sound-ixml t))
