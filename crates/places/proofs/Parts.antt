-- Without their places, the spots of a derivation are the parts of its tokens; and what the static rules ask for is among them.
use mathlib.Core.Path.{◌≡◌, refl, sym, ap, ap₂, ◌∙◌}
use mathlib.Core.List.{List, [], ◌∷◌, ◌++◌, append-nil}
use Prim.Native.Nat.{ℕ}
use Rattle.text.specs.Lists.{Text, concat_map}
use Rattle.text.proofs.Lists.{concat-append}
use Rattle.tree.specs.Tree.{Mark, Member, Terminal, Rule, Prolog, Grammar}
use Rattle.tree.specs.Tree.{Symbol, terminal, nonterminal, group, option, repeat0, repeat1, repeat0sep, repeat1sep, Alternative, Body}
use Rattle.tree.specs.Tokens.{Token, close-group, next-alternative, to-option, to-repeat0, to-repeat1, to-repeat0sep, to-repeat1sep, rule_end}
use Rattle.tree.specs.Tokens.{member_token, member_tokens, terminal_tokens, symbol_tokens, alternative_tokens, body_tokens, rule_tokens, prolog_tokens}
use Rattle.plain.specs.Written.{within, within_alternative, within_body, written}
use Rattle.syntax.specs.Syntax.{c-string, c-hex}
use Rattle.syntax.specs.Syntax.{MemberOf, m-chars, m-range, m-class, Members, m-last, m-next, SetOf, set-none, set-some, TerminalOf, t-literal, t-inclusion, t-exclusion, t-insertion}
use Rattle.syntax.specs.Syntax.{Alts, alts-one, alts-also, Alt, alt-none, alt-some, Terms, terms-one, terms-more, Term, t-factor, t-option, t-repeat0, t-repeat0sep, t-repeat1, t-repeat1sep}
use Rattle.syntax.specs.Syntax.{Factor, f-terminal, f-nonterminal, f-group, RuleOf, a-rule, Rules, rules-none, rules-next, PrologOf, prolog-none, prolog-some, Ixml, ixml}
use Rattle.places.specs.Spots.{Part, used, headed, other, Spot, spot}
use Rattle.places.specs.Spots.{spots_member, spots_members, spots_set, spots_terminal, spots_alts, spots_alt, spots_terms, spots_term, spots_factor, spots_rule, spots_rules, spots_prolog, spots}
use Rattle.places.specs.Tokens.{token_parts, parts}

abbrev pub bare : List Spot → List Part
bare ss = concat_map (λ s. s.part ∷ []) ss

abbrev all : List Token → List Part
all ts = concat_map token_parts ts

-- 1. The parts of a derivation are those of its tokens.
two : (xs ys : List Spot) (ps qs : List Token) → bare xs ≡ all ps → bare ys ≡ all qs → bare (xs ++ ys) ≡ all (ps ++ qs)
two xs ys ps qs p q = concat-append (λ s. s.part ∷ []) xs ys ∙ ap₂ ◌++◌ p q ∙ sym (concat-append token_parts ps qs)

-- a token without parts behind
ended : (xs : List Spot) (ps : List Token) (t : Token) → token_parts t ≡ [] → bare xs ≡ all ps → bare xs ≡ all (ps ++ t ∷ [])
ended xs ps t e p = p ∙ sym (concat-append token_parts ps (t ∷ []) ∙ ap (λ (z : List Part). all ps ++ (z ++ [])) e ∙ append-nil (all ps))

of-member : {t u : Text} {m : Member} (x : MemberOf t u m) → bare (spots_member x) ≡ token_parts (member_token m)
of-member (m-chars (c-string p)) = refl
of-member (m-chars (c-hex p)) = refl
of-member (m-range c s i s' e) = refl
of-member (m-class c) = refl

of_members : {t u : Text} {ms : List Member} (x : Members t u ms) → bare (spots_members x) ≡ all (member_tokens ms)
of_members (m-last {m = m} x s) = of-member x ∙ sym (append-nil (token_parts (member_token m)))
of_members (m-next {m = m} {ms = ms} x s i s' xs) = concat-append (λ s. s.part ∷ []) (spots_member x) (spots_members xs) ∙ ap₂ ◌++◌ (of-member x) (of_members xs)

of-set : {t u : Text} {ms : List Member} (x : SetOf t u ms) → bare (spots_set x) ≡ other ∷ all (member_tokens ms)
of-set (set-none i s j s') = refl
of-set (set-some i s ms j s') = ap (◌∷◌ other) (of_members ms)

of-terminal : {t u : Text} {x : Terminal} (d : TerminalOf t u x) → bare (spots_terminal d) ≡ all (terminal_tokens x)
of-terminal (t-literal p (c-string k) s) = refl
of-terminal (t-literal p (c-hex k) s) = refl
of-terminal (t-inclusion p ms) = of-set ms
of-terminal (t-exclusion p i s ms) = of-set ms
of-terminal (t-insertion i s (c-string k) s') = refl
of-terminal (t-insertion i s (c-hex k) s') = refl

mutual
  of-alts : {d : ℕ} {t u : Text} {b : Body} (x : Alts d t u b) → bare (spots_alts x) ≡ all (body_tokens b)
  of-alts (alts-one a) = of-alt a
  of-alts (alts-also {a = v} {b = w} a i s b) = two (spots_alt a) (spots_alts b) (alternative_tokens v) (next-alternative ∷ body_tokens w) (of-alt a) (of-alts b)

  of-alt : {d : ℕ} {t u : Text} {a : Alternative} (x : Alt d t u a) → bare (spots_alt x) ≡ all (alternative_tokens a)
  of-alt alt-none = refl
  of-alt (alt-some a) = of-terms a

  of-terms : {d : ℕ} {t u : Text} {a : Alternative} (x : Terms d t u a) → bare (spots_terms x) ≡ all (alternative_tokens a)
  of-terms (terms-one {f = v} f) = of-term f ∙ ap all (sym (append-nil (symbol_tokens v)))
  of-terms (terms-more {f = v} {a = w} f i s a) = two (spots_term f) (spots_terms a) (symbol_tokens v) (alternative_tokens w) (of-term f) (of-terms a)

  of-term : {d : ℕ} {t u : Text} {f : Symbol} (x : Term d t u f) → bare (spots_term x) ≡ all (symbol_tokens f)
  of-term (t-factor f) = of-factor f
  of-term (t-option {f = v} f i s) = ended (spots_factor f) (symbol_tokens v) to-option refl (of-factor f)
  of-term (t-repeat0 {f = v} f i s) = ended (spots_factor f) (symbol_tokens v) to-repeat0 refl (of-factor f)
  of-term (t-repeat0sep {f = v} {sep = w} f i j s g) =
      two (spots_factor f) (spots_factor g) (symbol_tokens v) (symbol_tokens w ++ to-repeat0sep ∷ []) (of-factor f) (ended (spots_factor g) (symbol_tokens w) to-repeat0sep refl (of-factor g))
  of-term (t-repeat1 {f = v} f i s) = ended (spots_factor f) (symbol_tokens v) to-repeat1 refl (of-factor f)
  of-term (t-repeat1sep {f = v} {sep = w} f i j s g) =
      two (spots_factor f) (spots_factor g) (symbol_tokens v) (symbol_tokens w ++ to-repeat1sep ∷ []) (of-factor f) (ended (spots_factor g) (symbol_tokens w) to-repeat1sep refl (of-factor g))

  of-factor : {d : ℕ} {t u : Text} {f : Symbol} (x : Factor d t u f) → bare (spots_factor x) ≡ all (symbol_tokens f)
  of-factor (f-terminal x) = of-terminal x
  of-factor (f-nonterminal p n s) = refl
  of-factor (f-group {b = v} i s b j s') = ap (◌∷◌ other) (ended (spots_alts b) (body_tokens v) close-group refl (of-alts b))

of-rule : {t u : Text} {r : Rule} (x : RuleOf t u r) → bare (spots_rule x) ≡ all (rule_tokens r)
of-rule (a-rule {n = v} {b = b} p n s i s' a j) = ap (◌∷◌ (headed v)) (ended (spots_alts a) (body_tokens b) rule_end refl (of-alts a))

of-rules : {t u : Text} {rs : List Rule} (x : Rules t u rs) → bare (spots_rules x) ≡ all (concat_map rule_tokens rs)
of-rules rules-none = refl
of-rules (rules-next {r = v} {rs = vs} s r rs) = two (spots_rule r) (spots_rules rs) (rule_tokens v) (concat_map rule_tokens vs) (of-rule r) (of-rules rs)

of-prolog : {t u : Text} {p : Prolog} (x : PrologOf t u p) → bare (spots_prolog x) ≡ all (prolog_tokens p)
of-prolog prolog-none = refl
of-prolog (prolog-some i r w r' k s j s') = refl

pub parts-known : {t : Text} {g : Grammar} (d : Ixml t g) → bare (spots d) ≡ parts g
parts-known (ixml {p = q} {r = v} {rs = vs} s p r rs e) =
    two (spots_prolog p) (spots_rule r ++ spots_rules rs) (prolog_tokens q) (rule_tokens v ++ concat_map rule_tokens vs) (of-prolog p)
    (two (spots_rule r) (spots_rules rs) (rule_tokens v) (concat_map rule_tokens vs) (of-rule r) (of-rules rs))

-- 2. What is taken from parts, and from symbols, agrees symbol by symbol.
pub record Local {A : Type 0} (p : Part → List A) (q : Symbol → List A) : Type 0 where
  pub other : p other ≡ []
  pub named : (m : Mark) (n : Text) → p (used n) ++ [] ≡ q (nonterminal m n)
  pub terminal : (x : Terminal) → concat_map p (all (terminal_tokens x)) ≡ q (terminal x)
  pub group : (b : Body) → q (group b) ≡ []
  pub option : (f : Symbol) → q (option f) ≡ []
  pub repeat0 : (f : Symbol) → q (repeat0 f) ≡ []
  pub repeat1 : (f : Symbol) → q (repeat1 f) ≡ []
  pub repeat0sep : (f g : Symbol) → q (repeat0sep f g) ≡ []
  pub repeat1sep : (f g : Symbol) → q (repeat1sep f g) ≡ []

module _ {A : Type 0} (p : Part → List A) (q : Symbol → List A) (l : Local p q) where
  abbrev from : List Spot → List A
  from ss = concat_map p (bare ss)

  joined : (xs ys : List Spot) (ps qs : List Symbol) → from xs ≡ concat_map q ps → from ys ≡ concat_map q qs → from (xs ++ ys) ≡ concat_map q (ps ++ qs)
  joined xs ys ps qs a b =
      ap (concat_map p) (concat-append (λ s. s.part ∷ []) xs ys) ∙ concat-append p (bare xs) (bare ys) ∙ ap₂ ◌++◌ a b ∙ sym (concat-append q ps qs)

  -- a made symbol in front adds nothing
  before : (s : Symbol) (xs : List A) (ps : List Symbol) → q s ≡ [] → xs ≡ concat_map q ps → xs ≡ concat_map q (s ∷ ps)
  before s xs ps e a = a ∙ ap (λ (z : List A). z ++ concat_map q ps) (sym e)

  mutual
    pub in-alts : {d : ℕ} {t u : Text} {b : Body} (x : Alts d t u b) → from (spots_alts x) ≡ concat_map q (within_body b)
    in-alts (alts-one a) = in-alt a
    in-alts (alts-also {a = v} {b = w} a i s b) = joined (spots_alt a) (spots_alts b) (within_alternative v) (within_body w) (in-alt a) (in-alts b)

    in-alt : {d : ℕ} {t u : Text} {a : Alternative} (x : Alt d t u a) → from (spots_alt x) ≡ concat_map q (within_alternative a)
    in-alt alt-none = refl
    in-alt (alt-some a) = in-terms a

    in-terms : {d : ℕ} {t u : Text} {a : Alternative} (x : Terms d t u a) → from (spots_terms x) ≡ concat_map q (within_alternative a)
    in-terms (terms-one {f = v} f) = in-term f ∙ ap (concat_map q) (sym (append-nil (within v)))
    in-terms (terms-more {f = v} {a = w} f i s a) = joined (spots_term f) (spots_terms a) (within v) (within_alternative w) (in-term f) (in-terms a)

    in-term : {d : ℕ} {t u : Text} {f : Symbol} (x : Term d t u f) → from (spots_term x) ≡ concat_map q (within f)
    in-term (t-factor f) = in-factor f
    in-term (t-option {f = v} f i s) = before (option v) (from (spots_factor f)) (within v) (l.option v) (in-factor f)
    in-term (t-repeat0 {f = v} f i s) = before (repeat0 v) (from (spots_factor f)) (within v) (l.repeat0 v) (in-factor f)
    in-term (t-repeat0sep {f = v} {sep = w} f i j s g) =
        before (repeat0sep v w) (from (spots_factor f ++ spots_factor g)) (within v ++ within w) (l.repeat0sep v w)
        (joined (spots_factor f) (spots_factor g) (within v) (within w) (in-factor f) (in-factor g))
    in-term (t-repeat1 {f = v} f i s) = before (repeat1 v) (from (spots_factor f)) (within v) (l.repeat1 v) (in-factor f)
    in-term (t-repeat1sep {f = v} {sep = w} f i j s g) =
        before (repeat1sep v w) (from (spots_factor f ++ spots_factor g)) (within v ++ within w) (l.repeat1sep v w)
        (joined (spots_factor f) (spots_factor g) (within v) (within w) (in-factor f) (in-factor g))

    in-factor : {d : ℕ} {t u : Text} {f : Symbol} (x : Factor d t u f) → from (spots_factor x) ≡ concat_map q (within f)
    in-factor (f-terminal {x = v} x) = ap (concat_map p) (of-terminal x) ∙ l.terminal v ∙ sym (append-nil (q (terminal v)))
    in-factor (f-nonterminal {n = n} {m = m} a b s) = l.named m n ∙ sym (append-nil (q (nonterminal m n)))
    in-factor {d} {t} (f-group {b = v} i s b j s') =
        before (group v) (from (spot t other ∷ spots_alts b)) (within_body v) (l.group v) (ap (λ (z : List A). z ++ from (spots_alts b)) l.other ∙ in-alts b)

  pub in-prolog : {t u : Text} {k : Prolog} (x : PrologOf t u k) → from (spots_prolog x) ≡ []
  in-prolog prolog-none = refl
  in-prolog (prolog-some i r w r' k s j s') = rw l.other

  module _ (headed-none : (n : Text) → p (headed n) ≡ []) where
    in-rule : {t u : Text} {r : Rule} (x : RuleOf t u r) → from (spots_rule x) ≡ concat_map q (within_body r.body)
    in-rule (a-rule {n = v} a n s i s' b j) = ap (λ (z : List A). z ++ from (spots_alts b)) (headed-none v) ∙ in-alts b

    in-rules : {t u : Text} {rs : List Rule} (x : Rules t u rs) → from (spots_rules x) ≡ concat_map q (concat_map (λ r. within_body r.body) rs)
    in-rules rules-none = refl
    in-rules (rules-next {r = v} {rs = vs} s r rs) = joined (spots_rule r) (spots_rules rs) (within_body v.body) (concat_map (λ r. within_body r.body) vs) (in-rule r) (in-rules rs)

    pub all-written : {t : Text} {g : Grammar} (d : Ixml t g) → concat_map p (bare (spots d)) ≡ concat_map q (written g)
    all-written (ixml {r = v} {rs = vs} s k r rs e) =
        joined (spots_prolog k) (spots_rule r ++ spots_rules rs) [] (within_body v.body ++ concat_map (λ r. within_body r.body) vs) (in-prolog k)
        (joined (spots_rule r) (spots_rules rs) (within_body v.body) (concat_map (λ r. within_body r.body) vs) (in-rule r) (in-rules rs))
