-- The rules that are written and made stand for all symbols of the plain rules.
use mathlib.Core.Bool.{Bool, true, false}
use mathlib.Core.List.Memᴰ.{head as in_head}
use mathlib.Core.List.Memᴰ.{tail as in_Tail}
use mathlib.Core.List.{List, [], ◌∷◌, ◌++◌, Memᴰ as In}
use mathlib.Core.List.Memᴰ.{append_cases as in-cases}
use mathlib.Core.List.Memᴰ.{append_left as in_left}
use mathlib.Core.List.Memᴰ.{append_right as in_right}
use mathlib.Core.Logic.{⊎_elim}
use mathlib.Core.Path.{◌≡◌, refl, sym, ap, subst}
use Prim.Native.Nat.{ℕ, ◌<◌}
use native.Mathlib.Nat.{not-suc-le-zero}
use lib.ListN.{length}
use Rattle.text.specs.Lists.{Text, same, concat_map}
use Rattle.text.proofs.Tests.{is_t, same-is}
use Rattle.tree.specs.Tree.{unmarked, Symbol, terminal, nonterminal, group, option, repeat0, repeat1, repeat0sep, repeat1sep, rest}
use Rattle.tree.specs.Tree.{Alternative, nil, cons, Body, one, also, Rule, Grammar, rules}
use Rattle.tokens.specs.Proper.{Proper, ProperAlternative, ProperBody, ProperRules}
use Rattle.plain.specs.Written.{within, within_alternative, within_body, written}
use Rattle.plain.specs.Plain.{rule_for, alts, makes, ruled}
use Rattle.derive.specs.Bound.{family}
use Rattle.derive.specs.Derive.{root}
use Rattle.derive.proofs.Symbols.{in-concat}
use Rattle.rounds.specs.Rounds.{Stands, AllStand}

-- what stands in a proper symbol is proper
abbrev AllProper : List Symbol → Type 0
AllProper ss = (t : Symbol) → In t ss → Proper t

proper-nil : AllProper []
proper-nil t m = elim m [ ]

proper-cons : (s : Symbol) (ss : List Symbol) → Proper s → AllProper ss → AllProper (s ∷ ss)
proper-cons s ss p h t (in_head e) = subst Proper (sym e) p
proper-cons s ss p h t (in_Tail m) = h t m

proper-append : (ss ts : List Symbol) → AllProper ss → AllProper ts → AllProper (ss ++ ts)
proper-append ss ts h k t m = ⊎_elim (λ a. h t a) (λ a. k t a) (in-cases ss m)

mutual
  within-proper : (s : Symbol) → Proper s → AllProper (within s)
  within-proper (terminal x) p = proper-cons (terminal x) [] p proper-nil
  within-proper (nonterminal m n) p = proper-cons (nonterminal m n) [] p proper-nil
  within-proper (group b) p = proper-cons (group b) (within_body b) p (body-proper b p)
  within-proper (option f) p = proper-cons (option f) (within f) p (within-proper f p)
  within-proper (repeat0 f) p = proper-cons (repeat0 f) (within f) p (within-proper f p)
  within-proper (repeat1 f) p = proper-cons (repeat1 f) (within f) p (within-proper f p)
  within-proper (repeat0sep f sep) p = proper-cons (repeat0sep f sep) (within f ++ within sep) p
      (proper-append (within f) (within sep) (within-proper f p.0) (within-proper sep p.1))
  within-proper (repeat1sep f sep) p = proper-cons (repeat1sep f sep) (within f ++ within sep) p
      (proper-append (within f) (within sep) (within-proper f p.0) (within-proper sep p.1))
  within-proper (rest f sep) p = absurd p

  alternative-proper : (a : Alternative) → ProperAlternative a → AllProper (within_alternative a)
  alternative-proper nil p = proper-nil
  alternative-proper (cons f a) p = proper-append (within f) (within_alternative a) (within-proper f p.0) (alternative-proper a p.1)

  body-proper : (b : Body) → ProperBody b → AllProper (within_body b)
  body-proper (one a) p = alternative-proper a p
  body-proper (also a b) p = proper-append (within_alternative a) (within_body b) (alternative-proper a p.0) (body-proper b p.1)

rules-proper : (rs : List Rule) → ProperRules rs → AllProper (concat_map (λ r. within_body r.body) rs)
rules-proper [] p = proper-nil
rules-proper (r ∷ rs) p = proper-append (within_body r.body) (concat_map (λ r. within_body r.body) rs) (body-proper r.body p.0) (rules-proper rs p.1)

abbrev names : List Rule → List Symbol
names rs = concat_map (λ r. nonterminal unmarked r.name ∷ []) rs

-- a name with alternatives has a rule
name-listed : (rs : List Rule) (n : Text) (a : ℕ) → a < length (rule_for rs n) → In (nonterminal unmarked n) (names rs)
name-listed [] n a h = absurd (not-suc-le-zero h)
name-listed (r ∷ rs) n a h = by (λ l. name-listed rs n a l) (same n r.name) refl
  where
    by : (a < length (rule_for rs n) → In (nonterminal unmarked n) (names rs)) → (b : Bool) → same n r.name ≡ b → In (nonterminal unmarked n) (names (r ∷ rs))
    by later true e = in_head (ap (nonterminal unmarked) (same-is n r.name (is_t e)))
    by later false e = in_Tail (later (rw e at h))

module _ (g : Grammar) (p : ProperRules (rules g)) where
  made-stands : (s w : Symbol) → In w (written g) → In s (makes w) → Stands g (ruled g) s
  made-stands s w h m = record { symbol = s; listed = in_right (names (rules g)) (in-concat makes (written g) h m); same = refl }

  -- a written symbol
  written_stands : (w : Symbol) → In w (written g) → (a : ℕ) → a < length (alts g w) → Stands g (ruled g) w
  written_stands (terminal x) h a l = absurd (not-suc-le-zero l)
  written_stands (nonterminal m n) h a l = record { symbol = nonterminal unmarked n; listed = in_left (concat_map makes (written g)) (name-listed (rules g) n a l); same = refl }
  written_stands (group b) h a l = made-stands (group b) (group b) h (in_head refl)
  written_stands (option f) h a l = made-stands (option f) (option f) h (in_head refl)
  written_stands (repeat0 f) h a l = made-stands (repeat0 f) (repeat0 f) h (in_head refl)
  written_stands (repeat1 f) h a l = made-stands (repeat1 f) (repeat1 f) h (in_head refl)
  written_stands (repeat0sep f sep) h a l = made-stands (repeat0sep f sep) (repeat0sep f sep) h (in_head refl)
  written_stands (repeat1sep f sep) h a l = made-stands (repeat1sep f sep) (repeat1sep f sep) h (in_head refl)
  written_stands (rest f sep) h a l = absurd (rules-proper (rules g) p (rest f sep) h)

  stands-as : (s t : Symbol) → s ≡ t → Stands g (ruled g) t → Stands g (ruled g) s
  stands-as s t e k = subst (Stands g (ruled g)) (sym e) k

  family-stands : (ws : List Symbol) → ((w : Symbol) → In w ws → In w (written g)) → (s : Symbol) → In s (concat_map family ws) → (a : ℕ) → a < length (alts g s) → Stands g (ruled g) s
  family-stands [] k s m a l = elim m [ ]
  family-stands (w ∷ ws) k s (in_head e) a l = stands-as s w e (written_stands w (k w (in_head refl)) a (subst (λ (t : Symbol). a < length (alts g t)) e l))
  family-stands (w ∷ ws) k s (in_Tail m) a l = ⊎_elim
      (λ b. made-stands s w (k w (in_head refl)) b)
      (λ b. family-stands ws (λ x i. k x (in_Tail i)) s b a l)
      (in-cases (makes w) m)

  -- the law of the rounds applies to every grammar that is written in full
  pub all-stand : AllStand g (ruled g)
  all-stand s (in_head e) a l = stands-as s (root g) e (record { symbol = root g; listed = in_left (concat_map makes (written g)) (in_head {xs = names g.others} refl); same = refl })
  all-stand s (in_Tail m) a l = family-stands (written g) (λ w h. h) s m a l
