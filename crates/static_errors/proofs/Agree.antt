-- The rules over the tokens of a tree are the rules over the tree.
use mathlib.Core.Path.{◌≡◌, refl, sym, ap, ap₂, ◌∙◌}
use mathlib.Core.Bool.{Bool, true, false, ◌&&◌}
use mathlib.Core.List.{List, [], ◌∷◌, ◌++◌, append-nil}
use lib.Dec.{T}
use Rattle.text.specs.Lists.{Text, all, concat_map}
use Rattle.text.proofs.Lists.{concat-append, concat-concat}
use Rattle.text.proofs.Table.{and_left, and_right}
use Rattle.tree.specs.Tree.{Mark, Terminal, Prolog, no-prolog, version, Rule, Grammar, rules}
use Rattle.tree.specs.Tree.{Symbol, terminal, nonterminal, group, option, repeat0, repeat1, repeat0sep, repeat1sep, rest, Alternative, nil, cons, Body, one, also}
use Rattle.tree.specs.Tokens.{Token, name}
use Rattle.tree.specs.Tokens.{open-group, close-group, next-alternative, to-option, to-repeat0}
use Rattle.tree.specs.Tokens.{to-repeat1, to-repeat0sep, to-repeat1sep, rule-head, rule_end, version-is}
use Rattle.tree.specs.Tokens.{terminal_tokens, symbol_tokens, alternative_tokens, body_tokens, rule_tokens, prolog_tokens, grammar_tokens}
use Rattle.plain.specs.Written.{within, within_alternative, within_body, written}
use Rattle.static_errors.specs.Held.{proper_symbol}

-- What is taken from tokens, and from symbols, agrees symbol by symbol.
pub record Local {A : Type 0} (p : Token → List A) (q : Symbol → List A) : Type 0 where
  pub terminals : (x : Terminal) → concat_map p (terminal_tokens x) ≡ q (terminal x)
  pub name : (m : Mark) (n : Text) → p (name m n) ≡ q (nonterminal m n)
  pub group : (b : Body) → q (group b) ≡ []
  pub option : (f : Symbol) → q (option f) ≡ []
  pub repeat0 : (f : Symbol) → q (repeat0 f) ≡ []
  pub repeat1 : (f : Symbol) → q (repeat1 f) ≡ []
  pub repeat0sep : (f sep : Symbol) → q (repeat0sep f sep) ≡ []
  pub repeat1sep : (f sep : Symbol) → q (repeat1sep f sep) ≡ []
  pub open-group : p open-group ≡ []
  pub close-group : p close-group ≡ []
  pub next-alternative : p next-alternative ≡ []
  pub to-option : p to-option ≡ []
  pub to-repeat0 : p to-repeat0 ≡ []
  pub to-repeat1 : p to-repeat1 ≡ []
  pub to-repeat0sep : p to-repeat0sep ≡ []
  pub to-repeat1sep : p to-repeat1sep ≡ []
  pub rule_end : p rule_end ≡ []
  pub version : (k : Text) → p (version-is k) ≡ []

all_left : {A : Type 0} (f : A → Bool) (xs ys : List A) → T (all f (xs ++ ys)) → T (all f xs)
all_left f [] ys h = tt
all_left f (x ∷ xs) ys h = both (f x) (all f xs) (and_left (f x) (all f (xs ++ ys)) h) (all_left f xs ys (and_right (f x) (all f (xs ++ ys)) h))
  where
    both : (a b : Bool) → T a → T b → T (a && b)
    both true b s t = t
    both false b s t = s

all_right : {A : Type 0} (f : A → Bool) (xs ys : List A) → T (all f (xs ++ ys)) → T (all f ys)
all_right f [] ys h = h
all_right f (x ∷ xs) ys h = all_right f xs ys (and_right (f x) (all f (xs ++ ys)) h)

module _ {A : Type 0} (p : Token → List A) (q : Symbol → List A) (l : Local p q) where
  -- after some tokens one that gives nothing
  quiet : (ts : List Token) (x : Token) → p x ≡ [] → concat_map p (ts ++ x ∷ []) ≡ concat_map p ts
  quiet ts x e = concat-append p ts (x ∷ []) ∙ rw e (append-nil (concat_map p ts))

  mutual
    of-symbol : (s : Symbol) → T (all proper_symbol (within s)) → concat_map p (symbol_tokens s) ≡ concat_map q (within s)
    of-symbol (terminal x) h = l.terminals x ∙ sym (append-nil (q (terminal x)))
    of-symbol (nonterminal m n) h = rw (l.name m n)
    of-symbol (group b) h = rw (l.open-group, l.group b) (quiet (body_tokens b) close-group l.close-group ∙ of-body b h)
    of-symbol (option f) h = rw (l.option f) (quiet (symbol_tokens f) to-option l.to-option ∙ of-symbol f h)
    of-symbol (repeat0 f) h = rw (l.repeat0 f) (quiet (symbol_tokens f) to-repeat0 l.to-repeat0 ∙ of-symbol f h)
    of-symbol (repeat1 f) h = rw (l.repeat1 f) (quiet (symbol_tokens f) to-repeat1 l.to-repeat1 ∙ of-symbol f h)
    of-symbol (repeat0sep f sep) h =
        rw (l.repeat0sep f sep)
        (concat-append p (symbol_tokens f) (symbol_tokens sep ++ to-repeat0sep ∷ [])
        ∙ ap₂ ◌++◌ (of-symbol f (all_left proper_symbol (within f) (within sep) h))
        (quiet (symbol_tokens sep) to-repeat0sep l.to-repeat0sep ∙ of-symbol sep (all_right proper_symbol (within f) (within sep) h))
        ∙ sym (concat-append q (within f) (within sep)))
    of-symbol (repeat1sep f sep) h =
        rw (l.repeat1sep f sep)
        (concat-append p (symbol_tokens f) (symbol_tokens sep ++ to-repeat1sep ∷ [])
        ∙ ap₂ ◌++◌ (of-symbol f (all_left proper_symbol (within f) (within sep) h))
        (quiet (symbol_tokens sep) to-repeat1sep l.to-repeat1sep ∙ of-symbol sep (all_right proper_symbol (within f) (within sep) h))
        ∙ sym (concat-append q (within f) (within sep)))
    of-symbol (rest f sep) h = absurd h

    of-alternative : (a : Alternative) → T (all proper_symbol (within_alternative a)) → concat_map p (alternative_tokens a) ≡ concat_map q (within_alternative a)
    of-alternative nil h = refl
    of-alternative (cons f a) h =
        concat-append p (symbol_tokens f) (alternative_tokens a)
        ∙ ap₂ ◌++◌ (of-symbol f (all_left proper_symbol (within f) (within_alternative a) h)) (of-alternative a (all_right proper_symbol (within f) (within_alternative a) h))
        ∙ sym (concat-append q (within f) (within_alternative a))

    of-body : (b : Body) → T (all proper_symbol (within_body b)) → concat_map p (body_tokens b) ≡ concat_map q (within_body b)
    of-body (one a) h = of-alternative a h
    of-body (also a b) h =
        concat-append p (alternative_tokens a) (next-alternative ∷ body_tokens b)
        ∙ ap₂ ◌++◌ (of-alternative a (all_left proper_symbol (within_alternative a) (within_body b) h))
        (rw l.next-alternative (of-body b (all_right proper_symbol (within_alternative a) (within_body b) h)))
        ∙ sym (concat-append q (within_alternative a) (within_body b))

  of-rules : (rs : List Rule) → T (all proper_symbol (concat_map (λ r. within_body r.body) rs))
      → concat_map p (concat_map rule_tokens rs) ≡ concat_map (λ r. p (rule-head r.mark r.name) ++ concat_map q (within_body r.body)) rs
  of-rules [] h = refl
  of-rules (r ∷ rs) h =
      concat-append p (rule_tokens r) (concat_map rule_tokens rs)
      ∙ ap₂ ◌++◌
      (ap (◌++◌ (p (rule-head r.mark r.name))) (quiet (body_tokens r.body) rule_end l.rule_end
      ∙ of-body r.body (all_left proper_symbol (within_body r.body) (concat_map (λ x. within_body x.body) rs) h)))
      (of-rules rs (all_right proper_symbol (within_body r.body) (concat_map (λ x. within_body x.body) rs) h))

  prolog-none : (k : Prolog) → concat_map p (prolog_tokens k) ≡ []
  prolog-none no-prolog = refl
  prolog-none (version k) = rw (l.version k)

  of-grammar : (g : Grammar) → T (all proper_symbol (written g))
      → concat_map p (grammar_tokens g) ≡ concat_map (λ r. p (rule-head r.mark r.name) ++ concat_map q (within_body r.body)) (rules g)
  of-grammar g h = concat-append p (prolog_tokens g.prolog) (concat_map rule_tokens (rules g)) ∙ rw (prolog-none g.prolog) (of-rules (rules g) h)

  -- where heads give nothing
  pub of-written : ((m : Mark) (n : Text) → p (rule-head m n) ≡ []) → (g : Grammar) → T (all proper_symbol (written g)) → concat_map p (grammar_tokens g) ≡ concat_map q (written g)
  of-written e g h = of-grammar g h ∙ no-heads (rules g) ∙ sym (concat-concat q (λ r. within_body r.body) (rules g))
    where
      no-heads : (rs : List Rule) → concat_map (λ r. p (rule-head r.mark r.name) ++ concat_map q (within_body r.body)) rs ≡ concat_map (λ r. concat_map q (within_body r.body)) rs
      no-heads [] = refl
      no-heads (r ∷ rs) = rw (e r.mark r.name) (ap (◌++◌ (concat_map q (within_body r.body))) (no-heads rs))

  -- where only heads give something
  pub of-heads : (f : Rule → List A) → ((r : Rule) → p (rule-head r.mark r.name) ≡ f r) → ((s : Symbol) → q s ≡ []) → (g : Grammar) → T (all proper_symbol (written g))
      → concat_map p (grammar_tokens g) ≡ concat_map f (rules g)
  of-heads f e n g h = of-grammar g h ∙ only-heads (rules g)
    where
      none : (ss : List Symbol) → concat_map q ss ≡ []
      none [] = refl
      none (s ∷ ss) = rw (n s) (none ss)

      only-heads : (rs : List Rule) → concat_map (λ r. p (rule-head r.mark r.name) ++ concat_map q (within_body r.body)) rs ≡ concat_map f rs
      only-heads [] = refl
      only-heads (r ∷ rs) =
          let a : p (rule-head r.mark r.name) ++ concat_map q (within_body r.body) ≡ f r = rw (none (within_body r.body)) (append-nil (p (rule-head r.mark r.name)) ∙ e r) in
          ap₂ ◌++◌ a (only-heads rs)
