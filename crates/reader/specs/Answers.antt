-- What each answer of the reader says: the definition's answer on the text from the place on, and what the table holds.
use Rattle.std.specs.Prelude.{Bool, ◌||◌, ◌≡◌, List, [], ◌∷◌, ◌++◌, ℕ, ◌+◌, ◌*◌, ◌<◌, ◌≤◌, length, take, drop, Option, Some, None}
use Rattle.text.specs.Lists.{Text, concat_map}
use Rattle.text.specs.Stages.{StageAnswer, answered, refused, Settles}
use Rattle.tree.specs.Tree.{Mark, Terminal, Symbol, Alternative, Body, Rule, Prolog, Grammar}
use Rattle.tree.specs.Tokens.{mark_number, counted, terminal_tokens, symbol_tokens, alternative_tokens, body_tokens, rule_tokens, prolog_tokens, grammar_tokens, encode}
use Rattle.syntax.specs.Syntax.{ch, defines}
use Rattle.syntax.specs.Result.{Result, ok, fail, hd, tl, map, when, then, expect}
use Rattle.syntax.specs.Spacing.{skip, required}
use Rattle.syntax.specs.Lexical.{read_word, read-mark, read_name}
use Rattle.syntax.specs.Parser.{read-terminal, read-insertion, read_plain, Alts=, Alt=, Terms=, Term=, Factor=, Agrees, read-rule, rules, heading, after-heading, read-prolog, parse, parsed, no-parse}
use Rattle.spacing.specs.declared.Cell.{Cell}
use Rattle.spacing.specs.Answers.{Past, Step, Onward, After}

-- The numbers of each part of the tree.
abbrev pub terminal_code : Terminal → List ℕ
terminal_code x = encode (terminal_tokens x)

abbrev pub symbol_code : Symbol → List ℕ
symbol_code f = encode (symbol_tokens f)

abbrev pub alternative_code : Alternative → List ℕ
alternative_code a = encode (alternative_tokens a)

abbrev pub body_code : Body → List ℕ
body_code b = encode (body_tokens b)

abbrev pub rule_code : Rule → List ℕ
rule_code r = encode (rule_tokens r)

abbrev pub rules_code : List Rule → List ℕ
rules_code rs = encode (concat_map rule_tokens rs)

abbrev pub prolog_code : Prolog → List ℕ
prolog_code p = encode (prolog_tokens p)

-- a terminal after a mark whose number is m
abbrev pub After-terminal : ℕ → Text → ℕ → List ℕ → ℕ → Step → List ℕ → Type 0
After-terminal m s p o at r o' = (mark : Mark) → m ≡ mark_number mark → After (λ x. read-terminal mark (drop p s) ≡ x) terminal_code s p (p + 1) o at r o'

abbrev pub After-insertion : Text → ℕ → List ℕ → ℕ → Step → List ℕ → Type 0
After-insertion s p o at r o' = After (λ x. read-insertion (drop p s) ≡ x) terminal_code s p (p + 1) o at r o'

abbrev pub After-plain : Text → ℕ → List ℕ → ℕ → Step → List ℕ → Type 0
After-plain s p o at r o' = After (λ x. read_plain (drop p s) ≡ x) symbol_code s p (p + 1) o at r o'

-- The cycle.
abbrev pub After-alternatives : ℕ → Text → ℕ → List ℕ → ℕ → Step → List ℕ → Type 0
After-alternatives d s p o at r o' = After (λ x. Alts= d (drop p s) x) body_code s p p o at r o'

abbrev pub After-alternative : ℕ → Text → ℕ → List ℕ → ℕ → Step → List ℕ → Type 0
After-alternative d s p o at r o' = After (λ x. Alt= d (drop p s) x) alternative_code s p p o at r o'

abbrev pub After-terms : ℕ → Text → ℕ → List ℕ → ℕ → Step → List ℕ → Type 0
After-terms d s p o at r o' = After (λ x. Terms= d (drop p s) x) alternative_code s p (p + 1) o at r o'

abbrev pub After-term : ℕ → Text → ℕ → List ℕ → ℕ → Step → List ℕ → Type 0
After-term d s p o at r o' = After (λ x. Term= d (drop p s) x) symbol_code s p (p + 1) o at r o'

abbrev pub After-factor : ℕ → Text → ℕ → List ℕ → ℕ → Step → List ℕ → Type 0
After-factor d s p o at r o' = After (λ x. Factor= d (drop p s) x) symbol_code s p (p + 1) o at r o'

-- what follows a repeated factor: nothing, or a separator
pub data Repeat : Type 0 where
  alone : Repeat
  by : Symbol → Repeat

-- after a repetition character k, which may stand twice; f reads a separator
unfoldable pub repeat-rest : ℕ → (Text → Result Symbol) → Text → Result Repeat
repeat-rest k f t = when (ch k (hd t)) (λ _. then (skip (tl t)) (λ _ u. map by (f u))) (λ _. map (λ _. alone) (skip t))

-- the tokens of `*` (k is 0) and `+` (k is 1), and with a separator
abbrev pub repeat_code : ℕ → Repeat → List ℕ
repeat_code k alone = (35 + k) ∷ []
repeat_code k (by sep) = symbol_code sep ++ (37 + k) ∷ []

abbrev pub Repeat= : ℕ → ℕ → Text → Result Repeat → Type 0
Repeat= k d t x = (again : Text → Result Symbol) → Agrees (Factor= d) t again → repeat-rest (42 + k) again (tl t) ≡ x

abbrev pub After-repeat : ℕ → ℕ → Text → ℕ → List ℕ → ℕ → Step → List ℕ → Type 0
After-repeat k d s p o at r o' = After (λ x. Repeat= k d (drop p s) x) (repeat_code k) s p (p + 1) o at r o'

-- A word and what closes it: spacing, a character that passes a test, and spacing.
unfoldable pub one_of : ℕ → ℕ → ℕ → Bool
one_of a b c = ch a c || ch b c

unfoldable pub closing : (ℕ → Bool) → Text → Result (Unit {0})
closing f t = then (skip t) (λ _ w. expect f w (λ x. skip x))

pub record Shut (f : ℕ → Bool) (s : Text) (q b y e : ℕ) : Type 0 where
  pub onward : Onward s q y
  pub past : closing f (drop q s) ≡ ok tt (drop y s)
  pub cell : e ≡ b

abbrev pub Closed : (ℕ → Bool) → Text → Step → Step → Type 0
Closed f s (Some (q, b)) (Some (y, e)) = Shut f s q.0 b.0 y.0 e.0
Closed f s (Some (q, b)) None = closing f (drop q.0 s) ≡ fail
Closed f s None (Some (y, e)) = ⊥
Closed f s None None = Unit {0}

-- Rules.
pub record Head : Type 0 where
  pub mark : Mark
  pub name : Text

unfoldable pub read_head : Text → Result Head
read_head t =
    then (read-mark t) (λ m u. then (read_name u) (λ n v. then (skip v) (λ _ w. expect defines w (λ x. map (λ _. record { mark = m; name = n }) (skip x)))))

abbrev pub head_code : Head → List ℕ
head_code h = (20 + mark_number h.mark) ∷ counted h.name

abbrev pub After-head : Text → ℕ → List ℕ → ℕ → Step → List ℕ → Type 0
After-head s p o at r o' = After (λ x. read_head (drop p s) ≡ x) head_code s p (p + 1) o at r o'

abbrev pub After-rule : Text → ℕ → List ℕ → ℕ → Step → List ℕ → Type 0
After-rule s p o at r o' = After (λ x. read-rule (drop p s) ≡ x) rule_code s p (p + 1) o at r o'

abbrev pub Rules= : Text → Result (List Rule) → Type 0
Rules= t x = (n : ℕ) → length t < n → rules n t ≡ x

abbrev pub After-rules : Text → ℕ → List ℕ → ℕ → Step → List ℕ → Type 0
After-rules s p o at r o' = After (λ x. Rules= (drop p s) x) rules_code s p p o at r o'

-- The prolog: what it passes, and what it reads.
pub record Passed (E : Result (Unit {0}) → Type 0) (s : Text) (p q : ℕ) : Type 0 where
  pub same : E (ok tt (drop q s))
  pub onward : Onward s p q

abbrev pub After-past : (Result (Unit {0}) → Type 0) → Text → ℕ → Past → Type 0
After-past E s p (Some q) = Passed E s p q.0
After-past E s p None = E fail

abbrev pub After-word : Text → Text → ℕ → Past → Type 0
After-word w s p r = After-past (λ x. read_word w (drop p s) ≡ x) s p r

abbrev pub After-required : Text → ℕ → Past → Type 0
After-required s p r = After-past (λ x. required (drop p s) ≡ x) s p r

abbrev pub After-heading : Text → ℕ → Past → Type 0
After-heading s p r = After-past (λ x. heading (drop p s) ≡ x) s p r

abbrev pub After-version : Text → ℕ → List ℕ → ℕ → Step → List ℕ → Type 0
After-version s p o at r o' = After (λ x. (t : Text) → after-heading (ok tt (drop p s)) t ≡ x) prolog_code s p p o at r o'

abbrev pub After-prolog : Text → ℕ → List ℕ → ℕ → Step → List ℕ → Type 0
After-prolog s p o at r o' = After (λ x. read-prolog (drop p s) ≡ x) prolog_code s p p o at r o'

-- The whole. What the reader asks for: room for three numbers to a character, and few enough cells that a count of them is a number.
pub record Readable (s : Text) (o : List ℕ) : Type 0 where
  pub room : 3 * length s ≤ length o
  pub few : length o < 4294967296

-- the text is a grammar's, whose tokens the table holds in its first b cells
pub record Held (s : Text) (o' : List ℕ) (b : ℕ) : Type 0 where
  pub tree : Grammar
  pub same : parse s ≡ parsed tree
  pub holds : take b o' ≡ encode (grammar_tokens tree)
  pub cells : b ≤ 3 * length s

-- the text is no grammar's
pub record NotIxml (s : Text) (n : ℕ) : Type 0 where
  pub number : n ≡ 4
  pub none : parse s ≡ no-parse

-- document 01's number and values for each case
abbrev pub stage_of : Option Cell → StageAnswer ℕ ℕ
stage_of (Some b) = answered b.0
stage_of None = refused 4

abbrev pub Read-as : Text → Option Cell → List ℕ → Type 0
Read-as s r o' = Settles (Held s o') (NotIxml s) (stage_of r)
