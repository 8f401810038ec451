-- The scan over a grammar's tokens gives its tidy text.
use mathlib.Core.Bool.{Bool, true, false}
use mathlib.Core.Path.{◌≡◌, refl, sym, ap, ◌∙◌}
use mathlib.Core.List.{List, [], ◌∷◌, ◌++◌, append_assoc, append-nil}
use Prim.Native.Nat.{ℕ, suc}
use Rattle.text.specs.Lists.{Text, chars, pick, concat_map}
use Rattle.tree.specs.Tree.{Mark, string, hex, Member, range, class, Terminal, literal, inclusion, exclusion, insertion}
use Rattle.tree.specs.Tree.{Symbol, terminal, nonterminal, group, option, repeat0, repeat1, repeat0sep, repeat1sep, rest}
use Rattle.tree.specs.Tree.{Alternative, nil, cons, Body, one, also, Rule, Prolog, no-prolog, version, Grammar, rules}
use Rattle.tree.specs.Tree as tree
use Rattle.tree.specs.Tokens.{Token, close-group, next-alternative, to-option, to-repeat0, to-repeat1, to-repeat0sep, to-repeat1sep, rule_end, set-end}
use Rattle.tree.specs.Tokens.{member_token, member_tokens, terminal_tokens, symbol_tokens, alternative_tokens, body_tokens, rule_tokens, prolog_tokens, grammar_tokens}
use Rattle.tidy.specs.Tidy.{mark_text, member_text, members_text, set_text, terminal_text, symbol_text, alternative_text, body_text, rule_text, prolog_text, tidy_text}
use Rattle.tidy.specs.Scan.{past, joint, scan}
use Rattle.tidy.proofs.Lexical.{three}

-- a tree that is written: operators stand behind factors
abbrev mutual
  pub IsFactor : Symbol → Type 0
  IsFactor (terminal x) = Unit {0}
  IsFactor (nonterminal m n) = Unit {0}
  IsFactor (group b) = IsBody b
  IsFactor (option f) = ⊥
  IsFactor (repeat0 f) = ⊥
  IsFactor (repeat1 f) = ⊥
  IsFactor (repeat0sep f sep) = ⊥
  IsFactor (repeat1sep f sep) = ⊥
  IsFactor (rest f sep) = ⊥

  pub IsTerm : Symbol → Type 0
  IsTerm (terminal x) = Unit {0}
  IsTerm (nonterminal m n) = Unit {0}
  IsTerm (group b) = IsBody b
  IsTerm (option f) = IsFactor f
  IsTerm (repeat0 f) = IsFactor f
  IsTerm (repeat1 f) = IsFactor f
  IsTerm (repeat0sep f sep) = IsFactor f × IsFactor sep
  IsTerm (repeat1sep f sep) = IsFactor f × IsFactor sep
  IsTerm (rest f sep) = ⊥

  pub IsAlternative : Alternative → Type 0
  IsAlternative nil = Unit {0}
  IsAlternative (cons f a) = IsTerm f × IsAlternative a

  pub IsBody : Body → Type 0
  IsBody (one a) = IsAlternative a
  IsBody (also a b) = IsAlternative a × IsBody b

-- the tokens of two operands and their operator
two-tokens : (f sep : List Token) (t : Token) (w : List Token) → (f ++ (sep ++ t ∷ [])) ++ w ≡ f ++ (sep ++ t ∷ w)
two-tokens f sep t w = append_assoc f (sep ++ t ∷ []) w ∙ ap (λ (z : List Token). f ++ z) (append_assoc sep (t ∷ []) w)

-- past what is inside a set or bracket
past-members : (d : ℕ) (ms : List Member) (w : List Token) → past (suc d) (member_tokens ms ++ w) ≡ past (suc d) (set-end ∷ w)
past-members d [] w = refl
past-members d (tree.chars (string cs) ∷ ms) w = past-members d ms w
past-members d (tree.chars (hex n) ∷ ms) w = past-members d ms w
past-members d (range a b ∷ ms) w = past-members d ms w
past-members d (class k ∷ ms) w = past-members d ms w

past-terminal : (d : ℕ) (x : Terminal) (w : List Token) → past (suc d) (terminal_tokens x ++ w) ≡ past (suc d) w
past-terminal d (literal m (string cs)) w = refl
past-terminal d (literal m (hex n)) w = refl
past-terminal d (inclusion m ms) w = past-members (suc d) ms w
past-terminal d (exclusion m ms) w = past-members (suc d) ms w
past-terminal d (insertion (string cs)) w = refl
past-terminal d (insertion (hex n)) w = refl

mutual
  past-symbol : (d : ℕ) (s : Symbol) (w : List Token) → past (suc d) (symbol_tokens s ++ w) ≡ past (suc d) w
  past-symbol d (terminal x) w = past-terminal d x w
  past-symbol d (nonterminal m n) w = refl
  past-symbol d (group b) w = rw (append_assoc (body_tokens b) (close-group ∷ []) w) (past-body (suc d) b (close-group ∷ w))
  past-symbol d (option f) w = rw (append_assoc (symbol_tokens f) (to-option ∷ []) w) (past-symbol d f (to-option ∷ w))
  past-symbol d (repeat0 f) w = rw (append_assoc (symbol_tokens f) (to-repeat0 ∷ []) w) (past-symbol d f (to-repeat0 ∷ w))
  past-symbol d (repeat1 f) w = rw (append_assoc (symbol_tokens f) (to-repeat1 ∷ []) w) (past-symbol d f (to-repeat1 ∷ w))
  past-symbol d (repeat0sep f sep) w =
      rw (two-tokens (symbol_tokens f) (symbol_tokens sep) to-repeat0sep w)
      (past-symbol d f (symbol_tokens sep ++ to-repeat0sep ∷ w) ∙ past-symbol d sep (to-repeat0sep ∷ w))
  past-symbol d (repeat1sep f sep) w =
      rw (two-tokens (symbol_tokens f) (symbol_tokens sep) to-repeat1sep w)
      (past-symbol d f (symbol_tokens sep ++ to-repeat1sep ∷ w) ∙ past-symbol d sep (to-repeat1sep ∷ w))
  past-symbol d (rest f sep) w = refl

  past-alternative : (d : ℕ) (a : Alternative) (w : List Token) → past (suc d) (alternative_tokens a ++ w) ≡ past (suc d) w
  past-alternative d nil w = refl
  past-alternative d (cons f a) w = rw (append_assoc (symbol_tokens f) (alternative_tokens a) w) (past-symbol d f (alternative_tokens a ++ w) ∙ past-alternative d a w)

  past-body : (d : ℕ) (b : Body) (w : List Token) → past (suc d) (body_tokens b ++ w) ≡ past (suc d) w
  past-body d (one a) w = past-alternative d a w
  past-body d (also a b) w =
      rw (append_assoc (alternative_tokens a) (next-alternative ∷ body_tokens b) w) (past-alternative d a (next-alternative ∷ (body_tokens b ++ w)) ∙ past-body d b w)

-- sets
member-scan : (b : Bool) (m : Member) (ts : List Token) → scan b (member_token m ∷ ts) ≡ pick b [] (chars "; ") ++ (member_text m ++ scan false ts)
member-scan b (tree.chars (string cs)) ts = refl
member-scan b (tree.chars (hex n)) ts = refl
member-scan b (range x y) ts = refl
member-scan b (class k) ts = refl

some-members : (b : Bool) (m : Member) (ms : List Member) (w : List Token)
    → scan b (member_tokens (m ∷ ms) ++ w) ≡ pick b [] (chars "; ") ++ (members_text (m ∷ ms) ++ (chars "]" ++ scan false w))
some-members b m [] w = member-scan b m (set-end ∷ w)
some-members b m (n ∷ ns) w =
    rw (three (member_text m) (chars "; ") (members_text (n ∷ ns)) (chars "]" ++ scan false w), member-scan b m (member_tokens (n ∷ ns) ++ w))
    (ap (λ (z : Text). pick b [] (chars "; ") ++ (member_text m ++ z)) (some-members false n ns w))

members-scan : (ms : List Member) (w : List Token) → scan true (member_tokens ms ++ w) ≡ members_text ms ++ (chars "]" ++ scan false w)
members-scan [] w = refl
members-scan (m ∷ ms) w = some-members true m ms w

bracketed : (a o x c z : Text) → (a ++ o) ++ (x ++ (c ++ z)) ≡ (a ++ (o ++ x ++ c)) ++ z
bracketed a o x c z = append_assoc a o (x ++ (c ++ z)) ∙ ap (λ (y : Text). a ++ y) (sym (three o x c z)) ∙ sym (append_assoc a (o ++ x ++ c) z)

-- a factor, by what stands behind it
abbrev Follows : Bool → List Token → Text → List Token → Type 0
Follows b ts t w = scan b ts ≡ pick b [] (joint w) ++ (t ++ scan false w)

set-scan : (b : Bool) (m : Mark) (o : Text) (ms : List Member) (w : List Token)
    → pick b [] (joint (past 1 (member_tokens ms ++ w))) ++ ((mark_text m ++ o) ++ scan true (member_tokens ms ++ w))
    ≡ pick b [] (joint w) ++ ((mark_text m ++ (o ++ members_text ms ++ chars "]")) ++ scan false w)
set-scan b m o ms w =
    rw (past-members 0 ms w, members-scan ms w)
    (ap (λ (z : Text). pick b [] (joint w) ++ z) (bracketed (mark_text m) o (members_text ms) (chars "]") (scan false w)))

terminal-scan : (b : Bool) (x : Terminal) (w : List Token) → Follows b (terminal_tokens x ++ w) (terminal_text x) w
terminal-scan b (literal m (string cs)) w = refl
terminal-scan b (literal m (hex n)) w = refl
terminal-scan b (inclusion m ms) w = set-scan b m (chars "[") ms w
terminal-scan b (exclusion m ms) w = rw (append_assoc (mark_text m) (chars "~") (set_text ms)) (set-scan b m (chars "~[") ms w)
terminal-scan b (insertion (string cs)) w = refl
terminal-scan b (insertion (hex n)) w = refl

-- a factor and a term begin with a token that is no operator
joint-terminal : (x : Terminal) (w : List Token) → joint (terminal_tokens x ++ w) ≡ chars ", "
joint-terminal (literal m (string cs)) w = refl
joint-terminal (literal m (hex n)) w = refl
joint-terminal (inclusion m ms) w = refl
joint-terminal (exclusion m ms) w = refl
joint-terminal (insertion (string cs)) w = refl
joint-terminal (insertion (hex n)) w = refl

joint-factor : (f : Symbol) → IsFactor f → (w : List Token) → joint (symbol_tokens f ++ w) ≡ chars ", "
joint-factor (terminal x) h w = joint-terminal x w
joint-factor (nonterminal m n) h w = refl
joint-factor (group b) h w = refl
joint-factor (option f) h w = absurd h
joint-factor (repeat0 f) h w = absurd h
joint-factor (repeat1 f) h w = absurd h
joint-factor (repeat0sep f sep) h w = absurd h
joint-factor (repeat1sep f sep) h w = absurd h
joint-factor (rest f sep) h w = absurd h

joint-term : (s : Symbol) → IsTerm s → (w : List Token) → joint (symbol_tokens s ++ w) ≡ chars ", "
joint-term (terminal x) h w = joint-terminal x w
joint-term (nonterminal m n) h w = refl
joint-term (group b) h w = refl
joint-term (option f) h w = rw (append_assoc (symbol_tokens f) (to-option ∷ []) w) (joint-factor f h (to-option ∷ w))
joint-term (repeat0 f) h w = rw (append_assoc (symbol_tokens f) (to-repeat0 ∷ []) w) (joint-factor f h (to-repeat0 ∷ w))
joint-term (repeat1 f) h w = rw (append_assoc (symbol_tokens f) (to-repeat1 ∷ []) w) (joint-factor f h (to-repeat1 ∷ w))
joint-term (repeat0sep f sep) h w = rw (two-tokens (symbol_tokens f) (symbol_tokens sep) to-repeat0sep w) (joint-factor f h.0 (symbol_tokens sep ++ to-repeat0sep ∷ w))
joint-term (repeat1sep f sep) h w = rw (two-tokens (symbol_tokens f) (symbol_tokens sep) to-repeat1sep w) (joint-factor f h.0 (symbol_tokens sep ++ to-repeat1sep ∷ w))
joint-term (rest f sep) h w = absurd h

-- the tokens behind an alternative
record Ends (w : List Token) : Type 0 where
  same : scan true w ≡ scan false w
  apart : joint w ≡ chars ", "

-- a term, where no separator's operator follows
abbrev Stands : Bool → List Token → Text → List Token → Type 0
Stands b ts t w = scan b ts ≡ pick b [] (chars ", ") ++ (t ++ scan false w)

-- a factor with what is written of its operator and a second operand
behind : (b : Bool) (ts : List Token) (t o : Text) (w v : List Token)
    → Follows b (ts ++ v) t v → joint v ≡ chars ", " → scan false v ≡ o ++ scan false w → Stands b (ts ++ v) (t ++ o) w
behind b ts t o w v h j e =
    h ∙ ap (λ (z : Text). pick b [] z ++ (t ++ scan false v)) j
    ∙ ap (λ (z : Text). pick b [] (chars ", ") ++ z) (ap (λ (z : Text). t ++ z) e ∙ sym (append_assoc t o (scan false w)))

group-scan : (b : Bool) (c : Body) (w : List Token) → scan true (body_tokens c ++ close-group ∷ w) ≡ body_text c ++ (chars ")" ++ scan false w)
    → Follows b (symbol_tokens (group c) ++ w) (symbol_text (group c)) w
group-scan b c w h =
    rw (append_assoc (body_tokens c) (close-group ∷ []) w, past-body 0 c (close-group ∷ w), h)
    (ap (λ (z : Text). pick b [] (joint w) ++ z) (sym (three (chars "(") (body_text c) (chars ")") (scan false w))))

-- an alternative's first term begins a list, or stands behind another term
abbrev lead_of : Bool → Alternative → Text
lead_of b nil = []
lead_of b (cons f a) = pick b [] (chars ", ")

joint-alternative : (a : Alternative) → IsAlternative a → (w : List Token) → Ends w → joint (alternative_tokens a ++ w) ≡ chars ", "
joint-alternative nil h w e = e.apart
joint-alternative (cons f a) h w e = rw (append_assoc (symbol_tokens f) (alternative_tokens a) w) (joint-term f h.0 (alternative_tokens a ++ w))

term-first : (b : Bool) (f : Symbol) (a : Alternative) (w : List Token) → Stands b (symbol_tokens f ++ (alternative_tokens a ++ w)) (symbol_text f) (alternative_tokens a ++ w)
    → scan false (alternative_tokens a ++ w) ≡ lead_of false a ++ (alternative_text a ++ scan false w) → Stands b (alternative_tokens (cons f a) ++ w) (alternative_text (cons f a)) w
term-first b f nil w h k = rw (append-nil (symbol_tokens f)) h
term-first b f (cons g a) w h k =
    rw (append_assoc (symbol_tokens f) (alternative_tokens (cons g a)) w, three (symbol_text f) (chars ", ") (alternative_text (cons g a)) (scan false w))
    (h ∙ ap (λ (z : Text). pick b [] (chars ", ") ++ (symbol_text f ++ z)) k)

first-scan : (a : Alternative) {t u : Text} → t ≡ lead_of true a ++ u → t ≡ u
first-scan nil h = h
first-scan (cons f a) h = h

mutual
  factor-scan : (b : Bool) (f : Symbol) → IsFactor f → (w : List Token) → Follows b (symbol_tokens f ++ w) (symbol_text f) w
  factor-scan b (terminal x) h w = terminal-scan b x w
  factor-scan b (nonterminal m n) h w = refl
  factor-scan b (group c) h w = group-scan b c w (body-scan c h (close-group ∷ w) (record { same = refl; apart = refl }))
  factor-scan b (option f) h w = absurd h
  factor-scan b (repeat0 f) h w = absurd h
  factor-scan b (repeat1 f) h w = absurd h
  factor-scan b (repeat0sep f sep) h w = absurd h
  factor-scan b (repeat1sep f sep) h w = absurd h
  factor-scan b (rest f sep) h w = absurd h

  term-scan : (b : Bool) (s : Symbol) → IsTerm s → (w : List Token) → joint w ≡ chars ", " → Stands b (symbol_tokens s ++ w) (symbol_text s) w
  term-scan b (terminal x) h w j = terminal-scan b x w ∙ ap (λ (z : Text). pick b [] z ++ (terminal_text x ++ scan false w)) j
  term-scan b (nonterminal m n) h w j = ap (λ (z : Text). pick b [] z ++ ((mark_text m ++ n) ++ scan false w)) j
  term-scan b (group c) h w j =
      group-scan b c w (body-scan c h (close-group ∷ w) (record { same = refl; apart = refl }))
      ∙ ap (λ (z : Text). pick b [] z ++ (symbol_text (group c) ++ scan false w)) j
  term-scan b (option f) h w j =
      rw (append_assoc (symbol_tokens f) (to-option ∷ []) w)
      (behind b (symbol_tokens f) (symbol_text f) (chars "?") w (to-option ∷ w) (factor-scan b f h (to-option ∷ w)) refl refl)
  term-scan b (repeat0 f) h w j =
      rw (append_assoc (symbol_tokens f) (to-repeat0 ∷ []) w)
      (behind b (symbol_tokens f) (symbol_text f) (chars "*") w (to-repeat0 ∷ w) (factor-scan b f h (to-repeat0 ∷ w)) refl refl)
  term-scan b (repeat1 f) h w j =
      rw (append_assoc (symbol_tokens f) (to-repeat1 ∷ []) w)
      (behind b (symbol_tokens f) (symbol_text f) (chars "+") w (to-repeat1 ∷ w) (factor-scan b f h (to-repeat1 ∷ w)) refl refl)
  term-scan b (repeat0sep f sep) h w j =
      let v = symbol_tokens sep ++ to-repeat0sep ∷ w in
      rw (two-tokens (symbol_tokens f) (symbol_tokens sep) to-repeat0sep w, append_assoc (symbol_text f) (chars "**") (symbol_text sep))
      (behind b (symbol_tokens f) (symbol_text f) (chars "**" ++ symbol_text sep) w v (factor-scan b f h.0 v)
      (joint-factor sep h.1 (to-repeat0sep ∷ w)) (factor-scan false sep h.1 (to-repeat0sep ∷ w)))
  term-scan b (repeat1sep f sep) h w j =
      let v = symbol_tokens sep ++ to-repeat1sep ∷ w in
      rw (two-tokens (symbol_tokens f) (symbol_tokens sep) to-repeat1sep w, append_assoc (symbol_text f) (chars "++") (symbol_text sep))
      (behind b (symbol_tokens f) (symbol_text f) (chars "++" ++ symbol_text sep) w v (factor-scan b f h.0 v)
      (joint-factor sep h.1 (to-repeat1sep ∷ w)) (factor-scan false sep h.1 (to-repeat1sep ∷ w)))
  term-scan b (rest f sep) h w j = absurd h

  alternative-scan : (a : Alternative) → IsAlternative a → (b : Bool) (w : List Token) → Ends w
      → scan b (alternative_tokens a ++ w) ≡ lead_of b a ++ (alternative_text a ++ scan false w)
  alternative-scan nil h b w e = go b
    where
      go : (b : Bool) → scan b w ≡ scan false w
      go true = e.same
      go false = refl
  alternative-scan (cons f a) h b w e =
      term-first b f a w (term-scan b f h.0 (alternative_tokens a ++ w) (joint-alternative a h.1 w e)) (alternative-scan a h.1 false w e)

  body-scan : (c : Body) → IsBody c → (w : List Token) → Ends w → scan true (body_tokens c ++ w) ≡ body_text c ++ scan false w
  body-scan (one a) h w e = first-scan a (alternative-scan a h true w e)
  body-scan (also a c) h w e =
      rw (append_assoc (alternative_tokens a) (next-alternative ∷ body_tokens c) w, three (alternative_text a) (chars "; ") (body_text c) (scan false w))
      (first-scan a (alternative-scan a h.0 true (next-alternative ∷ (body_tokens c ++ w)) (record { same = refl; apart = refl }))
      ∙ ap (λ (z : Text). alternative_text a ++ (chars "; " ++ z)) (body-scan c h.1 w e))

-- rules and the whole
abbrev pub AreRules : List Rule → Type 0
AreRules [] = Unit {0}
AreRules (r ∷ rs) = IsBody r.body × AreRules rs

rule-scan : (b : Bool) (r : Rule) → IsBody r.body → (w : List Token) → scan b (rule_tokens r ++ w) ≡ rule_text r ++ scan false w
rule-scan b r h w =
    let head = mark_text r.mark ++ r.name ++ chars ": " in
    rw (append_assoc (body_tokens r.body) (rule_end ∷ []) w, three head (body_text r.body) (chars ".\n") (scan false w))
    (lead b ∙ ap (λ (z : Text). head ++ z) (body-scan r.body h (rule_end ∷ w) (record { same = refl; apart = refl })))
  where
    lead : (b : Bool) {t : Text} → pick b [] [] ++ t ≡ t
    lead true = refl
    lead false = refl

rules-scan : (b : Bool) (rs : List Rule) → AreRules rs → scan b (concat_map rule_tokens rs) ≡ concat_map rule_text rs
rules-scan b [] h = refl
rules-scan b (r ∷ rs) h = rule-scan b r h.0 (concat_map rule_tokens rs) ∙ ap (λ (z : Text). rule_text r ++ z) (rules-scan false rs h.1)

pub grammar-scan : (g : Grammar) → AreRules (rules g) → scan true (grammar_tokens g) ≡ tidy_text g
unfolding tidy_text
grammar-scan g h = go g.prolog
  where
    go : (p : Prolog) → scan true (prolog_tokens p ++ concat_map rule_tokens (rules g)) ≡ prolog_text p ++ concat_map rule_text (rules g)
    go no-prolog = rules-scan true (rules g) h
    go (version k) = ap (λ (z : Text). prolog_text (version k) ++ z) (rules-scan false (rules g) h)
