-- The reader of the grammar text. The first argument of a function of the cycle bounds how deep its calls go: four for each
-- character left are enough. The second is how many brackets more may open.
use Rattle.std.specs.Prelude.{Bool, true, false, ◌||◌, ◌≡◌, List, [], ◌∷◌, ℕ, zero, suc, ◌+◌, ◌*◌, ◌<◌, ◌≤◌, length}
use Rattle.text.specs.Limits.{levels}
use Rattle.text.specs.Lists.{Text, chars, among}
use Rattle.tree.specs.Tree.{Mark, unmarked, included, attribute, deleted, Terminal, literal, inclusion, exclusion, insertion}
use Rattle.tree.specs.Tree.{Symbol, terminal, nonterminal, group, option, repeat0, repeat1, repeat0sep, repeat1sep, Alternative, nil, cons, Body, one, also, Rule, Prolog, no-prolog, version, Grammar}
use Rattle.syntax.specs.Syntax.{ch, bar, namestart, defines}
use Rattle.syntax.specs.Result.{Result, ok, fail, hd, tl, when, then, map, guard, expect}
use Rattle.syntax.specs.Spacing.{skip, spacing, required, spaced}
use Rattle.syntax.specs.Lexical.{read_word, read-string, read-chars, read_set, read-mark, read_name, read-use, separated}

-- a terminal after its mark m
unfoldable pub read-terminal : Mark → Text → Result Terminal
read-terminal m t =
    when (ch 0x7e (hd t)) (λ _. then (skip (tl t)) (λ _ u. map (exclusion m) (read_set u)))
    (λ _. when (ch 0x5b (hd t)) (λ _. map (inclusion m) (read_set t))
    (λ _. then (read-chars t) (λ k u. spaced (literal m k) u)))

unfoldable pub read-insertion : Text → Result Terminal
read-insertion t = expect (ch 0x2b) t (λ u. then (skip u) (λ _ v. then (read-chars v) (λ k w. spaced (insertion k) w)))

unfoldable pub read-nonterminal : Mark → Text → Result Symbol
read-nonterminal m t = then (read-use t) (λ n u. spaced (nonterminal m n) u)

-- a mark that a terminal may bear
unfoldable pub tmark : Mark → Bool
tmark unmarked = true
tmark included = true
tmark attribute = false
tmark deleted = true

unfoldable pub marked : Mark → Text → Result Symbol
marked m t = when (namestart (hd t)) (λ _. read-nonterminal m t) (λ _. guard (tmark m) (λ _. map terminal (read-terminal m t)))

-- a factor that is no bracket
unfoldable pub read_plain : Text → Result Symbol
read_plain t = when (ch 0x2b (hd t)) (λ _. map terminal (read-insertion t)) (λ _. then (read-mark t) marked)

-- what follows a factor v; f reads a separator
unfoldable pub repeated : ℕ → (Symbol → Symbol) → (Symbol → Symbol → Symbol) → (Text → Result Symbol) → Symbol → Text → Result Symbol
repeated k plain sep f v t = when (ch k (hd t)) (λ _. then (skip (tl t)) (λ _ u. map (sep v) (f u))) (λ _. spaced (plain v) t)

unfoldable pub suffix : (Text → Result Symbol) → Symbol → Text → Result Symbol
suffix f v t =
    when (ch 0x3f (hd t)) (λ _. spaced (option v) (tl t))
    (λ _. when (ch 0x2a (hd t)) (λ _. repeated 0x2a repeat0 repeat0sep f v (tl t))
    (λ _. when (ch 0x2b (hd t)) (λ _. repeated 0x2b repeat1 repeat1sep f v (tl t))
    (λ _. ok v t)))

-- one level less, if there is one
unfoldable pub under : {A : Type 0} → ℕ → (ℕ → Result A) → Result A
under zero k = fail
under (suc d) k = k d

-- the first character of a factor
unfoldable pub starts : ℕ → Bool
starts c = among c (chars "(+@^-\"'#[~") || namestart c

abbrev pub single : Symbol → Alternative
single f = cons f nil

unfoldable mutual
  pub alts : ℕ → ℕ → Text → Result Body
  alts zero d t = fail
  alts (suc n) d t = then (when (starts (hd t)) (λ _. terms n d t) (λ _. ok nil t)) (λ a u. separated bar also one (λ w. alts n d w) a u)

  pub terms : ℕ → ℕ → Text → Result Alternative
  terms zero d t = fail
  terms (suc n) d t = then (term n d t) (λ f u. separated (ch 0x2c) cons single (λ w. terms n d w) f u)

  pub term : ℕ → ℕ → Text → Result Symbol
  term zero d t = fail
  term (suc n) d t = then (factor n d t) (λ f u. suffix (λ w. factor n d w) f u)

  pub factor : ℕ → ℕ → Text → Result Symbol
  factor zero d t = fail
  factor (suc n) d t =
      when (ch 0x28 (hd t))
      (λ _. under d (λ e. then (skip (tl t)) (λ _ u. then (alts n e u) (λ b v. expect (ch 0x29) v (λ w. spaced (group b) w)))))
      (λ _. read_plain t)

-- an answer of a function of the cycle, at every sufficient bound
abbrev pub Alts= : ℕ → Text → Result Body → Type 0
Alts= d t x = (n : ℕ) → 4 * length t + 4 ≤ n → alts n d t ≡ x

abbrev pub Alt= : ℕ → Text → Result Alternative → Type 0
Alt= d t x = (n : ℕ) → 4 * length t + 3 ≤ n → when (starts (hd t)) (λ _. terms n d t) (λ _. ok nil t) ≡ x

abbrev pub Terms= : ℕ → Text → Result Alternative → Type 0
Terms= d t x = (n : ℕ) → 4 * length t + 3 ≤ n → terms n d t ≡ x

abbrev pub Term= : ℕ → Text → Result Symbol → Type 0
Term= d t x = (n : ℕ) → 4 * length t + 2 ≤ n → term n d t ≡ x

abbrev pub Factor= : ℕ → Text → Result Symbol → Type 0
Factor= d t x = (n : ℕ) → 4 * length t + 1 ≤ n → factor n d t ≡ x

-- the function agrees with the claim on texts shorter than t
abbrev pub Agrees : {A : Type 0} → (Text → Result A → Type 0) → Text → (Text → Result A) → Type 0
Agrees {A} E t f = (u : Text) (x : Result A) → length u < length t → E u x → f u ≡ x

abbrev pub enough : Text → ℕ
enough t = 4 * length t + 4

abbrev pub rule : Mark → Text → Body → Rule
rule m n b = record { mark = m; name = n; body = b }

unfoldable pub read-rule : Text → Result Rule
read-rule t =
    then (read-mark t) (λ m u. then (read_name u) (λ n v. then (skip v) (λ _ w. expect defines w (λ x. then (skip x) (λ _ y.
    then (alts (enough y) levels y) (λ b z. expect (ch 0x2e) z (λ q. ok (rule m n b) q)))))))

unfoldable pub at-end : {A : Type 0} → Text → (Unit {0} → A) → (Unit {0} → A) → A
at-end [] f g = f tt
at-end (c ∷ t) f g = g tt

-- (RS, rule)*, s, and the end   the first argument bounds the count of rules: the characters left are enough
unfoldable pub rules : ℕ → Text → Result (List Rule)
rules zero t = fail
rules (suc n) t =
    then (skip t) (λ _ u. at-end u (λ _. ok [] []) (λ _. guard (spacing (hd t)) (λ _. then (read-rule u) (λ r w. map (◌∷◌ r) (rules n w)))))

-- -"ixml", RS, -"version": no rule begins so
unfoldable pub heading : Text → Result (Unit {0})
heading t = then (read_word (chars "ixml") t) (λ _ u. then (required u) (λ _ v. read_word (chars "version") v))

-- a prolog after its heading; where there is none, no prolog
unfoldable pub after-heading : Result (Unit {0}) → Text → Result Prolog
after-heading (ok _ u) t =
    then (required u) (λ _ v. then (read-string v) (λ k w. then (skip w) (λ _ x. expect (ch 0x2e) x (λ y. spaced (version k) y))))
after-heading fail t = ok no-prolog t

unfoldable pub read-prolog : Text → Result Prolog
read-prolog t = after-heading (heading t) t

abbrev pub grammar : Prolog → Rule → List Rule → Grammar
grammar p r rs = record { prolog = p; root = r; others = rs }

unfoldable pub read-ixml : Text → Result Grammar
read-ixml t = then (skip t) (λ _ u. then (read-prolog u) (λ p v. then (read-rule v) (λ r w. map (grammar p r) (rules (suc (length w)) w))))

pub data Parsed : Type 0 where
  parsed : Grammar → Parsed
  no-parse : Parsed

unfoldable pub answer : Result Grammar → Parsed
answer (ok g u) = parsed g
answer fail = no-parse

unfoldable pub parse : Text → Parsed
parse t = answer (read-ixml t)
