-- Symbols all of whose parts pass a test: what they derive by are such symbols too.
use mathlib.Core.Path.{◌≡◌, refl}
use mathlib.Core.Bool.{Bool, true, false}
use mathlib.Core.List.{List, [], ◌∷◌, ◌++◌}
use Prim.Native.Nat.{ℕ, zero, suc, ◌+◌, ◌-◌}
use lib.Dec.{T}
use lib.ListN.{get_or}
use Rattle.text.specs.Lists.{Text, pick, all, same, concat_map}
use Rattle.text.proofs.Tests.{and_left, and_right, both-and}
use Rattle.tree.specs.Tree.{Symbol, terminal, nonterminal, group, option, repeat0, repeat1, repeat0sep, repeat1sep, rest, Alternative, nil, cons, Body, one, also, Rule, Grammar, rules}
use Rattle.plain.specs.Written.{within, within_alternative, within_body, written, kind, made}
use Rattle.plain.specs.Plain.{alts, alternatives, symbols, rule_for}
use Rattle.derive.specs.Derive.{alternative}

-- a symbol all of whose parts pass; rows of such
module _ (p : Symbol → Bool) where
  abbrev pub fair : Symbol → Bool
  fair s = all p (within s)

  abbrev pub fairs : List Symbol → Bool
  fairs ss = all fair ss

all_append : {A : Type 0} (f : A → Bool) (xs ys : List A) → T (all f (xs ++ ys)) → T (all f xs) × T (all f ys)
all_append f [] ys h = (tt, h)
all_append f (x ∷ xs) ys h =
    let k = all_append f xs ys (and_right (f x) (all f (xs ++ ys)) h) in
    (both-and (f x) (all f xs) (and_left (f x) (all f (xs ++ ys)) h) k.0, k.1)

all-got : {A : Type 0} (f : List A → Bool) (xs : List (List A)) (a : ℕ) → T (f []) → T (all f xs) → T (f (get_or xs a []))
all-got f [] a z h = z
all-got f (x ∷ xs) zero z h = and_left (f x) (all f xs) h
all-got f (x ∷ xs) (suc a) z h = all-got f xs a z (and_right (f x) (all f xs) h)

module _ (p : Symbol → Bool) where
  fair-symbols : (a : Alternative) → T (all p (within_alternative a)) → T (fairs p (symbols a))
  fair-symbols nil h = tt
  fair-symbols (cons f a) h = let k = all_append p (within f) (within_alternative a) h in both-and (fair p f) (fairs p (symbols a)) k.0 (fair-symbols a k.1)

  fair-body : (b : Body) → T (all p (within_body b)) → T (all (fairs p) (alternatives b))
  fair-body (one a) h = both-and (fairs p (symbols a)) true (fair-symbols a h) tt
  fair-body (also a b) h =
      let k = all_append p (within_alternative a) (within_body b) h in
      both-and (fairs p (symbols a)) (all (fairs p) (alternatives b)) (fair-symbols a k.0) (fair-body b k.1)

  fair-rule : (rs : List Rule) (n : Text) → T (all p (concat_map (λ r. within_body r.body) rs)) → T (all (fairs p) (rule_for rs n))
  fair-rule [] n h = tt
  fair-rule (r ∷ rs) n h =
      let k = all_append p (within_body r.body) (concat_map (λ r. within_body r.body) rs) h in
      go (same n r.name) (fair-body r.body k.0) (fair-rule rs n k.1)
    where
      go : (b : Bool) → T (all (fairs p) (alternatives r.body)) → T (all (fairs p) (rule_for rs n)) → T (all (fairs p) (pick b (alternatives r.body) (rule_for rs n)))
      go true x y = x
      go false x y = y

  one-fair : (f : Symbol) → T (fair p f) → T (fairs p (f ∷ []))
  one-fair f h = both-and (fair p f) true h tt

  two-fair : (f s : Symbol) → T (fair p f) → T (fair p s) → T (fairs p (f ∷ s ∷ []))
  two-fair f s h k = both-and (fair p f) (fairs p (s ∷ [])) h (one-fair s k)

  or_nothing : (ss : List Symbol) → T (fairs p ss) → T (all (fairs p) (ss ∷ [] ∷ []))
  or_nothing ss h = both-and (fairs p ss) true h tt

  alone : (ss : List Symbol) → T (fairs p ss) → T (all (fairs p) (ss ∷ []))
  alone ss h = both-and (fairs p ss) true h tt

  -- made symbols pass, and so do all that are written: then all that a fair symbol derives by is fair
  module _ (g : Grammar) (all-written : T (all p (written g))) (made-passes : (s : Symbol) → kind s ≡ made → T (p s)) where
    fair-made : (s : Symbol) (parts : List Symbol) → kind s ≡ made → T (all p parts) → T (all p (s ∷ parts))
    fair-made s parts e h = both-and (p s) (all p parts) (made-passes s e) h

    parts : (s : Symbol) (ss : List Symbol) → T (all p (s ∷ ss)) → T (all p ss)
    parts s ss h = and_right (p s) (all p ss) h

    fair-rest : (f sep : Symbol) → T (all p (within f ++ within sep)) → T (fair p (rest f sep))
    fair-rest f sep h = fair-made (rest f sep) (within f ++ within sep) refl h

    fair-alts : (s : Symbol) → T (fair p s) → T (all (fairs p) (alts g s))
    fair-alts (terminal x) h = tt
    fair-alts (nonterminal m n) h = fair-rule (rules g) n all-written
    fair-alts (group b) h = fair-body b (parts (group b) (within_body b) h)
    fair-alts (option f) h = or_nothing (f ∷ []) (one-fair f (parts (option f) (within f) h))
    fair-alts (repeat0 f) h = or_nothing (f ∷ repeat0 f ∷ []) (two-fair f (repeat0 f) (parts (repeat0 f) (within f) h) h)
    fair-alts (repeat1 f) h =
        let k = parts (repeat1 f) (within f) h in
        alone (f ∷ repeat0 f ∷ []) (two-fair f (repeat0 f) k (fair-made (repeat0 f) (within f) refl k))
    fair-alts (repeat1sep f sep) h =
        let k = parts (repeat1sep f sep) (within f ++ within sep) h in
        alone (f ∷ rest f sep ∷ []) (two-fair f (rest f sep) (all_append p (within f) (within sep) k).0 (fair-rest f sep k))
    fair-alts (rest f sep) h =
        let k = parts (rest f sep) (within f ++ within sep) h in
        let l = all_append p (within f) (within sep) k in
        or_nothing (sep ∷ f ∷ rest f sep ∷ []) (both-and (fair p sep) (fairs p (f ∷ rest f sep ∷ [])) l.1 (two-fair f (rest f sep) l.0 h))
    fair-alts (repeat0sep f sep) h =
        let k = parts (repeat0sep f sep) (within f ++ within sep) h in
        or_nothing (repeat1sep f sep ∷ []) (one-fair (repeat1sep f sep) (fair-made (repeat1sep f sep) (within f ++ within sep) refl k))

    pub fair-alternative : (s : Symbol) (a : ℕ) → T (fair p s) → T (fairs p (alternative g s a))
    fair-alternative s a h = all-got (fairs p) (alts g s) a tt (fair-alts s h)
