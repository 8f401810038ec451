-- Which rules a run adds: those that the symbols make which it runs over.
use mathlib.Core.List.{List, [], ◌∷◌, ◌++◌, append-nil}
use mathlib.Core.List.Memᴰ.{head as in_head}
use mathlib.Core.List.Memᴰ.{tail as in_Tail}
use mathlib.Core.List.{Memᴰ as In}
use mathlib.Core.List.Memᴰ.{append_cases as in-cases}
use mathlib.Core.List.Memᴰ.{append_left as in_left}
use mathlib.Core.List.Memᴰ.{append_right as in_right}
use mathlib.Core.Logic.{◌⊎◌, inl, inr, ⊎_elim}
use mathlib.Core.Path.{◌≡◌, refl, sym, subst}
use Prim.Native.Nat.{ℕ}
use Rattle.text.specs.Lists.{Text, concat_map}
use Rattle.text.proofs.Lists.{concat-append}
use Rattle.tree.specs.Tree.{unmarked, Symbol, nonterminal, Rule}
use Rattle.plain.specs.Written.{within_body}
use Rattle.plain.specs.Plain.{makes}
use Rattle.items.specs.Items.{Starts, Among}
use Rattle.items.proofs.RuleNames.{name_starts, among-left, among-right, among-split}

-- S' has a rule for each of the symbols, and beside these only those of S
pub record Adds (S S' : Starts) (ss : List Symbol) : Type 0 where
  pub every : (s : Symbol) → In s ss → (x : ℕ) × Among x s S'
  pub only : (x : ℕ) (s : Symbol) → Among x s S' → Among x s S ⊎ In s ss

pub adds_none : (S : Starts) → Adds S S []
adds_none S = record { every = λ s m. absurd (none m); only = λ x s a. inl a }
  where
    none : {s : Symbol} → In s [] → ⊥
    none m = elim m [ ]

pub adds_then : {S S' S'' : Starts} (ss ts : List Symbol) → ((x : ℕ) (s : Symbol) → Among x s S' → Among x s S'')
    → Adds S S' ss → Adds S' S'' ts → Adds S S'' (ss ++ ts)
adds_then ss ts later v w = record {
  every = λ s m. ⊎_elim (λ a. ((v.every s a).0, later (v.every s a).0 s (v.every s a).1)) (λ b. w.every s b) (in-cases ss m);
  only = λ x s a. ⊎_elim (λ b. ⊎_elim (λ c. inl c) (λ c. inr (in_left ts c)) (v.only x s b)) (λ b. inr (in_right ss b)) (w.only x s a);
}

-- the symbols of some rules, the last first
abbrev pub symbols_back : Starts → List Symbol
symbols_back [] = []
symbols_back (y ∷ B) = symbols_back B ++ y.1 ∷ []

back-every : (B : Starts) (s : Symbol) → In s (symbols_back B) → (x : ℕ) × Among x s B
back-every [] s m = elim m [ ]
back-every (y ∷ B) s m = ⊎_elim (λ a. let k = back-every B s a in (k.0, inr k.1)) (λ b. (y.0, inl (refl, one b))) (in-cases (symbols_back B) m)
  where
    one : In s (y.1 ∷ []) → y.1 ≡ s
    one (in_head e) = sym e
    one (in_Tail m) = elim m [ ]

back-only : (B : Starts) (x : ℕ) (s : Symbol) → Among x s B → In s (symbols_back B)
back-only [] x s a = absurd a
back-only (y ∷ B) x s (inl e) = in_right (symbols_back B) (in_head (sym e.1))
back-only (y ∷ B) x s (inr a) = in_left (y.1 ∷ []) (back-only B x s a)

-- rules more in front
pub adds-made : {S S' : Starts} (B : Starts) (us : List Symbol) (s : Symbol) → symbols_back B ≡ makes s → Adds S S' (concat_map makes us)
    → Adds S (B ++ S') (concat_map makes (s ∷ us))
adds-made {S} {S'} B us s e v = subst (λ (l : List Symbol). Adds S (B ++ S') (l ++ concat_map makes us)) e (record {
  every =
      λ u m. ⊎_elim (λ a. let k = back-every B u a in (k.0, among-left k.0 u B S' k.1))
      (λ b. let k = v.every u b in (k.0, among-right k.0 u B S' k.1)) (in-cases (symbols_back B) m);
  only =
      λ x u a. ⊎_elim (λ b. inr (in_left (concat_map makes us) (back-only B x u b)))
      (λ b. ⊎_elim (λ c. inl c) (λ c. inr (in_right (symbols_back B) c)) (v.only x u b)) (among-split x u B S' a);
})

-- two runs, one after the other
pub adds-both : {S S' S'' : Starts} (us vs : List Symbol) → ((x : ℕ) (s : Symbol) → Among x s S' → Among x s S'')
    → Adds S S' (concat_map makes us) → Adds S' S'' (concat_map makes vs) → Adds S S'' (concat_map makes (us ++ vs))
adds-both {S} {S'' = S''} us vs later v w = subst (Adds S S'') (sym (concat-append makes us vs)) (adds_then (concat_map makes us) (concat_map makes vs) later v w)

-- all symbols that are written in rules
abbrev pub written_in : List Rule → List Symbol
written_in rs = concat_map (λ r. within_body r.body) rs

pub adds-rule : {S S' : Starts} (r : Rule) → Adds S S' (concat_map makes (within_body r.body)) → Adds S S' (concat_map makes (written_in (r ∷ [])))
adds-rule {S} {S'} r v = subst (λ (us : List Symbol). Adds S S' (concat_map makes us)) (sym (append-nil (within_body r.body))) v

pub adds-rules : {S S' S'' : Starts} (rs rs' : List Rule) → ((x : ℕ) (s : Symbol) → Among x s S' → Among x s S'')
    → Adds S S' (concat_map makes (written_in rs)) → Adds S' S'' (concat_map makes (written_in rs'))
    → Adds S S'' (concat_map makes (written_in (rs ++ rs')))
adds-rules {S} {S'' = S''} rs rs' later v w =
    subst (λ (us : List Symbol). Adds S S'' (concat_map makes us)) (sym (concat-append (λ r. within_body r.body) rs rs'))
    (adds-both (written_in rs) (written_in rs') later v w)

-- the names of rules, unmarked
abbrev pub unmarked_names : List Rule → List Symbol
unmarked_names rs = concat_map (λ r. nonterminal unmarked r.name ∷ []) rs

pub names-every : (f : Text → ℕ) (rs : List Rule) (s : Symbol) → In s (unmarked_names rs) → (x : ℕ) × Among x s (name_starts f rs)
names-every f [] s m = elim m [ ]
names-every f (r ∷ rs) s (in_head e) = (f r.name, inl (refl, sym e))
names-every f (r ∷ rs) s (in_Tail m) = let k = names-every f rs s m in (k.0, inr k.1)

pub names-only : (f : Text → ℕ) (rs : List Rule) (x : ℕ) (s : Symbol) → Among x s (name_starts f rs) → In s (unmarked_names rs)
names-only f [] x s a = absurd a
names-only f (r ∷ rs) x s (inl e) = in_head (sym e.1)
names-only f (r ∷ rs) x s (inr a) = in_Tail (names-only f rs x s a)
