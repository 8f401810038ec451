-- Items that were built from a grammar under the static rules are ready for the engine.
use mathlib.Core.Bool.{Bool, false}
use mathlib.Core.List.Memᴰ.{head as in_head}
use mathlib.Core.List.Memᴰ.{tail as in_Tail}
use mathlib.Core.List.{List, [], ◌∷◌, ◌++◌, Memᴰ as In}
use mathlib.Core.List.Memᴰ.{append_cases as in-cases}
use mathlib.Core.List.Memᴰ.{append_left as in_left}
use mathlib.Core.List.Memᴰ.{append_right as in_right}
use mathlib.Core.Logic.{⊎_elim}
use mathlib.Core.Path.{◌≡◌, refl, ap, ◌∙◌, subst}
use Prim.Native.Nat.{ℕ, ◌<◌}
use native.Mathlib.Omega.{arith}
use lib.Dec.{ltb}
use borrow.Author.Tests.{ltb-false, not-false}
use Rattle.text.specs.Lists.{any, concat_map}
use Rattle.text.proofs.Tests.{T_false, not_t, or_left, or_right}
use Rattle.category.specs.Category.{is_class}
use Rattle.tree.specs.Tree.{Chars, string, hex, Member, chars, range, class, Terminal, literal, inclusion, exclusion, insertion}
use Rattle.tree.specs.Tree.{Symbol, terminal, nonterminal, group, option, repeat0, repeat1, repeat0sep, repeat1sep, rest, Alternative, nil, cons, Body, one, also, Rule, Grammar, rules}
use Rattle.plain.specs.Written.{within, within_alternative, within_body, written, kind, atom, made, terminals, terminals_in, members, members_in, chars_in, chars_in_member, hexes, hex_in}
use Rattle.plain.specs.Static.{duplicate, beyond, unclassed, no_class}
use Rattle.plain.specs.Plain.{size}
use Rattle.tokens.specs.Proper.{ProperMember, ProperMembers, ProperTerminal, Proper, ProperAlternative, ProperBody, ProperRules}
use Rattle.derive.proofs.Symbols.{in-concat, the-terminal}
use Rattle.items.specs.Built.{Built}
use Rattle.terminals.specs.Sound.{SoundChars, SoundMember, SoundMembers, SoundTerminal}
use Rattle.rules.specs.Ready.{Ready}

-- a test that no element passes
none_in : {A : Type 0} (f : A → Bool) (xs : List A) {x : A} → any f xs ≡ false → In x xs → f x ≡ false
none_in f (y ∷ ys) e (in_head q) = ap f q ∙ T_false (f y) (λ t. not_t e (or_left (f y) (any f ys) t))
none_in f (y ∷ ys) e (in_Tail m) = none_in f ys (T_false (any f ys) (λ t. not_t e (or_right (f y) (any f ys) t))) m
none_in {A = A} f [] e x4 = elim x4 [ ]

-- the terminals among symbols have proper ranges
abbrev ProperAll : List Symbol → Type 0
ProperAll ss = (x : Terminal) → In (terminal x) ss → ProperTerminal x

none-proper : ProperAll []
none-proper x m = elim m [ ]

both-proper : (ss ts : List Symbol) → ProperAll ss → ProperAll ts → ProperAll (ss ++ ts)
both-proper ss ts v w x m = ⊎_elim (λ a. v x a) (λ b. w x b) (in-cases ss m)

made-proper : (s : Symbol) (ss : List Symbol) → kind s ≡ made → ProperAll ss → ProperAll (s ∷ ss)
made-proper s ss e w x (in_head q) = absurd (let k : atom x ≡ made = ap kind q ∙ e in let z : ◌≡◌ {A = ℕ} 0 1 = cc in omega arith)
made-proper s ss e w x (in_Tail m) = w x m

leaf-proper : (y : Terminal) → ProperTerminal y → ProperAll (terminal y ∷ [])
leaf-proper y p x (in_head q) = let e : y ≡ x = cc in subst ProperTerminal e p
leaf-proper y p x (in_Tail m) = elim m [ ]

name-proper : (s : Symbol) → ((x : Terminal) → terminal x ≡ s → ⊥) → ProperAll (s ∷ [])
name-proper s d x (in_head q) = absurd (d x q)
name-proper s d x (in_Tail m) = elim m [ ]

mutual
  within-proper : (s : Symbol) → Proper s → ProperAll (within s)
  within-proper (terminal x) p = leaf-proper x p
  within-proper (nonterminal m n) p = name-proper (nonterminal m n) (λ x q. (let z : ◌≡◌ {A = ℕ} 0 1 = cc in omega arith))
  within-proper (group b) p = made-proper (group b) (within_body b) refl (body-proper b p)
  within-proper (option f) p = made-proper (option f) (within f) refl (within-proper f p)
  within-proper (repeat0 f) p = made-proper (repeat0 f) (within f) refl (within-proper f p)
  within-proper (repeat1 f) p = made-proper (repeat1 f) (within f) refl (within-proper f p)
  within-proper (repeat0sep f sep) p = made-proper (repeat0sep f sep) (within f ++ within sep) refl (both-proper (within f) (within sep) (within-proper f p.0) (within-proper sep p.1))
  within-proper (repeat1sep f sep) p = made-proper (repeat1sep f sep) (within f ++ within sep) refl (both-proper (within f) (within sep) (within-proper f p.0) (within-proper sep p.1))
  within-proper (rest f sep) p = absurd p

  alternative-proper : (a : Alternative) → ProperAlternative a → ProperAll (within_alternative a)
  alternative-proper nil p = none-proper
  alternative-proper (cons f a) p = both-proper (within f) (within_alternative a) (within-proper f p.0) (alternative-proper a p.1)

  body-proper : (b : Body) → ProperBody b → ProperAll (within_body b)
  body-proper (one a) p = alternative-proper a p
  body-proper (also a b) p = both-proper (within_alternative a) (within_body b) (alternative-proper a p.0) (body-proper b p.1)

rules-proper : (rs : List Rule) → ProperRules rs → ProperAll (concat_map (λ r. within_body r.body) rs)
rules-proper [] p = none-proper
rules-proper (r ∷ rs) p = both-proper (within_body r.body) (concat_map (λ r. within_body r.body) rs) (body-proper r.body p.0) (rules-proper rs p.1)

-- a terminal of symbols is one of them
its-symbol : (ss : List Symbol) (x : Terminal) → In x (concat_map terminals_in ss) → In (terminal x) ss
its-symbol [] x m = elim m [ ]
its-symbol (s ∷ ss) x m = ⊎_elim (λ a. in_head (the-terminal s x a)) (λ b. in_Tail (its-symbol ss x b)) (in-cases (terminals_in s) m)

-- sound characters and classes make sound members
sound-chars : (k : Chars) → ((n : ℕ) → In n (hex_in k) → n < 0x110000) → SoundChars k
sound-chars (string cs) h = tt
sound-chars (hex n) h = h n (in_head refl)

sound-member : (m : Member) → ((k : Chars) → In k (chars_in_member m) → SoundChars k) → no_class m ≡ false → ProperMember m → SoundMember m
unfolding no_class
sound-member (chars k) h c p = h k (in_head refl)
sound-member (range a b) h c p = ((h a (in_head refl), p.0), (h b (in_Tail (in_head refl)), p.1))
sound-member (class k) h c p = not-false (is_class k) c

sound-members : (ms : List Member) → ((k : Chars) → In k (concat_map chars_in_member ms) → SoundChars k)
    → ((m : Member) → In m ms → no_class m ≡ false) → ProperMembers ms → SoundMembers ms
sound-members [] h c p = tt
sound-members (m ∷ ms) h c p = (
  sound-member m (λ k i. h k (in_left (concat_map chars_in_member ms) i)) (c m (in_head refl)) p.0,
  sound-members ms (λ k i. h k (in_right (chars_in_member m) i)) (λ n i. c n (in_Tail i)) p.1,
)

sound-terminal : (x : Terminal) → ((k : Chars) → In k (chars_in x) → SoundChars k) → ((m : Member) → In m (members_in x) → no_class m ≡ false) → ProperTerminal x → SoundTerminal x
sound-terminal (literal m k) h c p = h k (in_head refl)
sound-terminal (inclusion m ms) h c p = sound-members ms h c p
sound-terminal (exclusion m ms) h c p = sound-members ms h c p
sound-terminal (insertion k) h c p = tt

all_sound : (g : Grammar) → ProperRules (rules g) → beyond g ≡ false → unclassed g ≡ false → (x : Terminal) → In x (terminals g) → SoundTerminal x
unfolding beyond unclassed
all_sound g p b c x i =
    let code : (n : ℕ) → In n (hexes g) → n < 0x110000 = λ n m. omega (arith, ltb-false 0x10ffff n (none_in (ltb 0x10ffff) (hexes g) b m)) in
    sound-terminal x
    (λ k m. sound-chars k (λ n j. code n (in-concat hex_in (concat_map chars_in (terminals g)) (in-concat chars_in (terminals g) i m) j)))
    (λ m j. none_in no_class (members g) c (in-concat members_in (terminals g) i j))
    (rules-proper (rules g) p x (its-symbol (written g) x i))

-- from what is built and what the static rules say
pub ready : {T : List ℕ} {g : Grammar} {root : ℕ} → Built T g root → ProperRules (rules g) → duplicate g ≡ false → beyond g ≡ false
    → unclassed g ≡ false → Ready T g (size g) root
ready {g = g} w p d b c = record { built = w; simple = d; proper = p; sound = all_sound g p b c; count = refl }
