-- What a token has in the table, beside the parts that stand at its spots.
use mathlib.Core.Bool.{Bool, true, false, not, ◌||◌}
use mathlib.Core.Path.{◌≡◌, refl, sym, ap, ◌∙◌}
use mathlib.Core.List.{List, [], ◌∷◌, ◌++◌, append-nil}
use Prim.Native.Nat.{ℕ, ◌+◌}
use lib.Dec.{ltb}
use lib.ListN.{length}
use Rattle.text.specs.Lists.{Text, any, concat_map}
use Rattle.text.proofs.Lists.{or-false, any-concat, any-ext, any-agree}
use Rattle.text.proofs.Tests.{clash}
use Rattle.tree.specs.Tree.{Chars, string, hex, chars, range, class}
use Rattle.tree.specs.Tokens.{Token, name, quoted, coded, include, exclude, member-quoted, member-coded, member-range, member-class, set-end, insert-quoted, insert-coded, capped}
use Rattle.tree.specs.Tokens.{open-group, close-group, next-alternative, to-option, to-repeat0, to-repeat1, to-repeat0sep, to-repeat1sep, rule-head, rule_end, version-is}
use Rattle.category.specs.Category.{is_class}
use Rattle.plain.specs.Written.{hex_in}
use Rattle.plain.specs.Static.{unassignable, code_of, runs_back, no_class}
use Rattle.tokens.specs.Lengths.{first_number}
use Rattle.tokens.proofs.Walk.{by-mark}
use Rattle.static_errors.specs.Parts as had
use Rattle.static_errors.specs.Parts.{part, used_in, heads_in, codes_in, end_flag, end_code, end_codes, bad_code, backward, classless}
use Rattle.static_errors.proofs.Trees.{fine-same, cap-beyond, end_same}
use Rattle.places.specs.Spots.{Part, used, headed, spelt, member, to, other}
use Rattle.places.specs.Place.{used_at, heads_at, members_at, hexes_at}
use Rattle.places.specs.Tokens.{token_parts}
use Rattle.locate.specs.Faults.{spot_count}

pub data Fits : List Part → had.Part → Type 0 where
  fits-none : Fits [] had.other
  fits-other : Fits (other ∷ []) had.other
  fits-prolog : Fits (other ∷ other ∷ other ∷ []) had.other
  fits-used : (n : Text) → Fits (used n ∷ []) (had.used n)
  fits-headed : (n : Text) → Fits (headed n ∷ []) (had.headed n)
  fits-quoted : (cs : Text) → Fits (spelt (string cs) ∷ []) had.other
  fits-coded : (n : ℕ) → Fits (spelt (hex n) ∷ []) (had.code (capped n))
  fits-member : (cs : Text) → Fits (member (chars (string cs)) ∷ []) had.other
  fits-member-coded : (n : ℕ) → Fits (member (chars (hex n)) ∷ []) (had.code (capped n))
  fits-range : (a b : Chars) → Fits (member (range a b) ∷ to b ∷ []) (had.between (end_flag a) (end_code a) (end_flag b) (end_code b))
  fits-class : (k : Text) → Fits (member (class k) ∷ []) (had.classed k)

pub token-fits : (x : Token) → Fits (token_parts x) (part x)
token-fits (name m n) = fits-used n
token-fits (quoted m cs) = fits-quoted cs
token-fits (coded m n) = fits-coded n
token-fits (include m) = fits-other
token-fits (exclude m) = fits-other
token-fits (member-quoted cs) = fits-member cs
token-fits (member-coded n) = fits-member-coded n
token-fits (member-range a b) = fits-range a b
token-fits (member-class k) = fits-class k
token-fits set-end = fits-none
token-fits (insert-quoted cs) = fits-quoted cs
token-fits (insert-coded n) = fits-coded n
token-fits open-group = fits-other
token-fits close-group = fits-none
token-fits next-alternative = fits-none
token-fits to-option = fits-none
token-fits to-repeat0 = fits-none
token-fits to-repeat1 = fits-none
token-fits to-repeat0sep = fits-none
token-fits to-repeat1sep = fits-none
token-fits (rule-head m n) = fits-headed n
token-fits rule_end = fits-none
token-fits (version-is cs) = fits-prolog

-- how many spots a token has
pub counts : (x : Token) → spot_count (first_number x) ≡ length (token_parts x)
unfolding spot_count
counts (name m n) = by-mark (λ k. spot_count k ≡ 1) refl refl refl refl m
counts (quoted m cs) = by-mark (λ k. spot_count (4 + k) ≡ 1) refl refl refl refl m
counts (coded m n) = by-mark (λ k. spot_count (8 + k) ≡ 1) refl refl refl refl m
counts (include m) = by-mark (λ k. spot_count (12 + k) ≡ 1) refl refl refl refl m
counts (exclude m) = by-mark (λ k. spot_count (16 + k) ≡ 1) refl refl refl refl m
counts (member-quoted cs) = refl
counts (member-coded n) = refl
counts (member-range a b) = refl
counts (member-class k) = refl
counts set-end = refl
counts (insert-quoted cs) = refl
counts (insert-coded n) = refl
counts open-group = refl
counts close-group = refl
counts next-alternative = refl
counts to-option = refl
counts to-repeat0 = refl
counts to-repeat1 = refl
counts to-repeat0sep = refl
counts to-repeat1sep = refl
counts (rule-head m n) = by-mark (λ k. spot_count (20 + k) ≡ 1) refl refl refl refl m
counts rule_end = refl
counts (version-is cs) = refl

-- 1. Names, heads and classes.
plain-same : {ps : List Part} {p : had.Part} → Fits ps p
    → (concat_map used_at ps ≡ used_in p) × (concat_map heads_at ps ≡ heads_in p) × (classless p ≡ any no_class (concat_map members_at ps))
unfolding no_class
plain-same fits-none = (refl, refl, refl)
plain-same fits-other = (refl, refl, refl)
plain-same fits-prolog = (refl, refl, refl)
plain-same (fits-used n) = (refl, refl, refl)
plain-same (fits-headed n) = (refl, refl, refl)
plain-same (fits-quoted cs) = (refl, refl, refl)
plain-same (fits-coded n) = (refl, refl, refl)
plain-same (fits-member cs) = (refl, refl, refl)
plain-same (fits-member-coded n) = (refl, refl, refl)
plain-same (fits-range a b) = (refl, refl, refl)
plain-same (fits-class k) = (refl, refl, sym (or-false (not (is_class k))))

pub used-same : {ps : List Part} {p : had.Part} → Fits ps p → concat_map used_at ps ≡ used_in p
used-same f = (plain-same f).0

pub heads-same : {ps : List Part} {p : had.Part} → Fits ps p → concat_map heads_at ps ≡ heads_in p
heads-same f = (plain-same f).1

pub class_same : {ps : List Part} {p : had.Part} → Fits ps p → classless p ≡ any no_class (concat_map members_at ps)
class_same f = (plain-same f).2

-- 2. Hex numbers, which stand capped.
abbrev pub cap : ℕ → List ℕ
cap n = capped n ∷ []

pub end-codes : (a : Chars) → end_codes (end_flag a) (end_code a) ≡ concat_map cap (hex_in a)
end-codes (string cs) = refl
end-codes (hex n) = refl

pub codes_same : {ps : List Part} {p : had.Part} → Fits ps p → codes_in p ≡ concat_map cap (concat_map hexes_at ps)
codes_same fits-none = refl
codes_same fits-other = refl
codes_same fits-prolog = refl
codes_same (fits-used n) = refl
codes_same (fits-headed n) = refl
codes_same (fits-quoted cs) = refl
codes_same (fits-coded n) = refl
codes_same (fits-member cs) = refl
codes_same (fits-member-coded n) = refl
codes_same (fits-range (string cs) (string ds)) = refl
codes_same (fits-range (string cs) (hex n)) = refl
codes_same (fits-range (hex m) (string ds)) = refl
codes_same (fits-range (hex m) (hex n)) = refl
codes_same (fits-class k) = refl

pub any-capped : (t : ℕ → Bool) (ns : List ℕ) → any t (concat_map cap ns) ≡ any (λ n. t (capped n)) ns
any-capped t ns = any-concat t cap ns ∙ any-ext _ _ (λ n. or-false (t (capped n))) ns

pub seven : (ns : List ℕ) → any (bad_code 7) (concat_map cap ns) ≡ any (ltb 0x10ffff) ns
unfolding bad_code
seven ns = any-capped (bad_code 7) ns ∙ any-ext _ _ cap-beyond ns

pub eight : (ns : List ℕ) → any (ltb 0x10ffff) ns ≡ false → any (bad_code 8) (concat_map cap ns) ≡ any unassignable ns
unfolding bad_code
eight ns e = any-capped (bad_code 8) ns ∙ any-agree (ltb 0x10ffff) (λ n. unassignable (capped n)) unassignable (λ n f. ap unassignable (fine-same n f)) ns e

-- 3. Members.
pub or_l : (a b : Bool) → a || b ≡ false → a ≡ false
or_l true b e = e
or_l false b e = refl

pub or_r : (a b : Bool) → a || b ≡ false → b ≡ false
or_r true b e = absurd (clash e refl)
or_r false b e = e

apart : (xs ys : List ℕ) → any (ltb 0x10ffff) (xs ++ ys) ≡ any (ltb 0x10ffff) xs || any (ltb 0x10ffff) ys
apart [] ys = refl
apart (x ∷ xs) ys = ap (◌||◌ (ltb 0x10ffff x)) (apart xs ys) ∙ sym (assoc (ltb 0x10ffff x) (any (ltb 0x10ffff) xs) (any (ltb 0x10ffff) ys))
  where
    assoc : (a b c : Bool) → (a || b) || c ≡ a || (b || c)
    assoc true b c = refl
    assoc false b c = refl

pub back-same : {ps : List Part} {p : had.Part} → Fits ps p → any (ltb 0x10ffff) (concat_map hexes_at ps) ≡ false → backward p ≡ any runs_back (concat_map members_at ps)
unfolding runs_back
back-same fits-none e = refl
back-same fits-other e = refl
back-same fits-prolog e = refl
back-same (fits-used n) e = refl
back-same (fits-headed n) e = refl
back-same (fits-quoted cs) e = refl
back-same (fits-coded n) e = refl
back-same (fits-member cs) e = refl
back-same (fits-member-coded n) e = refl
back-same (fits-range a b) e =
    let f = sym (apart (hex_in a) (hex_in b ++ [])) ∙ e in
    let u = or_l (any (ltb 0x10ffff) (hex_in a)) _ f in
    let v = sym (ap (any (ltb 0x10ffff)) (append-nil (hex_in b))) ∙ or_r (any (ltb 0x10ffff) (hex_in a)) _ f in
    rw (end_same a u, end_same b v) (sym (or-false (ltb (code_of b) (code_of a))))
back-same (fits-class k) e = refl
