-- A rule at a token is the rule at its spots, and gives the first of them at fault.
use native.Mathlib.Omega.{arith}
use mathlib.Core.Bool.{Bool, true, false, not, ◌||◌}
use mathlib.Core.Path.{◌≡◌, refl, sym, ap, ap₂, ◌∙◌}
use mathlib.Core.List.{List, [], ◌∷◌, ◌++◌}
use Prim.Native.Nat.{ℕ, ◌≤◌}
use lib.Dec.{ltb}
use Rattle.text.specs.Lists.{Text, pick, any, same, concat_map}
use Rattle.text.proofs.Lists.{or-false}
use Rattle.text.proofs.Tests.{clash}
use Rattle.tree.specs.Tree.{Chars, range}
use Rattle.plain.specs.Written.{hex_in}
use Rattle.plain.specs.Static.{unassignable, runs_back, no_class}
use Rattle.static_errors.specs.Parts as had
use Rattle.static_errors.specs.Parts.{used_in, end_flag, end_code, end_codes, bad_code, failing}
use Rattle.places.specs.Spots.{Part, used, headed, member, to, other}
use Rattle.places.specs.Place.{used_at, heads_at, members_at, hexes_at, at_fault}
use Rattle.places.specs.Tokens.{index}
use Rattle.places.proofs.Exists.{by-rule, hits, by_parts}
use Rattle.locate.specs.Faults.{again, at_token, offset_of}
use Rattle.locate.proofs.Fits.{Fits, fits-none, fits-other, fits-prolog, fits-used, fits-headed, fits-quoted, fits-coded, fits-member, fits-member-coded, fits-range, fits-class}
use Rattle.locate.proofs.Fits.{used-same, codes_same, seven, eight, end-codes, back-same, class_same, or_l, or_r}

-- 6, of one token
repeated : {ps : List Part} {p : had.Part} → Fits ps p → (hs before : List Text) (done : List Part)
    → ((k : Text) → any (same k) (concat_map heads_at done) ≡ any (same k) before) → hits (at_fault 6 hs) done ps ≡ again before p
unfolding at_fault
repeated fits-none hs before done h = refl
repeated fits-other hs before done h = refl
repeated fits-prolog hs before done h = refl
repeated (fits-used n) hs before done h = refl
repeated (fits-headed n) hs before done h = or-false (any (same n) (concat_map heads_at done) || false) ∙ ap (λ (b : Bool). b || false) (h n)
repeated (fits-quoted cs) hs before done h = refl
repeated (fits-coded n) hs before done h = refl
repeated (fits-member cs) hs before done h = refl
repeated (fits-member-coded n) hs before done h = refl
repeated (fits-range a b) hs before done h = refl
repeated (fits-class k) hs before done h = refl

module _ {ps : List Part} {p : had.Part} (x : Fits ps p) (hs before : List Text) (done : List Part)
    (looks : (k : Text) → any (same k) (concat_map heads_at done) ≡ any (same k) before) where
  abbrev Beyond : Bool
  Beyond = any (ltb 0x10ffff) (concat_map hexes_at ps)

  test-5 : hits (at_fault 5 hs) done ps ≡ at_token 5 hs before p
  unfolding at_fault at_token failing
  test-5 = by_parts (at_fault 5 hs) (λ k. not (any (same k) hs)) used_at done ps (used_in p) (λ b y. refl) (used-same x)

  test-6 : hits (at_fault 6 hs) done ps ≡ at_token 6 hs before p
  unfolding at_token
  test-6 = repeated x hs before done looks

  test-7 : hits (at_fault 7 hs) done ps ≡ at_token 7 hs before p
  unfolding at_fault at_token failing
  test-7 = by_parts (at_fault 7 hs) (ltb 0x10ffff) hexes_at done ps (concat_map hexes_at ps) (λ b y. refl) refl ∙ sym (seven (concat_map hexes_at ps)) ∙ ap (any (bad_code 7)) (sym (codes_same x))

  test-8 : Beyond ≡ false → hits (at_fault 8 hs) done ps ≡ at_token 8 hs before p
  unfolding at_fault at_token failing
  test-8 e = by_parts (at_fault 8 hs) unassignable hexes_at done ps (concat_map hexes_at ps) (λ b y. refl) refl ∙ sym (eight (concat_map hexes_at ps) e) ∙ ap (any (bad_code 8)) (sym (codes_same x))

  test-9 : Beyond ≡ false → hits (at_fault 9 hs) done ps ≡ at_token 9 hs before p
  unfolding at_fault at_token failing
  test-9 e = by_parts (at_fault 9 hs) runs_back members_at done ps (concat_map members_at ps) (λ b y. refl) refl ∙ sym (back-same x e)

  test-10 : hits (at_fault 10 hs) done ps ≡ at_token 10 hs before p
  unfolding at_fault at_token failing
  test-10 = by_parts (at_fault 10 hs) no_class members_at done ps (concat_map members_at ps) (λ b y. refl) refl ∙ sym (class_same x)

  pub test-is : (rule : ℕ) → 5 ≤ rule → rule ≤ 10 → (8 ≤ rule → Beyond ≡ false) → hits (at_fault rule hs) done ps ≡ at_token rule hs before p
  test-is rule l h fine =
      by-rule (λ n. (8 ≤ n → Beyond ≡ false) → hits (at_fault n hs) done ps ≡ at_token n hs before p) (λ f. test-5) (λ f. test-6) (λ f. test-7)
      (λ f. test-8 (f (omega arith))) (λ f. test-9 (f (omega arith))) (λ f. test-10) rule l h fine

-- The first spot of a token at fault. One spot is the first.
lone : (f : List Part → Part → Bool) (done : List Part) (x : Part) → hits f done (x ∷ []) ≡ true → index f done (x ∷ []) ≡ 0
lone f done x e = rw (sym (or-false (f done x)) ∙ e, index)

none : (n : ℕ) → ◌≡◌ {A = ℕ} (pick (ltb 8 n) 0 0) 0
none n = go (ltb 8 n)
  where
    go : (b : Bool) → ◌≡◌ {A = ℕ} (pick b 0 0) 0
    go true = refl
    go false = refl

first_of : (f : List Part → Part → Bool) (done : List Part) (x y : Part) → f done x ≡ true → index f done (x ∷ y ∷ []) ≡ 0
first_of f done x y e = rw (e, index)

second-of : (f : List Part → Part → Bool) (done : List Part) (x y : Part) → f done x ≡ false → hits f done (x ∷ y ∷ []) ≡ true → index f done (x ∷ y ∷ []) ≡ 1
second-of f done x y e h = go (f (x ∷ done) y) refl
  where
    k : f (x ∷ done) y ≡ true
    k = sym (or-false (f (x ∷ done) y)) ∙ sym (ap (λ (b : Bool). b || (f (x ∷ done) y || false)) e) ∙ h

    go : (b : Bool) → f (x ∷ done) y ≡ b → index f done (x ∷ y ∷ []) ≡ 1
    go true q = rw (e, index) (rw (q, index))
    go false q = absurd (clash q k)

-- of a range that 7 or 8 refuses, the first end, if it is at fault
module _ (f : List Part → Part → Bool) (done : List Part) (a b : Chars) (h : hits f done (member (range a b) ∷ to b ∷ []) ≡ true) where
  which : (r : Bool) → f done (member (range a b)) ≡ r → index f done (member (range a b) ∷ to b ∷ []) ≡ pick r 0 1
  which true e = first_of f done (member (range a b)) (to b) e
  which false e = second-of f done (member (range a b)) (to b) e h

module _ (hs : List Text) (done : List Part) (a b : Chars) where
  range-7 : hits (at_fault 7 hs) done (member (range a b) ∷ to b ∷ []) ≡ true
      → index (at_fault 7 hs) done (member (range a b) ∷ to b ∷ []) ≡ pick (any (bad_code 7) (end_codes (end_flag a) (end_code a))) 0 1
  unfolding at_fault
  range-7 h = which (at_fault 7 hs) done a b h (any (bad_code 7) (end_codes (end_flag a) (end_code a))) (sym (ap (any (bad_code 7)) (end-codes a) ∙ seven (hex_in a)))

  range-8 : any (ltb 0x10ffff) (hex_in a) ≡ false → hits (at_fault 8 hs) done (member (range a b) ∷ to b ∷ []) ≡ true
      → index (at_fault 8 hs) done (member (range a b) ∷ to b ∷ []) ≡ pick (any (bad_code 8) (end_codes (end_flag a) (end_code a))) 0 1
  unfolding at_fault
  range-8 e h = which (at_fault 8 hs) done a b h (any (bad_code 8) (end_codes (end_flag a) (end_code a))) (sym (ap (any (bad_code 8)) (end-codes a) ∙ eight (hex_in a) e))

  range-9 : hits (at_fault 9 hs) done (member (range a b) ∷ to b ∷ []) ≡ true → index (at_fault 9 hs) done (member (range a b) ∷ to b ∷ []) ≡ 0
  unfolding at_fault
  range-9 h = first_of (at_fault 9 hs) done (member (range a b)) (to b) (sym (or-false (any runs_back (range a b ∷ []))) ∙ h)

  range-is : (rule : ℕ) → 5 ≤ rule → rule ≤ 10 → (8 ≤ rule → any (ltb 0x10ffff) (hex_in a) ≡ false) → hits (at_fault rule hs) done (member (range a b) ∷ to b ∷ []) ≡ true
      → index (at_fault rule hs) done (member (range a b) ∷ to b ∷ []) ≡ offset_of rule (had.between (end_flag a) (end_code a) (end_flag b) (end_code b))
  unfolding offset_of at_fault no_class
  range-is rule l h fine =
      by-rule (λ n. (8 ≤ n → any (ltb 0x10ffff) (hex_in a) ≡ false) → hits (at_fault n hs) done (member (range a b) ∷ to b ∷ []) ≡ true
      → index (at_fault n hs) done (member (range a b) ∷ to b ∷ []) ≡ offset_of n (had.between (end_flag a) (end_code a) (end_flag b) (end_code b)))
      (λ f q. absurd (clash refl q)) (λ f q. absurd (clash refl q)) (λ f q. range-7 q) (λ f q. range-8 (f (omega arith)) q) (λ f q. range-9 q) (λ f q. absurd (clash refl q)) rule l h fine

other-fine : (hs : List Text) (done : List Part) (rule : ℕ) → 5 ≤ rule → rule ≤ 10 → at_fault rule hs done other ≡ false
unfolding at_fault
other-fine hs done rule l h = by-rule (λ n. at_fault n hs done other ≡ false) refl refl refl refl refl refl rule l h

module _ (hs : List Text) (done : List Part) (rule : ℕ) (l : 5 ≤ rule) (h : rule ≤ 10) where
  pub offset-is : {ps : List Part} {p : had.Part} → Fits ps p → (8 ≤ rule → any (ltb 0x10ffff) (concat_map hexes_at ps) ≡ false)
      → hits (at_fault rule hs) done ps ≡ true → index (at_fault rule hs) done ps ≡ offset_of rule p
  unfolding offset_of
  offset-is fits-none fine e = absurd (clash refl e)
  offset-is fits-other fine e = lone (at_fault rule hs) done other e ∙ sym (none rule)
  offset-is fits-prolog fine e =
      let a = other-fine hs done rule l h in
      let b = other-fine hs (other ∷ done) rule l h in
      let c = other-fine hs (other ∷ other ∷ done) rule l h in
      absurd (clash (rw (a, b, c)) e)
  offset-is (fits-used n) fine e = lone (at_fault rule hs) done (used n) e ∙ sym (none rule)
  offset-is (fits-headed n) fine e = lone (at_fault rule hs) done (headed n) e ∙ sym (none rule)
  offset-is (fits-quoted cs) fine e = lone (at_fault rule hs) done _ e ∙ sym (none rule)
  offset-is (fits-coded n) fine e = lone (at_fault rule hs) done _ e ∙ sym (none rule)
  offset-is (fits-member cs) fine e = lone (at_fault rule hs) done _ e ∙ sym (none rule)
  offset-is (fits-member-coded n) fine e = lone (at_fault rule hs) done _ e ∙ sym (none rule)
  offset-is (fits-range a b) fine e = range-is hs done a b rule l h (λ g. first_fine (hex_in a) (hex_in b ++ []) (fine g)) e
    where
      first_fine : (xs ys : List ℕ) → any (ltb 0x10ffff) (xs ++ ys) ≡ false → any (ltb 0x10ffff) xs ≡ false
      first_fine [] ys e = refl
      first_fine (x ∷ xs) ys e = ap₂ ◌||◌ (or_l (ltb 0x10ffff x) _ e) (first_fine xs ys (or_r (ltb 0x10ffff x) _ e))
  offset-is (fits-class k) fine e = lone (at_fault rule hs) done _ e ∙ sym (none rule)
