-- The scan over the tokens for the first spot at fault.
use native.Mathlib.Omega.{arith}
use mathlib.Core.Bool.{Bool, true, false, ◌||◌}
use mathlib.Core.Path.{◌≡◌, refl, sym, ap, ap₂, subst, ◌∙◌}
use mathlib.Core.List.{List, [], ◌∷◌, ◌++◌}
use Prim.Native.Nat.{ℕ, zero, suc, ◌+◌, ◌*◌, ◌<◌, ◌≤◌, min}
use lib.Dec.{eqb, ltb}
use lib.ListN.{length, get_or, take, drop, length-drop, length-append, length-take}
use lib.Seq.{take-add, drop-drop, drop-append_seam, take-append_seam}
use Rattle.text.specs.Lists.{Text, pick, any, same, concat_map}
use Rattle.text.proofs.Lists.{any_append, concat-append, or-false, or_assoc}
use Rattle.text.proofs.Tests.{clash}
use Rattle.tree.specs.Tokens.{Token}
use Rattle.tokens.specs.Lengths.{length_at}
use Rattle.tokens.specs.Names.{name_at}
use Rattle.tokens.proofs.Walk.{some_number}
use Rattle.static_errors.specs.Parts.{Part, part_at, heads_in}
use Rattle.static_errors.specs.Scan.{Tokens, names_at, heads_of}
use Rattle.static_errors.proofs.Scans.{Reached, Here, here}
use Rattle.static_errors.proofs.Scans as scans
use Rattle.static_errors.proofs.View.{none_left}
use Rattle.places.specs.Spots as spots
use Rattle.places.specs.Place.{heads_at, hexes_at, at_fault}
use Rattle.places.specs.Tokens.{token_parts, index}
use Rattle.places.proofs.Exists.{hits}
use Rattle.locate.specs.Faults.{spot_count, at_token, offset_of, Faulting, Fine, Searching, FaultAt}
use Rattle.locate.proofs.Fits.{token-fits, counts, heads-same, or_l, or_r}
use Rattle.locate.proofs.Rules.{test-is, offset-is}

-- 1. Parts in two stretches.
abbrev onto : List spots.Part → List spots.Part → List spots.Part
onto done [] = done
onto done (x ∷ xs) = onto (x ∷ done) xs

index-hit : (f : List spots.Part → spots.Part → Bool) (done xs ys : List spots.Part) → hits f done xs ≡ true → index f done (xs ++ ys) ≡ index f done xs
index-hit f done [] ys e = absurd (clash refl e)
index-hit f done (x ∷ xs) ys e = go (f done x) refl e (λ h. index-hit f (x ∷ done) xs ys h)
  where
    go : (b : Bool) → f done x ≡ b → b || hits f (x ∷ done) xs ≡ true → (hits f (x ∷ done) xs ≡ true → index f (x ∷ done) (xs ++ ys) ≡ index f (x ∷ done) xs)
        → index f done (x ∷ (xs ++ ys)) ≡ index f done (x ∷ xs)
    go true q e ih = rw (q, index)
    go false q e ih = rw (q, index) (ap suc (ih e))

index-miss : (f : List spots.Part → spots.Part → Bool) (done xs ys : List spots.Part) → hits f done xs ≡ false → index f done (xs ++ ys) ≡ length xs + index f (onto done xs) ys
index-miss f done [] ys e = omega arith
index-miss f done (x ∷ xs) ys e = let h = index-miss f (x ∷ done) xs ys (or_r (f done x) _ e) in rw (or_l (f done x) _ e, index) (omega (arith, h))

any-onto : (g : Text → Bool) (done xs : List spots.Part) → any g (concat_map heads_at (onto done xs)) ≡ any g (concat_map heads_at done) || any g (concat_map heads_at xs)
any-onto g done [] = sym (or-false (any g (concat_map heads_at done)))
any-onto g done (x ∷ xs) =
    any-onto g (x ∷ done) xs
    ∙ ap (λ (b : Bool). b || any g (concat_map heads_at xs)) (any_append g (heads_at x) (concat_map heads_at done) ∙ swap (any g (heads_at x)) (any g (concat_map heads_at done)))
    ∙ or_assoc (any g (concat_map heads_at done)) (any g (heads_at x)) (any g (concat_map heads_at xs))
    ∙ ap (◌||◌ (any g (concat_map heads_at done))) (sym (any_append g (heads_at x) (concat_map heads_at xs)))
  where
    swap : (a b : Bool) → a || b ≡ b || a
    swap true true = refl
    swap true false = refl
    swap false true = refl
    swap false false = refl

-- 2. Names of a list.
names-length : (t l : List ℕ) → length (names_at t l) ≡ length l
names-length t [] = refl
names-length t (x ∷ xs) = ap suc (names-length t xs)

names-take : (t l : List ℕ) (m n : ℕ) → m ≤ n → names_at t (take m l) ≡ take m (names_at t (take n l))
names-take t l zero n h = refl
names-take t [] (suc m) zero h = absurd (omega arith)
names-take t [] (suc m) (suc n) h = refl
names-take t (x ∷ l) (suc m) zero h = absurd (omega arith)
names-take t (x ∷ l) (suc m) (suc n) h = ap (◌∷◌ (name_at t x)) (names-take t l m n (omega arith))

-- 3. The heads and the hex numbers of tokens.
abbrev parts_of : List Token → List spots.Part
parts_of ts = concat_map token_parts ts

heads-tokens : (ts : List Token) → heads_of ts ≡ concat_map heads_at (parts_of ts)
heads-tokens [] = refl
heads-tokens (x ∷ xs) = ap₂ ◌++◌ (sym (heads-same (token-fits x))) (heads-tokens xs) ∙ sym (concat-append heads_at (token_parts x) (parts_of xs))

-- 4. The bounds of one token.
at_most : (a b c d e : Bool) → pick a 3 (pick b 2 (pick c 1 (pick d 0 (pick e 1 0)))) ≤ 3
at_most true b c d e = omega arith
at_most false true c d e = omega arith
at_most false false true d e = omega arith
at_most false false false true e = omega arith
at_most false false false false true = omega arith
at_most false false false false false = omega arith

pub few-spots : (k : ℕ) → spot_count k ≤ 3
unfolding spot_count
few-spots k = at_most (eqb k 40) (eqb k 26) (ltb k 28) (eqb k 28) (ltb k 32)

beyond : List spots.Part → Bool
beyond ps = any (ltb 0x10ffff) (concat_map hexes_at ps)

split-beyond : (ps qs : List spots.Part) → beyond (ps ++ qs) ≡ beyond ps || beyond qs
unfolding beyond
split-beyond ps qs = ap (any (ltb 0x10ffff)) (concat-append hexes_at ps qs) ∙ any_append (ltb 0x10ffff) (concat_map hexes_at ps) (concat_map hexes_at qs)

fine-first : (rule : ℕ) (x : Token) (xs : List Token) → Fine rule (x ∷ xs) → 8 ≤ rule → any (ltb 0x10ffff) (concat_map hexes_at (token_parts x)) ≡ false
unfolding beyond
fine-first rule x xs f l = or_l (beyond (token_parts x)) _ (sym (split-beyond (token_parts x) (parts_of xs)) ∙ f.fine l)

fine-later : (rule : ℕ) (x : Token) (xs : List Token) → Fine rule (x ∷ xs) → Fine rule xs
unfolding beyond
fine-later rule x xs f = record { low = f.low; high = f.high; fine = λ l. or_r (beyond (token_parts x)) _ (sym (split-beyond (token_parts x) (parts_of xs)) ∙ f.fine l) }

-- 5. The scan.
module _ (t : List ℕ) (end : ℕ) (list : List ℕ) (n rule : ℕ) where
  abbrev hs : List Text
  hs = names_at t (take n list)

  abbrev f : List spots.Part → spots.Part → Bool
  f = at_fault rule (names_at t (take n list))

  -- what is known of the tokens left at a place
  pub record Left (spot before : ℕ) (ts us : List Token) : Type 0 where
    pub done : List spots.Part
    pub first : Fine rule ts → index f [] (parts_of ts) ≡ spot + index f done (parts_of us)
    pub later : drop before hs ≡ concat_map heads_at (parts_of us)
    pub looks : (k : Text) → any (same k) (concat_map heads_at done) ≡ any (same k) (take before hs)
    pub fine : Fine rule ts → Fine rule us

  pub record Sought (k spot before : ℕ) : Type 0 where
    pub reached : Reached t end k (Left spot before)
    pub few : before ≤ n
    pub small : spot ≤ 3 * k

  module _ (s : Searching t end list n) where
    pub start : Sought 0 0 0
    start = record {
      reached = record {
        low = omega arith;
        go = λ ts h. (ts, h, record { done = []; first = λ g. omega arith; later = s.indexed.heads ts h ∙ heads-tokens ts; looks = λ k. refl; fine = λ g. g });
      };
      few = omega arith;
      small = omega arith;
    }

    names-count : length hs ≡ n
    names-count = names-length t (take n list) ∙ length-take n list ∙ least n (length list) s.scanning.listing.few
      where
        least : (a b : ℕ) → a ≤ b → min a b ≡ a
        least a b h = omega arith

    module _ (k spot before : ℕ) (w : Sought k spot before) where
      pub none : end ≤ k → (ts : List Token) → Tokens t end 0 ts → FaultAt rule hs ts spot
      none l ts e = record {
        is = λ g.
            (let (us, u, r) = w.reached.go ts e in
            let z = r.first g ∙ ap (λ (vs : List Token). spot + index f r.done (parts_of vs)) (none_left t end k us u l) in
            sym (z ∙ plus spot));
      }
        where
          plus : (a : ℕ) → a + 0 ≡ a
          plus a = omega arith

      module _ (h : k < end) where
        pub fits : k + length_at t k ≤ length t
        fits = scans.fits t end k (Left spot before) w.reached h s.scanning.some

        pub within : k + length_at t k ≤ end
        within = scans.inside t end k (Left spot before) w.reached h s.scanning.some

        pub some : 0 < length_at t k
        some = scans.some t end k (Left spot before) w.reached h s.scanning.some

        pub faulting : Faulting t k list n before
        faulting = record { looking = record { fits = fits; listing = s.scanning.listing }; few = w.few }

        -- the token at k, of any tokens that the table may hold
        abbrev at : (ts : List Token) → Tokens t end 0 ts → Here t end k (Left spot before) w.reached h ts
        at ts u = here t end k (Left spot before) w.reached h ts u

        module _ (r : Bool) (e : r ≡ at_token rule hs (names_at t (take before list)) (part_at t k)) where
          told : (ts : List Token) (u : Tokens t end 0 ts) → Fine rule ts → hits f (at ts u).related.done (token_parts (at ts u).first) ≡ r
          told ts u g =
              let a = at ts u in
              let v = a.related.fine g in
              test-is (token-fits a.first) hs (take before hs) a.related.done a.related.looks rule v.low v.high (fine-first rule a.first a.later v)
              ∙ sym (e ∙ ap₂ (at_token rule hs) (names-take t list before n w.few) a.step.part)

          pub hit : r ≡ true → (o : ℕ) → o ≡ offset_of rule (part_at t k) → (ts : List Token) → Tokens t end 0 ts → FaultAt rule hs ts (spot + o)
          hit q o z ts u = record {
            is = λ g.
                (let a = at ts u in
                let v = a.related.fine g in
                let b = told ts u g ∙ q in
                let d = a.related.done in
                let c = index-hit f d (token_parts a.first) (parts_of a.later) b
                ∙ offset-is hs d rule v.low v.high (token-fits a.first) (fine-first rule a.first a.later v) b in
                sym (a.related.first g ∙ ap (◌+◌ spot) (c ∙ sym (z ∙ ap (offset_of rule) a.step.part))));
          }

          module _ (q : r ≡ false) (c m : ℕ) (ec : c ≡ spot_count (get_or t k 0)) (em : m ≡ length (heads_in (part_at t k))) where
            count-is : (ts : List Token) (u : Tokens t end 0 ts) → c ≡ length (token_parts (at ts u).first)
            count-is ts u =
                let a = at ts u in
                ec ∙ ap spot_count (first-number ∙ a.step.numbers 0 (some_number a.first)) ∙ counts a.first
              where
                first-number : get_or t k 0 ≡ get_or t (k + 0) 0
                first-number = ap (λ (j : ℕ). get_or t j 0) (omega arith)

            heads-is : (ts : List Token) (u : Tokens t end 0 ts) → m ≡ length (concat_map heads_at (token_parts (at ts u).first))
            heads-is ts u = let a = at ts u in em ∙ ap (λ (p : Part). length (heads_in p)) a.step.part ∙ ap length (sym (heads-same (token-fits a.first)))

            rest-is : (ts : List Token) (u : Tokens t end 0 ts)
                → drop before hs ≡ concat_map heads_at (token_parts (at ts u).first) ++ concat_map heads_at (parts_of (at ts u).later)
            rest-is ts u = let a = at ts u in a.related.later ∙ concat-append heads_at (token_parts a.first) (parts_of a.later)

            more : (ts : List Token) (u : Tokens t end 0 ts) → Left (spot + c) (before + m) ts (at ts u).later
            more ts u =
                let a = at ts u in
                let ps = token_parts a.first in
                let ys = concat_map heads_at ps in
                let zs = concat_map heads_at (parts_of a.later) in
                let d = a.related.done in
                record {
                  done = onto d ps;
                  first = λ g.
                      a.related.first g
                      ∙ ap (◌+◌ spot) (index-miss f d ps (parts_of a.later) (told ts u g ∙ q) ∙ ap (λ (j : ℕ). j + index f (onto d ps) (parts_of a.later)) (sym (count-is ts u)))
                      ∙ shift spot c (index f (onto d ps) (parts_of a.later));
                  later = sym (drop-drop m before hs) ∙ ap (drop m) (rest-is ts u) ∙ ap (λ (j : ℕ). drop j (ys ++ zs)) (heads-is ts u) ∙ drop-append_seam ys zs;
                  looks = λ k.
                      any-onto (same k) d ps ∙ ap (λ (b : Bool). b || any (same k) ys) (a.related.looks k) ∙ sym (any_append (same k) (take before hs) ys)
                      ∙ ap (any (same k)) (sym (take-add before m hs
                      ∙ ap (◌++◌ (take before hs)) (ap (take m) (rest-is ts u) ∙ ap (λ (j : ℕ). take j (ys ++ zs)) (heads-is ts u) ∙ take-append_seam ys zs)));
                  fine = λ g. fine-later rule a.first a.later (a.related.fine g);
                }
              where
                shift : (a b c : ℕ) → a + (b + c) ≡ (a + b) + c
                shift a b c = omega arith

            pub few-next : before + m ≤ n
            few-next = few-more s.scanning.some.tokens s.scanning.some.held
              where
                few-more : (ts : List Token) (u : Tokens t end 0 ts) → before + m ≤ n
                few-more ts u =
                    let a = ap length (rest-is ts u) in
                    let ys = concat_map heads_at (token_parts (at ts u).first) in
                    let zs = concat_map heads_at (parts_of (at ts u).later) in
                    let b = length-append ys zs in
                    let d = length-drop before hs in
                    let g = heads-is ts u in
                    let v = names-count in
                    let x = w.few in
                    omega arith

            pub pass : (o : ℕ) → o ≡ k + length_at t k → Sought o (spot + c) (before + m)
            pass o z = subst (λ (j : ℕ). Sought j (spot + c) (before + m)) (sym z) (record {
              reached = record { low = within; go = λ ts u. ((at ts u).later, (at ts u).step.next, more ts u) };
              few = few-next;
              small = (let a = w.small in let b = some in let d = few-spots (get_or t k 0) in omega (arith, ec));
            })
