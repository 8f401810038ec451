-- The members of a set: what the loop keeps, and the set from its members.
use mathlib.Core.Bool.{true, false}
use mathlib.Core.Path.{◌≡◌, refl, sym, ap, ◌∙◌}
use mathlib.Core.List.{List, [], ◌∷◌, ◌++◌, append_assoc, append-nil}
use Prim.Native.Nat.{ℕ, zero, suc, ◌+◌, ◌*◌, ◌-◌, ◌<◌, ◌≤◌}
use native.Mathlib.Omega.{arith}
use lib.ListN.{length, drop, take}
use Rattle.text.specs.Lists.{Text}
use Rattle.tree.specs.Tree.{Member}
use Rattle.tree.specs.Tokens.{member_tokens, encode}
use Rattle.syntax.specs.Syntax.{ch, bar}
use Rattle.syntax.specs.Result.{Result, ok, fail, hd, tl, map, when, then, guard, expect}
use Rattle.syntax.specs.Spacing.{skip, spaced}
use Rattle.syntax.specs.Lexical.{read-member, separated, members, read_set}
use Rattle.syntax.proofs.Classes.{bar-end}
use Rattle.spacing.specs.Answers.{Step, Onward, Skipped, Room, Read, After-token}
use Rattle.sets.specs.Answers.{filled, After-filled, member_code, members_code, Members=, After-set}
use Rattle.spacing.proofs.Places.{tl-at, in-text, shorter}
use Rattle.spacing.proofs.Parts.{tail}

map_same : {A : Type 0} (x : Result A) → map (λ v. v) x ≡ x
unfolding map
map_same (ok v u) = refl
map_same fail = refl

map_more : (ms : List Member) (v : Member) (x : Result (List Member)) → map (λ l. ms ++ l) (map (◌∷◌ v) x) ≡ map (λ l. (ms ++ v ∷ []) ++ l) x
unfolding map
map_more ms v (ok l u) = ap (λ (k : List Member). ok k u) (sym (append_assoc ms (v ∷ []) l))
map_more ms v fail = refl

members-end : (ms : List Member) (v : Member) → members_code (ms ++ v ∷ []) ≡ members_code ms ++ member_code v
members-end [] v = append-nil (member_code v)
members-end (m ∷ ms) v = ap (λ (l : List ℕ). member_code m ++ l) (members-end ms v) ∙ sym (append_assoc (member_code m) (members_code ms) (member_code v))

set_code : (ms : List Member) → encode (member_tokens ms) ≡ members_code ms ++ 28 ∷ []
set_code [] = refl
set_code (m ∷ ms) = ap (λ (l : List ℕ). member_code m ++ l) (set_code ms) ∙ sym (append_assoc (member_code m) (members_code ms) (28 ∷ []))

-- the steps at any sufficient bound
module _ (t : Text) where
  members-none : read-member t ≡ fail → Members= t fail
  unfolding members then
  members-none e zero h = absurd (omega arith)
  members-none e (suc n) h = rw e

  module _ (v : Member) (u : Text) (e : read-member t ≡ ok v u) where
    members-last : bar (hd u) ≡ false → Members= t (ok (v ∷ []) u)
    unfolding members then separated when
    members-last f zero h = absurd (omega arith)
    members-last f (suc n) h = rw (e, f)

    members-bad : bar (hd u) ≡ true → skip (tl u) ≡ fail → Members= t fail
    unfolding members then separated when
    members-bad f g zero h = absurd (omega arith)
    members-bad f g (suc n) h = rw (e, f, g)

    members-on : bar (hd u) ≡ true → (w : Text) → skip (tl u) ≡ ok tt w → length w < length t → (x : Result (List Member)) → Members= w x → Members= t (map (◌∷◌ v) x)
    unfolding members then separated when
    members-on f w g l x k zero h = absurd (omega arith)
    members-on f w g l x k (suc n) h = let z : members n w ≡ x = k n (omega arith) in rw (e, f, g) (ap (map (◌∷◌ v)) z)

-- members from p to i are read, and their numbers written from at to j
pub record Listing (s : Text) (p : ℕ) (o : List ℕ) (at : ℕ) (m : List ℕ) (i j : ℕ) : Type 0 where
  pub before : List Member
  pub same : (x : Result (List Member)) → Members= (drop i s) x → Members= (drop p s) (map (λ l. before ++ l) x)
  pub onward : Onward s p i
  pub wrote : take j m ≡ take at o ++ members_code before
  pub cells : j + 3 * p ≤ at + 3 * i
  pub len : length m ≡ length o

pub listing_start : (s : Text) (p : ℕ) (o : List ℕ) (at : ℕ) → p ≤ length s → Listing s p o at o p at
listing_start s p o at h = record {
  before = [];
  same = λ x e n l. e n l ∙ sym (map_same x);
  onward = record { on = omega arith; within = h };
  wrote = sym (append-nil (take at o));
  cells = omega arith;
  len = refl;
}

module _ (s : Text) (p : ℕ) (o : List ℕ) (at : ℕ) (m : List ℕ) (i j : ℕ) (v : Listing s p o at m i j) where
  pub listing-room : Room s p o at → Room s i m j
  listing-room r = let c = r.cells in let d = v.cells in let n = v.onward in let l = v.len in let f = r.few in record { place = n.within; cells = omega arith; few = omega arith }

  pub listing_none : read-member (drop i s) ≡ fail → Members= (drop p s) fail
  unfolding map
  listing_none e = v.same fail (members-none (drop i s) e)

  module _ (m' : List ℕ) (q b : ℕ) (a : Read (λ x. read-member (drop i s) ≡ x) member_code s i (i + 1) m j m' q b) where
    wrote_on : take b m' ≡ take at o ++ members_code (v.before ++ a.value ∷ [])
    wrote_on = a.wrote ∙ rw (v.wrote, members-end v.before a.value) (append_assoc (take at o) (members_code v.before) (member_code a.value))

    pub listing-last : bar (hd (drop q s)) ≡ false → Read (λ x. Members= (drop p s) x) members_code s p (p + 1) o at m' q b
    unfolding map
    listing-last e = let n = v.onward in let k = a.onward in let c = v.cells in let d = a.cells in record {
      value = v.before ++ a.value ∷ [];
      same = v.same (ok (a.value ∷ []) (drop q s)) (members-last (drop i s) a.value (drop q s) a.same e);
      onward = record { on = omega arith; within = k.within };
      wrote = wrote_on;
      cells = omega arith;
    }

    module _ (e : bar (hd (drop q s)) ≡ true) where
      pub bar-in : q < length s
      bar-in = in-text s q bar bar-end e

      pub listing-bad : skip (drop (q + 1) s) ≡ fail → Members= (drop p s) fail
      unfolding map
      listing-bad f = v.same fail (members-bad (drop i s) a.value (drop q s) a.same e (rw (tl-at s q) f))

      module _ (w : ℕ) (y : Skipped s (q + 1) w) where
        listing-more : i < w
        listing-more = let k = a.onward in let n = y.onward in omega arith

        pub listing-less : length s - w < length s - i
        listing-less = let k = listing-more in let n = y.onward in omega arith

        next : (x : Result (List Member)) → Members= (drop w s) x → Members= (drop i s) (map (◌∷◌ a.value) x)
        next = members-on (drop i s) a.value (drop q s) a.same e (drop w s) (rw (tl-at s q) y.past) (shorter s i w listing-more y.onward.within)

        pub listing-on : length m' ≡ length m → Listing s p o at m' w b
        listing-on l = let n = v.onward in let k = listing-more in let z = y.onward in let g = a.onward in let c = v.cells in let d = a.cells in let f = v.len in record {
          before = v.before ++ a.value ∷ [];
          same = λ x f n h. v.same (map (◌∷◌ a.value) x) (next x f) n h ∙ map_more v.before a.value x;
          onward = record { on = omega arith; within = z.within };
          wrote = wrote_on;
          cells = omega arith;
          len = l ∙ v.len;
        }

-- members and the bracket after them
pub filled_none : (s : Text) (p : ℕ) → Members= (drop p s) fail → filled (drop p s) ≡ fail
unfolding filled then
filled_none s p e = rw (e (suc (length (drop p s))) (omega arith))

module _ (s : Text) (p : ℕ) (o : List ℕ) (at : ℕ) (m : List ℕ) (w b : ℕ) (a : Read (λ x. Members= (drop p s) x) members_code s p (p + 1) o at m w b) where
  filled_of : filled (drop p s) ≡ expect (ch 0x5d) (drop w s) (λ u. spaced a.value u)
  unfolding filled then
  filled_of = rw (a.same (suc (length (drop p s))) (omega arith))

  pub filled-open : ch 0x5d (hd (drop w s)) ≡ false → filled (drop p s) ≡ fail
  unfolding expect guard
  filled-open e = filled_of ∙ rw e

  pub filled-cell : Room s p o at → length m ≡ length o → w < length s → b < length m
  filled-cell r l h = let c = r.cells in let d = a.cells in omega arith

  module _ (h : ch 0x5d (hd (drop w s)) ≡ true) where
    shut : (x : Result (Unit {0})) → skip (drop (w + 1) s) ≡ x → filled (drop p s) ≡ map (λ _. a.value) x
    unfolding expect guard spaced
    shut x e = filled_of ∙ rw (h, tl-at s w, e)

    pub filled-shut : (t : Step) (o' : List ℕ) → After-token s w 28 m b t o' → After-filled s p o at t o'
    filled-shut = let k = a.onward in let c = a.cells in
        tail (λ x. skip (drop (w + 1) s) ≡ x) (λ x. filled (drop p s) ≡ x) (λ _. 28 ∷ []) (λ ms. encode (member_tokens ms)) (λ _. a.value)
        (members_code a.value) s p (p + 1) w (w + 1) o at m b
        a.wrote (omega arith) (omega arith) (λ _. set_code a.value) shut

-- a set
module _ (s : Text) (p : ℕ) where
  pub no-set : ch 0x5b (hd (drop p s)) ≡ false → read_set (drop p s) ≡ fail
  unfolding read_set expect guard
  no-set e = rw e

  module _ (h : ch 0x5b (hd (drop p s)) ≡ true) where
    pub set-bad : skip (drop (p + 1) s) ≡ fail → read_set (drop p s) ≡ fail
    unfolding read_set expect guard then
    set-bad f = rw (h, tl-at s p, f)

    module _ (k : ℕ) (o : List ℕ) (at : ℕ) (m : List ℕ) (v b : ℕ) (y : Read (λ x. skip (drop (p + 1) s) ≡ x) (λ _. k ∷ []) s p (p + 1) o at m v b) where
      pub set_room : Room s p o at → length m ≡ length o → Room s v m b
      set_room r l = let c = r.cells in let d = y.cells in let n = y.onward in let f = r.few in record { place = n.within; cells = omega arith; few = omega arith }

      pub set-cell : Room s p o at → length m ≡ length o → v < length s → b < length m
      set-cell r l i = let c = r.cells in let d = y.cells in omega arith

      set-empty : ch 0x5d (hd (drop v s)) ≡ true → (x : Result (Unit {0})) → skip (drop (v + 1) s) ≡ x → read_set (drop p s) ≡ map (λ _. []) x
      unfolding read_set expect guard then when spaced
      set-empty e x f = rw (h, tl-at s p, y.same, e, tl-at s v, f)

      set-filled : ch 0x5d (hd (drop v s)) ≡ false → (x : Result (List Member)) → filled (drop v s) ≡ x → read_set (drop p s) ≡ x
      unfolding read_set expect guard then when filled
      set-filled e x f = rw (h, tl-at s p, y.same, e) f

      pub set-none : ch 0x5d (hd (drop v s)) ≡ true → (t : Step) (o' : List ℕ) → After-token s v 28 m b t o' → After-set k s p o at t o'
      set-none e = let n = y.onward in
          tail (λ x. skip (drop (v + 1) s) ≡ x) (λ x. read_set (drop p s) ≡ x) (λ _. 28 ∷ []) (λ ms. k ∷ encode (member_tokens ms)) (λ _. []) (k ∷ []) s p (p + 1) v (v + 1) o at m b
          y.wrote y.cells (omega arith) (λ _. refl) (set-empty e)

      pub set-some : ch 0x5d (hd (drop v s)) ≡ false → (t : Step) (o' : List ℕ) → After-filled s v m b t o' → After-set k s p o at t o'
      set-some e = let n = y.onward in
          tail (λ x. filled (drop v s) ≡ x) (λ x. read_set (drop p s) ≡ x) (λ ms. encode (member_tokens ms))
          (λ ms. k ∷ encode (member_tokens ms)) (λ ms. ms) (k ∷ []) s p (p + 1) v (v + 1) o at m b
          y.wrote y.cells (omega arith) (λ _. refl) (λ x f. set-filled e x f ∙ sym (map_same x))
