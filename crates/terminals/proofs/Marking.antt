-- Laws of marks: spans of numbers, code points by place, members, and what is left unmarked.
use mathlib.Core.Bool.{Bool, true, false, not, ◌&&◌, ◌||◌, and-false}
use mathlib.Core.List.{List, [], ◌∷◌}
use mathlib.Core.Logic.{⊎_elim}
use mathlib.Core.Path.{◌≡◌, refl, sym, ap, ◌∙◌, subst}
use Prim.Native.Nat.{ℕ, ◌+◌, ◌<◌, ◌≤◌, min}
use native.Mathlib.Decide.{ℕ_discrete}
use native.Mathlib.Numerals.{add-one}
use native.Mathlib.Omega.{arith}
use lib.Dec.{T, leb, ltb, eqb}
use lib.ListN.{length, get_or, set, take, drop, length-set, length-drop, replicate, get_or-replicate}
use lib.Seq.{get_or-set_same, get_or-set_other, get_or-drop, take-suc}
use borrow.Author.Tests.{lt-ltb, le-ltb, le-leb, lt-leb, eq-eqb, ne_eqb}
use Rattle.text.specs.Lists.{Text, any, among}
use Rattle.text.specs.Utf8.{alphabet}
use Rattle.text.specs.Ranks.{code_at, rank_in, some_from, some_known}
use Rattle.text.proofs.Tests.{split}
use Rattle.text.proofs.Lists.{or-false, or_assoc, any_append}
use Rattle.text.proofs.Known.{range-places, known-by-place}
use Rattle.category.specs.Category.{in_class, category_number, SpanOf}
use Rattle.category.proofs.Known.{number_at}
use Rattle.tree.specs.Tree.{Member}
use Rattle.plain.specs.Plain.{is_member}
use Rattle.tokens.specs.Lengths.{length_at}
use Rattle.terminals.specs.Places.{match_of, MembersAt, MembersHere, Stretch}
use Rattle.category.specs.Marks.{marked, Marks}
use Rattle.terminals.specs.Marks.{Spanned, Placed, Adds}
use Rattle.terminals.proofs.MemberPlaces.{Head, member-head, member-none, head-match}

or-true : (a : Bool) → a || true ≡ true
or-true true = refl
or-true false = refl

or_swap : (a b c : Bool) → (a || b) || c ≡ (a || c) || b
or_swap true b c = refl
or_swap false true c = sym (or-true c)
or_swap false false c = sym (or-false c)

-- a number in a span, below it and past it
inside-span : (a k b : ℕ) → a ≤ k → k < b → (leb a k && ltb k b) ≡ true
inside-span a k b h l = rw (le-leb a k h) (lt-ltb k b l)

below_span : (a k b : ℕ) → k < a → (leb a k && ltb k b) ≡ false
below_span a k b h = rw (lt-leb a k h)

past-span : (a k b : ℕ) → b ≤ k → (leb a k && ltb k b) ≡ false
past-span a k b h = rw (le-ltb k b h) (and-false (leb a k))

-- marking a span, number by number
pub record Stepping (M₀ M : List Bool) (from past k : ℕ) : Type 0 where
  pub low : from ≤ k
  pub spanned : Spanned M₀ M from (min k past)

pub step_start : (M : List Bool) (from past : ℕ) → Stepping M M from past from
step_start M from past = record {
  low = omega arith;
  spanned = record { long = refl; at = λ j. sym (ap (◌||◌ (get_or M j false)) (none j) ∙ or-false (get_or M j false)) };
}
  where
    none : (j : ℕ) → (leb from j && ltb j (min from past)) ≡ false
    none j = ⊎_elim (λ (h : j < from). below_span from j (min from past) h) (λ (h : from ≤ j). past-span from j (min from past) (omega arith)) (split j from)

module _ {M₀ M : List Bool} {from past k : ℕ} (w : Stepping M₀ M from past k) where
  pub step-next : k < past → past ≤ length M₀ → Stepping M₀ (set M k true) from past (k + 1)
  step-next h b = record {
    low = omega (arith, w.low);
    spanned = record { long = length-set M k true ∙ w.spanned.long; at = λ j. go j (ℕ_discrete j k) };
  }
    where
      inner : k < length M
      inner = omega (arith, w.spanned.long)

      kept : (j : ℕ) → (j ≡ k → ⊥) → (leb from j && ltb j (min k past)) ≡ (leb from j && ltb j (min (k + 1) past))
      kept j d = ⊎_elim
          (λ (l : j < from). below_span from j (min k past) l ∙ sym (below_span from j (min (k + 1) past) l))
          (λ (l : from ≤ j). ⊎_elim
          (λ (g : j < k). inside-span from j (min k past) l (omega arith) ∙ sym (inside-span from j (min (k + 1) past) l (omega arith)))
          (λ (g : k ≤ j). past-span from j (min k past) (omega arith) ∙ sym (past-span from j (min (k + 1) past) (omega arith)))
          (split j k))
          (split j from)

      go : (j : ℕ) → Dec (j ≡ k) → get_or (set M k true) j false ≡ (get_or M₀ j false || (leb from j && ltb j (min (k + 1) past)))
      go j (yes e) =
          let v = inside-span from j (min (k + 1) past) (omega (arith, w.low)) (omega arith) in
          ap (λ (i : ℕ). get_or (set M k true) i false) e ∙ get_or-set_same M k true false inner ∙ sym (rw v (or-true (get_or M₀ j false)))
      go j (no d) = get_or-set_other M k j true false d ∙ w.spanned.at j ∙ ap (◌||◌ (get_or M₀ j false)) (kept j d)

  pub step_end : past ≤ k → Spanned M₀ M from past
  step_end h = subst (λ (n : ℕ). Spanned M₀ M from n) (let e : min k past ≡ past = omega arith in e) w.spanned

-- a range of code points is a span of places
pub range-placed : {P P' : List Bool} (a b : ℕ) → Spanned P P' (rank_in alphabet a) (rank_in alphabet (b + 1)) → Placed (λ c. leb a c && leb c b) P P'
range-placed {P} a b s = record { long = s.long; at = λ k h. s.at k ∙ ap (◌||◌ (get_or P k false)) (range-places a b k h) }

only : (x c : ℕ) → (leb x c && leb c x) ≡ eqb c x
only x c = elim (ℕ_discrete c x) as (λ _. (leb x c && leb c x) ≡ eqb c x) [
  | yes e ↦ rw (eq-eqb c x e, le-leb x c (omega arith), le-leb c x (omega arith))
  | no d ↦ ⊎_elim
      (λ (h : c < x). rw (ne_eqb c x d, lt-leb x c h))
      (λ (h : x ≤ c). rw (ne_eqb c x d, lt-leb c x (omega arith)) (and-false (leb x c)))
      (split c x)
]

pub placed-ext : {f g : ℕ → Bool} {P P' : List Bool} → ((c : ℕ) → f c ≡ g c) → Placed f P P' → Placed g P P'
placed-ext {P = P} h w = record { long = w.long; at = λ k l. w.at k l ∙ ap (◌||◌ (get_or P k false)) (h (code_at alphabet k)) }

pub code-placed : {P P' : List Bool} (x : ℕ) → Placed (λ c. leb x c && leb c x) P P' → Placed (λ c. eqb c x) P P'
code-placed x w = placed-ext (only x) w

-- marking characters, one by one
pub record Quoting (T : List ℕ) (at n : ℕ) (P₀ P : List Bool) (k : ℕ) : Type 0 where
  pub low : k ≤ n
  pub placed : Placed (λ c. among c (take k (drop at T))) P₀ P

take_none : (xs : Text) → take 0 xs ≡ []
take_none [] = refl
take_none (x ∷ xs) = refl

pub quote-start : (T : List ℕ) (at n : ℕ) (P : List Bool) → Quoting T at n P P 0
quote-start T at n P = record {
  low = omega arith;
  placed = record { long = refl; at = λ k h. sym (ap (λ (xs : Text). get_or P k false || among (code_at alphabet k) xs) (take_none (drop at T)) ∙ or-false (get_or P k false)) };
}

module _ {T : List ℕ} {at n : ℕ} {P₀ P : List Bool} {k : ℕ} (w : Quoting T at n P₀ P k) where
  pub quote-next : {P' : List Bool} → Stretch T at n → k < n → Placed (λ c. leb (get_or T (at + k) 0) c && leb c (get_or T (at + k) 0)) P P' → Quoting T at n P₀ P' (k + 1)
  quote-next {P'} b h p = record {
    low = omega arith;
    placed = record { long = p.long ∙ w.placed.long; at = λ j l. (code-placed (get_or T (at + k) 0) p).at j l ∙ step j l };
  }
    where
      x : ℕ
      x = get_or T (at + k) 0

      more : (c : ℕ) → among c (take (k + 1) (drop at T)) ≡ (among c (take k (drop at T)) || eqb c (get_or T (at + k) 0))
      more c =
          rw (add-one k, take-suc (drop at T) k 0 (omega (arith, length-drop at T, b.inside)), get_or-drop at T k 0)
          (any_append (eqb c) (take k (drop at T)) (get_or T (at + k) 0 ∷ []) ∙ ap (◌||◌ (among c (take k (drop at T)))) (or-false (eqb c (get_or T (at + k) 0))))

      step : (j : ℕ) → j < 498 → (get_or P j false || eqb (code_at alphabet j) (get_or T (at + k) 0)) ≡ (get_or P₀ j false || among (code_at alphabet j) (take (k + 1) (drop at T)))
      step j l =
          rw (w.placed.at j l, more (code_at alphabet j))
          (or_assoc (get_or P₀ j false) (among (code_at alphabet j) (take k (drop at T))) (eqb (code_at alphabet j) (get_or T (at + k) 0)))

  pub quote-end : n ≤ k → Placed (λ c. among c (take n (drop at T))) P₀ P
  quote-end h = subst (λ (m : ℕ). Placed (λ c. among c (take m (drop at T))) P₀ P) (let g = w.low in let e : k ≡ n = omega arith in e) w.placed

-- what a member matches, by place or by category
pub adds-places : {f : ℕ → Bool} {P P' K : List Bool} (g : ℕ → Bool) → Marks P K → ((c : ℕ) → f c ≡ g c) → Placed f P P' → Adds g P K P' K
adds-places {f} {P} {P'} {K} g m e p = record {
  marks = record { places = p.long ∙ m.places; categories = m.categories };
  at =
      λ k h.
      ap (λ (b : Bool). b || kind k) (p.at k h ∙ ap (◌||◌ (get_or P k false)) (e (code_at alphabet k)))
      ∙ or_swap (get_or P k false) (g (code_at alphabet k)) (kind k);
}
  where
    kind : ℕ → Bool
    kind k = get_or K (category_number (code_at alphabet k)) false

pub adds-categories : {k : Text} {P K K' : List Bool} {first past : ℕ} (g : ℕ → Bool) → Marks P K → SpanOf k first past → ((c : ℕ) → in_class k c ≡ g c)
    → Spanned K K' first past → Adds g P K P K'
adds-categories {k} {P} {K} {K'} {first} {past} g m s e p = record {
  marks = record { places = m.places; categories = p.long ∙ m.categories };
  at =
      λ j h.
      let c = code_at alphabet j in
      let n = category_number c in
      ap (◌||◌ (get_or P j false)) (p.at n ∙ ap (◌||◌ (get_or K n false)) (sym (s.is c) ∙ e c)) ∙ sym (or_assoc (get_or P j false) (get_or K n false) (g c));
}

-- marking members
pub record Left (T : List ℕ) (at : ℕ) (ms : List Member) (P₀ K₀ P K : List Bool) : Type 0 where
  pub rest : List Member
  pub are : MembersAt T at rest
  pub same : (k : ℕ) → k < 498 → (marked P₀ K₀ k || any (is_member (code_at alphabet k)) ms) ≡ (marked P K k || any (is_member (code_at alphabet k)) rest)

pub record Marking (T : List ℕ) (from : ℕ) (P₀ K₀ P K : List Bool) (at : ℕ) : Type 0 where
  pub here : MembersHere T at
  pub marks : Marks P K
  pub on : (ms : List Member) → MembersAt T from ms → Left T at ms P₀ K₀ P K

pub marking-start : {T : List ℕ} {from : ℕ} {P K : List Bool} → MembersHere T from → Marks P K → Marking T from P K P K from
marking-start h m = record { here = h; marks = m; on = λ ms w. record { rest = ms; are = w; same = λ k l. refl } }

module _ {T : List ℕ} {from : ℕ} {P₀ K₀ P K : List Bool} {at : ℕ} (w : Marking T from P₀ K₀ P K at) where
  pub marking-end : get_or T at 0 ≡ 28 → (ms : List Member) → MembersAt T from ms → Adds (λ c. any (is_member c) ms) P₀ K₀ P K
  marking-end e ms v = record {
    marks = w.marks;
    at =
        λ k h.
        let l = w.on ms v in
        sym (l.same k h ∙ ap (λ (xs : List Member). marked P K k || any (is_member (code_at alphabet k)) xs) (member-none l.rest l.are e) ∙ or-false (marked P K k));
  }

  module _ (d : get_or T at 0 ≡ 28 → ⊥) where
    pub marking-head : Head T at w.here.members
    marking-head = member-head w.here.members w.here.are d

    pub marking-next : {P' K' : List Bool} → Adds (match_of (drop at T)) P K P' K' → Marking T from P₀ K₀ P' K' (at + length_at T at)
    marking-next {P'} {K'} a = record {
      here = record { small = w.here.small; members = marking-head.rest; are = marking-head.next };
      marks = a.marks;
      on = λ ms v. record { rest = (head ms v).rest; are = (head ms v).next; same = λ k h. step ms v k h };
    }
      where
        head : (ms : List Member) (v : MembersAt T from ms) → Head T at (w.on ms v).rest
        head ms v = member-head (w.on ms v).rest (w.on ms v).are d

        step : (ms : List Member) (v : MembersAt T from ms) (k : ℕ) → k < 498
            → (marked P₀ K₀ k || any (is_member (code_at alphabet k)) ms) ≡ (marked P' K' k || any (is_member (code_at alphabet k)) (head ms v).rest)
        step ms v k h =
            let c = code_at alphabet k in
            let t = any (is_member c) (head ms v).rest in
            (w.on ms v).same k h
            ∙ ap (λ (xs : List Member). marked P K k || any (is_member c) xs) (head ms v).is
            ∙ ap (λ (b : Bool). marked P K k || (b || t)) (sym (head-match (head ms v) c))
            ∙ sym (or_assoc (marked P K k) (match_of (drop at T) c) t)
            ∙ ap (λ (b : Bool). b || t) (sym (a.at k h))

-- after marking from nothing
clean : (k : ℕ) → k < 498 → marked (replicate 498 false) (replicate 30 false) k ≡ false
clean k h = rw (get_or-replicate 498 k false false h) (get_or-replicate 30 (category_number (code_at alphabet k)) false false (number_at k h))

pub unmarked-left : (ms : List Member) (P K : List Bool) → Adds (λ c. any (is_member c) ms) (replicate 498 false) (replicate 30 false) P K
    → some_from (λ k. not (marked P K k)) 0 498 ≡ some_known (λ c. not (any (is_member c) ms))
unmarked-left ms P K a =
    known-by-place (λ k. not (marked P K k)) (λ c. not (any (is_member c) ms))
    (λ k h. ap not (a.at k h ∙ ap (λ (b : Bool). b || any (is_member (code_at alphabet k)) ms) (clean k h)))
