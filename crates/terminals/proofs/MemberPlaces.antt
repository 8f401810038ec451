-- Laws of members at places of the table.
use mathlib.Core.Bool.{Bool, true, false, ◌&&◌, ◌||◌}
use mathlib.Core.List.{List, [], ◌∷◌, ◌++◌, append_assoc}
use mathlib.Core.Path.{◌≡◌, refl, sym, ap, ◌∙◌, subst}
use Prim.Native.Nat.{ℕ, ◌+◌, ◌<◌, ◌≤◌}
use native.Mathlib.Decide.{ℕ_discrete}
use native.Mathlib.Omega.{arith}
use lib.Dec.{eqb}
use lib.ListN.{length, get_or, drop, length-append, length-drop}
use lib.Seq.{get_or-drop, take-append_seam, drop-append_seam, drop-drop}
use borrow.Author.Tests.{eq-eqb, ne_eqb}
use Rattle.text.specs.Lists.{Text, any, among}
use Rattle.category.specs.Category.{classes, is_class, letters, place}
use Rattle.category.proofs.Classes.{first_letters, second_letters, class-letters, class-found, listed}
use Rattle.tree.specs.Tree.{Chars, string, hex, Member, chars, range, class}
use Rattle.tree.specs.Tokens.{numbers, encode, member_token, member_tokens, class_numbers, end_numbers, capped}
use Rattle.plain.specs.Static.{code_of}
use Rattle.plain.specs.Plain.{is_member}
use Rattle.tokens.specs.Proper.{ProperEnd}
use Rattle.tokens.specs.Lengths.{length_at, Told, TokenAt}
use Rattle.tokens.proofs.Walk.{some_number, stands-length, stands-within}
use Rattle.terminals.specs.Sound.{SoundChars, SoundMember}
use Rattle.terminals.specs.Places.{match_of, MemberShape, MemberHere, MembersAt, MembersHere}

pub first-at : (T : List ℕ) (at : ℕ) → get_or (drop at T) 0 0 ≡ get_or T at 0
first-at T at = get_or-drop at T 0 0 ∙ ap (λ (i : ℕ). get_or T i 0) (let e : at + 0 ≡ at = omega arith in e)

pub cap : (n : ℕ) → n < 0x110000 → capped n ≡ n
cap n h = omega arith

or-false : (a : Bool) → a || false ≡ a
or-false true = refl
or-false false = refl

pub and-true : (a : Bool) → a && true ≡ a
and-true true = refl
and-true false = refl

-- an end of a range, and a class, by their numbers
pub record End (k : Chars) : Type 0 where
  pub sort : ℕ
  pub are : end_numbers k ≡ sort ∷ code_of k ∷ []

end-numbers : (k : Chars) → SoundChars k → ProperEnd k → End k
unfolding code_of
end-numbers (string []) s p = absurd (omega arith)
end-numbers (string (c ∷ [])) s p = record { sort = 0; are = refl }
end-numbers (string (c ∷ d ∷ cs)) s p = absurd (omega arith)
end-numbers (hex n) s p = record { sort = 1; are = ap (λ (v : ℕ). 1 ∷ v ∷ []) (cap n s) }

abbrev told : Text → Text
told k = letters (get_or (class_numbers k) 0 0) (get_or (class_numbers k) 1 0)

told-letters : (a b : ℕ) → told (letters a b) ≡ letters a b
told-letters a b = elim (ℕ_discrete b 0) as (λ _. told (letters a b) ≡ letters a b) [
  | yes e ↦ rw (eq-eqb b 0 e)
  | no e ↦ simp (ne_eqb b 0 e)
]

told-class : (k : Text) → is_class k ≡ true → told k ≡ k
told-class k e =
    let f = class-found k e in
    let i : place classes k < 38 = omega (arith, f.inside, listed) in
    let q = class-letters (place classes k) i ∙ f.is in
    subst (λ (t : Text). told t ≡ t) q (told-letters (get_or first_letters (place classes k) 0) (get_or second_letters (place classes k) 0))

class-inside : (k : Text) → is_class k ≡ true → place classes (told k) < 38
class-inside k e = rw (told-class k e) (omega (arith, (class-found k e).inside, listed))

pub member-shape : (m : Member) → SoundMember m → (more : List ℕ) → MemberShape (numbers (member_token m) ++ more)
member-shape (chars (string cs)) s more = record {
  some = omega arith;
  low = omega arith;
  known = omega arith;
  counted = λ e. omega (arith, length-append cs more);
  coded = λ e. omega arith;
  ranged = λ e. omega arith;
  classed = λ e. omega arith;
  class = λ e. absurd (omega arith);
}
member-shape (chars (hex n)) s more = record {
  some = omega arith;
  low = omega arith;
  known = omega arith;
  counted = λ e. absurd (omega arith);
  coded = λ e. omega arith;
  ranged = λ e. omega arith;
  classed = λ e. omega arith;
  class = λ e. absurd (omega arith);
}
member-shape (range a b) s more = record {
  some = omega arith;
  low = omega arith;
  known = omega arith;
  counted = λ e. absurd (omega arith);
  coded = λ e. absurd (omega arith);
  ranged = λ e. rw ((end-numbers a s.0.0 s.0.1).are, (end-numbers b s.1.0 s.1.1).are) (omega arith);
  classed = λ e. absurd (omega arith);
  class = λ e. absurd (omega arith);
}
member-shape (class []) s more = record {
  some = omega arith;
  low = omega arith;
  known = omega arith;
  counted = λ e. absurd (omega arith);
  coded = λ e. absurd (omega arith);
  ranged = λ e. absurd (omega arith);
  classed = λ e. omega arith;
  class = λ e. class-inside [] s;
}
member-shape (class (c ∷ [])) s more = record {
  some = omega arith;
  low = omega arith;
  known = omega arith;
  counted = λ e. absurd (omega arith);
  coded = λ e. absurd (omega arith);
  ranged = λ e. absurd (omega arith);
  classed = λ e. omega arith;
  class = λ e. class-inside (c ∷ []) s;
}
member-shape (class (c ∷ d ∷ cs)) s more = record {
  some = omega arith;
  low = omega arith;
  known = omega arith;
  counted = λ e. absurd (omega arith);
  coded = λ e. absurd (omega arith);
  ranged = λ e. absurd (omega arith);
  classed = λ e. omega arith;
  class = λ e. class-inside (c ∷ d ∷ cs) s;
}

pub match-law : (m : Member) → SoundMember m → (more : List ℕ) (c : ℕ) → match_of (numbers (member_token m) ++ more) c ≡ is_member c m
unfolding match_of
match-law (chars (string cs)) s more c = ap (among c) (take-append_seam cs more)
match-law (chars (hex n)) s more c = rw (cap n s) (sym (or-false (eqb c n)))
match-law (range a b) s more c = rw ((end-numbers a s.0.0 s.0.1).are, (end-numbers b s.1.0 s.1.1).are)
match-law (class []) s more c = rw (told-class [] s)
match-law (class (x ∷ [])) s more c = rw (told-class (x ∷ []) s)
match-law (class (x ∷ y ∷ cs)) s more c = rw (told-class (x ∷ y ∷ cs) s)

told-member : (m : Member) → SoundMember m → Told (member_token m)
told-member (chars (string cs)) s = tt
told-member (chars (hex n)) s = tt
told-member (range a b) s = (s.0.1, s.1.1)
told-member (class k) s = tt

-- members from a place on
pub record Head (T : List ℕ) (at : ℕ) (ms : List Member) : Type 0 where
  pub head : Member
  pub rest : List Member
  pub is : ms ≡ head ∷ rest
  pub sound : SoundMember head
  pub token : TokenAt T at (member_token head)
  pub next : MembersAt T (at + length_at T at) rest

module _ {T : List ℕ} {at : ℕ} where
  pub member-head : (ms : List Member) → MembersAt T at ms → (get_or T at 0 ≡ 28 → ⊥) → Head T at ms
  member-head [] w d = absurd (d (sym (first-at T at) ∙ ap (λ (l : List ℕ). get_or l 0 0) w.stands))
  member-head (m ∷ ms) w d =
      let e : drop at T ≡ numbers (member_token m) ++ (encode (member_tokens ms) ++ w.more) = w.stands ∙ append_assoc (numbers (member_token m)) (encode (member_tokens ms)) w.more in
      let a : TokenAt T at (member_token m) = record { more = encode (member_tokens ms) ++ w.more; stands = e } in
      let f : length_at T at ≡ length (numbers (member_token m)) = stands-length a (told-member m w.sound.0) in
      record {
        head = m;
        rest = ms;
        is = refl;
        sound = w.sound.0;
        token = a;
        next = record {
          more = w.more;
          stands =
              rw f (sym (drop-drop (length (numbers (member_token m))) at T) ∙ ap (drop (length (numbers (member_token m)))) e
              ∙ drop-append_seam (numbers (member_token m)) (encode (member_tokens ms) ++ w.more));
          sound = w.sound.1;
        };
      }

  pub member-none : (ms : List Member) → MembersAt T at ms → get_or T at 0 ≡ 28 → ms ≡ []
  member-none [] w e = refl
  member-none (m ∷ ms) w e =
      let k = member-shape m w.sound.0 (encode (member_tokens ms) ++ w.more) in
      let f : drop at T ≡ numbers (member_token m) ++ (encode (member_tokens ms) ++ w.more) = w.stands ∙ append_assoc (numbers (member_token m)) (encode (member_tokens ms)) w.more in
      let l : get_or T at 0 < 28 = rw (← first-at T at, f) k.known in
      absurd (omega arith)

  pub members-some : (ms : List Member) → MembersAt T at ms → at < length T
  members-some [] w = omega (arith, ap length w.stands, length-drop at T)
  members-some (m ∷ ms) w =
      omega (
        arith,
        ap length (w.stands ∙ append_assoc (numbers (member_token m)) (encode (member_tokens ms)) w.more),
        length-drop at T,
        (member-shape m w.sound.0 (encode (member_tokens ms) ++ w.more)).some,
      )

  module _ {ms : List Member} (h : Head T at ms) where
    pub head-here : length T ≤ 16384 → MemberHere T at
    head-here l = record { small = l; shape = rw h.token.stands (member-shape h.head h.sound h.token.more) }

    pub head-match : (c : ℕ) → match_of (drop at T) c ≡ is_member c h.head
    head-match c = rw h.token.stands (match-law h.head h.sound h.token.more c)

    pub head-length : length_at T at ≡ length (numbers (member_token h.head))
    head-length = stands-length h.token (told-member h.head h.sound)

    pub head-inside : at + length_at T at ≤ length T
    head-inside = omega (arith, head-length, stands-within h.token)

    -- a step over a member goes forward
    pub head-steps : 0 < length_at T at
    head-steps = omega (arith, head-length, some_number (member_token h.head))

-- a scan over members for one that passes a test
pub record Rest (T : List ℕ) (at : ℕ) (f : Member → Bool) (ms : List Member) : Type 0 where
  pub rest : List Member
  pub are : MembersAt T at rest
  pub same : any f ms ≡ any f rest

pub record Going (T : List ℕ) (from : ℕ) (f : Member → Bool) (at : ℕ) : Type 0 where
  pub here : MembersHere T at
  pub on : (ms : List Member) → MembersAt T from ms → Rest T at f ms

pub go-start : {T : List ℕ} {from : ℕ} (f : Member → Bool) → MembersHere T from → Going T from f from
go-start f h = record { here = h; on = λ ms w. record { rest = ms; are = w; same = refl } }

module _ {T : List ℕ} {from : ℕ} {f : Member → Bool} {at : ℕ} (w : Going T from f at) where
  pub go-end : get_or T at 0 ≡ 28 → (ms : List Member) → MembersAt T from ms → false ≡ any f ms
  go-end e ms v = sym ((w.on ms v).same ∙ ap (any f) (member-none (w.on ms v).rest (w.on ms v).are e))

  module _ (d : get_or T at 0 ≡ 28 → ⊥) where
    pub go-head : Head T at w.here.members
    go-head = member-head w.here.members w.here.are d

    -- r is what the test says of the member at the place
    module _ (r : Bool) (says : (ms : List Member) (h : Head T at ms) → r ≡ f h.head) where
      rest-is : (ms : List Member) (v : MembersAt T from ms) (h : Head T at (w.on ms v).rest) → any f ms ≡ (r || any f h.rest)
      rest-is ms v h = (w.on ms v).same ∙ ap (any f) h.is ∙ ap (λ (b : Bool). b || any f h.rest) (sym (says (w.on ms v).rest h))

      pub go-found : r ≡ true → (ms : List Member) → MembersAt T from ms → true ≡ any f ms
      go-found t ms v = sym (rest-is ms v (member-head (w.on ms v).rest (w.on ms v).are d) ∙ rw t)

      pub go-next : r ≡ false → Going T from f (at + length_at T at)
      go-next t = record {
        here = record { small = w.here.small; members = go-head.rest; are = go-head.next };
        on =
            λ ms v. record {
              rest = (member-head (w.on ms v).rest (w.on ms v).are d).rest;
              are = (member-head (w.on ms v).rest (w.on ms v).are d).next;
              same = rest-is ms v (member-head (w.on ms v).rest (w.on ms v).are d) ∙ rw t;
            };
      }
