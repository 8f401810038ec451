-- Live members and terminals, by their numbers in the table.
use mathlib.Core.Bool.{Bool, true, false, not, ◌&&◌, ◌||◌}
use mathlib.Core.List.{List, [], ◌∷◌, ◌++◌, append-nil}
use mathlib.Core.Path.{◌≡◌, refl, sym, ap, ◌∙◌}
use Prim.Native.Nat.{ℕ, ◌+◌, ◌<◌, ◌≤◌}
use native.Mathlib.Omega.{arith}
use lib.Dec.{leb, ltb, eqb}
use lib.ListN.{length, get_or, take, drop}
use lib.Seq.{get_or-drop, take-append_seam, drop-drop}
use borrow.Author.Tests.{lt-ltb, le-ltb, le-leb, lt-leb}
use Rattle.text.specs.Lists.{pick, any, all, among}
use Rattle.text.specs.Utf8.{alphabet, known}
use Rattle.text.specs.Ranks.{rank_in, some_known}
use Rattle.text.proofs.Lists.{or-false}
use Rattle.text.proofs.Known.{known-ext}
use Rattle.category.specs.Category.{in_class, letters}
use Rattle.tree.specs.Tree.{string, hex, Member, chars, range, Terminal, literal, inclusion, exclusion, insertion}
use Rattle.tree.specs.Tokens.{encode, member_tokens, terminal_tokens, capped}
use Rattle.plain.specs.Static.{code_of}
use Rattle.plain.specs.Plain.{is_member}
use Rattle.plain.specs.Written.{members_in}
use Rattle.plain.specs.Live.{live_member, live}
use Rattle.plain.proofs.Live.{member-some}
use Rattle.tokens.proofs.Walk.{by-mark}
use Rattle.terminals.specs.Sound.{SoundTerminal}
use Rattle.terminals.specs.Places.{match_of, MemberHere, TerminalAt}
use Rattle.terminals.proofs.MemberPlaces.{first-at, cap, and-true, Head, head-match}
use Rattle.terminals.proofs.Places.{match-class, match-counted, match-coded, match-ranged}

-- a member of each kind matches a known character
module _ {T : List ℕ} {at : ℕ} (w : MemberHere T at) where
  pub live-counted : get_or T at 0 ≡ 24 → any known (take (get_or T (at + 1) 0) (drop (at + 2) T)) ≡ some_known (match_of (drop at T))
  live-counted e =
      let xs = take (get_or T (at + 1) 0) (drop (at + 2) T) in
      member-some (chars (string xs)) ∙ known-ext (λ c. among c xs) (match_of (drop at T)) (λ c. match-counted w c e)

  pub live-coded : get_or T at 0 ≡ 25 → known (get_or T (at + 1) 0) ≡ some_known (match_of (drop at T))
  live-coded e =
      let x = get_or T (at + 1) 0 in
      sym (or-false (known x)) ∙ member-some (chars (hex x))
      ∙ known-ext (λ c. eqb c x || false) (match_of (drop at T)) (λ c. or-false (eqb c x) ∙ match-coded w c e)

  pub live-ranged : get_or T at 0 ≡ 26 → ltb (rank_in alphabet (get_or T (at + 2) 0)) (rank_in alphabet (get_or T (at + 4) 0 + 1)) ≡ some_known (match_of (drop at T))
  unfolding code_of
  live-ranged e =
      let a = get_or T (at + 2) 0 in
      let b = get_or T (at + 4) 0 in
      member-some (range (hex a) (hex b)) ∙ known-ext (λ c. leb a c && leb c b) (match_of (drop at T)) (λ c. match-ranged w c e)

  pub live-class : (get_or T at 0 ≡ 24 → ⊥) → (get_or T at 0 ≡ 25 → ⊥) → (get_or T at 0 ≡ 26 → ⊥)
      → some_known (in_class (letters (get_or T (at + 1) 0) (get_or T (at + 2) 0))) ≡ some_known (match_of (drop at T))
  live-class a b d = known-ext (in_class (letters (get_or T (at + 1) 0) (get_or T (at + 2) 0))) (match_of (drop at T)) (match-class w a b d)

pub head_live : {T : List ℕ} {at : ℕ} {ms : List Member} (h : Head T at ms) → some_known (match_of (drop at T)) ≡ live_member h.head
head_live {T} {at} h = known-ext (match_of (drop at T)) (λ c. is_member c h.head) (head-match h) ∙ sym (member-some h.head)

-- by the numbers of a terminal's token and by its members: whether it is live
live_of : List ℕ → List Member → Bool
live_of xs ms =
    pick (ltb (get_or xs 0 0) 8) (all known (take (get_or xs 1 0) (drop 2 xs)))
    (pick (leb 20 (get_or xs 0 0)) true
    (pick (ltb (get_or xs 0 0) 12) (known (get_or xs 1 0)) (pick (ltb (get_or xs 0 0) 16) (any live_member ms) (some_known (λ c. not (any (is_member c) ms))))))

tells : (x : Terminal) → SoundTerminal x → (more : List ℕ) → live_of (encode (terminal_tokens x) ++ more) (members_in x) ≡ live x
unfolding live_of
tells (literal m (string cs)) s more = by-mark (λ k. live_of ((4 + k) ∷ length cs ∷ ((cs ++ []) ++ more)) [] ≡ all known cs) part part part part m
  where
    part : all known (take (length cs) ((cs ++ []) ++ more)) ≡ all known cs
    part = rw append-nil (ap (all known) (take-append_seam cs more))
tells (literal m (hex n)) s more = by-mark (λ k. live_of ((8 + k) ∷ capped n ∷ more) [] ≡ (known n && true)) one one one one m
  where
    one : known (capped n) ≡ (known n && true)
    one = rw (cap n s) (sym (and-true (known n)))
tells (inclusion m ms) s more = by-mark (λ k. live_of ((12 + k) ∷ (encode (member_tokens ms) ++ more)) ms ≡ any live_member ms) refl refl refl refl m
tells (exclusion m ms) s more =
    by-mark (λ k. live_of ((16 + k) ∷ (encode (member_tokens ms) ++ more)) ms ≡ some_known (λ c. not (any (is_member c) ms))) refl refl refl refl m
tells (insertion (string cs)) s more = refl
tells (insertion (hex n)) s more = refl

module _ {T : List ℕ} {at : ℕ} {x : Terminal} (w : TerminalAt T at x) where
  told : live_of (drop at T) (members_in x) ≡ live x
  told = rw w.stands (tells x w.sound w.more)

  pub live-quoted : get_or T at 0 < 8 → all known (take (get_or T (at + 1) 0) (drop (at + 2) T)) ≡ live x
  unfolding live_of
  live-quoted h = sym (rw (first-at T at, lt-ltb _ _ h, get_or-drop at T 1 0, drop-drop 2 at T)) ∙ told

  pub live-insertion : 20 ≤ get_or T at 0 → true ≡ live x
  unfolding live_of
  live-insertion h = sym (rw (first-at T at, le-ltb (get_or T at 0) 8 (omega arith), le-leb _ _ h)) ∙ told

  module _ (h : 8 ≤ get_or T at 0) (l : get_or T at 0 < 20) where
    pub live-hex : get_or T at 0 < 12 → known (get_or T (at + 1) 0) ≡ live x
    unfolding live_of
    live-hex k = sym (rw (first-at T at, le-ltb (get_or T at 0) 8 h, lt-leb 20 (get_or T at 0) l, lt-ltb (get_or T at 0) 12 k, get_or-drop at T 1 0)) ∙ told

    pub live-inclusion : 12 ≤ get_or T at 0 → get_or T at 0 < 16 → any live_member (members_in x) ≡ live x
    unfolding live_of
    live-inclusion k k' =
        sym (rw (first-at T at, le-ltb (get_or T at 0) 8 h, lt-leb 20 (get_or T at 0) l, le-ltb (get_or T at 0) 12 k, lt-ltb (get_or T at 0) 16 k')) ∙ told

    pub live-exclusion : 16 ≤ get_or T at 0 → some_known (λ c. not (any (is_member c) (members_in x))) ≡ live x
    unfolding live_of
    live-exclusion k =
        sym (rw (first-at T at, le-ltb (get_or T at 0) 8 h, lt-leb 20 (get_or T at 0) l, le-ltb (get_or T at 0) 12 (omega arith), le-ltb (get_or T at 0) 16 k)) ∙ told
