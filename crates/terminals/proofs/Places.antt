-- Laws of tokens at places of the table: what a member's and a terminal's numbers say.
use mathlib.Core.Bool.{Bool, true, false, not, ◌&&◌}
use mathlib.Core.List.{List, [], ◌∷◌, ◌++◌, append-nil}
use mathlib.Core.Path.{◌≡◌, refl, sym, ap, ◌∙◌}
use Prim.Native.Nat.{ℕ, ◌+◌, ◌<◌, ◌≤◌}
use native.Mathlib.Omega.{arith}
use lib.Dec.{eqb, leb, ltb}
use lib.ListN.{length, get_or, take, drop, length-append, length-drop}
use lib.Seq.{get_or-drop, take-append_seam, drop-drop}
use borrow.Author.Tests.{eq-eqb, ne_eqb, lt-ltb, le-ltb, le-leb, lt-leb}
use Rattle.text.specs.Lists.{Text, pick, any, among, begins}
use Rattle.category.specs.Category.{classes, in_class, letters, place}
use Rattle.category.proofs.Classes.{place-below, listed}
use Rattle.tree.specs.Tree.{Mark, string, hex, Member, Terminal, literal, inclusion, exclusion, insertion}
use Rattle.tree.specs.Tokens.{numbers, encode, member_token, member_tokens, terminal_tokens, capped, mark_number}
use Rattle.plain.specs.Plain.{is_member, fits, width}
use Rattle.plain.specs.Written.{members_in}
use Rattle.tokens.specs.Lengths.{width_at}
use Rattle.tokens.proofs.Walk.{by-mark}
use Rattle.terminals.proofs.Widths.{width-at}
use Rattle.terminals.specs.Sound.{SoundMembers, SoundTerminal}
use Rattle.terminals.specs.Places.{match_of, MemberHere, MembersAt, TerminalAt, fits_of}
use Rattle.terminals.proofs.MemberPlaces.{first-at, cap, and-true, member-shape}

-- terminals
quoted-part : (cs more : List ℕ) → take (length cs) ((cs ++ []) ++ more) ≡ cs
quoted-part cs more = rw append-nil (take-append_seam cs more)

pub term-short : (x : Terminal) → SoundTerminal x → (more : List ℕ) (found : Bool) → fits_of (encode (terminal_tokens x) ++ more) found [] ≡ fits x []
unfolding fits_of
term-short (literal m (string cs)) s more found =
    by-mark (λ k. fits_of ((4 + k) ∷ length cs ∷ ((cs ++ []) ++ more)) found [] ≡ begins cs []) (rw quoted-part) (rw quoted-part)
    (rw quoted-part) (rw quoted-part) m
term-short (literal m (hex n)) s more found = by-mark (λ k. fits_of ((8 + k) ∷ capped n ∷ more) found [] ≡ false) refl refl refl refl m
term-short (inclusion m ms) s more found = by-mark (λ k. fits_of ((12 + k) ∷ (encode (member_tokens ms) ++ more)) found [] ≡ false) refl refl refl refl m
term-short (exclusion m ms) s more found = by-mark (λ k. fits_of ((16 + k) ∷ (encode (member_tokens ms) ++ more)) found [] ≡ false) refl refl refl refl m
term-short (insertion (string cs)) s more found = refl
term-short (insertion (hex n)) s more found = refl

pub term_fits : (x : Terminal) → SoundTerminal x → (more : List ℕ) (found : Bool) (c : ℕ) (u : Text)
    → found ≡ any (is_member c) (members_in x) → fits_of (encode (terminal_tokens x) ++ more) found (c ∷ u) ≡ fits x (c ∷ u)
unfolding fits_of
term_fits (literal m (string cs)) s more found c u e =
    by-mark (λ k. fits_of ((4 + k) ∷ length cs ∷ ((cs ++ []) ++ more)) found (c ∷ u) ≡ begins cs (c ∷ u)) (rw quoted-part) (rw quoted-part)
    (rw quoted-part) (rw quoted-part) m
term_fits (literal m (hex n)) s more found c u e =
    by-mark (λ k. fits_of ((8 + k) ∷ capped n ∷ more) found (c ∷ u) ≡ (eqb n c && true)) (coded-fits n c s) (coded-fits n c s)
    (coded-fits n c s) (coded-fits n c s) m
  where
    coded-fits : (n c : ℕ) → n < 0x110000 → eqb (capped n) c ≡ (eqb n c && true)
    coded-fits n c h = rw (cap n h) (sym (and-true (eqb n c)))
term_fits (inclusion m ms) s more found c u e = by-mark (λ k. fits_of ((12 + k) ∷ (encode (member_tokens ms) ++ more)) found (c ∷ u) ≡ any (is_member c) ms) e e e e m
term_fits (exclusion m ms) s more found c u e =
    by-mark (λ k. fits_of ((16 + k) ∷ (encode (member_tokens ms) ++ more)) found (c ∷ u) ≡ not (any (is_member c) ms)) (ap not e) (ap not e)
    (ap not e) (ap not e) m
term_fits (insertion (string cs)) s more found c u e = refl
term_fits (insertion (hex n)) s more found c u e = refl

-- a member's numbers, by their places
second_at : (T : List ℕ) (at k : ℕ) → get_or (drop at T) k 0 ≡ get_or T (at + k) 0
second_at T at k = get_or-drop at T k 0

module _ {T : List ℕ} {at : ℕ} (w : MemberHere T at) where
  pub here-some : at < length T
  here-some = omega (arith, w.shape.some, length-drop at T)

  pub here-counted : get_or T at 0 ≡ 24 → at + 2 + get_or T (at + 1) 0 ≤ length T
  here-counted e = omega (arith, w.shape.counted (first-at T at ∙ e), length-drop at T, second_at T at 1)

  pub here-coded : get_or T at 0 ≡ 25 → at + 1 < length T
  here-coded e = omega (arith, w.shape.coded (first-at T at ∙ e), length-drop at T)

  pub here-ranged : get_or T at 0 ≡ 26 → at + 4 < length T
  here-ranged e = omega (arith, w.shape.ranged (first-at T at ∙ e), length-drop at T)

  module _ (a : get_or T at 0 ≡ 24 → ⊥) (b : get_or T at 0 ≡ 25 → ⊥) (d : get_or T at 0 ≡ 26 → ⊥) where
    above : 26 < get_or (drop at T) 0 0
    above = rw first-at (omega (arith, w.shape.low, first-at T at))

    pub here-classed : at + 2 < length T
    here-classed = omega (arith, w.shape.classed above, length-drop at T)

    pub here-class : place classes (letters (get_or T (at + 1) 0) (get_or T (at + 2) 0)) < 38
    here-class = rw (← second_at T at 1, ← second_at T at 2) (w.shape.class above)

    pub match-class : (c : ℕ) → in_class (letters (get_or T (at + 1) 0) (get_or T (at + 2) 0)) c ≡ match_of (drop at T) c
    unfolding match_of
    match-class c = rw (first-at T at, ne_eqb _ _ a, ne_eqb _ _ b, ne_eqb _ _ d, second_at T at 1, second_at T at 2)

    pub class-at : get_or classes (place classes (letters (get_or T (at + 1) 0) (get_or T (at + 2) 0))) [] ≡ letters (get_or T (at + 1) 0) (get_or T (at + 2) 0)
    class-at = place-below classes (letters (get_or T (at + 1) 0) (get_or T (at + 2) 0)) (omega (arith, here-class, listed))

  pub match-counted : (c : ℕ) → get_or T at 0 ≡ 24 → among c (take (get_or T (at + 1) 0) (drop (at + 2) T)) ≡ match_of (drop at T) c
  unfolding match_of
  match-counted c e = rw (first-at T at, eq-eqb _ _ e, second_at T at 1, drop-drop 2 at T)

  pub match-coded : (c : ℕ) → get_or T at 0 ≡ 25 → eqb c (get_or T (at + 1) 0) ≡ match_of (drop at T) c
  unfolding match_of
  match-coded c e = rw (first-at T at, e, second_at T at 1)

  pub match-ranged : (c : ℕ) → get_or T at 0 ≡ 26 → (leb (get_or T (at + 2) 0) c && leb c (get_or T (at + 4) 0)) ≡ match_of (drop at T) c
  unfolding match_of
  match-ranged c e = rw (first-at T at, e, second_at T at 2, second_at T at 4)

-- a terminal's numbers, by their places
pub record TerminalShape (xs : List ℕ) : Type 0 where
  pub two : 2 ≤ length xs
  pub counted : get_or xs 0 0 < 8 → 2 + get_or xs 1 0 ≤ length xs

set-two : (k : ℕ) (ms : List Member) → SoundMembers ms → (more : List ℕ) → 8 ≤ k → TerminalShape (k ∷ (encode (member_tokens ms) ++ more))
set-two k [] s more h = record { two = omega arith; counted = λ l. absurd (omega arith) }
set-two k (m ∷ ms) s more h = record {
  two =
      omega (
        arith,
        (member-shape m s.0 []).some,
        length-append (numbers (member_token m)) [],
        length-append
            (numbers (member_token m) ++ encode (member_tokens ms)) more,
        length-append (numbers (member_token m)) (encode (member_tokens ms)),
      );
  counted = λ l. absurd (omega arith);
}

term-shape : (x : Terminal) → SoundTerminal x → (more : List ℕ) → TerminalShape (encode (terminal_tokens x) ++ more)
term-shape (literal m (string cs)) s more = record { two = omega arith; counted = λ l. omega (arith, length-append (cs ++ []) more, length-append cs []) }
term-shape (literal m (hex n)) s more = record { two = omega arith; counted = λ l. absurd (omega arith) }
term-shape (inclusion m ms) s more = set-two (12 + mark_number m) ms s more (omega arith)
term-shape (exclusion m ms) s more = set-two (16 + mark_number m) ms s more (omega arith)
term-shape (insertion (string cs)) s more = record { two = omega arith; counted = λ l. absurd (omega arith) }
term-shape (insertion (hex n)) s more = record { two = omega arith; counted = λ l. absurd (omega arith) }

found_in : Terminal → Text → Bool
found_in x [] = false
found_in x (c ∷ u) = any (is_member c) (members_in x)

term-all : (x : Terminal) → SoundTerminal x → (more : List ℕ) (t : Text) → fits_of (encode (terminal_tokens x) ++ more) (found_in x t) t ≡ fits x t
unfolding found_in
term-all x s more [] = term-short x s more false
term-all x s more (c ∷ u) = term_fits x s more (any (is_member c) (members_in x)) c u refl

mark-small : (m : Mark) → mark_number m < 4
mark-small m = by-mark (λ k. k < 4) (omega arith) (omega arith) (omega arith) (omega arith) m

set-members : (x : Terminal) → SoundTerminal x → (T : List ℕ) (at : ℕ) (more : List ℕ) → drop at T ≡ encode (terminal_tokens x) ++ more
    → 12 ≤ get_or T at 0 → get_or T at 0 < 20 → MembersAt T (at + 1) (members_in x)
set-members (literal m (string cs)) s T at more e l h = absurd (omega (arith, mark-small m, sym (first-at T at) ∙ ap (λ (xs : List ℕ). get_or xs 0 0) e))
set-members (literal m (hex n)) s T at more e l h = absurd (omega (arith, mark-small m, sym (first-at T at) ∙ ap (λ (xs : List ℕ). get_or xs 0 0) e))
set-members (inclusion m ms) s T at more e l h = record { more = more; stands = sym (drop-drop 1 at T) ∙ ap (drop 1) e; sound = s }
set-members (exclusion m ms) s T at more e l h = record { more = more; stands = sym (drop-drop 1 at T) ∙ ap (drop 1) e; sound = s }
set-members (insertion (string cs)) s T at more e l h = absurd (omega (arith, sym (first-at T at) ∙ ap (λ (xs : List ℕ). get_or xs 0 0) e))
set-members (insertion (hex n)) s T at more e l h = absurd (omega (arith, sym (first-at T at) ∙ ap (λ (xs : List ℕ). get_or xs 0 0) e))

module _ {T : List ℕ} {at : ℕ} {x : Terminal} (w : TerminalAt T at x) where
  shape_at : TerminalShape (drop at T)
  shape_at = rw w.stands (term-shape x w.sound w.more)

  pub term-two : at + 1 < length T
  term-two = omega (arith, shape_at.two, length-drop at T)

  pub term-counted : get_or T at 0 < 8 → at + 2 + get_or T (at + 1) 0 ≤ length T
  term-counted h = omega (arith, shape_at.counted (rw first-at h), length-drop at T, second_at T at 1, shape_at.two)

  pub term-members : 12 ≤ get_or T at 0 → get_or T at 0 < 20 → MembersAt T (at + 1) (members_in x)
  term-members = set-members x w.sound T at w.more w.stands

  pub width_is : width_at T at ≡ width x
  width_is = width-at T at x w.more w.stands

  all-is : (t : Text) → fits_of (drop at T) (found_in x t) t ≡ fits x t
  all-is t = rw w.stands (term-all x w.sound w.more t)

  pub fit-quoted : (t : Text) → get_or T at 0 < 8 → begins (take (get_or T (at + 1) 0) (drop (at + 2) T)) t ≡ fits x t
  unfolding fits_of
  fit-quoted t h = sym (rw (first-at T at, lt-ltb _ _ h, second_at T at 1, drop-drop 2 at T)) ∙ all-is t

  pub fit-insertion : (t : Text) → 20 ≤ get_or T at 0 → true ≡ fits x t
  unfolding fits_of
  fit-insertion t h = sym (rw (first-at T at, le-ltb (get_or T at 0) 8 (omega arith), le-leb _ _ h)) ∙ all-is t

  module _ (h : 8 ≤ get_or T at 0) (l : get_or T at 0 < 20) where
    pub fit-past : false ≡ fits x []
    unfolding fits_of
    fit-past = sym (rw (first-at T at, le-ltb (get_or T at 0) 8 h, lt-leb 20 (get_or T at 0) l)) ∙ all-is []

    fit-one : (c : ℕ) (u : Text) → pick (ltb (get_or T at 0) 12) (eqb (get_or T (at + 1) 0) c)
        (pick (ltb (get_or T at 0) 16) (any (is_member c) (members_in x)) (not (any (is_member c) (members_in x)))) ≡ fits x (c ∷ u)
    unfolding fits_of found_in
    fit-one c u = sym (rw (first-at T at, le-ltb (get_or T at 0) 8 h, lt-leb 20 (get_or T at 0) l, second_at T at 1)) ∙ all-is (c ∷ u)

    pub fit-coded : (c : ℕ) (u : Text) → get_or T at 0 < 12 → eqb (get_or T (at + 1) 0) c ≡ fits x (c ∷ u)
    fit-coded c u k = sym (rw (lt-ltb (get_or T at 0) 12 k)) ∙ fit-one c u

    pub fit-inclusion : (c : ℕ) (u : Text) (found : Bool) → 12 ≤ get_or T at 0 → get_or T at 0 < 16 → found ≡ any (is_member c) (members_in x) → found ≡ fits x (c ∷ u)
    fit-inclusion c u found k k' e = e ∙ sym (rw (le-ltb (get_or T at 0) 12 k, lt-ltb (get_or T at 0) 16 k')) ∙ fit-one c u

    pub fit-exclusion : (c : ℕ) (u : Text) (found : Bool) → 16 ≤ get_or T at 0 → found ≡ any (is_member c) (members_in x) → not found ≡ fits x (c ∷ u)
    fit-exclusion c u found k e = ap not e ∙ sym (rw (le-ltb (get_or T at 0) 12 (omega arith), le-ltb (get_or T at 0) 16 k)) ∙ fit-one c u
