-- A terminal is live exactly when it fits some text of known characters.
use mathlib.Core.Bool.{Bool, true, not, ◌&&◌}
use mathlib.Core.List.{List, [], ◌∷◌, ◌++◌}
use mathlib.Core.Logic.{⊎_elim}
use mathlib.Core.Path.{◌≡◌, refl, sym, subst}
use Prim.Native.Nat.{ℕ, ◌+◌, ◌<◌, ◌≤◌}
use native.Mathlib.Omega.{arith}
use lib.Dec.{T, leb, ltb, eqb, eqb→eq, leb→le, ltb→lt}
use lib.ListN.{length}
use borrow.Author.Tests.{eq-eqb, lt-ltb, le-leb}
use Rattle.text.specs.Lists.{Text, any, all, begins, among}
use Rattle.text.specs.Utf8.{alphabet, known}
use Rattle.text.specs.Ranks.{code_at, rank_in, some_known}
use Rattle.text.proofs.Tests.{is_t, T_true, T-both, and_left, and_right, both-and, or_case, or_left, or_right}
use Rattle.text.proofs.Known.{known_at, place_of, some_known_lem, known_some, rank_most, rank-above, above-rank, rank_below, below-rank}
use Rattle.category.specs.Category.{in_class}
use Rattle.tree.specs.Tree.{Member, chars, range, class, Terminal, literal, inclusion, exclusion, insertion, codes}
use Rattle.plain.specs.Static.{code_of}
use Rattle.plain.specs.Plain.{is_member, fits, width}
use Rattle.plain.specs.Live.{live_member, live}

-- a text that begins a text of known characters is one
begins-known : (cs t : Text) → T (all known t) → T (begins cs t) → T (all known cs)
begins-known [] t k b = tt
begins-known (c ∷ cs) [] k b = absurd b
begins-known (c ∷ cs) (d ∷ t) k b =
    both-and (known c) (all known cs)
    (subst (λ (x : ℕ). T (known x)) (sym (eqb→eq c d (and_left (eqb c d) (begins cs t) b))) (and_left (known d) (all known t) k))
    (begins-known cs t (and_right (known d) (all known t) k) (and_right (eqb c d) (begins cs t) b))

begins-append : (cs u : Text) → T (begins cs (cs ++ u))
begins-append [] u = tt
begins-append (c ∷ cs) u = both-and (eqb c c) (begins cs (cs ++ u)) (is_t (eq-eqb c c refl)) (begins-append cs u)

-- a known character that a test finds
pub record Finds (p : ℕ → Bool) : Type 0 where
  pub code : ℕ
  pub known-code : known code ≡ true
  pub found : T (p code)

among-known : (c : ℕ) → known c ≡ true → (cs : Text) → T (among c cs) → T (any known cs)
among-known c k [] t = t
among-known c k (d ∷ cs) t = ⊎_elim
    (λ u. or_left (known d) (any known cs) (subst (λ (x : ℕ). T (known x)) (eqb→eq c d u) (is_t k)))
    (λ u. or_right (known d) (any known cs) (among-known c k cs u))
    (or_case (eqb c d) (among c cs) t)

known_among : (cs : Text) → T (any known cs) → Finds (λ c. among c cs)
known_among [] t = absurd t
known_among (d ∷ cs) t = ⊎_elim
    (λ u. record { code = d; known-code = T_true (known d) u; found = or_left (eqb d d) (among d cs) (is_t (eq-eqb d d refl)) })
    (λ u. let f = known_among cs u in record { code = f.code; known-code = f.known-code; found = or_right (eqb f.code d) (among f.code cs) f.found })
    (or_case (known d) (any known cs) t)

-- a range holds a known character exactly when fewer of them lie below it than up to its end
range-live : (a b c : ℕ) → known c ≡ true → T (leb a c && leb c b) → T (ltb (rank_in alphabet a) (rank_in alphabet (b + 1)))
range-live a b c k t =
    let p = place_of c k in
    let l = leb→le a c (and_left (leb a c) (leb c b) t) in
    let h = leb→le c b (and_right (leb a c) (leb c b) t) in
    let e = p.is in
    let x = above-rank a p.place p.inside (omega arith) in
    let y = below-rank (b + 1) p.place p.inside (omega arith) in
    is_t (lt-ltb (rank_in alphabet a) (rank_in alphabet (b + 1)) (omega arith))

live-range : (a b : ℕ) → T (ltb (rank_in alphabet a) (rank_in alphabet (b + 1))) → Finds (λ c. leb a c && leb c b)
live-range a b t =
    let l = ltb→lt (rank_in alphabet a) (rank_in alphabet (b + 1)) t in
    let m = rank_most (b + 1) in
    let i : rank_in alphabet a < 498 = omega arith in
    let c = code_at alphabet (rank_in alphabet a) in
    let x : a ≤ code_at alphabet (rank_in alphabet a) = rank-above a (rank_in alphabet a) i (omega arith) in
    let y = rank_below (b + 1) (rank_in alphabet a) i l in
    record {
      code = code_at alphabet (rank_in alphabet a);
      known-code = known_at (rank_in alphabet a) i;
      found = both-and (leb a c) (leb c b) (is_t (le-leb a c x)) (is_t (le-leb c b (omega arith)));
    }

-- members, and sets of them
member-live : (c : ℕ) → known c ≡ true → (m : Member) → T (is_member c m) → T (live_member m)
member-live c k (chars x) t = among-known c k (codes x) t
member-live c k (range a b) t = range-live (code_of a) (code_of b) c k t
member-live c k (class x) t = some_known_lem (in_class x) c k t

live-member : (m : Member) → T (live_member m) → Finds (λ c. is_member c m)
live-member (chars x) t = known_among (codes x) t
live-member (range a b) t = live-range (code_of a) (code_of b) t
live-member (class x) t = let f = known_some (in_class x) t in record { code = f.0; known-code = f.1.0; found = f.1.1 }

-- a member is live exactly when it matches a known character
pub member-some : (m : Member) → live_member m ≡ some_known (λ c. is_member c m)
member-some m =
    T-both (live_member m) (some_known (λ c. is_member c m))
    (λ t. let f = live-member m t in some_known_lem (λ c. is_member c m) f.code f.known-code f.found)
    (λ t. let f = known_some (λ c. is_member c m) t in member-live f.0 f.1.0 m f.1.1)

members-live : (c : ℕ) → known c ≡ true → (ms : List Member) → T (any (is_member c) ms) → T (any live_member ms)
members-live c k [] t = t
members-live c k (m ∷ ms) t = ⊎_elim
    (λ u. or_left (live_member m) (any live_member ms) (member-live c k m u))
    (λ u. or_right (live_member m) (any live_member ms) (members-live c k ms u))
    (or_case (is_member c m) (any (is_member c) ms) t)

live_members : (ms : List Member) → T (any live_member ms) → Finds (λ c. any (is_member c) ms)
live_members [] t = absurd t
live_members (m ∷ ms) t = ⊎_elim
    (λ u. let f = live-member m u in record { code = f.code; known-code = f.known-code; found = or_left (is_member f.code m) (any (is_member f.code) ms) f.found })
    (λ u. let f = live_members ms u in record { code = f.code; known-code = f.known-code; found = or_right (is_member f.code m) (any (is_member f.code) ms) f.found })
    (or_case (live_member m) (any live_member ms) t)

-- what fits a text of known characters is live
pub fits-live : (x : Terminal) (t : Text) → T (all known t) → T (fits x t) → T (live x)
fits-live (literal m k) t h f = begins-known (codes k) t h f
fits-live (inclusion m ms) [] h f = absurd f
fits-live (inclusion m ms) (c ∷ t) h f = members-live c (T_true (known c) (and_left (known c) (all known t) h)) ms f
fits-live (exclusion m ms) [] h f = absurd f
fits-live (exclusion m ms) (c ∷ t) h f = some_known_lem (λ d. not (any (is_member d) ms)) c (T_true (known c) (and_left (known c) (all known t) h)) f
fits-live (insertion k) t h f = tt

one_known : (c : ℕ) → known c ≡ true → T (all known (c ∷ []))
one_known c e = both-and (known c) true (is_t e) tt

-- and what is live fits one, whatever follows it
pub live-fits : (x : Terminal) → T (live x) → (w : Text) × ((length w ≡ width x) × (T (all known w) × ((u : Text) → T (fits x (w ++ u)))))
live-fits (literal m k) l = (codes k, (refl, (l, λ u. begins-append (codes k) u)))
live-fits (inclusion m ms) l = let f = live_members ms l in (f.code ∷ [], (refl, (one_known f.code f.known-code, λ u. f.found)))
live-fits (exclusion m ms) l =
    let f = known_some (λ d. not (any (is_member d) ms)) l in
    (f.0 ∷ [], (refl, (one_known f.0 f.1.0, λ u. f.1.1)))
live-fits (insertion k) l = ([], (refl, (tt, λ u. tt)))
