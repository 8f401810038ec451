-- The first bytes of a file, read piece by piece.
use Rattle.std.proofs.Common.{◌≡◌, ℕ, ◌+◌, ◌-◌, ◌≤◌, List, ◌++◌, length, take, slice_range, arith, sym, ap, ◌∙◌, subst, drop_at, length-take-le}
use Rattle.std.specs.declared.option.Option.{Option}
use Rattle.std.specs.Io.KnownBytes.{Consumes}
use Rattle.std.specs.Prelude.{Some, Ok}
use Rattle.cli.specs.Output.{Chunked, Fetched}
use Rattle.std.proofs.KnownBytes.{Consumes-trans}
use borrow.Rule.Slice.PartMut.{put_mid, post_of}
use lib.Seq.{take_at, take-add, take-append-le}

-- what a read put into the part from a place on
pub slice_range-put_mid : (a k n : ℕ) (xs ys : List ℕ) → a ≤ length xs → n ≤ length ys → slice_range (put_mid a k xs ys) a (a + n) ≡ take n ys
slice_range-put_mid a k n xs ys within fits =
    let same : (a + n) - a ≡ n = omega arith in
    let after = post_of a k xs in
    ap (take ((a + n) - a)) (drop_at (take a xs) (ys ++ after) a (length-take-le a xs within)) ∙ ap (λ m. take m (ys ++ after)) same ∙ take-append-le n ys after fits

-- and what stands before that place is kept
pub take-put_mid : (a k : ℕ) (xs ys : List ℕ) → a ≤ length xs → take a (put_mid a k xs ys) ≡ take a xs
take-put_mid a k xs ys within = take_at (take a xs) (ys ++ post_of a k xs) a (length-take-le a xs within)

-- what was read up to a place, and then up to the next
pub take_split : (a b : ℕ) (old new : List ℕ) → a ≤ b → take a new ≡ take a old → take a old ++ slice_range new a b ≡ take b new
take_split a b old new h front =
    let same : a + (b - a) ≡ b = omega arith in
    ap (λ l. l ++ slice_range new a b) (sym front) ∙ sym (take-add a (b - a) new) ∙ ap (λ n. take n new) same

-- one read more
pub read_more : (before mid after : Option (List ℕ)) (old new : List ℕ) (at next : ℕ) → at ≤ next → take at new ≡ take at old
    → Consumes before mid (take at old) → Consumes mid after (slice_range new at next)
    → Consumes before after (take next new)
read_more before mid after old new at next h kept first second = subst (Consumes before after) (take_split at next old new h kept) (Consumes-trans before mid after _ _ first second)

-- the same of what a read answers
pub one_more : {E : Type 0} (before mid after : Option (List ℕ)) (old new : List ℕ) (at next : ℕ) (t : Option ℕ) → t ≡ Some next
    → Chunked {E = E} (Ok t) at old new → Fetched {E = E} (Ok t) at new mid after → Consumes before mid (take at old)
    → (next ≤ length new) × Consumes before after (take next new)
one_more {E = E} before mid after old new at next t q h f r =
    let c = subst (λ (u : Option ℕ). Chunked {E = E} (Ok u) at old new) q h in
    let g = subst (λ (u : Option ℕ). Fetched {E = E} (Ok u) at new mid after) q f in
    (c.onwards.1, read_more before mid after old new at next (omega (arith, c.onwards.0)) c.kept r g)
