-- What an answer of the decoder says of the text.
use Rattle.std.specs.Prelude.{Ok, Err}
use mathlib.Core.Bool.{Bool, true, false}
use mathlib.Core.Path.{◌≡◌, refl, subst}
use Prim.Native.Nat.{ℕ}
use lib.ListN.{length, drop}
use mathlib.Core.List.{List}
use Rattle.text.specs.Lists.{Text, all}
use Rattle.text.specs.Utf8.{known, Utf8}
use Rattle.text.specs.Decode.{Decoded, text, not-utf8, decode, unmark}
use Rattle.text.specs.Faults.{every, Breaks, after_mark}
use Rattle.text.proofs.Decode.{decode-sound, decode-complete}
use Rattle.decode.specs.declared.DecodeError.TheVariants.{CutShort, Malformed, Unknown}
use Rattle.text.specs.declared.CharPlace.{CharPlace}
use Rattle.text.specs.declared.BytePlace.{BytePlace}
use Rattle.decode.specs.Scan.{Decoding, over}
use Rattle.decode.specs.Whole.{Ends, of, cut_short, malformed, unknown, Decodes}
use Rattle.text.proofs.Marks.{after-mark}
use Rattle.decode.proofs.Whole.{not-broken, not-strange}

pub record Known (d : Decoded) (n : ℕ) : Type 0 where
  pub chars : Text
  pub is : d ≡ text chars
  pub within : all known chars ≡ true
  pub count : n ≡ length chars

pub record Strange (d : Decoded) : Type 0 where
  pub chars : Text
  pub is : d ≡ text chars
  pub outside : all known chars ≡ false

pub data Tells (d : Decoded) : Decoding → Type 0 where
  tells-of : {k : CharPlace} → Known d k.0 → Tells d (Ok k)
  tells-cut : {p : BytePlace} → d ≡ not-utf8 → Tells d (Err (CutShort p))
  tells-malformed : {p : BytePlace} → d ≡ not-utf8 → Tells d (Err (Malformed p))
  tells-unknown : {p : BytePlace} → Strange d → Tells d (Err (Unknown p))

pub record Told (d : Decoded) (old : List ℕ) (r : Decoding) (new : List ℕ) : Type 0 where
  pub tells : Tells d r
  pub stored : (cs : Text) → d ≡ text cs → new ≡ over cs old

module _ (bs : List ℕ) (from : ℕ) where
  none : (p : ℕ) → Breaks every bs from p → decode (drop from bs) ≡ not-utf8
  none p b = go (decode (drop from bs)) refl
    where
      go : (d : Decoded) → decode (drop from bs) ≡ d → d ≡ not-utf8
      go (text cs) e = absurd (not-broken bs from p cs (decode-sound (drop from bs) cs e) b)
      go not-utf8 e = refl

  strange : (p : ℕ) (cs : Text) → Utf8 (drop from bs) cs → Breaks known bs from p → Strange (decode (drop from bs))
  strange p cs u b = record { chars = cs; is = decode-complete (drop from bs) cs u; outside = go (all known cs) refl }
    where
      go : (x : Bool) → all known cs ≡ x → x ≡ false
      go true e = absurd (not-strange bs from p cs u e b)
      go false e = refl

  tells : {r : Decoding} → Ends bs from r → Tells (decode (drop from bs)) r
  tells (of cs u k e) = tells-of (record { chars = cs; is = decode-complete (drop from bs) cs u; within = k; count = e })
  tells (cut_short {p = p} b c) = tells-cut (none p.0 b)
  tells (malformed {p = p} b c) = tells-malformed (none p.0 b)
  tells (unknown {p = p} cs u b) = tells-unknown (strange p.0 cs u b)

  pub told : {old new : List ℕ} {r : Decoding} → Decodes bs from old r new → Told (decode (drop from bs)) old r new
  told w = record { tells = tells w.answer; stored = λ cs e. w.stored cs (decode-sound (drop from bs) cs e) }

-- of a grammar's text
pub told-grammar : (bs : List ℕ) {old new : List ℕ} {r : Decoding} → Decodes bs (after_mark bs) old r new → Told (unmark (decode bs)) old r new
told-grammar bs {old} {new} {r} w = subst (λ (d : Decoded). Told d old r new) (after-mark bs) (told bs (after_mark bs) w)
