-- The characters of a record: what the decoder's answer says of the tests.
use mathlib.Core.Bool.{Bool}
use mathlib.Core.Path.{◌≡◌, refl, sym, ap, ◌∙◌, subst}
use mathlib.Core.Logic.{inl}
use mathlib.Core.List.{List, ◌++◌}
use Prim.Native.Nat.{ℕ, ◌≤◌, ◌<◌}
use native.Mathlib.Omega.{arith}
use lib.ListN.{length, take, drop, length-take}
use lib.Seq.{take_all, take_at}
use Rattle.text.specs.Limits.{record_chars}
use Rattle.text.specs.Lists.{Text}
use Rattle.text.specs.Decode.{decode, break_of}
use Rattle.answer.proofs.Stages.{stage-12, stage-13, stage-14}
use Rattle.decode.specs.declared.DecodeError.{DecodeError}
use Rattle.text.specs.declared.CharPlace.{CharPlace}
use Rattle.decode.specs.Refused.{why_of}
use Rattle.decode.proofs.Refusals.{some-refusal}
use Rattle.decode.specs.Scan.{Decoding, over}
use Rattle.decode.specs.Whole.{Ends as Stops, cut_short, malformed, unknown, Decodes}
use Rattle.text.specs.Faults.{every, Breaks}
use Rattle.text.specs.Utf8.{known as alphabet}
use Rattle.text.specs.Stages.{at_byte, plainly}
use Rattle.text.specs.declared.BytePlace.{BytePlace}
use Rattle.text.specs.declared.Diagnostic.{Diagnostic}
use Rattle.text.proofs.Faults.{break-of}
use Rattle.load.specs.Loaded.{places_of}
use Rattle.answer.specs.Answer.{Job}
use Rattle.decode.proofs.Answers.{Known, Tells, tells-of, tells-cut, tells-malformed, tells-unknown, told}
use Rattle.std.specs.Prelude.{Ok, Err}
use Rattle.opening.specs.Stages.{Got, Takes}

module _ (bs old new : List ℕ) (r : Decoding) (w : Decodes bs 0 old r new) where
  pub not_taken : (e : DecodeError) → r ≡ Err e → Takes bs new (Err (why_of 12 13 e))
  not_taken e q = go (subst (Stops bs 0) q w.answer) (subst (Tells (decode bs)) q (told bs 0 w).tells) (some-refusal 11 12 e)
    where
      at : (f : ℕ → Bool) (n : ℕ) (p : BytePlace) → Breaks f bs 0 p.0 → (j : Job) → j.input ≡ bs
          → places_of (at_byte n p).places ≡ record { byte = break_of f j.input 0; fault = 0; grammar = 0 }
      at f n p b j q =
          let e : break_of f j.input 0 ≡ p.0 = ap (λ (x : List ℕ). break_of f x 0) q ∙ break-of f bs 0 p.0 b in
          λ ι. record { byte = sym e ι; fault = 0; grammar = 0 }

      go : {e : DecodeError} → Stops bs 0 (Err e) → Tells (decode bs) (Err e) → ((why_of 12 13 e).number ≡ 0 → ⊥) → Takes bs new (Err (why_of 12 13 e))
      go (cut_short {p = p} b c) (tells-cut x) z =
          λ need j q. record { some = z; early = inl (omega arith); is = λ ts. stage-12 need j ts (ap decode q ∙ x); places = at every 12 p b j q }
      go (malformed {p = p} b c) (tells-malformed x) z =
          λ need j q. record { some = z; early = inl (omega arith); is = λ ts. stage-12 need j ts (ap decode q ∙ x); places = at every 12 p b j q }
      go (unknown {p = p} cs v b) (tells-unknown x) z =
          λ need j q. record {
            some = z;
            early = inl (omega arith);
            is = λ ts. stage-13 need j ts x.chars (ap decode q ∙ x.is) x.outside;
            places = at alphabet 13 p b j q;
          }

  module _ (k : CharPlace) (e : r ≡ Ok k) where
    known : Known (decode bs) k.0
    known = go (told bs 0 w).tells e
      where
        go : {d : Decoding} → Tells (decode bs) d → d ≡ Ok k → Known (decode bs) k.0
        go (tells-of {k = n} x) q = let p : k ≡ n = cc in record { chars = x.chars; is = x.is; within = x.within; count = ap (λ (z : CharPlace). z.0) p ∙ x.count }
        go (tells-cut x) q = absurd (let z : ◌≡◌ {A = ℕ} 0 1 = cc in omega arith)
        go (tells-malformed x) q = absurd (let z : ◌≡◌ {A = ℕ} 0 1 = cc in omega arith)
        go (tells-unknown x) q = absurd (let z : ◌≡◌ {A = ℕ} 0 1 = cc in omega arith)

    pub too_many : (n : Diagnostic) → n ≡ plainly 14 → record_chars < k.0 → Takes bs new (Err n)
    too_many n u h =
        rw u (λ need j q. record {
          some = λ e. omega arith;
          early = inl (omega arith);
          is = λ ts. stage-14 need j ts known.chars (ap decode q ∙ known.is) known.within (let c = known.count in omega arith);
          places = refl;
        })

    pub taken : k.0 ≤ record_chars → length old ≡ record_chars → Takes bs new (Ok k)
    taken h l =
        let c : k.0 ≡ length known.chars = known.count in
        let s : new ≡ over known.chars old = (told bs 0 w).stored known.chars known.is in
        let t : take (length old) known.chars ≡ known.chars = take_all (length old) known.chars (omega arith) in
        record {
          chars = known.chars;
          decoded = known.is;
          within = known.within;
          short = omega arith;
          count = c;
          stored = ap (take k.0) s ∙ ap (λ (l : Text). take k.0 (l ++ drop (length known.chars) old)) t ∙ take_at known.chars (drop (length known.chars) old) k.0 (sym c);
        }

-- the characters lie in the buffer
pub got_in : {bs new : List ℕ} {n : ℕ} → Got bs new n → n ≤ length new
got_in {bs} {new} {n} w = let a = ap length w.stored in omega (arith, length-take n new, w.count)

pub got-part : {bs new : List ℕ} {n : ℕ} → Got bs new n → n ≡ length (take n new)
got-part w = w.count ∙ sym (ap length w.stored)
