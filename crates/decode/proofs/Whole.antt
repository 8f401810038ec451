-- A whole text, from two scans, UTF-8 first, then the alphabet; or from one, where all is of the alphabet.
use Rattle.std.specs.Prelude.{Ok, Err}
use mathlib.Core.Path.{◌≡◌, refl, sym, ap, ◌∙◌}
use mathlib.Core.Bool.{Bool, true, false}
use mathlib.Core.List.{List, [], ◌∷◌, ◌++◌, append-nil}
use Prim.Native.Nat.{ℕ, ◌<◌}
use native.Mathlib.Omega.{arith}
use lib.ListN.{length, drop, length-append}
use Rattle.text.specs.Lists.{Text, all}
use Rattle.text.specs.Utf8.{Scalar, utf8, utf8s, All, none, more, Utf8, known}
use Rattle.text.specs.Decode.{got, cut, bad, char_of}
use Rattle.text.specs.Faults.{Fits, every, Breaks}
use Rattle.text.proofs.Tests.{clash}
use Rattle.text.proofs.Step.{step-sound}
use Rattle.text.proofs.Decode.{some_bytes, utf8-unique}
use Rattle.text.proofs.Faults.{first-same, none-cut, none-bad, scalars, passing, fitting, past, one-break, not-both}
use Rattle.decode.specs.declared.DecodeError.{DecodeError}
use Rattle.text.specs.declared.BytePlace.{BytePlace}
use Rattle.text.specs.declared.CharPlace.{CharPlace}
use Rattle.decode.specs.declared.DecodeError.TheVariants.{CutShort, Malformed, Unknown}
use Rattle.decode.specs.Scan.{Decoding, over, Stopped, at-end, at_cut, at-bad, at-unfit, Scans}
use Rattle.decode.specs.Whole.{Ends, of, cut_short, malformed, unknown, Decodes}
use Rattle.decode.proofs.Cuts.{cut_step, step_cut}
use Rattle.decode.proofs.Scans.{over-nil}

all-every : (cs : Text) → all every cs ≡ true
all-every [] = refl
all-every (c ∷ cs) = all-every cs

any-fits : {f : ℕ → Bool} {cs : Text} → All (Fits f) cs → All (Fits every) cs
any-fits none = none
any-fits (more p ps) = more (record { scalar = p.scalar; passes = refl }) (any-fits ps)

-- UTF-8 breaks nowhere
pub not-broken : (bs : List ℕ) (from p : ℕ) (cs : Text) → Utf8 (drop from bs) cs → Breaks every bs from p → ⊥
not-broken bs from p cs u b = not-both every bs from p (record { chars = cs; fits = fitting every cs u.scalars (all-every cs); spelt = u.spelt }) b

-- nor does a text of the alphabet break that
pub not-strange : (bs : List ℕ) (from p : ℕ) (cs : Text) → Utf8 (drop from bs) cs → all known cs ≡ true → Breaks known bs from p → ⊥
not-strange bs from p cs u k b = not-both known bs from p (record { chars = cs; fits = fitting known cs u.scalars k; spelt = u.spelt }) b

-- characters stored again
over-again : (b d : Text) (old : List ℕ) → over b (over (b ++ d) old) ≡ over (b ++ d) old
over-again [] d old = sym (over-nil (over d old))
over-again (c ∷ b) d [] = refl
over-again (c ∷ b) d (o ∷ old) = ap (◌∷◌ c) (over-again b d old)

module _ {f : ℕ → Bool} {bs : List ℕ} {from : ℕ} {old new : List ℕ} {r : Decoding} (w : Scans f bs from old r new) where
  -- where the step takes nothing, UTF-8 breaks
  broken : 0 < length (drop w.place bs) → ((c : ℕ) (t : List ℕ) → Scalar c → drop w.place bs ≡ utf8 c ++ t → ⊥) → Breaks every bs from w.place
  broken l n = record {
    before = w.chars;
    rest = drop w.place bs;
    fits = any-fits w.fits;
    spelt = w.spelt;
    counts = w.counts;
    some = l;
    stops = λ c t p e. n c t p.scalar e;
  }

  cut-here : 0 < length (drop w.place bs) → char_of (drop w.place bs) ≡ cut → Breaks every bs from w.place
  cut-here l e = broken l (none-cut (drop w.place bs) e)

  bad-here : 0 < length (drop w.place bs) → char_of (drop w.place bs) ≡ bad → Breaks every bs from w.place
  bad-here l e = broken l (none-bad (drop w.place bs) e)

  -- where it takes a character that does not fit, the pattern
  unfit-here : (c k : ℕ) (t : List ℕ) → char_of (drop w.place bs) ≡ got c k t → f c ≡ false → Breaks f bs from w.place
  unfit-here c k t e n =
      let s = step-sound (drop w.place bs) c k t e in
      record {
        before = w.chars;
        rest = drop w.place bs;
        fits = w.fits;
        spelt = w.spelt;
        counts = w.counts;
        some = omega (arith, ap length s.spelt, length-append (utf8 c) t, some_bytes c);
        stops = λ d u p q. clash n (ap f (first-same c d t u s.scalar p.scalar (sym s.spelt ∙ q)).0 ∙ p.passes);
      }

  -- read to the end
  to_end : drop w.place bs ≡ [] → Utf8 (drop from bs) w.chars
  to_end e = record { scalars = scalars w.fits; spelt = w.spelt ∙ ap (◌++◌ (utf8s w.chars)) e ∙ append-nil (utf8s w.chars) }

-- a fault of UTF-8
module _ {bs : List ℕ} {from : ℕ} {old new : List ℕ} {r : Decoding} (w : Scans every bs from old r new) where
  left : List ℕ
  left = drop w.place bs

  faults : {d : Decoding} → Stopped every (length w.chars) w.place left d → (x : DecodeError) → d ≡ Err x → Ends bs from d × Breaks every bs from w.place
  unfolding left
  faults (at-end e l) x h = absurd (let z : ◌≡◌ {A = ℕ} 0 1 = cc in omega arith)
  faults (at_cut {q = p} e l q) x h = let b = cut-here w l q in (cut_short {p = p} (rw e b) (rw e (step_cut left l q)), b)
  faults (at-bad {q = p} e l q) x h =
      let b = bad-here w l q in
      (malformed {p = p} (rw e b) (rw e (λ y. let z : cut ≡ bad = sym (cut_step left y) ∙ q in let u : ◌≡◌ {A = ℕ} 0 1 = cc in omega arith)), b)
  faults (at-unfit e q n) x h = absurd (clash n refl)

  pub refused : (e : DecodeError) → r ≡ Err e → Decodes bs from old r new
  unfolding left
  refused e h =
      let x = faults w.stopped e h in
      record { answer = x.0; stored = λ cs u. absurd (not-broken bs from w.place cs u x.1) }

  -- none
  pub utf8-read : (k : CharPlace) → r ≡ Ok k → Utf8 (drop from bs) w.chars
  unfolding left
  utf8-read k q = go w.stopped q
    where
      go : {d : Decoding} → Stopped every (length w.chars) w.place left d → d ≡ Ok k → Utf8 (drop from bs) w.chars
      go (at-end e l) f = to_end w l
      go (at_cut e l q) f = absurd (let z : ◌≡◌ {A = ℕ} 0 1 = cc in omega arith)
      go (at-bad e l q) f = absurd (let z : ◌≡◌ {A = ℕ} 0 1 = cc in omega arith)
      go (at-unfit e q n) f = absurd (clash n refl)

-- then the alphabet
module _ {bs : List ℕ} {from : ℕ} {old mid new : List ℕ} {k : Decoding} {r : Decoding} (x : Scans every bs from old k mid) (n : CharPlace) (q : k ≡ Ok n)
    (w : Scans known bs from mid r new) where
  text : Utf8 (drop from bs) x.chars
  text = utf8-read x n q

  ends : {d : Decoding} → Stopped known (length w.chars) w.place (drop w.place bs) d → Ends bs from d
  ends (at-end e l) = of w.chars (to_end w l) (passing w.fits) e
  ends (at_cut e l q) = absurd (not-broken bs from w.place x.chars text (cut-here w l q))
  ends (at-bad e l q) = absurd (not-broken bs from w.place x.chars text (bad-here w l q))
  ends (at-unfit {q = p} {c = c} {k = k} {t = t} e q n) = unknown {p = p} x.chars text (rw e (unfit-here w c k t q n))

  pub decoded : Decodes bs from old r new
  decoded =
      let p = past w.chars x.chars (drop w.place bs) (scalars w.fits) text.scalars (sym w.spelt ∙ text.spelt) in
      record {
        answer = ends w.stopped;
        stored = λ ds u.
            let e : ds ≡ w.chars ++ p.after = utf8-unique (drop from bs) ds x.chars u text ∙ p.is in
            w.stored ∙ rw (x.stored, p.is, e) (over-again w.chars p.after old);
      }

-- characters stored before more of them
over-more : (b d : Text) (old : List ℕ) → over (b ++ d) (over b old) ≡ over (b ++ d) old
over-more [] d old = ap (over d) (sym (over-nil old))
over-more (c ∷ b) d [] = refl
over-more (c ∷ b) d (o ∷ old) = ap (◌∷◌ c) (over-more b d old)

-- one scan for the alphabet: it reads all, or another stage begins anew
module _ {bs : List ℕ} {from : ℕ} {old mid : List ℕ} {k : Decoding} (w : Scans known bs from old k mid) where
  pub at_once : (n : CharPlace) → k ≡ Ok n → Decodes bs from old k mid
  at_once n q = go w.stopped q
    where
      go : {d : Decoding} → Stopped known (length w.chars) w.place (drop w.place bs) d → d ≡ Ok n → Decodes bs from old d mid
      go (at-end e l) f =
          let u = to_end w l in
          record {
            answer = of w.chars u (passing w.fits) e;
            stored = λ ds v. w.stored ∙ ap (λ (t : Text). over t old) (utf8-unique (drop from bs) w.chars ds u v);
          }
      go (at_cut e l q) f = absurd (let z : ◌≡◌ {A = ℕ} 0 1 = cc in omega arith)
      go (at-bad e l q) f = absurd (let z : ◌≡◌ {A = ℕ} 0 1 = cc in omega arith)
      go (at-unfit e q m) f = absurd (let z : ◌≡◌ {A = ℕ} 0 1 = cc in omega arith)

  pub anew : {new : List ℕ} {r : Decoding} → Decodes bs from mid r new → Decodes bs from old r new
  anew D = record {
    answer = D.answer;
    stored = λ cs u.
        let p = past w.chars cs (drop w.place bs) (scalars w.fits) u.scalars (sym w.spelt ∙ u.spelt) in
        D.stored cs u ∙ rw (w.stored, p.is) (over-more w.chars p.after old);
  }

-- a text has one answer
same-char : (p q : CharPlace) → p.0 ≡ q.0 → p ≡ q
same-char p q e = λ ι. record { 0 = e ι }

same_byte : (p q : BytePlace) → p.0 ≡ q.0 → p ≡ q
same_byte p q e = λ ι. record { 0 = e ι }

module _ (bs : List ℕ) (from : ℕ) where
  pub one_answer : {r s : Decoding} → Ends bs from r → Ends bs from s → r ≡ s
  one_answer (of {n = n} cs u k e) (of {n = m} ds v l f) = ap Ok (same-char n m (e ∙ ap length (utf8-unique (drop from bs) cs ds u v) ∙ sym f))
  one_answer (of cs u k e) (cut_short {p = p} b c) = absurd (not-broken bs from p.0 cs u b)
  one_answer (of cs u k e) (malformed {p = p} b c) = absurd (not-broken bs from p.0 cs u b)
  one_answer (of cs u k e) (unknown {p = p} ds v b) = absurd (not-strange bs from p.0 cs u k b)
  one_answer (cut_short {p = p} b c) (of cs u k e) = absurd (not-broken bs from p.0 cs u b)
  one_answer (cut_short {p = p} b c) (cut_short {p = q} d f) = ap (λ (z : BytePlace). Err (CutShort z)) (same_byte p q (one-break every bs from p.0 q.0 b d))
  one_answer (cut_short {p = p} b c) (malformed {p = q} d f) = absurd (f (rw (one-break every bs from p.0 q.0 b d) at c))
  one_answer (cut_short {p = p} b c) (unknown ds v d) = absurd (not-broken bs from p.0 ds v b)
  one_answer (malformed {p = p} b c) (of cs u k e) = absurd (not-broken bs from p.0 cs u b)
  one_answer (malformed {p = p} b c) (cut_short {p = q} d f) = absurd (c (rw (one-break every bs from q.0 p.0 d b) at f))
  one_answer (malformed {p = p} b c) (malformed {p = q} d f) = ap (λ (z : BytePlace). Err (Malformed z)) (same_byte p q (one-break every bs from p.0 q.0 b d))
  one_answer (malformed {p = p} b c) (unknown ds v d) = absurd (not-broken bs from p.0 ds v b)
  one_answer (unknown {p = p} cs u b) (of ds v k e) = absurd (not-strange bs from p.0 ds v k b)
  one_answer (unknown cs u b) (cut_short {p = q} d f) = absurd (not-broken bs from q.0 cs u d)
  one_answer (unknown cs u b) (malformed {p = q} d f) = absurd (not-broken bs from q.0 cs u d)
  one_answer (unknown {p = p} cs u b) (unknown {p = q} ds v d) = ap (λ (z : BytePlace). Err (Unknown z)) (same_byte p q (one-break known bs from p.0 q.0 b d))
