-- From the judgment and the writer's answer to the conclusion.
use mathlib.Core.Bool.{Bool, true, false, true≢false}
use mathlib.Core.Path.{◌≡◌, refl, sym, ◌∙◌, subst}
use mathlib.Core.Logic.{inr, ⊎_elim}
use mathlib.Core.List.{List}
use Prim.Native.Nat.{ℕ, ◌*◌, ◌<◌, ◌≤◌}
use native.Mathlib.Omega.{arith}
use lib.ListN.{length}
use Rattle.std.specs.Prelude.{Option, Result, Ok, Err, is_ok, ok_or, ⊤}
use Rattle.text.specs.Lists.{Text}
use Rattle.text.proofs.Tests.{split}
use Rattle.tree.specs.Tree.{Grammar}
use Rattle.derive.specs.Derive.{Row, root}
use Rattle.xml.specs.Document.{document, mark_of, twice, misnamed, unwritable, is_attribute, not_one, namespaced}
use Rattle.xml.specs.Bytes.{bytes}
use Rattle.left_parse.specs.Noted.{Noted, Parsed, Room}
use Rattle.writer.specs.Whole.{Job, SomeJob, Writable, Answered}
use Rattle.extent.specs.Extent.{Covers}
use Rattle.dynamic_errors.specs.declared.DynamicError.{DynamicError}
use Rattle.dynamic_errors.specs.declared.Review.{Review}
use Rattle.dynamic_errors.specs.Judgment.{topmost, judgment_of, verdict_number, Judged}
use Rattle.convert.specs.declared.ConvertError.{ConvertError}
use Rattle.convert.specs.declared.ConvertError.TheVariants.{TooLong}
use Rattle.convert.specs.Concluded.{refusal_number, Parsing, Ready, Annotated, Written, NotWritten, Concludes}

-- where no line applies, no test holds
record Clear (t m u b : Bool) : Type 0 where
  names : m ≡ false
  chars : u ≡ false
  one : b ≡ false

clear : (t m u a b n : Bool) → topmost t m u a b n ≡ 0 → Clear t m u b
clear true m u a b n e = absurd (let z : ◌≡◌ {A = ℕ} 17 0 = e in omega arith)
clear false true u a b n e = absurd (let z : ◌≡◌ {A = ℕ} 18 0 = e in omega arith)
clear false false true a b n e = absurd (let z : ◌≡◌ {A = ℕ} 19 0 = e in omega arith)
clear false false false true b n e = absurd (let z : ◌≡◌ {A = ℕ} 20 0 = e in omega arith)
clear false false false false true n e = absurd (let z : ◌≡◌ {A = ℕ} 21 0 = e in omega arith)
clear false false false false false n e = record { names = refl; chars = refl; one = refl }

writable : (g : Grammar) (r : Text) (t : Row) → judgment_of g r t ≡ 0 → Writable g r t
writable g r t e =
    let d = document g r t in
    let w = clear (twice d) (misnamed d) (unwritable d) (is_attribute (mark_of g (root g))) (not_one d) (namespaced d) e in
    record { names = w.names; chars = w.chars; one = w.one }

-- what is promised of an answer, by its case
module _ (g : Grammar) (r : Text) (t : Row) (a m : Bool) (old new : List ℕ) where
  abbrev Promised : Result ℕ ConvertError → Type 0
  Promised (Ok n) = Written (bytes a m (document g r t)) (judgment_of g r t) old new n
  Promised (Err e) = NotWritten (bytes a m (document g r t)) (judgment_of g r t) old new (refusal_number e)

  promised : (v : Result ℕ ConvertError) → Promised v → Concludes g r t a m old new v
  promised v h = record { written = λ n e. subst Promised e h; not_written = λ f e. subst Promised e h }

module _ {T : List ℕ} {root : ℕ} {P : List ℕ} {r : Text} where
  pub room : {S : List ℕ} → Ready T root P r → 2 * length P ≤ length S → Room T P S
  room w l = record { table = omega (arith, w.table); list = omega (arith, w.few); scratch = l }

  pub parsed-some : Ready T root P r → (g : Grammar) × (q : Text) × (t : Row) × Parsed T root P g q t
  parsed-some w = (w.g, r, w.t, w.parsing.parsed)

  pub annotated : {S : List ℕ} → Ready T root P r → 2 * length P ≤ length S → ((g : Grammar) (q : Text) (t : Row) → Parsed T root P g q t → Noted S 0 t) → Annotated T root P r S
  annotated w l n = record { room = room w l; g = w.g; t = w.t; parsing = w.parsing; noted = n }

  job_of : {g : Grammar} {t : Row} {S : List ℕ} → Parsing T root P r g t → Noted S 0 t → Job T root P r S g t
  job_of p n = record { parsed = p.parsed; noted = n; tokens = p.tokens }

  module _ {S : List ℕ} (notes : (g : Grammar) (q : Text) (t : Row) → Parsed T root P g q t → Noted S 0 t) where
    its-job : {g : Grammar} {t : Row} → Parsing T root P r g t → Job T root P r S g t
    its-job {g} {t} p = job_of p (notes g r t p.parsed)

    pub some-job : Annotated T root P r S → SomeJob T root P r S
    some-job w = record { g = w.g; t = w.t; job = its-job w.parsing }

    module _ {S' : List ℕ} {v : Review} (j : Judged T root P r S S' v) where
      later-job : {g : Grammar} {t : Row} → Parsing T root P r g t → Job T root P r S' g t
      later-job {g} {t} p = subst (λ (x : List ℕ). Job T root P r x g t) (sym j.kept) (its-job p)

      pub room-later : Annotated T root P r S → Room T P S'
      room-later w = subst (λ (x : List ℕ). Room T P x) (sym j.kept) w.room

      pub some-later : Annotated T root P r S → SomeJob T root P r S'
      some-later w = record { g = w.g; t = w.t; job = later-job w.parsing }

      module _ (g : Grammar) (t : Row) (a m : Bool) (old : List ℕ) (p : Parsing T root P r g t) where
        module _ (z : true ≡ is_ok v.verdict) (new : List ℕ) (x : Option ℕ)
            (w : Job T root P r S' g t → Writable g r t → Covers v.extent (document g r t) → Answered (bytes a m (document g r t)) old new x) where
          allowed : judgment_of g r t ≡ 0
          allowed = sym (j.is g t (its-job p)) ∙ none v.verdict z
            where
              none : (w : Result ⊤ DynamicError) → true ≡ is_ok w → verdict_number w ≡ 0
              none (Ok u) e = refl
              none (Err f) e = absurd (true≢false e)

          answered : Answered (bytes a m (document g r t)) old new x
          answered = w (later-job p) (writable g r t allowed) (j.covers g t (its-job p))

          pub concluded : Concludes g r t a m old new (ok_or x TooLong)
          concluded = ⊎_elim
              (λ (l : length old < length (bytes a m (document g r t))). (let v = answered.long l in
              rw v.0 (promised g r t a m old new (Err TooLong) (record { why = inr (allowed, refl, l); buffer = v.1 }))))
              (λ (l : length (bytes a m (document g r t)) ≤ length old). (let v = answered.fits l in
              rw v.0 (promised g r t a m old new (Ok (length (bytes a m (document g r t)))) (record { allowed = allowed; count = refl; fits = l; buffer = v.1 }))))
              (split (length old) (length (bytes a m (document g r t))))
