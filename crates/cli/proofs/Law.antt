-- What is written follows from what is seen of two files.
use mathlib.Core.Bool.{Bool}
use mathlib.Core.Logic.{inl, inr, ⊎_elim}
use mathlib.Core.Path.{◌≡◌, refl, sym, subst, ◌∙◌}
use mathlib.Core.List.{List, [], ◌∷◌}
use Prim.Native.Nat.{ℕ, ◌≤◌, ◌<◌}
use native.Mathlib.Omega.{arith}
use lib.Dec.{T, leb, leb→le}
use lib.ListN.{length, take, replicate, length-take}
use lib.Seq.{take_all}
use borrow.Author.Tests.{lt-ltb, le-ltb}
use Rattle.text.specs.Limits.{record_chars, grammar_bytes, grammar_table, file_bytes, program_bytes, program_table}
use Rattle.text.specs.Lists.{Text, all}
use Rattle.text.proofs.Tests.{split, and_left, and_right, clash}
use Rattle.viable.specs.Fault.{FaultAt}
use Rattle.answer.proofs.Lines.{unapplied}
use Rattle.answer.specs.Answer.{of_job, input_lines, reading_lines, Note, Noted, Places, place_notes, job_notes, Line}
use Rattle.answer.specs.Answer.{Topmost, Job, Answer, Converts, grammar_lines, record_lines, document_lines, too_long, as_xml}
use Rattle.answer.specs.Compute.{convert_of}
use Rattle.answer.specs.Program.{File, unreadable, bytes, shows, program_job, Writes, no-grammar, no_record, long-record, job}
use Rattle.answer.proofs.Settled.{convert-settled, convert-answers}
use Rattle.std.specs.Prelude.{IfSome, Option, None, Some, option_map}
use Rattle.std.specs.Io.KnownBytes.{Appends}
use Rattle.cli.specs.Output.{Behind, fails, has_bytes, unknown, Answered, Seen, shut, begins, Written, no_file, long_file, asked_bytes, job_outcome, job_text, Shows, Holds, Replies}

-- no line's number is above m, so neither is the topmost that applies
topmost-below : (m n : ℕ) (ls : List Line) → T (all (λ l. leb l.number m) ls) → Topmost ls n → n ≤ m
topmost-below m n [] h t = omega arith
topmost-below m n (l ∷ ls) h t =
    ⊎_elim
    (λ p. let k = leb→le l.number m (and_left (leb l.number m) (all (λ l. leb l.number m) ls) h) in omega (arith, p.1))
    (λ p. topmost-below m n ls (and_right (leb l.number m) (all (λ l. leb l.number m) ls) h) p.1)
    t

-- converting's numbers have at most two digits
pub two-places : (j : Job) (old : List ℕ) (a : Answer) (new : List ℕ) → Converts j old a new → a.number < 100
two-places j old a new c =
    let k = topmost-below 29 a.number (grammar_lines j.grammar (record_lines j (document_lines j (too_long j as_xml old ∷ [])))) tt c.number in omega arith

-- the place of the fault has at most three digits: it is in a record that is not too long
pub three-places : (j : Job) (old : List ℕ) (a : Answer) (new : List ℕ) → Converts j old a new → a.places.fault < 1000
three-places j old a new c = ⊎_elim short (λ z. omega (arith, z.1)) c.places.fault
  where
    short : (a.number ≡ 16) × of_job j (λ g r. FaultAt g r a.places.fault) → a.places.fault < 1000
    short x =
        let ls = document_lines j (too_long j as_xml old ∷ []) in
        let t = subst (Topmost (grammar_lines j.grammar (record_lines j ls))) x.0 c.number in
        let u = unapplied (grammar_lines j.grammar (input_lines j [])) (reading_lines j ls) 16 tt t in
        let f = x.1 in
        ⊎_elim (λ l. absurd (u.1.1.1.1.1.1.1.1.1.1.1.1.1.1.0 (f.1, f.2.1, l))) (λ l. omega (arith, f.3.inside)) (split record_chars (length f.1))

-- a number without a note has the place 0
abbrev Apart : ℕ → List Note → Type 0
Apart n [] = Unit {0}
Apart n (x ∷ xs) = (n ≡ x.number → ⊥) × Apart n xs

no_place : (xs ys : List Note) (n p : ℕ) → Apart n xs → Apart n ys → Noted xs n p → Noted ys n p
no_place (x ∷ xs) ys n p a b (inl q) = absurd (a.0 q.0)
no_place (x ∷ xs) ys n p a b (inr q) = no_place xs ys n p a.1 b q.1
no_place [] [] n p a b q = q
no_place [] (y ∷ ys) n p a b q = inr (b.0, no_place [] ys n p a b.1 q)

-- of a grammar over 4,096 bytes no more is asked than that
pub long-grammar : (g h r old : List ℕ) (a : Answer) (new : List ℕ) → grammar_bytes < length g → grammar_bytes < length h
    → Converts (program_job g r) old a new → Converts (program_job h r) old a new
long-grammar g h r old a new k l c =
    let e : a.number ≡ 1 = ⊎_elim (λ p. p.1) (λ p. absurd (p.0 k)) c.number in
    record {
      number = inl (l, e);
      answered = λ z. absurd (omega (arith, e, z));
      refused = c.refused;
      version = (
        λ t. ⊎_elim (λ z. absurd (omega (arith, e, z))) (λ z. absurd (omega (arith, e, z))) (c.version.0 t).0,
        λ x.
            ⊎_elim (λ z. absurd (omega (arith, e, z))) (λ z. absurd (omega (arith, e, z))) x.0,
      );
      places = record {
        byte = no_place (job_notes (program_job g r)).bytes (job_notes (program_job h r)).bytes a.number a.places.byte (apart e) (apart e) c.places.byte;
        fault = no_place (job_notes (program_job g r)).faults (job_notes (program_job h r)).faults a.number a.places.fault (λ z. omega (arith, e, z), tt) (λ z. omega (arith, e, z), tt)
            c.places.fault;
        grammar = no_place (place_notes g) (place_notes h) a.number a.places.grammar (unplaced g e) (unplaced h e) c.places.grammar;
      };
    }
  where
    unplaced : (bs : List ℕ) → a.number ≡ 1 → Apart a.number (place_notes bs)
    unplaced bs e = (λ z. omega (arith, e, z), (λ z. omega (arith, e, z), (λ z. omega (arith, e, z), (λ z. omega (arith, e, z), (λ z. omega (arith, e, z), (λ z. omega (arith, e, z), tt))))))

    apart : a.number ≡ 1 → (a.number ≡ 2 → ⊥) × ((a.number ≡ 3 → ⊥) × ((a.number ≡ 12 → ⊥) × ((a.number ≡ 13 → ⊥) × Unit {0})))
    apart e = (λ z. omega (arith, e, z), (λ z. omega (arith, e, z), (λ z. omega (arith, e, z), (λ z. omega (arith, e, z), tt))))

pub long-computed : (g h r old : List ℕ) → grammar_bytes < length g → grammar_bytes < length h → convert_of (program_job g r) old ≡ convert_of (program_job h r) old
unfolding convert_of
long-computed g h r old k l = rw (lt-ltb grammar_bytes (length g) k, lt-ltb grammar_bytes (length h) l)

-- the first 4,097 bytes tell whether there are more than 4,096, and else are all of them
seen-long : (bs : List ℕ) → file_bytes < length (take asked_bytes bs) → file_bytes < length bs
seen-long bs h = let e = length-take asked_bytes bs in omega arith

seen_all : (bs : List ℕ) → length (take asked_bytes bs) ≤ file_bytes → take asked_bytes bs ≡ bs
seen_all bs h = take_all asked_bytes bs (let e = length-take asked_bytes bs in omega arith)

-- any bytes that fit are seen of some file
pub some-file : (xs : List ℕ) → length xs ≤ asked_bytes → Seen (bytes xs) (Some xs)
some-file xs h = begins (sym (take_all asked_bytes xs h))

-- a file stands behind a reader, of which is seen what was read of it
pub record Stands (known xs : Option (List ℕ)) : Type 0 where
  pub file : File
  pub behind : Behind known file
  pub seen : Seen file xs

pub stands : (known : Option (List ℕ)) (count : Option ℕ) (buf : List ℕ) → length buf ≤ asked_bytes
    → IfSome known (λ bs. IfSome count (λ n. take n buf ≡ take asked_bytes bs)) → Stands known (option_map (λ n. take n buf) count)
stands known None buf h e = record { file = unreadable; behind = fails; seen = shut }
stands None (Some n) buf h e = record { file = bytes (take n buf); behind = unknown; seen = some-file (take n buf) (let l = length-take n buf in omega arith) }
stands (Some bs) (Some n) buf h e = record { file = bytes bs; behind = has_bytes; seen = begins e }

-- what is replied is written for the files behind the readers
pub answered : {first second old new g r : Option (List ℕ)} {out : List ℕ} {n : ℕ}
    → Stands first g → Stands second r → Replies g r out n → Appends old new (take n out) → Answered first second old new
answered {out = out} {n = n} s t w a = record {
  grammar = s.file;
  input = t.file;
  text = take n out;
  behind_first = s.behind;
  behind_second = t.behind;
  writes = w.written s.file t.file s.seen t.seen;
  appended = a;
}

-- the four things that may be written
pub unreadable-grammar : (r : Option (List ℕ)) → Written None r no_file
unreadable-grammar r f e shut t = no-grammar

pub unreadable-record : (g : List ℕ) → Written (Some g) None no_file
unreadable-record g f e (begins x) shut = no_record

pub record-too-long : (g r : List ℕ) → file_bytes < length r → Written (Some g) (Some r) long_file
record-too-long g r h f e (begins x) (begins {bs = ds} y) = long-record (lt-ltb file_bytes (length ds) (seen-long ds (subst (λ (xs : List ℕ). file_bytes < length xs) y h)))

-- the job of the bytes seen is the job of the files
same-grammar : (gs r old : List ℕ) (a : Answer) (new : List ℕ) → Converts (program_job (take asked_bytes gs) r) old a new → Converts (program_job gs r) old a new
same-grammar gs r old a new c =
    ⊎_elim
    (λ l. long-grammar (take asked_bytes gs) gs r old a new l (seen-long gs l) c)
    (λ l. subst (λ (xs : List ℕ). Converts (program_job xs r) old a new) (seen_all gs l) c)
    (split grammar_bytes (length (take asked_bytes gs)))

pub job-written : (g r : List ℕ) (a : Answer) (new : List ℕ) → length r ≤ file_bytes → Converts (program_job g r) (replicate program_bytes 0) a new → Written (Some g) (Some r) (shows a new)
job-written g r a new h c f e (begins {bs = gs} x) (begins {bs = rs} y) =
    let k : length (take asked_bytes rs) ≤ file_bytes = subst (λ (xs : List ℕ). length xs ≤ file_bytes) y h in
    let z : r ≡ rs = y ∙ seen_all rs k in
    let d : Converts (program_job (take asked_bytes gs) rs) (replicate program_bytes 0) a new = subst
    (λ (xs : List ℕ). Converts (program_job xs rs) (replicate program_bytes 0) a new) x
    (subst (λ (xs : List ℕ). Converts (program_job g xs) (replicate program_bytes 0) a new) z c) in
    job (le-ltb file_bytes (length rs) (subst (λ (xs : List ℕ). length xs ≤ file_bytes) z h)) (same-grammar gs rs (replicate program_bytes 0) a new d)

-- the same, of the answer that is computed
pub computed-written : (g r : List ℕ) → length r ≤ file_bytes → Written (Some g) (Some r) (job_text g r)
computed-written g r h = job-written g r (job_outcome g r).answer (job_outcome g r).buffer h (convert-answers (program_job g r) (replicate program_bytes 0))

-- for two files exactly one text is written
pub one-text : {f e : File} {x y : Text} → Writes f e x → Writes f e y → x ≡ y
one-text no-grammar no-grammar = refl
one-text no_record no_record = refl
one-text (long-record h) (long-record k) = refl
one-text (long-record h) (job k c) = absurd (clash (sym h ∙ k) refl)
one-text (job k c) (long-record h) = absurd (clash (sym h ∙ k) refl)
one-text (job {g = g} {r = r} {new = m} {a = a} k c) (job {new = n} {a = b} l d) =
    let p = convert-settled (program_job g r) (replicate program_bytes 0) a m c in
    let q = convert-settled (program_job g r) (replicate program_bytes 0) b n d in
    λ ι. shows ((p.0 ∙ sym q.0) ι) ((p.1 ∙ sym q.1) ι)

-- an answer of converting, shown, where the program lends its tables and an empty buffer
module _ {g r old xml new : List ℕ} {s t n l k : ℕ} {m v : Bool} {p : Places} where
  pub job-shown : s ≡ program_table → t ≡ grammar_table → old ≡ replicate program_bytes 0
      → Converts (record { grammar = g; input = r; main_table = s; second_table = t }) old
      (record { number = n; length = l; ambiguous = m; version = v; places = p }) xml → Shows n l v p.fault xml new k
      → Holds (job_text g r) new k
  job-shown es et eo c w =
      let d : Converts (program_job g r) (replicate program_bytes 0) (record { number = n; length = l; ambiguous = m; version = v; places = p }) xml = rw (es, et, eo) at c in
      let u = convert-settled (program_job g r) (replicate program_bytes 0) (record { number = n; length = l; ambiguous = m; version = v; places = p }) xml d in
      record {
        fits = w.fits;
        holds = w.holds (two-places (program_job g r) (replicate program_bytes 0) (record { number = n; length = l; ambiguous = m; version = v; places = p }) xml d)
            (three-places (program_job g r) (replicate program_bytes 0) (record { number = n; length = l; ambiguous = m; version = v; places = p }) xml d) ∙ (λ ι. shows (u.0 ι) (u.1 ι));
      }

-- a text that is held is what is replied
pub replies : {g r : Option (List ℕ)} {new : List ℕ} {text : Text} {n : ℕ} → Holds text new n → Written g r text → Replies g r new n
replies h w = record { fits = h.fits; written = rw h.holds w }
