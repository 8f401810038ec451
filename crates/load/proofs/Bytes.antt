-- From bytes: what the decoder's answers say of the tests, and the whole stage.
use Rattle.std.specs.Prelude.{Ok, Err}
use mathlib.Core.Bool.{Bool, true, false}
use mathlib.Core.Path.{◌≡◌, refl, sym, subst, ap, ◌∙◌}
use mathlib.Core.Logic.{inl, inr}
use mathlib.Core.List.{List, [], ◌∷◌}
use Prim.Native.Nat.{ℕ, suc, ◌≤◌, ◌<◌}
use native.Mathlib.Omega.{arith}
use native.Mathlib.Decide.{dec_lt}
use borrow.Author.Tests.{lt-ltb, le-ltb}
use lib.Dec.{eqb, ltb}
use lib.ListN.{length, take, drop, length-append}
use lib.Seq.{take_all, take_at}
use Rattle.text.specs.Limits.{grammar_table, most_size}
use Rattle.text.specs.Lists.{Text, all, pick}
use Rattle.text.specs.Stages.{StageAnswer, Settles}
use Rattle.text.specs.Utf8.{utf8, utf8s, unmarked, known}
use Rattle.text.specs.Decode.{Decoded, text, not-utf8, decode, unmark, break_of}
use Rattle.text.specs.Faults.{every, Breaks, after_mark}
use Rattle.text.specs.declared.BytePlace.{BytePlace}
use Rattle.text.specs.declared.Diagnostic.{Diagnostic}
use Rattle.text.specs.Stages.{at_byte, plainly}
use Rattle.text.proofs.Faults.{break-of}
use Rattle.text.proofs.Decode.{some_bytes, decode-sound}
use Rattle.tree.specs.Tree.{Grammar}
use Rattle.plain.specs.Static.{undefined, duplicate, beyond, banned, backwards, unclassed}
use Rattle.plain.specs.Plain.{size}
use Rattle.derive.specs.Yield.{unproductive}
use Rattle.answer.specs.Compute.{Test, test, first_of, grammar_tests, value, value_at, places_at, place_in, place_values, check_values}
use Rattle.answer.proofs.Noted.{value-skip, place-value, placeless}
use Rattle.answer.proofs.Stages.{stage-1, stage-2, stage-3, stage-4, stage-static, tree_is, mismatch-is}
use Rattle.decode.specs.declared.DecodeError.{DecodeError}
use Rattle.decode.specs.declared.DecodeError.TheVariants.{CutShort, Malformed, Unknown}
use Rattle.text.specs.declared.CharPlace.{CharPlace}
use Rattle.decode.specs.Refused.{why_of}
use Rattle.decode.specs.Scan.{Decoding, over}
use Rattle.decode.specs.Whole.{Ends, cut_short, malformed, unknown, Decodes}
use Rattle.decode.proofs.Answers.{Tells, tells-of, tells-cut, tells-malformed, tells-unknown, Strange, Told, told-grammar}
use Rattle.load.specs.declared.Passed.{Passed}
use Rattle.load.specs.Checked.{Loaded, Refuses, at_character, place_for, stage_of}
use Rattle.load.specs.Loaded.{Roomy, Reads, reads_none, reads-refused, reads-grammar, Turned, Kept, Loads, places_of}

-- no more characters than bytes
count-le : (cs : Text) → length cs ≤ length (utf8s cs)
unfolding utf8s
count-le [] = omega arith
count-le (c ∷ cs) = let a = length-append (utf8 c) (utf8s cs) in let b = some_bytes c in let h = count-le cs in omega arith

unmarked-le : (cs : Text) → length (unmarked cs) ≤ length cs
unfolding unmarked
unmarked-le [] = omega arith
unmarked-le (c ∷ cs) = go (eqb c 0xfeff)
  where
    go : (b : Bool) → length (pick b cs (c ∷ cs)) ≤ suc (length cs)
    go true = omega arith
    go false = omega arith

few : (bs : List ℕ) (cs : Text) → decode bs ≡ text cs → length (unmarked cs) ≤ length bs
few bs cs e = let u = decode-sound bs cs e in let a = count-le cs in let b = unmarked-le cs in let c = ap length u.spelt in omega arith

-- what is known of a decoded text
pub record Got (bs new : List ℕ) (n : ℕ) : Type 0 where
  pub chars : Text
  pub decoded : decode bs ≡ text chars
  pub within : all known (unmarked chars) ≡ true
  pub count : n ≡ length (unmarked chars)
  pub few : n ≤ 4096
  pub stored : take n new ≡ unmarked chars

-- a text without its byte order mark is that of some bytes
record Unmarked (bs : List ℕ) (cs : Text) : Type 0 where
  chars : Text
  decoded : decode bs ≡ text chars
  is : cs ≡ unmarked chars

unmarked-text : (bs : List ℕ) (cs : Text) → unmark (decode bs) ≡ text cs → Unmarked bs cs
unmarked-text bs cs e = go (decode bs) refl e
  where
    go : (d : Decoded) → decode bs ≡ d → unmark d ≡ text cs → Unmarked bs cs
    go (text ds) q f = record { chars = ds; decoded = q; is = (let w : cs ≡ unmarked ds = cc in w) }
    go not-utf8 q f = absurd (let z : ◌≡◌ {A = ℕ} 0 1 = cc in omega arith)

no_text : (bs : List ℕ) → unmark (decode bs) ≡ not-utf8 → decode bs ≡ not-utf8
no_text bs e = go (decode bs) refl e
  where
    go : (d : Decoded) → decode bs ≡ d → unmark d ≡ not-utf8 → d ≡ not-utf8
    go (text ds) q f = absurd (let z : ◌≡◌ {A = ℕ} 0 1 = cc in omega arith)
    go not-utf8 q f = refl

module _ (bs old new : List ℕ) (r : Decoding) (w : Decodes bs (after_mark bs) old r new) where
  told : Told (unmark (decode bs)) old r new
  told = told-grammar bs w

  pub got : (k : CharPlace) → r ≡ Ok k → length bs ≤ 4096 → length old ≡ 4096 → Got bs new k.0
  got k e l o = go told.tells e
    where
      stored_at : (cs : Text) → unmark (decode bs) ≡ text cs → length cs ≤ length bs → take (length cs) new ≡ cs
      stored_at cs q f =
          let s : new ≡ over cs old = told.stored cs q in
          let t : take (length old) cs ≡ cs = take_all (length old) cs (omega arith) in
          rw (s, t) (take_at cs (drop (length cs) old) (length cs) refl)

      go : {d : Decoding} → Tells (unmark (decode bs)) d → d ≡ Ok k → Got bs new k.0
      go (tells-of {k = n} x) q =
          let u = unmarked-text bs x.chars x.is in
          let p : k ≡ n = cc in
          let f = few bs u.chars u.decoded in
          let c : length x.chars ≡ length (unmarked u.chars) = ap length u.is in
          let m : k.0 ≡ length x.chars = ap (λ (z : CharPlace). z.0) p ∙ x.count in
          record {
            chars = u.chars;
            decoded = u.decoded;
            within = ap (all known) (sym u.is) ∙ x.within;
            count = m ∙ c;
            few = omega arith;
            stored = rw m (stored_at x.chars x.is (omega arith)) ∙ u.is;
          }
      go (tells-cut x) q = absurd (let z : ◌≡◌ {A = ℕ} 0 1 = cc in omega arith)
      go (tells-malformed x) q = absurd (let z : ◌≡◌ {A = ℕ} 0 1 = cc in omega arith)
      go (tells-unknown x) q = absurd (let z : ◌≡◌ {A = ℕ} 0 1 = cc in omega arith)

  -- a text that is not decoded is refused, with the place of its break
  pub turned : length bs ≤ 4096 → (e : DecodeError) → r ≡ Err e → Turned bs (why_of 2 3 e)
  turned l e h = go w.answer told.tells h
    where
      at : {f : ℕ → Bool} (p : BytePlace) → Breaks f bs (after_mark bs) p.0 → places_of (at_byte 2 p).places ≡ record { byte = break_of f bs (after_mark bs); fault = 0; grammar = 0 }
      at {f = f} p b = let e = break-of f bs (after_mark bs) p.0 b in λ ι. record { byte = sym e ι; fault = 0; grammar = 0 }

      two : (p : BytePlace) → Breaks every bs (after_mark bs) p.0 → unmark (decode bs) ≡ not-utf8 → Turned bs (at_byte 2 p)
      two p b x = record { some = λ e. omega arith; early = inl (omega arith); first = λ ts. stage-2 bs ts l (no_text bs x); places = at p b }

      strange : (p : BytePlace) → Breaks known bs (after_mark bs) p.0 → Strange (unmark (decode bs)) → Turned bs (at_byte 3 p)
      strange p b x =
          let u = unmarked-text bs x.chars x.is in
          record {
            some = λ e. omega arith;
            early = inl (omega arith);
            first = λ ts. stage-3 bs ts l u.chars u.decoded (ap (all known) (sym u.is) ∙ x.outside);
            places = at p b;
          }

      -- the refusal is the error's
      same : {d : Diagnostic} (e f : DecodeError) → ◌≡◌ {A = Decoding} (Err f) (Err e) → d ≡ why_of 2 3 f → Turned bs d → Turned bs (why_of 2 3 e)
      same e f q z x = let u : f ≡ e = cc in subst (Turned bs) (z ∙ ap (why_of 2 3) u) x

      go : {d : Decoding} → Ends bs (after_mark bs) d → Tells (unmark (decode bs)) d → d ≡ Err e → Turned bs (why_of 2 3 e)
      go a (tells-of x) z = absurd (let y : ◌≡◌ {A = ℕ} 0 1 = cc in omega arith)
      go (cut_short {p = p} b c) (tells-cut x) z = same e (CutShort p) z refl (two p b x)
      go (malformed {p = p} b c) (tells-malformed x) z = same e (Malformed p) z refl (two p b x)
      go (unknown {p = p} cs v b) (tells-unknown x) z = same e (Unknown p) z refl (strange p b x)

pub too_long : (bs : List ℕ) → 4096 < length bs → Turned bs (plainly 1)
too_long bs l = record { some = λ e. omega arith; early = inl (omega arith); first = λ ts. stage-1 bs ts l; places = refl }

-- the numbers of the static rules and the size
between-of : (g : Grammar) (n : ℕ) → Refuses g n → (5 ≤ n) × (n ≤ 11)
between-of g n r = by (undefined g) (duplicate g) (beyond g) (banned g) (backwards g) (unclassed g) (ltb most_size (size g)) (r.first [])
  where
    by : (a b c d e f s : Bool) → first_of (test 5 (λ _. a) ∷ test 6 (λ _. b) ∷ test 7 (λ _. c) ∷ test 8 (λ _. d) ∷ test 9 (λ _. e) ∷ test 10 (λ _. f)
        ∷ test 11 (λ _. s) ∷ []) ≡ n → (5 ≤ n) × (n ≤ 11)
    by true b c d e f s q = (omega arith, omega arith)
    by false true c d e f s q = (omega arith, omega arith)
    by false false true d e f s q = (omega arith, omega arith)
    by false false false true e f s q = (omega arith, omega arith)
    by false false false false true f s q = (omega arith, omega arith)
    by false false false false false true s q = (omega arith, omega arith)
    by false false false false false false true q = (omega arith, omega arith)
    by false false false false false false false q = absurd (r.some (sym q))

-- a refusal from 4 on
late_turned : (bs : List ℕ) (p : ℕ) (d : Diagnostic) → d ≡ at_character d.number p → value_at (place_values bs) d.number ≡ p
    → (d.number ≡ 0 → ⊥) → 4 ≤ d.number → d.number ≤ 11
    → ((ts : List Test) → first_of (grammar_tests bs ts) ≡ d.number) → Turned bs d
late_turned bs p d e g z l h f = record { some = z; early = inl h; first = f; places = ap (λ (x : Diagnostic). places_of x.places) e ∙ sym (at d.number l g) }
  where
    at : (n : ℕ) → 4 ≤ n → value_at (place_values bs) n ≡ p → places_at (check_values bs) n ≡ record { byte = 0; fault = 0; grammar = p }
    at n l g =
        let two = value 2 (λ _. break_of every bs (after_mark bs)) in
        let three = value 3 (λ _. break_of known bs (after_mark bs)) in
        let e = value-skip two (three ∷ []) n (λ q. omega arith) ∙ value-skip three [] n (λ q. omega arith) in
        λ ι. record { byte = e ι; fault = 0; grammar = g ι }

-- the place that checking's answer carries, of a text that the bytes have
place_of : (bs : List ℕ) (cs : Text) (n : ℕ) → decode bs ≡ text cs → 5 ≤ n → n ≤ 11 → value_at (place_values bs) n ≡ place_for (unmarked cs) n
place_of bs cs n e l h = elim (dec_lt 10 n) as (λ _. value_at (place_values bs) n ≡ place_for (unmarked cs) n) [
  | yes k ↦ rw (lt-ltb 10 n k) (placeless bs n (inr k))
  | no k ↦ (let m : n ≤ 10 = omega arith in rw (le-ltb 10 n m) (place-value bs n l m ∙ ap (λ (d : Decoded). place_in d n) e))
]

pub loaded : (bs new T : List ℕ) (n : ℕ) → length bs ≤ 4096 → Got bs new n → (r : Loaded) → Reads (take n new) T (stage_of r) → Loads bs T r
loaded bs new T n l d r h = go (stage_of r) (subst (λ (s : Text). Reads s T (stage_of r)) d.stored h)
  where
    go : (a : StageAnswer Passed Diagnostic) → Reads (unmarked d.chars) T a → Settles (Kept bs T) (Turned bs) a
    go _ (reads_none e) =
        late_turned bs 0 (plainly 4) refl refl (λ z. omega arith) (omega arith) (omega arith) (λ ts. stage-4 bs ts l d.chars d.decoded d.within e)
    go _ (reads-refused {d = k} f) =
        let x = f.holds in
        let b = between-of x.tree k.number x.refuses in
        let e : 4 ≤ k.number = omega (arith, b.0) in
        late_turned bs (place_for (unmarked d.chars) k.number) k f.place (place_of bs d.chars k.number d.decoded b.0 b.1) x.refuses.some e b.1
        (λ ts. stage-static bs ts l d.chars d.decoded d.within x.tree x.parse ∙ x.refuses.first (test 24 (λ _. unproductive x.tree) ∷ ts))
    go _ (reads-grammar x) =
        let g = x.tree in
        let q = x.passes in
        record {
          tree = g;
          is = tree_is bs [] l d.chars d.decoded d.within g x.parse;
          first = λ ts. stage-static bs ts l d.chars d.decoded d.within g x.parse ∙ q.first (test 24 (λ _. unproductive g) ∷ ts);
          version = q.version ∙ sym (mismatch-is bs [] l d.chars d.decoded d.within g x.parse);
          stands = x.stands;
          inside = x.inside;
          sized = q.sized;
          small = q.small;
          static = q.static;
        }

-- a grammar's characters have room
pub roomy : (bs new T : List ℕ) (n : ℕ) → Got bs new n → length T ≡ grammar_table → Roomy (take n new) T
roomy bs new T n d t = let s = ap length d.stored in let c = d.count in let f = d.few in record { chars = omega arith; table = t }

pub whole_part : (bs new : List ℕ) (n : ℕ) → Got bs new n → n ≡ length (take n new)
whole_part bs new n d = let s = ap length d.stored in let c = d.count in omega arith
