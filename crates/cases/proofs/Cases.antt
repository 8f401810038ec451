-- Every case of the table holds: one test, computed over the whole table.
use mathlib.Core.Bool.{Bool, true, false, ◌&&◌}
use mathlib.Core.Path.{◌≡◌, refl, subst, subst₂}
use mathlib.Core.List.{List, [], ◌∷◌}
use Prim.Native.Nat.{ℕ}
use lib.Dec.{T, eqb, eqb→eq}
use lib.ListN.{length}
use Rattle.text.specs.Lists.{chars, all, same}
use Rattle.text.proofs.Tests.{and_left, and_right, same-is}
use Rattle.text.specs.Ranks as ranks
use Rattle.derive.specs.Yield as yield
use Rattle.places.specs.Place as place
use Rattle.places.specs.Scan as scan
use Rattle.places.specs.Tokens as places
use Rattle.viable.specs.Compute as viable
use Rattle.answer.specs.Answer.{Places, Answer, Checks, Reads, Converts}
use Rattle.answer.specs.Compute.{Outcome, check_of, read_of, convert_of}
use Rattle.text.specs.Utf8 as utf8
use Rattle.text.specs.Decode as decoding
use Rattle.category.specs.Category as category
use Rattle.syntax.proofs.Samples.{computing}
use Rattle.plain.specs.Static as static
use Rattle.plain.specs.Plain as plain
use Rattle.xml.specs.Names as names
use Rattle.xml.specs.Document as document
use Rattle.xml.specs.Bytes as bytes
use Rattle.answer.specs.Compute as compute
use Rattle.answer.proofs.Settled.{check-answers, read-answers, convert-answers}
use Rattle.cases.specs.Table.{Case, answered, failed, checked, table, buffer, job, answer, placed, fault, filled, Holds, Every, every-none, every_more}

same_bool : Bool → Bool → Bool
same_bool true b = b
same_bool false true = false
same_bool false false = true

bool_is : (a b : Bool) → T (same_bool a b) → a ≡ b
unfolding same_bool
bool_is true true h = refl
bool_is true false h = absurd h
bool_is false true h = absurd h
bool_is false false h = refl

same-places : Places → Places → Bool
same-places p q = eqb p.byte q.byte && (eqb p.fault q.fault && eqb p.grammar q.grammar)

places-are : (p q : Places) → T (same-places p q) → p ≡ q
unfolding same-places
places-are p q h =
    let b = eqb p.byte q.byte in
    let f = eqb p.fault q.fault in
    let g = eqb p.grammar q.grammar in
    let h1 = and_right b (f && g) h in
    λ ι. record {
      byte = eqb→eq p.byte q.byte (and_left b (f && g) h) ι;
      fault = eqb→eq p.fault q.fault (and_left f g h1) ι;
      grammar = eqb→eq p.grammar q.grammar (and_right f g h1) ι;
    }

same_answer : Answer → Answer → Bool
same_answer a b =
    eqb a.number b.number && (eqb a.length b.length && (same_bool a.ambiguous b.ambiguous
    && (same_bool a.version b.version && same-places a.places b.places)))

answer-is : (a b : Answer) → T (same_answer a b) → a ≡ b
unfolding same_answer
answer-is a b h =
    let n = eqb a.number b.number in
    let l = eqb a.length b.length in
    let m = same_bool a.ambiguous b.ambiguous in
    let v = same_bool a.version b.version in
    let p = same-places a.places b.places in
    let h1 = and_right n (l && (m && (v && p))) h in
    let h2 = and_right l (m && (v && p)) h1 in
    let h3 = and_right m (v && p) h2 in
    λ ι. record {
      number = eqb→eq a.number b.number (and_left n (l && (m && (v && p))) h) ι;
      length = eqb→eq a.length b.length (and_left l (m && (v && p)) h1) ι;
      ambiguous = bool_is a.ambiguous b.ambiguous (and_left m (v && p) h2) ι;
      version = bool_is a.version b.version (and_left v p h3) ι;
      places = places-are a.places b.places (and_right v p h3) ι;
    }

-- what is computed is what the table says
leaves : Outcome → Answer → List ℕ → Bool
leaves o a new = same_answer o.answer a && same o.buffer new

passes : Case → Bool
passes (answered g r p m x) = leaves (read_of (job g r) buffer) (answer 0 (length p) m) (filled p) && leaves (convert_of (job g r) buffer) (answer 0 (length (chars x)) m) (filled (chars x))
passes (failed g r k) = leaves (read_of (job g r) buffer) (fault k) buffer && leaves (convert_of (job g r) buffer) (fault k) buffer
passes (checked g n p) = same_answer (check_of (chars g)) (placed n p)

both : (P : Answer → List ℕ → Type 0) (o : Outcome) (a : Answer) (new : List ℕ) → P o.answer o.buffer → T (leaves o a new) → P a new
unfolding leaves
both P o a new h t =
    subst₂ P (answer-is o.answer a (and_left (same_answer o.answer a) (same o.buffer new) t)) (same-is o.buffer new (and_right (same_answer o.answer a) (same o.buffer new) t)) h

holds : (c : Case) → T (passes c) → Holds c
unfolding passes
holds (answered g r p m x) t =
    let a = leaves (read_of (job g r) buffer) (answer 0 (length p) m) (filled p) in
    let b = leaves (convert_of (job g r) buffer) (answer 0 (length (chars x)) m) (filled (chars x)) in (
      both (Reads (job g r) buffer) (read_of (job g r) buffer) (answer 0 (length p) m) (filled p) (read-answers (job g r) buffer) (and_left a b t),
      both (Converts (job g r) buffer) (convert_of (job g r) buffer) (answer 0 (length (chars x)) m) (filled (chars x)) (convert-answers (job g r) buffer) (and_right a b t),
    )
holds (failed g r k) t =
    let a = leaves (read_of (job g r) buffer) (fault k) buffer in
    let b = leaves (convert_of (job g r) buffer) (fault k) buffer in (
      both (Reads (job g r) buffer) (read_of (job g r) buffer) (fault k) buffer (read-answers (job g r) buffer) (and_left a b t),
      both (Converts (job g r) buffer) (convert_of (job g r) buffer) (fault k) buffer (convert-answers (job g r) buffer) (and_right a b t),
    )
holds (checked g n p) t = subst (Checks (chars g)) (answer-is (check_of (chars g)) (placed n p) t) (check-answers (chars g))

every : (cs : List Case) → T (all passes cs) → Every Holds cs
every [] t = every-none
every (c ∷ cs) t = every_more (holds c (and_left (passes c) (all passes cs) t)) (every cs (and_right (passes c) (all passes cs) t))

pub cases-hold : Every Holds table
unfolding table buffer job answer placed fault filled passes leaves same_answer same-places same_bool computing
    utf8.utf8 utf8.utf8s utf8.unmarked utf8.alphabet utf8.known decoding.second_low decoding.second_high decoding.rest_of decoding.char_of decoding.decode_in
    decoding.decode decoding.break_in decoding.break_of category.categories category.classes category.is_class
    static.undefined static.duplicate static.beyond static.unassignable static.banned static.code_of static.runs_back static.backwards static.no_class static.unclassed plain.size
    names.xml_char names.name_start names.name_char names.xml_name document.twice document.misnamed document.unwritable document.is_attribute document.not_one document.namespaced bytes.escape bytes.bytes
    static.mismatched utf8.width ranks.total ranks.code_at ranks.rank_in ranks.some_known yield.unproductive viable.fault_of
    scan.sign scan.opens scan.onward scan.lefts place.at_fault places.place_of compute.tree_of check_of read_of convert_of
cases-hold = every table tt
