use mathlib.Core.Path.{◌≡◌, sym, subst}
use native.Mathlib.Omega.{arith}
use Rattle.std.specs.Prelude.{Ok, Err}
use Rattle.std.proofs.lemmas.Result.{err_from_is_err_and}
use Rattle.decode.specs.declared.DecodeError.{DecodeError}
use Rattle.decode.specs.Refused.{why_of}
use Rattle.load.specs.Loaded.{Turned}
use Rattle.load.proofs.Bytes.{got, turned, too_long, loaded, roomy, whole_part}
use borrow.Author.Rules.{rules}
use Rattle.load.proofs.load_grammar.Goals as goal

pub returns-then-grammar-gt-GRAMMAR_BYTES : goal.returns-then-grammar-gt-GRAMMAR_BYTES
returns-then-grammar-gt-GRAMMAR_BYTES c =
    subst (Turned c.args.grammar.now) (sym c.plain.ensures) (too_long c.args.grammar.now (search rules))

pub returns-in_err-count : goal.returns-in_err-count
returns-in_err-count c =
    let p = err_from_is_err_and c.from_residual.result c.from_residual.ensures.1 in
    let why : (e : DecodeError) × (c.decode_grammar.result ≡ Err e) × (c.in_err-count.field-0.0 ≡ why_of 2 3 e) = grind arith in
    rw (p.1, p.2, why.2) (turned c.args.grammar.now _ c.decode_grammar.new.out c.decode_grammar.result c.decode_grammar.ensures (omega (arith, c.if-grammar-gt-GRAMMAR_BYTES.false)) why.0 why.1)

pub slice_bounds-text-end : goal.slice_bounds-text-end
slice_bounds-text-end c =
    let some : c.decode_grammar.result ≡ Ok c.in_ok-count.count = grind arith in
    let d = got c.args.grammar.now _ c.decode_grammar.new.out c.decode_grammar.result c.decode_grammar.ensures _ some (omega (arith, c.if-grammar-gt-GRAMMAR_BYTES.false)) (omega arith) in
    omega (arith, d.few, c.decode_grammar.auto.out)

pub slice_bounds-read_text-end : goal.slice_bounds-read_text-end
slice_bounds-read_text-end c =
    let some : c.decode_grammar.result ≡ Ok c.in_ok-count.count = grind arith in
    whole_part c.args.grammar.now c.decode_grammar.new.out _
    (got c.args.grammar.now _ c.decode_grammar.new.out c.decode_grammar.result c.decode_grammar.ensures _ some (omega (arith, c.if-grammar-gt-GRAMMAR_BYTES.false)) (omega arith))

pub read_text-requires : goal.read_text-requires
read_text-requires c =
    let some : c.decode_grammar.result ≡ Ok c.in_ok-count.count = grind arith in
    roomy c.args.grammar.now c.decode_grammar.new.out _ _
    (got c.args.grammar.now _ c.decode_grammar.new.out c.decode_grammar.result c.decode_grammar.ensures _ some (omega (arith, c.if-grammar-gt-GRAMMAR_BYTES.false)) (omega arith)) (search rules)

pub returns : goal.returns
returns c =
    let some : c.decode_grammar.result ≡ Ok c.in_ok-count.count = grind arith in
    loaded c.args.grammar.now c.decode_grammar.new.out _ _ (omega (arith, c.if-grammar-gt-GRAMMAR_BYTES.false))
    (got c.args.grammar.now _ c.decode_grammar.new.out c.decode_grammar.result c.decode_grammar.ensures _ some (omega (arith, c.if-grammar-gt-GRAMMAR_BYTES.false)) (omega arith))
    c.read_text.result c.read_text.ensures
