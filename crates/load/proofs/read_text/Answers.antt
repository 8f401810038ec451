use mathlib.Core.Path.{◌≡◌}
use native.Mathlib.Omega.{arith}
use borrow.Author.Rules.{rules}
use Rattle.std.specs.Prelude.{Some, None}
use Rattle.std.proofs.lemmas.Result.{err_from_is_err_and}
use Rattle.load.proofs.Loads.{readable, no-tree, standing, checked}
use Rattle.load.proofs.read_text.Goals as goal

pub read_grammar-requires : goal.read_grammar-requires
read_grammar-requires c = readable c.args.text.now c.args.table.now c.requires

pub returns-in_err-end : goal.returns-in_err-end
returns-in_err-end c =
    let p = err_from_is_err_and c.from_residual.result c.from_residual.ensures.1 in
    let none : c.read_grammar.result ≡ None = grind arith in
    let why : c.in_err-end.field-0.0 ≡ c.plain.result = grind arith in
    rw (p.1, p.2, why, c.plain.ensures) (no-tree c.args.text.now c.read_grammar.new.out (rw none at c.read_grammar.ensures))

pub check_tree-requires : goal.check_tree-requires
check_tree-requires c =
    let some : c.read_grammar.result ≡ Some c.in_ok-end.end = grind arith in
    standing c.args.text.now c.read_grammar.new.out _ (rw some at c.read_grammar.ensures) c.requires.chars (search rules)

pub returns : goal.returns
returns c =
    let some : c.read_grammar.result ≡ Some c.in_ok-end.end = grind arith in
    checked c.args.text.now c.read_grammar.new.out _ (rw some at c.read_grammar.ensures) c.requires.chars c.check_tree.result c.check_tree.ensures
