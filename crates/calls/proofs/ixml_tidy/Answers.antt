use Rattle.calls.proofs.TidiesAs.{tokened, tidy-given}
use borrow.Author.Rules.{rules}
use Rattle.calls.proofs.ixml_tidy.Goals as goal

pub give_tidy-requires : goal.give_tidy-requires
give_tidy-requires c =
    tokened c.args.grammar.now c.accept_grammar-accepted.new.table c.accept_grammar-accepted.result c.accept_grammar-accepted.ensures (search rules)

pub returns : goal.returns
returns c =
    tidy-given c.args.grammar.now _ c.accept_grammar-accepted.new.table c.accept_grammar-accepted.result c.accept_grammar-accepted.ensures _ _ c.give_tidy.ensures
