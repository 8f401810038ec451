use mathlib.Core.Path.{sym, ◌∙◌}
use borrow.Author.Rules.{rules}
use Rattle.category.proofs.Agree.{spans, class-spans}
use Rattle.category.proofs.in_class.Goals as goal

pub returns : goal.returns
unfolding spans
returns c =
    c.both.ensures ∙ sym (class-spans c.args.class c.args.code (search rules) ∙ rw (sym c.category_of-category.ensures))
