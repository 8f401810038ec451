use Rattle.category.proofs.Known.{known_classes, class-known}
use borrow.Author.Rules.{rules}
use Rattle.category.proofs.class_is_known.Goals as goal

pub returns : goal.returns
unfolding known_classes
returns c = class-known c.args.class (search rules)
