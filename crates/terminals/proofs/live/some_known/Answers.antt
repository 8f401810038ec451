use Rattle.std.proofs.Common.{◌+◌, ◌-◌, take, drop, ◌∙◌, ap, rules, tests}
use Rattle.std.proofs.lemmas.Iterator.{YieldsList-from_slice}
use Rattle.std.proofs.lemmas.Iterator.Search.{any_from_yields_List}
use Rattle.text.specs.Lists.{any}
use Rattle.text.specs.Utf8.{known}
use Rattle.terminals.proofs.Stretches.{any_list, part_slice}
use Rattle.terminals.proofs.live.some_known.Goals as goal

pub returns : goal.returns
returns c =
    any_from_yields_List known _ _ _ c.any.ensures.ran (YieldsList-from_slice (take (c.args.at + c.args.n - c.args.at) (drop c.args.at c.args.table.now)) cc)
    (λ x b q k. search (rules, tests))
    ∙ any_list known _ ∙ ap (any known) (part_slice c.args.table.now c.args.at c.args.n)
