use Rattle.std.proofs.Common.{◌+◌, ◌-◌, take, drop, ◌∙◌, ap, rules, tests}
use Rattle.std.proofs.lemmas.Iterator.{YieldsList-from_slice}
use Rattle.std.proofs.lemmas.Iterator.Search.{all_from_yields_List}
use Rattle.text.specs.Lists.{all}
use Rattle.text.specs.Utf8.{known}
use Rattle.terminals.proofs.Stretches.{all_list, part_slice}
use Rattle.terminals.proofs.live.all_known.Goals as goal

pub returns : goal.returns
returns c =
    all_from_yields_List known _ _ _ c.all.ensures.ran (YieldsList-from_slice (take (c.args.at + c.args.n - c.args.at) (drop c.args.at c.args.table.now)) cc)
    (λ x b q k. search (rules, tests))
    ∙ all_list known _ ∙ ap (all known) (part_slice c.args.table.now c.args.at c.args.n)
