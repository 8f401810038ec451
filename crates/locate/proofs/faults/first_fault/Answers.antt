use Rattle.static_errors.proofs.Top.{some-tokens}
use Rattle.static_errors.specs.Held.{rule_number}
use Rattle.locate.proofs.Found as law
use Rattle.locate.proofs.faults.first_fault.Goals as goal

pub heads-n-requires : goal.heads-n-requires
heads-n-requires c =
    record { some = some-tokens c.args.table.now c.args.end c.requires; short = c.requires.short; room = c.requires.short }

pub search-requires : goal.search-requires
search-requires c =
    record {
      scanning = record { some = some-tokens c.args.table.now c.args.end c.requires; listing = c.heads-n.ensures.listing };
      indexed = c.heads-n.ensures;
      short = c.requires.short;
    }

pub returns : goal.returns
returns c =
    law.fault-at c.args.table.now c.args.end _ c.heads-n.result (rule_number c.args.rule) c.search.result c.heads-n.ensures
    c.search.ensures
