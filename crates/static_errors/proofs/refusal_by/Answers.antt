use Rattle.static_errors.specs.Held.{ruling_number}
use Rattle.static_errors.proofs.Top as law
use Rattle.static_errors.proofs.refusal_by.Goals as goal

pub heads-n-requires : goal.heads-n-requires
heads-n-requires c =
    record { some = law.some-tokens c.args.table.now c.args.end c.requires.0; short = c.requires.0.short; room = c.requires.1 }

pub refusal-requires : goal.refusal-requires
refusal-requires c =
    record { some = law.some-tokens c.args.table.now c.args.end c.requires.0; listing = c.heads-n.ensures.listing }

pub returns : goal.returns
returns c =
    law.answer c.args.table.now c.args.end _ c.heads-n.result c.heads-n.ensures
    (ruling_number c.refusal.result) c.refusal.ensures
