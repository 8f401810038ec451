use Rattle.rules.proofs.Whole.{here}
use Rattle.prepare.proofs.Rows.{fitted}
use Rattle.prepare.proofs.prepare.Goals as goal

pub fit_rows-requires : goal.fit_rows-requires
fit_rows-requires c =
    let pre = c.requires in
    record { long = pre.long; small = pre.small; short = pre.short; room = pre.fits-room; here = here pre.ready }

pub returns : goal.returns
returns c =
    λ g w. fitted (c.code_rules-top.ensures g w) c.fit_rows.ensures
