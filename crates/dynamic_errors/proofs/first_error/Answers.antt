use Rattle.dynamic_errors.proofs.Roots.{root-standing, root-judged}
use Rattle.dynamic_errors.proofs.first_error.Goals as goal

pub judge_row-requires : goal.judge_row-requires
judge_row-requires c = (
  c.head_at-head.ensures.fits,
  root-standing c.requires.0 c.requires.1 c.look-a.ensures.0 c.alternative-item.ensures c.at_root-first.ensures,
)

pub returns : goal.returns
returns c =
    root-judged c.requires.0 c.head_at-head.ensures c.look-a.ensures.0 c.alternative-item.ensures c.at_root-first.ensures c.judge_row.ensures
