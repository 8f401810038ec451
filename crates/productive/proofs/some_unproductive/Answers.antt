use native.Mathlib.Omega.{arith}
use lib.ListN.{length-replicate}
use mathlib.Core.Bool.{false}
use Rattle.productive.proofs.Items.{all-blank}
use Rattle.productive.proofs.Model.{agrees, shape_of, here_of}
use Rattle.productive.proofs.some_unproductive.Goals as goal

pub mark_live-requires : goal.mark_live-requires
mark_live-requires c =
    let s = c.requires in
    let w = c.code_rules.ensures s.grammar s.ready in (
      record {
        long = s.long;
        shape = shape_of s.small w;
        room = omega (arith, s.small, c.code_rules.auto.code);
        here = here_of w;
        marks-long = length-replicate 1024 false;
      },
      all-blank 1024,
    )

pub returns : goal.returns
returns c =
    λ g w. agrees (c.code_rules.ensures g w) c.mark_live.ensures c.some_missing.result c.some_missing.ensures
