use Rattle.parser.proofs.Located.{confirming, fault-found}
use Rattle.parser.proofs.locate.Goals as goal

pub find-requires : goal.find-requires
find-requires c =
    let pre = c.requires in
    confirming pre.0 pre.1.0 pre.2 pre.0.code

pub shape_of-main : goal.shape_of-main
shape_of-main c =
    c.find.ensures.0

pub returns : goal.returns
returns c =
    let pre = c.requires in
    λ g k. fault-found pre.0 pre.1.0 pre.2 k c.find.ensures.1
