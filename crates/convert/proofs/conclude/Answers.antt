use Rattle.convert.proofs.Conclusions.{some-job, some-later, room-later, concluded}
use Rattle.convert.proofs.conclude.Goals as goal

pub first_error-review-requires : goal.first_error-review-requires
first_error-review-requires c =
    let w = c.requires in (w.room, some-job w.noted w)

pub write_xml-requires : goal.write_xml-requires
write_xml-requires c =
    let w = c.requires in (room-later w.noted c.first_error-review.ensures w, some-later w.noted c.first_error-review.ensures w)

pub returns : goal.returns
returns c =
    λ g t p. rw c.ok_or.ensures.value (concluded c.requires.noted c.first_error-review.ensures g t _ _ _ p c.in_ok-map_err.ensures.variant _ _
    (c.write_xml.ensures.answered g t))
