use mathlib.Core.Path.{refl}
use lib.ListN.{length}
use Rattle.answer.specs.Answer.{job}
use Rattle.ending.proofs.Ended.{prepared}
use Rattle.calls.proofs.Ended.{named_end, convert-end}
use borrow.Author.Rules.{rules}
use Rattle.calls.proofs.ixml_finish_convert.Goals as goal

pub end_read-ended-requires : goal.end_read-ended-requires
end_read-ended-requires c =
    let j = job c.args.grammar.now c.args.record.now (length c.args.main.now) (length c.args.second.now) in (
      prepared j c.args.state.now c.resume-begun.new.space.table c.resume-begun.new.space.text _ _ c.resume-begun.result c.resume-begun.ensures
          refl (search rules),
      search rules,
    )

pub give_xml-answer-requires : goal.give_xml-answer-requires
give_xml-answer-requires c =
    let j = job c.args.grammar.now c.args.record.now (length c.args.main.now) (length c.args.second.now) in
    named_end (search rules) (c.end_read-ended.ensures j c.resume-begun.ensures)

pub returns : goal.returns
returns c =
    let j = job c.args.grammar.now c.args.record.now (length c.args.main.now) (length c.args.second.now) in
    convert-end c.args.res.now _ _ (c.end_read-ended.ensures j c.resume-begun.ensures) c.give_xml-answer.ensures
