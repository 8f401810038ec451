use lib.ListN.{length}
use Rattle.answer.specs.Answer.{job}
use Rattle.uncut.proofs.ConvertsAs.{named, convert-given}
use borrow.Author.Rules.{rules}
use Rattle.uncut.proofs.convert.Goals as goal

pub give_xml-requires : goal.give_xml-requires
give_xml-requires c =
    let args = c.args in
    let p = c.parse_record-parsed in
    let j = job args.grammar.now args.record.now (length args.main.now) args.second in
    named j p.new.space.table p.new.space.text p.new.parse p.result p.ensures (search rules)

pub returns : goal.returns
returns c =
    let args = c.args in
    let p = c.parse_record-parsed in
    let j = job args.grammar.now args.record.now (length args.main.now) args.second in
    convert-given j _ p.new.space.table p.new.space.text p.new.parse p.result p.ensures _ _ c.give_xml.ensures
