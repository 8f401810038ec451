use lib.ListN.{length}
use Rattle.answer.specs.Answer.{job}
use Rattle.uncut.proofs.ReadsAs.{counted, read-given}
use Rattle.uncut.proofs.read.Goals as goal

pub give_numbers-requires : goal.give_numbers-requires
give_numbers-requires c =
    let args = c.args in
    let p = c.parse_record-parsed in
    let j = job args.grammar.now args.record.now (length args.main.now) args.second in
    counted j p.new.space.table p.new.space.text p.new.parse p.result p.ensures

pub returns : goal.returns
returns c =
    let args = c.args in
    let p = c.parse_record-parsed in
    let j = job args.grammar.now args.record.now (length args.main.now) args.second in
    read-given j _ p.new.space.table p.new.space.text p.new.parse p.result p.ensures _ _ c.give_numbers.ensures
