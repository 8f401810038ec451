use Rattle.answer.specs.Answer.{job}
use lib.ListN.{length}
use Rattle.stepping.proofs.Starts.{grammar-fits, input-fits, start-room}
use Rattle.stepping.proofs.Calls.{started-refused, started-done}
use native.Mathlib.Omega.{arith}
use Rattle.stepping.proofs.start.Goals as goal

pub returns-in-Err : goal.returns-in-Err
returns-in-Err c =
    let j = job c.args.grammar.now c.args.record.now (length c.args.main.now) c.args.second in
    started-refused j c.begin.new.space.table c.begin.new.space.text _ _ c.in-Err.why _ c.in-Err.ensures c.refuse.ensures c.wipe.ensures

pub need-need-requires : goal.need-need-requires
need-need-requires c =
    let j = job c.args.grammar.now c.args.record.now (length c.args.main.now) c.args.second in
    let w = c.in-Ok.ensures in
    (omega (arith, w.grammar.sized, w.grammar.small), omega (arith, w.input.count, w.input.short))

pub clear-requires : goal.clear-requires
clear-requires c =
    let j = job c.args.grammar.now c.args.record.now (length c.args.main.now) c.args.second in
    let w = c.in-Ok.ensures in
    start-room j _ _ _ w _ c.need-need.ensures

pub begin-requires-2 : goal.begin-requires-2
begin-requires-2 c =
    let j = job c.args.grammar.now c.args.record.now (length c.args.main.now) c.args.second in
    let w = c.in-Ok.ensures in (
      c.requires,
      grammar-fits j w,
      input-fits j w,
    )

pub returns : goal.returns
returns c =
    let j = job c.args.grammar.now c.args.record.now (length c.args.main.now) c.args.second in
    let w = c.in-Ok.ensures in
    started-done j _ _ _ _ _ _ _ w c.answered.ensures c.clear.auto.main _ c.need-need.ensures c.clear.ensures c.begin-2.ensures
