use Rattle.answer.specs.Answer.{job}
use Rattle.opening.proofs.Starts.{small}
use Rattle.tells.proofs.Tells.{not_so}
use Rattle.resume.proofs.Lines.{not-kept, not_opened, lent-or-not}
use Rattle.resume.proofs.resume.Goals as goal

pub keeps-requires : goal.keeps-requires
keeps-requires c = c.requires

pub returns-then-not-keeps : goal.returns-then-not-keeps
returns-then-not-keeps c =
    let j = job c.args.grammar.now c.args.record.now c.args.main c.args.second in
    rw c.plain.ensures (not-kept j c.args.state.now c.args.space.now.table c.args.space.now.text (not_so c.keeps.ensures c.if-not-keeps.true))

pub lend_main-requires : goal.lend_main-requires
lend_main-requires c = small _ c.in-Ok.ensures

pub returns : goal.returns
returns c =
    let j = job c.args.grammar.now c.args.record.now c.args.main c.args.second in
    lent-or-not j _ _ _ c.in-Ok.start c.in-Ok.ensures (c.keeps.ensures.yes c.if-not-keeps.false) _ c.lend_main.ensures

pub returns-in_default : goal.returns-in_default
returns-in_default c =
    let j = job c.args.grammar.now c.args.record.now c.args.main c.args.second in
    rw c.plain-in_default.ensures (not_opened j c.args.state.now c.open_job.new.space.table c.open_job.new.space.text c.in_default.field-0 c.in_default.ensures)
