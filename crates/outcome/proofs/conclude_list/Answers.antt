use mathlib.Core.Path.{ap, ◌∙◌}
use Rattle.text.specs.declared.Diagnostic.{Diagnostic}
use Rattle.exported.specs.Exported.{refusal_of}
use Rattle.outcome.proofs.Lists.{annotated, concluded-list, declined-list}
use borrow.Author.Rules.{rules}
use Rattle.outcome.proofs.conclude_list.Goals as goal

pub conclude-converted-requires : goal.conclude-converted-requires
conclude-converted-requires c =
    annotated c.requires c.judge_list.ensures c.if-judge_list.true (search rules)

pub returns-then-judge_list : goal.returns-then-judge_list
returns-then-judge_list c =
    concluded-list c.requires c.judge_list.ensures c.if-judge_list.true c.conclude-converted.ensures c.answer_to_converted.ensures

pub returns : goal.returns
returns c =
    declined-list c.requires c.judge_list.ensures c.if-judge_list.false (c.refuse.ensures ∙ ap refusal_of (c.from.ensures ∙ ap (λ (d : Diagnostic). record {
      why = d;
      mismatch = mathlib.Core.Bool.false;
    }) c.plain.ensures))
