use borrow.Author.Tests.{eq-eqb, ne_eqb}
use Rattle.static_errors.specs.Parts.{part_at, failing}
use Rattle.static_errors.proofs.Leaf as law
use Rattle.static_errors.proofs.breaks.Goals as goal

pub returns-then-rule-eq-UNDEFINED_NAME : goal.returns-then-rule-eq-UNDEFINED_NAME
unfolding failing
returns-then-rule-eq-UNDEFINED_NAME c = rw (eq-eqb _ 5 c.if-rule-eq-UNDEFINED_NAME.true) c.lacks.ensures

pub returns-then-rule-eq-BACKWARD_RANGE : goal.returns-then-rule-eq-BACKWARD_RANGE
unfolding failing
returns-then-rule-eq-BACKWARD_RANGE c = rw (ne_eqb _ 5 c.if-rule-eq-UNDEFINED_NAME.false, eq-eqb _ 9 c.if-rule-eq-BACKWARD_RANGE.true) c.runs_back.ensures

pub returns-then-rule-eq-UNKNOWN_CLASS : goal.returns-then-rule-eq-UNKNOWN_CLASS
unfolding failing
returns-then-rule-eq-UNKNOWN_CLASS c =
    rw (ne_eqb _ 5 c.if-rule-eq-UNDEFINED_NAME.false, ne_eqb _ 9 c.if-rule-eq-BACKWARD_RANGE.false, eq-eqb _ 10 c.if-rule-eq-UNKNOWN_CLASS.true) c.no_class.ensures

pub returns-then-rule-eq-ANY : goal.returns-then-rule-eq-ANY
unfolding failing
returns-then-rule-eq-ANY c =
    rw (
      ne_eqb _ 5 c.if-rule-eq-UNDEFINED_NAME.false,
      ne_eqb _ 9 c.if-rule-eq-BACKWARD_RANGE.false,
      ne_eqb _ 10 c.if-rule-eq-UNKNOWN_CLASS.false,
      eq-eqb _ 0 c.if-rule-eq-ANY.true,
    ) c.breaks_any.ensures

pub returns-then-rule-eq-HEX_TOO_LARGE : goal.returns-then-rule-eq-HEX_TOO_LARGE
unfolding failing
returns-then-rule-eq-HEX_TOO_LARGE c =
    rw (
      ne_eqb _ 5 c.if-rule-eq-UNDEFINED_NAME.false,
      ne_eqb _ 9 c.if-rule-eq-BACKWARD_RANGE.false,
      ne_eqb _ 10 c.if-rule-eq-UNKNOWN_CLASS.false,
      ne_eqb _ 0 c.if-rule-eq-ANY.false,
      c.if-rule-eq-HEX_TOO_LARGE.true,
    ) c.bad_codes.ensures

pub returns : goal.returns
unfolding failing
returns c =
    rw (
      ne_eqb _ 5 c.if-rule-eq-UNDEFINED_NAME.false,
      ne_eqb _ 9 c.if-rule-eq-BACKWARD_RANGE.false,
      ne_eqb _ 10 c.if-rule-eq-UNKNOWN_CLASS.false,
      ne_eqb _ 0 c.if-rule-eq-ANY.false,
      law.no_hex c.args.rule c.if-rule-eq-HEX_TOO_LARGE.false (part_at c.args.table.now c.args.k),
    ) c.bad_codes-2.ensures
