use mathlib.Core.Path.{◌∙◌}
use borrow.Author.Tests.{ne_eqb}
use Rattle.static_errors.proofs.Top as law
use Rattle.static_errors.proofs.version_mismatch.Goals as goal

pub bounds-table-0 : goal.bounds-table-0
bounds-table-0 c = law.some-there c.args.table.now c.args.end c.requires.grammar c.requires.holds

pub is_one-requires : goal.is_one-requires
is_one-requires c =
    law.named-there c.args.table.now c.args.end (law.fits-there c.args.table.now c.args.end c.requires.grammar c.requires.holds) c.if-table-eq-VERSION.true

pub returns-then-table-eq-VERSION : goal.returns-then-table-eq-VERSION
returns-then-table-eq-VERSION c =
    λ g h. law.with-version c.args.table.now c.args.end g h c.if-table-eq-VERSION.true c.is_one.result c.is_one.ensures

pub returns-else-table-eq-VERSION : goal.returns-else-table-eq-VERSION
returns-else-table-eq-VERSION c = λ g h. ne_eqb _ _ c.if-table-eq-VERSION.false ∙ law.no-version c.args.table.now c.args.end g h c.if-table-eq-VERSION.false
