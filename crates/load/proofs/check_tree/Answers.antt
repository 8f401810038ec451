use mathlib.Core.Path.{refl, sym}
use borrow.Author.Rules.{rules}
use Rattle.static_errors.specs.Held.{rule_number}
use Rattle.load.proofs.Stages.{broken, size-refuses, passes, to-static, to-size, static-asks, size-asks, place-asks, at-most-10}
use Rattle.load.proofs.Loads.{placed-is, plain-is, place-for}
use Rattle.load.specs.Checked.{Refuses}
use Rattle.load.proofs.check_tree.Goals as goal

pub static_refusal-requires : goal.static_refusal-requires
static_refusal-requires c = static-asks c.args.text.now c.args.table.now c.args.end c.requires

pub fault_place-place-requires : goal.fault_place-place-requires
fault_place-place-requires c =
    place-asks c.args.text.now c.args.table.now c.args.end c.requires c.in-Err.rule
    (c.in-Err.ensures c.requires.grammar (to-static c.args.table.now c.args.end c.requires.grammar c.requires.within c.requires.stands))

pub returns-in-Err : goal.returns-in-Err
returns-in-Err c =
    λ g h.
    let e = c.in-Err.ensures g (to-static c.args.table.now c.args.end g c.requires.within h) in
    let n = rule_number c.in-Err.rule in
    placed-is (Refuses g) c.args.text.now n c.fault_place-place.result.0 c.at_character.result (rw c.number.ensures at c.at_character.ensures)
    (place-for c.args.text.now n c.fault_place-place.result.0 (at-most-10 g n e) c.fault_place-place.ensures)
    (broken g c.in-Err.rule n refl e)

pub grammar_size-size-requires : goal.grammar_size-size-requires
grammar_size-size-requires c = size-asks c.args.text.now c.args.table.now c.args.end c.requires

pub returns-then-size-gt-LARGEST : goal.returns-then-size-gt-LARGEST
returns-then-size-gt-LARGEST c =
    λ g h. plain-is (Refuses g) c.args.text.now c.plain.result c.plain.ensures
    (size-refuses g c.grammar_size-size.result
    (sym (c.in_default.ensures g (to-static c.args.table.now c.args.end g c.requires.within h)))
    (c.grammar_size-size.ensures g (to-size c.args.table.now c.args.end g h)) (search rules))

pub version_mismatch-mismatch-requires : goal.version_mismatch-mismatch-requires
version_mismatch-mismatch-requires c = static-asks c.args.text.now c.args.table.now c.args.end c.requires

pub returns : goal.returns
returns c =
    λ g h. passes g c.args.end c.grammar_size-size.result c.version_mismatch-mismatch.result
    (sym (c.in_default.ensures g (to-static c.args.table.now c.args.end g c.requires.within h)))
    (c.grammar_size-size.ensures g (to-size c.args.table.now c.args.end g h)) (search rules)
    (c.version_mismatch-mismatch.ensures g (to-static c.args.table.now c.args.end g c.requires.within h))
