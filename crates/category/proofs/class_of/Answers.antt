use mathlib.Core.Path.{sym}
use native.Mathlib.Omega.{arith}
use borrow.Author.Rules.{rules}
use Rattle.category.proofs.Classes.{keys, slots, slot, slot-below, key-small, large-first, large-second, other_key, same_key}
use Rattle.category.proofs.class_of.Goals as goal

pub returns-then-first-ge-KEY_UNIT : goal.returns-then-first-ge-KEY_UNIT
returns-then-first-ge-KEY_UNIT c = sym (large-first c.args.first c.args.second c.if-first-ge-KEY_UNIT.true)

pub returns-then-second-ge-KEY_UNIT : goal.returns-then-second-ge-KEY_UNIT
returns-then-second-ge-KEY_UNIT c = sym (large-second c.args.first c.args.second c.if-second-ge-KEY_UNIT.true)

pub overflow_mul-key : goal.overflow_mul-key
overflow_mul-key c = omega arith

pub overflow_add-key : goal.overflow_add-key
overflow_add-key c = omega arith

pub overflow_cast-class-2 : goal.overflow_cast-class-2
unfolding slots
overflow_cast-class-2 c = let b = slot-below c.args.first c.args.second in omega arith

pub offset_bounds-class : goal.offset_bounds-class
unfolding slots
offset_bounds-class c = let b = slot-below c.args.first c.args.second in omega arith

pub bounds-class : goal.bounds-class
unfolding slots
bounds-class c = slot-below c.args.first c.args.second

pub overflow_cast-class-3 : goal.overflow_cast-class-3
unfolding slots keys
overflow_cast-class-3 c =
    let b = key-small (slot c.args.first c.args.second) (slot-below c.args.first c.args.second) in
    omega arith

pub returns-then-class-key : goal.returns-then-class-key
unfolding slots keys
returns-then-class-key c = sym (other_key c.args.first c.args.second (search rules) c.if-class-key.true)

pub returns : goal.returns
unfolding slots keys
returns c = sym (same_key c.args.first c.args.second (search rules) c.if-class-key.false)
