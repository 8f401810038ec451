use mathlib.Core.Path.{refl, sym, ◌∙◌}
use native.Mathlib.Omega.{arith}
use Rattle.reading.specs.Answer.{no-reading, too_long}
use Rattle.splits.proofs.Values.{reads}
use Rattle.reading.proofs.Tables.{small_of}
use Rattle.reading.proofs.Course.{unrooted, can-begin}
use Rattle.reading.proofs.Underway.{with-small, set_out, place_inside, may-step, falls, go_on, arrive, arrive-long}
use Rattle.reading.proofs.walk.Goals as goal

pub rule_height-requires : goal.rule_height-requires
rule_height-requires c =
    let t = c.requires.tables in
    (reads t.tables, t.code.root-inside, omega arith, omega arith)

pub returns-then-rule_height : goal.returns-then-rule_height
returns-then-rule_height c =
    let small = small_of c.type_inv.notes c.type_inv.main in
    let high = c.rule_height.ensures c.args.code.now in
    let none = c.if-rule_height.true in
    λ t. no-reading (unrooted (with-small t small) (sym high ∙ none))

pub enter-h-requires : goal.enter-h-requires
enter-h-requires c =
    let a = c.args in
    let pre = c.requires in
    let small = small_of c.type_inv.notes c.type_inv.main in
    let high = c.rule_height.ensures a.code.now in
    let some = c.if-rule_height.false in
    can-begin (with-small pre.tables small) a.out.now _ pre.room refl refl refl (λ e. some (high ∙ e))

pub loop-out-init : goal.loop-out-init
loop-out-init c =
    let pre = c.requires in
    let small = small_of c.type_inv.notes c.type_inv.main in
    let high = c.rule_height.ensures c.args.code.now in
    let some = c.if-rule_height.false in
    (refl, refl, λ t. set_out t small (λ e. some (high ∙ e)) pre.room pre.stack c.enter-h.ensures)

pub more-requires : goal.more-requires
more-requires c =
    let t = c.requires.tables in
    λ l. omega (arith, place_inside t (c.loop-out.invariant.2 t) l, t.tables.shape.room)

pub step-h-requires : goal.step-h-requires
step-h-requires c =
    let t = c.requires.tables in
    let m = c.more.ensures.0 c.loop-out-test.true in
    may-step t (c.loop-out.invariant.2 t) m.0 m.1

pub loop-out-smaller : goal.loop-out-smaller
loop-out-smaller c =
    let t = c.requires.tables in
    let m = c.more.ensures.0 c.loop-out-test.true in
    falls t (c.loop-out.invariant.2 t) m.0 m.1 c.step-h.ensures

pub loop-out-preserved : goal.loop-out-preserved
loop-out-preserved c =
    let m = c.more.ensures.0 c.loop-out-test.true in
    (omega (arith, c.loop-out.invariant.0), omega (arith, c.loop-out.invariant.1), λ t. go_on t (c.loop-out.invariant.2 t) m.0 m.1 c.step-h.ensures)

pub shape_of-out-then-h-gt-READING_NUMBERS : goal.shape_of-out-then-h-gt-READING_NUMBERS
shape_of-out-then-h-gt-READING_NUMBERS c =
    omega (arith, c.loop-out.invariant.0)

pub shape_of-stack-then-h-gt-READING_NUMBERS : goal.shape_of-stack-then-h-gt-READING_NUMBERS
shape_of-stack-then-h-gt-READING_NUMBERS c =
    omega (arith, c.loop-out.invariant.1)

pub returns-then-h-gt-READING_NUMBERS : goal.returns-then-h-gt-READING_NUMBERS
returns-then-h-gt-READING_NUMBERS c =
    let long = c.if-h-gt-READING_NUMBERS.true in
    λ t. too_long (arrive-long t (c.loop-out.invariant.2 t) long)

pub shape_of-out : goal.shape_of-out
shape_of-out c =
    omega (arith, c.loop-out.invariant.0)

pub shape_of-stack : goal.shape_of-stack
shape_of-stack c =
    omega (arith, c.loop-out.invariant.1)

pub returns : goal.returns
returns c =
    let over = c.more.ensures.1 c.loop-out-test.false in
    let short = c.if-h-gt-READING_NUMBERS.false in
    λ t. arrive t (c.loop-out.invariant.2 t) over short
